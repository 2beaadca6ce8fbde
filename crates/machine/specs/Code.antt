-- What a step and a run of the code say, as replies of theory's machine, and the contracts of both.
use Rattle.std.specs.Prelude.{◌≡◌, List, ℕ, Result, Ok, Err}
use Rattle.theory.specs.Protocol.{Protocol}
use Rattle.theory.specs.Ladder.{Layers}
use Rattle.theory.specs.Machine.{Call, Reply, stepped, ran, refused, reply, counts_after}
use Rattle.machine.specs.Calls.{reply_of, counts_of}
use Rattle.refusals.specs.declared.Refusal.{Refusal}
use Rattle.machine.specs.declared.Ran.{Ran}
pub mod Laws
pub mod Runs

abbrev pub reply_of_step : Result (Unit {0}) Refusal → Reply
reply_of_step (Ok t) = stepped
reply_of_step (Err r) = refused r.number r.place

abbrev pub reply_of_run : Result Ran Refusal → Reply
reply_of_run (Ok x) = ran x.steps x.rests
reply_of_run (Err r) = refused r.number r.place

-- A call x on counts c of a docket of sound shape, with protocol P and layers L, says `said` and leaves the counts d.
pub record Replies (P : Protocol) (L : Layers) (c : List ℕ) (x : Call) (said : Reply) (d : List ℕ) : Type 0 where
  pub says : said ≡ reply P L c x
  pub leaves : d ≡ counts_after P L c x

-- A call x on counts c of the docket with bytes b says `said` and leaves the counts d.
pub record RepliesOn (b c : List ℕ) (x : Call) (said : Reply) (d : List ℕ) : Type 0 where
  pub says : said ≡ reply_of b c x
  pub leaves : d ≡ counts_of b c x
