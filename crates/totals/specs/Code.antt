-- What the functions of the totals answer, beside the definitions of Totals.
use Rattle.std.specs.Prelude.{◌≡◌, Bool, true, false, not, cond, ◌||◌, List, ℕ, ◌+◌, ◌≤◌, ◌<◌, max, ltb, eqb, length, Option, Some, None, Result, Ok, Err}
use Rattle.std.specs.Bool.{beq}
use Rattle.theory.specs.Bool.{bit}
use Rattle.theory.specs.Below.{greatest, first_greatest}
use Rattle.theory.specs.Protocol.{Protocol, size, terminal}
use Rattle.theory.specs.Ladder.{Layers, Laddered}
use Rattle.theory.specs.Starts.{starts, start_at}
use Rattle.theory.specs.Machine.{Reply, stepped, ran, refused, admitted}
use Rattle.theory.proofs.Machine.Rest.{RunsTo}
use Rattle.format.specs.Format.{protocol_in, layers_in, weight_in}
use Rattle.format.specs.declared.Header.{Header}
use Rattle.shape.specs.Sound.{SoundShape}
use Rattle.refusals.specs.declared.Refusal.{Refusal}
use Rattle.totals.specs.Totals.{steps_to_rest, rests_on, resting_on, steps_at}
use Rattle.totals.specs.declared.Totals.{Totals}

-- What an accepted docket gives: tests 1 to 8 pass, and its ladder does.
pub record Runs (b : List ℕ) (h : Header) : Type 0 where
  pub sound : SoundShape b h
  pub ladder : Laddered (protocol_in b h) (layers_in b h) (weight_in b h)

-- Counts of 2 to 64,012 agents, which are twelve and a thousand for each of 64 states.
pub record Group (P : Protocol) (c : List ℕ) : Type 0 where
  pub sized : length c ≡ P.states
  pub enough : 2 ≤ size c
  pub small : size c ≤ 64012

-- Whether a run that says this is to be followed by another.
abbrev pub goes_on : Reply → Bool
goes_on stepped = false
goes_on (ran n rests) = not rests
goes_on (refused n place) = false

-- Runs of a docket with header h from the counts c have made k steps and stand at d; where they go on no more, d is terminal.
pub record Turning (b : List ℕ) (h : Header) (c : List ℕ) (k : ℕ) (going : Bool) (d : List ℕ) : Type 0 where
  pub made : RunsTo (protocol_in b h) (layers_in b h) c k d
  pub passes : admitted (protocol_in b h) d ≡ true
  pub rests : going ≡ false → terminal (protocol_in b h) d ≡ true

-- Whether the verdict is v.
abbrev pub agrees_on : Bool → Result (Option Bool) Refusal → Bool
agrees_on v (Ok (Some u)) = beq u v
agrees_on v (Ok None) = false
agrees_on v (Err r) = false

-- The totals are small enough for one start more.
pub record Room (t : Totals) : Type 0 where
  pub starts : t.starts < 50388
  pub zeros : t.zeros ≤ t.starts
  pub ones : t.ones ≤ t.starts

-- The totals t and one start more, which takes so many steps; whether it rests on 0, and whether on 1.
unfoldable pub added : Totals → ℕ → Bool → Bool → Totals
added t steps zero one =
    record {
      states = t.states;
      starts = t.starts + 1;
      zeros = t.zeros + bit zero;
      ones = t.ones + bit one;
      most = max t.most steps;
    }

-- The same, where it rests on this verdict.
abbrev pub with_start : Totals → ℕ → Result (Option Bool) Refusal → Totals
with_start t steps v = added t steps (agrees_on false v) (agrees_on true v)

-- Whether a start that takes so many steps, after the totals t, takes more than every start before it, or is the first start.
unfoldable pub needs_most : Totals → ℕ → Bool
needs_most t steps = eqb t.starts 0 || ltb t.most steps

module _ (P : Protocol) (L : Layers) (w : ℕ → ℕ → ℕ) where
  -- The totals t and start c more.
  abbrev pub counted : Totals → List ℕ → Totals
  counted t c = added t (steps_to_rest P L w c) (rests_on P L w false c) (rests_on P L w true c)

  -- What holds after the first t .starts starts: the totals t are theirs, and `first` is the first of them that needs the greatest step
  -- total. Where `going`, the counts are the next start; else there is none.
  pub record Tallying (n : ℕ) (t : Totals) (first : List ℕ) (going : Bool) (counts : List ℕ) : Type 0 where
    pub states : t.states ≡ P.states
    pub zeros : t.zeros ≡ resting_on P L w n false t.starts
    pub ones : t.ones ≡ resting_on P L w n true t.starts
    pub most : t.most ≡ cond (eqb t.starts 0) 0 (greatest t.starts (steps_at P L w n))
    pub first_is : 0 < t.starts → first ≡ start_at P n (first_greatest t.starts (steps_at P L w n))
    pub next : going ≡ true → (t.starts < length (starts P n)) × (counts ≡ start_at P n t.starts)
    pub done : going ≡ false → t.starts ≡ length (starts P n)
