-- Where a run stands after so many steps. Assumes nothing.
use Rattle.std.specs.Prelude.{◌≡◌, Bool, true, List, [], ◌∷◌, leb, Option, Some, None}
use Rattle.std.specs.Option.{is_none}
use Rattle.counts.specs.Code.{chosen_of}
use Rattle.counts.specs.Code.Laws.{chosen-tells}
use Rattle.std.proofs.Math.Path.{sym, ap}
use Rattle.std.proofs.Common.{◌∙◌, subst}
use Rattle.std.proofs.Math.Bool.{false}
use Prim.Native.Nat.{ℕ, suc, ◌+◌, ◌-◌, ◌≤◌, ◌<◌}
use native.Mathlib.Omega.{arith}
use borrow.Author.Tests.{leb-true}
use Rattle.std.proofs.Math.ListN.{length}
use Rattle.theory.proofs.Bool.Laws.{and_elim}
use Rattle.theory.specs.Protocol.{Protocol, WellFormed, size, fire, terminal, after}
use Rattle.theory.proofs.Protocol.Laws.{Firing, length-fire, size-fire}
use Rattle.theory.proofs.Protocol.Lists.{tried-fires, rule_fires}
use Rattle.theory.specs.Ladder.{Layers, OrderedPartition}
use Rattle.theory.specs.Machine.{ran, run, is_sized, is_within, admitted, chosen, run_numbers, run_reply, counts_after}
use Rattle.theory.proofs.Machine.Laws.{adds_on, admitted_sized, reply_run}
use Rattle.theory.proofs.Machine.Rest.{at_rest, not_at_rest}
use Rattle.machine.specs.Code.{Replies}
use Rattle.machine.specs.Code.Laws.{chosen-enabled, terminal-none}

-- A run from c with this limit stands at d after k steps: what is still to run from d completes it.
pub record Running (P : Protocol) (L : Layers) (limit : ℕ) (c : List ℕ) (k : ℕ) (d : List ℕ) : Type 0 where
  pub within : k ≤ limit
  pub counts : after P c (run_numbers P L limit c) ≡ after P d (run_numbers P L (limit - k) d)
  pub total : length (run_numbers P L limit c) ≡ k + length (run_numbers P L (limit - k) d)
  pub sized : length d ≡ P.states
  pub small : size d ≤ 1000000

-- At the start of a run, after a turn, and at its end: at the limit, or at rest.
module _ (P : Protocol) (L : Layers) (limit : ℕ) (c : List ℕ) where
  pub running_none : admitted P c ≡ true → Running P L limit c 0 c
  unfolding admitted is_within
  running_none on =
      let all : limit ≡ limit - 0 = omega arith in
      record {
        within = omega arith;
        counts = ap (λ n. after P c (run_numbers P L n c)) all;
        total = omega (arith, ap (λ n. length (run_numbers P L n c)) all);
        sized = admitted_sized P c on;
        small = leb-true _ _ (and_elim (leb 2 (size c)) _ (and_elim (is_sized P c) _ on).1).1;
      }

  pub running_length : (k : ℕ) (d : List ℕ) → admitted P c ≡ true → Running P L limit c k d → length d ≡ length c
  running_length k d on g = g.sized ∙ sym (admitted_sized P c on)

  module _ (part : OrderedPartition P L) (k : ℕ) (d : List ℕ) (g : Running P L limit c k d) (o : Option ℕ) (e : o ≡ chosen_of P L d) where
    pub running_more : WellFormed P → k < limit → (r : ℕ) → o ≡ Some r → (d' : List ℕ) → d' ≡ fire P d r → Running P L limit c (k + 1) d'
    unfolding after
    running_more good l r u d' f =
        let t : terminal P d ≡ false = terminal-none P part d o e ∙ ap is_none u in
        let s = chosen-enabled P part d t in
        let next : d' ≡ fire P d (chosen P L d) = f ∙ ap (fire P d) (rw u at (chosen-tells P L d o e)).1 in
        let left : limit - k ≡ suc (limit - (k + 1)) = omega arith in
        let numbers : run_numbers P L (limit - k) d ≡ chosen P L d ∷ run_numbers P L (limit - (k + 1)) d' =
        ap (λ n. run_numbers P L n d) left ∙ not_at_rest P L (limit - (k + 1)) d t ∙ ap (λ x. chosen P L d ∷ run_numbers P L (limit - (k + 1)) x) (sym next) in
        let firing : Firing P d (chosen P L d) = record { sized = g.sized; rule = s.0; on = s.1 } in
        record {
          within = omega arith;
          counts =
              g.counts ∙ ap (after P d) numbers
              ∙ ap (λ x. after P x (run_numbers P L (limit - (k + 1)) d'))
              (tried-fires P d (chosen P L d) (rule_fires P d (chosen P L d) s.0 s.1) ∙ sym next);
          total = omega (arith, g.total, ap length numbers);
          sized = ap length next ∙ length-fire P d (chosen P L d) ∙ g.sized;
          small = omega (arith, ap size next, size-fire P good d (chosen P L d) firing, g.small);
        }

    done : admitted P c ≡ true → run_numbers P L (limit - k) d ≡ [] → (t : Bool) → t ≡ terminal P d → Replies P L c (run limit) (ran k t) d
    unfolding counts_after run_reply after
    done on over t is =
        let end : after P c (run_numbers P L limit c) ≡ d = g.counts ∙ ap (after P d) over in
        let steps : k ≡ length (run_numbers P L limit c) = omega (arith, g.total, ap length over) in
        let rest : t ≡ terminal P (after P c (run_numbers P L limit c)) = is ∙ sym (ap (terminal P) end) in
        record {
          says = ap (λ n. ran n t) steps ∙ ap (ran (length (run_numbers P L limit c))) rest ∙ sym (reply_run P L c limit on);
          leaves = sym (ap (after P c) (adds_on P L c (run limit) on) ∙ end);
        }

    pub running_limit : admitted P c ≡ true → limit ≤ k → (t : Bool) → t ≡ is_none o → Replies P L c (run limit) (ran limit t) d
    unfolding run_numbers
    running_limit on l t u =
        let all : k ≡ limit = omega (arith, g.within) in
        subst (λ n. Replies P L c (run limit) (ran n t) d) all
        (done on (ap (λ n. run_numbers P L n d) (let z : limit - k ≡ 0 = omega arith in z)) t (u ∙ sym (terminal-none P part d o e)))

    pub running_rest : admitted P c ≡ true → o ≡ None → Replies P L c (run limit) (ran k true) d
    running_rest on u =
        let t : terminal P d ≡ true = terminal-none P part d o e ∙ ap is_none u in
        done on (at_rest P L (limit - k) d t) true (sym t)

pub ruleset running = (running_none, running_length, running_more, running_limit, running_rest)
