-- Laws for a protocol that is given as a table: it is well formed, and its layers are an ordered partition, where tests of it
-- compute to true.
use Rattle.std.specs.Prelude.{◌≡◌, Bool, true, not, ◌&&◌, ℕ, ◌≤◌, ◌<◌, leb, ltb, eqb}
use Rattle.std.proofs.Common.{arith, ltb-true, leb-true, eqb-true, eq-eqb}
use Rattle.std.proofs.lemmas.Bool.{not-true}
use Rattle.theory.proofs.Bool.Laws.{not_both, and_intro, and_elim}
use Rattle.theory.specs.Below.{all_below, any_below}
use Rattle.theory.proofs.Below.Laws.{all_elim, any_elim}
use Rattle.theory.specs.Protocol.{Protocol, WellFormed}
use Rattle.theory.specs.Ladder.{Layers, OrderedPartition}

module _ (P : Protocol) where
  -- The pair is in order, and of the protocol's states.
  abbrev pair_formed : ℕ → ℕ → Bool
  pair_formed a b = leb a b && ltb b P.states

  -- The pairs of rule r are formed, and differ.
  abbrev rule_formed : ℕ → Bool
  rule_formed r =
      (pair_formed (P.p r) (P.q r) && pair_formed (P.p' r) (P.q' r)) && not (eqb (P.p r) (P.p' r) && eqb (P.q r) (P.q' r))

  pair_formed_lem : (a b : ℕ) → pair_formed a b ≡ true → (a ≤ b) × (b < P.states)
  pair_formed_lem a b e = let t = and_elim (leb a b) (ltb b P.states) e in (leb-true _ _ t.0, ltb-true _ _ t.1)

  pub formed : all_below P.rules rule_formed ≡ true → any_below P.states P.input ≡ true → WellFormed P
  formed rules inputs = record {
    p_lt = λ r l. let t = before r l in omega arith;
    q_lt = λ r l. (before r l).1;
    p'_lt = λ r l. let t = after r l in omega arith;
    q'_lt = λ r l. (after r l).1;
    pre_ordered = λ r l. (before r l).0;
    post_ordered = λ r l. (after r l).0;
    pairs_differ = λ r l e f. not_both (and_intro _ _ (eq-eqb _ _ e) (eq-eqb _ _ f)) (not-true _ (parts r l).1);
    some_input = any_elim _ _ inputs;
  }
    where
      parts : (r : ℕ) → r < P.rules → (pair_formed (P.p r) (P.q r) && pair_formed (P.p' r) (P.q' r) ≡ true)
          × (not (eqb (P.p r) (P.p' r) && eqb (P.q r) (P.q' r)) ≡ true)
      parts r l = and_elim (pair_formed (P.p r) (P.q r) && pair_formed (P.p' r) (P.q' r)) _ (all_elim _ _ rules r l)

      before : (r : ℕ) → r < P.rules → (P.p r ≤ P.q r) × (P.q r < P.states)
      before r l = pair_formed_lem _ _ (and_elim (pair_formed (P.p r) (P.q r)) _ (parts r l).0).0

      after : (r : ℕ) → r < P.rules → (P.p' r ≤ P.q' r) × (P.q' r < P.states)
      after r l = pair_formed_lem _ _ (and_elim (pair_formed (P.p r) (P.q r)) _ (parts r l).0).1

  pub partitioned : (L : Layers) → all_below P.rules (λ r. ltb (L.of r) L.count) ≡ true
      → all_below L.count (λ k. any_below P.rules (λ r. eqb (L.of r) k)) ≡ true → OrderedPartition P L
  partitioned L rules layers = record {
    covers = λ r l. ltb-true _ _ (all_elim _ _ rules r l);
    non_empty = λ k l. let f = any_elim _ _ (all_elim _ _ layers k l) in (f.0, f.1, eqb-true _ _ f.2);
  }
