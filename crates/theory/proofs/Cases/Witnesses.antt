-- Protocols with a certificate, and one with a claim sheet, so that the claims are not empty; and a configuration that is
-- potentially reachable and not reachable.
use Rattle.std.specs.Prelude.{◌≡◌, refl, true, false, List, [], ◌∷◌, ℕ, zero, suc, ◌+◌, ◌*◌, ◌<◌, eqb}
use Rattle.std.proofs.Common.{arith, eqb-true}
use Rattle.theory.proofs.Bool.Laws.{is_false, or_none, or_fails}
use Rattle.theory.specs.Below.{sum_below}
use Rattle.theory.proofs.Below.Laws.{all_elim}
use Rattle.theory.proofs.Weigh.Laws.{set_none}
use Rattle.theory.specs.Protocol.{Protocol, agreed, count, pre, post, terminal, output_of, Start, start_test, after}
use Rattle.theory.proofs.Protocol.Laws.{start_test_lem}
use Rattle.theory.proofs.Cases.Protocol.{column, broadcast, majority, two_outcomes}
use Rattle.theory.proofs.Cases.Ladder.{one_layer, cast_weights, outcome_weights}
use Rattle.theory.proofs.Cases.Tables.{formed, partitioned}
use Rattle.theory.specs.Tree.{takes, puts}
use Rattle.theory.proofs.Tree.Traps.{follows_none}
use Rattle.theory.proofs.Cases.Tree.{tree, no_weights, leaf_weights, answer_with, cast, trees, outcome_tree, one_verdict}
use Rattle.theory.proofs.Cases.Remainder.{parity, parity_layers, parity_weights, parity_tree, odd_ones, parity-tree}
use Rattle.theory.proofs.Cases.Fixed.{seeded, seeded_tree, seed, seeds}
use Rattle.theory.proofs.Cases.Sheet.{majority_sheet, most_accepted}
use Rattle.theory.specs.Potential.{Potential}
use Rattle.theory.specs.Sheet.Claimed.{claimed}
use Rattle.theory.specs.Claims.{Certified}
use Rattle.theory.specs.Claims.Theorems.{SheetAccepted, Decides}
use Rattle.theory.proofs.Claims.Proved.{theorems}
use Rattle.theory.proofs.Unfold.{meeting, laddering, walking, claiming}

-- ---- Certificates

-- The broadcast protocol has a certificate.
pub P1 : Certified broadcast
unfolding answer_with laddering
P1 = record {
  layers = one_layer;
  weight = cast_weights;
  ladder = record {
    formed = formed broadcast refl refl;
    partition = partitioned broadcast one_layer refl refl;
    lowering_passes = refl;
    handover_passes = refl;
  };
  tree = tree 5 0 (cast 2);
  leaf_weight = leaf_weights no_weights;
  closed = trees.0;
}

-- So has one in which a pair has two outcomes.
pub outcomes_certified : Certified two_outcomes
unfolding answer_with laddering
outcomes_certified = record {
  layers = one_layer;
  weight = outcome_weights;
  ladder = record {
    formed = formed two_outcomes refl refl;
    partition = partitioned two_outcomes one_layer refl refl;
    lowering_passes = refl;
    handover_passes = refl;
  };
  tree = outcome_tree;
  leaf_weight = leaf_weights no_weights;
  closed = one_verdict;
}

-- And parity, by a tree with a node of kind 7.
pub parity_certified : Certified parity
unfolding answer_with laddering
parity_certified = record {
  layers = parity_layers;
  weight = parity_weights;
  ladder = record {
    formed = formed parity refl refl;
    partition = partitioned parity parity_layers refl refl;
    lowering_passes = refl;
    handover_passes = refl;
  };
  tree = parity_tree 0 2;
  leaf_weight = leaf_weights odd_ones;
  closed = parity-tree.0;
}

-- And parity with three agents fixed in O, of which there is a start.
pub seeded_certified : Certified (seeded 3) × Start (seeded 3) (3 ∷ 2 ∷ 0 ∷ 0 ∷ [])
unfolding answer_with laddering
seeded_certified = (
  record {
    layers = parity_layers;
    weight = parity_weights;
    ladder = record {
      formed = formed (seeded 3) refl refl;
      partition = partitioned (seeded 3) parity_layers refl refl;
      lowering_passes = refl;
      handover_passes = refl;
    };
    tree = seeded_tree;
    leaf_weight = leaf_weights seed;
    closed = seeds.0;
  },
  (start_test_lem (seeded 3) (3 ∷ 2 ∷ 0 ∷ 0 ∷ []) refl (omega arith)).0 refl,
)

-- ---- Claim sheets

-- The sheet of majority is accepted, so every vote that rests shows 1 if at least as many agents start in B as in A, else 0.
pub decides_majority : SheetAccepted majority majority_sheet × Decides majority majority_sheet
unfolding meeting
decides_majority = (most_accepted, (theorems majority).decides (formed majority refl refl) majority_sheet most_accepted)

-- Starts for which it claims 0 and 1, and lists of rule numbers that end terminal from them.
pub decided : (start_test majority (2 ∷ 1 ∷ 0 ∷ 0 ∷ []) ≡ 4)
    × (claimed majority_sheet (2 ∷ 1 ∷ 0 ∷ 0 ∷ []) ≡ false)
    × (terminal majority (after majority (2 ∷ 1 ∷ 0 ∷ 0 ∷ []) (0 ∷ 1 ∷ [])) ≡ true)
    × (output_of majority (after majority (2 ∷ 1 ∷ 0 ∷ 0 ∷ []) (0 ∷ 1 ∷ [])) ≡ agreed false)
    × (start_test majority (1 ∷ 1 ∷ 0 ∷ 0 ∷ []) ≡ 4)
    × (claimed majority_sheet (1 ∷ 1 ∷ 0 ∷ 0 ∷ []) ≡ true)
    × (terminal majority (after majority (1 ∷ 1 ∷ 0 ∷ 0 ∷ []) (0 ∷ 3 ∷ [])) ≡ true)
    × (output_of majority (after majority (1 ∷ 1 ∷ 0 ∷ 0 ∷ []) (0 ∷ 3 ∷ [])) ≡ agreed true)
unfolding meeting claiming
decided = (refl, refl, refl, refl, refl, refl, refl, refl)

-- ---- Potential reachability

-- Rules aa to bb and bc to ad.
abbrev borrowed : Protocol
borrowed = record {
  states = 4;
  rules = 2;
  p = column (0 ∷ 1 ∷ []);
  q = column (0 ∷ 2 ∷ []);
  p' = column (1 ∷ 0 ∷ []);
  q' = column (1 ∷ 3 ∷ []);
  output = λ _. false;
  input = λ _. true;
  fixed = λ _. 0;
}

-- Potentially a c becomes b d by each rule once, but a c is terminal: Strong Consensus speaks of more than Consensus.
pub beyond : Potential borrowed (λ _. 1) (1 ∷ 0 ∷ 1 ∷ 0 ∷ []) (0 ∷ 1 ∷ 0 ∷ 1 ∷ []) × (terminal borrowed (1 ∷ 0 ∷ 1 ∷ 0 ∷ []) ≡ true)
unfolding walking meeting
beyond = (
  record {
    sized = refl;
    flow =
        λ s l. eqb-true _ _ (all_elim 4
        (λ s. eqb (count d s + sum_below 2 (λ r. 1 * pre borrowed r s)) (count c s + sum_below 2 (λ r. 1 * post borrowed r s))) refl s l);
    traps = λ A t e r l u.
        let out : (s : ℕ) → 0 < count d s → A s ≡ false = λ s o. is_false _ (λ (y : A s ≡ true). omega (arith, set_none A d e s y)) in
        let b = or_none (A 1) (A 1) (out 1 (omega arith)) (out 1 (omega arith)) in
        let a = (or_fails (A 0) (A 0) (follows_none borrowed (λ _. false) (takes borrowed A) (puts borrowed A) t 0 (omega arith) refl b)).0 in
        by_rule (λ r. puts borrowed A r ≡ false) b (or_none _ _ a (out 3 (omega arith))) r l;
    siphons = λ A t e r l u.
        let out : (s : ℕ) → 0 < count c s → A s ≡ false = λ s o. is_false _ (λ (y : A s ≡ true). omega (arith, set_none A c e s y)) in
        let a = or_none (A 0) (A 0) (out 0 (omega arith)) (out 0 (omega arith)) in
        let b = (or_fails (A 1) (A 1) (follows_none borrowed (λ _. false) (puts borrowed A) (takes borrowed A) t 0 (omega arith) refl a)).0 in
        by_rule (λ r. takes borrowed A r ≡ false) a (or_none _ _ b (out 2 (omega arith))) r l;
  },
  refl,
)
  where
    c : List ℕ
    c = 1 ∷ 0 ∷ 1 ∷ 0 ∷ []

    d : List ℕ
    d = 0 ∷ 1 ∷ 0 ∷ 1 ∷ []

    by_rule : (Q : ℕ → Type 0) → Q 0 → Q 1 → (r : ℕ) → r < 2 → Q r
    by_rule Q x y zero l = x
    by_rule Q x y (suc zero) l = y
    by_rule Q x y (suc (suc r)) l = absurd (omega arith)
