-- Whole records, the length of the docket, room for it, and bytes. Assumes nothing.
use Rattle.std.specs.Prelude.{◌≡◌, true, false, not, List, [], ◌∷◌, ◌++◌, ℕ, zero, suc, ◌+◌, ◌*◌, ◌/◌, ◌%◌, ◌≤◌, ◌<◌, ltb, eqb, length, get_or}
use Rattle.std.proofs.Common.{◌∙◌, mul-le-mul, mul-le-mul_right, arith, ltb-true, eqb-true, ne_eqb, length-append}
use Rattle.std.proofs.Math.Logic.{by_cases}
use Rattle.std.proofs.Math.Nat.{div-add-mod}
use Rattle.std.proofs.Math.Decide.{dec_lt}
use Rattle.std.proofs.lemmas.Bool.{eqb-false, not-true, not-false}
use Rattle.std.proofs.Math.ListN.{get_or-eq_default}
use Rattle.theory.proofs.Bool.Laws.{is_false, and_elim}
use Rattle.theory.specs.Below.{Clear, all_below}
use Rattle.theory.proofs.Below.Laws.{all_elim}
use Rattle.theory.specs.Judge.{Passes}
use Rattle.theory.proofs.Judge.Laws.{passes_back}
use Rattle.format.specs.Code.Laws.{width_some}
use Rattle.format.specs.Format.{state_width, states_length, Sections}
use Rattle.format.specs.declared.Sizes.{Sizes}
use Rattle.shape.specs.Shape.{nth}
use Rattle.shape.specs.Sound.{Limits}
use Rattle.writer.specs.Write.{lengths_of, not_whole, records, states_for, length_faults, sizes_in, WholeRecords, AreBytes}
use Rattle.writer.specs.Write.{offsets_for, header_for, header_bytes, docket_of}
use Rattle.writer.specs.Write.{record_tests, room_test, part_tests}

-- ---- Whole records

-- A section of whole records has their length, and no other has.
whole_length : (w n : ℕ) → 0 < w → not_whole w n ≡ false → n ≡ w * records w n
whole_length w n h e =
    let wide : eqb w 0 ≡ false = ne_eqb w 0 (λ z. omega arith) in
    let rest : not (eqb (n % w) 0) ≡ false = rw (wide) at e in
    let none : n % w ≡ 0 = eqb-true _ _ (not-false _ rest) in
    rw (wide) (omega (arith, div-add-mod n w))

length_whole : (w n : ℕ) → (0 < w → n ≡ w * records w n) → not_whole w n ≡ false
length_whole w n h =
    is_false _ (λ e.
    let t = and_elim (not (eqb w 0)) (not (eqb (n % w) 0)) e in
    let wide : eqb w 0 ≡ false = not-true _ t.0 in
    let some : w ≡ 0 → ⊥ = eqb-false _ _ wide in
    let rest : n % w ≡ 0 → ⊥ = eqb-false _ _ (not-true _ t.1) in
    let whole : n ≡ w * (n / w) = rw (wide) at (h (by_cases (dec_lt 0 w) (λ l. l) (λ g. absurd (some (omega arith))))) in
    rest (omega (arith, div-add-mod n w)))

pub whole_records : (v : ℕ) (x : Sections) → Clear (nth (length_faults v (lengths_of x))) 5 → WholeRecords v x
whole_records v x clear =
    let s = states_for v (lengths_of x) in
    record {
      states = whole_length (state_width v) _ (width_some v).0 (clear 0 (omega arith));
      rules = whole_length 5 _ (omega arith) (clear 1 (omega arith));
      layers = λ h. whole_length (4 * s) _ (omega arith) (clear 2 (omega arith)) ∙ omega arith;
      nodes = whole_length 12 _ (omega arith) (clear 3 (omega arith));
      leaves = λ h. whole_length (4 * s) _ (omega arith) (clear 4 (omega arith)) ∙ omega arith;
    }

pub whole_clear : (v : ℕ) (x : Sections) → WholeRecords v x → Clear (nth (length_faults v (lengths_of x))) 5
whole_clear v x w zero l = length_whole (state_width v) _ (λ _. w.states)
whole_clear v x w (suc zero) l = length_whole 5 _ (λ _. w.rules)
whole_clear v x w (suc (suc zero)) l = length_whole (4 * states_for v (lengths_of x)) _ (λ h. omega (arith, w.layers (omega arith)))
whole_clear v x w (suc (suc (suc zero))) l = length_whole 12 _ (λ _. w.nodes)
whole_clear v x w (suc (suc (suc (suc zero)))) l = length_whole (4 * states_for v (lengths_of x)) _ (λ h. omega (arith, w.leaves (omega arith)))
whole_clear v x w (suc (suc (suc (suc (suc k))))) l = absurd (omega arith)

lengths_add : (a b c d e f : List ℕ) → length (a ++ (b ++ (c ++ (d ++ (e ++ f))))) ≡ length a + (length b + (length c + (length d + (length e + length f))))
lengths_add a b c d e f = simp (length-append)

pub docket_length : (v : ℕ) (x : Sections) → length (docket_of v x)
    ≡ 24 + length x.states + length x.rules + length x.layers + length x.nodes + length x.leaves
unfolding docket_of header_bytes
docket_length v x =
    let sum = lengths_add (header_bytes (header_for (sizes_in v x))) x.states x.rules x.layers x.nodes x.leaves in
    omega (arith, sum)

pub total-length : (v : ℕ) (x : Sections) → WholeRecords v x → 0 < (sizes_in v x).states → (offsets_for (sizes_in v x)).total ≡ length (docket_of v x)
total-length v x w h = omega (arith, docket_length v x, w.states, w.rules, w.layers h, w.nodes, w.leaves h)

-- The total of sizes within their limits, and the three products in it.
module _ (z : Sizes) (L : Limits z) where
  pub states_most : states_length z ≤ 192
  states_most = mul-le-mul (width_some z.version).1 L.states_most

  pub layers_most : z.layers * z.states ≤ 1024
  layers_most = mul-le-mul L.layers_most L.states_most

  pub leaves_most : z.leaves * z.states ≤ 8192
  leaves_most = mul-le-mul L.leaves_most L.states_most

  pub total_by_width : (offsets_for z).total ≤ 62744 + 64 * state_width z.version
  total_by_width =
      let s : z.states * state_width z.version ≤ 64 * state_width z.version = mul-le-mul_right (state_width z.version) L.states_most in
      omega (arith, layers_most, leaves_most, L.rules_most, L.nodes_most)

  pub total_most : (offsets_for z).total ≤ 62936
  total_most = omega (arith, total_by_width, width_some z.version)

-- ---- The tests

pub room_passes : (v : ℕ) (x : Sections) (room : ℕ) → Passes (part_tests v x room) → ltb room (length (docket_of v x)) ≡ false
room_passes v x room p = (passes_back (record_tests (sizes_in v x) x) (room_test v x room ∷ []) p.1.1).0 0 (omega arith)

-- Bytes by a test that computes.
pub bytes_are : (b : List ℕ) → all_below (length b) (λ k. ltb (get_or b k 0) 256) ≡ true → AreBytes b
bytes_are b all k =
    by_cases (dec_lt k (length b))
    (λ l. ltb-true (get_or b k 0) 256 (all_elim (length b) (λ j. ltb (get_or b j 0) 256) all k l))
    (λ g. let past : length b ≤ k = omega arith in omega (arith, get_or-eq_default b 0 past))
