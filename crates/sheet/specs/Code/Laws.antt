-- The code's returns follow the definition of the sheet's check. Assumes nothing.
use Rattle.std.specs.Prelude.{◌≡◌, refl, Bool, true, false, cond, ℕ, ◌+◌, ◌≤◌, ◌<◌, eqb, Result, Ok, Err}
use Rattle.std.proofs.Math.Path.{sym, ap, fun_ext}
use Rattle.std.proofs.Common.{◌∙◌, arith}
use mathlib.Core.List.{List, []}
use Rattle.theory.proofs.Judge.Laws.{only_refuses, only_passes, judge_done}
use Rattle.theory.specs.Protocol.{Protocol}
use Rattle.theory.specs.Tree.{Walked, next, refused, tree_answer}
use Rattle.theory.proofs.Subtree.Laws.{tree_fails, place-within}
use Rattle.theory.proofs.Sheet.Laws.{first_refused, then_next, then_refused}
use Rattle.theory.specs.Sheet.{Sheet, at_least, at_most, counterexample, first_walk, second_walk, sheet_answer}
use Rattle.format.specs.Format.{header_of, sections_of, protocol_of, tree_of}
use Rattle.format.specs.declared.Header.{Header}
use Rattle.format.specs.declared.Sizes.{Sizes}
use Rattle.refusals.specs.declared.Refusal.{Refusal}
use Rattle.refusals.specs.Refusal.{refusal}
use Rattle.refusals.specs.Code.{refused_if}
use Rattle.shape.specs.Shape.{shape_of}
use Rattle.shape.specs.Code.{SoundRules, header_in}
use Rattle.shape.specs.declared.sound.Docket.{Docket}
use Rattle.shape.proofs.SoundLaws.{docket_sound}
use Rattle.threshold.specs.Numbers.{sheet_limit}
use Rattle.threshold.specs.Code.{closes_for, moduli_for, closes_modulo_for}
use Rattle.threshold.specs.declared.Leaves.TheVariants.{OfSheet}
use Rattle.threshold.specs.declared.Threshold.{Threshold}
use Rattle.node.specs.Code.{assumption_of}
use Rattle.node.specs.declared.Aim.{Aim}
use Rattle.tree.specs.Code.{walked_of, AimsAt}
use Rattle.checker.specs.Check.{check_of, on_accepted, sections_check}
use Rattle.checker.specs.Check.Laws.{certified_check, refused_check}
use Rattle.checker.specs.declared.Summary.{Summary}
use Rattle.sheetshape.specs.SheetShape.{sheet_header, numbers_in, first_nodes, second_nodes, leaves_in, sheet_fault}
use Rattle.sheetshape.specs.declared.SheetHeader.{SheetHeader}
use Rattle.sheet.specs.Sheet.{tree_sizes, sheet_in, walked_sheet, sheet_check, check_sheet_of}
use Rattle.sheet.specs.Code.{threshold_for, walk_for}

-- ---- One tree

pub second_threshold : (second : Bool) (limit : ℕ) → second ≡ true → record { negated = true; plus = 2147483649; minus = limit } ≡ threshold_for second limit
second_threshold second limit e = rw e

pub first_threshold : (second : Bool) (limit : ℕ) → second ≡ false → record { negated = false; plus = limit; minus = 2147483648 } ≡ threshold_for second limit
first_threshold second limit e = rw e

pub ruleset thresholds = (second_threshold, first_threshold)

either : (b v : Bool) → cond b v v ≡ v
either true v = refl
either false v = refl

-- What the aim a assumes: one run that ends with a state of output v; there is no kind 7.
one_run : (P : Protocol) (z : Sizes) (states numbers leaves : List ℕ) (v : Bool) (t : Threshold) (a : Aim) → AimsAt z states 1 v v (OfSheet t) a
    → assumption_of P z numbers leaves a
    ≡ record {
      runs = 1;
      assumed = λ _. v;
      closes = closes_for P z numbers leaves (OfSheet t);
      moduli = λ _. false;
      closes_modulo = λ _ _ _. false;
    }
unfolding moduli_for closes_modulo_for
one_run P z states numbers leaves v t a h =
    rw (h.runs, h.first, h.second, h.leaves)
    (ap (λ (f : ℕ → Bool). record {
      runs = 1;
      assumed = f;
      closes = closes_for P z numbers leaves (OfSheet t);
      moduli = λ _. false;
      closes_modulo = λ _ _ _. false;
    }) (fun_ext (λ k. either (eqb k 2) v)))

-- The walk with the aim a is that of the first tree, or of the second.
pub walk_is : (P : Protocol) (z : Sizes) (states nodes numbers leaves : List ℕ) (second : Bool) (limit : ℕ) (t : Threshold) (a : Aim) (x : Walked)
    → limit ≡ sheet_limit z.states numbers → t ≡ threshold_for second limit → AimsAt z states 1 second second (OfSheet t) a
    → x ≡ tree_answer P (assumption_of P z numbers leaves a) (tree_of z nodes) → x ≡ walk_for P z nodes numbers leaves second
unfolding walk_for counterexample at_least at_most closes_for
walk_is P z states nodes numbers leaves true limit t a x el et h e = e ∙ rw (one_run P z states numbers leaves true t a h, et, el)
walk_is P z states nodes numbers leaves false limit t a x el et h e = e ∙ rw (one_run P z states numbers leaves false t a h, et, el)

-- The sizes of a tree of the sheet are as sound as the docket's.
pub tree_sound : (z zt : Sizes) (rules : List ℕ) (n l : ℕ) → zt ≡ tree_sizes z n l → SoundRules z rules → SoundRules zt rules
tree_sound z zt rules n l e h =
    rw e
    (record {
      states_most = h.states_most;
      rules_most = h.rules_most;
      whole = h.whole;
      p_lt = h.p_lt;
      q_lt = h.q_lt;
      p'_lt = h.p'_lt;
      q'_lt = h.q'_lt;
    })

module _ (z zt : Sizes) (states rules y nodes numbers leaves : List ℕ) (k : SheetHeader) (x : Walked) (em : numbers ≡ numbers_in y k)
    (el : leaves ≡ leaves_in y k) where
  pub first_is : zt ≡ tree_sizes z k.first k.leaves → nodes ≡ first_nodes y k
      → x ≡ walk_for (protocol_of zt states rules) zt nodes numbers leaves false → x ≡ first_walk (protocol_of z states rules) (sheet_in z y k)
  unfolding walk_for counterexample at_least
  first_is ez en e = e ∙ rw (ez, en, em, el)

  pub second_is : zt ≡ tree_sizes z k.second k.leaves → nodes ≡ second_nodes y k
      → x ≡ walk_for (protocol_of zt states rules) zt nodes numbers leaves true → x ≡ second_walk (protocol_of z states rules) (sheet_in z y k)
  unfolding walk_for counterexample at_most
  second_is ez en e = e ∙ rw (ez, en, em, el)

-- ---- Both trees

module _ (P : Protocol) (Z : Sheet) (a : Result ℕ Refusal) (ea : walked_of a ≡ first_walk P Z) where
  pub stopped_first : (r : Refusal) (c : Result (Unit {0}) Refusal) → a ≡ Err r → c ≡ Err r → c ≡ walked_sheet (sheet_answer P Z)
  stopped_first r c u g = g ∙ ap walked_sheet (sym (first_refused P Z r.number r.place (sym ea ∙ ap walked_of u)))

  module _ (i : ℕ) (ua : a ≡ Ok i) (b : Result ℕ Refusal) (eb : walked_of b ≡ second_walk P Z) where
    first_next : first_walk P Z ≡ next i
    first_next = sym ea ∙ ap walked_of ua

    pub second-place : (r : Refusal) → b ≡ Err r → Z.second.nodes < 65536 → r.place < 65536
    second-place r u l =
        let e : second_walk P Z ≡ refused r.number r.place = sym eb ∙ ap walked_of u in
        let w = place-within P _ Z.second r.number r.place ((tree_fails P _ Z.second r.number r.place).0 e) in
        omega arith

    pub stopped_second : (r x : Refusal) (n : ℕ) (c : Result (Unit {0}) Refusal) → b ≡ Err r → x ≡ refusal r.number (n + r.place)
        → n ≡ Z.first.nodes → c ≡ Err x → c ≡ walked_sheet (sheet_answer P Z)
    stopped_second r x n c u h en g =
        let on : x ≡ refusal r.number (Z.first.nodes + r.place) = rw (← en) h in
        g ∙ ap Err on ∙ ap walked_sheet (sym (then_refused P Z i r.number r.place first_next (sym eb ∙ ap walked_of u)))

    pub both_stand : (j : ℕ) (c : Result (Unit {0}) Refusal) → b ≡ Ok j → c ≡ Ok tt → c ≡ walked_sheet (sheet_answer P Z)
    both_stand j c u g = g ∙ ap walked_sheet (sym (then_next P Z i j first_next (sym eb ∙ ap walked_of u)))

pub ruleset walking = (stopped_first, stopped_second, both_stand)

-- ---- The check

module _ (d : Docket) (states rules y : List ℕ) (k : SheetHeader) (t : Bool) (c x : Result (Unit {0}) Refusal) (es : states ≡ (sections_of d.bytes.now d.header).states)
    (ek : k ≡ sheet_header y) (et : t ≡ sheet_fault d.header.sizes states y k) (ex : x ≡ refused_if 15 t) where
  same_fault : t ≡ sheet_fault d.header.sizes (sections_of d.bytes.now d.header).states y (sheet_header y)
  same_fault = et ∙ rw (es, ek)

  pub fault_refused : (r : Refusal) → x ≡ Err r → c ≡ Err r → c ≡ sheet_check d.header.sizes (sections_of d.bytes.now d.header) y
  unfolding sheet_check
  fault_refused r u g = only_refuses refusal _ c 15 _ [] x t ex same_fault r u g

  pub trees_checked : x ≡ Ok tt → rules ≡ (sections_of d.bytes.now d.header).rules
      → c ≡ walked_sheet (sheet_answer (protocol_of d.header.sizes states rules) (sheet_in d.header.sizes y k))
      → c ≡ sheet_check d.header.sizes (sections_of d.bytes.now d.header) y
  unfolding sheet_check
  trees_checked u er g =
      only_passes refusal _ c 15 _ [] x t ex same_fault u (judge_done _ _ c (g ∙ rw (es, er, ek)))

pub ruleset checking = (fault_refused, trees_checked)

-- The docket d has the bytes b, and its check says a.
module _ (d : Docket) (b y : List ℕ) (a : Result Summary Refusal) (e : a ≡ sections_check d.header.sizes (sections_of d.bytes.now d.header))
    (q : d.bytes.now ≡ b) (c : Result (Unit {0}) Refusal) where
  pub sheet-follows : (f : Summary) → a ≡ Ok f → c ≡ sheet_check d.header.sizes (sections_of d.bytes.now d.header) y → c ≡ check_sheet_of b y
  unfolding check_sheet_of
  sheet-follows f u g =
      rw (← q)
      (g
      ∙ ap (λ (i : Header). sheet_check i.sizes (sections_of d.bytes.now i) y) (docket_sound d).header
      ∙ sym (ap (on_accepted Err (sheet_check (header_of d.bytes.now).sizes (sections_of d.bytes.now (header_of d.bytes.now)) y))
      (certified_check d d.bytes.now a e refl ∙ u)))

  pub docket_refused : (r : Refusal) → a ≡ Err r → c ≡ Err r → c ≡ check_sheet_of b y
  unfolding check_sheet_of
  docket_refused r u g =
      g
      ∙ sym (ap (on_accepted Err (sheet_check (header_of b).sizes (sections_of b (header_of b)) y)) (certified_check d b a e q ∙ u))

-- Bytes of no docket of sound shape.
pub shape_refused : (b y : List ℕ) (s : Result Docket Refusal) (r : Refusal) (c : Result (Unit {0}) Refusal) → header_in s ≡ shape_of b → s ≡ Err r
    → c ≡ Err r → c ≡ check_sheet_of b y
unfolding check_sheet_of
shape_refused b y s r c e u g =
    g ∙ sym (ap (on_accepted Err (sheet_check (header_of b).sizes (sections_of b (header_of b)) y)) (refused_check b s r e u))

pub ruleset following = (docket_refused, shape_refused)
