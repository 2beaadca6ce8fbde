-- The claims about claim sheets are proved. Assumes nothing.
use Rattle.std.specs.Prelude.{Result}
use Rattle.checker.specs.declared.Summary.{Summary}
use Rattle.refusals.specs.declared.Refusal.{Refusal}
use Rattle.refusals.specs.Refusal.{refusal}
use Rattle.std.specs.Prelude.{◌≡◌, Bool, true, false, List, [], ◌↔◌, ◌⊎◌, ℕ, ◌+◌, ◌≤◌, ◌<◌, ℤ, ◌≤ℤ◌, ◌<ℤ◌, Ok, Err}
use Rattle.std.proofs.Math.Path.{refl, ap}
use Rattle.std.proofs.Common.{sym, ◌∙◌, subst, inl, inr, arith}
use Rattle.std.proofs.Math.Bool.{true≢false}
use Rattle.std.proofs.Math.Logic.{⊎_elim, by_cases}
use Rattle.std.proofs.Math.Decide.{dec_lt}
use Rattle.theory.proofs.Bool.Laws.{by_test, is_true, is_false}
use Rattle.theory.specs.Protocol.{terminal, Shows, Start}
use Rattle.theory.proofs.Leaf.Signed.{plus, minus, le_biased, lt_biased}
use Rattle.theory.specs.Tree.{Walked, next, refused}
use Rattle.theory.proofs.Tree.Laws.{by_answer}
use Rattle.theory.specs.Subtree.{TreeStands, TreeFails}
use Rattle.theory.proofs.Subtree.Laws.{number_12_13, place-within}
use Rattle.theory.specs.Machine.{Call}
use Rattle.theory.specs.Sheet.{counterexample, sheet_answer}
use Rattle.theory.specs.Sheet.Claimed.{claimed}
use Rattle.theory.proofs.Sheet.Laws.{answer_next}
use Rattle.theory.specs.Claims.Theorems.{SheetAccepted}
use Rattle.theory.proofs.Claims.Proved.{theorems}
use Rattle.format.specs.Format.{header_of, sections_of, layers_in}
use Rattle.shape.specs.Sound.{SoundShape}
use Rattle.checker.specs.Check.{check_of}
use Rattle.checker.specs.Check.Laws.{accepted_shape}
use Rattle.sheetshape.specs.SheetShape.{sheet_fault}
use Rattle.sheet.specs.Sheet.{walked_sheet, sheet_check, check_sheet_of}
use Rattle.checker.specs.Check.{on_accepted}
use Rattle.theory.proofs.Judge.Laws.{only_hit, only_pass, judge_done}
use Rattle.codes.specs.Codes.{code, check_code}
use Rattle.claims.specs.OfDocket.{IsAccepted, last_on}
use Rattle.claims.proofs.OfDocket.Says.{demand_1}
use Rattle.claims.proofs.OfDocket.Numbers.{is_one_of, check_numbers, check_number, check-number}
use Rattle.claims.proofs.OfDocket.Codes.{codes_tell}
use Rattle.claims.proofs.OfDocket.Lists.{same_last, still-admitted}
use Rattle.claims.specs.OfSheet.{P, K, Z, SheetSound, IsSheetAccepted, assumed₁, assumed₂, SheetRules, LeafRules, Decided, Decides, SheetRefusals, SheetCodes, OfSheet}
use Rattle.claims.proofs.OfSheet.Shape.{fault_none, reads}

-- ---- Answers told apart

refused_not : {r : Refusal} → ◌≡◌ {A = Result (Unit {0}) Refusal} (Err r) (Ok tt) → ⊥
refused_not {r} e = let z : ◌≡◌ {A = ℕ} 0 1 = cc in omega arith

abbrev refusal_in : Result (Unit {0}) Refusal → Refusal
refusal_in (Ok t) = refusal 0 0
refusal_in (Err r) = r

by_checked : {X : Type 0} (a : Result Summary Refusal) → ((f : _) → a ≡ Ok f → X) → ((r : Refusal) → a ≡ Err r → X) → X
by_checked (Ok f) g h = g f refl
by_checked (Err r) g h = h r refl

-- ---- Signed numbers in order

module _ (x y : ℤ) where
  less : (x <ℤ y) ↔ (plus x + minus y < plus y + minus x)
  less = lt_biased x y (minus x) (minus y) (plus x) (plus y) (omega arith) (omega arith)

  most : (y ≤ℤ x) ↔ (plus y + minus x ≤ plus x + minus y)
  most = le_biased y x (minus y) (minus x) (plus y) (plus x) (omega arith) (omega arith)

  not_both_ways : y ≤ℤ x → x <ℤ y → ⊥
  not_both_ways a b = omega (arith, most.0 a, less.0 b)

  one_way : (y ≤ℤ x → ⊥) → x <ℤ y
  one_way n = less.1 (by_cases (dec_lt (plus x + minus y) (plus y + minus x)) (λ l. l) (λ g. absurd (n (most.1 (omega arith)))))

module _ (b y : List ℕ) where
  abbrev fault : Bool
  fault = sheet_fault (header_of b).sizes (sections_of b (header_of b)).states y (K b y)

  abbrev own : Result (Unit {0}) Refusal
  own = sheet_check (header_of b).sizes (sections_of b (header_of b)) y

  abbrev answer : Walked
  answer = sheet_answer (P b y) (Z b y)

  -- ---- The answer, by what the check says, by test 15 and by the two trees

  passed_back : (r : Refusal) → check_of b ≡ Err r → check_sheet_of b y ≡ Err r
  unfolding check_sheet_of
  passed_back r e = ap (on_accepted Err own) e

  on_accepted_lem : IsAccepted b → check_sheet_of b y ≡ own
  unfolding check_sheet_of
  on_accepted_lem a = ap (on_accepted Err own) a.1

  on_fault : IsAccepted b → fault ≡ true → check_sheet_of b y ≡ Err (refusal 15 0)
  unfolding sheet_check
  on_fault a t = on_accepted_lem a ∙ sym (only_hit (λ n j. Err (refusal n j)) (walked_sheet answer) (Err (refusal 15 0)) 15 fault fault [] refl t refl)

  on_sound : IsAccepted b → fault ≡ false → check_sheet_of b y ≡ walked_sheet answer
  unfolding sheet_check
  on_sound a t =
      let refuse : ℕ → ℕ → Result (Unit {0}) Refusal = λ n j. Err (refusal n j) in
      on_accepted_lem a
      ∙ sym (only_pass refuse (walked_sheet answer) (walked_sheet answer) 15 fault fault [] refl t
      (judge_done refuse (walked_sheet answer) (walked_sheet answer) refl))

  -- An answer is the check's refusal, 15, or what the trees come to.
  by_says : {X : Type 0} → ((r : Refusal) → check_of b ≡ Err r → check_sheet_of b y ≡ Err r → X)
      → (IsAccepted b → fault ≡ true → check_sheet_of b y ≡ Err (refusal 15 0) → X)
      → (IsAccepted b → fault ≡ false → check_sheet_of b y ≡ walked_sheet answer → X) → X
  by_says g h i =
      by_checked (check_of b)
      (λ f e. by_test fault (λ t. h (f, e) t (on_fault (f, e) t)) (λ t. i (f, e) t (on_sound (f, e) t)))
      (λ r e. g r e (passed_back r e))

  -- ---- Acceptance

  sound : IsAccepted b → SoundShape b (header_of b)
  sound a = let s = accepted_shape b a.0 a.1 in subst (SoundShape b) s.1.header s.1

  -- The two trees stand just where the walk of both is accepted.
  trees_stand : SheetAccepted (P b y) (Z b y) ↔ (TreeStands (P b y) (assumed₁ b y) (Z b y).first × TreeStands (P b y) (assumed₂ b y) (Z b y).second)
  trees_stand =
      let T = theorems (P b y) in
      let both = T.sheet_accepted (Z b y) in
      let one = T.tree_stands (assumed₁ b y) (Z b y).first in
      let two = T.tree_stands (assumed₂ b y) (Z b y).second in
      (λ e. let w = both.0 e in (one.0 w.0, two.0 w.1), λ s. both.1 (one.1 s.0, two.1 s.1))

  walk_accepted : walked_sheet answer ≡ Ok tt → SheetAccepted (P b y) (Z b y)
  walk_accepted e =
      by_answer answer
      (λ j q. q ∙ ap next (answer_next (P b y) (Z b y) j q))
      (λ n j q. absurd (refused_not (sym (ap walked_sheet q) ∙ e)))

  accepted_rules : IsSheetAccepted b y → IsAccepted b × SheetRules b y
  accepted_rules e =
      by_says
      (λ r q p. absurd (refused_not (sym p ∙ e)))
      (λ a t p. absurd (refused_not (sym p ∙ e)))
      (λ a t p.
      let s = trees_stand.0 (walk_accepted (sym p ∙ e)) in
      (a, record { sound = (fault_none b y).0 t; first = s.0; second = s.1 }))

  exact : IsSheetAccepted b y ↔ (IsAccepted b × SheetRules b y)
  exact = (
    accepted_rules,
    λ k. on_sound k.0 ((fault_none b y).1 k.1.sound) ∙ ap walked_sheet (trees_stand.1 (k.1.first, k.1.second)),
  )

  leaf_rules : LeafRules b y
  unfolding counterexample
  leaf_rules =
      let is = (theorems (P b y)).sheet_is (Z b y) in
      record {
        first_rule = λ F l. is.first_is F ((Z b y).weights l) ((Z b y).multiplier l);
        second_rule = λ F l. is.second_is (λ s _. omega arith) F ((Z b y).weights l) ((Z b y).multiplier l);
        no_modulus = λ m. (refl, refl);
        one_run = (refl, refl);
      }

  -- ---- The claim

  -- What is claimed for c, in signed numbers.
  decided : (c : List ℕ) → Start (P b y) c → (d : List ℕ) → Shows (P b y) (claimed (Z b y) c) d → Decided b y c d
  decided c start d shows =
      let is = ((theorems (P b y)).sheet_is (Z b y)).claimed_is c start.sized in
      record {
        one = λ h. subst (λ (v : Bool). Shows (P b y) v d) (is.1 h) shows;
        zero = λ h. subst (λ (v : Bool). Shows (P b y) v d) (is_false _ (λ t. not_both_ways _ _ (is.0 t) h)) shows;
      }

  decides : IsSheetAccepted b y → (c : List ℕ) → Start (P b y) c → Decides b y c
  decides e c start =
      let T = theorems (P b y) in
      let k = accepted_rules e in
      let h = header_of b in
      let s = sound k.0 in
      let closed = trees_stand.1 (k.1.first, k.1.second) in
      let every = T.decides s.sections.formed (Z b y) closed in
      let is = (T.sheet_is (Z b y)).claimed_is c start.sized in
      let by_calls : (xs : List Call) → terminal (P b y) (last_on b c xs) ≡ true → Decided b y c (last_on b c xs) =
      λ xs t.
      let q = same_last b h s c xs in
      decided c start (last_on b c xs)
      (subst (Shows (P b y) (claimed (Z b y) c)) (sym q)
      (T.decides_calls (Z b y) every (layers_in b h) c start xs (sym (ap (terminal (P b y)) q) ∙ t))) in
      record {
        lists = λ rs t. decided c start _ (T.decides_lists (Z b y) every c start rs t);
        calls = by_calls;
        verdict_1 = λ on l xs t.
            (((demand_1 b (last_on b c xs)).verdict.own h s (still-admitted b h s c xs on)).0 true).1 ((by_calls xs t).one l);
        verdict_0 = λ on l xs t.
            (((demand_1 b (last_on b c xs)).verdict.own h s (still-admitted b h s c xs on)).0 false).1 ((by_calls xs t).zero l);
        potentially = λ d r t. decided c start d (T.decides_potentially s.sections.formed (Z b y) closed c d start r t);
        one_or_zero =
            by_test (claimed (Z b y) c)
            (λ t. inl (is.0 t))
            (λ t. inr (one_way _ _ (λ l. true≢false (sym (is.1 l) ∙ t))));
      }

  -- ---- Refusals

  same_refusal : (r q : Refusal) → ◌≡◌ {A = Result (Unit {0}) Refusal} (Err r) (Err q) → r ≡ q
  same_refusal r q e = ap refusal_in e

  -- The trees' refusal.
  walk_refused : (n k : ℕ) → (walked_sheet answer ≡ Err (refusal n k)) ↔ (answer ≡ refused n k)
  walk_refused n k = (
    λ e.
        by_answer answer
        (λ j q. absurd (refused_not (sym e ∙ ap walked_sheet q)))
        (λ m j q.
        let s = same_refusal (refusal m j) (refusal n k) (sym (ap walked_sheet q) ∙ e) in
        q ∙ ap (λ (i : ℕ). refused i j) (ap (λ (r : Refusal). r.number) s) ∙ ap (refused n) (ap (λ (r : Refusal). r.place) s)),
    λ q. ap walked_sheet q,
  )

  abbrev Fails : ℕ → ℕ → Type 0
  Fails n k =
      TreeFails (P b y) (assumed₁ b y) (Z b y).first n k
      ⊎ (TreeStands (P b y) (assumed₁ b y) (Z b y).first
      × ((j : ℕ) × TreeFails (P b y) (assumed₂ b y) (Z b y).second n j × (k ≡ (K b y).first + j)))

  trees_fail : (n k : ℕ) → (answer ≡ refused n k) ↔ Fails n k
  trees_fail n k =
      let T = theorems (P b y) in
      let is = T.sheet_refused (Z b y) n k in
      let one = T.tree_fails (assumed₁ b y) (Z b y).first in
      let two = T.tree_fails (assumed₂ b y) (Z b y).second in
      let stands = T.tree_stands (assumed₁ b y) (Z b y).first in (
        λ e. ⊎_elim (λ w. inl ((one n k).0 w)) (λ w. inr (stands.0 w.0, (w.1.0, (two n w.1.0).0 w.1.1, w.1.2))) (is.0 e),
        λ f. is.1 (⊎_elim (λ w. inl ((one n k).1 w)) (λ w. inr (stands.1 w.0, (w.1.0, (two n w.1.0).1 w.1.1, w.1.2))) f),
      )

  -- A refusal of the trees has number 12 or 13, and its place is at most the number of all nodes.
  fails_within : (n k : ℕ) → Fails n k → ((n ≡ 12) ⊎ (n ≡ 13)) × (k ≤ (K b y).first + (K b y).second)
  fails_within n k =
      ⊎_elim
      (λ f. (number_12_13 _ _ _ n k f, let l = place-within _ _ _ n k f in omega arith))
      (λ s. let f = s.1.1 in (number_12_13 _ _ _ n s.1.0 f, let l = place-within _ _ _ n s.1.0 f in omega (arith, s.1.2)))

  -- The check's own refusals have other numbers than 15, and none has 0.
  check_not : (r : Refusal) (n : ℕ) → is_one_of n check_numbers ≡ false → check_of b ≡ Err r → r.number ≡ n → ⊥
  check_not r n out e q = true≢false (sym (check-number b) ∙ ap (λ (a : Result Summary Refusal). is_one_of (check_number a) check_numbers) e ∙ ap (λ (m : ℕ). is_one_of m check_numbers) q ∙ out)

  abbrev Refusals : Refusal → Type 0
  Refusals r =
      (check_of b ≡ Err r)
      ⊎ (r ≡ refusal 15 0)
      ⊎ (IsAccepted b × SheetSound b y × ((r.number ≡ 12) ⊎ (r.number ≡ 13)) × (r.place ≤ (K b y).first + (K b y).second))

  all_refusals : (r : Refusal) → check_sheet_of b y ≡ Err r → Refusals r
  all_refusals r e =
      by_says
      (λ q c p. inl (c ∙ ap Err (same_refusal q r (sym p ∙ e))))
      (λ a t p. inr (inl (same_refusal r (refusal 15 0) (sym e ∙ p))))
      (λ a t p.
      let f = fails_within r.number r.place ((trees_fail r.number r.place).0 ((walk_refused r.number r.place).0 (sym p ∙ e))) in
      inr (inr (a, (fault_none b y).0 t, f.0, f.1)))

  refusal_15 : (check_sheet_of b y ≡ Err (refusal 15 0)) ↔ (IsAccepted b × (SheetSound b y → ⊥))
  unfolding is_one_of
  refusal_15 = (
    λ e.
        by_says
        (λ r c p. absurd (check_not r 15 refl c (ap (λ (x : Refusal). x.number) (same_refusal r (refusal 15 0) (sym p ∙ e)))))
        (λ a t p. (a, λ s. true≢false (sym t ∙ (fault_none b y).1 s)))
        (λ a t p.
        let f = fails_within 15 0 ((trees_fail 15 0).0 ((walk_refused 15 0).0 (sym p ∙ e))) in
        absurd (⊎_elim (λ (q : 15 ≡ 12). omega arith) (λ (q : 15 ≡ 13). omega arith) f.0)),
    λ k. on_fault k.0 (is_true _ (λ t. k.1 ((fault_none b y).0 t))),
  )

  refusals : SheetRefusals b y
  refusals = record {
    passed_back = passed_back;
    refusal_15 = refusal_15;
    refusal_is = λ a s n k.
        let p = on_sound a ((fault_none b y).1 s) in (
          λ e. (trees_fail n k).0 ((walk_refused n k).0 (sym p ∙ e)),
          λ f. p ∙ (walk_refused n k).1 ((trees_fail n k).1 f),
        );
    refusals = all_refusals;
  }

  -- ---- What C sees

  number-some : (r : Refusal) → Refusals r → r.number ≡ 0 → ⊥
  unfolding is_one_of
  number-some r s z =
      ⊎_elim
      (λ c. check_not r 0 refl c z)
      (⊎_elim
      (λ q. let n : r.number ≡ 15 = ap (λ (x : Refusal). x.number) q in omega arith)
      (λ k. ⊎_elim (λ (q : r.number ≡ 12). omega arith) (λ (q : r.number ≡ 13). omega arith) k.2))
      s

  place_small : (r : Refusal) → Refusals r → r.place < 65536
  place_small r =
      ⊎_elim
      (λ c. (codes_tell b []).check_place r.number r.place c)
      (⊎_elim
      (λ q. let k : r.place ≡ 0 = ap (λ (x : Refusal). x.place) q in omega arith)
      (λ k. let s = k.1 in omega (arith, k.3, s.laid.first.1, s.laid.second.1)))

  codes : SheetCodes b y
  codes = record {
    accepted = (λ e. zero_accepted (check_sheet_of b y) refl e, λ a. ap check_code a);
    refused = λ r e. (ap check_code e, place_small r (all_refusals r e));
  }
    where
      zero_accepted : (a : Result (Unit {0}) Refusal) → check_sheet_of b y ≡ a → check_code (check_sheet_of b y) ≡ 0 → check_sheet_of b y ≡ Ok tt
      zero_accepted (Ok t) q e = q
      zero_accepted (Err r) q e =
          let z : code r ≡ 0 = sym (ap check_code q) ∙ e in
          absurd (number-some r (all_refusals r q) (omega arith))

pub of_sheet : OfSheet
of_sheet = record {
  exact = exact;
  leaf_rules = leaf_rules;
  reads = reads;
  decides = decides;
  refusals = refusals;
  codes = codes;
}
