-- Laws of the lexicographic order, and of lists that ascend. Assumes nothing.
use Rattle.std.specs.Prelude.{◌≡◌, refl, Bool, true, ◌&&◌, ◌↔◌, ◌⊎◌, ℕ, zero, suc, ◌≤◌, ◌<◌, length, get_or, ltb, eqb}
use Rattle.std.proofs.Common.{sym, ap, ◌∙◌, subst, inl, inr, ⊎_elim, arith, lt-ltb, le-ltb, ltb-true, eq-eqb, ne_eqb, eqb-true}
use Rattle.std.proofs.Math.Bool.{and-false, or-false, Bool-set}
use Rattle.std.proofs.lemmas.Bool.{false≢true}
use mathlib.Core.List.Lex
use mathlib.Core.List.{List, [], ◌∷◌, Lex, not-Lex-nil, cons-Lex-cons_iff}
use Rattle.std.proofs.Math.Logic.Or
use Rattle.std.proofs.Math.Logic.{⊎_map, by_cases}
use Rattle.std.proofs.Math.Decide.{dec_lt, ℕ_discrete}
use Rattle.theory.proofs.Bool.Laws.{and_intro, and_elim, or_left, or_right, or_elim}
use Rattle.theory.proofs.Below.Laws.{below_suc}
use Rattle.theory.specs.Order.{lex_less, Ascending}

-- ---- Two lists

-- The first number decides, or the rest does where the first is the same.
pub less_first : (x y : ℕ) (xs ys : List ℕ) → x < y → lex_less (x ∷ xs) (y ∷ ys) ≡ true
unfolding lex_less
less_first x y xs ys l = or_left (ltb x y) _ (lt-ltb x y l)

pub less_elim : (x y : ℕ) (xs ys : List ℕ) → lex_less (x ∷ xs) (y ∷ ys) ≡ true → (x < y) ⊎ ((x ≡ y) × (lex_less xs ys ≡ true))
unfolding lex_less
less_elim x y xs ys h =
    ⊎_elim
    (λ e. inl (ltb-true x y e))
    (λ e. let t = and_elim (eqb x y) (lex_less xs ys) e in inr (eqb-true x y t.0, t.1))
    (or_elim (ltb x y) (eqb x y && lex_less xs ys) h)

pub less_rest : (x y : ℕ) (xs ys : List ℕ) → x ≡ y → lex_less xs ys ≡ true → lex_less (x ∷ xs) (y ∷ ys) ≡ true
unfolding lex_less
less_rest x y xs ys e h = or_right (ltb x y) _ (and_intro _ _ (eq-eqb x y e) h)

-- The order by comparisons, number by number: the first two that differ decide, and behind the last both lists end.
pub less_differ : (x y : ℕ) (xs ys : List ℕ) → (x ≡ y → ⊥) → ltb x y ≡ lex_less (x ∷ xs) (y ∷ ys)
unfolding lex_less
less_differ x y xs ys n = sym (rw (ne_eqb x y n) (or-false (ltb x y)))

pub less_same : (x y : ℕ) (xs ys : List ℕ) (t : Bool) → x ≡ y → t ≡ lex_less xs ys → t ≡ lex_less (x ∷ xs) (y ∷ ys)
unfolding lex_less
less_same x y xs ys t e h = rw (le-ltb x y (omega arith), eq-eqb x y e) h

pub less_last : (x y : ℕ) → ltb x y ≡ lex_less (x ∷ []) (y ∷ [])
unfolding lex_less
less_last x y = rw (and-false (eqb x y)) (sym (or-false (ltb x y)))

pub ruleset less_by = (less_differ, less_same, less_last)

-- It is the library's.
pub less_is : (xs ys : List ℕ) → (lex_less xs ys ≡ true) ↔ Lex ◌<◌ xs ys
unfolding lex_less
less_is [] [] = (λ h. absurd (false≢true h), λ d. absurd (not-Lex-nil d))
less_is [] (y ∷ ys) = (λ h. Lex.nil, λ d. refl)
less_is (x ∷ xs) [] = (λ h. absurd (false≢true h), λ d. absurd (not-Lex-nil d))
less_is (x ∷ xs) (y ∷ ys) = (
  λ h. cons-Lex-cons_iff.1 (⊎_elim Or.inl (λ e. Or.inr (e.0, (less_is xs ys).0 e.1)) (less_elim x y xs ys h)),
  λ d.
      Or.elim (Bool-set _ true) (cons-Lex-cons_iff.0 d)
      (less_first x y xs ys)
      (λ e. less_rest x y xs ys e.0 ((less_is xs ys).1 e.1)),
)

-- The first place where two lists of one length differ decides.
pub record LessAt (xs ys : List ℕ) (k : ℕ) : Type 0 where
  pub inside : k < length xs
  pub same : (i : ℕ) → i < k → get_or xs i 0 ≡ get_or ys i 0
  pub less : get_or xs k 0 < get_or ys k 0

pub less_place : (xs ys : List ℕ) → length xs ≡ length ys → lex_less xs ys ≡ true → (k : ℕ) × LessAt xs ys k
unfolding lex_less
less_place [] [] e h = absurd (false≢true h)
less_place [] (y ∷ ys) e h = absurd (omega arith)
less_place (x ∷ xs) [] e h = absurd (omega arith)
less_place (x ∷ xs) (y ∷ ys) e h =
    ⊎_elim
    (λ (l : x < y). (0, record { inside = omega arith; same = λ i m. absurd (omega arith); less = l }))
    (λ d.
    let t = less_place xs ys (omega arith) d.1 in
    (suc t.0, record { inside = omega (arith, t.1.inside); same = behind d.0 t.0 t.1.same; less = t.1.less }))
    (less_elim x y xs ys h)
  where
    behind : x ≡ y → (k : ℕ) → ((i : ℕ) → i < k → get_or xs i 0 ≡ get_or ys i 0)
        → (i : ℕ) → i < suc k → get_or (x ∷ xs) i 0 ≡ get_or (y ∷ ys) i 0
    behind d k same zero m = d
    behind d k same (suc i) m = same i (omega arith)

pub place_less : (xs ys : List ℕ) (k : ℕ) → length xs ≡ length ys → LessAt xs ys k → lex_less xs ys ≡ true
place_less [] ys k e p = absurd (omega (arith, p.inside))
place_less (x ∷ xs) [] k e p = absurd (omega arith)
place_less (x ∷ xs) (y ∷ ys) zero e p = less_first x y xs ys p.less
place_less (x ∷ xs) (y ∷ ys) (suc k) e p =
    less_rest x y xs ys (p.same 0 (omega arith))
    (place_less xs ys k (omega arith)
    (record { inside = omega (arith, p.inside); same = λ i l. p.same (suc i) (omega arith); less = p.less }))

pub less_irreflexive : (xs : List ℕ) → lex_less xs xs ≡ true → ⊥
unfolding lex_less
less_irreflexive [] h = false≢true h
less_irreflexive (x ∷ xs) h = ⊎_elim (λ (l : x < x). omega arith) (λ e. less_irreflexive xs e.1) (less_elim x x xs xs h)

pub less_transitive : (xs ys zs : List ℕ) → lex_less xs ys ≡ true → lex_less ys zs ≡ true → lex_less xs zs ≡ true
unfolding lex_less
less_transitive [] [] zs h g = g
less_transitive [] (y ∷ ys) [] h g = g
less_transitive [] (y ∷ ys) (z ∷ zs) h g = h
less_transitive (x ∷ xs) [] zs h g = absurd (false≢true h)
less_transitive (x ∷ xs) (y ∷ ys) [] h g = g
less_transitive (x ∷ xs) (y ∷ ys) (z ∷ zs) h g =
    ⊎_elim
    (λ (l : x < y).
    ⊎_elim
    (λ (m : y < z). less_first x z xs zs (omega arith))
    (λ e. let d : y ≡ z = e.0 in less_first x z xs zs (omega arith))
    (less_elim y z ys zs g))
    (λ e.
    let d : x ≡ y = e.0 in
    ⊎_elim
    (λ (m : y < z). less_first x z xs zs (omega arith))
    (λ k. less_rest x z xs zs (d ∙ k.0) (less_transitive xs ys zs e.1 k.1))
    (less_elim y z ys zs g))
    (less_elim x y xs ys h)

pub less_trichotomous : (xs ys : List ℕ) → (xs ≡ ys) ⊎ (lex_less xs ys ≡ true) ⊎ (lex_less ys xs ≡ true)
unfolding lex_less
less_trichotomous [] [] = inl refl
less_trichotomous [] (y ∷ ys) = inr (inl refl)
less_trichotomous (x ∷ xs) [] = inr (inr refl)
less_trichotomous (x ∷ xs) (y ∷ ys) =
    by_cases (ℕ_discrete x y)
    (λ e.
    ⊎_map (λ s. ap (λ k. k ∷ xs) e ∙ ap (λ l. y ∷ l) s) (⊎_map (less_rest x y xs ys e) (less_rest y x ys xs (sym e)))
    (less_trichotomous xs ys))
    (λ e. inr (by_cases (dec_lt x y) (λ l. inl (less_first x y xs ys l)) (λ g. inr (less_first y x ys xs (omega arith)))))

-- ---- Lists that ascend

module _ (f : ℕ → List ℕ) (n : ℕ) (up : Ascending f n) where
  pub ascends : (i j : ℕ) → i < j → j < n → lex_less (f i) (f j) ≡ true
  ascends i zero l m = absurd (omega arith)
  ascends i (suc j) l m =
      by_cases (dec_lt i j)
      (λ k. less_transitive (f i) (f j) (f (suc j)) (ascends i j k (omega arith)) (up j m))
      (λ g. let e : i ≡ j = omega arith in ap (λ k. lex_less (f k) (f (suc j))) e ∙ up j m)

-- Each list of g is one of f.
abbrev pub Among : (ℕ → List ℕ) → ℕ → (ℕ → List ℕ) → ℕ → Type 0
Among g m f n = (u : ℕ) → u < m → (i : ℕ) × (i < n) × (g u ≡ f i)

module _ (f g : ℕ → List ℕ) (n m : ℕ) (up : Ascending f n) (up' : Ascending g m) (in_f : Among g m f n) where
  -- Where the two agree below i, g i is not among the lists below i,
  not_below : (i : ℕ) (l : i < m) → ((k : ℕ) → k < i → f k ≡ g k) → (in_f i l).0 < i → ⊥
  not_below i l same b =
      let t = in_f i l in
      less_irreflexive (g i) (subst (λ x. lex_less x (g i) ≡ true) (sym (same t.0 b) ∙ sym t.2) (ascends g m up' t.0 i b l))

  -- and not before f i.
  not_before : (i : ℕ) → i < n → i < m → ((k : ℕ) → k < i → f k ≡ g k) → lex_less (g i) (f i) ≡ true → ⊥
  not_before i k l same h =
      let t = in_f i l in
      let less = subst (λ x. lex_less x (f i) ≡ true) t.2 h in
      by_cases (dec_lt t.0 i) (not_below i l same)
      (λ g.
      by_cases (ℕ_discrete t.0 i)
      (λ e. less_irreflexive (f i) (subst (λ x. lex_less (f x) (f i) ≡ true) e less))
      (λ e. less_irreflexive (f i) (less_transitive (f i) (f t.0) (f i) (ascends f n up i t.0 (omega arith) t.1) less)))

-- Two that ascend and have the same members are the same.
module _ (f g : ℕ → List ℕ) (n m : ℕ) (up : Ascending f n) (up' : Ascending g m) (in_g : Among f n g m) (in_f : Among g m f n) where
  same_below : (i : ℕ) → i ≤ n → i ≤ m → (k : ℕ) → k < i → f k ≡ g k
  same_below zero h l = λ k j. absurd (omega arith)
  same_below (suc i) h l =
      let same = same_below i (omega arith) (omega arith) in
      below_suc (λ k. f k ≡ g k) i
      (⊎_elim (λ e. e)
      (⊎_elim
      (λ d. absurd (not_before g f m n up' up in_g i (omega arith) (omega arith) (λ k b. sym (same k b)) d))
      (λ d. absurd (not_before f g n m up up' in_f i (omega arith) (omega arith) same d)))
      (less_trichotomous (f i) (g i)))
      same

  pub same_length : n ≡ m
  same_length =
      by_cases (dec_lt n m)
      (λ l. absurd (not_below f g n m up up' in_f n l (same_below n (omega arith) (omega arith)) (in_f n l).1))
      (λ h.
      by_cases (dec_lt m n)
      (λ l. absurd (not_below g f m n up' up in_g m l (λ k b. sym (same_below m (omega arith) (omega arith) k b)) (in_g m l).1))
      (λ k. omega arith))

  pub same_members : (i : ℕ) → i < n → f i ≡ g i
  same_members i l = same_below n (omega arith) (omega (arith, same_length)) i l
