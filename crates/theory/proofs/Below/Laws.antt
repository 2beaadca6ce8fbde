-- Laws of tests, sums, extremes and tables below a bound. Assumes nothing.
use Rattle.std.specs.Prelude.{◌≡◌, refl, Bool, true, false, ◌||◌, List, ◌↔◌, length, get_or, set}
use Rattle.std.proofs.Common.{sym, ap, ap₂, ◌∙◌, subst, true≢false, ⊎_elim, add-suc, add-zero, ext_get_or, get_or-set_same, get_or-set_other}
use Rattle.std.proofs.lemmas.Bool.{false≢true}
use Rattle.std.proofs.Math.Logic.{by_cases}
use Prim.Native.Nat.{ℕ, zero, suc, ◌+◌, ◌-◌, ◌*◌, ◌≤◌, ◌<◌, min, max}
use native.Mathlib.Omega.{arith}
use Rattle.std.proofs.Math.Decide.{dec_lt, ℕ_discrete}
use Rattle.std.proofs.Math.Dec.{eqb}
use borrow.Author.Tests.{eq-eqb, ne_eqb, eqb-true}
use Rattle.theory.specs.Bool.{bit}
use Rattle.theory.proofs.Bool.Laws.{by_test, not_both, is_false, and_intro, and_elim, or_left, or_right, or_elim, or_resolve}
use Rattle.theory.specs.Below.Ends.{first_from, end_below, table}
use Rattle.theory.specs.Below.{all_below, any_below, first_below, sum_below, least, greatest, first_greatest}

pub below_suc : (P : ℕ → Type 0) (n : ℕ) → P n → ((k : ℕ) → k < n → P k) → (k : ℕ) → k < suc n → P k
below_suc P n here below k h = by_cases (dec_lt k n) (below k) (λ g. subst P (omega arith) here)

-- ---- Every number, some number

pub all_elim : (n : ℕ) (f : ℕ → Bool) → all_below n f ≡ true → (k : ℕ) → k < n → f k ≡ true
unfolding all_below
all_elim zero f h k l = absurd (omega arith)
all_elim (suc n) f h k l = let s = and_elim _ _ h in below_suc (λ j. f j ≡ true) n s.0 (all_elim _ _ s.1) k l

pub all_intro : (n : ℕ) (f : ℕ → Bool) → ((k : ℕ) → k < n → f k ≡ true) → all_below n f ≡ true
unfolding all_below
all_intro zero f h = refl
all_intro (suc n) f h = and_intro _ _ (h n (omega arith)) (all_intro n f (λ k l. h k (omega arith)))

-- Every number below n that does not pass u passes f.
pub all_unless : (n : ℕ) (u f : ℕ → Bool) → (all_below n (λ k. u k || f k) ≡ true) ↔ ((k : ℕ) → k < n → u k ≡ false → f k ≡ true)
all_unless n u f = (
  λ h k l e. or_resolve _ _ e (all_elim _ _ h k l),
  λ h. all_intro _ _ (λ k l. by_test (u k) (or_left _ _) (λ e. or_right (u k) (f k) (h k l e))),
)

-- Where not every number passes, there is one that fails.
pub all_fails : (n : ℕ) (f : ℕ → Bool) → all_below n f ≡ false → (k : ℕ) × (k < n) × (f k ≡ false)
unfolding all_below
all_fails zero f h = absurd (true≢false h)
all_fails (suc n) f h =
    by_test (f n)
    (λ e. let s = all_fails n f (is_false _ (λ d. not_both (and_intro _ _ e d) h)) in (s.0, omega (arith, s.1), s.2))
    (λ e. (n, omega arith, e))

pub any_elim : (n : ℕ) (f : ℕ → Bool) → any_below n f ≡ true → (k : ℕ) × (k < n) × (f k ≡ true)
unfolding any_below
any_elim zero f h = absurd (false≢true h)
any_elim (suc n) f h =
    ⊎_elim
    (λ (e : f n ≡ true). (n, omega arith, e))
    (λ (e : any_below n f ≡ true). let s = any_elim n f e in (s.0, omega (arith, s.1), s.2))
    (or_elim _ _ h)

pub any_intro : (n : ℕ) (f : ℕ → Bool) (k : ℕ) → k < n → f k ≡ true → any_below n f ≡ true
unfolding any_below
any_intro zero f k l e = absurd (omega arith)
any_intro (suc n) f k l e =
    below_suc (λ j. f j ≡ true → f n || any_below n f ≡ true) n (or_left _ _) (λ j m d. or_right (f n) (any_below n f) (any_intro _ _ j m d)) k l e

pub any_fails : (n : ℕ) (f : ℕ → Bool) → any_below n f ≡ false → (k : ℕ) → k < n → f k ≡ false
any_fails n f h k l = is_false _ (λ e. not_both (any_intro _ _ k l e) h)

-- Tests that agree below n agree on whether all numbers below n pass.
pub any_same : (n : ℕ) (f g : ℕ → Bool) → ((k : ℕ) → k < n → f k ≡ g k) → any_below n f ≡ any_below n g
unfolding any_below
any_same zero f g e = refl
any_same (suc n) f g e = ap₂ (λ a b. a || b) (e n (omega arith)) (any_same n f g (λ k l. e k (omega arith)))

pub all_same : (n : ℕ) (f g : ℕ → Bool) → ((k : ℕ) → k < n → f k ≡ g k) → all_below n f ≡ all_below n g
all_same n f g e =
    by_test (all_below n g)
    (λ t. all_intro n f (λ k l. e k l ∙ all_elim n g t k l) ∙ sym t)
    (λ t. is_false _ (λ u. not_both (all_intro n g (λ k l. sym (e k l) ∙ all_elim n f u k l)) t) ∙ sym t)

-- ---- The lowest number

pub first_le : (n : ℕ) (f : ℕ → Bool) → first_below n f ≤ n
unfolding first_below
first_le zero f = omega arith
first_le (suc n) f = by_test (f zero) (λ e. rw (e, first_below) (omega arith)) (λ e. rw (e, first_below) (omega (arith, first_le n (λ k. f (suc k)))))

-- The lowest number that passes does pass.
pub first_passes : (n : ℕ) (f : ℕ → Bool) → first_below n f < n → f (first_below n f) ≡ true
unfolding first_below
first_passes zero f h = absurd (omega arith)
first_passes (suc n) f h =
    by_test (f zero)
    (λ e. rw (e, first_below) e)
    (λ e. let l = rw (e, first_below) at h in rw (e, first_below) (first_passes n (λ k. f (suc k)) (omega arith)))

-- All numbers below the lowest that passes fail.
pub first-lowest : (n : ℕ) (f : ℕ → Bool) (k : ℕ) → k < first_below n f → f k ≡ false
unfolding first_below
first-lowest zero f k h = absurd (omega arith)
first-lowest (suc n) f zero h = is_false _ (λ e. let l = rw (e, first_below) at h in omega arith)
first-lowest (suc n) f (suc k) h =
    by_test (f zero)
    (λ e. absurd (let l = rw (e, first_below) at h in omega arith))
    (λ e. let l = rw (e, first_below) at h in first-lowest n (λ j. f (suc j)) k (omega arith))

-- A number that passes is not below the lowest.
pub first_min : (n : ℕ) (f : ℕ → Bool) (k : ℕ) → f k ≡ true → first_below n f ≤ k
first_min n f k e = by_cases (dec_lt k (first_below n f)) (λ l. absurd (not_both e (first-lowest _ _ k l))) (λ g. omega arith)

-- What makes a number the lowest that passes: for a search that stops at i.
pub first_is : (n : ℕ) (f : ℕ → Bool) (i : ℕ) → i ≤ n → ((k : ℕ) → k < i → f k ≡ false) → (i < n → f i ≡ true) → first_below n f ≡ i
first_is n f i h none here =
    by_cases (dec_lt (first_below n f) i)
    (λ l. absurd (not_both (first_passes n f (omega arith)) (none (first_below n f) l)))
    (λ g. by_cases (dec_lt i n) (λ l. omega (arith, first_min n f i (here l))) (λ k. omega (arith, first_le n f)))

-- ---- The lowest number from m on

pub from_ge : (m n : ℕ) (f : ℕ → Bool) → m ≤ first_from m n f
unfolding first_from
from_ge m n f = omega arith

pub from_passes : (m n : ℕ) (f : ℕ → Bool) → first_from m n f < n → f (first_from m n f) ≡ true
unfolding first_from
from_passes m n f h = first_passes (n - m) (λ k. f (m + k)) (omega arith)

pub from_min : (m n : ℕ) (f : ℕ → Bool) (k : ℕ) → m ≤ k → f k ≡ true → first_from m n f ≤ k
unfolding first_from
from_min m n f k h e =
    let d : m + (k - m) ≡ k = omega arith in
    omega (arith, first_min (n - m) (λ j. f (m + j)) (k - m) (ap f d ∙ e))

-- ---- The greatest number

pub end_le : (n : ℕ) (f : ℕ → Bool) → end_below n f ≤ n
unfolding end_below
end_le zero f = omega arith
end_le (suc n) f = by_test (f n) (λ e. rw (e, end_below) (omega arith)) (λ e. rw (e, end_below) (omega (arith, end_le n f)))

-- The greatest number that passes does pass.
pub end-passes : (n : ℕ) (f : ℕ → Bool) (k : ℕ) → end_below n f ≡ suc k → f k ≡ true
unfolding end_below
end-passes zero f k h = absurd (omega arith)
end-passes (suc n) f k h =
    by_test (f n)
    (λ e. let d : suc n ≡ suc k = rw (e, end_below) at h in subst (λ j. f j ≡ true) (omega arith) e)
    (λ e. end-passes n f k (rw (e, end_below) at h))

-- All numbers above it fail.
pub end_clear : (n : ℕ) (f : ℕ → Bool) (k : ℕ) → end_below n f ≤ k → k < n → f k ≡ false
unfolding end_below
end_clear zero f k h l = absurd (omega arith)
end_clear (suc n) f k h l =
    by_test (f n)
    (λ e. let d : suc n ≤ k = rw (e, end_below) at h in absurd (omega arith))
    (λ e.
    let d : end_below n f ≤ k = rw (e, end_below) at h in
    by_cases (dec_lt k n) (end_clear n f k d) (λ g. subst (λ j. f j ≡ false) (omega arith) e))

-- ---- Sums and extremes

pub sum_const : (k n : ℕ) → sum_below n (λ _. k) ≡ n * k
unfolding sum_below
sum_const k zero = omega arith
sum_const k (suc n) = omega (arith, sum_const k n)

pub sum_zero : (n : ℕ) → sum_below n (λ _. 0) ≡ 0
sum_zero n = omega (arith, sum_const 0 n)

pub sum_add : (n : ℕ) (f g : ℕ → ℕ) → sum_below n (λ k. f k + g k) ≡ sum_below n f + sum_below n g
unfolding sum_below
sum_add zero f g = refl
sum_add (suc n) f g = omega (arith, sum_add n f g)

pub sum_mono : (n : ℕ) (f g : ℕ → ℕ) → ((k : ℕ) → k < n → f k ≤ g k) → sum_below n f ≤ sum_below n g
unfolding sum_below
sum_mono zero f g h = omega arith
sum_mono (suc n) f g h = let ih : sum_below n f ≤ sum_below n g = sum_mono n f g (λ k l. h k (omega arith)) in omega (arith, h n (omega arith))

-- One term less, and none more: a lesser sum.
pub sum_less : (n : ℕ) (f g : ℕ → ℕ) → ((k : ℕ) → k < n → f k ≤ g k) → (i : ℕ) → i < n → f i < g i → sum_below n f < sum_below n g
unfolding sum_below
sum_less zero f g h i l d = absurd (omega arith)
sum_less (suc n) f g h i l d =
    let up : (k : ℕ) → k < n → f k ≤ g k = λ k m. h k (omega arith) in
    by_cases (dec_lt i n)
    (λ m. omega (arith, sum_less n f g up i m d, h n (omega arith)))
    (λ m. let e : i ≡ n = omega arith in omega (arith, sum_mono n f g up, ap f e, ap g e))

pub sum_same : (n : ℕ) (f g : ℕ → ℕ) → ((k : ℕ) → k < n → f k ≡ g k) → sum_below n f ≡ sum_below n g
sum_same n f g h = omega (arith, sum_mono n f g (λ k l. omega (arith, h k l)), sum_mono n g f (λ k l. omega (arith, h k l)))

-- The sum of a table, by rows and by columns.
pub sum_swap : (m n : ℕ) (f : ℕ → ℕ → ℕ) → sum_below m (λ i. sum_below n (λ j. f i j)) ≡ sum_below n (λ j. sum_below m (λ i. f i j))
unfolding sum_below
sum_swap zero n f = sym (sum_zero n)
sum_swap (suc m) n f = omega (arith, sum_swap m n f, sum_add n (λ j. sum_below m (λ i. f i j)) (λ j. f m j))

pub sum_split : (m n : ℕ) (f : ℕ → ℕ) → sum_below (m + n) f ≡ sum_below m f + sum_below n (λ k. f (m + k))
unfolding sum_below
sum_split m zero f = rw (add-zero m) (omega arith)
sum_split m (suc n) f = rw (add-suc m n) (omega (arith, sum_split m n f))

pub sum_to : (m n : ℕ) (f : ℕ → ℕ) → m ≤ n → sum_below n f ≡ sum_below m f + sum_below (n - m) (λ k. f (m + k))
sum_to m n f h = subst (λ k. sum_below k f ≡ sum_below m f + sum_below (n - m) (λ k. f (m + k))) (omega arith) (sum_split m (n - m) f)

-- A sum of one term: the others are 0.
pub sum_one : (n : ℕ) (f : ℕ → ℕ) (i : ℕ) → i < n → sum_below n (λ k. bit (eqb i k) * f k) ≡ f i
unfolding sum_below
sum_one zero f i l = absurd (omega arith)
sum_one (suc n) f i l =
    by_cases (dec_lt i n)
    (λ m. omega (arith, sum_one n f i m, ap (λ b. bit b * f n) (ne_eqb i n (λ e. omega arith))))
    (λ g.
    let e : i ≡ n = omega arith in
    let others = sum_mono n (λ k. bit (eqb i k) * f k) (λ _. 0) (λ k m. rw (ne_eqb i k (λ e. omega arith)) (omega arith)) in
    omega (arith, others, sum_zero n, ap (λ b. bit b * f n) (eq-eqb i n e), ap f e))

-- A sum of n + 1 terms: the first, and the others.
pub sum-front : (n : ℕ) (f : ℕ → ℕ) → sum_below (suc n) f ≡ f zero + sum_below n (λ k. f (suc k))
unfolding sum_below
sum-front zero f = omega arith
sum-front (suc n) f = omega (arith, sum-front n f)

pub least_le : (n : ℕ) (f : ℕ → ℕ) (k : ℕ) → k < n → least n f ≤ f k
unfolding least
least_le zero f k h = absurd (omega arith)
least_le (suc n) f k h = below_suc (λ j. min (least n f) (f n) ≤ f j) n (omega arith) (λ j l. omega (arith, least_le n f j l)) k h

pub le_greatest : (n : ℕ) (f : ℕ → ℕ) (k : ℕ) → k < n → f k ≤ greatest n f
unfolding greatest
le_greatest zero f k h = absurd (omega arith)
le_greatest (suc n) f k h = below_suc (λ j. f j ≤ max (greatest n f) (f n)) n (omega arith) (λ j l. omega (arith, le_greatest n f j l)) k h

-- The least and the greatest are attained.
pub least_at : (f : ℕ → ℕ) (n : ℕ) → (s : ℕ) × (s < suc n) × (least (suc n) f ≡ f s)
unfolding least
least_at f zero = (0, omega arith, omega arith)
least_at f (suc n) =
    let ih = least_at f n in
    by_cases (dec_lt (f (suc n)) (least (suc n) f))
    (λ l. (suc n, omega arith, omega arith))
    (λ g. (ih.0, omega (arith, ih.1), omega (arith, ih.2)))

pub greatest_at : (f : ℕ → ℕ) (n : ℕ) → (s : ℕ) × (s < suc n) × (greatest (suc n) f ≡ f s)
unfolding greatest
greatest_at f zero = (0, omega arith, omega arith)
greatest_at f (suc n) =
    let ih = greatest_at f n in
    by_cases (dec_lt (greatest (suc n) f) (f (suc n)))
    (λ l. (suc n, omega arith, omega arith))
    (λ g. (ih.0, omega (arith, ih.1), omega (arith, ih.2)))

-- The first at which f is greatest: it is so there, and less before.
module _ (n : ℕ) (f : ℕ → ℕ) where
  pub place_lt : 0 < n → first_greatest n f < n
  unfolding first_greatest
  place_lt l =
      let to : suc (n - 1) ≡ n = omega arith in
      let a = greatest_at f (n - 1) in
      omega (
        arith,
        a.1,
        first_min n (λ k. eqb (f k) (greatest n f)) a.0 (eq-eqb _ _ (sym (ap (λ m. greatest m f) (sym to) ∙ a.2))),
      )

  pub place-greatest : 0 < n → f (first_greatest n f) ≡ greatest n f
  unfolding first_greatest
  place-greatest l = eqb-true _ _ (first_passes n (λ k. eqb (f k) (greatest n f)) (place_lt l))

  pub place-first : (k : ℕ) → k < first_greatest n f → f k < greatest n f
  unfolding first_greatest
  place-first k l =
      let h = first_le n (λ j. eqb (f j) (greatest n f)) in
      by_cases (ℕ_discrete (f k) (greatest n f))
      (λ e. absurd (not_both (eq-eqb _ _ e) (first-lowest n (λ j. eqb (f j) (greatest n f)) k l)))
      (λ o. omega (arith, le_greatest n f k (omega arith)))

-- One number more: it is the first at which f is greatest, or the one before is so still.
module _ (n : ℕ) (f : ℕ → ℕ) where
  pub place-new : ((k : ℕ) → k < n → f k < f n) → first_greatest (suc n) f ≡ n
  place-new h =
      by_cases (dec_lt (first_greatest (suc n) f) n)
      (λ l.
      absurd (omega (arith, h (first_greatest (suc n) f) l, place-greatest (suc n) f (omega arith), le_greatest (suc n) f n (omega arith))))
      (λ g. omega (arith, place_lt (suc n) f (omega arith)))

  pub place_same : 0 < n → f n ≤ greatest n f → first_greatest (suc n) f ≡ first_greatest n f
  unfolding greatest
  place_same l h =
      let here = place-greatest n f l in
      let there = place-greatest (suc n) f (omega arith) in
      by_cases (dec_lt (first_greatest n f) (first_greatest (suc n) f))
      (λ b. absurd (omega (arith, here, place-first (suc n) f (first_greatest n f) b)))
      (λ b.
      by_cases (dec_lt (first_greatest (suc n) f) (first_greatest n f))
      (λ d. absurd (omega (arith, there, place-first n f (first_greatest (suc n) f) d)))
      (λ d. omega arith))

-- ---- Tables

pub length-table : (n : ℕ) (f : ℕ → ℕ) → length (table n f) ≡ n
unfolding table
length-table zero f = refl
length-table (suc n) f = ap suc (length-table n (λ k. f (suc k)))

pub get_or-table : (n : ℕ) (f : ℕ → ℕ) (i : ℕ) → i < n → get_or (table n f) i 0 ≡ f i
unfolding table
get_or-table zero f i h = absurd (omega arith)
get_or-table (suc n) f zero h = refl
get_or-table (suc n) f (suc i) h = get_or-table n (λ k. f (suc k)) i (omega arith)

-- The first i numbers of a list are f 0, .., f (i - 1).
abbrev pub Filled : (ℕ → ℕ) → ℕ → List ℕ → Type 0
Filled f i c = (k : ℕ) → k < i → get_or c k 0 ≡ f k

module _ (f : ℕ → ℕ) (c : List ℕ) where
  pub filled_none : Filled f 0 c
  filled_none k l = absurd (omega arith)

  pub filled_more : (i j v : ℕ) → Filled f i c → j ≡ i → v ≡ f i → i < length c → Filled f (i + 1) (set c j v)
  filled_more i j v h q e l k m =
      by_cases (dec_lt k i)
      (λ b. get_or-set_other c j k v 0 (λ o. omega arith) ∙ h k b)
      (λ b.
      let o : k ≡ i = omega arith in
      ap (λ m. get_or (set c j v) m 0) (o ∙ sym q) ∙ get_or-set_same c j v 0 (omega arith) ∙ e ∙ ap f (sym o))

  pub filled_all : (d : List ℕ) (i : ℕ) → Filled f i c → length c ≡ length d → ((k : ℕ) → k < length d → f k ≡ get_or d k 0) → length d ≤ i → c ≡ d
  filled_all d i h long e l = ext_get_or 0 c d long (λ k b. h k (omega arith) ∙ e k (omega arith))
