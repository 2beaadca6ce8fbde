-- Laws of weighed sums. Assumes nothing.
use Rattle.std.specs.Prelude.{◌≡◌, refl, Bool, true, false, ◌||◌, List, [], ◌∷◌, ℕ, zero, suc, ◌+◌, ◌*◌, ◌≤◌, ◌<◌, length, get_or, set, eqb}
use Rattle.std.proofs.Common.{ap, ⊎_elim, arith, eq-zero-or-pos, mul-le-mul_right, eq-eqb}
use Rattle.std.proofs.Math.Path.{fun_ext}
use Rattle.std.proofs.Math.Logic.{by_cases}
use Rattle.std.proofs.Math.Decide.{dec_lt}
use Rattle.std.proofs.Math.ListN.{get_or-eq_default}
use Rattle.std.proofs.Math.Dec.{eqb-zero-suc, eqb-suc-zero, eqb-suc-suc}
use Rattle.theory.specs.Bool.{bit}
use Rattle.theory.proofs.Bool.Laws.{by_test, is_false, or_none, or_fails}
use Rattle.theory.specs.Below.{sum_below}
use Rattle.theory.specs.Below.Ends.{table}
use Rattle.theory.proofs.Below.Laws.{sum-front, sum_mono, sum_less, sum_add}
use Rattle.theory.specs.Weigh.{weigh}

-- The weighed sum after one number of the list is set.
pub weigh_set : (w : ℕ → ℕ) (c : List ℕ) (i v : ℕ) → i < length c → weigh w (set c i v) + w i * get_or c i 0 ≡ weigh w c + w i * v
unfolding weigh
weigh_set w [] i v h = omega arith
weigh_set w (x ∷ xs) zero v h = omega arith
weigh_set w (x ∷ xs) (suc i) v h =
    let ih : weigh (λ k. w (suc k)) (set xs i v) + w (suc i) * get_or xs i 0 ≡ weigh (λ k. w (suc k)) xs + w (suc i) * v = weigh_set
    (λ k. w (suc k)) xs i v (omega arith) in
    omega arith

-- The weighed sum as a sum over the indices.
pub weigh-sum : (w : ℕ → ℕ) (c : List ℕ) → weigh w c ≡ sum_below (length c) (λ i. w i * get_or c i 0)
unfolding weigh sum_below
weigh-sum w [] = refl
weigh-sum w (x ∷ xs) = omega (arith, weigh-sum (λ i. w (suc i)) xs, sum-front (length xs) (λ i. w i * get_or (x ∷ xs) i 0))

pub weigh_add : (v w : ℕ → ℕ) (c : List ℕ) → weigh (λ i. v i + w i) c ≡ weigh v c + weigh w c
unfolding weigh
weigh_add v w [] = refl
weigh_add v w (x ∷ xs) = omega (arith, weigh_add (λ i. v (suc i)) (λ i. w (suc i)) xs)

pub weigh_scale : (k : ℕ) (w : ℕ → ℕ) (c : List ℕ) → weigh (λ i. k * w i) c ≡ k * weigh w c
unfolding weigh
weigh_scale k w [] = omega arith
weigh_scale k w (x ∷ xs) = omega (arith, weigh_scale k (λ i. w (suc i)) xs)

pub weigh_const : (m : ℕ) (c : List ℕ) → weigh (λ _. m) c ≡ weigh (λ _. 1) c * m
unfolding weigh
weigh_const m [] = omega arith
weigh_const m (x ∷ xs) = omega (arith, weigh_const m xs)

-- Two weights and two sums compared state by state.
pub weigh_compare : (c : List ℕ) (v w f g : ℕ → ℕ) → ((i : ℕ) → i < length c → v i * get_or c i 0 + f i ≤ w i * get_or c i 0 + g i)
    → weigh v c + sum_below (length c) f ≤ weigh w c + sum_below (length c) g
weigh_compare c v w f g h =
    omega (
      arith,
      weigh-sum v c,
      weigh-sum w c,
      sum_add (length c) (λ i. v i * get_or c i 0) f,
      sum_add (length c) (λ i. w i * get_or c i 0) g,
      sum_mono (length c) (λ i. v i * get_or c i 0 + f i) (λ i. w i * get_or c i 0 + g i) h,
    )

pub weigh_mono : (v w : ℕ → ℕ) (c : List ℕ) → ((i : ℕ) → i < length c → v i ≤ w i) → weigh v c ≤ weigh w c
weigh_mono v w c h = omega (arith, weigh_compare c v w (λ _. 0) (λ _. 0) (λ i l. omega (arith, mul-le-mul_right (get_or c i 0) (h i l))))

-- Lists of one length compared number by number: one less, and none more.
pub weigh_less : (w : ℕ → ℕ) (c d : List ℕ) → length c ≡ length d
    → ((i : ℕ) → i < length c → w i * get_or c i 0 ≤ w i * get_or d i 0)
    → (k : ℕ) → k < length c → w k * get_or c k 0 < w k * get_or d k 0 → weigh w c < weigh w d
weigh_less w c d e h k l m =
    omega (
      arith,
      weigh-sum w c,
      weigh-sum w d,
      ap (λ n. sum_below n (λ i. w i * get_or d i 0)) e,
      sum_less (length c) (λ i. w i * get_or c i 0) (λ i. w i * get_or d i 0) h k l m,
    )

pub weigh-table : (w f : ℕ → ℕ) (n : ℕ) → weigh w (table n f) ≡ sum_below n (λ i. w i * f i)
unfolding weigh table sum_below
weigh-table w f zero = refl
weigh-table w f (suc n) = omega (arith, weigh-table (λ i. w (suc i)) (λ i. f (suc i)) n, sum-front n (λ i. w i * f i))

-- One number's share is at most the whole.
pub weigh_at : (w : ℕ → ℕ) (c : List ℕ) (i : ℕ) → w i * get_or c i 0 ≤ weigh w c
unfolding weigh
weigh_at w [] i = omega arith
weigh_at w (x ∷ xs) zero = omega arith
weigh_at w (x ∷ xs) (suc i) = omega (arith, weigh_at (λ k. w (suc k)) xs i)

-- A sum that is not 0 has a share that is not 0.
pub weigh-some : (w : ℕ → ℕ) (c : List ℕ) → 0 < weigh w c → (i : ℕ) × (0 < w i * get_or c i 0)
unfolding weigh
weigh-some w [] h = absurd (omega arith)
weigh-some w (x ∷ xs) h =
    ⊎_elim
    (λ (e : w 0 * x ≡ 0). let r = weigh-some (λ i. w (suc i)) xs (omega arith) in (suc r.0, r.1))
    (λ (l : 0 < w 0 * x). (0, l))
    (eq-zero-or-pos (w 0 * x))

-- One number of the list is a weighed sum.
pub weigh_one : (i : ℕ) (c : List ℕ) → weigh (λ s. bit (eqb s i)) c ≡ get_or c i 0
unfolding weigh
weigh_one i [] = refl
weigh_one zero (x ∷ xs) =
    let others : weigh (λ s. bit (eqb (suc s) 0)) xs ≡ weigh (λ _. 0) xs = ap (λ w. weigh w xs) (fun_ext (λ s. ap bit (eqb-suc-zero s))) in
    omega (arith, weigh_const 0 xs, ap (λ b. bit b * x) (eq-eqb 0 0 refl))
weigh_one (suc i) (x ∷ xs) =
    let others : weigh (λ s. bit (eqb (suc s) (suc i))) xs ≡ weigh (λ s. bit (eqb s i)) xs = ap (λ w. weigh w xs) (fun_ext (λ s. ap bit (eqb-suc-suc s i))) in
    omega (arith, weigh_one i xs, ap (λ b. bit b * x) (eqb-zero-suc i))

-- A number that is not 0 stands inside the list.
pub occupied_lt : (c : List ℕ) (s : ℕ) → 0 < get_or c s 0 → s < length c
occupied_lt c s h = by_cases (dec_lt s (length c)) (λ l. l) (λ g. absurd (let z : get_or c s 0 ≡ 0 = get_or-eq_default c 0 (omega arith) in omega arith))

-- ---- The weight of a set: 1 on it, 0 elsewhere

-- A pair is outside a set just when it has no weight there.
pub pair_outside : (A : ℕ → Bool) (s t : ℕ) → bit (A s) + bit (A t) ≤ 0 → A s || A t ≡ false
pair_outside A s t h =
    or_none _ _ (is_false (A s) (λ e. omega (arith, ap bit e))) (is_false _ (λ e. omega (arith, ap bit e)))

pub pair_weightless : (A : ℕ → Bool) (s t : ℕ) → A s || A t ≡ false → bit (A s) + bit (A t) ≡ 0
pair_weightless A s t h = let f = or_fails (A s) (A t) h in omega (arith, ap bit f.0, ap bit f.1)

-- A set has no weight in a list just when each of its numbers is 0.
pub set_empty : (A : ℕ → Bool) (c : List ℕ) → ((i : ℕ) → i < length c → A i ≡ true → get_or c i 0 ≡ 0) → weigh (λ s. bit (A s)) c ≡ 0
unfolding weigh
set_empty A [] h = refl
set_empty A (x ∷ xs) h =
    let ih : weigh (λ i. bit (A (suc i))) xs ≡ 0 = set_empty (λ i. A (suc i)) xs (λ i l e. h (suc i) (omega arith) e) in
    by_test (A 0)
    (λ e. let z : x ≡ 0 = h 0 (omega arith) e in rw z (omega arith))
    (λ e. rw e (omega arith))

pub set_none : (A : ℕ → Bool) (c : List ℕ) → weigh (λ s. bit (A s)) c ≡ 0 → (i : ℕ) → A i ≡ true → get_or c i 0 ≡ 0
set_none A c h i e = omega (arith, rw e at (weigh_at (λ s. bit (A s)) c i))
