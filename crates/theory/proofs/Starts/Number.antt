-- How many starts there are. Assumes nothing.
use Rattle.std.specs.Prelude.{◌≡◌, refl, Bool, true, false, cond, List, ◌∷◌, ℕ, zero, suc, ◌+◌, ◌-◌, ◌≤◌, ◌<◌, length}
use Rattle.std.proofs.Common.{sym, ap, ◌∙◌, zero-add, add-suc, arith, length-append}
use Rattle.std.proofs.Math.Logic.{by_cases}
use Rattle.std.proofs.Math.Decide.{dec_lt}
use Rattle.std.proofs.Math.Nat.{sub-zero, suc-sub-suc}
use Rattle.std.proofs.lemmas.List.{length-map}
use Rattle.theory.specs.Bool.{bit}
use Rattle.theory.specs.Below.{sum_below}
use Rattle.theory.proofs.Below.Laws.{sum_same, sum-front}
use Rattle.theory.specs.Protocol.{Protocol}
use Rattle.theory.specs.Starts.{each_down, starts_over, starts, binomial, inputs_of}

-- ---- Binomials

-- There is no way to choose more things than there are, and one to choose all.
binomial_none : (n k : ℕ) → n < k → binomial n k ≡ 0
unfolding binomial
binomial_none n zero l = absurd (omega arith)
binomial_none zero (suc k) l = refl
binomial_none (suc n) (suc k) l = omega (arith, binomial_none n k (omega arith), binomial_none n (suc k) (omega arith))

binomial-all : (n : ℕ) → binomial n n ≡ 1
unfolding binomial
binomial-all zero = refl
binomial-all (suc n) = omega (arith, binomial-all n, binomial_none n (suc n) (omega arith))

-- ---- Ways

-- How many ways there are to spread n agents over i inputs.
ways : ℕ → ℕ → ℕ
ways zero zero = 1
ways zero (suc n) = 0
ways (suc i) n = binomial (n + i) i

-- Without agents there is one way.
ways_none : (i : ℕ) → ways i 0 ≡ 1
unfolding ways
ways_none zero = refl
ways_none (suc i) = rw (zero-add i) (binomial-all i)

-- The last input has no agent, or one and then any number of the others.
ways_more : (i n : ℕ) → ways (suc i) (suc n) ≡ ways i (suc n) + ways (suc i) n
unfolding ways binomial
ways_more zero n = refl
ways_more (suc i) n =
    let e : suc n + i ≡ n + suc i = omega arith in
    ap (λ k. binomial k (suc i)) (add-suc (suc n) i) ∙ ap (λ k. binomial (suc n + i) i + binomial k (suc i)) e

-- An input has k agents, for each k.
ways_sum : (i n : ℕ) → sum_below (suc n) (λ k. ways i (n - k)) ≡ ways (suc i) n
unfolding sum_below
ways_sum i zero = omega (arith, ways_none i, ways_none (suc i))
ways_sum i (suc n) =
    omega (
      arith,
      sum-front (suc n) (λ k. ways i (suc n - k)),
      ap (ways i) (sub-zero (suc n)),
      sum_same (suc n) (λ k. ways i (suc n - suc k)) (λ k. ways i (n - k)) (λ k _. ap (ways i) (suc-sub-suc n k)),
      ways_sum i n,
      ways_more i n,
    )

-- One state more, which is an input or none.
ways_front : (input : Bool) (i n : ℕ) → sum_below (suc (cond input n 0)) (λ k. ways i (n - k)) ≡ ways (bit input + i) n
unfolding sum_below
ways_front true i n = let e : suc i ≡ 1 + i = omega arith in ways_sum i n ∙ ap (λ k. ways k n) e
ways_front false i n = rw (sub-zero n, zero-add i) (zero-add (ways i n))

-- Lists behind each other are as long as all together.
length_down : {A : Type 0} (f : ℕ → List A) (g : ℕ → ℕ) → ((k : ℕ) → length (f k) ≡ g k) → (n : ℕ) → length (each_down f n) ≡ sum_below (suc n) g
unfolding each_down sum_below
length_down f g e zero = omega (arith, e zero)
length_down f g e (suc n) = omega (arith, length-append (f (suc n)) (each_down f n), e (suc n), length_down f g e n)

-- The starts over m states are as many as the ways over the inputs among these.
length-starts : (input : ℕ → Bool) (fixed : ℕ → ℕ) (m n : ℕ) → length (starts_over input fixed m n) ≡ ways (sum_below m (λ s. bit (input s))) n
unfolding starts_over ways sum_below
length-starts input fixed zero zero = refl
length-starts input fixed zero (suc n) = refl
length-starts input fixed (suc m) n =
    let i : ℕ = sum_below m (λ s. bit (input (suc s))) in
    length_down _ (λ k. ways i (n - k))
    (λ k.
    length-map (starts_over _ _ m (n - k)) (λ c. (fixed 0 + k) ∷ c)
    ∙ length-starts (λ s. input (suc s)) (λ s. fixed (suc s)) m (n - k))
    (cond (input 0) n 0)
    ∙ ways_front (input 0) i n
    ∙ ap (λ k. ways k n) (sym (sum-front m (λ s. bit (input s))))

-- ---- The number of starts

starts_ways : (P : Protocol) (n : ℕ) → length (starts P n) ≡ ways (inputs_of P) n
unfolding starts inputs_of
starts_ways P n = length-starts P.input P.fixed P.states n

-- With i + 1 inputs there are as many starts as ways to choose i of n + i things.
pub starts-number : (P : Protocol) (n i : ℕ) → inputs_of P ≡ suc i → length (starts P n) ≡ binomial (n + i) i
unfolding ways
starts-number P n i e = starts_ways P n ∙ ap (λ k. ways k n) e

-- What grows from each number to the next grows.
climbs : (f : ℕ → ℕ) → ((k : ℕ) → f k ≤ f (suc k)) → (i j : ℕ) → i ≤ j → f i ≤ f j
climbs f up i zero l = let e : i ≡ 0 = omega arith in omega (arith, ap f e)
climbs f up i (suc j) l =
    by_cases (dec_lt j i)
    (λ b. let e : i ≡ suc j = omega arith in omega (arith, ap f e))
    (λ g. omega (arith, climbs f up i j (omega arith), up j))

-- More inputs, no fewer ways.
ways_up : (n i : ℕ) → ways i n ≤ ways (suc i) n
ways_up zero i = omega (arith, ways_none i, ways_none (suc i))
ways_up (suc n) i = omega (arith, ways_more i n)

ways_most : ways 8 12 ≡ 50388
unfolding ways binomial
ways_most = refl

-- Of twelve agents on eight inputs, or fewer, there are at most 50,388.
pub starts-most : (P : Protocol) (n : ℕ) → n ≤ 12 → inputs_of P ≤ 8 → length (starts P n) ≤ 50388
starts-most P n l h =
    omega (
      arith,
      starts_ways P n,
      climbs (λ i. ways i n) (ways_up n) (inputs_of P) 8 h,
      climbs (ways 8) (λ k. omega (arith, ways_more 7 k)) n 12 l,
      ways_most,
    )
