-- Pairs of agents: when there are none, how many there can be, and that the number counts them. Assumes nothing.
use Rattle.std.specs.Prelude.{◌≡◌, Bool, true, false, cond, ◌&&◌, ◌||◌, List, [], ◌∷◌, ◌↔◌, ltb, eqb}
use Rattle.std.proofs.Math.Path.{refl, ap}
use Rattle.std.proofs.Common.{sym, ◌∙◌, subst, arith, add-zero, zero-mul, mul-zero, mul-le-mul, ltb-true, ltb-false, lt-ltb, le-ltb, eqb-true, eq-eqb, ne_eqb}
use Rattle.std.proofs.Math.Bool.{and-true, and-false}
use Rattle.std.proofs.Math.Logic.{by_cases}
use Prim.Native.Nat.{ℕ, zero, suc, ◌+◌, ◌-◌, ◌*◌, ◌/◌, ◌≤◌, ◌<◌}
use Rattle.std.proofs.Math.Decide.{dec_lt, ℕ_discrete}
use Rattle.std.proofs.Math.Dec.{eqb-zero-suc, eqb-suc-zero, eqb-suc-suc}
use Rattle.std.proofs.lemmas.Bool.{eqb-false}
use Rattle.theory.specs.Bool.{bit}
use Rattle.theory.proofs.Bool.Laws.{by_test}
use Rattle.theory.specs.Below.{sum_below}
use Rattle.theory.proofs.Below.Laws.{sum_const, sum_zero, sum_same, sum_swap, sum_split}
use Rattle.theory.specs.Weigh.{weigh}
use Rattle.theory.specs.Protocol.{Protocol, count, size, enabled}
use Rattle.theory.proofs.Protocol.Small.{one_held, two-held}
use Rattle.theory.specs.Pairs.{pairs_between, pairs, Agents, is_between, pairs_among, rules_between}

-- ---- The two cases

module _ (c : List ℕ) (p q : ℕ) where
  pub pairs-own : eqb p q ≡ true → pairs_between c p q ≡ (count c p * (count c p - 1)) / 2
  unfolding pairs_between
  pairs-own e = rw (e, pairs_between)

  pub pairs_other : eqb p q ≡ false → pairs_between c p q ≡ count c p * count c q
  unfolding pairs_between
  pairs_other e = rw (e, pairs_between)

-- ---- None, and the most

-- The agents of one state have a pair just where there are two of them or more.
half_none : (n : ℕ) → n ≤ 1 → (n * (n - 1)) / 2 ≡ 0
half_none zero l = refl
half_none (suc zero) l = refl
half_none (suc (suc n)) l = absurd (omega arith)

half_some : (n : ℕ) → 1 < n → 0 < (n * (n - 1)) / 2
half_some zero l = absurd (omega arith)
half_some (suc zero) l = absurd (omega arith)
half_some (suc (suc n)) l = omega arith

-- One agent more makes a pair with each that was there.
one_more : (n : ℕ) → (n + 1) * (n + 1 - 1) ≡ n * (n - 1) + 2 * n
one_more zero = refl
one_more (suc n) = let e : suc n - 1 ≡ n = omega arith in let f : suc n + 1 - 1 ≡ suc n = omega arith in rw (e, f) (omega arith)

-- More agents have no fewer ordered pairs.
ordered_mono : (m n : ℕ) → m ≤ n → m * (m - 1) ≤ n * (n - 1)
ordered_mono m n l = mul-le-mul l (omega arith)

-- x agents of one state and y of another are x y pairs, which are among the pairs of all x + y agents.
apart_most : (x y : ℕ) → 2 * (x * y) ≤ (x + y) * (x + y - 1)
apart_most zero y = omega arith
apart_most (suc x) zero = omega arith
apart_most (suc x) (suc y) = let e : suc x + suc y - 1 ≡ x + y + 1 = omega arith in rw e (omega arith)

quarter : (x y : ℕ) → 4 * (x * y) ≤ (x + y) * (x + y)
quarter x y =
    by_cases (dec_lt x y)
    (λ l. go x (y - x) y (omega arith))
    (λ l. let e : x + y ≡ y + x = omega arith in rw e (omega (arith, go y (x - y) x (omega arith))))
  where
    go : (u d v : ℕ) → v ≡ u + d → 4 * (u * v) ≤ (u + v) * (u + v)
    go u d v e = rw e (omega arith)

-- A product is not 0 where both factors are not.
both_some : (x y : ℕ) → ltb 0 (x * y) ≡ (ltb 0 x && ltb 0 y)
both_some zero y = ap (ltb 0) (zero-mul y)
both_some (suc x) zero = rw (lt-ltb 0 (suc x) (omega arith)) (ap (ltb 0) (mul-zero (suc x)))
both_some (suc x) (suc y) = rw (lt-ltb 0 (suc x) (omega arith), lt-ltb 0 (suc y) (omega arith)) (lt-ltb 0 (suc x * suc y) (omega arith))

two-some : (n : ℕ) → ltb 0 ((n * (n - 1)) / 2) ≡ ltb 1 n
two-some n =
    by_test (ltb 1 n)
    (λ t. lt-ltb 0 _ (half_some n (ltb-true 1 n t)) ∙ sym t)
    (λ t. ap (ltb 0) (half_none n (ltb-false 1 n t)) ∙ sym t)

module _ (c : List ℕ) (p q : ℕ) where
  -- There is a pair just where p and q each hold an agent, or, where p = q, at least two.
  some_pair : ltb 0 (pairs_between c p q) ≡ elim (eqb p q) [ true ↦ ltb 1 (count c p) | false ↦ ltb 0 (count c p) && ltb 0 (count c q) ]
  some_pair =
      by_test (eqb p q)
      (λ e. rw e (ap (ltb 0) (pairs-own c p q e) ∙ two-some (count c p)))
      (λ e. rw e (ap (ltb 0) (pairs_other c p q e) ∙ both_some (count c p) (count c q)))

  -- Where there are m agents at most, there are no more pairs than m agents have; and of two states no more than m m / 4.
  pub pairs-most : (m : ℕ) → size c ≤ m → pairs_between c p q ≤ (m * (m - 1)) / 2
  pairs-most m l =
      by_test (eqb p q)
      (λ e. omega (arith, pairs-own c p q e, ordered_mono (count c p) m (omega (arith, one_held c p))))
      (λ e. omega (
        arith,
        pairs_other c p q e,
        apart_most (count c p) (count c q),
        ordered_mono (count c p + count c q) m (omega (arith, two-held c p q (eqb-false p q e))),
      ))

  pub apart_pairs-most : (m : ℕ) → size c ≤ m → (p ≡ q → ⊥) → 4 * pairs_between c p q ≤ m * m
  apart_pairs-most m l apart =
      let held : count c p + count c q ≤ m = omega (arith, two-held c p q apart) in
      let square : (count c p + count c q) * (count c p + count c q) ≤ m * m = mul-le-mul held held in
      omega (arith, ap (λ k. 4 * k) (pairs_other c p q (ne_eqb p q apart)), quarter (count c p) (count c q), square)

-- A rule is enabled just where some pair of agents could make its meeting.
pub enabled-pairs : (P : Protocol) (c : List ℕ) (r : ℕ) → enabled P c r ≡ ltb 0 (pairs P c r)
unfolding enabled
enabled-pairs P c r = sym (some_pair c (P.p r) (P.q r))

pub no_pairs : (P : Protocol) (c : List ℕ) (r : ℕ) → (pairs P c r ≡ 0) ↔ (enabled P c r ≡ false)
no_pairs P c r = (
  (λ e. enabled-pairs P c r ∙ ap (ltb 0) e),
  (λ e. omega (arith, ltb-false 0 (pairs P c r) (sym (enabled-pairs P c r) ∙ e))),
)

-- ---- The number counts the pairs

absorbs : (x y z : Bool) → (z ≡ true → y ≡ x) → (x || y && z) ≡ x
absorbs true y z h = refl
absorbs false true true h = h refl
absorbs false true false h = refl
absorbs false false z h = refl

-- Agent i is in state a i; n agents, and those of them that are in state s.
module _ (a : ℕ → ℕ) where
  abbrev held : ℕ → ℕ → ℕ
  held n s = sum_below n (λ i. bit (eqb (a i) s))

  module _ (p q n : ℕ) where
    abbrev paired : ℕ → ℕ
    paired i = bit (is_between p q (a i) (a n))

    -- The pairs of agent n with an earlier one: in q it pairs with those in p, in p with those in q, elsewhere with none.
    in_second_lem : a n ≡ q → sum_below n paired ≡ held n p
    in_second_lem e =
        let t : eqb (a n) q ≡ true = eq-eqb (a n) q e in
        let same : (i : ℕ) → eqb (a n) p ≡ true → eqb (a i) q ≡ eqb (a i) p = λ i f. ap (eqb (a i)) (sym e ∙ eqb-true (a n) p f) in
        sum_same n paired (λ i. bit (eqb (a i) p))
        (λ i l. rw (t, and-true (eqb (a i) p)) (ap bit (absorbs (eqb (a i) p) (eqb (a i) q) (eqb (a n) p) (same i))))

    in_first_lem : a n ≡ p → (p ≡ q → ⊥) → sum_below n paired ≡ held n q
    in_first_lem e d =
        let t : eqb (a n) p ≡ true = eq-eqb (a n) p e in
        let f : eqb (a n) q ≡ false = ne_eqb (a n) q (λ g. d (sym e ∙ g)) in
        sum_same n paired (λ i. bit (eqb (a i) q)) (λ i l. rw (t, f, and-true (eqb (a i) q), and-false (eqb (a i) p)))

    in_neither : (a n ≡ p → ⊥) → (a n ≡ q → ⊥) → sum_below n paired ≡ 0
    in_neither d e =
        let f : eqb (a n) p ≡ false = ne_eqb (a n) p d in
        let g : eqb (a n) q ≡ false = ne_eqb (a n) q e in
        sum_same n paired (λ _. 0) (λ i l. rw (f, g, and-false (eqb (a i) p), and-false (eqb (a i) q))) ∙ sum_zero n

  -- One agent more.
  held_next : (s n k : ℕ) → bit (eqb (a n) s) ≡ k → held (suc n) s ≡ held n s + k
  unfolding sum_below
  held_next s n k e = ap (λ (j : ℕ). held n s + j) e

  held_in : (s n : ℕ) → a n ≡ s → held (suc n) s ≡ held n s + 1
  held_in s n e = held_next s n 1 (ap bit (eq-eqb (a n) s e))

  held_out : (s n : ℕ) → (a n ≡ s → ⊥) → held (suc n) s ≡ held n s
  held_out s n d = held_next s n 0 (ap bit (ne_eqb (a n) s d)) ∙ add-zero (held n s)

  among_next : (p q n k : ℕ) → sum_below n (paired p q n) ≡ k → pairs_among (suc n) a p q ≡ pairs_among n a p q + k
  unfolding pairs_among sum_below
  among_next p q n k e = ap (λ (j : ℕ). pairs_among n a p q + j) e

  -- So the pairs of n agents are what the definition says, agent by agent.
  own_next : (p n : ℕ) → 2 * pairs_among n a p p ≡ held n p * (held n p - 1) → 2 * pairs_among (suc n) a p p ≡ held (suc n) p * (held (suc n) p - 1)
  own_next p n h = go (ℕ_discrete (a n) p)
    where
      go : Dec (a n ≡ p) → 2 * pairs_among (suc n) a p p ≡ held (suc n) p * (held (suc n) p - 1)
      go (yes e) = rw (held_in p n e, among_next p p n (held n p) (in_second_lem p p n e)) (omega (arith, h, one_more (held n p)))
      go (no d) = rw (held_out p n d, among_next p p n 0 (in_neither p p n d d)) (omega (arith, h))

  other_next : (p q n : ℕ) → (p ≡ q → ⊥) → pairs_among n a p q ≡ held n p * held n q → pairs_among (suc n) a p q ≡ held (suc n) p * held (suc n) q
  other_next p q n apart h = go (ℕ_discrete (a n) p) (ℕ_discrete (a n) q)
    where
      go : Dec (a n ≡ p) → Dec (a n ≡ q) → pairs_among (suc n) a p q ≡ held (suc n) p * held (suc n) q
      go (yes d) (yes e) = absurd (apart (sym d ∙ e))
      go (yes d) (no e) = rw (held_in p n d, held_out q n e, among_next p q n (held n q) (in_first_lem p q n d apart)) (omega (arith, h))
      go (no d) (yes e) = rw (held_out p n d, held_in q n e, among_next p q n (held n p) (in_second_lem p q n e)) (omega (arith, h))
      go (no d) (no e) = rw (held_out p n d, held_out q n e, among_next p q n 0 (in_neither p q n d e)) (omega (arith, h))

  among_own : (p n : ℕ) → 2 * pairs_among n a p p ≡ held n p * (held n p - 1)
  unfolding pairs_among sum_below
  among_own p zero = refl
  among_own p (suc n) = own_next p n (among_own p n)

  among_other : (p q : ℕ) → (p ≡ q → ⊥) → (n : ℕ) → pairs_among n a p q ≡ held n p * held n q
  unfolding pairs_among sum_below
  among_other p q apart zero = refl
  among_other p q apart (suc n) = other_next p q n apart (among_other p q apart n)

-- The two formulas give what pairs_among counts, however the agents are numbered.
pub pairs-counted : (c : List ℕ) (n : ℕ) (a : ℕ → ℕ) → Agents c n a → (p q : ℕ) → pairs_among n a p q ≡ pairs_between c p q
pairs-counted c n a h p q =
    by_test (eqb p q)
    (λ e. rw (pairs-own c p q e, ← h p) (omega (arith, among_own a p n, ap (pairs_among n a p) (eqb-true p q e))))
    (λ e. rw (pairs_other c p q e, ← h p, ← h q) (among_other a p q (eqb-false p q e) n))

-- The sum over all rules counts every pair of agents once for each rule by which the two could meet.
pub sum_counted : (P : Protocol) (c : List ℕ) (n : ℕ) (a : ℕ → ℕ) → Agents c n a
    → sum_below P.rules (pairs P c) ≡ sum_below n (λ j. sum_below j (λ i. rules_between P (a i) (a j)))
unfolding pairs_among rules_between
sum_counted P c n a h =
    let one : ℕ → ℕ → ℕ → ℕ = λ r j i. bit (is_between (P.p r) (P.q r) (a i) (a j)) in
    sum_same P.rules (pairs P c) (λ r. sum_below n (λ j. sum_below j (λ i. one r j i))) (λ r l. sym (pairs-counted c n a h (P.p r) (P.q r)))
    ∙ sum_swap P.rules n (λ r j. sum_below j (λ i. one r j i))
    ∙ sum_same n (λ j. sum_below P.rules (λ r. sum_below j (λ i. one r j i))) (λ j. sum_below j (λ i. rules_between P (a i) (a j)))
    (λ j l. sum_swap P.rules j (λ r i. one r j i))

-- ---- Every configuration has such agents, as many as its size

-- First x agents in state 0, then those of xs, each one state further.
module _ (x m : ℕ) (xs : List ℕ) (a : ℕ → ℕ) (h : Agents xs m a) where
  abbrev placed : ℕ → ℕ
  placed i = cond (ltb i x) 0 (suc (a (i - x)))

  abbrev at : ℕ → ℕ → ℕ
  at s i = bit (eqb (placed i) s)

  first_at : (s i : ℕ) → i < x → at s i ≡ bit (eqb 0 s)
  first_at s i l = rw (lt-ltb i x l)

  rest_at : (s k : ℕ) → at s (x + k) ≡ bit (eqb (suc (a k)) s)
  rest_at s k = let e : x + k - x ≡ k = omega arith in rw (le-ltb (x + k) x (omega arith), e)

  more_agents : Agents (x ∷ xs) (x + m) placed
  more_agents zero =
      omega (
        arith,
        sum_split x m (at 0),
        sum_same x (at 0) (λ _. 1) (first_at 0),
        sum_const 1 x,
        sum_same m (λ k. at 0 (x + k)) (λ _. 0) (λ k l. rest_at 0 k ∙ ap bit (eqb-suc-zero (a k))),
        sum_zero m,
      )
  more_agents (suc s) =
      omega (
        arith,
        sum_split x m (at (suc s)),
        sum_same x (at (suc s)) (λ _. 0) (λ i l. first_at (suc s) i l ∙ ap bit (eqb-zero-suc s)),
        sum_zero x,
        sum_same m (λ k. at (suc s) (x + k)) (λ k. bit (eqb (a k) s)) (λ k l. rest_at (suc s) k ∙ ap bit (eqb-suc-suc (a k) s)),
        h s,
      )

pub some_agents : (c : List ℕ) → (a : ℕ → ℕ) × Agents c (size c) a
unfolding size weigh sum_below
some_agents [] = ((λ _. 0), (λ s. refl))
some_agents (x ∷ xs) =
    let r = some_agents xs in
    let n : x + size xs ≡ size (x ∷ xs) = omega arith in
    (placed x (size xs) xs r.0 r.1, subst (λ k. Agents (x ∷ xs) k (placed x (size xs) xs r.0 r.1)) n (more_agents x (size xs) xs r.0 r.1))
