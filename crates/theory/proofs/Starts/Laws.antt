-- The list of starts: its members, their order, and how to find the first, the next and the last. Assumes nothing.
use Rattle.std.specs.Prelude.{◌≡◌, refl, Bool, true, false, cond, ◌↔◌, get_or}
use Rattle.std.proofs.Common.{sym, ◌∙◌, true≢false}
use Rattle.std.proofs.Math.Path.{ap, subst}
use mathlib.Core.List.Memᴰ
use mathlib.Core.List.{List, [], ◌∷◌, ◌++◌, map, Memᴰ}
use Rattle.std.proofs.Math.Logic.{⊎_elim, by_cases}
use Prim.Native.Nat.{ℕ, zero, suc, ◌+◌, ◌-◌, ◌*◌, ◌≤◌, ◌<◌}
use Rattle.std.proofs.Math.Decide.{dec_lt, ℕ_discrete}
use native.Mathlib.Omega.{arith}
use Rattle.std.proofs.Math.ListN.{length}
use Rattle.theory.specs.Below.{sum_below}
use Rattle.theory.proofs.Below.Laws.{below_suc, sum_mono, sum-front}
use Rattle.theory.specs.Weigh.{weigh}
use Rattle.theory.proofs.Weigh.Laws.{weigh-sum}
use Rattle.theory.specs.Order.{lex_less}
use Rattle.theory.proofs.Order.Laws.{less_first, less_rest, less_irreflexive, less_transitive}
use Rattle.theory.specs.Protocol.{Protocol, size, StartRule}
use Rattle.theory.specs.Starts.{each_down, starts_over, fixed_total, starts, start_at}

-- c has n agents besides the fixed ones, and every state keeps the start rule. Where n is 2 or more this is a start.
pub record StartWith (P : Protocol) (n : ℕ) (c : List ℕ) : Type 0 where
  pub sized : length c ≡ P.states
  pub agents : size c ≡ n + fixed_total P
  pub rule : (s : ℕ) → s < P.states → StartRule P c s

-- ---- Members

-- What stands at a place is a member, and every member stands at one.
member_at : (xs : List (List ℕ)) (k : ℕ) → k < length xs → Memᴰ (get_or xs k []) xs
member_at [] k l = absurd (omega arith)
member_at (x ∷ xs) zero l = Memᴰ.head refl
member_at (x ∷ xs) (suc k) l = Memᴰ.tail (member_at xs k (omega arith))

member-place : (c : List ℕ) (xs : List (List ℕ)) → Memᴰ c xs → (k : ℕ) × (k < length xs) × (get_or xs k [] ≡ c)
member-place c xs (Memᴰ.head e) = (0, omega arith, sym e)
member-place c xs (Memᴰ.tail {xs = ys} m) = let t = member-place c ys m in (suc t.0, omega (arith, t.1), t.2)

-- The members of f n, f (n - 1), .., f 0 behind each other are those of each.
module _ (f : ℕ → List (List ℕ)) (c : List ℕ) where
  block_member : (n k : ℕ) → k ≤ n → Memᴰ c (f k) → Memᴰ c (each_down f n)
  unfolding each_down
  block_member zero k l m = subst (λ j. Memᴰ c (f j)) (omega arith) m
  block_member (suc n) k l m =
      below_suc (λ j. Memᴰ c (f j) → Memᴰ c (f (suc n) ++ each_down f n)) (suc n)
      (Memᴰ.append_left (each_down f n))
      (λ j b h. Memᴰ.append_right (f (suc n)) (block_member n j (omega arith) h))
      k (omega arith) m

  member_block : (n : ℕ) → Memᴰ c (each_down f n) → (k : ℕ) × (k ≤ n) × Memᴰ c (f k)
  unfolding each_down
  member_block zero m = (0, omega arith, m)
  member_block (suc n) m =
      ⊎_elim
      (λ h. (suc n, omega arith, h))
      (λ h. let t = member_block n h in (t.0, omega (arith, t.1), t.2))
      (Memᴰ.append_cases (f (suc n)) m)

-- ---- Lists that descend

-- Each member is greater than all behind it.
abbrev Descending : List (List ℕ) → Type 0
Descending [] = Unit {0}
Descending (x ∷ xs) = ((y : List ℕ) → Memᴰ y xs → lex_less y x ≡ true) × Descending xs

descending_at : (xs : List (List ℕ)) → Descending xs → (i j : ℕ) → i < j → j < length xs → lex_less (get_or xs j []) (get_or xs i []) ≡ true
descending_at [] d i j l m = absurd (omega arith)
descending_at (x ∷ xs) d i zero l m = absurd (omega arith)
descending_at (x ∷ xs) d zero (suc j) l m = d.0 (get_or xs j []) (member_at xs j (omega arith))
descending_at (x ∷ xs) d (suc i) (suc j) l m = descending_at xs d.1 i j (omega arith) (omega arith)

-- Every member of ys is less than every member of xs.
abbrev Under : List (List ℕ) → List (List ℕ) → Type 0
Under ys xs = (x y : List ℕ) → Memᴰ x xs → Memᴰ y ys → lex_less y x ≡ true

-- Two lists behind each other, the same number in front of each member, and many lists behind each other.
descending_append : (xs ys : List (List ℕ)) → Descending xs → Descending ys → Under ys xs → Descending (xs ++ ys)
descending_append [] ys d e u = e
descending_append (x ∷ xs) ys d e u = (
  λ y m. ⊎_elim (d.0 y) (u x y (Memᴰ.head refl)) (Memᴰ.append_cases xs m),
  descending_append xs ys d.1 e (λ a b m. u a b (Memᴰ.tail m)),
)

descending_map : (k : ℕ) (xs : List (List ℕ)) → Descending xs → Descending (map (λ c. k ∷ c) xs)
descending_map k [] d = tt
descending_map k (x ∷ xs) d = (
  λ y m.
      let t = Memᴰ.of_map (λ c. k ∷ c) xs m in
      rw (← t.2) (less_rest k k t.0 x refl (d.0 t.0 t.1)),
  descending_map k xs d.1,
)

-- A smaller number in front makes a list less.
under_map : (j k : ℕ) (ys xs : List (List ℕ)) → j < k → Under (map (λ c. j ∷ c) ys) (map (λ c. k ∷ c) xs)
under_map j k ys xs l x y a b =
    let t = Memᴰ.of_map (λ c. k ∷ c) xs a in
    let u = Memᴰ.of_map (λ c. j ∷ c) ys b in
    rw (← t.2, ← u.2) (less_first j k u.0 t.0 l)

descending_down : (f : ℕ → List (List ℕ)) → ((k : ℕ) → Descending (f k)) → ((j k : ℕ) → j < k → Under (f j) (f k)) → (n : ℕ)
    → Descending (each_down f n)
unfolding each_down
descending_down f d u zero = d zero
descending_down f d u (suc n) =
    descending_append (f (suc n)) (each_down f n) (d (suc n)) (descending_down f d u n)
    (λ x y a b. let t = member_block f y n b in u t.0 (suc n) (omega (arith, t.1)) x y a t.2)

-- ---- The ways to spread n agents over the inputs

-- What the start rule says of one state, by whether it is an input, its fixed agents and its count.
abbrev Kept : Bool → ℕ → ℕ → Type 0
Kept input fixed x = (input ≡ false → x ≡ fixed) × (input ≡ true → fixed ≤ x)

-- What StartWith says, over m states.
record StartOver (input : ℕ → Bool) (fixed : ℕ → ℕ) (m n : ℕ) (c : List ℕ) : Type 0 where
  sized : length c ≡ m
  agents : weigh (λ _. 1) c ≡ n + sum_below m fixed
  rule : (s : ℕ) → s < m → Kept (input s) (fixed s) (get_or c s 0)

-- A count that keeps the rule is the fixed agents and at most n more, none where the state is no input.
kept_more : (input : Bool) (fixed n k : ℕ) → k ≤ cond input n 0 → (k ≤ n) × Kept input fixed (fixed + k)
kept_more true fixed n k l = (l, (λ e. absurd (true≢false e), λ e. omega arith))
kept_more false fixed n k l = (omega arith, (λ e. omega arith, λ e. omega arith))

more_kept : (input : Bool) (fixed n x : ℕ) → Kept input fixed x → x ≤ n + fixed → (x - fixed ≤ cond input n 0) × (fixed + (x - fixed) ≡ x)
more_kept true fixed n x h l = let g = h.1 refl in (omega arith, omega arith)
more_kept false fixed n x h l = let g = h.0 refl in (omega arith, omega arith)

-- It is at least the fixed agents.
kept-least : (input : Bool) (fixed x : ℕ) → Kept input fixed x → fixed ≤ x
kept-least true fixed x h = h.1 refl
kept-least false fixed x h = omega (arith, h.0 refl)

-- One state more in front: it has k of the n agents besides its fixed ones, and the states behind it have the others.
module _ (input : ℕ → Bool) (fixed : ℕ → ℕ) (m n : ℕ) where
  front_over : (k : ℕ) (c : List ℕ) → k ≤ cond (input 0) n 0 → StartOver (λ s. input (suc s)) (λ s. fixed (suc s)) m (n - k) c
      → StartOver input fixed (suc m) n ((fixed 0 + k) ∷ c)
  unfolding weigh
  front_over k c l h =
      let t = kept_more (input 0) (fixed 0) n k l in record {
        sized = ap suc h.sized;
        agents = omega (arith, t.0, h.agents, sum-front m fixed);
        rule = elim [ zero ↦ λ _. t.1 | suc s ↦ λ b. h.rule s (omega arith) ];
      }

  over_front : (x : ℕ) (c : List ℕ) → StartOver input fixed (suc m) n (x ∷ c)
      → (x - fixed 0 ≤ cond (input 0) n 0) × (fixed 0 + (x - fixed 0) ≡ x)
      × StartOver (λ s. input (suc s)) (λ s. fixed (suc s)) m (n - (x - fixed 0)) c
  unfolding weigh
  over_front x c h =
      let l : x ≤ n + fixed 0 = omega (arith, h.agents, sum-front m fixed, others) in
      let t = more_kept (input 0) (fixed 0) n x (h.rule 0 (omega arith)) l in (
        t.0,
        t.1,
        record {
          sized = long;
          agents = omega (arith, t.1, h.agents, sum-front m fixed, others);
          rule = λ s b. h.rule (suc s) (omega arith);
        },
      )
    where
      long : length c ≡ m
      long = omega (arith, h.sized)

      -- The states behind have at least their fixed agents.
      others : sum_below m (λ s. fixed (suc s)) ≤ weigh (λ _. 1) c
      others =
          rw (weigh-sum (λ _. 1) c, long)
          (sum_mono m (λ s. fixed (suc s)) (λ s. 1 * get_or c s 0) (λ s b. omega (arith, kept-least _ _ _ (h.rule (suc s) (omega arith)))))

-- The members are just the ways to spread the agents.
member_over : (input : ℕ → Bool) (fixed : ℕ → ℕ) (m n : ℕ) (c : List ℕ) → Memᴰ c (starts_over input fixed m n) → StartOver input fixed m n c
unfolding starts_over weigh sum_below
member_over input fixed zero zero c h =
    subst (StartOver input fixed 0 0) (sym (Memᴰ.eq_of_singleton h))
    (record { sized = refl; agents = refl; rule = λ s b. absurd (omega arith) })
member_over input fixed zero (suc n) c h = absurd (Memᴰ.not-nil h)
member_over input fixed (suc m) n c h =
    let t = member_block _ c (cond (input 0) n 0) h in
    let u = Memᴰ.of_map (λ d. (fixed 0 + t.0) ∷ d) _ t.2 in
    subst (StartOver input fixed (suc m) n) u.2
    (front_over input fixed m n t.0 u.0 t.1 (member_over _ _ m (n - t.0) u.0 u.1))

over_member : (input : ℕ → Bool) (fixed : ℕ → ℕ) (m n : ℕ) (c : List ℕ) → StartOver input fixed m n c → Memᴰ c (starts_over input fixed m n)
unfolding starts_over weigh sum_below
over_member input fixed zero zero [] h = Memᴰ.head refl
over_member input fixed zero (suc n) [] h = absurd (omega (arith, h.agents))
over_member input fixed zero zero (x ∷ c) h = absurd (omega (arith, h.sized))
over_member input fixed zero (suc n) (x ∷ c) h = absurd (omega (arith, h.sized))
over_member input fixed (suc m) n [] h = absurd (omega (arith, h.sized))
over_member input fixed (suc m) n (x ∷ c) h =
    let t = over_front input fixed m n x c h in
    block_member _ (x ∷ c) (cond (input 0) n 0) (x - fixed 0) t.0
    (Memᴰ.cast (ap (λ k. k ∷ c) (sym t.1)) (Memᴰ.map _ (over_member _ _ m (n - (x - fixed 0)) c t.2)))

descending_starts : (input : ℕ → Bool) (fixed : ℕ → ℕ) (m n : ℕ) → Descending (starts_over input fixed m n)
unfolding starts_over
descending_starts input fixed zero zero = (λ y h. absurd (Memᴰ.not-nil h), tt)
descending_starts input fixed zero (suc n) = tt
descending_starts input fixed (suc m) n =
    let rest : ℕ → List (List ℕ) = λ k. starts_over (λ s. input (suc s)) (λ s. fixed (suc s)) m (n - k) in
    descending_down (λ k. map (λ c. (fixed 0 + k) ∷ c) (rest k))
    (λ k. descending_map (fixed 0 + k) (rest k) (descending_starts (λ s. input (suc s)) (λ s. fixed (suc s)) m (n - k)))
    (λ j k l. under_map (fixed 0 + j) (fixed 0 + k) (rest j) (rest k) (omega arith))
    (cond (input 0) n 0)

-- ---- The list of starts

module _ (P : Protocol) (n : ℕ) where
  -- A start is a way to spread its agents.
  start_over : (c : List ℕ) → StartWith P n c ↔ StartOver P.input P.fixed P.states n c
  unfolding size fixed_total
  start_over c = (
    λ h. record { sized = h.sized; agents = h.agents; rule = λ s l. ((h.rule s l).others, (h.rule s l).inputs) },
    λ h. record {
      sized = h.sized;
      agents = h.agents;
      rule = λ s l. record { others = (h.rule s l).0; inputs = (h.rule s l).1 };
    },
  )

  -- Each member is a start with n agents besides the fixed ones.
  pub each_start : (k : ℕ) → k < length (starts P n) → StartWith P n (start_at P n k)
  unfolding starts
  each_start k l = (start_over _).1 (member_over _ _ P.states n _ (member_at (starts P n) k l))

  -- Every such start is a member.
  pub every_start : (c : List ℕ) → StartWith P n c → (k : ℕ) × (k < length (starts P n)) × (start_at P n k ≡ c)
  unfolding starts
  every_start c h = member-place c (starts P n) (over_member _ _ P.states n c ((start_over c).0 h))

  -- A later one is before it in the lexicographic order: greatest first.
  pub descends : (i j : ℕ) → i < j → j < length (starts P n) → lex_less (start_at P n j) (start_at P n i) ≡ true
  unfolding starts
  descends = descending_at (starts P n) (descending_starts P.input P.fixed P.states n)

  -- So a member that is less stands later.
  less_later : (i j : ℕ) → i < length (starts P n) → j < length (starts P n) → lex_less (start_at P n i) (start_at P n j) ≡ true → j < i
  less_later i j l m h =
      by_cases (dec_lt j i) (λ b. b)
      (λ g.
      absurd
      (by_cases (ℕ_discrete i j)
      (λ e. less_irreflexive (start_at P n j) (ap (λ k. lex_less (start_at P n k) (start_at P n j)) (sym e) ∙ h))
      (λ o. less_irreflexive _ (less_transitive _ _ (start_at P n i) h (descends i j (omega arith) m)))))

  -- A start that none exceeds is the first.
  pub first-place : (c : List ℕ) → StartWith P n c → ((e : List ℕ) → StartWith P n e → lex_less c e ≡ true → ⊥)
      → (0 < length (starts P n)) × (start_at P n 0 ≡ c)
  first-place c h top =
      let t = every_start c h in
      by_cases (dec_lt 0 t.0)
      (λ l. absurd (top (start_at P n 0) (each_start 0 (omega (arith, t.1))) (rw t.2 at (descends 0 t.0 l t.1))))
      (λ g. let e : 0 ≡ t.0 = omega arith in (omega (arith, t.1), ap (start_at P n) e ∙ t.2))

  -- The greatest start below member k is the next one.
  pub next_place : (k : ℕ) → k < length (starts P n) → (d : List ℕ) → StartWith P n d → lex_less d (start_at P n k) ≡ true
      → ((e : List ℕ) → StartWith P n e → lex_less d e ≡ true → lex_less e (start_at P n k) ≡ true → ⊥)
      → (suc k < length (starts P n)) × (start_at P n (suc k) ≡ d)
  next_place k l d h less none =
      let t = every_start d h in
      let b = less_later t.0 k t.1 l (ap (λ e. lex_less e (start_at P n k)) t.2 ∙ less) in
      by_cases (dec_lt (suc k) t.0)
      (λ m.
      let j : suc k < length (starts P n) = omega (arith, t.1) in
      absurd
      (none (start_at P n (suc k)) (each_start (suc k) j)
      (ap (λ e. lex_less e (start_at P n (suc k))) (sym t.2) ∙ descends (suc k) t.0 m t.1)
      (descends k (suc k) (omega arith) j)))
      (λ g. let e : suc k ≡ t.0 = omega arith in (omega (arith, t.1), ap (start_at P n) e ∙ t.2))

  -- A member below which there is no start is the last.
  pub last-place : (k : ℕ) → k < length (starts P n) → ((e : List ℕ) → StartWith P n e → lex_less e (start_at P n k) ≡ true → ⊥)
      → suc k ≡ length (starts P n)
  last-place k l none =
      by_cases (dec_lt (suc k) (length (starts P n)))
      (λ m. absurd (none (start_at P n (suc k)) (each_start (suc k) m) (descends k (suc k) (omega arith) m)))
      (λ g. omega arith)
