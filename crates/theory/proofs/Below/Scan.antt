-- What loops need: one that looks for the lowest number below a bound, one that sums. Assumes nothing.
use Rattle.std.specs.Prelude.{◌≡◌, refl, Bool, true, false, ◌&&◌, ◌||◌, List, map, ℕ, zero, suc, ◌+◌, ◌≤◌, ◌<◌, ltb, Option, Some, None}
use Rattle.std.specs.Bool.{⊤}
use Rattle.std.specs.Option.{MatchOption}
use Rattle.std.specs.Iterator.{YieldsThen, Drains}
use Rattle.std.specs.Iterator.Adapters.{map_source, map_callee, map_steps}
use Rattle.std.specs.List.{FoldsTo, list_all, list_any, fold, range_with_len}
use Rattle.std.specs.Fn.{Called, CalledAt}
use Rattle.std.proofs.lemmas.Iterator.{first_from_Range, YieldsList-from_range, YieldsList-from_map}
use Rattle.std.proofs.lemmas.Iterator.Adapters.{total_from_yields_List}
use Rattle.std.proofs.lemmas.Iterator.Search.{all_from_yields_List, any_from_yields_List}
use Rattle.std.proofs.lemmas.List.FromFn.{sum_by-map-range_with_len_more}
use Rattle.std.proofs.iter.Yields.{nat_range_steps}
use Rattle.std.specs.declared.iter.Map.{Map}
use Rattle.std.specs.declared.ops.Range.{Range}
use denote.Param.Members.{Mut}
use denote.Ref.{Bor}
use Rattle.std.proofs.Common.{sym, ap, ap₂, ◌∙◌, add-one, arith, below_none, below_more, lt-ltb, le-ltb, ltb-true, ltb-false}
use Rattle.theory.proofs.Bool.Laws.{by_test, not_both}
use Rattle.theory.specs.Below.{Clear, all_below, any_below, first_below, sum_below}
use Rattle.theory.specs.Below.Ends.{first_where}
use Rattle.theory.proofs.Below.Laws.{all_same, any_elim, any_same, any_fails, first_passes, first-lowest, first_min, first_is}
use Rattle.std.proofs.Math.Logic.{by_cases}
use Rattle.std.proofs.Math.Decide.{dec_lt}

-- At the start of the search, after a turn, where it stops early, and at its end. The test of a turn is t.
pub clear_none : (f : ℕ → Bool) → Clear f 0
clear_none f = below_none (λ k. f k ≡ false)

pub clear_more : (f : ℕ → Bool) (i : ℕ) (t : Bool) → Clear f i → t ≡ f i → t ≡ false → Clear f (i + 1)
clear_more f i t h e u = below_more (λ k. f k ≡ false) i h (sym e ∙ u)

pub first_hit : (n : ℕ) (f : ℕ → Bool) (i : ℕ) (t : Bool) → i < n → Clear f i → t ≡ f i → t ≡ true → i ≡ first_below n f
first_hit n f i t l h e u = sym (first_is n f i (omega arith) h (λ _. sym e ∙ u))

pub first-end : (n : ℕ) (f : ℕ → Bool) (i : ℕ) → i ≤ n → n ≤ i → Clear f i → i ≡ first_below n f
first-end n f i l m h = sym (first_is n f i l h (λ k. absurd (omega arith)))

pub ruleset scan = (clear_none, clear_more, first_hit, first-end)

-- The search finds a number just where some number passes.
pub first_any : (n : ℕ) (f : ℕ → Bool) → ltb (first_below n f) n ≡ any_below n f
first_any n f =
    by_test (any_below n f)
    (λ e. let k = any_elim n f e in lt-ltb (first_below n f) n (omega (arith, k.1, first_min n f k.0 k.2)) ∙ sym e)
    (λ e.
    le-ltb (first_below n f) n
    (by_cases (dec_lt (first_below n f) n) (λ l. absurd (not_both (first_passes n f l) (any_fails n f e (first_below n f) l))) (λ g. omega arith))
    ∙ sym e)

pub found : (n : ℕ) (f : ℕ → Bool) (k : ℕ) → k ≡ first_below n f → ltb k n ≡ any_below n f
found n f k e = ap (λ i. ltb i n) e ∙ first_any n f

-- Where the search finds none, no number below n passes.
pub first_clear : (n : ℕ) (f : ℕ → Bool) → n ≤ first_below n f → Clear f n
first_clear n f h k l = any_fails n f (sym (first_any n f) ∙ le-ltb _ _ h) k l

-- A sum made number by number.
pub sum_none : (f : ℕ → ℕ) → 0 ≡ sum_below 0 f
unfolding sum_below
sum_none f = refl

pub sum_more : (f : ℕ → ℕ) (i a w : ℕ) → a ≡ sum_below i f → w ≡ f i → a + w ≡ sum_below (i + 1) f
unfolding sum_below
sum_more f i a w d e = rw (add-one i) (omega arith)

-- Turns whose test is the definition itself.
pub clear_next : (f : ℕ → Bool) (i : ℕ) → Clear f i → f i ≡ false → Clear f (i + 1)
clear_next f i h e = clear_more f i (f i) h refl e

pub first_at : (n : ℕ) (f : ℕ → Bool) (i : ℕ) → i < n → Clear f i → f i ≡ true → i ≡ first_below n f
first_at n f i l h e = first_hit n f i (f i) l h refl e

-- A loop that counts up to n and knows x of each place it comes to: what it knows at the end.
pub at_end : {A : Type 0} (f : ℕ → A) (i n : ℕ) (x : A) → x ≡ f i → i ≤ n → n ≤ i → x ≡ f n
at_end f i n x h l m = h ∙ ap f (let e : i ≡ n = omega arith in e)

pub sum_done : (f : ℕ → ℕ) (i n a : ℕ) → a ≡ sum_below i f → i ≤ n → n ≤ i → a ≡ sum_below n f
sum_done f = at_end (λ k. sum_below k f)

-- ---- The lowest number that passes, if there is one

-- r is that number, or none passes and r is None.
pub first_where-is : (n : ℕ) (f : ℕ → Bool) (r : Option ℕ)
    → MatchOption r (Clear f n) (λ i. (i < n) × (f i ≡ true) × Clear f i) → r ≡ first_where n f
unfolding first_where
first_where-is n f (Some i) h =
    let e = first_is n f i (omega (arith, h.0)) h.2 (λ _. h.1) in rw (e, lt-ltb i n h.0) refl
first_where-is n f None h =
    let e = first_is n f n (omega arith) h (λ l. absurd (omega arith)) in rw (e, le-ltb n n (omega arith)) refl

-- What it says of r.
pub first_where-tells : (n : ℕ) (f : ℕ → Bool) (r : Option ℕ) → r ≡ first_where n f
    → MatchOption r (Clear f n) (λ i. (i < n) × (f i ≡ true) × Clear f i)
unfolding first_where
first_where-tells n f r e =
    rw e
    (by_test (ltb (first_below n f) n)
    (λ t. rw t (let l = ltb-true (first_below n f) n t in (l, first_passes n f l, λ k m. first-lowest n f k m)))
    (λ t. rw t (first_clear n f (ltb-false (first_below n f) n t))))

-- A loop that counts up: where it stops early, and at its end.
pub where_hit : (n : ℕ) (f : ℕ → Bool) (i : ℕ) (t : Bool) → i < n → Clear f i → t ≡ f i → t ≡ true → Some i ≡ first_where n f
where_hit n f i t l h e u = first_where-is n f (Some i) (l, sym e ∙ u, h)

pub where-end : (n : ℕ) (f : ℕ → Bool) (i : ℕ) → n ≤ i → Clear f i → None ≡ first_where n f
where-end n f i m h = first_where-is n f None (λ k l. h k (omega arith))

pub ruleset seek = (clear_none, clear_more, where_hit, where-end)

-- `find` over the numbers below n, with a closure that computes f.
pub found_where : {F : Type 0} {g : Mut F (Bor ℕ × Unit {0}) Bool} (n : ℕ) (f : ℕ → Bool) (s u : Range ℕ) (p : F) (r : Option ℕ)
    → (xs : List ℕ) × (j : F) × YieldsThen nat_range_steps s xs r u × FoldsTo (λ p x q. CalledAt g p x false q) p xs j
    × MatchOption r ⊤ (λ x. (h : F) × CalledAt g j x true h)
    → s ≡ record { start = 0; end = n } → ((x : ℕ) (b : Bool) (q : F) → CalledAt g p x b q → (q ≡ p) × (b ≡ f x)) → r ≡ first_where n f
found_where n f s u p r ran e calls =
    first_where-is n f r
    (bounds r (first_from_Range s u p r (λ x. f x ≡ true) (λ x. f x ≡ false) ran
    (λ x q h. sym (calls x true q h).1) (λ x q h. ((calls x false q h).0, sym (calls x false q h).1))))
  where
    bounds : (r : Option ℕ)
        → MatchOption r ((k : ℕ) → s.start ≤ k → k < s.end → f k ≡ false)
        (λ i. (s.start ≤ i) × (i < s.end) × (f i ≡ true) × ((k : ℕ) → s.start ≤ k → k < i → f k ≡ false))
        → MatchOption r (Clear f n) (λ i. (i < n) × (f i ≡ true) × Clear f i)
    bounds (Some i) h = (rw e at h.1, h.2, λ k l. h.3 k (rw e (omega arith)) l)
    bounds None h = λ k l. h k (rw e (omega arith)) (rw e l)

-- ---- `any` over the numbers below n

or_swap : (a b c : Bool) → a || (b || c) ≡ b || (a || c)
or_swap true true c = refl
or_swap true false c = refl
or_swap false b c = refl

-- The numbers below n + 1 are 0 and the successors of those below n.
any_front : (n : ℕ) (f : ℕ → Bool) → any_below (suc n) f ≡ f 0 || any_below n (λ k. f (suc k))
unfolding any_below
any_front zero f = refl
any_front (suc n) f = ap (λ t. f (suc n) || t) (any_front n f) ∙ or_swap (f (suc n)) (f 0) (any_below n (λ k. f (suc k)))

range_any : (n a : ℕ) (f : ℕ → Bool) → list_any f (range_with_len a n) ≡ any_below n (λ k. f (a + k))
unfolding any_below
range_any zero a f = refl
range_any (suc n) a f =
    ap₂ (λ s t. s || t) (ap f (let e : a ≡ a + 0 = omega arith in e))
    (range_any n (a + 1) f ∙ any_same n (λ k. f (a + 1 + k)) (λ k. f (a + suc k)) (λ k l. ap f (omega arith)))
    ∙ sym (any_front n (λ k. f (a + k)))

pub any_found : {F : Type 0} {g : Mut F (ℕ × Unit {0}) Bool} (n : ℕ) (f : ℕ → Bool) (s u : Range ℕ) (p : F) (r : Bool)
    → (xs : List ℕ) × (o : Option ℕ) × (j : F) × YieldsThen nat_range_steps s xs o u × FoldsTo (λ p x q. Called g p (x, tt) false q) p xs j
    × MatchOption o (r ≡ false) (λ x. (r ≡ true) × ((h : F) × Called g j (x, tt) true h))
    → s ≡ record { start = 0; end = n } → ((x : ℕ) (b : Bool) (q : F) → Called g p (x, tt) b q → (q ≡ p) × (b ≡ f x)) → r ≡ any_below n f
any_found n f s u p r ran e calls =
    any_from_yields_List f u p r ran (YieldsList-from_range 0 n n e (omega arith)) calls ∙ range_any n 0 f
    ∙ any_same n (λ k. f (0 + k)) f (λ k l. ap f (omega arith))

-- ---- `all` over the numbers below n

and_swap : (a b c : Bool) → a && (b && c) ≡ b && (a && c)
and_swap true b c = refl
and_swap false true c = refl
and_swap false false c = refl

all_front : (n : ℕ) (f : ℕ → Bool) → all_below (suc n) f ≡ f 0 && all_below n (λ k. f (suc k))
unfolding all_below
all_front zero f = refl
all_front (suc n) f = ap (λ t. f (suc n) && t) (all_front n f) ∙ and_swap (f (suc n)) (f 0) (all_below n (λ k. f (suc k)))

range_all : (n a : ℕ) (f : ℕ → Bool) → list_all f (range_with_len a n) ≡ all_below n (λ k. f (a + k))
unfolding all_below
range_all zero a f = refl
range_all (suc n) a f =
    ap₂ (λ s t. s && t) (ap f (let e : a ≡ a + 0 = omega arith in e))
    (range_all n (a + 1) f ∙ all_same n (λ k. f (a + 1 + k)) (λ k. f (a + suc k)) (λ k l. ap f (omega arith)))
    ∙ sym (all_front n (λ k. f (a + k)))

pub all_found : {F : Type 0} {g : Mut F (ℕ × Unit {0}) Bool} (n : ℕ) (f : ℕ → Bool) (s u : Range ℕ) (p : F) (r : Bool)
    → (xs : List ℕ) × (o : Option ℕ) × (j : F) × YieldsThen nat_range_steps s xs o u × FoldsTo (λ p x q. Called g p (x, tt) true q) p xs j
    × MatchOption o (r ≡ true) (λ x. (r ≡ false) × ((h : F) × Called g j (x, tt) false h))
    → s ≡ record { start = 0; end = n } → ((x : ℕ) (b : Bool) (q : F) → Called g p (x, tt) b q → (q ≡ p) × (b ≡ f x)) → r ≡ all_below n f
all_found n f s u p r ran e calls =
    all_from_yields_List f u p r ran (YieldsList-from_range 0 n n e (omega arith)) calls ∙ range_all n 0 f
    ∙ all_same n (λ k. f (0 + k)) f (λ k l. ap f (omega arith))

-- ---- `map` and `sum` over the numbers below n

range_sum : (n : ℕ) (f : ℕ → ℕ) → fold (λ a x. a + x) 0 (map f (range_with_len 0 n)) ≡ sum_below n f
unfolding sum_below
range_sum zero f = refl
range_sum (suc n) f =
    ap (λ k. fold (λ a x. a + x) 0 (map f (range_with_len 0 k))) (sym (add-one n))
    ∙ sum_by-map-range_with_len_more (λ x. x) f 0 n n (omega arith)
    ∙ ap (λ k. k + f n) (range_sum n f)

pub sum_found : {F : Type 0} {g : Mut F (ℕ × Unit {0}) ℕ} (n : ℕ) (f : ℕ → ℕ) (s : Map (Range ℕ) F) (p : F) (r : ℕ)
    → (xs : List ℕ) × (Unit {0} → Drains (map_steps nat_range_steps g) s xs) × (r ≡ fold (λ a x. a + x) 0 xs)
    → map_source s ≡ record { start = 0; end = n } → map_callee s ≡ p
    → ((x r : ℕ) (q : F) → Called g p (x, tt) r q → (q ≡ p) × (r ≡ f x)) → r ≡ sum_below n f
sum_found n f s p r ran e d calls =
    total_from_yields_List (λ a x. a + x) 0 r ran (YieldsList-from_map _ f (YieldsList-from_range 0 n n e (omega arith)) d calls) ∙ range_sum n f
