-- The members of a number, what the operations on words do to them, and sets in arrays of words. Where a law needs no
-- bound it is of every number. Assumes nothing.
use Rattle.std.specs.Prelude.{◌≡◌, refl, Bool, true, false, not, ◌&&◌, ◌||◌, List, length, get_or, set, replicate}
use Rattle.std.proofs.Math.Path.{sym, ap, fun_ext}
use Rattle.std.proofs.Common.{◌∙◌, subst, zero-mul, mod-lt, pow-suc, div-one, lt_of_lt_of_le, one-mul, one-add, pow_pos, pow_mono, shr-shr, shl_exact, get_or-set_other}
use Rattle.std.specs.Bool.{beq}
use Rattle.std.proofs.Math.Bool.{and-false, and-true, and_comm, or-false}
use Rattle.std.proofs.Math.Logic.{by_cases}
use Prim.Native.Nat.{ℕ, zero, suc, ◌+◌, ◌-◌, ◌*◌, ◌/◌, ◌%◌, ◌^◌, ◌≤◌, ◌<◌, min, max}
use Rattle.std.proofs.Math.Nat.{pow-zero, zero-div, div-eq_of_lt}
use Rattle.std.proofs.Math.Decide.{dec_lt}
use native.Mathlib.Omega.{arith}
use Rattle.std.proofs.Math.Arith.{digits_mod, digits_div, lt_of_le-ne, lt-one, bin_ind}
use Rattle.std.specs.Int.Bits.{bit_and, bit_or, and_step, or_step}
use Rattle.std.proofs.lemmas.Nat.{and_le_l}
use Rattle.std.specs.Int.Count.{ones, ones_step, count_trailing_zeros}
use Rattle.std.proofs.Math.Dec.{eqb, ltb, eqb-zero-suc, eqb-suc-zero, eqb-suc-suc, leb-suc-suc}
use Rattle.std.proofs.Math.Seq.{get_or-set_same}
use borrow.Author.Tests.{eq-eqb, ne_eqb, lt-ltb, le-ltb, ltb-true, ltb-false, eqb-true, eqb-false}
use Rattle.theory.specs.Bool.{member, imp, bit}
use Rattle.theory.proofs.Bool.Laws.{by_test, not_both, is_false, and_elim, beq_true, eq_beq}
use Rattle.theory.specs.Below.{all_below, first_below, sum_below}
use Rattle.theory.proofs.Below.Laws.{all_elim, all_intro, all_fails, sum-front}
use Rattle.theory.proofs.Below.Scan.{at_end}
use Rattle.bits.specs.Code.{single_of, full_of, among_of, union_of, with_if, without_of, in_words, in_word, first_words, Among}

-- ---- The lowest digit and the others

bit_lt : (x : Bool) → bit x < 2
bit_lt true = omega arith
bit_lt false = omega arith

bit_not : (x : Bool) → bit (not x) + bit x ≡ 1
bit_not true = refl
bit_not false = refl

bit_eqb : (x : Bool) → eqb (bit x) 1 ≡ x
bit_eqb true = refl
bit_eqb false = refl

eqb_bit : (d : ℕ) → d < 2 → d ≡ bit (eqb d 1)
eqb_bit zero h = refl
eqb_bit (suc zero) h = refl
eqb_bit (suc (suc d)) h = absurd (omega arith)

member_zero : (w : ℕ) → member w 0 ≡ eqb (w % 2) 1
unfolding member
member_zero w = ap (λ (x : ℕ). eqb (x % 2) 1) (ap (λ (y : ℕ). w / y) (pow-zero 2) ∙ div-one w)

pub member_suc : (w i : ℕ) → member w (suc i) ≡ member (w / 2) i
unfolding member
member_suc w i = ap (λ (x : ℕ). eqb (x % 2) 1) (sym (shr-shr w 1 i ∙ ap (λ (k : ℕ). w / 2 ^ k) (one-add i)))

half_members : (w : ℕ) → (λ i. member w (suc i)) ≡ member (w / 2)
half_members w = fun_ext (member_suc w)

lowest_digit : (w : ℕ) → w % 2 ≡ bit (member w 0)
lowest_digit w = rw (member_zero w) (eqb_bit (w % 2) (mod-lt w (omega arith)))

halves : (w : ℕ) → w ≡ w / 2 * 2 + bit (member w 0)
halves w = omega (arith, lowest_digit w)

half_lt : (k w : ℕ) → w < 2 ^ suc k → w / 2 < 2 ^ k
half_lt k w h = omega (arith, pow-suc 2 k)

-- The members of a number put together of its lowest digit and the others.
low : (q : ℕ) (x : Bool) → member (q * 2 + bit x) 0 ≡ x
low q x = rw (member_zero (q * 2 + bit x), digits_mod q (bit_lt x)) (bit_eqb x)

high : (q : ℕ) (x : Bool) (i : ℕ) → member (q * 2 + bit x) (suc i) ≡ member q i
high q x i = rw (member_suc (q * 2 + bit x) i, digits_div q (bit_lt x))

-- ---- Which members there are

pub member_none : (i : ℕ) → member 0 i ≡ false
unfolding member
member_none i = rw (zero-div (2 ^ i))

some-member : (w : ℕ) → 0 < w → (i : ℕ) × (member w i ≡ true)
some-member =
    bin_ind (λ w. 0 < w → (i : ℕ) × (member w i ≡ true))
    (λ h. absurd (omega arith))
    (λ w below h.
    by_test (member w 0)
    (λ e. (0, e))
    (λ e. let s = below (omega (arith, halves w, ap bit e)) in (suc s.0, member_suc w s.0 ∙ s.1)))

empty : (w : ℕ) → ((i : ℕ) → member w i ≡ false) → w ≡ 0
empty w h = by_cases (dec_lt 0 w) (λ l. let s = some-member w l in absurd (not_both s.1 (h s.0))) (λ g. omega arith)

-- The members of a number below 2 ^ k are below k, and conversely.
pub member_above : (k w i : ℕ) → w < 2 ^ k → k ≤ i → member w i ≡ false
unfolding member
member_above k w i h l = rw (div-eq_of_lt (lt_of_lt_of_le h (pow_mono l)))

pub member_small : (k w : ℕ) → ((i : ℕ) → k ≤ i → member w i ≡ false) → w < 2 ^ k
member_small zero w h = omega (arith, empty w (λ i. h i (omega arith)))
member_small (suc k) w h = omega (arith, pow-suc 2 k, member_small k (w / 2) (λ i l. sym (member_suc w i) ∙ h (suc i) (omega arith)))

-- ---- Numbers with the same members are equal

ext : (a b : ℕ) → member a ≡ member b → a ≡ b
ext =
    bin_ind (λ a. (b : ℕ) → member a ≡ member b → a ≡ b)
    (λ b h. sym (empty b (λ i. ap (λ (f : ℕ → Bool). f i) (sym h) ∙ member_none i)))
    (λ a below b h.
    let above : a / 2 ≡ b / 2 = below (b / 2) (fun_ext (λ i. sym (member_suc a i) ∙ ap (λ (f : ℕ → Bool). f (suc i)) h ∙ member_suc b i)) in
    omega (arith, halves a, halves b, ap (λ (f : ℕ → Bool). bit (f 0)) h))

same : (k a b : ℕ) → a < 2 ^ k → b < 2 ^ k → ((i : ℕ) → i < k → member a i ≡ member b i) → a ≡ b
same k a b ha hb h =
    ext a b (fun_ext (λ i. by_cases (dec_lt i k) (h i) (λ g. member_above k a i ha (omega arith) ∙ sym (member_above k b i hb (omega arith)))))

equal_test : (k a b : ℕ) → a < 2 ^ k → b < 2 ^ k → eqb a b ≡ all_below k (λ i. beq (member a i) (member b i))
equal_test k a b ha hb =
    by_test (all_below k (λ i. beq (member a i) (member b i)))
    (λ e. eq-eqb a b (same k a b ha hb (λ i l. beq_true _ _ (all_elim k _ e i l))) ∙ sym e)
    (λ e. let s = all_fails k _ e in ne_eqb a b (λ q. not_both (eq_beq _ _ (ap (λ (x : ℕ). member x s.0) q)) s.2) ∙ sym e)

beq_false : (x : Bool) → beq x false ≡ not x
beq_false true = refl
beq_false false = refl

empty_test : (k w : ℕ) → w < 2 ^ k → eqb w 0 ≡ all_below k (λ i. not (member w i))
empty_test k w h = equal_test k w 0 h (pow_pos k) ∙ ap (all_below k) (fun_ext (λ i. rw (member_none i) (beq_false (member w i))))

-- ---- The operations

-- What works digit by digit works member by member.
by_digits : (op : ℕ → ℕ → ℕ) (g : Bool → Bool → Bool) → ((a b : ℕ) → op a b ≡ op (a / 2) (b / 2) * 2 + bit (g (member a 0) (member b 0)))
    → (i a b : ℕ) → member (op a b) i ≡ g (member a i) (member b i)
by_digits op g step zero a b = rw (step a b) (low _ _)
by_digits op g step (suc i) a b = rw (step a b, high, member_suc a i, member_suc b i) (by_digits op g step i (a / 2) (b / 2))

min_bit : (x y : Bool) → min (bit x) (bit y) ≡ bit (x && y)
min_bit true true = refl
min_bit true false = refl
min_bit false true = refl
min_bit false false = refl

max_bit : (x y : Bool) → max (bit x) (bit y) ≡ bit (x || y)
max_bit true true = refl
max_bit true false = refl
max_bit false true = refl
max_bit false false = refl

pub member_and : (a b i : ℕ) → member (bit_and a b) i ≡ member a i && member b i
member_and a b i = by_digits bit_and ◌&&◌ (λ x y. and_step x y ∙ rw (lowest_digit x, lowest_digit y, min_bit)) i a b

pub member_or : (a b i : ℕ) → member (bit_or a b) i ≡ member a i || member b i
member_or a b i = by_digits bit_or ◌||◌ (λ x y. or_step x y ∙ rw (lowest_digit x, lowest_digit y, max_bit)) i a b

not_step : (k w : ℕ) → w < 2 ^ suc k → 2 ^ suc k - 1 - w ≡ (2 ^ k - 1 - w / 2) * 2 + bit (not (member w 0))
not_step k w h = omega (arith, pow-suc 2 k, halves w, bit_not (member w 0))

-- The complement in k bits.
pub member_not : (k w i : ℕ) → w < 2 ^ k → member (2 ^ k - 1 - w) i ≡ ltb i k && not (member w i)
member_not zero w i h = rw (lt-one h, le-ltb i 0 (omega arith)) (member_none i)
member_not (suc k) w zero h = rw (not_step k w h, lt-ltb 0 (suc k) (omega arith)) (low _ _)
member_not (suc k) w (suc i) h = rw (not_step k w h, high, leb-suc-suc, member_suc) (member_not k (w / 2) i (half_lt k w h))

pub member_ones : (k i : ℕ) → member (2 ^ k - 1) i ≡ ltb i k
member_ones k i =
    let e : 2 ^ k - 1 ≡ 2 ^ k - 1 - 0 = omega arith in
    rw e (member_not k 0 i (pow_pos k) ∙ rw (member_none i) (and-true (ltb i k)))

power_step : (j : ℕ) → 2 ^ suc j ≡ 2 ^ j * 2 + bit false
power_step j = omega (arith, pow-suc 2 j)

pub member_power : (j i : ℕ) → member (2 ^ j) i ≡ eqb j i
member_power zero zero = low 0 true
member_power zero (suc i) = high 0 true i ∙ member_none i ∙ sym (eqb-zero-suc i)
member_power (suc j) zero = rw (power_step j, eqb-suc-zero j) (low (2 ^ j) false)
member_power (suc j) (suc i) = rw (power_step j, eqb-suc-suc j i, high (2 ^ j) false i) (member_power j i)

-- ---- What the functions ensure

bounded : (k j : ℕ) (x : Bool) → (x ≡ true → j < k) → ltb j k && x ≡ x
bounded k j true h = rw (lt-ltb j k (h refl))
bounded k j false h = and-false (ltb j k)

pub single-below : (i : ℕ) → i < 64 → single_of i ≡ eqb i
single-below i h = fun_ext (λ j. bounded 64 j (eqb i j) (λ e. omega (arith, eqb-true i j e)))

pub full_below : (n : ℕ) → n ≤ 64 → full_of n ≡ (λ j. ltb j n)
full_below n h = fun_ext (λ j. bounded 64 j (ltb j n) (λ e. omega (arith, ltb-true j n e)))

-- `1 << i` in k bits.
pub one_shl : (k i : ℕ) → i < k → 1 * 2 ^ i % 2 ^ k ≡ 2 ^ i
one_shl k i h = shl_exact 1 i k (omega arith) (omega arith) ∙ one-mul (2 ^ i)

pub single_is : (i : ℕ) → i < 64 → member (1 * 2 ^ i % 2 ^ 64) ≡ single_of i
single_is i h = rw (one_shl 64 i h, single-below i h) (fun_ext (member_power i))

pub single_none : (i : ℕ) → 64 ≤ i → member 0 ≡ single_of i
single_none i h =
    fun_ext
    (λ j.
    member_none j
    ∙ sym (is_false _ (λ e. let t = and_elim (ltb j 64) _ e in omega (arith, ltb-true j 64 t.0, eqb-true i j t.1))))

pub full_is : (n : ℕ) → n < 64 → member (1 * 2 ^ n % 2 ^ 64 - 1) ≡ full_of n
full_is n h = rw (one_shl 64 n h, full_below n (omega arith)) (fun_ext (member_ones n))

pub full_all : (n : ℕ) → 64 ≤ n → member (2 ^ 64 - 1) ≡ full_of n
full_all n h =
    fun_ext (λ j. member_ones 64 j ∙ sym (and_comm (ltb j 64) (ltb j n) ∙ bounded n j (ltb j 64) (λ e. omega (arith, ltb-true j 64 e))))

pub union_is : (a b : ℕ) → member (bit_or a b) ≡ union_of a b
union_is a b = fun_ext (member_or a b)

zero_times : (m : ℕ) → 0 * m % 2 ^ 64 ≡ 0
zero_times m = rw (zero-mul m)

-- The bit of a test at place i.
pub with_if_is : (t : Bool) (i w b v : ℕ) → i < 64 → b ≡ bit t → member v ≡ union_of w (b * 2 ^ i % 2 ^ 64) → member v ≡ with_if t i w
unfolding with_if
with_if_is true i w b v h e d = rw e at d ∙ fun_ext (λ j. ap (λ (A : ℕ → Bool). member w j || A j) (single_is i h))
with_if_is false i w b v h e d = rw e at d ∙ fun_ext (λ j. ap (λ x. member w j || x) (rw (zero_times (2 ^ i), member_none j)))

pub with_if_none : (t : Bool) (i w : ℕ) → 64 ≤ i → member w ≡ with_if t i w
unfolding with_if
with_if_none t i w h =
    fun_ext (λ j. sym (ap (λ b. member w j || b) (none t (single_of i j) (sym (ap (λ (A : ℕ → Bool). A j) (single_none i h)) ∙ member_none j))
    ∙ or-false (member w j)))
  where
    none : (t b : Bool) → b ≡ false → t && b ≡ false
    none true b e = e
    none false b e = refl

pub without_is : (a b : ℕ) → a < 2 ^ 64 → b < 2 ^ 64 → member (bit_and a (2 ^ 64 - 1 - b)) ≡ without_of a b
without_is a b ha hb =
    fun_ext
    (λ j.
    rw (member_and a (2 ^ 64 - 1 - b) j, member_not 64 b j hb)
    (by_test (ltb j 64) (λ e. rw e) (λ e. rw (member_above 64 a j ha (ltb-false j 64 e)))))

and_imp : (x y : Bool) → beq (x && y) x ≡ imp x y
and_imp true true = refl
and_imp true false = refl
and_imp false y = refl

pub subset_is : (k a b : ℕ) → a < 2 ^ k → eqb (bit_and a b) a ≡ all_below k (λ i. imp (member a i) (member b i))
subset_is k a b h =
    equal_test k (bit_and a b) a (omega (arith, and_le_l a b)) h
    ∙ ap (all_below k) (fun_ext (λ i. rw (member_and a b i) (and_imp (member a i) (member b i))))

pub disjoint_is : (k a b : ℕ) → a < 2 ^ k → eqb (bit_and a b) 0 ≡ all_below k (λ i. not (member a i && member b i))
disjoint_is k a b h =
    empty_test k (bit_and a b) (omega (arith, and_le_l a b)) ∙ ap (all_below k) (fun_ext (λ i. ap not (member_and a b i)))

pub size_is : (k w : ℕ) → w < 2 ^ k → ones w ≡ sum_below k (λ i. bit (member w i))
unfolding sum_below ones
size_is zero w h = ap ones (lt-one h)
size_is (suc k) w h =
    omega (
      arith,
      ones_step w,
      lowest_digit w,
      sum-front k (λ i. bit (member w i)),
      size_is k (w / 2) (half_lt k w h),
      ap (λ (f : ℕ → Bool). sum_below k (λ i. bit (f i))) (half_members w),
    )

pub lowest_is : (k w : ℕ) → count_trailing_zeros k w ≡ first_below k (member w)
unfolding count_trailing_zeros first_below
lowest_is zero w = refl
lowest_is (suc k) w =
    rw (lowest_digit w, lowest_is k (w / 2), ← half_members w)
    (by_test (member w 0) (λ e. rw (e, first_below)) (λ e. rw (e, first_below)))

-- ---- Words whose members are below n

-- A test that every number from n on passes.
pub all_wider : (k n : ℕ) (f : ℕ → Bool) → n ≤ k → ((i : ℕ) → n ≤ i → f i ≡ true) → all_below k f ≡ all_below n f
all_wider k n f l h =
    by_test (all_below n f)
    (λ e. all_intro k f (λ i _. by_cases (dec_lt i n) (all_elim n f e i) (λ g. h i (omega arith))) ∙ sym e)
    (λ e. let s = all_fails n f e in is_false _ (λ t. not_both (all_elim k f t s.0 (omega (arith, s.1))) s.2) ∙ sym e)

pub subset_states : (k n w : ℕ) (f : ℕ → Bool) → n ≤ k → w < 2 ^ n
    → all_below k (λ i. imp (member w i) (f i)) ≡ all_below n (λ i. imp (member w i) (f i))
subset_states k n w f l h = all_wider k n _ l (λ i m. rw (member_above n w i h m))

-- ---- A set gathered number by number: at the start, after a turn with the test t, at the end

-- The tests below i + 1 are those below i and the one at i.
up_to : (f : ℕ → Bool) (i s : ℕ) → ltb s (i + 1) && f s ≡ ltb s i && f s || (f i && eqb i s)
up_to f i s =
    by_cases (dec_lt s i)
    (λ l. rw (lt-ltb s (i + 1) (omega arith), lt-ltb s i l, ne_eqb i s (λ e. omega arith), and-false (f i)) (sym (or-false (f s))))
    (λ g.
    by_test (eqb i s)
    (λ e. let q : i ≡ s = eqb-true _ _ e in rw (lt-ltb s (i + 1) (omega arith), le-ltb s i (omega arith), e, q) (sym (and-true (f s))))
    (λ e. let q : i ≡ s → ⊥ = eqb-false _ _ e in rw (le-ltb s (i + 1) (omega arith), le-ltb s i (omega arith), e) (sym (and-false (f i)))))

-- Both sides of an or inside the word.
inside : (x y a b : Bool) → (x && y) || (a && (x && b)) ≡ x && (y || (a && b))
inside true y a b = refl
inside false y a b = and-false a

module _ (f : ℕ → Bool) where
  pub among_none : member 0 ≡ among_of 0 f
  unfolding among_of
  among_none = fun_ext (λ s. member_none s ∙ rw (le-ltb s 0 (omega arith)) (sym (and-false (ltb s 64))))

  pub among_more : (i w v : ℕ) (t : Bool) → member w ≡ among_of i f → t ≡ f i → member v ≡ with_if t i w → member v ≡ among_of (i + 1) f
  unfolding among_of with_if
  among_more i w v t h e d =
      fun_ext
      (λ s.
      ap (λ (A : ℕ → Bool). A s) d
      ∙ ap (λ (A : ℕ → Bool). A s || (t && (ltb s 64 && eqb i s))) h
      ∙ rw e (inside (ltb s 64) (ltb s i && f s) (f i) (eqb i s) ∙ ap (λ x. ltb s 64 && x) (sym (up_to f i s))))

  pub among_done : (i n w : ℕ) → member w ≡ among_of i f → i ≤ n → n ≤ i → member w ≡ among_of n f
  among_done i n w = at_end (λ k. among_of k f) i n (member w)

pub ruleset gathering = (among_none, among_more, among_done)

-- ---- A set gathered by a test that the caller hands in: at the start, after a turn with the answer t, at the end

module _ (Gives : ℕ → Bool → Type 0) where
  pub gather_none : Among Gives 0 0
  gather_none = record { inside = λ i l m. absurd (omega arith); beyond = λ i l. member_none i }

  -- The members after a turn: i where the test passed, and those from before.
  turn : (i w v : ℕ) (t : Bool) → member v ≡ with_if t i w → (s : ℕ) → member v s ≡ member w s || (t && (ltb s 64 && eqb i s))
  unfolding with_if
  turn i w v t d s = ap (λ (A : ℕ → Bool). A s) d

  turn_other : (i w v : ℕ) (t : Bool) → member v ≡ with_if t i w → (s : ℕ) → (i ≡ s → ⊥) → member w s ≡ member v s
  turn_other i w v t d s q =
      sym (turn i w v t d s ∙ rw (ne_eqb i s q, and-false (ltb s 64), and-false t) (or-false (member w s)))

  turn_here : (i w v : ℕ) (t : Bool) → member v ≡ with_if t i w → member w i ≡ false → i < 64 → t ≡ member v i
  turn_here i w v t d e l = sym (turn i w v t d i ∙ rw (e, lt-ltb i 64 l, eq-eqb i i refl) (and-true t))

  pub gather_more : (i w v : ℕ) (t : Bool) → Among Gives i w → Gives i t → member v ≡ with_if t i w → Among Gives (i + 1) v
  gather_more i w v t h g d =
      record {
        inside = λ s l m.
            by_cases (dec_lt s i)
            (λ b. subst (Gives s) (turn_other i w v t d s (λ e. omega arith)) (h.inside s b m))
            (λ b.
            let q : i ≡ s = omega arith in
            subst (λ j. Gives j (member v j)) q
            (subst (Gives i) (turn_here i w v t d (h.beyond i (omega arith)) (omega arith)) g));
        beyond = λ s l. sym (turn_other i w v t d s (λ e. omega arith)) ∙ h.beyond s (omega arith);
      }

  -- Where the test computes f, they are the numbers that pass f.
  pub gathered : (n w : ℕ) (f : ℕ → Bool) → Among Gives n w → w < 2 ^ 64 → ((i : ℕ) (t : Bool) → i < n → Gives i t → t ≡ f i)
      → member w ≡ among_of n f
  unfolding among_of
  gathered n w f h l computes =
      fun_ext
      (λ s.
      by_cases (dec_lt s 64)
      (λ m.
      by_cases (dec_lt s n)
      (λ b. computes s (member w s) b (h.inside s b m) ∙ sym (rw (lt-ltb s 64 m, lt-ltb s n b)))
      (λ b. h.beyond s (omega arith) ∙ sym (rw (lt-ltb s 64 m, le-ltb s n (omega arith)))))
      (λ m. member_above 64 w s l (omega arith) ∙ sym (rw (le-ltb s 64 (omega arith)))))

-- ---- Sets in an array of words

zeros : (n i : ℕ) → get_or {A = ℕ} (replicate n 0) i 0 ≡ 0
zeros zero i = refl
zeros (suc n) zero = refl
zeros (suc n) (suc i) = zeros n i

words_none : (n i : ℕ) → in_words (replicate n 0) i ≡ false
unfolding in_words
words_none n i = rw (zeros n (i / 64)) (member_none (i % 64))

-- One word of the set; past the last one it is 0.
pub word_at : (ws : List ℕ) (q w : ℕ) → w ≡ get_or ws q 0 → w < 2 ^ 64 → member w ≡ in_word q (in_words ws)
unfolding in_word in_words
word_at ws q w e h =
    fun_ext
    (λ i.
    by_cases (dec_lt i 64)
    (λ l.
    let a : (64 * q + i) / 64 ≡ q = omega arith in
    let b : (64 * q + i) % 64 ≡ i = omega arith in
    rw (lt-ltb i 64 l, a, b, e))
    (λ g. rw (le-ltb i 64 (omega arith)) (member_above 64 w i h (omega arith))))

-- The numbers of A are gathered word by word.
module _ (A : ℕ → Bool) where
  pub words_start : (n : ℕ) → in_words (replicate n 0) ≡ first_words 0 A
  unfolding first_words
  words_start n = fun_ext (λ i. words_none n i ∙ sym (rw (le-ltb i 0 (omega arith))))

  pub words_more : (ws : List ℕ) (q v : ℕ) → in_words ws ≡ first_words q A → q < length ws → member v ≡ in_word q A
      → in_words (set ws q v) ≡ first_words (q + 1) A
  unfolding in_words in_word first_words
  words_more ws q v g l e =
      fun_ext
      (λ i.
      by_test (eqb (i / 64) q)
      (λ t.
      let d = eqb-true (i / 64) q t in
      let a : 64 * q + i % 64 ≡ i = omega arith in
      rw (d, get_or-set_same ws q v 0 l, e, a, lt-ltb (i % 64) 64 (omega arith), lt-ltb i (64 * (q + 1)) (omega arith)))
      (λ t.
      let d = eqb-false (i / 64) q t in
      rw (get_or-set_other ws q (i / 64) v 0 d)
      (ap (λ (f : ℕ → Bool). f i) g ∙ ap (λ b. b && A i) (below i d))))
    where
      below : (i : ℕ) → (i / 64 ≡ q → ⊥) → ltb i (64 * q) ≡ ltb i (64 * (q + 1))
      below i d =
          by_test (ltb i (64 * q))
          (λ l. rw (l, lt-ltb i (64 * (q + 1)) (omega (arith, ltb-true i (64 * q) l))))
          (λ l.
          let m = ltb-false i (64 * q) l in
          let n : q < i / 64 = lt_of_le-ne (omega arith) (λ e. d (sym e)) in
          rw (l, le-ltb i (64 * (q + 1)) (omega arith)))

  -- All numbers of A are below 64 q.
  pub words_end : (ws : List ℕ) (q : ℕ) → in_words ws ≡ first_words q A → ((i : ℕ) → 64 * q ≤ i → A i ≡ false) → in_words ws ≡ A
  unfolding first_words
  words_end ws q g h =
      g ∙ fun_ext (λ i. by_test (ltb i (64 * q)) (λ l. rw l) (λ l. rw l (sym (h i (ltb-false i (64 * q) l)))))
