-- What the functions on starts need: scans from a state on and back from one, the counts that they write. Assumes nothing.
use Rattle.std.specs.Prelude.{◌≡◌, Bool, true, false, List, [], length, ltb, Option, Some, None}
use Rattle.std.specs.Bool.{⊤}
use Rattle.std.specs.Option.{MatchOption, unwrap_or}
use Rattle.std.specs.Iterator.{YieldsThen}
use Rattle.std.specs.List.{FoldsTo}
use Rattle.std.specs.Fn.{CalledAt}
use Rattle.std.proofs.lemmas.Iterator.{first_from_Range}
use Rattle.std.proofs.iter.Yields.{nat_range_steps}
use Rattle.std.specs.declared.ops.Range.{Range}
use denote.Param.Members.{Mut}
use denote.Ref.{Bor}
use Rattle.std.proofs.Math.Path.{sym, ap}
use Rattle.std.proofs.Common.{◌∙◌, length-set}
use Prim.Native.Nat.{ℕ, suc, ◌+◌, ◌-◌, ◌≤◌, ◌<◌}
use native.Mathlib.Omega.{arith}
use borrow.Author.Tests.{ltb-true, lt-ltb}
use Rattle.std.proofs.Math.ListN.{set}
use Rattle.theory.specs.Bool.{bit}
use Rattle.theory.specs.Below.Ends.{first_from, end_below, table}
use Rattle.theory.proofs.Below.Laws.{first_is, from_min, end_le, end-passes, length-table, get_or-table}
use Rattle.theory.proofs.Below.Laws.{Filled, filled_none, filled_more, filled_all}
use Rattle.theory.proofs.Below.Scan.{sum_none, sum_more}
use Rattle.theory.specs.Protocol.{Protocol, HasInput, count, size}
use Rattle.theory.proofs.Weigh.Laws.{weigh_at}
use Rattle.theory.specs.Starts.{inputs_of}
use Rattle.theory.specs.Starts.Next.{last_input, has_spare, givers_end, taker, first_start, next_start}
use Rattle.theory.proofs.Starts.Next.Laws.{some_end, last_lt, last_input_lem, first_lt}
use Rattle.format.specs.Format.{is_input, fixed_of, protocol_of}
use Rattle.format.specs.declared.Sizes.{Sizes}
use Rattle.starts.specs.Code.{inputs_below, AtLeastFixed, Passable, passed_on}

-- ---- How many inputs there are

module _ (z : Sizes) (states : List ℕ) where
  pub inputs_none : 0 ≡ inputs_below z states 0
  unfolding inputs_below
  inputs_none = sum_none _

  module _ (i a : ℕ) (e : a ≡ inputs_below z states i) where
    module _ (t : Bool) (d : t ≡ is_input z states i) where
      pub inputs_one : t ≡ true → a + 1 ≡ inputs_below z states (i + 1)
      unfolding inputs_below
      inputs_one u = sum_more (λ s. bit (is_input z states s)) i a 1 e (sym (ap bit (sym d ∙ u)))

      pub inputs_no : t ≡ false → a ≡ inputs_below z states (i + 1)
      unfolding inputs_below
      inputs_no u = let o : a ≡ a + 0 = omega arith in o ∙ sum_more (λ s. bit (is_input z states s)) i a 0 e (sym (ap bit (sym d ∙ u)))

    pub inputs_all : i ≤ z.states → z.states ≤ i → a ≡ inputs_of (protocol_of z states [])
    unfolding inputs_of inputs_below
    inputs_all l g = let s : i ≡ z.states = omega arith in e ∙ ap (inputs_below z states) s

pub ruleset counting = (inputs_none, inputs_one, inputs_no, inputs_all)

-- ---- From m on

-- No number from m on, and below i, passes.
abbrev ClearFrom : (ℕ → Bool) → ℕ → ℕ → Type 0
ClearFrom f m i = (k : ℕ) → m ≤ k → k < i → f k ≡ false

from_is : (f : ℕ → Bool) (m n i : ℕ) → m ≤ i → i ≤ n → ClearFrom f m i → (i < n → f i ≡ true) → i ≡ first_from m n f
unfolding first_from
from_is f m n i l h none here =
    let to : m + (i - m) ≡ i = omega arith in
    omega (
      arith,
      first_is (n - m) (λ k. f (m + k)) (i - m) (omega arith) (λ k b. none (m + k) (omega arith) (omega arith)) (λ b. ap f to ∙ here (omega arith)),
    )

-- `find` over the numbers from m on and below n, with a closure that computes f; n where it finds none.
pub found_from : {F : Type 0} {g : Mut F (Bor ℕ × Unit {0}) Bool} (m n : ℕ) (f : ℕ → Bool) (s u : Range ℕ) (p : F) (r : Option ℕ)
    → (xs : List ℕ) × (j : F) × YieldsThen nat_range_steps s xs r u × FoldsTo (λ p x q. CalledAt g p x false q) p xs j
    × MatchOption r ⊤ (λ x. (h : F) × CalledAt g j x true h)
    → s ≡ record { start = m; end = n } → m ≤ n → ((x : ℕ) (b : Bool) (q : F) → CalledAt g p x b q → (q ≡ p) × (b ≡ f x))
    → (i : ℕ) → i ≡ unwrap_or r n → i ≡ first_from m n f
found_from m n f s u p r ran e l calls i d =
    d ∙ go r (first_from_Range s u p r (λ x. f x ≡ true) (λ x. f x ≡ false) ran
    (λ x q h. sym (calls x true q h).1) (λ x q h. ((calls x false q h).0, sym (calls x false q h).1)))
  where
    go : (r : Option ℕ)
        → MatchOption r ((k : ℕ) → s.start ≤ k → k < s.end → f k ≡ false)
        (λ i. (s.start ≤ i) × (i < s.end) × (f i ≡ true) × ((k : ℕ) → s.start ≤ k → k < i → f k ≡ false))
        → unwrap_or r n ≡ first_from m n f
    go (Some i) h = from_is f m n i (rw e at h.0) (let b = rw e at h.1 in omega arith) (λ k a b. h.3 k (rw e a) b) (λ _. h.2)
    go None h = from_is f m n n l (omega arith) (λ k a b. h k (rw e a) (rw e b)) (λ b. absurd (omega arith))

-- ---- Back from n

-- No number from i on, and below n, passes; t is the test of the one before i.
module _ (f : ℕ → Bool) (n i : ℕ) (same : end_below n f ≡ end_below i f) where
  module _ (l : 0 < i) (t : Bool) (e : t ≡ f (i - 1)) where
    pub back_hit : t ≡ true → i - 1 + 1 ≡ end_below n f
    unfolding end_below
    back_hit u =
        let s : i ≡ suc (i - 1) = omega arith in
        let r : i - 1 + 1 ≡ suc (i - 1) = omega arith in
        r ∙ sym (same ∙ ap (λ k. end_below k f) s ∙ rw (sym e ∙ u, end_below))

    pub back_miss : t ≡ false → end_below n f ≡ end_below (i - 1) f
    unfolding end_below
    back_miss u = let s : i ≡ suc (i - 1) = omega arith in same ∙ ap (λ k. end_below k f) s ∙ rw (sym e ∙ u, end_below)

  pub back_end : i ≤ 0 → 0 ≡ end_below n f
  unfolding end_below
  back_end l = let z : i ≡ 0 = omega arith in sym (same ∙ ap (λ k. end_below k f) z)

pub ruleset going-back = (back_hit, back_miss, back_end)

-- ---- States that have more than their fixed agents

pub spare_is : (z : Sizes) (states c : List ℕ) (s m n : ℕ) → m ≡ count c s → n ≡ fixed_of z states s → ltb n m ≡ has_spare (protocol_of z states []) c s
spare_is z states c s m n hm hn = rw (hm, hn)

-- ---- Counts that are written

pub all_filled : (f : ℕ → ℕ) (c : List ℕ) (i n : ℕ) → Filled f i c → length c ≡ n → n ≤ i → c ≡ table n f
all_filled f c i n h long l =
    let to = length-table n f in
    filled_all f c (table n f) i h (long ∙ sym to) (λ k b. sym (get_or-table n f k (omega arith))) (omega arith)

pub ruleset filling = (filled_none, filled_more, all_filled)

-- ---- The first start

-- first is the first input, and v what is written there.
module _ (z : Sizes) (states : List ℕ) (n first fixed v : ℕ) (c : List ℕ) (hc : c ≡ table z.states (fixed_of z states))
    (hf : first ≡ first_from 0 z.states (is_input z states)) where
  pub first-inside : HasInput (protocol_of z states []) → first < length c
  first-inside has = omega (arith, hf, first_lt (protocol_of z states []) has n, ap length hc, length-table z.states (fixed_of z states))

  pub first-written : fixed ≡ fixed_of z states first → v ≡ fixed + n → set c first v ≡ first_start (protocol_of z states []) n
  unfolding first_start
  first-written e g =
      let bare = table z.states (fixed_of z states) in
      ap (λ d. set d first v) hc
      ∙ ap (λ i. set bare i v) hf
      ∙ ap (set bare (first_from 0 z.states (is_input z states))) (g ∙ ap (λ m. m + n) (e ∙ ap (fixed_of z states) hf))

-- ---- The next start

pub from_inside : (c : List ℕ) (from to last f v : ℕ) → Passable c from to last f → from < length (set c last v)
from_inside c from to last f v h = omega (arith, length-set c last v, h.before, h.last_inside)

-- The counts that are written: v, w and x.
module _ (c : List ℕ) (from to last f g v w x : ℕ) where
  pub passed_on_lem : v ≡ f → w ≡ count c from - 1 → x ≡ g + (count c last - f + 1) → set (set (set c last v) from w) to x ≡ passed_on c from to last f g
  unfolding passed_on
  passed_on_lem hv hw hx =
      let to-all : x ≡ g + (count c last - f) + 1 = omega arith in
      rw (hv, hw, to-all)

-- What the functions say: end is one past the last input, e one past the giver, to the taker.
module _ (z : Sizes) (states c : List ℕ) (has : HasInput (protocol_of z states [])) (start : AtLeastFixed z states c)
    (end : ℕ) (hend : end ≡ end_below z.states (is_input z states)) where
  abbrev P : Protocol
  P = protocol_of z states []

  pub some-last : 1 ≤ end
  some-last = omega (arith, hend, some_end P has)

  module _ (last : ℕ) (hlast : last ≡ end - 1) (e : ℕ) (he : e ≡ end_below last (has_spare P c)) where
    last_is : last ≡ last_input P
    unfolding last_input
    last_is = omega (arith, hlast, hend)

    e_is : e ≡ givers_end P c
    unfolding givers_end
    e_is = he ∙ ap (λ k. end_below k (has_spare P c)) last_is

    -- This start is the last.
    pub none_answer : e ≡ 0 → false ≡ ltb 0 (givers_end P c)
    none_answer g = rw (← e_is, g)

    pub giver-inside : e ≤ z.states
    giver-inside = omega (arith, he, end_le last (has_spare P c), last_is, last_lt P has)

    -- It is not.
    module _ (some : e ≡ 0 → ⊥) where
      pub next_answer : true ≡ ltb 0 (givers_end P c)
      next_answer = sym (lt-ltb 0 (givers_end P c) (omega (arith, e_is)))

      module _ (from : ℕ) (hfrom : from ≡ e - 1) (to : ℕ) (hto : to ≡ first_from e z.states (is_input z states))
          (f : ℕ) (hf : f ≡ fixed_of z states last) where
        before : from < last
        before = omega (arith, he, hfrom, end_le last (has_spare P c))

        pub passable : Passable c from to last f
        unfolding size
        passable = record {
          before = before;
          last_inside = omega (arith, last_is, last_lt P has, start.sized);
          to_inside =
              omega (
                arith,
                hto,
                from_min e z.states (is_input z states) (last_input P) (omega (arith, before, hfrom, last_is)) (last_input_lem P has),
                last_lt P has,
                start.sized,
              );
          has_one =
              omega (
                arith,
                ltb-true (fixed_of z states from) (count c from) (end-passes last (has_spare P c) from (omega (arith, he, hfrom))),
              );
          has_fixed = omega (arith, hf, start.fixed last (omega (arith, last_is, last_lt P has)));
          small = omega (arith, weigh_at (λ _. 1) c last, start.small);
        }

        pub next_written : (g : ℕ) (d : List ℕ) → g ≡ fixed_of z states to → d ≡ passed_on c from to last f g → d ≡ next_start P c
        unfolding passed_on next_start taker
        next_written g d hg q = q ∙ rw (hg, hf, hto, hfrom, e_is, last_is)

pub ruleset nexts = (some-last, none_answer, giver-inside, next_answer, passable, next_written)
