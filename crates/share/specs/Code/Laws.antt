-- The parts of the leaf rule and of the remainder rule put together. Assumes nothing.
use Rattle.std.specs.Prelude.{◌≡◌, ◌↔◌, IsTrue, refl, Bool, false, not, ◌&&◌, ◌||◌, ℕ, zero, suc, ◌+◌, ◌-◌, ◌*◌, ◌%◌, ◌≤◌, ◌<◌, ltb}
use Rattle.std.proofs.Common.{sym, ap, ◌∙◌, mul-zero}
use Rattle.std.proofs.Math.Path.{fun_ext}
use Rattle.std.proofs.Math.Bool.{true, and_assoc, and-false, or-true}
use Rattle.std.proofs.Math.Nat.{zero-mod}
use native.Mathlib.Omega.{arith}
use Rattle.std.proofs.Math.Dec.{leb}
use borrow.Author.Tests.{lt-ltb, le-ltb, leb-true, leb-false, le-leb, lt-leb, eq-eqb, ne_eqb}
use Rattle.theory.specs.Bool.{member, bit}
use Rattle.theory.proofs.Bool.Laws.{by_test, not_both}
use Rattle.theory.specs.Below.{all_below, sum_below}
use Rattle.theory.proofs.Below.Laws.{sum_add}
use Rattle.theory.specs.Protocol.{Protocol, only_fixed}
use Rattle.theory.specs.Facts.{Facts}
use Rattle.theory.specs.Leaf.{extra, spare, non_increasing, start_fits, times, end_fits, surplus, shortfall, leaf_closes}
use Rattle.theory.specs.Remainder.{congruent, exactly_one, known, conserved, start_vanishes, end_vanishes, excess, deficit, remainder_closes}
use Rattle.theory.proofs.Remainder.Congruence.{congruent_apart}
use Rattle.format.specs.Code.{Value}
use Rattle.share.specs.Code.{closes_by, kept_by, relates_by, KnownAt, fixed_in, joined_of, times_of, known_of, start_share, end_share}
use Rattle.share.specs.Code.{start_remainder, end_remainder, sum_of, share_by, ShareIs}
use Rattle.share.specs.declared.Closing.{Closing}
use Rattle.share.specs.declared.Closing.TheVariants.{BySums, ByRemainders}
use Rattle.share.specs.declared.Fixed.{Fixed}
use Rattle.share.specs.declared.Known.{Known}
use Rattle.share.specs.declared.Share.{Share}

-- ---- The same modulo m

-- Numbers that are not apart are the same.
pub same_equal : (m a b d : ℕ) → d ≡ (a - b) + (b - a) → d ≡ 0 → true ≡ congruent m a b
same_equal m a b d h e = rw (congruent_apart m a b d h, e, zero-mod)

-- d is how far a and b are apart, and t says whether m divides it.
pub same_is : (m a b d : ℕ) (t : Bool) → d ≡ (a - b) + (b - a) → IsTrue t ↔ (d % m ≡ 0) → t ≡ congruent m a b
same_is m a b d t h e =
    by_test t
    (λ y. y ∙ sym (eq-eqb (d % m) 0 (e.0 y)) ∙ sym (congruent_apart m a b d h))
    (λ n. n ∙ sym (ne_eqb (d % m) 0 (λ z. not_both (e.1 z) n)) ∙ sym (congruent_apart m a b d h))

-- ---- By sums, or by remainders

pub relates_sums : (by : Closing) (a b : ℕ) → by ≡ BySums → leb a b ≡ relates_by by a b
unfolding relates_by
relates_sums by a b e = rw e

pub relates_remainders : (by : Closing) (m a b : ℕ) (t : Bool) → by ≡ ByRemainders m → t ≡ congruent m a b → t ≡ relates_by by a b
unfolding relates_by
relates_remainders by m a b t e h = rw e h

pub ruleset relating = (relates_sums, relates_remainders)

-- Equal numbers relate, by sums and by remainders.
pub relates_equal : (by : Closing) (a : ℕ) → relates_by by a a ≡ true
unfolding relates_by congruent
relates_equal BySums a = le-leb a a (omega arith)
relates_equal (ByRemainders m) a = eq-eqb (a % m) (a % m) refl

-- The test of the rules, rule by rule.
pub kept_is : (P : Protocol) (by : Closing) (u : ℕ → Bool) (w : ℕ → ℕ)
    → kept_by P by u w ≡ all_below P.rules (λ r. u r || relates_by by (w (P.p' r) + w (P.q' r)) (w (P.p r) + w (P.q r)))
unfolding kept_by relates_by non_increasing conserved
kept_is P BySums u w = refl
kept_is P (ByRemainders m) u w = refl

-- Where the rules of a run do not pass, the leaf does not close.
pub first_breaks : (P : Protocol) (by : Closing) (F : Facts) (w : ℕ → ℕ → ℕ) → kept_by P by (F.unused 1) (w 1) ≡ false → closes_by P by F w ≡ false
unfolding kept_by closes_by leaf_closes remainder_closes
first_breaks P BySums F w e = rw e
first_breaks P (ByRemainders m) F w e = rw e

pub second_breaks : (P : Protocol) (by : Closing) (F : Facts) (w : ℕ → ℕ → ℕ) → kept_by P by (F.unused 2) (w 2) ≡ false → closes_by P by F w ≡ false
unfolding kept_by closes_by leaf_closes remainder_closes
second_breaks P BySums F w e = rw (e, and-false)
second_breaks P (ByRemainders m) F w e = rw (e, and-false)

-- ---- One state

-- The share with these numbers.
abbrev pub share : Bool → ℕ → ℕ → Share
share t g l = record { allowed = t; gains = g; losses = l }

nothing : (b : Bool) (m n : ℕ) → m ≤ n → bit b * (m - n) ≡ 0
nothing true m n h = omega arith
nothing false m n h = omega arith

-- How often a state joins, by its fixed agents.
module _ (k : Known) (f : Fixed) (s : ℕ) where
  pub times_loose : (t : Bool) (n : ℕ) → f.agents ≡ 0 → t ≡ member k.present s → n ≡ bit t → n ≡ times_of k f s
  unfolding times_of
  times_loose t n l h e = rw (le-ltb 0 f.agents (omega arith), ← h) e

  pub times_absent : (t : Bool) → (f.agents ≡ 0 → ⊥) → t ≡ member k.absent s → t ≡ true → 0 ≡ times_of k f s
  unfolding times_of
  times_absent t l h e = rw (lt-ltb 0 f.agents (omega arith), ← h, e) (omega arith)

  pub times_fixed : (t : Bool) → (f.agents ≡ 0 → ⊥) → t ≡ member k.absent s → t ≡ false → f.agents ≡ times_of k f s
  unfolding times_of
  times_fixed t l h e = rw (lt-ltb 0 f.agents (omega arith), ← h, e) (omega arith)

  pub known_none : (t : Bool) → t ≡ member k.absent s → not t && f.only ≡ false → 0 ≡ known_of k f s
  unfolding known_of
  known_none t h e = rw (← h, e) (omega arith)

  pub known_fixed : (t : Bool) → t ≡ member k.absent s → not t && f.only ≡ true → f.agents ≡ known_of k f s
  unfolding known_of
  known_fixed t h e = rw (← h, e) (omega arith)

pub ruleset counting = (times_loose, times_absent, times_fixed, known_none, known_fixed)

module _ (k : Known) (s y : ℕ) where
  -- The state joins n times, and its share is x.
  pub start_is : (f : Fixed) (m b n : ℕ) (t : Bool) (x : Share) → t ≡ member k.absent s → n ≡ times_of k f s
      → ShareIs m (joined_of (t || (f.only || leb y b)) n b y) x → ShareIs m (start_share k f s b y) x
  unfolding start_share
  start_is f m b n t x ht hn h = rw (← ht, ← hn) h

  pub end_over : (m : Bool) (x : ℕ) → 10000 ≤ y → m ≡ member k.present s → Value (y + 1) (bit m * (y - 10000)) x
      → ShareIs (20000 + y) (end_share k s y) (share true x 0)
  unfolding end_share
  end_over m x h e v =
      record {
        is =
            rw (
              le-leb 10000 y h,
              or-true (member k.absent s),
              nothing (not (member k.absent s)) 10000 y h,
              ← e,
              v.is,
            );
        gains_most = omega (arith, v.small);
        losses_most = omega arith;
      }

  pub end_absent : (m : Bool) → y < 10000 → m ≡ member k.absent s → m ≡ true → ShareIs (20000 + y) (end_share k s y) (share true 0 0)
  unfolding end_share
  end_absent m h e d =
      let g : 0 ≡ 0 * (10000 - y) = omega arith in
      record {
        is = rw (← e, d, nothing (member k.present s) y 10000 (omega arith)) (ap (share true 0) g);
        gains_most = omega arith;
        losses_most = omega arith;
      }

  pub end_below_lem : (m o : Bool) → y < 10000 → m ≡ member k.absent s → m ≡ false → o ≡ member k.at_most_one s
      → ShareIs (20000 + y) (end_share k s y) (share o 0 (10000 - y))
  unfolding end_share
  end_below_lem m o h e d f =
      let g : 10000 - y ≡ 1 * (10000 - y) = omega arith in
      record {
        is = rw (← e, d, lt-leb 10000 y h, ← f, nothing (member k.present s) y 10000 (omega arith)) (ap (share o 0) g);
        gains_most = omega arith;
        losses_most = omega arith;
      }

  pub remainder_start : (f : Fixed) (b m n : ℕ) (t v : Bool) (x : Share) → t ≡ member k.absent s → v ≡ congruent m y 20000 → n ≡ known_of k f s
      → ShareIs b (joined_of (t || (f.only || v)) n 20000 y) x → ShareIs b (start_remainder m k f s y) x
  unfolding start_remainder
  remainder_start f b m n t v x ht hv hn h = rw (← ht, ← hv, ← hn) h

  pub remainder_end : (m g l : ℕ) (t p o v : Bool) → t ≡ member k.absent s → p ≡ member k.present s → o ≡ member k.at_most_one s
      → v ≡ congruent m y 10000 → Value (y + 1) (bit (p && o) * (y - 10000)) g → Value (10000 + 1) (bit (p && o) * (10000 - y)) l
      → ShareIs (20000 + y) (end_remainder m k s y) (share (t || (v || (p && o))) g l)
  unfolding end_remainder
  remainder_end m g l t p o v ht hp ho hv hg hl =
      record {
        is = rw (← ht, ← hp, ← ho, ← hv, hg.is, hl.is);
        gains_most = omega (arith, hg.small);
        losses_most = omega (arith, hl.small);
      }

pub ruleset sharing = (start_is, end_over, end_absent, end_below_lem, remainder_start, remainder_end)

-- The shares p, q, r at the start and at the ends are put together in t; v and w are the weights x and y.
module _ (by : Closing) (f : Fixed) (a b c : Known) (s x y v w i j k : ℕ) (p q r t : Share) (ev : v ≡ x) (ew : w ≡ y)
    (h : ShareIs 68719476736 (sum_of p q r) t) where
  pub share_sums : by ≡ BySums → ShareIs i (start_share a f s 20000 (v + w)) p → ShareIs j (end_share b s v) q → ShareIs k (end_share c s w) r
      → ShareIs 68719476736 (share_by by f a b c s x y) t
  unfolding share_by
  share_sums e hp hq hr = rw (e, ← ev, ← ew, ← hp.is, ← hq.is, ← hr.is) h

  pub share_remainders : (m : ℕ) → by ≡ ByRemainders m → ShareIs i (start_remainder m a f s (v + w)) p → ShareIs j (end_remainder m b s v) q
      → ShareIs k (end_remainder m c s w) r → ShareIs 68719476736 (share_by by f a b c s x y) t
  unfolding share_by
  share_remainders m e hp hq hr = rw (e, ← ev, ← ew, ← hp.is, ← hq.is, ← hr.is) h

pub ruleset summing = (share_sums, share_remainders)

-- A state whose weights are both 0 counts for nothing.
pub share_none : (by : Closing) (f : Fixed) (a b c : Known) (s : ℕ) → share_by by f a b c s 10000 10000 ≡ share true 0 0
unfolding share_by start_share end_share start_remainder end_remainder congruent
share_none BySums f a b c s =
    rw (
      or-true f.only,
      or-true (member a.absent s),
      or-true (member b.absent s),
      or-true (member c.absent s),
      mul-zero (times_of a f s),
      mul-zero (bit (member b.present s)),
      mul-zero (bit (member c.present s)),
      mul-zero (bit (not (member b.absent s))),
      mul-zero (bit (not (member c.absent s))),
    )
share_none (ByRemainders m) f a b c s =
    rw (
      eq-eqb (20000 % m) (20000 % m) refl,
      eq-eqb (10000 % m) (10000 % m) refl,
      or-true f.only,
      mul-zero (known_of a f s),
      or-true (member a.absent s),
      or-true (member b.absent s),
      or-true (member c.absent s),
      mul-zero (bit (member b.present s && member b.at_most_one s)),
      mul-zero (bit (member c.present s && member c.at_most_one s)),
    )

-- ---- All states

exchange : (a b c d : Bool) → (a && b) && (c && d) ≡ (a && c) && (b && d)
exchange true true c d = refl
exchange true false c d = sym (and-false c)
exchange false b c d = refl

pub all_and : (n : ℕ) (f g : ℕ → Bool) → all_below n (λ k. f k && g k) ≡ (all_below n f && all_below n g)
unfolding all_below
all_and zero f g = refl
all_and (suc n) f g = rw (all_and n f g) (exchange (f n) (g n) (all_below n f) (all_below n g))

all_three : (n : ℕ) (f g h : ℕ → Bool) → all_below n (λ k. f k && g k && h k) ≡ (all_below n f && all_below n g && all_below n h)
all_three n f g h = all_and n (λ k. f k && g k) h ∙ ap (λ (b : Bool). b && all_below n h) (all_and n f g)

sum_three : (n : ℕ) (f g h : ℕ → ℕ) → sum_below n (λ k. f k + g k + h k) ≡ sum_below n f + sum_below n g + sum_below n h
sum_three n f g h = sum_add n (λ k. f k + g k) h ∙ ap (λ (m : ℕ). m + sum_below n h) (sum_add n f g)

-- A test of three parts, and a number of three.
all-parts : (n : ℕ) (f x y z : ℕ → Bool) → ((s : ℕ) → f s ≡ x s && y s && z s) → all_below n f ≡ all_below n x && all_below n y && all_below n z
all-parts n f x y z h = ap (all_below n) (fun_ext h) ∙ all_three n x y z

sum-parts : (n : ℕ) (f x y z : ℕ → ℕ) → ((s : ℕ) → f s ≡ x s + y s + z s) → sum_below n f ≡ sum_below n x + sum_below n y + sum_below n z
sum-parts n f x y z e = ap (sum_below n) (fun_ext e) ∙ sum_three n x y z

over_not : (m n : ℕ) → ltb m n ≡ not (leb n m)
over_not m n = by_test (leb n m) (λ e. rw e (le-ltb m n (leb-true n m e))) (λ e. rw e (lt-ltb m n (leb-false n m e)))

-- Whether a leaf closes, by the shares of its states.
module _ (P : Protocol) (F : Facts) (w : ℕ → ℕ → ℕ) (a b c : Known) (ka : KnownAt F 0 a) (kb : KnownAt F 1 b) (kc : KnownAt F 2 c) where
  abbrev pub shares : Closing → ℕ → Share
  shares by s = share_by by (fixed_in P s) a b c s (w 1 s) (w 2 s)

  abbrev allowed : Closing → Bool
  allowed by = all_below P.states (λ s. (shares by s).allowed)

  abbrev gains : Closing → ℕ
  gains by = sum_below P.states (λ s. (shares by s).gains)

  abbrev losses : Closing → ℕ
  losses by = sum_below P.states (λ s. (shares by s).losses)

  by_sums : leaf_closes P F w
      ≡ (non_increasing P (F.unused 1) (w 1) && non_increasing P (F.unused 2) (w 2)) && allowed BySums && ltb (losses BySums) (gains BySums)
  unfolding leaf_closes start_fits times end_fits extra spare surplus shortfall share_by start_share times_of end_share
  by_sums =
      let runs = non_increasing P (F.unused 1) (w 1) && non_increasing P (F.unused 2) (w 2) in
      let start = start_fits P F 20000 (λ s. w 1 s + w 2 s) in
      let first = end_fits P F 1 10000 (w 1) in
      rw (
        all-parts P.states (λ s. (shares BySums s).allowed)
            (λ s. F.absent 0 s || (only_fixed P s || leb (w 1 s + w 2 s) 20000))
            (λ s. F.absent 1 s || (leb 10000 (w 1 s) || F.at_most_one 1 s))
            (λ s. F.absent 2 s || (leb 10000 (w 2 s) || F.at_most_one 2 s))
            (λ s. rw (ka.absent, kb.absent, kb.at_most_one, kc.absent, kc.at_most_one)),
        sum-parts P.states (λ s. (shares BySums s).gains) (surplus P F 1 10000 (w 1)) (surplus P F 2 10000 (w 2))
            (spare (times P F) 20000 (λ s. w 1 s + w 2 s))
            (λ s. rw (ka.absent, ka.present, kb.present, kc.present)),
        sum-parts P.states (λ s. (shares BySums s).losses) (shortfall P F 1 10000 (w 1)) (shortfall P F 2 10000 (w 2))
            (extra (times P F) 20000 (λ s. w 1 s + w 2 s))
            (λ s. rw (ka.absent, ka.present, kb.absent, kc.absent)),
        and_assoc runs start first,
        and_assoc runs (start && first) (end_fits P F 2 10000 (w 2)),
      )

  by_remainders : (m : ℕ) → remainder_closes P m F w
      ≡ (conserved P m (F.unused 1) (w 1) && conserved P m (F.unused 2) (w 2)) && allowed (ByRemainders m)
      && not (congruent m (gains (ByRemainders m)) (losses (ByRemainders m)))
  unfolding remainder_closes start_vanishes end_vanishes extra spare known excess deficit exactly_one share_by start_remainder known_of end_remainder
  by_remainders m =
      let runs = conserved P m (F.unused 1) (w 1) && conserved P m (F.unused 2) (w 2) in
      let start = start_vanishes P m F 20000 (λ s. w 1 s + w 2 s) in
      let first = end_vanishes P m F 1 10000 (w 1) in
      rw (
        all-parts P.states (λ s. (shares (ByRemainders m) s).allowed)
            (λ s. F.absent 0 s || (only_fixed P s || congruent m (w 1 s + w 2 s) 20000))
            (λ s. F.absent 1 s || (congruent m (w 1 s) 10000 || exactly_one F 1 s))
            (λ s. F.absent 2 s || (congruent m (w 2 s) 10000 || exactly_one F 2 s))
            (λ s. rw (ka.absent, kb.absent, kb.present, kb.at_most_one, kc.absent, kc.present, kc.at_most_one)),
        sum-parts P.states (λ s. (shares (ByRemainders m) s).gains) (excess F 1 10000 (w 1)) (excess F 2 10000 (w 2))
            (spare (known P F) 20000 (λ s. w 1 s + w 2 s))
            (λ s. rw (ka.absent, kb.present, kb.at_most_one, kc.present, kc.at_most_one)),
        sum-parts P.states (λ s. (shares (ByRemainders m) s).losses) (deficit F 1 10000 (w 1)) (deficit F 2 10000 (w 2))
            (extra (known P F) 20000 (λ s. w 1 s + w 2 s))
            (λ s. rw (ka.absent, kb.present, kb.at_most_one, kc.present, kc.at_most_one)),
        and_assoc runs start first,
        and_assoc runs (start && first) (end_vanishes P m F 2 10000 (w 2)),
      )

  pub by_shares : (by : Closing) → closes_by P by F w
      ≡ (kept_by P by (F.unused 1) (w 1) && kept_by P by (F.unused 2) (w 2)) && allowed by && not (relates_by by (gains by) (losses by))
  unfolding closes_by kept_by relates_by
  by_shares BySums = rw (← over_not (losses BySums) (gains BySums)) by_sums
  by_shares (ByRemainders m) = by_remainders m
