-- The parts of the leaf rule and of the remainder rule put together, over the bytes. Assumes nothing.
use Rattle.std.specs.Prelude.{◌≡◌, refl, Bool, not, ◌&&◌, ◌||◌, List, ℕ, zero, suc, ◌+◌, ◌-◌, ◌*◌, ◌%◌, ◌≤◌, ◌<◌, min, Option}
use Rattle.std.specs.Int.{div_ceil}
use Rattle.std.specs.Option.{MatchOption}
use Rattle.std.specs.Iterator.{YieldsThen}
use Rattle.std.specs.List.{FoldsTo, list_all, range_with_len}
use Rattle.std.specs.Fn.{Called}
use Rattle.std.specs.declared.ops.Range.{Range}
use Rattle.std.proofs.iter.Yields.{nat_range_steps}
use Rattle.std.proofs.lemmas.Iterator.{YieldsList-from_range}
use Rattle.std.proofs.lemmas.Iterator.Search.{all_from_yields_List}
use denote.Param.Members.{Mut}
use Rattle.std.proofs.Math.Path.{sym}
use Rattle.std.proofs.Common.{ap, ap₂, ◌∙◌, add-one, below_none, below_more}
use Rattle.std.proofs.Math.Bool.{true, false, and-false}
use Rattle.std.proofs.Math.Logic.{by_cases}
use Rattle.std.proofs.Math.Decide.{dec_lt}
use native.Mathlib.Omega.{arith}
use Rattle.std.proofs.Math.Dec.{eqb}
use borrow.Author.Tests.{lt-ltb, eqb-true, eq-eqb, not-true, not-false}
use Rattle.theory.specs.Bool.{member}
use Rattle.theory.proofs.Bool.Laws.{is_false, not_both, and_elim}
use Rattle.theory.specs.Below.{all_below, sum_below}
use Rattle.theory.proofs.Below.Laws.{all_elim, all_intro, all_fails, all_same}
use Rattle.theory.specs.Facts.{Facts}
use Rattle.bits.specs.Code.{in_word}
use Rattle.format.specs.Code.{Value}
use Rattle.format.specs.Format.{protocol_of, end_weight, weights_of}
use Rattle.format.specs.declared.Rule.{Rule}
use Rattle.format.specs.declared.Sizes.{Sizes}
use Rattle.share.specs.Code.{closes_by, kept_by, relates_by, KnownAt, share_by, ShareIs}
use Rattle.share.specs.Code.Laws.{relates_equal, kept_is, first_breaks, second_breaks, share, share_none, by_shares}
use Rattle.share.specs.declared.Closing.{Closing}
use Rattle.share.specs.declared.Fixed.{Fixed}
use Rattle.share.specs.declared.Known.{Known}
use Rattle.share.specs.declared.Share.{Share}
use Rattle.leaf.specs.Code.{RuleAt, weight_before, weight_after, keeps, keeps_in, all_from, fixed_at, share_of}

-- ---- The rules

-- Rule r is unused, t being whether it is, or it has the weights a and b.
module _ (by : Closing) (u : ℕ) (z : Sizes) (rules leaves : List ℕ) (l e r : ℕ) (t : Bool) (h : t ≡ member u (r % 64)) where
  abbrev kept_in : Bool
  kept_in = keeps_in by u z rules leaves l e r

  pub unused_keeps : t ≡ true → true ≡ kept_in
  unfolding keeps_in
  unused_keeps d = rw (← h, d)

  module _ (x : Rule) (a b : ℕ) (d : t ≡ false) (k : RuleAt rules r x)
      (va : Value 131072 (end_weight z leaves l e x.p + end_weight z leaves l e x.q) a)
      (vb : Value 131072 (end_weight z leaves l e x.p2 + end_weight z leaves l e x.q2) b) where
    pub used_keeps : (i j : ℕ) (v : Bool) → i ≡ b → j ≡ a → v ≡ relates_by by i j → v ≡ kept_in
    unfolding keeps_in keeps weight_before weight_after
    used_keeps i j v ei ej f = f ∙ rw (ei, ej, ← h, d, va.is, vb.is, k.is)

    -- Equal weights relate by both rules.
    pub equal_keeps : a ≡ b → eqb a b ≡ kept_in
    equal_keeps q = used_keeps b a (eqb a b) refl refl (eq-eqb a b q ∙ rw q (sym (relates_equal by b)))

pub ruleset rule_keeping = (unused_keeps, used_keeps, equal_keeps)

-- The numbers from r on and below n pass the test f.
module _ (f : ℕ → Bool) (r n : ℕ) where
  all_from_lem : ((k : ℕ) → r ≤ k → k < n → f k ≡ true) → true ≡ all_from r n f
  unfolding all_from
  all_from_lem h = sym (all_intro (n - r) _ (λ k l. h (r + k) (omega arith) (omega arith)))

  from_all : all_from r n f ≡ true → (k : ℕ) → r ≤ k → k < n → f k ≡ true
  unfolding all_from
  from_all t k i l =
      let d : r + (k - r) ≡ k = omega arith in
      rw d at (all_elim (n - r) (λ k. f (r + k)) t (k - r) (omega arith))

  not_from : (k : ℕ) → r ≤ k → k < n → f k ≡ false → false ≡ all_from r n f
  not_from k i l e = sym (is_false _ (λ t. not_both (from_all t k i l) e))

  from_fault : all_from r n f ≡ false → (k : ℕ) × (r ≤ k) × (k < n) × (f k ≡ false)
  unfolding all_from
  from_fault e = let w = all_fails (n - r) (λ k. f (r + k)) e in (r + w.0, omega arith, omega (arith, w.1), w.2)

and_swap : (a b c : Bool) → a && (b && c) ≡ b && (a && c)
and_swap true b c = refl
and_swap false b c = sym (and-false b)

-- The numbers below n + 1 are 0 and the successors of those below n.
all_front : (n : ℕ) (f : ℕ → Bool) → all_below (suc n) f ≡ f 0 && all_below n (λ k. f (suc k))
unfolding all_below
all_front zero f = refl
all_front (suc n) f = ap (λ t. f (suc n) && t) (all_front n f) ∙ and_swap (f (suc n)) (f 0) (all_below n (λ k. f (suc k)))

range_all : (n a : ℕ) (f : ℕ → Bool) → list_all f (range_with_len a n) ≡ all_below n (λ k. f (a + k))
unfolding all_below
range_all zero a f = refl
range_all (suc n) a f =
    ap₂ (λ s t. s && t) (ap f (let e : a ≡ a + 0 = omega arith in e))
    (range_all n (a + 1) f ∙ all_same n (λ k. f (a + 1 + k)) (λ k. f (a + suc k)) (λ k l. ap f (omega arith)))
    ∙ sym (all_front n (λ k. f (a + k)))

-- `all` over the numbers from r on and below n, with a closure that computes f.
pub all_found : {F : Type 0} {g : Mut F (ℕ × Unit {0}) Bool} (r n : ℕ) (f : ℕ → Bool) (s u : Range ℕ) (p : F) (b : Bool)
    → (xs : List ℕ) × (o : Option ℕ) × (j : F) × YieldsThen nat_range_steps s xs o u × FoldsTo (λ p x q. Called g p (x, tt) true q) p xs j
    × MatchOption o (b ≡ true) (λ x. (b ≡ false) × ((h : F) × Called g j (x, tt) false h))
    → s ≡ record { start = r; end = n } → ((x : ℕ) (c : Bool) (q : F) → Called g p (x, tt) c q → (q ≡ p) × (c ≡ f x)) → b ≡ all_from r n f
unfolding all_from
all_found r n f s u p b ran e calls = all_from_yields_List f u p b ran (YieldsList-from_range r n (n - r) e refl) calls ∙ range_all (n - r) r f

module _ (by : Closing) (z : Sizes) (rules leaves : List ℕ) (l e : ℕ) (A : ℕ → Bool) where
  -- Rule r is in A, or keeps the weight of end e + 1.
  abbrev passes : ℕ → Bool
  passes r = A r || keeps by z rules leaves l e r

  -- The rules of the words below q pass.
  abbrev pub KeptBelow : ℕ → Type 0
  KeptBelow q = (k : ℕ) → k < min z.rules (64 * q) → passes k ≡ true

  pub kept_none : KeptBelow 0
  kept_none k l = absurd (omega arith)

  -- The set A is that of the unused rules, U.
  abbrev all_kept : List ℕ → (ℕ → Bool) → Bool
  all_kept states U = kept_by (protocol_of z states rules) by U (end_weight z leaves l e)

  pub kept-all : (states : List ℕ) (U : ℕ → Bool) (q : ℕ) → A ≡ U → KeptBelow q → div_ceil z.rules 64 ≤ q → true ≡ all_kept states U
  unfolding keeps weight_before weight_after
  kept-all states U q p w h =
      rw (← p, kept_is (protocol_of z states rules) by A (end_weight z leaves l e)) (sym (all_intro z.rules _ (λ j m. w j (omega arith))))

  -- Word q has the rules from 64 q on and below n, u being those in A; t says whether they pass.
  module _ (q u n : ℕ) (t : Bool) (w : KeptBelow q) (m : q < div_ceil z.rules 64) (hu : member u ≡ in_word q A)
      (hn : n ≡ 64 * q + min (z.rules - 64 * q) 64) (s : t ≡ all_from (64 * q) n (keeps_in by u z rules leaves l e)) where
    in_word_lem : (k : ℕ) → 64 * q ≤ k → k < n → keeps_in by u z rules leaves l e k ≡ passes k
    unfolding in_word keeps_in
    in_word_lem k i j =
        let g : 64 * q + k % 64 ≡ k = omega (arith, hn) in
        rw (hu, lt-ltb (k % 64) 64 (omega arith), g)

    pub kept_word : not t ≡ false → KeptBelow (q + 1)
    kept_word g k i =
        by_cases (dec_lt k (64 * q))
        (λ j. w k (omega arith))
        (λ j. sym (in_word_lem k (omega arith) (omega (arith, hn))) ∙ from_all _ (64 * q) n (sym s ∙ not-false t g) k (omega arith) (omega (arith, hn)))

    pub kept_broken : (states : List ℕ) (U : ℕ → Bool) → A ≡ U → not t ≡ true → false ≡ all_kept states U
    unfolding keeps weight_before weight_after
    kept_broken states U p g =
        let f = from_fault _ (64 * q) n (sym s ∙ not-true t g) in
        rw (← p, kept_is (protocol_of z states rules) by A (end_weight z leaves l e))
        (sym (is_false _ (λ d. not_both (all_elim z.rules _ d f.0 (omega (arith, f.2, hn))) (sym (in_word_lem f.0 f.1 f.2) ∙ f.3))))

pub ruleset keeping = (kept_none, kept-all, kept_word, kept_broken)

-- ---- One state

-- Both weights are 0, or the share is that of the two weights.
module _ (by : Closing) (z : Sizes) (states leaves : List ℕ) (l : ℕ) (a b c : Known) (s x y : ℕ) (vx : Value 65536 (end_weight z leaves l 0 s) x)
    (vy : Value 65536 (end_weight z leaves l 1 s) y) where
  pub nothing_shared : eqb x 10000 && eqb y 10000 ≡ true → ShareIs 68719476736 (share_of by z states leaves l a b c s) (share true 0 0)
  unfolding share_of
  nothing_shared h =
      let t = and_elim (eqb x 10000) (eqb y 10000) h in
      record {
        is = rw (← vx.is, ← vy.is, eqb-true x 10000 t.0, eqb-true y 10000 t.1, share_none by (fixed_at z states s) a b c s);
        gains_most = omega arith;
        losses_most = omega arith;
      }

  pub shared : (f : Fixed) (r : Share) → f ≡ fixed_at z states s → ShareIs 68719476736 (share_by by f a b c s x y) r
      → ShareIs 68719476736 (share_of by z states leaves l a b c s) r
  unfolding share_of
  shared f r e h = rw (← vx.is, ← vy.is, ← e) h

pub ruleset sharing = (nothing_shared, shared)

-- ---- The states below i

-- The facts allow the weights of the states below i, and gains and losses are the sums of theirs, each at most m.
pub record Added (m : ℕ) (f : ℕ → Share) (i gains losses : ℕ) : Type 0 where
  pub allowed : (k : ℕ) → k < i → (f k).allowed ≡ true
  pub gains_are : gains ≡ sum_below i (λ k. (f k).gains)
  pub gains_most : gains ≤ m * i
  pub losses_are : losses ≡ sum_below i (λ k. (f k).losses)
  pub losses_most : losses ≤ m * i

pub added_none : (m : ℕ) (f : ℕ → Share) → Added m f 0 0 0
unfolding sum_below
added_none m f =
    record {
      allowed = below_none (λ k. (f k).allowed ≡ true);
      gains_are = refl;
      gains_most = omega arith;
      losses_are = refl;
      losses_most = omega arith;
    }

pub added_more : (m : ℕ) (f : ℕ → Share) (i g l : ℕ) (x : Share) → Added m f i g l → ShareIs m (f i) x → not x.allowed ≡ false
    → Added m f (i + 1) (g + x.gains) (l + x.losses)
unfolding sum_below
added_more m f i g l x b h t =
    let e : x.gains ≡ (f i).gains = ap (λ (y : Share). y.gains) h.is in
    let d : x.losses ≡ (f i).losses = ap (λ (y : Share). y.losses) h.is in
    record {
      allowed = below_more (λ k. (f k).allowed ≡ true) i b.allowed (sym (ap (λ (y : Share). y.allowed) h.is) ∙ not-false x.allowed t);
      gains_are = rw add-one (omega (arith, b.gains_are));
      gains_most = omega (arith, b.gains_most, h.gains_most);
      losses_are = rw add-one (omega (arith, b.losses_are));
      losses_most = omega (arith, b.losses_most, h.losses_most);
    }

pub ruleset adding = (added_none, added_more)

-- Of n states, one has weights that the facts do not allow; or all below i are allowed, and i is n.
module _ (m n : ℕ) (f : ℕ → Share) where
  pub not_all : (s : ℕ) (x : Share) → s < n → ShareIs m (f s) x → not x.allowed ≡ true → all_below n (λ k. (f k).allowed) ≡ false
  not_all s x h e t =
      is_false _ (λ a. not_both (all_elim n _ a s h) (sym (ap (λ (y : Share). y.allowed) e.is) ∙ not-true x.allowed t))

  pub all-added : (i g l : ℕ) → i ≡ n → Added m f i g l → all_below n (λ k. (f k).allowed) ≡ true
  all-added i g l e d = all_intro n (λ k. (f k).allowed) (λ k j. d.allowed k (omega arith))

-- ---- Whether the leaf closes

-- The code's answers, in turn.
module _ (by : Closing) (z : Sizes) (states rules leaves : List ℕ) (l : ℕ) (F : Facts) where
  -- Whether the rules of run e + 1 keep the weight, and whether the leaf closes.
  abbrev kept : ℕ → Bool
  kept e = kept_by (protocol_of z states rules) by (F.unused (e + 1)) (end_weight z leaves l e)

  abbrev closes : Bool
  closes = closes_by (protocol_of z states rules) by F (weights_of z leaves l)

  -- A rule of run 1 or of run 2 does not keep its weight.
  pub first_broken : (t : Bool) → t ≡ kept 0 → not t ≡ true → false ≡ closes
  first_broken t e h = sym (first_breaks (protocol_of z states rules) by F (weights_of z leaves l) (sym e ∙ not-true t h))

  pub second_broken : (t : Bool) → t ≡ kept 1 → not t ≡ true → false ≡ closes
  second_broken t e h = sym (second_breaks (protocol_of z states rules) by F (weights_of z leaves l) (sym e ∙ not-true t h))

  module _ (a b c : Known) (ka : KnownAt F 0 a) (kb : KnownAt F 1 b) (kc : KnownAt F 2 c) where
    abbrev shares : ℕ → Share
    shares = share_of by z states leaves l a b c

    in_shares : closes
        ≡ (kept 0 && kept 1)
        && all_below z.states (λ s. (shares s).allowed)
        && not (relates_by by (sum_below z.states (λ s. (shares s).gains)) (sum_below z.states (λ s. (shares s).losses)))
    unfolding share_of
    in_shares = by_shares (protocol_of z states rules) F (weights_of z leaves l) a b c ka kb kc by

    -- A state whose weights the facts do not allow.
    pub not_allowed : (s : ℕ) (x : Share) → s < z.states → ShareIs 68719476736 (shares s) x → not x.allowed ≡ true → false ≡ closes
    not_allowed s x h e t = rw (in_shares, not_all 68719476736 z.states shares s x h e t, and-false)

    -- All weights are allowed, and the sums are compared.
    pub sums_compared : (i g m : ℕ) (t u y : Bool) → t ≡ kept 0 → not t ≡ false → u ≡ kept 1 → not u ≡ false → i ≤ z.states → z.states ≤ i
        → Added 68719476736 shares i g m → y ≡ relates_by by g m → not y ≡ closes
    sums_compared i g m t u y et ht eu hu h k d v =
        let n : i ≡ z.states = omega arith in
        rw (in_shares, ← et, not-false t ht, ← eu, not-false u hu, all-added 68719476736 z.states shares i g m n d, v, d.gains_are, d.losses_are, n)

pub ruleset closings = (first_broken, second_broken, not_allowed, sums_compared)
