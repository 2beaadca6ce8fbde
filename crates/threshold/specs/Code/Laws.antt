-- The leaf rule of a sheet, by the shares of the states. Assumes nothing.
use Rattle.std.specs.Prelude.{◌≡◌, Bool, true, not, ◌&&◌, ◌||◌, List, ℕ, ◌+◌, ◌*◌, ◌≤◌, ◌<◌, ltb}
use Rattle.std.proofs.Math.Path.{sym, ap, fun_ext}
use Rattle.std.proofs.Common.{◌∙◌, arith}
use Rattle.std.proofs.Math.Bool.{false, and_assoc, and-false}
use Rattle.std.proofs.Math.Dec.{leb}
use borrow.Author.Tests.{not-true, not-false}
use Rattle.theory.specs.Below.{all_below, sum_below}
use Rattle.theory.proofs.Below.Laws.{sum_add}
use Rattle.theory.specs.Protocol.{Protocol, only_fixed}
use Rattle.theory.specs.Facts.{Facts}
use Rattle.theory.specs.Leaf.{extra, spare, non_increasing, start_fits, times, end_fits, surplus, shortfall}
use Rattle.theory.specs.Tree.{is_modulus}
use Rattle.theory.specs.Sheet as theory
use Rattle.theory.specs.Sheet.{sheet_closes}
use Rattle.format.specs.Bytes.{le16}
use Rattle.format.specs.Code.{Value}
use Rattle.format.specs.Format.{protocol_of, end_weight, weights_of}
use Rattle.format.specs.declared.Sizes.{Sizes}
use Rattle.share.specs.Code.{closes_by, kept_by, KnownAt, fixed_in, times_of, both_of, start_share, end_share, ShareIs}
use Rattle.share.specs.Code.Laws.{all_and}
use Rattle.share.specs.declared.Closing.TheVariants.{BySums, ByRemainders}
use Rattle.share.specs.declared.Fixed.{Fixed}
use Rattle.share.specs.declared.Known.{Known}
use Rattle.share.specs.declared.Share.{Share}
use Rattle.leaf.specs.Code.{fixed_at}
use Rattle.leaf.specs.Code.Laws.{Added, not_all, all-added}
use Rattle.threshold.specs.Numbers.{leaf_in, sheet_weight, multiplier_of}
use Rattle.threshold.specs.Code.{threshold_of, closes_for, moduli_for, closes_modulo_for, bias_of, share_of}
use Rattle.threshold.specs.declared.Leaves.{Leaves}
use Rattle.threshold.specs.declared.Leaves.TheVariants.{OfDocket, OfSheet}
use Rattle.threshold.specs.declared.Threshold.{Threshold}

-- The weights of a leaf, whose bytes one has, read as those of a docket's first leaf at end 1.
pub weight_in_lem : (z : Sizes) (leaves one : List ℕ) (l : ℕ) → one ≡ leaf_in z.states leaves l → sheet_weight z.states leaves l ≡ end_weight z one 0 0
weight_in_lem z leaves one l o =
    fun_ext (λ s.
    let e : 2 * (2 * (0 * z.states) + 0 * z.states + s) ≡ 2 * s = omega arith in
    rw (e, o))

-- ---- One state

-- y is the weight, n the number, x and d what the multiplier k adds to the bias and to the weight, p and q the shares at the start and
-- at the end.
pub shared : (t : Threshold) (z : Sizes) (states numbers leaf : List ℕ) (a b : Known) (k s y n x d e g i j m : ℕ) (f : Fixed) (p q r : Share)
    → Value 65536 (end_weight z leaf 0 0 s) y → Value 65537 ((threshold_of t numbers).numbers s) n → f ≡ fixed_at z states s → Value e (k * 32768) x
    → Value g (k * n) d → ShareIs i (start_share a f s (10000 + x) (y + d)) p → ShareIs j (end_share b s y) q → ShareIs m (both_of p q) r
    → ShareIs m (share_of t z states numbers leaf a b k s) r
unfolding share_of
shared t z states numbers leaf a b k s y n x d e g i j m f p q r vy vn hf vx vd hp hq h =
    rw (← vy.is, ← vn.is, ← hf, ← vx.is, ← vd.is, ← hp.is, ← hq.is) h

-- ---- All states

-- Whether a leaf closes, by the shares of its states.
module _ (P : Protocol) (B : theory.Threshold) (F : Facts) (w : ℕ → ℕ) (k : ℕ) (a b : Known) (ka : KnownAt F 0 a) (kb : KnownAt F 1 b) where
  abbrev sum : ℕ → ℕ
  sum s = w s + k * B.numbers s

  abbrev shares : ℕ → Share
  shares s = both_of (start_share a (fixed_in P s) s (bias_of k) (sum s)) (end_share b s (w s))

  allowed_is : all_below P.states (λ s. (shares s).allowed) ≡ start_fits P F (bias_of k) sum && end_fits P F 1 10000 w
  unfolding start_fits end_fits start_share end_share
  allowed_is =
      ap (all_below P.states) (fun_ext (λ s. rw (ka.absent, kb.absent, kb.at_most_one)))
      ∙ all_and P.states (λ s. F.absent 0 s || (only_fixed P s || leb (sum s) (bias_of k)))
      (λ s. F.absent 1 s || (leb 10000 (w s) || F.at_most_one 1 s))

  gains_are : sum_below P.states (λ s. (shares s).gains)
      ≡ sum_below P.states (surplus P F 1 10000 w) + sum_below P.states (spare (times P F) (bias_of k) sum)
  unfolding times spare surplus start_share times_of end_share
  gains_are =
      ap (sum_below P.states) (fun_ext (λ s. rw (ka.absent, ka.present, kb.present)))
      ∙ sum_add P.states (surplus P F 1 10000 w) (spare (times P F) (bias_of k) sum)

  losses_are : sum_below P.states (λ s. (shares s).losses)
      ≡ sum_below P.states (shortfall P F 1 10000 w) + sum_below P.states (extra (times P F) (bias_of k) sum)
  unfolding times extra shortfall start_share times_of end_share
  losses_are =
      ap (sum_below P.states) (fun_ext (λ s. rw (ka.absent, ka.present, kb.absent)))
      ∙ sum_add P.states (shortfall P F 1 10000 w) (extra (times P F) (bias_of k) sum)

  by_shares : sheet_closes P B F w k
      ≡ non_increasing P (F.unused 1) w
      && all_below P.states (λ s. (shares s).allowed)
      && ltb (sum_below P.states (λ s. (shares s).losses) + k * B.minus) (sum_below P.states (λ s. (shares s).gains) + k * B.plus)
  unfolding sheet_closes
  by_shares =
      rw (allowed_is, gains_are, losses_are, and_assoc (non_increasing P (F.unused 1) w) (start_fits P F (bias_of k) sum) (end_fits P F 1 10000 w))

-- ---- Whether the leaf closes

-- The code's answers, in turn; one has the bytes of leaf l.
module _ (t : Threshold) (z : Sizes) (states rules numbers leaves one : List ℕ) (l : ℕ) (F : Facts) (o : one ≡ leaf_in z.states leaves l) where
  abbrev P : Protocol
  P = protocol_of z states rules

  abbrev closes : Bool
  closes = sheet_closes P (threshold_of t numbers) F (sheet_weight z.states leaves l) (multiplier_of z.states leaves l)

  -- Whether the rules keep the weight.
  abbrev kept : Bool
  kept = kept_by P BySums (F.unused 1) (end_weight z one 0 0)

  in_one : closes ≡ sheet_closes P (threshold_of t numbers) F (end_weight z one 0 0) (le16 one (2 * z.states))
  in_one = rw (weight_in_lem z leaves one l o, ← o)

  pub rules_broken : (x : Bool) → x ≡ kept → not x ≡ true → false ≡ closes
  unfolding kept_by sheet_closes
  rules_broken x e h =
      let n : non_increasing P (F.unused 1) (end_weight z one 0 0) ≡ false = sym e ∙ not-true x h in
      sym (in_one ∙ rw n)

  module _ (k : ℕ) (a b : Known) (hk : k ≡ le16 one (2 * z.states)) (ka : KnownAt F 0 a) (kb : KnownAt F 1 b) where
    abbrev each : ℕ → Share
    each = share_of t z states numbers one a b k

    in_shares : closes
        ≡ kept && all_below z.states (λ s. (each s).allowed)
        && ltb (sum_below z.states (λ s. (each s).losses) + k * t.minus) (sum_below z.states (λ s. (each s).gains) + k * t.plus)
    unfolding share_of kept_by
    in_shares = rw (in_one, ← hk) (by_shares P (threshold_of t numbers) F (end_weight z one 0 0) k a b ka kb)

    pub not_allowed : (s : ℕ) (x : Share) → s < z.states → ShareIs 1125899906842624 (each s) x → not x.allowed ≡ true → false ≡ closes
    not_allowed s x h e r = rw (in_shares, not_all 1125899906842624 z.states each s x h e r, and-false)

    pub sums_compared : (i g m c d u v : ℕ) (x : Bool) → x ≡ kept → not x ≡ false → i ≤ z.states → z.states ≤ i → Added 1125899906842624 each i g m
        → Value u (k * t.minus) c → Value v (k * t.plus) d → ltb (m + c) (g + d) ≡ closes
    sums_compared i g m c d u v x ex hx h r ad vc vd =
        let n : i ≡ z.states = omega arith in
        rw (in_shares, ← ex, not-false x hx, all-added 1125899906842624 z.states each i g m n ad, vc.is, vd.is, ad.gains_are, ad.losses_are, n)

pub ruleset closings = (rules_broken, not_allowed, sums_compared)

-- ---- Whose leaves they are

module _ (whose : Leaves) (P : Protocol) (z : Sizes) (numbers leaves : List ℕ) (F : Facts) (l : ℕ) (r : Bool) where
  pub holds_docket : whose ≡ OfDocket → r ≡ closes_by P BySums F (weights_of z leaves l) → r ≡ closes_for P z numbers leaves whose F l
  unfolding closes_for closes_by
  holds_docket e h = rw e h

  pub holds_sheet : (t : Threshold) → whose ≡ OfSheet t
      → r ≡ sheet_closes P (threshold_of t numbers) F (sheet_weight z.states leaves l) (multiplier_of z.states leaves l)
      → r ≡ closes_for P z numbers leaves whose F l
  unfolding closes_for
  holds_sheet t e h = rw e h

  pub remains_docket : (m : ℕ) → whose ≡ OfDocket → r ≡ closes_by P (ByRemainders m) F (weights_of z leaves l) → r ≡ closes_modulo_for P z leaves whose m F l
  unfolding closes_modulo_for closes_by
  remains_docket m e h = rw e h

pub remains_sheet : (whose : Leaves) (P : Protocol) (z : Sizes) (leaves : List ℕ) (F : Facts) (l : ℕ) (t : Threshold) (m : ℕ) → whose ≡ OfSheet t
    → false ≡ closes_modulo_for P z leaves whose m F l
unfolding closes_modulo_for
remains_sheet whose P z leaves F l t m e = rw e

pub modulus_docket : (whose : Leaves) (m : ℕ) → whose ≡ OfDocket → leb 2 m && leb m 1000 ≡ moduli_for whose m
unfolding moduli_for is_modulus
modulus_docket whose m e = rw e

pub modulus_sheet : (whose : Leaves) (m : ℕ) (t : Threshold) → whose ≡ OfSheet t → false ≡ moduli_for whose m
unfolding moduli_for
modulus_sheet whose m t e = rw e

pub ruleset choosing = (holds_docket, holds_sheet, remains_docket, remains_sheet, modulus_docket, modulus_sheet)
