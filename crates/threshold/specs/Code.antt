-- How the leaves of a tree close, over the bytes, and the leaf rule of a sheet in the parts in which the code goes through it.
use Rattle.std.specs.Prelude.{Bool, false, cond, List, ℕ, ◌+◌, ◌-◌, ◌*◌}
use Rattle.theory.specs.Protocol.{Protocol}
use Rattle.theory.specs.Facts.{Facts}
use Rattle.theory.specs.Leaf.{leaf_closes}
use Rattle.theory.specs.Remainder.{remainder_closes}
use Rattle.theory.specs.Tree.{is_modulus}
use Rattle.theory.specs.Sheet as theory
use Rattle.theory.specs.Sheet.{sheet_closes}
use Rattle.format.specs.Format.{end_weight, weights_of}
use Rattle.format.specs.declared.Sizes.{Sizes}
use Rattle.share.specs.Code.{both_of, start_share, end_share}
use Rattle.share.specs.declared.Known.{Known}
use Rattle.share.specs.declared.Share.{Share}
use Rattle.leaf.specs.Code.{fixed_at}
use Rattle.threshold.specs.Numbers.{sheet_number, sheet_weight, multiplier_of}
use Rattle.threshold.specs.declared.Leaves.{Leaves}
use Rattle.threshold.specs.declared.Leaves.TheVariants.{OfDocket, OfSheet}
use Rattle.threshold.specs.declared.Threshold.{Threshold}
pub mod Laws

-- The threshold on the numbers that the bytes have.
abbrev pub threshold_of : Threshold → List ℕ → theory.Threshold
threshold_of t numbers =
    record {
      numbers = λ s. cond t.negated (65536 - sheet_number numbers s) (sheet_number numbers s);
      plus = t.plus;
      minus = t.minus;
    }

-- Leaf l closes on the facts F, by the leaf rule of a docket or of a sheet.
unfoldable pub closes_for : Protocol → Sizes → List ℕ → List ℕ → Leaves → Facts → ℕ → Bool
closes_for P z numbers leaves OfDocket F l = leaf_closes P F (weights_of z leaves l)
closes_for P z numbers leaves (OfSheet t) F l =
    sheet_closes P (threshold_of t numbers) F (sheet_weight z.states leaves l) (multiplier_of z.states leaves l)

-- A node of kind 7 may have the modulus m. In the tree of a sheet there is none.
unfoldable pub moduli_for : Leaves → ℕ → Bool
moduli_for OfDocket m = is_modulus m
moduli_for (OfSheet t) m = false

-- Leaf l closes on the facts F by remainders modulo m.
unfoldable pub closes_modulo_for : Protocol → Sizes → List ℕ → Leaves → ℕ → Facts → ℕ → Bool
closes_modulo_for P z leaves OfDocket m F l = remainder_closes P m F (weights_of z leaves l)
closes_modulo_for P z leaves (OfSheet t) m F l = false

-- The bias of y + k × a.
abbrev pub bias_of : ℕ → ℕ
bias_of k = 10000 + k * 32768

-- The share of state s in the leaf with these bytes and the multiplier k, by what is known at the start and at the end.
unfoldable pub share_of : Threshold → Sizes → List ℕ → List ℕ → List ℕ → Known → Known → ℕ → ℕ → Share
share_of t z states numbers leaf a b k s =
    let y = end_weight z leaf 0 0 s in
    both_of (start_share a (fixed_at z states s) s (bias_of k) (y + k * (threshold_of t numbers).numbers s)) (end_share b s y)
