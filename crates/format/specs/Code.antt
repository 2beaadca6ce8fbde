-- What the readers answer, beside the definitions of Bytes and Format.
use Rattle.std.specs.Prelude.{◌≡◌, Bool, List, ℕ, ◌<◌, ltb}
use Rattle.format.specs.Format.{is_output, is_input, fixed_of}
use Rattle.format.specs.declared.Flag.{Flag}
use Rattle.format.specs.declared.Flag.TheVariants.{Output, Input, Fixed}
use Rattle.format.specs.declared.Sizes.{Sizes}
pub mod Laws

-- What reading a number gives: the number v, below the bound m.
pub record Value (m v r : ℕ) : Type 0 where
  pub is : r ≡ v
  pub small : r < m

-- Whether state s has the flag.
abbrev pub has_flag : Sizes → List ℕ → Flag → ℕ → Bool
has_flag z states Output s = is_output z states s
has_flag z states Input s = is_input z states s
has_flag z states Fixed s = ltb 0 (fixed_of z states s)
