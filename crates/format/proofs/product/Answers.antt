-- `format::product` meets its contract: two 16-bit numbers have a 32-bit product.
use Rattle.std.proofs.Common.{rules}
use Rattle.format.specs.Bytes.Laws.{product_below}
use Rattle.format.proofs.product.Goals as goal

pub overflow_mul-result : goal.overflow_mul-result
overflow_mul-result c = search (product_below 65536, rules)

pub returns : goal.returns
returns c = search (product_below 65536, rules)
