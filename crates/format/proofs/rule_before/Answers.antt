-- `format::rule_before` meets its contract: the derived order compares field by field.
use Rattle.std.proofs.Common.{rules}
use Rattle.theory.specs.Order.{lex_less}
use Rattle.format.proofs.rule_before.Goals as goal

pub returns : goal.returns
unfolding lex_less
returns c = search rules
