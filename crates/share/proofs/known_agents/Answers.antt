-- Each return is a case of the definition.
use Rattle.std.proofs.Common.{rules}
use Rattle.share.specs.Code.Laws.{counting}
use Rattle.share.proofs.known_agents.Goals as goal

pub returns-then-exactly : goal.returns-then-exactly
returns-then-exactly c = search (counting, rules)

pub returns-else-exactly : goal.returns-else-exactly
returns-else-exactly c = search (counting, rules)
