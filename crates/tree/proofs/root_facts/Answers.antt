-- By the words of the inputs and of the states with fixed agents the facts are the fresh ones of the protocol.
use Rattle.tree.specs.Code.Laws.{fresh_facts}
use Rattle.std.proofs.Common.{rules}
use Rattle.tree.proofs.root_facts.Goals as goal

pub returns : goal.returns
returns c = search (fresh_facts, rules)
