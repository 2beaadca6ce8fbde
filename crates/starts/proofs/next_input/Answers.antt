-- `starts::next_input` meets its contract: the search finds the first input, or none.
use Rattle.std.proofs.Common.{refl, rules}
use Rattle.starts.specs.Code.Laws.{found_from}
use Rattle.starts.proofs.next_input.Goals as goal

pub returns : goal.returns
returns c = found_from _ _ _ _ _ _ c.find.result c.find.ensures.ran refl c.requires (λ x b q k. search rules) _ c.unwrap_or.ensures
