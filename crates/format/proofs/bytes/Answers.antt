-- `format::bytes` meets its contract: byte by byte, and past the end 0.
use Rattle.std.proofs.Common.{rules, ◌∙◌, refl, get_or}
use Rattle.std.proofs.lemmas.List.{get_or-drop}
use Rattle.format.specs.Bytes.Laws.{made_by}
use Rattle.format.proofs.bytes.Goals as goal

pub returns : goal.returns
returns g c i l =
    made_by (λ j. get_or c.tail-rest.result.now j 0) _ (λ x r q h. search rules) c.from_fn.result g.row.N 0 _ refl c.from_fn.ensures.items.each i
    (search rules) (search rules)
    ∙ rw c.tail-rest.ensures (get_or-drop c.args.k c.args.b.now i 0)
