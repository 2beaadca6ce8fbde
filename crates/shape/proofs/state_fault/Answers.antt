-- `shape::state_fault` meets its contract: each return is one case of the test.
use Rattle.std.proofs.Common.{rules, refl}
use Rattle.theory.proofs.Below.Scan.{found_where, any_found}
use Rattle.shape.specs.Shape.{bad_record}
use Rattle.format.specs.Format.{is_input}
use Rattle.shape.proofs.ShapeLaws.{first-bad_record, first-beyond, first_no_input}
use Rattle.shape.proofs.state_fault.Goals as goal

pub returns-then-is_some : goal.returns-then-is_some
returns-then-is_some c =
    first-bad_record _ _ _
    (found_where _ (bad_record c.args.z c.args.states.now) _ _ _ _ c.find-bad.ensures.ran refl (λ x b q k. search rules))
    (search rules)

pub returns-then-any : goal.returns-then-any
returns-then-any c =
    first-beyond _ _ _
    (found_where _ (bad_record c.args.z c.args.states.now) _ _ _ _ c.find-bad.ensures.ran refl (λ x b q k. search rules))
    _ (any_found _ (is_input c.args.z c.args.states.now) _ _ _ _ c.any.ensures.ran refl (λ x b q k. search rules))
    (search rules) (search rules)

pub returns : goal.returns
returns c =
    first_no_input _ _ _
    (found_where _ (bad_record c.args.z c.args.states.now) _ _ _ _ c.find-bad.ensures.ran refl (λ x b q k. search rules))
    _ (any_found _ (is_input c.args.z c.args.states.now) _ _ _ _ c.any.ensures.ran refl (λ x b q k. search rules))
    (search rules) (search rules)
