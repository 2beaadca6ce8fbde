-- `ladder::handover_fault` meets its contract: handover holds at each rule below `s`, each rule below `u` is covered for `s`, and
-- no rule below `v` fits for `s` and `u`.
use Rattle.std.proofs.Common.{◌≡◌, not, None}
use Rattle.theory.specs.Below.{Clear}
use Rattle.theory.specs.Ladder.{handover_at}
use Rattle.format.specs.Format.{protocol_of, layers_of}
use Rattle.ladder.specs.Code.{fits_in, covered_in}
use Rattle.ladder.proofs.handover_fault.Given as goal

abbrev pub invariant-test : goal.invariant-test
invariant-test l =
    (l.fault ≡ None) × Clear (λ k. not (handover_at (protocol_of l.z l.states l.rules) (layers_of l.z l.rules) k)) l.s

abbrev pub invariant-search : goal.invariant-search
invariant-search l = (l.fault ≡ None) × Clear (λ k. not (covered_in l.rules l.z.rules l.rule k)) l.u

abbrev pub invariant-loop-v : goal.invariant-loop-v
invariant-loop-v l = Clear (fits_in l.rules l.layer l.j) l.v
