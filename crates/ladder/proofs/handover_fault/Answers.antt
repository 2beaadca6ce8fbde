-- `ladder::handover_fault` meets its contract: handover holds at each rule below `s`, each rule below `u` is covered for `s`, and
-- no rule below `v` fits for `s` and `u`.
use Rattle.std.proofs.Common.{refl, sym, ap, ◌∙◌, arith}
use Rattle.std.specs.Prelude.{true}
use Rattle.std.proofs.Math.Bool.{not}
use Rattle.theory.proofs.Below.Scan.{clear_next, where_hit, where-end}
use Rattle.ladder.specs.Code.Laws.{covered_higher, covered_by, covered_none, all_covered, uncovered, lowest_passes}
use Rattle.ladder.proofs.handover_fault.Goals as goal

pub test-preserved-then-rule-eq0 : goal.test-preserved-then-rule-eq0
test-preserved-then-rule-eq0 c = (
  c.test.invariant.0,
  clear_next _ _ c.test.invariant.1
      (lowest_passes c.args.z c.args.states.now _ c.requires _ _ c.read_rule-rule.ensures (omega arith)),
)

pub search-preserved-then-rule_fits : goal.search-preserved-then-rule_fits
search-preserved-then-rule_fits c = (
  c.search.invariant.0,
  clear_next _ _ c.search.invariant.1
      (ap not
      (covered_by _ _ _ _ _ c.read_rule-other.ensures _ c.pre_sequence-j.ensures _ _ (omega arith) (omega arith) c.rule_fits.ensures c.if-rule_fits.true)),
)

pub search-preserved : goal.search-preserved
search-preserved c =
    (c.search.invariant.0, clear_next _ _ c.search.invariant.1 (ap not (covered_higher _ _ _ _ _ c.read_rule-other.ensures (omega arith))))

pub test-preserved : goal.test-preserved
test-preserved c = (
  c.search.invariant.0,
  clear_next _ _ c.test.invariant.1
      (all_covered c.args.z c.args.states.now _ c.requires _ _ c.read_rule-rule.ensures _ c.search.invariant.1 (omega arith)),
)

pub returns-after-test : goal.returns-after-test
returns-after-test c = c.test.invariant.0 ∙ where-end _ _ _ (omega arith) c.test.invariant.1

pub returns-after-loop-v : goal.returns-after-loop-v
returns-after-loop-v c =
    where_hit _ _ _ true (omega arith) c.test.invariant.1
    (sym (uncovered c.args.z c.args.states.now _ c.requires _ _ c.read_rule-rule.ensures _ (omega arith)
    (covered_none _ _ _ _ _ c.read_rule-other.ensures _ c.pre_sequence-j.ensures _ (omega arith) (omega arith) c.loop-v.invariant))) refl
