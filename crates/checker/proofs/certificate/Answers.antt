-- `checker::certificate` meets its contract: the sections are those of the docket.
use Rattle.std.proofs.Common.{rules}
use Rattle.checker.specs.Check.Laws.{rules_sound, sections_are}
use Rattle.shape.proofs.SoundLaws.{docket_sound}
use Rattle.checker.proofs.certificate.Goals as goal

pub sections_check-requires : goal.sections_check-requires
sections_check-requires c = rules_sound _ _ _ c.rules_section.ensures (docket_sound c.args.docket)

pub returns : goal.returns
returns c = search (sections_are, rules)
