use Rattle.rc_link.specs.Answers.{trees_of}
use Rattle.rc_link.proofs.Answering.{is_told, is_apart}
use Rattle.rc_link.proofs.linking.link.Goals as goal

pub returns-in-Some-clause-err : goal.returns-in-Some-clause-err
returns-in-Some-clause-err c = is_told (trees_of c.args.units.now) c.in_ok-refusal.field-0 c.in-Some.refusal c.in-Some.is c.in_ok-refusal.ensures

pub typed-requires-clause-apart : goal.typed-requires-clause-apart
typed-requires-clause-apart c = is_apart (trees_of c.args.units.now) c.in_ok-refusal.field-0 c.in_default.not-Some c.in_ok-refusal.ensures
