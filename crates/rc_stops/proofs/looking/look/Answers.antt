use Rattle.std.proofs.Common.{ap, ◌∙◌}
use Rattle.std.proofs.lemmas.Bool.{or_left, or_right}
use Rattle.rc_base.specs.BitSets.{marks}
use Rattle.rc_facts.proofs.Absent.{absent-lt}
use Rattle.rc_stops.proofs.Looks.{wider_missing, same_row}
use Rattle.rc_stops.proofs.looking.look.Goals as goal

pub returns-clause-told : goal.returns-clause-told
returns-clause-told c =
    let more = c.if-is_subset.ensures in
    wider_missing c.args.rows.now c.args.at c.union.result c.index-rows-at-2.result c.requires.at c.index-rows-at-2.is
    (absent-lt c.index-rows-at-2.result c.union.result more.0 (λ y m. c.union.ensures y ∙ or_left (marks c.index-rows-at-2.result y) (marks c.before-row.result y) m) (c.union.ensures more.0 ∙ or_right (marks c.index-rows-at-2.result more.0) (marks c.before-row.result more.0) more.1) (ap (λ r. marks r more.0) (same_row c.args.rows.now c.args.at c.index-rows-at-2.result c.index-rows-at.result c.requires.at c.index-rows-at-2.is c.index-rows-at.is) ∙ more.2))
