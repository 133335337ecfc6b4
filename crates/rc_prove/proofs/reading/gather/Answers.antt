use Rattle.std.proofs.Common.{◌∙◌, get_or, length}
use Rattle.rc_facts.specs.Facts.{holds}
use Rattle.rc_annotations.specs.Annotations.{fact_with}
use Rattle.rc_prove.proofs.Gathering.{rows_go_on}
use Rattle.rc_prove.proofs.reading.gather.Goals as goal

pub loop-x-preserved : goal.loop-x-preserved
loop-x-preserved c = record {
  same = c.gather_row.ensures.variables ∙ c.loop-x.invariant.same;
  added = rows_go_on (λ q. holds c.args.set.now (fact_with (λ v. get_or c.args.names.now v 0) q)) (length c.args.names.now) c.loop-x.x (holds c.args.found.now) (holds c.loop-x.found) (holds c.gather_row.new.found) c.loop-x.invariant.added c.gather_row.ensures.facts;
}
