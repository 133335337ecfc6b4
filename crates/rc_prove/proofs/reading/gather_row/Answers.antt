use Rattle.std.proofs.Common.{◌∙◌, get_or}
use Rattle.rc_facts.specs.Facts.{holds}
use Rattle.rc_annotations.specs.Annotations.{fact_with}
use Rattle.rc_prove.proofs.Gathering.{row_goes_on}
use Rattle.rc_prove.proofs.reading.gather_row.Goals as goal

pub loop-y-preserved : goal.loop-y-preserved
loop-y-preserved c = record {
  same = c.gather_one-in-loop-y-2.ensures.variables ∙ c.gather_one-in-loop-y.ensures.variables ∙ c.loop-y.invariant.same;
  added = row_goes_on (λ q. holds c.args.set.now (fact_with (λ v. get_or c.args.names.now v 0) q)) c.args.x c.loop-y.y (holds c.args.found.now) (holds c.loop-y.found) (holds c.gather_one-in-loop-y.new.found) (holds c.gather_one-in-loop-y-2.new.found) c.loop-y.invariant.added c.gather_one-in-loop-y.ensures.facts c.gather_one-in-loop-y-2.ensures.facts;
}
