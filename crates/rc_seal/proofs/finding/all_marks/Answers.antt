use Rattle.std.proofs.Common.{◌∙◌, Some, sym, ap}
use Rattle.std.proofs.lemmas.Option.{slice_get-get_or}
use Rattle.rc_prove.specs.Family.{family_of}
use Rattle.rc_seal.proofs.Found.{one_more}
use Rattle.rc_seal.proofs.finding.all_marks.Goals as goal

pub loop-number-preserved : goal.loop-number-preserved
loop-number-preserved c =
    one_more c.args.routes.now (family_of c.args.claims.now.entries.items c.args.claims.now.exits.items c.args.claims.now.frames.items) c.loop-number.number c.loop-number.all.items c.push.new.self.items c.in_ok-marks.marks
    c.index-routes-number.result (slice_get-get_or c.args.routes.now c.loop-number.number c.index-routes-number.result c.loop-number-test.true ∙ ap Some (sym c.index-routes-number.is)) c.loop-number.invariant c.in_ok-push.ensures.items c.in_ok-marks.ensures
