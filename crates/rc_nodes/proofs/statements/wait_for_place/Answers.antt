use Rattle.std.proofs.Common.{◌∙◌, ap}
use Rattle.rc_core.specs.Shapes.{place_of}
use Rattle.rc_frames.specs.Codes.{frames_of, CodeFrames}
use Rattle.rc_nodes.specs.Stepping.{start}
use Rattle.rc_nodes.proofs.Results.{if_ok_map}
use Rattle.rc_nodes.proofs.statements.wait_for_place.Goals as goal

pub returns-clause-waits : goal.returns-clause-waits
returns-clause-waits c = if_ok_map c.begin_place.result _ _ (λ x h program env. h program env ∙ ap (λ (fs : CodeFrames). start program (place_of c.args.place.now) (frames_of fs) env) c.in_ok-push.ensures.pushed) c.begin_place.ensures.starts
