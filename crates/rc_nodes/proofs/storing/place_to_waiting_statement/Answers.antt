use Rattle.std.proofs.Common.{◌∙◌, ◌∷◌, ap, sym}
use Rattle.rc_core.specs.Shapes.{place_of, stmt_of}
use Rattle.rc_frames.specs.Codes.{frames_of}
use Rattle.rc_frames.specs.Frames.{inside, sourced}
use Rattle.rc_nodes.specs.Stepping.{place_step, start}
use Rattle.rc_nodes.proofs.Results.{if_ok_map}
use Rattle.rc_nodes.proofs.storing.place_to_waiting_statement.Goals as goal

pub returns-in-Copy-clause-places : goal.returns-in-Copy-clause-places
returns-in-Copy-clause-places c = if_ok_map c.wait_for_place.result _ _ (λ x h program env.
    ap (λ s. place_step program (stmt_of s) c.args.target (frames_of c.args.frames.now) env) c.in-Copy.is
    ∙ ap (λ s. start program (place_of c.in-Copy.right) (inside (stmt_of s) (sourced c.args.target) ∷ frames_of c.args.frames.now) env) (sym c.in-Copy.is)
    ∙ sym (h program env))
    c.wait_for_place.ensures.waits
