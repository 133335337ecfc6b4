use Rattle.std.proofs.Common.{◌∙◌, sym, ap, Result, Ok, Err, IfOk}
use Rattle.rc_core.specs.Runs.{Go}
use Rattle.rc_core.specs.Shapes.{expr_of, place_of, program_of}
use Rattle.rc_frames.specs.Codes.{frames_of, CodeFrames}
use Rattle.rc_nodes.specs.Stepping.{begin, start}
use Rattle.rc_nodes.proofs.expressions.begin_expression.Goals as goal

if_ok_map : {T E : Type 0} (r : Result T E) (P Q : T → Type 0) → ((x : T) → P x → Q x) → IfOk r P → IfOk r Q
if_ok_map (Ok x) P Q f h = f x h
if_ok_map (Err e) P Q f h = tt

pub returns-in_ok-push-in-Read-clause-begins : goal.returns-in_ok-push-in-Read-clause-begins
returns-in_ok-push-in-Read-clause-begins c =
    let program = program_of c.args.setting.now.parts.now in
    if_ok_map c.begin_place.result _ _ (λ x h needs w.
    ap (λ e. begin program (expr_of e) (frames_of c.args.frames.now) c.args.locals.now w) c.in-Read.is
    ∙ ap (λ d. Go d w) (ap (λ (fs : CodeFrames). start program (place_of c.in-Read.place) (frames_of fs) c.args.locals.now) (sym c.in_ok-push-in-Read.ensures.pushed) ∙ sym (h program c.args.locals.now)))
    c.begin_place.ensures.starts
