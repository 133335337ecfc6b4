use Rattle.std.proofs.Common.{rules, ◌∙◌, sym, ap, subst, w64, SFits, to_z-of_z}
use Rattle.rc_core.specs.Arithmetic.{calculate_one}
use Rattle.rc_core.specs.Evaluation.{give_number}
use Rattle.rc_core.specs.Runs.{Run, bind, computed}
use Rattle.rc_core.specs.Shapes.{expr_of}
use Rattle.rc_frames.specs.Codes.{frames_of}
use Rattle.rc_nodes.specs.Coming.{Comes}
use Rattle.rc_memory.specs.KeptWorld.{KeptWorld}
use Rattle.rc_nodes.specs.Stepping.{Doing, first_step, giving_next}
use Rattle.rc_values.specs.Values.{value_of}
use Rattle.rc_nodes.proofs.expressions.first_value_to_inner_expression.Goals as goal

pub returns-in-Unary : goal.returns-in-Unary
returns-in-Unary c = λ inside program env w.
    let fits : SFits w64 c.number_in.result = search rules in
    let fs = frames_of c.args.frames.now in
    let P : Run KeptWorld Doing → Type 0 = Comes c.computed.result fs env w.heap w in
    subst P
    (ap (λ o. bind (bind (computed c.in-Unary.line o w) give_number) (giving_next program fs env)) (c.calculate_one.ensures ∙ ap (calculate_one c.in-Unary.operator c.in-Unary.signedness) (to_z-of_z fits ∙ c.number_in.ensures))
    ∙ sym (ap (λ e. first_step program (expr_of e) (value_of c.args.value) fs env w) c.in-Unary.is))
    (c.computed.ensures program fs env w)

pub returns-in-RegionOf : goal.returns-in-RegionOf
returns-in-RegionOf c = λ inside program env w.
    let fs = frames_of c.args.frames.now in
    let P : Run KeptWorld Doing → Type 0 = Comes c.region_named.result fs env w.heap w in
    subst P (sym (ap (λ e. first_step program (expr_of e) (value_of c.args.value) fs env w) c.in-RegionOf.is)) (c.region_named.ensures program fs env w)
