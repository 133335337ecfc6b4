use Rattle.std.proofs.Common.{rules, ap, sym, subst, ◌∙◌, ◌≡◌, false, map, Option}
use Rattle.std.proofs.lemmas.List.{length-map}
use Rattle.rc_syntax.specs.Shape as written
use Rattle.rc_core.specs.Types.{Ty}
use Rattle.rc_core.specs.Shapes.{ty_of, stmts_of}
use Rattle.rc_core.proofs.ShapeRows.{made_block}
use Rattle.rc_deletes.specs.Judged.{Holds}
use Rattle.rc_deletes.specs.Kinds.{place_of}
use Rattle.rc_deletes.specs.Statements.{Here, stmts}
use Rattle.rc_deletes.specs.Items.{before_params, behind_definition, with_params, is_struct_option}
use Rattle.rc_defined.specs.Contexts.{context_of}
use Rattle.rc_bodies.specs.Here.{here_of}
use Rattle.rc_items.specs.Outside.{outside_of}
use Rattle.rc_items.specs.Parts.{written_params, written_result}
use Rattle.rc_items.proofs.Functions.{defined_stops, defined_held, defined_behind, one_function}
use Rattle.rc_items.proofs.walk.definition.Goals as goal

pub returns-in_err-declare-clause-err : goal.returns-in_err-declare-clause-err
returns-in_err-declare-clause-err c =
    let head = c.args.head.now in
    let h = defined_stops (context_of c.args.context.now) (outside_of c.args.outside.now) head.at head.deletes (written_result head) head.name.now (written_params head) (written.stmts_of c.args.body.now) c.in_err-declare.field-0.0 c.in_err-declare.ensures.err in
    search rules

pub returns-clause-ok : goal.returns-clause-ok
returns-clause-ok c =
    let head = c.args.head.now in
    let context = context_of c.args.context.now in
    let here = here_of c.enter-here.result in
    defined_held context (outside_of c.args.outside.now) head.at head.deletes (written_result head) head.name.now (written_params head) (written.stmts_of c.args.body.now) here
    (c.enter-here.ensures.here ∙ ap before_params c.in_ok-declare.ensures.behind)
    c.in_ok-declare.ensures.result_type c.in_ok-declare.ensures.name c.in_ok-steps.ensures.params (stmts_of c.in_ok-steps.steps.items)
    (subst (λ (t : Option Ty). stmts context t false (with_params context here (written_params head)) (written.stmts_of c.args.body.now) ≡ Holds (stmts_of c.in_ok-steps.steps.items)) c.in_ok-gives.ensures.ok c.in_ok-steps.ensures.body)
    (ap is_struct_option (sym c.in_ok-gives.ensures.ok) ∙ sym c.is_struct_option.ensures ∙ c.in_ok-refuse_where.ensures.ok)
    ∙ one_function head.deletes head.at.line
    (length-map head.params.now written.param_of ∙ sym c.in_ok-parameters.ensures.ok) (sym (ap (λ ts. map ty_of ts.items) c.leave-locals.ensures.locals ∙ ap (λ (h : Here). h.locals) c.in_ok-steps.ensures.behind)) (sym c.in_ok-gives.ensures.ok) (sym (made_block c.in_ok-steps.steps))

pub returns-clause-behind : goal.returns-clause-behind
returns-clause-behind c =
    let head = c.args.head.now in
    let context = context_of c.args.context.now in
    let number : c.find-number.result ≡ place_of context.functions head.name.now.text = c.find-number.ensures.number ∙ ap (place_of context.functions) c.as_slice.ensures in
    defined_behind context (outside_of c.args.outside.now) (outside_of c.declare.new.outside) (outside_of c.enter-here.new.self) (outside_of c.leave-locals.new.self) head.at head.deletes (written_result head) head.name.now (written_params head)
    (here_of c.enter-here.result) (here_of c.body_of.new.here) c.in_ok-declare.ensures.behind c.enter-here.ensures.here c.enter-here.ensures.rest c.leave-locals.ensures.rest
    (written.stmts_of c.args.body.now) c.in_ok-outside.field-0 c.in_ok-steps.ensures.behind (c.in_ok-outside.ensures.ok ∙ ap (behind_definition (outside_of c.leave-locals.new.self).functions) number)
