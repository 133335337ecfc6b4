use Rattle.std.proofs.Common.{rules, ap, ◌∙◌, false}
use Rattle.rc_deletes.specs.Statements.{Here}
use Rattle.rc_deletes.specs.Items.{before_params}
use Rattle.rc_defined.specs.Contexts.{context_of}
use Rattle.rc_bodies.specs.Here.{here_of}
use Rattle.rc_items.specs.Outside.{outside_of}
use Rattle.rc_items.specs.Parts.{written_params, written_result}
use Rattle.rc_items.proofs.Params.{on_params}
use Rattle.rc_items.proofs.Functions.{declared_stops, params_stop, declared_behind}
use Rattle.rc_items.proofs.walk.prototype.Goals as goal

pub returns-in_err-declare-clause-err : goal.returns-in_err-declare-clause-err
returns-in_err-declare-clause-err c =
    let head = c.args.head.now in
    let h = declared_stops (context_of c.args.context.now) (outside_of c.args.outside.now) head.at head.deletes (written_result head) head.name.now (written_params head) c.in_err-declare.field-0.0 c.in_err-declare.ensures.err in
    search rules

pub returns-in_err-params_of-clause-err : goal.returns-in_err-params_of-clause-err
returns-in_err-params_of-clause-err c =
    let head = c.args.head.now in
    let h = declared_stops (context_of c.args.context.now) (outside_of c.args.outside.now) head.at head.deletes (written_result head) head.name.now (written_params head) c.in_err-params_of.field-0.0
    (params_stop (context_of c.args.context.now) (outside_of c.args.outside.now) false head.deletes (written_result head) head.name.now (written_params head) (here_of c.enter-here.result)
    (c.enter-here.ensures.here ∙ ap before_params c.in_ok-declare.ensures.behind)
    c.in_ok-declare.ensures.result_type c.in_ok-declare.ensures.name c.in_err-params_of.field-0.0 c.in_err-params_of.ensures.err) in
    search rules

pub returns-clause-behind : goal.returns-clause-behind
returns-clause-behind c =
    let head = c.args.head.now in
    let grown = on_params (context_of c.args.context.now) (here_of c.enter-here.result) (written_params head) in
    declared_behind (context_of c.args.context.now) (outside_of c.args.outside.now) (outside_of c.declare.new.outside) (outside_of c.enter-here.new.self) (outside_of c.leave-2.new.self) head.at head.deletes (written_result head) head.name.now (written_params head)
    (here_of c.enter-here.result) (here_of c.leave.new.self) c.in_ok-declare.ensures.behind c.enter-here.ensures.here c.enter-here.ensures.rest c.leave-2.ensures.rest
    (here_of c.params_of.new.here) c.in_ok-params_of.ensures.behind (c.leave.ensures c.enter-here.result c.outer-outer.ensures grown.0 (ap (λ (h : Here). h.names) c.in_ok-params_of.ensures.behind ∙ grown.1))
