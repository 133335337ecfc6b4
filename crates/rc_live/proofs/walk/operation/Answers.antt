use Rattle.std.proofs.Common.{sym, ap, ◌∙◌}
use Rattle.rc_rlang.specs.Shapes.{operation_of}
use Rattle.rc_live.specs.Walking.{structs_in, touch_in}
use Rattle.rc_live.proofs.Back.{nothing_done, reads_done, calls_done}
use Rattle.rc_live.proofs.walk.operation.Goals as goal

pub returns-in-Nothing : goal.returns-in-Nothing
returns-in-Nothing c types l s h =
    let structs = structs_in c.args.context.now.parts.now in
    nothing_done c.args.context.now types (operation_of structs c.args.operation.now) l c.args.live c.args.walk.now c.pass.new.self (sym (ap touch_in c.in-Nothing.is) ∙ c.touch.ensures structs) h c.pass.ensures

pub returns-in-Reads : goal.returns-in-Reads
returns-in-Reads c types l s h =
    let structs = structs_in c.args.context.now.parts.now in
    reads_done c.args.context.now types (operation_of structs c.args.operation.now) c.in-Reads.local l c.with.result c.args.walk.now c.pass-in-Reads.new.self (sym (ap touch_in c.in-Reads.is) ∙ c.touch.ensures structs) (c.with.ensures l h) c.pass-in-Reads.ensures

pub returns-in_ok-call-in-Calls : goal.returns-in_ok-call-in-Calls
returns-in_ok-call-in-Calls c types l s h =
    let structs = structs_in c.args.context.now.parts.now in
    calls_done c.args.context.now types (operation_of structs c.args.operation.now) c.in-Calls.function l c.args.live c.args.walk.now c.call.new.walk (sym (ap touch_in c.in-Calls.is) ∙ c.touch.ensures structs) h (c.in_ok-call-in-Calls.ensures types l s h)
