use Rattle.std.proofs.Common.{sym, ap}
use Rattle.rc_core.specs.Heap.{global_object, global_object_of}
use Rattle.rc_core.specs.Layout.{cells}
use Rattle.rc_core.specs.Shapes.{global_of, ty_of}
use Rattle.rc_memory.proofs.Blanks.{blank_made}
use Rattle.rc_memory.proofs.heap.global_object.Goals as goal

pub returns-in-Some-clause-object : goal.returns-in-Some-clause-object
returns-in-Some-clause-object c = λ structs laid.
    let layout = cells structs (ty_of c.args.global.now.ty) in
    blank_made c.blank.result c.cells_of-kinds.result.now layout c.in-Some.count (global_object structs (global_of c.args.global.now)) (c.cells_of-kinds.ensures structs laid) (sym (ap (λ count. global_object_of layout (ty_of c.args.global.now.ty) count c.args.global.now.initial) c.in-Some.is)) c.blank.ensures.object
