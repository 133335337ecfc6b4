use Rattle.std.proofs.Common.{None, sym, ap}
use Rattle.rc_core.specs.Heap.{global_object_of}
use Rattle.rc_core.specs.Shapes.{ty_of}
use Rattle.rc_memory.proofs.Blanks.{blank_made}
use Rattle.rc_memory.proofs.heap.global_value.Goals as goal

pub returns-in-Region-clause-object : goal.returns-in-Region-clause-object
returns-in-Region-clause-object c = λ layout is.
    blank_made c.blank.result c.args.kinds.now layout 1 (global_object_of layout (ty_of c.args.ty.now) None c.args.initial) is (sym (ap (λ t. global_object_of layout (ty_of t) None c.args.initial) c.in-Region.is)) c.blank.ensures.object

pub returns-in-Struct-clause-object : goal.returns-in-Struct-clause-object
returns-in-Struct-clause-object c = λ layout is.
    blank_made c.blank-in-Struct.result c.args.kinds.now layout 1 (global_object_of layout (ty_of c.args.ty.now) None c.args.initial) is (sym (ap (λ t. global_object_of layout (ty_of t) None c.args.initial) c.in-Struct.is)) c.blank-in-Struct.ensures.object

pub returns-in-Pointer-clause-object : goal.returns-in-Pointer-clause-object
returns-in-Pointer-clause-object c = λ layout is.
    blank_made c.blank-in-Pointer.result c.args.kinds.now layout 1 (global_object_of layout (ty_of c.args.ty.now) None c.args.initial) is (sym (ap (λ t. global_object_of layout (ty_of t) None c.args.initial) c.in-Pointer.is)) c.blank-in-Pointer.ensures.object
