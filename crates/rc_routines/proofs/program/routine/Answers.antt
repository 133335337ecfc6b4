use Rattle.rc_core.specs.Shapes.{program_of}
use Rattle.rc_routines.proofs.SameBodies.{routine_made}
use Rattle.rc_routines.proofs.program.routine.Goals as goal

pub returns : goal.returns
returns c =
    let program = program_of c.args.parts.now in
    routine_made program.structs program c.args.f.now c.in_ok-copy_types.field-0 c.in_ok-copy_result.field-0 c.into_inner.result c.in_ok-body.body.value c.as_slice.result.now c.as_slice-2.result.now
    c.as_slice.ensures.value c.as_slice-2.ensures.value c.in_ok-copy_types.ensures c.in_ok-copy_result.ensures c.into_inner.ensures c.in_ok-body.ensures
