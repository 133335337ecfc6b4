use Rattle.std.proofs.Common.{◌<◌, length, map, ap, sym, ◌∙◌, arith}
use Rattle.std.specs.Option.{option_map}
use Rattle.rc_core.specs.Shapes.{struct_of, ty_of}
use Rattle.rc_emission.specs.KeptOperands.{same_type}
use Rattle.rc_lines.specs.ProgramCode.{bare_function}
use Rattle.rc_numbering.specs.Names.{routine_names, stack_of}
use Rattle.rc_rlang.specs.declared.code.Routine.{Routine as CodeRoutine}
use Rattle.rc_rlang.specs.Shapes.{rlang_of, routine_in}
use Rattle.rc_tables.specs.Kept.{all_types}
use Rattle.rc_tables.proofs.Bared.{code_at}
use Rattle.rc_tables.proofs.Seen.{flat_step}
use Rattle.rc_tables.proofs.program.add_functions.Goals as goal

pub loop-at-preserved : goal.loop-at-preserved
loop-at-preserved c =
    let r = rlang_of c.args.parts.now in
    let routines = c.as_slice-routines.result.now in
    let routine = routine_in (map struct_of c.args.parts.now.structs.items) in
    let at = c.loop-at.at in
    let x = c.index-routines-at.result in
    let code = c.index-functions-at.result in
    let h : at < length routines = omega arith in
    let is = c.requires ∙ ap (λ fs. map bare_function (map (stack_of r) (map routine fs))) (sym c.as_slice-routines.ensures.value) in
    flat_step same_type routines at x h c.index-routines-at.is (all_types c.args.types.now) (all_types c.loop-at.types) (all_types c.add_routine.new.types) (routine_names r) routine c.loop-at.invariant
    (c.in_ok-add_routine.ensures r (routine x) (code_at (stack_of r) routine c.args.functions.now routines is at code x h c.index-functions-at.is c.index-routines-at.is) (ap (λ (f : CodeRoutine). option_map ty_of f.result) c.index-routines-at.is))
