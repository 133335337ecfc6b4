use Rattle.std.proofs.Common.{subst}
use Rattle.rc_core.specs.Shapes.{program_of}
use Rattle.rc_emit.specs.Compiled.{IsWithoutNeedlessChecks}
use Rattle.rc_emit.proofs.Whole.{is_compiled, means}
use Rattle.rc_emit.proofs.programs.compile_program.Goals as goal

pub returns-in-Ok : goal.returns-in-Ok
returns-in-Ok c =
    let p = program_of c.args.program.now in
    let image = c.in-Ok.image in
    let made = subst (λ r. IsWithoutNeedlessChecks r image) c.in_ok-code.ensures.translates c.in-Ok.ensures in
    let compiled = is_compiled p image made in
    record {
      counts = c.in_ok-code.ensures.counts;
      compiled = compiled;
      small = made.small;
      sound = made.sound;
      means = means p image c.parts-parts.ensures.well_typed c.in_ok-code.ensures.counts made.small compiled;
    }
