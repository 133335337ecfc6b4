use Rattle.rc_emission.specs.KeptOperands.{same_type}
use Rattle.rc_tables.specs.Kept.{all_types}
use Rattle.rc_core.specs.Programs.{Global}
use Rattle.rc_core.specs.Shapes.{global_of}
use Rattle.rc_numbering.specs.Names.{with_pointed}
use Rattle.rc_tables.proofs.Seen.{flat_step}
use Rattle.rc_tables.proofs.program.add_globals.Goals as goal

pub loop-global-preserved : goal.loop-global-preserved
loop-global-preserved c =
    flat_step same_type c.args.globals.now c.loop-global.global-index c.global-item.result c.loop-global-test.true c.global-item.is (all_types c.args.types.now) (all_types c.loop-global.types) (all_types c.add_with_pointed.new.types) (λ (g : Global). with_pointed g.ty) global_of c.loop-global.invariant c.in_ok-add_with_pointed.ensures
