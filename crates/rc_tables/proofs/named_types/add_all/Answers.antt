use Rattle.rc_core.specs.Shapes.{ty_of}
use Rattle.rc_emission.specs.KeptOperands.{same_type}
use Rattle.rc_tables.specs.Kept.{all_types}
use Rattle.rc_tables.proofs.Seen.{map_step}
use Rattle.rc_tables.proofs.named_types.add_all.Goals as goal

pub loop-ty-preserved : goal.loop-ty-preserved
loop-ty-preserved c =
    map_step same_type c.args.tys.now c.loop-ty.ty-index c.ty-item.result c.loop-ty-test.true c.ty-item.is (all_types c.args.types.now) (all_types c.loop-ty.types) (all_types c.add.new.self) ty_of c.loop-ty.invariant c.in_ok-add.ensures.ok
