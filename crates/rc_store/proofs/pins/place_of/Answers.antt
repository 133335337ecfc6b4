use Rattle.std.proofs.Common.{arith}
use Rattle.rc_store.proofs.Pinned.{contained}
use Rattle.rc_store.proofs.pins.place_of.Goals as goal

pub unreachable-requires : goal.unreachable-requires
unreachable-requires c =
    let found = contained c.args.cells.now c.args.value c.requires in
    c.loop-at.invariant found.0 (omega (arith, c.loop-at-test.false)) found.1 found.2
