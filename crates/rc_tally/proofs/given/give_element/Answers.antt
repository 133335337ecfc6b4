use Rattle.std.proofs.Common.{◌+◌, take, drop, get_or, arith}
use Rattle.rc_core.specs.declared.layouts.Kind.TheVariants.{Number as NumberKind}
use Rattle.rc_cells.specs.Codes.{decoded}
use Rattle.rc_cells.specs.Follow.{cell_refs}
use Rattle.rc_tally.specs.Tally.{codes_refs}
use Rattle.rc_tally.proofs.Giving.{room_left, given_more}
use Rattle.rc_tally.proofs.Taken.{cell_less, cell_more}
use Rattle.rc_tally.proofs.given.give_element.Goals as goal

pub give_cell-requires-clause-may : goal.give_cell-requires-clause-may
give_cell-requires-clause-may g c =
    let shape = c.args.shape.now in
    let codes = c.args.area.now.codes in
    let cell = c.loop-cell.cell in
    room_left c.args.directory.now c.loop-cell.directory (λ r. codes_refs r c.args.holder (take cell shape) (drop c.args.place codes))
    (λ r. cell_refs r c.args.holder (get_or shape cell NumberKind) (decoded (get_or shape cell NumberKind) (get_or codes (c.args.place + cell) 0)))
    (λ r. codes_refs r c.args.holder shape (drop c.args.place codes)) c.loop-cell.invariant.given c.requires.may
    (λ r. cell_less r c.args.holder shape codes c.args.place cell c.loop-cell-test.true (omega (arith, c.requires.inside, c.loop-cell-test.true)))

pub loop-cell-preserved : goal.loop-cell-preserved
loop-cell-preserved g c =
    let shape = c.args.shape.now in
    let codes = c.args.area.now.codes in
    let cell = c.loop-cell.cell in
    record {
      given = given_more c.args.directory.now c.loop-cell.directory c.give_cell.new.directory (λ r. codes_refs r c.args.holder (take cell shape) (drop c.args.place codes))
          (λ r. cell_refs r c.args.holder (get_or shape cell NumberKind) (decoded (get_or shape cell NumberKind) (get_or codes (c.args.place + cell) 0)))
          (λ r. codes_refs r c.args.holder (take (cell + 1) shape) (drop c.args.place codes)) c.loop-cell.invariant.given c.give_cell.ensures.given
          (λ r. cell_more r c.args.holder shape codes c.args.place cell c.loop-cell-test.true (omega (arith, c.requires.inside, c.loop-cell-test.true)));
      cost = omega (arith, c.loop-cell.invariant.cost, c.give_cell.ensures.cost);
      never_falls = omega (arith, c.loop-cell.invariant.never_falls, c.give_cell.ensures.never_falls);
    }
