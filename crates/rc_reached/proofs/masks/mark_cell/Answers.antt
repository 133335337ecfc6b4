use Rattle.std.proofs.Common.{rules, ◌≡◌, true, arith}
use Rattle.rc_reached.specs.Walks.{is_there}
use Rattle.rc_reached.proofs.Alike.{there_within, mask_more}
use Rattle.rc_reached.proofs.masks.mark_cell.Goals as goal

pub mark-requires : goal.mark-requires
mark-requires c =
    let there : is_there c.args.cell c.args.cells.now c.args.place ≡ true = search rules in
    let low = there_within c.args.cell c.args.cells.now c.args.place there in
    omega (arith, low, c.requires.room)

pub returns : goal.returns
returns c =
    let there : is_there c.args.cell c.args.cells.now c.args.place ≡ true = search rules in
    mask_more c.args.cell c.args.cells.now c.args.words.now c.mark.new.words c.args.place c.requires.mask there c.mark.ensures.others
