use Rattle.std.proofs.Common.{◌∙◌, ◌&&◌, ◌==◌, not, ap, sym}
use Rattle.rc_facts.proofs.RowLaws.{moved_there}
use Rattle.rc_facts.proofs.rows.moved.Goals as goal

pub returns-then-contains : goal.returns-then-contains
returns-then-contains c =
    moved_there c.args.row c.without-rest.result c.with.result c.args.from c.args.to c.requires.apart (sym c.if-contains.ensures)
    (λ y. c.without-rest.ensures y ∙ ap (λ b. b && not (y == c.args.from)) (c.without.ensures y)) c.with.ensures
