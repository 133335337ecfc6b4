use Rattle.std.proofs.Common.{◌≡◌, ◌∙◌, false, drop, rules, sym}
use Rattle.rc_areas.specs.Areas.{shape_of}
use Rattle.rc_areas.specs.Shapes.{has_counted}
use Rattle.rc_tally.proofs.Taken.{again_none, taken_none}
use Rattle.rc_tally.proofs.area.take_back_object.Goals as goal

pub returns-then-not-counts-clause-taken : goal.returns-then-not-counts-clause-taken
returns-then-not-counts-clause-taken g c =
    let shape = shape_of c.args.shapes.now c.args.head in
    let none : has_counted shape ≡ false = sym c.counts.ensures ∙ search (rules, c.if-not-counts.true) in
    taken_none c.args.directory.now _ (λ r. again_none r c.args.holder c.args.head.count shape (drop c.args.head.start c.args.area.now.codes) none)
