use Rattle.rc_syntax.specs.Shape.{item_of}
use Rattle.rc_clashes.proofs.Keeping.{covered_there, more_there}
use Rattle.rc_clashes.proofs.kept.Earlier.add_more.Goals as goal

pub returns-then-is_covered : goal.returns-then-is_covered
returns-then-is_covered c = λ earlier stand.
    covered_there c.args.self.now.names c.args.self.now.kept.items earlier stand (item_of c.args.item.now) c.args.place c.requires c.in-Some.kept.now c.in-Some.ensures.value c.as_slice.result.now c.as_slice.ensures.value c.if-is_covered.ensures

pub returns-in_ok-push : goal.returns-in_ok-push
returns-in_ok-push c = λ earlier stand.
    more_there c.args.self.now.names c.args.self.now.kept.items earlier stand c.args.item c.args.place c.requires c.in-Some.kept.now c.push.new.self c.in-Some.ensures.value c.in_ok-push.ensures.items
