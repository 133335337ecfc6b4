use Rattle.std.proofs.Common.{sym}
use Rattle.rc_facts.proofs.RowLaws.{aliased_there, aliased_gone}
use Rattle.rc_facts.proofs.rows.aliased.Goals as goal

pub returns-then-contains : goal.returns-then-contains
returns-then-contains c = aliased_there c.args.row c.with.result c.args.from c.args.to (sym c.if-contains.ensures) c.with.ensures

pub returns-else-contains : goal.returns-else-contains
returns-else-contains c = aliased_gone c.args.row c.without.result c.args.from c.args.to (sym c.if-contains.ensures) c.without.ensures
