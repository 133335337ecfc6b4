use Rattle.std.proofs.Common.{◌∙◌}
use Rattle.rc_syntax.specs.Shape.{item_of}
use Rattle.rc_clashes.proofs.Keeping.{found_clash}
use Rattle.rc_clashes.proofs.kept.Earlier.clash_at.Goals as goal

pub returns-then-place-len : goal.returns-then-place-len
returns-then-place-len c = λ earlier file stand.
    c.clash_with.ensures file
    ∙ found_clash c.args.self.now.names c.args.self.now.kept.items earlier stand (item_of c.args.item.now) c.args.place c.requires c.index.result.now c.index.ensures c.deref.result.now file c.deref.ensures.value
