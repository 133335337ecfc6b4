use Rattle.std.proofs.Common.{◌≡◌, ◌∙◌, ap, sym}
use Rattle.rc_syntax.specs.Shape.{item_of}
use Rattle.rc_deletes.specs.Kinds.{place_of}
use Rattle.rc_clashes.specs.Standing.{name_of}
use Rattle.rc_clashes.proofs.Keeping.{nothing_clashes}
use Rattle.rc_clashes.proofs.kept.Earlier.item_clash.Goals as goal

pub returns-in-None : goal.returns-in-None
returns-in-None c = λ earlier file stand.
    let name : c.as_slice.result.now ≡ (name_of (item_of c.args.item.now)).text = c.as_slice.ensures ∙ ap (λ n. n.text) c.name_of.ensures in
    nothing_clashes c.args.self.now.names c.args.self.now.kept.items earlier stand (item_of c.args.item.now) (ap (place_of c.args.self.now.names) (sym name) ∙ sym c.in-None.ensures.number) file
