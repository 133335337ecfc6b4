use Rattle.std.proofs.Common.{◌≡◌, ◌<◌, ◌∙◌, Some, length, sym, ap, subst}
use Rattle.rc_regions.specs.declared.record.Slot.TheVariants.{Free, Root}
use Rattle.rc_regions.specs.Columns.{Columns, columns_of}
use Rattle.rc_regions.specs.Lists.{Head, linked, unlinked}
use Rattle.rc_regions.specs.Slots.{IsLive, IsParent, slot_at}
use Rattle.rc_regions.specs.Sound.{IsSoundTree}
use Rattle.rc_regions.proofs.Counted.{live_made}
use Rattle.rc_regions.proofs.Sounds.{IsSoundTree-removed, IsTree-sound}
use Rattle.rc_regions.proofs.TakenOut.{AllLinkedBut-unlinked}
use Rattle.rc_regions.proofs.tree.Tree.remove.Goals as goal

pub link-requires-clause-first : goal.link-requires-clause-first
link-requires-clause-first c = λ first is.
    let old : Columns = columns_of c.self.inside.table in
    let out : Columns = columns_of c.unlink.new.self in
    let sound = c.self.invariant in
    let live = subst (λ slots. IsLive slots c.args.slot) (sym c.self.view_is) c.requires.live in
    let not_root = λ (root : slot_at old.slots c.args.slot ≡ Root). c.requires.not_root (sound.rooted.only_root c.args.slot root) in
    let loose = AllLinkedBut-unlinked old c.args.slot sound.linked (live_made old.slots c.args.slot live) not_root in
    let free : (unlinked old c.args.slot).first_free ≡ Some first = ap (λ (columns : Columns). columns.first_free) (sym c.unlink.ensures.columns) ∙ is in
    subst (λ (columns : Columns). first < length columns.slots) (sym c.unlink.ensures.columns) (loose.stands (Head Free) first (λ same. cc) free).0

pub invariant_of-self : goal.invariant_of-self
invariant_of-self c =
    let old : Columns = columns_of c.self.inside.table in
    let slot = c.args.slot in
    let live = subst (λ slots. IsLive slots slot) (sym c.self.view_is) c.requires.live in
    let leaf = subst (λ slots. ¬ IsParent slots slot) (sym c.self.view_is) c.requires.leaf in
    subst IsSoundTree (sym (c.link.ensures ∙ ap (λ columns. linked columns slot Free) c.unlink.ensures.columns)) (IsSoundTree-removed old slot c.self.invariant live c.requires.not_root leaf)

pub returns-clause-tree : goal.returns-clause-tree
returns-clause-tree c = IsTree-sound (columns_of c.link.new.self) (invariant_of-self c)
