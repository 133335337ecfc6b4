use Rattle.std.proofs.Common.{◌≡◌, ◌<◌, ◌∙◌, ℕ, Option, None, length, sym, ap, subst}
use Rattle.rc_regions.specs.declared.record.Slot.{Slot}
use Rattle.rc_regions.specs.declared.record.Slot.TheVariants.{Free}
use Rattle.rc_regions.specs.Slots.{slot_at}
use Rattle.rc_regions.specs.Columns.{Columns, columns_of}
use Rattle.rc_regions.specs.Lists.{Behind, spot, unlinked, with_follower, with_previous}
use Rattle.rc_regions.proofs.Counted.{live_made}
use Rattle.rc_regions.proofs.Stored.{read}
use Rattle.rc_regions.proofs.Writes.{slots-with_follower}
use Rattle.rc_regions.proofs.table.Table.unlink.Goals as goal

pub set_follower-requires-clause-parent : goal.set_follower-requires-clause-parent
set_follower-requires-clause-parent c = λ parent is.
    let table = c.args.self.now in
    let list = read table.records.items table.ways table.first_free c.args.slot c.index.result.now c.requires.made c.index.ensures (λ r. r.slot) Free in
    live_made (columns_of table).slots parent (c.requires.rooted.parents c.args.slot parent (list ∙ is))

pub set_follower-requires-clause-before : goal.set_follower-requires-clause-before
set_follower-requires-clause-before c = λ slot is.
    let table = c.args.self.now in
    let previous = read table.records.items table.ways table.first_free c.args.slot c.index.result.now c.requires.made c.index.ensures (λ r. r.previous) None in
    (c.requires.linked.neighbours c.args.slot slot c.requires.made (previous ∙ is)).0

pub set_previous-requires : goal.set_previous-requires
set_previous-requires c = λ slot is.
    let table = c.args.self.now in
    let now = c.index.result.now in
    let next = read table.records.items table.ways table.first_free c.args.slot now c.requires.made c.index.ensures (λ r. r.next) None in
    let same_slots = ap (λ (columns : Columns). columns.slots) c.set_follower.ensures.columns ∙ slots-with_follower (columns_of table) (spot now.slot now.previous) now.next in
    subst (λ slots. slot < length slots) (sym same_slots) (c.requires.linked.stands (Behind c.args.slot) slot (next ∙ is)).0

unlinked_as_read : (c : Columns) (s : ℕ) (list : Slot) (previous next : Option ℕ) → slot_at c.slots s ≡ list → c.previous s ≡ previous → c.next s ≡ next → with_previous (with_follower c (spot list previous) next) next previous ≡ unlinked c s
unlinked_as_read c s list previous next a b d = cc

pub returns-clause-columns : goal.returns-clause-columns
returns-clause-columns c =
    let table = c.args.self.now in
    let now = c.index.result.now in
    c.set_previous.ensures.columns
    ∙ ap (λ columns. with_previous columns now.next now.previous) c.set_follower.ensures.columns
    ∙ unlinked_as_read (columns_of table) c.args.slot now.slot now.previous now.next
    (read table.records.items table.ways table.first_free c.args.slot now c.requires.made c.index.ensures (λ r. r.slot) Free)
    (read table.records.items table.ways table.first_free c.args.slot now c.requires.made c.index.ensures (λ r. r.previous) None)
    (read table.records.items table.ways table.first_free c.args.slot now c.requires.made c.index.ensures (λ r. r.next) None)
