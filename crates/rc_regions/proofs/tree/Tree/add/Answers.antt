use Rattle.std.proofs.Common.{◌≡◌, ◌<◌, ◌∙◌, ◌+◌, ◌^◌, ℕ, length, set, slice_index_or, sym, ap, subst, arith, rules}
use Rattle.rc_regions.specs.declared.record.Slot.TheVariants.{Child}
use Rattle.rc_regions.specs.declared.record.Record.{Record}
use Rattle.rc_regions.specs.declared.table.Table.{Table}
use Rattle.rc_regions.specs.Columns.{Columns, columns_of}
use Rattle.rc_regions.specs.Lists.{Head}
use Rattle.rc_regions.specs.Slots.{IsLive, IsParent, live_slots}
use Rattle.rc_regions.specs.Sound.{IsSoundTree}
use Rattle.rc_regions.proofs.Counted.{depth_less, live_made}
use Rattle.rc_regions.proofs.Sounds.{AreAscents-taken, IsSoundTree-added, IsTree-sound, free-taken, live-taken, leaf-added, live_slots-added, slots-linked}
use Rattle.rc_regions.proofs.Stored.{read}
use Rattle.rc_regions.proofs.tree.Tree.add.Goals as goal

pub overflow_add-depth : goal.overflow_add-depth
overflow_add-depth c =
    let table = c.self.inside.table in
    let old : Columns = columns_of table in
    let live = subst (λ slots. IsLive slots c.args.parent) (sym c.self.view_is) c.requires.live in
    let depth = read table.records.items table.ways table.first_free c.args.parent c.index.result.now (live_made old.slots c.args.parent live) c.index.ensures (λ r. r.depth) 0 in
    let less = depth_less old.slots c.self.invariant.rooted old.depth c.self.invariant.depths c.args.parent live in
    let room = c.requires.room in
    let fits : c.index.result.now.depth + 1 < 2 ^ 32 = omega (arith, depth, less, room, ap live_slots c.self.view_is) in
    search (rules, fits)

pub returns-in_err-slot-clause-tree : goal.returns-in_err-slot-clause-tree
returns-in_err-slot-clause-tree c = IsTree-sound (columns_of c.take_slot.new.self) (subst IsSoundTree (sym c.in_err-slot.ensures.err) c.self.invariant)

pub set_ascent-requires-clause-free : goal.set_ascent-requires-clause-free
set_ascent-requires-clause-free c = free-taken (columns_of c.self.inside.table) (columns_of c.take_slot.new.self) c.in_ok-slot.slot c.in_ok-slot.ensures.ok

pub set_ascent-requires-clause-live : goal.set_ascent-requires-clause-live
set_ascent-requires-clause-live c = live-taken (columns_of c.self.inside.table) (columns_of c.take_slot.new.self) c.in_ok-slot.slot c.args.parent c.in_ok-slot.ensures.ok (subst (λ slots. IsLive slots c.args.parent) (sym c.self.view_is) c.requires.live)

pub set_ascent-requires-clause-ascents : goal.set_ascent-requires-clause-ascents
set_ascent-requires-clause-ascents c = AreAscents-taken (columns_of c.self.inside.table) (columns_of c.take_slot.new.self) c.in_ok-slot.slot c.self.invariant c.in_ok-slot.ensures.ok

-- the depth that was read, and one more
deepened : (table : Table) (parent : ℕ) (now : Record) → IsLive (columns_of table).slots parent → now ≡ slice_index_or table.records.items parent now → now.depth + 1 ≡ (columns_of table).depth parent + 1
deepened table parent now live is = ap (λ d. d + 1) (sym (read table.records.items table.ways table.first_free parent now (live_made (columns_of table).slots parent live) is (λ r. r.depth) 0))

pub set_ascent-requires-clause-deep : goal.set_ascent-requires-clause-deep
set_ascent-requires-clause-deep c =
    let live = subst (λ slots. IsLive slots c.args.parent) (sym c.self.view_is) c.requires.live in
    deepened c.self.inside.table c.args.parent c.index.result.now live c.index.ensures ∙ ap (λ (depth : ℕ → ℕ). depth c.args.parent + 1) (sym c.in_ok-slot.ensures.ok.depth)

pub link-requires-clause-made : goal.link-requires-clause-made
link-requires-clause-made c = subst (λ slots. c.in_ok-slot.slot < length slots) (sym (ap (λ (x : Columns). x.slots) c.set_ascent.ensures.is)) c.in_ok-slot.ensures.ok.made

pub link-requires-clause-first : goal.link-requires-clause-first
link-requires-clause-first c = λ first is.
    let slots = ap (λ (x : Columns). x.slots) c.set_ascent.ensures.is in
    let was = sym (ap (λ (x : Columns). x.first_child c.args.parent) c.set_ascent.ensures.is) ∙ is in
    subst (λ xs. first < length xs) (sym slots) (c.in_ok-slot.ensures.ok.loose.stands (Head (Child c.args.parent)) first (λ same. cc) was).0

pub invariant_of-self-2 : goal.invariant_of-self-2
invariant_of-self-2 c =
    let old : Columns = columns_of c.self.inside.table in
    let live = subst (λ slots. IsLive slots c.args.parent) (sym c.self.view_is) c.requires.live in
    subst IsSoundTree (sym c.link.ensures)
    (IsSoundTree-added old (columns_of c.take_slot.new.self) (columns_of c.set_ascent.new.self) c.in_ok-slot.slot c.args.parent (c.index.result.now.depth + 1) c.self.invariant c.in_ok-slot.ensures.ok live (deepened c.self.inside.table c.args.parent c.index.result.now live c.index.ensures) c.set_ascent.ensures)

pub returns-clause-tree : goal.returns-clause-tree
returns-clause-tree c = IsTree-sound (columns_of c.link.new.self) (invariant_of-self-2 c)

slots_added : (c : goal.After-link) → (columns_of c.link.new.self).slots ≡ set (columns_of c.take_slot.new.self).slots c.in_ok-slot.slot (Child c.args.parent)
slots_added c =
    let slot = c.in_ok-slot.slot in
    ap (λ (x : Columns). x.slots) c.link.ensures
    ∙ slots-linked (columns_of c.set_ascent.new.self) slot (Child c.args.parent)
    ∙ ap (λ (x : Columns). set x.slots slot (Child c.args.parent)) c.set_ascent.ensures.is

pub returns-clause-leaf : goal.returns-clause-leaf
returns-clause-leaf c =
    let old : Columns = columns_of c.self.inside.table in
    let slot = c.in_ok-slot.slot in
    let live = subst (λ slots. IsLive slots c.args.parent) (sym c.self.view_is) c.requires.live in
    subst (λ slots. ¬ IsParent slots slot) (sym (slots_added c)) (leaf-added old (columns_of c.take_slot.new.self) slot c.args.parent c.self.invariant c.in_ok-slot.ensures.ok live)

pub returns-clause-one_more : goal.returns-clause-one_more
returns-clause-one_more c =
    let old : Columns = columns_of c.self.inside.table in
    ap live_slots (slots_added c)
    ∙ live_slots-added old (columns_of c.take_slot.new.self) c.in_ok-slot.slot c.args.parent c.in_ok-slot.ensures.ok
    ∙ ap (λ slots. live_slots slots + 1) c.self.view_is
