use Rattle.std.proofs.Common.{◌≡◌, ◌<◌, ◌∙◌, ◌^◌, length, refl, sym, ap, subst, arith, rules}
use Rattle.std.proofs.lemmas.List.{length-map}
use Rattle.rc_regions.specs.Columns.{Columns, columns, columns_of}
use Rattle.rc_regions.specs.Lists.{Head}
use Rattle.rc_regions.specs.declared.record.Slot.TheVariants.{Free}
use Rattle.rc_regions.specs.Sound.{IsTaken}
use Rattle.rc_regions.proofs.Sounds.{IsTaken-grown, IsTaken-unlinked, all_live}
use Rattle.rc_regions.proofs.Stored.{columns-grown}
use Rattle.rc_regions.proofs.table.Table.next_slot.Goals as goal

pub unlink-requires-clause-made : goal.unlink-requires-clause-made
unlink-requires-clause-made c = (c.requires.sound.linked.stands (Head Free) c.in-Some.slot c.in-Some.is).0

pub returns-in-Some-clause-ok : goal.returns-in-Some-clause-ok
returns-in-Some-clause-ok c =
    let old : Columns = columns_of c.args.self.now in
    subst (λ new. IsTaken old new c.in-Some.slot) (sym c.unlink.ensures.columns) (IsTaken-unlinked old c.in-Some.slot c.requires.sound c.in-Some.is)

pub overflow_cast-slot : goal.overflow_cast-slot
overflow_cast-slot c =
    let table = c.args.self.now in
    let full = all_live (columns_of table) c.requires.sound.linked c.in-None.is in
    let few = c.requires.room in
    let small : c.len-slot.result < 2 ^ 32 = omega (arith, full, few, c.len-slot.ensures, table.records.ok, length-map table.records.items (λ r. r.slot)) in
    search (rules, small)

pub returns-in-Ok-clause-ok : goal.returns-in-Ok-clause-ok
returns-in-Ok-clause-ok c =
    let table = c.args.self.now in
    let old : Columns = columns_of table in
    let slot : length old.slots ≡ c.len-slot.result = omega (arith, c.len-slot.ensures, table.records.ok, length-map table.records.items (λ r. r.slot)) in
    let new = ap (λ items. columns items table.ways table.first_free) c.in-Ok.ensures.items ∙ columns-grown table.records.items table.ways table.first_free _ refl refl refl refl refl in
    subst (λ s. IsTaken old (columns c.push.new.self.items table.ways table.first_free) s) slot (subst (λ cs. IsTaken old cs (length old.slots)) (sym new) (IsTaken-grown old c.requires.sound c.in-None.is c.requires.room))

pub returns-in-Some-clause-next : goal.returns-in-Some-clause-next
returns-in-Some-clause-next c = let made = (c.requires.sound.linked.stands (Head Free) c.in-Some.slot c.in-Some.is).0 in omega (arith, made)
