use Rattle.std.proofs.Common.{ap, sym, ◌∙◌, map}
use Rattle.rc_syntax.specs.Shape as written
use Rattle.rc_deletes.specs.Items.{field_of}
use Rattle.rc_deletes.specs.Kinds.{place_of}
use Rattle.rc_defined.specs.Building.{is_first_at}
use Rattle.rc_defined.proofs.Gathered.{item_added, item_kept}
use Rattle.rc_defined.proofs.Lists.{on_then}
use Rattle.rc_defined.proofs.building.add_struct.Goals as goal

pub returns-then-is_first-clause-ok : goal.returns-then-is_first-clause-ok
returns-then-is_first-clause-ok c = λ ds more told so_far.
    on_then c.add.result c.add.ensures.ok
    (λ n. item_added c.args.types.now more ds (written.item_of c.args.item.now) c.in-Struct.field-0 c.in-Struct.name (map written.field_of c.in-Struct.fields.items) (ap written.item_of c.in-Struct.is) told c.args.structs.now.items so_far
    c.add.new.items.items c.in_ok-fields-in-Struct.fields (sym c.if-is_first.true ∙ c.is_first.ensures ∙ ap (is_first_at (place_of c.args.types.now c.in-Struct.name.text)) (c.len.ensures ∙ c.args.structs.now.ok.0)) (c.in_ok-fields-in-Struct.ensures.ok ∙ ap (λ fs. map (field_of c.args.types.now) (map written.field_of fs)) c.deref.ensures.value) n)

pub returns-else-is_first-clause-ok : goal.returns-else-is_first-clause-ok
returns-else-is_first-clause-ok c = λ ds more told so_far.
    item_kept c.args.types.now more ds (written.item_of c.args.item.now) c.in-Struct.field-0 c.in-Struct.name (map written.field_of c.in-Struct.fields.items) (ap written.item_of c.in-Struct.is) told c.args.structs.now.items so_far (sym c.if-is_first.false ∙ c.is_first.ensures ∙ ap (is_first_at (place_of c.args.types.now c.in-Struct.name.text)) (c.len.ensures ∙ c.args.structs.now.ok.0))
