use Rattle.std.proofs.Common.{Some, None, sym, ◌∙◌, subst}
use Rattle.rc_core.specs.Shapes.{ty_of}
use Rattle.rc_emission.specs.KeptOperands.{same_type}
use Rattle.rc_lines.specs.Keys.{type_key, TypeHasKey}
use Rattle.rc_tables.specs.Kept.{all_types, IsTypeTable}
use Rattle.rc_tables.proofs.TypeKeys.{type_test}
use Rattle.rc_tables.proofs.Places.{number_is}
use Rattle.rc_tables.proofs.types.TypeTable.number.Goals as goal

pub returns-in-Some : goal.returns-in-Some
returns-in-Some c =
    let table : IsTypeTable c.self.inside.keys c.args.self.now = subst (IsTypeTable c.self.inside.keys) c.self.view_is c.self.invariant in
    number_is same_type type_key TypeHasKey type_test c.self.inside.keys c.as_slice.result.now (all_types c.args.self.now) (ty_of c.args.ty.now) table.keyed (c.as_slice.ensures.value ∙ c.in_ok-key.ensures.key) table.each c.in_ok-key.ensures.has_key (Some c.in-Some.number) (sym c.in-Some.is ∙ c.find.ensures.number)

pub returns : goal.returns
returns c =
    let table : IsTypeTable c.self.inside.keys c.args.self.now = subst (IsTypeTable c.self.inside.keys) c.self.view_is c.self.invariant in
    c.len.ensures ∙ number_is same_type type_key TypeHasKey type_test c.self.inside.keys c.as_slice.result.now (all_types c.args.self.now) (ty_of c.args.ty.now) table.keyed (c.as_slice.ensures.value ∙ c.in_ok-key.ensures.key) table.each c.in_ok-key.ensures.has_key None (sym c.in-None.is ∙ c.find.ensures.number)
