use Rattle.std.proofs.Common.{map, sym, ap, ◌∙◌, subst}
use Rattle.std.proofs.lemmas.List.{map_push}
use Rattle.rc_core.specs.Shapes.{ty_of}
use Rattle.rc_emission.specs.KeptOperands.{same_type}
use Rattle.rc_lines.specs.Keys.{type_key, TypeHasKey}
use Rattle.rc_tables.specs.Kept.{all_types, IsTypeTable}
use Rattle.rc_tables.proofs.TypeKeys.{type_test}
use Rattle.rc_tables.proofs.Places.{stays, grows, on_ok}
use Rattle.rc_tables.proofs.types.TypeTable.add.Goals as goal

pub returns-in-Some-clause-ok : goal.returns-in-Some-clause-ok
returns-in-Some-clause-ok c =
    let table : IsTypeTable c.self.inside.keys c.args.self.now = subst (IsTypeTable c.self.inside.keys) c.self.view_is c.self.invariant in
    sym (stays same_type type_key TypeHasKey type_test c.self.inside.keys c.as_slice.result.now (all_types c.args.self.now) (ty_of c.args.ty.now) table.keyed (c.as_slice.ensures.value ∙ c.in_ok-key.ensures.key) table.each c.in_ok-key.ensures.has_key c.in-Some._number (sym c.in-Some.is ∙ c.find.ensures.number))

pub returns-clause-ok : goal.returns-clause-ok
returns-clause-ok c =
    let table : IsTypeTable c.self.inside.keys c.args.self.now = subst (IsTypeTable c.self.inside.keys) c.self.view_is c.self.invariant in
    let grown = grows same_type type_key TypeHasKey type_test c.self.inside.keys c.as_slice.result.now (all_types c.args.self.now) (ty_of c.args.ty.now) table.keyed (c.as_slice.ensures.value ∙ c.in_ok-key.ensures.key) table.each c.in_ok-key.ensures.has_key (sym c.in-None.is ∙ c.find.ensures.number) in
    on_ok c.push.result (λ e. ap (map ty_of) e ∙ map_push ty_of c.args.self.now c.args.ty.now ∙ sym grown) c.push.ensures.ok
