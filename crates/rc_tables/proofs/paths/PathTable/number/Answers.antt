use Rattle.std.proofs.Common.{Some, None, sym, ◌∙◌, subst}
use Rattle.rc_numbering.specs.Names.{same_path}
use Rattle.rc_tables.specs.Keys.{path_key, PathHasKey}
use Rattle.rc_tables.specs.Kept.{IsPathTable}
use Rattle.rc_tables.proofs.PathKeys.{path_test}
use Rattle.rc_tables.proofs.Places.{number_is}
use Rattle.rc_tables.proofs.paths.PathTable.number.Goals as goal

pub returns-in-Some : goal.returns-in-Some
returns-in-Some c =
    let table : IsPathTable c.self.inside.keys c.args.self.now = subst (IsPathTable c.self.inside.keys) c.self.view_is c.self.invariant in
    number_is same_path path_key PathHasKey path_test c.self.inside.keys c.as_slice.result.now c.args.self.now c.args.path.now table.keyed (c.as_slice.ensures.value ∙ c.in_ok-key.ensures.key) table.each c.in_ok-key.ensures.has_key (Some c.in-Some.number) (sym c.in-Some.is ∙ c.find.ensures.number)

pub returns : goal.returns
returns c =
    let table : IsPathTable c.self.inside.keys c.args.self.now = subst (IsPathTable c.self.inside.keys) c.self.view_is c.self.invariant in
    c.len.ensures ∙ number_is same_path path_key PathHasKey path_test c.self.inside.keys c.as_slice.result.now c.args.self.now c.args.path.now table.keyed (c.as_slice.ensures.value ∙ c.in_ok-key.ensures.key) table.each c.in_ok-key.ensures.has_key None (sym c.in-None.is ∙ c.find.ensures.number)
