use Rattle.std.proofs.Common.{sym, ◌∙◌, subst}
use Rattle.rc_numbering.specs.Names.{same_path}
use Rattle.rc_tables.specs.Keys.{path_key, PathHasKey}
use Rattle.rc_tables.specs.Kept.{IsPathTable}
use Rattle.rc_tables.proofs.PathKeys.{path_test}
use Rattle.rc_tables.proofs.Places.{stays, grows, on_ok}
use Rattle.rc_tables.proofs.paths.PathTable.add.Goals as goal

pub returns-in-Some-clause-ok : goal.returns-in-Some-clause-ok
returns-in-Some-clause-ok c =
    let table : IsPathTable c.self.inside.keys c.args.self.now = subst (IsPathTable c.self.inside.keys) c.self.view_is c.self.invariant in
    sym (stays same_path path_key PathHasKey path_test c.self.inside.keys c.as_slice.result.now c.args.self.now c.args.path table.keyed (c.as_slice.ensures.value ∙ c.in_ok-key.ensures.key) table.each c.in_ok-key.ensures.has_key c.in-Some._number (sym c.in-Some.is ∙ c.find.ensures.number))

pub returns-in-None-clause-ok : goal.returns-in-None-clause-ok
returns-in-None-clause-ok c =
    let table : IsPathTable c.self.inside.keys c.args.self.now = subst (IsPathTable c.self.inside.keys) c.self.view_is c.self.invariant in
    let grown = grows same_path path_key PathHasKey path_test c.self.inside.keys c.as_slice.result.now c.args.self.now c.args.path table.keyed (c.as_slice.ensures.value ∙ c.in_ok-key.ensures.key) table.each c.in_ok-key.ensures.has_key (sym c.in-None.is ∙ c.find.ensures.number) in
    on_ok c.push.result (λ e. e ∙ sym grown) c.push.ensures.ok
