use Rattle.std.proofs.Common.{◌≡◌, drop, map}
use Rattle.std.specs.Prelude.{is_some}
use Rattle.rc_deletes.specs.Builtins.{row}
use Rattle.rc_deletes.specs.Scopes.{a_builtin, meaning_in}
use Rattle.rc_units.proofs.names.is_built_in.Given as goal

abbrev pub invariant-loop-builtin : goal.invariant-loop-builtin
invariant-loop-builtin l = record {
  same : is_some (meaning_in (map (λ b. ((row b).name, a_builtin b)) l.all) l.name.text) ≡ is_some (meaning_in (map (λ b. ((row b).name, a_builtin b)) (drop l.builtin-index l.all)) l.name.text);
}
