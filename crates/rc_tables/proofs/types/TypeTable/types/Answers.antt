use Rattle.std.proofs.Common.{◌≡◌, ◌≤◌, length, map, ap, subst, arith}
use Rattle.std.proofs.lemmas.List.{length-map}
use Rattle.rc_core.specs.Shapes.{ty_of}
use Rattle.rc_lines.specs.Keys.{type_key}
use Rattle.rc_tables.specs.Kept.{all_types, IsTypeTable}
use Rattle.rc_tables.proofs.types.TypeTable.types.Goals as goal

pub returns-clause-few : goal.returns-clause-few
returns-clause-few c =
    let table : IsTypeTable c.self.inside.keys c.args.self.now = subst (IsTypeTable c.self.inside.keys) c.self.view_is c.self.invariant in
    let keys : length c.self.inside.keys ≡ length (map type_key (all_types c.args.self.now)) = ap length table.keyed in
    let few : length c.self.inside.keys ≤ 4294967295 = table.few in
    omega (arith, keys, few, length-map (all_types c.args.self.now) type_key, length-map c.args.self.now ty_of)
