use Rattle.std.proofs.Common.{◌≡◌, ◌++◌, [], ◌∷◌, map, ap, ◌∙◌, arith, rules}
use Rattle.std.proofs.lemmas.List.{map_push}
use Rattle.rc_core.specs.Shapes.{struct_of, ty_of}
use Rattle.rc_core.specs.declared.ty.Ty.{Struct}
use Rattle.rc_tables.proofs.Structs.{struct_step}
use Rattle.rc_tables.proofs.program.struct_types.Goals as goal

pub loop-number-preserved : goal.loop-number-preserved
loop-number-preserved c =
    let pushed : c.push.new.self.items ≡ c.loop-number.types.items ++ Struct c.loop-number.number ∷ [] = search rules in
    struct_step struct_of c.args.structs.now c.loop-number.number (map ty_of c.loop-number.types.items) (map ty_of c.push.new.self.items) (omega arith) c.loop-number.invariant (ap (map ty_of) pushed ∙ map_push ty_of c.loop-number.types.items (Struct c.loop-number.number))
