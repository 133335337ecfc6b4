use Rattle.std.proofs.Common.{List, map, subst, sym}
use Rattle.rc_core.specs.declared.parts.Struct.{Struct as CodeStruct}
use Rattle.rc_core.specs.Shapes.{struct_of}
use Rattle.rc_core.specs.WellTyped.{StructsFit}
use Rattle.rc_tests_runs.proofs.memory.laid_out.Goals as goal

pub new-requires : goal.new-requires
new-requires c =
    let Fit : List CodeStruct → Type 0 = λ list. StructsFit (map struct_of list) in
    subst Fit (sym c.as_slice.ensures.value) c.in_ok-structs.ensures
