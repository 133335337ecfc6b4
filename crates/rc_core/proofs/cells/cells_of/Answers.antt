use Rattle.std.proofs.Common.{◌∙◌, List, map, ap, sym, subst}
use Rattle.rc_core.specs.declared.parts.Parts.{Parts}
use Rattle.rc_core.specs.declared.parts.Struct.{Struct as CodeStruct}
use Rattle.rc_core.specs.Shapes.{struct_of}
use Rattle.rc_core.specs.WellTyped.{StructsFit}
use Rattle.rc_core.proofs.cells.cells_of.Goals as goal

pub push_cells-requires-clause-fit : goal.push_cells-requires-clause-fit
push_cells-requires-clause-fit c =
    let structs_in : Parts → List CodeStruct = λ p. p.structs.items in
    let Fit : List CodeStruct → Type 0 = λ ss. StructsFit (map struct_of ss) in
    subst Fit (sym (c.deref.ensures.value ∙ ap structs_in c.parts-parts.ensures.parts)) c.parts-parts.ensures.well_typed.structs
