use Rattle.std.proofs.Common.{◌≡◌, List, map, take, sym, subst, rules}
use Rattle.rc_core.specs.Layout.{Layout, fields_cells, layouts_of}
use Rattle.rc_core.specs.Shapes.{field_of, struct_of}
use Rattle.rc_core.specs.declared.parts.Field.{Field as CodeField}
use Rattle.rc_emit.specs.Cells.{cells_with, AreCells}
use Rattle.rc_emit.proofs.Laid.{struct_step}
use Rattle.rc_emit.proofs.cells.all_cells.Goals as goal

pub loop-structure-preserved : goal.loop-structure-preserved
loop-structure-preserved c =
    let n = c.args.numbers.now in
    let of : List Layout = layouts_of (map struct_of (take c.loop-structure.structure-index c.args.structs.now)) in
    let same : c.as_slice.result.now ≡ c.loop-structure.all.items = c.as_slice.ensures.value in
    let fields : c.as_slice-in-loop-structure.result.now ≡ c.structure-item.result.fields.items = c.as_slice-in-loop-structure.ensures.value in
    let is = c.in_ok-cells.ensures of (subst (AreCells n of) (sym same) c.loop-structure.invariant) in
    let IsOf : List CodeField → Type 0 = λ items. c.in_ok-cells.cells.items ≡ cells_with n (fields_cells of (map field_of items)) in
    struct_step n c.args.structs.now c.loop-structure.structure-index c.structure-item.result c.loop-structure.all.items c.push.new.self.items c.in_ok-cells.cells c.loop-structure-test.true c.structure-item.is c.loop-structure.invariant (subst IsOf fields is) (search rules)
