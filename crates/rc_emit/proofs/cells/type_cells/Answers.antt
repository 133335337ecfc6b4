use Rattle.std.proofs.Common.{◌≡◌, ◌++◌, ◌∷◌, [], map, sym, ap, subst, ◌∙◌}
use Rattle.rc_core.specs.Layout.{cells, layouts_of}
use Rattle.rc_core.specs.Shapes.{struct_of, ty_of}
use Rattle.rc_emit.specs.Cells.{cells_with, AreCells}
use Rattle.rc_emit.proofs.Laid.{type_step}
use Rattle.rc_emit.proofs.cells.type_cells.Goals as goal

pub loop-ty-preserved : goal.loop-ty-preserved
loop-ty-preserved c =
    let n = c.args.numbers.now in
    let ss = map struct_of c.args.structs.now in
    let of = layouts_of ss in
    let x = c.ty-item.result in
    let are : AreCells n of c.as_slice.result.now = subst (AreCells n of) (sym c.as_slice.ensures.value) c.in_ok-layouts.ensures in
    let one : c.new.result ≡ cells_with n (cells ss (ty_of x.now)) = c.new.ensures ∙ c.in_ok-add_cells.ensures of are ∙ ap (λ front. front ++ cells_with n (cells ss (ty_of x.now))) c.new-cells.ensures.items in
    type_step n ss c.types-named.result.now c.loop-ty.ty-index x c.loop-ty.types.items c.push.new.self.items c.loop-ty-test.true c.ty-item.is c.loop-ty.invariant (c.in_ok-push.ensures.items ∙ ap (λ cs. c.loop-ty.types.items ++ cs ∷ []) one)
