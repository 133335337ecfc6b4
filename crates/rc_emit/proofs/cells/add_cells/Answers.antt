use Rattle.std.proofs.Common.{◌≡◌, ◌++◌, Some, None, Vec, slice_get, Bor, sym, ap, ◌∙◌, append-nil}
use Rattle.std.specs.Prelude.{option_map}
use Rattle.std.specs.declared.alloc.Global.{Global}
use Rattle.rc_core.specs.Layout.{cells_by}
use Rattle.rc_core.specs.Shapes.{ty_of}
use Rattle.rc_code.specs.declared.kind.Cell.{Cell}
use Rattle.rc_emit.specs.Cells.{cells_with}
use Rattle.rc_emit.proofs.Laid.{cells_in, found}
use Rattle.rc_emit.proofs.cells.add_cells.Goals as goal

pub returns-in_ok-extend_from_slice-in-Some : goal.returns-in_ok-extend_from_slice-in-Some
returns-in_ok-extend_from_slice-in-Some c = λ of are.
    let n = c.args.numbers.now in
    let there : slice_get c.args.structs.now c.in-Struct.number ≡ Some c.in-Some.cells.now = sym c.struct_at.ensures ∙ ap (option_map (λ (v : Bor (Vec Cell Global)). v.now)) c.in-Some.is in
    c.in_ok-extend_from_slice-in-Some.ensures.items
    ∙ ap (λ cs. c.args.out.now.items ++ cs) (c.as_slice.ensures.value ∙ ap cells_in (sym there) ∙ found n of c.args.structs.now are c.in-Struct.number ∙ ap (λ t. cells_with n (cells_by of (ty_of t))) (sym c.in-Struct.is))

pub returns-in-None : goal.returns-in-None
returns-in-None c = λ of are.
    let n = c.args.numbers.now in
    let there : slice_get c.args.structs.now c.in-Struct.number ≡ None = sym c.struct_at.ensures ∙ ap (option_map (λ (v : Bor (Vec Cell Global)). v.now)) c.in-None.is in
    sym (append-nil c.args.out.now.items)
    ∙ ap (λ cs. c.args.out.now.items ++ cs) (ap cells_in (sym there) ∙ found n of c.args.structs.now are c.in-Struct.number ∙ ap (λ t. cells_with n (cells_by of (ty_of t))) (sym c.in-Struct.is))
