use Rattle.std.proofs.Common.{◌≡◌, ◌∙◌, sym, ap, map, slice_get, Some, None, Bor}
use Rattle.std.specs.Prelude.{option_map}
use Rattle.rc_core.specs.Layout.{cells_by}
use Rattle.rc_core.specs.Shapes.{ty_of}
use Rattle.rc_core.specs.Laid.{LaidStruct, kinds_in, held_kind}
use Rattle.rc_core.proofs.Laying.{kinds_found}
use Rattle.rc_core.proofs.layouts.cells_by.Goals as goal

pub returns-in-Some : goal.returns-in-Some
returns-in-Some c = λ of h.
    let there : slice_get c.args.layouts.now c.in-Struct.number ≡ Some c.in-Some.layout.now = sym c.layout_at.ensures ∙ ap (option_map (λ (l : Bor LaidStruct). l.now)) c.in-Some.is in
    c.kinds.ensures ∙ ap kinds_in (sym there) ∙ kinds_found of c.args.layouts.now h c.in-Struct.number ∙ ap (λ t. map held_kind (cells_by of (ty_of t))) (sym c.in-Struct.is)

pub returns-in-None : goal.returns-in-None
returns-in-None c = λ of h.
    let there : slice_get c.args.layouts.now c.in-Struct.number ≡ None = sym c.layout_at.ensures ∙ ap (option_map (λ (l : Bor LaidStruct). l.now)) c.in-None.is in
    ap kinds_in (sym there) ∙ kinds_found of c.args.layouts.now h c.in-Struct.number ∙ ap (λ t. map held_kind (cells_by of (ty_of t))) (sym c.in-Struct.is)
