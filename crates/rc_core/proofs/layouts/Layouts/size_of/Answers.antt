use Rattle.std.proofs.Common.{List, ◌≡◌, ◌∙◌, sym, ap, length, slice_get, Some, None, Bor}
use Rattle.std.specs.Prelude.{option_map}
use Rattle.std.proofs.lemmas.List.{length-map}
use Rattle.rc_core.specs.Layout.{cells, layouts_of}
use Rattle.rc_core.specs.Types.{struct}
use Rattle.rc_core.specs.Laid.{held_kind, LaidStruct, kinds_in}
use Rattle.rc_core.proofs.Laying.{kinds_found}
use Rattle.rc_core.proofs.layouts.Layouts.size_of.Goals as goal

pub returns-in-None : goal.returns-in-None
returns-in-None c = λ structs laid.
    let there : slice_get c.args.self.now c.args.structure ≡ None = ap (λ (ls : List LaidStruct). slice_get ls c.args.structure) (sym (c.as_slice.ensures.value ∙ c.self.view_is)) ∙ sym c.layout_at.ensures ∙ ap (option_map (λ (l : Bor LaidStruct). l.now)) c.in-None.is in
    ap (λ o. length (kinds_in o)) (sym there) ∙ ap length (kinds_found (layouts_of structs) c.args.self.now laid.cells c.args.structure) ∙ length-map (cells structs (struct c.args.structure)) held_kind

pub returns-in-Some : goal.returns-in-Some
returns-in-Some c = λ structs laid.
    let there : slice_get c.args.self.now c.args.structure ≡ Some c.in-Some.layout.now = ap (λ (ls : List LaidStruct). slice_get ls c.args.structure) (sym (c.as_slice.ensures.value ∙ c.self.view_is)) ∙ sym c.layout_at.ensures ∙ ap (option_map (λ (l : Bor LaidStruct). l.now)) c.in-Some.is in
    ap length c.kinds.ensures ∙ ap (λ o. length (kinds_in o)) (sym there) ∙ ap length (kinds_found (layouts_of structs) c.args.self.now laid.cells c.args.structure) ∙ length-map (cells structs (struct c.args.structure)) held_kind
