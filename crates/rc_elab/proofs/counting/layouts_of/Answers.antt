use Rattle.std.proofs.Common.{◌∙◌, sym, ap, subst, map}
use Rattle.rc_core.specs.declared.parts.Parts.{Parts}
use Rattle.rc_core.specs.Shapes.{struct_of}
use Rattle.rc_core.specs.WellTyped.{StructsFit}
use Rattle.rc_elab.proofs.counting.layouts_of.Goals as goal

pub new-requires : goal.new-requires
new-requires c = subst (λ list. StructsFit (map struct_of list)) (sym (c.as_slice.ensures.value ∙ ap (λ (p : Parts). p.structs.items) c.parts.ensures.parts)) c.parts.ensures.well_typed.structs
