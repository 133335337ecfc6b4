-- The type to which a step inward leads, and an access on its way.
use Rattle.std.specs.Prelude.{ℕ, List, Option}
use Rattle.rc_core.specs.declared.expr.PathStep.{PathStep, Field, Element}
use Rattle.rc_core.specs.Layout.{field_at}
use Rattle.rc_core.specs.Programs.{Program}
use Rattle.rc_core.specs.Types.{Ty}
use Rattle.rc_core.specs.declared.ty.Signedness.{Signedness}
use Rattle.rc_rlang.specs.RegionCode.{Access, Index}
use Rattle.rc_translation.specs.Translation.{field_type}

abbrev pub inner_type : Program → PathStep → Ty
inner_type program (Field s f) = field_type (field_at program.structs s f)
inner_type program (Element s f i) = field_type (field_at program.structs s f)

abbrev pub access_at : (element cell : Ty) → Option Signedness → (offset : ℕ) → List Index → Access
access_at element cell shift offset indices = record { element = element; cell = cell; shift = shift; offset = offset; indices = indices }
