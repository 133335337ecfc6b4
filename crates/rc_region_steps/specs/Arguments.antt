-- The type as which an argument is given.
use Rattle.std.specs.Prelude.{ℕ, List, Option, Some, None, slice_get}
use Rattle.rc_core.specs.Programs.{Expr, Program}
use Rattle.rc_core.specs.Types.{Ty}
use Rattle.rc_translation.specs.Translation.{expression_type}

abbrev pub or_own : Program → List Ty → Expr → Option Ty → Ty
or_own program locals e None = expression_type program locals e
or_own program locals e (Some ty) = ty

abbrev pub argument_at : Program → List Ty → Expr → (parameters : List Ty) → (place : ℕ) → Ty
argument_at program locals e parameters place = or_own program locals e (slice_get parameters place)
