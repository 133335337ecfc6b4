-- Steps that are put behind others.
use Rattle.std.specs.Prelude.{◌≡◌, ℕ, List}
use Rattle.rc_core.specs.Programs.{Arguments, Expr, Path, Place, Program, Struct}
use Rattle.rc_core.specs.Types.{Ty}
use Rattle.rc_rlang.specs.declared.steps.Step.{Step as CodeStep}
use Rattle.rc_rlang.specs.RegionCode.{Steps, both}
use Rattle.rc_rlang.specs.Shapes.{steps_of}
use Rattle.rc_translation.specs.Translation.{expression_code, arguments_code, place_code, path_code}

abbrev pub Adds : List Struct → (old new : List CodeStep) → Steps → Type 0
Adds structs old new code = steps_of structs new ≡ both (steps_of structs old) code

module _ (program : Program) (locals : List Ty) (old new : List CodeStep) where
  abbrev pub AddsExpression : Expr → Ty → (h : ℕ) → Type 0
  AddsExpression e ty h = Adds program.structs old new (expression_code program locals e ty h)

  abbrev pub AddsArguments : Arguments → List Ty → (h : ℕ) → Type 0
  AddsArguments es tys h = Adds program.structs old new (arguments_code program locals es tys h)

  abbrev pub AddsPlace : (line : ℕ) → Place → (h : ℕ) → Type 0
  AddsPlace line place h = Adds program.structs old new (place_code program locals line place h)

  abbrev pub AddsPath : Path → (h : ℕ) → Type 0
  AddsPath path h = Adds program.structs old new (path_code program locals path h)
