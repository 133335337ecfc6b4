-- What counting a program answers: it keeps within the bounds, or the first function that doesn't, or too many points.
use Rattle.std.specs.Prelude.{Result, Ok, Err}
use Rattle.rc_core.specs.Programs.{Program}
use Rattle.rc_rlang.specs.Bounds.{FirstWide, IsWithinBounds, HasManyPoints}
use Rattle.rc_elab.specs.declared.fault.ElabFault.{ElabFault}
use Rattle.rc_elab.specs.declared.fault.ElabFault.TheVariants.{Variables, Points, Memory}

abbrev pub Counts : {T : Type 0} → Program → Result T ElabFault → Type 0
Counts program (Ok x) = IsWithinBounds program
Counts program (Err (Variables line)) = FirstWide program.functions line
Counts program (Err Points) = HasManyPoints program
Counts program (Err Memory) = Unit {0}
