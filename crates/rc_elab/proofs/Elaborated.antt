-- The region code of a program within its bounds is region code whose parts fit together, and means what the program means.
use Rattle.std.proofs.Common.{◌≡◌, sym, subst}
use Rattle.rc_core.specs.Programs.{Program}
use Rattle.rc_core.specs.WellTyped.{IsWellTyped}
use Rattle.rc_rlang.specs.Bounds.{IsWithinBounds}
use Rattle.rc_rlang.specs.IsRlang.{IsRlang}
use Rattle.rc_rlang.specs.RegionCode.{Rlang}
use Rattle.rc_translation.specs.Translation.{region_of_program}
use Rattle.rc_translation.proofs.Theorem.{region_code_means}
use Rattle.rc_translation.proofs.RulesTheorem.{fits_together}
use Rattle.rc_elab.specs.Elaborating.{HasMeaningOf}

pub fits : (program : Program) (r : Rlang) → IsWellTyped program → IsWithinBounds program → r ≡ region_of_program program → IsRlang r
fits program r well bounds e = subst IsRlang (sym e) (fits_together program well bounds)

pub means : (program : Program) (r : Rlang) → IsWellTyped program → r ≡ region_of_program program → HasMeaningOf program r
means program r well e = subst (HasMeaningOf program) (sym e) (region_code_means program well)
