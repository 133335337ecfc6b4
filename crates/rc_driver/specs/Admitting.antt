-- What is run of a file's image, and why an image isn't run or isn't sealed.
use Rattle.std.specs.Prelude.{◌≡◌, Result, Ok, Err}
use Rattle.rc_code.specs.Soundness.{Sound}
use Rattle.rc_code.specs.declared.image.Parts.{Parts}
use Rattle.rc_loader.specs.Violations.{FirstViolation}
use Rattle.rc_loader.specs.declared.fault.LoadFault.{LoadFault}
use Rattle.rc_loader.specs.declared.fault.LoadFault.TheVariants as load_fault
use Rattle.rc_loader.specs.declared.fault.Violation.{Violation}
use Rattle.rc_sealed.specs.declared.fault.ProofFault.{ProofFault}
use Rattle.rc_sealed.specs.declared.fault.ProofFault.TheVariants as proof_fault
use Rattle.rc_answers.specs.declared.image_refusal.ImageRefusal.TheVariants.{Facts, Pins, Wide}
use Rattle.rc_outcomes.specs.Images.{Carried}
use Rattle.rc_outcomes.specs.Outcome.{Admits, refusal_of_code}
use Rattle.rc_driver.specs.declared.admit.NotRun.{NotRun}
use Rattle.rc_driver.specs.declared.admit.NotRun.TheVariants as not_run

abbrev pub unsound : LoadFault → NotRun
unsound (load_fault.Broken v) = not_run.Refused (refusal_of_code v)
unsound load_fault.Memory = not_run.Memory

abbrev pub unproven : ProofFault → NotRun
unproven (proof_fault.Facts function instruction) = not_run.Refused (Facts function instruction)
unproven (proof_fault.Pins function instruction) = not_run.Refused (Pins function instruction)
unproven (proof_fault.Wide function) = not_run.Refused (Wide function)
unproven proof_fault.Memory = not_run.Memory

-- the code of an image keeps the rules, or it is refused for its first violation
pub data IsSoundOr {T : Type 0} (image : Parts) : Result T NotRun → Type 0 where
  keeps : (value : T) → Sound image → IsSoundOr image (Ok value)
  breaks : (v : Violation) → FirstViolation image v → IsSoundOr image (Err (not_run.Refused (refusal_of_code v)))
  out_of_memory : IsSoundOr image (Err not_run.Memory)

-- what is run of what a file carries, or the refusal of it; or there is no memory to tell
abbrev pub Admitted : Carried → Result Parts NotRun → Type 0
Admitted carried (Ok code) = Admits carried (Ok code)
Admitted carried (Err (not_run.Refused refusal)) = Admits carried (Err refusal)
Admitted carried (Err not_run.Memory) = Unit {0}
