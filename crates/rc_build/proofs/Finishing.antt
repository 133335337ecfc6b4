-- What finishing a program answers, and that of a text's program is the text's answer.
use Rattle.std.proofs.Common.{ℕ, List, Result, Ok, Err}
use Rattle.rc_core.specs.Programs.{Program}
use Rattle.rc_code.specs.declared.image.Parts.{Parts}
use Rattle.rc_compile.specs.Acceptance.{HasProgram}
use Rattle.rc_compile.specs.Compiles.{KeepsWithin}
use Rattle.rc_compile.specs.declared.fault.CompileFault.{CompileFault}
use Rattle.rc_compile.specs.declared.fault.CompileFault.TheVariants.{Refused, Memory}
use Rattle.rc_elab.specs.Counting.{Counts}
use Rattle.rc_elab.specs.declared.fault.ElabFault.{ElabFault}
use Rattle.rc_elab.specs.declared.fault.ElabFault.TheVariants.{Variables, Points}
use Rattle.rc_elab.specs.declared.fault.ElabFault.TheVariants as elab_fault
use Rattle.rc_compile.proofs.OneAnswer.{typed_only, much_only}
use Rattle.rc_build.specs.Built.{Builds, Finishes}

-- a program that needs too much is not finished
pub not_finished : (program : Program) (fault : CompileFault) → KeepsWithin {T = Unit {0}} program (Err fault) → Finishes program (Err fault)
not_finished program (Refused refusal) much = much
not_finished program Memory much = tt

pub finished_text : (text : List ℕ) (program : Program) (result : Result Parts CompileFault) → HasProgram text program → Finishes program result → Builds text result
finished_text text program (Ok image) has finished = record { program = program; compiles = typed_only text program has finished.bounds; has = finished.has }
finished_text text program (Err (Refused refusal)) has much = much_only text program (Refused refusal) has much
finished_text text program (Err Memory) has much = tt

-- why a program isn't counted is so whatever it is counted for
pub counted_so : (T : Type 0) (program : Program) (fault : ElabFault) → Counts {T = T} program (Err fault) → Counts {T = Unit {0}} program (Err fault)
counted_so T program (Variables line) is = is
counted_so T program Points is = is
counted_so T program elab_fault.Memory is = is
