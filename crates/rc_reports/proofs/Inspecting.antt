-- The report of a text's program, or what the program needs too much of, is the text's answer.
use Rattle.std.proofs.Common.{ℕ, List, Result, Ok, Err, Vec}
use Rattle.std.specs.Prelude.{IfOk}
use Rattle.std.specs.declared.alloc.Global.{Global}
use Rattle.rc_core.specs.Programs.{Program}
use Rattle.rc_compile.specs.Acceptance.{HasProgram}
use Rattle.rc_compile.specs.Compiles.{KeepsWithin}
use Rattle.rc_compile.specs.declared.fault.CompileFault.{CompileFault}
use Rattle.rc_compile.specs.declared.fault.CompileFault.TheVariants.{Refused, Memory}
use Rattle.rc_compile.proofs.OneAnswer.{typed_only, much_only}
use Rattle.rc_elab.specs.Counting.{Counts}
use Rattle.rc_elab.specs.declared.fault.ElabFault.{ElabFault}
use Rattle.rc_elab.specs.declared.fault.ElabFault.TheVariants.{Variables, Points}
use Rattle.rc_elab.specs.declared.fault.ElabFault.TheVariants as elab_fault
use Rattle.rc_reports.specs.Inspected.{Inspects, IsReportOf}
use Rattle.rc_reports.specs.declared.entry.Entry.{Entry}

-- what a program needs too much of, whatever was asked of it
pub much_so : (T : Type 0) (program : Program) (fault : CompileFault) → KeepsWithin {T = Unit {0}} program (Err fault) → KeepsWithin {T = T} program (Err fault)
much_so T program (Refused refusal) much = much
much_so T program Memory much = tt

-- why a program isn't counted is so whatever it is counted for
pub counted_so : (T : Type 0) (program : Program) (fault : ElabFault) → Counts {T = T} program (Err fault) → Counts {T = Unit {0}} program (Err fault)
counted_so T program (Variables line) is = is
counted_so T program Points is = is
counted_so T program elab_fault.Memory is = is

pub inspected : (text : List ℕ) (program : Program) (result : Result (Vec Entry Global) CompileFault) → HasProgram text program → KeepsWithin program result → IfOk result (λ all. IsReportOf program all.items) → Inspects text result
inspected text program (Ok all) has within is = record { program = program; compiles = typed_only text program has within; reports = is }
inspected text program (Err (Refused refusal)) has much is = much_only text program (Refused refusal) has much
inspected text program (Err Memory) has much is = tt
