-- The report of a text: that of its program's region code. A text that is no program has none, but the refusal that it has as a text.
use Rattle.std.specs.Prelude.{ℕ, List, Result, Ok, Err}
use Rattle.std.specs.declared.vec.Vec.{Vec}
use Rattle.std.specs.declared.alloc.Global.{Global}
use Rattle.rc_core.specs.Programs.{Program}
use Rattle.rc_translation.specs.Translation.{region_of_program}
use Rattle.rc_compile.specs.Answers.{IsOnlyProgram}
use Rattle.rc_compile.specs.Compiles.{IsReason}
use Rattle.rc_compile.specs.declared.fault.CompileFault.{CompileFault}
use Rattle.rc_reports.specs.declared.entry.Entry.{Entry}
use Rattle.rc_reports.specs.Reports.{IsReport}

abbrev pub IsReportOf : Program → List Entry → Type 0
IsReportOf program all = IsReport (region_of_program program) all

-- it is the one program of the text, and this is its report
pub record IsReportOfText (text : List ℕ) (all : List Entry) : Type 0 where
  pub program : Program
  pub compiles : IsOnlyProgram text program
  pub reports : IsReportOf program all

abbrev pub Inspects : List ℕ → Result (Vec Entry Global) CompileFault → Type 0
Inspects text (Ok all) = IsReportOfText text all.items
Inspects text (Err fault) = IsReason text fault
