-- What an evaluation answers, and what it does outside.
use Rattle.std.specs.Prelude.{◌≡◌, ◌≤◌, List, drop, Result, IfOk, IfErr, OnOk, IsErrOf, IsTrue}
use Rattle.rc_base.specs.Acts.{Act, CutShort, Gave, output}
use Rattle.rc_base.specs.Causes.{Rose}
use Rattle.rc_base.specs.Sinks.{SinkState, Took}
use Rattle.rc_base.specs.Sources.{SourceState}
use Rattle.rc_base.specs.declared.ends.End.{End}
use Rattle.rc_base.specs.declared.ends.Limits.{Limits}
use Rattle.rc_base.specs.declared.ends.RunFault.{RunFault}
use Rattle.rc_base.specs.declared.ends.RunFault.TheVariants.{ReadFault, WriteFault}
use Rattle.rc_core.specs.Meaning.{meaning}
use Rattle.rc_core.specs.Programs.{Program}
use Rattle.rc_core.specs.Runs.{Ends}

-- these acts were done: their bytes were written, and the input lost what their `getchar`s gave
abbrev pub Did : List Act → SourceState → SourceState → SinkState → SinkState → Type 0
Did acts input input' out out' = Took (output acts) out out' × Gave acts input input'

-- a fault comes only where its count rose, and every other answer leaves that count; nothing is flushed
pub record HasEvaluationCause (input input' : SourceState) (out out' : SinkState) (result : Result End RunFault) : Type 0 where
  pub input_tells : input'.tells ≡ input.tells
  pub out_tells : out'.tells ≡ out.tells
  pub unflushed : IsTrue out.tells → out'.flushed ≡ out.flushed
  pub input_later : input.faults ≤ input'.faults
  pub out_later : out.faults ≤ out'.faults
  pub read : IsErrOf result ReadFault → Rose input.faults input'.faults
  pub write : IsErrOf result WriteFault → Rose out.faults out'.faults
  pub input_kept : ¬ IsErrOf result ReadFault → input'.faults ≡ input.faults
  pub out_kept : ¬ IsErrOf result WriteFault → out'.faults ≡ out.faults

-- the end, the acts and the bytes taken are those of the program's meaning on this input; after a fault, a front of the acts
-- was done
pub record Evaluates (program : Program) (limits : Limits) (input input' : SourceState) (out out' : SinkState) (result : Result End RunFault) : Type 0 where
  pub end : IsTrue input.tells → IfOk result (λ end. (meaning program input.rest limits).end ≡ Ends end)
  pub did : IsTrue input.tells → OnOk result (Did (meaning program input.rest limits).acts input input' out out')
  pub taken : IsTrue input.tells → OnOk result (input'.rest ≡ drop (meaning program input.rest limits).taken input.rest)
  pub cut_short : IsTrue input.tells → IfErr result (CutShort (meaning program input.rest limits).acts (λ done. Did done input input' out out'))
  pub cause : HasEvaluationCause input input' out out' result
