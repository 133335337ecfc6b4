use Rattle.std.proofs.Common.{Ok, refl, subst, sym}
use Rattle.rc_compile.specs.Compiles.{IsReason}
use Rattle.rc_compile.specs.declared.fault.CompileFault.{CompileFault}
use Rattle.rc_compile.specs.declared.refusal.Refusal.{Refusal}
use Rattle.rc_core.specs.Shapes.{program_of}
use Rattle.rc_answers.specs.declared.answer.Done.TheVariants.{Refused}
use Rattle.rc_outcomes.specs.Outcome.{unsaid}
use Rattle.rc_outcomes.proofs.Ways.{untouched}
use Rattle.rc_files.specs.Programs.{RanText, no_memory, ran, refused}
use Rattle.rc_driver.specs.Evaluating.{TellsInput}
use Rattle.rc_driver.proofs.evaluation.run_text.Goals as goal

pub returns-in-Ok : goal.returns-in-Ok
returns-in-Ok g c = λ heap. ran (program_of c.in-Ok.program) c.run_program.result c.in-Ok.ensures (c.run_program.ensures heap)

pub returns-in-Err-Refused : goal.returns-in-Err-Refused
returns-in-Err-Refused g c = λ heap. subst (λ (refusal : Refusal). RanText unsaid (TellsInput (g.S.Source.state c.args.input.now)) c.args.text.now c.args.limits (g.S.Source.state c.args.input.now) (g.S.Source.state c.args.input.now) (g.O.Sink.state c.args.out.now) (g.O.Sink.state c.args.out.now) heap heap (Ok (Refused refusal))) (sym c.in-Err-Refused.refusal-is)
    (refused c.in-Err-Refused.refusal (subst (λ (fault : CompileFault). IsReason c.args.text.now fault) c.in-Err-Refused.field-0-is c.in-Err-Refused.ensures) (untouched (g.S.Source.state c.args.input.now) (g.O.Sink.state c.args.out.now)) refl)

pub returns-in-Err-Memory : goal.returns-in-Err-Memory
returns-in-Err-Memory g c = λ heap. no_memory (untouched (g.S.Source.state c.args.input.now) (g.O.Sink.state c.args.out.now)) refl
