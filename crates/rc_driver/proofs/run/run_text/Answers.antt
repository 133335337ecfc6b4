use Rattle.std.proofs.Common.{Ok, refl, subst, sym}
use Rattle.rc_compile.specs.Compiles.{IsReason}
use Rattle.rc_compile.specs.declared.fault.CompileFault.{CompileFault}
use Rattle.rc_compile.specs.declared.refusal.Refusal.{Refusal}
use Rattle.rc_answers.specs.declared.answer.Done.TheVariants.{Refused}
use Rattle.rc_driver.specs.Executing.{TellsBytes}
use Rattle.rc_outcomes.specs.Outcome.{as_left}
use Rattle.rc_outcomes.proofs.Ways.{untouched}
use Rattle.rc_files.specs.Programs.{RanText, no_memory, ran, refused}
use Rattle.rc_driver.proofs.Ran.{ran_program}
use Rattle.rc_driver.proofs.run.run_text.Goals as goal

pub returns-in-Ok : goal.returns-in-Ok
returns-in-Ok g c =
    let built = c.in-Ok.ensures in
    ran built.program c.as_end.result built.compiles
    (ran_program c.args.text.now built.program c.in-Ok.code built.compiles built.has c.args.limits.now (g.S.Source.state c.args.input.now) (g.S.Source.state c.run_loaded.new.input) (g.O.Sink.state c.args.out.now) (g.O.Sink.state c.run_loaded.new.out) (g.H.Heap.store c.run_loaded.new.heap) c.run_loaded.result c.as_end.result c.run_loaded.ensures c.as_end.ensures)

pub returns-in-Err-Refused : goal.returns-in-Err-Refused
returns-in-Err-Refused g c = subst (λ (refusal : Refusal). RanText as_left (TellsBytes (g.S.Source.state c.args.input.now)) c.args.text.now c.args.limits.now (g.S.Source.state c.args.input.now) (g.S.Source.state c.args.input.now) (g.O.Sink.state c.args.out.now) (g.O.Sink.state c.args.out.now) (g.H.Heap.store c.args.heap.now) (g.H.Heap.store c.args.heap.now) (Ok (Refused refusal))) (sym c.in-Err-Refused.refusal-is)
    (refused c.in-Err-Refused.refusal (subst (λ (fault : CompileFault). IsReason c.args.text.now fault) c.in-Err-Refused.field-0-is c.in-Err-Refused.ensures) (untouched (g.S.Source.state c.args.input.now) (g.O.Sink.state c.args.out.now)) refl)

pub returns-in-Err-Memory : goal.returns-in-Err-Memory
returns-in-Err-Memory g c = no_memory (untouched (g.S.Source.state c.args.input.now) (g.O.Sink.state c.args.out.now)) refl
