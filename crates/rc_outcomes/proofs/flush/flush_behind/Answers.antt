use Rattle.std.proofs.Common.{Result, Ok, Err, ◌∙◌, ap, refl, subst, sym}
use Rattle.rc_base.specs.declared.ends.RunFault.{RunFault}
use Rattle.rc_answers.specs.declared.answer.Done.{Done}
use Rattle.rc_answers.specs.declared.answer.Fault.TheVariants.{ReadFault, WriteFault, Memory}
use Rattle.rc_outcomes.specs.Runs.{FlushedBehind, ended, no_memory, not_flushed, not_read, not_written}
use Rattle.rc_outcomes.proofs.flush.flush_behind.Goals as goal

pub returns-in-Ok-flush : goal.returns-in-Ok-flush
returns-in-Ok-flush g c = subst (λ (r : Result Done RunFault). FlushedBehind (g.O.Sink.state c.args.out.now) (g.O.Sink.state c.flush.new.self) r (Ok c.in-Ok.done)) (sym c.in-Ok.is) (ended c.in-Ok.done c.in-Ok-flush.ensures)

pub returns-in-Err-flush : goal.returns-in-Err-flush
returns-in-Err-flush g c = subst (λ (r : Result Done RunFault). FlushedBehind (g.O.Sink.state c.args.out.now) (g.O.Sink.state c.flush.new.self) r (Err WriteFault)) (sym c.in-Ok.is) (not_flushed c.in-Ok.done c.in-Err-flush.field-0 c.in-Err-flush.ensures)

pub returns-in-WriteFault : goal.returns-in-WriteFault
returns-in-WriteFault g c = subst (λ (r : Result Done RunFault). FlushedBehind (g.O.Sink.state c.args.out.now) (g.O.Sink.state c.args.out.now) r (Err WriteFault)) (sym (c.in-Err.is ∙ ap Err c.in-WriteFault.is)) (not_written refl)

pub returns-in-ReadFault : goal.returns-in-ReadFault
returns-in-ReadFault g c = subst (λ (r : Result Done RunFault). FlushedBehind (g.O.Sink.state c.args.out.now) (g.O.Sink.state c.flush-in-ReadFault.new.self) r (Err ReadFault)) (sym (c.in-Err.is ∙ ap Err c.in-ReadFault.is)) (not_read c.flush-in-ReadFault.result c.flush-in-ReadFault.ensures)

pub returns-in-Memory : goal.returns-in-Memory
returns-in-Memory g c = subst (λ (r : Result Done RunFault). FlushedBehind (g.O.Sink.state c.args.out.now) (g.O.Sink.state c.flush-in-Memory.new.self) r (Err Memory)) (sym (c.in-Err.is ∙ ap Err c.in-Memory.is)) (no_memory c.flush-in-Memory.result c.flush-in-Memory.ensures)
