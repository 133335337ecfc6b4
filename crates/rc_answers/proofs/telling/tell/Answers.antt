use Rattle.std.proofs.Common.{◌∙◌, Result, Err, ap, subst, sym}
use Rattle.rc_answers.specs.LineBytes.{line_bytes}
use Rattle.rc_answers.specs.Lines.{answer_line}
use Rattle.rc_answers.specs.Telling.{Tells}
use Rattle.rc_answers.specs.declared.answer.Done.{Done}
use Rattle.rc_answers.specs.declared.answer.Fault.{Fault}
use Rattle.rc_answers.proofs.ToldLaws.{Told, told_fault}
use Rattle.rc_answers.proofs.telling.tell.Goals as goal

pub returns-in-Err-clause-told : goal.returns-in-Err-clause-told
returns-in-Err-clause-told g c =
    let told : Told (line_bytes c.line_of-line.result) (g.E.Sink.state c.args.err.now) (g.E.Sink.state c.flush_line-told.new.err) c.flush_line-told.result = record { ok = c.flush_line-told.ensures.ok; flushed = c.flush_line-told.ensures.flushed; failed = c.flush_line-told.ensures.failed; cause = c.flush_line-told.ensures.cause } in
    subst (λ (answer : Result Done Fault). Tells answer (g.E.Sink.state c.args.err.now) (g.E.Sink.state c.flush_line-told.new.err) (Err c.in-Err.fault)) (sym c.in-Err.is)
    (told_fault c.in-Err.fault (g.E.Sink.state c.args.err.now) (g.E.Sink.state c.flush_line-told.new.err) (line_bytes c.line_of-line.result) c.flush_line-told.result (c.line_of-line.ensures ∙ ap answer_line c.in-Err.is) told)
