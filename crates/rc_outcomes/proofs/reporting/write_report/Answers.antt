use Rattle.std.proofs.Common.{◌∙◌, refl, subst, arith}
use Rattle.rc_base.specs.Sinks.{Writes}
use Rattle.rc_outcomes.specs.Reporting.{at_byte, at_flush}
use Rattle.rc_outcomes.proofs.Flushing.{rose_later, took_flushed}
use Rattle.rc_outcomes.proofs.reporting.write_report.Goals as goal

pub returns-in-Err-flush : goal.returns-in-Err-flush
returns-in-Err-flush g c =
    let a = g.O.Sink.state c.args.out.now in
    let b = g.O.Sink.state c.write_all.new.out in
    let end = g.O.Sink.state c.flush.new.self in
    let w = subst (λ r. Writes c.args.report.now a b r) c.in-Ok.is c.write_all.ensures in
    let f = c.in-Err-flush.ensures in
    record {
      tells = f.tells ∙ w.tells;
      wrote = tt;
      flushed = tt;
      cut = at_flush (took_flushed c.args.report.now a b end w.tells w.ok f.same);
      never_falls = (let one = w.cause.never_falls in let two = f.cause.never_falls in omega (arith, one, two));
      kept = λ ok. cc;
      rose = λ err. rose_later a.faults b.faults end.faults w.cause.never_falls (f.cause.failed refl);
    }

pub returns-in-Err : goal.returns-in-Err
returns-in-Err g c =
    let w = subst (λ r. Writes c.args.report.now (g.O.Sink.state c.args.out.now) (g.O.Sink.state c.write_all.new.out) r) c.in-Err.is c.write_all.ensures in
    record {
      tells = w.tells;
      wrote = tt;
      flushed = tt;
      cut = at_byte w.failed.0 w.failed.1 w.flushed;
      never_falls = w.cause.never_falls;
      kept = λ ok. cc;
      rose = λ err. w.cause.failed refl;
    }
