use Rattle.std.proofs.Common.{◌≡◌, ◌∙◌, ℕ, List, Ok, Err, IfOk, ap, arith, refl, subst}
use Rattle.rc_answers.specs.declared.answer.Fault.TheVariants.{WriteFault}
use Rattle.rc_outcomes.specs.Reporting.{WroteReport, nothing}
use Rattle.rc_outcomes.proofs.Ways.{same_fault}
use Rattle.rc_outcomes.proofs.reporting.report.Goals as goal

pub returns-in_default : goal.returns-in_default
returns-in_default g c = λ bytes is. record {
  wrote = record { tells = refl; wrote = tt; flushed = tt; cut = nothing refl; never_falls = omega arith; kept = λ ok. cc; rose = λ is. cc };
  reported = tt;
}

pub returns-in-Ok-write_report : goal.returns-in-Ok-write_report
returns-in-Ok-write_report g c = λ bytes is.
    (let made = subst (λ r. IfOk r (λ text. text.items ≡ bytes)) c.in-Ok.is is in
    let w = subst (λ (b : List ℕ). WroteReport b (g.O.Sink.state c.args.out.now) (g.O.Sink.state c.write_report.new.out) (Ok c.in-Ok-write_report.field-0)) (c.as_slice.ensures.value ∙ made) c.in-Ok-write_report.ensures in
    record {
      wrote = record { tells = w.tells; wrote = w.wrote; flushed = w.flushed; cut = tt; never_falls = w.never_falls; kept = λ ok. w.kept refl; rose = λ e. cc };
      reported = refl;
    })

pub returns : goal.returns
returns g c = λ bytes is.
    (let made = subst (λ r. IfOk r (λ text. text.items ≡ bytes)) c.in-Ok.is is in
    let w = subst (λ (b : List ℕ). WroteReport {T = Unit {0}} b (g.O.Sink.state c.args.out.now) (g.O.Sink.state c.write_report.new.out) (Err c.in-Err.fault)) (c.as_slice.ensures.value ∙ made) c.in-Err.ensures in
    record {
      wrote = record { tells = w.tells; wrote = tt; flushed = tt; cut = w.cut; never_falls = w.never_falls; kept = λ ok. cc; rose = λ e. w.rose (ap Err (same_fault c.in-Err.fault WriteFault e)) };
      reported = tt;
    })
