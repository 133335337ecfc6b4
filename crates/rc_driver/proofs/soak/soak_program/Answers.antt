use Rattle.std.proofs.Common.{◌≡◌, ◌∙◌, IfOk, refl, subst, arith}
use Rattle.rc_outcomes.specs.Reporting.{nothing}
use Rattle.rc_summaries.specs.Summary.{summary_text}
use Rattle.rc_summaries.specs.declared.summary.Summary.{Summary}
use Rattle.rc_driver.specs.Soaking.{summary_of}
use Rattle.rc_driver.proofs.Alone.{anyhow, ends_as_program, left_as_program, one_end, summary_is}
use Rattle.rc_driver.proofs.soak.soak_program.Goals as goal

pub returns-in_default : goal.returns-in_default
returns-in_default g c = λ program end made ends. record {
  summed = record {
    wrote = record { tells = refl; wrote = tt; flushed = tt; cut = nothing refl; never_falls = omega arith; kept = λ ok. cc; rose = λ is. cc };
    reported = tt;
  };
  left = tt;
}

pub returns : goal.returns
returns g c = λ program end made ends.
    (let run = c.in-Ok.ensures in
    let heap = g.H.Heap.store c.run_alone.new.heap in
    let same = one_end program c.args.limits.now c.in-Ok.end end (ends_as_program program c.args.made.now.code made.image c.args.limits.now c.in-Ok.end heap run) ends in
    let line = c.summary_of.ensures ∙ summary_is c.args.number program c.args.made.now c.in-Ok.end end made same in
    record {
      summed = c.report.ensures (summary_text (summary_of c.args.number program c.args.made.now.entries.items end))
          (subst (λ (s : Summary). IfOk c.summary_text.result (λ text. text.items ≡ summary_text s)) line c.summary_text.ensures);
      left = anyhow c.report.result (left_as_program program c.args.made.now.code made.image c.args.limits.now c.in-Ok.end heap run);
    })
