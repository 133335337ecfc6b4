use Rattle.std.proofs.Common.{◌≡◌, ◌∙◌, List, ℕ, Ok, Err, subst}
use Rattle.std.specs.Fmt.{decimal}
use Rattle.rc_base.specs.Sinks.{Writes}
use Rattle.rc_answers.proofs.Written.{writes_cut, writes_then}
use Rattle.rc_answers.proofs.telling.write_numbered.Goals as goal

pub returns-in_default : goal.returns-in_default
returns-in_default g c =
    let digits : c.as_bytes.result.now ≡ decimal c.args.part.number = c.as_bytes.ensures.value ∙ c.format.ensures.text in
    let wrote = subst (λ (bytes : List ℕ). Writes {T = Unit {0}} bytes (g.E.Sink.state c.args.err.now) (g.E.Sink.state c.write_all.new.out) (Err c.in_default.field-0)) digits c.in_default.ensures in
    writes_cut (decimal c.args.part.number) c.args.part.text.now (g.E.Sink.state c.args.err.now) (g.E.Sink.state c.write_all.new.out) c.in_default.field-0 wrote

pub returns : goal.returns
returns g c =
    let digits : c.as_bytes.result.now ≡ decimal c.args.part.number = c.as_bytes.ensures.value ∙ c.format.ensures.text in
    let wrote = subst (λ (bytes : List ℕ). Writes bytes (g.E.Sink.state c.args.err.now) (g.E.Sink.state c.write_all.new.out) (Ok c.in-Ok.field-0)) digits c.in-Ok.ensures in
    writes_then (decimal c.args.part.number) c.args.part.text.now (g.E.Sink.state c.args.err.now) (g.E.Sink.state c.write_all.new.out) (g.E.Sink.state c.write_all-2.new.out) c.in-Ok.field-0 c.write_all-2.result wrote c.write_all-2.ensures
