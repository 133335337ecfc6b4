use Rattle.std.proofs.Common.{◌-◌, ◌∙◌, arith, ap}
use Rattle.std.proofs.lemmas.Bool.Decides.{nat_tests}
use Rattle.rc_adapters.proofs.Fronts.{is_zero, kept_bound, kept_more, not_zero, read_to_the_end, read_too_much}
use Rattle.rc_adapters.proofs.folder.read_front.Goals.{then-count-eq0-via-then-count-eq0, then-count-eq0-via-else-count-eq0+then-count-room}
use Rattle.rc_adapters.proofs.folder.read_front.Goals as goal

pub loop-count-preserved : goal.loop-count-preserved
loop-count-preserved g c = record {
  bound = kept_bound c.args.most c.in-Ok.count (c.args.most - c.len.result) c.min.result c.loop-count.bytes.items c.extend_from_slice.new.self.items c.read.new.buf c.min.ensures c.in_ok-extend_from_slice.ensures.items (ap (λ n. c.args.most - n) (c.len.ensures ∙ c.loop-count.bytes.ok.0)) c.loop-count.invariant.bound;
  consumed = kept_more (g.R.Read.remaining c.args.reader.now) (g.R.Read.remaining c.loop-count.reader) (g.R.Read.remaining c.read.new.self) c.in-Ok.count (c.args.most - c.len.result) c.min.result c.loop-count.bytes.items c.extend_from_slice.new.self.items c.read.new.buf c.loop-count.invariant.consumed c.in-Ok.ensures.bytes.0 c.min.ensures c.in_ok-extend_from_slice.ensures.items (grind (arith, nat_tests, c.if-count-room.false));
}

pub returns-then-count-eq0-clause-front : goal.returns-then-count-eq0-clause-front
returns-then-count-eq0-clause-front g c = elim c.then-count-eq0.branch [
  | then-count-eq0-via-then-count-eq0 w ↦ read_to_the_end (g.R.Read.remaining c.args.reader.now) (g.R.Read.remaining c.loop-count.reader) (g.R.Read.remaining c.read.new.self) c.args.most c.in-Ok.count (c.args.most - c.len.result) c.min.result c.loop-count.bytes.items c.extend_from_slice.new.self.items c.read.new.buf _ c.loop-count.invariant.consumed c.in-Ok.ensures.bytes.0 (c.in-Ok.ensures.bytes.1 w.if-count-eq0.true (omega (arith, c.read.auto.buf))) c.min.ensures c.in_ok-extend_from_slice.ensures.items (ap (λ n. c.args.most - n) (c.len.ensures ∙ c.loop-count.bytes.ok.0)) c.loop-count.invariant.bound w.if-count-eq0.true c.new.ensures (is_zero c.in-Ok.count w.if-count-eq0.true)
  | then-count-eq0-via-else-count-eq0+then-count-room w ↦ read_too_much (g.R.Read.remaining c.args.reader.now) (g.R.Read.remaining c.loop-count.reader) (g.R.Read.remaining c.read.new.self) c.args.most c.in-Ok.count (c.args.most - c.len.result) c.min.result c.loop-count.bytes.items c.extend_from_slice.new.self.items c.read.new.buf _ c.loop-count.invariant.consumed c.in-Ok.ensures.bytes.0 c.min.ensures c.in_ok-extend_from_slice.ensures.items (ap (λ n. c.args.most - n) (c.len.ensures ∙ c.loop-count.bytes.ok.0)) c.loop-count.invariant.bound (grind (arith, nat_tests, w.if-count-room.true)) (omega (arith, c.in-Ok.ensures.bound)) c.new.ensures (not_zero c.in-Ok.count w.if-count-eq0.false)
]
