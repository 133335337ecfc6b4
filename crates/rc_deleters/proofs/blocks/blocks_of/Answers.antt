use Rattle.std.proofs.Common.{◌≡◌, ◌∙◌, ◌++◌, ℕ, List, length, sym, ap, arith}
use Rattle.rc_code.specs.declared.instruction.Instruction.{Instruction}
use Rattle.rc_stops.specs.declared.stop.Stop.{Stop}
use Rattle.rc_deleters.specs.Calls.{as_numbered, code_stops, image_stops}
use Rattle.rc_deleters.proofs.Building.{image_more, image_all, long_more, firsts_more, firsts_long, firsts_all, first_none}
use Rattle.rc_deleters.proofs.blocks.blocks_of.Goals as goal

pub loop-number-init : goal.loop-number-init
loop-number-init c = record {
  stops = ap (λ (ss : List Stop). ss ++ image_stops as_numbered c.args.functions.now) c.new-stops.ensures.items;
  long = ap (λ (ss : List Stop). length ss) c.new-stops.ensures.items ∙ sym (first_none c.args.functions.now);
  count = ap (λ (ns : List ℕ). length ns) c.new-firsts.ensures.items;
  firsts = λ h lt. absurd (omega (arith, lt));
}

pub loop-number-preserved : goal.loop-number-preserved
loop-number-preserved c =
    let q = c.in_ok-put_code.ensures ∙ ap (λ (code : List Instruction). c.loop-number.stops.items ++ code_stops as_numbered code) c.code_of.ensures in
    let r = c.in_ok-put_number.ensures in
    record {
      stops = image_more c.args.functions.now c.loop-number.number _ c.loop-number.stops.items c.put_code.new.out.items c.loop-number-test.true c.loop-number.invariant.stops q;
      long = long_more c.args.functions.now c.loop-number.number c.loop-number.stops.items c.put_code.new.out.items c.loop-number-test.true c.loop-number.invariant.long q;
      count = firsts_long c.loop-number.firsts.items c.put_number.new.out.items c.length_of.result c.loop-number.number c.loop-number.invariant.count r;
      firsts = firsts_more c.args.functions.now c.loop-number.number c.loop-number.firsts.items c.put_number.new.out.items c.length_of.result c.loop-number.invariant.count (c.length_of.ensures ∙ ap length c.deref.ensures.value ∙ c.loop-number.invariant.long) r c.loop-number.invariant.firsts;
    }

pub returns-clause-stops : goal.returns-clause-stops
returns-clause-stops c = image_all c.args.functions.now c.loop-number.number _ c.loop-number.stops.items (let f = c.loop-number-test.false in omega (arith, f)) c.loop-number.invariant.stops

pub returns-clause-firsts : goal.returns-clause-firsts
returns-clause-firsts c =
    let last : c.loop-number.number ≡ length c.args.functions.now = (let f = c.loop-number-test.false in let e = c.loop-number.auto.number-end in omega (arith, f, e)) in
    firsts_all c.args.functions.now c.loop-number.number c.loop-number.firsts.items last c.loop-number.invariant.count c.loop-number.invariant.firsts
