use Rattle.std.proofs.Common.{◌≡◌, ◌∙◌, ◌-◌, Bool, List, length, ap, arith}
use Rattle.rc_code.specs.declared.instruction.Instruction.{Instruction}
use Rattle.rc_code.specs.Running.{reading_of}
use Rattle.rc_code.specs.Soundness.{count_off, instruction_at, kinds_before}
use Rattle.rc_pinning.specs.Operands.{TakesAboveNumbers}
use Rattle.rc_pinning.proofs.Heights.{none_counted, told_above, tells_more, long_push}
use Rattle.rc_pinning.proofs.operands.above_numbers.Goals as goal

size : {xs ys : List Instruction} → xs ≡ ys → length xs ≡ length ys
size e = ap length e

pub loop-at-init : goal.loop-at-init
loop-at-init c = record { low = omega arith; counted = none_counted; long = ap (λ (bs : List Bool). length bs) c.new-tells.ensures.items; each = λ k lt. absurd (omega (arith, lt)) }

pub behind-operands-requires-clause-small : goal.behind-operands-requires-clause-small
behind-operands-requires-clause-small c =
    let l = c.loop-at-test.true in
    let e = size c.as_slice-at-end.ensures in
    let low = c.loop-at.invariant.low in
    let small = c.requires.small in
    let left = c.lowest-left.ensures in
    omega (arith, l, e, low, small, left)

pub behind-operands-requires-clause-there : goal.behind-operands-requires-clause-there
behind-operands-requires-clause-there c = let l = c.loop-at-test.true in let e = size c.as_slice-at-end.ensures in omega (arith, l, e)

pub behind-operands-requires-clause-names : goal.behind-operands-requires-clause-names
behind-operands-requires-clause-names c = c.requires.names c.loop-at.at (let l = c.loop-at-test.true in let e = size c.as_slice-at-end.ensures in omega (arith, l, e))

pub behind-operands-requires-clause-left : goal.behind-operands-requires-clause-left
behind-operands-requires-clause-left c =
    c.lowest-left.ensures
    ∙ ap (λ (i : Instruction). c.loop-at.operands.height - count_off (reading_of c.args.parts.now) c.args.function.now i) c.instruction_of.ensures
    ∙ ap (λ h. h - count_off (reading_of c.args.parts.now) c.args.function.now (instruction_at c.args.function.now c.loop-at.at)) c.loop-at.invariant.counted.height

pub behind-operands-requires-clause-numbers : goal.behind-operands-requires-clause-numbers
behind-operands-requires-clause-numbers c = c.loop-at.invariant.counted.numbers

pub loop-at-preserved : goal.loop-at-preserved
loop-at-preserved c = record {
  low = (let low = c.loop-at.invariant.low in let left = c.lowest-left.ensures in let next = c.behind-operands.ensures.low in omega (arith, low, left, next));
  counted = c.behind-operands.ensures.count;
  long = long_push c.loop-at.tells.items c.put.new.out.items _ c.loop-at.at c.in_ok-put.ensures c.loop-at.invariant.long;
  each =
      tells_more (TakesAboveNumbers (reading_of c.args.parts.now) c.args.function.now) c.loop-at.tells.items c.put.new.out.items _ c.loop-at.at c.in_ok-put.ensures c.loop-at.invariant.long
      (told_above (reading_of c.args.parts.now) c.args.function.now c.loop-at.at c.lowest-left.result c.loop-at.operands.numbers c.loop-at.invariant.counted.numbers left) c.loop-at.invariant.each;
}
  where
    left : c.lowest-left.result ≡ length (kinds_before (reading_of c.args.parts.now) c.args.function.now c.loop-at.at) - count_off (reading_of c.args.parts.now) c.args.function.now (instruction_at c.args.function.now c.loop-at.at)
    left =
        c.lowest-left.ensures
        ∙ ap (λ (i : Instruction). c.loop-at.operands.height - count_off (reading_of c.args.parts.now) c.args.function.now i) c.instruction_of.ensures
        ∙ ap (λ h. h - count_off (reading_of c.args.parts.now) c.args.function.now (instruction_at c.args.function.now c.loop-at.at)) c.loop-at.invariant.counted.height

pub returns : goal.returns
returns c = record { long = c.loop-at.invariant.long ∙ last; each = λ k lt. c.loop-at.invariant.each k (let e = last in omega (arith, e, lt)) }
  where
    last : c.loop-at.at ≡ length c.args.function.now.code
    last = (let f = c.loop-at-test.false in let e = c.loop-at.auto.at-end in let s = size c.as_slice-at-end.ensures in omega (arith, f, e, s))
