use Rattle.std.proofs.Common.{ℕ, ◌≡◌, ◌∙◌, ◌<◌, ◌≤◌, ap, arith, sym, subst, length, drop, true, Bool}
use Rattle.std.specs.Prelude.{◌&&◌, nat_le, nat_lt}
use Rattle.std.proofs.lemmas.List.{length-map}
use Rattle.std.proofs.lemmas.Bool.Decides.{nat_tests}
use Rattle.rc_code.specs.Running.{function_at, reading_of, first_in, pinned}
use Rattle.rc_pile.specs.Words.{value_of}
use Rattle.rc_steps.specs.Ready.{IsPinned, pins_of}
use Rattle.rc_decode.specs.Decoding.{has_pins}
use Rattle.rc_calls.specs.Pinning.{AreLocals}
use Rattle.rc_calls.proofs.Calling.{greatest_below, leads_pile, pins_here}
use Rattle.rc_calls.proofs.calls.call.Goals as goal

both : (x a b : Bool) → x ≡ (a && b) → x ≡ true → (a ≡ true) × (b ≡ true)
both x a b e t = grind arith

fits : (words room more : ℕ) → (nat_le words room ≡ true) → words ≤ room
fits words room more e = grind (arith, nat_tests)

some : (n : ℕ) → nat_lt 0 n ≡ true → 0 < n
some n e = grind (arith, nat_tests)

pub returns-clause-went : goal.returns-clause-went
returns-clause-went g c =
    let code = reading_of c.args.setting.now.image.now in
    let f = function_at code c.args.callee in
    let body = c.body_of-body.result.now in
    let r = c.requires.ready in
    let pile = c.args.pile.now in
    let test = both c.has_room.result (nat_le body.room pile.room) (nat_lt 0 pile.more) c.has_room.ensures c.if-not-has_room.false in
    let room = fits body.room pile.room pile.more test.0 in
    let more = some pile.more test.1 in
    let first = ap length c.body_of-body.ensures.body.first in
    let long = length-map body.locals.items value_of in
    let long2 = length-map (drop f.parameters f.locals) first_in in
    let words = c.body_of-body.ensures.body.room in
    let high = greatest_below code f in
    let turns = c.if-at-eq0.false in
    let pins = pins_here code c.args.running.now.function c.args.at.now.place ∙ ap pins_of r.1 in
    let held = subst (λ ps. IsPinned (pinned ps pile.locals) (g.H.Heap.store c.args.heap.now) (g.H.Heap.store c.pin_behind.new.heap)) pins c.in-Ok.ensures in
    leads_pile _ _ _ _ _ _ _ _ (r.5.goes_on (omega (arith, turns)) (omega (arith, words, room, first, long, long2, high)) more (g.H.Heap.store c.pin_behind.new.heap) held) c.begin.ensures

pub pin_behind-requires-clause-some : goal.pin_behind-requires-clause-some
pin_behind-requires-clause-some g c =
    let r = c.requires.ready in
    r.4 ∙ ap has_pins (sym (pins_here (reading_of c.args.setting.now.image.now) c.args.running.now.function c.args.at.now.place ∙ ap pins_of r.1))

pub pin_behind-requires-clause-locals : goal.pin_behind-requires-clause-locals
pin_behind-requires-clause-locals g c =
    let r = c.requires.ready in
    subst (λ ps. AreLocals ps c.args.pile.now) (sym (pins_here (reading_of c.args.setting.now.image.now) c.args.running.now.function c.args.at.now.place ∙ ap pins_of r.1)) r.2
