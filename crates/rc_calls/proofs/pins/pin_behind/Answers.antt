use Rattle.std.proofs.Common.{◌≡◌, ◌∙◌, false, rules, sym}
use Rattle.rc_code.specs.Running.{reading_of}
use Rattle.rc_decode.specs.Decoding.{has_pins}
use Rattle.rc_calls.specs.Pinning.{pins_behind}
use Rattle.rc_calls.proofs.Pinned.{none_pinned}
use Rattle.rc_calls.proofs.pins.pin_behind.Goals as goal

pub returns-then-not-has_pins : goal.returns-then-not-has_pins
returns-then-not-has_pins g c =
    let pins = pins_behind (reading_of c.args.setting.now.image.now) c.args.caller in
    let none : has_pins pins ≡ false = sym c.requires.some ∙ search rules in
    none_pinned pins c.args.pile.now.locals (g.H.Heap.store c.args.heap.now) none
