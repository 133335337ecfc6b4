use Rattle.std.proofs.Common.{◌≡◌, ◌∙◌, ◌-◌, false, rules, sym}
use Rattle.std.specs.List.{list_any}
use Rattle.rc_code.specs.Running.{function_at, reading_of}
use Rattle.rc_decode.specs.Whole.{pins_locals}
use Rattle.rc_calls.specs.Pinning.{pins_behind}
use Rattle.rc_calls.proofs.Pinned.{none_in, none_unpinned}
use Rattle.rc_calls.proofs.pins.unpin_behind.Goals as goal

pub returns-then-not-body : goal.returns-then-not-body
returns-then-not-body g c =
    let code = reading_of c.args.setting.now.image.now in
    let f = function_at code c.args.caller.function in
    let none : list_any pins_locals f.code ≡ false = sym c.requires.body.pins ∙ search rules in
    none_unpinned (pins_behind code c.args.caller) c.args.pile.now.locals (g.H.Heap.store c.args.heap.now) (none_in f.code (c.args.caller.place - 1) none)
