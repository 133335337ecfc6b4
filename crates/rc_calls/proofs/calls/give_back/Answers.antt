use Rattle.std.proofs.Common.{◌≡◌, ◌∙◌, ◌<◌, ap, arith, subst, sym, length, None, []}
use Rattle.std.proofs.lemmas.Bool.Decides.{nat_tests}
use Rattle.rc_code.specs.Running.{reading_of, function_at, pinned, result_of}
use Rattle.rc_pile.specs.declared.caller.Caller.{Caller}
use Rattle.rc_pile.specs.Stacks.{Stack, first_caller}
use Rattle.rc_steps.specs.Leads.{Leads}
use Rattle.rc_steps.specs.Ready.{returned, IsUnpinned, held_by_first}
use Rattle.rc_ops.specs.Going.{at_of}
use Rattle.rc_calls.specs.Calling.{if_given, result_if}
use Rattle.rc_calls.specs.Pinning.{pins_behind}
use Rattle.rc_calls.proofs.Calling.{leads_pile, held_left, returned_is, room_is}
use Rattle.rc_calls.proofs.Pinned.{unheld}
use Rattle.rc_calls.proofs.calls.give_back.Goals as goal

pub body_of-body-requires-clause-known : goal.body_of-body-requires-clause-known
body_of-body-requires-clause-known g c =
    let s = c.args.pile.now in
    let code = reading_of c.args.setting.now.image.now in
    let heap = g.H.Heap.store c.args.heap.now in
    let r = c.requires.ready in
    let last = c.if-is_last.false in
    let is_last = c.is_last.ensures in
    let waits : 0 < length s.waits = grind (arith, nat_tests) in
    let goes = r.3.2 waits _ (unheld (held_by_first code s.waits) heap (r.1 waits)) in
    subst (λ (w : Caller). w.function < length c.args.setting.now.image.now.functions) (sym c.leave-caller.ensures.caller) goes.1.stands.stands.suits.there

pub give_result-requires : goal.give_result-requires
give_result-requires g c = λ has.
    let s = c.args.pile.now in
    let code = reading_of c.args.setting.now.image.now in
    let heap = g.H.Heap.store c.args.heap.now in
    let heap' = g.H.Heap.store c.unpin_behind.new.heap in
    let r = c.requires.ready in
    let last = c.if-is_last.false in
    let is_last = c.is_last.ensures in
    let waits : 0 < length s.waits = grind (arith, nat_tests) in
    let held : pinned (pins_behind code c.leave-caller.result) c.leave-caller.new.self.locals ≡ held_by_first code s.waits =
    ap (λ w. pinned (pins_behind code w) c.leave-caller.new.self.locals) c.leave-caller.ensures.caller
    ∙ ap (λ (t : Stack). pinned (pins_behind code (first_caller s.waits)) t.locals) c.leave-caller.ensures.stack
    ∙ held_left code s waits in
    let unpinned : IsUnpinned (held_by_first code s.waits) heap heap' = subst (λ vs. IsUnpinned vs heap heap') held c.unpin_behind.ensures in
    let goes = r.3.2 waits heap' unpinned in
    subst (λ (t : Stack). 0 < t.room) (sym c.leave-caller.ensures.stack) (room_is c.args.setting.now.image.now (at_of c.args.running.now c.args.at.now) s heap (function_at code c.args.running.now.function).result (r.0 ∙ has) goes.0)

pub returns-clause-went : goal.returns-clause-went
returns-clause-went g c =
    let s = c.args.pile.now in
    let code = reading_of c.args.setting.now.image.now in
    let heap = g.H.Heap.store c.args.heap.now in
    let heap' = g.H.Heap.store c.unpin_behind.new.heap in
    let r = c.requires.ready in
    let last = c.if-is_last.false in
    let is_last = c.is_last.ensures in
    let waits : 0 < length s.waits = grind (arith, nat_tests) in
    let held : pinned (pins_behind code c.leave-caller.result) c.leave-caller.new.self.locals ≡ held_by_first code s.waits =
    ap (λ w. pinned (pins_behind code w) c.leave-caller.new.self.locals) c.leave-caller.ensures.caller
    ∙ ap (λ (t : Stack). pinned (pins_behind code (first_caller s.waits)) t.locals) c.leave-caller.ensures.stack
    ∙ held_left code s waits in
    let unpinned : IsUnpinned (held_by_first code s.waits) heap heap' = subst (λ vs. IsUnpinned vs heap heap') held c.unpin_behind.ensures in
    let goes = r.3.2 waits heap' unpinned in
    let there : Leads c.args.setting.now.image.now (at_of c.args.running.now c.args.at.now) s heap None [] (record (at_of c.args.running.now c.args.at.now) { function = c.leave-caller.result.function; place = c.leave-caller.result.place }) (returned (function_at code c.args.running.now.function).result (result_of (function_at code c.args.running.now.function).result s.operands) s) heap' =
    subst (λ (w : Caller). Leads c.args.setting.now.image.now (at_of c.args.running.now c.args.at.now) s heap None [] (record (at_of c.args.running.now c.args.at.now) { function = w.function; place = w.place }) (returned (function_at code c.args.running.now.function).result (result_of (function_at code c.args.running.now.function).result s.operands) s) heap') (sym c.leave-caller.ensures.caller) goes.1 in
    leads_pile _ _ _ _ _ _ _ _ there
    (c.give_result.ensures
    ∙ ap (λ v. if_given c.args.has_result v c.leave-caller.new.self) c.result_word-word.ensures
    ∙ ap (λ t. if_given c.args.has_result (result_if c.args.has_result s.operands) t) c.leave-caller.ensures.stack
    ∙ sym (returned_is (function_at code c.args.running.now.function).result c.args.has_result s r.0))
