use Rattle.std.proofs.Common.{◌∙◌, ◌+◌, ◌++◌, ◌∷◌, [], Some, ap, arith, subst, sym}
use Rattle.rc_replies.specs.Commands.{Pin}
use Rattle.rc_core.specs.Heap.{Handle}
use Rattle.rc_replies.specs.declared.reply.Reply.TheVariants.{Done}
use Rattle.rc_store.specs.Kept.{KeptStore}
use Rattle.rc_sets.specs.Obeying.{DidLine}
use Rattle.rc_sets.specs.Records.{RecordsState}
use Rattle.rc_sets.proofs.Lines.{pinned}
use Rattle.rc_sets.proofs.pins.pin.Goals as goal

pub returns : goal.returns
returns g c =
    let before = g.H.Heap.store c.args.heap.now in
    let after = g.H.Heap.store c.pin.new.self in
    let counted = c.pins-count.ensures in
    subst (λ (t : RecordsState). DidLine (Some (Pin c.args.region)) before after t Done) (sym c.set_pins.ensures)
    (pinned before c.args.records.now c.requires c.args.region (c.pins-count.result + 1) after.spare after (sym c.is_live.ensures ∙ c.if-not-is_live.false) (omega (arith, counted))
    (c.pin.ensures.pins ∙ ap (λ (s : KeptStore). (let t : KeptStore = record s { pins = s.pins ++ Handle c.args.region ∷ []; spare = after.spare } in t)) c.in_ok-reserve_pins.ensures.same))
