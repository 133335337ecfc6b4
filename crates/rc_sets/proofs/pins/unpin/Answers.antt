use Rattle.std.proofs.Common.{◌∙◌, ◌+◌, ◌-◌, Some, arith, subst, sym}
use Rattle.rc_replies.specs.Commands.{Unpin}
use Rattle.rc_replies.specs.declared.reply.Reply.TheVariants.{Done}
use Rattle.rc_sets.specs.Obeying.{DidLine}
use Rattle.rc_sets.specs.Records.{RecordsState}
use Rattle.rc_sets.proofs.Lines.{pin_there, unpinned}
use Rattle.rc_sets.proofs.pins.unpin.Goals as goal

pub unpin-requires : goal.unpin-requires
unpin-requires g c =
    let counted = c.pins-count.ensures in
    let known = c.requires.records.pins c.args.region in
    let some = c.if-count-eq0.false in
    pin_there c.args.region (g.H.Heap.store c.args.heap.now).pins (omega (arith, counted, known, some))

pub returns : goal.returns
returns g c =
    let before = g.H.Heap.store c.args.heap.now in
    let after = g.H.Heap.store c.unpin.new.self in
    let counted = c.pins-count.ensures in
    let some = c.if-count-eq0.false in
    subst (λ (t : RecordsState). DidLine (Some (Unpin c.args.region)) before after t Done) (sym c.set_pins.ensures)
    (unpinned before c.args.records.now c.requires c.args.region (c.pins-count.result - 1) (before.spare + 1) after.pins after (sym c.is_live.ensures ∙ c.if-not-is_live.false) (omega (arith, counted, some)) c.unpin.ensures.pins c.unpin.ensures.same)
