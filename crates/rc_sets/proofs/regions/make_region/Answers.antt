use Rattle.std.proofs.Common.{◌∙◌, Some, subst, sym}
use Rattle.rc_replies.specs.Commands.{New}
use Rattle.rc_replies.specs.declared.reply.Reply.TheVariants.{Region}
use Rattle.rc_sets.specs.Obeying.{DidLine}
use Rattle.rc_sets.specs.Records.{RecordsState}
use Rattle.rc_sets.proofs.Lines.{new_made}
use Rattle.rc_sets.proofs.regions.make_region.Goals as goal

pub returns-in_ok-add_region-in-Ok : goal.returns-in_ok-add_region-in-Ok
returns-in_ok-add_region-in-Ok g c =
    let before = g.H.Heap.store c.args.heap.now in
    let after = g.H.Heap.store c.new_region.new.self in
    subst (λ (t : RecordsState). DidLine (Some (New c.args.parent)) before after t (Region c.in-Ok.region)) (sym c.in_ok-add_region-in-Ok.ensures)
    (new_made before c.args.records.now c.requires c.args.parent c.in-Ok.region after (sym c.is_live.ensures ∙ c.if-not-is_live.false) (λ is. (let e = c.in-Ok.ensures.full.1 is in cc)) c.in-Ok.ensures.number c.in-Ok.ensures.ok)
