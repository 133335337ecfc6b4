use Rattle.std.proofs.Common.{◌∙◌, ◌+◌, ℕ, Some, ap, arith, set, subst, sym}
use Rattle.rc_replies.specs.Commands.{Cells}
use Rattle.rc_replies.specs.declared.reply.Reply.TheVariants.{Object}
use Rattle.rc_store.specs.Stores.{allocated}
use Rattle.rc_sets.specs.Obeying.{DidLine}
use Rattle.rc_sets.specs.Records.{RecordsState}
use Rattle.rc_sets.proofs.Lines.{cells_made}
use Rattle.rc_sets.proofs.objects.make_object.Goals as goal

pub returns-in-Ok : goal.returns-in-Ok
returns-in-Ok g c =
    let before = g.H.Heap.store c.args.heap.now in
    let after = g.H.Heap.store c.allocate.new.self in
    let records : RecordsState = c.args.records.now in
    let counted = c.set_objects.ensures ∙ ap (λ (k : ℕ). (let t : RecordsState = record records { objects = set records.objects c.args.region (k + 1) } in t)) c.from.ensures in
    let short = c.if-count-gt-MOST_ELEMENTS.false in
    subst (λ (t : RecordsState). DidLine (Some (Cells c.args.region c.args.count)) before after t (Object c.in-Ok.object)) (sym counted)
    (cells_made before records c.requires c.args.region c.args.count c.in-Ok.object after (sym c.is_live.ensures ∙ c.if-not-is_live.false) (omega (arith, short)) (λ is. (let e = c.in-Ok.ensures.full.1 is in cc)) c.in-Ok.ensures.number (c.in-Ok.ensures.ok ∙ ap (λ kinds. allocated c.args.region kinds c.args.count before) c.row.ensures))
