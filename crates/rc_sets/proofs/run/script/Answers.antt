use Rattle.std.proofs.Common.{subst, inr, List, ℕ, sym}
use Rattle.rc_store.specs.Kept.{KeptStore}
use Rattle.rc_replies.specs.Commands.{lines_of}
use Rattle.rc_replies.specs.Replies.{first_store, heap_store, heap_text, replies, reply_text}
use Rattle.rc_replies.proofs.Same.{replies_same, stores_same}
use Rattle.rc_sets.specs.Scripts.{limits_of}
use Rattle.rc_sets.proofs.Runs.{Obeyed, cut, new_kept, new_same, next_store, next_text, none_obeyed, one_obeyed, some_obeyed, started, stopped, went_on}
use Rattle.rc_sets.proofs.run.script.Goals as goal

pub loop-rest-init : goal.loop-rest-init
loop-rest-init g c =
    let store = g.H.Heap.store c.args.heap.now in
    let first : KeptStore = first_store (limits_of store) in
    let lines = lines_of c.args.text.now in
    record {
      put = started (heap_text c.args.text.now (limits_of store)) (replies lines store) (g.O.Sink.state c.args.out.now) (sym (replies_same lines first store (new_same store c.requires)));
      store = stores_same lines first store (new_same store c.requires);
      obeyed = none_obeyed lines first store (new_same store c.requires);
      kept = new_kept store c.in-Ok.records c.requires c.in-Ok.ensures;
    }

pub returns-in_default-obey_line-clause-text : goal.returns-in_default-obey_line-clause-text
returns-in_default-obey_line-clause-text g c =
    let limits = limits_of (g.H.Heap.store c.args.heap.now) in
    cut (heap_text c.args.text.now limits) (replies (lines_of c.loop-rest.rest.now) (g.H.Heap.store c.loop-rest.heap)) (g.O.Sink.state c.args.out.now) (g.O.Sink.state c.loop-rest.out) c.loop-rest.invariant.put

pub returns-in_default-write_reply-clause-text : goal.returns-in_default-write_reply-clause-text
returns-in_default-write_reply-clause-text g c =
    let limits = limits_of (g.H.Heap.store c.args.heap.now) in
    let before = g.H.Heap.store c.loop-rest.heap in
    let after = g.H.Heap.store c.obey_line.new.heap in
    let line = c.next_line-line.result in
    let reply = c.in-Ok-obey_line.reply in
    stopped (heap_text c.args.text.now limits) (reply_text reply) (replies (lines_of line.rest.now) after) (replies (lines_of c.loop-rest.rest.now) before) (g.O.Sink.state c.args.out.now) (g.O.Sink.state c.loop-rest.out) (g.O.Sink.state c.write_reply.new.out) c.in_default-write_reply.field-0 c.loop-rest.invariant.put
    (next_text c.loop-rest.rest.now line.bytes.now line.rest.now before after c.obey_line.new.records reply c.next_line-line.ensures.first c.in-Ok-obey_line.ensures)
    c.in_default-write_reply.ensures

pub loop-rest-preserved : goal.loop-rest-preserved
loop-rest-preserved g c =
    let limits = limits_of (g.H.Heap.store c.args.heap.now) in
    let before = g.H.Heap.store c.loop-rest.heap in
    let after = g.H.Heap.store c.obey_line.new.heap in
    let line = c.next_line-line.result in
    let reply = c.in-Ok-obey_line.reply in
    record {
      put = went_on (heap_text c.args.text.now limits) (reply_text reply) (replies (lines_of line.rest.now) after) (replies (lines_of c.loop-rest.rest.now) before) (g.O.Sink.state c.args.out.now) (g.O.Sink.state c.loop-rest.out) (g.O.Sink.state c.write_reply.new.out) c.in-Ok-write_reply.field-0 c.loop-rest.invariant.put
          (next_text c.loop-rest.rest.now line.bytes.now line.rest.now before after c.obey_line.new.records reply c.next_line-line.ensures.first c.in-Ok-obey_line.ensures)
          c.in-Ok-write_reply.ensures;
      store = next_store c.loop-rest.rest.now line.bytes.now line.rest.now before after (heap_store c.args.text.now limits) c.obey_line.new.records reply c.next_line-line.ensures.first c.in-Ok-obey_line.ensures c.loop-rest.invariant.store;
      obeyed = one_obeyed (lines_of c.args.text.now) (lines_of line.rest.now) line.bytes.now (first_store limits) before after (subst (λ (ls : List (List ℕ)). Obeyed (lines_of c.args.text.now) ls (first_store limits) before) c.next_line-line.ensures.first c.loop-rest.invariant.obeyed) c.in-Ok-obey_line.ensures.left;
      kept = c.in-Ok-obey_line.ensures.kept;
    }

pub returns-in_default-clause-left : goal.returns-in_default-clause-left
returns-in_default-clause-left g c = (0, new_same (g.H.Heap.store c.args.heap.now) c.requires)

pub returns-in_default-obey_line-clause-left : goal.returns-in_default-obey_line-clause-left
returns-in_default-obey_line-clause-left g c =
    let limits = limits_of (g.H.Heap.store c.args.heap.now) in
    let line = c.next_line-line.result in
    some_obeyed (lines_of c.args.text.now) (lines_of c.loop-rest.rest.now) (lines_of line.rest.now) line.bytes.now (first_store limits) (g.H.Heap.store c.loop-rest.heap) (g.H.Heap.store c.obey_line.new.heap) c.loop-rest.invariant.obeyed c.next_line-line.ensures.first c.in_default-obey_line.ensures

pub returns-in_default-write_reply-clause-left : goal.returns-in_default-write_reply-clause-left
returns-in_default-write_reply-clause-left g c =
    let limits = limits_of (g.H.Heap.store c.args.heap.now) in
    let line = c.next_line-line.result in
    some_obeyed (lines_of c.args.text.now) (lines_of c.loop-rest.rest.now) (lines_of line.rest.now) line.bytes.now (first_store limits) (g.H.Heap.store c.loop-rest.heap) (g.H.Heap.store c.obey_line.new.heap) c.loop-rest.invariant.obeyed c.next_line-line.ensures.first (inr c.in-Ok-obey_line.ensures.left)
