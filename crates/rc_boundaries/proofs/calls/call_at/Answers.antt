use Rattle.std.proofs.Common.{refl, sym, subst}
use Rattle.rc_graph.specs.declared.node.Node.TheVariants.{Fork}
use Rattle.rc_graph.specs.Nodes.{effect_of, node_of}
use Rattle.rc_edges.specs.Reading.{Loses}
use Rattle.rc_edges.specs.Boundaries.{CallGives, NodeGives, NodeReady}
use Rattle.rc_boundaries.proofs.Handing.{node_ready_same, fork_gives, or_true, or_false, go_returned}
use Rattle.rc_boundaries.proofs.calls.call_at.Goals as goal

pub give-requires : goal.give-requires
give-requires c = (subst (λ n. NodeReady (node_of n) c.args.known.now.variables c.args.entries.now) c.in-Go.is c.requires) 0 (record { effect = effect_of c.in-Go.effect; to = c.in-Go.to }) refl

pub give-requires-in-Fork : goal.give-requires-in-Fork
give-requires-in-Fork c = (subst (λ n. NodeReady (node_of n) c.args.known.now.variables c.args.entries.now) c.in-Fork.is c.requires) 0 (record { effect = effect_of c.in-Fork.left; to = c.in-Fork.to_left }) refl

pub give-requires-in-Fork-2 : goal.give-requires-in-Fork-2
give-requires-in-Fork-2 c =
    (node_ready_same (node_of (Fork c.in-Fork.left c.in-Fork.to_left c.in-Fork.right c.in-Fork.to_right)) c.args.known.now.variables c.args.entries.now c.give-in-Fork.new.entries c.in_ok-first-in-Fork.first (CallGives (effect_of c.in-Fork.left) c.args.known.now) c.in_ok-first-in-Fork.ensures
    (subst (λ n. NodeReady (node_of n) c.args.known.now.variables c.args.entries.now) c.in-Fork.is c.requires)) 1 (record { effect = effect_of c.in-Fork.right; to = c.in-Fork.to_right }) refl

pub returns-in-Go : goal.returns-in-Go
returns-in-Go c = go_returned c.give.result c.args.entries.now c.give.new.entries c.args.node.now c.in-Go.effect c.in-Go.to c.args.known.now c.in-Go.is c.give.ensures

pub returns-then-first : goal.returns-then-first
returns-then-first c =
    let first = c.in_ok-first-in-Fork.first in
    let second = c.in_ok-second-in-Fork.second in
    let new = c.give-in-Fork-2.new.entries in
    subst (λ n. Loses first c.args.entries.now new (NodeGives (node_of n) c.args.known.now)) (sym c.in-Fork.is)
    (subst (λ b. Loses b c.args.entries.now new (NodeGives (node_of (Fork c.in-Fork.left c.in-Fork.to_left c.in-Fork.right c.in-Fork.to_right)) c.args.known.now)) (or_true first second c.if-first.true)
    (fork_gives first second c.args.entries.now c.give-in-Fork.new.entries new (effect_of c.in-Fork.left) (effect_of c.in-Fork.right) c.in-Fork.to_left c.in-Fork.to_right c.args.known.now c.in_ok-first-in-Fork.ensures c.in_ok-second-in-Fork.ensures))

pub returns-else-first : goal.returns-else-first
returns-else-first c =
    let first = c.in_ok-first-in-Fork.first in
    let second = c.in_ok-second-in-Fork.second in
    let new = c.give-in-Fork-2.new.entries in
    subst (λ n. Loses second c.args.entries.now new (NodeGives (node_of n) c.args.known.now)) (sym c.in-Fork.is)
    (subst (λ b. Loses b c.args.entries.now new (NodeGives (node_of (Fork c.in-Fork.left c.in-Fork.to_left c.in-Fork.right c.in-Fork.to_right)) c.args.known.now)) (or_false first second c.if-first.false)
    (fork_gives first second c.args.entries.now c.give-in-Fork.new.entries new (effect_of c.in-Fork.left) (effect_of c.in-Fork.right) c.in-Fork.to_left c.in-Fork.to_right c.args.known.now c.in_ok-first-in-Fork.ensures c.in_ok-second-in-Fork.ensures))
