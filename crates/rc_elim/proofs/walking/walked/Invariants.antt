use Rattle.std.proofs.Common.{◌≡◌, ◌++◌, List, drop, get_or, suc}
use Rattle.std.specs.Prelude.{true, false}
use Rattle.rc_facts.specs.Facts.{Known, holds}
use Rattle.rc_facts.specs.Flow.{set_at}
use Rattle.rc_graph.specs.Nodes.{nodes_of}
use Rattle.rc_elim.specs.Asking.{bits_of}
use Rattle.rc_elim.specs.Walking.{AreAll}
use Rattle.rc_elim.proofs.walking.walked.Given as goal

abbrev pub invariant-loop-at : goal.invariant-loop-at
invariant-loop-at l = record {
  wide : l.work.variables ≡ suc l.way.graph.now.result;
  bits : (all : List Known) → AreAll l.way.graph.now l.way.exits.now l.sets all → l.bits.items ++ bits_of (drop l.at (nodes_of l.way.graph.now.nodes.items)) (drop l.at all) ≡ bits_of (nodes_of l.way.graph.now.nodes.items) all;
  here : (all : List Known) → AreAll l.way.graph.now l.way.exits.now l.sets all → get_or l.way.graph.now.heads.items l.at true ≡ false → holds l.work ≡ set_at all l.at;
}
