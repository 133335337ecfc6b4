use Rattle.std.proofs.Common.{◌≡◌, true, length, map}
use Rattle.rc_syntax.specs.Shape.{item_of}
use Rattle.rc_deletes.specs.Judged.{Holds}
use Rattle.rc_deletes.specs.Items.{items, behind_items, at_the_start, before_globals}
use Rattle.rc_defined.specs.Contexts.{context_of}
use Rattle.rc_items.specs.Outside.{outside_of, all_made}
use Rattle.rc_items.proofs.Walked.{after_made}
use Rattle.rc_items.proofs.walk.items.Given as goal

abbrev pub invariant-loop-rest : goal.invariant-loop-rest
invariant-loop-rest l = record {
  same : items (context_of l.context) at_the_start (map item_of l.is) ≡ after_made (all_made l.globals.items l.functions.items) (items (context_of l.context) (outside_of l.outside) (map item_of l.rest));
  moved : behind_items (context_of l.context) at_the_start (map item_of l.is) ≡ behind_items (context_of l.context) (outside_of l.outside) (map item_of l.rest);
  known : l.is_known ≡ true → before_globals (context_of l.context) l.outside.structs (map item_of l.rest) ≡ Holds tt;
}

abbrev pub decreases-loop-rest : goal.decreases-loop-rest
decreases-loop-rest l = length l.rest
