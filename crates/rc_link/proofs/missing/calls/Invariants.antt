use Rattle.std.proofs.Common.{◌≡◌, drop, map}
use Rattle.rc_syntax.specs.Shape.{item_of}
use Rattle.rc_deletes.specs.First.{clear}
use Rattle.rc_linking.specs.Calls.{calls_in_items}
use Rattle.rc_link.specs.Missed.{missed}
use Rattle.rc_link.proofs.missing.calls.Given as goal

abbrev pub invariant-loop-i : goal.invariant-loop-i
invariant-loop-i l = clear (missed l.functions (calls_in_items (map item_of l.file))) ≡ clear (missed l.functions (calls_in_items (map item_of (drop l.i-index l.file))))
