use Rattle.std.proofs.Common.{◌≡◌, drop, map}
use Rattle.rc_syntax.specs.Shape.{local_of}
use Rattle.rc_deletes.specs.First.{clear}
use Rattle.rc_linking.specs.Calls.{calls_in_locals}
use Rattle.rc_link.specs.Missed.{missed}
use Rattle.rc_link.proofs.missing.locals.Given as goal

abbrev pub invariant-loop-l : goal.invariant-loop-l
invariant-loop-l l = clear (missed l.functions (calls_in_locals (map local_of l.ls))) ≡ clear (missed l.functions (calls_in_locals (map local_of (drop l.l-index l.ls))))
