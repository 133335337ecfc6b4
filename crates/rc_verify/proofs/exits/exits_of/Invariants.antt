use Rattle.rc_verify.specs.Passes.{AreFirstExits}
use Rattle.rc_verify.proofs.exits.exits_of.Given as goal

abbrev pub invariant-loop-at : goal.invariant-loop-at
invariant-loop-at l = AreFirstExits l.parts l.proofs l.at l.exits.items
