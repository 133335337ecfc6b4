use Rattle.rc_boundaries.proofs.calls.give_call.Goals as goal

pub read-requires-clause-names : goal.read-requires-clause-names
read-requires-clause-names c = c.requires.own

pub lose-requires-clause-at : goal.lose-requires-clause-at
lose-requires-clause-at c = c.requires.there
