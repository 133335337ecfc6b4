use Rattle.rc_facts.specs.Facts.{holds}
use Rattle.rc_facts.proofs.Behind.{behind_nothing}
use Rattle.std.proofs.Common.{arith}
use Rattle.rc_crossing.proofs.crossing.note.Goals as goal

pub returns-in-Plain-clause-facts : goal.returns-in-Plain-clause-facts
returns-in-Plain-clause-facts c = rw c.in-Plain.is (behind_nothing c.args.set.now.variables c.args.scratch (holds c.args.set.now) c.requires.closed)

pub returns-in-Traditional-clause-facts : goal.returns-in-Traditional-clause-facts
returns-in-Traditional-clause-facts c =
    rw c.in-Traditional.is (c.add_traditional.ensures.facts c.args.scratch (λ e. let r = e in let l = c.requires.value in omega (arith, r, l)) c.requires.closed.shut c.requires.closed.clean)
