use Rattle.std.proofs.Common.{suc, ◌||◌, IsTrue, ◌↔◌, ◌∙◌, subst, arith}
use Rattle.rc_facts.specs.Facts.{holds}
use Rattle.rc_facts.specs.Derivable.{Derivable}
use Rattle.rc_edges.specs.Boundaries.{given_facts}
use Rattle.rc_boundaries.proofs.Handing.{given_back, exit_long, exit_below}
use Rattle.rc_boundaries.proofs.returns.give.Goals as goal

pub read-requires-clause-names : goal.read-requires-clause-names
read-requires-clause-names c = exit_below c.as_slice.result.now c.args.exit.copies c.args.exit.result c.settle.new.known.variables (c.as_slice.ensures.value ∙ c.in_ok-own.ensures) c.settle.ensures.variables c.requires.hidden

pub read-requires-clause-room : goal.read-requires-clause-room
read-requires-clause-room c = let long = exit_long c.as_slice.result.now c.args.exit.copies c.args.exit.result (c.as_slice.ensures.value ∙ c.in_ok-own.ensures) in omega (arith, long)

pub returns : goal.returns
returns c =
    given_back c.args.exit.copies c.args.exit.result c.as_slice.result.now c.lose.result c.args.exits.now c.lose.new.sets c.args.exit.function c.args.given c.args.known.now c.settle.new.known c.in_ok-found.found (c.as_slice.ensures.value ∙ c.in_ok-own.ensures) c.lose.ensures c.in_ok-found.ensures.facts
    (λ fact. subst (λ k. IsTrue (holds c.settle.new.known fact) ↔ Derivable (suc c.args.exit.result) (λ q. holds k q || given_facts c.args.exit.result c.args.given q) fact) c.copy.ensures (c.settle.ensures.facts fact))
