use Rattle.std.proofs.Common.{◌≡◌, ◌<◌, subst}
use Rattle.std.specs.Prelude.{MatchBool}
use Rattle.rc_prove.specs.Family.{family_of, facts_of}
use Rattle.rc_prove.proofs.Families.{all_fit, lessened_then, found_last}
use Rattle.rc_prove.proofs.rounds.search.Goals as goal

pub rounds-init : goal.rounds-init
rounds-init c = c.in_ok-settle.ensures

pub round-requires : goal.round-requires
round-requires c = all_fit (family_of c.args.entries.now c.args.exits.now c.args.frames.now) (family_of c.rounds.entries c.rounds.exits c.rounds.frames) c.rounds.invariant.fewer c.args.routes.now c.requires

pub rounds-preserved : goal.rounds-preserved
rounds-preserved c = lessened_then c.args.routes.now (family_of c.args.entries.now c.args.exits.now c.args.frames.now) (family_of c.rounds.entries c.rounds.exits c.rounds.frames) (family_of c.round.new.entries c.round.new.exits c.round.new.frames) c.rounds.invariant c.in_ok-round.ensures.lessened

pub rounds-smaller : goal.rounds-smaller
rounds-smaller c = (subst (λ b. MatchBool b (facts_of (family_of c.round.new.entries c.round.new.exits c.round.new.frames) < facts_of (family_of c.rounds.entries c.rounds.exits c.rounds.frames)) (family_of c.round.new.entries c.round.new.exits c.round.new.frames ≡ family_of c.rounds.entries c.rounds.exits c.rounds.frames)) c.if-not-branch.false c.in_ok-round.ensures.shrinks)

pub returns-then-not-branch : goal.returns-then-not-branch
returns-then-not-branch c = found_last c.args.routes.now (family_of c.args.entries.now c.args.exits.now c.args.frames.now) (family_of c.rounds.entries c.rounds.exits c.rounds.frames) (family_of c.round.new.entries c.round.new.exits c.round.new.frames) c.in_ok-round.field-0 c.if-not-branch.true c.rounds.invariant c.in_ok-round.ensures
