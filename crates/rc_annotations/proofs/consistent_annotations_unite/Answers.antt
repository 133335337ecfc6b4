use Rattle.rc_annotations.proofs.Greatest.{left_inside, right_inside, follows_inside, united_consistent, without_facts_consistent, greatest_removes}
use Rattle.rc_annotations.proofs.Unions.{one_proves_all}
use Rattle.rc_annotations.proofs.consistent_annotations_unite.Goals as goal

pub returns-clause-united : goal.returns-clause-united
returns-clause-united c = united_consistent

pub returns-clause-left : goal.returns-clause-left
returns-clause-left c = left_inside

pub returns-clause-right : goal.returns-clause-right
returns-clause-right c = right_inside

pub returns-clause-kept : goal.returns-clause-kept
returns-clause-kept c = follows_inside

pub returns-clause-least : goal.returns-clause-least
returns-clause-least c = without_facts_consistent

pub returns-clause-removable : goal.returns-clause-removable
returns-clause-removable c = greatest_removes

pub returns-clause-one : goal.returns-clause-one
returns-clause-one c r temporaries a b ga gb = (gb.greatest a ga.consistent, ga.greatest b gb.consistent)

pub returns-clause-together : goal.returns-clause-together
returns-clause-together c = one_proves_all
