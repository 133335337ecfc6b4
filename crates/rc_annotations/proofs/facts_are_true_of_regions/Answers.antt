use Rattle.rc_annotations.proofs.Truths.{derivable_holds, holds_grown, asked_fits}
use Rattle.rc_annotations.proofs.facts_are_true_of_regions.Goals as goal

pub returns-clause-derived : goal.returns-clause-derived
returns-clause-derived c n given values heap rooted hold fact d = derivable_holds n given values heap rooted hold d

pub returns-clause-later : goal.returns-clause-later
returns-clause-later c = holds_grown

pub returns-clause-asked : goal.returns-clause-asked
returns-clause-asked c = asked_fits
