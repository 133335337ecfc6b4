use Rattle.rc_worlds.proofs.Reached.{kinds_in_order, ranges_in_order, fits_in_order}
use Rattle.rc_worlds.proofs.operands_are_there_and_of_their_kinds.Goals as goal

pub returns-clause-kinds : goal.returns-clause-kinds
returns-clause-kinds c = kinds_in_order

pub returns-clause-ranges : goal.returns-clause-ranges
returns-clause-ranges c = ranges_in_order

pub returns-clause-fitting : goal.returns-clause-fitting
returns-clause-fitting c = fits_in_order
