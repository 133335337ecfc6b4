use Rattle.rc_worlds.proofs.Meanings.{unmarked_same, marked_same, trusted_same}
use Rattle.rc_worlds.proofs.stores_mean_what_the_source_means.Goals as goal

pub returns-clause-unmarked : goal.returns-clause-unmarked
returns-clause-unmarked c = unmarked_same

pub returns-clause-marked : goal.returns-clause-marked
returns-clause-marked c = marked_same

pub returns-clause-trusted : goal.returns-clause-trusted
returns-clause-trusted c = trusted_same
