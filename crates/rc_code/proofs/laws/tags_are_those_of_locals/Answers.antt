use Rattle.rc_code.proofs.Rows.{storage_of_tag, storage_tag_is}
use Rattle.rc_code.proofs.laws.tags_are_those_of_locals.Goals as goal

pub returns-clause-local : goal.returns-clause-local
returns-clause-local c = storage_of_tag

pub returns-clause-tag : goal.returns-clause-tag
returns-clause-tag c = storage_tag_is
