use Rattle.rc_image.proofs.Prefixes.{same_version, same_parts, nothing_follows}
use Rattle.rc_image.proofs.laws.no_image_begins_another.Goals as goal

pub returns-clause-version : goal.returns-clause-version
returns-clause-version c = same_version

pub returns-clause-parts : goal.returns-clause-parts
returns-clause-parts c = same_parts

pub returns-clause-whole : goal.returns-clause-whole
returns-clause-whole c = nothing_follows
