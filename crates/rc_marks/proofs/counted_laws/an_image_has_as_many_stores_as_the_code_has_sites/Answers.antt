use Rattle.rc_marks.proofs.Counted.{stores_are_sites, images_have_as_many}
use Rattle.rc_marks.proofs.counted_laws.an_image_has_as_many_stores_as_the_code_has_sites.Goals as goal

pub returns-clause-sites : goal.returns-clause-sites
returns-clause-sites c = stores_are_sites

pub returns-clause-many : goal.returns-clause-many
returns-clause-many c = images_have_as_many
