use Rattle.rc_marks.proofs.Bare.{bare_image}
use Rattle.rc_marks.proofs.Kept.{marked_sound, marked_fields_fit}
use Rattle.rc_marks.proofs.marked_rules.marked_images_keep_the_rules.Goals as goal

pub returns-clause-code : goal.returns-clause-code
returns-clause-code c mask r numberable = marked_sound r mask numberable

pub returns-clause-fields : goal.returns-clause-fields
returns-clause-fields c mask r fit numberable small = marked_fields_fit r mask fit numberable small

pub returns-clause-unmarked : goal.returns-clause-unmarked
returns-clause-unmarked c mask r = bare_image r mask
