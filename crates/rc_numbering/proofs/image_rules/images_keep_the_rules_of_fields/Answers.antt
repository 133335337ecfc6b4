use Rattle.rc_numbering.proofs.Fields.{fields_fit}
use Rattle.rc_numbering.proofs.image_rules.images_keep_the_rules_of_fields.Goals as goal

pub returns : goal.returns
returns c r fits numberable small = fields_fit r fits numberable small
