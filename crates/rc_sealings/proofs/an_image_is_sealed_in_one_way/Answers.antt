use Rattle.rc_sealings.proofs.One.{not_refused, one_pin_fault, one_seal}
use Rattle.rc_sealings.proofs.an_image_is_sealed_in_one_way.Goals as goal

pub returns-clause-one : goal.returns-clause-one
returns-clause-one c = one_seal

pub returns-clause-refused : goal.returns-clause-refused
returns-clause-refused c = one_pin_fault

pub returns-clause-none : goal.returns-clause-none
returns-clause-none c = not_refused
