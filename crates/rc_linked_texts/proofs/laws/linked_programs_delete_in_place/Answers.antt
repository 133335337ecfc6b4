use Rattle.rc_linking.specs.Joined.{joined}
use Rattle.rc_compile.proofs.InPlace.{deletes_in_place}
use Rattle.rc_linked_texts.proofs.laws.linked_programs_delete_in_place.Goals as goal

pub returns : goal.returns
returns c = λ texts program is. deletes_in_place (joined is.trees) program is.typed
