use Rattle.std.proofs.Common.{take}
use Rattle.rc_outcomes.specs.Loading.{LoadedAll}
use Rattle.rc_requests.specs.Asking.{bytes_of}
use Rattle.rc_files.specs.Texts.{IsTextOf}
use Rattle.rc_files.proofs.text_files.load_texts.Given as goal

abbrev pub invariant-loop-name : goal.invariant-loop-name
invariant-loop-name g l = LoadedAll IsTextOf (take l.name-index (bytes_of l.names)) (g.F.Shelf.state l.initial.files) (g.F.Shelf.state l.files) l.texts.items
