use Rattle.std.proofs.Common.{◌≡◌, drop, find}
use Rattle.std.specs.Prelude.{nat_eq}
use Rattle.std.specs.List.{starts_with}
use Rattle.rc_syntax.specs.Spellings.{mark_spelling}
use Rattle.rc_syntax.proofs.word.Mark.among.Given as goal

abbrev pub invariant-loop-mark : goal.invariant-loop-mark
invariant-loop-mark l = find (λ m. starts_with nat_eq l.text (mark_spelling m)) l.marks ≡ find (λ m. starts_with nat_eq l.text (mark_spelling m)) (drop l.mark-index l.marks)
