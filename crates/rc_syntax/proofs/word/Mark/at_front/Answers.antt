use Rattle.std.proofs.Common.{find, ap, ◌∙◌}
use Rattle.std.specs.Prelude.{nat_eq}
use Rattle.std.specs.List.{starts_with}
use Rattle.rc_syntax.specs.Spellings.{mark_spelling}
use Rattle.rc_syntax.proofs.FirstBytes.{mark_among}
use Rattle.rc_syntax.proofs.word.Mark.at_front.Goals as goal

pub returns-in-len1-up : goal.returns-in-len1-up
returns-in-len1-up c = c.among.ensures ∙ (ap (find (λ m. starts_with nat_eq c.args.text.now (mark_spelling m))) c.marks_from.ensures ∙ mark_among c.args.text.now c.in-len1-up.len_at_least)
