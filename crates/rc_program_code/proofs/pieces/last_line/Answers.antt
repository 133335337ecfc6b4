use Rattle.std.proofs.Common.{sym, ◌∙◌}
use Rattle.rc_program_code.proofs.LastLine.{last_is, none_is}
use Rattle.rc_program_code.proofs.pieces.last_line.Goals as goal

pub returns-in-Some : goal.returns-in-Some
returns-in-Some c structs = c.line_of.ensures structs ∙ last_is structs c.args.all.now c.in-Some.step.now (sym c.in-Some.ensures.value)

pub returns-in-None : goal.returns-in-None
returns-in-None c structs = none_is structs c.args.all.now (sym c.in-None.ensures.value)
