use Rattle.std.proofs.Common.{ap, ◌∙◌, sym, length}
use Rattle.rc_rlang.specs.RegionFits.{operands}
use Rattle.rc_rlang.specs.Shapes.{access_of, operation_of}
use Rattle.rc_lines.proofs.Stacks.{place_width}
use Rattle.rc_lines.proofs.operands.taken.Goals as goal

pub returns-in-Load : goal.returns-in-Load
returns-in-Load c structs ty = c.width.ensures ∙ sym (place_width (access_of c.in-Load.access)) ∙ ap (λ o. length (operands ty (operation_of structs o))) (sym c.in-Load.is)
