use Rattle.std.proofs.Common.{ap, ◌∙◌, sym, subst}
use Rattle.rc_core.specs.Laid.{AreLaidOut}
use Rattle.rc_core.specs.Shapes.{program_of}
use Rattle.rc_rlang.specs.RegionCode.{Rlang}
use Rattle.rc_rlang.specs.Shapes.{rlang_of}
use Rattle.rc_elab.proofs.Elaborated.{fits, means}
use Rattle.rc_elab.proofs.elaboration.elaborate.Goals as goal

pub new-requires-clause-fits : goal.new-requires-clause-fits
new-requires-clause-fits c = fits (program_of c.args.program.now) (rlang_of c.in-Ok.parts) c.parts-parts.ensures.well_typed c.in_ok-count_laid.ensures c.in-Ok.ensures

pub new-requires-clause-laid : goal.new-requires-clause-laid
new-requires-clause-laid c = subst (λ (r : Rlang). AreLaidOut r.structs c.in_ok-layouts.layouts) (sym c.in-Ok.ensures) c.in_ok-layouts.ensures

pub returns-clause-means : goal.returns-clause-means
returns-clause-means c = means (program_of c.args.program.now) (rlang_of c.new.result) c.parts-parts.ensures.well_typed (ap rlang_of c.new.ensures ∙ c.in-Ok.ensures)
