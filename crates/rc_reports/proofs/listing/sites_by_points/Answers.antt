use Rattle.std.proofs.Common.{◌++◌, ap, ◌∙◌}
use Rattle.rc_rlang.specs.Shapes.{code_of}
use Rattle.rc_rlang.specs.declared.order.Order.TheVariants.{Points}
use Rattle.rc_reports.specs.Listed.{sites_of}
use Rattle.rc_rlang.specs.Sites.{code_sites}
use Rattle.rc_reports.proofs.listing.sites_by_points.Goals as goal

pub returns : goal.returns
returns c structs laid =
    let body = code_of structs c.args.routine.now.body in
    c.in_ok-list_code.ensures.sites structs laid ∙ ap (λ all. sites_of all ++ code_sites Points body 1) c.new-all.ensures.items
