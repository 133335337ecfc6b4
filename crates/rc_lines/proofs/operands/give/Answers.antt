use Rattle.std.proofs.Common.{ap, ◌∙◌, ◌-◌, ◌∷◌}
use Rattle.rc_core.specs.Shapes.{ty_of}
use Rattle.rc_lines.specs.Operands.{types_on}
use Rattle.rc_lines.proofs.Stacks.{types_left, types_behind}
use Rattle.rc_lines.proofs.operands.give.Goals as goal

pub returns : goal.returns
returns c =
    ap types_on c.in_ok-push.ensures.items
    ∙ types_behind c.truncate.new.self.items (record { ty = record { ref_ptr = c.args.ty.ref_ptr; now = c.args.ty.now } })
    ∙ ap (λ tys. ty_of c.args.ty.now ∷ tys) (ap types_on c.truncate.ensures.items ∙ types_left c.args.count c.saturating_sub-left.result c.args.operands.now.items (c.saturating_sub-left.ensures ∙ ap (λ n. n - c.args.count) (c.len.ensures ∙ c.args.operands.now.ok.0)))
