use Rattle.std.proofs.Common.{arith, ap, ◌∙◌, ◌∷◌, ◌++◌}
use Rattle.rc_emission.specs.OperationCode.{line_of}
use Rattle.rc_lines.specs.Bare.{jump_past}
use Rattle.rc_lines.proofs.Places.{set_between, length_behind}
use Rattle.rc_lines.proofs.lines.set_jump.Goals as goal

pub returns : goal.returns
returns c before after left e h =
    set_between c.args.out.now.items c.args.place _ before after left e h
    ∙ ap (λ i. before ++ line_of c.args.line i ∷ after) (c.jump.ensures ∙ ap (jump_past c.args.when) (let n = length_behind c.args.out.now.items c.args.place before after left e h in let v = c.args.out.now.ok.0 in grind (arith, n, v)))
