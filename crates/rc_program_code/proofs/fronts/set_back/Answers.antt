use Rattle.std.proofs.Common.{◌≡◌, ◌∷◌, ◌++◌, length, ap, ◌∙◌, arith}
use Rattle.rc_emission.specs.OperationCode.{line_of}
use Rattle.rc_emission.specs.StackCode.{back}
use Rattle.rc_program_code.specs.Onward.{onward}
use Rattle.rc_program_code.proofs.InFront.{set_onward, onward_long}
use Rattle.rc_program_code.proofs.fronts.set_back.Goals as goal

pub returns : goal.returns
returns c before after left e n =
    let items = c.args.out.now.items in
    let l = onward_long items in
    let v = c.args.out.now.ok.0 in
    let all : c.in_ok-all.all ≡ length (onward items) = grind (arith, l, v) in
    set_onward items c.args.place _ before after left e n ∙ ap (λ m. before ++ line_of c.args.line (back m) ∷ after) all
