use Rattle.std.proofs.Common.{◌≡◌, suc, [], ◌∷◌, ◌++◌, length, refl, ap, ◌∙◌, arith}
use Rattle.std.proofs.lemmas.List.{append_assoc, length-append}
use Rattle.rc_core.specs.Types.{int}
use Rattle.rc_emission.specs.StackCode.{get, set, jump}
use Rattle.rc_emission.specs.OperationCode.{at, line_of, reloads}
use Rattle.rc_lines.specs.Bare.{bare_code, lines_of}
use Rattle.rc_lines.specs.Operands.{types_on}
use Rattle.rc_lines.specs.Over.{slot_in}
use Rattle.rc_lines.proofs.Copies.{in_ok}
use Rattle.rc_lines.proofs.TwoWays.{behind}
use Rattle.rc_lines.proofs.Walking.{at_bare}
use Rattle.rc_lines.proofs.forks.join.Goals as goal

pub returns : goal.returns
returns c before after left e h =
    let line = c.args.line in
    let w = line_of line (set c.args.joined.given int) in
    let g = line_of line (get c.args.joined.given) in
    let j = line_of line (jump (suc (length after))) in
    let back = reloads (slot_in c.args.body.now) c.args.base (types_on c.args.below.now) in
    let R = bare_code 0 (at line back) in
    let l2 = lines_of c.set_jump.new.out.items in
    let l3 = lines_of c.bring_back.new.out.items in
    let l4 = lines_of c.push-2.new.out.items in
    let m : length (after ++ w ∷ []) ≡ suc (length after) = let p = length-append after (w ∷ []) in let v : length (w ∷ []) ≡ 1 = refl in omega (arith, p, v) in
    let s = c.in_ok-set_jump.ensures before (after ++ w ∷ []) left (c.in_ok-push.ensures ∙ ap (λ l. l ++ w ∷ []) e ∙ append_assoc before (left ∷ after) (w ∷ [])) h
    ∙ ap (λ n. before ++ (line_of line (jump n) ∷ (after ++ w ∷ []))) m in
    let e3 = c.in_ok-bring_back.ensures ∙ ap (λ ls. l2 ++ ls) (at_bare line back) in
    in_ok c.push-2.result _ _
    (λ f. behind l2 R (g ∷ []) l3 l4 e3 f ∙ ap (λ l. l ++ (R ++ g ∷ [])) s ∙ append_assoc before (j ∷ (after ++ w ∷ [])) (R ++ g ∷ [])
    ∙ ap (λ ls. before ++ (j ∷ ls)) (append_assoc after (w ∷ []) (R ++ g ∷ [])))
    c.push-2.ensures
