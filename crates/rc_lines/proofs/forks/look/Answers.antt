use Rattle.std.proofs.Common.{◌≡◌, ◌+◌, ◌-◌, [], ◌∷◌, ◌++◌, length, get_or, take, sym, ap, ◌∙◌, arith, rules}
use Rattle.std.proofs.lemmas.List.{append_assoc, take_all}
use Rattle.rc_core.specs.Shapes.{ty_of}
use Rattle.rc_emission.specs.StackCode.{get, pop}
use Rattle.rc_emission.specs.OperationCode.{at, line_of, spills, test_code}
use Rattle.rc_lines.specs.Bare.{bare_all, bare_code, lines_of}
use Rattle.rc_lines.specs.Operands.{type_of, types_on}
use Rattle.rc_lines.specs.Over.{slot_in}
use Rattle.rc_lines.proofs.Copies.{added, at_both, in_ok}
use Rattle.rc_lines.proofs.Stacks.{types_up, length_types}
use Rattle.rc_lines.proofs.Walking.{at_bare}
use Rattle.rc_lines.proofs.forks.look.Goals as goal

pub returns-clause-lines : goal.returns-clause-lines
returns-clause-lines c top below h =
    let slot = slot_in c.args.body.now in
    let line = c.args.line in
    let base = c.args.base in
    let ops = c.args.operands.now in
    let some = c.requires.some in
    let n = length ops - 1 in
    let one = c.index-operands-top.result in
    let whole : take (n + 1) ops ≡ ops = take_all (n + 1) ops (omega (arith, some)) in
    let mine : types_on ops ≡ type_of one ∷ types_on (take n ops) = ap types_on (sym whole) ∙ types_up ops n one (omega (arith, some)) c.index-operands-top.is in
    let same : type_of one ≡ top = ap (λ tys. get_or tys 0 top) (sym mine ∙ h) in
    let lt = length_types ops in
    let lh = ap length h in
    let lb : n ≡ length below = omega (arith, lt, lh, some) in
    let first : c.in_ok-kept.kept ≡ slot (base + n) (type_of one) = search rules in
    let kept : c.in_ok-kept.kept ≡ slot (base + length below) top = first ∙ ap (λ m. slot (base + m) (type_of one)) lb ∙ ap (slot (base + length below)) same in
    let S = spills slot base (top ∷ below) in
    let T = test_code (ty_of c.args.ty.now) in
    let g = get (slot (base + length below) top) in
    let o = lines_of c.args.out.now.items in
    let l1 = lines_of c.keep.new.out.items in
    let l2 = lines_of c.push.new.out.items in
    let l3 = lines_of c.test.new.out.items in
    let e1 = c.in_ok-keep.ensures ∙ ap (λ tys. o ++ at line (bare_all (spills slot base tys))) h in
    let e2 = c.in_ok-push.ensures ∙ ap (λ x. l1 ++ line_of line (get x) ∷ []) kept in
    let a3 = added line (S ++ g ∷ []) T o l2 l3 (added line S (g ∷ []) o l1 l2 e1 e2) c.in_ok-test.ensures
    ∙ ap (λ is. o ++ at line (bare_all is)) (append_assoc S (g ∷ []) T)
    ∙ ap (λ ls. o ++ ls) (at_bare line (S ++ (g ∷ T)) ∙ ap (bare_code 0) (at_both line S (g ∷ T))) in
    in_ok c.leave_place.result _ _ (λ e. e ∙ ap (λ ls. ls ++ line_of line pop ∷ []) a3) c.leave_place.ensures.lines
