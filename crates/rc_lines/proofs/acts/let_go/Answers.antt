use Rattle.std.proofs.Common.{◌≡◌, ◌++◌, [], ◌∷◌, ap, ◌∙◌, sym, arith, length}
use Rattle.std.proofs.lemmas.List.{append_assoc}
use Rattle.rc_emission.specs.StackCode.{pop}
use Rattle.rc_emission.specs.OperationCode.{line_of}
use Rattle.rc_lines.specs.Bare.{lines_of}
use Rattle.rc_lines.specs.Operands.{types_on}
use Rattle.rc_lines.specs.Over.{deleting_in, types_in, slot_in}
use Rattle.rc_lines.proofs.Stacks.{some_pops, one_pop, all_pops, length_types}
use Rattle.rc_lines.proofs.acts.let_go.Goals as goal

pub returns : goal.returns
returns c =
    let b = c.args.body.now in
    let o = lines_of c.args.out.now.items in
    let l = length_types c.args.operands.now in
    let f = c.loop-test.false in
    let m = c.loop.auto.index-end in
    let e : c.loop.index ≡ length (types_on c.args.operands.now) = omega (arith, l, f, m) in
    c.loop.invariant ∙ ap (λ n. o ++ some_pops c.args.line n) e ∙ ap (λ ls. o ++ ls) (sym (all_pops (slot_in b) (deleting_in b) (types_in b) c.args.line (types_on c.args.operands.now)))

pub loop-preserved : goal.loop-preserved
loop-preserved c =
    let o = lines_of c.args.out.now.items in
    c.in_ok-push.ensures ∙ ap (λ ls. ls ++ line_of c.args.line pop ∷ []) c.loop.invariant ∙ append_assoc o (some_pops c.args.line c.loop.index) (line_of c.args.line pop ∷ []) ∙ ap (λ ls. o ++ ls) (sym (one_pop c.args.line c.loop.index))
