use Rattle.std.proofs.Common.{◌≡◌, ℕ, ◌≤◌, ◌-◌, drop, get_or, length, map, sym, ap, ◌∙◌, subst, arith}
use Rattle.std.specs.Prelude.{sum}
use Rattle.rc_rlang.specs.RegionPoints.{routine_points}
use Rattle.rc_rlang.specs.RegionRuns.{deletes}
use Rattle.rc_rlang.specs.Shapes.{rlang_of, routine_in}
use Rattle.rc_rlang.specs.LiveLists.{functions_lists}
use Rattle.rc_live.specs.Walking.{seen, structs_in, WentBack}
use Rattle.rc_live.proofs.Programs.{at_last, functions_more}
use Rattle.rc_live.proofs.program.functions.Goals as goal

pub loop-i-preserved : goal.loop-i-preserved
loop-i-preserved c =
    let parts = c.args.program.now.parts.now in
    let listed = c.args.program.now.listed in
    let all = parts.functions.items in
    let i = c.loop-i.i in
    let f = c.index-all-i.result in
    let same = c.as_slice-all.ensures.value in
    let there = at_last all i f c.loop-i-test.true (subst (λ xs. i ≤ length xs) same c.loop-i.auto.i) (c.index-all-i.is ∙ ap (λ xs. get_or xs (i - 1) f) same) in
    let deleting = deletes (rlang_of parts) in
    let shape = routine_in (structs_in parts) in
    subst (λ fs. WentBack (sum (map routine_points (map (seen listed) (map shape fs)))) (functions_lists deleting (map (seen listed) (map shape fs))) c.args.walk.now c.routine.new.walk) (sym there)
    (functions_more deleting (seen listed (shape f)) (map (seen listed) (map shape (drop i all))) c.args.walk.now c.loop-i.walk c.routine.new.walk c.loop-i.invariant c.in_ok-routine.ensures)

pub returns : goal.returns
returns c =
    let parts = c.args.program.now.parts.now in
    let f = c.loop-i-test.false in
    let e : c.loop-i.i ≡ 0 = omega (arith, f) in
    let later = λ (i : ℕ). map (seen c.args.program.now.listed) (map (routine_in (structs_in parts)) (drop i parts.functions.items)) in
    subst (λ i. WentBack (sum (map routine_points (later i))) (functions_lists (deletes (rlang_of parts)) (later i)) c.args.walk.now c.loop-i.walk) e c.loop-i.invariant
