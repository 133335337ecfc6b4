use Rattle.std.proofs.Common.{◌≡◌, ◌+◌, ◌≤◌, ◌-◌, List, [], ◌∷◌, ◌++◌, suc, length, take, refl, sym, ap, ◌∙◌, arith, rules, subst}
use Rattle.rc_core.specs.Shapes.{ty_of}
use Rattle.rc_rlang.specs.LiveLists.{step_lists, steps_lists}
use Rattle.rc_rlang.specs.RegionLive.{before_steps}
use Rattle.rc_rlang.specs.RegionPoints.{step_points, steps_points}
use Rattle.rc_rlang.specs.Shapes.{step_of}
use Rattle.rc_rlang.proofs.ShapeRows.{fork_is}
use Rattle.rc_lines.specs.Over.{Listed, deleting_in, types_in, slot_in, structs_in, steps_in, step_in, operation_in}
use Rattle.rc_lines.specs.Bare.{bare_line, bare_code, lines_of, line_of as line_in}
use Rattle.rc_lines.specs.Operands.{types_on}
use Rattle.rc_emission.specs.StatementCode.{set_code, step_lines, steps_lines}
use Rattle.rc_rlang.specs.RegionFits.{dropped, step_types}
use Rattle.rc_lines.proofs.Walking.{goes_on, step_listed, rest_of, points_within, ways_listed, fork_types, at_bare, Did}
use Rattle.rc_lines.proofs.TwoWays.{Turns, Joins, next_to, one_less, forked_code}
use Rattle.rc_lines.proofs.Stacks.{on_top, length_types}
use Rattle.std.proofs.lemmas.List.{length-append, length-map, length-take-le}
use Rattle.rc_emission.specs.StackCode.{Line, get, set, pop}
use Rattle.rc_emission.specs.OperationCode.{at, line_of, spills, reloads, test_code, wide}
use Rattle.rc_core.specs.Types.{int}
use Rattle.rc_rlang.specs.RegionCode.{Steps, fork}
use Rattle.rc_lines.proofs.forks.+steps.Goals as goal
use Rattle.rc_lines.proofs.forks.+steps.Goals.{steps-in-Set+in_ok-operation-in-Set+in_ok-give-in-Set+in_ok-here-in-Set, steps-in-Fork+in_ok-here-in-Fork+in_ok-give-in-Fork}

pub steps-two_ways-requires : goal.steps-two_ways-requires
steps-two_ways-requires t c =
    let b = c.args.body.now in
    let steps = c.args.steps.now in
    let both = step_listed b c.args.out.now.items steps c.args.base c.args.point c.loop-step.step-index c.step-item.result c.loop-step.here c.requires.listed.live c.loop-step-test.true c.step-item.is (c.loop-step.invariant.listed c.requires.listed.live c.requires.listed.listed) in
    let p = points_within (structs_in b) steps c.loop-step.step-index c.step-item.result c.loop-step-test.true c.step-item.is in
    let d = c.decreases in
    (omega (arith, p, d), record { live = before_steps (rest_of b c.args.out.now.items steps c.args.base c.args.point (c.loop-step.step-index + 1)) c.requires.listed.live; listed = both.0 })

pub steps-operation-requires : goal.steps-operation-requires
steps-operation-requires t c =
    let b = c.args.body.now in
    let steps = c.args.steps.now in
    let both = step_listed b c.args.out.now.items steps c.args.base c.args.point c.loop-step.step-index c.step-item.result c.loop-step.here c.requires.listed.live c.loop-step-test.true c.step-item.is (c.loop-step.invariant.listed c.requires.listed.live c.requires.listed.listed) in
    let live = before_steps (rest_of b c.args.out.now.items steps c.args.base c.args.point (c.loop-step.step-index + 1)) c.requires.listed.live in
    record { live = live; listed = subst (λ s. Listed b.live.now (step_lists (deleting_in b) (types_in b) (step_of (structs_in b) s) c.loop-step.here live)) c.in-Set.is both.0 }

pub steps-loop-step-preserved : goal.steps-loop-step-preserved
steps-loop-step-preserved t c =
    let b = c.args.body.now in
    let old = c.args.out.now.items in
    let steps = c.args.steps.now in
    let i = c.loop-step.step-index in
    let out = c.loop-step.out.items in
    let operands = c.loop-step.operands.items in
    let here = c.loop-step.here in
    goes_on b old steps c.args.base c.args.point i c.step-item.result out c.match-step.out.items operands c.match-step.operands.items here c.match-step.here c.loop-step-test.true c.step-item.is c.loop-step.invariant
    (elim c.match-step.branch [
      | steps-in-Set+in_ok-operation-in-Set+in_ok-give-in-Set+in_ok-here-in-Set w ↦
          subst (λ s. Did b old steps c.args.base c.args.point (step_of (structs_in b) s) out c.match-step.out.items operands c.match-step.operands.items here c.match-step.here) (sym w.in-Set.is)
          (record {
            lines = λ saved live hs l.
                ap (λ v. lines_of v.items) w.out-is ∙ w.in_ok-operation-in-Set.ensures live l
                ∙ ap (λ ls. lines_of out ++ ls) (at_bare w.in-Set.line (set_code (slot_in b) (deleting_in b) (types_in b) w.in-Set.temporary (ty_of w.in-Set.ty) (operation_in b w.in-Set.operation) live));
            types = ap (λ v. types_on v.items) w.operands-is ∙ w.in_ok-give-in-Set.ensures ∙ ap (λ n. ty_of w.in-Set.ty ∷ dropped n (types_on operands)) (w.taken.ensures (structs_in b) (ty_of w.in-Set.ty));
            points = w.here-is ∙ w.in_ok-here-in-Set.ensures;
          })
      | steps-in-Fork+in_ok-here-in-Fork+in_ok-give-in-Fork w ↦
          let f = fork_is (structs_in b) c.step-item.result w.in-Fork.line w.in-Fork.temporary w.in-Fork.test w.in-Fork.result w.in-Fork.yes w.in-Fork.no w.in-Fork.is in
          let some = subst (λ xs. 1 ≤ length xs) w.as_slice.ensures.value w.in_ok-here-in-Fork.ensures.some in
          record {
            lines = λ saved live hs l.
                ap (λ v. lines_of v.items) w.out-is ∙ w.in_ok-here-in-Fork.ensures.lines saved live hs l
                ∙ ap (λ xs. lines_of out ++ bare_code 0 (step_lines (slot_in b) (deleting_in b) (types_in b) (step_in b c.step-item.result) saved (types_on xs) live)) w.as_slice.ensures.value;
            types = ap (λ v. types_on v.items) w.operands-is ∙ w.in_ok-give-in-Fork.ensures
                ∙ sym (ap (λ s. step_types s (types_on operands)) f ∙ fork_types w.in-Fork.line w.in-Fork.temporary (ty_of w.in-Fork.test) (ty_of w.in-Fork.result) (steps_in b w.in-Fork.yes.items) (steps_in b w.in-Fork.no.items) operands some);
            points = w.here-is ∙ w.in_ok-here-in-Fork.ensures.point;
          }
    ])

pub two_ways-steps-requires : goal.two_ways-steps-requires
two_ways-steps-requires t c =
    let b = c.args.body.now in
    let f = fork_is (structs_in b) c.args.step.now c.in-Fork.line c.in-Fork.temporary c.in-Fork.test c.in-Fork.result c.in-Fork.yes c.in-Fork.no c.in-Fork.is in
    let live = c.requires.listed.live in
    let both = ways_listed b c.in-Fork.line c.in-Fork.temporary (ty_of c.in-Fork.test) (ty_of c.in-Fork.result) (steps_in b c.in-Fork.yes.items) (steps_in b c.in-Fork.no.items) c.args.point live (subst (λ s. Listed b.live.now (step_lists (deleting_in b) (types_in b) s c.args.point live)) f c.requires.listed.listed) in
    let d = c.decreases in
    let p = ap step_points f in
    let v = ap (λ s. steps_points (steps_in b s)) c.deref.ensures.value in
    let e = c.in_ok-next.ensures in
    let n : suc c.args.point ≡ c.in_ok-next.field-0 = omega (arith, e) in
    (omega (arith, d, p, v), record { live = live; listed = subst (λ n. Listed b.live.now (steps_lists (deleting_in b) (types_in b) (steps_in b c.deref.result.now) n live)) n (subst (λ s. Listed b.live.now (steps_lists (deleting_in b) (types_in b) (steps_in b s) (suc c.args.point) live)) (sym c.deref.ensures.value) both.0) })

pub two_ways-steps-requires-2 : goal.two_ways-steps-requires-2
two_ways-steps-requires-2 t c =
    let b = c.args.body.now in
    let f = fork_is (structs_in b) c.args.step.now c.in-Fork.line c.in-Fork.temporary c.in-Fork.test c.in-Fork.result c.in-Fork.yes c.in-Fork.no c.in-Fork.is in
    let live = c.requires.listed.live in
    let both = ways_listed b c.in-Fork.line c.in-Fork.temporary (ty_of c.in-Fork.test) (ty_of c.in-Fork.result) (steps_in b c.in-Fork.yes.items) (steps_in b c.in-Fork.no.items) c.args.point live (subst (λ s. Listed b.live.now (step_lists (deleting_in b) (types_in b) s c.args.point live)) f c.requires.listed.listed) in
    let d = c.decreases in
    let p = ap step_points f in
    let v = ap (λ s. steps_points (steps_in b s)) c.deref-2.ensures.value in
    let u = ap (λ s. steps_points (steps_in b s)) c.deref.ensures.value in
    let e = c.in_ok-next.ensures in
    let q = c.in_ok-behind_yes.ensures.point in
    let n : suc c.args.point + steps_points (steps_in b c.in-Fork.yes.items) ≡ c.in_ok-behind_yes.field-0.point = omega (arith, e, q, u) in
    (omega (arith, d, p, v), record { live = live; listed = subst (λ n. Listed b.live.now (steps_lists (deleting_in b) (types_in b) (steps_in b c.deref-2.result.now) n live)) n (subst (λ s. Listed b.live.now (steps_lists (deleting_in b) (types_in b) (steps_in b s) (suc c.args.point + steps_points (steps_in b c.in-Fork.yes.items)) live)) (sym c.deref-2.ensures.value) both.1) })

pub two_ways-returns-clause-lines : goal.two_ways-returns-clause-lines
two_ways-returns-clause-lines t c saved live hs l =
    let b = c.args.body.now in
    let slot = slot_in b in
    let line = c.in-Fork.line in
    let base = c.args.base in
    let ops = c.args.operands.now in
    let n = length ops - 1 in
    let some : 1 ≤ length ops = search rules in
    let up : suc c.in_ok-height.height ≡ base + length ops = search rules in
    let below = types_on (take n ops) in
    let it = on_top ops n refl some in
    let top = it.0 in
    let tys = it.1 in
    let lb : length below ≡ n = length_types (take n ops) ∙ length-take-le n ops (omega (arith, some)) in
    let la = length-append below saved in
    let hh : length (below ++ saved) ≡ c.in_ok-height.height = omega (arith, la, lb, hs, up, some) in
    let hq : c.in_ok-height.height ≡ length saved + length below = omega (arith, lb, hs, up, some) in
    let result = ty_of c.in-Fork.result in
    let given : c.in_ok-given.given ≡ slot (length saved + length below) result = c.in_ok-given.ensures ∙ ap (λ m. slot m result) hq in
    let yes' = steps_in b c.in-Fork.yes.items in
    let no' = steps_in b c.in-Fork.no.items in
    let f = fork_is (structs_in b) c.args.step.now c.in-Fork.line c.in-Fork.temporary c.in-Fork.test c.in-Fork.result c.in-Fork.yes c.in-Fork.no c.in-Fork.is in
    let both = ways_listed b c.in-Fork.line c.in-Fork.temporary (ty_of c.in-Fork.test) result yes' no' c.args.point live (subst (λ s. Listed b.live.now (step_lists (deleting_in b) (types_in b) s c.args.point live)) f l) in
    let e = c.in_ok-next.ensures in
    let u = ap (λ s. steps_points (steps_in b s)) c.deref.ensures.value in
    let q = c.in_ok-behind_yes.ensures.point in
    let n1 : suc c.args.point ≡ c.in_ok-next.field-0 = omega (arith, e) in
    let n2 : suc c.args.point + steps_points yes' ≡ c.in_ok-behind_yes.field-0.point = omega (arith, e, q, u) in
    let listed1 = subst (λ n. Listed b.live.now (steps_lists (deleting_in b) (types_in b) (steps_in b c.deref.result.now) n live)) n1 (subst (λ s. Listed b.live.now (steps_lists (deleting_in b) (types_in b) (steps_in b s) (suc c.args.point) live)) (sym c.deref.ensures.value) both.0) in
    let listed2 = subst (λ n. Listed b.live.now (steps_lists (deleting_in b) (types_in b) (steps_in b c.deref-2.result.now) n live)) n2 (subst (λ s. Listed b.live.now (steps_lists (deleting_in b) (types_in b) (steps_in b s) (suc c.args.point + steps_points yes') live)) (sym c.deref-2.ensures.value) both.1) in
    let code : Steps → List Line = λ s. steps_lines slot (deleting_in b) (types_in b) s (below ++ saved) [] live in
    let A = code yes' in
    let B = code no' in
    let T = test_code (ty_of c.in-Fork.test) in
    let S = at line (spills slot (length saved) (top ∷ below)) in
    let G = at line (get (slot (length saved + length below) top) ∷ T) in
    let R = at line (reloads slot (length saved) below) in
    let w = line_of line (set (slot (length saved + length below) result) (wide result)) in
    let g2 = line_of line (get (slot (length saved + length below) result)) in
    let x = line_of line pop in
    let o = lines_of c.args.out.now.items in
    let l1 = lines_of c.look.new.out.items in
    let l2 = lines_of c.steps.new.out.items in
    let l3 = lines_of c.turn.new.out.items in
    let l4 = lines_of c.steps-2.new.out.items in
    let l5 = lines_of c.join.new.out.items in
    let P = bare_code 0 (S ++ G) in
    let e1 = c.in_ok-to_no.ensures.lines top below tys ∙ ap (λ m. (o ++ bare_code 0 (at line (spills slot m (top ∷ below)) ++ at line (get (slot (m + length below) top) ∷ T))) ++ x ∷ []) (sym hs) in
    let p1 = c.in_ok-to_no.ensures.place ∙ sym (length-map c.look.new.out.items line_in) in
    let e2 = c.in_ok-behind_yes.ensures.lines (below ++ saved) live hh listed1 ∙ ap (λ s. l1 ++ bare_code 0 (code (steps_in b s))) c.deref.ensures.value in
    let turns : Turns line (bare_line 0 w) x c.in_ok-to_no.to_no l2 l3 = subst (λ k. Turns line (line_of line (set k int)) x c.in_ok-to_no.to_no l2 l3) given c.in_ok-to_end.ensures.lines in
    let p3 = c.in_ok-to_end.ensures.place (o ++ P) (bare_code 0 A) x (next_to (o ++ P) x l1 l2 (bare_code 0 A) e1 e2) (one_less (o ++ P) x l1 c.in_ok-to_no.to_no e1 p1) ∙ sym (length-map c.turn.new.out.items line_in) in
    let e4 = c.in_ok-behind_no.ensures.lines (below ++ saved) live hh listed2 ∙ ap (λ s. l3 ++ bare_code 0 (code (steps_in b s))) c.deref-2.ensures.value in
    let joins : Joins line (bare_line 0 w) (bare_line 0 g2) (bare_code 0 R) c.in_ok-to_end.to_end l4 l5 =
    subst (λ m. Joins line (bare_line 0 w) (bare_line 0 g2) (bare_code 0 (at line (reloads slot m below))) c.in_ok-to_end.to_end l4 l5) (sym hs)
    (subst (λ k. Joins line (line_of line (set k int)) (line_of line (get k)) (bare_code 0 (at line (reloads slot base below))) c.in_ok-to_end.to_end l4 l5) given c.in_ok-join.ensures) in
    forked_code line S G A B R x w g2 o l1 l2 l3 l4 l5 c.in_ok-to_no.to_no c.in_ok-to_end.to_end e1 p1 e2 turns p3 e4 joins
    ∙ ap (λ ts. o ++ bare_code 0 (step_lines slot (deleting_in b) (types_in b) (fork line c.in-Fork.temporary (ty_of c.in-Fork.test) result yes' no') saved ts live)) (sym tys)
    ∙ ap (λ s. o ++ bare_code 0 (step_lines slot (deleting_in b) (types_in b) s saved (types_on ops) live)) (sym f)

pub two_ways-returns-clause-point : goal.two_ways-returns-clause-point
two_ways-returns-clause-point t c =
    let b = c.args.body.now in
    let f = fork_is (structs_in b) c.args.step.now c.in-Fork.line c.in-Fork.temporary c.in-Fork.test c.in-Fork.result c.in-Fork.yes c.in-Fork.no c.in-Fork.is in
    let p = ap step_points f in
    let v = ap (λ s. steps_points (steps_in b s)) c.deref-2.ensures.value in
    let u = ap (λ s. steps_points (steps_in b s)) c.deref.ensures.value in
    let e = c.in_ok-next.ensures in
    let q = c.in_ok-behind_yes.ensures.point in
    let r = c.in_ok-behind_no.ensures.point in
    omega (arith, p, v, u, e, q, r)
