use Rattle.std.proofs.Common.{◌≡◌, ◌≤◌, [], ◌∷◌, ◌++◌, length, refl, sym, ap, ◌∙◌, arith, subst, rules}
use Rattle.std.proofs.lemmas.List.{append_assoc}
use Rattle.rc_core.specs.Shapes.{ty_of}
use Rattle.rc_emission.specs.KeptOperands.{kept_at, kept_operands, kept_steps, kept_step}
use Rattle.rc_rlang.specs.RegionFits.{dropped, step_types}
use Rattle.rc_rlang.specs.RegionPoints.{step_points, steps_points}
use Rattle.rc_rlang.specs.Shapes.{step_of, steps_of}
use Rattle.rc_rlang.proofs.ShapeRows.{fork_is}
use Rattle.rc_lines.specs.Gathered.{all_kept}
use Rattle.rc_lines.specs.Operands.{types_on}
use Rattle.rc_lines.proofs.Gathers.{Gathered, gathers_on}
use Rattle.rc_lines.proofs.TwoWays.{behind}
use Rattle.rc_lines.proofs.Walking.{points_within, fork_types}
use Rattle.rc_lines.proofs.gathering.+gathering.Goals as goal
use Rattle.rc_lines.proofs.gathering.+gathering.Goals.{gather-in-Set+in_ok-gather_operation-in-Set+in_ok-give-in-Set, gather-in-Fork+else-is_empty+in_ok-gather_fork-in-Fork+in_ok-give-in-Fork}

pub gather-gather_fork-requires : goal.gather-gather_fork-requires
gather-gather_fork-requires t c =
    let p = points_within [] c.args.steps.now c.loop-step.step-index c.step-item.result c.loop-step-test.true c.step-item.is in
    let d = c.decreases in
    omega (arith, p, d)

pub gather-loop-step-preserved : goal.gather-loop-step-preserved
gather-loop-step-preserved t c =
    let old = c.args.out.now.items in
    let steps = c.args.steps.now in
    let out = c.loop-step.out.items in
    let operands = c.loop-step.operands.items in
    gathers_on old steps c.args.base c.loop-step.step-index c.step-item.result out c.match-step.out.items operands c.match-step.operands.items c.loop-step-test.true c.step-item.is c.loop-step.invariant
    (elim c.match-step.branch [
      | gather-in-Set+in_ok-gather_operation-in-Set+in_ok-give-in-Set w ↦
          subst (λ s. Gathered old steps c.args.base s out c.match-step.out.items operands c.match-step.operands.items) (sym w.in-Set.is)
          (record {
            kept = λ structs. ap (λ v. all_kept v.items) w.out-is ∙ w.in_ok-gather_operation-in-Set.ensures structs;
            types = λ structs. ap (λ v. types_on v.items) w.operands-is ∙ w.in_ok-give-in-Set.ensures ∙ ap (λ n. ty_of w.in-Set.ty ∷ dropped n (types_on operands)) (w.taken.ensures structs (ty_of w.in-Set.ty));
          })
      | gather-in-Fork+else-is_empty+in_ok-gather_fork-in-Fork+in_ok-give-in-Fork w ↦
          let some : 1 ≤ length operands = search rules in
          record {
            kept = λ structs. ap (λ v. all_kept v.items) w.out-is ∙ w.in_ok-gather_fork-in-Fork.ensures structs
                ∙ ap (λ xs. all_kept out ++ kept_step (step_of structs c.step-item.result) c.args.base (types_on xs)) w.as_slice.ensures.value;
            types = λ structs.
                let f = fork_is structs c.step-item.result w.in-Fork.line w.in-Fork.temporary w.in-Fork.test w.in-Fork.result w.in-Fork.yes w.in-Fork.no w.in-Fork.is in
                ap (λ v. types_on v.items) w.operands-is ∙ w.in_ok-give-in-Fork.ensures
                ∙ sym (ap (λ s. step_types s (types_on operands)) f ∙ fork_types w.in-Fork.line w.in-Fork.temporary (ty_of w.in-Fork.test) (ty_of w.in-Fork.result) (steps_of structs w.in-Fork.yes.items) (steps_of structs w.in-Fork.no.items) operands some);
          }
    ])

pub gather_fork-gather-requires : goal.gather_fork-gather-requires
gather_fork-gather-requires t c =
    let f = fork_is [] c.args.step.now c.in-Fork.line c.in-Fork.temporary c.in-Fork.test c.in-Fork.result c.in-Fork.yes c.in-Fork.no c.in-Fork.is in
    let d = c.decreases in
    let p = ap step_points f in
    let v = ap (λ s. steps_points (steps_of [] s)) c.deref.ensures.value in
    omega (arith, d, p, v)

pub gather_fork-gather-requires-2 : goal.gather_fork-gather-requires-2
gather_fork-gather-requires-2 t c =
    let f = fork_is [] c.args.step.now c.in-Fork.line c.in-Fork.temporary c.in-Fork.test c.in-Fork.result c.in-Fork.yes c.in-Fork.no c.in-Fork.is in
    let d = c.decreases in
    let p = ap step_points f in
    let v = ap (λ s. steps_points (steps_of [] s)) c.deref-2.ensures.value in
    omega (arith, d, p, v)

pub gather_fork-returns : goal.gather_fork-returns
gather_fork-returns t c structs =
    let f = fork_is structs c.args.step.now c.in-Fork.line c.in-Fork.temporary c.in-Fork.test c.in-Fork.result c.in-Fork.yes c.in-Fork.no c.in-Fork.is in
    let h = c.in-Fork.temporary in
    let tys = types_on c.args.operands.now in
    let o = all_kept c.args.out.now.items in
    let l1 = all_kept c.gather_all.new.out.items in
    let l2 = all_kept c.enter.new.out.items in
    let l3 = all_kept c.gather.new.out.items in
    let l4 = all_kept c.gather-2.new.out.items in
    let below = kept_operands c.args.base tys in
    let own = kept_at h (ty_of c.in-Fork.result) in
    let a = kept_steps (steps_of structs c.in-Fork.yes.items) h [] in
    let b = kept_steps (steps_of structs c.in-Fork.no.items) h [] in
    let e3 = c.in_ok-gather.ensures.kept structs ∙ ap (λ s. l2 ++ kept_steps (steps_of structs s) h []) c.deref.ensures.value in
    let e4 = c.in_ok-gather-2.ensures.kept structs ∙ ap (λ s. l3 ++ kept_steps (steps_of structs s) h []) c.deref-2.ensures.value in
    let a2 = behind o below (own ∷ []) l1 l2 c.in_ok-gather_all.ensures c.in_ok-enter.ensures in
    let a3 = behind o (below ++ own ∷ []) a l2 l3 a2 e3 in
    let a4 = behind o ((below ++ own ∷ []) ++ a) b l3 l4 a3 e4 in
    let flat : ((below ++ own ∷ []) ++ a) ++ b ≡ below ++ (own ∷ (a ++ b)) = simp append_assoc refl in
    a4 ∙ ap (λ ks. o ++ ks) flat ∙ ap (λ s. o ++ kept_step s c.args.base tys) (sym f)
