use Rattle.std.proofs.Common.{◌≡◌, nat_eq, true, false, refl, sym, ◌∙◌, arith}
use Rattle.std.proofs.lemmas.Bool.{eqb-true, eq-eqb}
use Rattle.rc_rlang.specs.RegionPoints.{code_points}
use Rattle.rc_rlang.specs.Shapes.{code_of}
use Rattle.rc_plans.proofs.Counting.{busy_before, idle_before}
use Rattle.rc_plans.proofs.plans.busy.Goals as goal

pub returns-then-not-idle : goal.returns-then-not-idle
returns-then-not-idle c structs laid =
    let i = c.loop-i.i in
    let some = c.loop-i-test.true in
    let x = c.index-body-i.result in
    let own = code_points (code_of structs x) in
    let no : nat_eq own 0 ≡ false = sym (c.is_idle-idle.ensures structs laid) ∙ c.if-not-idle.true in
    record {
      busy = λ j lt. busy_before structs c.args.body.now i own j x some c.loop-i.auto.i c.index-body-i.is refl (λ z. (let yes : true ≡ false = sym (eq-eqb own 0 z) ∙ no in cc)) (omega (arith, lt, some));
      idle = λ j le. c.loop-i.invariant structs laid j (omega (arith, le, some));
    }

pub loop-i-preserved : goal.loop-i-preserved
loop-i-preserved c structs laid j le =
    let x = c.index-body-i.result in
    let own = code_points (code_of structs x) in
    let none = eqb-true own 0 (sym (c.is_idle-idle.ensures structs laid) ∙ c.if-not-idle.false) in
    idle_before structs c.args.body.now c.loop-i.i own j x c.loop-i-test.true c.loop-i.auto.i c.index-body-i.is refl none (c.loop-i.invariant structs laid) le
