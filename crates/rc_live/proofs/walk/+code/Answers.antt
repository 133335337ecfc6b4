use Rattle.std.specs.Prelude.{is_some, option_map}
use Rattle.std.proofs.Common.{◌≡◌, ℕ, ◌||◌, ◌&&◌, ◌-◌, [], ◌∷◌, ◌++◌, take, drop, sym, ap, subst, refl, arith}
use Rattle.rc_core.specs.Live.{then_live, round}
use Rattle.rc_rlang.specs.RegionLive.{before_act, before_code, before_codes, loop_head, repeat_tail}
use Rattle.rc_rlang.specs.RegionCode.{simple, clear, loop, repeat, break, continue}
use Rattle.rc_rlang.specs.Shapes.{act_of, steps_of, test_of, code_of, codes_of}
use Rattle.rc_core.specs.Shapes.{ty_of}
use Rattle.rc_rlang.proofs.CodeRows.{block_is}
use Rattle.rc_live.specs.Effects.{Found, loops, loops_among}
use Rattle.rc_live.specs.Walking.{structs_in, StepsDone, CodeDone, CodesDone}
use Rattle.rc_live.proofs.Back.{if_ok_more}
use Rattle.rc_live.proofs.Doing.{parted, the_last, nothing_found}
use Rattle.rc_live.proofs.Pieces.{union_shows, out_shows, simple_done, branch_done, loop_done, repeat_done, codes_more, codes_at, loops_taken, without_loops}
use Rattle.rc_live.proofs.walk.+code.Goals as goal

pub code-returns-in_ok-live-in-Simple : goal.code-returns-in_ok-live-in-Simple
code-returns-in_ok-live-in-Simple t c types k before s w f =
    let x = c.args.context.now in
    let structs = structs_in x.parts.now in
    let i = c.in-Simple in
    let a = act_of structs i.last in
    let of_act = c.in_ok-live-in-Simple.ensures types k.next s w.next in
    let none = without_loops x.names.now (code_of structs c.args.code.now) (simple (steps_of structs i.all.items) a) before c.args.effects.now.items (ap (code_of structs) i.is) refl f in
    if_ok_more c.steps.result (λ row. StepsDone x types (steps_of structs c.as_slice.result.now) (before_act a k.next) row c.act.new.walk c.steps.new.walk) (λ row. CodeDone x types (code_of structs c.args.code.now) k row c.args.walk.now c.steps.new.walk × (c.args.effects.now.items ≡ before))
    (λ row d. (
      subst (λ one. CodeDone x types one k row c.args.walk.now c.steps.new.walk) (sym (ap (code_of structs) i.is))
          (simple_done x types (steps_of structs i.all.items) a k c.in_ok-live-in-Simple.live row c.args.walk.now c.act.new.walk c.steps.new.walk of_act (subst (λ xs. StepsDone x types (steps_of structs xs) (before_act a k.next) row c.act.new.walk c.steps.new.walk) c.as_slice.ensures.value d)),
      none,
    ))
    (c.steps.ensures types (before_act a k.next) s of_act.shows)

pub code-returns-in-Clear : goal.code-returns-in-Clear
code-returns-in-Clear t c types k before s w f =
    let x = c.args.context.now in
    let structs = structs_in x.parts.now in
    let i = c.in-Clear in (
      subst (λ one. CodeDone x types one k c.without.result c.args.walk.now c.pass.new.self) (sym (ap (code_of structs) i.is))
          (record { shows = c.without.ensures k.next w.next; back = c.pass.ensures }),
      without_loops x.names.now (code_of structs c.args.code.now) (clear i.line i.local (ty_of i.ty)) before c.args.effects.now.items (ap (code_of structs) i.is) refl f,
    )

pub code-returns-in-Block : goal.code-returns-in-Block
code-returns-in-Block t c types k before s w f =
    let x = c.args.context.now in
    let structs = structs_in x.parts.now in
    let i = c.in-Block in
    let is = block_is structs c.args.code.now i.body i.is in
    let inside = subst (λ xs. Found x.names.now (loops_among (codes_of structs xs)) before c.args.effects.now.items) (sym c.as_slice-in-Block.ensures.value) (subst (λ one. Found x.names.now (loops one) before c.args.effects.now.items) is f) in
    if_ok_more c.codes.result (λ row. CodesDone x types (codes_of structs c.as_slice-in-Block.result.now) k row c.args.walk.now c.codes.new.walk × (c.codes.new.effects.items ≡ before)) (λ row. CodeDone x types (code_of structs c.args.code.now) k row c.args.walk.now c.codes.new.walk × (c.codes.new.effects.items ≡ before))
    (λ row d. let e = subst (λ xs. CodesDone x types (codes_of structs xs) k row c.args.walk.now c.codes.new.walk) c.as_slice-in-Block.ensures.value d.0 in
    (subst (λ one. CodeDone x types one k row c.args.walk.now c.codes.new.walk) (sym is) (record { shows = e.shows; back = e.back }), d.1))
    (c.codes.ensures types k before s w inside)

pub code-returns-in_ok-live_yes-in-Branch : goal.code-returns-in_ok-live_yes-in-Branch
code-returns-in_ok-live_yes-in-Branch t c types k before s w f =
    let x = c.args.context.now in
    let structs = structs_in x.parts.now in
    let old = c.args.walk.now in
    let i = c.in-Branch in
    let all = steps_of structs i.all.items in
    let yes' = code_of structs i.yes.value in
    let no' = code_of structs i.no.value in
    let live = λ (y : ℕ). before_code yes' k y || before_code no' k y in
    let p = parted x.names.now (loops yes') (loops no') before c.args.effects.now.items (subst (λ one. Found x.names.now (loops one) before c.args.effects.now.items) (ap (code_of structs) i.is) f) in
    let no_done = c.in_ok-live_no-in-Branch.ensures types k p.mid s w (subst (λ one. Found x.names.now (loops (code_of structs one)) p.mid c.args.effects.now.items) (sym c.deref.ensures) p.second) in
    let of_no = subst (λ one. CodeDone x types (code_of structs one) k c.in_ok-live_no-in-Branch.live_no old c.code.new.walk) c.deref.ensures no_done.0 in
    let yes_done = c.in_ok-live_yes-in-Branch.ensures types k before s w (subst (λ one. Found x.names.now (loops (code_of structs one)) before c.code.new.effects.items) (sym c.deref-in-Branch.ensures) (subst (λ m. Found x.names.now (loops yes') before m) (sym no_done.1) p.first)) in
    let of_yes = subst (λ one. CodeDone x types (code_of structs one) k c.in_ok-live_yes-in-Branch.live_yes c.code.new.walk c.code-in-Branch.new.walk) c.deref-in-Branch.ensures yes_done.0 in
    let shown = union_shows x.names.now c.in_ok-live_yes-in-Branch.live_yes c.in_ok-live_no-in-Branch.live_no c.union.result (before_code yes' k) (before_code no' k) of_yes.shows of_no.shows c.union.ensures in
    if_ok_more c.steps-in-Branch.result (λ row. StepsDone x types (steps_of structs c.as_slice-in-Branch.result.now) live row c.pass-in-Branch.new.self c.steps-in-Branch.new.walk) (λ row. CodeDone x types (code_of structs c.args.code.now) k row old c.steps-in-Branch.new.walk × (c.code-in-Branch.new.effects.items ≡ before))
    (λ row d. (
      subst (λ one. CodeDone x types one k row old c.steps-in-Branch.new.walk) (sym (ap (code_of structs) i.is))
          (branch_done x types all (test_of i.test) yes' no' k c.in_ok-live_yes-in-Branch.live_yes c.in_ok-live_no-in-Branch.live_no row old c.code.new.walk c.code-in-Branch.new.walk c.pass-in-Branch.new.self c.steps-in-Branch.new.walk of_no of_yes c.pass-in-Branch.ensures
          (subst (λ xs. StepsDone x types (steps_of structs xs) live row c.pass-in-Branch.new.self c.steps-in-Branch.new.walk) c.as_slice-in-Branch.ensures.value d)),
      yes_done.1,
    ))
    (c.steps-in-Branch.ensures types live s shown)

pub code-returns-in_ok-steps-in-Loop : goal.code-returns-in_ok-steps-in-Loop
code-returns-in_ok-steps-in-Loop t c types k before s w f =
    let x = c.args.context.now in
    let names = x.names.now in
    let structs = structs_in x.parts.now in
    let old = c.args.walk.now in
    let i = c.in-Loop in
    let all = steps_of structs i.all.items in
    let test = option_map test_of i.test in
    let third = code_of structs i.third.value in
    let body = code_of structs i.body.value in
    let whole = loop i.line all test third body in
    let outer = parted names (loops body ++ loops third) (whole ∷ []) before c.args.effects.now.items (subst (λ one. Found names (loops one) before c.args.effects.now.items) (ap (code_of structs) i.is) f) in
    let inner = parted names (loops body) (loops third) before outer.mid outer.first in
    let last = the_last names whole outer.mid c.args.effects.now.items outer.second in
    let head = c.head-first.ensures names outer.mid last.effect (before_code whole) k last.behind last.tells w in
    let k2 = then_live (loop_head all test third body k) k in
    let k1 = round (before_code third k2) k in
    let live = λ (y : ℕ). (is_some test && k.next y) || before_code body k1 y in
    let third_done = c.in_ok-again-in-Loop.ensures types k2 inner.mid s (c.then.ensures names (loop_head all test third body k) k w head.0)
    (subst (λ one. Found names (loops (code_of structs one)) inner.mid c.head-first.new.effects.items) (sym c.deref-in-Loop.ensures) (subst (λ m. Found names (loops third) inner.mid m) (sym head.1) inner.second)) in
    let again = subst (λ one. CodeDone x types (code_of structs one) k2 c.in_ok-again-in-Loop.again old c.code-in-Loop.new.walk) c.deref-in-Loop.ensures third_done.0 in
    let body_done = c.in_ok-inside-in-Loop.ensures types k1 before s (c.round.ensures names (before_code third k2) k w again.shows)
    (subst (λ one. Found names (loops (code_of structs one)) before c.code-in-Loop.new.effects.items) (sym c.deref-in-Loop-2.ensures) (subst (λ m. Found names (loops body) before m) (sym third_done.1) inner.first)) in
    let inside = subst (λ one. CodeDone x types (code_of structs one) k1 c.in_ok-inside-in-Loop.inside c.code-in-Loop.new.walk c.code-in-Loop-2.new.walk) c.deref-in-Loop-2.ensures body_done.0 in
    let out = out_shows test_of i.test names c.way_out-out.result k.next (c.way_out-out.ensures names k.next w.next) in
    let tested = subst (λ xs. StepsDone x types (steps_of structs xs) live c.in_ok-steps-in-Loop.field-0 c.pass_test.new.walk c.steps-in-Loop.new.walk) c.as_slice-in-Loop.ensures.value
    (c.in_ok-steps-in-Loop.ensures types live s (union_shows names c.way_out-out.result c.in_ok-inside-in-Loop.inside c.union-in-Loop.result (λ y. is_some test && k.next y) (before_code body k1) out inside.shows c.union-in-Loop.ensures)) in (
      subst (λ one. CodeDone x types one k c.head-first.result old c.pass-in-Loop.new.self) (sym (ap (code_of structs) i.is))
          (loop_done x types i.line all test third body k c.head-first.result c.in_ok-again-in-Loop.again c.in_ok-inside-in-Loop.inside c.in_ok-steps-in-Loop.field-0 old c.code-in-Loop.new.walk c.code-in-Loop-2.new.walk c.pass_test.new.walk c.steps-in-Loop.new.walk c.pass-in-Loop.new.self head.0
          again inside c.pass_test.ensures tested c.pass-in-Loop.ensures),
      body_done.1,
    )

pub code-returns-in_ok-code-in-Repeat : goal.code-returns-in_ok-code-in-Repeat
code-returns-in_ok-code-in-Repeat t c types k before s w f =
    let x = c.args.context.now in
    let names = x.names.now in
    let structs = structs_in x.parts.now in
    let old = c.args.walk.now in
    let i = c.in-Repeat in
    let all = steps_of structs i.all.items in
    let test = test_of i.test in
    let body = code_of structs i.body.value in
    let whole = repeat i.line body all test in
    let outer = parted names (loops body) (whole ∷ []) before c.args.effects.now.items (subst (λ one. Found names (loops one) before c.args.effects.now.items) (ap (code_of structs) i.is) f) in
    let last = the_last names whole outer.mid c.args.effects.now.items outer.second in
    let head = c.head-first-in-Repeat.ensures names outer.mid last.effect (before_code whole) k last.behind last.tells w in
    let live = λ (y : ℕ). k.next y || before_code (repeat 0 body all test) k y in
    let k1 = round (repeat_tail body all test k) k in
    let again = subst (λ xs. StepsDone x types (steps_of structs xs) live c.in_ok-again-in-Repeat.again c.pass-in-Repeat.new.self c.steps-in-Repeat.new.walk) c.as_slice-in-Repeat.ensures.value
    (c.in_ok-again-in-Repeat.ensures types live s (union_shows names c.args.ways.now.next c.head-first-in-Repeat.result c.union-in-Repeat.result k.next (before_code (repeat 0 body all test) k) w.next head.0 c.union-in-Repeat.ensures)) in
    let body_done = c.in_ok-code-in-Repeat.ensures types k1 before s (c.round-in-Repeat.ensures names (repeat_tail body all test k) k w again.shows)
    (subst (λ one. Found names (loops (code_of structs one)) before c.head-first-in-Repeat.new.effects.items) (sym c.deref-in-Repeat.ensures) (subst (λ m. Found names (loops body) before m) (sym head.1) outer.first)) in
    let inside = subst (λ one. CodeDone x types (code_of structs one) k1 c.in_ok-code-in-Repeat.field-0 c.steps-in-Repeat.new.walk c.code-in-Repeat.new.walk) c.deref-in-Repeat.ensures body_done.0 in (
      subst (λ one. CodeDone x types one k c.head-first-in-Repeat.result old c.pass-in-Repeat-2.new.self) (sym (ap (code_of structs) i.is))
          (repeat_done x types i.line body all test k c.head-first-in-Repeat.result c.in_ok-again-in-Repeat.again c.in_ok-code-in-Repeat.field-0 old c.pass-in-Repeat.new.self c.steps-in-Repeat.new.walk c.code-in-Repeat.new.walk c.pass-in-Repeat-2.new.self head.0
          c.pass-in-Repeat.ensures again inside c.pass-in-Repeat-2.ensures),
      body_done.1,
    )

pub code-returns-in-Break : goal.code-returns-in-Break
code-returns-in-Break t c types k before s w f =
    let structs = structs_in c.args.context.now.parts.now in
    let is = ap (code_of structs) c.in-Break.is in (
      subst (λ one. CodeDone c.args.context.now types one k c.args.ways.now.broken c.args.walk.now c.pass-in-Break.new.self) (sym is)
          (record { shows = w.broken; back = c.pass-in-Break.ensures }),
      without_loops c.args.context.now.names.now (code_of structs c.args.code.now) (break c.in-Break.line) before c.args.effects.now.items is refl f,
    )

pub code-returns-in-Continue : goal.code-returns-in-Continue
code-returns-in-Continue t c types k before s w f =
    let structs = structs_in c.args.context.now.parts.now in
    let is = ap (code_of structs) c.in-Continue.is in (
      subst (λ one. CodeDone c.args.context.now types one k c.args.ways.now.continued c.args.walk.now c.pass-in-Continue.new.self) (sym is)
          (record { shows = w.continued; back = c.pass-in-Continue.ensures }),
      without_loops c.args.context.now.names.now (code_of structs c.args.code.now) (continue c.in-Continue.line) before c.args.effects.now.items is refl f,
    )

pub codes-loop-i-preserved : goal.codes-loop-i-preserved
codes-loop-i-preserved t c types k before s w f =
    let x = c.args.context.now in
    let structs = structs_in x.parts.now in
    let i = c.loop-i.i in
    let later = codes_of structs (drop i c.args.body.now) in
    let r = c.loop-i.invariant types k before s w f in
    let one = code_of structs c.index-body-i.result in
    let k1 = then_live (before_codes later k) k in
    let p = parted x.names.now (loops_among (codes_of structs (take (i - 1) c.args.body.now))) (loops one) before c.loop-i.effects.items
    (subst (λ ls. Found x.names.now ls before c.loop-i.effects.items) (loops_taken structs c.args.body.now i c.index-body-i.result c.loop-i-test.true c.loop-i.auto.i c.index-body-i.is) r.1) in
    let done = c.in_ok-next.ensures types k1 p.mid s (c.then.ensures x.names.now (before_codes later k) k w r.0.shows) p.second in (
      subst (λ all. CodesDone x types all k c.in_ok-next.next c.args.walk.now c.code.new.walk)
          (sym (codes_at structs c.args.body.now i c.index-body-i.result c.loop-i-test.true c.loop-i.auto.i c.index-body-i.is))
          (codes_more x types one later k c.loop-i.next c.in_ok-next.next c.args.walk.now c.loop-i.walk c.code.new.walk r.0 done.0),
      subst (λ m. Found x.names.now (loops_among (codes_of structs (take (i - 1) c.args.body.now))) before m) (sym done.1) p.first,
    )

pub codes-returns : goal.codes-returns
codes-returns t c types k before s w f =
    let x = c.args.context.now in
    let structs = structs_in x.parts.now in
    let l = c.loop-i-test.false in
    let e : c.loop-i.i ≡ 0 = omega (arith, l) in
    let r = c.loop-i.invariant types k before s w f in (
      subst (λ i. CodesDone x types (codes_of structs (drop i c.args.body.now)) k c.loop-i.next c.args.walk.now c.loop-i.walk) e r.0,
      nothing_found x.names.now before c.loop-i.effects.items (subst (λ i. Found x.names.now (loops_among (codes_of structs (take i c.args.body.now))) before c.loop-i.effects.items) e r.1),
    )
