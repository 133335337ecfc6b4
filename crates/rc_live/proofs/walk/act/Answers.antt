use Rattle.std.proofs.Common.{◌+◌, ◌*◌, [], sym, ap, subst, refl, arith}
use Rattle.rc_core.specs.Layout.{size}
use Rattle.rc_core.specs.Types.{struct}
use Rattle.rc_rlang.specs.Shapes.{act_of}
use Rattle.rc_live.specs.Walking.{structs_in, deletes_in, WentBack, ActDone}
use Rattle.rc_live.proofs.Back.{back_both, back_as}
use Rattle.rc_live.proofs.walk.act.Goals as goal

pub returns-in_ok-call-in-Perform : goal.returns-in_ok-call-in-Perform
returns-in_ok-call-in-Perform c types l s h =
    subst (λ a. ActDone c.args.context.now types a l c.args.live c.args.walk.now c.call.new.walk) (sym (ap (act_of (structs_in c.args.context.now.parts.now)) c.in-Perform.is))
    (record { shows = h; back = c.in_ok-call-in-Perform.ensures types l s h })

pub returns-in-Assign : goal.returns-in-Assign
returns-in-Assign c types l s h =
    subst (λ a. ActDone c.args.context.now types a l c.without.result c.args.walk.now c.pass.new.self) (sym (ap (act_of (structs_in c.args.context.now.parts.now)) c.in-Assign.is))
    (record { shows = c.without.ensures l h; back = c.pass.ensures })

pub returns-in-Store : goal.returns-in-Store
returns-in-Store c types l s h =
    subst (λ a. ActDone c.args.context.now types a l c.args.live c.args.walk.now c.pass-in-Store.new.self) (sym (ap (act_of (structs_in c.args.context.now.parts.now)) c.in-Store.is))
    (record { shows = h; back = c.pass-in-Store.ensures })

pub returns-in-Update : goal.returns-in-Update
returns-in-Update c types l s h =
    subst (λ a. ActDone c.args.context.now types a l c.args.live c.args.walk.now c.pass-in-Update.new.self) (sym (ap (act_of (structs_in c.args.context.now.parts.now)) c.in-Update.is))
    (record { shows = h; back = subst (λ n. WentBack n (λ here. []) c.args.walk.now c.pass-in-Update.new.self) c.points_of_change.ensures c.pass-in-Update.ensures })

pub returns-in-Move : goal.returns-in-Move
returns-in-Move c types l s h =
    let n = c.size_of-cells.result in
    let e = c.size_of-cells.ensures (structs_in c.args.context.now.parts.now) s.laid in
    subst (λ a. ActDone c.args.context.now types a l c.args.live c.args.walk.now c.pass-in-Move-2.new.self) (sym (ap (act_of (structs_in c.args.context.now.parts.now)) c.in-Move.is))
    (record {
      shows = h;
      back = back_as (n + n) (2 * size (structs_in c.args.context.now.parts.now) (struct c.in-Move.structure)) (λ here. []) (λ here. []) c.args.walk.now c.pass-in-Move-2.new.self (omega (arith, e)) (λ here. refl)
          (back_both n n (λ here. []) (λ here. []) c.args.walk.now c.pass-in-Move.new.self c.pass-in-Move-2.new.self c.pass-in-Move.ensures c.pass-in-Move-2.ensures);
    })

pub returns-in_ok-list-in-Delete : goal.returns-in_ok-list-in-Delete
returns-in_ok-list-in-Delete c types l s h =
    subst (λ a. ActDone c.args.context.now types a l c.args.live c.args.walk.now c.list.new.self) (sym (ap (act_of (structs_in c.args.context.now.parts.now)) c.in-Delete.is))
    (record { shows = h; back = c.in_ok-list-in-Delete.ensures (deletes_in c.args.context.now) types l s.names h })

pub returns-in-Leave : goal.returns-in-Leave
returns-in-Leave c types l s h =
    subst (λ a. ActDone c.args.context.now types a l c.empty.result c.args.walk.now c.pass-in-Leave.new.self) (sym (ap (act_of (structs_in c.args.context.now.parts.now)) c.in-Leave.is))
    (record { shows = λ j x d. c.empty.ensures j; back = c.pass-in-Leave.ensures })
