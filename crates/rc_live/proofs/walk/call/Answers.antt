use Rattle.std.proofs.Common.{sym, ◌∙◌, subst}
use Rattle.std.specs.Prelude.{OnOk}
use Rattle.rc_rlang.specs.LiveLists.{held_if}
use Rattle.rc_live.specs.Walking.{WentBack, deletes_in}
use Rattle.rc_live.proofs.walk.call.Goals as goal

pub returns-then-function_deletes : goal.returns-then-function_deletes
returns-then-function_deletes c types l s h =
    subst (λ b. OnOk c.list.result (WentBack 1 (λ here. held_if (deletes_in c.args.context.now) types b here l) c.args.walk.now c.list.new.self))
    (sym (sym c.function_deletes.ensures ∙ c.if-function_deletes.true)) (c.list.ensures (deletes_in c.args.context.now) types l s.names h)

pub returns-else-function_deletes : goal.returns-else-function_deletes
returns-else-function_deletes c types l s h =
    subst (λ b. WentBack 1 (λ here. held_if (deletes_in c.args.context.now) types b here l) c.args.walk.now c.pass.new.self)
    (sym (sym c.function_deletes.ensures ∙ c.if-function_deletes.false)) c.pass.ensures
