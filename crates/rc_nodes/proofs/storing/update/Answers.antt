use Rattle.std.proofs.Common.{◌≡◌, ◌∙◌, sym, ap, subst}
use Rattle.rc_core.specs.Execution.{changed}
use Rattle.rc_core.specs.Runs.{Run, Go, bind}
use Rattle.rc_nodes.specs.Coming.{Comes}
use Rattle.rc_memory.specs.Kept.{load}
use Rattle.rc_memory.specs.KeptWorld.{KeptWorld, kept, giving}
use Rattle.rc_nodes.specs.Stepping.{Doing, going_next}
use Rattle.rc_values.specs.Values.{value_of}
use Rattle.rc_nodes.proofs.storing.update.Goals as goal

pub returns : goal.returns
returns c = λ program frames env w at_heap.
    let P : Run KeptWorld Doing → Type 0 = Comes c.update_from.result frames env c.update_from.new.heap w in
    let read : kept.load c.args.line c.args.target.now w ≡ Go (value_of c.in_ok-old.old) w = ap (λ h. giving (load h c.args.line c.args.target.now) w) at_heap ∙ ap (λ o. giving o w) c.in_ok-old.ensures in
    subst P (sym (ap (λ m. bind m (λ old w1. bind (changed kept program c.args.line c.args.by old (value_of c.args.value) w1) (λ new w2. bind (kept.store c.args.line c.args.target.now new w2) (going_next program frames env)))) read))
    (c.update_from.ensures program frames env w at_heap)
