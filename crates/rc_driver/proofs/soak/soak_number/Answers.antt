use Rattle.std.proofs.Common.{◌∙◌, ℕ, List, subst}
use Rattle.rc_outcomes.specs.Outside.{outside}
use Rattle.rc_requests.specs.Request.{usual_limits}
use Rattle.rc_driver.specs.Soaking.{SoakedText}
use Rattle.rc_driver.proofs.Soaks.{not_made, soaked_text}
use Rattle.rc_driver.proofs.soak.soak_number.Goals as goal

pub returns-in_default : goal.returns-in_default
returns-in_default g c = λ request files input err row. not_made request c.args.number row (outside files input (g.O.Sink.state c.args.out.now) err (g.H.Heap.store c.args.heap.now))

pub returns : goal.returns
returns g c = λ request files input err row.
    soaked_text request c.args.number row (outside files input (g.O.Sink.state c.args.out.now) err (g.H.Heap.store c.args.heap.now)) (g.O.Sink.state c.soak_text.new.out) (g.H.Heap.store c.soak_text.new.heap) c.soak_text.result
    (subst (λ (text : List ℕ). SoakedText c.args.number text usual_limits (g.O.Sink.state c.args.out.now) (g.O.Sink.state c.soak_text.new.out) (g.H.Heap.store c.args.heap.now) (g.H.Heap.store c.soak_text.new.heap) c.soak_text.result) (c.as_slice.ensures.value ∙ c.in-Ok.ensures) c.soak_text.ensures)
