use Rattle.std.proofs.Common.{◌∙◌, ap, get_or, false}
use Rattle.rc_registry.specs.Registries.{at_slots, is_marked}
use Rattle.rc_registry.proofs.Marked.{cleared, marked_is, outside_is}
use Rattle.rc_registry.proofs.groups.has_child_outside.Goals as goal

pub returns-clause-child : goal.returns-clause-child
returns-clause-child c =
    let registry = c.args.registry.now in
    let set = c.args.set.now in
    outside_is registry.members set c.set_marks.new.marks
    (λ n here. ap (λ ms. is_marked registry.members ms n) c.set_marks.ensures.marks ∙ marked_is registry.members registry.slots c.set_marks.ensures.apart set c.requires.live c.args.marks.now c.requires.room c.requires.clear n here)
    c.has_unmarked_child-found.result c.has_unmarked_child-found.ensures

pub returns-clause-clear : goal.returns-clause-clear
returns-clause-clear c = λ s.
    let registry = c.args.registry.now in
    let set = c.args.set.now in
    ap (λ ms. get_or ms s false) c.set_marks-2.ensures.marks
    ∙ ap (λ ms. get_or (at_slots registry.members false set ms) s false) c.set_marks.ensures.marks
    ∙ cleared registry.members registry.slots c.set_marks.ensures.apart set c.requires.live c.args.marks.now c.requires.room c.requires.clear s
