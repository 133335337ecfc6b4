use Rattle.std.proofs.Common.{◌<◌, ◌∙◌, IsTrue, ap, subst}
use Rattle.std.specs.List.{count_by}
use Rattle.rc_store.specs.Kept.{object_refs}
use Rattle.rc_plain_objects.specs.Slots.{slot_refs}
use Rattle.rc_plain_objects.proofs.Cells.{refs_apart}
use Rattle.rc_plain_objects.proofs.object.Object.names.Goals as goal

pub returns-clause-found : goal.returns-clause-found
returns-clause-found g c =
    let region = c.args.region in
    let same = ap (λ slots. count_by (slot_refs region) slots) c.deref.ensures.value ∙ refs_apart region c.self.inside.slots.items ∙ ap (object_refs region) c.self.view_is in
    subst (λ n. (IsTrue c.any_names.result → 0 < n) × (0 < n → IsTrue c.any_names.result)) same c.any_names.ensures.found
