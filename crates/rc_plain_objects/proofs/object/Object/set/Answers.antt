use Rattle.rc_plain_objects.proofs.Cells.{object_set}
use Rattle.rc_plain_objects.proofs.object.Object.set.Goals as goal

pub returns : goal.returns
returns g c =
    object_set c.self.inside.count c.self.inside.size c.self.inside.slots.items c.place-place.result c.index_mut-slot.result.now c.args.value c.args.self.now c.args.index c.args.cell
    c.index_mut-slot.ensures.value c.self.view_is c.place-place.ensures.place
