use Rattle.std.proofs.Common.{◌<◌, ◌∙◌, ap, sym, arith, length}
use Rattle.rc_registry.specs.Registries.{RegistryState}
use Rattle.rc_registry.proofs.Members.{entry_slot}
use Rattle.rc_registry.proofs.registry.Registry.is_marked.Goals as goal

pub bounds-marks-entry : goal.bounds-marks-entry
bounds-marks-entry c =
    let entry = entry_slot c.self.inside.directory c.args.region c.in-Some.entry (sym c.get.ensures ∙ c.in-Some.is) in
    let low : c.in-Some.entry.slot < length c.args.marks.now = omega (arith, c.self.invariant.below c.args.region entry.0, entry.1, c.requires, ap (λ (x : RegistryState). x.slots) c.self.view_is) in
    low
