use Rattle.std.proofs.Common.{◌≡◌, sym, subst}
use Rattle.rc_core.specs.declared.ty.Note.TheVariants.{Plain}
use Rattle.rc_store.specs.Kept.{KeptStore}
use Rattle.rc_store.specs.Stores.{MayStand, kind_at}
use Rattle.rc_store.specs.Values.{note_of, value_of}
use Rattle.rc_whole.proofs.Whole.{stays_whole}
use Rattle.rc_scan.proofs.Keeping.{with_regions}
use Rattle.rc_scan.proofs.scan.ScanHeapHeap.write_counted.Goals as goal

pub invariant_of-self : goal.invariant_of-self
invariant_of-self g c =
    let h = c.self.inside in
    let s : KeptStore = record { regions = h.regions; pins = h.pins.pins; spare = h.pins.spare; region_limit = h.region_limit; block_limit = h.block_limit } in
    let p = c.args.place in
    let v = value_of c.args.value in
    let may : MayStand s p v = subst (λ x. MayStand x p v) (sym c.self.view_is) c.requires.may in
    let plain : note_of (kind_at s p) ≡ Plain = subst (λ x. note_of (kind_at x p) ≡ Plain) (sym c.self.view_is) c.requires.plain in
    with_regions s _ _ c.write.ensures (stays_whole.plain s p v c.self.invariant may plain)
