use Rattle.std.proofs.Common.{◌≡◌, ◌*◌, ◌∙◌, [], ◌∷◌, ◌++◌, get_or, length, map, sym, ap, subst}
use Rattle.rc_space.specs.Spaces.{SpaceState, area_at, regions_of}
use Rattle.std.proofs.lemmas.List.{length-map, with_items_is}
use Rattle.std.proofs.lemmas.Option.{get_or_from_slice_get}
use Rattle.std.proofs.lemmas.Result.{on_err_weaker, on_ok_weaker}
use Rattle.rc_core.specs.Laid.{held_kind}
use Rattle.rc_core.specs.Shapes.{cell_kind_of}
use Rattle.rc_core.specs.Shapes.{kinds_in}
use Rattle.rc_store.specs.Kept.{blank}
use Rattle.rc_areas.specs.Areas.{AreaState, IsLaid, objects_of}
use Rattle.rc_areas.specs.Shapes.{with_shape}
use Rattle.rc_registry.specs.Registries.{RegistryState}
use Rattle.rc_space.specs.Spaces.{AreFreed, IsBeside, IsSpace}
use Rattle.rc_store.specs.Stores.{objects_in, with_objects}
use Rattle.rc_space.proofs.Shown.{live_shown, objects_shown}
use Rattle.rc_space.proofs.Grown.{freed_beside, regions_beside, regions_stay, shape_laid, shape_objects, space_beside}
use Rattle.rc_space.proofs.space.Space.push.Goals as goal

pub push_object-requires-clause-laid : goal.push_object-requires-clause-laid
push_object-requires-clause-laid g c =
    let s = c.self.inside in
    let areas = s.areas.items in
    let ms = s.registry.members in
    let slots = s.registry.slots in
    let view = ap (λ (x : SpaceState). x.regions) c.self.view_is in
    let r = c.args.region in
    let slot = c.find-slot.result in
    let ks = map held_kind (kinds_in c.args.layout.now) in
    let shapes = c.number.new.self in
    let more : shapes ≡ with_shape ks s.shapes = c.in_ok-shape.ensures.shapes in
    let kept : (a : AreaState) → IsLaid s.shapes a → IsLaid shapes a = λ a laid. subst (λ x. IsLaid x a) (sym more) (shape_laid s.shapes ks a laid) in
    subst (λ xs. IsLaid shapes (area_at xs slot)) (sym c.deref_mut.ensures.value) (kept (area_at areas slot) (c.self.invariant.space.laid slot))

pub push_object-requires-clause-size : goal.push_object-requires-clause-size
push_object-requires-clause-size g c =
    let layout = c.args.layout.now in
    let ks = map held_kind (kinds_in layout) in
    let shape = get_or_from_slice_get c.number.new.self c.in_ok-shape.shape ks [] c.in_ok-shape.ensures.number in
    c.requires.size ∙ ap (λ n. c.args.count * n) (sym (ap length shape ∙ length-map (kinds_in layout) held_kind ∙ length-map layout.cells.items cell_kind_of))

pub invariant_of-self-2 : goal.invariant_of-self-2
invariant_of-self-2 g c =
    let s = c.self.inside in
    let areas = s.areas.items in
    let ms = s.registry.members in
    let slots = s.registry.slots in
    let view = ap (λ (x : SpaceState). x.regions) c.self.view_is in
    let r = c.args.region in
    let slot = c.find-slot.result in
    let ks = map held_kind (kinds_in c.args.layout.now) in
    let shapes = c.number.new.self in
    let more : shapes ≡ with_shape ks s.shapes = c.in_ok-shape.ensures.shapes in
    let kept : (a : AreaState) → IsLaid s.shapes a → IsLaid shapes a = λ a laid. subst (λ x. IsLaid x a) (sym more) (shape_laid s.shapes ks a laid) in
    let new = c.push_object.new.areas in
    let beside : IsBeside slot areas new = subst (λ xs. IsBeside slot xs new) c.deref_mut.ensures.value c.push_object.ensures.beside in
    let items = with_items_is s.areas new (c.push_object.ensures.beside.count ∙ c.deref_mut.ensures.len) in
    record {
      space = subst (λ xs. IsSpace c.find-slot.new.self.slots xs shapes) (sym items) (subst (λ (x : RegistryState). IsSpace x.slots new shapes) (sym c.find-slot.ensures.same) (space_beside slots slot areas new s.shapes shapes c.self.invariant.space beside kept c.push_object.ensures.laid));
      freed = subst (λ xs. AreFreed c.find-slot.new.self.members xs) (sym items) (subst (λ (x : RegistryState). AreFreed x.members new) (sym c.find-slot.ensures.same) (freed_beside ms areas new r slot (live_shown ms areas s.shapes slots c.self.invariant.space c.args.self.now.regions view r c.requires.live) c.find-slot.ensures.slot beside c.self.invariant.freed));
      count = c.self.invariant.count ∙ ap (λ (x : RegistryState). x.slots) (sym c.find-slot.ensures.same);
      clear = c.self.invariant.clear;
    }

pub returns-clause-ok : goal.returns-clause-ok
returns-clause-ok g c =
    let s = c.self.inside in
    let areas = s.areas.items in
    let ms = s.registry.members in
    let slots = s.registry.slots in
    let view = ap (λ (x : SpaceState). x.regions) c.self.view_is in
    let r = c.args.region in
    let slot = c.find-slot.result in
    let ks = map held_kind (kinds_in c.args.layout.now) in
    let shapes = c.number.new.self in
    let more : shapes ≡ with_shape ks s.shapes = c.in_ok-shape.ensures.shapes in
    let kept : (a : AreaState) → IsLaid s.shapes a → IsLaid shapes a = λ a laid. subst (λ x. IsLaid x a) (sym more) (shape_laid s.shapes ks a laid) in
    let new = c.push_object.new.areas in
    let beside : IsBeside slot areas new = subst (λ xs. IsBeside slot xs new) c.deref_mut.ensures.value c.push_object.ensures.beside in
    let items = with_items_is s.areas new (c.push_object.ensures.beside.count ∙ c.deref_mut.ensures.len) in
    let objects_kept : (a : AreaState) → IsLaid s.shapes a → objects_of shapes a ≡ objects_of s.shapes a = λ a laid. ap (λ x. objects_of x a) more ∙ shape_objects s.shapes ks a laid in
    let live = live_shown ms areas s.shapes slots c.self.invariant.space c.args.self.now.regions view r c.requires.live in
    on_ok_weaker c.push_object.result (λ pushed.
    let same : objects_of shapes (area_at new slot) ≡ objects_in c.args.self.now.regions r ++ blank ks c.args.count ∷ [] =
    pushed
    ∙ ap (λ xs. objects_of shapes (area_at xs slot) ++ blank (get_or shapes c.in_ok-shape.shape []) c.args.count ∷ []) c.deref_mut.ensures.value
    ∙ ap (λ os. os ++ blank (get_or shapes c.in_ok-shape.shape []) c.args.count ∷ []) (objects_kept (area_at areas slot) (c.self.invariant.space.laid slot) ∙ sym (objects_shown ms areas s.shapes slots c.self.invariant.space c.args.self.now.regions view r slot c.requires.live c.find-slot.ensures.slot))
    ∙ ap (λ k. objects_in c.args.self.now.regions r ++ blank k c.args.count ∷ []) (get_or_from_slice_get shapes c.in_ok-shape.shape ks [] c.in_ok-shape.ensures.number) in
    ap (λ xs. regions_of c.find-slot.new.self.members xs shapes) items
    ∙ ap (λ (x : RegistryState). regions_of x.members new shapes) c.find-slot.ensures.same
    ∙ regions_beside ms areas new s.shapes shapes slots r slot (objects_in c.args.self.now.regions r ++ blank ks c.args.count ∷ []) live c.find-slot.ensures.slot (λ n there other e. other (c.find-slot.ensures.apart.apart n r there live (e ∙ c.find-slot.ensures.slot)))
    c.self.invariant.space beside objects_kept same
    ∙ ap (with_objects r (objects_in c.args.self.now.regions r ++ blank ks c.args.count ∷ [])) view) c.push_object.ensures.ok

pub returns-clause-err : goal.returns-clause-err
returns-clause-err g c =
    let s = c.self.inside in
    let areas = s.areas.items in
    let ms = s.registry.members in
    let slots = s.registry.slots in
    let view = ap (λ (x : SpaceState). x.regions) c.self.view_is in
    let r = c.args.region in
    let slot = c.find-slot.result in
    let ks = map held_kind (kinds_in c.args.layout.now) in
    let shapes = c.number.new.self in
    let more : shapes ≡ with_shape ks s.shapes = c.in_ok-shape.ensures.shapes in
    let kept : (a : AreaState) → IsLaid s.shapes a → IsLaid shapes a = λ a laid. subst (λ x. IsLaid x a) (sym more) (shape_laid s.shapes ks a laid) in
    let new = c.push_object.new.areas in
    let beside : IsBeside slot areas new = subst (λ xs. IsBeside slot xs new) c.deref_mut.ensures.value c.push_object.ensures.beside in
    let items = with_items_is s.areas new (c.push_object.ensures.beside.count ∙ c.deref_mut.ensures.len) in
    let objects_kept : (a : AreaState) → IsLaid s.shapes a → objects_of shapes a ≡ objects_of s.shapes a = λ a laid. ap (λ x. objects_of x a) more ∙ shape_objects s.shapes ks a laid in
    on_err_weaker c.push_object.result (λ same.
    ap (λ xs. regions_of c.find-slot.new.self.members xs shapes) items
    ∙ ap (λ (x : RegistryState). regions_of x.members new shapes) c.find-slot.ensures.same
    ∙ regions_stay ms areas new s.shapes shapes slots slot c.self.invariant.space beside objects_kept (same ∙ ap (λ xs. area_at xs slot) c.deref_mut.ensures.value)
    ∙ view) c.push_object.ensures.err
