use Rattle.std.proofs.Common.{◌≡◌, ◌∙◌, [], ◌∷◌, ◌++◌, Some, ◌+◌, false, length, length-append, refl, sym, ap, subst, arith, rules}
use Rattle.rc_space.specs.Spaces.{AreFreed, IsSpace, SpaceState, area_at, no_area, regions_of}
use Rattle.rc_space.proofs.Grown.{behind_same, behind_there, freed_behind, freed_more, regions_added, space_behind}
use Rattle.rc_space.proofs.Sets.{clear_more}
use Rattle.rc_registry.specs.Groups.{AreClear}
use Rattle.rc_space.proofs.space.Space.add.Goals as goal

pub returns-then-slot-len-clause-ok : goal.returns-then-slot-len-clause-ok
returns-then-slot-len-clause-ok g c =
    let s = c.self.inside in
    let new = c.in_ok-slot.ensures in
    let slot = c.in_ok-slot.field-0 in
    let items : c.push.new.self.items ≡ s.areas.items ++ no_area ∷ [] = search rules in
    let last : slot ≡ length s.areas.items = search rules in
    ap (λ ms. regions_of ms c.push.new.self.items s.shapes) new.made
    ∙ regions_added s.registry.members s.areas.items c.push.new.self.items s.shapes slot c.args.parent new.alone
    (λ k apart. ap (λ xs. area_at xs k) items ∙ behind_same s.areas.items no_area k (λ e. apart (e ∙ sym last)))
    (ap (λ xs. area_at xs slot) items ∙ ap (area_at (s.areas.items ++ no_area ∷ [])) last ∙ behind_there s.areas.items no_area)
    ∙ ap (λ (x : SpaceState). x.regions ++ Some (record { parent = c.args.parent; objects = [] }) ∷ []) c.self.view_is

pub returns-else-slot-len-clause-ok : goal.returns-else-slot-len-clause-ok
returns-else-slot-len-clause-ok g c =
    let s = c.self.inside in
    let made = c.in_ok-slot.ensures in
    let slot = c.in_ok-slot.field-0 in
    ap (λ xs. regions_of c.add.new.self.members xs s.shapes) c.in-Ok.ensures.items
    ∙ ap (λ ms. regions_of ms s.areas.items s.shapes) made.made
    ∙ regions_added s.registry.members s.areas.items s.areas.items s.shapes slot c.args.parent made.alone (λ k apart. refl) (c.self.invariant.freed slot made.alone)
    ∙ ap (λ (x : SpaceState). x.regions ++ Some (record { parent = c.args.parent; objects = [] }) ∷ []) c.self.view_is

pub invariant_of-self-then-slot-len : goal.invariant_of-self-then-slot-len
invariant_of-self-then-slot-len g c =
    let s = c.self.inside in
    let made = c.in_ok-slot.ensures in
    let slot = c.in_ok-slot.field-0 in
    let all = s.areas.items ++ no_area ∷ [] in
    let items : c.push.new.self.items ≡ s.areas.items ++ no_area ∷ [] = search rules in
    let marks : c.push-then-slot-len.new.self.items ≡ s.marks.items ++ false ∷ [] = search rules in
    let last : slot ≡ length s.areas.items = search rules in
    let slots : c.add.new.self.slots ≡ s.registry.slots + 1 = omega (arith, made.slots, last, c.self.invariant.space.count) in
    record {
      space = subst (λ xs. IsSpace c.add.new.self.slots xs s.shapes) (sym items) (subst (λ n. IsSpace n all s.shapes) (sym slots) (space_behind s.registry.slots s.areas.items s.shapes c.self.invariant.space));
      freed = subst (AreFreed c.add.new.self.members) (sym items) (subst (λ ms. AreFreed ms all) (sym made.made) (freed_more s.registry.members _ all (freed_behind s.registry.members s.areas.items c.self.invariant.freed)));
      count = omega (arith, ap length marks, length-append s.marks.items (false ∷ []), c.self.invariant.count, slots);
      clear = subst AreClear (sym marks) (clear_more s.marks.items c.self.invariant.clear);
    }

pub invariant_of-self-else-slot-len : goal.invariant_of-self-else-slot-len
invariant_of-self-else-slot-len g c =
    let s = c.self.inside in
    let made = c.in_ok-slot.ensures in
    let slots : c.add.new.self.slots ≡ s.registry.slots = search rules in
    record {
      space = subst (λ xs. IsSpace c.add.new.self.slots xs s.shapes) (sym c.in-Ok.ensures.items) (subst (λ n. IsSpace n s.areas.items s.shapes) (sym slots) c.self.invariant.space);
      freed = subst (AreFreed c.add.new.self.members) (sym c.in-Ok.ensures.items) (subst (λ ms. AreFreed ms s.areas.items) (sym made.made) (freed_more s.registry.members _ s.areas.items c.self.invariant.freed));
      count = ap length c.in-Ok-reserve.ensures.items ∙ c.self.invariant.count ∙ sym slots;
      clear = subst AreClear (sym c.in-Ok-reserve.ensures.items) c.self.invariant.clear;
    }
