use Rattle.std.proofs.Common.{◌≡◌, ◌<◌, ◌≤◌, ◌+◌, ◌-◌, ◌∙◌, ℕ, false, refl, sym, ap, subst, arith}
use Rattle.std.proofs.lemmas.Bool.{false≢true}
use Rattle.rc_store.specs.Kept.{KeptStore, Regions}
use Rattle.rc_store.specs.Sets.{IsSet, deleted_all, has_child_outside, set_refs, without}
use Rattle.rc_cells.proofs.Together.{sets_follow}
use Rattle.rc_space.specs.Spaces.{SpaceState, count_of}
use Rattle.rc_count.specs.Counted.{IsCounted}
use Rattle.rc_count.specs.Together.{all_held, cells_among}
use Rattle.rc_count.proofs.Setting.{counted_set, named_set, set_cells, set_cells_fit, set_enough, set_named, set_room, set_unnamed}
use Rattle.rc_count.proofs.count.CountHeapSetHeap.delete_set.Goals as goal

pub take_back_all-requires-clause-enough : goal.take_back_all-requires-clause-enough
take_back_all-requires-clause-enough g c =
    let h = c.self.inside in
    let s : KeptStore = record { regions = h.space.regions; pins = h.pins.pins; spare = h.pins.spare; region_limit = h.region_limit; block_limit = h.block_limit } in
    let set = c.args.set.now in
    let all : IsSet s set = subst (λ x. IsSet x set) (sym c.self.view_is) c.requires in
    subst (λ (x : SpaceState). (r : ℕ) → all_held x.regions set r ≤ count_of x r) (sym c.has_child_outside.ensures.same) (set_enough h.space s h.cells c.self.invariant set all)

pub give_all-requires-clause-few : goal.give_all-requires-clause-few
give_all-requires-clause-few g c =
    let h = c.self.inside in
    let s : KeptStore = record { regions = h.space.regions; pins = h.pins.pins; spare = h.pins.spare; region_limit = h.region_limit; block_limit = h.block_limit } in
    let set = c.args.set.now in
    let all : IsSet s set = subst (λ x. IsSet x set) (sym c.self.view_is) c.requires in
    let same = c.has_child_outside.ensures.same in
    let mid = c.take_back_all.new.space in
    let regions : mid.regions ≡ s.regions = c.take_back_all.ensures.regions ∙ ap (λ (x : SpaceState). x.regions) same in
    let less : (r : ℕ) → count_of mid r + all_held s.regions set r ≡ count_of h.space r = λ r. ap (λ (x : SpaceState). count_of mid r + all_held x.regions set r) (sym same) ∙ c.take_back_all.ensures.counts r ∙ ap (λ (x : SpaceState). count_of x r) same in
    λ r. subst (λ rs. count_of mid r + all_held rs set r ≤ 18446744073709551615) (sym regions) (set_room h.space s h.cells c.self.invariant set all mid less r)

pub returns-then-is_named-clause-reference : goal.returns-then-is_named-clause-reference
returns-then-is_named-clause-reference g c =
    let h = c.self.inside in
    let s : KeptStore = record { regions = h.space.regions; pins = h.pins.pins; spare = h.pins.spare; region_limit = h.region_limit; block_limit = h.block_limit } in
    let set = c.args.set.now in
    let all : IsSet s set = subst (λ x. IsSet x set) (sym c.self.view_is) c.requires in
    let same = c.has_child_outside.ensures.same in
    let mid = c.take_back_all.new.space in
    let less : (r : ℕ) → count_of mid r + all_held s.regions set r ≡ count_of h.space r = λ r. ap (λ (x : SpaceState). count_of mid r + all_held x.regions set r) (sym same) ∙ c.take_back_all.ensures.counts r ∙ ap (λ (x : SpaceState). count_of x r) same in
    let closed : has_child_outside set c.args.self.now.regions ≡ false = ap (λ (x : KeptStore). has_child_outside set x.regions) (sym c.self.view_is) ∙ sym c.has_child_outside.ensures.child ∙ c.if-has_child_outside.false in
    let some : 0 < set_refs c.args.self.now set = subst (λ x. 0 < set_refs x set) c.self.view_is (named_set h.space s h.cells c.self.invariant set all mid less (c.is_named.ensures.0 c.if-is_named.true)) in
    ((λ _. ((λ has. false≢true (sym c.if-has_root.false ∙ c.has_root.ensures.1 has)), closed, some)), (λ _. refl))

pub cells_of-requires-clause-few : goal.cells_of-requires-clause-few
cells_of-requires-clause-few g c =
    let h = c.self.inside in
    let s : KeptStore = record { regions = h.space.regions; pins = h.pins.pins; spare = h.pins.spare; region_limit = h.region_limit; block_limit = h.block_limit } in
    let set = c.args.set.now in
    let all : IsSet s set = subst (λ x. IsSet x set) (sym c.self.view_is) c.requires in
    let mid = c.take_back_all.new.space in
    let regions : mid.regions ≡ s.regions = c.take_back_all.ensures.regions ∙ ap (λ (x : SpaceState). x.regions) c.has_child_outside.ensures.same in
    subst (λ rs. cells_among rs set ≤ 18446744073709551615) (sym regions) (set_cells_fit h.space s h.cells c.self.invariant set all)

pub overflow_sub-self : goal.overflow_sub-self
overflow_sub-self g c =
    let h = c.self.inside in
    let s : KeptStore = record { regions = h.space.regions; pins = h.pins.pins; spare = h.pins.spare; region_limit = h.region_limit; block_limit = h.block_limit } in
    let set = c.args.set.now in
    let all : IsSet s set = subst (λ x. IsSet x set) (sym c.self.view_is) c.requires in
    let mid = c.take_back_all.new.space in
    let regions : mid.regions ≡ s.regions = c.take_back_all.ensures.regions ∙ ap (λ (x : SpaceState). x.regions) c.has_child_outside.ensures.same in
    let few = set_cells h.space s h.cells c.self.invariant set all in
    let low : c.cells_of.result ≤ h.cells = omega (arith, few, c.cells_of.ensures, ap (λ rs. cells_among rs set) regions) in
    low

pub remove_all-requires-clause-unnamed : goal.remove_all-requires-clause-unnamed
remove_all-requires-clause-unnamed g c =
    let h = c.self.inside in
    let s : KeptStore = record { regions = h.space.regions; pins = h.pins.pins; spare = h.pins.spare; region_limit = h.region_limit; block_limit = h.block_limit } in
    let set = c.args.set.now in
    let all : IsSet s set = subst (λ x. IsSet x set) (sym c.self.view_is) c.requires in
    let same = c.has_child_outside.ensures.same in
    let mid = c.take_back_all.new.space in
    let less : (r : ℕ) → count_of mid r + all_held s.regions set r ≡ count_of h.space r = λ r. ap (λ (x : SpaceState). count_of mid r + all_held x.regions set r) (sym same) ∙ c.take_back_all.ensures.counts r ∙ ap (λ (x : SpaceState). count_of x r) same in
    set_unnamed h.space s h.cells c.self.invariant set all mid less (λ named. false≢true (sym c.if-is_named.false ∙ c.is_named.ensures.1 named))

pub invariant_of-self-2 : goal.invariant_of-self-2
invariant_of-self-2 g c =
    let h = c.self.inside in
    let s : KeptStore = record { regions = h.space.regions; pins = h.pins.pins; spare = h.pins.spare; region_limit = h.region_limit; block_limit = h.block_limit } in
    let set = c.args.set.now in
    let all : IsSet s set = subst (λ x. IsSet x set) (sym c.self.view_is) c.requires in
    let same = c.has_child_outside.ensures.same in
    let mid = c.take_back_all.new.space in
    let with : Regions → KeptStore = λ rs. record s { regions = rs } in
    let regions : mid.regions ≡ s.regions = c.take_back_all.ensures.regions ∙ ap (λ (x : SpaceState). x.regions) same in
    let less : (r : ℕ) → count_of mid r + all_held s.regions set r ≡ count_of h.space r = λ r. ap (λ (x : SpaceState). count_of mid r + all_held x.regions set r) (sym same) ∙ c.take_back_all.ensures.counts r ∙ ap (λ (x : SpaceState). count_of x r) same in
    let left : deleted_all set s ≡ with c.remove_all.new.self.regions = sets_follow.left s set ∙ ap with (sym (c.remove_all.ensures.regions ∙ ap (without set) regions)) in
    let closed : has_child_outside set s.regions ≡ false = sym c.has_child_outside.ensures.child ∙ c.if-has_child_outside.false in
    subst (λ x. IsCounted c.remove_all.new.self x (h.cells - c.cells_of.result)) left
    (counted_set h.space s h.cells c.self.invariant set all mid less c.remove_all.new.self (h.cells - c.cells_of.result) (λ has. false≢true (sym c.if-has_root.false ∙ c.has_root.ensures.1 has)) closed
    (λ named. false≢true (sym c.if-is_named.false ∙ c.is_named.ensures.1 named)) c.remove_all.ensures.counts (ap (λ n. h.cells - n) (c.cells_of.ensures ∙ ap (λ rs. cells_among rs set) regions)))

pub returns-clause-ok : goal.returns-clause-ok
returns-clause-ok g c =
    let h = c.self.inside in
    let s : KeptStore = record { regions = h.space.regions; pins = h.pins.pins; spare = h.pins.spare; region_limit = h.region_limit; block_limit = h.block_limit } in
    let set = c.args.set.now in
    let mid = c.take_back_all.new.space in
    let with : Regions → KeptStore = λ rs. record s { regions = rs } in
    let regions : mid.regions ≡ s.regions = c.take_back_all.ensures.regions ∙ ap (λ (x : SpaceState). x.regions) c.has_child_outside.ensures.same in
    let left : deleted_all set s ≡ with c.remove_all.new.self.regions = sets_follow.left s set ∙ ap with (sym (c.remove_all.ensures.regions ∙ ap (without set) regions)) in
    sym left ∙ ap (deleted_all set) c.self.view_is

pub returns-clause-reference : goal.returns-clause-reference
returns-clause-reference g c =
    let h = c.self.inside in
    let s : KeptStore = record { regions = h.space.regions; pins = h.pins.pins; spare = h.pins.spare; region_limit = h.region_limit; block_limit = h.block_limit } in
    let set = c.args.set.now in
    let all : IsSet s set = subst (λ x. IsSet x set) (sym c.self.view_is) c.requires in
    let same = c.has_child_outside.ensures.same in
    let mid = c.take_back_all.new.space in
    let less : (r : ℕ) → count_of mid r + all_held s.regions set r ≡ count_of h.space r = λ r. ap (λ (x : SpaceState). count_of mid r + all_held x.regions set r) (sym same) ∙ c.take_back_all.ensures.counts r ∙ ap (λ (x : SpaceState). count_of x r) same in (
      (λ never. absurd (let clash : ⊥ = cc in clash)),
      (λ has.
          let named = set_named h.space s h.cells c.self.invariant set all mid less (subst (λ x. 0 < set_refs x set) (sym c.self.view_is) has.2) in
          absurd (false≢true (sym c.if-is_named.false ∙ c.is_named.ensures.1 named))),
    )
