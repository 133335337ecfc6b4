-- A store is whole region by region.
use Rattle.std.proofs.Common.{◌≡◌, ◌≢◌, ◌<◌, ◌∙◌, ℕ, zero, suc, Bool, IsTrue, inl, inr, List, [], ◌∷◌, length, set, get_or, Option, Some, None, refl, sym, ap, subst, arith}
use Rattle.std.specs.List.{All}
use Rattle.std.proofs.lemmas.Bool.{cases_eq, false≢true}
use Rattle.std.proofs.lemmas.List.{get_or-set_other, get_or-set_same}
use Rattle.std.proofs.Math.Path.{fun_ext}
use Rattle.rc_core.specs.declared.layouts.Kind.TheVariants.{Number as NumberKind}
use Rattle.rc_core.specs.Heap.{is_fresh}
use Rattle.rc_store.specs.Kept.{KeptObject, KeptStore, KeptView, Regions}
use Rattle.rc_store.specs.Stores.{HasCell, IsFresh, IsLive, cell_place, cell_value, is_view, live_in, no_object, or_none, parent_in, region_at, view_in, with_objects}
use Rattle.rc_store.specs.Whole.{IsFilled, IsWhole}
use Rattle.rc_store.proofs.Changed.{objects_set}
use Rattle.rc_whole.proofs.Fitting.{Right}

pub record ObjectRight (live : ℕ → Bool) (parent : ℕ → ℕ) (r : ℕ) (o : KeptObject) : Type 0 where
  pub filled : IsFilled o
  pub cells : (index cell : ℕ) → HasCell o index cell → Right live parent r (get_or o.kinds (cell_place o index cell) NumberKind) (cell_value o index cell)

pub record RegionRight (live : ℕ → Bool) (parent : ℕ → ℕ) (r : ℕ) (v : KeptView) : Type 0 where
  pub up : IsTrue (live v.parent)
  pub older : r ≢ 0 → v.parent < r
  pub objects : (o : ℕ) → o < length v.objects → ObjectRight live parent r (get_or v.objects o no_object)

pub split : (s : KeptStore) → IsWhole s → (r : ℕ) → IsLive s r → RegionRight (live_in s.regions) (parent_in s.regions) r (view_in s.regions r)
split s whole r live = record {
  up = whole.parents r live;
  older = whole.older r live;
  objects = λ o there. record {
    filled = whole.filled r o live there;
    cells = λ index cell has.
        let stands = whole.cells (record { pointer = record { region = r; object = o; index = index }; cell = cell }) (record { live = live; object = there; cell = has }) in
        record { kind = stands.kind; fresh = stands.fresh; fit = stands.fit };
  };
}

pub join : (s : KeptStore) → IsLive s 0 → ((r : ℕ) → IsLive s r → RegionRight (live_in s.regions) (parent_in s.regions) r (view_in s.regions r)) → All (IsFresh s) s.pins → IsWhole s
join s root each pins = record {
  root = root;
  parents = λ r live. (each r live).up;
  older = λ r live. (each r live).older;
  filled = λ r o live there. ((each r live).objects o there).filled;
  cells = λ p has.
      let right = ((each p.pointer.region has.live).objects p.pointer.object has.object).cells p.pointer.index p.cell has.cell in
      record { kind = right.kind; fresh = right.fresh; fit = right.fit };
  pins = pins;
}

-- a region whose cells stand rightly still
pub region_moved : (live live1 : ℕ → Bool) (parent parent1 : ℕ → ℕ) (r : ℕ) (v : KeptView) → IsTrue (live1 v.parent)
    → ((o index cell : ℕ) → o < length v.objects → (let o1 = get_or v.objects o no_object in HasCell o1 index cell → Right live parent r (get_or o1.kinds (cell_place o1 index cell) NumberKind) (cell_value o1 index cell) → Right live1 parent1 r (get_or o1.kinds (cell_place o1 index cell) NumberKind) (cell_value o1 index cell)))
    → RegionRight live parent r v → RegionRight live1 parent1 r v
region_moved live live1 parent parent1 r v up good right = record {
  up = up;
  older = right.older;
  objects = λ o there. record { filled = (right.objects o there).filled; cells = λ index cell has. good o index cell there has ((right.objects o there).cells index cell has) };
}

-- reading a list of regions
pub region_read : (regions : Regions) (q : ℕ) → region_at regions q ≡ get_or regions q None
region_read [] q = refl
region_read (v ∷ views) zero = refl
region_read (v ∷ views) (suc q) = region_read views q

pub live_there : (regions : Regions) (q : ℕ) → IsTrue (live_in regions q) → q < length regions
live_there [] q live = absurd (false≢true live)
live_there (v ∷ views) zero live = omega arith
live_there (v ∷ views) (suc q) live = omega (arith, live_there views q live)

pub read_set : (regions : Regions) (q : ℕ) (w : Option KeptView) → q < length regions → region_at (set regions q w) q ≡ w
read_set regions q w inside = region_read (set regions q w) q ∙ get_or-set_same regions q w None inside

pub read_beside : (regions : Regions) (q r : ℕ) (w : Option KeptView) → r ≢ q → region_at (set regions q w) r ≡ region_at regions r
read_beside regions q r w apart = region_read (set regions q w) r ∙ get_or-set_other regions q r w None apart ∙ sym (region_read regions r)

some_view : (v : Option KeptView) → IsTrue (is_view v) → v ≡ Some (or_none v)
some_view None live = absurd (false≢true live)
some_view (Some v) live = refl

-- a live region has other objects
module _ (s : KeptStore) (q : ℕ) (objects : List KeptObject) (whole : IsWhole s) (live : IsLive s q) where
  abbrev views : Regions
  views = with_objects q objects s.regions

  there : region_at views q ≡ Some (record { parent = parent_in s.regions q; objects = objects })
  there = ap (λ rs. region_at rs q) (objects_set q objects s.regions live) ∙ read_set s.regions q _ (live_there s.regions q live)

  beside : (r : ℕ) → r ≢ q → region_at views r ≡ region_at s.regions r
  beside r apart = ap (λ rs. region_at rs r) (objects_set q objects s.regions live) ∙ read_beside s.regions q r _ apart

  lives : live_in views ≡ live_in s.regions
  lives = fun_ext (λ r. elim (cases_eq r q) [
    | inl same ↦ ap (live_in views) same ∙ ap is_view there ∙ sym (ap (live_in s.regions) same ∙ live)
    | inr apart ↦ ap is_view (beside r apart)
  ])

  parents : parent_in views ≡ parent_in s.regions
  parents = fun_ext (λ r. elim (cases_eq r q) [
    | inl same ↦ ap (parent_in views) same ∙ ap (λ v. (or_none v).parent) there ∙ sym (ap (parent_in s.regions) same)
    | inr apart ↦ ap (λ v. (or_none v).parent) (beside r apart)
  ])

  pub objects_changed : ((o : ℕ) → o < length objects → ObjectRight (live_in s.regions) (parent_in s.regions) q (get_or objects o no_object)) → IsWhole (record s { regions = views })
  objects_changed good = join (record s { regions = views }) (ap (λ l. l 0) lives ∙ whole.root) (λ r l. subst (λ f. RegionRight f (parent_in views) r (view_in views r)) (sym lives) (subst (λ f. RegionRight (live_in s.regions) f r (view_in views r)) (sym parents) (each r (ap (λ f. f r) (sym lives) ∙ l)))) pins
    where
      here : RegionRight (live_in s.regions) (parent_in s.regions) q (record { parent = parent_in s.regions q; objects = objects })
      here = record { up = whole.parents q live; older = whole.older q live; objects = good }

      each : (r : ℕ) → IsTrue (live_in s.regions r) → RegionRight (live_in s.regions) (parent_in s.regions) r (view_in views r)
      each r l = elim (cases_eq r q) [
        | inl same ↦ subst (λ n. RegionRight (live_in s.regions) (parent_in s.regions) n (view_in views n)) (sym same) (subst (λ v. RegionRight (live_in s.regions) (parent_in s.regions) q (or_none v)) (sym there) here)
        | inr apart ↦ subst (λ v. RegionRight (live_in s.regions) (parent_in s.regions) r (or_none v)) (sym (beside r apart)) (split s whole r l)
      ]

      pins : All (IsFresh (record s { regions = views })) s.pins
      pins = subst (λ f. All (λ v. IsTrue (is_fresh f v)) s.pins) (sym lives) whole.pins
