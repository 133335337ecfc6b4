-- Reads give fresh values, and writes leave the heap sound.
use Rattle.std.proofs.Common.{◌≡◌, ℕ, ◌<◌, ◌+ℤ◌, ℤ, pos, negsuc, Bool, true, false, ◌&&◌, unsigned_abs, List, [], ◌∷◌, drop, map, refl, ap, ◌∙◌, rules, arith}
use Rattle.std.specs.List.{AllByRecursion as Every, AllZip, list_all}
use Rattle.rc_base.specs.declared.ends.Trap.TheVariants.{Bounds}
use Rattle.rc_core.specs.Layout.{Layout, note_of}
use Rattle.rc_core.specs.Heap.{Value, Number, Null, Handle, Pointer, Address, no_object, live, parent, objects, object_at, is_fresh, fits}
use Rattle.rc_core.specs.Runs.{Run, Target}
use Rattle.rc_core.specs.Source.{World, at_address, is_index, chosen_in_range, cell_of, Spot, object_of, values_from, at_spot, unfit, fitting, written, stored, first_of, source}
use Rattle.rc_safety.proofs.Lists.{every_take, every_drop, every_get_or}
use Rattle.rc_safety.specs.Soundness.{IsFresh, CellIsSound, ObjectIsSound}
use Rattle.rc_safety.proofs.Changed.{same_lives}
use Rattle.rc_safety.proofs.Written.{Fit, written_sound}
use Rattle.rc_safety.proofs.Worlds.{IsSound, FreshIn, AllFreshIn, Nothing, Fresh, AllFresh, reaches_heap, reaches_itself, Yields, gives, yields_tested, yields_touching}

pub record IsSpot (w : World) (spot : Spot) : Type 0 where
  pub alive : live w.heap spot.region ≡ true
  pub inside : spot.element < (object_of w.heap spot).count

index_is_below : (z : ℤ) (count : ℕ) → is_index z count ≡ true → unsigned_abs z < count
index_is_below (pos k) count e = grind (arith, rules)
index_is_below (negsuc k) count e = cc

at_address_yields : {A : Type 0} (may : Bool) (line : ℕ) (v : Value) (w : World) (S : A → World → Type 0) (go : Address → Run World A) → FreshIn w v
    → ((a : Address) → live w.heap a.region ≡ true → Yields may w S (go a)) → Yields may w S (at_address line v w go)
at_address_yields may line (Number n) w S go fresh k = record { holds = tt }
at_address_yields may line Null w S go fresh k = record { holds = tt }
at_address_yields may line (Handle r) w S go fresh k = record { holds = tt }
at_address_yields may line (Pointer a) w S go fresh k = k a fresh

pub at_spot_yields : {A : Type 0} (may : Bool) (line : ℕ) (t : Target) (w : World) (S : A → World → Type 0) (go : Spot → Run World A) → FreshIn w t.pointer
    → ((spot : Spot) → IsSpot w spot → Yields may w S (go spot)) → Yields may w S (at_spot line t w go)
at_spot_yields may line t w S go fresh k = at_address_yields may line t.pointer w S _ fresh (λ a l.
    yields_touching may w S (live w.heap a.region) line _ l
    (yields_tested may w S (is_index (pos a.index +ℤ t.shift) (object_at w.heap a.region a.object).count) Bounds line _ (λ e. yields_tested may w S (list_all chosen_in_range t.chosen) Bounds line _ (λ e2.
    k (record { region = a.region; object = a.object; element = unsigned_abs (pos a.index +ℤ t.shift); cell = cell_of t }) (record { alive = l; inside = index_is_below (pos a.index +ℤ t.shift) (object_at w.heap a.region a.object).count e })))))

-- the values of a sound object are fresh
object_is_fresh : (live : ℕ → Bool) (parent : ℕ → ℕ) (holder : ℕ) (kinds : Layout) (vs : List Value) → AllZip (CellIsSound live parent holder) kinds vs → Every (IsFresh live) vs
object_is_fresh live parent holder [] [] all = tt
object_is_fresh live parent holder [] (v ∷ vs) all = absurd all
object_is_fresh live parent holder (kind ∷ kinds) [] all = absurd all
object_is_fresh live parent holder (kind ∷ kinds) (v ∷ vs) all = (all.0.fresh, object_is_fresh live parent holder kinds vs all.1)

values_are_fresh : (w : World) (spot : Spot) (size : ℕ) → IsSound w → IsSpot w spot → AllFreshIn w (values_from w.heap spot size)
values_are_fresh w spot size sound is =
    let o = object_of w.heap spot in
    let all = every_get_or (ObjectIsSound (live w.heap) (parent w.heap) spot.region) (objects w.heap spot.region) spot.object no_object tt (sound.heap.regions spot.region is.alive).objects in
    every_take (FreshIn w) size _ (every_drop (FreshIn w) _ o.values (object_is_fresh (live w.heap) (parent w.heap) spot.region _ o.values all))

pub load_all_yields : (line : ℕ) (t : Target) (size : ℕ) (w : World) → IsSound w → FreshIn w t.pointer → Yields false w AllFresh (source.load_all line t size w)
load_all_yields line t size w sound fresh = at_spot_yields false line t w AllFresh _ fresh (λ spot is. gives false w w AllFresh _ (reaches_itself false w sound) (values_are_fresh w spot size sound is))

pub load_yields : (line : ℕ) (t : Target) (w : World) → IsSound w → FreshIn w t.pointer → Yields false w Fresh (source.load line t w)
load_yields line t w sound fresh = at_spot_yields false line t w Fresh _ fresh (λ spot is. gives false w w Fresh _ (reaches_itself false w sound) (first (values_from w.heap spot 1) (values_are_fresh w spot 1 sound is)))
  where
    first : (vs : List Value) → AllFreshIn w vs → FreshIn w (first_of vs)
    first [] all = refl
    first (v ∷ vs) all = all.0

-- where the checks pass, the values fit
fitting_yields : (w : World) (holder line : ℕ) (kinds : Layout) (vs : List Value) (m : Run World (Unit {0})) → (Fit (parent w.heap) holder kinds vs → Yields false w Nothing m)
    → Yields false w Nothing (fitting w.heap holder line (map note_of kinds) vs w m)
fitting_yields w holder line kinds [] m k = k tt
fitting_yields w holder line [] (v ∷ vs) m k = k tt
fitting_yields w holder line (kind ∷ kinds) (v ∷ vs) m k =
    yields_tested false w Nothing (fits (parent w.heap) (note_of kind) holder v) (unfit (note_of kind)) line _ (λ e. fitting_yields w holder line kinds vs m (λ fit. k (e, fit)))

pub store_all_yields : (line : ℕ) (t : Target) (vs : List Value) (w : World) → IsSound w → FreshIn w t.pointer → AllFreshIn w vs → Yields false w Nothing (stored line t vs w)
store_all_yields line t vs w sound fresh all = at_spot_yields false line t w Nothing _ fresh (λ spot is.
    yields_touching false w Nothing _ line _ (all_fresh vs all)
    (fitting_yields w spot.region line (drop spot.cell (object_of w.heap spot).layout) vs _ (λ fit.
    gives false w _ Nothing tt (reaches_heap w (written spot vs w.heap) sound (written_sound w.heap spot vs sound.heap is.alive is.inside all fit) (λ q l. ap (λ f. f q) (same_lives w.heap spot.region _) ∙ l)) tt)))
  where
    all_fresh : (vs : List Value) → AllFreshIn w vs → list_all (is_fresh (live w.heap)) vs ≡ true
    all_fresh [] all = refl
    all_fresh (v ∷ vs) all = ap (λ b. b && list_all (is_fresh (live w.heap)) vs) all.0 ∙ all_fresh vs all.1

pub store_yields : (line : ℕ) (t : Target) (v : Value) (w : World) → IsSound w → FreshIn w t.pointer → FreshIn w v → Yields false w Nothing (source.store line t v w)
store_yields line t v w sound fresh fv = store_all_yields line t (v ∷ []) w sound fresh (fv, tt)
