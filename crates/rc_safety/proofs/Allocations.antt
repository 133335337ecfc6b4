-- New regions and objects, and pointer steps, in live regions.
use Rattle.std.proofs.Common.{◌≡◌, ℕ, zero, suc, ℤ, pos, Bool, true, false, int_le, unsigned_abs, nat_lt, List, [], ◌∷◌, ◌++◌, length, map, refl, ap, ◌∙◌}
use Rattle.std.specs.List.{AllZip}
use Rattle.rc_base.specs.declared.ends.Trap.TheVariants.{Bounds, Size, Full}
use Rattle.rc_core.specs.Types.{CellKind, int_cell, unsigned_cell, char_cell, region_cell, pointer_cell}
use Rattle.rc_core.specs.Layout.{Layout}
use Rattle.rc_core.specs.Heap.{Value, Number, Null, Handle, Pointer, Object, live, parent, objects, with_objects, blank_cell, blank}
use Rattle.rc_core.specs.Source.{World, made, allocated, source}
use Rattle.rc_safety.proofs.Lists.{every_append, zip_append}
use Rattle.rc_safety.specs.Soundness.{CellIsSound, ObjectIsSound}
use Rattle.rc_safety.proofs.Heaps.{null_fits}
use Rattle.rc_safety.proofs.Changed.{same_lives, changed_sound}
use Rattle.rc_safety.proofs.Made.{new_region, none_dies_made, last_is_live, made_sound}
use Rattle.rc_safety.proofs.Worlds.{IsSound, FreshIn, Fresh, reaches_heap, reaches_itself, Yields, gives, yields_tested, yields_touching}

made_yields : (line p : ℕ) (w : World) → IsSound w → live w.heap p ≡ true → Yields false w Fresh (made line p w)
made_yields line p w sound l =
    let heap = w.heap ++ new_region p ∷ [] in
    yields_tested false w Fresh _ Full line _ (λ e. gives false w _ Fresh _ (reaches_heap w heap sound (made_sound w.heap p sound.heap l) (none_dies_made w.heap p)) (last_is_live w.heap p))

pub new_region_yields : (line : ℕ) (w : World) → IsSound w → Yields false w Fresh (source.new_region line w)
new_region_yields line w sound = made_yields line 0 w sound sound.heap.root

pub new_subregion_yields : (line : ℕ) (v : Value) (w : World) → IsSound w → FreshIn w v → Yields false w Fresh (source.new_subregion line v w)
new_subregion_yields line (Number n) w sound fresh = record { holds = tt }
new_subregion_yields line Null w sound fresh = record { holds = tt }
new_subregion_yields line (Handle r) w sound fresh = yields_touching false w Fresh (live w.heap r) line (made line r w) fresh (made_yields line r w sound fresh)
new_subregion_yields line (Pointer a) w sound fresh = record { holds = tt }

-- new objects: zeros and nulls
blank_is_sound : (live : ℕ → Bool) (parent : ℕ → ℕ) (holder : ℕ) (kind : CellKind) → CellIsSound live parent holder kind (blank_cell kind)
blank_is_sound live parent holder int_cell = record { fresh = refl; fit = refl }
blank_is_sound live parent holder unsigned_cell = record { fresh = refl; fit = refl }
blank_is_sound live parent holder char_cell = record { fresh = refl; fit = refl }
blank_is_sound live parent holder region_cell = record { fresh = refl; fit = refl }
blank_is_sound live parent holder (pointer_cell note target) = record { fresh = refl; fit = null_fits parent note holder }

pub blank_object_is_sound : (live : ℕ → Bool) (parent : ℕ → ℕ) (holder : ℕ) (layout : Layout) (count : ℕ) → ObjectIsSound live parent holder (blank layout count)
blank_object_is_sound live parent holder layout zero = tt
blank_object_is_sound live parent holder layout (suc count) = zip_append (CellIsSound live parent holder) layout _ (map blank_cell layout) _ (one layout) (blank_object_is_sound live parent holder layout count)
  where
    one : (kinds : Layout) → AllZip (CellIsSound live parent holder) kinds (map blank_cell kinds)
    one [] = tt
    one (kind ∷ kinds) = (blank_is_sound live parent holder kind, one kinds)

allocated_yields : (line r : ℕ) (count : ℤ) (layout : Layout) (w : World) → IsSound w → live w.heap r ≡ true → Yields false w Fresh (allocated line r count layout w)
allocated_yields line r count layout w sound l =
    let new : List Object → List Object = λ os. os ++ blank layout (unsigned_abs count) ∷ [] in
    let lives : live (with_objects w.heap r new) ≡ live w.heap = same_lives w.heap r new in
    yields_tested false w Fresh (int_le (pos 0) count) Size line _ (λ e. yields_tested false w Fresh (nat_lt (length (objects w.heap r)) w.blocks) Full line _ (λ e2.
    gives false w _ Fresh (Pointer (record { region = r; object = length (objects w.heap r); index = 0 })) (reaches_heap w (with_objects w.heap r new) sound
    (changed_sound w.heap r new sound.heap l (every_append _ (objects w.heap r) (blank layout (unsigned_abs count) ∷ []) (sound.heap.regions r l).objects (blank_object_is_sound (live w.heap) (parent w.heap) r layout (unsigned_abs count), tt)))
    (λ q lq. ap (λ f. f q) lives ∙ lq))
    (ap (λ f. f r) lives ∙ l)))

pub allocate_yields : (line : ℕ) (v : Value) (count : ℤ) (layout : Layout) (w : World) → IsSound w → FreshIn w v → Yields false w Fresh (source.allocate line v count layout w)
allocate_yields line (Number n) count layout w sound fresh = record { holds = tt }
allocate_yields line Null count layout w sound fresh = record { holds = tt }
allocate_yields line (Handle r) count layout w sound fresh = yields_touching false w Fresh (live w.heap r) line _ fresh (allocated_yields line r count layout w sound fresh)
allocate_yields line (Pointer a) count layout w sound fresh = record { holds = tt }

-- pointer steps
pub step_yields : (line : ℕ) (v : Value) (n : ℤ) (w : World) → IsSound w → FreshIn w v → Yields false w Fresh (source.step line v n w)
step_yields line (Number m) n w sound fresh = record { holds = tt }
step_yields line Null n w sound fresh = record { holds = tt }
step_yields line (Handle r) n w sound fresh = record { holds = tt }
step_yields line (Pointer a) n w sound fresh =
    yields_touching false w Fresh (live w.heap a.region) line _ fresh (yields_tested false w Fresh _ Bounds line _ (λ e. gives false w w Fresh _ (reaches_itself false w sound) fresh))
