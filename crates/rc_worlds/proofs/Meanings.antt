-- The meaning of a sound image over the store is its meaning over the source's world.
use Rattle.std.proofs.Common.{◌≡◌, ℕ, Bool, true, false, List, [], ◌∷◌, map, Some, refl, sym, ap, ◌∙◌}
use Rattle.rc_base.specs.declared.ends.Limits.{Limits}
use Rattle.rc_core.specs.Heap.{Value, Heap, Object}
use Rattle.rc_core.specs.Meaning.{object_left, region_left, left_by_run, meaning_of_run}
use Rattle.rc_core.specs.Runs.{Run, Go, Stopped}
use Rattle.rc_core.specs.Source.{World}
use Rattle.rc_code.specs.declared.image.Parts.{Parts}
use Rattle.rc_code.specs.Image.{FieldsFit}
use Rattle.rc_code.specs.Running.{reading_of, run_main}
use Rattle.rc_code.specs.Soundness.{ReadingIsSound, Sound, SoundUnmarked}
use Rattle.rc_code.specs.StoreModel.{stored}
use Rattle.rc_code.specs.ImageMeaning.{first_held, image_run, view_left}
use Rattle.rc_code.specs.ImageMeaning as Image
use Rattle.rc_worlds.specs.Worlds.{mapped, Compared, renamed, seen, model, Marks, may_mark, none_marked, marks_checked, marks_trusted}
use Rattle.rc_worlds.specs.Meanings.{image_world, looking, counting, world_run, world_meaning, AreTheSame, IsNotStale, as_marked}
use Rattle.rc_worlds.proofs.Does.{Excused}
use Rattle.rc_worlds.proofs.Walks.{exact, unmarked, trusted}
use Rattle.rc_worlds.proofs.Layouts.{same_run}
use Rattle.rc_worlds.proofs.Begins.{image_is_sound, begins_good, first_is_model, own_is_written}

objects_left : (os : List Object) → map object_left (map (renamed (λ ty. ty)) os) ≡ map object_left os
objects_left [] = refl
objects_left (o ∷ os) = ap (λ rest. object_left o ∷ rest) (objects_left os)

regions_left : (heap : Heap) → map view_left (map (seen (λ ty. ty)) heap) ≡ map region_left heap
regions_left [] = refl
regions_left (g ∷ heap) = ap (λ v. v ∷ map view_left (map (seen (λ ty. ty)) heap)) (one g.alive) ∙ ap (λ rest. region_left g ∷ rest) (regions_left heap)
  where
    one : (b : Bool) → view_left (seen (λ ty. ty) (record g { alive = b })) ≡ region_left (record g { alive = b })
    one true = ap (λ os. Some (record { parent = g.parent; objects = os })) (objects_left g.objects)
    one false = refl

module _ (parts : Parts) (fields : FieldsFit parts) (marks : Marks) (rules : ReadingIsSound (may_mark marks) (reading_of parts)) (input : List ℕ) (limits : Limits) where
  abbrev image : Compared
  image = as_marked marks false parts

  runs : (Excused image (world_run image input limits) → ⊥) → image_run parts input limits ≡ mapped image (world_run image input limits)
  runs none =
      ap (λ w. run_main stored (reading_of parts) w) (sym (first_is_model (reading_of parts) input limits))
      ∙ ap (λ code. run_main stored code (model (λ ty. ty) (image_world (reading_of parts) input limits))) (sym (own_is_written parts marks false))
      ∙ sym (same_run image (λ ty. refl) (model (λ ty. ty) (image_world (reading_of parts) input limits)))
      ∙ exact image (image_is_sound parts fields image refl rules) (image_world (reading_of parts) input limits) (begins_good parts fields input limits marks false (λ e. cc)) none

  same_meaning : (m : Run World Value) → Image.meaning_of_run input (mapped image m) ≡ meaning_of_run input m
  same_meaning (Go v w) = refl
  same_meaning (Stopped stop w) = refl

  same_left : (m : Run World Value) → Image.left_by_run (mapped image m) ≡ left_by_run m
  same_left (Go v w) = ap Some (regions_left w.heap)
  same_left (Stopped stop w) = refl

  same : (Excused image (world_run image input limits) → ⊥) → AreTheSame parts image input limits
  same none = record {
    meaning = ap (Image.meaning_of_run input) (runs none) ∙ same_meaning (world_run image input limits);
    left = ap Image.left_by_run (runs none) ∙ same_left (world_run image input limits);
  }

pub unmarked_same : (parts : Parts) → FieldsFit parts → SoundUnmarked parts → (input : List ℕ) (limits : Limits) → AreTheSame parts (looking false parts) input limits
unmarked_same parts fields rules input limits = same parts fields none_marked rules input limits (unmarked (looking false parts) (image_is_sound parts fields (looking false parts) refl rules) refl (world_run (looking false parts) input limits))

not_excused : (parts : Parts) (input : List ℕ) (m : Run World Value) → IsNotStale (meaning_of_run input m) → Excused (looking true parts) m → ⊥
not_excused parts input (Go v w) never e = e
not_excused parts input (Stopped stop w) never e = never e.2.0 e.2.1

pub marked_same : (parts : Parts) → FieldsFit parts → Sound parts → (input : List ℕ) (limits : Limits) → IsNotStale (world_meaning (looking true parts) input limits) → AreTheSame parts (looking true parts) input limits
marked_same parts fields rules input limits never = same parts fields (marks_checked false) rules input limits (not_excused parts input (world_run (looking true parts) input limits) never)

pub trusted_same : (parts : Parts) → FieldsFit parts → Sound parts → (input : List ℕ) (limits : Limits) → AreTheSame parts (counting false parts) input limits
trusted_same parts fields rules input limits = same parts fields marks_trusted rules input limits (trusted (counting false parts) (image_is_sound parts fields (counting false parts) refl rules) refl (world_run (counting false parts) input limits))
