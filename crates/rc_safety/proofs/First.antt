-- The first heap is sound: it has numbers, nulls and bytes.
use Rattle.std.proofs.Common.{ℕ, zero, suc, Bool, List, [], ◌∷◌, map, Option, Some, None, refl}
use Rattle.rc_core.specs.Types.{Ty, int, unsigned, char, region, struct, pointer}
use Rattle.rc_core.specs.Programs.{Struct, Global, Program}
use Rattle.rc_core.specs.Layout.{cells}
use Rattle.rc_core.specs.Heap.{live, parent, global_object_of, global_object, literal, first_heap}
use Rattle.rc_safety.proofs.Lists.{every_append, every_map}
use Rattle.rc_safety.specs.Soundness.{ObjectIsSound, EachIsSound, HeapIsSound}
use Rattle.rc_safety.proofs.Allocations.{blank_object_is_sound}

module _ (lives : ℕ → Bool) (parents : ℕ → ℕ) (holder : ℕ) where
  global_is_sound : (structs : List Struct) (ty : Ty) (count : Option ℕ) (n : _) → ObjectIsSound lives parents holder (global_object_of (cells structs ty) ty count n)
  global_is_sound structs ty (Some count) n = blank_object_is_sound lives parents holder (cells structs ty) count
  global_is_sound structs int None n = (record { fresh = refl; fit = refl }, tt)
  global_is_sound structs unsigned None n = (record { fresh = refl; fit = refl }, tt)
  global_is_sound structs char None n = (record { fresh = refl; fit = refl }, tt)
  global_is_sound structs region None n = blank_object_is_sound lives parents holder (cells structs region) 1
  global_is_sound structs (struct k) None n = blank_object_is_sound lives parents holder (cells structs (struct k)) 1
  global_is_sound structs (pointer note target) None n = blank_object_is_sound lives parents holder (cells structs (pointer note target)) 1

  literal_is_sound : (bytes : List ℕ) → ObjectIsSound lives parents holder (literal bytes)
  literal_is_sound [] = (record { fresh = refl; fit = refl }, tt)
  literal_is_sound (b ∷ bytes) = (record { fresh = refl; fit = refl }, literal_is_sound bytes)

pub first_is_sound : (program : Program) → HeapIsSound (first_heap program)
first_is_sound program = record { root = refl; regions = each }
  where
    each : EachIsSound (live (first_heap program)) (parent (first_heap program)) (first_heap program)
    each zero l = record {
      parent_lives = refl;
      made_later = λ e. cc;
      objects = every_append _ (map (global_object program.structs) program.globals) (map literal program.strings)
          (every_map _ (global_object program.structs) (λ (g : Global). global_is_sound _ _ 0 program.structs g.ty g.count g.initial) program.globals)
          (every_map _ literal (literal_is_sound _ _ 0) program.strings);
    }
    each (suc r) l = cc
