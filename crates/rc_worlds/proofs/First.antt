-- The world in which a run begins is good.
use Rattle.std.proofs.Common.{ℤ, pos, ℕ, List, [], ◌∷◌, map, Option, Some, None, true, false, refl, ◌≡◌}
use Rattle.rc_base.specs.declared.ends.Limits.{Limits}
use Rattle.rc_core.specs.Types.{Ty, int, unsigned, char, region, struct, pointer, int_cell, unsigned_cell, char_cell, region_cell, pointer_cell}
use Rattle.rc_core.specs.Programs.{Struct, Global, Program}
use Rattle.rc_core.specs.Layout.{cells}
use Rattle.rc_core.specs.Heap.{Heap, Number, blank, first_values, global_object_of, global_object, literal, first_heap}
use Rattle.rc_core.specs.Meaning.{first_world}
use Rattle.rc_safety.proofs.Lists.{every_append, every_map}
use Rattle.rc_safety.proofs.Heaps.{parent_is_live}
use Rattle.rc_safety.proofs.First.{first_is_sound}
use Rattle.rc_worlds.specs.Worlds.{Compared, looks}
use Rattle.rc_worlds.specs.Typed.{ObjectIsTyped, HeapIsTyped, GlobalsAreThere, IsSoundBy, Good, Stored}
use Rattle.rc_worlds.proofs.Typed.{blank_is_typed}

module _ (image : Compared) (unranged : image.ranged ≡ false) where
  int_stored : (heap : Heap) (n : ℤ) → Stored image heap int_cell (Number n)
  int_stored heap n = record { kind = record { suits = λ e. cc }; narrow = tt }

  unsigned_stored : (heap : Heap) (n : ℤ) → Stored image heap unsigned_cell (Number n)
  unsigned_stored heap n = record { kind = record { suits = λ e. cc }; narrow = tt }

  char_stored : (heap : Heap) (n : ℤ) → Stored image heap char_cell (Number n)
  char_stored heap n = record { kind = record { suits = λ e. cc }; narrow = λ e. cc }

  global_typed : (heap : _) (structs : List Struct) (g : Global) → ObjectIsTyped image heap (global_object structs g)
  global_typed heap structs g = by g.count
    where
      one : (ty : Ty) → ObjectIsTyped image heap (record (blank (cells structs ty) 1) { values = first_values ty g.initial (blank (cells structs ty) 1).values })
      one int = (int_stored heap g.initial, tt)
      one unsigned = (unsigned_stored heap g.initial, tt)
      one char = (char_stored heap g.initial, tt)
      one region = blank_is_typed image heap (region_cell ∷ []) 1
      one (struct k) = blank_is_typed image heap (cells structs (struct k)) 1
      one (pointer note target) = blank_is_typed image heap (pointer_cell note target ∷ []) 1

      by : (count : Option ℕ) → ObjectIsTyped image heap (global_object_of (cells structs g.ty) g.ty count g.initial)
      by None = one g.ty
      by (Some n) = blank_is_typed image heap (cells structs g.ty) n

  literal_typed : (heap : _) (bytes : List ℕ) → ObjectIsTyped image heap (literal bytes)
  literal_typed heap [] = (char_stored heap (pos 0), tt)
  literal_typed heap (b ∷ bytes) = (char_stored heap (pos b), literal_typed heap bytes)

  pub first_is_typed : (p : Program) → HeapIsTyped image (first_heap p)
  first_is_typed p = record {
    regions = (
      every_append (ObjectIsTyped image (first_heap p)) (map (global_object p.structs) p.globals) (map literal p.strings)
          (every_map (ObjectIsTyped image (first_heap p)) (global_object p.structs) (global_typed (first_heap p) p.structs) p.globals)
          (every_map (ObjectIsTyped image (first_heap p)) literal (literal_typed (first_heap p)) p.strings),
      tt,
    );
  }

  pub first_is_good : (p : Program) (input : List ℕ) (limits : Limits) → GlobalsAreThere image (first_heap p) → Good image (first_world p input limits)
  first_is_good p input limits globals = record { sound = by (looks image.marks); typed = first_is_typed p; globals = globals; waiting = tt; input = λ e. cc }
    where
      by : (b : _) → IsSoundBy b (first_heap p)
      by true = first_is_sound p
      by false = record { root = refl; parents = parent_is_live (first_heap p) (first_is_sound p) }
