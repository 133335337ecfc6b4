-- An image as it is written: it keeps what a run needs, its first world is good, and its store names types as it does.
use Rattle.std.proofs.Common.{◌≡◌, ℕ, zero, suc, ◌+◌, ◌<◌, ◌≤◌, pos, Bool, true, false, List, [], ◌∷◌, length, map, drop, replicate, flat_map, get_or, slice_get, Some, refl, sym, ap, ◌∙◌, subst, arith, Option}
use Rattle.std.specs.List.{AllByRecursion as Every, AllZip, list_all}
use Rattle.rc_base.specs.declared.ends.Limits.{Limits}
use Rattle.rc_core.specs.declared.ty.NumberType.TheVariants as numbers
use Rattle.rc_core.specs.declared.ty.NumberType.TheVariants.{Int}
use Rattle.rc_core.specs.Types.{CellKind, int_cell, unsigned_cell, char_cell, region_cell, pointer_cell}
use Rattle.rc_core.specs.Layout.{Layout, note_of}
use Rattle.rc_core.specs.Numbers.{IsByte}
use Rattle.rc_core.specs.Arithmetic.{as_int}
use Rattle.rc_kinds.proofs.InRange.{is_less, byte_fits, converted_fits}
use Rattle.rc_core.specs.Heap.{kinds_of, Value, Number, Object, Heap, blank, live, parent}
use Rattle.rc_core.specs.Source.{chosen_in_range, cells_chosen}
use Rattle.rc_safety.specs.Soundness.{CellIsSound, ObjectIsSound, EachIsSound, HeapIsSound}
use Rattle.rc_safety.proofs.Heaps.{parent_is_live}
use Rattle.rc_safety.proofs.Allocations.{blank_object_is_sound}
use Rattle.rc_code.specs.declared.kind.Cell.{Cell}
use Rattle.rc_code.specs.declared.kind.Cell.TheVariants as cell
use Rattle.rc_code.specs.declared.image.Initial.{Initial}
use Rattle.rc_code.specs.declared.image.Initial.TheVariants as initial
use Rattle.rc_code.specs.declared.image.Global.{Global}
use Rattle.rc_code.specs.declared.image.Path.{Path}
use Rattle.rc_code.specs.declared.image.Parts.{Parts}
use Rattle.rc_code.specs.Image.{PathFits, GlobalFits, FunctionFits, FieldsFit, InitialFits, bound_of, cells_at}
use Rattle.rc_code.specs.Reached.{is_reached, has_one_kind}
use Rattle.rc_code.proofs.OneKind.{is_tested, span_inside}
use Rattle.rc_code.specs.Running.{pointee, Reading, reading_of, layout_of, cell_kind, layout_at, path_at, function_at, cell_at, no_path, no_function, storage_of, chosen_values}
use Rattle.rc_code.specs.Soundness.{ReadingIsSound}
use Rattle.rc_code.specs.ImageMeaning.{first_values, global_object, first_objects, first_held}
use Rattle.rc_worlds.specs.Worlds.{Compared, named_cell, renamed, model, Marks, may_mark, looks}
use Rattle.rc_worlds.specs.Typed.{Shape, shape_in, Stored, HeapIsTyped, IsSoundBy, Good}
use Rattle.rc_worlds.specs.Facts.{PathIsSound, ImageIsSound}
use Rattle.rc_worlds.specs.Meanings.{image_world, AreBytes, GlobalsHaveBytes, as_marked}
use Rattle.rc_worlds.proofs.Typed.{blank_is_typed}
use Rattle.rc_worlds.specs.Worlds.{own}
use Rattle.rc_worlds.proofs.Places.{inside_span, is_reached_there, alike_there}

every_at : {A : Type 0} (P : A → Type 0) (xs : List A) (n : ℕ) (none : A) → Every P xs → n < length xs → P (get_or xs n none)
every_at P [] n none all below = absurd (omega (arith, below))
every_at P (x ∷ xs) zero none all below = all.0
every_at P (x ∷ xs) (suc n) none all below = every_at P xs n none all.1 (omega (arith, below))

get_mapped : {A B : Type 0} (f : A → B) (xs : List A) (n : ℕ) (a : A) → get_or (map f xs) n (f a) ≡ f (get_or xs n a)
get_mapped f [] n a = refl
get_mapped f (x ∷ xs) zero a = refl
get_mapped f (x ∷ xs) (suc n) a = get_mapped f xs n a

length_mapped : {A B : Type 0} (f : A → B) (xs : List A) → length (map f xs) ≡ length xs
length_mapped f [] = refl
length_mapped f (x ∷ xs) = ap suc (length_mapped f xs)

layout_is_written : (parts : Parts) (t : ℕ) → layout_at (reading_of parts) t ≡ layout_of (cells_at parts.types t)
layout_is_written parts t = get_mapped layout_of parts.types t []

-- ---- paths

get_dropped : (cells : List Cell) (k n : ℕ) → get_or (map cell_kind (drop k cells)) n int_cell ≡ get_or (map cell_kind cells) (k + n) int_cell
get_dropped cells zero n = let e : 0 + n ≡ n = omega arith in ap (λ m. get_or (map cell_kind cells) m int_cell) (sym e)
get_dropped [] (suc k) n = refl
get_dropped (c ∷ cells) (suc k) n = let e : suc k + n ≡ suc (k + n) = omega arith in get_dropped cells k n ∙ ap (λ m. get_or (map cell_kind (c ∷ cells)) m int_cell) (sym e)

length_dropped : (cells : List Cell) (k : ℕ) → k < length cells → k + length (drop k cells) ≡ length cells
length_dropped [] k e = absurd (omega (arith, e))
length_dropped (c ∷ cells) zero e = omega arith
length_dropped (c ∷ cells) (suc k) e = let h = length_dropped cells k (omega (arith, e)) in omega (arith, h)

one_kind_there : (indices : List _) (cells : List Cell) (n : ℕ) → has_one_kind indices cells ≡ true → n < length cells → is_reached n indices ≡ true → get_or (map cell_kind cells) n int_cell ≡ get_or (map cell_kind cells) 0 int_cell
one_kind_there indices [] n e below reached = absurd (omega (arith, below))
one_kind_there indices (c ∷ cells) n e below reached = let z : 0 + n ≡ n = omega arith in alike_there c indices 0 (c ∷ cells) n e below (ap (λ m. is_reached m indices) z ∙ reached)

module _ (parts : Parts) (fields : FieldsFit parts) where
  module _ (p : Path) (fits : PathFits parts.types p) (vs : List Value) (long : length vs ≡ length p.indices) (e : list_all chosen_in_range (chosen_values p.indices vs) ≡ true) where
    abbrev cells : List Cell
    cells = cells_at parts.types p.type_number

    abbrev distance : ℕ
    distance = cells_chosen (chosen_values p.indices vs)

    far : p.offset + distance < length cells
    far = let s = inside_span p.indices vs long e in let i = span_inside parts.types p fits in omega (arith, s, i)

    kind_same : get_or (map cell_kind cells) (p.offset + distance) int_cell ≡ get_or (map cell_kind cells) p.offset int_cell
    kind_same =
        let l = length_dropped cells p.offset (omega (arith, far)) in
        let zero_on : p.offset + 0 ≡ p.offset = omega arith in
        sym (get_dropped cells p.offset distance)
        ∙ one_kind_there p.indices (drop p.offset cells) distance (is_tested parts.types p fits) (omega (arith, l, far)) (is_reached_there p.indices vs fits.indices fits.nested long e)
        ∙ get_dropped cells p.offset 0
        ∙ ap (λ m. get_or (map cell_kind cells) m int_cell) zero_on

    written_same : get_or (layout_at (reading_of parts) p.type_number) (p.offset + distance) int_cell ≡ cell_at (reading_of parts) p
    written_same =
        ap (λ (l : Layout). get_or l (p.offset + distance) int_cell) (layout_is_written parts p.type_number)
        ∙ kind_same
        ∙ ap (λ (l : Layout). get_or l p.offset int_cell) (sym (layout_is_written parts p.type_number))

    written_far : p.offset + distance < length (layout_at (reading_of parts) p.type_number)
    written_far = subst (λ n. p.offset + distance < n) (sym (ap length (layout_is_written parts p.type_number) ∙ length_mapped cell_kind cells)) far

  path_is_sound : (p : Path) → PathFits parts.types p → PathIsSound (reading_of parts) p
  path_is_sound p fits = record {
    inside = λ vs long e. written_far p fits vs long e;
    alike = λ vs long e. ap (storage_of (reading_of parts)) (written_same p fits vs long e);
    noted = λ vs long e. ap note_of (written_same p fits vs long e);
  }

  pub image_is_sound : (image : Compared) → image.code ≡ reading_of parts → ReadingIsSound (may_mark image.marks) image.code → ImageIsSound image
  image_is_sound image is rules = record {
    rules = rules;
    paths = subst (λ (code : Reading). (p : ℕ) → p < length code.parts.paths → PathIsSound code (path_at code p)) (sym is) (λ p there. path_is_sound (path_at (reading_of parts) p) (every_at (PathFits parts.types) parts.paths p no_path fields.paths there));
    parameters = subst (λ (code : Reading). (f : ℕ) → f < length code.parts.functions → (function_at code f).parameters ≤ length (function_at code f).locals) (sym is)
        (λ f there. (every_at (FunctionFits (length parts.types)) parts.functions f no_function fields.functions there).parameters);
    main = subst (λ (code : Reading). code.parts.main < length code.parts.functions) (sym is) fields.main;
  }

-- ---- the first world

-- where each number may stand in a number cell, and a blank object is in order, each global is
module _ (R : CellKind → Value → Type 0) (ranged : Bool) (ints : (n : ℕ) → R int_cell (Number (as_int (pos n)))) (unsigneds : (n : ℕ) → n < 4294967296 → R unsigned_cell (Number (pos n)))
    (chars : (n : ℕ) → (ranged ≡ true → n < 256) → R char_cell (Number (pos n))) (blanks : (layout : Layout) (count : ℕ) → AllZip R (kinds_of (blank layout count)) (blank layout count).values) where
  abbrev Holds : Layout → ℕ → List Value → Type 0
  Holds layout count values = AllZip R (flat_map (λ (l : Layout). l) (replicate count layout)) values

  number_holds : (cells : List Cell) (n : ℕ) → n < bound_of cells → Holds (layout_of cells) 1 (first_values (layout_of cells) (initial.Number n) [])
  number_holds [] n below = absurd (omega (arith, below))
  number_holds (cell.Number numbers.Int ∷ []) n below = (ints n, tt)
  number_holds (cell.Number numbers.Unsigned ∷ []) n below = (unsigneds n below, tt)
  number_holds (cell.Number numbers.Char ∷ []) n below = (chars n (λ _. below), tt)
  number_holds (cell.Region ∷ []) n below = absurd (omega (arith, below))
  number_holds (cell.Pointer note type ∷ []) n below = absurd (omega (arith, below))
  number_holds (c ∷ d ∷ cells) n below = absurd (omega (arith, below))

  bytes_hold : (cells : List Cell) (bytes : List ℕ) → bound_of cells ≡ 256 → (ranged ≡ true → Every IsByte bytes) → Holds (layout_of cells) (length bytes) (map (λ b. Number (pos b)) bytes)
  bytes_hold [] bytes e all = absurd (omega (arith, e))
  bytes_hold (cell.Number numbers.Int ∷ []) bytes e all = absurd (omega (arith, e))
  bytes_hold (cell.Number numbers.Unsigned ∷ []) bytes e all = absurd (omega (arith, e))
  bytes_hold (cell.Number numbers.Char ∷ []) [] e all = tt
  bytes_hold (cell.Number numbers.Char ∷ []) (b ∷ bytes) e all = (chars b (λ r. (all r).0), bytes_hold (cell.Number numbers.Char ∷ []) bytes e (λ r. (all r).1))
  bytes_hold (cell.Region ∷ []) bytes e all = absurd (omega (arith, e))
  bytes_hold (cell.Pointer note type ∷ []) bytes e all = absurd (omega (arith, e))
  bytes_hold (c ∷ d ∷ cells) bytes e all = absurd (omega (arith, e))

  first_holds : (cells : List Cell) (count : ℕ) (first : Initial) → InitialFits cells count first → (ranged ≡ true → AreBytes first) → Holds (layout_of cells) count (first_values (layout_of cells) first (blank (layout_of cells) count).values)
  first_holds cells count initial.Zeros fits all = blanks (layout_of cells) count
  first_holds cells count (initial.Number n) fits all = subst (λ k. Holds (layout_of cells) k (first_values (layout_of cells) (initial.Number n) [])) (sym fits.0) (number_holds cells n fits.1)
  first_holds cells count (initial.Bytes bytes) fits all = subst (λ k. Holds (layout_of cells) k (map (λ b. Number (pos b)) bytes)) fits.1 (bytes_hold cells bytes fits.0 all)

  global_holds : (parts : Parts) (g : Global) → GlobalFits parts.types g → (ranged ≡ true → AreBytes g.initial) → AllZip R (kinds_of (global_object (reading_of parts) g)) (global_object (reading_of parts) g).values
  global_holds parts g fits bytes =
      subst (λ (l : Layout). Holds l g.elements (first_values l g.initial (blank l g.elements).values)) (sym (layout_is_written parts g.type_number))
      (first_holds (cells_at parts.types g.type_number) g.elements g.initial fits.initial bytes)

  globals_hold : (parts : Parts) (gs : List Global) → Every (GlobalFits parts.types) gs → (ranged ≡ true → Every (λ (g : Global). AreBytes g.initial) gs) → Every (λ (o : Object). AllZip R (kinds_of o) o.values) (map (global_object (reading_of parts)) gs)
  globals_hold parts [] all bytes = tt
  globals_hold parts (g ∷ gs) all bytes = (global_holds parts g all.0 (λ e. (bytes e).0), globals_hold parts gs all.1 (λ e. (bytes e).1))

globals_there : (code : Reading) (gs : List Global) (n : ℕ) (g : Global) → slice_get gs n ≡ Some g → shape_in (slice_get (map (global_object code) gs) n) ≡ Some (record { layout = layout_at code g.type_number; count = g.elements })
globals_there code [] zero g e = cc
globals_there code [] (suc n) g e = cc
globals_there code (x ∷ gs) zero g e = let same : x ≡ g = cc in ap of_global same
  where
    of_global : Global → Option Shape
    of_global g = Some (record { layout = layout_at code g.type_number; count = g.elements })
globals_there code (x ∷ gs) (suc n) g e = globals_there code gs n g e

module _ (parts : Parts) (fields : FieldsFit parts) (input : List ℕ) (limits : Limits) where
  abbrev heap : Heap
  heap = (image_world (reading_of parts) input limits).heap

  sound_objects : (lives : ℕ → Bool) (parents : ℕ → ℕ) → Every (ObjectIsSound lives parents 0) (first_objects (reading_of parts))
  sound_objects lives parents = globals_hold (CellIsSound lives parents 0) false (λ n. record { fresh = refl; fit = refl }) (λ n below. record { fresh = refl; fit = refl }) (λ n byte. record { fresh = refl; fit = refl })
      (blank_object_is_sound lives parents 0) parts parts.globals fields.globals (λ e. cc)

  heap_is_sound : HeapIsSound heap
  heap_is_sound = record { root = refl; regions = each }
    where
      each : EachIsSound (live heap) (parent heap) heap
      each zero l = record { parent_lives = refl; made_later = λ e. cc; objects = sound_objects (live heap) (parent heap) }
      each (suc r) l = cc

  heap_is_typed : (image : Compared) → image.code ≡ reading_of parts → (image.ranged ≡ true → GlobalsHaveBytes parts) → HeapIsTyped image heap
  heap_is_typed image is bytes = record {
    regions = (
      globals_hold (Stored image heap) image.ranged
          (λ n. record { kind = record { suits = λ _. converted_fits Int (pos n) }; narrow = tt })
          (λ n below. record { kind = record { suits = λ _. is_less n 4294967296 below }; narrow = tt })
          (λ n byte. record { kind = record { suits = λ e. byte_fits n (byte e) }; narrow = λ e. is_less n 256 (byte e) })
          (blank_is_typed image heap) parts parts.globals fields.globals bytes,
      tt,
    );
  }

  by_looks : (b : Bool) → IsSoundBy b heap
  by_looks true = heap_is_sound
  by_looks false = record { root = refl; parents = parent_is_live heap heap_is_sound }

  pub begins_good : (marks : Marks) (ranged : Bool) → (ranged ≡ true → GlobalsHaveBytes parts × Every IsByte input)
      → Good (as_marked marks ranged parts) (image_world (reading_of parts) input limits)
  begins_good marks ranged bytes = record {
    sound = by_looks (looks marks);
    typed = heap_is_typed (as_marked marks ranged parts) refl (λ e. (bytes e).0);
    globals = λ g global e. globals_there (reading_of parts) parts.globals g global e;
    waiting = tt;
    input = λ e. (bytes e).1;
  }

-- ---- a store that names types as the image does

named_same : (k : CellKind) → named_cell (λ ty. ty) k ≡ k
named_same int_cell = refl
named_same unsigned_cell = refl
named_same char_cell = refl
named_same region_cell = refl
named_same (pointer_cell note target) = refl

layout_same : (l : Layout) → map (named_cell (λ ty. ty)) l ≡ l
layout_same [] = refl
layout_same (k ∷ l) = ap (λ k. k ∷ map (named_cell (λ ty. ty)) l) (named_same k) ∙ ap (λ l. k ∷ l) (layout_same l)

layouts_same : (ls : List Layout) → map (map (named_cell (λ ty. ty))) ls ≡ ls
layouts_same [] = refl
layouts_same (l ∷ ls) = ap (λ (l : Layout). l ∷ map (map (named_cell (λ ty. ty))) ls) (layout_same l) ∙ ap (λ (ls : List Layout). l ∷ ls) (layouts_same ls)

objects_same : (os : List Object) → map (renamed (λ ty. ty)) os ≡ os
objects_same [] = refl
objects_same (o ∷ os) = ap (λ (l : Layout). record o { layout = l } ∷ map (renamed (λ ty. ty)) os) (layout_same o.layout) ∙ ap (λ os. o ∷ os) (objects_same os)

pub first_is_model : (code : Reading) (input : List ℕ) (limits : Limits) → model (λ ty. ty) (image_world code input limits) ≡ first_held code input limits
first_is_model code input limits = ap (λ os. record {
  turns = limits.turns;
  input = input;
  acts = [];
  store = record { regions = Some (record { parent = 0; objects = os }) ∷ []; pins = []; spare = 0; region_limit = limits.regions; block_limit = limits.blocks };
}) (objects_same (first_objects code))

pub own_is_written : (parts : Parts) (marks : Marks) (ranged : Bool) → (own (as_marked marks ranged parts)).code ≡ reading_of parts
own_is_written parts marks ranged = ap (λ ls. record { parts = parts; layouts = ls; numbered = pointee }) (layouts_same (map layout_of parts.types))
