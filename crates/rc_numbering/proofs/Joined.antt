-- The image of a program means what the program means: by its stack code, and over a store.
use Rattle.std.proofs.Common.{◌≡◌, ◌<◌, ℕ, zero, suc, ℤ, pos, negsuc, Bool, true, false, List, [], ◌∷◌, ◌++◌, length, map, replicate, flat_map, get_or, Option, Some, None, refl, sym, ap, ◌∙◌, subst, arith}
use Rattle.std.proofs.lemmas.Bool.{false≢true}
use Rattle.std.specs.Prelude.{IsTrue, slice_get}
use Rattle.std.specs.List.{AllByRecursion as Every}
use Rattle.std.proofs.Math.Nat.{mod-eq_of_lt}
use Rattle.rc_base.specs.declared.ends.Limits.{Limits}
use Rattle.rc_core.specs.declared.ty.NumberType.TheVariants.{Unsigned, Char}
use Rattle.rc_core.specs.declared.ty.Signedness.TheVariants.{Signed}
use Rattle.rc_core.specs.Types.{Ty, int, unsigned, char, region, struct, pointer, CellKind, int_cell, unsigned_cell, char_cell, region_cell, pointer_cell}
use Rattle.rc_core.specs.Layout.{Layout, cells}
use Rattle.rc_core.specs.Typing.{fits}
use Rattle.rc_core.specs.Heap.{Value, Number, Object, Heap, blank_cell, blank, global_object, global_object_of, literal, first_heap}
use Rattle.rc_core.specs.Programs.{Global, Program}
use Rattle.rc_core.specs.Runs.{Run, Go, Stopped}
use Rattle.rc_core.specs.Source.{World, source}
use Rattle.rc_core.specs.Meaning.{first_world, meaning_of_run, object_left, region_left, left_by_run}
use Rattle.rc_core.specs.WellTyped.{IsInitial, IsWellTyped, elements, GlobalFits}
use Rattle.rc_kinds.proofs.InRange.{less_is}
use Rattle.rc_rlang.specs.RegionCode.{Rlang}
use Rattle.rc_rlang.specs.IsRlang.{IsRlang}
use Rattle.rc_rlang.specs.Bounds.{IsWithinBounds}
use Rattle.rc_rlang.specs.RegionRuns.{deletes}
use Rattle.rc_translation.specs.Translation.{region_of_program}
use Rattle.rc_translation.proofs.RulesTheorem as Region
use Rattle.rc_emission.specs.StackCode.{stack_main}
use Rattle.rc_emission.specs.KeptOperands.{same_type, stack_code}
use Rattle.rc_emission.proofs.Theorem.{means}
use Rattle.rc_emission.proofs.SourceTurns.{source_turns}
use Rattle.rc_translation.proofs.Theorem.{region_code_means}
use Rattle.rc_rlang.specs.RegionRuns as R
use Rattle.rc_code.specs.declared.image.Initial.{Initial}
use Rattle.rc_code.specs.declared.image.Initial.TheVariants as initial
use Rattle.rc_code.specs.declared.image.Global.{Global as ImageGlobal}
use Rattle.rc_code.specs.Running.{reading_of, layout_of, cell_kind, layout_at, pointee, run_main}
use Rattle.rc_code.specs.Soundness.{ReadingIsSound}
use Rattle.rc_code.specs.StoreModel.{stored}
use Rattle.rc_code.specs.ImageMeaning.{first_number, first_values, first_objects, first_held, image_run, view_left}
use Rattle.rc_code.specs.ImageMeaning as Image
use Rattle.rc_worlds.specs.Worlds.{Compared, named_cell, renamed, seen, model, watched, mapped, own, none_marked}
use Rattle.rc_worlds.specs.Typed.{Shape, shape_of, shape_in, GlobalsAreThere, Good}
use Rattle.rc_worlds.specs.Facts.{ImageIsSound}
use Rattle.rc_worlds.proofs.Walks.{unmarked}
use Rattle.rc_worlds.proofs.Whole.{image_runs, view_is_sound}
use Rattle.rc_worlds.proofs.Begins.{image_is_sound}
use Rattle.rc_worlds.proofs.First.{first_is_good}
use Rattle.rc_numbering.specs.Tables.{IsIn}
use Rattle.rc_numbering.specs.Names.{types_of, with_pointed}
use Rattle.rc_numbering.specs.Numbered.{word_of, cell_of, initial_of, global_of, string_of, type_in, path_in, layouts_in, image_of}
use Rattle.rc_numbering.specs.Means.{view_of, IsNumberable}
use Rattle.rc_numbering.proofs.Tabled.{every_of_one}
use Rattle.rc_numbering.proofs.Rights.{word_again, layout_found}
use Rattle.rc_numbering.proofs.Programs.{image_same, program_is_numberable}
use Rattle.rc_numbering.proofs.SourceWaits.{waiting, source_waits}
use Rattle.rc_numbering.specs.Small.{IsSmall}
use Rattle.rc_numbering.proofs.Sounds.{image_sound}
use Rattle.rc_numbering.proofs.TypesNamed.{globals_in, strings_in}
use Rattle.rc_numbering.proofs.Fields.{fields_fit}
use Rattle.rc_numbering.specs.Regions.{RegionMeansTheSame, RegionLeavesTheSame}
use Rattle.rc_numbering.specs.Programs.{image_of_program, ImageMeansTheSame, ImageLeavesTheSame}

map_append : {A B : Type 0} (g : A → B) (xs ys : List A) → map g (xs ++ ys) ≡ map g xs ++ map g ys
map_append g [] ys = refl
map_append g (x ∷ xs) ys = ap (λ zs. g x ∷ zs) (map_append g xs ys)

map_map : {A B C : Type 0} (g : B → C) (h : A → B) (k : A → C) → ((x : A) → g (h x) ≡ k x) → (xs : List A) → map g (map h xs) ≡ map k xs
map_map g h k same [] = refl
map_map g h k same (x ∷ xs) = ap (λ y. y ∷ map g (map h xs)) (same x) ∙ ap (λ ys. k x ∷ ys) (map_map g h k same xs)

-- ---- what is left, whatever a store calls the types

module _ (name : Ty → Ty) where
  objects_left : (os : List Object) → map object_left (map (renamed name) os) ≡ map object_left os
  objects_left [] = refl
  objects_left (o ∷ os) = ap (λ rest. object_left o ∷ rest) (objects_left os)

  regions_left : (heap : Heap) → map view_left (map (seen name) heap) ≡ map region_left heap
  regions_left [] = refl
  regions_left (g ∷ heap) = ap (λ v. v ∷ map view_left (map (seen name) heap)) (one g.alive) ∙ ap (λ rest. region_left g ∷ rest) (regions_left heap)
    where
      one : (b : Bool) → view_left (seen name (record g { alive = b })) ≡ region_left (record g { alive = b })
      one true = ap (λ os. Some (record { parent = g.parent; objects = os })) (objects_left g.objects)
      one false = refl

module _ (r : Rlang) (fit : IsRlang r) (numberable : IsNumberable r) (small : IsSmall (image_of r)) where
  abbrev name : Ty → Ty
  name t = struct (type_in r t)

  -- the image with the source's layouts, beside a store that calls types by their numbers
  abbrev pub image : Compared
  image = record { code = view_of r; name = name; marks = none_marked; ranged = false }

  cell_same : (k : CellKind) → cell_kind (cell_of (type_in r) (path_in r) k) ≡ named_cell name k
  cell_same int_cell = refl
  cell_same unsigned_cell = refl
  cell_same char_cell = refl
  cell_same region_cell = refl
  cell_same (pointer_cell note target) = refl

  layout_same : (l : Layout) → layout_of (map (cell_of (type_in r) (path_in r)) l) ≡ map (named_cell name) l
  layout_same l = map_map cell_kind (cell_of (type_in r) (path_in r)) (named_cell name) cell_same l

  pub own_is_written : (own image).code ≡ reading_of (image_of r)
  own_is_written = ap (λ ls. record { parts = image_of r; layouts = ls; numbered = pointee }) (sym (map_map layout_of (map (cell_of (type_in r) (path_in r))) (map (named_cell name)) layout_same (layouts_in r)))

  own_is_sound : ImageIsSound (own image)
  own_is_sound = image_is_sound (image_of r) (fields_fit r fit numberable small) (own image) own_is_written (subst (ReadingIsSound false) (sym own_is_written) (image_sound r numberable))

  -- ---- the first heap

  abbrev In : Ty → Type 0
  In t = IsIn same_type (types_of r) t

  layout_written : (t : Ty) → In t → layout_at (reading_of (image_of r)) (type_in r t) ≡ map (named_cell name) (cells r.structs t)
  layout_written t there = ap (λ code. layout_at code (type_in r t)) (sym own_is_written) ∙ by (layouts_in r) (type_in r t) ∙ ap (map (named_cell name)) (layout_found r t there)
    where
      by : (ls : List Layout) (n : ℕ) → get_or (map (map (named_cell name)) ls) n [] ≡ map (named_cell name) (get_or ls n [])
      by [] n = refl
      by (l ∷ ls) zero = refl
      by (l ∷ ls) (suc n) = by ls n

  blank_same : (k : CellKind) → blank_cell (named_cell name k) ≡ blank_cell k
  blank_same int_cell = refl
  blank_same unsigned_cell = refl
  blank_same char_cell = refl
  blank_same region_cell = refl
  blank_same (pointer_cell note target) = refl

  blanks_same : (l : Layout) (n : ℕ) → flat_map (map blank_cell) (replicate n (map (named_cell name) l)) ≡ flat_map (map blank_cell) (replicate n l)
  blanks_same l zero = refl
  blanks_same l (suc n) = ap (λ vs. vs ++ flat_map (map blank_cell) (replicate n (map (named_cell name) l))) (map_map blank_cell (named_cell name) blank_cell blank_same l) ∙ ap (λ vs. map blank_cell l ++ vs) (blanks_same l n)

  blank_is : (l : Layout) (n : ℕ) → blank (map (named_cell name) l) n ≡ renamed name (blank l n)
  blank_is l n = ap (λ vs. record { layout = map (named_cell name) l; count = n; values = vs }) (blanks_same l n)

  word_is : (n : ℤ) → IsTrue (fits Unsigned n) → pos (word_of n) ≡ n
  word_is (pos k) e = ap pos (mod-eq_of_lt (less_is k 4294967296 e))
  word_is (negsuc k) e = absurd (false≢true e)

  byte_is : (n : ℤ) → IsTrue (fits Char n) → pos (word_of n) ≡ n
  byte_is (pos k) e = let l = less_is k 256 e in ap pos (mod-eq_of_lt (let p : k < 4294967296 = omega (arith, l) in p))
  byte_is (negsuc k) e = absurd (false≢true e)

  abbrev object_by : Layout → ℕ → Initial → Object
  object_by l n i = record (blank l n) { values = first_values l i (blank l n).values }

  object_same : (t : Ty) (c : Option ℕ) (n : ℤ) → IsInitial c t n → object_by (map (named_cell name) (cells r.structs t)) (elements c) (initial_of (type_in r) (path_in r) t c n) ≡ renamed name (global_object_of (cells r.structs t) t c n)
  object_same t (Some k) n e = blank_is (cells r.structs t) k
  object_same int None n e = ap (λ v. record { layout = int_cell ∷ []; count = 1; values = Number v ∷ [] }) (word_again Signed n e)
  object_same unsigned None n e = ap (λ v. record { layout = unsigned_cell ∷ []; count = 1; values = Number v ∷ [] }) (word_is n e)
  object_same char None n e = ap (λ v. record { layout = char_cell ∷ []; count = 1; values = Number v ∷ [] }) (byte_is n e)
  object_same region None n e = refl
  object_same (struct k) None n e = blank_is (cells r.structs (struct k)) 1
  object_same (pointer note target) None n e = refl

  globals_same : (gs : List Global) → ((k : ℕ) (g : Global) → slice_get gs k ≡ Some g → GlobalFits r.structs g × In g.ty) → map (Image.global_object (reading_of (image_of r))) (map (global_of (type_in r) (path_in r)) gs) ≡ map (renamed name) (map (global_object r.structs) gs)
  globals_same [] each = refl
  globals_same (g ∷ gs) each =
      let h = each 0 g refl in
      ap (λ o. o ∷ map (Image.global_object (reading_of (image_of r))) (map (global_of (type_in r) (path_in r)) gs))
      (ap (λ l. object_by l (elements g.count) (initial_of (type_in r) (path_in r) g.ty g.count g.initial)) (layout_written g.ty h.1) ∙ object_same g.ty g.count g.initial h.0.initial_fits)
      ∙ ap (λ os. renamed name (global_object r.structs g) ∷ os) (globals_same gs (λ k d e. each (suc k) d e))

  strings_same : (ss : List (List ℕ)) → Every In (map (λ (bytes : List ℕ). char) ss) → map (Image.global_object (reading_of (image_of r))) (map (string_of (type_in r) (path_in r)) ss) ≡ map (renamed name) (map literal ss)
  strings_same [] all = refl
  strings_same (bytes ∷ ss) all =
      ap (λ o. o ∷ map (Image.global_object (reading_of (image_of r))) (map (string_of (type_in r) (path_in r)) ss))
      (ap (λ l. object_by l (suc (length bytes)) (initial.Bytes (bytes ++ 0 ∷ []))) (layout_written char all.0) ∙ ap (λ vs. record { layout = char_cell ∷ []; count = suc (length bytes); values = vs }) (map_append (λ (b : ℕ). Number (pos b)) bytes (0 ∷ [])))
      ∙ ap (λ os. renamed name (literal bytes) ∷ os) (strings_same ss all.1)

  global_in : (k : ℕ) (g : Global) → slice_get r.globals k ≡ Some g → In g.ty
  global_in k g e = (every_of_one In (λ (d : Global). with_pointed d.ty) r.globals k g e (globals_in r fit numberable)).0

  objects_same : first_objects (reading_of (image_of r)) ≡ map (renamed name) (map (global_object r.structs) r.globals ++ map literal r.strings)
  objects_same =
      map_append (Image.global_object (reading_of (image_of r))) (map (global_of (type_in r) (path_in r)) r.globals) (map (string_of (type_in r) (path_in r)) r.strings)
      ∙ ap (λ os. os ++ map (Image.global_object (reading_of (image_of r))) (map (string_of (type_in r) (path_in r)) r.strings)) (globals_same r.globals (λ k g e. (fit.globals k g e, global_in k g e)))
      ∙ ap (λ os. map (renamed name) (map (global_object r.structs) r.globals) ++ os) (strings_same r.strings (strings_in r fit numberable))
      ∙ sym (map_append (renamed name) (map (global_object r.structs) r.globals) (map literal r.strings))

  -- ---- globals in the source's first heap

  object_shape : (g : Global) → shape_of (global_object r.structs g) ≡ record { layout = cells r.structs g.ty; count = elements g.count }
  object_shape g = by g.count
    where
      by : (c : Option ℕ) → shape_of (global_object_of (cells r.structs g.ty) g.ty c g.initial) ≡ record { layout = cells r.structs g.ty; count = elements c }
      by None = refl
      by (Some n) = refl

  abbrev shape_named : ImageGlobal → Shape
  shape_named d = record { layout = layout_at (view_of r) d.type_number; count = d.elements }

  there_in : (gs : List Global) (ss : List (List ℕ)) → ((k : ℕ) (g : Global) → slice_get gs k ≡ Some g → In g.ty) → Every In (map (λ (bytes : List ℕ). char) ss) → (n : ℕ) (h : ImageGlobal)
      → slice_get (map (global_of (type_in r) (path_in r)) gs ++ map (string_of (type_in r) (path_in r)) ss) n ≡ Some h
      → shape_in (slice_get (map (global_object r.structs) gs ++ map literal ss) n) ≡ Some (shape_named h)
  there_in [] [] each all n h e = absurd (cc e)
  there_in [] (s ∷ ss) each all zero h e = let q : string_of (type_in r) (path_in r) s ≡ h = cc in ap (λ l. Some (record { layout = l; count = suc (length s) })) (sym (layout_found r char all.0)) ∙ ap (λ (d : ImageGlobal). Some (shape_named d)) q
  there_in [] (s ∷ ss) each all (suc n) h e = there_in [] ss (λ k g q. absurd (cc q)) all.1 n h e
  there_in (g ∷ gs) ss each all zero h e = let q : global_of (type_in r) (path_in r) g ≡ h = cc in ap Some (object_shape g ∙ ap (λ l. record { layout = l; count = elements g.count }) (sym (layout_found r g.ty (each 0 g refl)))) ∙ ap (λ (d : ImageGlobal). Some (shape_named d)) q
  there_in (g ∷ gs) ss each all (suc n) h e = there_in gs ss (λ k d q. each (suc k) d q) all n h e

-- of region code by itself
module _ (r : Rlang) (fit : IsRlang r) (numberable : IsNumberable r) (small : IsSmall (image_of r)) where
  -- its structs, globals and strings are all that a first world is made of
  abbrev bare : Program
  bare = record { structs = r.structs; globals = r.globals; strings = r.strings; functions = []; main = 0 }

  abbrev pub compared : Compared
  compared = image r fit numberable small

  pub globals_there : GlobalsAreThere compared (first_heap bare)
  globals_there n h e = there_in r fit numberable small r.globals r.strings (global_in r fit numberable small) (strings_in r fit numberable) n h e

  begins : (input : List ℕ) (limits : Limits) → Good compared (first_world bare input limits)
  begins input limits = first_is_good compared refl bare input limits globals_there

  pub first_is_model : (input : List ℕ) (limits : Limits) → model (name r fit numberable small) (first_world bare input limits) ≡ first_held (reading_of (image_of r)) input limits
  first_is_model input limits = ap (λ os. record {
    turns = limits.turns;
    input = input;
    acts = [];
    store = record { regions = Some (record { parent = 0; objects = os }) ∷ []; pins = []; spare = 0; region_limit = limits.regions; block_limit = limits.blocks };
  }) (sym (objects_same r fit numberable small))

  abbrev source_run : (input : List ℕ) → Limits → Run World Value
  source_run input limits = stack_main source (deletes r) (stack_code r) r.main (first_world bare input limits)

  same_run : (input : List ℕ) (limits : Limits) → run_main (watched compared) (view_of r) (first_world bare input limits) ≡ source_run input limits
  same_run input limits = image_same (watched compared) (λ line t v w. refl) waiting source_waits r numberable (first_world bare input limits)

  runs : (input : List ℕ) (limits : Limits) → image_run (image_of r) input limits ≡ mapped compared (source_run input limits)
  runs input limits =
      ap (λ w. run_main stored (reading_of (image_of r)) w) (sym (first_is_model input limits))
      ∙ ap (λ code. run_main stored code (model (name r fit numberable small) (first_world bare input limits))) (sym (own_is_written r fit numberable small))
      ∙ image_runs compared (λ ty. refl) (own_is_sound r fit numberable small) (first_world bare input limits) (begins input limits)
      (unmarked compared (view_is_sound compared (λ ty. refl) (own_is_sound r fit numberable small)) refl (run_main (watched compared) (view_of r) (first_world bare input limits)))
      ∙ ap (mapped compared) (same_run input limits)

  pub same_meaning : (input : List ℕ) (m : Run World Value) → Image.meaning_of_run input (mapped compared m) ≡ meaning_of_run input m
  same_meaning input (Go v w) = refl
  same_meaning input (Stopped stop w) = refl

  pub same_left : (m : Run World Value) → Image.left_by_run (mapped compared m) ≡ left_by_run m
  same_left (Go v w) = ap Some (regions_left (name r fit numberable small) w.heap)
  same_left (Stopped stop w) = refl

  stack_is : (input : List ℕ) (limits : Limits) → source_run input limits ≡ R.run_main source r (first_world bare input limits)
  stack_is input limits = means source source_turns r (λ k f e. ((numberable.functions k f e).in_order.0, (numberable.functions k f e).in_order.1)) (first_world bare input limits)

  pub region_means : RegionMeansTheSame r
  region_means input limits = ap (Image.meaning_of_run input) (runs input limits) ∙ same_meaning input (source_run input limits) ∙ ap (meaning_of_run input) (stack_is input limits)

  pub region_leaves : RegionLeavesTheSame r
  region_leaves input limits = ap Image.left_by_run (runs input limits) ∙ same_left (source_run input limits) ∙ ap left_by_run (stack_is input limits)

module _ (program : Program) (well : IsWellTyped program) (bounds : IsWithinBounds program) (small : IsSmall (image_of_program program)) where
  pub image_means : ImageMeansTheSame program
  image_means input limits bytes = region_means (region_of_program program) (Region.fits_together program well bounds) (program_is_numberable program well) small input limits ∙ (region_code_means program well input limits bytes).0

  pub image_leaves : ImageLeavesTheSame program
  image_leaves input limits bytes = region_leaves (region_of_program program) (Region.fits_together program well bounds) (program_is_numberable program well) small input limits ∙ (region_code_means program well input limits bytes).1
