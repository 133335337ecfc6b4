-- Each store of an image to an annotated cell has the bit at its number.
use Rattle.std.proofs.Common.{◌≡◌, ℕ, zero, suc, ◌+◌, Bool, false, List, [], ◌∷◌, ◌++◌, length, map, flat_map, get_or, Some, refl, sym, ap, ◌∙◌, arith}
use Rattle.std.specs.Prelude.{slice_get}
use Rattle.std.specs.List.{AllByRecursion as Every}
use Rattle.rc_core.specs.declared.ty.NumberType.TheVariants.{Int, Unsigned, Char}
use Rattle.rc_core.specs.declared.ty.Note.{Note}
use Rattle.rc_core.specs.declared.ty.Note.TheVariants.{Plain, SameRegion, ParentPtr, Traditional}
use Rattle.rc_core.specs.Types.{Ty, int, unsigned, char, region, struct, pointer, int_cell}
use Rattle.rc_core.specs.Layout.{Layout, cells, note_of}
use Rattle.rc_rlang.specs.RegionCode.{Access, Routine, Rlang}
use Rattle.rc_rlang.specs.RegionRuns.{deletes}
use Rattle.rc_emission.specs.StackCode.{Line}
use Rattle.rc_emission.specs.StackCode as From
use Rattle.rc_emission.specs.KeptOperands.{same_type}
use Rattle.rc_code.specs.declared.instruction.Instruction.TheVariants as instruction
use Rattle.rc_code.specs.declared.image.Function.{Function}
use Rattle.rc_code.specs.declared.image.Path.{Path}
use Rattle.rc_code.specs.Running.{Reading, reading_of, layout_of, cell_kind, layout_at, path_at, cell_at}
use Rattle.rc_numbering.specs.Tables.{IsIn}
use Rattle.rc_numbering.specs.Names.{types_of, same_path, paths_of, path_of, instruction_names, code_names, instruction_paths, code_paths, stack_of}
use Rattle.rc_numbering.specs.Numbered.{cell_of, numbered, numbered_from, function_of, type_in, path_in, layouts_in, image_of}
use Rattle.rc_numbering.specs.Sayable.{cell_for, AccessFits, Sayable, AllSayable}
use Rattle.rc_numbering.specs.Means.{IsNumberable}
use Rattle.rc_numbering.proofs.Tabled.{every_before, every_behind, get_mapped}
use Rattle.rc_numbering.proofs.Rights.{layout_found, path_found}
use Rattle.rc_numbering.proofs.Programs.{code_in, paths_in, function_said}
use Rattle.rc_numbering.proofs.Rows.{length_mapped}
use Rattle.rc_marks.specs.Stores.{Store, note_on, annotated, written_one, written}
use Rattle.rc_marks.specs.Marked.{mark_by, marked_one, marked_from, marked_functions, marked_image, stored_with, stored_one, stored_by, with_bits, HasItsMarks}
use Rattle.rc_marks.proofs.Written.{stores_written}

module _ (r : Rlang) (mask : ℕ → Bool) where
  abbrev code : Reading
  code = reading_of (marked_image mask r)

  abbrev In : Ty → Type 0
  In t = IsIn same_type (types_of r) t

  abbrev PathIn : Path → Type 0
  PathIn p = IsIn same_path (paths_of (type_in r) r) p

  get_written : (l : Layout) (n : ℕ) → get_or (map cell_kind (map (cell_of (type_in r) (path_in r)) l)) n int_cell ≡ cell_kind (cell_of (type_in r) (path_in r) (get_or l n int_cell))
  get_written [] n = refl
  get_written (k ∷ l) zero = refl
  get_written (k ∷ l) (suc n) = get_written l n

  layout_written : (t : Ty) → In t → layout_at code (type_in r t) ≡ map cell_kind (map (cell_of (type_in r) (path_in r)) (cells r.structs t))
  layout_written t there =
      get_mapped layout_of (image_of r).types (type_in r t) [] [] (let a = length_mapped (map (cell_of (type_in r) (path_in r))) (layouts_in r) in let b = length_mapped (cells r.structs) (types_of r) in omega (arith, a, b, there))
      ∙ ap layout_of (get_mapped (map (cell_of (type_in r) (path_in r))) (layouts_in r) (type_in r t) [] [] (let b = length_mapped (cells r.structs) (types_of r) in omega (arith, b, there)))
      ∙ ap (λ l. layout_of (map (cell_of (type_in r) (path_in r)) l)) (layout_found r t there)

  note_there : (t : Ty) → note_of (cell_kind (cell_of (type_in r) (path_in r) (cell_for t))) ≡ note_on t
  note_there int = refl
  note_there unsigned = refl
  note_there char = refl
  note_there region = refl
  note_there (struct k) = refl
  note_there (pointer note target) = refl

  pub note_is : (a : Access) → AccessFits r.structs a → In a.element → PathIn (path_of (type_in r) a) → note_of (cell_at code (path_at code (path_in r a))) ≡ note_on a.cell
  note_is a fits there path =
      ap (λ p. note_of (cell_at code p)) (path_found r a path)
      ∙ ap (λ (l : Layout). note_of (get_or l a.offset int_cell)) (layout_written a.element there)
      ∙ ap note_of (get_written (cells r.structs a.element) a.offset)
      ∙ ap (λ k. note_of (cell_kind (cell_of (type_in r) (path_in r) k))) fits.cell
      ∙ note_there a.cell

  bit_there : (note : Note) (line n : ℕ) → stored_with note line (mark_by mask n note) ≡ with_bits mask n (annotated note line)
  bit_there Plain line n = refl
  bit_there SameRegion line n = refl
  bit_there ParentPtr line n = refl
  bit_there Traditional line n = refl

  one_bit : (f : Routine) (line n at : ℕ) (i : From.Instruction) → Sayable r f (deletes r) i → Every In (instruction_names i) → Every PathIn (instruction_paths (type_in r) i) → stored_one code line (marked_one (type_in r) (path_in r) mask n at i) ≡ with_bits mask n (written_one line i)
  one_bit f line n at (From.number s k) said types paths = refl
  one_bit f line n at (From.null int) said types paths = refl
  one_bit f line n at (From.null unsigned) said types paths = refl
  one_bit f line n at (From.null char) said types paths = refl
  one_bit f line n at (From.null region) said types paths = refl
  one_bit f line n at (From.null (struct k)) said types paths = refl
  one_bit f line n at (From.null (pointer note target)) said types paths = refl
  one_bit f line n at (From.global g) said types paths = refl
  one_bit f line n at (From.get x) said types paths = refl
  one_bit f line n at (From.set x ty) said types paths = refl
  one_bit f line n at (From.arithmetic o s) said types paths = refl
  one_bit f line n at (From.unary o s) said types paths = refl
  one_bit f line n at From.zero_test said types paths = refl
  one_bit f line n at (From.null_test int) said types paths = refl
  one_bit f line n at (From.null_test unsigned) said types paths = refl
  one_bit f line n at (From.null_test char) said types paths = refl
  one_bit f line n at (From.null_test region) said types paths = refl
  one_bit f line n at (From.null_test (struct k)) said types paths = refl
  one_bit f line n at (From.null_test (pointer note target)) said types paths = refl
  one_bit f line n at (From.same int) said types paths = refl
  one_bit f line n at (From.same unsigned) said types paths = refl
  one_bit f line n at (From.same char) said types paths = refl
  one_bit f line n at (From.same region) said types paths = refl
  one_bit f line n at (From.same (struct k)) said types paths = refl
  one_bit f line n at (From.same (pointer note target)) said types paths = refl
  one_bit f line n at (From.convert Int) said types paths = refl
  one_bit f line n at (From.convert Unsigned) said types paths = refl
  one_bit f line n at (From.convert Char) said types paths = refl
  one_bit f line n at (From.move ty s direction) said types paths = refl
  one_bit f line n at (From.load a) said types paths = refl
  one_bit f line n at (From.store a) said types paths = ap (λ note. stored_with note line (mark_by mask n (note_on a.cell))) (note_is a said types.0 paths.0) ∙ bit_there (note_on a.cell) line n
  one_bit f line n at From.new_region said types paths = refl
  one_bit f line n at From.new_subregion said types paths = refl
  one_bit f line n at (From.region_of ty) said types paths = refl
  one_bit f line n at (From.allocate ty layout) said types paths = refl
  one_bit f line n at (From.allocate_array ty layout) said types paths = refl
  one_bit f line n at (From.delete pins) said types paths = refl
  one_bit f line n at (From.call g tys pins) said types paths = refl
  one_bit f line n at (From.perform g tys pins) said types paths = refl
  one_bit f line n at (From.leave tys) said types paths = refl
  one_bit f line n at From.putchar said types paths = refl
  one_bit f line n at From.getchar said types paths = refl
  one_bit f line n at (From.jump k) said types paths = refl
  one_bit f line n at (From.jump_zero k) said types paths = refl
  one_bit f line n at (From.back to) said types paths = refl
  one_bit f line n at From.pop said types paths = refl

  bits_append : (xs ys : List Store) (n : ℕ) → with_bits mask n (xs ++ ys) ≡ with_bits mask n xs ++ with_bits mask (n + length xs) ys
  bits_append [] ys n = let e : n ≡ n + 0 = omega arith in ap (λ k. with_bits mask k ys) e
  bits_append (x ∷ xs) ys n = ap (λ zs. record { line = x.line; note = x.note; proved = mask n } ∷ zs) (bits_append xs ys (suc n) ∙ (let e : suc n + length xs ≡ n + suc (length xs) = omega arith in ap (λ k. with_bits mask (suc n) xs ++ with_bits mask k ys) e))

  lines_bits : (f : Routine) (lines : List Line) (n at : ℕ) → AllSayable r f (deletes r) lines → Every In (code_names lines) → Every PathIn (code_paths (type_in r) lines)
      → stored_by code (marked_from (type_in r) (path_in r) mask n at lines) (map (λ (l : Line). l.line) lines) ≡ with_bits mask n (written lines)
  lines_bits f [] n at said types paths = refl
  lines_bits f (l ∷ lines) n at said types paths =
      ap (λ xs. xs ++ stored_by code (marked_from (type_in r) (path_in r) mask (n + length (written_one l.line l.instruction)) (suc at) lines) (map (λ (m : Line). m.line) lines))
      (one_bit f l.line n at l.instruction said.0 (every_before In (instruction_names l.instruction) (code_names lines) types) (every_before PathIn (instruction_paths (type_in r) l.instruction) (code_paths (type_in r) lines) paths))
      ∙ ap (λ xs. with_bits mask n (written_one l.line l.instruction) ++ xs)
      (lines_bits f lines (n + length (written_one l.line l.instruction)) (suc at) said.1 (every_behind In (instruction_names l.instruction) (code_names lines) types) (every_behind PathIn (instruction_paths (type_in r) l.instruction) (code_paths (type_in r) lines) paths))
      ∙ sym (bits_append (written_one l.line l.instruction) (written lines) n)

  functions_bits : (numberable : IsNumberable r) (fs : List Routine) (j n : ℕ) → ((k : ℕ) (f : Routine) → slice_get fs k ≡ Some f → slice_get r.functions (j + k) ≡ Some f)
      → flat_map (λ (g : Function). stored_by code g.code g.lines) (marked_functions mask r n fs) ≡ with_bits mask n (flat_map (λ (f : Routine). written (stack_of r f).code) fs)
  functions_bits numberable [] j n each = refl
  functions_bits numberable (f ∷ fs) j n each =
      let here = each 0 f refl in
      ap (λ xs. xs ++ flat_map (λ (g : Function). stored_by code g.code g.lines) (marked_functions mask r (n + length (written (stack_of r f).code)) fs))
      (lines_bits f (stack_of r f).code n 0 (function_said r f (numberable.functions (j + 0) f here)) (code_in r (j + 0) f here) (paths_in r (j + 0) f here))
      ∙ ap (λ xs. with_bits mask n (written (stack_of r f).code) ++ xs)
      (functions_bits numberable fs (suc j) (n + length (written (stack_of r f).code)) (λ k g e. let q : suc j + k ≡ j + suc k = omega arith in ap (slice_get r.functions) q ∙ each (suc k) g e))
      ∙ sym (bits_append (written (stack_of r f).code) (flat_map (λ (g : Routine). written (stack_of r g).code) fs) n)

  pub has_its_marks : IsNumberable r → HasItsMarks mask r
  has_its_marks numberable =
      functions_bits numberable r.functions 0 0 (λ k f e. let q : 0 + k ≡ k = omega arith in ap (slice_get r.functions) q ∙ e) ∙ ap (with_bits mask 0) (stores_written r)

-- ---- no marks

module _ (r : Rlang) where
  unmarked_note : (n : ℕ) (note : Note) → mark_by (λ k. false) n note ≡ false
  unmarked_note n Plain = refl
  unmarked_note n SameRegion = refl
  unmarked_note n ParentPtr = refl
  unmarked_note n Traditional = refl

  unmarked_one : (n at : ℕ) (i : From.Instruction) → marked_one (type_in r) (path_in r) (λ k. false) n at i ≡ numbered (type_in r) (path_in r) at i
  unmarked_one n at (From.number s k) = refl
  unmarked_one n at (From.null ty) = refl
  unmarked_one n at (From.global g) = refl
  unmarked_one n at (From.get x) = refl
  unmarked_one n at (From.set x ty) = refl
  unmarked_one n at (From.arithmetic o s) = refl
  unmarked_one n at (From.unary o s) = refl
  unmarked_one n at From.zero_test = refl
  unmarked_one n at (From.null_test ty) = refl
  unmarked_one n at (From.same ty) = refl
  unmarked_one n at (From.convert to) = refl
  unmarked_one n at (From.move ty s direction) = refl
  unmarked_one n at (From.load a) = refl
  unmarked_one n at (From.store a) = ap (instruction.Store (path_in r a)) (unmarked_note n (note_on a.cell))
  unmarked_one n at From.new_region = refl
  unmarked_one n at From.new_subregion = refl
  unmarked_one n at (From.region_of ty) = refl
  unmarked_one n at (From.allocate ty layout) = refl
  unmarked_one n at (From.allocate_array ty layout) = refl
  unmarked_one n at (From.delete pins) = refl
  unmarked_one n at (From.call g tys pins) = refl
  unmarked_one n at (From.perform g tys pins) = refl
  unmarked_one n at (From.leave tys) = refl
  unmarked_one n at From.putchar = refl
  unmarked_one n at From.getchar = refl
  unmarked_one n at (From.jump k) = refl
  unmarked_one n at (From.jump_zero k) = refl
  unmarked_one n at (From.back to) = refl
  unmarked_one n at From.pop = refl

  unmarked_lines : (n at : ℕ) (lines : List Line) → marked_from (type_in r) (path_in r) (λ k. false) n at lines ≡ numbered_from (type_in r) (path_in r) at lines
  unmarked_lines n at [] = refl
  unmarked_lines n at (l ∷ lines) =
      ap (λ i. i ∷ marked_from (type_in r) (path_in r) (λ k. false) (n + length (written_one l.line l.instruction)) (suc at) lines) (unmarked_one n at l.instruction)
      ∙ ap (λ is. numbered (type_in r) (path_in r) at l.instruction ∷ is) (unmarked_lines (n + length (written_one l.line l.instruction)) (suc at) lines)

  unmarked_functions : (n : ℕ) (fs : List Routine) → marked_functions (λ k. false) r n fs ≡ map (λ f. function_of (type_in r) (path_in r) (stack_of r f) f) fs
  unmarked_functions n [] = refl
  unmarked_functions n (f ∷ fs) =
      ap (λ is. record (function_of (type_in r) (path_in r) (stack_of r f) f) { code = is } ∷ marked_functions (λ k. false) r (n + length (written (stack_of r f).code)) fs) (unmarked_lines n 0 (stack_of r f).code)
      ∙ ap (λ gs. function_of (type_in r) (path_in r) (stack_of r f) f ∷ gs) (unmarked_functions (n + length (written (stack_of r f).code)) fs)

  -- where the mask has no bit, the image is that without marks
  pub no_marks : marked_image (λ k. false) r ≡ image_of r
  no_marks = ap (λ fs. record (image_of r) { functions = fs }) (unmarked_functions 0 r.functions)
