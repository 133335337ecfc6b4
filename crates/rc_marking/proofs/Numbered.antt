-- Bits that the stores of an image take one after another are those of a mask by number.
use Rattle.std.proofs.Common.{◌≡◌, ℕ, suc, ◌+◌, Bool, false, List, [], ◌∷◌, ◌++◌, length, drop, map, get_or, Some, refl, ap, ◌∙◌, arith, length-append}
use Rattle.std.proofs.lemmas.List.{get_or-drop, drop-drop}
use Rattle.std.specs.Prelude.{slice_get}
use Rattle.std.specs.List.{AllByRecursion as Every}
use Rattle.rc_core.specs.declared.ty.Note.{Note}
use Rattle.rc_core.specs.declared.ty.Note.TheVariants.{Plain, SameRegion, ParentPtr, Traditional}
use Rattle.rc_core.specs.Types.{Ty, int, unsigned, char, region, struct, pointer}
use Rattle.rc_rlang.specs.RegionCode.{Routine, Rlang}
use Rattle.rc_rlang.specs.RegionRuns.{deletes}
use Rattle.rc_emission.specs.StackCode.{Line}
use Rattle.rc_emission.specs.StackCode as From
use Rattle.rc_emission.specs.KeptOperands.{same_type}
use Rattle.rc_code.specs.declared.opcode.Simple.{Simple}
use Rattle.rc_code.specs.declared.opcode.Typed.{Typed}
use Rattle.rc_code.specs.declared.opcode.Simple.TheVariants as simple
use Rattle.rc_code.specs.declared.opcode.Typed.TheVariants as typed
use Rattle.rc_code.specs.declared.instruction.Instruction.{Instruction}
use Rattle.rc_code.specs.declared.instruction.Instruction.TheVariants as instruction
use Rattle.rc_code.specs.declared.image.Path.{Path}
use Rattle.rc_numbering.specs.Tables.{IsIn}
use Rattle.rc_numbering.specs.Names.{types_of, same_path, paths_of, instruction_names, code_names, instruction_paths, code_paths, stack_of}
use Rattle.rc_numbering.specs.Numbered.{by_type, numbered, numbered_from, function_of, type_in, path_in, image_of}
use Rattle.rc_numbering.specs.Sayable.{Sayable, AllSayable}
use Rattle.rc_numbering.specs.Means.{IsNumberable}
use Rattle.rc_numbering.proofs.Tabled.{every_before, every_behind}
use Rattle.rc_numbering.proofs.Programs.{code_in, paths_in, function_said}
use Rattle.rc_marks.specs.Stores.{note_on, annotated, written_one, written}
use Rattle.rc_marks.specs.Marked.{marked_image}
use Rattle.rc_marks.specs.Marked as by_number
use Rattle.rc_marks.proofs.MarksCounted.{note_is}
use Rattle.rc_marking.specs.Marking.{note_at, mark_by, left_by, marked_one, left_by_one, marked_code, left_by_code, marked_functions, with_marks}

module _ (r : Rlang) (bits : List Bool) where
  abbrev note : ℕ → Note
  note = note_at (image_of r)

  abbrev mask : ℕ → Bool
  mask n = get_or bits n false

  abbrev In : Ty → Type 0
  In t = IsIn same_type (types_of r) t

  abbrev PathIn : Path → Type 0
  PathIn p = IsIn same_path (paths_of (type_in r) r) p

  none : (n : ℕ) → drop n bits ≡ drop (n + 0) bits
  none n = let e : n ≡ n + 0 = omega arith in ap (λ k. drop k bits) e

  first : (n : ℕ) → get_or (drop n bits) 0 false ≡ get_or bits n false
  first n = let e : n + 0 ≡ n = omega arith in get_or-drop n bits 0 false ∙ ap (λ k. get_or bits k false) e

  mark_there : (a : Note) (n : ℕ) → mark_by a (drop n bits) false ≡ by_number.mark_by mask n a
  mark_there Plain n = refl
  mark_there SameRegion n = first n
  mark_there ParentPtr n = first n
  mark_there Traditional n = first n

  left_there : (a : Note) (n line : ℕ) → left_by a (drop n bits) ≡ drop (n + length (annotated a line)) bits
  left_there Plain n line = none n
  left_there SameRegion n line = drop-drop 1 n bits
  left_there ParentPtr n line = drop-drop 1 n bits
  left_there Traditional n line = drop-drop 1 n bits

  -- an instruction that stores nothing takes no bit
  abbrev Takes : (n k : ℕ) → (i j : Instruction) → Type 0
  Takes n k i j = (marked_one note (drop n bits) i ≡ j) × (left_by_one note (drop n bits) i ≡ drop (n + k) bits)

  of_type : (n : ℕ) (row : Simple) (row_typed : Typed) (ty : Ty) → Takes n 0 (by_type (type_in r) (path_in r) row row_typed ty) (by_type (type_in r) (path_in r) row row_typed ty)
  of_type n row row_typed int = (refl, none n)
  of_type n row row_typed unsigned = (refl, none n)
  of_type n row row_typed char = (refl, none n)
  of_type n row row_typed region = (refl, none n)
  of_type n row row_typed (struct k) = (refl, none n)
  of_type n row row_typed (pointer a target) = (refl, none n)

  one : (f : Routine) (line n at : ℕ) (i : From.Instruction) → Sayable r f (deletes r) i → Every In (instruction_names i) → Every PathIn (instruction_paths (type_in r) i)
      → Takes n (length (written_one line i)) (numbered (type_in r) (path_in r) at i) (by_number.marked_one (type_in r) (path_in r) mask n at i)
  one f line n at (From.store a) said types paths =
      let is = note_is r mask a said types.0 paths.0 in (
        ap (λ x. instruction.Store (path_in r a) (mark_by x (drop n bits) false)) is ∙ ap (instruction.Store (path_in r a)) (mark_there (note_on a.cell) n),
        ap (λ x. left_by x (drop n bits)) is ∙ left_there (note_on a.cell) n line,
      )
  one f line n at (From.null ty) said types paths = of_type n simple.NullRegion typed.Null ty
  one f line n at (From.null_test ty) said types paths = of_type n simple.IsNullRegion typed.IsNull ty
  one f line n at (From.same ty) said types paths = of_type n simple.SameRegion typed.Same ty
  one f line n at i said types paths = (refl, none n)

  lines : (f : Routine) (n at : ℕ) (code : List Line) → AllSayable r f (deletes r) code → Every In (code_names code) → Every PathIn (code_paths (type_in r) code)
      → (marked_code note (drop n bits) (numbered_from (type_in r) (path_in r) at code) ≡ by_number.marked_from (type_in r) (path_in r) mask n at code)
      × (left_by_code note (drop n bits) (numbered_from (type_in r) (path_in r) at code) ≡ drop (n + length (written code)) bits)
  lines f n at [] said types paths = (refl, none n)
  lines f n at (l ∷ code) said types paths =
      let here = one f l.line n at l.instruction said.0 (every_before In (instruction_names l.instruction) (code_names code) types) (every_before PathIn (instruction_paths (type_in r) l.instruction) (code_paths (type_in r) code) paths) in
      let rest = lines f (n + length (written_one l.line l.instruction)) (suc at) code said.1 (every_behind In (instruction_names l.instruction) (code_names code) types) (every_behind PathIn (instruction_paths (type_in r) l.instruction) (code_paths (type_in r) code) paths) in
      let e : n + length (written_one l.line l.instruction) + length (written code) ≡ n + length (written_one l.line l.instruction ++ written code) = let x = length-append (written_one l.line l.instruction) (written code) in omega (arith, x) in (
        (λ k. here.0 k ∷ marked_code note (here.1 k) (numbered_from (type_in r) (path_in r) (suc at) code)) ∙ ap (λ is. by_number.marked_one (type_in r) (path_in r) mask n at l.instruction ∷ is) rest.0,
        ap (λ left. left_by_code note left (numbered_from (type_in r) (path_in r) (suc at) code)) here.1 ∙ rest.1 ∙ ap (λ k. drop k bits) e,
      )

  functions : (numberable : IsNumberable r) (fs : List Routine) (j n : ℕ) → ((k : ℕ) (f : Routine) → slice_get fs k ≡ Some f → slice_get r.functions (j + k) ≡ Some f)
      → marked_functions note (drop n bits) (map (λ f. function_of (type_in r) (path_in r) (stack_of r f) f) fs) ≡ by_number.marked_functions mask r n fs
  functions numberable [] j n each = refl
  functions numberable (f ∷ fs) j n each =
      let here = each 0 f refl in
      let code = lines f n 0 (stack_of r f).code (function_said r f (numberable.functions (j + 0) f here)) (code_in r (j + 0) f here) (paths_in r (j + 0) f here) in
      (λ k. record (function_of (type_in r) (path_in r) (stack_of r f) f) { code = code.0 k } ∷ marked_functions note (code.1 k) (map (λ g. function_of (type_in r) (path_in r) (stack_of r g) g) fs))
      ∙ ap (λ gs. record (function_of (type_in r) (path_in r) (stack_of r f) f) { code = by_number.marked_from (type_in r) (path_in r) mask n 0 (stack_of r f).code } ∷ gs)
      (functions numberable fs (suc j) (n + length (written (stack_of r f).code)) (λ k g e. let q : suc j + k ≡ j + suc k = omega arith in ap (slice_get r.functions) q ∙ each (suc k) g e))

  pub marks_numbered : IsNumberable r → with_marks bits (image_of r) ≡ marked_image mask r
  marks_numbered numberable =
      ap (λ fs. record (image_of r) { functions = fs }) (functions numberable r.functions 0 0 (λ k f e. let q : 0 + k ≡ k = omega arith in ap (slice_get r.functions) q ∙ e))
