-- Marks stand at stores to annotated cells alone.
use Rattle.std.proofs.Common.{◌≡◌, ℕ, zero, suc, ◌+◌, Bool, true, false, List, [], ◌∷◌, length, get_or, Some, refl, sym, ap, ◌∙◌, subst, arith}
use Rattle.std.proofs.lemmas.Bool.{false≢true}
use Rattle.std.specs.Prelude.{slice_get}
use Rattle.std.specs.List.{AllByRecursion as Every}
use Rattle.rc_core.specs.declared.ty.Note.{Note}
use Rattle.rc_core.specs.declared.ty.Note.TheVariants.{Plain, SameRegion, ParentPtr, Traditional}
use Rattle.rc_core.specs.Types.{Ty, int, unsigned, char, region, struct, pointer}
use Rattle.rc_core.specs.Layout.{note_of, is_plain}
use Rattle.rc_rlang.specs.RegionCode.{Routine, Rlang}
use Rattle.rc_rlang.specs.RegionRuns.{deletes}
use Rattle.rc_emission.specs.StackCode.{Line}
use Rattle.rc_emission.specs.StackCode as From
use Rattle.rc_emission.specs.KeptOperands.{same_type}
use Rattle.rc_code.specs.declared.instruction.Instruction.{Instruction}
use Rattle.rc_code.specs.declared.instruction.Instruction.TheVariants as instruction
use Rattle.rc_code.specs.declared.image.Path.{Path}
use Rattle.rc_code.specs.Running.{Reading, reading_of, path_at, cell_at, no_function}
use Rattle.rc_numbering.specs.Tables.{IsIn}
use Rattle.rc_numbering.specs.Names.{types_of, same_path, paths_of, instruction_names, code_names, instruction_paths, code_paths, stack_of}
use Rattle.rc_numbering.specs.Numbered.{type_in, path_in}
use Rattle.rc_numbering.specs.Sayable.{Sayable, AllSayable}
use Rattle.rc_numbering.specs.Means.{IsNumberable}
use Rattle.rc_numbering.proofs.Tabled.{every_before, every_behind}
use Rattle.rc_numbering.proofs.Programs.{code_in, paths_in, function_said}
use Rattle.rc_marks.specs.Stores.{note_on, written_one, written}
use Rattle.rc_marks.specs.Marked.{mark_by, marked_one, marked_from, marked_functions, marked_image}
use Rattle.rc_marks.proofs.MarksCounted.{note_is}

module _ (r : Rlang) (mask : ℕ → Bool) where
  abbrev code : Reading
  code = reading_of (marked_image mask r)

  abbrev In : Ty → Type 0
  In t = IsIn same_type (types_of r) t

  abbrev PathIn : Path → Type 0
  PathIn p = IsIn same_path (paths_of (type_in r) r) p

  -- if it is a store with a mark, its cell has an annotation
  abbrev pub Stands : Instruction → Type 0
  Stands i = (path : ℕ) → i ≡ instruction.Store path true → is_plain (note_of (cell_at code (path_at code path))) ≡ false

  annotated : (n : ℕ) (note : Note) → mark_by mask n note ≡ true → is_plain note ≡ false
  annotated n Plain e = absurd (false≢true e)
  annotated n SameRegion e = refl
  annotated n ParentPtr e = refl
  annotated n Traditional e = refl

  one_stands : (f : Routine) (n at : ℕ) (i : From.Instruction) → Sayable r f (deletes r) i → Every In (instruction_names i) → Every PathIn (instruction_paths (type_in r) i) → Stands (marked_one (type_in r) (path_in r) mask n at i)
  one_stands f n at (From.number s k) said types paths path e = absurd (cc e)
  one_stands f n at (From.null int) said types paths path e = absurd (cc e)
  one_stands f n at (From.null unsigned) said types paths path e = absurd (cc e)
  one_stands f n at (From.null char) said types paths path e = absurd (cc e)
  one_stands f n at (From.null region) said types paths path e = absurd (cc e)
  one_stands f n at (From.null (struct k)) said types paths path e = absurd (cc e)
  one_stands f n at (From.null (pointer note target)) said types paths path e = absurd (cc e)
  one_stands f n at (From.global g) said types paths path e = absurd (cc e)
  one_stands f n at (From.get x) said types paths path e = absurd (cc e)
  one_stands f n at (From.set x ty) said types paths path e = absurd (cc e)
  one_stands f n at (From.arithmetic o s) said types paths path e = absurd (cc e)
  one_stands f n at (From.unary o s) said types paths path e = absurd (cc e)
  one_stands f n at From.zero_test said types paths path e = absurd (cc e)
  one_stands f n at (From.null_test int) said types paths path e = absurd (cc e)
  one_stands f n at (From.null_test unsigned) said types paths path e = absurd (cc e)
  one_stands f n at (From.null_test char) said types paths path e = absurd (cc e)
  one_stands f n at (From.null_test region) said types paths path e = absurd (cc e)
  one_stands f n at (From.null_test (struct k)) said types paths path e = absurd (cc e)
  one_stands f n at (From.null_test (pointer note target)) said types paths path e = absurd (cc e)
  one_stands f n at (From.same int) said types paths path e = absurd (cc e)
  one_stands f n at (From.same unsigned) said types paths path e = absurd (cc e)
  one_stands f n at (From.same char) said types paths path e = absurd (cc e)
  one_stands f n at (From.same region) said types paths path e = absurd (cc e)
  one_stands f n at (From.same (struct k)) said types paths path e = absurd (cc e)
  one_stands f n at (From.same (pointer note target)) said types paths path e = absurd (cc e)
  one_stands f n at (From.convert to) said types paths path e = absurd (cc e)
  one_stands f n at (From.move ty s direction) said types paths path e = absurd (cc e)
  one_stands f n at (From.load a) said types paths path e = absurd (cc e)
  one_stands f n at (From.store a) said types paths path e =
      let p : path_in r a ≡ path = cc in
      let m : mark_by mask n (note_on a.cell) ≡ true = cc in
      ap (λ k. is_plain (note_of (cell_at code (path_at code k)))) (sym p) ∙ ap is_plain (note_is r mask a said types.0 paths.0) ∙ annotated n (note_on a.cell) m
  one_stands f n at From.new_region said types paths path e = absurd (cc e)
  one_stands f n at From.new_subregion said types paths path e = absurd (cc e)
  one_stands f n at (From.region_of ty) said types paths path e = absurd (cc e)
  one_stands f n at (From.allocate ty layout) said types paths path e = absurd (cc e)
  one_stands f n at (From.allocate_array ty layout) said types paths path e = absurd (cc e)
  one_stands f n at (From.delete pins) said types paths path e = absurd (cc e)
  one_stands f n at (From.call g tys pins) said types paths path e = absurd (cc e)
  one_stands f n at (From.perform g tys pins) said types paths path e = absurd (cc e)
  one_stands f n at (From.leave tys) said types paths path e = absurd (cc e)
  one_stands f n at From.putchar said types paths path e = absurd (cc e)
  one_stands f n at From.getchar said types paths path e = absurd (cc e)
  one_stands f n at (From.jump k) said types paths path e = absurd (cc e)
  one_stands f n at (From.jump_zero k) said types paths path e = absurd (cc e)
  one_stands f n at (From.back to) said types paths path e = absurd (cc e)
  one_stands f n at From.pop said types paths path e = absurd (cc e)

  lines_stand : (f : Routine) (lines : List Line) (n at : ℕ) → AllSayable r f (deletes r) lines → Every In (code_names lines) → Every PathIn (code_paths (type_in r) lines)
      → (k : ℕ) (i : Instruction) → slice_get (marked_from (type_in r) (path_in r) mask n at lines) k ≡ Some i → Stands i
  lines_stand f [] n at said types paths k i e = absurd (cc e)
  lines_stand f (l ∷ lines) n at said types paths zero i e =
      let q : marked_one (type_in r) (path_in r) mask n at l.instruction ≡ i = cc in
      subst Stands q (one_stands f n at l.instruction said.0 (every_before In (instruction_names l.instruction) (code_names lines) types) (every_before PathIn (instruction_paths (type_in r) l.instruction) (code_paths (type_in r) lines) paths))
  lines_stand f (l ∷ lines) n at said types paths (suc k) i e =
      lines_stand f lines (n + length (written_one l.line l.instruction)) (suc at) said.1 (every_behind In (instruction_names l.instruction) (code_names lines) types) (every_behind PathIn (instruction_paths (type_in r) l.instruction) (code_paths (type_in r) lines) paths) k i e

  functions_stand : (numberable : IsNumberable r) (fs : List Routine) (j n : ℕ) → ((k : ℕ) (f : Routine) → slice_get fs k ≡ Some f → slice_get r.functions (j + k) ≡ Some f)
      → (g k : ℕ) (i : Instruction) → slice_get (get_or (marked_functions mask r n fs) g no_function).code k ≡ Some i → Stands i
  functions_stand numberable [] j n each zero k i e = absurd (cc e)
  functions_stand numberable [] j n each (suc g) k i e = absurd (cc e)
  functions_stand numberable (f ∷ fs) j n each zero k i e =
      let here = each 0 f refl in
      lines_stand f (stack_of r f).code n 0 (function_said r f (numberable.functions (j + 0) f here)) (code_in r (j + 0) f here) (paths_in r (j + 0) f here) k i e
  functions_stand numberable (f ∷ fs) j n each (suc g) k i e =
      functions_stand numberable fs (suc j) (n + length (written (stack_of r f).code)) (λ m h q. let s : suc j + m ≡ j + suc m = omega arith in ap (slice_get r.functions) s ∙ each (suc m) h q) g k i e

  pub marks_stand : IsNumberable r → (g k : ℕ) (i : Instruction) → slice_get (get_or (marked_image mask r).functions g no_function).code k ≡ Some i → Stands i
  marks_stand numberable g k i e = functions_stand numberable r.functions 0 0 (λ m f q. let s : 0 + m ≡ m = omega arith in ap (slice_get r.functions) s ∙ q) g k i e
