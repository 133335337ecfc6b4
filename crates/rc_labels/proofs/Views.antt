-- The view of labelled region code's image and that of the image with marks: the same but for lines and marks.
use Rattle.std.proofs.Common.{◌≡◌, ℕ, zero, suc, ◌+◌, Bool, false, List, [], ◌∷◌, ◌++◌, length, map, get_or, Some, refl, sym, ap, ◌∙◌, subst, arith, append_assoc, length-append}
use Rattle.std.specs.Prelude.{slice_get}
use Rattle.std.proofs.lemmas.List.{length-map}
use Rattle.std.specs.List.{AllByRecursion as Every}
use Rattle.rc_core.specs.declared.ty.NumberType.TheVariants.{Int, Unsigned, Char}
use Rattle.rc_core.specs.declared.ty.Note.{Note}
use Rattle.rc_core.specs.declared.ty.Note.TheVariants.{Plain, SameRegion, ParentPtr, Traditional}
use Rattle.rc_core.specs.Types.{Ty, int, unsigned, char, region, struct, pointer}
use Rattle.rc_core.specs.Layout.{cells}
use Rattle.rc_core.specs.Runs.{Ops}
use Rattle.rc_rlang.specs.RegionCode.{Access, Routine, Rlang}
use Rattle.rc_emission.specs.StackCode.{Line, StackFunction}
use Rattle.rc_emission.specs.StackCode as From
use Rattle.rc_code.specs.declared.image.Function.{Function}
use Rattle.rc_code.specs.declared.image.Path.{Path}
use Rattle.rc_code.specs.Running.{Reading, no_function, run_main}
use Rattle.rc_numbering.specs.Tables.{IsIn}
use Rattle.rc_numbering.specs.Names.{types_of, same_path, instruction_paths, code_paths, paths_of, stack_of}
use Rattle.rc_numbering.specs.Numbered.{cell_of, storage_of, numbered, numbered_from, function_of, global_of, string_of, type_in, path_in}
use Rattle.rc_numbering.specs.Means.{view_of}
use Rattle.rc_numbering.proofs.Tabled.{every_before, every_behind}
use Rattle.rc_numbering.proofs.Rights.{path_found}
use Rattle.rc_numbering.proofs.Programs.{paths_in}
use Rattle.rc_along.specs.MarkedRuns.{Put}
use Rattle.rc_labels.specs.Labels.{Numbering, mark_at, line_in}
use Rattle.rc_labels.specs.Labelled.{routine_labelled, routines_labelled, labelled}
use Rattle.rc_labels.specs.LabelledWorlds.{decoded}
use Rattle.rc_labels.specs.LabelledImages.{told_by_labels}
use Rattle.rc_marks.specs.Stores.{Store, note_on, annotated, written_one, written}
use Rattle.rc_marks.specs.Marked.{mark_by, marked_one, marked_from, marked_functions}
use Rattle.rc_labels.specs.InOrder.{routine_marks, functions_marks, mask_of, OnlyWhereAsked}
use Rattle.rc_labels.specs.Told.{told, offset_stored, marks_of_one, marks_told}
use Rattle.rc_labels.specs.MarkedLaws.{KeepsZero, UndoesLabels}
use Rattle.rc_labels.proofs.Plainly.{IsPlainly, Plainly}
use Rattle.rc_labels.proofs.Functions.{paths_told, locals_same, lines_same, marks_same, types_same, type_in_same, paths_same, path_in_same, stores_plainly}
use Rattle.rc_labels.proofs.Undone.{with_mark, Tells, Matched, Paired, AllPaired, main_same}

-- ---- masks

-- from a number on, the mask has these bits
abbrev Holds : (mask : ℕ → Bool) → (number : ℕ) → List Bool → Type 0
Holds mask b bits = (j : ℕ) → mask (b + j) ≡ get_or bits j false

get_behind : (xs ys : List Bool) (j : ℕ) → get_or (xs ++ ys) (length xs + j) false ≡ get_or ys j false
get_behind [] ys j = let e : 0 + j ≡ j = omega arith in ap (λ k. get_or ys k false) e
get_behind (x ∷ xs) ys j = (let e : suc (length xs) + j ≡ suc (length xs + j) = omega arith in ap (λ k. get_or (x ∷ (xs ++ ys)) k false) e) ∙ get_behind xs ys j

holds_past : (mask : ℕ → Bool) (b k : ℕ) (xs ys : List Bool) → k ≡ length xs → Holds mask b (xs ++ ys) → Holds mask (b + k) ys
holds_past mask b k xs ys e h j = (let q : b + k + j ≡ b + (length xs + j) = omega (arith, e) in ap mask q) ∙ h (length xs + j) ∙ get_behind xs ys j

bit_there : (mask : ℕ → Bool) (b line : ℕ) (note : Note) (m : Bool) (rest : List Bool) → Holds mask b (map (λ (s : Store). m) (annotated note line) ++ rest) → (note ≡ Plain → m ≡ false) → mark_by mask b note ≡ m
bit_there mask b line Plain m rest h plain = sym (plain refl)
bit_there mask b line SameRegion m rest h plain = (let e : b ≡ b + 0 = omega arith in ap mask e) ∙ h 0
bit_there mask b line ParentPtr m rest h plain = (let e : b ≡ b + 0 = omega arith in ap mask e) ∙ h 0
bit_there mask b line Traditional m rest h plain = (let e : b ≡ b + 0 = omega arith in ap mask e) ∙ h 0

module _ {W : Type 0} (n : Numbering) (zero_line : KeepsZero n) (ops : Ops W) (put : Put W) (marks : (function point : ℕ) → Bool) (r : Rlang) (only : OnlyWhereAsked r marks) where
  abbrev mask : ℕ → Bool
  mask = mask_of marks r

  abbrev r' : Rlang
  r' = labelled n marks r

  abbrev t : Ty → ℕ
  t = type_in r

  abbrev p : Access → ℕ
  p = path_in r

  -- ---- the view

  -- with the tables of the code without labels
  abbrev view_by : List Ty → (Ty → ℕ) → (Access → ℕ) → List Path → Reading
  view_by types type_number path_number paths = record {
    parts = record {
      types = map (map (cell_of type_number path_number)) (map (cells r.structs) types);
      globals = map (global_of type_number path_number) r.globals ++ map (string_of type_number path_number) r.strings;
      paths = paths;
      functions = map (λ f. function_of type_number path_number (stack_of r' f) f) r'.functions;
      main = r.main;
    };
    layouts = map (cells r.structs) types;
    numbered = type_number;
  }

  view_same : view_of r' ≡ view_by (types_of r) t p (paths_of t r)
  view_same =
      ap (λ types. view_by types (type_in r') (path_in r') (paths_of (type_in r') r')) (types_same n zero_line marks r)
      ∙ ap (λ type_number. view_by (types_of r) type_number (path_in r') (paths_of (type_in r') r')) (type_in_same n zero_line marks r)
      ∙ ap (λ path_number. view_by (types_of r) t path_number (paths_of (type_in r') r')) (path_in_same n zero_line marks r)
      ∙ ap (view_by (types_of r) t p) (paths_same n zero_line marks r)

  abbrev functions : List Function
  functions = marked_functions mask r 0 r.functions

  abbrev functions' : List Function
  functions' = map (λ f. function_of t p (stack_of r' f) f) r'.functions

  -- ---- instructions

  abbrev PathIn : Path → Type 0
  PathIn q = IsIn same_path (paths_of t r) q

  abbrev One : (b at : ℕ) → Line → Type 0
  One b at l = (m : Bool) × ((marked_one t p mask b at l.instruction ≡ with_mark m (numbered t p at l.instruction)) × Tells n ops put (view_of r) functions functions' l.line (numbered t p at l.instruction) m)

  one : (b at label : ℕ) (i : From.Instruction) (rest : List Bool) → Holds mask b (marks_of_one n (record { line = label; instruction = i }) ++ rest) → IsPlainly n (record { line = label; instruction = i }) → Every PathIn (instruction_paths t i) → One b at (record { line = label; instruction = i })
  one b at label (From.store a) rest h plain paths = (
    mark_by mask b (note_on a.cell),
    (
      refl,
      bit_there mask b (line_in n label) (note_on a.cell) (mark_at (n.label label) a.offset) rest h (plain a refl) ∙ ap (λ (q : Path). mark_at (n.label label) q.offset) (sym (path_found r a paths.0)),
    ),
  )
  one b at label (From.number s k) rest h plain paths = (false, (refl, tt))
  one b at label (From.null int) rest h plain paths = (false, (refl, tt))
  one b at label (From.null unsigned) rest h plain paths = (false, (refl, tt))
  one b at label (From.null char) rest h plain paths = (false, (refl, tt))
  one b at label (From.null region) rest h plain paths = (false, (refl, tt))
  one b at label (From.null (struct k)) rest h plain paths = (false, (refl, tt))
  one b at label (From.null (pointer note target)) rest h plain paths = (false, (refl, tt))
  one b at label (From.global g) rest h plain paths = (false, (refl, tt))
  one b at label (From.get x) rest h plain paths = (false, (refl, tt))
  one b at label (From.set x ty) rest h plain paths = (false, (refl, tt))
  one b at label (From.arithmetic o s) rest h plain paths = (false, (refl, tt))
  one b at label (From.unary o s) rest h plain paths = (false, (refl, tt))
  one b at label From.zero_test rest h plain paths = (false, (refl, tt))
  one b at label (From.null_test int) rest h plain paths = (false, (refl, tt))
  one b at label (From.null_test unsigned) rest h plain paths = (false, (refl, tt))
  one b at label (From.null_test char) rest h plain paths = (false, (refl, tt))
  one b at label (From.null_test region) rest h plain paths = (false, (refl, tt))
  one b at label (From.null_test (struct k)) rest h plain paths = (false, (refl, tt))
  one b at label (From.null_test (pointer note target)) rest h plain paths = (false, (refl, tt))
  one b at label (From.same int) rest h plain paths = (false, (refl, tt))
  one b at label (From.same unsigned) rest h plain paths = (false, (refl, tt))
  one b at label (From.same char) rest h plain paths = (false, (refl, tt))
  one b at label (From.same region) rest h plain paths = (false, (refl, tt))
  one b at label (From.same (struct k)) rest h plain paths = (false, (refl, tt))
  one b at label (From.same (pointer note target)) rest h plain paths = (false, (refl, tt))
  one b at label (From.convert Int) rest h plain paths = (false, (refl, tt))
  one b at label (From.convert Unsigned) rest h plain paths = (false, (refl, tt))
  one b at label (From.convert Char) rest h plain paths = (false, (refl, tt))
  one b at label (From.move ty s direction) rest h plain paths = (false, (refl, tt))
  one b at label (From.load a) rest h plain paths = (false, (refl, tt))
  one b at label From.new_region rest h plain paths = (false, (refl, tt))
  one b at label From.new_subregion rest h plain paths = (false, (refl, tt))
  one b at label (From.region_of ty) rest h plain paths = (false, (refl, tt))
  one b at label (From.allocate ty layout) rest h plain paths = (false, (refl, tt))
  one b at label (From.allocate_array ty layout) rest h plain paths = (false, (refl, tt))
  one b at label (From.delete pins) rest h plain paths = (false, (refl, tt))
  one b at label (From.call g tys pins) rest h plain paths = (false, (refl, tt))
  one b at label (From.perform g tys pins) rest h plain paths = (false, (refl, tt))
  one b at label (From.leave tys) rest h plain paths = (false, (refl, tt))
  one b at label From.putchar rest h plain paths = (false, (refl, tt))
  one b at label From.getchar rest h plain paths = (false, (refl, tt))
  one b at label (From.jump k) rest h plain paths = (false, (refl, tt))
  one b at label (From.jump_zero k) rest h plain paths = (false, (refl, tt))
  one b at label (From.back to) rest h plain paths = (false, (refl, tt))
  one b at label From.pop rest h plain paths = (false, (refl, tt))

  abbrev labels : List Line → List ℕ
  labels lines = map (λ (l : Line). l.line) lines

  matched : (lines : List Line) (b at : ℕ) (rest : List Bool) → Holds mask b (marks_told n lines ++ rest) → Plainly n lines → Every PathIn (code_paths t lines)
      → Matched n ops put (view_of r) functions functions' (labels lines) (marked_from t p mask b at (map (told n) lines)) (numbered_from t p at lines)
  matched [] b at rest h plain paths = tt
  matched (l ∷ lines) b at rest h plain paths =
      let h2 : Holds mask b (marks_of_one n l ++ (marks_told n lines ++ rest)) = λ j. h j ∙ ap (λ bits. get_or bits j false) (append_assoc (marks_of_one n l) (marks_told n lines) rest) in
      let k = length (written_one (line_in n l.line) l.instruction) in (
        one b at l.line l.instruction (marks_told n lines ++ rest) h2 plain.0 (every_before PathIn (instruction_paths t l.instruction) (code_paths t lines) paths),
        matched lines (b + k) (suc at) rest (holds_past mask b k (marks_of_one n l) (marks_told n lines ++ rest) (sym (length-map (written_one (line_in n l.line) l.instruction) (λ (s : Store). mark_at (n.label l.line) (offset_stored l.instruction)))) h2) plain.1 (every_behind PathIn (instruction_paths t l.instruction) (code_paths t lines) paths),
      )

  -- ---- functions

  told_lines : (lines : List Line) → labels (map (told n) lines) ≡ map (line_in n) (labels lines)
  told_lines [] = refl
  told_lines (l ∷ lines) = ap (λ xs. line_in n l.line ∷ xs) (told_lines lines)

  length_marks : (lines : List Line) → length (marks_told n lines) ≡ length (written (map (told n) lines))
  length_marks [] = refl
  length_marks (l ∷ lines) =
      let a = length-append (marks_of_one n l) (marks_told n lines) in
      let b = length-append (written_one (line_in n l.line) l.instruction) (written (map (told n) lines)) in
      let c = length-map (written_one (line_in n l.line) l.instruction) (λ (s : Store). mark_at (n.label l.line) (offset_stored l.instruction)) in
      let d = length_marks lines in
      omega (arith, a, b, c, d)

  abbrev Pair : Function → Function → Type 0
  Pair f g = Paired n ops put (view_of r) functions functions' f g

  function_paired : (k : ℕ) (f : Routine) → slice_get r.functions k ≡ Some f → (b : ℕ) (rest : List Bool) → Holds mask b (routine_marks (marks k) f ++ rest)
      → Pair (record (function_of t p (stack_of r f) f) { code = marked_from t p mask b 0 (stack_of r f).code }) (function_of t p (stack_of r' (routine_labelled n (marks k) f)) (routine_labelled n (marks k) f))
  function_paired k f there b rest h =
      let lines = (stack_of r' (routine_labelled n (marks k) f)).code in
      let same = lines_same n zero_line marks r k f in
      record {
        parameters = refl;
        locals = ap (map (storage_of t p)) (sym (locals_same n zero_line marks r k f));
        result = refl;
        lines = ap labels (sym same) ∙ told_lines lines;
        code = subst (λ ls. Matched n ops put (view_of r) functions functions' (labels lines) (marked_from t p mask b 0 ls) (numbered_from t p 0 lines)) same
            (matched lines b 0 rest (λ j. h j ∙ ap (λ bits. get_or (bits ++ rest) j false) (sym (marks_same n zero_line marks r k f))) (stores_plainly n zero_line marks r only k f there)
            (subst (Every PathIn) (ap (code_paths t) (sym same) ∙ paths_told n t lines) (paths_in r k f there)));
      }

  all_paired : (fs : List Routine) (k b : ℕ) → ((j : ℕ) (f : Routine) → slice_get fs j ≡ Some f → slice_get r.functions (k + j) ≡ Some f) → Holds mask b (functions_marks marks k fs) → (g : ℕ)
      → Pair (get_or (marked_functions mask r b fs) g no_function) (get_or (map (λ f. function_of t p (stack_of r' f) f) (routines_labelled n marks k fs)) g no_function)
  all_paired [] k b each h g = record { parameters = refl; locals = refl; result = refl; lines = refl; code = tt }
  all_paired (f ∷ fs) k b each h zero = function_paired k f (let e : k ≡ k + 0 = omega arith in ap (slice_get r.functions) e ∙ each 0 f refl) b (functions_marks marks (suc k) fs) h
  all_paired (f ∷ fs) k b each h (suc g) =
      let lines = (stack_of r' (routine_labelled n (marks k) f)).code in
      let long : length (written (stack_of r f).code) ≡ length (routine_marks (marks k) f) = ap (λ ls. length (written ls)) (sym (lines_same n zero_line marks r k f)) ∙ sym (length_marks lines) ∙ ap length (marks_same n zero_line marks r k f) in
      all_paired fs (suc k) (b + length (written (stack_of r f).code)) (λ j d q. (let e : suc k + j ≡ k + suc j = omega arith in ap (slice_get r.functions) e) ∙ each (suc j) d q) (holds_past mask b (length (written (stack_of r f).code)) (routine_marks (marks k) f) (functions_marks marks (suc k) fs) long h) g

  paired : AllPaired n ops put (view_of r) functions functions'
  paired g = all_paired r.functions 0 0 (λ j f e. (let q : 0 + j ≡ j = omega arith in ap (slice_get r.functions) q) ∙ e) (λ j. let q : 0 + j ≡ j = omega arith in ap mask q) g

  pub undoes_labels : UndoesLabels n ops put marks r
  undoes_labels w = main_same n ops put (view_of r) functions functions' paired w ∙ ap (λ view. decoded n (run_main (told_by_labels n ops put) view w)) (sym view_same)
