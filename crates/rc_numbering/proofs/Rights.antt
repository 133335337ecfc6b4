-- What sayable code says is there by its numbers.
use Rattle.std.proofs.Common.{◌≡◌, ◌<◌, ℕ, zero, suc, ◌-◌, ◌%◌, ℤ, pos, negsuc, Bool, true, false, List, [], ◌∷◌, ◌++◌, length, map, take, drop, get_or, if◌then◌else◌, Option, Some, None, refl, sym, ap, ◌∙◌, subst, arith}
use Rattle.std.proofs.lemmas.Bool.{false≢true}
use Rattle.std.specs.Prelude.{IsTrue, IsSome, slice_get, ◌-ℤ◌}
use Rattle.std.specs.Option.{option_map}
use Rattle.std.specs.List.{AllByRecursion as Every}
use Rattle.std.proofs.Math.Nat.{mod-lt, mod-eq_of_lt}
use Rattle.rc_core.specs.declared.ty.NumberType.TheVariants.{Char}
use Rattle.rc_core.specs.declared.ty.Signedness.{Signedness}
use Rattle.rc_core.specs.declared.ty.Signedness.TheVariants.{Signed, Unsigned as Wrapping}
use Rattle.rc_core.specs.declared.operators.UnaryOperator.{UnaryOperator}
use Rattle.rc_core.specs.declared.operators.UnaryOperator.TheVariants as unary
use Rattle.rc_core.specs.declared.operators.Operator.{Operator}
use Rattle.rc_core.specs.declared.operators.Operator.TheVariants as operator
use Rattle.rc_core.specs.Numbers.{fits_int}
use Rattle.rc_core.specs.Types.{Ty, int, unsigned, char, region, struct, pointer, int_cell}
use Rattle.rc_core.specs.Layout.{Layout, cells}
use Rattle.rc_core.specs.Arithmetic.{wrapped, converted, type_of}
use Rattle.rc_core.specs.Typing.{fits}
use Rattle.rc_core.specs.Heap.{Value, Number, zero_of}
use Rattle.rc_core.specs.Evaluation.{number_in}
use Rattle.rc_kinds.proofs.InRange.{less_is, as_int_same}
use Rattle.rc_rlang.specs.RegionCode.{Access, Routine, Rlang}
use Rattle.rc_rlang.specs.RegionRuns.{sized}
use Rattle.rc_rlang.specs.RegionRuns as Source
use Rattle.rc_emission.specs.StackCode.{Line}
use Rattle.rc_emission.specs.StackCode as From
use Rattle.rc_emission.specs.KeptOperands.{same_type}
use Rattle.rc_emission.proofs.TableLaws.{found_again}
use Rattle.rc_stack_rules.specs.LoaderRules.{kinds}
use Rattle.rc_stack_rules.specs.Loadable.{all_locals}
use Rattle.rc_code.specs.declared.kind.Storage.TheVariants as storage
use Rattle.rc_code.specs.declared.image.Path.{Path}
use Rattle.rc_code.specs.Running.{two, one, operation, path_at, layout_at, function_at, cell_at, kept, kept_all, first_in, no_path, no_function}
use Rattle.rc_code.specs.Running as To
use Rattle.rc_numbering.specs.Tables.{IsIn}
use Rattle.rc_numbering.specs.Names.{types_of, code_names, instruction_names, same_path, path_of, paths_of, code_paths, instruction_paths, stack_of}
use Rattle.rc_numbering.specs.Numbered.{word_of, row_of, unary_row, storage_of, function_of, type_in, path_in}
use Rattle.rc_numbering.specs.Sayable.{is_char, has_row, has_unary_row, cell_for, AccessFits, IsCalled, result_in, Sayable, AllSayable, result_types}
use Rattle.rc_numbering.specs.Means.{view_of}
use Rattle.rc_numbering.proofs.Tabled.{type_is, path_is, every_before, every_behind, get_mapped, get_there}
use Rattle.rc_code.specs.declared.image.Function.{Function}
use Rattle.std.proofs.lemmas.List.{length-take-le}
use Rattle.rc_core.specs.Runs.{Target}
use Rattle.rc_numbering.specs.Waits.{Waiting}
use Rattle.rc_core.specs.Runs.{Calls}
use Rattle.rc_numbering.specs.Waits.{Keeps}
use Rattle.rc_numbering.proofs.Same.{Right}
use Rattle.rc_numbering.proofs.Same.{AllRight}

-- ---- numbers

wrapped_word : (n : ℤ) → wrapped (pos (word_of n)) ≡ wrapped n
wrapped_word (pos a) = ap pos (mod-eq_of_lt (mod-lt a (let p : 0 < 4294967296 = omega arith in p)))
wrapped_word (negsuc a) = ap pos (mod-eq_of_lt (let l = mod-lt a (let p : 0 < 4294967296 = omega arith in p) in let q : 4294967296 - 1 - a % 4294967296 < 4294967296 = omega (arith, l) in q))

abbrev int_of : ℤ → ℤ
int_of z = if fits_int z then z else z -ℤ pos 4294967296

pub word_again : (s : Signedness) (n : ℤ) → IsTrue (fits (type_of s) n) → converted (type_of s) (pos (word_of n)) ≡ n
word_again Signed n e = ap int_of (wrapped_word n) ∙ as_int_same n e
word_again Wrapping (pos k) e = wrapped_word (pos k) ∙ ap pos (mod-eq_of_lt (less_is k 4294967296 e))
word_again Wrapping (negsuc k) e = absurd (false≢true e)

-- ---- locals and cells

cut : Bool → Value → Value
cut true v = Number (converted Char (number_in v))
cut false v = v

source_cut : (t : Ty) (v : Value) → Source.kept t v ≡ cut (is_char t) v
unfolding cut
source_cut int v = refl
source_cut unsigned v = refl
source_cut char v = refl
source_cut region v = refl
source_cut (struct k) v = refl
source_cut (pointer note target) v = refl

module _ (number : Ty → ℕ) (path : Access → ℕ) where
  storage_cut : (t : Ty) (v : Value) → kept (storage_of number path t) v ≡ cut (is_char t) v
  unfolding cut
  storage_cut int v = refl
  storage_cut unsigned v = refl
  storage_cut char v = refl
  storage_cut region v = refl
  storage_cut (struct k) v = refl
  storage_cut (pointer note target) v = refl

  local_cut : (ts : List Ty) (x : ℕ) (v : Value) → kept (get_or (map (storage_of number path) ts) x storage.Region) v ≡ cut (is_char (get_or ts x int)) v
  unfolding cut
  local_cut [] x v = refl
  local_cut (t ∷ ts) zero v = storage_cut t v
  local_cut (t ∷ ts) (suc x) v = local_cut ts x v

  pub local_kept : (ts : List Ty) (x : ℕ) (ty : Ty) → is_char (get_or ts x int) ≡ is_char ty → (v : Value) → kept (get_or (map (storage_of number path) ts) x storage.Region) v ≡ Source.kept ty v
  local_kept ts x ty e v = local_cut ts x v ∙ ap (λ b. cut b v) e ∙ sym (source_cut ty v)

  cell_kept : (t : Ty) (v : Value) → kept (To.storage_by number (cell_for t)) v ≡ Source.kept t v
  cell_kept int v = refl
  cell_kept unsigned v = refl
  cell_kept char v = refl
  cell_kept region v = refl
  cell_kept (struct k) v = refl
  cell_kept (pointer note target) v = refl

  -- ---- what a function begins with

  first_is : (t : Ty) → first_in (storage_of number path t) ≡ zero_of t
  first_is int = refl
  first_is unsigned = refl
  first_is char = refl
  first_is region = refl
  first_is (struct k) = refl
  first_is (pointer note target) = refl

  zeros_are : (ts : List Ty) → map first_in (map (storage_of number path) ts) ≡ sized ts []
  zeros_are [] = refl
  zeros_are (t ∷ ts) = ap (λ v. v ∷ map first_in (map (storage_of number path) ts)) (first_is t) ∙ ap (λ vs. zero_of t ∷ vs) (zeros_are ts)

  pub locals_same : (ts : List Ty) (p : ℕ) (vs : List Value) → length vs ≡ length (take p ts)
      → kept_all (map (storage_of number path) ts) vs ++ map first_in (drop (length vs) (map (storage_of number path) ts)) ≡ sized ts (Source.kept_all (take p ts) vs)
  locals_same [] zero [] e = refl
  locals_same [] (suc p) [] e = refl
  locals_same [] zero (v ∷ vs) e = absurd (omega (arith, e))
  locals_same [] (suc p) (v ∷ vs) e = absurd (omega (arith, e))
  locals_same (t ∷ ts) zero [] e = zeros_are (t ∷ ts)
  locals_same (t ∷ ts) zero (v ∷ vs) e = absurd (omega (arith, e))
  locals_same (t ∷ ts) (suc p) [] e = absurd (omega (arith, e))
  locals_same (t ∷ ts) (suc p) (v ∷ vs) e = ap (λ u. u ∷ (kept_all (map (storage_of number path) ts) vs ++ map first_in (drop (length vs) (map (storage_of number path) ts)))) (storage_cut t v ∙ sym (source_cut t v)) ∙ ap (λ us. Source.kept t v ∷ us) (locals_same ts p vs (omega (arith, e)))

-- ---- operators

pub row_there : (o : Operator) → IsTrue (has_row o) → operation (row_of o) ≡ two o
row_there operator.Multiply h = refl
row_there operator.Divide h = refl
row_there operator.Remainder h = refl
row_there operator.Add h = refl
row_there operator.Subtract h = refl
row_there operator.ShiftLeft h = refl
row_there operator.ShiftRight h = refl
row_there operator.Less h = refl
row_there operator.Greater h = absurd (false≢true h)
row_there operator.LessEqual h = refl
row_there operator.GreaterEqual h = absurd (false≢true h)
row_there operator.Equal h = refl
row_there operator.NotEqual h = absurd (false≢true h)
row_there operator.And h = refl
row_there operator.Xor h = refl
row_there operator.Or h = refl

pub unary_there : (o : UnaryOperator) → IsTrue (has_unary_row o) → operation (unary_row o) ≡ one o
unary_there unary.Negate h = refl
unary_there unary.Plus h = absurd (false≢true h)
unary_there unary.Complement h = refl

abbrev result_given : Option Routine → Option Ty
result_given None = None
result_given (Some f) = f.result

module _ (r : Rlang) where
  abbrev TypeIn : Ty → Type 0
  TypeIn t = IsIn same_type (types_of r) t

  abbrev PathIn : Path → Type 0
  PathIn p = IsIn same_path (paths_of (type_in r) r) p

  pub layout_found : (t : Ty) → TypeIn t → layout_at (view_of r) (type_in r t) ≡ cells r.structs t
  layout_found t there =
      get_mapped (cells r.structs) (types_of r) (type_in r t) int [] there
      ∙ ap (cells r.structs) (found_again same_type type_is (types_of r) t int there)

  pub path_found : (a : Access) → PathIn (path_of (type_in r) a) → path_at (view_of r) (path_in r a) ≡ path_of (type_in r) a
  path_found a there = found_again same_path path_is (paths_of (type_in r) r) (path_of (type_in r) a) no_path there

  pub cell_found : (a : Access) → TypeIn a.element → AccessFits r.structs a → cell_at (view_of r) (path_of (type_in r) a) ≡ cell_for a.cell
  cell_found a there fits = ap (λ (l : Layout). get_or l a.offset int_cell) (layout_found a.element there) ∙ fits.cell

  pub function_found : (g : ℕ) (h : Routine) → slice_get r.functions g ≡ Some h → function_at (view_of r) g ≡ function_of (type_in r) (path_in r) (stack_of r h) h
  function_found g h e = get_there (λ f. function_of (type_in r) (path_in r) (stack_of r f) f) r.functions g h no_function e

  pub parameters_found : (g : ℕ) (tys : List Ty) → IsCalled r g tys → (function_at (view_of r) g).parameters ≡ length tys
  parameters_found g tys c = ap (λ (f : Function). f.parameters) (function_found g c.routine c.there) ∙ sym (ap length c.parameters_are ∙ length-take-le c.routine.parameters c.routine.locals c.few)

  result_found : (g : ℕ) (h : Routine) → slice_get r.functions g ≡ Some h → (function_at (view_of r) g).result ≡ option_map (storage_of (type_in r) (path_in r)) (result_in r g)
  result_found g h e = ap (λ (f : Function). f.result) (function_found g h e) ∙ ap (option_map (storage_of (type_in r) (path_in r))) (sym (ap result_given e))

  some_result : (o : Option Ty) → IsSome o → IsSome (option_map (storage_of (type_in r) (path_in r)) o)
  some_result None e = absurd (false≢true e)
  some_result (Some t) e = refl

  pub gives_found : (g : ℕ) (tys : List Ty) → IsCalled r g tys → IsSome (result_in r g) → IsSome (function_at (view_of r) g).result
  gives_found g tys c some = subst IsSome (sym (result_found g c.routine c.there)) (some_result (result_in r g) some)

  pub none_found : (g : ℕ) (tys : List Ty) → IsCalled r g tys → result_in r g ≡ None → (function_at (view_of r) g).result ≡ None
  none_found g tys c e = result_found g c.routine c.there ∙ ap (option_map (storage_of (type_in r) (path_in r))) e

module _ {W V : Type 0} (does : To.Doing W) (plain : (line : ℕ) (t : Target) (v : Value) (w : W) → does.put false line t v w ≡ does.ops.store line t v w)
    (waiting : W → V) (waits : Waiting does.ops waiting) (deleting : ℕ → Bool) (r : Rlang) (f : Routine)
    (calls image_calls : Calls W) (keep : (g : ℕ) (vs : List Value) (w : W) → Keeps waiting w (calls g vs w))
    (same_calls : (g : ℕ) (tys : List Ty) → IsCalled r g tys → (vs : List Value) (w : W) → length vs ≡ length tys → calls g (Source.kept_all tys vs) w ≡ image_calls g vs w) where
  abbrev RightHere : From.Instruction → Type 0
  RightHere i = Right does plain waiting waits deleting (view_of r) (type_in r) (path_in r) (function_of (type_in r) (path_in r) (stack_of r f) f) calls image_calls keep (IsCalled r) (parameters_found r) same_calls i

  abbrev pub AllRightHere : List Line → Type 0
  AllRightHere code = AllRight does plain waiting waits deleting (view_of r) (type_in r) (path_in r) (function_of (type_in r) (path_in r) (stack_of r f) f) calls image_calls keep (IsCalled r) (parameters_found r) same_calls code

  leave_right : (tys : List Ty) → kinds tys ≡ kinds (result_types f.result) → RightHere (From.leave tys)
  leave_right tys e = by f.result tys e
    where
      by : (o : Option Ty) (tys : List Ty) → kinds tys ≡ kinds (result_types o) → Right does plain waiting waits deleting (view_of r) (type_in r) (path_in r) (function_of (type_in r) (path_in r) (stack_of r f) (record f { result = o })) calls image_calls keep (IsCalled r) (parameters_found r) same_calls (From.leave tys)
      by None [] e = refl
      by None (t ∷ tys) e = absurd (cc e)
      by (Some u) [] e = absurd (cc e)
      by (Some u) (t ∷ []) e = refl
      by (Some u) (t ∷ s ∷ tys) e = absurd (cc e)

  right_here : (i : From.Instruction) → Sayable r f deleting i → Every (TypeIn r) (instruction_names i) → Every (PathIn r) (instruction_paths (type_in r) i) → RightHere i
  right_here (From.number s n) said types paths = word_again s n said
  right_here (From.null ty) said types paths = tt
  right_here (From.global g) said types paths = tt
  right_here (From.get x) said types paths = tt
  right_here (From.set x ty) said types paths = local_kept (type_in r) (path_in r) (all_locals f) x ty said
  right_here (From.arithmetic o s) said types paths = row_there o said
  right_here (From.unary o s) said types paths = unary_there o said
  right_here From.zero_test said types paths = tt
  right_here (From.null_test ty) said types paths = tt
  right_here (From.same ty) said types paths = tt
  right_here (From.convert to) said types paths = tt
  right_here (From.move ty s direction) said types paths = tt
  right_here (From.load a) said types paths = path_found r a paths.0
  right_here (From.store a) said types paths = (path_found r a paths.0, λ v. ap (λ c. kept (To.storage_by (type_in r) c) v) (cell_found r a types.0 said) ∙ cell_kept (type_in r) (path_in r) a.cell v)
  right_here From.new_region said types paths = tt
  right_here From.new_subregion said types paths = tt
  right_here (From.region_of ty) said types paths = tt
  right_here (From.allocate ty layout) said types paths = layout_found r ty types.0 ∙ sym said.1
  right_here (From.allocate_array ty layout) said types paths = layout_found r ty types.0 ∙ sym said.1
  right_here (From.delete pins) said types paths = tt
  right_here (From.call g tys pins) said types paths = ((said.0, said.1), gives_found r g tys said.0 said.2)
  right_here (From.perform g tys pins) said types paths = ((said.0, said.1), none_found r g tys said.0 said.2)
  right_here (From.leave tys) said types paths = leave_right tys said
  right_here From.putchar said types paths = tt
  right_here From.getchar said types paths = tt
  right_here (From.jump n) said types paths = tt
  right_here (From.jump_zero n) said types paths = tt
  right_here (From.back to) said types paths = tt
  right_here From.pop said types paths = tt

  pub all_right : (code : List Line) → AllSayable r f deleting code → Every (TypeIn r) (code_names code) → Every (PathIn r) (code_paths (type_in r) code) → AllRightHere code
  all_right [] said types paths = tt
  all_right (l ∷ code) said types paths = (
    right_here l.instruction said.0 (every_before (TypeIn r) (instruction_names l.instruction) (code_names code) types) (every_before (PathIn r) (instruction_paths (type_in r) l.instruction) (code_paths (type_in r) code) paths),
    all_right code said.1 (every_behind (TypeIn r) (instruction_names l.instruction) (code_names code) types) (every_behind (PathIn r) (instruction_paths (type_in r) l.instruction) (code_paths (type_in r) code) paths),
  )
