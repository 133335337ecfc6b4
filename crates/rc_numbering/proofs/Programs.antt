-- The image of region code does what its stack code does, and that of a typed program's region code what the program does.
use Rattle.std.proofs.Common.{◌≡◌, ◌≤◌, ℕ, zero, suc, ◌+◌, false, List, [], ◌∷◌, ◌++◌, length, map, flat_map, get_or, Option, Some, None, inl, refl, sym, ap, ◌∙◌, subst, arith}
use Rattle.std.specs.Prelude.{IfSome, slice_get, take}
use Rattle.std.specs.Option.{option_map}
use Rattle.std.specs.List.{AllByRecursion as Every}
use Rattle.std.proofs.lemmas.Option.{slice_get-map}
use Rattle.rc_base.specs.declared.ends.Limits.{Limits}
use Rattle.rc_core.specs.Types.{Ty, char}
use Rattle.rc_core.specs.Heap.{Value}
use Rattle.rc_core.specs.Programs.{Global, Program}
use Rattle.rc_core.specs.WellTyped.{IsVariable, IsWellTyped}
use Rattle.rc_core.specs.Runs.{Run, Go, Stopped, bind}
use Rattle.rc_core.specs.Meaning.{first_world, meaning_of_run, left_by_run}
use Rattle.rc_rlang.specs.IsRlang.{IsRlang}
use Rattle.rc_rlang.specs.RegionCode.{Routine, Rlang}
use Rattle.rc_rlang.specs.RegionRuns.{deletes, sized}
use Rattle.rc_rlang.specs.RegionRuns as Source
use Rattle.rc_translation.specs.Translation.{region_of_program}
use Rattle.rc_emission.specs.StackCode.{Line, run_function, stack_calls}
use Rattle.rc_emission.specs.KeptOperands.{same_type, slots_of, stack_code}
use Rattle.rc_emission.specs.ProgramsMean.{stack_run}
use Rattle.rc_emission.proofs.Programs.{program_means, program_leaves}
use Rattle.rc_stack_rules.specs.LoaderRules.{IsLoadable}
use Rattle.rc_stack_rules.specs.Loadable.{all_locals}
use Rattle.rc_translation.proofs.RulesWhole.{IsWholeRoutine, IsWhole, rlang_is_whole}
use Rattle.rc_translation.proofs.RulesTheorem.{program_is_whole}
use Rattle.rc_stack_rules.proofs.Loading.{keeps_rules}
use Rattle.rc_stack_rules.proofs.KeptRlang.{routine_in_order, routine_sets}
use Rattle.rc_code.specs.Running.{Doing, function_at, first_locals, rounds, calls_within}
use Rattle.rc_code.specs.declared.image.Function.{Function as ImageFunction}
use Rattle.rc_numbering.specs.Tables.{IsIn}
use Rattle.rc_numbering.specs.Names.{types_of, program_names, code_names, routine_names, types_named, result_names, structs_from, fields_names, with_pointed, same_path, paths_of, code_paths, stack_of}
use Rattle.rc_numbering.specs.Numbered.{function_of, type_in, path_in}
use Rattle.rc_numbering.specs.Sayable.{IsCalled, AllSayable}
use Rattle.rc_numbering.specs.Waits.{Waiting}
use Rattle.rc_rlang.specs.RegionNames.{object_type, result_type}
use Rattle.rc_numbering.specs.Means.{view_of, ResultDefined, FunctionFits, IsNumberable, IsPlain, ImageMeansTheSame, without_marks, view_run, ViewMeansTheSame, ViewLeavesTheSame}
use Rattle.rc_numbering.proofs.Kept.{calls_keep}
use Rattle.rc_numbering.proofs.Same.{code_same}
use Rattle.rc_numbering.proofs.Lines.{body_said}
use Rattle.rc_numbering.proofs.Said.{code_said}
use Rattle.rc_numbering.proofs.Tabled.{type_self, path_self, all_in, every_behind, every_of_one}
use Rattle.rc_numbering.proofs.Rights.{function_found, parameters_found, locals_same, all_right}
use Rattle.rc_numbering.proofs.SourceWaits.{waiting, source_waits}

module _ (r : Rlang) where
  abbrev TypeIn : Ty → Type 0
  TypeIn t = IsIn same_type (types_of r) t

  -- what a program names is in its table
  pub names_in : Every TypeIn (program_names r)
  names_in = all_in same_type type_self [] (program_names r)

  pub routine_in : (k : ℕ) (f : Routine) → slice_get r.functions k ≡ Some f → Every TypeIn (routine_names r f)
  routine_in k f e =
      every_of_one TypeIn (routine_names r) r.functions k f e
      (every_behind TypeIn (map (λ (bytes : List ℕ). char) r.strings) _
      (every_behind TypeIn (flat_map (λ (g : Global). with_pointed g.ty) r.globals) _
      (every_behind TypeIn (flat_map fields_names r.structs) _
      (every_behind TypeIn (structs_from 0 r.structs) _ names_in))))

  pub code_in : (k : ℕ) (f : Routine) → slice_get r.functions k ≡ Some f → Every TypeIn (code_names (stack_of r f).code)
  code_in k f e = every_behind TypeIn (result_names f.result) (code_names (stack_of r f).code) (every_behind TypeIn (types_named (stack_of r f).locals) _ (routine_in k f e))

  pub paths_in : (k : ℕ) (f : Routine) → slice_get r.functions k ≡ Some f → Every (IsIn same_path (paths_of (type_in r) r)) (code_paths (type_in r) (stack_of r f).code)
  paths_in k f e = every_of_one (IsIn same_path (paths_of (type_in r) r)) (λ f. code_paths (type_in r) (stack_of r f).code) r.functions k f e (all_in same_path path_self [] (flat_map (λ f. code_paths (type_in r) (stack_of r f).code) r.functions))

  pub function_said : (f : Routine) → FunctionFits r f → AllSayable r f (deletes r) (stack_of r f).code
  function_said f fits = body_said r f (fits.in_order.0, fits.in_order.1, fits.sets) fits.sayable (object_type r) (result_type r) fits.in_order.2 fits.result (deletes r)

  pub function_loads : (f : Routine) → FunctionFits r f → IsLoadable (all_locals f) (object_type r) (result_type r) (stack_of r f).code
  function_loads f fits = keeps_rules (object_type r) (result_type r) f fits.in_order (deletes r)

module _ {W V : Type 0} (does : Doing W) (plain : IsPlain does) (kept : W → V) (waits : Waiting does.ops kept) (r : Rlang) (numberable : IsNumberable r) where
  function_same : (f : Routine) (n : ℕ) (k : ℕ) → slice_get r.functions k ≡ Some f → (tys : List Ty) (c : IsCalled r k tys) → (vs : List Value) (w : W) → length vs ≡ length tys
      → ((g : ℕ) (tys : List Ty) → IsCalled r g tys → (vs : List Value) (w : W) → length vs ≡ length tys → stack_calls does.ops (deletes r) (stack_code r) n g (Source.kept_all tys vs) w ≡ calls_within does (view_of r) n g vs w)
      → c.routine ≡ f
      → run_function does.ops (deletes r) (stack_calls does.ops (deletes r) (stack_code r) n) (Some (stack_of r f)) (Source.kept_all tys vs) w
      ≡ rounds does (view_of r) (suc (does.ops.turns_left w)) (function_of (type_in r) (path_in r) (stack_of r f) f) (calls_within does (view_of r) n) 0 [] (first_locals (function_of (type_in r) (path_in r) (stack_of r f) f) vs) w
  function_same f n k there tys c vs w long same is =
      let calls = stack_calls does.ops (deletes r) (stack_code r) n in
      let keep = calls_keep does.ops kept waits (deletes r) (stack_code r) n in
      let fits = numberable.functions k f there in
      let args : tys ≡ take f.parameters f.locals = c.parameters_are ∙ ap (λ (h : Routine). take h.parameters h.locals) is in
      code_same does plain kept waits (deletes r) (view_of r) (type_in r) (path_in r) (function_of (type_in r) (path_in r) (stack_of r f) f) calls (calls_within does (view_of r) n) keep (IsCalled r) (parameters_found r) same
      (all_locals f) (object_type r) (result_type r) (stack_of r f).code refl (λ j. let e : 0 + j ≡ j = omega arith in ap (λ m. get_or (map (λ (l : Line). l.line) (stack_of r f).code) m 0) e)
      (all_right does plain kept waits (deletes r) r f calls (calls_within does (view_of r) n) keep same (stack_of r f).code (function_said r f fits) (code_in r k f there) (paths_in r k f there))
      (function_loads r f fits) (suc (does.ops.turns_left w)) 0 [] (sized (all_locals f) (Source.kept_all tys vs)) w (inl (refl, refl))
      ∙ ap (λ env. rounds does (view_of r) (suc (does.ops.turns_left w)) (function_of (type_in r) (path_in r) (stack_of r f) f) (calls_within does (view_of r) n) 0 [] env w)
      (locals_there args)
    where
      front : (xs ys : List Ty) (p : ℕ) → p ≤ length xs → take p (xs ++ ys) ≡ take p xs
      front xs ys zero le = refl
      front [] ys (suc p) le = absurd (omega (arith, le))
      front (x ∷ xs) ys (suc p) le = ap (λ zs. x ∷ zs) (front xs ys p (omega (arith, le)))

      locals_there : tys ≡ take f.parameters f.locals → sized (all_locals f) (Source.kept_all tys vs) ≡ first_locals (function_of (type_in r) (path_in r) (stack_of r f) f) vs
      locals_there args =
          let few : f.parameters ≤ length f.locals = subst (λ (h : Routine). h.parameters ≤ length h.locals) is c.few in
          let e : tys ≡ take f.parameters (all_locals f) = args ∙ sym (front f.locals (slots_of f).types f.parameters few) in
          ap (λ ts. sized (all_locals f) (Source.kept_all ts vs)) e ∙ sym (locals_same (type_in r) (path_in r) (all_locals f) f.parameters vs (long ∙ ap length e))

  calls_same : (n : ℕ) (g : ℕ) (tys : List Ty) → IsCalled r g tys → (vs : List Value) (w : W) → length vs ≡ length tys → stack_calls does.ops (deletes r) (stack_code r) n g (Source.kept_all tys vs) w ≡ calls_within does (view_of r) n g vs w
  calls_same zero g tys c vs w long = refl
  calls_same (suc n) g tys c vs w long = by (does.ops.take_turn w) (calls_same n)
    where
      by : (m : Run W (Unit {0})) → ((g : ℕ) (tys : List Ty) → IsCalled r g tys → (vs : List Value) (w : W) → length vs ≡ length tys → stack_calls does.ops (deletes r) (stack_code r) n g (Source.kept_all tys vs) w ≡ calls_within does (view_of r) n g vs w)
          → bind m (λ _ w1. run_function does.ops (deletes r) (stack_calls does.ops (deletes r) (stack_code r) n) (slice_get (stack_code r) g) (Source.kept_all tys vs) w1)
          ≡ bind m (λ _ w1. rounds does (view_of r) (suc (does.ops.turns_left w1)) (function_at (view_of r) g) (calls_within does (view_of r) n) 0 [] (first_locals (function_at (view_of r) g) vs) w1)
      by (Go x w1) same =
          ap (λ o. run_function does.ops (deletes r) (stack_calls does.ops (deletes r) (stack_code r) n) o (Source.kept_all tys vs) w1) (slice_get-map (stack_of r) r.functions g ∙ ap (option_map (stack_of r)) c.there)
          ∙ function_same c.routine n g c.there tys c vs w1 long same refl
          ∙ ap (λ (f : ImageFunction). rounds does (view_of r) (suc (does.ops.turns_left w1)) f (calls_within does (view_of r) n) 0 [] (first_locals f vs) w1) (sym (function_found r g c.routine c.there))
      by (Stopped s w1) same = refl

  pub image_same : ImageMeansTheSame does r
  image_same w = sym (calls_same (suc (does.ops.turns_left w)) r.main [] numberable.main [] w refl)

-- ---- region code whose parts fit together

abbrev routine_result : Option Routine → Option Ty
routine_result None = None
routine_result (Some f) = f.result

result_defined : (r : Rlang) (o : Option Ty) → IfSome o (IsVariable r.structs) → ResultDefined r o
result_defined r None v = tt
result_defined r (Some t) v = v.0

routine_fits : (r : Rlang) → IsWhole r → (f : Routine) → IsWholeRoutine r f → FunctionFits r f
routine_fits r whole f own = record {
  in_order = routine_in_order r f own.stands own.in_order own.kinded;
  sets = routine_sets r f own.stands;
  sayable = code_said r whole f own false f.body own.in_order own.stands own.kinded;
  result = result_defined r f.result own.result;
}

is_numberable : (r : Rlang) → IsWhole r → IsNumberable r
is_numberable r whole = record {
  functions = λ k f there. routine_fits r whole f (whole.functions k f there);
  main = record {
    routine = whole.main.0;
    there = whole.main.1.0;
    parameters_are = ap (λ n. take n whole.main.0.locals) (sym whole.main.1.1);
    few = let e = whole.main.1.1 in omega (arith, e);
  };
  gives = ap routine_result whole.main.1.0 ∙ whole.main.1.2;
}

pub rlang_is_numberable : (r : Rlang) → IsRlang r → IsNumberable r
rlang_is_numberable r fits = is_numberable r (rlang_is_whole r fits)

-- ---- programs

module _ (program : Program) (well : IsWellTyped program) where
  pub program_is_numberable : IsNumberable (region_of_program program)
  program_is_numberable = is_numberable (region_of_program program) (program_is_whole program well)

  view_same : (input : List ℕ) (limits : Limits) → view_run program input limits ≡ stack_run program input limits
  view_same input limits = image_same without_marks (λ line t v w. refl) waiting source_waits (region_of_program program) program_is_numberable (first_world program input limits)

  pub view_means : ViewMeansTheSame program
  view_means input limits bytes = ap (meaning_of_run input) (view_same input limits) ∙ program_means program well input limits bytes

  pub view_leaves : ViewLeavesTheSame program
  view_leaves input limits bytes = ap left_by_run (view_same input limits) ∙ program_leaves program well input limits bytes
