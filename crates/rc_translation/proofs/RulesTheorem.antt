-- The region code of a program is region code whose parts fit together.
use Rattle.std.proofs.Common.{◌≡◌, ◌<◌, ℕ, zero, suc, ◌+◌, List, [], ◌∷◌, ◌++◌, length, map, Option, Some, None, refl, sym, ap, ◌∙◌, subst, arith}
use Rattle.std.proofs.lemmas.Option.{get_or_from_slice_get, slice_get-map}
use Rattle.std.specs.Prelude.{◌≤◌, false, slice_get, get_or, option_map}
use Rattle.rc_base.specs.Limits.{most_points, most_variables}
use Rattle.rc_core.specs.Types.{Ty, int, char}
use Rattle.rc_core.specs.Typing.{value_type}
use Rattle.rc_core.specs.Programs.{Function, Global, Program}
use Rattle.rc_core.specs.WellTyped.{IsWellTyped}
use Rattle.rc_rlang.specs.Bounds.{IsWithinBounds}
use Rattle.rc_rlang.specs.IsRlang.{RoutineFits}
use Rattle.rc_rlang.specs.RegionCode.{Routine}
use Rattle.rc_rlang.specs.RegionVariables.{routine_variables}
use Rattle.rc_rlang.specs.RegionNames.{object_type, given_type, routine_type, result_type}
use Rattle.rc_translation.specs.Translation.{routine_of, region_of_program}
use Rattle.rc_translation.proofs.Counted.{points_are_counted}
use Rattle.rc_translation.proofs.StatementFitting.{statement_fits}
use Rattle.rc_translation.specs.Keeps.{FitsTogether}
use Rattle.rc_translation.proofs.Kinding.{statement_agrees}
use Rattle.rc_translation.proofs.Standing.{statement_stands}
use Rattle.rc_translation.proofs.VariablesCounted.{has_its_variables}
use Rattle.rc_translation.proofs.RulesWhole.{IsWholeRoutine, IsWhole}

pub global_there : (gs : List Global) (ys : List Ty) (g : ℕ) (d : Global) → slice_get gs g ≡ Some d → get_or (map (λ (d : Global). d.ty) gs ++ ys) g int ≡ d.ty
global_there [] ys g d e = absurd (cc e)
global_there (t ∷ gs) ys zero d e = ap (λ (x : Global). x.ty) (same t d e)
  where
    same : (a b : Global) → Some a ≡ Some b → a ≡ b
    same a b e = cc
global_there (t ∷ gs) ys (suc g) d e = global_there gs ys g d e

pub behind_globals : (gs : List Global) (ys : List Ty) (k : ℕ) → get_or (map (λ (d : Global). d.ty) gs ++ ys) (length gs + k) int ≡ get_or ys k int
behind_globals [] ys k = let e : 0 + k ≡ k = omega arith in ap (λ n. get_or ys n int) e
behind_globals (t ∷ gs) ys k =
    let e : length (t ∷ gs) + k ≡ suc (length gs + k) = omega arith in
    ap (λ n. get_or (t.ty ∷ (map (λ (d : Global). d.ty) gs ++ ys)) n int) e ∙ behind_globals gs ys k

pub all_char : (strings : List (List ℕ)) (k : ℕ) → k < length strings → get_or (map (λ (bytes : List ℕ). char) strings) k int ≡ char
all_char [] k lt = absurd (omega (arith, lt))
all_char (s ∷ strings) zero lt = refl
all_char (s ∷ strings) (suc k) lt = all_char strings k (omega (arith, lt))

given : (o : Option Ty) (t : Ty) → option_map value_type o ≡ Some t → given_type o ≡ t
given None t e = cc
given (Some u) t e = cc

routine_there : (program : Program) (k : ℕ) (f : Function) → slice_get program.functions k ≡ Some f → slice_get (map (routine_of program) program.functions) k ≡ Some (routine_of program f)
routine_there program k f there = slice_get-map (routine_of program) program.functions k ∙ ap (option_map (routine_of program)) there

result_there : (program : Program) (k : ℕ) (f : Function) (t : Ty) → slice_get program.functions k ≡ Some f → option_map value_type f.result ≡ Some t → result_type (region_of_program program) k ≡ t
result_there program k f t there e = ap routine_type (routine_there program k f there) ∙ given f.result t e

-- each routine is that of a function
origin : (program : Program) (fs : List Function) (k : ℕ) (r : Routine) → slice_get (map (routine_of program) fs) k ≡ Some r → (f : Function) × ((slice_get fs k ≡ Some f) × (routine_of program f ≡ r))
origin program [] k r e = absurd (cc e)
origin program (f ∷ fs) zero r e = (f, (refl, cc))
origin program (f ∷ fs) (suc k) r e = origin program fs k r e

module _ (program : Program) (well : IsWellTyped program) where
  function_whole : (k : ℕ) (f : Function) → slice_get program.functions k ≡ Some f → IsWholeRoutine (region_of_program program) (routine_of program f)
  function_whole k f there =
      let fits = well.functions k f there in
      record {
        parameters = fits.parameters;
        locals = fits.locals;
        result = fits.result;
        in_order = statement_fits program f false f.body fits.body;
        kinded = statement_agrees program f f.locals (object_type (region_of_program program)) (result_type (region_of_program program))
            (λ x u e. get_or_from_slice_get f.locals x u int e)
            (global_there program.globals (map (λ (bytes : List ℕ). char) program.strings))
            (λ k lt. behind_globals program.globals (map (λ (bytes : List ℕ). char) program.strings) k ∙ all_char program.strings k lt)
            (result_there program) false f.body fits.body;
        stands = statement_stands program well f fits false f.body fits.body;
      }

  routine_whole : (k : ℕ) (r : Routine) → slice_get (map (routine_of program) program.functions) k ≡ Some r → IsWholeRoutine (region_of_program program) r
  routine_whole k r e = let o = origin program program.functions k r e in subst (IsWholeRoutine (region_of_program program)) o.1.1 (function_whole k o.0 o.1.0)

  -- within bounds or not
  pub program_is_whole : IsWhole (region_of_program program)
  program_is_whole = record {
    structs = well.structs;
    globals = well.globals;
    functions = routine_whole;
    main = (routine_of program well.main.0, (routine_there program program.main well.main.0 well.main.1.0, well.main.1.1, well.main.1.2));
  }

  module _ (bounds : IsWithinBounds program) where
    routine_narrow : (k : ℕ) (r : Routine) → slice_get (map (routine_of program) program.functions) k ≡ Some r → routine_variables r ≤ most_variables
    routine_narrow k r e =
        let o = origin program program.functions k r e in
        subst (λ (f : Routine). routine_variables f ≤ most_variables) o.1.1 (subst (λ n. n ≤ most_variables) (sym (has_its_variables program o.0)) (bounds.narrow k o.0 o.1.0))

    routine_fits : (k : ℕ) (r : Routine) → slice_get (map (routine_of program) program.functions) k ≡ Some r → RoutineFits (region_of_program program) r
    routine_fits k r e =
        let whole = routine_whole k r e in
        record { parameters = whole.parameters; locals = whole.locals; result = whole.result; in_order = whole.in_order; kinded = whole.kinded; stands = whole.stands; narrow = routine_narrow k r e }

    pub fits_together : FitsTogether program
    fits_together = record {
      structs = well.structs;
      globals = well.globals;
      all_globals = well.all_globals;
      number_of_strings = well.number_of_strings;
      strings = well.strings;
      bytes = well.bytes;
      functions = routine_fits;
      main = program_is_whole.main;
      few_points = subst (λ n. n ≤ most_points) (sym (points_are_counted program)) bounds.few_points;
    }
