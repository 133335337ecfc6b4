-- Labelled code keeps what is asked of region code, function by function.
use Rattle.std.proofs.Common.{◌≡◌, ℕ, ◌+◌, Bool, [], Option, Some, None, refl, sym, ap, ◌∙◌, subst}
use Rattle.std.specs.Prelude.{slice_get}
use Rattle.std.specs.Option.{option_map}
use Rattle.std.proofs.lemmas.Option.{none-some, same_Some}
use Rattle.std.proofs.Math.Path.{fun_ext}
use Rattle.rc_core.specs.Types.{Ty}
use Rattle.rc_rlang.specs.RegionCode.{Routine, Rlang}
use Rattle.rc_rlang.specs.RegionFits.{CodeFits}
use Rattle.rc_rlang.specs.RegionKinds.{CodeKinded}
use Rattle.rc_rlang.specs.RegionNames.{object_type, result_type, routine_type}
use Rattle.rc_emission.specs.Means.{IsOrdered}
use Rattle.rc_emission.specs.Served.{CodeNames}
use Rattle.rc_stack_rules.specs.Loadable.{all_locals}
use Rattle.rc_numbering.specs.Means.{ResultDefined, FunctionFits, IsNumberable}
use Rattle.rc_labels.specs.Labels.{Numbering}
use Rattle.rc_labels.specs.Labelled.{code_labelled, routine_labelled, labelled}
use Rattle.rc_labels.proofs.Lives.{there}
use Rattle.rc_labels.proofs.Fits.{code_fits, code_names, code_sets, code_kinded}
use Rattle.rc_labels.proofs.Kept.{all_locals_same}
use Rattle.rc_labels.proofs.Sayable.{result_same, is_called, code_sayable}

module _ (n : Numbering) (marks : (function point : ℕ) → Bool) (r : Rlang) where
  abbrev R : Rlang
  R = labelled n marks r

  -- what holds of each function with its labels holds of each labelled function
  each_labelled : (P : Routine → Type 0) → ((k : ℕ) (f : Routine) → slice_get r.functions k ≡ Some f → P (routine_labelled n (marks (0 + k)) f)) → (k : ℕ) (g : Routine) → slice_get R.functions k ≡ Some g → P g
  each_labelled P holds k g e = by (slice_get r.functions k) refl (sym (there n marks r.functions 0 k) ∙ e)
    where
      by : (o : Option Routine) → slice_get r.functions k ≡ o → option_map (routine_labelled n (marks (0 + k))) o ≡ Some g → P g
      by None at is = absurd (none-some g is)
      by (Some f) at is = subst P (same_Some (routine_labelled n (marks (0 + k)) f) g is) (holds k f at)

  pub ordered : IsOrdered r → IsOrdered R
  ordered fits k g e = each_labelled (λ h. CodeFits h.body × CodeNames h.locals h.body) (λ j f at. (code_fits n (marks (0 + j)) f.body 1 (fits j f at).0, code_names n (marks (0 + j)) f.locals f.body 1 (fits j f at).1)) k g e

  result_types_same : result_type R ≡ result_type r
  result_types_same = fun_ext (λ g. ap routine_type (there n marks r.functions 0 g) ∙ by (slice_get r.functions g) g)
    where
      by : (o : Option Routine) (g : ℕ) → routine_type (option_map (routine_labelled n (marks (0 + g))) o) ≡ routine_type o
      by None g = refl
      by (Some f) g = refl

  result_defined : (result : Option Ty) → ResultDefined r result → ResultDefined R result
  result_defined None h = h
  result_defined (Some ty) h = h

  function_fits : (f : Routine) (marked : (point : ℕ) → Bool) → FunctionFits r f → FunctionFits R (routine_labelled n marked f)
  function_fits f marked fits =
      let order = fits.in_order in
      let body' = code_labelled n marked f.body 1 in record {
        in_order = (
          code_fits n marked f.body 1 order.0,
          code_names n marked f.locals f.body 1 order.1,
          subst (λ locals. CodeKinded locals (object_type r) (result_type R) body') (sym (all_locals_same n marked f))
              (subst (λ result. CodeKinded (all_locals f) (object_type r) result body') (sym result_types_same) (code_kinded n marked (all_locals f) (object_type r) (result_type r) f.body 1 order.2)),
        );
        sets = code_sets n marked f.locals f.body 1 fits.sets;
        sayable = code_sayable n marks r f marked f.body 1 fits.sayable;
        result = result_defined f.result fits.result;
      }

  pub numberable : IsNumberable r → IsNumberable R
  numberable is = record {
    functions = each_labelled (λ g. FunctionFits R g) (λ k f at. function_fits f (marks (0 + k)) (is.functions k f at));
    main = is_called n marks r r.main [] is.main;
    gives = result_same n marks r r.main ∙ is.gives;
  }
