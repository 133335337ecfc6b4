-- What emission makes keeps the loader's rules.
use Rattle.std.proofs.Common.{◌≡◌, ℕ, zero, suc, false, List, [], ◌∷◌, ◌++◌, map, Option, Some, None, refl, ap, ◌∙◌}
use Rattle.std.specs.Prelude.{slice_get, get_or, option_map}
use Rattle.rc_core.specs.Types.{Ty, int, unsigned, char, region, struct, pointer}
use Rattle.rc_core.specs.Typing.{value_type}
use Rattle.rc_core.specs.Programs.{Function, Program}
use Rattle.rc_core.specs.WellTyped.{IsWellTyped}
use Rattle.rc_rlang.specs.RegionCode.{Routine}
use Rattle.rc_translation.specs.Translation.{call_type, routine_of}
use Rattle.rc_translation.proofs.StatementFitting.{statement_fits}
use Rattle.rc_rlang.specs.RegionKinds.{kind_ty}
use Rattle.rc_emission.specs.OperationCode.{wide}
use Rattle.rc_emission.specs.KeptOperands.{Kept, same_kept, once, kept_code, slots_of}
use Rattle.rc_emission.specs.Means.{IsThere, Serves}
use Rattle.rc_emission.proofs.Naming.{statement_names}
use Rattle.rc_emission.proofs.Ordered.{code_served}
use Rattle.rc_emission.proofs.SameOperands.{kept_is, kept_self}
use Rattle.rc_emission.proofs.TableLaws.{there_in, table_types}
use Rattle.rc_emission.proofs.TableServes.{body_serves}
use Rattle.rc_stack_rules.specs.LoaderRules.{local_kind}
use Rattle.rc_stack_rules.specs.Loadable.{all_locals, KeepsRules, EndsInReturn, IsInOrder, object_type, AllKeepRules}
use Rattle.rc_stack_rules.proofs.SoundFunctions.{loaded, ends_in_a_return}
use Rattle.rc_translation.proofs.Kinding.{statement_agrees}
use Rattle.rc_translation.proofs.RulesTheorem.{global_there, behind_globals, all_char}

kind_wide : (ty : Ty) → kind_ty (wide ty) ≡ kind_ty ty
kind_wide int = refl
kind_wide unsigned = refl
kind_wide char = refl
kind_wide region = refl
kind_wide (struct k) = refl
kind_wide (pointer note target) = refl

abbrev table : Routine → List Kept
table f = once same_kept (kept_code f.body)

module _ (global_ty result_ty : ℕ → Ty) (f : Routine) where
  slot_kind : (h : ℕ) (ty : Ty) → IsThere f (slots_of f) h ty → local_kind (all_locals f) global_ty result_ty ((slots_of f).slot h ty) ≡ kind_ty ty
  slot_kind h ty there = ap kind_ty (table_types same_kept kept_is table f h ty (there_in same_kept kept_is table f h ty there)) ∙ kind_wide ty

  pub keeps_rules : IsInOrder global_ty result_ty f → KeepsRules global_ty result_ty f
  keeps_rules in_order deleting =
      let serves : Serves f (slots_of f) = body_serves same_kept kept_self kept_is f (code_served f.locals f.body in_order.0 in_order.1) in
      loaded global_ty result_ty slots_of deleting f (IsThere f (slots_of f)) slot_kind serves.fits in_order.2

  pub ends_in_return : EndsInReturn f
  ends_in_return deleting = ends_in_a_return global_ty result_ty slots_of deleting f (IsThere f (slots_of f)) slot_kind f.result

local_there : (xs ys : List Ty) (x : ℕ) (u : Ty) → slice_get xs x ≡ Some u → get_or (xs ++ ys) x int ≡ u
local_there [] ys x u e = absurd (cc e)
local_there (t ∷ xs) ys zero u e = cc
local_there (t ∷ xs) ys (suc x) u e = local_there xs ys x u e

abbrev given : Option Ty → Ty
given None = int
given (Some ty) = value_type ty

abbrev found : Option Function → Ty
found None = int
found (Some g) = given g.result

called : (o : Option Function) (g : Function) (t : Ty) → o ≡ Some g → option_map value_type g.result ≡ Some t → found o ≡ t
called o g t e r = ap found e ∙ by_result g.result r
  where
    by_result : (q : Option Ty) → option_map value_type q ≡ Some t → given q ≡ t
    by_result None r = cc
    by_result (Some u) r = cc

pub all_keep_rules : (program : Program) → IsWellTyped program → AllKeepRules program
all_keep_rules program well k f there =
    let typed = (well.functions k f there).body in
    let r = routine_of program f in
    keeps_rules (object_type program) (call_type program) r (
      statement_fits program f false f.body typed,
      statement_names program f false f.body typed,
      statement_agrees program f (all_locals r) (object_type program) (call_type program) (local_there f.locals (slots_of r).types)
          (global_there program.globals (map (λ (bytes : List ℕ). char) program.strings))
          (λ k lt. behind_globals program.globals (map (λ (bytes : List ℕ). char) program.strings) k ∙ all_char program.strings k lt)
          (λ f g t there result. called (slice_get program.functions f) g t there result) false f.body typed,
    )
