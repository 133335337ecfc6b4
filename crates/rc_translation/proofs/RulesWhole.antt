-- Region code whose parts fit together, however many region variables and points it has.
use Rattle.std.proofs.Common.{◌≡◌, ◌≤◌, ℕ, length, Some}
use Rattle.std.specs.Prelude.{false, IfSome, slice_get}
use Rattle.rc_core.specs.Types.{Ty, int}
use Rattle.rc_core.specs.Programs.{Global}
use Rattle.rc_core.specs.WellTyped.{StructsFit, GlobalFits, IsVariable}
use Rattle.rc_rlang.specs.RegionCode.{Routine, Rlang}
use Rattle.rc_rlang.specs.RegionFits.{CodeFits}
use Rattle.rc_rlang.specs.RegionKinds.{CodeKinded}
use Rattle.rc_rlang.specs.RegionNames.{object_type, result_type, CodeStands}
use Rattle.rc_rlang.specs.IsRlang.{IsRlang, RoutineFits}

pub record IsWholeRoutine (r : Rlang) (f : Routine) : Type 0 where
  pub parameters : f.parameters ≤ length f.locals
  pub locals : (x : ℕ) (ty : Ty) → slice_get f.locals x ≡ Some ty → IsVariable r.structs ty
  pub result : IfSome f.result (IsVariable r.structs)
  pub in_order : CodeFits f.body
  pub kinded : CodeKinded f.locals (object_type r) (result_type r) f.body
  pub stands : CodeStands r f.locals f.result false f.body

pub record IsWhole (r : Rlang) : Type 0 where
  pub structs : StructsFit r.structs
  pub globals : (k : ℕ) (g : Global) → slice_get r.globals k ≡ Some g → GlobalFits r.structs g
  pub functions : (k : ℕ) (f : Routine) → slice_get r.functions k ≡ Some f → IsWholeRoutine r f
  pub main : (f : Routine) × ((slice_get r.functions r.main ≡ Some f) × (f.parameters ≡ 0) × (f.result ≡ Some int))

whole_routine : (r : Rlang) (f : Routine) → RoutineFits r f → IsWholeRoutine r f
whole_routine r f fits = record { parameters = fits.parameters; locals = fits.locals; result = fits.result; in_order = fits.in_order; kinded = fits.kinded; stands = fits.stands }

pub rlang_is_whole : (r : Rlang) → IsRlang r → IsWhole r
rlang_is_whole r fits = record { structs = fits.structs; globals = fits.globals; functions = λ k f there. whole_routine r f (fits.functions k f there); main = fits.main }
