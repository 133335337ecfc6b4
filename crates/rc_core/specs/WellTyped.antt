-- The test of a program by itself: that its parts fit together.
use Rattle.std.specs.Prelude.{◌≡◌, ℕ, ◌<◌, ◌≤◌, ◌*◌, ℤ, pos, false, not, IsTrue, IfSome, List, length, map, sum, slice_get, Option, Some, None}
use Rattle.std.specs.List.{AllByRecursion as Every}
use Rattle.rc_base.specs.Limits.{most_global_cells, most_program_words, most_string_bytes, most_struct_cells}
use Rattle.rc_core.specs.declared.ty.NumberType.TheVariants.{Int, Unsigned, Char}
use Rattle.rc_core.specs.Types.{Ty, int, unsigned, char, region, struct, pointer}
use Rattle.rc_core.specs.Programs.{Field, Struct, Global, Function, Program}
use Rattle.rc_core.specs.Numbers.{IsByte}
use Rattle.rc_core.specs.Layout.{size}
use Rattle.rc_core.specs.Typing.{fits, is_struct, IsDefined, IsTyped}
use Rattle.rc_core.specs.Deletes.{DeletesInPlace}

-- a struct has another inside it only if that was defined before
abbrev pub IsInside : (structure : ℕ) → Ty → Type 0
IsInside structure int = Unit {0}
IsInside structure unsigned = Unit {0}
IsInside structure char = Unit {0}
IsInside structure region = Unit {0}
IsInside structure (struct k) = k < structure
IsInside structure (pointer note target) = Unit {0}

abbrev pub IsLength : Option ℕ → Type 0
IsLength count = IfSome count (λ n. 1 ≤ n)

pub record FieldFits (structs : List Struct) (structure : ℕ) (f : Field) : Type 0 where
  pub defined : IsDefined structs f.ty
  pub inside : IsInside structure f.ty
  pub counted : IsLength f.count

pub record StructFits (structs : List Struct) (structure : ℕ) (fields : Struct) : Type 0 where
  pub some_field : 1 ≤ length fields
  pub fields_fit : (k : ℕ) (f : Field) → slice_get fields k ≡ Some f → FieldFits structs structure f
  pub small : size structs (struct structure) ≤ most_struct_cells

abbrev pub StructsFit : List Struct → Type 0
StructsFit structs = (k : ℕ) (fields : Struct) → slice_get structs k ≡ Some fields → StructFits structs k fields

-- one number is of its type, and everything else starts as 0
abbrev pub IsInitial : Option ℕ → Ty → ℤ → Type 0
IsInitial (Some n) t z = z ≡ pos 0
IsInitial None int z = IsTrue (fits Int z)
IsInitial None unsigned z = IsTrue (fits Unsigned z)
IsInitial None char z = IsTrue (fits Char z)
IsInitial None region z = z ≡ pos 0
IsInitial None (struct k) z = z ≡ pos 0
IsInitial None (pointer note target) z = z ≡ pos 0

pub record GlobalFits (structs : List Struct) (g : Global) : Type 0 where
  pub defined : IsDefined structs g.ty
  pub counted : IsLength g.count
  pub initial_fits : IsInitial g.count g.ty g.initial

abbrev pub elements : Option ℕ → ℕ
elements None = 1
elements (Some n) = n

abbrev pub global_size : List Struct → Global → ℕ
global_size structs g = elements g.count * size structs g.ty

abbrev pub IsVariable : List Struct → Ty → Type 0
IsVariable structs t = IsDefined structs t × IsTrue (not (is_struct t))

pub record FunctionFits (program : Program) (f : Function) : Type 0 where
  pub parameters : f.parameters ≤ length f.locals
  pub locals : (x : ℕ) (t : Ty) → slice_get f.locals x ≡ Some t → IsVariable program.structs t
  pub result : IfSome f.result (IsVariable program.structs)
  pub body : IsTyped program f false f.body

pub record IsWellTyped (program : Program) : Type 0 where
  pub structs : StructsFit program.structs
  pub globals : (k : ℕ) (g : Global) → slice_get program.globals k ≡ Some g → GlobalFits program.structs g
  pub all_globals : sum (map (global_size program.structs) program.globals) ≤ most_global_cells
  pub number_of_strings : length program.strings ≤ most_program_words
  pub strings : (k : ℕ) (bytes : List ℕ) → slice_get program.strings k ≡ Some bytes → length bytes ≤ most_string_bytes
  pub bytes : Every (Every IsByte) program.strings
  pub functions : (k : ℕ) (f : Function) → slice_get program.functions k ≡ Some f → FunctionFits program f
  pub deleting : DeletesInPlace program
  pub main : (f : Function) × ((slice_get program.functions program.main ≡ Some f) × (f.parameters ≡ 0) × (f.result ≡ Some int))
