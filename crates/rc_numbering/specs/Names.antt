-- What stack code speaks of that an image has by number: types and paths.
--
-- A type is named where a pointer to it is kept, made or looked at, where an object of it is made, and where a path begins in it. Whoever
-- names a type names also what it points to. A program names all its structs, in their order and first, so a struct keeps its number; then
-- what the fields of structs point to, the types of its globals and of its strings; and then, function by function, what the locals and
-- the result point to, and what the code names. So the cells of each named type point to named types.
use Rattle.std.specs.Prelude.{ℕ, suc, Bool, true, false, ◌&&◌, nat_eq, List, [], ◌∷◌, ◌++◌, map, flat_map, Option, Some, None}
use Rattle.rc_core.specs.declared.ty.Signedness.{Signedness}
use Rattle.rc_core.specs.declared.ty.Signedness.TheVariants.{Signed, Unsigned}
use Rattle.rc_core.specs.Types.{Ty, int, unsigned, char, region, struct, pointer}
use Rattle.rc_core.specs.Programs.{Field, Struct, Global}
use Rattle.rc_rlang.specs.RegionCode.{Access, Routine, Rlang}
use Rattle.rc_rlang.specs.RegionCode as From
use Rattle.rc_rlang.specs.RegionRuns.{deletes}
use Rattle.rc_emission.specs.StackCode as To
use Rattle.rc_emission.specs.StackCode.{Line, StackFunction}
use Rattle.rc_emission.specs.StatementCode.{stack_function}
use Rattle.rc_emission.specs.KeptOperands.{same_type, slots_of}
use Rattle.rc_code.specs.declared.image.Index.{Index}
use Rattle.rc_code.specs.declared.image.Path.{Path}
use Rattle.rc_numbering.specs.Tables.{table_of}

-- ---- types

-- what a value of the type points to, and what that points to
abbrev pub pointed_to : Ty → List Ty
pointed_to int = []
pointed_to unsigned = []
pointed_to char = []
pointed_to region = []
pointed_to (struct k) = []
pointed_to (pointer note target) = target ∷ pointed_to target

abbrev pub with_pointed : Ty → List Ty
with_pointed ty = ty ∷ pointed_to ty

abbrev pub result_names : Option Ty → List Ty
result_names None = []
result_names (Some ty) = pointed_to ty

abbrev pub instruction_names : To.Instruction → List Ty
instruction_names (To.null ty) = pointed_to ty
instruction_names (To.null_test ty) = pointed_to ty
instruction_names (To.same ty) = pointed_to ty
instruction_names (To.move ty s direction) = pointed_to ty
instruction_names (To.load a) = with_pointed a.element
instruction_names (To.store a) = with_pointed a.element
instruction_names (To.region_of ty) = pointed_to ty
instruction_names (To.allocate ty layout) = with_pointed ty
instruction_names (To.allocate_array ty layout) = with_pointed ty
instruction_names i = []

abbrev pub code_names : List Line → List Ty
code_names code = flat_map (λ (l : Line). instruction_names l.instruction) code

abbrev pub types_named : List Ty → List Ty
types_named tys = flat_map pointed_to tys

abbrev pub structs_from : ℕ → List Struct → List Ty
structs_from k [] = []
structs_from k (fields ∷ structs) = struct k ∷ structs_from (suc k) structs

abbrev pub fields_names : Struct → List Ty
fields_names fields = flat_map (λ (d : Field). pointed_to d.ty) fields

abbrev pub stack_of : Rlang → Routine → StackFunction
stack_of r f = stack_function slots_of (deletes r) f

abbrev pub routine_names : Rlang → Routine → List Ty
routine_names r f = types_named (stack_of r f).locals ++ (result_names f.result ++ code_names (stack_of r f).code)

abbrev pub program_names : Rlang → List Ty
program_names r =
    structs_from 0 r.structs
    ++ (flat_map fields_names r.structs
    ++ (flat_map (λ (g : Global). with_pointed g.ty) r.globals
    ++ (map (λ (bytes : List ℕ). char) r.strings
    ++ flat_map (routine_names r) r.functions)))

abbrev pub types_of : Rlang → List Ty
types_of r = table_of same_type (program_names r)

-- ---- paths

abbrev pub same_kind : Signedness → Signedness → Bool
same_kind Signed Signed = true
same_kind Signed Unsigned = false
same_kind Unsigned Signed = false
same_kind Unsigned Unsigned = true

abbrev pub same_shift : Option Signedness → Option Signedness → Bool
same_shift None None = true
same_shift None (Some s) = false
same_shift (Some s) None = false
same_shift (Some s) (Some t) = same_kind s t

abbrev pub same_index : Index → Index → Bool
same_index i j = nat_eq i.length j.length && (nat_eq i.stride j.stride && same_kind i.kind j.kind)

abbrev pub same_indices : List Index → List Index → Bool
same_indices [] [] = true
same_indices [] (j ∷ js) = false
same_indices (i ∷ is) [] = false
same_indices (i ∷ is) (j ∷ js) = same_index i j && same_indices is js

abbrev pub same_path : Path → Path → Bool
same_path p q = nat_eq p.type_number q.type_number && (same_shift p.shift q.shift && (nat_eq p.offset q.offset && same_indices p.indices q.indices))

abbrev pub index_of : From.Index → Index
index_of i = record { length = i.count; stride = i.stride; kind = i.kind }

module _ (type_number : Ty → ℕ) where
  abbrev pub path_of : Access → Path
  path_of a = record { type_number = type_number a.element; shift = a.shift; offset = a.offset; indices = map index_of a.indices }

  abbrev pub instruction_paths : To.Instruction → List Path
  instruction_paths (To.load a) = path_of a ∷ []
  instruction_paths (To.store a) = path_of a ∷ []
  instruction_paths i = []

  abbrev pub code_paths : List Line → List Path
  code_paths code = flat_map (λ (l : Line). instruction_paths l.instruction) code

  abbrev pub paths_of : Rlang → List Path
  paths_of r = table_of same_path (flat_map (λ f. code_paths (stack_of r f).code) r.functions)
