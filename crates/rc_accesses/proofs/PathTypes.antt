-- Types of what numbers name, and along ways inward.
use Rattle.std.proofs.Common.{◌≡◌, ◌<◌, ◌≤◌, ℕ, zero, suc, ◌+◌, ◌-◌, List, [], ◌∷◌, length, drop, map, Option, Some, None, refl, sym, ap, ◌∙◌, arith}
use Rattle.std.specs.Prelude.{get_or, slice_get, option_map, take}
use Rattle.std.proofs.lemmas.Option.{slice_get-map}
use Rattle.std.proofs.Math.Seq.{drop-cons}
use Rattle.rc_core.specs.declared.ty.Ty.{Ty as CodeTy}
use Rattle.rc_core.specs.declared.expr.PathStep.{PathStep, Field, Element}
use Rattle.rc_core.specs.declared.parts.Struct.{Struct as CodeStruct}
use Rattle.rc_core.specs.declared.parts.Function.{Function as CodeFunction}
use Rattle.rc_core.specs.declared.parts.Global.{Global as CodeGlobal}
use Rattle.rc_core.specs.declared.parts.Parts.{Parts}
use Rattle.rc_core.specs.Layout.{field_at}
use Rattle.rc_core.specs.Programs.{Function, Global, Program}
use Rattle.rc_core.specs.Shapes.{ty_of, field_of, struct_of, global_of, function_of, path_of, program_of}
use Rattle.rc_core.specs.Types.{Ty, int}
use Rattle.rc_core.specs.Typing.{value_type, parameters_of}
use Rattle.rc_accesses.specs.Inner.{inner_type}
use Rattle.rc_translation.specs.Translation.{path_type, global_type, call_type, parameter_types, signedness}

pub local_there : (xs : List CodeTy) (i : ℕ) (t : CodeTy) → slice_get xs i ≡ Some t → get_or (map ty_of xs) i int ≡ ty_of t
local_there [] i t e = cc
local_there (x ∷ xs) zero t e = let q : x ≡ t = cc in ap ty_of q
local_there (x ∷ xs) (suc i) t e = local_there xs i t e

pub local_missing : (xs : List CodeTy) (i : ℕ) → slice_get xs i ≡ None → get_or (map ty_of xs) i int ≡ int
local_missing [] i e = refl
local_missing (x ∷ xs) zero e = cc
local_missing (x ∷ xs) (suc i) e = local_missing xs i e

pub global_there : (p : Parts) (g : ℕ) (d : CodeGlobal) → slice_get p.globals.items g ≡ Some d → global_type (program_of p) g ≡ ty_of d.ty
global_there p g d e = ap by (slice_get-map global_of p.globals.items g ∙ ap (option_map global_of) e)
  where
    by : Option Global → Ty
    by None = int
    by (Some d) = d.ty

pub global_missing : (p : Parts) (g : ℕ) → slice_get p.globals.items g ≡ None → global_type (program_of p) g ≡ int
global_missing p g e = ap by (slice_get-map global_of p.globals.items g ∙ ap (option_map global_of) e)
  where
    by : Option Global → Ty
    by None = int
    by (Some d) = d.ty

abbrev given : Option Ty → Ty
given None = int
given (Some ty) = value_type ty

pub call_there : (p : Parts) (k : ℕ) (f : CodeFunction) (t : CodeTy) → slice_get p.functions.items k ≡ Some f → f.result ≡ Some t → call_type (program_of p) k ≡ value_type (ty_of t)
call_there p k f t e r = ap by (slice_get-map function_of p.functions.items k ∙ ap (option_map function_of) e) ∙ ap (λ o. given (option_map ty_of o)) r
  where
    by : Option Function → Ty
    by None = int
    by (Some f) = given f.result

pub call_without : (p : Parts) (k : ℕ) (f : CodeFunction) → slice_get p.functions.items k ≡ Some f → f.result ≡ None → call_type (program_of p) k ≡ int
call_without p k f e r = ap by (slice_get-map function_of p.functions.items k ∙ ap (option_map function_of) e) ∙ ap (λ o. given (option_map ty_of o)) r
  where
    by : Option Function → Ty
    by None = int
    by (Some f) = given f.result

pub call_missing : (p : Parts) (k : ℕ) → slice_get p.functions.items k ≡ None → call_type (program_of p) k ≡ int
call_missing p k e = ap by (slice_get-map function_of p.functions.items k ∙ ap (option_map function_of) e)
  where
    by : Option Function → Ty
    by None = int
    by (Some f) = given f.result

struct_at : (xs : List CodeStruct) (s : ℕ) (c : CodeStruct) → slice_get xs s ≡ Some c → get_or (map struct_of xs) s [] ≡ struct_of c
struct_at [] s c e = cc
struct_at (x ∷ xs) zero c e = let q : x ≡ c = cc in ap struct_of q
struct_at (x ∷ xs) (suc s) c e = struct_at xs s c e

no_struct : (xs : List CodeStruct) (s : ℕ) → slice_get xs s ≡ None → get_or (map struct_of xs) s [] ≡ []
no_struct [] s e = refl
no_struct (x ∷ xs) zero e = cc
no_struct (x ∷ xs) (suc s) e = no_struct xs s e

pub field_there : (p : Parts) (s f : ℕ) (c : CodeStruct) → slice_get p.structs.items s ≡ Some c → field_at (program_of p).structs s f ≡ option_map field_of (slice_get c.fields.items f)
field_there p s f c e = ap (λ fields. slice_get fields f) (struct_at p.structs.items s c e) ∙ slice_get-map field_of c.fields.items f

pub struct_missing : (p : Parts) (s f : ℕ) → slice_get p.structs.items s ≡ None → field_at (program_of p).structs s f ≡ None
struct_missing p s f e = ap (λ fields. slice_get fields f) (no_struct p.structs.items s e)

-- the element at the front of what is left
pub front : {X : Type 0} (xs : List X) (i : ℕ) (x : X) → i < length xs → x ≡ get_or xs i x → drop i xs ≡ x ∷ drop (i + 1) xs
front xs i x h e = drop-cons xs i x h ∙ ap (λ y. y ∷ drop (suc i) xs) (sym e) ∙ ap (λ j. x ∷ drop j xs) (let k : suc i ≡ i + 1 = omega arith in k)

pub nothing_left : {X : Type 0} (xs : List X) (i : ℕ) → length xs ≤ i → drop i xs ≡ []
nothing_left [] zero h = refl
nothing_left [] (suc i) h = refl
nothing_left (x ∷ xs) zero h = absurd (omega (arith, h))
nothing_left (x ∷ xs) (suc i) h = nothing_left xs i (omega (arith, h))

unfolds : (program : Program) (locals : List Ty) (s : PathStep) (steps : List PathStep) (ty : Ty) → path_type program locals (path_of (s ∷ steps)) ty ≡ path_type program locals (path_of steps) (inner_type program s)
unfolds program locals (Field s f) steps ty = refl
unfolds program locals (Element s f i) steps ty = refl

pub path_step : (program : Program) (locals : List Ty) (xs : List PathStep) (i : ℕ) (x : PathStep) (ty : Ty) → i < length xs → x ≡ get_or xs i x → path_type program locals (path_of (drop i xs)) ty ≡ path_type program locals (path_of (drop (i + 1) xs)) (inner_type program x)
path_step program locals xs i x ty h e = ap (λ ys. path_type program locals (path_of ys) ty) (front xs i x h e) ∙ unfolds program locals x (drop (i + 1) xs) ty

pub path_end : (program : Program) (locals : List Ty) (xs : List PathStep) (i : ℕ) (ty : Ty) → length xs ≤ i → path_type program locals (path_of (drop i xs)) ty ≡ ty
path_end program locals xs i ty h = ap (λ ys. path_type program locals (path_of ys) ty) (nothing_left xs i h)

last_step : (program : Program) (locals : List Ty) (xs : List PathStep) (i : ℕ) (x : PathStep) (ty : Ty) → i + 1 ≡ length xs → slice_get xs i ≡ Some x → path_type program locals (path_of xs) ty ≡ inner_type program x
last_step program locals [] i x ty h e = cc
last_step program locals (y ∷ []) zero x ty h e = let q : y ≡ x = cc in unfolds program locals y [] ty ∙ ap (inner_type program) q
last_step program locals (y ∷ []) (suc i) x ty h e = cc
last_step program locals (y ∷ z ∷ xs) zero x ty h e = absurd (omega (arith, h))
last_step program locals (y ∷ z ∷ xs) (suc i) x ty h e = unfolds program locals y (z ∷ xs) ty ∙ last_step program locals (z ∷ xs) i x (inner_type program y) (omega (arith, h)) e

pub path_last : (program : Program) (locals : List Ty) (xs : List PathStep) (x : PathStep) (ty : Ty) → slice_get xs (length xs - 1) ≡ Some x → path_type program locals (path_of xs) ty ≡ inner_type program x
path_last program locals [] x ty e = cc
path_last program locals (y ∷ xs) x ty e = last_step program locals (y ∷ xs) (length (y ∷ xs) - 1) x ty (omega arith) e

nothing_there : {X : Type 0} (xs : List X) (i : ℕ) → i < length xs → slice_get xs i ≡ None → ⊥
nothing_there [] i h e = omega (arith, h)
nothing_there (x ∷ xs) zero h e = cc
nothing_there (x ∷ xs) (suc i) h e = nothing_there xs i (omega (arith, h)) e

pub path_empty : (program : Program) (locals : List Ty) (xs : List PathStep) (ty : Ty) → slice_get xs (length xs - 1) ≡ None → path_type program locals (path_of xs) ty ≡ ty
path_empty program locals [] ty e = refl
path_empty program locals (y ∷ xs) ty e = absurd (nothing_there (y ∷ xs) (length (y ∷ xs) - 1) (omega arith) e)

pub parameters_there : (p : Parts) (k : ℕ) (f : CodeFunction) → slice_get p.functions.items k ≡ Some f → parameter_types (program_of p) k ≡ parameters_of (function_of f)
parameters_there p k f e = ap by (slice_get-map function_of p.functions.items k ∙ ap (option_map function_of) e)
  where
    by : Option Function → List Ty
    by None = []
    by (Some f) = parameters_of f

pub parameters_missing : (p : Parts) (k : ℕ) → slice_get p.functions.items k ≡ None → parameter_types (program_of p) k ≡ []
parameters_missing p k e = ap by (slice_get-map function_of p.functions.items k ∙ ap (option_map function_of) e)
  where
    by : Option Function → List Ty
    by None = []
    by (Some f) = parameters_of f

pub parameters_all : (f : CodeFunction) → length f.locals.items ≤ f.parameters → map ty_of f.locals.items ≡ parameters_of (function_of f)
parameters_all f h = by f.locals.items f.parameters h
  where
    by : (xs : List CodeTy) (n : ℕ) → length xs ≤ n → map ty_of xs ≡ take n (map ty_of xs)
    by [] zero h = refl
    by [] (suc n) h = refl
    by (x ∷ xs) zero h = absurd (omega (arith, h))
    by (x ∷ xs) (suc n) h = ap (λ ys. ty_of x ∷ ys) (by xs n (omega (arith, h)))

pub parameters_front : (f : CodeFunction) (xs : List CodeTy) → xs ≡ take f.parameters f.locals.items → map ty_of xs ≡ parameters_of (function_of f)
parameters_front f xs e = ap (map ty_of) e ∙ by f.locals.items f.parameters
  where
    by : (xs : List CodeTy) (n : ℕ) → map ty_of (take n xs) ≡ take n (map ty_of xs)
    by [] zero = refl
    by [] (suc n) = refl
    by (x ∷ xs) zero = refl
    by (x ∷ xs) (suc n) = ap (λ ys. ty_of x ∷ ys) (by xs n)

pub same_signedness : (program : Program) (locals : List Ty) (t u : Ty) → t ≡ u → signedness program locals t ≡ signedness program locals u
same_signedness program locals t u e = ap (signedness program locals) e
