-- The program of the tests is well typed.
use Rattle.std.proofs.Common.{◌≡◌, ◌≤◌, ℕ, zero, suc, pos, refl, sym, subst, List, [], ◌∷◌, map, slice_get, Some, None, false, arith}
use Rattle.rc_core.specs.declared.ty.Note.TheVariants.{SameRegion}
use Rattle.rc_core.specs.declared.ty.Signedness.TheVariants.{Signed}
use Rattle.rc_core.specs.declared.parts.Parts.{Parts}
use Rattle.rc_core.specs.Types.{int, char, struct, pointer}
use Rattle.rc_core.specs.Programs.{constant, return, Field, Struct, Function, Program}
use Rattle.rc_core.specs.Shapes.{program_of, struct_of, function_of}
use Rattle.rc_core.specs.Deletes.{IsPlaced, KeepsRegions}
use Rattle.rc_core.specs.WellTyped.{FieldFits, StructFits, StructsFit, FunctionFits, IsWellTyped}

abbrev next : Field
next = record { ty = pointer SameRegion (struct 0); count = None }

abbrev text : Field
text = record { ty = char; count = Some 15 }

abbrev all : ℕ → Field
all k = record { ty = struct k; count = Some 16 }

abbrev pub structs : List Struct
structs = (next ∷ text ∷ []) ∷ (all 0 ∷ []) ∷ (all 1 ∷ []) ∷ []

abbrev pub main : Function
main = record { parameters = 0; locals = []; result = Some int; deletes = false; line = 1; body = return 1 (Some (constant 1 Signed (pos 0))) }

abbrev program : Program
program = record { structs = structs; globals = []; strings = []; functions = main ∷ []; main = 0 }

none : {A B : Type 0} {a : A} → None ≡ Some a → B
none {A} {B} {a} h = absurd (none_some h) where
  none_some : None ≡ Some a → ⊥
  none_some h = cc

same : {A : Type 0} (a b : A) → Some a ≡ Some b → a ≡ b
same a b h = cc

at : {A : Type 0} (P : A → Type 0) (a b : A) → Some a ≡ Some b → P a → P b
at P a b h p = subst P (same a b h) p

first_fields : (k : ℕ) (f : Field) → slice_get (next ∷ text ∷ []) k ≡ Some f → FieldFits structs 0 f
first_fields zero f h = at (FieldFits structs 0) next f h (record { defined = omega arith; inside = tt; counted = tt })
first_fields (suc zero) f h = at (FieldFits structs 0) text f h (record { defined = tt; inside = tt; counted = omega arith })
first_fields (suc (suc k)) f h = none h

array_fields : (n m k : ℕ) (f : Field) → n ≤ 2 → suc m ≤ n → slice_get (all m ∷ []) k ≡ Some f → FieldFits structs n f
array_fields n m zero f l h e = at (FieldFits structs n) (all m) f e (record { defined = omega arith; inside = h; counted = omega arith })
array_fields n m (suc k) f l h e = none e

all_fit : StructsFit structs
all_fit zero fields h = at (StructFits structs 0) (next ∷ text ∷ []) fields h (record { some_field = omega arith; fields_fit = first_fields; small = omega arith })
all_fit (suc zero) fields h = at (StructFits structs 1) (all 0 ∷ []) fields h (record { some_field = omega arith; fields_fit = λ k f. array_fields 1 0 k f (omega arith) (omega arith); small = omega arith })
all_fit (suc (suc zero)) fields h = at (StructFits structs 2) (all 1 ∷ []) fields h (record { some_field = omega arith; fields_fit = λ k f. array_fields 2 1 k f (omega arith) (omega arith); small = omega arith })
all_fit (suc (suc (suc k))) fields h = none h

main_fits : FunctionFits program main
main_fits = record { parameters = omega arith; locals = λ x t h. none h; result = (tt, refl); body = (int, (refl, (refl, refl))) }

program_fits : IsWellTyped program
program_fits = record { structs = all_fit; globals = λ k g h. none h; all_globals = omega arith; number_of_strings = omega arith; strings = λ k bytes h. none h; bytes = tt; functions = functions_fit; deleting = record { placed = placed; kept = kept }; main = (main, (refl, refl, refl)) } where
  functions_fit : (k : ℕ) (f : Function) → slice_get (main ∷ []) k ≡ Some f → FunctionFits program f
  functions_fit zero f h = at (FunctionFits program) main f h main_fits
  functions_fit (suc k) f h = none h

  placed : (k : ℕ) (f : Function) → slice_get (main ∷ []) k ≡ Some f → IsPlaced program f.body
  placed zero f h = at (λ g. IsPlaced program g.body) main f h tt
  placed (suc k) f h = none h

  kept : (k : ℕ) (f : Function) → slice_get (main ∷ []) k ≡ Some f → f.deletes ≡ false → KeepsRegions program f.body
  kept zero f h q = at (λ g. KeepsRegions program g.body) main f h tt
  kept (suc k) f h q = none h

pub well_typed : (p : Parts) → map struct_of p.structs.items ≡ structs → p.globals.items ≡ [] → p.strings.items ≡ [] → map function_of p.functions.items ≡ main ∷ [] → p.main ≡ 0 → IsWellTyped (program_of p)
well_typed p s g t f m =
    let is : program_of p ≡ program = rw (s, g, t, f, m) refl in
    subst IsWellTyped (sym is) program_fits
