-- An image is one thing where it is so without marks, and has the same marks.
use Rattle.std.proofs.Common.{◌≡◌, ◌<◌, ◌∙◌, ◌↔◌, ℕ, zero, suc, Bool, true, false, List, [], ◌∷◌, map, length, get_or, refl, sym, ap}
use Rattle.std.proofs.lemmas.List.{ext_get_or}
use Rattle.rc_code.specs.declared.opcode.Simple.TheVariants as simple
use Rattle.rc_code.specs.declared.instruction.Instruction.{Instruction}
use Rattle.rc_code.specs.declared.instruction.Instruction.TheVariants as instruction
use Rattle.rc_code.specs.declared.image.Function.{Function}
use Rattle.rc_code.specs.declared.image.Parts.{Parts}
use Rattle.rc_code.specs.Running.{reading_of, function_at, no_function}
use Rattle.rc_code.specs.Soundness.{instruction_at}
use Rattle.rc_loader.specs.Unmarked.{unmarked, unmarked_function, unmarked_instruction}

-- ---- instructions

mark_of : Instruction → Bool
mark_of (instruction.Store path proved) = proved
mark_of i = false

marked_as : Bool → Instruction → Instruction
marked_as mark (instruction.Store path proved) = instruction.Store path mark
marked_as mark i = i

again : (i : Instruction) → marked_as (mark_of i) (unmarked_instruction i) ≡ i
unfolding mark_of marked_as
again (instruction.Store path proved) = refl
again i = refl

a_store : (i : Instruction) → mark_of i ≡ true → (path : ℕ) × (i ≡ instruction.Store path true)
unfolding mark_of
a_store (instruction.Store path true) e = (path, refl)
a_store (instruction.Store path false) e = absurd cc
a_store i e = absurd cc

was_store : (j : Instruction) (path : ℕ) → unmarked_instruction j ≡ instruction.Store path false → (mark : Bool) × (j ≡ instruction.Store path mark)
was_store (instruction.Store p mark) path e = (mark, (let same : p ≡ path = cc in ap (λ q. instruction.Store q mark) same))
was_store (instruction.Constant kind value) path e = absurd cc
was_store (instruction.Global global) path e = absurd cc
was_store (instruction.Get local) path e = absurd cc
was_store (instruction.Set local) path e = absurd cc
was_store (instruction.Load p) path e = absurd cc
was_store (instruction.Typed typed type) path e = absurd cc
was_store (instruction.Arithmetic arithmetic kind) path e = absurd cc
was_store (instruction.Move type kind direction) path e = absurd cc
was_store (instruction.Simple simple) path e = absurd cc
was_store (instruction.Delete pins) path e = absurd cc
was_store (instruction.Call g pins) path e = absurd cc
was_store (instruction.Jump jump to) path e = absurd cc

-- a store has a mark exactly where something holds of its path
abbrev pub MarkedWhere : (Holds : ℕ → Type 0) → Instruction → Type 0
MarkedWhere Holds i = (path : ℕ) (mark : Bool) → i ≡ instruction.Store path mark → (mark ≡ true) ↔ Holds path

module _ (Holds : ℕ → Type 0) where
  marked_too : (i j : Instruction) → unmarked_instruction i ≡ unmarked_instruction j → MarkedWhere Holds i → MarkedWhere Holds j → mark_of i ≡ true → mark_of j ≡ true
  unfolding mark_of
  marked_too i j e a b marked =
      let store = a_store i marked in
      let other = was_store j store.0 (sym e ∙ ap unmarked_instruction store.1) in
      ap mark_of other.1 ∙ (b store.0 other.0 other.1).1 ((a store.0 true store.1).0 refl)

  same_mark : (x y : Bool) → (x ≡ true → y ≡ true) → (y ≡ true → x ≡ true) → x ≡ y
  same_mark true y to from = sym (to refl)
  same_mark false true to from = from refl
  same_mark false false to from = refl

  pub same_instruction : (i j : Instruction) → unmarked_instruction i ≡ unmarked_instruction j → MarkedWhere Holds i → MarkedWhere Holds j → i ≡ j
  same_instruction i j e a b =
      let same = same_mark (mark_of i) (mark_of j) (marked_too i j e a b) (marked_too j i (sym e) b a) in
      sym (again i) ∙ ap (marked_as (mark_of i)) e ∙ ap (λ mark. marked_as mark (unmarked_instruction j)) same ∙ again j

-- ---- functions

mapped_at : {A B : Type 0} (change : A → B) (xs : List A) (n : ℕ) (d : A) → get_or (map change xs) n (change d) ≡ change (get_or xs n d)
mapped_at change [] zero d = refl
mapped_at change [] (suc n) d = refl
mapped_at change (x ∷ xs) zero d = refl
mapped_at change (x ∷ xs) (suc n) d = mapped_at change xs n d

map_long : {A B : Type 0} (change : A → B) (xs : List A) → length (map change xs) ≡ length xs
map_long change [] = refl
map_long change (x ∷ xs) = ap suc (map_long change xs)

same_long : {A B : Type 0} (change : A → B) (xs ys : List A) → map change xs ≡ map change ys → length xs ≡ length ys
same_long change xs ys e = sym (map_long change xs) ∙ ap length e ∙ map_long change ys

same_changed : {A B : Type 0} (change : A → B) (xs ys : List A) (n : ℕ) (d : A) → map change xs ≡ map change ys → change (get_or xs n d) ≡ change (get_or ys n d)
same_changed change xs ys n d e = sym (mapped_at change xs n d) ∙ ap (λ zs. get_or zs n (change d)) e ∙ mapped_at change ys n d

with_code : List Instruction → Function → Function
with_code code f = record f { code = code }

whole_function : (f : Function) → with_code f.code (unmarked_function f) ≡ f
unfolding with_code
whole_function f = refl

same_code : (f h : Function) → unmarked_function f ≡ unmarked_function h → ((at : ℕ) → at < length f.code → (Holds : ℕ → Type 0) × MarkedWhere Holds (instruction_at f at) × MarkedWhere Holds (instruction_at h at)) → f.code ≡ h.code
same_code f h e marks =
    let codes : map unmarked_instruction f.code ≡ map unmarked_instruction h.code = ap (λ (k : Function). k.code) e in
    ext_get_or (instruction.Simple simple.Return) f.code h.code (same_long unmarked_instruction f.code h.code codes) (λ at l.
    let m = marks at l in
    same_instruction m.0 (instruction_at f at) (instruction_at h at) (same_changed unmarked_instruction f.code h.code at (instruction.Simple simple.Return) codes) m.1 m.2)

same_function : (f h : Function) → unmarked_function f ≡ unmarked_function h → f.code ≡ h.code → f ≡ h
same_function f h e codes = sym (whole_function f) ∙ ap (with_code f.code) e ∙ ap (λ code. with_code code (unmarked_function h)) codes ∙ whole_function h

-- ---- images

with_functions : List Function → Parts → Parts
with_functions functions parts = record parts { functions = functions }

whole_image : (parts : Parts) → with_functions parts.functions (unmarked parts) ≡ parts
unfolding with_functions
whole_image parts = refl

pub same_image : (a b : Parts) → unmarked a ≡ unmarked b
    → ((g at : ℕ) → g < length a.functions → at < length (function_at (reading_of a) g).code
    → (Holds : ℕ → Type 0) × MarkedWhere Holds (instruction_at (function_at (reading_of a) g) at) × MarkedWhere Holds (instruction_at (function_at (reading_of b) g) at))
    → a ≡ b
same_image a b e marks = sym (whole_image a) ∙ ap (with_functions a.functions) e ∙ ap (λ functions. with_functions functions (unmarked b)) same ∙ whole_image b
  where
    functions : map unmarked_function a.functions ≡ map unmarked_function b.functions
    functions = ap (λ (parts : Parts). parts.functions) e

    same : a.functions ≡ b.functions
    same = ext_get_or no_function a.functions b.functions (same_long unmarked_function a.functions b.functions functions) (λ g l.
        let bare = same_changed unmarked_function a.functions b.functions g no_function functions in
        same_function (function_at (reading_of a) g) (function_at (reading_of b) g) bare (same_code (function_at (reading_of a) g) (function_at (reading_of b) g) bare (λ at there. marks g at l there)))
