-- The discipline of temporaries. A temporary's number is its height: how many operands stand below it. The types of the operands that
-- stand are a list, the topmost first. A step takes its operands from the top, of the types that it names, and puts its result in
-- their place; it is written at just that height. So each temporary is read once, where it was written, and what stands below stays.
-- A fork takes its test; each of its ways begins with nothing of its own, and leaves one operand of the same type there. A statement
-- begins with nothing, and its act takes all that stands. So a machine with a stack of operands may run region code as it stands: a
-- temporary is the operand at its height.
use Rattle.std.specs.Prelude.{◌≡◌, ℕ, zero, suc, ◌+◌, List, [], ◌∷◌, ◌++◌, length, map, Option, Some, None}
use Rattle.rc_core.specs.declared.ty.Note.TheVariants.{Plain}
use Rattle.rc_core.specs.declared.ty.Signedness.{Signedness}
use Rattle.rc_core.specs.Types.{Ty, int, region, pointer}
use Rattle.rc_core.specs.Typing.{arithmetic, number, value_type}
use Rattle.rc_rlang.specs.RegionCode.{Index, Access, Operation, load, step, step_from, unary, binary, convert, not_zero, truth, is_null, same, call, new_subregion, region_of, allocate, allocate_array, putchar, Step, set, fork, Steps, none, more, Act, drop, perform, assign, store, update, move, delete, leave, Test, Code, simple, clear, block, branch, loop, repeat, break, continue, Codes, done, then}

-- the operands of an operation, the lowest first
abbrev pub index_types : List Index → List Ty
index_types [] = []
index_types (i ∷ is) = arithmetic i.kind ∷ index_types is

abbrev pub shift_types : Option Signedness → List Ty
shift_types None = []
shift_types (Some s) = arithmetic s ∷ []

abbrev pub place_types : Access → List Ty
place_types a = pointer Plain a.element ∷ (shift_types a.shift ++ index_types a.indices)

abbrev pub operands : (result : Ty) → Operation → List Ty
operands ty (load a) = place_types a
operands ty (step direction pointed n) = pointed ∷ n ∷ []
operands ty (unary operator s) = arithmetic s ∷ []
operands ty (binary operator s right) = arithmetic s ∷ right ∷ []
operands ty (convert from to) = number from ∷ []
operands ty (not_zero of) = of ∷ []
operands ty (step_from n pointed) = n ∷ pointed ∷ []
operands ty (truth of) = of ∷ []
operands ty (is_null wanted of) = of ∷ []
operands ty (same wanted of) = of ∷ of ∷ []
operands ty (call f tys) = map value_type tys
operands ty new_subregion = region ∷ []
operands ty (region_of of) = of ∷ []
operands ty (allocate made layout) = region ∷ []
operands ty (allocate_array made layout) = region ∷ int ∷ []
operands ty putchar = int ∷ []
operands ty op = []

-- the first goes on first, so the last comes to stand on top
abbrev pub pushed : {A : Type 0} → List A → List A → List A
pushed [] below = below
pushed (x ∷ xs) below = pushed xs (x ∷ below)

abbrev pub dropped : ℕ → List Ty → List Ty
dropped zero tys = tys
dropped (suc n) [] = []
dropped (suc n) (ty ∷ tys) = dropped n tys

abbrev pub step_types : Step → List Ty → List Ty
step_types (set line h ty op) tys = ty ∷ dropped (length (operands ty op)) tys
step_types (fork line h test result a b) [] = []
step_types (fork line h test result a b) (ty ∷ below) = result ∷ below

abbrev pub steps_types : Steps → List Ty → List Ty
steps_types none tys = tys
steps_types (more s rest) tys = steps_types rest (step_types s tys)

-- each temporary is written at the height where it is next read, and read once
abbrev mutual
  pub StepFits : Step → (base : ℕ) → List Ty → Type 0
  StepFits (set line h ty op) base tys = (below : List Ty) × (tys ≡ pushed (operands ty op) below) × (h ≡ base + length below)
  StepFits (fork line h test result a b) base [] = ⊥
  StepFits (fork line h test result a b) base (ty ∷ below) = (ty ≡ test) × (h ≡ base + length below) × StepsFit a h [] × (steps_types a [] ≡ result ∷ []) × StepsFit b h [] × (steps_types b [] ≡ result ∷ [])

  pub StepsFit : Steps → (base : ℕ) → List Ty → Type 0
  StepsFit none base tys = Unit {0}
  StepsFit (more s rest) base tys = StepFits s base tys × StepsFit rest base (step_types s tys)

-- the types of what an act takes
abbrev pub act_types : Act → List Ty
act_types (perform line f tys) = map value_type tys
act_types (assign line x ty) = value_type ty ∷ []
act_types (store line a) = place_types a ++ value_type a.cell ∷ []
act_types (update line a change ty) = place_types a ++ ty ∷ []
act_types (move line cells left right) = place_types left ++ place_types right
act_types (delete line) = region ∷ []
act_types (leave line None) = []
act_types (leave line (Some ty)) = ty ∷ []
act_types drop = []

-- what is let go is one value, of any type; every other act takes just its own
abbrev pub ActFits : Act → List Ty → Type 0
ActFits drop tys = (ty : Ty) × (tys ≡ ty ∷ [])
ActFits act tys = tys ≡ pushed (act_types act) []

abbrev pub test_types : Option Test → List Ty
test_types None = []
test_types (Some test) = test.ty ∷ []

abbrev mutual
  pub CodeFits : Code → Type 0
  CodeFits (simple steps act) = StepsFit steps 0 [] × ActFits act (steps_types steps [])
  CodeFits (clear line x ty) = Unit {0}
  CodeFits (block codes) = CodesFit codes
  CodeFits (branch steps test a b) = StepsFit steps 0 [] × (steps_types steps [] ≡ test.ty ∷ []) × CodeFits a × CodeFits b
  CodeFits (loop line steps test third a) = StepsFit steps 0 [] × (steps_types steps [] ≡ test_types test) × CodeFits third × CodeFits a
  CodeFits (repeat line a steps test) = CodeFits a × StepsFit steps 0 [] × (steps_types steps [] ≡ test.ty ∷ [])
  CodeFits (break line) = Unit {0}
  CodeFits (continue line) = Unit {0}

  pub CodesFit : Codes → Type 0
  CodesFit done = Unit {0}
  CodesFit (then c rest) = CodeFits c × CodesFit rest
