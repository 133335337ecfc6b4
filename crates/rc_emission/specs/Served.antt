-- What emission asks of region code and of the locals that keep operands. Temporaries stand in order; each local that is read is there;
-- and for each operand that has to be kept there is a local (`Has`). `types` are the locals of the source.
use Rattle.std.specs.Prelude.{◌≡◌, ◌<◌, ℕ, suc, ◌+◌, List, [], ◌∷◌, length}
use Rattle.rc_core.specs.Types.{Ty}
use Rattle.rc_rlang.specs.RegionCode as From
use Rattle.rc_rlang.specs.RegionCode.{Operation, Step, Steps, set, fork, none, more, Act, Code, simple, clear, block, branch, loop, repeat, break, continue, Codes, done, then}
use Rattle.rc_rlang.specs.RegionFits.{pushed, step_types, steps_types, operands, ActFits, test_types}

-- what an operation asks for besides: its local is there
abbrev pub OperationServed : (types : List Ty) → (result : Ty) → Operation → Type 0
OperationServed types ty (From.copy x) = x < length types
OperationServed types ty op = Unit {0}

-- `Has h ty`: there is a local for an operand of the type at the height. `types` are the source's locals'.
module _ (Has : ℕ → Ty → Type 0) (types : List Ty) where
  -- for each operand on a stack whose lowest height is `base`
  abbrev pub AllKept : (base : ℕ) → List Ty → Type 0
  AllKept base [] = Unit {0}
  AllKept base (ty ∷ tys) = Has (base + length tys) ty × AllKept base tys

  abbrev pub OperationKeeps : (h : ℕ) → Operation → Type 0
  OperationKeeps h (From.step_from n pointed) = Has h n × Has (suc h) pointed
  OperationKeeps h op = Unit {0}

  -- each temporary is written at the height where it is next read, and read once
  abbrev mutual
    pub StepServed : Step → (base : ℕ) → List Ty → Type 0
    StepServed (set line h ty op) base tys = (below : List Ty) × (tys ≡ pushed (operands ty op) below) × (h ≡ base + length below) × OperationServed types ty op × OperationKeeps h op
    StepServed (fork line h test result a b) base [] = ⊥
    StepServed (fork line h test result a b) base (ty ∷ below) =
        (ty ≡ test) × (h ≡ base + length below) × StepsServed a h [] × (steps_types a [] ≡ result ∷ []) × StepsServed b h [] × (steps_types b [] ≡ result ∷ []) × AllKept base (ty ∷ below) × Has h result

    pub StepsServed : Steps → (base : ℕ) → List Ty → Type 0
    StepsServed none base tys = Unit {0}
    StepsServed (more s rest) base tys = StepServed s base tys × StepsServed rest base (step_types s tys)

  abbrev pub ActKeeps : Act → List Ty → Type 0
  ActKeeps (From.update line a change ty) tys = AllKept 0 tys
  ActKeeps (From.move line cells left right) tys = AllKept 0 tys
  ActKeeps act tys = Unit {0}

  abbrev mutual
    pub CodeServed : Code → Type 0
    CodeServed (simple steps act) = StepsServed steps 0 [] × ActFits act (steps_types steps []) × ActKeeps act (steps_types steps [])
    CodeServed (clear line x ty) = Unit {0}
    CodeServed (block codes) = CodesServed codes
    CodeServed (branch steps test a b) = StepsServed steps 0 [] × (steps_types steps [] ≡ test.ty ∷ []) × CodeServed a × CodeServed b
    CodeServed (loop line steps test third a) = StepsServed steps 0 [] × (steps_types steps [] ≡ test_types test) × CodeServed third × CodeServed a
    CodeServed (repeat line a steps test) = CodeServed a × StepsServed steps 0 [] × (steps_types steps [] ≡ test.ty ∷ [])
    CodeServed (break line) = Unit {0}
    CodeServed (continue line) = Unit {0}

    pub CodesServed : Codes → Type 0
    CodesServed done = Unit {0}
    CodesServed (then c rest) = CodeServed c × CodesServed rest

-- each local that region code reads is there
abbrev mutual
  pub StepNames : (types : List Ty) → Step → Type 0
  StepNames types (set line h ty op) = OperationServed types ty op
  StepNames types (fork line h test result a b) = StepsName types a × StepsName types b

  pub StepsName : (types : List Ty) → Steps → Type 0
  StepsName types none = Unit {0}
  StepsName types (more s rest) = StepNames types s × StepsName types rest

abbrev mutual
  pub CodeNames : (types : List Ty) → Code → Type 0
  CodeNames types (simple steps act) = StepsName types steps
  CodeNames types (clear line x ty) = Unit {0}
  CodeNames types (block codes) = CodesName types codes
  CodeNames types (branch steps test a b) = StepsName types steps × CodeNames types a × CodeNames types b
  CodeNames types (loop line steps test third a) = StepsName types steps × CodeNames types third × CodeNames types a
  CodeNames types (repeat line a steps test) = CodeNames types a × StepsName types steps
  CodeNames types (break line) = Unit {0}
  CodeNames types (continue line) = Unit {0}

  pub CodesName : (types : List Ty) → Codes → Type 0
  CodesName types done = Unit {0}
  CodesName types (then c rest) = CodeNames types c × CodesName types rest
