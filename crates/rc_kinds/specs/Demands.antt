-- What an expression, a place or a statement demands of the values that it works on: a number to calculate with, a pointer to go
-- through, a region to allocate in. Where the meaning is given another kind of value it has an ordinary answer; no part of a run
-- gives it one.
use Rattle.std.specs.Prelude.{ℕ, Bool, List, [], ◌∷◌}
use Rattle.rc_core.specs.declared.stmt.Change.{Change}
use Rattle.rc_core.specs.declared.stmt.Change.TheVariants.{Compute, Step}
use Rattle.rc_core.specs.Programs.{Expr, step, step_from, unary, binary, convert, not_zero, is_null, same, new_subregion, region_of, allocate, allocate_array, putchar, Arguments, none, more, Place, global, pointed, indexed, Path, here, field, element, Stmt, update, delete, Program}
use Rattle.rc_core.specs.Heap.{Value, Number, Null, Handle, Pointer}
use Rattle.rc_core.specs.Live.{Ways}
use Rattle.rc_core.specs.Source.{source}
use Rattle.rc_core.specs.Laws.{IfGoes}
use Rattle.rc_kinds.specs.Frames.{Frame, in_world, value_in, target_in}
use Rattle.rc_kinds.specs.Parts.{Part, Evaluating, Finding, Executing, operands, place_operands}

-- null serves as a region and as a pointer, and so as a reference
pub data Demand : Type 0 where
  a_number : Demand
  a_region : Demand
  a_pointer : Demand
  a_reference : Demand

abbrev pub Answers : Demand → Value → Type 0
Answers a_number (Number n) = Unit {0}
Answers a_number Null = ⊥
Answers a_number (Handle r) = ⊥
Answers a_number (Pointer a) = ⊥
Answers a_region (Number n) = ⊥
Answers a_region Null = Unit {0}
Answers a_region (Handle r) = Unit {0}
Answers a_region (Pointer a) = ⊥
Answers a_pointer (Number n) = ⊥
Answers a_pointer Null = Unit {0}
Answers a_pointer (Handle r) = ⊥
Answers a_pointer (Pointer a) = Unit {0}
Answers a_reference (Number n) = ⊥
Answers a_reference Null = Unit {0}
Answers a_reference (Handle r) = Unit {0}
Answers a_reference (Pointer a) = Unit {0}

-- of the operands, in their order; conditions take each value, and so does what only passes one on
abbrev pub demands : Expr → List Demand
demands (step line direction p i) = a_pointer ∷ a_number ∷ []
demands (step_from line i p) = a_number ∷ a_pointer ∷ []
demands (unary line operator s e) = a_number ∷ []
demands (binary line operator s a b) = a_number ∷ a_number ∷ []
demands (convert line from to e) = a_number ∷ []
demands (not_zero line e) = a_number ∷ []
demands (is_null line wanted e) = a_reference ∷ []
demands (same line wanted a b) = a_reference ∷ a_reference ∷ []
demands (new_subregion line r) = a_region ∷ []
demands (region_of line p) = a_pointer ∷ []
demands (allocate line r ty) = a_region ∷ []
demands (allocate_array line r n ty) = a_region ∷ a_number ∷ []
demands (putchar line e) = a_number ∷ []
demands e = []

-- an index is a number
abbrev pub path_demands : Path → List Demand
path_demands here = []
path_demands (field s f rest) = path_demands rest
path_demands (element s f i rest) = a_number ∷ path_demands rest

abbrev pub place_demands : Place → List Demand
place_demands (global g path) = path_demands path
place_demands (pointed p path) = a_pointer ∷ path_demands path
place_demands (indexed p i path) = a_pointer ∷ a_number ∷ path_demands path

-- of the value that an update changes
abbrev pub old_demand : Change → Demand
old_demand (Compute from operator s) = a_number
old_demand (Step direction) = a_pointer

module _ (program : Program) where
  -- each value, in the world that those before it leave
  abbrev pub AreAnswered : List Demand → Arguments → (live : ℕ → Bool) → Frame → Type 0
  AreAnswered [] es live at = Unit {0}
  AreAnswered (d ∷ ds) none live at = Unit {0}
  AreAnswered (d ∷ ds) (more e rest) live at = IfGoes (λ v w. Answers d v × AreAnswered ds rest live (in_world at w)) (value_in program live e at)

  -- of statements only a deletion and an update work on a value
  abbrev pub StatementIsAnswered : Stmt → Ways → Frame → Type 0
  StatementIsAnswered (delete line e) k at = IfGoes (λ v w. Answers a_region v) (value_in program k.next e at)
  StatementIsAnswered (update line place change e) k at =
      IfGoes (λ target w. IfGoes (λ v w1. Answers a_number v × IfGoes (λ old w2. Answers (old_demand change) old) (source.load line target w1)) (value_in program k.next e (in_world at w))) (target_in program k.next place at)
  StatementIsAnswered s k at = Unit {0}

  -- the values that the part works on are of the kinds that it demands
  abbrev pub IsAnswered : Part → Type 0
  IsAnswered (Evaluating live e at) = AreAnswered (demands e) (operands e) live at
  IsAnswered (Finding live place at) = AreAnswered (place_demands place) (place_operands place) live at
  IsAnswered (Executing s k at) = StatementIsAnswered s k at
  IsAnswered part = Unit {0}
