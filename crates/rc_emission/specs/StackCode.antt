-- Stack code, and what it does in any world whose operations are given (`Ops`). An instruction takes its operands from the top of a
-- stack and puts what it gives in their place. A function has locals, those of its source and behind them others that keep operands, and
-- a list of instructions, each with the line that it was made for. Jumps go forward, past so many instructions; a step back goes to a
-- place, and takes a turn of the world, as a call does. What a deletion holds are the locals whose numbers it names; a call of a function
-- that deletes holds them while it runs. Instructions carry the paths, types and layouts that they speak of; in an image those have
-- numbers. An operand that isn't there, a jump past the end and a local that isn't there give null, so that the meaning is total; the
-- loader's rules keep them from coming up.
use Rattle.std.specs.Prelude.{ℕ, zero, suc, ℤ, pos, Bool, true, false, List, [], ◌∷◌, length, get_or, Option, Some, None, slice_get}
use Rattle.rc_core.specs.declared.ty.NumberType.{NumberType}
use Rattle.rc_core.specs.declared.ty.Signedness.{Signedness}
use Rattle.rc_core.specs.declared.operators.UnaryOperator.{UnaryOperator}
use Rattle.rc_core.specs.declared.operators.Operator.{Operator}
use Rattle.rc_core.specs.declared.operators.Direction.{Direction}
use Rattle.rc_core.specs.Numbers.{byte_of}
use Rattle.rc_core.specs.Types.{Ty}
use Rattle.rc_core.specs.Layout.{Layout}
use Rattle.rc_core.specs.Arithmetic.{converted, calculate, calculate_one}
use Rattle.rc_core.specs.Heap.{Value, Number, Null}
use Rattle.rc_core.specs.Runs.{Run, Go, bind, spent, branching, computed, Chosen, Target, Calls, Ops}
use Rattle.rc_core.specs.Evaluation.{number_in, is_true, same_value, as_wanted, toward, static as static_value, region_named, local_at, give_number}
use Rattle.rc_core.specs.Execution.{with_local}
use Rattle.rc_rlang.specs.RegionCode.{Index, Access, width}
use Rattle.rc_rlang.specs.RegionRuns.{sized, kept, kept_all, pinned}

pub data Instruction : Type 0 where
  -- each of these puts a value onto the stack
  number : Signedness → ℤ → Instruction
  null : Ty → Instruction
  global : ℕ → Instruction
  get : ℕ → Instruction
  -- into a local of this type
  set : ℕ → Ty → Instruction
  -- of operands of this signedness; a shift's count is an `int`
  arithmetic : Operator → Signedness → Instruction
  unary : UnaryOperator → Signedness → Instruction
  -- 1 where a number is zero, where a region or pointer is null, where two of them are the same, and else 0
  zero_test : Instruction
  null_test : Ty → Instruction
  same : Ty → Instruction
  convert : NumberType → Instruction
  -- a pointer of this type, moved by a number
  move : Ty → Signedness → Direction → Instruction
  load : Access → Instruction
  store : Access → Instruction
  new_region : Instruction
  new_subregion : Instruction
  region_of : Ty → Instruction
  allocate : Ty → Layout → Instruction
  allocate_array : Ty → Layout → Instruction
  -- these hold the locals with these numbers
  delete : (pins : List ℕ) → Instruction
  call : (function : ℕ) → (parameters : List Ty) → (pins : List ℕ) → Instruction
  -- of a function without a result
  perform : (function : ℕ) → (parameters : List Ty) → (pins : List ℕ) → Instruction
  -- out of the function, with no value or with one of this type
  leave : (values : List Ty) → Instruction
  putchar : Instruction
  getchar : Instruction
  -- past so many; the second where the operand is zero or null
  jump : ℕ → Instruction
  jump_zero : ℕ → Instruction
  -- to the place with this number
  back : ℕ → Instruction
  pop : Instruction

-- an instruction, and the line of the source that it was made for
pub record Line : Type 0 where
  pub line : ℕ
  pub instruction : Instruction

-- so many operands are taken; what goes on gets them in the order in which they were pushed, and what stands below
abbrev pub popped : {W : Type 0} → ℕ → List Value → List Value → (List Value → List Value → Run W Value) → W → Run W Value
popped zero stack vs go w = go vs stack
popped (suc n) [] vs go w = Go Null w
popped (suc n) (v ∷ stack) vs go w = popped n stack (v ∷ vs) go w

-- the operand with a number, the first pushed being 0
abbrev pub nth_operand : List Value → ℕ → Value
nth_operand vs n = get_or vs n Null

abbrev pub chosen_values : List Index → List Value → List Chosen
chosen_values [] vs = []
chosen_values (i ∷ is) [] = []
chosen_values (i ∷ is) (v ∷ vs) = record { index = number_in v; count = i.count; stride = i.stride } ∷ chosen_values is vs

-- the cell that an access leads to, from its operands: the pointer, the shift if there is one, and the indices
abbrev pub target_of : Access → Option Signedness → List Value → Target
target_of a None [] = record { pointer = Null; shift = pos 0; offset = a.offset; chosen = [] }
target_of a None (p ∷ vs) = record { pointer = p; shift = pos 0; offset = a.offset; chosen = chosen_values a.indices vs }
target_of a (Some s) [] = record { pointer = Null; shift = pos 0; offset = a.offset; chosen = [] }
target_of a (Some s) (p ∷ []) = record { pointer = p; shift = pos 0; offset = a.offset; chosen = [] }
target_of a (Some s) (p ∷ n ∷ vs) = record { pointer = p; shift = number_in n; offset = a.offset; chosen = chosen_values a.indices vs }

abbrev pub last_of : List Value → Value
last_of [] = Null
last_of (v ∷ []) = v
last_of (v ∷ u ∷ vs) = last_of (u ∷ vs)

-- how many operands an instruction that gives a value takes
abbrev pub takes : Instruction → ℕ
takes (arithmetic operator s) = 2
takes (unary operator s) = 1
takes zero_test = 1
takes (null_test ty) = 1
takes (same ty) = 2
takes (convert to) = 1
takes (move ty s direction) = 2
takes (load a) = width a
takes new_subregion = 1
takes (region_of ty) = 1
takes (allocate ty layout) = 1
takes (allocate_array ty layout) = 2
takes putchar = 1
takes (call f tys pins) = length tys
takes i = 0

-- goes on past so many instructions, or from a place
abbrev pub Onward : Type 0 → Type 0
Onward W = ℕ → (stack locals : List Value) → W → Run W Value

-- `deleting` tells which functions delete
module _ {W : Type 0} (ops : Ops W) (deleting : ℕ → Bool) where
  -- of an instruction that gives a value, by its operands
  abbrev pub given : (line : ℕ) → Instruction → Calls W → (locals : List Value) → List Value → W → Run W Value
  given line (number s n) calls env vs w = Go (Number n) w
  given line (null ty) calls env vs w = Go Null w
  given line (global g) calls env vs w = Go (static_value g) w
  given line (get x) calls env vs w = Go (local_at env x) w
  given line (arithmetic operator s) calls env vs w = bind (computed line (calculate operator s (number_in (nth_operand vs 0)) (number_in (nth_operand vs 1))) w) give_number
  given line (unary operator s) calls env vs w = bind (computed line (calculate_one operator s (number_in (nth_operand vs 0))) w) give_number
  given line zero_test calls env vs w = Go (as_wanted false (is_true (nth_operand vs 0))) w
  given line (null_test ty) calls env vs w = Go (as_wanted false (is_true (nth_operand vs 0))) w
  given line (same ty) calls env vs w = Go (as_wanted true (same_value (nth_operand vs 0) (nth_operand vs 1))) w
  given line (convert to) calls env vs w = Go (Number (converted to (number_in (nth_operand vs 0)))) w
  given line (move ty s direction) calls env vs w = ops.step line (nth_operand vs 0) (toward direction (number_in (nth_operand vs 1))) w
  given line (load a) calls env vs w = ops.load line (target_of a a.shift vs) w
  given line new_region calls env vs w = ops.new_region line w
  given line new_subregion calls env vs w = ops.new_subregion line (nth_operand vs 0) w
  given line (region_of ty) calls env vs w = region_named line (nth_operand vs 0) w
  given line (allocate ty layout) calls env vs w = ops.allocate line (nth_operand vs 0) (pos 1) layout w
  given line (allocate_array ty layout) calls env vs w = ops.allocate line (nth_operand vs 0) (number_in (nth_operand vs 1)) layout w
  given line putchar calls env vs w = bind (ops.put_byte (byte_of (number_in (nth_operand vs 0))) w) (λ _ w1. Go (Number (pos (byte_of (number_in (nth_operand vs 0))))) w1)
  given line getchar calls env vs w = bind (ops.get_byte w) give_number
  given line (call f tys pins) calls env vs w =
      branching (deleting f)
      (λ w1. bind (calls f (kept_all tys vs) (ops.enter (pinned pins env) w1)) (λ v w2. Go v (ops.leave w1 w2)))
      (calls f (kept_all tys vs)) w
  given line i calls env vs w = Go Null w

  -- `next` goes on behind the instruction, past so many; `again` goes back to a place
  abbrev pub act : Line → Calls W → Onward W → Onward W → (stack locals : List Value) → W → Run W Value
  act i calls next again stack env w = act_of i.line i.instruction
    where
      act_of : ℕ → Instruction → Run W Value
      act_of line (set x ty) = popped 1 stack [] (λ vs rest. next 0 rest (with_local env x (kept ty (nth_operand vs 0))) w) w
      act_of line (store a) = popped (suc (width a)) stack [] (λ vs rest. bind (ops.store line (target_of a a.shift vs) (kept a.cell (last_of vs)) w) (λ _. next 0 rest env)) w
      act_of line (delete pins) = popped 1 stack [] (λ vs rest. bind (ops.delete line (pinned pins env) (nth_operand vs 0) w) (λ _. next 0 rest env)) w
      act_of line (perform f tys pins) = popped (length tys) stack [] (λ vs rest. bind (given line (call f tys pins) calls env vs w) (λ _. next 0 rest env)) w
      act_of line (leave tys) = popped (length tys) stack [] (λ vs rest. Go (nth_operand vs 0) w) w
      act_of line (jump n) = next n stack env w
      act_of line (jump_zero n) = popped 1 stack [] (λ vs rest. branching (is_true (nth_operand vs 0)) (next 0 rest env) (next n rest env) w) w
      act_of line (back to) = bind (ops.take_turn w) (λ _. again to stack env)
      act_of line pop = popped 1 stack [] (λ vs rest. next 0 rest env w) w
      act_of line i = popped (takes i) stack [] (λ vs rest. bind (given line i calls env vs w) (λ v. next 0 (v ∷ rest) env)) w

  -- instructions one after another, the first ones skipped
  abbrev pub walk : List Line → Calls W → Onward W → Onward W
  walk [] calls again n stack env w = Go Null w
  walk (i ∷ is) calls again (suc n) stack env w = walk is calls again n stack env w
  walk (i ∷ is) calls again zero stack env w = act i calls (walk is calls again) again stack env w

-- a function: the types of its locals, the parameters first, and its code
pub record StackFunction : Type 0 where
  pub locals : List Ty
  pub code : List Line

module _ {W : Type 0} (ops : Ops W) (deleting : ℕ → Bool) where
  -- from a place on, with fewer than so many steps back
  abbrev pub run_code : List Line → Calls W → ℕ → Onward W
  run_code code calls zero to stack env w = spent w
  run_code code calls (suc n) to stack env w = walk ops deleting code calls (run_code code calls n) to stack env w

  abbrev pub run_function : Calls W → Option StackFunction → List Value → W → Run W Value
  run_function calls None arguments w = Go Null w
  run_function calls (Some f) arguments w = run_code f.code calls (suc (ops.turns_left w)) 0 [] (sized f.locals arguments) w

  -- fewer than so many calls stand inside one another
  abbrev pub stack_calls : List StackFunction → ℕ → Calls W
  stack_calls fs zero f arguments w = spent w
  stack_calls fs (suc n) f arguments w = bind (ops.take_turn w) (λ _ w1. run_function (stack_calls fs n) (slice_get fs f) arguments w1)

  -- a program's run, from its main function on
  abbrev pub stack_main : List StackFunction → ℕ → W → Run W Value
  stack_main fs main w = stack_calls fs (suc (ops.turns_left w)) main [] w
