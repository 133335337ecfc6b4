-- The parts of a run: each expression, place and statement that a run of a program comes to, with the locals and the world
-- where it does. It follows the equations of evaluation and execution: operands from left to right, each in the world that
-- the one before it leaves; a right side, a branch, a body, a next round or a next statement only where what stands before
-- it leads there; a function's body behind the turn of its call.
use Rattle.std.specs.Prelude.{◌≡◌, ℕ, suc, Bool, true, false, List, [], slice_get, Option, Some, None, ◌⊎◌}
use Rattle.rc_base.specs.declared.ends.Limits.{Limits}
use Rattle.rc_core.specs.Types.{Ty}
use Rattle.rc_core.specs.Programs.{Expr, constant, null, string, local, read, address, step, step_from, unary, binary, convert, not_zero, and, or, choose, is_null, same, call, new_region, new_subregion, region_of, allocate, allocate_array, putchar, getchar, Arguments, none, more, Place, global, pointed, indexed, Path, here, field, element, Stmt, block, declare, assign, store, update, copy, evaluate, delete, branch, while, repeat, for, return, Stmts, then, Function, Program}
use Rattle.rc_core.specs.Heap.{Value}
use Rattle.rc_core.specs.Live.{Ways, before, before_all, then_live, unless_set, either, while_body, repeat_body, repeat_head, for_head, for_third, for_body, at_end}
use Rattle.rc_core.specs.Runs.{Go, Target}
use Rattle.rc_core.specs.Source.{World, source}
use Rattle.rc_core.specs.Evaluation.{is_true}
use Rattle.rc_core.specs.Execution.{Flow, Next, Broke, Continued, Returned, held, first_locals, deletes}
use Rattle.rc_core.specs.Typing.{parameters_of, HasType, IsPlace, Runs, IsTyped, AreTyped}
use Rattle.rc_core.specs.Meaning.{first_world}
use Rattle.rc_kinds.specs.Suits.{Known}
use Rattle.rc_kinds.specs.Frames.{Frame, in_world, with_locals, value_in, values_in, target_in, flow_in, test_in, IsSuited}

-- what a run comes to
pub data Part : Type 0 where
  -- an expression, expressions one after another, or a place, while these locals are live behind it
  Evaluating : (live : ℕ → Bool) → Expr → Frame → Part
  EvaluatingAll : (live : ℕ → Bool) → Arguments → Frame → Part
  Finding : (live : ℕ → Bool) → Place → Frame → Part
  -- a statement, or statements one after another, with what is live behind it
  Executing : Stmt → Ways → Frame → Part
  ExecutingAll : Stmts → Ways → Frame → Part
  -- a loop where a round begins: before the condition, or before the body of a `do`; and where it goes on behind the body
  Looping : Stmt → Ways → Frame → Part
  BehindBody : Stmt → Ways → Frame → Part
  -- a call of a function, by its number
  Calling : (depth function : ℕ) → (arguments : List Value) → World → Part

-- the expressions in brackets of a path, from left to right
abbrev pub indices : Path → Arguments
indices here = none
indices (field s f rest) = indices rest
indices (element s f i rest) = more i (indices rest)

-- what a place evaluates, in this order
abbrev pub place_operands : Place → Arguments
place_operands (global g path) = indices path
place_operands (pointed p path) = more p (indices path)
place_operands (indexed p i path) = more p (more i (indices path))

-- what an expression evaluates in every case, in this order; a `read` has its operands in its place
abbrev pub operands : Expr → Arguments
operands (constant line s n) = none
operands (null line) = none
operands (string line k) = none
operands (local line x) = none
operands (read line place) = none
operands (address line g) = none
operands (step line direction p i) = more p (more i none)
operands (step_from line i p) = more i (more p none)
operands (unary line operator s e) = more e none
operands (binary line operator s a b) = more a (more b none)
operands (convert line from to e) = more e none
operands (not_zero line e) = more e none
operands (and line a b) = more a none
operands (or line a b) = more a none
operands (choose line test a b) = more test none
operands (is_null line wanted e) = more e none
operands (same line wanted a b) = more a (more b none)
operands (call line f arguments) = arguments
operands (new_region line) = none
operands (new_subregion line r) = more r none
operands (region_of line p) = more p none
operands (allocate line r ty) = more r none
operands (allocate_array line r n ty) = more r (more n none)
operands (putchar line e) = more e none
operands (getchar line) = none

-- an expression with the locals that are live behind it
pub record Evaluated : Type 0 where
  pub live : ℕ → Bool
  pub expression : Expr

-- the expression that a statement begins with: that of a value, a region or a condition
abbrev pub first_expression : Stmt → Ways → Option Evaluated
first_expression (declare line x (Some e)) k = Some (record { live = λ y. unless_set x y (k.next y); expression = e })
first_expression (assign line x e) k = Some (record { live = λ y. unless_set x y (k.next y); expression = e })
first_expression (evaluate line e) k = Some (record { live = k.next; expression = e })
first_expression (delete line e) k = Some (record { live = k.next; expression = e })
first_expression (branch line test a b) k = Some (record { live = either (before a k) (before b k); expression = test })
first_expression (return line (Some e)) k = Some (record { live = λ _. false; expression = e })
first_expression s k = None

-- the place that a statement begins with
abbrev pub first_place : Stmt → Option Place
first_place (store line place e) = Some place
first_place (update line place change e) = Some place
first_place (copy line s left right) = Some left
first_place s = None

-- what is evaluated behind a statement's place
abbrev pub then_expression : Stmt → Option Expr
then_expression (store line place e) = Some e
then_expression (update line place change e) = Some e
then_expression s = None

-- the first where the test holds, else the second
abbrev pub one_of : {A : Type 0} → (test : Bool) → (if_true if_false : A) → A
one_of true a b = a
one_of false a b = b

-- the locals where a loop goes on behind its body
abbrev pub round_again : Flow → Option (List Value)
round_again (Next locals) = Some locals
round_again (Continued locals) = Some locals
round_again (Broke locals) = None
round_again (Returned v) = None

-- where the function deletes, the live locals wait
abbrev pub entered : Program → (function : ℕ) → (live : ℕ → Bool) → List Value → World → World
entered program f live locals w = one_of (deletes program f) (source.enter (held live locals) w) w

-- what is live behind a loop's condition
abbrev pub while_live : Expr → Stmt → Ways → ℕ → Bool
while_live test body k = either k.next (before body (while_body test body k))

abbrev pub repeat_live : Stmt → Expr → Ways → ℕ → Bool
repeat_live body test k = either k.next (repeat_head body test k)

abbrev pub for_live : Option Expr → (third body : Stmt) → Ways → ℕ → Bool
for_live test third body k = either k.next (before body (for_body test third body k))

module _ (program : Program) (input : List ℕ) (limits : Limits) where
  -- the program's run on this input and under these limits comes to the part
  pub data Comes : Part → Type 0 where
    -- calls: of `main`, and inside one another
    at_main : Comes (Calling (suc limits.turns) program.main [] (first_world program input limits))
    at_body : (n k : ℕ) (f : Function) (arguments : List Value) (w w1 : World) → Comes (Calling (suc n) k arguments w) → slice_get program.functions k ≡ Some f → source.take_turn w ≡ Go tt w1
        → Comes (Executing f.body at_end (record { depth = n; function = f; locals = first_locals f arguments; world = w1 }))
    at_call : (live : ℕ → Bool) (line k : ℕ) (arguments : Arguments) (at : Frame) (values : List Value) (w : World) → Comes (Evaluating live (call line k arguments) at) → values_in program live arguments at ≡ Go values w
        → Comes (Calling at.depth k values (entered program k live at.locals w))
    -- expressions
    at_operands : (live : ℕ → Bool) (e : Expr) (at : Frame) → Comes (Evaluating live e at) → Comes (EvaluatingAll live (operands e) at)
    at_first_operand : (live : ℕ → Bool) (e : Expr) (rest : Arguments) (at : Frame) → Comes (EvaluatingAll live (more e rest) at) → Comes (Evaluating live e at)
    at_next_operands : (live : ℕ → Bool) (e : Expr) (rest : Arguments) (at : Frame) (v : Value) (w : World) → Comes (EvaluatingAll live (more e rest) at) → value_in program live e at ≡ Go v w → Comes (EvaluatingAll live rest (in_world at w))
    at_right_of_and : (live : ℕ → Bool) (line : ℕ) (a b : Expr) (at : Frame) (v : Value) (w : World) → Comes (Evaluating live (and line a b) at) → value_in program live a at ≡ Go v w → is_true v ≡ true → Comes (Evaluating live b (in_world at w))
    at_right_of_or : (live : ℕ → Bool) (line : ℕ) (a b : Expr) (at : Frame) (v : Value) (w : World) → Comes (Evaluating live (or line a b) at) → value_in program live a at ≡ Go v w → is_true v ≡ false → Comes (Evaluating live b (in_world at w))
    at_chosen : (live : ℕ → Bool) (line : ℕ) (test a b : Expr) (at : Frame) (v : Value) (w : World) → Comes (Evaluating live (choose line test a b) at) → value_in program live test at ≡ Go v w
        → Comes (Evaluating live (one_of (is_true v) a b) (in_world at w))
    -- places
    at_read_place : (live : ℕ → Bool) (line : ℕ) (place : Place) (at : Frame) → Comes (Evaluating live (read line place) at) → Comes (Finding live place at)
    at_place_operands : (live : ℕ → Bool) (place : Place) (at : Frame) → Comes (Finding live place at) → Comes (EvaluatingAll live (place_operands place) at)
    -- statements
    at_block : (body : Stmts) (k : Ways) (at : Frame) → Comes (Executing (block body) k at) → Comes (ExecutingAll body k at)
    at_first_statement : (s : Stmt) (rest : Stmts) (k : Ways) (at : Frame) → Comes (ExecutingAll (then s rest) k at) → Comes (Executing s (then_live (before_all rest k) k) at)
    at_next_statements : (s : Stmt) (rest : Stmts) (k : Ways) (at : Frame) (locals : List Value) (w : World) → Comes (ExecutingAll (then s rest) k at) → flow_in program s (then_live (before_all rest k) k) at ≡ Go (Next locals) w
        → Comes (ExecutingAll rest k (with_locals at locals w))
    at_expression : (s : Stmt) (k : Ways) (at : Frame) (x : Evaluated) → Comes (Executing s k at) → first_expression s k ≡ Some x → Comes (Evaluating x.live x.expression at)
    at_place : (s : Stmt) (k : Ways) (at : Frame) (place : Place) → Comes (Executing s k at) → first_place s ≡ Some place → Comes (Finding k.next place at)
    at_stored_value : (s : Stmt) (k : Ways) (at : Frame) (place : Place) (e : Expr) (target : Target) (w : World) → Comes (Executing s k at) → first_place s ≡ Some place → then_expression s ≡ Some e → target_in program k.next place at ≡ Go target w
        → Comes (Evaluating k.next e (in_world at w))
    at_copied_place : (line s : ℕ) (left right : Place) (k : Ways) (at : Frame) (target : Target) (w : World) → Comes (Executing (copy line s left right) k at) → target_in program k.next left at ≡ Go target w
        → Comes (Finding k.next right (in_world at w))
    at_branch : (line : ℕ) (test : Expr) (a b : Stmt) (k : Ways) (at : Frame) (v : Value) (w : World) → Comes (Executing (branch line test a b) k at) → value_in program (either (before a k) (before b k)) test at ≡ Go v w
        → Comes (Executing (one_of (is_true v) a b) k (in_world at w))
    -- a `while`: the condition and then the body; a turn and then the next round
    at_while : (line : ℕ) (test : Expr) (body : Stmt) (k : Ways) (at : Frame) → Comes (Executing (while line test body) k at) → Comes (Looping (while line test body) k at)
    at_while_test : (line : ℕ) (test : Expr) (body : Stmt) (k : Ways) (at : Frame) → Comes (Looping (while line test body) k at) → Comes (Evaluating (while_live test body k) test at)
    at_while_body : (line : ℕ) (test : Expr) (body : Stmt) (k : Ways) (at : Frame) (v : Value) (w : World) → Comes (Looping (while line test body) k at) → value_in program (while_live test body k) test at ≡ Go v w → is_true v ≡ true
        → Comes (Executing body (while_body test body k) (in_world at w))
    behind_while_body : (line : ℕ) (test : Expr) (body : Stmt) (k : Ways) (at : Frame) (v : Value) (w : World) (flow : Flow) (w1 : World) (locals : List Value) → Comes (Looping (while line test body) k at) → value_in program (while_live test body k) test at ≡ Go v w → is_true v ≡ true
        → flow_in program body (while_body test body k) (in_world at w) ≡ Go flow w1 → round_again flow ≡ Some locals → Comes (BehindBody (while line test body) k (with_locals at locals w1))
    at_while_again : (line : ℕ) (test : Expr) (body : Stmt) (k : Ways) (at : Frame) (w : World) → Comes (BehindBody (while line test body) k at) → source.take_turn at.world ≡ Go tt w → Comes (Looping (while line test body) k (in_world at w))
    -- a `do`: the body and then the condition; a turn and then the next round
    at_repeat : (line : ℕ) (body : Stmt) (test : Expr) (k : Ways) (at : Frame) → Comes (Executing (repeat line body test) k at) → Comes (Looping (repeat line body test) k at)
    at_repeat_body : (line : ℕ) (body : Stmt) (test : Expr) (k : Ways) (at : Frame) → Comes (Looping (repeat line body test) k at) → Comes (Executing body (repeat_body body test k) at)
    behind_repeat_body : (line : ℕ) (body : Stmt) (test : Expr) (k : Ways) (at : Frame) (flow : Flow) (w : World) (locals : List Value) → Comes (Looping (repeat line body test) k at) → flow_in program body (repeat_body body test k) at ≡ Go flow w → round_again flow ≡ Some locals
        → Comes (BehindBody (repeat line body test) k (with_locals at locals w))
    at_repeat_test : (line : ℕ) (body : Stmt) (test : Expr) (k : Ways) (at : Frame) → Comes (BehindBody (repeat line body test) k at) → Comes (Evaluating (repeat_live body test k) test at)
    at_repeat_again : (line : ℕ) (body : Stmt) (test : Expr) (k : Ways) (at : Frame) (v : Value) (w w1 : World) → Comes (BehindBody (repeat line body test) k at) → value_in program (repeat_live body test k) test at ≡ Go v w → is_true v ≡ true → source.take_turn w ≡ Go tt w1
        → Comes (Looping (repeat line body test) k (in_world at w1))
    -- a `for`: the first part; the condition and then the body; the third part and a turn, and then the next round
    at_for_first : (line : ℕ) (first : Stmt) (test : Option Expr) (third body : Stmt) (k : Ways) (at : Frame) → Comes (Executing (for line first test third body) k at) → Comes (Executing first (then_live (for_head test third body k) k) at)
    at_for : (line : ℕ) (first : Stmt) (test : Option Expr) (third body : Stmt) (k : Ways) (at : Frame) (locals : List Value) (w : World) → Comes (Executing (for line first test third body) k at) → flow_in program first (then_live (for_head test third body k) k) at ≡ Go (Next locals) w
        → Comes (Looping (for line first test third body) k (with_locals at locals w))
    at_for_test : (line : ℕ) (first : Stmt) (test : Expr) (third body : Stmt) (k : Ways) (at : Frame) → Comes (Looping (for line first (Some test) third body) k at) → Comes (Evaluating (for_live (Some test) third body k) test at)
    at_for_body : (line : ℕ) (first : Stmt) (test : Option Expr) (third body : Stmt) (k : Ways) (at : Frame) (v : Value) (w : World) → Comes (Looping (for line first test third body) k at) → test_in program (for_live test third body k) test at ≡ Go v w → is_true v ≡ true
        → Comes (Executing body (for_body test third body k) (in_world at w))
    behind_for_body : (line : ℕ) (first : Stmt) (test : Option Expr) (third body : Stmt) (k : Ways) (at : Frame) (v : Value) (w : World) (flow : Flow) (w1 : World) (locals : List Value) → Comes (Looping (for line first test third body) k at) → test_in program (for_live test third body k) test at ≡ Go v w → is_true v ≡ true
        → flow_in program body (for_body test third body k) (in_world at w) ≡ Go flow w1 → round_again flow ≡ Some locals → Comes (BehindBody (for line first test third body) k (with_locals at locals w1))
    at_for_third : (line : ℕ) (first : Stmt) (test : Option Expr) (third body : Stmt) (k : Ways) (at : Frame) → Comes (BehindBody (for line first test third body) k at) → Comes (Executing third (for_third test third body k) at)
    at_for_again : (line : ℕ) (first : Stmt) (test : Option Expr) (third body : Stmt) (k : Ways) (at : Frame) (locals : List Value) (w w1 : World) → Comes (BehindBody (for line first test third body) k at) → flow_in program third (for_third test third body k) at ≡ Go (Next locals) w → source.take_turn w ≡ Go tt w1
        → Comes (Looping (for line first test third body) k (with_locals at locals w1))

module _ (program : Program) where
  -- it has a type, or it is a call of a function that may have no result
  abbrev pub MayBeEvaluated : List Ty → Expr → Type 0
  MayBeEvaluated locals e = ((t : Ty) × HasType program locals e t) ⊎ Runs program locals e

  abbrev pub AllMayBeEvaluated : List Ty → Arguments → Type 0
  AllMayBeEvaluated locals none = Unit {0}
  AllMayBeEvaluated locals (more e rest) = MayBeEvaluated locals e × AllMayBeEvaluated locals rest

  -- what the law by expression, place, statement and call asks: the part has a type where it stands, and what it is run with suits
  abbrev pub MeetsTypes : Part → Type 0
  MeetsTypes (Evaluating live e at) = IsSuited program at × MayBeEvaluated at.function.locals e
  MeetsTypes (EvaluatingAll live es at) = IsSuited program at × AllMayBeEvaluated at.function.locals es
  MeetsTypes (Finding live place at) = IsSuited program at × ((t : Ty) × IsPlace program at.function.locals place t)
  MeetsTypes (Executing s k at) = IsSuited program at × ((loop : Bool) × IsTyped program at.function loop s)
  MeetsTypes (ExecutingAll s k at) = IsSuited program at × ((loop : Bool) × AreTyped program at.function loop s)
  MeetsTypes (Looping s k at) = IsSuited program at × ((loop : Bool) × IsTyped program at.function loop s)
  MeetsTypes (BehindBody s k at) = IsSuited program at × ((loop : Bool) × IsTyped program at.function loop s)
  MeetsTypes (Calling n k arguments w) = (f : Function) × ((slice_get program.functions k ≡ Some f) × Known program (parameters_of f) arguments w)
