-- A step of the machine inside one function: what is done next, with what waits and the locals.
use Rattle.std.specs.Prelude.{ℕ, zero, suc, pos, ◌+◌, Bool, true, false, not, List, ◌∷◌, length, Option, Some, None}
use Rattle.rc_core.specs.Numbers.{byte_of}
use Rattle.rc_core.specs.Arithmetic.{converted, calculate, calculate_one}
use Rattle.rc_core.specs.Types.{struct}
use Rattle.rc_core.specs.Programs.{Expr, constant, null, string, local, read, address, step, step_from, unary, binary, convert, not_zero, and, or, choose, is_null, same, call, new_region, new_subregion, region_of, allocate, allocate_array, putchar, getchar, Place, global, pointed, indexed, Path, here, field, element, Stmt, block, declare, assign, store, update, copy, evaluate, delete, branch, while, repeat, for, break, continue, return, Stmts, done, then, Function, Program}
use Rattle.rc_core.specs.Layout.{cells, size, offset, count_of, stride}
use Rattle.rc_core.specs.Heap.{Value, Number, Null, zero_of}
use Rattle.rc_core.specs.Runs.{Run, Go, bind, spent, branching, computed, Target, Calls}
use Rattle.rc_core.specs.Evaluation.{number_in, is_true, same_value, toward, static, aimed, further, region_named, give_number, as_wanted, local_at}
use Rattle.rc_core.specs.Execution.{held, with_local, local_type, changed}
use Rattle.rc_memory.specs.KeptWorld.{KeptWorld, kept}
use Rattle.rc_frames.specs.Frames.{Frame, first, second, pointer, index, element as element_frame, load, inside, Stage, placed, sourced, valued, stored, within, tested, bodied, headed, thirded, ways}

-- it evaluates or executes, or something has come out
pub data Control : Type 0 where
  evaluating : Expr → Control
  executing : Stmt → Control
  going_along : Target → Path → Control
  gives : Value → Control
  aims : Target → Control
  goes : Control
  breaks : Control
  continues : Control
  returns : Value → Control

-- what is done next, what waits, the innermost first, and the locals
pub record Doing : Type 0 where
  pub control : Control
  pub frames : List Frame
  pub locals : List Value

abbrev pub doing : Control → List Frame → List Value → Doing
doing c fs env = record { control = c; frames = fs; locals = env }

-- it begins without a change of the world
abbrev pub needs_no_world : Expr → Bool
needs_no_world (new_region line) = false
needs_no_world (getchar line) = false
needs_no_world _ = true

module _ (program : Program) (f : Function) (calls : Calls KeptWorld) where
  -- an expression whose two parts have values
  abbrev pub after_second : Expr → (first second : Value) → KeptWorld → Run KeptWorld Value
  after_second (step line direction p i) v u w = kept.step line v (toward direction (number_in u)) w
  after_second (step_from line i p) v u w = kept.step line u (number_in v) w
  after_second (binary line operator s a b) v u w = bind (computed line (calculate operator s (number_in v) (number_in u)) w) give_number
  after_second (and line a b) v u w = Go (as_wanted true (is_true u)) w
  after_second (or line a b) v u w = Go (as_wanted true (is_true u)) w
  after_second (same line wanted a b) v u w = Go (as_wanted wanted (same_value v u)) w
  after_second (allocate_array line r n ty) v u w = kept.allocate line v (number_in u) (cells program.structs ty) w
  after_second _ v u w = Go u w

module _ (program : Program) where
  -- a place begins by its pointer
  abbrev pub start : Place → List Frame → List Value → Doing
  start (global g path) fs env = doing (going_along (aimed (static g) (pos 0)) path) fs env
  start (pointed p path) fs env = doing (evaluating p) (pointer (pointed p path) ∷ fs) env
  start (indexed p i path) fs env = doing (evaluating p) (pointer (indexed p i path) ∷ fs) env

  -- an expression begins by its first part; calls, and what changes the world at once, are apart
  abbrev pub begin : Expr → List Frame → List Value → KeptWorld → Run KeptWorld Doing
  begin (constant line s n) fs env w = Go (doing (gives (Number n)) fs env) w
  begin (null line) fs env w = Go (doing (gives Null) fs env) w
  begin (string line k) fs env w = Go (doing (gives (static (length program.globals + k))) fs env) w
  begin (local line x) fs env w = Go (doing (gives (local_at env x)) fs env) w
  begin (read line place) fs env w = Go (start place (load line ∷ fs) env) w
  begin (address line g) fs env w = Go (doing (gives (static g)) fs env) w
  begin (step line direction p i) fs env w = Go (doing (evaluating p) (first (step line direction p i) ∷ fs) env) w
  begin (step_from line i p) fs env w = Go (doing (evaluating i) (first (step_from line i p) ∷ fs) env) w
  begin (unary line operator s e) fs env w = Go (doing (evaluating e) (first (unary line operator s e) ∷ fs) env) w
  begin (binary line operator s a b) fs env w = Go (doing (evaluating a) (first (binary line operator s a b) ∷ fs) env) w
  begin (convert line from to e) fs env w = Go (doing (evaluating e) (first (convert line from to e) ∷ fs) env) w
  begin (not_zero line e) fs env w = Go (doing (evaluating e) (first (not_zero line e) ∷ fs) env) w
  begin (and line a b) fs env w = Go (doing (evaluating a) (first (and line a b) ∷ fs) env) w
  begin (or line a b) fs env w = Go (doing (evaluating a) (first (or line a b) ∷ fs) env) w
  begin (choose line test a b) fs env w = Go (doing (evaluating test) (first (choose line test a b) ∷ fs) env) w
  begin (is_null line wanted e) fs env w = Go (doing (evaluating e) (first (is_null line wanted e) ∷ fs) env) w
  begin (same line wanted a b) fs env w = Go (doing (evaluating a) (first (same line wanted a b) ∷ fs) env) w
  begin (call line g arguments) fs env w = Go (doing (evaluating (call line g arguments)) fs env) w
  begin (new_region line) fs env w = bind (kept.new_region line w) (λ v. Go (doing (gives v) fs env))
  begin (new_subregion line r) fs env w = Go (doing (evaluating r) (first (new_subregion line r) ∷ fs) env) w
  begin (region_of line p) fs env w = Go (doing (evaluating p) (first (region_of line p) ∷ fs) env) w
  begin (allocate line r ty) fs env w = Go (doing (evaluating r) (first (allocate line r ty) ∷ fs) env) w
  begin (allocate_array line r n ty) fs env w = Go (doing (evaluating r) (first (allocate_array line r n ty) ∷ fs) env) w
  begin (putchar line e) fs env w = Go (doing (evaluating e) (first (putchar line e) ∷ fs) env) w
  begin (getchar line) fs env w = bind (kept.get_byte w) (λ n. Go (doing (gives (Number n)) fs env))

  abbrev pub giving_next : List Frame → List Value → Value → KeptWorld → Run KeptWorld Doing
  giving_next fs env v w = Go (doing (gives v) fs env) w

  -- the first part of an expression has a value
  abbrev pub first_step : Expr → Value → List Frame → List Value → KeptWorld → Run KeptWorld Doing
  first_step (step line direction p i) v fs env w = Go (doing (evaluating i) (second (step line direction p i) v ∷ fs) env) w
  first_step (step_from line i p) v fs env w = Go (doing (evaluating p) (second (step_from line i p) v ∷ fs) env) w
  first_step (unary line operator s e) v fs env w = bind (bind (computed line (calculate_one operator s (number_in v)) w) give_number) (giving_next fs env)
  first_step (binary line operator s a b) v fs env w = Go (doing (evaluating b) (second (binary line operator s a b) v ∷ fs) env) w
  first_step (convert line from to e) v fs env w = giving_next fs env (Number (converted to (number_in v))) w
  first_step (not_zero line e) v fs env w = giving_next fs env (as_wanted false (is_true v)) w
  first_step (and line a b) v fs env w = branching (is_true v) (Go (doing (evaluating b) (second (and line a b) v ∷ fs) env)) (giving_next fs env (Number (pos 0))) w
  first_step (or line a b) v fs env w = branching (is_true v) (giving_next fs env (Number (pos 1))) (Go (doing (evaluating b) (second (or line a b) v ∷ fs) env)) w
  first_step (choose line test a b) v fs env w = branching (is_true v) (Go (doing (evaluating a) fs env)) (Go (doing (evaluating b) fs env)) w
  first_step (is_null line wanted e) v fs env w = giving_next fs env (as_wanted wanted (not (is_true v))) w
  first_step (same line wanted a b) v fs env w = Go (doing (evaluating b) (second (same line wanted a b) v ∷ fs) env) w
  first_step (new_subregion line r) v fs env w = bind (kept.new_subregion line v w) (giving_next fs env)
  first_step (region_of line p) v fs env w = bind (region_named line v w) (giving_next fs env)
  first_step (allocate line r ty) v fs env w = bind (kept.allocate line v (pos 1) (cells program.structs ty) w) (giving_next fs env)
  first_step (allocate_array line r n ty) v fs env w = Go (doing (evaluating n) (second (allocate_array line r n ty) v ∷ fs) env) w
  first_step (putchar line e) v fs env w = bind (kept.put_byte (byte_of (number_in v)) w) (λ _. giving_next fs env (Number (pos (byte_of (number_in v)))))
  first_step _ v fs env w = giving_next fs env v w

  abbrev pub second_step : Function → Calls KeptWorld → Expr → (first second : Value) → List Frame → List Value → KeptWorld → Run KeptWorld Doing
  second_step f calls e v u fs env w = bind (after_second program f calls e v u w) (giving_next fs env)

  abbrev pub pointer_step : Place → Value → List Frame → List Value → Doing
  pointer_step (global g path) v fs env = doing (aims (aimed v (pos 0))) fs env
  pointer_step (pointed p path) v fs env = doing (going_along (aimed v (pos 0)) path) fs env
  pointer_step (indexed p i path) v fs env = doing (evaluating i) (index (indexed p i path) v ∷ fs) env

  abbrev pub index_step : Place → (pointer index : Value) → List Frame → List Value → Doing
  index_step (global g path) v n fs env = doing (aims (aimed v (pos 0))) fs env
  index_step (pointed p path) v n fs env = doing (aims (aimed v (pos 0))) fs env
  index_step (indexed p i path) v n fs env = doing (going_along (aimed v (number_in n)) path) fs env

  abbrev pub along_step : Target → Path → List Frame → List Value → Doing
  along_step t here fs env = doing (aims t) fs env
  along_step t (field s g rest) fs env = doing (going_along (further (offset program.structs s g) t) rest) fs env
  along_step t (element s g i rest) fs env = doing (evaluating i) (element_frame (further (offset program.structs s g) t) (count_of program.structs s g) (stride program.structs s g) rest ∷ fs) env

  -- a statement begins by what it evaluates or executes first
  abbrev pub execute : Function → Stmt → List Frame → List Value → KeptWorld → Doing
  execute f (block done) fs env w = doing goes fs env
  execute f (block (then s rest)) fs env w = doing (executing s) (inside (block (then s rest)) (within rest) ∷ fs) env
  execute f (declare line x None) fs env w = doing goes fs (with_local env x (zero_of (local_type f x)))
  execute f (declare line x (Some e)) fs env w = doing (evaluating e) (inside (declare line x (Some e)) valued ∷ fs) env
  execute f (assign line x e) fs env w = doing (evaluating e) (inside (assign line x e) valued ∷ fs) env
  execute f (store line place e) fs env w = start place (inside (store line place e) placed ∷ fs) env
  execute f (update line place change e) fs env w = start place (inside (update line place change e) placed ∷ fs) env
  execute f (copy line s left right) fs env w = start left (inside (copy line s left right) placed ∷ fs) env
  execute f (evaluate line e) fs env w = doing (evaluating e) (inside (evaluate line e) valued ∷ fs) env
  execute f (delete line e) fs env w = doing (evaluating e) (inside (delete line e) valued ∷ fs) env
  execute f (branch line test a b) fs env w = doing (evaluating test) (inside (branch line test a b) valued ∷ fs) env
  execute f (while line test body) fs env w = doing (evaluating test) (inside (while line test body) (tested w.turns) ∷ fs) env
  execute f (repeat line body test) fs env w = doing (executing body) (inside (repeat line body test) (bodied w.turns) ∷ fs) env
  execute f (for line head test third body) fs env w = doing (executing head) (inside (for line head test third body) headed ∷ fs) env
  execute f (break line) fs env w = doing breaks fs env
  execute f (continue line) fs env w = doing continues fs env
  execute f (return line None) fs env w = doing (returns Null) fs env
  execute f (return line (Some e)) fs env w = doing (evaluating e) (inside (return line (Some e)) valued ∷ fs) env

  -- a statement goes on, and its function with it
  abbrev pub going_next : List Frame → List Value → Unit {0} → KeptWorld → Run KeptWorld Doing
  going_next fs env u w = Go (doing goes fs env) w

  -- a statement gets the value for which it waits
  abbrev pub value_step : Stmt → Value → List Frame → List Value → KeptWorld → Run KeptWorld Doing
  value_step (declare line x e) v fs env w = Go (doing goes fs (with_local env x v)) w
  value_step (assign line x e) v fs env w = Go (doing goes fs (with_local env x v)) w
  value_step (delete line e) v fs env w = bind (kept.delete line (held (ways fs).next env) v w) (going_next fs env)
  value_step (branch line test a b) v fs env w = branching (is_true v) (Go (doing (executing a) fs env)) (Go (doing (executing b) fs env)) w
  value_step (return line e) v fs env w = Go (doing (returns v) fs env) w
  value_step _ v fs env w = Go (doing goes fs env) w

  abbrev pub stored_step : Stmt → Target → Value → List Frame → List Value → KeptWorld → Run KeptWorld Doing
  stored_step (store line place e) t v fs env w = bind (kept.store line t v w) (going_next fs env)
  stored_step (update line place change e) t v fs env w =
      bind (kept.load line t w) (λ old w1. bind (changed kept program line change old v w1) (λ new w2. bind (kept.store line t new w2) (going_next fs env)))
  stored_step _ t v fs env w = Go (doing goes fs env) w

  -- one more round may begin, or none
  abbrev pub one_fewer : ℕ → (ℕ → Doing) → KeptWorld → Run KeptWorld Doing
  one_fewer zero next w = spent w
  one_fewer (suc n) next w = Go (next n) w

  abbrev pub turning_to : ℕ → (ℕ → Doing) → KeptWorld → Run KeptWorld Doing
  turning_to n next w = bind (kept.take_turn w) (λ _ w1. one_fewer n next w1)

  abbrev pub test_step : Stmt → ℕ → Value → List Frame → List Value → KeptWorld → Run KeptWorld Doing
  test_step (while line test body) n v fs env w = branching (is_true v) (Go (doing (executing body) (inside (while line test body) (bodied n) ∷ fs) env)) (Go (doing goes fs env)) w
  test_step (repeat line body test) n v fs env w = branching (is_true v) (turning_to n (λ m. doing (executing body) (inside (repeat line body test) (bodied m) ∷ fs) env)) (Go (doing goes fs env)) w
  test_step (for line head test third body) n v fs env w = branching (is_true v) (Go (doing (executing body) (inside (for line head test third body) (bodied n) ∷ fs) env)) (Go (doing goes fs env)) w
  test_step _ n v fs env w = Go (doing goes fs env) w

  abbrev pub given_step : Stmt → Stage → Value → List Frame → List Value → KeptWorld → Run KeptWorld Doing
  given_step s valued v fs env w = value_step s v fs env w
  given_step s (stored t) v fs env w = stored_step s t v fs env w
  given_step s (tested n) v fs env w = test_step s n v fs env w
  given_step s _ v fs env w = Go (doing goes fs env) w

  -- a statement gets the place for which it waits
  abbrev pub place_step : Stmt → Target → List Frame → List Value → Doing
  place_step (store line place e) t fs env = doing (evaluating e) (inside (store line place e) (stored t) ∷ fs) env
  place_step (update line place change e) t fs env = doing (evaluating e) (inside (update line place change e) (stored t) ∷ fs) env
  place_step (copy line s left right) t fs env = start right (inside (copy line s left right) (sourced t) ∷ fs) env
  place_step _ t fs env = doing goes fs env

  abbrev pub copy_step : (line structure : ℕ) → (to from : Target) → List Frame → List Value → KeptWorld → Run KeptWorld Doing
  copy_step line s to from fs env w = bind (kept.load_all line from (size program.structs (struct s)) w) (λ vs w1. bind (kept.store_all line to vs w1) (going_next fs env))

  abbrev pub source_step : Stmt → (to from : Target) → List Frame → List Value → KeptWorld → Run KeptWorld Doing
  source_step (copy line s left right) to from fs env w = copy_step line s to from fs env w
  source_step _ to from fs env w = Go (doing goes fs env) w

  abbrev pub aimed_step : Stmt → Stage → Target → List Frame → List Value → KeptWorld → Run KeptWorld Doing
  aimed_step s placed t fs env w = Go (place_step s t fs env) w
  aimed_step s (sourced to) t fs env w = source_step s to t fs env w
  aimed_step s _ t fs env w = Go (doing goes fs env) w

  -- the head of a `for`: its condition, or its body where it has none
  abbrev pub head_step : Stmt → ℕ → Option Expr → Stmt → List Frame → List Value → Doing
  head_step s n None body fs env = doing (executing body) (inside s (bodied n) ∷ fs) env
  head_step s n (Some e) body fs env = doing (evaluating e) (inside s (tested n) ∷ fs) env

  -- the body of a loop went on or continued; for another statement that comes out as it is
  abbrev pub body_step : Stmt → ℕ → Control → List Frame → List Value → KeptWorld → Run KeptWorld Doing
  body_step (while line test body) n c fs env w = turning_to n (λ m. doing (evaluating test) (inside (while line test body) (tested m) ∷ fs) env) w
  body_step (repeat line body test) n c fs env w = Go (doing (evaluating test) (inside (repeat line body test) (tested n) ∷ fs) env) w
  body_step (for line head test third body) n c fs env w = Go (doing (executing third) (inside (for line head test third body) (thirded n) ∷ fs) env) w
  body_step _ n c fs env w = Go (doing c fs env) w

  abbrev pub within_step : Stmt → Stmts → List Frame → List Value → Doing
  within_step s done fs env = doing goes fs env
  within_step s (then x rest) fs env = doing (executing x) (inside s (within rest) ∷ fs) env

  abbrev pub headed_step : Stmt → List Frame → List Value → KeptWorld → Run KeptWorld Doing
  headed_step (for line head test third body) fs env w = Go (head_step (for line head test third body) w.turns test body fs env) w
  headed_step _ fs env w = Go (doing goes fs env) w

  abbrev pub third_step : Stmt → ℕ → List Frame → List Value → KeptWorld → Run KeptWorld Doing
  third_step (for line head test third body) n fs env w = turning_to n (λ m. head_step (for line head test third body) m test body fs env) w
  third_step _ n fs env w = Go (doing goes fs env) w

  -- a statement inside one that waits went on, continued or broke
  abbrev pub go_step : Stmt → Stage → List Frame → List Value → KeptWorld → Run KeptWorld Doing
  go_step s (within rest) fs env w = Go (within_step s rest fs env) w
  go_step s (bodied n) fs env w = body_step s n goes fs env w
  go_step s headed fs env w = headed_step s fs env w
  go_step s (thirded n) fs env w = third_step s n fs env w
  go_step s _ fs env w = Go (doing goes fs env) w

  abbrev pub continue_step : Stmt → Stage → List Frame → List Value → KeptWorld → Run KeptWorld Doing
  continue_step s (bodied n) fs env w = body_step s n continues fs env w
  continue_step s _ fs env w = Go (doing continues fs env) w

  abbrev pub broken : Stmt → Control
  broken (while line test body) = goes
  broken (repeat line body test) = goes
  broken (for line head test third body) = goes
  broken _ = breaks

  abbrev pub break_step : Stmt → Stage → List Frame → List Value → Doing
  break_step s (bodied n) fs env = doing (broken s) fs env
  break_step s _ fs env = doing breaks fs env
