-- What region code does, in any world whose operations are given (`Ops`), as programs have their meaning. A run of steps takes and gives
-- temporaries; a run of code takes locals, and gives them back at its way out: on to the next statement, out of a loop, to its next
-- round, or back from the function. An operand is read by its type, from the temporaries of numbers or from those of regions and
-- pointers. A `char` local, cell or parameter keeps a byte. What a deletion holds are the live locals whose types are regions or
-- pointers, in their order, whatever is in them; behind a call of a function that deletes they are held while it runs. A step back of a
-- loop and a call take a turn each.
use Rattle.std.specs.Prelude.{ℕ, zero, suc, ◌+◌, ℤ, pos, Bool, true, false, not, ◌||◌, ◌&&◌, nat_eq, List, [], ◌∷◌, map, Option, Some, None, is_some, slice_get}
use Rattle.rc_core.specs.declared.ty.NumberType.{NumberType}
use Rattle.rc_core.specs.declared.ty.NumberType.TheVariants.{Int, Unsigned, Char}
use Rattle.rc_core.specs.declared.ty.Signedness.{Signedness}
use Rattle.rc_core.specs.declared.operators.Operator.{Operator}
use Rattle.rc_core.specs.declared.stmt.Change.{Change}
use Rattle.rc_core.specs.declared.stmt.Change.TheVariants.{Compute, Step as Stepping}
use Rattle.rc_core.specs.Numbers.{byte_of}
use Rattle.rc_core.specs.Types.{Ty, int, unsigned, char, region, struct, pointer, CellKind, int_cell, unsigned_cell, char_cell, region_cell, pointer_cell}
use Rattle.rc_core.specs.Layout.{Layout}
use Rattle.rc_core.specs.Arithmetic.{converted, type_of, calculate, calculate_one, equals, as_int}
use Rattle.rc_core.specs.Heap.{Value, Number, Null, zero_of}
use Rattle.rc_core.specs.Live.{Ways, then_live, round, at_end}
use Rattle.rc_core.specs.Runs.{Run, Go, bind, spent, branching, computed, Chosen, Target, Calls, Ops}
use Rattle.rc_core.specs.Evaluation.{number_in, is_true, same_value, as_wanted, toward, static as static_value, region_named, local_at, give_number}
use Rattle.rc_core.specs.Execution.{with_local, zero_result}
use Rattle.rc_core.specs.Typing.{is_shift}
use Rattle.rc_rlang.specs.RegionCode.{Kind, numeric, regional, kind_of, Index, Access, width, Operation, constant, null, static, copy, load, step, step_from, unary, binary, convert, not_zero, truth, is_null, same, call, new_region, new_subregion, region_of, allocate, allocate_array, putchar, getchar, Step, set, fork, Steps, none, more, Act, drop, perform, assign, store, update, move, delete, leave, Test, Code, simple, clear, block, branch, loop, repeat, break, continue, Codes, done, then, Routine, Rlang}
use Rattle.rc_rlang.specs.RegionLive.{before_steps, before_act, before_code, before_codes, loop_head, repeat_tail}

-- what stands in each temporary, by its number: numbers, and apart from them regions and pointers
pub record Temporaries : Type 0 where
  pub numbers : ℕ → Value
  pub regions : ℕ → Value

abbrev pub at_kind : Kind → Temporaries → ℕ → Value
at_kind numeric t h = t.numbers h
at_kind regional t h = t.regions h

abbrev pub temporary : Ty → Temporaries → ℕ → Value
temporary ty t h = at_kind (kind_of ty) t h

abbrev pub chosen_value : Bool → Value → Value → Value
chosen_value true v u = v
chosen_value false v u = u

abbrev pub changed_at : (ℕ → Value) → ℕ → Value → ℕ → Value
changed_at t h v k = chosen_value (nat_eq k h) v (t k)

abbrev pub set_kind : Kind → Temporaries → ℕ → Value → Temporaries
set_kind numeric t h v = record t { numbers = changed_at t.numbers h v }
set_kind regional t h v = record t { regions = changed_at t.regions h v }

abbrev pub with_temporary : Ty → Temporaries → ℕ → Value → Temporaries
with_temporary ty t h v = set_kind (kind_of ty) t h v

-- of a cell's value
abbrev pub cell_kind : CellKind → Kind
cell_kind int_cell = numeric
cell_kind unsigned_cell = numeric
cell_kind char_cell = numeric
cell_kind region_cell = regional
cell_kind (pointer_cell note target) = regional

-- an update changes a number, or steps a pointer
abbrev pub change_kind : Change → Kind
change_kind (Compute from operator s) = numeric
change_kind (Stepping direction) = regional

abbrev pub with_cell : CellKind → Temporaries → ℕ → Value → Temporaries
with_cell kind t h v = set_kind (cell_kind kind) t h v

abbrev pub temporaries_from : List Ty → Temporaries → ℕ → List Value
temporaries_from [] t h = []
temporaries_from (ty ∷ tys) t h = temporary ty t h ∷ temporaries_from tys t (suc h)

-- all zero and null
abbrev pub blank_temporaries : Temporaries
blank_temporaries = record { numbers = λ h. Number (pos 0); regions = λ h. Null }

-- the target of an access whose pointer stands at h

abbrev pub chosen_from : List Index → Temporaries → ℕ → List Chosen
chosen_from [] t h = []
chosen_from (i ∷ is) t h = record { index = number_in (t.numbers h); count = i.count; stride = i.stride } ∷ chosen_from is t (suc h)

abbrev pub target_shifted : Option Signedness → Access → Temporaries → ℕ → Target
target_shifted None a t h = record { pointer = t.regions h; shift = pos 0; offset = a.offset; chosen = chosen_from a.indices t (suc h) }
target_shifted (Some s) a t h = record { pointer = t.regions h; shift = number_in (t.numbers (suc h)); offset = a.offset; chosen = chosen_from a.indices t (suc (suc h)) }

abbrev pub target_at : Access → Temporaries → ℕ → Target
target_at a t h = target_shifted a.shift a t h

-- a variable or a cell of type `char` keeps a byte
abbrev pub kept : Ty → Value → Value
kept int v = v
kept unsigned v = v
kept char v = Number (converted Char (number_in v))
kept region v = v
kept (struct k) v = v
kept (pointer note target) v = v

-- and so does a cell of a struct that is copied
abbrev pub kept_cell : CellKind → Value → Value
kept_cell int_cell v = v
kept_cell unsigned_cell v = v
kept_cell char_cell v = Number (converted Char (number_in v))
kept_cell region_cell v = v
kept_cell (pointer_cell note target) v = v

abbrev pub kept_all : List Ty → List Value → List Value
kept_all tys [] = []
kept_all [] (v ∷ vs) = v ∷ vs
kept_all (ty ∷ tys) (v ∷ vs) = kept ty v ∷ kept_all tys vs

-- neither zero nor null; an `unsigned` is looked at as an `int`
abbrev pub holds : Ty → Value → Bool
holds unsigned v = not (equals (as_int (number_in v)) (pos 0))
holds ty v = is_true v

-- the count of a shift is an `int`
abbrev pub as_count : Ty → ℤ → ℤ
as_count unsigned n = as_int n
as_count ty n = n

abbrev pub counted : Bool → Ty → ℤ → ℤ
counted true ty n = as_count ty n
counted false ty n = n

abbrev pub right_number : Operator → Ty → Value → ℤ
right_number operator ty v = counted (is_shift operator) ty (number_in v)

-- a `char` is an `int` as it is, and no type is converted to itself
abbrev pub convert_value : NumberType → NumberType → Value → Value
convert_value Char Int v = v
convert_value Int Int v = v
convert_value Unsigned Unsigned v = v
convert_value Char Char v = v
convert_value from to v = Number (converted to (number_in v))

-- how a statement's code ends
pub data Way : Type 0 where
  Next : (locals : List Value) → Temporaries → Way
  Broke : (locals : List Value) → Temporaries → Way
  Continued : (locals : List Value) → Temporaries → Way
  Returned : Value → Way

-- what comes next, where the code before it goes on
abbrev pub behind : {W : Type 0} → (List Value → Temporaries → W → Run W Way) → Way → W → Run W Way
behind go (Next env t) w = go env t w
behind go (Broke env t) w = Go (Broke env t) w
behind go (Continued env t) w = Go (Continued env t) w
behind go (Returned v) w = Go (Returned v) w

-- what comes behind a loop's body
abbrev pub behind_body : {W : Type 0} → (List Value → Temporaries → W → Run W Way) → Way → W → Run W Way
behind_body go (Next env t) w = go env t w
behind_body go (Continued env t) w = go env t w
behind_body go (Broke env t) w = Go (Next env t) w
behind_body go (Returned v) w = Go (Returned v) w

abbrev pub if_wanted : (wanted is : Bool) → Bool
if_wanted true is = is
if_wanted false is = not is

-- whether the branch is taken; without a test it is
abbrev pub test_value : Option Test → Temporaries → Bool
test_value None t = true
test_value (Some test) t = if_wanted test.wanted (holds test.ty (temporary test.ty t 0))

-- the live locals that are regions or pointers, by number
abbrev pub pin_when : Kind → Bool → ℕ → List ℕ → List ℕ
pin_when regional true x rest = x ∷ rest
pin_when regional false x rest = rest
pin_when numeric live x rest = rest

abbrev pub pins_from : List Ty → ℕ → (live : ℕ → Bool) → List ℕ
pins_from [] x live = []
pins_from (ty ∷ tys) x live = pin_when (kind_of ty) (live x) x (pins_from tys (suc x) live)

-- their values
abbrev pub pinned : List ℕ → List Value → List Value
pinned pins locals = map (local_at locals) pins

-- as many values as types: those that are given, and behind them zeros and nulls
abbrev pub sized : List Ty → List Value → List Value
sized [] vs = []
sized (ty ∷ tys) [] = zero_of ty ∷ sized tys []
sized (ty ∷ tys) (v ∷ vs) = v ∷ sized tys vs

module _ {W : Type 0} (ops : Ops W) (deleting : ℕ → Bool) (types : List Ty) where
  -- what a deletion holds
  abbrev pub held : (live : ℕ → Bool) → List Value → List Value
  held live env = pinned (pins_from types 0 live) env

  abbrev pub operation_value : (line : ℕ) → Operation → Calls W → (live : ℕ → Bool) → List Value → Temporaries → ℕ → W → Run W Value
  operation_value line (constant s n) calls live env t h w = Go (Number n) w
  operation_value line null calls live env t h w = Go Null w
  operation_value line (static object) calls live env t h w = Go (static_value object) w
  operation_value line (copy x) calls live env t h w = Go (local_at env x) w
  operation_value line (load a) calls live env t h w = ops.load line (target_at a t h) w
  operation_value line (step direction pointed ty) calls live env t h w = ops.step line (temporary pointed t h) (toward direction (number_in (temporary ty t (suc h)))) w
  operation_value line (step_from ty pointed) calls live env t h w = ops.step line (temporary pointed t (suc h)) (number_in (temporary ty t h)) w
  operation_value line (unary operator s) calls live env t h w = bind (computed line (calculate_one operator s (number_in (t.numbers h))) w) give_number
  operation_value line (binary operator s ty) calls live env t h w =
      bind (computed line (calculate operator s (number_in (t.numbers h)) (right_number operator ty (temporary ty t (suc h)))) w) give_number
  operation_value line (convert from to) calls live env t h w = Go (convert_value from to (t.numbers h)) w
  operation_value line (not_zero ty) calls live env t h w = Go (as_wanted false (holds ty (temporary ty t h))) w
  operation_value line (truth ty) calls live env t h w = Go (as_wanted true (holds ty (temporary ty t h))) w
  operation_value line (is_null wanted ty) calls live env t h w = Go (as_wanted wanted (not (is_true (temporary ty t h)))) w
  operation_value line (same wanted ty) calls live env t h w = Go (as_wanted wanted (same_value (temporary ty t h) (temporary ty t (suc h)))) w
  operation_value line (call f tys) calls live env t h w =
      branching (deleting f)
      (λ w1. bind (calls f (kept_all tys (temporaries_from tys t h)) (ops.enter (held live env) w1)) (λ v w2. Go v (ops.leave w1 w2)))
      (calls f (kept_all tys (temporaries_from tys t h))) w
  operation_value line new_region calls live env t h w = ops.new_region line w
  operation_value line new_subregion calls live env t h w = ops.new_subregion line (t.regions h) w
  operation_value line (region_of ty) calls live env t h w = region_named line (temporary ty t h) w
  operation_value line (allocate ty layout) calls live env t h w = ops.allocate line (t.regions h) (pos 1) layout w
  operation_value line (allocate_array ty layout) calls live env t h w = ops.allocate line (t.regions h) (number_in (t.numbers (suc h))) layout w
  operation_value line putchar calls live env t h w =
      bind (ops.put_byte (byte_of (number_in (t.numbers h))) w) (λ _ w1. Go (Number (pos (byte_of (number_in (t.numbers h))))) w1)
  operation_value line getchar calls live env t h w = bind (ops.get_byte w) give_number

  -- the operations of an expression leave the locals as they are
  abbrev mutual
    pub step_run : Step → Calls W → (live : ℕ → Bool) → List Value → Temporaries → W → Run W Temporaries
    step_run (set line h ty op) calls live env t w = bind (operation_value line op calls live env t h w) (λ v w1. Go (with_temporary ty t h v) w1)
    step_run (fork line h ty to a b) calls live env t w =
        branching (holds ty (temporary ty t h)) (steps_run a calls live env t) (steps_run b calls live env t) w

    pub steps_run : Steps → Calls W → (live : ℕ → Bool) → List Value → Temporaries → W → Run W Temporaries
    steps_run none calls live env t w = Go t w
    steps_run (more s rest) calls live env t w = bind (step_run s calls (before_steps rest live) env t w) (steps_run rest calls live env)

  -- cell by cell, each through the temporary h
  abbrev pub cells_moved : (line h : ℕ) → Layout → (from to : Target) → Temporaries → W → Run W Temporaries
  cells_moved line h [] from to t w = Go t w
  cells_moved line h (kind ∷ kinds) from to t w =
      bind (ops.load line from w) (λ v w1. bind (ops.store line to (kept_cell kind v) w1) (λ _ w2.
      cells_moved line h kinds (record from { offset = suc from.offset }) (record to { offset = suc to.offset }) (with_cell kind t h v) w2))

  -- the new value of a place; the old value in its own type
  abbrev pub new_value : (line : ℕ) → Change → Ty → (old operand : Value) → W → Run W Value
  new_value line (Compute from operator s) ty old v w =
      bind (computed line (calculate operator s (number_in (convert_value from (type_of s) old)) (right_number operator ty v)) w)
      (λ n w1. Go (convert_value (type_of s) from (Number n)) w1)
  new_value line (Stepping direction) ty old v w = ops.step line old (toward direction (number_in v)) w

  abbrev pub returned : Option Ty → Temporaries → Value
  returned None t = Null
  returned (Some ty) t = temporary ty t 0

  abbrev pub act_run : Act → Calls W → (live : ℕ → Bool) → List Value → Temporaries → W → Run W Way
  act_run drop calls live env t w = Go (Next env t) w
  act_run (perform line f tys) calls live env t w = bind (operation_value line (call f tys) calls live env t 0 w) (λ _ w1. Go (Next env t) w1)
  act_run (assign line x ty) calls live env t w = Go (Next (with_local env x (kept ty (temporary ty t 0))) t) w
  act_run (store line a) calls live env t w =
      bind (ops.store line (target_at a t 0) (kept a.cell (temporary a.cell t (width a))) w) (λ _ w1. Go (Next env t) w1)
  act_run (update line a change ty) calls live env t w =
      bind (ops.load line (target_at a t 0) w) (λ old w1.
      bind (new_value line change ty old (temporary ty t (width a)) w1) (λ new w2.
      bind (ops.store line (target_at a t 0) (kept a.cell new) w2) (λ _ w3. Go (Next env (set_kind (change_kind change) t (suc (width a)) new)) w3)))
  act_run (move line cells left right) calls live env t w =
      bind (cells_moved line (width left + width right) cells (target_at right t (width left)) (target_at left t 0) t w) (λ t1 w1. Go (Next env t1) w1)
  act_run (delete line) calls live env t w = bind (ops.delete line (held live env) (t.regions 0) w) (λ _ w1. Go (Next env t) w1)
  act_run (leave line result) calls live env t w = Go (Returned (returned result t)) w

  abbrev pub rounds : ℕ → (head : List Value → Temporaries → W → Run W Temporaries) → Option Test → (body : (List Value → Temporaries → W → Run W Way) → List Value → Temporaries → W → Run W Way) → List Value → Temporaries → W → Run W Way
  rounds zero head test body env t w = spent w
  rounds (suc n) head test body env t w =
      bind (head env t w) (λ t1. branching (test_value test t1)
      (body (λ env2 t2 w2. bind (ops.take_turn w2) (λ _ w3. rounds n head test body env2 t2 w3)) env t1)
      (Go (Next env t1)))

  abbrev pub rounds_first : ℕ → (tail : List Value → Temporaries → W → Run W Temporaries) → Option Test → (body : (List Value → Temporaries → W → Run W Way) → List Value → Temporaries → W → Run W Way) → List Value → Temporaries → W → Run W Way
  rounds_first zero tail test body env t w = spent w
  rounds_first (suc n) tail test body env t w =
      body (λ env1 t1 w1. bind (tail env1 t1 w1) (λ t2. branching (test_value test t2)
      (λ w2. bind (ops.take_turn w2) (λ _ w3. rounds_first n tail test body env1 t2 w3))
      (Go (Next env1 t2)))) env t w

  abbrev mutual
    pub code_run : Code → Calls W → Ways → List Value → Temporaries → W → Run W Way
    code_run (simple steps act) calls k env t w = bind (steps_run steps calls (before_act act k.next) env t w) (λ t1. act_run act calls k.next env t1)
    code_run (clear line x ty) calls k env t w = Go (Next (with_local env x (zero_of ty)) t) w
    code_run (block codes) calls k env t w = codes_run codes calls k env t w
    code_run (branch steps test a b) calls k env t w =
        bind (steps_run steps calls (λ y. before_code a k y || before_code b k y) env t w) (λ t1.
        branching (test_value (Some test) t1) (code_run a calls k env t1) (code_run b calls k env t1))
    code_run (loop line steps test third a) calls k env t w =
        rounds (suc (ops.turns_left w))
        (steps_run steps calls (λ y. (is_some test && k.next y) || before_code a (round (before_code third (then_live (loop_head steps test third a k) k)) k) y)) test
        (λ again env1 t1 w1. bind (code_run a calls (round (before_code third (then_live (loop_head steps test third a k) k)) k) env1 t1 w1)
        (behind_body (λ env2 t2 w2. bind (code_run third calls (then_live (loop_head steps test third a k) k) env2 t2 w2) (behind again))))
        env t w
    code_run (repeat line a steps test) calls k env t w =
        rounds_first (suc (ops.turns_left w))
        (steps_run steps calls (λ y. k.next y || before_code (repeat 0 a steps test) k y)) (Some test)
        (λ again env1 t1 w1. bind (code_run a calls (round (repeat_tail a steps test k) k) env1 t1 w1) (behind_body again))
        env t w
    code_run (break line) calls k env t w = Go (Broke env t) w
    code_run (continue line) calls k env t w = Go (Continued env t) w

    pub codes_run : Codes → Calls W → Ways → List Value → Temporaries → W → Run W Way
    codes_run done calls k env t w = Go (Next env t) w
    codes_run (then c rest) calls k env t w = bind (code_run c calls (then_live (before_codes rest k) k) env t w) (behind (codes_run rest calls k))

abbrev pub result_of : {W : Type 0} → Option Ty → Way → W → Run W Value
result_of result (Next env t) w = Go (zero_result result) w
result_of result (Broke env t) w = Go (zero_result result) w
result_of result (Continued env t) w = Go (zero_result result) w
result_of result (Returned v) w = Go v w

module _ {W : Type 0} (ops : Ops W) (deleting : ℕ → Bool) where
  abbrev pub run_routine : Calls W → Option Routine → List Value → W → Run W Value
  run_routine calls None arguments w = Go Null w
  run_routine calls (Some f) arguments w = bind (code_run ops deleting f.locals f.body calls at_end (sized f.locals arguments) blank_temporaries w) (result_of f.result)

abbrev pub routine_deletes : Option Routine → Bool
routine_deletes None = false
routine_deletes (Some f) = f.deletes

abbrev pub deletes : Rlang → ℕ → Bool
deletes r f = routine_deletes (slice_get r.functions f)

module _ {W : Type 0} (ops : Ops W) (r : Rlang) where
  abbrev pub calls_within : ℕ → Calls W
  calls_within zero f arguments w = spent w
  calls_within (suc n) f arguments w =
      bind (ops.take_turn w) (λ _ w1. run_routine ops (deletes r) (calls_within n) (slice_get r.functions f) arguments w1)

  abbrev pub run_main : W → Run W Value
  run_main w = calls_within (suc (ops.turns_left w)) r.main [] w
