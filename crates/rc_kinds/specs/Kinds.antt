-- What every run of a program keeps, and what that says of a value.
--
-- The meaning is total: where a value is of the wrong kind, or what is named isn't there, its definitions give an ordinary answer,
-- as 0 or null. No run of a program comes to such an answer. Beside each clause stand the answers that it rules out. `Parts` says
-- that each part of a run meets what the clauses ask, and `Demands` of what kinds the values are that it works on.
use Rattle.std.specs.Prelude.{◌≡◌, ℕ, ◌+◌, ◌*◌, ◌<◌, ◌≤◌, ℤ, Bool, IsTrue, List, length, slice_get, Option, Some, None, ◌⊎◌}
use Rattle.std.specs.List.{AllByRecursion as Every, AllZip}
use Rattle.rc_base.specs.declared.ends.Limits.{Limits}
use Rattle.rc_core.specs.declared.ty.Note.{Note}
use Rattle.rc_core.specs.declared.ty.NumberType.{NumberType}
use Rattle.rc_core.specs.Numbers.{IsByte}
use Rattle.rc_core.specs.Arithmetic.{as_int}
use Rattle.rc_core.specs.Types.{Ty, region, pointer}
use Rattle.rc_core.specs.Programs.{Expr, Place, Stmt, Function, Program}
use Rattle.rc_core.specs.Layout.{cells, size}
use Rattle.rc_core.specs.Heap.{Value, Number, Null, Handle, Pointer, Address, Object, kinds_of, objects}
use Rattle.rc_core.specs.Live.{Ways}
use Rattle.rc_core.specs.Runs.{Go, Target}
use Rattle.rc_core.specs.Source.{World, source, Spot, object_of, place_of, at_spot}
use Rattle.rc_core.specs.Execution.{Flow, Next, Broke, Continued, Returned, calls_within}
use Rattle.rc_core.specs.Typing.{number, fits, parameters_of, HasType, IsPlace, IsTyped, IsDefined}
use Rattle.rc_core.specs.Meaning.{first_world, run_of}
use Rattle.rc_core.specs.Laws.{IfGoes}
use Rattle.rc_kinds.specs.Suits.{Ledger, Suits, CellSuits, Grows, first_ledger, WorldSuits, AllSuit, Known}
use Rattle.rc_kinds.specs.Frames.{Frame, value_in, target_in, flow_in, IsSuited}

-- where a run goes on: perhaps more was made, the world suits, and so does what the run gives
pub record Outcome {A : Type 0} (program : Program) (l : Ledger) (S : Ledger → A → Type 0) (x : A) (w : World) : Type 0 where
  pub ledger : Ledger
  pub grown : Grows l ledger
  pub world : WorldSuits program ledger w
  pub value : S ledger x

abbrev pub Of : Ty → Ledger → Value → Type 0
Of t l v = Suits l t v

-- what a call gives; that of a function without a result is never looked at
abbrev pub ResultSuits : Option Ty → Ledger → Value → Type 0
ResultSuits None l v = Unit {0}
ResultSuits (Some t) l v = Suits l t v

-- at each way out of a statement; it breaks and continues in a loop alone
abbrev pub FlowSuits : (locals : List Ty) → (result : Option Ty) → (loop : Bool) → Ledger → Flow → Type 0
FlowSuits locals result loop l (Next env) = AllSuit l locals env
FlowSuits locals result loop l (Broke env) = IsTrue loop × AllSuit l locals env
FlowSuits locals result loop l (Continued env) = IsTrue loop × AllSuit l locals env
FlowSuits locals result loop l (Returned v) = ResultSuits result l v

-- the cells of a type are there, all in the one element, and each has a value
pub record IsThere (program : Program) (t : Ty) (w : World) (spot : Spot) : Type 0 where
  pub element : spot.element < (object_of w.heap spot).count
  pub cells : spot.cell + size program.structs t ≤ length (object_of w.heap spot).layout
  pub values : place_of (object_of w.heap spot) spot + size program.structs t ≤ length (object_of w.heap spot).values

-- where the place's null and bounds tests pass, its cells are there
abbrev pub FindsCells : Program → Ty → Target → World → Type 0
FindsCells program t target w = (line : ℕ) → IfGoes (λ spot w1. IsThere program t w spot) (at_spot line target w (λ spot. Go spot w))

pub record KeepsToTypes (program : Program) : Type 0 where
  -- where a run begins, region 0 has the globals and the string literals, each with a value of its type
  pub begins : (input : List ℕ) (limits : Limits) → Every IsByte input → WorldSuits program (first_ledger program) (first_world program input limits)
  -- Ruled out, with `ValuesSay` below: an operand that is no number counts as 0 (`number_in`); what is no region or no pointer traps as
  -- null does (`at_region`, `at_address`, `region_named`); a handle is the region of itself (`region_named`).
  pub expression : (live : ℕ → Bool) (e : Expr) (t : Ty) (at : Frame) (suited : IsSuited program at) → HasType program at.function.locals e t → IfGoes (Outcome program suited.known.ledger (Of t)) (value_in program live e at)
  -- Ruled out: an element, an object or a region that isn't there is an empty one (`object_at`, `region_at`); a cell that isn't there
  -- reads as null (`first_of`); of what is written nothing goes past the element (`written`), and it isn't checked (`fitting`).
  pub place : (live : ℕ → Bool) (place : Place) (t : Ty) (at : Frame) → IsSuited program at → IsPlace program at.function.locals place t → IfGoes (FindsCells program t) (target_in program live place at)
  -- Ruled out: a function's body that breaks or continues ends with a zero (`result_of`): of a body `loop` is false.
  pub statement : (loop : Bool) (s : Stmt) (ways : Ways) (at : Frame) (suited : IsSuited program at) → IsTyped program at.function loop s → IfGoes (Outcome program suited.known.ledger (FlowSuits at.function.locals at.function.result loop)) (flow_in program s ways at)
  -- Ruled out: a call of a function that isn't there gives null (`run_function`). Typed calls, and `main`, name one that is.
  pub call : (n k : ℕ) (f : Function) (arguments : List Value) (w : World) → slice_get program.functions k ≡ Some f → (known : Known program (parameters_of f) arguments w) → IfGoes (Outcome program known.ledger (ResultSuits f.result)) (calls_within source program n k arguments w)
  -- Ruled out: what `main` gives becomes an `int` first (`meaning_of_run`): it is one.
  pub exit : (input : List ℕ) (limits : Limits) → Every IsByte input → IfGoes (λ v w. (z : ℤ) × (v ≡ Number z) × (as_int z ≡ z)) (run_of program input limits)

-- the object of an address is there, laid out as the type, which is one of the program's
pub record HasObject (program : Program) (w : World) (t : Ty) (a : Address) : Type 0 where
  pub object : Object
  pub there : slice_get (objects w.heap a.region) a.object ≡ Some object
  -- ruled out: a struct that isn't there has no cells (`cells_by`), and a field that isn't has no length (`count_in`, `stride_in`)
  pub layout : object.layout ≡ cells program.structs t
  pub defined : IsDefined program.structs t
  pub within : a.index ≤ object.count

-- an object is laid out as some type of the program, and has a value of its kind for each cell of each element
pub record ObjectSays (program : Program) (l : Ledger) (o : Object) : Type 0 where
  pub ty : Ty
  pub defined : IsDefined program.structs ty
  pub layout : o.layout ≡ cells program.structs ty
  pub counted : length o.values ≡ o.count * length o.layout
  pub values : AllZip (CellSuits l) (kinds_of o) o.values

-- what follows for a value that suits a type, and for an object of a world that suits
pub record ValuesSay (program : Program) : Type 0 where
  -- a number is in its type's range
  pub number : (l : Ledger) (k : NumberType) (v : Value) → Suits l (number k) v → (z : ℤ) × (v ≡ Number z) × IsTrue (fits k z)
  -- a region is null or one that was made, a pointer is null or leads to an element or the end of an object that was made: so
  -- trap null comes of null alone
  pub region : (l : Ledger) (w : World) (v : Value) → WorldSuits program l w → Suits l region v → (v ≡ Null) ⊎ ((r : ℕ) × (v ≡ Handle r) × (r < length w.heap))
  pub pointer : (l : Ledger) (w : World) (note : Note) (t : Ty) (v : Value) → WorldSuits program l w → Suits l (pointer note t) v → (v ≡ Null) ⊎ ((a : Address) × (v ≡ Pointer a) × HasObject program w t a)
  -- ruled out: a local that isn't there is null (`local_at`), and one that isn't there isn't set (`with_local`)
  pub local : (l : Ledger) (types : List Ty) (locals : List Value) (x : ℕ) (t : Ty) → AllSuit l types locals → slice_get types x ≡ Some t → (v : Value) × (slice_get locals x ≡ Some v) × Suits l t v
  pub object : (l : Ledger) (w : World) (r o : ℕ) (there : Object) → WorldSuits program l w → slice_get (objects w.heap r) o ≡ Some there → ObjectSays program l there
