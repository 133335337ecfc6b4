-- A program of tasks, and what it means under a list of choices. It has a function `start` and functions `task_0` to `task_9`, as it needs
-- them, and no `main` of its own. A choice is the number of a task, and to take it is to call that task. A task that yields waits until the
-- task that this yield called has returned; meanwhile its live locals wait, as those of every caller do.
use Rattle.std.specs.Prelude.{ℕ, zero, suc, ◌+◌, ℤ, pos, Bool, true, false, nat_eq, nat_lt, int_le, unsigned_abs, List, [], ◌∷◌, ◌++◌, length, slice_get, Option, Some, None}
use Rattle.rc_base.specs.declared.ends.Limits.{Limits}
use Rattle.rc_base.specs.declared.ends.Trap.TheVariants.{Size, Full}
use Rattle.rc_core.specs.Types.{Ty, int}
use Rattle.rc_core.specs.Programs.{block, done, Function, Program}
use Rattle.rc_core.specs.Layout.{Layout}
use Rattle.rc_core.specs.Heap.{Value, Number, Null, Pointer, live, objects, with_objects, blank}
use Rattle.rc_core.specs.Runs.{Run, Go, Stopped, bind, spent, branching, tested, touching, Calls, Ops}
use Rattle.rc_core.specs.Execution.{calling, run_function}
use Rattle.rc_core.specs.Source.{World, with_heap, at_region, source}
use Rattle.rc_core.specs.Meaning.{Meaning, meaning_of_run, first_world}

-- what the text itself has: its program without `yield` and `main`, and the numbers of `start` and of each task. Calls of `yield` and `main`
-- have the two numbers that come behind those of its functions.
pub record Tasks : Type 0 where
  pub program : Program
  pub start : ℕ
  pub task : (choice : ℕ) → ℕ

abbrev pub yield_of : Tasks → ℕ
yield_of t = length t.program.functions

abbrev pub main_of : Tasks → ℕ
main_of t = suc (yield_of t)

-- a function that takes nothing and deletes, as a declaration tells it; the body is never run
abbrev pub declaration : (result : Option Ty) → Function
declaration result = record { parameters = 0; locals = []; result = result; deletes = true; line = 0; body = block done }

-- the program with `void yield(void) deletes;` and `int main(void) deletes;`, so that what calls them is known to wait in them
abbrev pub declared : Tasks → Program
declared t = record t.program { functions = t.program.functions ++ declaration None ∷ declaration (Some int) ∷ [] }

-- the source's world, and the choices that are left
pub record TaskWorld : Type 0 where
  pub source : World
  pub choices : List ℕ

-- a run of the source's world, beside which the choices stay as they are
abbrev pub beside : {A : Type 0} → (choices : List ℕ) → Run World A → Run TaskWorld A
beside choices (Go x w) = Go x (record { source = w; choices = choices })
beside choices (Stopped stop w) = Stopped stop (record { source = w; choices = choices })

-- the limit of objects counts two more in region 0: the counter and the text of the choices, which a text with the appended lines has there
abbrev pub counted_besides : (region : ℕ) → ℕ
counted_besides zero = 2
counted_besides (suc r) = 0

abbrev pub allocated : (line region : ℕ) → (count : ℤ) → Layout → World → Run World Value
allocated line r count layout w =
    tested (int_le (pos 0) count) Size line w
    (tested (nat_lt (length (objects w.heap r) + counted_besides r) w.blocks) Full line w
    (Go (Pointer (record { region = r; object = length (objects w.heap r); index = 0 }))
    (with_heap w (with_objects w.heap r (λ os. os ++ blank layout (unsigned_abs count) ∷ [])))))

-- what the source does, but for that limit
abbrev pub tasks : Ops TaskWorld
tasks = record {
  turns_left = λ w. source.turns_left w.source;
  take_turn = λ w. beside w.choices (source.take_turn w.source);
  get_byte = λ w. beside w.choices (source.get_byte w.source);
  put_byte = λ b w. beside w.choices (source.put_byte b w.source);
  new_region = λ line w. beside w.choices (source.new_region line w.source);
  new_subregion = λ line v w. beside w.choices (source.new_subregion line v w.source);
  allocate = λ line v count layout w. beside w.choices (at_region line v w.source (λ r. touching (live w.source.heap r) line w.source (allocated line r count layout w.source)));
  step = λ line v n w. beside w.choices (source.step line v n w.source);
  load = λ line t w. beside w.choices (source.load line t w.source);
  store = λ line t v w. beside w.choices (source.store line t v w.source);
  load_all = λ line t size w. beside w.choices (source.load_all line t size w.source);
  store_all = λ line t vs w. beside w.choices (source.store_all line t vs w.source);
  delete = λ line held v w. beside w.choices (source.delete line held v w.source);
  enter = λ held w. record w { source = source.enter held w.source };
  leave = λ before now. record now { source = source.leave before.source now.source };
}

abbrev pub is_none_left : List ℕ → Bool
is_none_left [] = true
is_none_left (d ∷ rest) = false

module _ (t : Tasks) where
  -- a call from where no local is, so that nothing waits in it but what waited before
  abbrev pub called : Calls TaskWorld → (function : ℕ) → TaskWorld → Run TaskWorld Value
  called calls f w = calling tasks (declared t) calls (λ _. false) [] f [] w

  -- a yield, behind its turn: where a choice is left, it is taken, and its task is called; else nothing is done
  abbrev pub yielding : Calls TaskWorld → (choices : List ℕ) → TaskWorld → Run TaskWorld Value
  yielding calls [] w = Go Null w
  yielding calls (d ∷ rest) w = bind (called calls (t.task d) (record w { choices = rest })) (λ _ w1. Go Null w1)

  -- as long as choices are left, a yield and a turn; in the end 0. The number only makes this a function, as in loops: it is one more than the
  -- turns that are left, and each round takes one of them.
  abbrev pub driving : ℕ → Calls TaskWorld → TaskWorld → Run TaskWorld Value
  driving zero calls w = spent w
  driving (suc n) calls w =
      branching (is_none_left w.choices) (Go (Number (pos 0)))
      (λ w1. bind (called calls (yield_of t) w1) (λ _ w2. bind (tasks.take_turn w2) (λ _ w3. driving n calls w3))) w

  -- the run, behind its first turn, and each call of `main`, behind its own
  abbrev pub starting : Calls TaskWorld → TaskWorld → Run TaskWorld Value
  starting calls w = bind (called calls t.start w) (λ _ w1. driving (suc (tasks.turns_left w1)) calls w1)

  -- a call of the function of this number, behind its turn
  abbrev pub behind_turn : Calls TaskWorld → (function : ℕ) → List Value → TaskWorld → Run TaskWorld Value
  behind_turn calls f arguments w =
      branching (nat_eq f (yield_of t)) (λ w1. yielding calls w1.choices w1)
      (branching (nat_eq f (main_of t)) (starting calls)
      (run_function tasks (declared t) calls (slice_get t.program.functions f) arguments)) w

  -- a call takes its turn, behind its arguments. The number only makes this a function, as in the meaning of a program.
  abbrev pub calls_within : ℕ → Calls TaskWorld
  calls_within zero f arguments w = spent w
  calls_within (suc n) f arguments w = bind (tasks.take_turn w) (λ _ w1. behind_turn (calls_within n) f arguments w1)

  -- the run is a call of `main`
  abbrev pub task_run : TaskWorld → Run TaskWorld Value
  task_run w = calls_within (suc (tasks.turns_left w)) (main_of t) [] w

-- a run without the choices that are left
abbrev pub alone : {A : Type 0} → Run TaskWorld A → Run World A
alone (Go x w) = Go x w.source
alone (Stopped stop w) = Stopped stop w.source

abbrev pub first_task_world : Tasks → (choices : List ℕ) → (input : List ℕ) → Limits → TaskWorld
first_task_world t choices input limits = record { source = first_world t.program input limits; choices = choices }

-- the acts, how many bytes of the input are taken, and the end; a run that exits gives 0
abbrev pub task_meaning : Tasks → (choices : List ℕ) → (input : List ℕ) → Limits → Meaning
task_meaning t choices input limits = meaning_of_run input (alone (task_run t (first_task_world t choices input limits)))
