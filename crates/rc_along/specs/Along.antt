-- Facts along runs of region code. A part of a function's code stands at a point where its nodes are those of the function from there on.
-- The facts of a point are good where they hold of the variables, all values are made, and the heap is in order. What is asked of types is
-- said here too: that kinds, arguments and results agree, and that an access names the annotation that the object's layout has. Of calls it is
-- asked that a call which is given the facts of the entry gives back those of the exit; that is `Keeps`.
use Rattle.std.specs.Prelude.{◌≡◌, ℕ, zero, suc, ◌+◌, ◌<◌, ◌≤◌, Bool, true, false, ◌||◌, ◌&&◌, List, [], ◌∷◌, length, map, take, get_or, slice_get, Option, Some, None, is_some}
use Rattle.rc_core.specs.declared.stmt.Change.TheVariants.{Compute, Step as Stepping}
use Rattle.rc_core.specs.Types.{Ty, int}
use Rattle.rc_core.specs.Layout.{Layout, note_of}
use Rattle.rc_core.specs.Heap.{Value, Number, Null, Handle, Pointer, Heap}
use Rattle.rc_core.specs.Laws.{IfGoes}
use Rattle.rc_core.specs.declared.ty.Note.{Note}
use Rattle.rc_core.specs.Live.{Ways, then_live, round, at_end}
use Rattle.rc_core.specs.Runs.{Go, Target, Calls}
use Rattle.rc_core.specs.Source.{World, at_spot, source}
use Rattle.rc_rlang.specs.RegionCode.{numeric, regional, kind_of, width, Operation, null, static, copy, load, step, step_from, call, new_region, new_subregion, region_of, allocate, allocate_array, Step, set, fork, Steps, none, more, Act, drop, perform, assign, store, update, move, delete, leave, Test, Code, simple, clear, block, branch, loop, repeat, break, continue, Codes, done, then, Routine, Rlang}
use Rattle.rc_rlang.specs.RegionFlow.{Node, is_regional, is_regional_cell, note_in}
use Rattle.rc_rlang.specs.RegionRuns.{Temporaries, temporary, temporaries_from, blank_temporaries, kept_all, kept_cell, holds, target_at, held, sized, test_value, step_run, steps_run, new_value, code_run, deletes, calls_within, Way, Next, Broke, Continued, Returned}
use Rattle.rc_rlang.specs.RegionLive.{before_steps, before_act, before_code, before_codes, loop_head, repeat_tail}
use Rattle.rc_annotations.specs.Annotations.{Annotation}
use Rattle.rc_annotations.specs.Holding.{AllHold}
use Rattle.rc_annotations.specs.Variables.{picked, past, picks, values_of}
use Rattle.rc_annotations.specs.Worlds.{Grown, Made, Sane, Stays, note_at}

-- these nodes stand from a point on
abbrev pub Stand : List Node → (here : ℕ) → List Node → Type 0
Stand all here [] = Unit {0}
Stand all here (x ∷ xs) = (slice_get all here ≡ Some x) × Stand all (suc here) xs

-- of a regional temporary: null, a handle or a pointer
abbrev pub NoNumber : Value → Type 0
NoNumber (Number n) = ⊥
NoNumber Null = Unit {0}
NoNumber (Handle r) = Unit {0}
NoNumber (Pointer a) = Unit {0}

-- the regions and pointers among the arguments of a function
abbrev pub given_to : Routine → List Value → List Value
given_to f arguments = picked (map is_regional (take f.parameters f.locals)) arguments

-- the facts of a point of function g, whose hidden copies are these; the first heap is that of its call
pub record Good (a : Annotation) (g : ℕ) (f : Routine) (copied : List Value) (first : Heap) (p : ℕ) (env : List Value) (t : Temporaries) (w : World) : Type 0 where
  pub facts : AllHold (a.before g p) (values_of f copied env t.regions) w.heap
  pub made : (u : ℕ) → Made w.heap (values_of f copied env t.regions u)
  pub sane : Sane w
  pub grown : Grown first w.heap
  pub long : length env ≡ length f.locals

-- a result that is a region or a pointer is made
abbrev pub MadeResult : Option Ty → Heap → Value → Type 0
MadeResult result heap v = (ty : Ty) → result ≡ Some ty → is_regional ty ≡ true → Made heap v

-- where a call of function k with these hidden copies gives v
abbrev pub Called : (a : Annotation) → Option Ty → (k : ℕ) → (passed : List Value) → World → (v : Value) → World → Type 0
Called a result k passed w v w1 = Stays w w1 × MadeResult result w1.heap v × AllHold (a.exit k) (past passed (λ _. v)) w1.heap

-- what is asked of the inside of a call
abbrev pub CallDemand : Type 1
CallDemand = (function : ℕ) → (arguments : List Value) → World → Type 0

module _ (r : Rlang) (a : Annotation) where
  abbrev pub Keeps : Calls World → CallDemand → Type 0
  Keeps calls inside = (k : ℕ) (fk : Routine) (arguments : List Value) (w : World) → slice_get r.functions k ≡ Some fk → length arguments ≡ fk.parameters → inside k arguments w → Sane w → ((i : ℕ) → Made w.heap (past (given_to fk arguments) (λ _. Null) i)) → AllHold (a.entry k) (past (given_to fk arguments) (λ _. Null)) w.heap
      → IfGoes (Called a fk.result k (given_to fk arguments) w) (calls k arguments w)

-- where a region or a pointer is promised, one is given
abbrev pub GivesBack : (promised given : Option Ty) → Type 0
GivesBack promised given = (ty : Ty) → promised ≡ Some ty → is_regional ty ≡ true → (u : Ty) × (given ≡ Some u) × (is_regional u ≡ true)

-- the types of a function's code agree, in so many temporaries n
module _ (r : Rlang) (f : Routine) (n : ℕ) where
  -- a call's arguments are of the types of the function's parameters
  pub record CallRight (h : ℕ) (ty : Ty) (k : ℕ) (tys : List Ty) : Type 0 where
    pub callee : Routine
    pub found : slice_get r.functions k ≡ Some callee
    pub parameters : take callee.parameters callee.locals ≡ tys
    pub room : h + length tys ≤ n
    pub count : length tys ≡ callee.parameters
    pub gives_back : is_regional ty ≡ true → (u : Ty) × (callee.result ≡ Some u) × (is_regional u ≡ true)

  abbrev pub RightOperation : (h : ℕ) → Ty → Operation → Type 0
  RightOperation h ty null = kind_of ty ≡ regional
  RightOperation h ty (static object) = kind_of ty ≡ regional
  RightOperation h ty (copy x) = get_or (picks f) x false ≡ is_regional ty
  RightOperation h ty (load acc) = Unit {0}
  RightOperation h ty (step direction pointed k) = (kind_of ty ≡ regional) × (kind_of pointed ≡ regional)
  RightOperation h ty (step_from k pointed) = (kind_of ty ≡ regional) × (kind_of pointed ≡ regional) × (suc h < n)
  RightOperation h ty (region_of of) = (kind_of ty ≡ regional) × (kind_of of ≡ regional)
  RightOperation h ty (allocate made layout) = kind_of ty ≡ regional
  RightOperation h ty (allocate_array made layout) = kind_of ty ≡ regional
  RightOperation h ty new_region = kind_of ty ≡ regional
  RightOperation h ty new_subregion = kind_of ty ≡ regional
  RightOperation h ty (call k tys) = CallRight h ty k tys
  RightOperation h ty op = kind_of ty ≡ numeric

  abbrev mutual
    pub RightStep : Step → Type 0
    RightStep (set line h ty op) = (h < n) × RightOperation h ty op
    RightStep (fork line h test result x y) = (h < n) × RightSteps x × RightSteps y

    pub RightSteps : Steps → Type 0
    RightSteps none = Unit {0}
    RightSteps (more s rest) = RightStep s × RightSteps rest

  abbrev pub RightAct : Act → Type 0
  RightAct drop = Unit {0}
  RightAct (perform line k tys) = CallRight 0 int k tys
  RightAct (assign line x ty) = (get_or (picks f) x false ≡ is_regional ty) × (0 < n)
  RightAct (store line acc) = (0 < n) × (width acc < n)
  RightAct (update line acc (Compute from operator sign) ty) = 0 < n
  RightAct (update line acc (Stepping direction) ty) = (is_regional acc.cell ≡ true) × (suc (width acc) < n)
  RightAct (move line kinds left right) = width left + width right < n
  RightAct (delete line) = 0 < n
  RightAct (leave line result) = GivesBack f.result result × ((ty : Ty) → result ≡ Some ty → 0 < n)

  abbrev mutual
    pub RightCode : Code → Type 0
    RightCode (simple steps act) = RightSteps steps × RightAct act
    RightCode (clear line x ty) = get_or (picks f) x false ≡ is_regional ty
    RightCode (block codes) = RightCodes codes
    RightCode (branch steps test x y) = RightSteps steps × RightCode x × RightCode y
    RightCode (loop line steps None third body) = (steps ≡ none) × RightCode third × RightCode body
    RightCode (loop line steps (Some test) third body) = RightSteps steps × RightCode third × RightCode body
    RightCode (repeat line body steps test) = RightSteps steps × RightCode body
    RightCode (break line) = Unit {0}
    RightCode (continue line) = Unit {0}

    pub RightCodes : Codes → Type 0
    RightCodes done = Unit {0}
    RightCodes (then x rest) = RightCode x × RightCodes rest

  -- a function's parameters are its first locals; behind its body the result is in temporary 0
  pub record RightRoutine : Type 0 where
    pub parameters : f.parameters ≤ length f.locals
    pub body : RightCode f.body
    pub result : (ty : Ty) → f.result ≡ Some ty → 0 < n

-- Where a run meets its types: a load, a store and each part of an update and of a struct copy name the annotation that the cell has, where
-- the null and bounds tests of its place pass, and a tested region or pointer is no number; and so inside each call.

abbrev pub Named : (line : ℕ) → Target → Note → World → Type 0
Named line tg note w = IfGoes (λ spot w1. note_at w.heap tg ≡ note) (at_spot line tg w (λ spot. Go spot w))

abbrev pub TestMeets : Test → Temporaries → Type 0
TestMeets test t = is_regional test.ty ≡ true → NoNumber (t.regions 0)

abbrev pub OptionMeets : Option Test → Temporaries → Type 0
OptionMeets None t = Unit {0}
OptionMeets (Some test) t = TestMeets test t

abbrev pub MoveMeets : (line : ℕ) → Layout → (from to : Target) → World → Type 0
MoveMeets line [] from to w = Unit {0}
MoveMeets line (kind ∷ kinds) from to w = (is_regional_cell kind ≡ true → Named line from (note_of kind) w)
    × IfGoes (λ v w1. (is_regional_cell kind ≡ true → Named line to (note_of kind) w1) × IfGoes (λ _ w2. MoveMeets line kinds (record from { offset = suc from.offset }) (record to { offset = suc to.offset }) w2) (source.store line to (kept_cell kind v) w1)) (source.load line from w)

-- what is met behind a statement where it goes on, and behind a loop's body
abbrev pub behind_meets : (List Value → Temporaries → World → Type 0) → Way → World → Type 0
behind_meets go (Next env t) w = go env t w
behind_meets go (Broke env t) w = Unit {0}
behind_meets go (Continued env t) w = Unit {0}
behind_meets go (Returned v) w = Unit {0}

abbrev pub body_meets : (List Value → Temporaries → World → Type 0) → Way → World → Type 0
body_meets go (Next env t) w = go env t w
body_meets go (Broke env t) w = Unit {0}
body_meets go (Continued env t) w = go env t w
body_meets go (Returned v) w = Unit {0}

-- of so many rounds
abbrev pub RoundsMeet : ℕ → ((again : List Value → Temporaries → World → Type 0) → List Value → Temporaries → World → Type 0) → List Value → Temporaries → World → Type 0
RoundsMeet zero Round env t w = Unit {0}
RoundsMeet (suc m) Round env t w = Round (λ env2 t2 w2. IfGoes (λ _ w3. RoundsMeet m Round env2 t2 w3) (source.take_turn w2)) env t w

module _ (deleting : ℕ → Bool) (f : Routine) (calls : Calls World) (inside : CallDemand) where
  -- the locals that are live are held where the function deletes
  abbrev pub CallMeets : (k : ℕ) → (tys : List Ty) → (live : ℕ → Bool) → List Value → Temporaries → (h : ℕ) → World → Type 0
  CallMeets k tys live env t h w =
      (deleting k ≡ true → inside k (kept_all tys (temporaries_from tys t h)) (source.enter (held source deleting f.locals live env) w)) × (deleting k ≡ false → inside k (kept_all tys (temporaries_from tys t h)) w)

  abbrev mutual
    pub StepMeets : Step → (live : ℕ → Bool) → List Value → Temporaries → World → Type 0
    StepMeets (set line h ty (load acc)) live env t w = Named line (target_at acc t h) (note_in acc.cell) w
    StepMeets (set line h ty (call k tys)) live env t w = CallMeets k tys live env t h w
    StepMeets (set line h ty op) live env t w = Unit {0}
    StepMeets (fork line h test result x y) live env t w =
        (is_regional test ≡ true → NoNumber (t.regions h)) × (holds test (temporary test t h) ≡ true → StepsMeet x live env t w) × (holds test (temporary test t h) ≡ false → StepsMeet y live env t w)

    pub StepsMeet : Steps → (live : ℕ → Bool) → List Value → Temporaries → World → Type 0
    StepsMeet none live env t w = Unit {0}
    StepsMeet (more s rest) live env t w = StepMeets s (before_steps rest live) env t w × IfGoes (λ t1 w1. StepsMeet rest live env t1 w1) (step_run source deleting f.locals s calls (before_steps rest live) env t w)

  abbrev pub ActMeets : Act → (live : ℕ → Bool) → List Value → Temporaries → World → Type 0
  ActMeets (perform line k tys) live env t w = CallMeets k tys live env t 0 w
  ActMeets (store line acc) live env t w = Named line (target_at acc t 0) (note_in acc.cell) w
  ActMeets (update line acc change ty) live env t w = Named line (target_at acc t 0) (note_in acc.cell) w
      × IfGoes (λ old w1. IfGoes (λ new w2. Named line (target_at acc t 0) (note_in acc.cell) w2) (new_value source deleting f.locals line change ty old (temporary ty t (width acc)) w1)) (source.load line (target_at acc t 0) w)
  ActMeets (move line kinds left right) live env t w = MoveMeets line kinds (target_at right t (width left)) (target_at left t 0) w
  ActMeets act live env t w = Unit {0}

  -- steps and a test
  abbrev pub HeadMeets : Steps → Option Test → (live : ℕ → Bool) → (if_true if_false : List Value → Temporaries → World → Type 0) → List Value → Temporaries → World → Type 0
  HeadMeets steps test live if_true if_false env t w = StepsMeet steps live env t w
      × IfGoes (λ t1 w1. OptionMeets test t1 × (test_value test t1 ≡ true → if_true env t1 w1) × (test_value test t1 ≡ false → if_false env t1 w1)) (steps_run source deleting f.locals steps calls live env t w)

  abbrev pub nothing_more : List Value → Temporaries → World → Type 0
  nothing_more env t w = Unit {0}

  abbrev mutual
    pub CodeMeets : Code → Ways → List Value → Temporaries → World → Type 0
    CodeMeets (simple steps act) ways env t w = StepsMeet steps (before_act act ways.next) env t w × IfGoes (λ t1 w1. ActMeets act ways.next env t1 w1) (steps_run source deleting f.locals steps calls (before_act act ways.next) env t w)
    CodeMeets (clear line x ty) ways env t w = Unit {0}
    CodeMeets (block codes) ways env t w = CodesMeet codes ways env t w
    CodeMeets (branch steps test a b) ways env t w = HeadMeets steps (Some test) (λ y. before_code a ways y || before_code b ways y) (CodeMeets a ways) (CodeMeets b ways) env t w
    CodeMeets (loop line steps test third a) ways env t w =
        (m : ℕ) → RoundsMeet m
        (λ again env1 t1 w1. HeadMeets steps test (λ y. (is_some test && ways.next y) || before_code a (round (before_code third (then_live (loop_head steps test third a ways) ways)) ways) y)
        (λ env2 t2 w2. CodeMeets a (round (before_code third (then_live (loop_head steps test third a ways) ways)) ways) env2 t2 w2
        × IfGoes (body_meets (λ env3 t3 w3. CodeMeets third (then_live (loop_head steps test third a ways) ways) env3 t3 w3 × IfGoes (behind_meets again) (code_run source deleting f.locals third calls (then_live (loop_head steps test third a ways) ways) env3 t3 w3)))
        (code_run source deleting f.locals a calls (round (before_code third (then_live (loop_head steps test third a ways) ways)) ways) env2 t2 w2))
        nothing_more env1 t1 w1)
        env t w
    CodeMeets (repeat line a steps test) ways env t w =
        (m : ℕ) → RoundsMeet m
        (λ again env1 t1 w1. CodeMeets a (round (repeat_tail a steps test ways) ways) env1 t1 w1
        × IfGoes (body_meets (λ env2 t2 w2. HeadMeets steps (Some test) (λ y. ways.next y || before_code (repeat 0 a steps test) ways y) again nothing_more env2 t2 w2)) (code_run source deleting f.locals a calls (round (repeat_tail a steps test ways) ways) env1 t1 w1))
        env t w
    CodeMeets (break line) ways env t w = Unit {0}
    CodeMeets (continue line) ways env t w = Unit {0}

    pub CodesMeet : Codes → Ways → List Value → Temporaries → World → Type 0
    CodesMeet done ways env t w = Unit {0}
    CodesMeet (then x rest) ways env t w = CodeMeets x (then_live (before_codes rest ways) ways) env t w
        × IfGoes (behind_meets (λ env1 t1 w1. CodesMeet rest ways env1 t1 w1)) (code_run source deleting f.locals x calls (then_live (before_codes rest ways) ways) env t w)

  abbrev pub RoutineMeets : (arguments : List Value) → World → Type 0
  RoutineMeets arguments w = CodeMeets f.body at_end (sized f.locals arguments) blank_temporaries w

abbrev pub OptionRoutineMeets : (deleting : ℕ → Bool) → Option Routine → Calls World → CallDemand → (arguments : List Value) → World → Type 0
OptionRoutineMeets deleting None calls inside arguments w = Unit {0}
OptionRoutineMeets deleting (Some f) calls inside arguments w = RoutineMeets deleting f calls inside arguments w

-- of calls inside one another
module _ (r : Rlang) where
  abbrev pub CallsMeet : ℕ → CallDemand
  CallsMeet zero k arguments w = Unit {0}
  CallsMeet (suc m) k arguments w = IfGoes (λ _ w1. OptionRoutineMeets (deletes r) (slice_get r.functions k) (calls_within source r m) (CallsMeet m) arguments w1) (source.take_turn w)
