-- The appended program means what the tasks mean.
use Rattle.rc_tasks.proofs.Common.{◌≡◌, ℕ, zero, suc, ◌+◌, List, [], ◌∷◌, ◌++◌, length, map, nat_eq, slice_get, append-nil, length-append, Option, Some, None, refl, sym, ap, ◌∙◌, subst, arith, length-map, map-append, ℤ, pos, Limits, Ty, int, unsigned, char, region, struct, pointer, Struct, Global, Function, Program, Layout, cells, Value, Number, Object, global_object_of, global_object, first_values, blank, literal, first_heap, Run, Go, Stopped, branching, Calls, run_function, calls_within, World, source, meaning_of_run, first_world, meaning, Tasks, TaskWorld, yield_of, main_of, declared, tasks, yielding, starting, behind_turn, alone, first_task_world, task_meaning, counter, digit, yield_function, main_function, appended, HasOwnNames, ChooseTasks}
use Rattle.std.proofs.Common.{Bool, true, false}
use Rattle.rc_tasks.specs.Tasks.{calls_within as task_calls}
use Rattle.rc_tasks.proofs.Lists.{insert, inserted_behind}
use Rattle.rc_tasks.proofs.Moved.{moved, number_moved}
use Rattle.rc_tasks.proofs.Follows.{Follows, goes, stops, bind_follows, run_follows}
use Rattle.rc_tasks.proofs.Heaps.{Fine, moved_in, with_hidden, blank_moved}
use Rattle.rc_tasks.proofs.Worlds.{Related}
use Rattle.rc_tasks.proofs.Yields.{counter_object, choices_object}
use Rattle.rc_tasks.proofs.Bodies.{alike, one_more, same_deletes, yield_follows, main_follows}

-- a function's number: of one of these, of the first behind them, of the second, or of none
data Which (count f : ℕ) (own all : Option Function) (a b : Function) : Type 0 where
  is_own : (h : Function) → nat_eq f count ≡ false → nat_eq f (suc count) ≡ false → own ≡ Some h → all ≡ Some h → Which count f own all a b
  is_first : nat_eq f count ≡ true → all ≡ Some a → Which count f own all a b
  is_second : nat_eq f count ≡ false → nat_eq f (suc count) ≡ true → all ≡ Some b → Which count f own all a b
  is_none : nat_eq f count ≡ false → nat_eq f (suc count) ≡ false → own ≡ None → all ≡ None → Which count f own all a b

next_same : (f n : ℕ) → nat_eq (suc f) (suc n) ≡ nat_eq f n
next_same f n = grind arith

which : (fs : List Function) (a b : Function) (f : ℕ) → Which (length fs) f (slice_get fs f) (slice_get (fs ++ a ∷ b ∷ []) f) a b
which [] a b zero = is_first refl refl
which [] a b (suc zero) = is_second refl refl refl
which [] a b (suc (suc f)) = is_none (far f) (farther f) refl refl
  where
    far : (f : ℕ) → nat_eq (suc (suc f)) 0 ≡ false
    far f = grind arith

    farther : (f : ℕ) → nat_eq (suc (suc f)) 1 ≡ false
    farther f = grind arith
which (h ∷ fs) a b zero = is_own h (apart (length fs)) (apart (suc (length fs))) refl refl
  where
    apart : (n : ℕ) → nat_eq 0 (suc n) ≡ false
    apart n = grind arith
which (h ∷ fs) a b (suc f) = further (which fs a b f)
  where
    further : Which (length fs) f (slice_get fs f) (slice_get (fs ++ a ∷ b ∷ []) f) a b → Which (suc (length fs)) (suc f) (slice_get fs f) (slice_get (fs ++ a ∷ b ∷ []) f) a b
    further (is_own k x y o l) = is_own k (next_same f (length fs) ∙ x) (next_same f (suc (length fs)) ∙ y) o l
    further (is_first x l) = is_first (next_same f (length fs) ∙ x) l
    further (is_second x y l) = is_second (next_same f (length fs) ∙ x) (next_same f (suc (length fs)) ∙ y) l
    further (is_none x y o l) = is_none (next_same f (length fs) ∙ x) (next_same f (suc (length fs)) ∙ y) o l

module _ (t : Tasks) (choices : List ℕ) (line : ℕ) (own : HasOwnNames t.program) (good : ChooseTasks choices) where
  abbrev g : ℕ
  g = length t.program.globals

  abbrev s : ℕ
  s = length t.program.strings

  abbrev m : Value → Value
  m = moved g s

  abbrev P : Program
  P = appended t choices line

  abbrev Rw : TaskWorld → World → Type 0
  Rw w v = Related g s counter_object (choices_object choices) choices w v

  -- what a call does behind its turn, by what its number is
  abbrev active : Calls TaskWorld → List Value → TaskWorld → (first second : Bool) → Option Function → Run TaskWorld Value
  active c xs w first second o = branching first (λ w1. yielding t c w1.choices w1) (branching second (starting t c) (run_function tasks (declared t) c o xs)) w

  module _ (c : Calls TaskWorld) (d : Calls World) (h : (f : ℕ) (xs : List Value) (w : TaskWorld) (v : World) → Rw w v → Follows Rw m (c f xs w) (d f (map m xs) v)) where
    behind_turn_follows : (f : ℕ) (xs : List Value) (w : TaskWorld) (v : World) → Rw w v → Follows Rw m (behind_turn t c f xs w) (run_function source P d (slice_get P.functions f) (map m xs) v)
    behind_turn_follows f xs w v r = by (nat_eq f (yield_of t)) (nat_eq f (main_of t)) (slice_get t.program.functions f) (slice_get P.functions f) refl refl refl refl (which t.program.functions (yield_function t choices line) (main_function t choices (suc line)) f)
      where
        by : (x y : Bool) (o l : Option Function) → nat_eq f (yield_of t) ≡ x → nat_eq f (main_of t) ≡ y → slice_get t.program.functions f ≡ o → slice_get P.functions f ≡ l →
            Which (length t.program.functions) f o l (yield_function t choices line) (main_function t choices (suc line)) → Follows Rw m (active c xs w x y o) (run_function source P d l (map m xs) v)
        by x y o l ex ey eo el (is_own k p q ok lk) =
            subst (λ b. Follows Rw m (active c xs w b y o) (run_function source P d l (map m xs) v)) (sym p ∙ ex)
            (subst (λ b. Follows Rw m (active c xs w false b o) (run_function source P d l (map m xs) v)) (sym q ∙ ey)
            (subst (λ b. Follows Rw m (active c xs w false false b) (run_function source P d l (map m xs) v)) (sym ok)
            (subst (λ b. Follows Rw m (active c xs w false false (Some k)) (run_function source P d b (map m xs) v)) (sym lk)
            (run_follows Rw tasks source (declared t) P.globals P.strings P.functions P.main (alike t choices line good.1) (one_more t choices line good.1) (same_deletes t choices line good.1) k (own f k (eo ∙ ok)) c d h xs w v r))))
        by x y o l ex ey eo el (is_first p lk) =
            subst (λ b. Follows Rw m (active c xs w b y o) (run_function source P d l (map m xs) v)) (sym p ∙ ex)
            (subst (λ b. Follows Rw m (active c xs w true y o) (run_function source P d b (map m xs) v)) (sym lk)
            (yield_follows t choices line good.1 c d h line good.0 xs w v r))
        by x y o l ex ey eo el (is_second p q lk) =
            subst (λ b. Follows Rw m (active c xs w b y o) (run_function source P d l (map m xs) v)) (sym p ∙ ex)
            (subst (λ b. Follows Rw m (active c xs w false b o) (run_function source P d l (map m xs) v)) (sym q ∙ ey)
            (subst (λ b. Follows Rw m (active c xs w false true o) (run_function source P d b (map m xs) v)) (sym lk)
            (main_follows t choices line good.1 c d h (suc line) good.0 xs w v r)))
        by x y o l ex ey eo el (is_none p q ok lk) =
            subst (λ b. Follows Rw m (active c xs w b y o) (run_function source P d l (map m xs) v)) (sym p ∙ ex)
            (subst (λ b. Follows Rw m (active c xs w false b o) (run_function source P d l (map m xs) v)) (sym q ∙ ey)
            (subst (λ b. Follows Rw m (active c xs w false false b) (run_function source P d l (map m xs) v)) (sym ok)
            (subst (λ b. Follows Rw m (active c xs w false false None) (run_function source P d b (map m xs) v)) (sym lk)
            (goes _ w v r))))

  calls_follow : (n f : ℕ) (xs : List Value) (w : TaskWorld) (v : World) → Rw w v → Follows Rw m (task_calls t n f xs w) (calls_within source P n f (map m xs) v)
  calls_follow zero f xs w v r = stops _ w v r
  calls_follow (suc n) f xs w v r =
      bind_follows Rw (λ _ v1. run_function source P (calls_within source P n) (slice_get P.functions f) (map m xs) v1)
      ((alike t choices line good.1).take_turn w v r) (λ _ w1 v1 r1. behind_turn_follows (task_calls t n) (calls_within source P n) (calls_follow n) f xs w1 v1 r1)

  -- the first heap has the two objects where they belong
  first_values_moved : (ty : Ty) (n : ℤ) (layout : Layout) (count : ℕ) → map m (first_values ty n (blank layout count).values) ≡ first_values ty n (blank layout count).values
  first_values_moved int n layout count = refl
  first_values_moved unsigned n layout count = refl
  first_values_moved char n layout count = refl
  first_values_moved region n layout count = ap (λ (o : Object). o.values) (blank_moved g s layout count)
  first_values_moved (struct k) n layout count = ap (λ (o : Object). o.values) (blank_moved g s layout count)
  first_values_moved (pointer note target) n layout count = ap (λ (o : Object). o.values) (blank_moved g s layout count)

  object_moved : (layout : Layout) (ty : Ty) (count : Option ℕ) (n : ℤ) → moved_in g s (global_object_of layout ty count n) ≡ global_object_of layout ty count n
  object_moved layout ty None n = ap (λ vs. record { layout = layout; count = 1; values = vs }) (first_values_moved ty n layout 1)
  object_moved layout ty (Some count) n = blank_moved g s layout count

  globals_moved : (structs : List Struct) (ds : List Global) → map (moved_in g s) (map (global_object structs) ds) ≡ map (global_object structs) ds
  globals_moved structs [] = refl
  globals_moved structs (x ∷ ds) =
      ap (λ o. o ∷ map (moved_in g s) (map (global_object structs) ds)) (object_moved (cells structs x.ty) x.ty x.count x.initial) ∙ ap (λ l. global_object structs x ∷ l) (globals_moved structs ds)

  bytes_moved : (bytes : List ℕ) → map m (map (λ b. Number (pos b)) bytes ++ Number (pos 0) ∷ []) ≡ map (λ b. Number (pos b)) bytes ++ Number (pos 0) ∷ []
  bytes_moved [] = refl
  bytes_moved (x ∷ bytes) = ap (λ l. Number (pos x) ∷ l) (bytes_moved bytes)

  literals_moved : (ss : List (List ℕ)) → map (moved_in g s) (map literal ss) ≡ map literal ss
  literals_moved [] = refl
  literals_moved (x ∷ ss) = ap (λ vs. record (literal x) { values = vs } ∷ map (moved_in g s) (map literal ss)) (bytes_moved x) ∙ ap (λ l. literal x ∷ l) (literals_moved ss)

  abbrev own_globals : List Object
  own_globals = map (global_object t.program.structs) t.program.globals

  abbrev own_literals : List Object
  own_literals = map literal t.program.strings

  own_moved : map (moved_in g s) (own_globals ++ own_literals) ≡ own_globals ++ own_literals
  own_moved = map-append (moved_in g s) own_globals own_literals ∙ ap (λ l. l ++ map (moved_in g s) own_literals) (globals_moved t.program.structs t.program.globals) ∙ ap (λ l. own_globals ++ l) (literals_moved t.program.strings)

  -- one behind the globals, and one at the end
  two_inserted : {A : Type 0} (xs ys : List A) (x y : A) → (xs ++ x ∷ []) ++ (ys ++ y ∷ []) ≡ insert (suc (length xs + length ys)) y (insert (length xs) x (xs ++ ys))
  two_inserted [] ys x y = ap (λ l. x ∷ l) (inserted_behind ys [] y ∙ ap (insert (length ys) y) (append-nil ys) ∙ ap (λ n. insert n y ys) (zero_more (length ys)))
    where
      zero_more : (n : ℕ) → n ≡ 0 + n
      zero_more n = omega arith
  two_inserted (z ∷ xs) ys x y = ap (λ l. z ∷ l) (two_inserted xs ys x y ∙ ap (λ n. insert n y (insert (length xs) x (xs ++ ys))) (one_less (length xs) (length ys)))
    where
      one_less : (a b : ℕ) → suc (a + b) ≡ suc a + b
      one_less a b = omega arith

  first_objects : map (global_object t.program.structs) P.globals ++ map literal P.strings ≡ with_hidden g s (counter_object 0) (choices_object choices) (own_globals ++ own_literals)
  first_objects =
      ap (λ l. l ++ map literal P.strings) (map-append (global_object t.program.structs) t.program.globals (counter ∷ []))
      ∙ ap (λ l. (own_globals ++ counter_object 0 ∷ []) ++ l) (map-append literal t.program.strings (map digit choices ∷ []))
      ∙ two_inserted own_globals own_literals (counter_object 0) (choices_object choices)
      ∙ ap (λ n. insert (suc (n + length own_literals)) (choices_object choices) (insert n (counter_object 0) (own_globals ++ own_literals))) (length-map t.program.globals (global_object t.program.structs))
      ∙ ap (λ n. insert (suc (g + n)) (choices_object choices) (insert g (counter_object 0) (own_globals ++ own_literals))) (length-map t.program.strings literal)
      ∙ ap (λ l. insert (suc (g + s)) (choices_object choices) (insert g (counter_object 0) l)) (sym own_moved)

  first_fine : Fine (g + s) (first_heap t.program)
  first_fine = record { lives = refl; has = omega (arith, length-append own_globals own_literals, length-map t.program.globals (global_object t.program.structs), length-map t.program.strings literal) }

  first_related : (input : List ℕ) (limits : Limits) → Rw (first_task_world t choices input limits) (first_world P input limits)
  first_related input limits = record {
    taken = [];
    all = refl;
    lifts = (ap (λ os. record (first_world t.program input limits) { heap = record { parent = 0; alive = true; objects = os } ∷ [] }) first_objects, first_fine);
  }

  run_is : (input : List ℕ) {k : Run TaskWorld Value} {l : Run World Value} → Follows Rw m k l → meaning_of_run input l ≡ meaning_of_run input (alone k)
  run_is input (goes x w v r) = ap (λ (u : World). meaning_of_run input (Go (m x) u)) r.lifts.0 ∙ ap (λ n. meaning_of_run input (Go (Number n) w.source)) (number_moved g s x)
  run_is input (stops st w v r) = ap (λ (u : World). meaning_of_run input (Stopped st u)) r.lifts.0

  pub means : (input : List ℕ) (limits : Limits) → meaning P input limits ≡ task_meaning t choices input limits
  means input limits = run_is input (calls_follow (suc limits.turns) (main_of t) [] (first_task_world t choices input limits) (first_world P input limits) (first_related input limits))
