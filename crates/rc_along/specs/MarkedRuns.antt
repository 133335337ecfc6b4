-- What region code does with marked stores. A store is left to `put`, which is told whether its point has a mark; else all is as in a run
-- of region code. A world may so make all checks but those of marked stores, or watch these.
use Rattle.std.specs.Prelude.{ℕ, zero, suc, ◌+◌, Bool, ◌||◌, ◌&&◌, List, [], ◌∷◌, Option, Some, None, is_some, slice_get}
use Rattle.rc_core.specs.declared.stmt.Change.{Change}
use Rattle.rc_core.specs.declared.stmt.Change.TheVariants.{Compute, Step as Stepping}
use Rattle.rc_core.specs.Arithmetic.{type_of}
use Rattle.rc_core.specs.Types.{Ty}
use Rattle.rc_core.specs.Layout.{Layout}
use Rattle.rc_core.specs.Heap.{Value, Null, zero_of}
use Rattle.rc_core.specs.Live.{Ways, then_live, round, at_end}
use Rattle.rc_core.specs.Runs.{Run, Go, bind, spent, branching, Target, Calls, Ops}
use Rattle.rc_core.specs.Execution.{with_local}
use Rattle.rc_rlang.specs.Points.{conversion_points}
use Rattle.rc_rlang.specs.RegionCode.{width, Act, store, update, move, Code, simple, clear, block, branch, loop, repeat, break, continue, Codes, done, then, Routine, Rlang}
use Rattle.rc_rlang.specs.RegionPoints.{steps_points, branch_points, code_points}
use Rattle.rc_rlang.specs.RegionLive.{before_act, before_code, before_codes, loop_head, repeat_tail}
use Rattle.rc_rlang.specs.RegionRuns.{Temporaries, temporary, set_kind, change_kind, with_cell, blank_temporaries, kept, kept_cell, target_at, sized, test_value, Way, Next, Broke, Continued, behind, behind_body, steps_run, new_value, act_run, rounds, rounds_first, result_of, deletes}

-- the points of an update that stand before its store
abbrev pub before_store : Change → ℕ
before_store (Compute from operator s) = 2 + conversion_points from (type_of s) + conversion_points (type_of s) from
before_store (Stepping direction) = 2

abbrev pub Put : Type 0 → Type 0
Put W = (marked : Bool) → (line : ℕ) → Target → Value → W → Run W (Unit {0})

module _ {W : Type 0} (ops : Ops W) (put : Put W) (deleting : ℕ → Bool) (types : List Ty) (marked : (point : ℕ) → Bool) where
  abbrev pub cells_marked : (line h : ℕ) → Layout → (from to : Target) → (here : ℕ) → Temporaries → W → Run W Temporaries
  cells_marked line h [] from to here t w = Go t w
  cells_marked line h (kind ∷ kinds) from to here t w =
      bind (ops.load line from w) (λ v w1. bind (put (marked (suc here)) line to (kept_cell kind v) w1) (λ _ w2.
      cells_marked line h kinds (record from { offset = suc from.offset }) (record to { offset = suc to.offset }) (suc (suc here)) (with_cell kind t h v) w2))

  abbrev pub act_marked : Act → (here : ℕ) → Calls W → (live : ℕ → Bool) → List Value → Temporaries → W → Run W Way
  act_marked (store line a) here calls live env t w = bind (put (marked here) line (target_at a t 0) (kept a.cell (temporary a.cell t (width a))) w) (λ _ w1. Go (Next env t) w1)
  act_marked (update line a change ty) here calls live env t w =
      bind (ops.load line (target_at a t 0) w) (λ old w1.
      bind (new_value ops deleting types line change ty old (temporary ty t (width a)) w1) (λ new w2.
      bind (put (marked (here + before_store change)) line (target_at a t 0) (kept a.cell new) w2) (λ _ w3. Go (Next env (set_kind (change_kind change) t (suc (width a)) new)) w3)))
  act_marked (move line cells left right) here calls live env t w = bind (cells_marked line (width left + width right) cells (target_at right t (width left)) (target_at left t 0) here t w) (λ t1 w1. Go (Next env t1) w1)
  act_marked act here calls live env t w = act_run ops deleting types act calls live env t w

  abbrev mutual
    pub code_marked : Code → (here : ℕ) → Calls W → Ways → List Value → Temporaries → W → Run W Way
    code_marked (simple steps act) here calls k env t w = bind (steps_run ops deleting types steps calls (before_act act k.next) env t w) (λ t1. act_marked act (here + steps_points steps) calls k.next env t1)
    code_marked (clear line x ty) here calls k env t w = Go (Next (with_local env x (zero_of ty)) t) w
    code_marked (block codes) here calls k env t w = codes_marked codes here calls k env t w
    code_marked (branch steps test a b) here calls k env t w =
        let at_a = suc (here + steps_points steps) in
        bind (steps_run ops deleting types steps calls (λ y. before_code a k y || before_code b k y) env t w) (λ t1.
        branching (test_value (Some test) t1) (code_marked a at_a calls k env t1) (code_marked b (at_a + code_points a) calls k env t1))
    code_marked (loop line steps test third a) here calls k env t w =
        let at_a = suc here + steps_points steps + branch_points test in
        rounds ops deleting types (suc (ops.turns_left w))
        (steps_run ops deleting types steps calls (λ y. (is_some test && k.next y) || before_code a (round (before_code third (then_live (loop_head steps test third a k) k)) k) y)) test
        (λ again env1 t1 w1. bind (code_marked a at_a calls (round (before_code third (then_live (loop_head steps test third a k) k)) k) env1 t1 w1)
        (behind_body (λ env2 t2 w2. bind (code_marked third (at_a + code_points a) calls (then_live (loop_head steps test third a k) k) env2 t2 w2) (behind again))))
        env t w
    code_marked (repeat line a steps test) here calls k env t w =
        rounds_first ops deleting types (suc (ops.turns_left w))
        (steps_run ops deleting types steps calls (λ y. k.next y || before_code (repeat 0 a steps test) k y)) (Some test)
        (λ again env1 t1 w1. bind (code_marked a (suc here) calls (round (repeat_tail a steps test k) k) env1 t1 w1) (behind_body again))
        env t w
    code_marked (break line) here calls k env t w = Go (Broke env t) w
    code_marked (continue line) here calls k env t w = Go (Continued env t) w

    pub codes_marked : Codes → (here : ℕ) → Calls W → Ways → List Value → Temporaries → W → Run W Way
    codes_marked done here calls k env t w = Go (Next env t) w
    codes_marked (then c rest) here calls k env t w = bind (code_marked c here calls (then_live (before_codes rest k) k) env t w) (behind (codes_marked rest (here + code_points c) calls k))

module _ {W : Type 0} (ops : Ops W) (put : Put W) where
  abbrev pub routine_marked : (deleting : ℕ → Bool) → (marked : (point : ℕ) → Bool) → Calls W → Option Routine → List Value → W → Run W Value
  routine_marked deleting marked calls None arguments w = Go Null w
  routine_marked deleting marked calls (Some f) arguments w = bind (code_marked ops put deleting f.locals marked f.body 1 calls at_end (sized f.locals arguments) blank_temporaries w) (result_of f.result)

  -- of a function's points some are marked
  module _ (marks : (function point : ℕ) → Bool) (r : Rlang) where
    abbrev pub calls_marked : ℕ → Calls W
    calls_marked zero f arguments w = spent w
    calls_marked (suc n) f arguments w = bind (ops.take_turn w) (λ _ w1. routine_marked (deletes r) (marks f) (calls_marked n) (slice_get r.functions f) arguments w1)

    abbrev pub main_marked : W → Run W Value
    main_marked w = calls_marked (suc (ops.turns_left w)) r.main [] w
