-- Execution by points. The same as `exec`, but each statement is given the point behind it, as `Flow` has points, in place of
-- what is live there: so one sees that the locals whose values are held at a node are those that are live where it leads. The
-- laws on liveness say that both are the same, and that `live_at` and `live_behind` are `IsLive` and `IsLiveBehind`.
use Rattle.std.specs.Prelude.{ℕ, suc, Bool, false, ◌||◌, ◌&&◌, is_some, List, [], ◌∷◌}
use Rattle.rc_core.specs.Programs.{Stmt, block, declare, assign, store, update, copy, evaluate, delete, branch, while, repeat, for, return, Stmts, done, then, Function, Program}
use Rattle.rc_core.specs.Heap.{Value}
use Rattle.rc_core.specs.Live.{Ways, before, then_live, for_third, for_body, at_end}
use Rattle.rc_core.specs.Flow.{while_loop, for_loop, Item, statement, condition, round_end, Point, statements}
use Rattle.rc_core.specs.Runs.{Run, Go, bind, branching, Calls, Ops}
use Rattle.rc_core.specs.Evaluation.{is_true}
use Rattle.rc_core.specs.Execution.{Flow as Outcome, Next, behind_body, behind, value_of, rounds, rounds_first, test_of, exec}

-- what is live at the point, and where breaks and continues in front of it lead
abbrev pub ways_of : Point → Ways
ways_of [] = at_end
ways_of (statement s ∷ rest) = then_live (before s (ways_of rest)) (ways_of rest)
ways_of (condition loop ∷ rest) = for_third loop.test loop.third loop.body (ways_of rest)
ways_of (round_end loop ∷ rest) = for_body loop.test loop.third loop.body (ways_of rest)

-- is local number x live at the point?
abbrev pub live_at : Point → (x : ℕ) → Bool
live_at p x = (ways_of p).next x

-- is it live where the item leads, with the rest behind it? What only leads on reads and sets nothing.
abbrev pub live_behind : Item → (rest : Point) → (x : ℕ) → Bool
live_behind (statement (declare line y value)) rest x = live_at rest x
live_behind (statement (assign line y e)) rest x = live_at rest x
live_behind (statement (store line place e)) rest x = live_at rest x
live_behind (statement (update line place change e)) rest x = live_at rest x
live_behind (statement (copy line s left right)) rest x = live_at rest x
live_behind (statement (evaluate line e)) rest x = live_at rest x
live_behind (statement (delete line e)) rest x = live_at rest x
live_behind (statement (branch line test a b)) rest x = live_at (statement a ∷ rest) x || live_at (statement b ∷ rest) x
live_behind (statement (return line value)) rest x = false
live_behind (statement s) rest x = live_at (statement s ∷ rest) x
live_behind (condition loop) rest x = (is_some loop.test && live_at rest x) || live_at (statement loop.body ∷ round_end loop ∷ rest) x
live_behind (round_end loop) rest x = live_at (round_end loop ∷ rest) x

-- of a statement without parts: what is live where it leads
abbrev pub only : (live : ℕ → Bool) → Ways
only live = record { next = live; broken = λ x. false; continued = λ x. false }

module _ {W : Type 0} (ops : Ops W) (program : Program) where
  abbrev mutual
    pub exec_at : Stmt → Function → Calls W → (rest : Point) → List Value → W → Run W Outcome
    exec_at (block body) f calls rest env w = exec_all_at body f calls rest env w
    exec_at (branch line test a b) f calls rest env w =
        bind (value_of ops program calls (live_behind (statement (branch line test a b)) rest) test env w)
        (λ v. branching (is_true v) (exec_at a f calls rest env) (exec_at b f calls rest env))
    exec_at (while line test body) f calls rest env w =
        rounds ops program (suc (ops.turns_left w))
        (value_of ops program calls (live_behind (condition (while_loop test body)) rest) test)
        (λ again env1 w1. bind (exec_at body f calls (round_end (while_loop test body) ∷ rest) env1 w1) (behind_body again))
        env w
    exec_at (repeat line body test) f calls rest env w =
        rounds_first ops program (suc (ops.turns_left w))
        (value_of ops program calls (live_behind (condition (while_loop test body)) rest) test)
        (λ again env1 w1. bind (exec_at body f calls (round_end (while_loop test body) ∷ rest) env1 w1) (behind_body again))
        env w
    exec_at (for line first test third body) f calls rest env w =
        bind (exec_at first f calls (condition (for_loop test third body) ∷ rest) env w) (behind (λ env1 w1.
        rounds ops program (suc (ops.turns_left w1))
        (test_of ops program calls (live_behind (condition (for_loop test third body)) rest) test)
        (λ again env2 w2. bind (exec_at body f calls (round_end (for_loop test third body) ∷ rest) env2 w2)
        (behind_body (λ env3 w3. bind (exec_at third f calls (condition (for_loop test third body) ∷ rest) env3 w3) (behind again))))
        env1 w1))
    -- any other node runs as in `exec`, given what is live behind it
    exec_at s f calls rest env w = exec ops program s f calls (only (live_behind (statement s) rest)) env w

    pub exec_all_at : Stmts → Function → Calls W → (rest : Point) → List Value → W → Run W Outcome
    exec_all_at done f calls rest env w = Go (Next env) w
    exec_all_at (then s more) f calls rest env w =
        bind (exec_at s f calls (statements more rest) env w) (behind (exec_all_at more f calls rest))
