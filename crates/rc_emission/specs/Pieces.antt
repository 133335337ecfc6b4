-- What it means that a piece of stack code does what a piece of region code does, whatever comes behind it. The operands on the stack are
-- the temporaries that stand there, and the machine's locals are those of the source, with others behind them. An expression's code goes
-- on into the code behind it with its value on the stack. A statement's code begins and ends with an empty stack, and goes on behind
-- itself, or where `break` and `continue` lead, or gives a value and is done. How often it may still go back (`bound`) is no less than the
-- turns that are left.
use Rattle.std.specs.Prelude.{◌≡◌, ◌<◌, ◌≤◌, ℕ, ◌+◌, Bool, List, [], ◌∷◌, ◌++◌, length}
use Rattle.rc_core.specs.Types.{Ty}
use Rattle.rc_core.specs.Heap.{Value}
use Rattle.rc_core.specs.Live.{Ways}
use Rattle.rc_core.specs.Runs.{Run, Go, bind, Calls, Ops}
use Rattle.rc_core.specs.Evaluation.{local_at}
use Rattle.rc_rlang.specs.RegionCode.{Steps, Code, Routine}
use Rattle.rc_rlang.specs.RegionFits.{steps_types}
use Rattle.rc_rlang.specs.RegionRuns.{Temporaries, temporary, steps_run, code_run, Way, Next, Broke, Continued, Returned}
use Rattle.rc_emission.specs.StackCode.{Line, Onward, walk, run_code}
use Rattle.rc_emission.specs.StatementCode.{Place, Slots, steps_lines, code_lines}
use Rattle.rc_emission.specs.Served.{StepsServed, CodeServed}
use Rattle.rc_emission.specs.Turns.{CallsWithin}
use Rattle.rc_emission.specs.Means.{IsThere}

-- temporaries of these types, the highest first, from a base on
abbrev pub stack_of : List Ty → (base : ℕ) → Temporaries → List Value
stack_of [] base t = []
stack_of (ty ∷ tys) base t = temporary ty t (base + length tys) ∷ stack_of tys base t

-- l locals of the source, and n of the machine
pub record Mirrored (l n : ℕ) (env locals : List Value) : Type 0 where
  pub long : length locals ≡ n
  pub whole : length env ≡ l
  pub same : (x : ℕ) → x < l → local_at locals x ≡ local_at env x

module _ {W : Type 0} (ops : Ops W) (f : Routine) (s : Slots) where
  abbrev pub Mirrors : (env locals : List Value) → Type 0
  Mirrors env locals = Mirrored (length f.locals) (length (f.locals ++ s.types)) env locals

  -- an expression, from an empty stack: if what is behind it does something with its value, then both together do the expression's
  -- operations and that
  abbrev pub ExpressionsMeanTheSame : Type 0
  ExpressionsMeanTheSame = (deleting : ℕ → Bool) (calls : Calls W) (again : Onward W) (steps : Steps) (live : ℕ → Bool) (env : List Value) (rest : List Line) (next : Temporaries → W → Run W Value) →
      StepsServed (IsThere f s) f.locals steps 0 [] →
      ((t : Temporaries) (locals : List Value) (w : W) → Mirrors env locals → walk ops deleting rest calls again 0 (stack_of (steps_types steps []) 0 t) locals w ≡ next t w) →
      (t : Temporaries) (locals : List Value) (w : W) → Mirrors env locals →
      walk ops deleting (steps_lines s.slot deleting f.locals steps [] [] live ++ rest) calls again 0 [] locals w ≡ bind (steps_run ops deleting f.locals steps calls live env t w) next

  module _ (deleting : ℕ → Bool) (calls : Calls W) (code : List Line) where
    -- the function's code from a place on
    abbrev pub Stands : (place : ℕ) → List Line → Type 0
    Stands place rest = (again : Onward W) (past : ℕ) (stack locals : List Value) (w : W) → walk ops deleting code calls again (place + past) stack locals w ≡ walk ops deleting rest calls again past stack locals w

    -- from the end of a piece that stands at a place
    abbrev pub goes_on : (bound : ℕ) → List Line → Place → Way → (locals : List Value) → W → Run W Value
    goes_on bound rest p (Next env t) locals w = walk ops deleting rest calls (run_code ops deleting code calls bound) 0 [] locals w
    goes_on bound rest p (Broke env t) locals w = walk ops deleting rest calls (run_code ops deleting code calls bound) p.out [] locals w
    goes_on bound rest p (Continued env t) locals w = walk ops deleting rest calls (run_code ops deleting code calls bound) p.on [] locals w
    goes_on bound rest p (Returned v) locals w = Go v w

    abbrev pub Reflects : Way → List Value → Type 0
    Reflects (Next env t) locals = Mirrors env locals
    Reflects (Broke env t) locals = Mirrors env locals
    Reflects (Continued env t) locals = Mirrors env locals
    Reflects (Returned v) locals = Unit {0}

    -- with so many turns or fewer, what is behind a piece does this
    abbrev pub Agrees : (turns : ℕ) → List Line → Place → (Way → W → Run W Value) → Type 0
    Agrees turns rest p next = (bound : ℕ) (way : Way) (locals : List Value) (w : W) → ops.turns_left w ≤ turns → ops.turns_left w ≤ bound → Reflects way locals → goes_on bound rest p way locals w ≡ next way w

    -- with so many turns or fewer, the code does this and then what comes next
    abbrev pub Does : (turns : ℕ) → List Line → (List Value → Temporaries → W → Run W Way) → (Way → W → Run W Value) → Type 0
    Does turns lines run next = (bound : ℕ) (env : List Value) (t : Temporaries) (locals : List Value) (w : W) → ops.turns_left w ≤ turns → ops.turns_left w ≤ bound → Mirrors env locals →
        walk ops deleting lines calls (run_code ops deleting code calls bound) 0 [] locals w ≡ bind (run env t w) next

  -- a statement, in its place in a function's code
  abbrev pub StatementsMeanTheSame : Type 0
  StatementsMeanTheSame = (deleting : ℕ → Bool) (calls : Calls W) → CallsWithin ops calls → (code : List Line) (c : Code) (k : Ways) (p : Place) (rest : List Line) (next : Way → W → Run W Value) (turns : ℕ) →
      CodeServed (IsThere f s) f.locals c → Stands deleting calls code p.at (code_lines s.slot deleting f.locals c k p ++ rest) → Agrees deleting calls code turns rest p next →
      Does deleting calls code turns (code_lines s.slot deleting f.locals c k p ++ rest) (code_run ops deleting f.locals c calls k) next
