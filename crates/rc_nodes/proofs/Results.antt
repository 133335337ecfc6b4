-- What an answer's clauses say together.
use Rattle.std.proofs.Common.{◌≡◌, ℕ, zero, suc, List, [], ◌∷◌, Result, Ok, Err, IfOk, IfErr, refl, sym, ap, ◌∙◌, Some, None}
use Rattle.std.specs.Prelude.{slice_get}
use Rattle.rc_base.specs.declared.ends.RunFault.TheVariants.{Memory}
use Rattle.rc_core.specs.declared.stmt.Stmt.{Stmt as CodeStmt}
use Rattle.rc_core.specs.Heap.{Value}
use Rattle.rc_core.specs.Programs.{Stmts, Function, Program, block, done, then}
use Rattle.rc_core.specs.Runs.{Run, Go, bind}
use Rattle.rc_core.specs.Shapes.{stmt_of, stmts_of}
use Rattle.rc_nodes.specs.declared.control.Control.{Control as CodeControl}
use Rattle.rc_values.specs.declared.stop.Stop.{Stop as CodeStop}
use Rattle.rc_values.specs.declared.stop.Stop.TheVariants.{Ends, Stale, Cut}
use Rattle.rc_frames.specs.Codes.{behind_so_many}
use Rattle.rc_nodes.specs.Controls.{control_of}
use Rattle.rc_nodes.specs.Coming.{Comes}
use Rattle.rc_memory.specs.Leaving.{StopsRun}
use Rattle.rc_frames.specs.Frames.{Frame}
use Rattle.rc_memory.specs.KeptWorld.{KeptWorld}
use Rattle.rc_nodes.specs.Stepping.{Doing, doing, execute, within_step}

pub if_ok_map : {T E : Type 0} (r : Result T E) (P Q : T → Type 0) → ((x : T) → P x → Q x) → IfOk r P → IfOk r Q
if_ok_map (Ok x) P Q f h = f x h
if_ok_map (Err e) P Q f h = tt

only_memory : {A : Type 0} (stop : CodeStop) (w : KeptWorld) (run : Run KeptWorld A) → stop ≡ Cut Memory → StopsRun stop w run
only_memory stop w run is = rw is refl

-- it goes on as said, or there is no memory
pub comes_doing : (r : Result CodeControl CodeStop) (d : Doing) (fs : List Frame) (env : List Value) (w : KeptWorld) (run : Run KeptWorld Doing) → run ≡ Go d w → IfOk r (λ c. d ≡ doing (control_of c) fs env) → IfErr r (λ stop. stop ≡ Cut Memory) → Comes r fs env w.heap w run
comes_doing (Ok c) d fs env w run is ok err = is ∙ ap (λ e. Go e w) ok
comes_doing (Err stop) d fs env w run is ok err = only_memory stop w run err

pub behind_none : (rest : Stmts) → behind_so_many 0 rest ≡ rest
behind_none done = refl
behind_none (then s rest) = refl

-- a block begins as it goes on
pub block_begins : (program : Program) (f : Function) (body : Stmts) (fs : List Frame) (env : List Value) (w : KeptWorld) → execute program f (block body) fs env w ≡ within_step program (block body) (behind_so_many 0 body) fs env
block_begins program f done fs env w = refl
block_begins program f (then s rest) fs env w = refl

pub block_ends : (n : ℕ) (body : List CodeStmt) → slice_get body n ≡ None → behind_so_many n (stmts_of body) ≡ done
block_ends n [] is = refl
block_ends zero (s ∷ body) is = absurd cc
block_ends (suc n) (s ∷ body) is = block_ends n body is

pub block_next : (n : ℕ) (body : List CodeStmt) (s : CodeStmt) → slice_get body n ≡ Some s → behind_so_many n (stmts_of body) ≡ then (stmt_of s) (behind_so_many (suc n) (stmts_of body))
block_next n [] s is = absurd cc
block_next zero (x ∷ body) s is = let e : x ≡ s = cc in ap (λ y. then (stmt_of y) (stmts_of body)) e ∙ ap (then (stmt_of s)) (sym (behind_none (stmts_of body)))
block_next (suc n) (x ∷ body) s is = block_next n body s is

pub stops_on : {A B : Type 0} (stop : CodeStop) (w : KeptWorld) (m : Run KeptWorld A) (next : A → KeptWorld → Run KeptWorld B) → StopsRun stop w m → StopsRun stop w (bind m next)
stops_on (Ends end) w m next is = ap (λ r. bind r next) is
stops_on (Stale line) w m next is = ap (λ r. bind r next) is
stops_on (Cut fault) w m next is = is

pub comes_run : (r : Result CodeControl CodeStop) (fs : List Frame) (env : List Value) (w : KeptWorld) (run : Run KeptWorld Doing) → IfOk r (λ c. run ≡ Go (doing (control_of c) fs env) w) → IfErr r (λ stop. stop ≡ Cut Memory) → Comes r fs env w.heap w run
comes_run (Ok c) fs env w run ok err = ok
comes_run (Err stop) fs env w run ok err = only_memory stop w run err
