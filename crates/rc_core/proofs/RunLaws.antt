-- The laws of runs.
use Rattle.std.proofs.Common.{◌≡◌, ◌≢◌, ℕ, ◌<◌, ◌≤◌, ◌+◌, ◌-◌, Bool, false, List, Option, Some, None, refl, sym, ap, subst, arith}
use Rattle.rc_base.specs.declared.ends.End.TheVariants.{Spent}
use Rattle.rc_base.specs.declared.ends.Limits.{Limits}
use Rattle.rc_core.specs.Programs.{Expr, Stmt, Function, Program}
use Rattle.rc_core.specs.Heap.{Value, live}
use Rattle.rc_core.specs.Live.{Ways}
use Rattle.rc_core.specs.Runs.{Stop, Ends, Run, Go, Stopped}
use Rattle.rc_core.specs.Execution.{value_of, exec, calls_within, run_main}
use Rattle.rc_core.specs.Source.{World, source}
use Rattle.rc_core.specs.Meaning.{meaning, meaning_of_run, left, left_by_run, first_world, run_of}
use Rattle.rc_core.specs.Laws.{world_after, stop_of, Always}
use Rattle.rc_core.proofs.Follows.{Follows, goes, stops, spends, outlasts, is_spent, Within, Alike, value_follows, exec_follows, calls_follow, main_follows}
use Rattle.rc_core.proofs.Grows.{Later, later_refl, later_trans}
use Rattle.rc_core.proofs.SourceFollows.{with_turns, Same, source_alike}

-- the same run twice, from a world on
abbrev Out : World → Type 0
Out w = w.turns ≡ 0

abbrev Never : World → Type 0
Never w = ⊥

abbrev Twice : World → World → World → Type 0
Twice u = Same (λ n. n) (λ n. omega arith) (λ n. refl) Out Never (λ w. Later u w) (λ v w a b. later_trans u v w b a)

alike : (u : World) → Alike (Twice u) Out Never source source
alike u = source_alike (λ n. n) (λ n. omega arith) (λ n. refl) Out Never (λ w. Later u w) (λ v w a b. later_trans u v w b a) (λ w i e. spends w w e ((i, refl), omega arith))

abbrev Again : World → {A : Type 0} → Run World A → Run World A → Type 0
Again u m n = Follows (Within (Twice u) source u.turns) (Within (Twice u) source u.turns) Out Never m n

from_here : (u : World) → Within (Twice u) source u.turns u u
from_here u = ((later_refl u, refl), omega arith)

call_again : (program : Program) (n m f : ℕ) (xs : List Value) (w : World) → w.turns < n → w.turns < m → Again w (calls_within source program n f xs w) (calls_within source program m f xs w)
call_again program n m f xs w lt lt' = calls_follow (Twice w) Out Never source source (alike w) program n m w.turns lt lt' w.turns (omega arith) f xs w w (from_here w)

statement_again : (program : Program) (n : ℕ) (s : Stmt) (f : Function) (k : Ways) (locals : List Value) (w : World) → w.turns < n →
    Again w (exec source program s f (calls_within source program n) k locals w) (exec source program s f (calls_within source program n) k locals w)
statement_again program n s f k locals w lt =
    exec_follows (Twice w) Out Never source source (alike w) program s f _ _ w.turns (calls_follow (Twice w) Out Never source source (alike w) program n n w.turns lt lt) k locals w w (from_here w)

expression_again : (program : Program) (n : ℕ) (live : ℕ → Bool) (e : Expr) (locals : List Value) (w : World) → w.turns < n →
    Again w (value_of source program (calls_within source program n) live e locals w) (value_of source program (calls_within source program n) live e locals w)
expression_again program n live e locals w lt =
    value_follows (Twice w) Out Never source source (alike w) program _ _ w.turns (calls_follow (Twice w) Out Never source source (alike w) program n n w.turns lt lt) live e locals w w (from_here w)

abbrev stop_is_spent : Option Stop → Bool
stop_is_spent None = false
stop_is_spent (Some s) = is_spent s

ends_later : {A : Type 0} (u : World) {m n : Run World A} → Again u m n → Later u (world_after m)
ends_later u (goes x w v r) = r.0.0
ends_later u (stops s w v i r) = r.0.0
ends_later u (spends w v o r) = r.0.0
ends_later u (outlasts w m o) = absurd o

ends_out : {A : Type 0} (u : World) {m n : Run World A} → Again u m n → stop_of m ≡ Some (Ends Spent) → (world_after m).turns ≡ 0
ends_out u (goes x w v r) e = let f = ap stop_is_spent e in cc
ends_out u (stops s w v i r) e = let f = ap stop_is_spent e in cc
ends_out u (spends w v o r) e = o
ends_out u (outlasts w m o) e = absurd o

ends_same : {A : Type 0} (u : World) {m n : Run World A} → Again u m n → m ≡ n
ends_same u (goes x w v r) = ap (λ y. Go x y) (sym r.0.1)
ends_same u (stops s w v i r) = ap (λ y. Stopped s y) (sym r.0.1)
ends_same u (spends w v o r) = ap (λ y. Stopped (Ends Spent) y) (sym r.0.1)
ends_same u (outlasts w m o) = absurd o

-- what follows from the one relation on worlds always holds
pub always : (Holds : World → Option Stop → World → Type 0) → ((u w : World) (s : Option Stop) → Later u w → Holds u s w) → Always Holds
always Holds h = record {
  expression = λ program n live e locals w lt. h w _ _ (ends_later w (expression_again program n live e locals w lt));
  statement = λ program n s f k locals w lt. h w _ _ (ends_later w (statement_again program n s f k locals w lt));
  call = λ program n f xs w lt. h w _ _ (ends_later w (call_again program n n f xs w lt lt));
}

pub spent_at_none : Always (λ before stop after. stop ≡ Some (Ends Spent) → after.turns ≡ 0)
spent_at_none = record {
  expression = λ program n live e locals w lt. ends_out w (expression_again program n live e locals w lt);
  statement = λ program n s f k locals w lt. ends_out w (statement_again program n s f k locals w lt);
  call = λ program n f xs w lt. ends_out w (call_again program n n f xs w lt lt);
}

pub enough : (program : Program) (n m f : ℕ) (xs : List Value) (w : World) → w.turns < n → w.turns < m → calls_within source program n f xs w ≡ calls_within source program m f xs w
enough program n m f xs w lt lt' = ends_same w (call_again program n m f xs w lt lt')

-- with so many turns more
abbrev Outlasts : World → Type 0
Outlasts w = Unit {0}

abbrev More : ℕ → World → World → Type 0
More d = Same (λ n. n + d) (λ n. omega arith) (λ n. omega arith) Never Outlasts (λ w. Unit {0}) (λ v w a b. tt)

more_alike : (d : ℕ) → Alike (More d) Never Outlasts source source
more_alike d = source_alike (λ n. n + d) (λ n. omega arith) (λ n. omega arith) Never Outlasts (λ w. Unit {0}) (λ v w a b. tt) (λ w i e. outlasts w _ tt)

abbrev Longer : ℕ → ℕ → {A : Type 0} → Run World A → Run World A → Type 0
Longer d b m n = Follows (Within (More d) source b) (Within (More d) source b) Never Outlasts m n

run_longer : (d : ℕ) (program : Program) (w : World) → Longer d w.turns (run_main source program w) (run_main source program (with_turns (λ n. n + d) w))
run_longer d program w = main_follows (More d) Never Outlasts source source (more_alike d) program w _ (tt, refl)

meaning_longer : (d b : ℕ) (input : List ℕ) {m n : Run World Value} → Longer d b m n → (meaning_of_run input m).end ≢ Ends Spent → meaning_of_run input n ≡ meaning_of_run input m
meaning_longer d b input (goes x w v r) h = ap (λ y. meaning_of_run input (Go x y)) r.0.1
meaning_longer d b input (stops s w v i r) h = ap (λ y. meaning_of_run input (Stopped s y)) r.0.1
meaning_longer d b input (spends w v o r) h = absurd o
meaning_longer d b input (outlasts w m o) h = absurd (h refl)

left_longer : (d b : ℕ) (input : List ℕ) {m n : Run World Value} → Longer d b m n → (meaning_of_run input m).end ≢ Ends Spent → left_by_run n ≡ left_by_run m
left_longer d b input (goes x w v r) h = ap (λ y. left_by_run (Go x y)) r.0.1
left_longer d b input (stops s w v i r) h = refl
left_longer d b input (spends w v o r) h = absurd o
left_longer d b input (outlasts w m o) h = absurd (h refl)

run_under : (program : Program) (input : List ℕ) (limits : Limits) (turns : ℕ) → limits.turns ≤ turns →
    Longer (turns - limits.turns) limits.turns (run_of program input limits) (run_of program input (record limits { turns = turns }))
run_under program input limits turns le =
    subst (λ n. Longer (turns - limits.turns) limits.turns (run_of program input limits) (run_of program input (record limits { turns = n })))
    (turns_are limits.turns turns le) (run_longer (turns - limits.turns) program (first_world program input limits))
  where
    turns_are : (a b : ℕ) → a ≤ b → a + (b - a) ≡ b
    turns_are a b le = omega (arith, le)

pub meaning_under : (program : Program) (input : List ℕ) (limits : Limits) (turns : ℕ) → limits.turns ≤ turns → (meaning program input limits).end ≢ Ends Spent → meaning program input (record limits { turns = turns }) ≡ meaning program input limits
meaning_under program input limits turns le h = meaning_longer _ _ input (run_under program input limits turns le) h

pub left_under : (program : Program) (input : List ℕ) (limits : Limits) (turns : ℕ) → limits.turns ≤ turns → (meaning program input limits).end ≢ Ends Spent → left program input (record limits { turns = turns }) ≡ left program input limits
left_under program input limits turns le h = left_longer _ _ input (run_under program input limits turns le) h
