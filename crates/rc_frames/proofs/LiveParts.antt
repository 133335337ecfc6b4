-- Liveness over a list, element by element from the front.
use Rattle.std.proofs.Common.{◌≡◌, ◌<◌, ◌≤◌, ◌+◌, ℕ, refl, ap, sym, ◌∙◌, List, ◌∷◌, length, drop, get_or}
use Rattle.std.specs.Prelude.{Bool, false, ◌||◌}
use Rattle.std.proofs.lemmas.List.{at_drop_more, at_drop_all}
use Rattle.rc_core.specs.declared.expr.Expr.{Expr}
use Rattle.rc_core.specs.declared.expr.PathStep.{PathStep, Field, Element}
use Rattle.rc_core.specs.declared.stmt.Stmt.{Stmt}
use Rattle.rc_core.specs.Shapes.{expr_of, path_of, arguments_of, stmt_of, stmts_of}
use Rattle.rc_core.specs.Live.{Ways, then_live, uses, arguments_use, path_uses, before, before_all}

step : {X Y : Type 0} (F : List X → Y) (xs : List X) (i : ℕ) (x : X) → i < length xs → x ≡ get_or xs i x → F (drop i xs) ≡ F (x ∷ drop (i + 1) xs)
step F xs i x h e = at_drop_more F xs i x h ∙ ap (λ y. F (y ∷ drop (i + 1) xs)) (sym e)

pub arguments_step : (x : ℕ) (xs : List Expr) (i : ℕ) (e : Expr) → i < length xs → e ≡ get_or xs i e → arguments_use (arguments_of (drop i xs)) x ≡ (uses (expr_of e) x || arguments_use (arguments_of (drop (i + 1) xs)) x)
arguments_step x = step (λ es. arguments_use (arguments_of es) x)

pub arguments_end : (x : ℕ) (xs : List Expr) (i : ℕ) → length xs ≤ i → arguments_use (arguments_of (drop i xs)) x ≡ false
arguments_end x = at_drop_all (λ es. arguments_use (arguments_of es) x)

abbrev pub step_uses : PathStep → ℕ → Bool
step_uses (Field s f) x = false
step_uses (Element s f i) x = uses (expr_of i) x

path_unfolds : (s : PathStep) (steps : List PathStep) (x : ℕ) → path_uses (path_of (s ∷ steps)) x ≡ (step_uses s x || path_uses (path_of steps) x)
path_unfolds (Field s f) steps x = refl
path_unfolds (Element s f i) steps x = refl

pub path_step : (x : ℕ) (xs : List PathStep) (i : ℕ) (s : PathStep) → i < length xs → s ≡ get_or xs i s → path_uses (path_of (drop i xs)) x ≡ (step_uses s x || path_uses (path_of (drop (i + 1) xs)) x)
path_step x xs i s h e = step (λ steps. path_uses (path_of steps) x) xs i s h e ∙ path_unfolds s (drop (i + 1) xs) x

pub path_end : (x : ℕ) (xs : List PathStep) (i : ℕ) → length xs ≤ i → path_uses (path_of (drop i xs)) x ≡ false
path_end x = at_drop_all (λ steps. path_uses (path_of steps) x)

-- from the back of a list of statements
pub body_step : (k : Ways) (x : ℕ) (xs : List Stmt) (i : ℕ) (s : Stmt) → i < length xs → s ≡ get_or xs i s → before_all (stmts_of (drop i xs)) k x ≡ before (stmt_of s) (then_live (before_all (stmts_of (drop (i + 1) xs)) k) k) x
body_step k x = step (λ body. before_all (stmts_of body) k x)

pub body_end : (k : Ways) (x : ℕ) (xs : List Stmt) (i : ℕ) → length xs ≤ i → before_all (stmts_of (drop i xs)) k x ≡ k.next x
body_end k x = at_drop_all (λ body. before_all (stmts_of body) k x)
