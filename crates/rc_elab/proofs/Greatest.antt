-- The greatest temporary over a list, element by element from the front.
use Rattle.std.proofs.Common.{◌≡◌, ◌<◌, ◌≤◌, ◌+◌, ℕ, suc, refl, ap, sym, ◌∙◌, arith, List, ◌∷◌, length, drop}
use Rattle.std.specs.Prelude.{get_or, max}
use Rattle.std.proofs.Math.Seq.{drop-cons}
use Rattle.rc_core.specs.declared.expr.Expr.{Expr}
use Rattle.rc_core.specs.declared.expr.PathStep.{PathStep, Field, Element}
use Rattle.rc_core.specs.declared.stmt.Stmt.{Stmt}
use Rattle.rc_core.specs.Shapes.{expr_of, path_of, arguments_of, stmt_of, stmts_of}
use Rattle.rc_rlang.specs.Variables.{statement_temporaries, body_temporaries, temporaries, arguments_temporaries, path_temporaries, path_next}
use Rattle.rc_elab.proofs.Totals.{total_end}

-- the element at the front of what is left
pub front : {X : Type 0} (xs : List X) (i : ℕ) (x : X) → i < length xs → x ≡ get_or xs i x → drop i xs ≡ x ∷ drop (i + 1) xs
front xs i x h e = drop-cons xs i x h ∙ ap (λ y. y ∷ drop (suc i) xs) (sym e) ∙ ap (λ j. x ∷ drop j xs) (let k : suc i ≡ i + 1 = omega arith in k)

pub arguments_step : (xs : List Expr) (i h : ℕ) (x : Expr) → i < length xs → x ≡ get_or xs i x → arguments_temporaries (arguments_of (drop i xs)) h ≡ max (temporaries (expr_of x) h) (arguments_temporaries (arguments_of (drop (i + 1) xs)) (suc h))
arguments_step xs i h x b e = ap (λ ys. arguments_temporaries (arguments_of ys) h) (front xs i x b e)

pub arguments_end : (xs : List Expr) (i h : ℕ) → length xs ≤ i → arguments_temporaries (arguments_of (drop i xs)) h ≡ 0
arguments_end xs i h = total_end (λ es. arguments_temporaries (arguments_of es) h) xs i

abbrev pub step_temporaries : PathStep → (h : ℕ) → ℕ
step_temporaries (Field s f) h = 0
step_temporaries (Element s f i) h = temporaries (expr_of i) h

abbrev pub step_next : PathStep → (h : ℕ) → ℕ
step_next (Field s f) h = h
step_next (Element s f i) h = suc h

unfolds_next : (s : PathStep) (steps : List PathStep) (h : ℕ) → path_next (path_of (s ∷ steps)) h ≡ path_next (path_of steps) (step_next s h)
unfolds_next (Field s f) steps h = refl
unfolds_next (Element s f i) steps h = refl

unfolds_most : (s : PathStep) (steps : List PathStep) (h : ℕ) → path_temporaries (path_of (s ∷ steps)) h ≡ max (step_temporaries s h) (path_temporaries (path_of steps) (step_next s h))
unfolds_most (Field s f) steps h = omega arith
unfolds_most (Element s f i) steps h = refl

pub path_step : (xs : List PathStep) (i h : ℕ) (x : PathStep) → i < length xs → x ≡ get_or xs i x → path_temporaries (path_of (drop i xs)) h ≡ max (step_temporaries x h) (path_temporaries (path_of (drop (i + 1) xs)) (step_next x h))
path_step xs i h x b e = ap (λ ys. path_temporaries (path_of ys) h) (front xs i x b e) ∙ unfolds_most x (drop (i + 1) xs) h

pub next_step : (xs : List PathStep) (i h : ℕ) (x : PathStep) → i < length xs → x ≡ get_or xs i x → path_next (path_of (drop i xs)) h ≡ path_next (path_of (drop (i + 1) xs)) (step_next x h)
next_step xs i h x b e = ap (λ ys. path_next (path_of ys) h) (front xs i x b e) ∙ unfolds_next x (drop (i + 1) xs) h

pub path_end : (xs : List PathStep) (i h : ℕ) → length xs ≤ i → path_temporaries (path_of (drop i xs)) h ≡ 0
path_end xs i h = total_end (λ steps. path_temporaries (path_of steps) h) xs i

pub next_end : (xs : List PathStep) (i h : ℕ) → length xs ≤ i → path_next (path_of (drop i xs)) h ≡ h
next_end xs i h = total_end (λ steps. path_next (path_of steps) h) xs i

pub body_step : (xs : List Stmt) (i : ℕ) (x : Stmt) → i < length xs → x ≡ get_or xs i x → body_temporaries (stmts_of (drop i xs)) ≡ max (statement_temporaries (stmt_of x)) (body_temporaries (stmts_of (drop (i + 1) xs)))
body_step xs i x b e = ap (λ ys. body_temporaries (stmts_of ys)) (front xs i x b e)

pub body_end : (xs : List Stmt) (i : ℕ) → length xs ≤ i → body_temporaries (stmts_of (drop i xs)) ≡ 0
body_end xs i = total_end (λ body. body_temporaries (stmts_of body)) xs i
