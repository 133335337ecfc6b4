-- A total over a list, element by element from the front.
use Rattle.std.proofs.Common.{◌≡◌, ◌<◌, ◌≤◌, ◌+◌, ℕ, zero, suc, refl, ap, sym, ◌∙◌, arith, List, [], ◌∷◌, length, drop}
use Rattle.std.specs.List.{take-map, drop-map}
use Rattle.std.specs.Prelude.{Option, Some, None, MatchOption, option_map, max, get_or, take, true, false, cond, ◌*◌, map, count_by}
use Rattle.std.proofs.lemmas.List.Sums.{sum_by-cons}
use Rattle.std.proofs.Math.Seq.{drop-cons}
use Rattle.rc_core.specs.declared.expr.Expr.{Expr}
use Rattle.rc_core.specs.declared.expr.PathStep.{PathStep, Field, Element}
use Rattle.rc_core.specs.declared.stmt.Stmt.{Stmt}
use Rattle.rc_core.specs.declared.parts.Function.{Function}
use Rattle.rc_core.specs.declared.ty.Ty.{Ty}
use Rattle.rc_core.specs.Programs.{Struct}
use Rattle.rc_core.specs.Shapes.{expr_of, path_of, arguments_of, stmt_of, stmts_of, ty_of, function_of}
use Rattle.rc_rlang.specs.Points.{points, arguments_points, path_points, statement_points, body_points}
use Rattle.rc_core.specs.Typing.{is_reference}
use Rattle.rc_rlang.specs.Variables.{statement_temporaries, end_temporaries, function_temporaries, region_variables}

pub total_step : {X : Type 0} (one : X → ℕ) (total : List X → ℕ) → ((x : X) (xs : List X) → total (x ∷ xs) ≡ one x + total xs) → (xs : List X) (i : ℕ) (x : X) → i < length xs → x ≡ get_or xs i x → total (drop i xs) ≡ one x + total (drop (i + 1) xs)
total_step one total unfolds xs i x h e =
    ap total (drop-cons xs i x h) ∙ ap (λ y. total (y ∷ drop (suc i) xs)) (sym e) ∙ unfolds x (drop (suc i) xs) ∙ ap (λ j. one x + total (drop j xs)) (let k : suc i ≡ i + 1 = omega arith in k)

pub total_end : {X : Type 0} (total : List X → ℕ) (xs : List X) (i : ℕ) → length xs ≤ i → total (drop i xs) ≡ total []
total_end total [] zero h = refl
total_end total [] (suc i) h = refl
total_end total (x ∷ xs) zero h = absurd (omega arith)
total_end total (x ∷ xs) (suc i) h = total_end total xs i (omega arith)

pub arguments_step : (xs : List Expr) (i : ℕ) (x : Expr) → i < length xs → x ≡ get_or xs i x → arguments_points (arguments_of (drop i xs)) ≡ points (expr_of x) + arguments_points (arguments_of (drop (i + 1) xs))
arguments_step = total_step (λ e. points (expr_of e)) (λ es. arguments_points (arguments_of es)) (λ e es. refl)

pub arguments_end : (xs : List Expr) (i : ℕ) → length xs ≤ i → arguments_points (arguments_of (drop i xs)) ≡ 0
arguments_end = total_end (λ es. arguments_points (arguments_of es))

abbrev pub step_points : PathStep → ℕ
step_points (Field s f) = 0
step_points (Element s f i) = points (expr_of i)

path_unfolds : (s : PathStep) (steps : List PathStep) → path_points (path_of (s ∷ steps)) ≡ step_points s + path_points (path_of steps)
path_unfolds (Field s f) steps = omega arith
path_unfolds (Element s f i) steps = refl

pub path_step : (xs : List PathStep) (i : ℕ) (x : PathStep) → i < length xs → x ≡ get_or xs i x → path_points (path_of (drop i xs)) ≡ step_points x + path_points (path_of (drop (i + 1) xs))
path_step = total_step step_points (λ steps. path_points (path_of steps)) path_unfolds

pub path_end : (xs : List PathStep) (i : ℕ) → length xs ≤ i → path_points (path_of (drop i xs)) ≡ 0
path_end = total_end (λ steps. path_points (path_of steps))

pub body_step : (structs : List Struct) (xs : List Stmt) (i : ℕ) (x : Stmt) → i < length xs → x ≡ get_or xs i x → body_points structs (stmts_of (drop i xs)) ≡ statement_points structs (stmt_of x) + body_points structs (stmts_of (drop (i + 1) xs))
body_step structs = total_step (λ s. statement_points structs (stmt_of s)) (λ body. body_points structs (stmts_of body)) (λ s body. refl)

pub body_end : (structs : List Struct) (xs : List Stmt) (i : ℕ) → length xs ≤ i → body_points structs (stmts_of (drop i xs)) ≡ 0
body_end structs = total_end (λ body. body_points structs (stmts_of body))

count_unfolds : (t : Ty) (types : List Ty) → count_by is_reference (map ty_of (t ∷ types)) ≡ cond (is_reference (ty_of t)) 1 0 + count_by is_reference (map ty_of types)
count_unfolds t types = sum_by-cons (λ u. cond (is_reference u) 1 0) (ty_of t) (map ty_of types)

references_step : (xs : List Ty) (i : ℕ) (x : Ty) → i < length xs → x ≡ get_or xs i x → count_by is_reference (map ty_of (drop i xs)) ≡ cond (is_reference (ty_of x)) 1 0 + count_by is_reference (map ty_of (drop (i + 1) xs))
references_step = total_step (λ t. cond (is_reference (ty_of t)) 1 0) (λ types. count_by is_reference (map ty_of types)) count_unfolds

pub reference_more : (each : ℕ) (xs : List Ty) (i : ℕ) (x : Ty) → i < length xs → x ≡ get_or xs i x → is_reference (ty_of x) ≡ true → each * count_by is_reference (map ty_of (drop i xs)) ≡ each + each * count_by is_reference (map ty_of (drop (i + 1) xs))
reference_more each xs i x b e r =
    let s = references_step xs i x b e in let one : cond (is_reference (ty_of x)) 1 0 ≡ 1 = ap (λ c. cond c 1 0) r in
    ap (λ n. each * n) (s ∙ ap (λ n. n + count_by is_reference (map ty_of (drop (i + 1) xs))) one) ∙ omega arith

pub reference_none : (each : ℕ) (xs : List Ty) (i : ℕ) (x : Ty) → i < length xs → x ≡ get_or xs i x → is_reference (ty_of x) ≡ false → each * count_by is_reference (map ty_of (drop i xs)) ≡ each * count_by is_reference (map ty_of (drop (i + 1) xs))
reference_none each xs i x b e r =
    let s = references_step xs i x b e in let none : cond (is_reference (ty_of x)) 1 0 ≡ 0 = ap (λ c. cond c 1 0) r in
    ap (λ n. each * n) (s ∙ ap (λ n. n + count_by is_reference (map ty_of (drop (i + 1) xs))) none ∙ omega arith)

pub references_end : (each : ℕ) (xs : List Ty) (i : ℕ) → length xs ≤ i → each * count_by is_reference (map ty_of (drop i xs)) ≡ 0
references_end each xs i h = ap (λ n. each * n) (total_end (λ types. count_by is_reference (map ty_of types)) xs i h) ∙ omega arith

-- the types of the parameters, and those of the other locals
pub first_types : (n : ℕ) (types : List Ty) → take n (map ty_of types) ≡ map ty_of (take n types)
first_types n types = take-map ty_of n types

pub other_types : (n : ℕ) (types : List Ty) → drop n (map ty_of types) ≡ map ty_of (drop n types)
other_types n types = drop-map ty_of n types

-- what is left of 128 behind the temporaries, the parameters and the other locals
pub all_variables : (n : ℕ) (types : List Ty) (t behind mid : ℕ) (r : Option ℕ) →
    mid + 2 * count_by is_reference (map ty_of (take n types)) ≡ behind → behind + (t + 2) ≡ 128 →
    MatchOption r (mid < 1 * count_by is_reference (map ty_of (drop n types))) (λ x. x + 1 * count_by is_reference (map ty_of (drop n types)) ≡ mid) →
    MatchOption r (128 < 2 * count_by is_reference (take n (map ty_of types)) + count_by is_reference (drop n (map ty_of types)) + t + 2)
    (λ x. x + (2 * count_by is_reference (take n (map ty_of types)) + count_by is_reference (drop n (map ty_of types)) + t + 2) ≡ 128)
all_variables n types t behind mid None p q h = rw (first_types n types) (rw (other_types n types) (omega arith))
all_variables n types t behind mid (Some x) p q h = rw (first_types n types) (rw (other_types n types) (omega arith))

pub variables_are : (f : Function) (items front back : List Ty) (body most behind mid : ℕ) (r : Option ℕ) →
    items ≡ f.locals.items → front ≡ take f.parameters items → back ≡ drop f.parameters items →
    body ≡ statement_temporaries (stmt_of f.body) → most ≡ max body (end_temporaries (option_map ty_of f.result)) →
    behind + (most + 2) ≡ 128 → mid + 2 * count_by is_reference (map ty_of front) ≡ behind →
    MatchOption r (mid < 1 * count_by is_reference (map ty_of back)) (λ x. x + 1 * count_by is_reference (map ty_of back) ≡ mid) →
    MatchOption r (128 < region_variables (function_of f)) (λ x. x + region_variables (function_of f) ≡ 128)
variables_are f items front back body most behind mid r i h k b m p q e =
    all_variables f.parameters f.locals.items (function_temporaries (function_of f)) behind mid r
    (rw (sym i) (rw (sym h) q)) (rw (sym b) (rw (sym m) p)) (rw (sym i) (rw (sym k) e))
