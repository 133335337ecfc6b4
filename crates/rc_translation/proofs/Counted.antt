-- The translation has as many points as the program is counted to have.
use Rattle.std.proofs.Common.{◌≡◌, ℕ, suc, ◌+◌, ◌*◌, Bool, true, false, List, [], ◌∷◌, map, Some, None, refl, ap, ◌∙◌, arith}
use Rattle.std.specs.Prelude.{sum}
use Rattle.rc_core.specs.declared.operators.UnaryOperator.TheVariants.{Negate, Plus, Complement}
use Rattle.rc_core.specs.Types.{Ty, struct}
use Rattle.rc_core.specs.Layout.{size}
use Rattle.rc_core.specs.Programs.{Expr, constant, null, string, local, read, address, step, step_from, unary, binary, convert, not_zero, and, or, choose, is_null, same, call, new_region, new_subregion, region_of, allocate, allocate_array, putchar, getchar, Arguments, none, more, Place, global, pointed, indexed, Path, here, field, element, Stmt, block, declare, assign, store, update, copy, evaluate, delete, branch, while, repeat, for, break, continue, return, Stmts, done, then, Function, Program}
use Rattle.rc_rlang.specs.Points.{points, change_points, end_points, arguments_points, place_points, path_points, condition_points, statement_points, body_points, function_points, program_points}
use Rattle.rc_rlang.specs.RegionCode as To
use Rattle.rc_rlang.specs.RegionCode.{Steps, both, one}
use Rattle.rc_rlang.specs.RegionPoints.{steps_points, code_points, codes_points, routine_points, rlang_points}
use Rattle.rc_translation.specs.Translation.{expression_type, has_result, one_of, evaluate_code, argument_types, parameter_types, expression_code, arguments_code, place_code, path_code, whole, condition_code, statement_code, body_code, routine_of, region_of_program}

pub record Counts (steps : Steps) (n : ℕ) : Type 0 where
  pub is : steps_points steps ≡ n

points_both : (a b : Steps) → steps_points (both a b) ≡ steps_points a + steps_points b
points_both To.none b = let e : steps_points b ≡ 0 + steps_points b = omega arith in e
points_both (To.more s a) b = let e = points_both a b in omega (arith, e)

-- parts one behind the other, and the operation behind them
two : (a b : Steps) (n m : ℕ) → Counts a n → Counts b m → Counts (both a b) (n + m)
two a b n m ha hb = record { is = let e = points_both a b in let x = ha.is in let y = hb.is in omega (arith, e, x, y) }

to : (a : Steps) (n m : ℕ) → n ≡ m → Counts a n → Counts a m
to a n m e h = record { is = h.is ∙ e }

last : (line h : ℕ) (ty : Ty) (op : To.Operation) → Counts (one (To.set line h ty op)) 1
last line h ty op = record { is = refl }

forked : (line h : ℕ) (test result : Ty) (a b : Steps) (n m : ℕ) → Counts a n → Counts b m → Counts (one (To.fork line h test result a b)) (1 + n + m)
forked line h test result a b n m ha hb = record { is = let x = ha.is in let y = hb.is in omega (arith, x, y) }

module _ (program : Program) (locals : List Ty) where
  mutual
    pub expression_counts : (e : Expr) (ty : Ty) (h : ℕ) → Counts (expression_code program locals e ty h) (points e)
    expression_counts (constant line s n) ty h = record { is = refl }
    expression_counts (null line) ty h = record { is = refl }
    expression_counts (string line k) ty h = record { is = refl }
    expression_counts (local line y) ty h = record { is = refl }
    expression_counts (read line place) ty h = two _ _ _ _ (place_counts line place h) (last line h ty _)
    expression_counts (address line g) ty h = record { is = refl }
    expression_counts (step line direction p i) ty h = to _ _ _ (omega arith) (two _ _ _ _ (expression_counts p _ h) (two _ _ _ _ (expression_counts i _ (suc h)) (last line h ty _)))
    expression_counts (step_from line i p) ty h = to _ _ _ (omega arith) (two _ _ _ _ (expression_counts i _ h) (two _ _ _ _ (expression_counts p _ (suc h)) (last line h ty _)))
    expression_counts (unary line Negate s e) ty h = two _ _ _ _ (expression_counts e _ h) (last line h ty _)
    expression_counts (unary line Plus s e) ty h = to _ _ _ (omega arith) (expression_counts e ty h)
    expression_counts (unary line Complement s e) ty h = two _ _ _ _ (expression_counts e _ h) (last line h ty _)
    expression_counts (binary line operator s a b) ty h = to _ _ _ (omega arith) (two _ _ _ _ (expression_counts a _ h) (two _ _ _ _ (expression_counts b _ (suc h)) (last line h ty _)))
    expression_counts (convert line from to e) ty h = two _ _ _ _ (expression_counts e _ h) (last line h ty _)
    expression_counts (not_zero line e) ty h = two _ _ _ _ (expression_counts e _ h) (last line h ty _)
    expression_counts (and line a b) ty h = to _ _ _ (omega arith) (two _ _ _ _ (expression_counts a _ h) (forked line h _ ty _ _ _ _ (two _ _ _ _ (expression_counts b _ h) (last line h ty _)) (last line h ty _)))
    expression_counts (or line a b) ty h = to _ _ _ (omega arith) (two _ _ _ _ (expression_counts a _ h) (forked line h _ ty _ _ _ _ (last line h ty _) (two _ _ _ _ (expression_counts b _ h) (last line h ty _))))
    expression_counts (choose line test a b) ty h = to _ _ _ (omega arith) (two _ _ _ _ (expression_counts test _ h) (forked line h _ ty _ _ _ _ (expression_counts a ty h) (expression_counts b ty h)))
    expression_counts (is_null line wanted e) ty h = two _ _ _ _ (expression_counts e _ h) (last line h ty _)
    expression_counts (same line wanted a b) ty h = to _ _ _ (omega arith) (two _ _ _ _ (expression_counts a _ h) (two _ _ _ _ (expression_counts b _ (suc h)) (last line h ty _)))
    expression_counts (call line f es) ty h = two _ _ _ _ (arguments_count es _ h) (last line h ty _)
    expression_counts (new_region line) ty h = record { is = refl }
    expression_counts (new_subregion line r) ty h = two _ _ _ _ (expression_counts r _ h) (last line h ty _)
    expression_counts (region_of line p) ty h = two _ _ _ _ (expression_counts p _ h) (last line h ty _)
    expression_counts (allocate line r made) ty h = two _ _ _ _ (expression_counts r _ h) (last line h ty _)
    expression_counts (allocate_array line r n made) ty h = to _ _ _ (omega arith) (two _ _ _ _ (expression_counts r _ h) (two _ _ _ _ (expression_counts n _ (suc h)) (last line h ty _)))
    expression_counts (putchar line e) ty h = two _ _ _ _ (expression_counts e _ h) (last line h ty _)
    expression_counts (getchar line) ty h = record { is = refl }

    pub arguments_count : (es : Arguments) (tys : List Ty) (h : ℕ) → Counts (arguments_code program locals es tys h) (arguments_points es)
    arguments_count none tys h = record { is = refl }
    arguments_count (more e es) [] h = two _ _ _ _ (expression_counts e _ h) (arguments_count es [] (suc h))
    arguments_count (more e es) (ty ∷ tys) h = two _ _ _ _ (expression_counts e _ h) (arguments_count es tys (suc h))

    pub place_counts : (line : ℕ) (place : Place) (h : ℕ) → Counts (place_code program locals line place h) (place_points place)
    place_counts line (global g path) h = record { is = ap (λ n. 1 + n) (path_counts path (suc h)).is }
    place_counts line (pointed p path) h = two _ _ _ _ (expression_counts p _ h) (path_counts path (suc h))
    place_counts line (indexed p i path) h = to _ _ _ (omega arith) (two _ _ _ _ (expression_counts p _ h) (two _ _ _ _ (expression_counts i _ (suc h)) (path_counts path (suc (suc h)))))

    path_counts : (path : Path) (h : ℕ) → Counts (path_code program locals path h) (path_points path)
    path_counts here h = record { is = refl }
    path_counts (field s f rest) h = path_counts rest h
    path_counts (element s f i rest) h = two _ _ _ _ (expression_counts i _ h) (path_counts rest (suc h))

  pub condition_counts : (e : Expr) → steps_points (condition_code program locals e) + 1 ≡ condition_points e
  condition_counts (not_zero line e) = condition_counts e
  condition_counts (is_null line wanted e) = ap (λ n. n + 1) (expression_counts e (expression_type program locals e) 0).is
  condition_counts (constant line s n) = ap (λ n. n + 1) (expression_counts (constant line s n) (expression_type program locals (constant line s n)) 0).is
  condition_counts (null line) = ap (λ n. n + 1) (expression_counts (null line) (expression_type program locals (null line)) 0).is
  condition_counts (string line k) = ap (λ n. n + 1) (expression_counts (string line k) (expression_type program locals (string line k)) 0).is
  condition_counts (local line x) = ap (λ n. n + 1) (expression_counts (local line x) (expression_type program locals (local line x)) 0).is
  condition_counts (read line place) = ap (λ n. n + 1) (expression_counts (read line place) (expression_type program locals (read line place)) 0).is
  condition_counts (address line g) = ap (λ n. n + 1) (expression_counts (address line g) (expression_type program locals (address line g)) 0).is
  condition_counts (step line d p i) = ap (λ n. n + 1) (expression_counts (step line d p i) (expression_type program locals (step line d p i)) 0).is
  condition_counts (step_from line i p) = ap (λ n. n + 1) (expression_counts (step_from line i p) (expression_type program locals (step_from line i p)) 0).is
  condition_counts (unary line o s e) = ap (λ n. n + 1) (expression_counts (unary line o s e) (expression_type program locals (unary line o s e)) 0).is
  condition_counts (binary line o s a b) = ap (λ n. n + 1) (expression_counts (binary line o s a b) (expression_type program locals (binary line o s a b)) 0).is
  condition_counts (convert line from to e) = ap (λ n. n + 1) (expression_counts (convert line from to e) (expression_type program locals (convert line from to e)) 0).is
  condition_counts (and line a b) = ap (λ n. n + 1) (expression_counts (and line a b) (expression_type program locals (and line a b)) 0).is
  condition_counts (or line a b) = ap (λ n. n + 1) (expression_counts (or line a b) (expression_type program locals (or line a b)) 0).is
  condition_counts (choose line t a b) = ap (λ n. n + 1) (expression_counts (choose line t a b) (expression_type program locals (choose line t a b)) 0).is
  condition_counts (same line wanted a b) = ap (λ n. n + 1) (expression_counts (same line wanted a b) (expression_type program locals (same line wanted a b)) 0).is
  condition_counts (call line f es) = ap (λ n. n + 1) (expression_counts (call line f es) (expression_type program locals (call line f es)) 0).is
  condition_counts (new_region line) = ap (λ n. n + 1) (expression_counts (new_region line) (expression_type program locals (new_region line)) 0).is
  condition_counts (new_subregion line r) = ap (λ n. n + 1) (expression_counts (new_subregion line r) (expression_type program locals (new_subregion line r)) 0).is
  condition_counts (region_of line p) = ap (λ n. n + 1) (expression_counts (region_of line p) (expression_type program locals (region_of line p)) 0).is
  condition_counts (allocate line r u) = ap (λ n. n + 1) (expression_counts (allocate line r u) (expression_type program locals (allocate line r u)) 0).is
  condition_counts (allocate_array line r n u) = ap (λ n. n + 1) (expression_counts (allocate_array line r n u) (expression_type program locals (allocate_array line r n u)) 0).is
  condition_counts (putchar line e) = ap (λ n. n + 1) (expression_counts (putchar line e) (expression_type program locals (putchar line e)) 0).is
  condition_counts (getchar line) = ap (λ n. n + 1) (expression_counts (getchar line) (expression_type program locals (getchar line)) 0).is

module _ (program : Program) (f : Function) where
  evaluate_counts : (line : ℕ) (e : Expr) → code_points (evaluate_code program f.locals line e) ≡ points e
  evaluate_counts line (call own g es) = by (has_result program g)
    where
      by : (b : Bool) → code_points (one_of b (To.simple (whole program f.locals (call own g es)) To.drop) (To.simple (arguments_code program f.locals es (parameter_types program g) 0) (To.perform own g (argument_types program f.locals es (parameter_types program g))))) ≡ arguments_points es + 1
      by true = let x = (expression_counts program f.locals (call own g es) (expression_type program f.locals (call own g es)) 0).is in omega (arith, x)
      by false = ap (λ n. n + 1) (arguments_count program f.locals es (parameter_types program g) 0).is
  evaluate_counts line (constant line' s n) = let y = (expression_counts program f.locals (constant line' s n) (expression_type program f.locals (constant line' s n)) 0).is in omega (arith, y)
  evaluate_counts line (null line') = let y = (expression_counts program f.locals (null line') (expression_type program f.locals (null line')) 0).is in omega (arith, y)
  evaluate_counts line (string line' k) = let y = (expression_counts program f.locals (string line' k) (expression_type program f.locals (string line' k)) 0).is in omega (arith, y)
  evaluate_counts line (local line' x) = let y = (expression_counts program f.locals (local line' x) (expression_type program f.locals (local line' x)) 0).is in omega (arith, y)
  evaluate_counts line (read line' place) = let y = (expression_counts program f.locals (read line' place) (expression_type program f.locals (read line' place)) 0).is in omega (arith, y)
  evaluate_counts line (address line' g) = let y = (expression_counts program f.locals (address line' g) (expression_type program f.locals (address line' g)) 0).is in omega (arith, y)
  evaluate_counts line (step line' d p i) = let y = (expression_counts program f.locals (step line' d p i) (expression_type program f.locals (step line' d p i)) 0).is in omega (arith, y)
  evaluate_counts line (step_from line' i p) = let y = (expression_counts program f.locals (step_from line' i p) (expression_type program f.locals (step_from line' i p)) 0).is in omega (arith, y)
  evaluate_counts line (unary line' o s e) = let y = (expression_counts program f.locals (unary line' o s e) (expression_type program f.locals (unary line' o s e)) 0).is in omega (arith, y)
  evaluate_counts line (binary line' o s a b) = let y = (expression_counts program f.locals (binary line' o s a b) (expression_type program f.locals (binary line' o s a b)) 0).is in omega (arith, y)
  evaluate_counts line (convert line' from to e) = let y = (expression_counts program f.locals (convert line' from to e) (expression_type program f.locals (convert line' from to e)) 0).is in omega (arith, y)
  evaluate_counts line (not_zero line' e) = let y = (expression_counts program f.locals (not_zero line' e) (expression_type program f.locals (not_zero line' e)) 0).is in omega (arith, y)
  evaluate_counts line (and line' a b) = let y = (expression_counts program f.locals (and line' a b) (expression_type program f.locals (and line' a b)) 0).is in omega (arith, y)
  evaluate_counts line (or line' a b) = let y = (expression_counts program f.locals (or line' a b) (expression_type program f.locals (or line' a b)) 0).is in omega (arith, y)
  evaluate_counts line (choose line' test a b) = let y = (expression_counts program f.locals (choose line' test a b) (expression_type program f.locals (choose line' test a b)) 0).is in omega (arith, y)
  evaluate_counts line (is_null line' wanted e) = let y = (expression_counts program f.locals (is_null line' wanted e) (expression_type program f.locals (is_null line' wanted e)) 0).is in omega (arith, y)
  evaluate_counts line (same line' wanted a b) = let y = (expression_counts program f.locals (same line' wanted a b) (expression_type program f.locals (same line' wanted a b)) 0).is in omega (arith, y)
  evaluate_counts line (new_region line') = let y = (expression_counts program f.locals (new_region line') (expression_type program f.locals (new_region line')) 0).is in omega (arith, y)
  evaluate_counts line (new_subregion line' r) = let y = (expression_counts program f.locals (new_subregion line' r) (expression_type program f.locals (new_subregion line' r)) 0).is in omega (arith, y)
  evaluate_counts line (region_of line' p) = let y = (expression_counts program f.locals (region_of line' p) (expression_type program f.locals (region_of line' p)) 0).is in omega (arith, y)
  evaluate_counts line (allocate line' r made) = let y = (expression_counts program f.locals (allocate line' r made) (expression_type program f.locals (allocate line' r made)) 0).is in omega (arith, y)
  evaluate_counts line (allocate_array line' r n made) = let y = (expression_counts program f.locals (allocate_array line' r n made) (expression_type program f.locals (allocate_array line' r n made)) 0).is in omega (arith, y)
  evaluate_counts line (putchar line' e) = let y = (expression_counts program f.locals (putchar line' e) (expression_type program f.locals (putchar line' e)) 0).is in omega (arith, y)
  evaluate_counts line (getchar line') = let y = (expression_counts program f.locals (getchar line') (expression_type program f.locals (getchar line')) 0).is in omega (arith, y)

  mutual
    pub statement_counts : (s : Stmt) → code_points (statement_code program f s) ≡ statement_points program.structs s
    statement_counts (block body) = body_counts body
    statement_counts (declare line y None) = refl
    statement_counts (declare line y (Some e)) = ap (λ n. n + 1) (expression_counts program f.locals e _ 0).is
    statement_counts (assign line y e) = ap (λ n. n + 1) (expression_counts program f.locals e _ 0).is
    statement_counts (store line place e) = ap (λ n. n + 1) (two _ _ _ _ (place_counts program f.locals line place 0) (expression_counts program f.locals e _ _)).is
    statement_counts (update line place change e) = ap (λ n. n + change_points change) (two _ _ _ _ (place_counts program f.locals line place 0) (expression_counts program f.locals e _ _)).is
    statement_counts (copy line s left right) = ap (λ n. n + 2 * size program.structs (struct s)) (two _ _ _ _ (place_counts program f.locals line left 0) (place_counts program f.locals line right _)).is
    statement_counts (evaluate line e) = evaluate_counts line e
    statement_counts (delete line e) = ap (λ n. n + 1) (expression_counts program f.locals e _ 0).is
    statement_counts (branch line test a b) = let x = condition_counts program f.locals test in let y = statement_counts a in let z = statement_counts b in omega (arith, x, y, z)
    statement_counts (while line test a) = let x = condition_counts program f.locals test in let y = statement_counts a in omega (arith, x, y)
    statement_counts (repeat line a test) = let x = condition_counts program f.locals test in let y = statement_counts a in omega (arith, x, y)
    statement_counts (for line first None third a) = let y = statement_counts first in let z = statement_counts third in let u = statement_counts a in omega (arith, y, z, u)
    statement_counts (for line first (Some test) third a) = let x = condition_counts program f.locals test in let y = statement_counts first in let z = statement_counts third in let u = statement_counts a in omega (arith, x, y, z, u)
    statement_counts (break line) = refl
    statement_counts (continue line) = refl
    statement_counts (return line None) = refl
    statement_counts (return line (Some e)) = ap (λ n. n + 1) (expression_counts program f.locals e _ 0).is

    body_counts : (body : Stmts) → codes_points (body_code program f body) ≡ body_points program.structs body
    body_counts done = refl
    body_counts (then s rest) = let x = statement_counts s in let y = body_counts rest in omega (arith, x, y)

functions_count : (program : Program) (fs : List Function) → map routine_points (map (routine_of program) fs) ≡ map (function_points program.structs) fs
functions_count program [] = refl
functions_count program (f ∷ fs) = ap (λ n. (1 + n + end_points f.result) ∷ map routine_points (map (routine_of program) fs)) (statement_counts program f f.body) ∙ ap (λ ns. function_points program.structs f ∷ ns) (functions_count program fs)

pub points_are_counted : (program : Program) → rlang_points (region_of_program program) ≡ program_points program
points_are_counted program = ap sum (functions_count program program.functions)
