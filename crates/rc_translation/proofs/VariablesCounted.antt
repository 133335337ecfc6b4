-- The translation needs as many region variables as the program is counted to need.
use Rattle.std.proofs.Common.{◌≡◌, ◌<◌, ℕ, suc, ◌+◌, ◌*◌, Bool, true, false, List, [], ◌∷◌, ◌++◌, Some, None, refl, ap, ◌∙◌, arith, length-append}
use Rattle.std.specs.Prelude.{max, count_by, take, drop}
use Rattle.rc_core.specs.declared.operators.UnaryOperator.TheVariants.{Negate, Plus, Complement}
use Rattle.rc_core.specs.Types.{Ty}
use Rattle.rc_core.specs.Layout.{offset, count_of, stride}
use Rattle.rc_core.specs.Programs.{Expr, constant, null, string, local, read, address, step, step_from, unary, binary, convert, not_zero, and, or, choose, is_null, same, call, new_region, new_subregion, region_of, allocate, allocate_array, putchar, getchar, Arguments, none, more, Place, global, pointed, indexed, Path, here, field, element, Stmt, block, declare, assign, store, update, copy, evaluate, delete, branch, while, repeat, for, break, continue, return, Stmts, done, then, Function, Program}
use Rattle.rc_rlang.specs.RegionCode as To
use Rattle.rc_rlang.specs.RegionCode.{Index, Access, Steps, width, both, one}
use Rattle.rc_rlang.specs.RegionVariables.{steps_temporaries, code_temporaries, codes_temporaries}
use Rattle.rc_core.specs.Typing.{is_reference}
use Rattle.rc_rlang.specs.Variables.{path_next, place_next, temporaries, arguments_temporaries, place_temporaries, path_temporaries, statement_temporaries, body_temporaries, end_temporaries}
use Rattle.rc_translation.specs.Translation.{expression_type, signedness, parameter_types, argument_types, path_access, access, expression_code, arguments_code, place_code, path_code, has_result, one_of, condition_code, evaluate_code, statement_code, body_code}
use Rattle.rc_translation.specs.Keeps.{HasItsVariables}

temporaries_both : (a b : Steps) → steps_temporaries (both a b) ≡ max (steps_temporaries a) (steps_temporaries b)
temporaries_both To.none b = omega arith
temporaries_both (To.more s a) b = let e = temporaries_both a b in omega (arith, e)

-- steps that need so many, and an operation behind them
set_behind : (a : Steps) (line h : ℕ) (ty : Ty) (op : To.Operation) (n : ℕ) → steps_temporaries a ≡ n → h < n → steps_temporaries (both a (one (To.set line h ty op))) ≡ n
set_behind a line h ty op n e lt = let q = temporaries_both a (one (To.set line h ty op)) in omega (arith, q, e, lt)

both_need : (a b : Steps) (n m : ℕ) → steps_temporaries a ≡ n → steps_temporaries b ≡ m → steps_temporaries (both a b) ≡ max n m
both_need a b n m e d = let q = temporaries_both a b in omega (arith, q, e, d)

three : (a b : Steps) (line h : ℕ) (ty : Ty) (op : To.Operation) (n m : ℕ) → steps_temporaries a ≡ n → steps_temporaries b ≡ m → h < n → steps_temporaries (both a (both b (one (To.set line h ty op)))) ≡ max n m
three a b line h ty op n m e d lt =
    let q = temporaries_both a (both b (one (To.set line h ty op))) in
    let p = temporaries_both b (one (To.set line h ty op)) in
    omega (arith, q, p, e, d, lt)

forked : (a b c : Steps) (line h : ℕ) (test ty : Ty) (n m k : ℕ) → steps_temporaries a ≡ n → steps_temporaries b ≡ m → steps_temporaries c ≡ k → h < n → steps_temporaries (both a (one (To.fork line h test ty b c))) ≡ max n (max m k)
forked a b c line h test ty n m k e d f lt = let q = temporaries_both a (one (To.fork line h test ty b c)) in omega (arith, q, e, d, f, lt)

-- an expression uses the temporary into which its value comes
mutual
  high : (e : Expr) (h : ℕ) → h < temporaries e h
  high (constant own s n) h = omega arith
  high (null own) h = omega arith
  high (string own k) h = omega arith
  high (local own x) h = omega arith
  high (read own place) h = place_high place h
  high (address own g) h = omega arith
  high (step own d p i) h = let q = high p h in omega (arith, q)
  high (step_from own i p) h = let q = high i h in omega (arith, q)
  high (unary own o s e) h = high e h
  high (binary own o s a b) h = let q = high a h in omega (arith, q)
  high (convert own from to e) h = high e h
  high (not_zero own e) h = high e h
  high (and own a b) h = let q = high a h in omega (arith, q)
  high (or own a b) h = let q = high a h in omega (arith, q)
  high (choose own test a b) h = let q = high test h in omega (arith, q)
  high (is_null own isnull e) h = high e h
  high (same own wanted a b) h = let q = high a h in omega (arith, q)
  high (call own g es) h = omega arith
  high (new_region own) h = omega arith
  high (new_subregion own r) h = high r h
  high (region_of own p) h = high p h
  high (allocate own r made) h = high r h
  high (allocate_array own r size made) h = let q = high r h in omega (arith, q)
  high (putchar own e) h = high e h
  high (getchar own) h = omega arith

  place_high : (place : Place) (h : ℕ) → h < place_temporaries place h
  place_high (global g path) h = omega arith
  place_high (pointed p path) h = let q = high p h in omega (arith, q)
  place_high (indexed p i path) h = let q = high p h in omega (arith, q)

module _ (program : Program) (locals : List Ty) where
  mutual
    pub expression_needs : (e : Expr) (ty : Ty) (h : ℕ) → steps_temporaries (expression_code program locals e ty h) ≡ temporaries e h
    expression_needs (constant own s n) ty h = omega arith
    expression_needs (null own) ty h = omega arith
    expression_needs (string own k) ty h = omega arith
    expression_needs (local own x) ty h = omega arith
    expression_needs (read own place) ty h = set_behind _ own h ty _ _ (place_needs own place h) (place_high place h)
    expression_needs (address own g) ty h = omega arith
    expression_needs (step own d p i) ty h = three _ _ own h ty _ _ _ (expression_needs p _ h) (expression_needs i _ (suc h)) (high p h)
    expression_needs (step_from own i p) ty h = three _ _ own h ty _ _ _ (expression_needs i _ h) (expression_needs p _ (suc h)) (high i h)
    expression_needs (unary own Negate s e) ty h = set_behind _ own h ty _ _ (expression_needs e _ h) (high e h)
    expression_needs (unary own Plus s e) ty h = expression_needs e ty h
    expression_needs (unary own Complement s e) ty h = set_behind _ own h ty _ _ (expression_needs e _ h) (high e h)
    expression_needs (binary own o s a b) ty h = three _ _ own h ty _ _ _ (expression_needs a _ h) (expression_needs b _ (suc h)) (high a h)
    expression_needs (convert own from to e) ty h = set_behind _ own h ty _ _ (expression_needs e _ h) (high e h)
    expression_needs (not_zero own e) ty h = set_behind _ own h ty _ _ (expression_needs e _ h) (high e h)
    expression_needs (and own a b) ty h =
        let q = high b h in
        let p = high a h in
        forked _ _ (one (To.set own h ty _)) own h _ ty _ _ (suc h) (expression_needs a _ h) (set_behind _ own h ty _ _ (expression_needs b _ h) q) (omega arith) p ∙ (let z : max (temporaries a h) (max (temporaries b h) (suc h)) ≡ max (temporaries a h) (temporaries b h) = omega (arith, p, q) in z)
    expression_needs (or own a b) ty h =
        let q = high b h in
        let p = high a h in
        forked _ (one (To.set own h ty _)) _ own h _ ty _ (suc h) _ (expression_needs a _ h) (omega arith) (set_behind _ own h ty _ _ (expression_needs b _ h) q) p ∙ (let z : max (temporaries a h) (max (suc h) (temporaries b h)) ≡ max (temporaries a h) (temporaries b h) = omega (arith, p, q) in z)
    expression_needs (choose own test a b) ty h = forked _ _ _ own h _ ty _ _ _ (expression_needs test _ h) (expression_needs a ty h) (expression_needs b ty h) (high test h)
    expression_needs (is_null own isnull e) ty h = set_behind _ own h ty _ _ (expression_needs e _ h) (high e h)
    expression_needs (same own wanted a b) ty h = three _ _ own h ty _ _ _ (expression_needs a _ h) (expression_needs b _ (suc h)) (high a h)
    expression_needs (call own g es) ty h = both_need _ _ _ _ (arguments_need es _ h) (let z : max (suc h) 0 ≡ suc h = omega arith in z) ∙ (let z : max (arguments_temporaries es h) (suc h) ≡ max (suc h) (arguments_temporaries es h) = omega arith in z)
    expression_needs (new_region own) ty h = omega arith
    expression_needs (new_subregion own r) ty h = set_behind _ own h ty _ _ (expression_needs r _ h) (high r h)
    expression_needs (region_of own p) ty h = set_behind _ own h ty _ _ (expression_needs p _ h) (high p h)
    expression_needs (allocate own r made) ty h = set_behind _ own h ty _ _ (expression_needs r _ h) (high r h)
    expression_needs (allocate_array own r size made) ty h = three _ _ own h ty _ _ _ (expression_needs r _ h) (expression_needs size _ (suc h)) (high r h)
    expression_needs (putchar own e) ty h = set_behind _ own h ty _ _ (expression_needs e _ h) (high e h)
    expression_needs (getchar own) ty h = omega arith

    pub arguments_need : (es : Arguments) (tys : List Ty) (h : ℕ) → steps_temporaries (arguments_code program locals es tys h) ≡ arguments_temporaries es h
    arguments_need none tys h = refl
    arguments_need (more e es) [] h = both_need _ _ _ _ (expression_needs e _ h) (arguments_need es [] (suc h))
    arguments_need (more e es) (ty ∷ tys) h = both_need _ _ _ _ (expression_needs e _ h) (arguments_need es tys (suc h))

    pub place_needs : (line : ℕ) (place : Place) (h : ℕ) → steps_temporaries (place_code program locals line place h) ≡ place_temporaries place h
    place_needs line (global g path) h = ap (max (suc h)) (path_needs path (suc h))
    place_needs line (pointed p path) h = both_need _ _ _ _ (expression_needs p _ h) (path_needs path (suc h))
    place_needs line (indexed p i path) h = both_need _ _ _ _ (expression_needs p _ h) (both_need _ _ _ _ (expression_needs i _ (suc h)) (path_needs path (suc (suc h))))

    path_needs : (path : Path) (h : ℕ) → steps_temporaries (path_code program locals path h) ≡ path_temporaries path h
    path_needs here h = refl
    path_needs (field s f rest) h = path_needs rest h
    path_needs (element s f i rest) h = both_need _ _ _ _ (expression_needs i _ h) (path_needs rest (suc h))

  -- the temporary behind those of a place
  path_behind : (path : Path) (a : Access) (h k : ℕ) → k ≡ h + width a → path_next path k ≡ h + width (path_access program locals path a)
  path_behind here a h k e = e
  path_behind (field s f rest) a h k e = path_behind rest (record a { offset = a.offset + offset program.structs s f }) h k e
  path_behind (element s f i rest) a h k e =
      let ix : Index = record { count = count_of program.structs s f; stride = stride program.structs s f; kind = signedness program locals (expression_type program locals i) } in
      let l = length-append a.indices (ix ∷ []) in
      path_behind rest (record a { offset = a.offset + offset program.structs s f; indices = a.indices ++ ix ∷ [] }) h (suc k) (omega (arith, e, l))

  pub place_behind : (place : Place) (h : ℕ) → place_next place h ≡ h + width (access program locals place)
  place_behind (global g path) h = path_behind path _ h (suc h) (omega arith)
  place_behind (pointed p path) h = path_behind path _ h (suc h) (omega arith)
  place_behind (indexed p i path) h = path_behind path _ h (suc (suc h)) (omega arith)

  whole_needs : (e : Expr) → steps_temporaries (expression_code program locals e (expression_type program locals e) 0) ≡ temporaries e 0
  whole_needs e = expression_needs e (expression_type program locals e) 0

  pub condition_needs : (e : Expr) → steps_temporaries (condition_code program locals e) ≡ temporaries e 0
  condition_needs (constant own s n) = whole_needs (constant own s n)
  condition_needs (null own) = whole_needs (null own)
  condition_needs (string own k) = whole_needs (string own k)
  condition_needs (local own x) = whole_needs (local own x)
  condition_needs (read own place) = whole_needs (read own place)
  condition_needs (address own g) = whole_needs (address own g)
  condition_needs (step own d p i) = whole_needs (step own d p i)
  condition_needs (step_from own i p) = whole_needs (step_from own i p)
  condition_needs (unary own o s e) = whole_needs (unary own o s e)
  condition_needs (binary own o s a b) = whole_needs (binary own o s a b)
  condition_needs (convert own from to e) = whole_needs (convert own from to e)
  condition_needs (not_zero own e) = condition_needs e
  condition_needs (and own a b) = whole_needs (and own a b)
  condition_needs (or own a b) = whole_needs (or own a b)
  condition_needs (choose own test a b) = whole_needs (choose own test a b)
  condition_needs (is_null own isnull e) = whole_needs e
  condition_needs (same own wanted a b) = whole_needs (same own wanted a b)
  condition_needs (call own g es) = whole_needs (call own g es)
  condition_needs (new_region own) = whole_needs (new_region own)
  condition_needs (new_subregion own r) = whole_needs (new_subregion own r)
  condition_needs (region_of own p) = whole_needs (region_of own p)
  condition_needs (allocate own r made) = whole_needs (allocate own r made)
  condition_needs (allocate_array own r size made) = whole_needs (allocate_array own r size made)
  condition_needs (putchar own e) = whole_needs (putchar own e)
  condition_needs (getchar own) = whole_needs (getchar own)

  alone : {n m : ℕ} → n ≡ m → max n 0 ≡ m
  alone e = omega (arith, e)

  pub evaluate_needs : (line : ℕ) (e : Expr) → code_temporaries (evaluate_code program locals line e) ≡ temporaries e 0
  evaluate_needs line (constant own s n) = alone (whole_needs (constant own s n))
  evaluate_needs line (null own) = alone (whole_needs (null own))
  evaluate_needs line (string own k) = alone (whole_needs (string own k))
  evaluate_needs line (local own x) = alone (whole_needs (local own x))
  evaluate_needs line (read own place) = alone (whole_needs (read own place))
  evaluate_needs line (address own g) = alone (whole_needs (address own g))
  evaluate_needs line (step own d p i) = alone (whole_needs (step own d p i))
  evaluate_needs line (step_from own i p) = alone (whole_needs (step_from own i p))
  evaluate_needs line (unary own o s e) = alone (whole_needs (unary own o s e))
  evaluate_needs line (binary own o s a b) = alone (whole_needs (binary own o s a b))
  evaluate_needs line (convert own from to e) = alone (whole_needs (convert own from to e))
  evaluate_needs line (not_zero own e) = alone (whole_needs (not_zero own e))
  evaluate_needs line (and own a b) = alone (whole_needs (and own a b))
  evaluate_needs line (or own a b) = alone (whole_needs (or own a b))
  evaluate_needs line (choose own test a b) = alone (whole_needs (choose own test a b))
  evaluate_needs line (is_null own isnull e) = alone (whole_needs (is_null own isnull e))
  evaluate_needs line (same own wanted a b) = alone (whole_needs (same own wanted a b))
  evaluate_needs line (call own g es) = by (has_result program g)
    where
      by : (b : Bool) → code_temporaries (one_of b (To.simple (expression_code program locals (call own g es) (expression_type program locals (call own g es)) 0) To.drop) (To.simple (arguments_code program locals es (parameter_types program g) 0) (To.perform own g (argument_types program locals es (parameter_types program g))))) ≡ temporaries (call own g es) 0
      by true = let q = whole_needs (call own g es) in omega (arith, q)
      by false = let q = arguments_need es (parameter_types program g) 0 in omega (arith, q)
  evaluate_needs line (new_region own) = alone (whole_needs (new_region own))
  evaluate_needs line (new_subregion own r) = alone (whole_needs (new_subregion own r))
  evaluate_needs line (region_of own p) = alone (whole_needs (region_of own p))
  evaluate_needs line (allocate own r made) = alone (whole_needs (allocate own r made))
  evaluate_needs line (allocate_array own r size made) = alone (whole_needs (allocate_array own r size made))
  evaluate_needs line (putchar own e) = alone (whole_needs (putchar own e))
  evaluate_needs line (getchar own) = alone (whole_needs (getchar own))

module _ (program : Program) (f : Function) where
  abbrev steps_of : Expr → Ty → ℕ → Steps
  steps_of e ty h = expression_code program f.locals e ty h

  needs : (e : Expr) (ty : Ty) (h : ℕ) → steps_temporaries (steps_of e ty h) ≡ temporaries e h
  needs e ty h = expression_needs program f.locals e ty h

  single : {n m : ℕ} → n ≡ m → max n 0 ≡ m
  single e = omega (arith, e)

  -- an expression behind a place
  behind_place : (line : ℕ) (place : Place) (e : Expr) (ty : Ty) → steps_temporaries (both (place_code program f.locals line place 0) (steps_of e ty (width (access program f.locals place)))) ≡ max (place_temporaries place 0) (temporaries e (place_next place 0))
  behind_place line place e ty =
      let at : place_next place 0 ≡ width (access program f.locals place) = let q = place_behind program f.locals place 0 in omega (arith, q) in
      both_need _ _ _ _ (place_needs program f.locals line place 0) (needs e ty _) ∙ ap (λ k. max (place_temporaries place 0) (temporaries e k)) (let back : width (access program f.locals place) ≡ place_next place 0 = omega (arith, at) in back)

  mutual
    pub statement_needs : (s : Stmt) → code_temporaries (statement_code program f s) ≡ statement_temporaries s
    statement_needs (block body) = body_needs body
    statement_needs (declare line x None) = refl
    statement_needs (declare line x (Some e)) = single (needs e _ 0)
    statement_needs (assign line x e) = single (needs e _ 0)
    statement_needs (store line place e) = single (behind_place line place e _)
    statement_needs (update line place change e) =
        let q = behind_place line place e (expression_type program f.locals e) in
        let w = place_behind program f.locals place 0 in
        omega (arith, q, w)
    statement_needs (copy line s left right) =
        let a = access program f.locals left in
        let wl = place_behind program f.locals left 0 in
        let l : width a ≡ place_next left 0 = omega (arith, wl) in
        let wr = place_behind program f.locals right (width a) in
        let r : width a + width (access program f.locals right) ≡ place_next right (place_next left 0) = let z = ap (place_next right) l in omega (arith, wr, z) in
        let n = both_need _ _ _ _ (place_needs program f.locals line left 0) (place_needs program f.locals line right (width a)) in
        let t = ap (place_temporaries right) l in
        omega (arith, n, r, t)
    statement_needs (evaluate line e) = evaluate_needs program f.locals line e
    statement_needs (delete line e) = single (needs e _ 0)
    statement_needs (branch line test a b) = let p = condition_needs program f.locals test in let q = statement_needs a in let r = statement_needs b in omega (arith, p, q, r)
    statement_needs (while line test body) = let p = condition_needs program f.locals test in let q = statement_needs body in omega (arith, p, q)
    statement_needs (repeat line body test) = let p = condition_needs program f.locals test in let q = statement_needs body in omega (arith, p, q)
    statement_needs (for line first None third body) = let a = statement_needs first in let b = statement_needs body in let c = statement_needs third in omega (arith, a, b, c)
    statement_needs (for line first (Some test) third body) = let p = condition_needs program f.locals test in let a = statement_needs first in let b = statement_needs body in let c = statement_needs third in omega (arith, p, a, b, c)
    statement_needs (break line) = refl
    statement_needs (continue line) = refl
    statement_needs (return line None) = refl
    statement_needs (return line (Some e)) = single (needs e _ 0)

    body_needs : (body : Stmts) → codes_temporaries (body_code program f body) ≡ body_temporaries body
    body_needs done = refl
    body_needs (then s rest) = let p = statement_needs s in let q = body_needs rest in omega (arith, p, q)

pub has_its_variables : (program : Program) → HasItsVariables program
has_its_variables program f =
    ap (λ n. 2 * count_by is_reference (take f.parameters f.locals) + count_by is_reference (drop f.parameters f.locals) + max n (end_temporaries f.result) + 2) (statement_needs program f f.body)
