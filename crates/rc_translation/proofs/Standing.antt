-- What the region code of a typed program names is there.
use Rattle.std.proofs.Common.{◌≡◌, ℕ, suc, Bool, true, false, not, List, [], ◌∷◌, Option, Some, None, refl, sym, ap, ◌∙◌, subst, arith}
use Rattle.std.proofs.lemmas.Bool.{false≢true}
use Rattle.std.proofs.lemmas.Option.{get_or_from_slice_get, slice_get-map}
use Rattle.std.specs.Prelude.{is_some, IsTrue, slice_get, option_map}
use Rattle.std.specs.List.{AllByRecursion as Every}
use Rattle.rc_core.specs.declared.ty.NumberType.{NumberType}
use Rattle.rc_core.specs.declared.ty.Note.TheVariants.{Plain}
use Rattle.rc_core.specs.declared.ty.Signedness.{Signedness}
use Rattle.rc_core.specs.declared.operators.UnaryOperator.TheVariants.{Negate, Plus, Complement}
use Rattle.rc_core.specs.declared.stmt.Change.{Change}
use Rattle.rc_core.specs.declared.stmt.Change.TheVariants.{Compute, Step as Stepping}
use Rattle.rc_core.specs.Types.{Ty, int, struct, pointer}
use Rattle.rc_core.specs.Execution.{local_type}
use Rattle.rc_core.specs.Typing.{NotNull, number, arithmetic, value_type, is_pointer, is_reference, is_struct, parameters_of, IsDefined, HasType, AreArguments, IsPlace, LeadsTo, Runs, Takes, IsSimple, IsTyped, AreTyped}
use Rattle.rc_core.specs.Programs.{Expr, constant, null, string, local, read, address, step, step_from, unary, binary, convert, not_zero, and, or, choose, is_null, same, call, new_region, new_subregion, region_of, allocate, allocate_array, putchar, getchar, Arguments, none, more, Place, global, pointed, indexed, Path, here, field, element, Stmt, block, declare, assign, store, update, copy, evaluate, delete, branch, while, repeat, for, break, continue, return, Stmts, done, then, Function, Program}
use Rattle.rc_core.specs.WellTyped.{IsVariable, FunctionFits, IsWellTyped}
use Rattle.rc_kinds.proofs.Zips.{below_slice}
use Rattle.rc_rlang.specs.RegionCode as To
use Rattle.rc_rlang.specs.RegionCode.{Steps, Rlang, Routine, width, both}
use Rattle.rc_rlang.specs.RegionNames.{CellStands, IsCalled, StepsStand, CodeStands, CodesStand}
use Rattle.rc_translation.specs.Translation.{expression_type, pointer_type, index_type, parameter_types, argument_types, access, expression_code, arguments_code, place_code, path_code, has_result, one_of, condition_code, evaluate_code, statement_code, body_code, routine_of, region_of_program}
use Rattle.rc_translation.proofs.TypesFound.{types_are}
use Rattle.rc_translation.proofs.AccessPlaces.{cell_type, access_stands}
use Rattle.rc_translation.proofs.Defined.{value_defined, arithmetic_defined, number_defined, returned_defined, place_defined, found_defined, number_found, kind_not_null, pointer_found, index_found, parameters_defined}

abbrev types_in : Option Function → List Ty
types_in None = []
types_in (Some g) = parameters_of g

abbrev gives : Option Function → Bool
gives None = true
gives (Some g) = is_some g.result

gives_as : (program : Program) (f : ℕ) (g : Function) → slice_get program.functions f ≡ Some g → has_result program f ≡ is_some g.result
gives_as program f g there = ap gives there

some_result : (o : Option Ty) (t : Ty) → option_map value_type o ≡ Some t → is_some o ≡ true
some_result None t e = cc
some_result (Some u) t e = refl

module _ (program : Program) (well : IsWellTyped program) (locals : List Ty) (variables : (x : ℕ) (t : Ty) → slice_get locals x ≡ Some t → IsVariable program.structs t) (result : Option Ty) where
  abbrev r : Rlang
  r = region_of_program program

  abbrev Stand : Steps → Type 0
  Stand steps = StepsStand r locals result steps

  abbrev Fine : Bool → To.Code → Type 0
  Fine looping c = CodeStands r locals result looping c

  pub stand_both : (a b : Steps) → Stand a → Stand b → Stand (both a b)
  stand_both To.none b na nb = nb
  stand_both (To.more s a) b na nb = (na.0, stand_both a b na.1 nb)

  two : (a b : Steps) (s : To.Step) → Stand a → Stand b → Stand (To.more s To.none) → Stand (both a (both b (To.more s To.none)))
  two a b s na nb ns = stand_both a (both b (To.more s To.none)) na (stand_both b (To.more s To.none) nb ns)

  abbrev D : Ty → Type 0
  D t = IsDefined program.structs t

  found : (e : Expr) (t : Ty) → NotNull e → HasType program locals e t → D (expression_type program locals e)
  found e t nn w = found_defined program well locals variables e t nn w

  counted : (i : Expr) → D (index_type program locals i)
  counted i = index_found program well locals variables i

  pointed_at : (p : Expr) (t : Ty) → NotNull p → HasType program locals p t → D (pointer_type program locals p)
  pointed_at p t nn w = pointer_found program well locals variables p t nn w

  not_null : (e : Expr) (k : NumberType) → HasType program locals e (number k) → NotNull e
  not_null e k w = kind_not_null program well locals variables e k w

  arguments_are : (es : Arguments) (ts : List Ty) → AreArguments program locals es ts → argument_types program locals es ts ≡ ts
  arguments_are none [] w = refl
  arguments_are none (t ∷ ts) w = absurd w
  arguments_are (more e es) [] w = absurd w
  arguments_are (more e es) (t ∷ ts) w = ap (λ us. t ∷ us) (arguments_are es ts w.1)

  is_called : (f : ℕ) (es : Arguments) (g : Function) (b : Bool) → slice_get program.functions f ≡ Some g → AreArguments program locals es (parameters_of g) → is_some g.result ≡ b → IsCalled r f (argument_types program locals es (parameter_types program f)) b
  is_called f es g b there w q = (
    routine_of program g,
    (
      slice_get-map (routine_of program) program.functions f ∙ ap (option_map (routine_of program)) there,
      ap (argument_types program locals es) (ap types_in there) ∙ arguments_are es (parameters_of g) w,
      q,
    ),
  )

  pub cell_stands : (place : Place) (t : Ty) → IsPlace program locals place t → IsTrue (not (is_struct t)) → CellStands r (access program locals place)
  cell_stands place t w one = (access_stands program locals well.structs place t w, subst (λ u. IsTrue (not (is_struct u))) (sym (cell_type program locals well.structs place t w)) one)

  -- arguments are put in as the types of the function's parameters
  as_parameters : (g : ℕ) (callee : Function) (es : Arguments) → slice_get program.functions g ≡ Some callee → (h : ℕ) → Stand (arguments_code program locals es (parameters_of callee) h) → Stand (arguments_code program locals es (parameter_types program g) h)
  as_parameters g callee es there h stands = subst (λ ts. Stand (arguments_code program locals es ts h)) (sym (ap types_in there)) stands

  given_defined : (g : ℕ) (callee : Function) → slice_get program.functions g ≡ Some callee → Every D (parameters_of callee)
  given_defined g callee there = parameters_defined program well locals variables g callee there

  mutual
    pub expression_stands : (e : Expr) (t : Ty) → HasType program locals e t → (ty : Ty) (h : ℕ) → D ty → Stand (expression_code program locals e ty h)
    expression_stands (constant own s n) t w ty h d = (w.1, tt)
    expression_stands (null own) t w ty h d = (d, tt)
    expression_stands (string own k) t w ty h d = (let q = w.1 in omega (arith, q), tt)
    expression_stands (local own x) t w ty h d = (below_slice locals x w.0 w.1.0, tt)
    expression_stands (read own place) t w ty h d = stand_both _ _ (place_stands own place w.0 w.1.0 h) (cell_stands place w.0 w.1.0 w.1.1, tt)
    expression_stands (address own g) t w ty h d = (let q = below_slice program.globals g w.0 w.1.0 in omega (arith, q), tt)
    expression_stands (step own dir p i) t w ty h d = two _ _ _ (expression_stands p _ w.2 _ _ (pointed_at p t w.1 w.2)) (expression_stands i _ w.3.1 _ _ (counted i)) (refl, tt)
    expression_stands (step_from own i p) t w ty h d = two _ _ _ (expression_stands i _ w.3.1 _ _ (counted i)) (expression_stands p _ w.2 _ _ (pointed_at p t w.1 w.2)) (refl, tt)
    expression_stands (unary own Negate s e) t w ty h d = stand_both _ _ (expression_stands e _ w.1 _ _ (arithmetic_defined program.structs s)) ((λ q. cc), tt)
    expression_stands (unary own Plus s e) t w ty h d = expression_stands e _ w.1 ty h d
    expression_stands (unary own Complement s e) t w ty h d = stand_both _ _ (expression_stands e _ w.1 _ _ (arithmetic_defined program.structs s)) ((λ q. cc), tt)
    expression_stands (binary own o s a b) t w ty h d = two _ _ _ (expression_stands a _ w.1 _ _ (arithmetic_defined program.structs s)) (expression_stands b _ w.2.1.1 _ _ (number_found program well locals variables b w.2.0 w.2.1.1)) (tt, tt)
    expression_stands (convert own from to e) t w ty h d = stand_both _ _ (expression_stands e _ w.2 _ _ (number_defined program.structs from)) (w.1, tt)
    expression_stands (not_zero own e) t w ty h d =
        let nn = not_null e w.1.0 w.1.1 in
        stand_both _ _ (expression_stands e _ w.1.1 _ _ (found e (number w.1.0) nn w.1.1)) ((w.1.0, types_are program locals e (number w.1.0) nn w.1.1), tt)
    expression_stands (and own a b) t w ty h d = stand_both _ _ (expression_stands a _ w.3.1 _ _ (found a w.3.0 w.1 w.3.1)) ((stand_both _ _ (expression_stands b _ w.4.1 _ _ (found b w.4.0 w.2 w.4.1)) (tt, tt), (refl, tt)), tt)
    expression_stands (or own a b) t w ty h d = stand_both _ _ (expression_stands a _ w.3.1 _ _ (found a w.3.0 w.1 w.3.1)) (((refl, tt), stand_both _ _ (expression_stands b _ w.4.1 _ _ (found b w.4.0 w.2 w.4.1)) (tt, tt)), tt)
    expression_stands (choose own test a b) t w ty h d = stand_both _ _ (expression_stands test _ w.1.1 _ _ (found test w.1.0 w.0 w.1.1)) ((expression_stands a _ w.3 _ _ d, expression_stands b _ w.4 _ _ d), tt)
    expression_stands (is_null own isnull e) t w ty h d = stand_both _ _ (expression_stands e _ w.2.1.1 _ _ (found e w.2.0 w.1 w.2.1.1)) (subst (λ u. IsTrue (is_reference u)) (sym (types_are program locals e w.2.0 w.1 w.2.1.1)) w.2.1.0, tt)
    expression_stands (same own wanted a b) t w ty h d =
        let g = found a w.3.0 w.1 w.3.1.1 in
        two _ _ _ (expression_stands a _ w.3.1.1 _ _ g) (expression_stands b _ w.3.1.2 _ _ g) (subst (λ u. IsTrue (is_reference u)) (sym (types_are program locals a w.3.0 w.1 w.3.1.1)) w.3.1.0, tt)
    expression_stands (call own g es) t w ty h d = stand_both _ _ (as_parameters g w.0 es w.1.0 h (arguments_stand es (parameters_of w.0) w.1.2 h (given_defined g w.0 w.1.0))) (is_called g es w.0 true w.1.0 w.1.2 (some_result w.0.result t w.1.1), tt)
    expression_stands (new_region own) t w ty h d = (tt, tt)
    expression_stands (new_subregion own r) t w ty h d = stand_both _ _ (expression_stands r _ w.1 _ _ tt) (tt, tt)
    expression_stands (region_of own p) t w ty h d = stand_both _ _ (expression_stands p _ w.2.1.1 _ _ (found p w.2.0 w.1 w.2.1.1)) (subst (λ u. IsTrue (is_pointer u)) (sym (types_are program locals p w.2.0 w.1 w.2.1.1)) w.2.1.0, tt)
    expression_stands (allocate own r made) t w ty h d = stand_both _ _ (expression_stands r _ w.2 _ _ tt) ((w.1, refl), tt)
    expression_stands (allocate_array own r size made) t w ty h d = two _ _ _ (expression_stands r _ w.2 _ _ tt) (expression_stands size _ w.3 _ _ tt) ((w.1, refl), tt)
    expression_stands (putchar own e) t w ty h d = stand_both _ _ (expression_stands e _ w.1 _ _ tt) (tt, tt)
    expression_stands (getchar own) t w ty h d = (tt, tt)

    arguments_stand : (es : Arguments) (ts : List Ty) → AreArguments program locals es ts → (h : ℕ) → Every D ts → Stand (arguments_code program locals es ts h)
    arguments_stand none ts w h d = tt
    arguments_stand (more e es) [] w h d = absurd w
    arguments_stand (more e es) (t ∷ ts) w h d = stand_both _ _ (expression_stands e _ w.0 _ _ (value_defined program.structs t d.0)) (arguments_stand es ts w.1 (suc h) d.1)

    pub place_stands : (line : ℕ) (place : Place) (t : Ty) → IsPlace program locals place t → (h : ℕ) → Stand (place_code program locals line place h)
    place_stands line (global g path) t w h = (let q = below_slice program.globals g w.0 w.1.0 in omega (arith, q), path_stands path _ _ w.1.2 (suc h))
    place_stands line (pointed p path) t w h = stand_both _ _ (expression_stands p _ w.1.1.0 _ _ (pointed_at p (pointer Plain w.1.0) w.0 w.1.1.0)) (path_stands path _ _ w.1.1.1 (suc h))
    place_stands line (indexed p i path) t w h =
        stand_both _ _ (expression_stands p _ w.1.1.0 _ _ (pointed_at p (pointer Plain w.1.0) w.0 w.1.1.0)) (stand_both _ _ (expression_stands i _ w.1.1.1.1 _ _ (counted i)) (path_stands path _ _ w.1.1.2 (suc (suc h))))

    path_stands : (path : Path) (u t : Ty) → LeadsTo program locals path u t → (h : ℕ) → Stand (path_code program locals path h)
    path_stands here u t w h = tt
    path_stands (field s f rest) u t w h = path_stands rest _ _ w.1.1.2 h
    path_stands (element s f i rest) u t w h = stand_both _ _ (expression_stands i _ w.1.1.2.1 _ _ (counted i)) (path_stands rest _ _ w.1.1.3 (suc h))

  whole_stands : (e : Expr) (t : Ty) → NotNull e → HasType program locals e t → Stand (expression_code program locals e (expression_type program locals e) 0)
  whole_stands e t nn w = expression_stands e t w (expression_type program locals e) 0 (found e t nn w)

  pub condition_stands : (e : Expr) (t : Ty) → NotNull e → HasType program locals e t → Stand (condition_code program locals e)
  condition_stands (constant own s n) t nn w = whole_stands (constant own s n) t nn w
  condition_stands (null own) t nn w = whole_stands (null own) t nn w
  condition_stands (string own k) t nn w = whole_stands (string own k) t nn w
  condition_stands (local own x) t nn w = whole_stands (local own x) t nn w
  condition_stands (read own place) t nn w = whole_stands (read own place) t nn w
  condition_stands (address own g) t nn w = whole_stands (address own g) t nn w
  condition_stands (step own d p i) t nn w = whole_stands (step own d p i) t nn w
  condition_stands (step_from own i p) t nn w = whole_stands (step_from own i p) t nn w
  condition_stands (unary own o s e) t nn w = whole_stands (unary own o s e) t nn w
  condition_stands (binary own o s a b) t nn w = whole_stands (binary own o s a b) t nn w
  condition_stands (convert own from to e) t nn w = whole_stands (convert own from to e) t nn w
  condition_stands (not_zero own e) t nn w = condition_stands e _ (not_null e w.1.0 w.1.1) w.1.1
  condition_stands (and own a b) t nn w = whole_stands (and own a b) t nn w
  condition_stands (or own a b) t nn w = whole_stands (or own a b) t nn w
  condition_stands (choose own test a b) t nn w = whole_stands (choose own test a b) t nn w
  condition_stands (is_null own isnull e) t nn w = whole_stands e _ w.1 w.2.1.1
  condition_stands (same own wanted a b) t nn w = whole_stands (same own wanted a b) t nn w
  condition_stands (call own g es) t nn w = whole_stands (call own g es) t nn w
  condition_stands (new_region own) t nn w = whole_stands (new_region own) t nn w
  condition_stands (new_subregion own r) t nn w = whole_stands (new_subregion own r) t nn w
  condition_stands (region_of own p) t nn w = whole_stands (region_of own p) t nn w
  condition_stands (allocate own r made) t nn w = whole_stands (allocate own r made) t nn w
  condition_stands (allocate_array own r size made) t nn w = whole_stands (allocate_array own r size made) t nn w
  condition_stands (putchar own e) t nn w = whole_stands (putchar own e) t nn w
  condition_stands (getchar own) t nn w = whole_stands (getchar own) t nn w

  pub evaluate_stands : (line : ℕ) (e : Expr) → Runs program locals e → (looping : Bool) → Fine looping (evaluate_code program locals line e)
  evaluate_stands line (constant own s n) w looping = (whole_stands (constant own s n) w.1.0 w.0 w.1.1, tt)
  evaluate_stands line (null own) w looping = (whole_stands (null own) w.1.0 w.0 w.1.1, tt)
  evaluate_stands line (string own k) w looping = (whole_stands (string own k) w.1.0 w.0 w.1.1, tt)
  evaluate_stands line (local own x) w looping = (whole_stands (local own x) w.1.0 w.0 w.1.1, tt)
  evaluate_stands line (read own place) w looping = (whole_stands (read own place) w.1.0 w.0 w.1.1, tt)
  evaluate_stands line (address own g) w looping = (whole_stands (address own g) w.1.0 w.0 w.1.1, tt)
  evaluate_stands line (step own d p i) w looping = (whole_stands (step own d p i) w.1.0 w.0 w.1.1, tt)
  evaluate_stands line (step_from own i p) w looping = (whole_stands (step_from own i p) w.1.0 w.0 w.1.1, tt)
  evaluate_stands line (unary own o s e) w looping = (whole_stands (unary own o s e) w.1.0 w.0 w.1.1, tt)
  evaluate_stands line (binary own o s a b) w looping = (whole_stands (binary own o s a b) w.1.0 w.0 w.1.1, tt)
  evaluate_stands line (convert own from to e) w looping = (whole_stands (convert own from to e) w.1.0 w.0 w.1.1, tt)
  evaluate_stands line (not_zero own e) w looping = (whole_stands (not_zero own e) w.1.0 w.0 w.1.1, tt)
  evaluate_stands line (and own a b) w looping = (whole_stands (and own a b) w.1.0 w.0 w.1.1, tt)
  evaluate_stands line (or own a b) w looping = (whole_stands (or own a b) w.1.0 w.0 w.1.1, tt)
  evaluate_stands line (choose own test a b) w looping = (whole_stands (choose own test a b) w.1.0 w.0 w.1.1, tt)
  evaluate_stands line (is_null own isnull e) w looping = (whole_stands (is_null own isnull e) w.1.0 w.0 w.1.1, tt)
  evaluate_stands line (same own wanted a b) w looping = (whole_stands (same own wanted a b) w.1.0 w.0 w.1.1, tt)
  evaluate_stands line (call own g es) w looping = by w.0.result refl (has_result program g) (gives_as program g w.0 w.1.0)
    where
      by : (o : Option Ty) → w.0.result ≡ o → (b : Bool) → b ≡ is_some w.0.result → Fine looping (one_of b (To.simple (expression_code program locals (call own g es) (expression_type program locals (call own g es)) 0) To.drop) (To.simple (arguments_code program locals es (parameter_types program g) 0) (To.perform own g (argument_types program locals es (parameter_types program g)))))
      by o e false q = (as_parameters g w.0 es w.1.0 0 (arguments_stand es (parameters_of w.0) w.1.1 0 (given_defined g w.0 w.1.0)), is_called g es w.0 false w.1.0 w.1.1 (sym q))
      by None e true q = absurd (false≢true (sym (q ∙ ap is_some e)))
      by (Some t) e true q =
          let typed : HasType program locals (call own g es) (value_type t) = (w.0, (w.1.0, ap (option_map value_type) e, w.1.1)) in
          (whole_stands (call own g es) (value_type t) refl typed, tt)
  evaluate_stands line (new_region own) w looping = (whole_stands (new_region own) w.1.0 w.0 w.1.1, tt)
  evaluate_stands line (new_subregion own r) w looping = (whole_stands (new_subregion own r) w.1.0 w.0 w.1.1, tt)
  evaluate_stands line (region_of own p) w looping = (whole_stands (region_of own p) w.1.0 w.0 w.1.1, tt)
  evaluate_stands line (allocate own r made) w looping = (whole_stands (allocate own r made) w.1.0 w.0 w.1.1, tt)
  evaluate_stands line (allocate_array own r size made) w looping = (whole_stands (allocate_array own r size made) w.1.0 w.0 w.1.1, tt)
  evaluate_stands line (putchar own e) w looping = (whole_stands (putchar own e) w.1.0 w.0 w.1.1, tt)
  evaluate_stands line (getchar own) w looping = (whole_stands (getchar own) w.1.0 w.0 w.1.1, tt)

-- a simple statement is typed in a loop and outside
simple_anywhere : (program : Program) (f : Function) (loop : Bool) (s : Stmt) → IsSimple s → IsTyped program f loop s → IsTyped program f false s
simple_anywhere program f loop (block done) q w = tt
simple_anywhere program f loop (block (then s rest)) q w = absurd q
simple_anywhere program f loop (declare line x value) q w = absurd q
simple_anywhere program f loop (assign line x e) q w = w
simple_anywhere program f loop (store line place e) q w = w
simple_anywhere program f loop (update line place change e) q w = w
simple_anywhere program f loop (copy line s left right) q w = w
simple_anywhere program f loop (evaluate line e) q w = w
simple_anywhere program f loop (delete line e) q w = w
simple_anywhere program f loop (branch line test a b) q w = absurd q
simple_anywhere program f loop (while line test a) q w = absurd q
simple_anywhere program f loop (repeat line a test) q w = absurd q
simple_anywhere program f loop (for line first test third a) q w = absurd q
simple_anywhere program f loop (break line) q w = absurd q
simple_anywhere program f loop (continue line) q w = absurd q
simple_anywhere program f loop (return line value) q w = absurd q

module _ (program : Program) (well : IsWellTyped program) (f : Function) (own : FunctionFits program f) where
  abbrev StepsFine : Steps → Type 0
  StepsFine steps = StepsStand (region_of_program program) f.locals f.result steps

  abbrev CodeFine : Bool → To.Code → Type 0
  CodeFine looping c = CodeStands (region_of_program program) f.locals f.result looping c

  abbrev Defined : Ty → Type 0
  Defined t = IsDefined program.structs t

  both_so : (a b : Steps) → StepsFine a → StepsFine b → StepsFine (both a b)
  both_so a b na nb = stand_both program well f.locals own.locals f.result a b na nb

  so : (e : Expr) (t : Ty) → HasType program f.locals e t → (ty : Ty) (h : ℕ) → Defined ty → StepsFine (expression_code program f.locals e ty h)
  so e t w ty h d = expression_stands program well f.locals own.locals f.result e t w ty h d

  place_so : (line : ℕ) (place : Place) (t : Ty) → IsPlace program f.locals place t → (h : ℕ) → StepsFine (place_code program f.locals line place h)
  place_so line place t w h = place_stands program well f.locals own.locals f.result line place t w h

  condition_so : (e : Expr) (t : Ty) → NotNull e → HasType program f.locals e t → StepsFine (condition_code program f.locals e)
  condition_so e t nn w = condition_stands program well f.locals own.locals f.result e t nn w

  number_so : (e : Expr) (s : Signedness) → HasType program f.locals e (arithmetic s) → Defined (expression_type program f.locals e)
  number_so e s w = number_found program well f.locals own.locals e s w

  local_so : (x : ℕ) (t : Ty) → slice_get f.locals x ≡ Some t → slice_get f.locals x ≡ Some (local_type f x)
  local_so x t there = there ∙ ap Some (sym (get_or_from_slice_get f.locals x t int there))

  local_defined : (x : ℕ) (t : Ty) → slice_get f.locals x ≡ Some t → Defined (value_type (local_type f x))
  local_defined x t there = value_defined program.structs (local_type f x) (own.locals x (local_type f x) (local_so x t there)).0

  cell_defined : (place : Place) (t : Ty) → IsPlace program f.locals place t → Defined (value_type (access program f.locals place).cell)
  cell_defined place t w = value_defined program.structs (access program f.locals place).cell (subst Defined (sym (cell_type program f.locals well.structs place t w)) (place_defined program well f.locals own.locals place t w))

  change_so : (line : ℕ) (place : Place) (change : Change) (t : Ty) (e : Expr) → IsPlace program f.locals place t → Takes program f.locals t change e → (looping : Bool) → CodeFine looping (statement_code program f (update line place change e))
  change_so line place (Compute from o s) t e p w looping = (
    both_so _ _ (place_so line place t p 0) (so e _ w.3.1.1 _ _ (number_so e w.3.0 w.3.1.1)),
    (access_stands program f.locals well.structs place t p, cell_type program f.locals well.structs place t p ∙ w.0),
  )
  change_so line place (Stepping direction) t e p w looping = (
    both_so _ _ (place_so line place t p 0) (so e _ w.1.1 _ _ (number_so e w.1.0 w.1.1)),
    (access_stands program f.locals well.structs place t p, subst (λ u. IsTrue (is_pointer u)) (sym (cell_type program f.locals well.structs place t p)) w.0),
  )

  mutual
    pub statement_stands : (loop : Bool) (s : Stmt) → IsTyped program f loop s → CodeFine loop (statement_code program f s)
    statement_stands loop (block body) w = body_stands loop body w
    statement_stands loop (declare line x None) w = local_so x w.0 w.1.0
    statement_stands loop (declare line x (Some e)) w = (so e _ w.1.1 _ _ (local_defined x w.0 w.1.0), local_so x w.0 w.1.0)
    statement_stands loop (assign line x e) w = (so e _ w.1.1 _ _ (local_defined x w.0 w.1.0), local_so x w.0 w.1.0)
    statement_stands loop (store line place e) w =
        (both_so _ _ (place_so line place w.0 w.1.0 0) (so e _ w.1.2 _ _ (cell_defined place w.0 w.1.0)), cell_stands program well f.locals own.locals f.result place w.0 w.1.0 w.1.1)
    statement_stands loop (update line place change e) w = change_so line place change w.0 e w.1.0 w.1.1 loop
    statement_stands loop (copy line s left right) w = (
      both_so _ _ (place_so line left (struct s) w.0 0) (place_so line right (struct s) w.1 (width (access program f.locals left))),
      (
        s,
        (
          w.2,
          w.3,
          refl,
          cell_type program f.locals well.structs left (struct s) w.0,
          cell_type program f.locals well.structs right (struct s) w.1,
          access_stands program f.locals well.structs left (struct s) w.0,
          access_stands program f.locals well.structs right (struct s) w.1,
        ),
      ),
    )
    statement_stands loop (evaluate line e) w = evaluate_stands program well f.locals own.locals f.result line e w loop
    statement_stands loop (delete line e) w = (so e _ w _ _ tt, tt)
    statement_stands loop (branch line test a b) w = (condition_so test _ w.0.0 w.0.1.1, statement_stands loop a w.1, statement_stands loop b w.2)
    statement_stands loop (while line test body) w = (condition_so test _ w.0.0 w.0.1.1, tt, statement_stands true body w.1)
    statement_stands loop (repeat line body test) w = (statement_stands true body w.0, condition_so test _ w.1.0 w.1.1.1)
    statement_stands loop (for line first None third body) w = (statement_stands loop first w.0, ((tt, statement_stands false third (simple_anywhere program f loop third w.5 w.2), statement_stands true body w.3), tt))
    statement_stands loop (for line first (Some test) third body) w =
        (statement_stands loop first w.0, ((condition_so test _ w.1.0 w.1.1.1, statement_stands false third (simple_anywhere program f loop third w.5 w.2), statement_stands true body w.3), tt))
    statement_stands loop (break line) w = w
    statement_stands loop (continue line) w = w
    statement_stands loop (return line None) w = (tt, sym (ap (option_map value_type) w))
    statement_stands loop (return line (Some e)) w = (so e _ w.1.1 _ _ (returned_defined program.structs f.result own.result), refl)

    body_stands : (loop : Bool) (body : Stmts) → AreTyped program f loop body → CodesStand (region_of_program program) f.locals f.result loop (body_code program f body)
    body_stands loop done w = tt
    body_stands loop (then s rest) w = (statement_stands loop s w.0, body_stands loop rest w.1)
