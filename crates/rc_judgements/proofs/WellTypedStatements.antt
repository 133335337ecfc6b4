-- Statements fit.
use Rattle.std.specs.Prelude.{◌≡◌, ℕ, ◌≤◌, List, [], ◌∷◌, ◌++◌, Option, Some, None, Bool, true, false, not, ◌&&◌, IsTrue, IfSome, nat_eq, nat_le, is_none, slice_get, length, if◌then◌else◌}
use Rattle.std.proofs.Common.{refl, sym, subst, arith}
use Rattle.std.proofs.lemmas.Bool.Decides.{nat_tests}
use Rattle.rc_syntax.specs.declared.tree.Spot.{Spot}
use Rattle.rc_syntax.specs.declared.tree.BinaryOp.{BinaryOp}
use Rattle.rc_syntax.specs.Tree as t
use Rattle.rc_core.specs.declared.stmt.Change.{Change}
use Rattle.rc_core.specs.Types.{Ty, int, unsigned, char, region, struct, pointer}
use Rattle.rc_core.specs.Programs as p
use Rattle.rc_core.specs.Layout.{size}
use Rattle.rc_core.specs.Typing.{value_type, is_struct, NotNull, HasType, IsPlace, IsValue, Runs, Takes, IsDefined, IsSimple, IsStart, IsTyped, AreTyped}
use Rattle.rc_deletes.specs.Judged.{Holds, with_part, both, fails}
use Rattle.rc_deletes.specs.Scopes.{Context, structs_in, meaning_in}
use Rattle.rc_deletes.specs.Values.{Typed, Meant, a_variable, a_place, typed, as_value, spot_of, fitted, condition_rule}
use Rattle.rc_deletes.specs.Operators.{change_of}
use Rattle.rc_deletes.specs.Calls.{callee_rule, call_statement}
use Rattle.rc_deletes.specs.Expressions.{strings_in, base_rule, meant, values, value}
use Rattle.rc_deletes.specs.Statements.{Here, inside, behind, behind_option, declared, local_type, behind_simple, behind_simple_option, behind_local, behind_locals, behind_start, behind_stmt, behind_stmts, RightSide, one_value, whole_struct, right_side, copy_of, assignment, assigned_change, updated_place, update_of, step_operator, one, alone_rule, new_name, declaration, returned, value_option, condition, condition_option, expression_alone, simple, simple_option, local, locals, for_start, stmt, stmts}
use Rattle.rc_deletes.specs.Ranges.{IsInRange, OptionInRange, SimpleInRange, SimpleOptionInRange, LocalsInRange, StartInRange, StmtInRange, StmtsInRange}
use Rattle.rc_judgements.proofs.Held.{Held, Given, given_map, given_and, held_part, held_parts, held_both, held_if, held_fitting, held_always, held_and}
use Rattle.rc_judgements.proofs.WellTypedValues.{Fits, IsOf, Means, value_fits, fitted_fits, condition_fits, and_left, and_right, nat_eq_is}
use Rattle.rc_judgements.proofs.WellTypedOperators.{change_fits, changed_fits}
use Rattle.rc_judgements.proofs.WellTypedCalls.{IsCallee, AllFit, callee_fits, call_statement_fits}
use Rattle.rc_judgements.proofs.WellTypedExpressions.{first_part, second_part, meant_fits, values_fit, valued_fits}
use Rattle.rc_judgements.proofs.WellTypedDefined.{Defined, place_defined}
use Rattle.rc_deletes.specs.declared.fault.Refusal.TheVariants.{Mistyped}
use Rattle.rc_judgements.proofs.WellTypedLocals.{Known, Within, within_before, known_option, known_simple_option, known_declared, known_behind_local, known_start, known_stmt}
use Rattle.rc_judgements.proofs.Simples.{third_is_simple, first_is_start}
use Rattle.rc_deletes.proofs.Standing.{at_end, on_expr, on_option, on_simple_option, on_locals, on_stmt, on_stmts}

le_is : (m n : ℕ) → IsTrue (nat_le m n) → m ≤ n
le_is m n h = grind (arith, nat_tests)

-- the right side of `=`
module _ (program : p.Program) (f : p.Function) where
  abbrev Value : Typed → Type 0
  Value v = Fits program f.locals v

  abbrev RightFits : RightSide → Type 0
  RightFits (one_value v) = Fits program f.locals v
  RightFits (whole_struct place s) = IsPlace program f.locals place (struct s)

  right_fits : (at : Spot) (m : Meant) → Means program f.locals m → Held RightFits (right_side at m)
  right_fits at (a_place place (struct s)) h = h
  right_fits at m h = held_part Value RightFits (as_value at m) (λ v. Holds (one_value v)) (value_fits program f.locals at m h) (λ v k. k)

  -- a value for a place that is no struct
  stored_fits : (u : Ty) (v : Typed) → Value v → Given (λ e. IsTrue (not (is_struct u)) × HasType program f.locals e (value_type u)) (fitted u v)
  stored_fits (struct k) v h = tt
  stored_fits int v h = given_and _ (λ e. HasType program f.locals e (value_type int)) (fitted int v) refl (fitted_fits program f.locals int v h)
  stored_fits unsigned v h = given_and _ (λ e. HasType program f.locals e (value_type unsigned)) (fitted unsigned v) refl (fitted_fits program f.locals unsigned v h)
  stored_fits char v h = given_and _ (λ e. HasType program f.locals e (value_type char)) (fitted char v) refl (fitted_fits program f.locals char v h)
  stored_fits region v h = given_and _ (λ e. HasType program f.locals e (value_type region)) (fitted region v) refl (fitted_fits program f.locals region v h)
  stored_fits (pointer n u) v h = given_and _ (λ e. HasType program f.locals e (value_type (pointer n u))) (fitted (pointer n u) v) refl (fitted_fits program f.locals (pointer n u) v h)

  runs : (e : p.Expr) (u : Ty) → HasType program f.locals e u → NotNull e → Runs program f.locals e
  runs (p.call line k args) u h n = (h.0, (h.1.0, h.1.2))
  runs _ u h n = (n, (u, h))

  runs_of : (ty : Option Ty) (e : p.Expr) → is_none ty ≡ false → IsOf program f.locals ty e → Runs program f.locals e
  runs_of (Some u) e q h = runs e (value_type u) h.0 h.1
  runs_of None e q h = absurd cc

  alone_fits : (loop : Bool) (at : Spot) (v : Typed) → Value v → Held (IsTyped program f loop) (alone_rule at v)
  alone_fits loop at v h = held_if (IsTyped program f loop) (is_none v.ty) (fails at Mistyped) (Holds (p.evaluate at.line v.code)) (λ q. tt) (λ q. runs_of v.ty v.code q h)

  changed_local : (loop : Bool) (line left x : ℕ) (u : Ty) (c : Option (Change × p.Expr)) → slice_get f.locals x ≡ Some u → Given (λ c. Takes program f.locals u c.0 c.1) c → Given (IsTyped program f loop) (assigned_change line x (typed left u (p.local left x)) c)
  changed_local loop line left x u None h k = tt
  changed_local loop line left x u (Some c) h k = (u, (h, changed_fits program f.locals line left x u c.0 c.1 h k))

  updated_fits : (loop : Bool) (line : ℕ) (place : p.Place) (u : Ty) (c : Option (Change × p.Expr)) → IsPlace program f.locals place u → Given (λ c. Takes program f.locals u c.0 c.1) c → Given (IsTyped program f loop) (updated_place line place c)
  updated_fits loop line place u None h k = tt
  updated_fits loop line place u (Some c) h k = (u, (h, k))

  update_fits : (loop : Bool) (line left : ℕ) (op : BinaryOp) (m : Meant) (v : Typed) → Means program f.locals m → Value v → Given (IsTyped program f loop) (update_of line left op m v)
  update_fits loop line left op (a_variable x u) v h k = changed_local loop line left x u (change_of op u v) h (change_fits program f.locals op u v k)
  update_fits loop line left op (a_place place u) v h k = updated_fits loop line place u (change_of op u v) h (change_fits program f.locals op u v k)
  update_fits loop line left op _ v h k = tt

  one_fits : (line : ℕ) → Value (one line)
  one_fits line = ((refl, refl), refl)

  returned_fits : (loop : Bool) (line : ℕ) (r : Option Ty) (v : Option Typed) → f.result ≡ r → Given Value v → Given (IsTyped program f loop) (returned line r v)
  returned_fits loop line None None q h = q
  returned_fits loop line (Some u) (Some v) q h = given_map (λ e. HasType program f.locals e (value_type u)) (IsTyped program f loop) _ (fitted u v) (fitted_fits program f.locals u v h) (λ e k. (u, (q, k)))
  returned_fits loop line None (Some v) q h = tt
  returned_fits loop line (Some u) None q h = tt

  declared_fits : (loop : Bool) (line x : ℕ) (u : Ty) (v : Option Typed) → slice_get f.locals x ≡ Some u → Given Value v → Given (IsTyped program f loop) (declaration line x u v)
  declared_fits loop line x (struct k) v q h = tt
  declared_fits loop line x _ None q h = (_, (q, tt))
  declared_fits loop line x u (Some v) q h = given_map (λ e. HasType program f.locals e (value_type u)) (IsTyped program f loop) _ (fitted u v) (fitted_fits program f.locals u v h) (λ e k. (u, (q, k)))

  module _ (context : Context) (structs : program.structs ≡ structs_in context) (defined : Defined program) (variables : (x : ℕ) (u : Ty) → slice_get f.locals x ≡ Some u → IsDefined program.structs u) where
    copy_fits : (loop : Bool) (line : ℕ) (place : p.Place) (s : ℕ) (from : p.Place) (k : ℕ) → IsPlace program f.locals place (struct s) → IsPlace program f.locals from (struct k) → Given (IsTyped program f loop) (copy_of context line place s from k)
    copy_fits loop line place s from k h q = copied (nat_eq s k && nat_le (size (structs_in context) (struct s)) 256) refl where
      copied : (b : Bool) → (nat_eq s k && nat_le (size (structs_in context) (struct s)) 256) ≡ b → Given (IsTyped program f loop) (if b then Some (p.copy line s place from) else None)
      copied false e = tt
      copied true e =
          let same : s ≡ k = nat_eq_is s k (and_left _ _ e) in
          let small : size (structs_in context) (struct s) ≤ 256 = le_is _ _ (and_right (nat_eq s k) _ e) in
          (h, subst (λ x. IsPlace program f.locals from (struct x)) (sym same) q, place_defined program f.locals defined variables place (struct s) h, subst (λ x. size x (struct s) ≤ 256) (sym structs) small)

    assignment_fits : (loop : Bool) (line : ℕ) (m : Meant) (w : RightSide) → Means program f.locals m → RightFits w → Given (IsTyped program f loop) (assignment context line m w)
    assignment_fits loop line (a_variable x u) (one_value v) h k = given_map (λ e. HasType program f.locals e (value_type u)) (IsTyped program f loop) _ (fitted u v) (fitted_fits program f.locals u v k) (λ e q. (u, (h, q)))
    assignment_fits loop line (a_place place u) (one_value v) h k = given_map (λ e. IsTrue (not (is_struct u)) × HasType program f.locals e (value_type u)) (IsTyped program f loop) _ (fitted u v) (stored_fits u v k) (λ e q. (u, (h, q.0, q.1)))
    assignment_fits loop line (a_place place (struct s)) (whole_struct from k) h q = copy_fits loop line place s from k h q
    assignment_fits loop line _ _ h k = tt

    abbrev Names : Here → Type 0
    Names here = Known program f.locals here.names

    abbrev Inside : Here → Type 0
    Inside here = Within program f.locals here

    meant_here : (here : Here) (e : t.Expr) → IsInRange e → Names here → length (here.strings ++ strings_in e) ≤ length program.strings → Held (Means program f.locals) (meant context here.names here.strings e)
    meant_here here e r k b = meant_fits program f.locals context here.names structs k here.strings e r b

    value_here : (here : Here) (e : t.Expr) → IsInRange e → Names here → length (here.strings ++ strings_in e) ≤ length program.strings → Held Value (value context here.names here.strings e)
    value_here here e r k b = valued_fits program f.locals e _ (meant_here here e r k b)

    value_option_fits : (here : Here) (e : Option t.Expr) → OptionInRange e → Names here → Inside (behind_option here e) → Held (Given Value) (value_option context here.names here.strings e)
    value_option_fits here None r k w = tt
    value_option_fits here (Some e) r k w = held_part Value (Given Value) (value context here.names here.strings e) (λ v. Holds (Some v)) (value_here here e r k w.1) (λ v h. h)

    condition_here : (here : Here) (e : t.Expr) → IsInRange e → Names here → Inside (behind here e) → Held (IsValue program f.locals) (condition context here.names here.strings e)
    condition_here here e r k w = held_part Value (IsValue program f.locals) (value context here.names here.strings e) (condition_rule (spot_of e)) (value_here here e r k w.1) (condition_fits program f.locals (spot_of e))

    condition_option_fits : (here : Here) (e : Option t.Expr) → OptionInRange e → Names here → Inside (behind_option here e) → Held (λ c. IfSome c (IsValue program f.locals)) (condition_option context here.names here.strings e)
    condition_option_fits here None r k w = tt
    condition_option_fits here (Some e) r k w = held_part (IsValue program f.locals) (λ c. IfSome c (IsValue program f.locals)) (condition context here.names here.strings e) (λ c. Holds (Some c)) (condition_here here e r k w) (λ c h. h)

    expression_fits : (loop : Bool) (here : Here) (e : t.Expr) → IsInRange e → Names here → Inside (behind here e) → Held (IsTyped program f loop) (expression_alone context here.names here.strings e)
    expression_fits loop here (t.call name args) r k w =
        held_parts (IsCallee program f.locals) (AllFit program f.locals) (IsTyped program f loop) (callee_rule name.spot (meaning_in here.names name.text)) (values context here.names here.strings args) (call_statement name.spot)
        (callee_fits program f.locals name.spot (meaning_in here.names name.text) (k name.text)) (values_fit program f.locals context here.names structs k here.strings args r w.1)
        (λ c vs h q. call_statement_fits program f loop name.spot c vs h q)
    expression_fits loop here e r k w = held_part Value (IsTyped program f loop) (value context here.names here.strings e) (alone_rule (spot_of e)) (value_here here e r k w.1) (alone_fits loop (spot_of e))

    pub simple_fits : (loop : Bool) (here : Here) (s : t.Simple) → SimpleInRange s → Names here → Inside (behind_simple here s) → Held (IsTyped program f loop) (simple context here.names here.strings s)
    simple_fits loop here (t.expression e) r k w = expression_fits loop here e r k w
    simple_fits loop here (t.assign at l e) r k w =
        held_parts (Means program f.locals) RightFits (IsTyped program f loop) (meant context here.names here.strings l) (with_part (meant context here.names (behind here l).strings e) (right_side (spot_of e))) _
        (meant_here here l r.0 k (first_part _ here.strings (strings_in l) (strings_in e) w.1))
        (held_part (Means program f.locals) RightFits (meant context here.names (behind here l).strings e) (right_side (spot_of e)) (meant_here (behind here l) e r.1 k (second_part _ here.strings (strings_in l) (strings_in e) w.1)) (right_fits (spot_of e)))
        (λ m v h q. held_fitting (IsTyped program f loop) at (assignment context at.line m v) (assignment_fits loop at.line m v h q))
    simple_fits loop here (t.update at op l e) r k w =
        held_parts (Means program f.locals) Value (IsTyped program f loop) (meant context here.names here.strings l) (value context here.names (behind here l).strings e) _
        (meant_here here l r.0 k (first_part _ here.strings (strings_in l) (strings_in e) w.1)) (value_here (behind here l) e r.1 k (second_part _ here.strings (strings_in l) (strings_in e) w.1))
        (λ m v h q. held_fitting (IsTyped program f loop) at (update_of at.line (spot_of l).line op m v) (update_fits loop at.line (spot_of l).line op m v h q))
    simple_fits loop here (t.step_after at op l) r k w =
        held_part (Means program f.locals) (IsTyped program f loop) (meant context here.names here.strings l) _ (meant_here here l r k w.1)
        (λ m h. held_fitting (IsTyped program f loop) at (update_of at.line (spot_of l).line (step_operator op) m (one at.line)) (update_fits loop at.line (spot_of l).line (step_operator op) m (one at.line) h (one_fits at.line)))
    simple_fits loop here (t.step_before at op l) r k w =
        held_part (Means program f.locals) (IsTyped program f loop) (meant context here.names here.strings l) _ (meant_here here l r k w.1)
        (λ m h. held_fitting (IsTyped program f loop) at (update_of at.line (spot_of l).line (step_operator op) m (one at.line)) (update_fits loop at.line (spot_of l).line (step_operator op) m (one at.line) h (one_fits at.line)))

    simple_option_fits : (loop : Bool) (here : Here) (s : Option t.Simple) → SimpleOptionInRange s → Names here → Inside (behind_simple_option here s) → Held (IsTyped program f loop) (simple_option context here.names here.strings s)
    simple_option_fits loop here None r k w = tt
    simple_option_fits loop here (Some s) r k w = simple_fits loop here s r k w

    local_fits : (loop : Bool) (here : Here) (l : t.Local) → OptionInRange l.initial → Names here → Inside (behind_local context here l) → Held (IsTyped program f loop) (local context here l)
    local_fits loop here l r k w =
        let next = declared context here l in
        let inner : Inside next = within_before program f.locals next (behind_local context here l) (on_option next l.initial) w in
        held_parts (λ (u : Unit {0}). Unit {0}) (λ (v : Unit {0} × Option Typed). Unit {0} × Given Value v.1) (IsTyped program f loop) (base_rule context l.type_name.base) (both (new_name here.first here.names l.name) (value_option context next.names next.strings l.initial)) _
        (held_always (Unit {0}) (base_rule context l.type_name.base) tt)
        (held_both (λ (u : Unit {0}). Unit {0}) (Given Value) (new_name here.first here.names l.name) (value_option context next.names next.strings l.initial) (held_always (Unit {0}) (new_name here.first here.names l.name) tt) (value_option_fits next l.initial r (known_declared program f.locals context here l k w) w))
        (λ u v h q. held_fitting (IsTyped program f loop) l.spot (declaration l.spot.line (length here.locals) (local_type context l) v.1) (declared_fits loop l.spot.line (length here.locals) (local_type context l) v.1 (inner.0 (length here.locals) (local_type context l) (at_end here.locals [] (local_type context l))) q.1))

    locals_fit : (loop : Bool) (here : Here) (ls : List t.Local) → LocalsInRange ls → Names here → Inside (behind_locals context here ls) → Held (AreTyped program f loop) (locals context here ls)
    locals_fit loop here [] r k w = tt
    locals_fit loop here (l ∷ ls) r k w =
        let next = behind_local context here l in
        let inner : Inside next = within_before program f.locals next (behind_locals context next ls) (on_locals context next ls) w in
        held_parts (IsTyped program f loop) (AreTyped program f loop) (AreTyped program f loop) (local context here l) (locals context next ls) (λ s rest. Holds (p.then s rest))
        (local_fits loop here l r.0 k inner) (locals_fit loop next ls r.1 (known_behind_local program f.locals context here l k inner) w) (λ s rest h q. (h, q))

    start_fits : (loop : Bool) (here : Here) (s : t.ForStart) → StartInRange s → Names here → Inside (behind_start context here s) → Held (IsTyped program f loop) (for_start context here s)
    start_fits loop here t.nothing r k w = tt
    start_fits loop here (t.simply s) r k w = simple_fits loop here s r k w
    start_fits loop here (t.locals ls) r k w = held_part (AreTyped program f loop) (IsTyped program f loop) (locals context here ls) (λ body. Holds (p.block body)) (locals_fit loop here ls r k w) (λ b h. h)

    -- the parts of a `for` between its parentheses
    abbrev First : Bool → p.Stmt → Type 0
    First loop s = IsTyped program f loop s × IsStart s

    abbrev Third : Bool → p.Stmt → Type 0
    Third loop s = IsTyped program f loop s × IsSimple s

    mutual
      pub stmt_fits : (loop : Bool) (here : Here) (s : t.Stmt) → StmtInRange s → Names here → Inside (behind_stmt context here s) → Held (IsTyped program f loop) (stmt context f.result loop here s)
      stmt_fits loop here (t.local l) r k w = local_fits loop here l r k w
      stmt_fits loop here (t.block at body) r k w = held_part (AreTyped program f loop) (IsTyped program f loop) (stmts context f.result loop (inside here) body) (λ b. Holds (p.block b)) (stmts_fit loop (inside here) body r k w) (λ b h. h)
      stmt_fits loop here (t.empty at) r k w = tt
      stmt_fits loop here (t.simple at s) r k w = simple_fits loop here s r k w
      stmt_fits loop here (t.if_then at c a) r k w =
          let one = behind here c in
          held_parts (IsValue program f.locals) (IsTyped program f loop) (IsTyped program f loop) (condition context here.names here.strings c) (stmt context f.result loop one a) _
          (condition_here here c r.0 k (within_before program f.locals one (behind_stmt context one a) (on_stmt context one a) w)) (stmt_fits loop one a r.1 k w) (λ x y h q. (h, q, tt))
      stmt_fits loop here (t.if_else at c a b) r k w =
          let one = behind here c in
          let two = behind_stmt context one a in
          let at_two : Inside two = within_before program f.locals two (behind_stmt context two b) (on_stmt context two b) w in
          held_parts (IsValue program f.locals) (λ (v : p.Stmt × p.Stmt). IsTyped program f loop v.0 × IsTyped program f loop v.1) (IsTyped program f loop) (condition context here.names here.strings c) (both (stmt context f.result loop one a) (stmt context f.result loop two b)) _
          (condition_here here c r.0 k (within_before program f.locals one two (on_stmt context one a) at_two))
          (held_both (IsTyped program f loop) (IsTyped program f loop) (stmt context f.result loop one a) (stmt context f.result loop two b) (stmt_fits loop one a r.1 k at_two) (stmt_fits loop two b r.2 (known_stmt program f.locals context one a k at_two) w))
          (λ x y h q. (h, q.0, q.1))
      stmt_fits loop here (t.while_do at c a) r k w =
          let one = behind here c in
          held_parts (IsValue program f.locals) (IsTyped program f true) (IsTyped program f loop) (condition context here.names here.strings c) (stmt context f.result true one a) _
          (condition_here here c r.0 k (within_before program f.locals one (behind_stmt context one a) (on_stmt context one a) w)) (stmt_fits true one a r.1 k w) (λ x y h q. (h, q))
      stmt_fits loop here (t.do_while at a c) r k w =
          let one = behind_stmt context here a in
          let at_one : Inside one = within_before program f.locals one (behind one c) (on_expr one c) w in
          held_parts (IsTyped program f true) (IsValue program f.locals) (IsTyped program f loop) (stmt context f.result true here a) (condition context one.names one.strings c) _
          (stmt_fits true here a r.0 k at_one) (condition_here one c r.1 (known_stmt program f.locals context here a k at_one) w) (λ x y h q. (h, q))
      stmt_fits loop here (t.for_do at start c next a) r k w =
          let one = inside here in
          let two = behind_start context one start in
          let three = behind_option two c in
          let four = behind_simple_option three next in
          let at_four : Inside four = within_before program f.locals four (behind_stmt context four a) (on_stmt context four a) w in
          let at_three : Inside three = within_before program f.locals three four (on_simple_option three next) at_four in
          let at_two : Inside two = within_before program f.locals two three (on_option two c) at_three in
          let known_two : Names two = known_start program f.locals context one start k at_two in
          let known_three : Names three = known_option program f.locals two c known_two in
          held_parts (λ (v : p.Stmt × Option p.Expr). First loop v.0 × IfSome v.1 (IsValue program f.locals)) (λ (v : p.Stmt × p.Stmt). Third loop v.0 × IsTyped program f true v.1) (IsTyped program f loop) (both (for_start context one start) (condition_option context two.names two.strings c)) (both (simple_option context three.names three.strings next) (stmt context f.result true four a)) _
          (held_both (First loop) (λ x. IfSome x (IsValue program f.locals)) (for_start context one start) (condition_option context two.names two.strings c)
          (held_and (IsTyped program f loop) IsStart (for_start context one start) (start_fits loop one start r.0 k at_two) (first_is_start context one start)) (condition_option_fits two c r.1 known_two at_three))
          (held_both (Third loop) (IsTyped program f true) (simple_option context three.names three.strings next) (stmt context f.result true four a)
          (held_and (IsTyped program f loop) IsSimple (simple_option context three.names three.strings next) (simple_option_fits loop three next r.2 known_three at_four) (third_is_simple context three.names three.strings next))
          (stmt_fits true four a r.3 (known_simple_option program f.locals three next known_three) w))
          (λ x y h q. (h.0.0, h.1, q.0.0, q.1, h.0.1, q.0.1))
      stmt_fits loop here (t.break_loop at) r k w = held_if (IsTyped program f loop) loop (Holds (p.break at.line)) (fails at Mistyped) (λ e. e) (λ e. tt)
      stmt_fits loop here (t.continue_loop at) r k w = held_if (IsTyped program f loop) loop (Holds (p.continue at.line)) (fails at Mistyped) (λ e. e) (λ e. tt)
      stmt_fits loop here (t.return_with at e) r k w =
          held_part (Given Value) (IsTyped program f loop) (value_option context here.names here.strings e) _ (value_option_fits here e r k w) (λ v h. held_fitting (IsTyped program f loop) at (returned at.line f.result v) (returned_fits loop at.line f.result v refl h))

      pub stmts_fit : (loop : Bool) (here : Here) (body : t.Stmts) → StmtsInRange body → Names here → Inside (behind_stmts context here body) → Held (AreTyped program f loop) (stmts context f.result loop here body)
      stmts_fit loop here t.done r k w = tt
      stmts_fit loop here (t.next s rest) r k w =
          let one = behind_stmt context here s in
          let at_one : Inside one = within_before program f.locals one (behind_stmts context one rest) (on_stmts context one rest) w in
          held_parts (IsTyped program f loop) (AreTyped program f loop) (AreTyped program f loop) (stmt context f.result loop here s) (stmts context f.result loop one rest) (λ a b. Holds (p.then a b))
          (stmt_fits loop here s r.0 k at_one) (stmts_fit loop one rest r.1 (known_stmt program f.locals context here s k at_one) w) (λ a b h q. (h, q))
