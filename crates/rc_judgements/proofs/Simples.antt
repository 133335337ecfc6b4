-- The parts of a `for` before and after its condition run straight through.
use Rattle.std.specs.Prelude.{List, [], ◌∷◌, ℕ, Option, Some, None, Bool, true, false, is_none, nat_eq, nat_le, ◌&&◌, ◌++◌, length, if◌then◌else◌}
use Rattle.rc_syntax.specs.declared.tree.Spot.{Spot}
use Rattle.rc_syntax.specs.declared.tree.BinaryOp.{BinaryOp}
use Rattle.rc_syntax.specs.Tree as t
use Rattle.rc_core.specs.declared.stmt.Change.{Change}
use Rattle.rc_core.specs.Types.{Ty, struct}
use Rattle.rc_core.specs.Programs as p
use Rattle.rc_core.specs.Layout.{size}
use Rattle.rc_core.specs.Typing.{value_type, IsSimple, AreDeclarations, IsStart}
use Rattle.rc_deletes.specs.declared.builtin.Builtin.TheVariants.{DeleteRegion}
use Rattle.rc_deletes.specs.declared.fault.Refusal.TheVariants.{Mistyped}
use Rattle.rc_deletes.specs.Judged.{Judged, Holds, with_part, both, fails}
use Rattle.rc_deletes.specs.Scopes.{Context, Scope, structs_in, meaning_in}
use Rattle.rc_deletes.specs.Values.{Typed, Meant, a_variable, a_place, typed, spot_of, fitted}
use Rattle.rc_deletes.specs.Operators.{change_of}
use Rattle.rc_deletes.specs.Calls.{Callee, the_function, the_builtin, no_function, callee_rule, call_rule, called_alone, call_statement}
use Rattle.rc_deletes.specs.Expressions.{base_rule, strings_in, meant, values, value}
use Rattle.rc_deletes.specs.Statements.{Here, RightSide, one_value, whole_struct, right_side, copy_of, assignment, assigned_change, updated_place, update_of, step_operator, one, alone_rule, new_name, declaration, declared, local_type, behind_local, value_option, expression_alone, simple, simple_option, local, locals, for_start}
use Rattle.rc_judgements.proofs.Held.{Held, Given, given_map, given_always, held_part, held_parts, held_if, held_fitting, held_more, held_always}

-- of any judgement nothing is known
known : {A : Type 0} (x : Judged A) → Held (λ a. Unit {0}) x
known x = held_always (Unit {0}) x tt

given : {A : Type 0} (x : Option A) → Given (λ a. Unit {0}) x
given x = given_always (Unit {0}) x tt

changed_simple : (line x : ℕ) (v : Typed) (c : Option (Change × p.Expr)) → Given IsSimple (assigned_change line x v c)
changed_simple line x v None = tt
changed_simple line x v (Some c) = tt

updated_simple : (line : ℕ) (place : p.Place) (c : Option (Change × p.Expr)) → Given IsSimple (updated_place line place c)
updated_simple line place None = tt
updated_simple line place (Some c) = tt

update_simple : (line left : ℕ) (op : BinaryOp) (m : Meant) (v : Typed) → Given IsSimple (update_of line left op m v)
update_simple line left op (a_variable x u) v = changed_simple line x (typed left u (p.local left x)) (change_of op u v)
update_simple line left op (a_place place u) v = updated_simple line place (change_of op u v)
update_simple line left op _ v = tt

copy_simple : (context : Context) (line : ℕ) (place : p.Place) (s : ℕ) (from : p.Place) (k : ℕ) → Given IsSimple (copy_of context line place s from k)
copy_simple context line place s from k = copied (nat_eq s k && nat_le (size (structs_in context) (struct s)) 256) where
  copied : (b : Bool) → Given IsSimple (if b then Some (p.copy line s place from) else None)
  copied true = tt
  copied false = tt

assignment_simple : (context : Context) (line : ℕ) (m : Meant) (w : RightSide) → Given IsSimple (assignment context line m w)
assignment_simple context line (a_variable x u) (one_value v) = given_map (λ e. Unit {0}) IsSimple (p.assign line x) (fitted u v) (given (fitted u v)) (λ e h. tt)
assignment_simple context line (a_place place u) (one_value v) = given_map (λ e. Unit {0}) IsSimple (p.store line place) (fitted u v) (given (fitted u v)) (λ e h. tt)
assignment_simple context line (a_place place (struct s)) (whole_struct from k) = copy_simple context line place s from k
assignment_simple context line _ _ = tt

alone_simple : (at : Spot) (v : Typed) → Held IsSimple (alone_rule at v)
alone_simple at v = held_if IsSimple (is_none v.ty) (fails at Mistyped) (Holds (p.evaluate at.line v.code)) (λ q. tt) (λ q. tt)

called_simple : (line : ℕ) (f : Callee) (es : List p.Expr) → IsSimple (called_alone line f es)
called_simple line (the_builtin DeleteRegion) es = tt
called_simple line _ es = tt

module _ (context : Context) where
  expression_simple : (names : Scope) (before : List (List ℕ)) (e : t.Expr) → Held IsSimple (expression_alone context names before e)
  expression_simple names before (t.call name args) =
      held_parts (λ f. Unit {0}) (λ vs. Unit {0}) IsSimple (callee_rule name.spot (meaning_in names name.text)) (values context names before args) (call_statement name.spot)
      (known (callee_rule name.spot (meaning_in names name.text))) (known (values context names before args))
      (λ f vs h q. held_part (λ es. Unit {0}) IsSimple (call_rule false name.spot f vs) (λ es. Holds (called_alone name.spot.line f es)) (known (call_rule false name.spot f vs)) (λ es k. called_simple name.spot.line f es))
  expression_simple names before e = held_part (λ v. Unit {0}) IsSimple (value context names before e) (alone_rule (spot_of e)) (known (value context names before e)) (λ v h. alone_simple (spot_of e) v)

  simple_is : (names : Scope) (before : List (List ℕ)) (s : t.Simple) → Held IsSimple (simple context names before s)
  simple_is names before (t.expression e) = expression_simple names before e
  simple_is names before (t.assign at l e) =
      held_parts (λ m. Unit {0}) (λ w. Unit {0}) IsSimple (meant context names before l) (with_part (meant context names (before ++ strings_in l) e) (right_side (spot_of e))) _
      (known (meant context names before l)) (known (with_part (meant context names (before ++ strings_in l) e) (right_side (spot_of e))))
      (λ m w h q. held_fitting IsSimple at (assignment context at.line m w) (assignment_simple context at.line m w))
  simple_is names before (t.update at op l e) =
      held_parts (λ m. Unit {0}) (λ v. Unit {0}) IsSimple (meant context names before l) (value context names (before ++ strings_in l) e) _
      (known (meant context names before l)) (known (value context names (before ++ strings_in l) e))
      (λ m v h q. held_fitting IsSimple at (update_of at.line (spot_of l).line op m v) (update_simple at.line (spot_of l).line op m v))
  simple_is names before (t.step_after at op l) =
      held_part (λ m. Unit {0}) IsSimple (meant context names before l) _ (known (meant context names before l))
      (λ m h. held_fitting IsSimple at (update_of at.line (spot_of l).line (step_operator op) m (one at.line)) (update_simple at.line (spot_of l).line (step_operator op) m (one at.line)))
  simple_is names before (t.step_before at op l) =
      held_part (λ m. Unit {0}) IsSimple (meant context names before l) _ (known (meant context names before l))
      (λ m h. held_fitting IsSimple at (update_of at.line (spot_of l).line (step_operator op) m (one at.line)) (update_simple at.line (spot_of l).line (step_operator op) m (one at.line)))

  pub third_is_simple : (names : Scope) (before : List (List ℕ)) (s : Option t.Simple) → Held IsSimple (simple_option context names before s)
  third_is_simple names before None = tt
  third_is_simple names before (Some s) = simple_is names before s

  -- a declaration, and no other statement
  abbrev IsDeclaration : p.Stmt → Type 0
  IsDeclaration s = (rest : p.Stmts) → AreDeclarations rest → AreDeclarations (p.then s rest)

  declaration_is : (line x : ℕ) (u : Ty) (v : Option Typed) → Given IsDeclaration (declaration line x u v)
  declaration_is line x (struct k) v = tt
  declaration_is line x _ None = λ rest h. h
  declaration_is line x u (Some v) = given_map (λ e. Unit {0}) IsDeclaration (λ e. p.declare line x (Some e)) (fitted u v) (given (fitted u v)) (λ e h rest k. k)

  local_is : (here : Here) (l : t.Local) → Held IsDeclaration (local context here l)
  local_is here l =
      held_parts (λ u. Unit {0}) (λ v. Unit {0}) IsDeclaration (base_rule context l.type_name.base) (both (new_name here.first here.names l.name) (value_option context (declared context here l).names here.strings l.initial)) _
      (known (base_rule context l.type_name.base)) (known (both (new_name here.first here.names l.name) (value_option context (declared context here l).names here.strings l.initial)))
      (λ u v h q. held_fitting IsDeclaration l.spot (declaration l.spot.line (length here.locals) (local_type context l) v.1) (declaration_is l.spot.line (length here.locals) (local_type context l) v.1))

  locals_are : (here : Here) (ls : List t.Local) → Held AreDeclarations (locals context here ls)
  locals_are here [] = tt
  locals_are here (l ∷ ls) =
      held_parts IsDeclaration AreDeclarations AreDeclarations (local context here l) (locals context (behind_local context here l) ls) (λ s rest. Holds (p.then s rest)) (local_is here l) (locals_are (behind_local context here l) ls) (λ s rest h q. h rest q)

  start_of : (s : p.Stmt) → IsSimple s → IsStart s
  start_of (p.block p.done) h = tt
  start_of (p.block (p.then s rest)) h = absurd h
  start_of _ h = h

  pub first_is_start : (here : Here) (s : t.ForStart) → Held IsStart (for_start context here s)
  first_is_start here t.nothing = tt
  first_is_start here (t.simply s) = held_more IsSimple IsStart (simple context here.names here.strings s) (simple_is here.names here.strings s) start_of
  first_is_start here (t.locals ls) = held_part AreDeclarations IsStart (locals context here ls) (λ body. Holds (p.block body)) (locals_are here ls) (λ b h. h)
