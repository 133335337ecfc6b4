-- The rules of statements: one equation for each node.
use Rattle.std.specs.Prelude.{ℕ, pos, List, [], ◌∷◌, ◌++◌, Option, Some, None, Bool, true, false, ◌&&◌, nat_eq, nat_le, length, option_map, is_none, if◌then◌else◌}
use Rattle.rc_base.specs.Limits.{most_copied_cells}
use Rattle.rc_syntax.specs.declared.tree.Spot.{Spot}
use Rattle.rc_syntax.specs.declared.tree.Name.{Name}
use Rattle.rc_syntax.specs.declared.tree.BinaryOp.{BinaryOp}
use Rattle.rc_syntax.specs.declared.tree.BinaryOp.TheVariants.{Add, Subtract}
use Rattle.rc_syntax.specs.declared.tree.StepOp.{StepOp}
use Rattle.rc_syntax.specs.declared.tree.StepOp.TheVariants.{Increment, Decrement}
use Rattle.rc_syntax.specs.Tree as t
use Rattle.rc_core.specs.declared.ty.Signedness.TheVariants.{Signed}
use Rattle.rc_core.specs.declared.stmt.Change.{Change}
use Rattle.rc_core.specs.Types.{Ty, int, struct}
use Rattle.rc_core.specs.Programs as p
use Rattle.rc_core.specs.Layout.{size}
use Rattle.rc_deletes.specs.declared.fault.Refusal.TheVariants.{Twice, Mistyped}
use Rattle.rc_deletes.specs.Judged.{Judged, Holds, with_part, with_parts, both, fails, fitting}
use Rattle.rc_deletes.specs.Kinds.{written_type}
use Rattle.rc_deletes.specs.Scopes.{Context, structs_in, Scope, Meaning, a_local, meaning_in}
use Rattle.rc_deletes.specs.Values.{Typed, Meant, a_variable, a_place, typed, as_value, spot_of, fitted, condition_rule}
use Rattle.rc_deletes.specs.Operators.{result, change_of, changed}
use Rattle.rc_deletes.specs.Calls.{callee_rule, call_statement}
use Rattle.rc_deletes.specs.Expressions.{strings_in, base_rule, meant, values, value}

-- where a node stands: the names that hold there, the types of the function's locals so far, the number of the first local
-- of its scope, and the strings of the text so far
pub record Here : Type 0 where
  pub names : Scope
  pub locals : List Ty
  pub first : ℕ
  pub strings : List (List ℕ)

-- in a scope that begins here
abbrev pub inside : Here → Here
inside here = record here { first = length here.locals }

-- after a scope that ends there
abbrev pub outside : Here → Here → Here
outside here end = record here { locals = end.locals; strings = end.strings }

abbrev pub behind_strings : Here → List (List ℕ) → Here
behind_strings here strings = record here { strings = here.strings ++ strings }

abbrev pub behind : Here → t.Expr → Here
behind here e = behind_strings here (strings_in e)

abbrev pub strings_in_option : Option t.Expr → List (List ℕ)
strings_in_option None = []
strings_in_option (Some e) = strings_in e

abbrev pub strings_in_simple : t.Simple → List (List ℕ)
strings_in_simple (t.expression e) = strings_in e
strings_in_simple (t.assign at l r) = strings_in l ++ strings_in r
strings_in_simple (t.update at op l r) = strings_in l ++ strings_in r
strings_in_simple (t.step_after at op l) = strings_in l
strings_in_simple (t.step_before at op l) = strings_in l

abbrev pub strings_in_simple_option : Option t.Simple → List (List ℕ)
strings_in_simple_option None = []
strings_in_simple_option (Some s) = strings_in_simple s

abbrev pub behind_option : Here → Option t.Expr → Here
behind_option here e = behind_strings here (strings_in_option e)

abbrev pub behind_simple : Here → t.Simple → Here
behind_simple here s = behind_strings here (strings_in_simple s)

abbrev pub behind_simple_option : Here → Option t.Simple → Here
behind_simple_option here s = behind_strings here (strings_in_simple_option s)

abbrev pub with_local : Here → Ty → List ℕ → Here
with_local here t name = record here { names = (name, a_local (length here.locals) t) ∷ here.names; locals = here.locals ++ t ∷ [] }

abbrev pub local_type : Context → t.Local → Ty
local_type context l = written_type context.types l.type_name

-- what a declared name stands for holds from its declarator on
abbrev pub declared : Context → Here → t.Local → Here
declared context here l = with_local here (local_type context l) l.name.text

abbrev pub behind_local : Context → Here → t.Local → Here
behind_local context here l = behind_option (declared context here l) l.initial

abbrev pub behind_locals : Context → Here → List t.Local → Here
behind_locals context here [] = here
behind_locals context here (l ∷ ls) = behind_locals context (behind_local context here l) ls

abbrev pub behind_start : Context → Here → t.ForStart → Here
behind_start context here t.nothing = here
behind_start context here (t.simply s) = behind_simple here s
behind_start context here (t.locals ls) = behind_locals context here ls

-- where the statement after this one stands, whatever is wrong in it
module _ (context : Context) where
  abbrev mutual
    pub behind_stmt : Here → t.Stmt → Here
    behind_stmt here (t.local l) = behind_local context here l
    behind_stmt here (t.block at body) = outside here (behind_stmts (inside here) body)
    behind_stmt here (t.empty at) = here
    behind_stmt here (t.simple at s) = behind_simple here s
    behind_stmt here (t.if_then at c a) = behind_stmt (behind here c) a
    behind_stmt here (t.if_else at c a b) = behind_stmt (behind_stmt (behind here c) a) b
    behind_stmt here (t.while_do at c a) = behind_stmt (behind here c) a
    behind_stmt here (t.do_while at a c) = behind (behind_stmt here a) c
    behind_stmt here (t.for_do at start c next a) =
        outside here (behind_stmt (behind_simple_option (behind_option (behind_start context (inside here) start) c) next) a)
    behind_stmt here (t.break_loop at) = here
    behind_stmt here (t.continue_loop at) = here
    behind_stmt here (t.return_with at e) = behind_option here e

    pub behind_stmts : Here → t.Stmts → Here
    behind_stmts here t.done = here
    behind_stmts here (t.next s rest) = behind_stmts (behind_stmt here s) rest

-- the right side of `=`: a value, or a place of struct type
pub data RightSide : Type 0 where
  one_value : Typed → RightSide
  whole_struct : p.Place → (structure : ℕ) → RightSide

abbrev pub right_side : Spot → Meant → Judged RightSide
right_side at (a_place place (struct s)) = Holds (whole_struct place s)
right_side at m = with_part (as_value at m) (λ v. Holds (one_value v))

-- structs of one type are assigned whole, up to a size
abbrev pub copy_of : Context → ℕ → p.Place → (left : ℕ) → p.Place → (right : ℕ) → Option p.Stmt
copy_of context line place s from k = if nat_eq s k && nat_le (size (structs_in context) (struct s)) most_copied_cells then Some (p.copy line s place from) else None

abbrev pub assignment : Context → ℕ → Meant → RightSide → Option p.Stmt
assignment context line (a_variable x t) (one_value v) = option_map (p.assign line x) (fitted t v)
assignment context line (a_place place t) (one_value v) = option_map (p.store line place) (fitted t v)
assignment context line (a_place place (struct s)) (whole_struct from k) = copy_of context line place s from k
assignment context line m right = None

abbrev pub assigned_change : (line : ℕ) → (number : ℕ) → Typed → Option (Change × p.Expr) → Option p.Stmt
assigned_change line x v None = None
assigned_change line x v (Some c) = Some (p.assign line x (changed line v c.0 c.1))

abbrev pub updated_place : (line : ℕ) → p.Place → Option (Change × p.Expr) → Option p.Stmt
updated_place line place None = None
updated_place line place (Some c) = Some (p.update line place c.0 c.1)

-- `op=` on a local is an assignment, on another place an update; the left side is read at its own line
abbrev pub update_of : (line left : ℕ) → BinaryOp → Meant → Typed → Option p.Stmt
update_of line left op (a_variable x t) v = assigned_change line x (typed left t (p.local left x)) (change_of op t v)
update_of line left op (a_place place t) v = updated_place line place (change_of op t v)
update_of line left op m v = None

-- `++` and `--` add and subtract 1
abbrev pub step_operator : StepOp → BinaryOp
step_operator Increment = Add
step_operator Decrement = Subtract

abbrev pub one : ℕ → Typed
one line = result line int (p.constant line Signed (pos 1))

-- the word `NULL` is no statement
abbrev pub alone_rule : Spot → Typed → Judged p.Stmt
alone_rule at v = if is_none v.ty then fails at Mistyped else Holds (p.evaluate at.line v.code)

-- a declared name is new in its scope
abbrev pub is_twice : (first : ℕ) → Option Meaning → Bool
is_twice first (Some (a_local x t)) = nat_le first x
is_twice first meaning = false

abbrev pub new_name : (first : ℕ) → Scope → Name → Judged (Unit {0})
new_name first names name = if is_twice first (meaning_in names name.text) then fails name.spot Twice else Holds tt

-- no local is a struct
abbrev pub declaration : (line number : ℕ) → Ty → Option Typed → Option p.Stmt
declaration line x (struct s) v = None
declaration line x t None = Some (p.declare line x None)
declaration line x t (Some v) = option_map (λ e. p.declare line x (Some e)) (fitted t v)

abbrev pub returned : (line : ℕ) → Option Ty → Option Typed → Option p.Stmt
returned line None None = Some (p.return line None)
returned line (Some t) (Some v) = option_map (λ e. p.return line (Some e)) (fitted t v)
returned line t v = None

module _ (context : Context) (names : Scope) where
  -- a part that may be absent
  abbrev pub value_option : (before : List (List ℕ)) → Option t.Expr → Judged (Option Typed)
  value_option before None = Holds None
  value_option before (Some e) = with_part (value context names before e) (λ v. Holds (Some v))

  abbrev pub condition : (before : List (List ℕ)) → t.Expr → Judged p.Expr
  condition before e = with_part (value context names before e) (condition_rule (spot_of e))

  abbrev pub condition_option : (before : List (List ℕ)) → Option t.Expr → Judged (Option p.Expr)
  condition_option before None = Holds None
  condition_option before (Some e) = with_part (condition before e) (λ c. Holds (Some c))

  abbrev pub value_alone : (before : List (List ℕ)) → t.Expr → Judged p.Stmt
  value_alone before e = with_part (value context names before e) (alone_rule (spot_of e))

  -- an expression as a statement: a call need give no value
  abbrev pub expression_alone : (before : List (List ℕ)) → t.Expr → Judged p.Stmt
  expression_alone before (t.call name args) = with_parts (callee_rule name.spot (meaning_in names name.text)) (values context names before args) (call_statement name.spot)
  expression_alone before e = value_alone before e

  -- what a `simple` is
  abbrev pub simple : (before : List (List ℕ)) → t.Simple → Judged p.Stmt
  simple before (t.expression e) = expression_alone before e
  simple before (t.assign at l r) =
      with_parts (meant context names before l) (with_part (meant context names (before ++ strings_in l) r) (right_side (spot_of r))) (λ m w. fitting at (assignment context at.line m w))
  simple before (t.update at op l r) =
      with_parts (meant context names before l) (value context names (before ++ strings_in l) r) (λ m v. fitting at (update_of at.line (spot_of l).line op m v))
  simple before (t.step_after at op l) = with_part (meant context names before l) (λ m. fitting at (update_of at.line (spot_of l).line (step_operator op) m (one at.line)))
  simple before (t.step_before at op l) = with_part (meant context names before l) (λ m. fitting at (update_of at.line (spot_of l).line (step_operator op) m (one at.line)))

  -- the parts of a `for` that may be absent are empty blocks
  abbrev pub simple_option : (before : List (List ℕ)) → Option t.Simple → Judged p.Stmt
  simple_option before None = Holds (p.block p.done)
  simple_option before (Some s) = simple before s

module _ (context : Context) where
  abbrev pub local : Here → t.Local → Judged p.Stmt
  local here l = with_parts (base_rule context l.type_name.base) (both (new_name here.first here.names l.name) (value_option context (declared context here l).names here.strings l.initial))
      (λ u v. fitting l.spot (declaration l.spot.line (length here.locals) (local_type context l) v.1))

  abbrev pub locals : Here → List t.Local → Judged p.Stmts
  locals here [] = Holds p.done
  locals here (l ∷ ls) = with_parts (local here l) (locals (behind_local context here l) ls) (λ s rest. Holds (p.then s rest))

  abbrev pub for_start : Here → t.ForStart → Judged p.Stmt
  for_start here t.nothing = Holds (p.block p.done)
  for_start here (t.simply s) = simple context here.names here.strings s
  for_start here (t.locals ls) = with_part (locals here ls) (λ body. Holds (p.block body))

-- `break` and `continue` stand in a loop
abbrev pub in_a_loop : (loop : Bool) → Spot → p.Stmt → Judged p.Stmt
in_a_loop loop at s = if loop then Holds s else fails at Mistyped

-- in a function with this result, in a loop or not
module _ (context : Context) (gives : Option Ty) where
  abbrev mutual
    pub stmt : (loop : Bool) → Here → t.Stmt → Judged p.Stmt
    stmt loop here (t.local l) = local context here l
    stmt loop here (t.block at body) = with_part (stmts loop (inside here) body) (λ b. Holds (p.block b))
    stmt loop here (t.empty at) = Holds (p.block p.done)
    stmt loop here (t.simple at s) = simple context here.names here.strings s
    stmt loop here (t.if_then at c a) = with_parts (condition context here.names here.strings c) (stmt loop (behind here c) a) (λ test yes. Holds (p.branch at.line test yes (p.block p.done)))
    stmt loop here (t.if_else at c a b) =
        with_parts (condition context here.names here.strings c) (both (stmt loop (behind here c) a) (stmt loop (behind_stmt context (behind here c) a) b)) (λ test arms. Holds (p.branch at.line test arms.0 arms.1))
    stmt loop here (t.while_do at c a) = with_parts (condition context here.names here.strings c) (stmt true (behind here c) a) (λ test body. Holds (p.while at.line test body))
    stmt loop here (t.do_while at a c) = with_parts (stmt true here a) (condition context (behind_stmt context here a).names (behind_stmt context here a).strings c) (λ body test. Holds (p.repeat at.line body test))
    stmt loop here (t.for_do at start c next a) =
        let one = inside here in
        let two = behind_start context one start in
        let three = behind_option two c in
        with_parts (both (for_start context one start) (condition_option context two.names two.strings c)) (both (simple_option context three.names three.strings next) (stmt true (behind_simple_option three next) a))
        (λ head rest. Holds (p.for at.line head.0 head.1 rest.0 rest.1))
    stmt loop here (t.break_loop at) = in_a_loop loop at (p.break at.line)
    stmt loop here (t.continue_loop at) = in_a_loop loop at (p.continue at.line)
    stmt loop here (t.return_with at e) = with_part (value_option context here.names here.strings e) (λ v. fitting at (returned at.line gives v))

    pub stmts : (loop : Bool) → Here → t.Stmts → Judged p.Stmts
    stmts loop here t.done = Holds p.done
    stmts loop here (t.next s rest) = with_parts (stmt loop here s) (stmts loop (behind_stmt context here s) rest) (λ a b. Holds (p.then a b))
