-- Every local that is declared is a variable, and every name stands for what is there.
use Rattle.std.specs.Prelude.{◌≡◌, ◌⊎◌, ℕ, ◌≤◌, List, [], ◌∷◌, Option, Some, None, Bool, true, not, IsTrue, slice_get, length}
use Rattle.std.proofs.Common.{refl, sym, subst, inl, inr, arith}
use Rattle.std.specs.Str.{bytes_eq}
use Rattle.rc_syntax.specs.Tree as t
use Rattle.rc_core.specs.Types.{Ty, int, unsigned, char, region, struct, pointer}
use Rattle.rc_core.specs.Programs as p
use Rattle.rc_core.specs.Typing.{is_struct, IsDefined}
use Rattle.rc_core.specs.WellTyped.{IsVariable}
use Rattle.rc_deletes.specs.Judged.{Holds, both}
use Rattle.rc_deletes.specs.Kinds.{base_type}
use Rattle.rc_deletes.specs.Scopes.{Context, structs_in, Scope, a_local, meaning_in}
use Rattle.rc_deletes.specs.Values.{Typed}
use Rattle.rc_deletes.specs.Expressions.{base_rule}
use Rattle.rc_deletes.specs.Statements.{Here, inside, behind, behind_option, with_local, declared, local_type, behind_simple, behind_simple_option, behind_local, behind_locals, behind_start, behind_stmt, behind_stmts, new_name, declaration, value_option, condition, condition_option, simple, simple_option, local, locals, for_start, stmt, stmts}
use Rattle.rc_judgements.proofs.Held.{Held, Given, given_if, given_always, held_part, held_parts, held_fitting, held_always, held_turn}
use Rattle.rc_judgements.proofs.WellTypedCalls.{IsThere}
use Rattle.rc_judgements.proofs.WellTypedExpressions.{base_fits, starred_defined}
use Rattle.rc_deletes.proofs.Standing.{Prefix, Extends, at_end, one_more, on_expr, on_option, on_locals, on_stmt}

abbrev pub AllVariables : List p.Struct → List Ty → Type 0
AllVariables structs ts = (x : ℕ) (u : Ty) → slice_get ts x ≡ Some u → IsVariable structs u

-- locals that are variables, behind a node where nothing is wrong
module _ (context : Context) where
  abbrev pub Variables : Here → Type 0
  Variables here = AllVariables (structs_in context) here.locals

  pub with_variable : (here : Here) (u : Ty) (name : List ℕ) → Variables here → IsVariable (structs_in context) u → Variables (with_local here u name)
  with_variable here u name h k x w q = go (one_more here.locals u x w q) where
    go : (slice_get here.locals x ≡ Some w) ⊎ (w ≡ u) → IsVariable (structs_in context) w
    go (inl a) = h x w a
    go (inr a) = subst (IsVariable (structs_in context)) (sym a) k

  option_variables : (here : Here) (e : Option t.Expr) → Variables here → Variables (behind_option here e)
  option_variables here e h = h

  simple_variables : (here : Here) (s : t.Simple) → Variables here → Variables (behind_simple here s)
  simple_variables here s h = h

  simple_option_variables : (here : Here) (s : Option t.Simple) → Variables here → Variables (behind_simple_option here s)
  simple_option_variables here s h = h

  -- what is declared is no struct
  not_a_struct : (line x : ℕ) (u : Ty) (v : Option Typed) → Given (λ (s : p.Stmt). IsTrue (not (is_struct u))) (declaration line x u v)
  not_a_struct line x (struct k) v = tt
  not_a_struct line x int v = given_always _ (declaration line x int v) refl
  not_a_struct line x unsigned v = given_always _ (declaration line x unsigned v) refl
  not_a_struct line x char v = given_always _ (declaration line x char v) refl
  not_a_struct line x region v = given_always _ (declaration line x region v) refl
  not_a_struct line x (pointer n u) v = given_always _ (declaration line x (pointer n u) v) refl

  abbrev IsDefinedBase : t.Local → Type 0
  IsDefinedBase l = IsDefined (structs_in context) (base_type context.types l.type_name.base)

  local_variables : (here : Here) (l : t.Local) → Variables here → Held (λ (s : p.Stmt). Variables (behind_local context here l)) (local context here l)
  local_variables here l h =
      held_parts (λ u. IsDefinedBase l) (λ v. Unit {0}) (λ (s : p.Stmt). Variables (behind_local context here l)) (base_rule context l.type_name.base) (both (new_name here.first here.names l.name) (value_option context (declared context here l).names here.strings l.initial)) _
      (base_fits context l.type_name.base) (held_always (Unit {0}) (both (new_name here.first here.names l.name) (value_option context (declared context here l).names here.strings l.initial)) tt)
      (λ u v d q. held_fitting (λ (s : p.Stmt). Variables (behind_local context here l)) l.spot (declaration l.spot.line (length here.locals) (local_type context l) v.1)
      (kept (declaration l.spot.line (length here.locals) (local_type context l) v.1) (not_a_struct l.spot.line (length here.locals) (local_type context l) v.1)
      (λ n. option_variables (declared context here l) l.initial (with_variable here (local_type context l) l.name.text h (starred_defined (structs_in context) _ l.type_name.stars d, n)))))
    where
      kept : {C D : Type 0} (o : Option p.Stmt) → Given (λ (s : p.Stmt). C) o → (C → D) → Given (λ (s : p.Stmt). D) o
      kept None h k = tt
      kept (Some s) h k = k h

  locals_variables : (here : Here) (ls : List t.Local) → Variables here → Held (λ (s : p.Stmts). Variables (behind_locals context here ls)) (locals context here ls)
  locals_variables here [] h = h
  locals_variables here (l ∷ ls) h =
      let next = behind_local context here l in
      held_turn (Variables next) (Variables (behind_locals context next ls)) (Variables (behind_locals context next ls)) (local context here l) (locals context next ls) _ (local_variables here l h) (λ k. locals_variables next ls k) (λ s rest k. k)

  start_variables : (here : Here) (s : t.ForStart) → Variables here → Held (λ (b : p.Stmt). Variables (behind_start context here s)) (for_start context here s)
  start_variables here t.nothing h = h
  start_variables here (t.simply s) h = held_always _ (simple context here.names here.strings s) (simple_variables here s h)
  start_variables here (t.locals ls) h = held_part (λ (b : p.Stmts). Variables (behind_locals context here ls)) _ (locals context here ls) _ (locals_variables here ls h) (λ b k. k)

  module _ (gives : Option Ty) where
    mutual
      pub stmt_variables : (loop : Bool) (here : Here) (s : t.Stmt) → Variables here → Held (λ (b : p.Stmt). Variables (behind_stmt context here s)) (stmt context gives loop here s)
      stmt_variables loop here (t.local l) h = local_variables here l h
      stmt_variables loop here (t.block at body) h = held_part (λ (b : p.Stmts). Variables (behind_stmts context (inside here) body)) _ (stmts context gives loop (inside here) body) _ (stmts_variables loop (inside here) body h) (λ b k. k)
      stmt_variables loop here (t.empty at) h = h
      stmt_variables loop here (t.simple at s) h = held_always _ (simple context here.names here.strings s) (simple_variables here s h)
      stmt_variables loop here (t.if_then at c a) h =
          let one = behind here c in
          let end = Variables (behind_stmt context one a) in
          held_turn (Variables here) end end (condition context here.names here.strings c) (stmt context gives loop one a) _ (held_always _ (condition context here.names here.strings c) h) (λ k. stmt_variables loop one a k) (λ x y k. k)
      stmt_variables loop here (t.if_else at c a b) h =
          let one = behind here c in
          let two = behind_stmt context one a in
          let end = Variables (behind_stmt context two b) in
          held_turn (Variables here) end end (condition context here.names here.strings c) (both (stmt context gives loop one a) (stmt context gives loop two b)) _ (held_always _ (condition context here.names here.strings c) h)
          (λ k. held_turn (Variables two) end end (stmt context gives loop one a) (stmt context gives loop two b) (λ x y. Holds (x, y)) (stmt_variables loop one a k) (λ q. stmt_variables loop two b q) (λ x y q. q)) (λ x y k. k)
      stmt_variables loop here (t.while_do at c a) h =
          let one = behind here c in
          let end = Variables (behind_stmt context one a) in
          held_turn (Variables here) end end (condition context here.names here.strings c) (stmt context gives true one a) _ (held_always _ (condition context here.names here.strings c) h) (λ k. stmt_variables true one a k) (λ x y k. k)
      stmt_variables loop here (t.do_while at a c) h =
          let one = behind_stmt context here a in
          held_turn (Variables one) (Variables one) (Variables one) (stmt context gives true here a) (condition context one.names one.strings c) _ (stmt_variables true here a h) (λ k. held_always _ (condition context one.names one.strings c) k) (λ x y k. k)
      stmt_variables loop here (t.for_do at start c next a) h =
          let one = inside here in
          let two = behind_start context one start in
          let three = behind_option two c in
          let four = behind_simple_option three next in
          let end = Variables (behind_stmt context four a) in
          held_turn (Variables two) end end (both (for_start context one start) (condition_option context two.names two.strings c)) (both (simple_option context three.names three.strings next) (stmt context gives true four a)) _
          (held_turn (Variables two) (Variables two) (Variables two) (for_start context one start) (condition_option context two.names two.strings c) (λ x y. Holds (x, y)) (start_variables one start h) (λ k. held_always _ (condition_option context two.names two.strings c) k) (λ x y k. k))
          (λ k. held_turn (Variables four) end end (simple_option context three.names three.strings next) (stmt context gives true four a) (λ x y. Holds (x, y)) (held_always _ (simple_option context three.names three.strings next) (simple_option_variables three next (option_variables two c k))) (λ q. stmt_variables true four a q) (λ x y q. q))
          (λ x y k. k)
      stmt_variables loop here (t.break_loop at) h = held_always _ (stmt context gives loop here (t.break_loop at)) h
      stmt_variables loop here (t.continue_loop at) h = held_always _ (stmt context gives loop here (t.continue_loop at)) h
      stmt_variables loop here (t.return_with at e) h = held_always _ (stmt context gives loop here (t.return_with at e)) (option_variables here e h)

      pub stmts_variables : (loop : Bool) (here : Here) (body : t.Stmts) → Variables here → Held (λ (b : p.Stmts). Variables (behind_stmts context here body)) (stmts context gives loop here body)
      stmts_variables loop here t.done h = h
      stmts_variables loop here (t.next s rest) h =
          let one = behind_stmt context here s in
          let end = Variables (behind_stmts context one rest) in
          held_turn (Variables one) end end (stmt context gives loop here s) (stmts context gives loop one rest) _ (stmt_variables loop here s h) (λ k. stmts_variables loop one rest k) (λ x y k. k)

-- names that stand for what is there, behind a node
module _ (program : p.Program) (all : List Ty) where
  abbrev pub Known : Scope → Type 0
  Known names = (name : List ℕ) → Given (IsThere program all) (meaning_in names name)

  abbrev pub Within : Here → Type 0
  Within here = Prefix here.locals all × (length here.strings ≤ length program.strings)

  pub within_before : (a b : Here) → Extends a b → Within b → Within a
  within_before a b e w = (λ x u h. w.0 x u (e.0 x u h), omega (arith, e.1, w.1))

  pub known_local : (here : Here) (u : Ty) (name : List ℕ) → Known here.names → Within (with_local here u name) → Known (with_local here u name).names
  known_local here u name k w n = given_if (IsThere program all) (bytes_eq name n) (Some (a_local (length here.locals) u)) (meaning_in here.names n) (w.0 (length here.locals) u (at_end here.locals [] u)) (k n)

  pub known_option : (here : Here) (e : Option t.Expr) → Known here.names → Known (behind_option here e).names
  known_option here e k = k

  known_simple : (here : Here) (s : t.Simple) → Known here.names → Known (behind_simple here s).names
  known_simple here s k = k

  pub known_simple_option : (here : Here) (s : Option t.Simple) → Known here.names → Known (behind_simple_option here s).names
  known_simple_option here s k = k

  module _ (context : Context) where
    pub known_declared : (here : Here) (l : t.Local) → Known here.names → Within (behind_local context here l) → Known (declared context here l).names
    known_declared here l k w = known_local here (local_type context l) l.name.text k (within_before (declared context here l) (behind_local context here l) (on_option (declared context here l) l.initial) w)

    pub known_behind_local : (here : Here) (l : t.Local) → Known here.names → Within (behind_local context here l) → Known (behind_local context here l).names
    known_behind_local here l k w = known_option (declared context here l) l.initial (known_declared here l k w)

    known_locals : (here : Here) (ls : List t.Local) → Known here.names → Within (behind_locals context here ls) → Known (behind_locals context here ls).names
    known_locals here [] k w = k
    known_locals here (l ∷ ls) k w =
        let next = behind_local context here l in
        known_locals next ls (known_behind_local here l k (within_before next (behind_locals context next ls) (on_locals context next ls) w)) w

    pub known_start : (here : Here) (s : t.ForStart) → Known here.names → Within (behind_start context here s) → Known (behind_start context here s).names
    known_start here t.nothing k w = k
    known_start here (t.simply s) k w = known_simple here s k
    known_start here (t.locals ls) k w = known_locals here ls k w

    pub known_stmt : (here : Here) (s : t.Stmt) → Known here.names → Within (behind_stmt context here s) → Known (behind_stmt context here s).names
    known_stmt here (t.local l) k w = known_behind_local here l k w
    known_stmt here (t.block at body) k w = k
    known_stmt here (t.empty at) k w = k
    known_stmt here (t.simple at s) k w = known_simple here s k
    known_stmt here (t.if_then at c a) k w = known_stmt (behind here c) a k w
    known_stmt here (t.if_else at c a b) k w =
        let one = behind here c in
        let two = behind_stmt context one a in
        known_stmt two b (known_stmt one a k (within_before two (behind_stmt context two b) (on_stmt context two b) w)) w
    known_stmt here (t.while_do at c a) k w = known_stmt (behind here c) a k w
    known_stmt here (t.do_while at a c) k w =
        let one = behind_stmt context here a in
        known_stmt here a k (within_before one (behind one c) (on_expr one c) w)
    known_stmt here (t.for_do at start c next a) k w = k
    known_stmt here (t.break_loop at) k w = k
    known_stmt here (t.continue_loop at) k w = k
    known_stmt here (t.return_with at e) k w = known_option here e k
