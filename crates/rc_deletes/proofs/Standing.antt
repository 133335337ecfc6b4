-- What comes behind a node has the locals and strings of what comes before it, and more.
use Rattle.std.specs.Prelude.{◌≡◌, ◌⊎◌, ℕ, zero, suc, ◌≤◌, List, [], ◌∷◌, ◌++◌, Option, Some, slice_get, length}
use Rattle.std.proofs.Common.{refl, inl, inr, arith, length-append}
use Rattle.rc_syntax.specs.Tree as t
use Rattle.rc_core.specs.Types.{Ty}
use Rattle.rc_deletes.specs.Scopes.{Context}
use Rattle.rc_deletes.specs.Expressions.{strings_in}
use Rattle.rc_deletes.specs.Statements.{Here, behind_strings, strings_in_option, strings_in_simple, strings_in_simple_option, inside, behind, behind_option, with_local, declared, local_type, behind_simple, behind_simple_option, behind_local, behind_locals, behind_start, behind_stmt, behind_stmts}

abbrev pub Prefix : List Ty → List Ty → Type 0
Prefix a b = (x : ℕ) (u : Ty) → slice_get a x ≡ Some u → slice_get b x ≡ Some u

abbrev pub Extends : Here → Here → Type 0
Extends a b = Prefix a.locals b.locals × (length a.strings ≤ length b.strings)

pub prefix_more : {A : Type 0} (l m : List A) (x : ℕ) (u : A) → slice_get l x ≡ Some u → slice_get (l ++ m) x ≡ Some u
prefix_more [] m x u h = absurd cc
prefix_more (a ∷ l) m zero u h = h
prefix_more (a ∷ l) m (suc x) u h = prefix_more l m x u h

pub at_end : {A : Type 0} (l m : List A) (u : A) → slice_get (l ++ u ∷ m) (length l) ≡ Some u
at_end [] m u = refl
at_end (a ∷ l) m u = at_end l m u

pub one_more : {A : Type 0} (l : List A) (t : A) (x : ℕ) (u : A) → slice_get (l ++ t ∷ []) x ≡ Some u → (slice_get l x ≡ Some u) ⊎ (u ≡ t)
one_more [] t zero u h = inr cc
one_more [] t (suc x) u h = absurd cc
one_more (a ∷ l) t zero u h = inl h
one_more (a ∷ l) t (suc x) u h = one_more l t x u h

pub extends_self : (a : Here) → Extends a a
extends_self a = (λ x u h. h, omega arith)

pub extends_on : (a b c : Here) → Extends a b → Extends b c → Extends a c
extends_on a b c h k = (λ x u q. k.0 x u (h.0 x u q), omega (arith, h.1, k.1))

pub on_expr : (here : Here) (e : t.Expr) → Extends here (behind here e)
on_expr here e = (λ x u h. h, omega (arith, length-append here.strings (strings_in e)))

pub on_strings : (here : Here) (strings : List (List ℕ)) → Extends here (behind_strings here strings)
on_strings here strings = (λ x u h. h, omega (arith, length-append here.strings strings))

pub on_option : (here : Here) (e : Option t.Expr) → Extends here (behind_option here e)
on_option here e = on_strings here (strings_in_option e)

pub on_simple : (here : Here) (s : t.Simple) → Extends here (behind_simple here s)
on_simple here s = on_strings here (strings_in_simple s)

pub on_simple_option : (here : Here) (s : Option t.Simple) → Extends here (behind_simple_option here s)
on_simple_option here s = on_strings here (strings_in_simple_option s)

pub on_with_local : (here : Here) (u : Ty) (name : List ℕ) → Extends here (with_local here u name)
on_with_local here u name = (λ x w h. prefix_more here.locals (u ∷ []) x w h, omega arith)

module _ (context : Context) where
  pub on_local : (here : Here) (l : t.Local) → Extends here (behind_local context here l)
  on_local here l = extends_on here (declared context here l) (behind_local context here l) (on_with_local here (local_type context l) l.name.text) (on_option (declared context here l) l.initial)

  pub on_locals : (here : Here) (ls : List t.Local) → Extends here (behind_locals context here ls)
  on_locals here [] = extends_self here
  on_locals here (l ∷ ls) = extends_on here (behind_local context here l) (behind_locals context (behind_local context here l) ls) (on_local here l) (on_locals (behind_local context here l) ls)

  pub on_start : (here : Here) (s : t.ForStart) → Extends here (behind_start context here s)
  on_start here t.nothing = extends_self here
  on_start here (t.simply s) = on_simple here s
  on_start here (t.locals ls) = on_locals here ls

  mutual
    pub on_stmt : (here : Here) (s : t.Stmt) → Extends here (behind_stmt context here s)
    on_stmt here (t.local l) = on_local here l
    on_stmt here (t.block at body) = on_stmts (inside here) body
    on_stmt here (t.empty at) = extends_self here
    on_stmt here (t.simple at s) = on_simple here s
    on_stmt here (t.if_then at c a) = extends_on here (behind here c) (behind_stmt context (behind here c) a) (on_expr here c) (on_stmt (behind here c) a)
    on_stmt here (t.if_else at c a b) =
        let one = behind here c in
        let two = behind_stmt context one a in
        extends_on here two (behind_stmt context two b) (extends_on here one two (on_expr here c) (on_stmt one a)) (on_stmt two b)
    on_stmt here (t.while_do at c a) = extends_on here (behind here c) (behind_stmt context (behind here c) a) (on_expr here c) (on_stmt (behind here c) a)
    on_stmt here (t.do_while at a c) = extends_on here (behind_stmt context here a) (behind (behind_stmt context here a) c) (on_stmt here a) (on_expr (behind_stmt context here a) c)
    on_stmt here (t.for_do at start c next a) =
        let one = inside here in
        let two = behind_start context one start in
        let three = behind_option two c in
        let four = behind_simple_option three next in
        extends_on one four (behind_stmt context four a) (extends_on one three four (extends_on one two three (on_start one start) (on_option two c)) (on_simple_option three next)) (on_stmt four a)
    on_stmt here (t.break_loop at) = extends_self here
    on_stmt here (t.continue_loop at) = extends_self here
    on_stmt here (t.return_with at e) = on_option here e

    pub on_stmts : (here : Here) (body : t.Stmts) → Extends here (behind_stmts context here body)
    on_stmts here t.done = extends_self here
    on_stmts here (t.next s rest) = extends_on here (behind_stmt context here s) (behind_stmts context (behind_stmt context here s) rest) (on_stmt here s) (on_stmts (behind_stmt context here s) rest)
