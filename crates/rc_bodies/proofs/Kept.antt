-- The names behind a statement are those before it, with more inside them.
use Rattle.std.proofs.Common.{◌≡◌, ◌-◌, ◌+◌, ℕ, refl, ap, sym, ◌∙◌, arith, List, [], ◌∷◌, ◌++◌, length, drop, map, append_assoc, length-append, Vec}
use Rattle.std.specs.declared.alloc.Global.{Global as Alloc}
use Rattle.std.specs.List.{drop-map}
use Rattle.std.proofs.lemmas.List.{length-map}
use Rattle.rc_syntax.specs.Tree as t
use Rattle.rc_core.specs.Shapes.{ty_of, bytes_of}
use Rattle.rc_deletes.specs.Scopes.{Context, Scope}
use Rattle.rc_deletes.specs.Statements.{Here, outside, behind, behind_strings, behind_local, behind_locals, behind_start, behind_stmt, behind_stmts}
use Rattle.rc_rules.specs.declared.meanings.Meaning.{Meaning}
use Rattle.rc_rules.specs.Shapes.{meaning_of}
use Rattle.rc_bodies.specs.declared.here.Here.{Here as CodeHere}
use Rattle.rc_bodies.specs.declared.here.Outer.{Outer}
use Rattle.rc_defined.specs.Contexts.{scope_of}
use Rattle.rc_bodies.specs.Here.{here_of, outer_of}

abbrev pub Grown : Scope → Scope → Type 0
Grown a b = (more : Scope) × (b ≡ more ++ a)

pub grown_self : (a : Scope) → Grown a a
grown_self a = ([], refl)

pub grown_on : (a b c : Scope) → Grown a b → Grown b c → Grown a c
grown_on a b c h k = (k.0 ++ h.0, k.1 ∙ ap (λ s. k.0 ++ s) h.1 ∙ sym (append_assoc k.0 h.0 a))

module _ (context : Context) where
  on_local : (here : Here) (l : t.Local) → Grown here.names (behind_local context here l).names
  on_local here l = (_ ∷ [], refl)

  on_locals : (here : Here) (ls : List t.Local) → Grown here.names (behind_locals context here ls).names
  on_locals here [] = grown_self here.names
  on_locals here (l ∷ ls) = grown_on here.names (behind_local context here l).names (behind_locals context (behind_local context here l) ls).names (on_local here l) (on_locals (behind_local context here l) ls)

  pub on_start : (here : Here) (s : t.ForStart) → Grown here.names (behind_start context here s).names
  on_start here t.nothing = grown_self here.names
  on_start here (t.simply s) = grown_self here.names
  on_start here (t.locals ls) = on_locals here ls

  mutual
    pub on_stmt : (here : Here) (s : t.Stmt) → Grown here.names (behind_stmt context here s).names
    on_stmt here (t.local l) = on_local here l
    on_stmt here (t.block at body) = grown_self here.names
    on_stmt here (t.empty at) = grown_self here.names
    on_stmt here (t.simple at s) = grown_self here.names
    on_stmt here (t.if_then at c a) = on_stmt (behind here c) a
    on_stmt here (t.if_else at c a b) =
        let one = behind here c in
        let two = behind_stmt context one a in
        grown_on here.names two.names (behind_stmt context two b).names (on_stmt one a) (on_stmt two b)
    on_stmt here (t.while_do at c a) = on_stmt (behind here c) a
    on_stmt here (t.do_while at a c) = on_stmt here a
    on_stmt here (t.for_do at start c next a) = grown_self here.names
    on_stmt here (t.break_loop at) = grown_self here.names
    on_stmt here (t.continue_loop at) = grown_self here.names
    on_stmt here (t.return_with at e) = grown_self here.names

    pub on_stmts : (here : Here) (ss : t.Stmts) → Grown here.names (behind_stmts context here ss).names
    on_stmts here t.done = grown_self here.names
    on_stmts here (t.next s rest) = grown_on here.names (behind_stmt context here s).names (behind_stmts context (behind_stmt context here s) rest).names (on_stmt here s) (on_stmts (behind_stmt context here s) rest)

dropped : (more a : Scope) → drop (length more) (more ++ a) ≡ a
dropped [] a = refl
dropped (m ∷ more) a = dropped more a

left_is : (old now : List (List ℕ × Meaning)) (depth : ℕ) (own : Scope) → depth ≡ length old → scope_of now ≡ own ++ scope_of old → scope_of (drop (length now - depth) now) ≡ scope_of old
left_is old now depth own d e =
    let count : length now ≡ length own + length old = sym (length-map now (λ (n : List ℕ × Meaning). (n.0, meaning_of n.1))) ∙ ap length e ∙ length-append own (scope_of old) ∙ ap (λ n. length own + n) (length-map old (λ (n : List ℕ × Meaning). (n.0, meaning_of n.1))) in
    let k : length now - depth ≡ length own = omega arith in
    sym (drop-map (λ (n : List ℕ × Meaning). (n.0, meaning_of n.1)) (length now - depth) now) ∙ ap (λ n. drop n (scope_of now)) k ∙ ap (drop (length own)) e ∙ dropped own (scope_of old)

-- behind a scope that began there
pub left_behind : (before now : CodeHere) (names : List (List ℕ × Meaning)) (outer : Outer) (own : Scope) → outer ≡ outer_of before → names ≡ drop (length now.names - outer.depth) now.names → scope_of now.names ≡ own ++ scope_of before.names →
    here_of (record now { names = names; first = outer.first }) ≡ outside (here_of before) (here_of now)
left_behind before now names outer own o n e =
    let there : Scope → ℕ → Here = λ ns first. record { names = ns; locals = map ty_of now.locals.items; first = first; strings = map bytes_of now.strings.items } in
    ap (λ ns. there ns outer.first) (ap scope_of n ∙ left_is before.names now.names outer.depth own (ap (λ (o : Outer). o.depth) o) e)
    ∙ ap (there (scope_of before.names)) (ap (λ (o : Outer). o.first) o)

-- behind a part that has only strings
pub more_strings : (here : CodeHere) (strings : Vec (Vec ℕ Alloc) Alloc) (more : List (List ℕ)) → map bytes_of strings.items ≡ map bytes_of here.strings.items ++ more → here_of (record here { strings = strings }) ≡ behind_strings (here_of here) more
more_strings here strings more e = ap (λ ss. record { names = scope_of here.names; locals = map ty_of here.locals.items; first = here.first; strings = ss }) e
