-- Annotations and deletions that are refused stand in the order of the text, and the first of them is the least.
use Rattle.std.specs.Prelude.{◌≡◌, ℕ, ◌+◌, ◌<◌, ◌≤◌, List, [], ◌∷◌, ◌++◌, Option, Some, None, Bool, true, false, length, if◌then◌else◌}
use Rattle.std.specs.List.{All, Contains}
use Rattle.std.proofs.Common.{refl, subst, inl, inr, arith}
use Rattle.std.proofs.lemmas.List.Elements.{All-nil, All-cons}
use Rattle.rc_syntax.specs.declared.tree.Spot.{Spot}
use Rattle.rc_syntax.specs.declared.tree.Name.{Name}
use Rattle.rc_syntax.specs.Tree as t
use Rattle.rc_syntax.specs.Tokens.{Token}
use Rattle.rc_syntax.specs.Grammar as g
use Rattle.rc_syntax.specs.Grammar.{placed, node, Derives}
use Rattle.rc_deletes.specs.First.{first}
use Rattle.rc_deletes.specs.Scopes.{Context, Scope, meaning_in}
use Rattle.rc_deletes.specs.Statements.{Here, inside, behind, behind_option, behind_simple_option, declared, behind_local, behind_start, behind_stmt}
use Rattle.rc_deletes.specs.Items.{Outside, with_function, with_params, before_params, behind_item, context_of, at_the_start}
use Rattle.rc_deletes.specs.Places.{or_own, where_deleting}
use Rattle.rc_deletes.specs.PlacedFaults as rule
use Rattle.rc_deletes.specs.PlacedFaults.{annotated, not_allowed, not_whole, PlacedFault, fault, deletion, is_of_local, deletes_regions, placed_faults}
use Rattle.rc_deletes.specs.Order.{PlacedNotAfter, IsLeastPlaced}
use Rattle.rc_judgements.proofs.Ordered.{Each, Inside}
use Rattle.rc_judgements.proofs.OrderedExpressions.{Spans, SpansAll}
use Rattle.rc_judgements.proofs.OrderedStatements as s
use Rattle.rc_judgements.proofs.OrderedStatements.{SpansOption, SpansSimple, SpansSimpleOption, SpansDeclarator, SpansLocal, SpansLocals, SpansStart, SpansStmt, SpansStmts, shared_behind}
use Rattle.rc_syntax.specs.declared.tree.Base.{Base}
use Rattle.rc_judgements.proofs.OrderedItems.{SpansParams, SpansBody, SpansItem, SpansItems, type_behind}
use Rattle.rc_judgements.proofs.InOrder.{items_in_text}

abbrev In : ℕ → ℕ → List PlacedFault → Type 0
In a b fs = Each (λ f. Inside a b f.at) fs

-- faults stand between two places, and the first is the least
abbrev Sorted : ℕ → ℕ → List PlacedFault → Type 0
Sorted a b [] = Unit {0}
Sorted a b (f ∷ fs) = Inside a b f.at × In a b fs × Each (PlacedNotAfter f) fs

all_in : (a b : ℕ) (fs : List PlacedFault) → Sorted a b fs → In a b fs
all_in a b [] h = tt
all_in a b (f ∷ fs) h = (h.0, h.1)

in_wider : (a b c d : ℕ) (fs : List PlacedFault) → a ≤ b → c ≤ d → In b c fs → In a d fs
in_wider a b c d [] p q h = tt
in_wider a b c d (f ∷ fs) p q h = let k = h.0 in ((omega arith, omega arith), in_wider a b c d fs p q h.1)

in_both : (a b : ℕ) (fs gs : List PlacedFault) → In a b fs → In a b gs → In a b (fs ++ gs)
in_both a b [] gs p q = q
in_both a b (f ∷ fs) gs p q = (p.0, in_both a b fs gs p.1 q)

after_both : (f : PlacedFault) (fs gs : List PlacedFault) → Each (PlacedNotAfter f) fs → Each (PlacedNotAfter f) gs → Each (PlacedNotAfter f) (fs ++ gs)
after_both f [] gs p q = q
after_both f (g ∷ fs) gs p q = (p.0, after_both f fs gs p.1 q)

-- what stands from a place on is after what stands before it
all_later : (f : PlacedFault) (m b : ℕ) (gs : List PlacedFault) → f.at.place < m → In m b gs → Each (PlacedNotAfter f) gs
all_later f m b [] p h = tt
all_later f m b (g ∷ gs) p h = let k = h.0 in (inl (omega arith), all_later f m b gs p h.1)

wider : (a b c d : ℕ) (fs : List PlacedFault) → a ≤ b → c ≤ d → Sorted b c fs → Sorted a d fs
wider a b c d [] p q h = tt
wider a b c d (f ∷ fs) p q h = let k = h.0 in ((omega arith, omega arith), in_wider a b c d fs p q h.1, h.2)

both : (a m b : ℕ) (fs gs : List PlacedFault) → a ≤ m → m ≤ b → Sorted a m fs → Sorted m b gs → Sorted a b (fs ++ gs)
both a m b [] gs p q h k = wider a m b b gs p (omega arith) k
both a m b (f ∷ fs) gs p q h k =
    let inside = h.0 in (
      (omega arith, omega arith),
      in_both a b fs gs (in_wider a a m b fs (omega arith) q h.1) (in_wider a m b b gs p (omega arith) (all_in m b gs k)),
      after_both f fs gs h.2 (all_later f m b gs inside.1 (all_in m b gs k)),
    )

own : (a b : ℕ) (fs gs : List PlacedFault) → Sorted a b fs → Sorted a b gs → Sorted a b (or_own fs gs)
own a b [] gs h k = k
own a b (f ∷ fs) gs h k = h

annotation_sorted : (a b : ℕ) (at : Spot) (n : t.TypeName) → Inside a b at → Sorted a b (rule.annotation at n)
annotation_sorted a b at n h = by _ where
  by : (c : Bool) → Sorted a b (if c then fault at annotated ∷ [] else [])
  by true = (h, tt, tt)
  by false = tt

result_sorted : (a b : ℕ) (at : Spot) (r : Option t.TypeName) → Inside a b at → Sorted a b (rule.result at r)
result_sorted a b at None h = tt
result_sorted a b at (Some n) h = annotation_sorted a b at n h

params_sorted : (a b : ℕ) (qs : List t.Param) → SpansParams a b qs → Sorted a b (rule.params qs)
params_sorted a b [] h = tt
params_sorted a b (q ∷ qs) h =
    both a h.1 b (rule.annotation q.spot q.type_name) (rule.params qs) (omega (arith, h.2, h.3)) h.4
    (wider a h.0 h.1 h.1 (rule.annotation q.spot q.type_name) h.2 (omega arith) (annotation_sorted h.0 h.1 q.spot q.type_name h.5.0)) (params_sorted h.1 b qs h.6)

deletion_sorted : (a b : ℕ) (d w : Bool) (at : Spot) → Inside a b at → Sorted a b (deletion d w at)
deletion_sorted a b true true at h = tt
deletion_sorted a b true false at h = (h, tt, tt)
deletion_sorted a b false true at h = (h, tt, tt)
deletion_sorted a b false false at h = (h, (h, tt), (inr (refl, omega arith), tt))

call_sorted : (names : Scope) (d w : Bool) (a b : ℕ) (name : Name) (inner : List PlacedFault) → Inside a b name.spot → Sorted a b inner → Sorted a b (rule.call names d w name inner)
call_sorted names d w a b name inner h k = own a b inner _ k (by (deletes_regions (meaning_in names name.text))) where
  by : (c : Bool) → Sorted a b (where_deleting c (deletion d w name.spot))
  by true = deletion_sorted a b d w name.spot h
  by false = tt

module _ (names : Scope) (d : Bool) where
  mutual
    within_sorted : (a b : ℕ) (e : t.Expr) → Spans a b e → Sorted a b (rule.within names d e)
    within_sorted a b (t.number at n u) h = tt
    within_sorted a b (t.character at c) h = tt
    within_sorted a b (t.string at bytes) h = tt
    within_sorted a b (t.null at) h = tt
    within_sorted a b (t.eof at) h = tt
    within_sorted a b (t.variable name) h = tt
    within_sorted a b (t.call name args) h =
        call_sorted names d false a b name (rule.within_all names d args) (h.0, h.1) (wider a (name.spot.place + 1) b b (rule.within_all names d args) (omega (arith, h.0)) (omega arith) (all_sorted (name.spot.place + 1) b args h.2))
    within_sorted a b (t.ralloc at r n) h = wider a a h.2 b (rule.within names d r) (omega arith) h.4 (within_sorted a h.2 r h.5)
    within_sorted a b (t.rarrayalloc at r k n) h =
        both a h.2 b (rule.within names d r) (rule.within names d k) h.3 (omega (arith, h.5, h.6)) (within_sorted a h.2 r h.7) (wider h.2 h.2 h.4 b (rule.within names d k) (omega arith) h.6 (within_sorted h.2 h.4 k h.8))
    within_sorted a b (t.index at x k) h = both a h.2 b (rule.within names d x) (rule.within names d k) h.3 h.4 (within_sorted a h.2 x h.5) (within_sorted h.2 b k h.6)
    within_sorted a b (t.member at x name) h = within_sorted a b x h.3
    within_sorted a b (t.arrow at x name) h = within_sorted a b x h.3
    within_sorted a b (t.unary at op x) h = within_sorted a b x h.2
    within_sorted a b (t.cast at to x) h = within_sorted a b x h.2
    within_sorted a b (t.binary at op x y) h = both a h.2 b (rule.within names d x) (rule.within names d y) h.3 h.4 (within_sorted a h.2 x h.5) (within_sorted h.2 b y h.6)
    within_sorted a b (t.conditional at c x y) h =
        both a h.2 b (rule.within names d c) (rule.within names d x ++ rule.within names d y) h.3 (omega (arith, h.5, h.6)) (within_sorted a h.2 c h.7)
        (both h.2 h.4 b (rule.within names d x) (rule.within names d y) h.5 h.6 (within_sorted h.2 h.4 x h.8) (within_sorted h.4 b y h.9))

    all_sorted : (a b : ℕ) (es : t.Exprs) → SpansAll a b es → Sorted a b (rule.within_all names d es)
    all_sorted a b t.none h = tt
    all_sorted a b (t.more e rest) h = both a h.0 b (rule.within names d e) (rule.within_all names d rest) h.1 h.2 (within_sorted a h.0 e h.3) (all_sorted h.0 b rest h.4)

  whole_sorted : (a b : ℕ) (e : t.Expr) → Spans a b e → Sorted a b (rule.whole names d e)
  whole_sorted a b (t.call name args) h =
      call_sorted names d true a b name (rule.within_all names d args) (h.0, h.1) (wider a (name.spot.place + 1) b b (rule.within_all names d args) (omega (arith, h.0)) (omega arith) (all_sorted (name.spot.place + 1) b args h.2))
  whole_sorted a b e h = within_sorted a b e h

  whole_option_sorted : (a b : ℕ) (e : Option t.Expr) → SpansOption a b e → Sorted a b (rule.whole_option names d e)
  whole_option_sorted a b None h = tt
  whole_option_sorted a b (Some e) h = whole_sorted a b e h

  given_sorted : (a b : ℕ) (l r : t.Expr) → Spans a b r → Sorted a b (rule.given names d l r)
  given_sorted a b (t.variable name) r h = by (is_of_local (meaning_in names name.text)) where
    by : (c : Bool) → Sorted a b (if c then rule.whole names d r else rule.within names d r)
    by true = whole_sorted a b r h
    by false = within_sorted a b r h
  given_sorted a b l r h = within_sorted a b r h

  simple_sorted : (a b : ℕ) (e : t.Simple) → SpansSimple a b e → Sorted a b (rule.simple names d e)
  simple_sorted a b (t.expression e) h = whole_sorted a b e h
  simple_sorted a b (t.assign at l r) h = both a h.1 b (rule.within names d l) (rule.given names d l r) h.2 h.3 (within_sorted a h.1 l h.4) (given_sorted h.1 b l r h.5)
  simple_sorted a b (t.update at op l r) h = both a h.1 b (rule.within names d l) (rule.within names d r) h.2 h.3 (within_sorted a h.1 l h.4) (within_sorted h.1 b r h.5)
  simple_sorted a b (t.step_after at op l) h = within_sorted a b l h.1
  simple_sorted a b (t.step_before at op l) h = within_sorted a b l h.1

  simple_option_sorted : (a b : ℕ) (e : Option t.Simple) → SpansSimpleOption a b e → Sorted a b (rule.simple_option names d e)
  simple_option_sorted a b None h = tt
  simple_option_sorted a b (Some e) h = simple_sorted a b e h

module _ (context : Context) (d : Bool) where
  local_sorted : (here : Here) (shared : Option Base) (a b : ℕ) (l : t.Local) → SpansLocal shared a b l → Sorted a b (rule.local context d here l)
  local_sorted here shared a b l h = by h where
    declarator : (c : ℕ) → a ≤ c → SpansDeclarator c b l → Sorted a b (rule.local context d here l)
    declarator c p k =
        own a b (rule.whole_option (declared context here l).names d l.initial) (rule.annotation l.spot l.type_name)
        (wider a k.1 b b (rule.whole_option (declared context here l).names d l.initial) (omega (arith, p, k.2)) (omega arith) (whole_option_sorted (declared context here l).names d k.1 b l.initial k.5))
        (annotation_sorted a b l.spot l.type_name (omega (arith, p, k.0.0), k.0.1))

    by : SpansLocal shared a b l → Sorted a b (rule.local context d here l)
    by (s.with_base m p q e k) = declarator m p k
    by (s.behind_another e k) = declarator a (omega arith) k

  locals_sorted : (here : Here) (shared : Option Base) (a b : ℕ) (ls : List t.Local) → SpansLocals shared a b ls → Sorted a b (rule.locals context d here ls)
  locals_sorted here shared a b [] h = tt
  locals_sorted here shared a b (l ∷ ls) h =
      both a h.1 b (rule.local context d here l) (rule.locals context d (behind_local context here l) ls) (omega (arith, h.2, h.3)) h.4
      (wider a h.0 h.1 h.1 (rule.local context d here l) h.2 (omega arith) (local_sorted here shared h.0 h.1 l h.5)) (locals_sorted (behind_local context here l) (Some l.type_name.base) h.1 b ls h.6)

  start_sorted : (here : Here) (a b : ℕ) (e : t.ForStart) → SpansStart a b e → Sorted a b (rule.for_start context d here e)
  start_sorted here a b t.nothing h = tt
  start_sorted here a b (t.simply e) h = simple_sorted here.names d a b e h
  start_sorted here a b (t.locals ls) h = locals_sorted here None a b ls h

  mutual
    stmt_sorted : (here : Here) (shared : Option Base) (a b : ℕ) (e : t.Stmt) → SpansStmt shared a b e → Sorted a b (rule.stmt context d here e)
    stmt_sorted here shared a b (t.local l) h = local_sorted here shared a b l h
    stmt_sorted here shared a b (t.block at body) h = wider a h.0 h.1 b (rule.stmts context d (inside here) body) h.2 h.3 (stmts_sorted (inside here) None h.0 h.1 body h.4)
    stmt_sorted here shared a b (t.empty at) h = tt
    stmt_sorted here shared a b (t.simple at e) h = simple_sorted here.names d a b e h
    stmt_sorted here shared a b (t.if_then at c x) h =
        both a h.0 b (rule.whole here.names d c) (rule.stmt context d (behind here c) x) h.1 h.2 (whole_sorted here.names d a h.0 c h.3) (stmt_sorted (behind here c) None h.0 b x h.4)
    stmt_sorted here shared a b (t.if_else at c x y) h =
        let one = behind here c in
        let two = behind_stmt context one x in
        both a h.0 b (rule.whole here.names d c) (rule.stmt context d one x ++ rule.stmt context d two y) h.1 (omega (arith, h.4, h.5, h.6)) (whole_sorted here.names d a h.0 c h.7)
        (both h.0 h.2 b (rule.stmt context d one x) (rule.stmt context d two y) h.4 (omega (arith, h.5, h.6)) (stmt_sorted one None h.0 h.2 x h.8)
        (wider h.2 h.3 b b (rule.stmt context d two y) h.5 (omega arith) (stmt_sorted two None h.3 b y h.9)))
    stmt_sorted here shared a b (t.while_do at c x) h =
        both a h.0 b (rule.whole here.names d c) (rule.stmt context d (behind here c) x) h.1 h.2 (whole_sorted here.names d a h.0 c h.3) (stmt_sorted (behind here c) None h.0 b x h.4)
    stmt_sorted here shared a b (t.do_while at x c) h =
        both a h.1 b (rule.stmt context d here x) (rule.whole (behind_stmt context here x).names d c) (omega (arith, h.2, h.3)) h.4
        (wider a h.0 h.1 h.1 (rule.stmt context d here x) h.2 (omega arith) (stmt_sorted here None h.0 h.1 x h.5)) (whole_sorted (behind_stmt context here x).names d h.1 b c h.6)
    stmt_sorted here shared a b (t.for_do at start c next x) h =
        let one = inside here in
        let two = behind_start context one start in
        let three = behind_option two c in
        let four = behind_simple_option three next in
        both a h.2 b (rule.for_start context d one start) (rule.whole_option two.names d c ++ (rule.simple_option three.names d next ++ rule.stmt context d four x)) (omega (arith, h.1, h.3)) (omega (arith, h.5, h.7, h.8))
        (wider a h.0 h.2 h.2 (rule.for_start context d one start) h.1 (omega arith) (start_sorted one h.0 h.2 start h.9))
        (both h.2 h.4 b (rule.whole_option two.names d c) (rule.simple_option three.names d next ++ rule.stmt context d four x) h.5 (omega (arith, h.7, h.8)) (whole_option_sorted two.names d h.2 h.4 c h.10)
        (both h.4 h.6 b (rule.simple_option three.names d next) (rule.stmt context d four x) h.7 h.8 (simple_option_sorted three.names d h.4 h.6 next h.11) (stmt_sorted four None h.6 b x h.12)))
    stmt_sorted here shared a b (t.break_loop at) h = tt
    stmt_sorted here shared a b (t.continue_loop at) h = tt
    stmt_sorted here shared a b (t.return_with at e) h = whole_option_sorted here.names d a b e h.1

    stmts_sorted : (here : Here) (shared : Option Base) (a b : ℕ) (body : t.Stmts) → SpansStmts shared a b body → Sorted a b (rule.stmts context d here body)
    stmts_sorted here shared a b t.done h = tt
    stmts_sorted here shared a b (t.next e rest) h =
        both a h.1 b (rule.stmt context d here e) (rule.stmts context d (behind_stmt context here e) rest) (omega (arith, h.2, h.3)) h.4
        (wider a h.0 h.1 h.1 (rule.stmt context d here e) h.2 (omega arith) (stmt_sorted here shared h.0 h.1 e h.5)) (stmts_sorted (behind_stmt context here e) (shared_behind e) h.1 b rest h.6)

  body_sorted : (here : Here) (a b : ℕ) (body : Option t.Stmts) → SpansBody a b body → Sorted a b (rule.body_option context d here body)
  body_sorted here a b None h = tt
  body_sorted here a b (Some body) h = wider a h.0 h.1 b (rule.stmts context d here body) h.2 h.3 (stmts_sorted here None h.0 h.1 body h.4)

module _ (context : Context) where
  item_sorted : (o : Outside) (shared : Option t.TypeName) (a b : ℕ) (i : t.Item) → SpansItem shared a b i → Sorted a b (rule.item context o i)
  item_sorted o shared a b (t.struct at name fields) h = tt
  item_sorted o shared a b (t.global at n name count c) h = tt
  item_sorted o shared a b (t.function at deletes gives name qs body) h =
      let start = with_params context (before_params (with_function context o deletes gives name qs)) qs in
      own a b (rule.params qs ++ rule.body_option context deletes start body) (rule.result at gives)
      (both a h.5 b (rule.params qs) (rule.body_option context deletes start body) (omega (arith, h.2, h.4, h.6)) h.7
      (wider a h.3 h.5 h.5 (rule.params qs) (omega (arith, h.2, h.4)) (omega arith) (params_sorted h.3 h.5 qs h.10)) (body_sorted context deletes start h.5 b body h.11))
      (result_sorted a b at gives h.0)

  items_sorted : (o : Outside) (shared : Option t.TypeName) (a b : ℕ) (is : List t.Item) → SpansItems shared a b is → Sorted a b (rule.items context o is)
  items_sorted o shared a b [] h = tt
  items_sorted o shared a b (i ∷ is) h =
      both a h.1 b (rule.item context o i) (rule.items context (behind_item context o i) is) (omega (arith, h.2, h.3)) h.4
      (wider a h.0 h.1 h.1 (rule.item context o i) h.2 (omega arith) (item_sorted o shared h.0 h.1 i h.5)) (items_sorted (behind_item context o i) (type_behind i) h.1 b is h.6)

each_all : (P : PlacedFault → Type 0) (fs : List PlacedFault) → Each P fs → All P fs
each_all P [] h = All-nil P
each_all P (f ∷ fs) h = All-cons P f fs h.0 (each_all P fs h.1)

least_of : (a b : ℕ) (fs : List PlacedFault) (f : PlacedFault) → Sorted a b fs → first fs ≡ Some f → Contains fs f × All (PlacedNotAfter f) fs
least_of a b [] f h e = absurd cc
least_of a b (g ∷ gs) f h e =
    let same : g ≡ f = cc in
    subst (λ x. Contains (g ∷ gs) x × All (PlacedNotAfter x) (g ∷ gs)) same ((0, omega arith, refl), each_all (PlacedNotAfter g) (g ∷ gs) (inr (refl, omega arith), h.2))

-- the first of the annotations and deletions out of place in the tree of a text is the least
pub first_is_least : (tree : t.Tree) (tokens : List Token) (f : PlacedFault) → Derives (placed 0 tokens) (node g.Text tree.items) → first (placed_faults tree) ≡ Some f → IsLeastPlaced tree f
first_is_least tree tokens f h e =
    let least = least_of 0 (0 + length tokens) (placed_faults tree) f (items_sorted (context_of tree.items) at_the_start None 0 (0 + length tokens) tree.items (items_in_text tree tokens h)) e in
    record { there = least.0; least = least.1 }
