-- The nodes of a tree that the words of a text derive stand in the order of the text.
use Rattle.std.specs.Prelude.{◌≡◌, ℕ, ◌+◌, ◌<◌, ◌≤◌, List, [], ◌∷◌, ◌++◌, Option, Some, None, length, map}
use Rattle.std.proofs.Common.{refl, sym, ap, ◌∙◌, subst, arith}
use Rattle.rc_syntax.specs.declared.tree.Spot.{Spot}
use Rattle.rc_syntax.specs.declared.tree.Base.{Base}
use Rattle.rc_syntax.specs.Tokens.{Token}
use Rattle.rc_syntax.specs.Tree as t
use Rattle.rc_syntax.specs.Grammar as g
use Rattle.rc_syntax.specs.Grammar.{Symbol, TreeOf, Placed, placed, Part, word, node, Rule, BeginAt, Derives, FieldDeclarator, GlobalDeclarator, LocalDeclarator, FunctionEnding, joined, stmts_of, with_last, field, global, local}
use Rattle.rc_deletes.specs.declared.fault.Fault.{Fault}
use Rattle.rc_deletes.specs.Judged.{first_fault}
use Rattle.rc_deletes.specs.Items.{judged}
use Rattle.rc_deletes.specs.Order.{IsLeast}
use Rattle.rc_judgements.proofs.Derived.{KnownAll, k_done, k_word, k_node, derived}
use Rattle.rc_judgements.proofs.Ordered.{Inside}
use Rattle.rc_judgements.proofs.OrderedExpressions.{SpansBase, Spans, SpansAll}
use Rattle.rc_judgements.proofs.OrderedStatements as s
use Rattle.rc_judgements.proofs.OrderedStatements.{SpansOption, SpansSimple, SpansSimpleOption, SpansDeclarator, SpansLocal, SpansLocals, SpansStart, shared_behind, SpansStmt, SpansStmts, base_wider}
use Rattle.rc_judgements.proofs.OrderedItems as i
use Rattle.rc_judgements.proofs.OrderedItems.{SpansTyped, SpansFields, SpansName, SpansParam, SpansParams, SpansResult, SpansBody, type_behind, SpansItem, SpansItems, first_is_least}

-- words stand at these places, one after another
abbrev pub Runs : ℕ → ℕ → List Placed → Type 0
Runs a b [] = a ≡ b
Runs a b (p ∷ ps) = (p.spot.place ≡ a) × Runs (a + 1) b ps

runs_le : (a b : ℕ) (ws : List Placed) → Runs a b ws → a ≤ b
runs_le a b [] h = omega (arith, h)
runs_le a b (p ∷ ps) h = omega (arith, runs_le (a + 1) b ps h.1)

split : (a b : ℕ) (xs ys : List Placed) → Runs a b (xs ++ ys) → (m : ℕ) × Runs a m xs × Runs m b ys
split a b [] ys h = (a, refl, h)
split a b (x ∷ xs) ys h = let k = split (a + 1) b xs ys h.1 in (k.0, (h.0, k.1), k.2)

placed_runs : (a : ℕ) (tokens : List Token) → Runs a (a + length tokens) (placed a tokens)
placed_runs a [] = omega arith
placed_runs a (x ∷ xs) =
    let more : (a + 1) + length xs ≡ a + length (x ∷ xs) = omega arith in
    (refl, subst (λ b. Runs (a + 1) b (placed (a + 1) xs)) more (placed_runs (a + 1) xs))

-- lists of declarators, with other words between
abbrev pub SpansDeclarators : ℕ → ℕ → List LocalDeclarator → Type 0
SpansDeclarators a b [] = Unit {0}
SpansDeclarators a b (d ∷ ds) = (k : ℕ) × (m : ℕ) × (a ≤ k) × (k ≤ m) × (m ≤ b) × (Inside k m d.spot × (o : ℕ) × (k ≤ o) × (o ≤ m) × Inside k o d.name.spot × SpansOption o m d.initial) × SpansDeclarators m b ds

abbrev pub SpansFieldDec : ℕ → ℕ → FieldDeclarator → Type 0
SpansFieldDec a b d = Inside a b d.spot × Inside a b d.name.spot

abbrev pub SpansFieldDecs : ℕ → ℕ → List FieldDeclarator → Type 0
SpansFieldDecs a b [] = Unit {0}
SpansFieldDecs a b (d ∷ ds) = (k : ℕ) × (m : ℕ) × (a ≤ k) × (k ≤ m) × (m ≤ b) × SpansFieldDec k m d × SpansFieldDecs m b ds

abbrev pub SpansDecs : ℕ → ℕ → List GlobalDeclarator → Type 0
SpansDecs a b [] = Unit {0}
SpansDecs a b (d ∷ ds) = (k : ℕ) × (m : ℕ) × (a ≤ k) × (k ≤ m) × (m ≤ b) × SpansFieldDec k m d.declarator × SpansDecs m b ds

-- where the tree of a symbol stands
abbrev pub SpansOf : (s : Symbol) → ℕ → ℕ → TreeOf s → Type 0
SpansOf g.Text a b is = SpansItems None a b is
SpansOf g.Item a b is = SpansItems None a b is
SpansOf g.Fields a b fs = SpansFields None a b fs
SpansOf g.Field a b fs = SpansFields None a b fs
SpansOf g.FieldDecs a b ds = SpansFieldDecs a b ds
SpansOf g.FieldDec a b d = SpansFieldDec a b d
SpansOf g.Decs a b ds = SpansDecs a b ds
SpansOf g.Dec a b d = SpansFieldDec a b d.declarator
SpansOf g.Base a b n = SpansBase a b n × (a < b)
SpansOf g.TypeName a b n = SpansBase a b n.base × (a < b)
SpansOf g.Result a b r = SpansResult a b r
SpansOf g.ParamsEnd a b qs = SpansParams a b qs
SpansOf g.Params a b qs = SpansParams a b qs
SpansOf g.Param a b q = SpansParam a b q
SpansOf g.FunctionEnd a b end = SpansBody a b end.body
SpansOf g.BodyEnd a b body = SpansBody a b body
SpansOf g.Block a b body = (c : ℕ) × (d : ℕ) × (a ≤ c) × (d ≤ b) × SpansStmts None c d body
SpansOf g.Body a b body = SpansStmts None a b body
SpansOf g.Locals a b ls = SpansLocals None a b ls
SpansOf g.LocalDecs a b ds = SpansDeclarators a b ds
SpansOf g.LocalDec a b d = Inside a b d.spot × (o : ℕ) × (a ≤ o) × (o ≤ b) × Inside a o d.name.spot × SpansOption o b d.initial
SpansOf g.Stmt a b x = SpansStmt None a b x
SpansOf g.ForStart a b start = SpansStart a b start
SpansOf g.ExprEnd a b e = SpansOption a b e
SpansOf g.SimpleEnd a b x = SpansSimpleOption a b x
SpansOf g.Simple a b x = SpansSimple a b x
SpansOf (g.Level i) a b e = Spans a b e
SpansOf g.Arm a b e = Spans a b e
SpansOf g.Unary a b e = Spans a b e
SpansOf g.Postfix a b e = Spans a b e
SpansOf g.Primary a b e = Spans a b e
SpansOf g.Arguments a b es = SpansAll a b es
SpansOf g.Name a b x = Inside a b x.spot
SpansOf symbol a b x = Unit {0}

-- parts stand one after another
abbrev pub Along : ℕ → ℕ → List Part → Type 0
Along a b [] = a ≡ b
Along a b (word x ∷ ps) = Along (a + 1) b ps
Along a b (node x c ∷ ps) = (m : ℕ) × (a ≤ m) × SpansOf x a m c × Along m b ps

abbrev pub Stands : (s : Symbol) → TreeOf s → List Placed → Type 0
Stands x c ws = (a b : ℕ) → Runs a b ws → SpansOf x a b c

along : {ws : List Placed} {ps : List Part} → KnownAll Stands ws ps → (a b : ℕ) → Runs a b ws → Along a b ps
along k_done a b h = h
along (k_word rest) a b h = along rest (a + 1) b h.1
along (k_node xs {ys = ys} known rest) a b h =
    let k = split a b xs ys h in
    (k.0, runs_le a k.0 xs k.1, known a k.0 k.1, along rest k.0 b k.2)

-- the first word of a production stands where it begins
begins : (at : Spot) (a b : ℕ) (ws : List Placed) → BeginAt at ws → Runs a b ws → a < b → at.place ≡ a
begins at a b [] e h k = absurd (omega (arith, h, k))
begins at a b (p ∷ ps) e h k = ap (λ spot. spot.place) (sym e) ∙ h.0

-- nothing changes where more words are counted before and behind
mutual
  wider : (a b c d : ℕ) (e : t.Expr) → c ≤ a → b ≤ d → Spans a b e → Spans c d e
  wider a b c d (t.number at n u) p q h = (omega (arith, h.0, p), omega (arith, h.1, q))
  wider a b c d (t.character at n) p q h = (omega (arith, h.0, p), omega (arith, h.1, q))
  wider a b c d (t.string at bytes) p q h = (omega (arith, h.0, p), omega (arith, h.1, q))
  wider a b c d (t.null at) p q h = (omega (arith, h.0, p), omega (arith, h.1, q))
  wider a b c d (t.eof at) p q h = (omega (arith, h.0, p), omega (arith, h.1, q))
  wider a b c d (t.variable name) p q h = (omega (arith, h.0, p), omega (arith, h.1, q))
  wider a b c d (t.call name args) p q h = (omega (arith, h.0, p), omega (arith, h.1, q), all_wider (name.spot.place + 1) b (name.spot.place + 1) d args (omega arith) q h.2)
  wider a b c d (t.ralloc at r n) p q h =
      (omega (arith, h.0, p), omega (arith, h.1, q), h.2, omega (arith, h.3, p), omega (arith, h.4, q), wider a h.2 c h.2 r p (omega arith) h.5, base_wider h.2 b h.2 d n.base (omega arith) q h.6)
  wider a b c d (t.rarrayalloc at r k n) p q h =
      (omega (arith, h.0, p), omega (arith, h.1, q), h.2, omega (arith, h.3, p), h.4, h.5, omega (arith, h.6, q), wider a h.2 c h.2 r p (omega arith) h.7, h.8, base_wider h.4 b h.4 d n.base (omega arith) q h.9)
  wider a b c d (t.index at x k) p q h = (omega (arith, h.0, p), omega (arith, h.1, q), h.2, omega (arith, h.3, p), omega (arith, h.4, q), wider a h.2 c h.2 x p (omega arith) h.5, wider h.2 b h.2 d k (omega arith) q h.6)
  wider a b c d (t.member at x name) p q h = (omega (arith, h.0, p), omega (arith, h.1, q), (omega (arith, h.2.0, p), omega (arith, h.2.1, q)), wider a b c d x p q h.3)
  wider a b c d (t.arrow at x name) p q h = (omega (arith, h.0, p), omega (arith, h.1, q), (omega (arith, h.2.0, p), omega (arith, h.2.1, q)), wider a b c d x p q h.3)
  wider a b c d (t.unary at op x) p q h = (omega (arith, h.0, p), omega (arith, h.1, q), wider a b c d x p q h.2)
  wider a b c d (t.cast at to x) p q h = (omega (arith, h.0, p), omega (arith, h.1, q), wider a b c d x p q h.2)
  wider a b c d (t.binary at op x y) p q h = (omega (arith, h.0, p), omega (arith, h.1, q), h.2, omega (arith, h.3, p), omega (arith, h.4, q), wider a h.2 c h.2 x p (omega arith) h.5, wider h.2 b h.2 d y (omega arith) q h.6)
  wider a b c d (t.conditional at e x y) p q h =
      (omega (arith, h.0, p), omega (arith, h.1, q), h.2, omega (arith, h.3, p), h.4, h.5, omega (arith, h.6, q), wider a h.2 c h.2 e p (omega arith) h.7, h.8, wider h.4 b h.4 d y (omega arith) q h.9)

  all_wider : (a b c d : ℕ) (es : t.Exprs) → c ≤ a → b ≤ d → SpansAll a b es → SpansAll c d es
  all_wider a b c d t.none p q h = tt
  all_wider a b c d (t.more e rest) p q h = (h.0, omega (arith, h.1, p), omega (arith, h.2, q), wider a h.0 c h.0 e p (omega arith) h.3, all_wider h.0 b h.0 d rest (omega arith) q h.4)

inside_wider : (a b c d : ℕ) (at : Spot) → c ≤ a → b ≤ d → Inside a b at → Inside c d at
inside_wider a b c d at p q h = (omega (arith, h.0, p), omega (arith, h.1, q))

simple_wider : (a b c d : ℕ) (x : t.Simple) → c ≤ a → b ≤ d → SpansSimple a b x → SpansSimple c d x
simple_wider a b c d (t.expression e) p q h = wider a b c d e p q h
simple_wider a b c d (t.assign at l r) p q h = (inside_wider a b c d at p q h.0, h.1, omega (arith, h.2, p), omega (arith, h.3, q), wider a h.1 c h.1 l p (omega arith) h.4, wider h.1 b h.1 d r (omega arith) q h.5)
simple_wider a b c d (t.update at op l r) p q h = (inside_wider a b c d at p q h.0, h.1, omega (arith, h.2, p), omega (arith, h.3, q), wider a h.1 c h.1 l p (omega arith) h.4, wider h.1 b h.1 d r (omega arith) q h.5)
simple_wider a b c d (t.step_after at op l) p q h = (inside_wider a b c d at p q h.0, wider a b c d l p q h.1)
simple_wider a b c d (t.step_before at op l) p q h = (inside_wider a b c d at p q h.0, wider a b c d l p q h.1)

argument_last : (a m k b : ℕ) (v : t.Exprs) (e : t.Expr) → a ≤ m → m ≤ k → k ≤ b → SpansAll a m v → Spans k b e → SpansAll a b (with_last v e)
argument_last a m k b t.none e p q r h d = (b, omega arith, omega arith, wider k b a b e (omega arith) (omega arith) d, tt)
argument_last a m k b (t.more x v) e p q r h d = (h.0, h.1, omega (arith, h.2), h.3, argument_last h.0 m k b v e h.2 q r h.4 d)

-- lists joined
items_before : (shared : Option t.TypeName) (a m b : ℕ) (is : List t.Item) → a ≤ m → SpansItems None m b is → SpansItems shared a b is
items_before shared a m b [] p h = tt
items_before shared a m b (x ∷ is) p h = (h.0, h.1, omega (arith, p, h.2), h.3, h.4, item_fresh shared h.0 h.1 x h.5, h.6) where
  typed_fresh : (c d : ℕ) (at : Spot) (n : t.TypeName) (name : _) → SpansTyped None c d at n name → SpansTyped shared c d at n name
  typed_fresh c d at n name (i.with_base k r o e f q) = i.with_base k r o e f q
  typed_fresh c d at n name (i.behind_another e f q) = absurd e

  item_fresh : (other : Option t.TypeName) (c d : ℕ) (x : t.Item) → SpansItem None c d x → SpansItem shared c d x
  item_fresh other c d (t.global at n name count z) q = typed_fresh c d at n name q
  item_fresh other c d x q = q

items_joined : (shared : Option t.TypeName) (a m b : ℕ) (xs ys : List t.Item) → a ≤ m → m ≤ b → SpansItems shared a m xs → SpansItems None m b ys → SpansItems shared a b (xs ++ ys)
items_joined shared a m b [] ys p q h k = items_before shared a m b ys p k
items_joined shared a m b (x ∷ xs) ys p q h k = (h.0, h.1, h.2, h.3, omega (arith, h.4, q), h.5, items_joined (type_behind x) h.1 m b xs ys h.4 q h.6 k)

fields_before : (shared : Option t.TypeName) (a m b : ℕ) (fs : List t.Field) → a ≤ m → SpansFields None m b fs → SpansFields shared a b fs
fields_before shared a m b [] p h = tt
fields_before shared a m b (f ∷ fs) p h = (h.0, h.1, omega (arith, p, h.2), h.3, h.4, fresh h.5, h.6) where
  fresh : SpansTyped None h.0 h.1 f.spot f.type_name f.name → SpansTyped shared h.0 h.1 f.spot f.type_name f.name
  fresh (i.with_base k r o e x q) = i.with_base k r o e x q
  fresh (i.behind_another e x q) = absurd e

fields_joined : (shared : Option t.TypeName) (a m b : ℕ) (xs ys : List t.Field) → a ≤ m → m ≤ b → SpansFields shared a m xs → SpansFields None m b ys → SpansFields shared a b (xs ++ ys)
fields_joined shared a m b [] ys p q h k = fields_before shared a m b ys p k
fields_joined shared a m b (x ∷ xs) ys p q h k = (h.0, h.1, h.2, h.3, omega (arith, h.4, q), h.5, fields_joined (Some x.type_name) h.1 m b xs ys h.4 q h.6 k)

stmt_fresh : (shared : Option Base) (a b : ℕ) (x : t.Stmt) → SpansStmt None a b x → SpansStmt shared a b x
stmt_fresh shared a b (t.local l) h = by h where
  by : SpansLocal None a b l → SpansLocal shared a b l
  by (s.with_base k r o e f) = s.with_base k r o e f
  by (s.behind_another e f) = absurd e
stmt_fresh shared a b x h = h

stmts_before : (shared : Option Base) (a m b : ℕ) (body : t.Stmts) → a ≤ m → SpansStmts None m b body → SpansStmts shared a b body
stmts_before shared a m b t.done p h = tt
stmts_before shared a m b (t.next x rest) p h = (h.0, h.1, omega (arith, p, h.2), h.3, h.4, stmt_fresh shared h.0 h.1 x h.5, h.6)

stmts_joined : (shared : Option Base) (a m b : ℕ) (xs ys : t.Stmts) → a ≤ m → m ≤ b → SpansStmts shared a m xs → SpansStmts None m b ys → SpansStmts shared a b (joined xs ys)
stmts_joined shared a m b t.done ys p q h k = stmts_before shared a m b ys p k
stmts_joined shared a m b (t.next x xs) ys p q h k = (h.0, h.1, h.2, h.3, omega (arith, h.4, q), h.5, stmts_joined (shared_behind x) h.1 m b xs ys h.4 q h.6 k)

locals_listed : (shared : Option Base) (a b : ℕ) (ls : List t.Local) → SpansLocals shared a b ls → SpansStmts shared a b (stmts_of ls)
locals_listed shared a b [] h = tt
locals_listed shared a b (l ∷ ls) h = (h.0, h.1, h.2, h.3, h.4, h.5, locals_listed (Some l.type_name.base) h.1 b ls h.6)

-- declarators behind one base
declarators_joined : (a m k b : ℕ) (xs : List LocalDeclarator) (d : LocalDeclarator) → a ≤ m → m ≤ k → k ≤ b → SpansDeclarators a m xs → SpansOf g.LocalDec k b d → SpansDeclarators a b (xs ++ d ∷ [])
declarators_joined a m k b [] d p q r h e = (k, b, omega arith, r, omega arith, e, tt)
declarators_joined a m k b (x ∷ xs) d p q r h e = (h.0, h.1, h.2, h.3, omega (arith, h.4, q, r), h.5, declarators_joined h.1 m k b xs d h.4 q r h.6 e)

declarators_shared : (a b : ℕ) (n : Base) (ds : List LocalDeclarator) → SpansDeclarators a b ds → SpansLocals (Some n) a b (map (local n) ds)
declarators_shared a b n [] h = tt
declarators_shared a b n (d ∷ ds) h = (h.0, h.1, h.2, h.3, h.4, s.behind_another refl h.5, declarators_shared h.1 b n ds h.6)

locals_right : (shared : Option Base) (x y z : ℕ) (ls : List t.Local) → y ≤ z → SpansLocals shared x y ls → SpansLocals shared x z ls
locals_right shared x y z [] r o = tt
locals_right shared x y z (l ∷ ls) r o = (o.0, o.1, o.2, o.3, omega (arith, o.4, r), o.5, locals_right (Some l.type_name.base) o.1 y z ls r o.6)

declared : (a m b c : ℕ) (n : Base) (ds : List LocalDeclarator) → a ≤ m → b ≤ c → SpansBase a m n → SpansDeclarators m b ds → SpansLocals None a c (map (local n) ds)
declared a m b c n [] p q h k = tt
declared a m b c n (d ∷ ds) p q h k =
    (a, k.1, omega arith, omega (arith, p, k.2, k.3), omega (arith, k.4, q), s.with_base k.0 (omega (arith, p, k.2)) k.3 (base_wider a m a k.0 n (omega arith) k.2 h) k.5, locals_right (Some n) k.1 b c (map (local n) ds) q (declarators_shared k.1 b n ds k.6))

field_decs_joined : (a m k b : ℕ) (xs : List FieldDeclarator) (d : FieldDeclarator) → a ≤ m → m ≤ k → k ≤ b → SpansFieldDecs a m xs → SpansFieldDec k b d → SpansFieldDecs a b (xs ++ d ∷ [])
field_decs_joined a m k b [] d p q r h e = (k, b, omega arith, r, omega arith, e, tt)
field_decs_joined a m k b (x ∷ xs) d p q r h e = (h.0, h.1, h.2, h.3, omega (arith, h.4, q, r), h.5, field_decs_joined h.1 m k b xs d h.4 q r h.6 e)

fields_right : (shared : Option t.TypeName) (x y z : ℕ) (fs : List t.Field) → y ≤ z → SpansFields shared x y fs → SpansFields shared x z fs
fields_right shared x y z [] r o = tt
fields_right shared x y z (f ∷ fs) r o = (o.0, o.1, o.2, o.3, omega (arith, o.4, r), o.5, fields_right (Some f.type_name) o.1 y z fs r o.6)

fields_shared : (a b : ℕ) (before : t.TypeName) (n : Base) (ds : List FieldDeclarator) → before.base ≡ n → SpansFieldDecs a b ds → SpansFields (Some before) a b (map (field n) ds)
fields_shared a b before n [] e h = tt
fields_shared a b before n (d ∷ ds) e h = (h.0, h.1, h.2, h.3, h.4, i.behind_another e h.5.0 h.5.1, fields_shared h.1 b (field n d).type_name n ds refl h.6)

fields_declared : (a m b c : ℕ) (n : Base) (ds : List FieldDeclarator) → a ≤ m → b ≤ c → SpansBase a m n → SpansFieldDecs m b ds → SpansFields None a c (map (field n) ds)
fields_declared a m b c n [] p q h k = tt
fields_declared a m b c n (d ∷ ds) p q h k = (
  a,
  k.1,
  omega arith,
  omega (arith, p, k.2, k.3),
  omega (arith, k.4, q),
  i.with_base k.0 (omega (arith, p, k.2)) k.3 (base_wider a m a k.0 n (omega arith) k.2 h) k.5.0 k.5.1,
  fields_right (Some (field n d).type_name) k.1 b c (map (field n) ds) q (fields_shared k.1 b (field n d).type_name n ds refl k.6),
)

decs_joined : (a m k b : ℕ) (xs : List GlobalDeclarator) (d : GlobalDeclarator) → a ≤ m → m ≤ k → k ≤ b → SpansDecs a m xs → SpansFieldDec k b d.declarator → SpansDecs a b (xs ++ d ∷ [])
decs_joined a m k b [] d p q r h e = (k, b, omega arith, r, omega arith, e, tt)
decs_joined a m k b (x ∷ xs) d p q r h e = (h.0, h.1, h.2, h.3, omega (arith, h.4, q, r), h.5, decs_joined h.1 m k b xs d h.4 q r h.6 e)

abbrev type_of_dec : Base → GlobalDeclarator → t.TypeName
type_of_dec n d = g.typed n d.declarator.stars

items_right : (shared : Option t.TypeName) (x y z : ℕ) (is : List t.Item) → y ≤ z → SpansItems shared x y is → SpansItems shared x z is
items_right shared x y z [] r o = tt
items_right shared x y z (f ∷ is) r o = (o.0, o.1, o.2, o.3, omega (arith, o.4, r), o.5, items_right (type_behind f) o.1 y z is r o.6)

globals_shared : (a b : ℕ) (before : t.TypeName) (n : Base) (ds : List GlobalDeclarator) → before.base ≡ n → SpansDecs a b ds → SpansItems (Some before) a b (map (global n) ds)
globals_shared a b before n [] e h = tt
globals_shared a b before n (d ∷ ds) e h = (h.0, h.1, h.2, h.3, h.4, i.behind_another e h.5.0 h.5.1, globals_shared h.1 b (type_of_dec n d) n ds refl h.6)

globals_declared : (a m b c : ℕ) (n : Base) (ds : List GlobalDeclarator) → a ≤ m → b ≤ c → SpansBase a m n → SpansDecs m b ds → SpansItems None a c (map (global n) ds)
globals_declared a m b c n [] p q h k = tt
globals_declared a m b c n (d ∷ ds) p q h k = (
  a,
  k.1,
  omega arith,
  omega (arith, p, k.2, k.3),
  omega (arith, k.4, q),
  i.with_base k.0 (omega (arith, p, k.2)) k.3 (base_wider a m a k.0 n (omega arith) k.2 h) k.5.0 k.5.1,
  items_right (Some (type_of_dec n d)) k.1 b c (map (global n) ds) q (globals_shared k.1 b (type_of_dec n d) n ds refl k.6),
)

param_right : (a b c : ℕ) (q : t.Param) → b ≤ c → SpansParam a b q → SpansParam a c q
param_right a b c q r h = (inside_wider a b a c q.spot (omega arith) r h.0, h.1, h.2, omega (arith, h.3, r), h.4, by q.name h.5) where
  by : (name : _) → SpansName h.1 b name → SpansName h.1 c name
  by None k = tt
  by (Some name) k = inside_wider h.1 b h.1 c name.spot (omega arith) r k

params_joined : (a m k b : ℕ) (xs : List t.Param) (q : t.Param) → a ≤ m → m ≤ k → k ≤ b → SpansParams a m xs → SpansParam k b q → SpansParams a b (xs ++ q ∷ [])
params_joined a m k b [] x p q r h e = (k, b, omega arith, r, omega arith, e, tt)
params_joined a m k b (y ∷ xs) x p q r h e = (h.0, h.1, h.2, h.3, omega (arith, h.4, q, r), h.5, params_joined h.1 m k b xs x h.4 q r h.6 e)

params_right : (a b c : ℕ) (qs : List t.Param) → b ≤ c → SpansParams a b qs → SpansParams a c qs
params_right a b c [] r h = tt
params_right a b c (q ∷ qs) r h = (h.0, h.1, h.2, h.3, omega (arith, h.4, r), h.5, params_right h.1 b c qs r h.6)

-- the productions, each with where it begins
text_stands : {at : Spot} {x : TreeOf g.Text} {ps : List Part} (a b : ℕ) → Rule at g.Text x ps → Along a b ps → SpansItems None a b x
text_stands a b g.no_items h = tt
text_stands a b (g.items {before = before} {is = is}) h = items_joined None a h.0 b before is h.1 (omega (arith, h.3.1, h.3.3)) h.2 (items_right None h.0 h.3.0 b is (omega (arith, h.3.3)) h.3.2)

item_stands : {at : Spot} {x : TreeOf g.Item} {ps : List Part} (a b : ℕ) → (a < b → at.place ≡ a) → Rule at g.Item x ps → Along a b ps → SpansItems None a b x
item_stands {at = at} a b here (g.a_struct {x = name} {fs = fs}) h =
    let begin = here (omega (arith, h.1, h.3.1, h.3.3)) in (
      a,
      b,
      omega arith,
      omega (arith, h.1, h.3.1, h.3.3),
      omega arith,
      (
        (omega (arith, begin), omega (arith, begin, h.1, h.3.1, h.3.3)),
        h.0,
        omega (arith, h.1),
        omega (arith, h.3.1, h.3.3),
        inside_wider (a + 1) h.0 a h.0 name.spot (omega arith) (omega arith) h.2,
        fields_before None h.0 (h.0 + 1) b fs (omega arith) (fields_right None (h.0 + 1) h.3.0 b fs (omega (arith, h.3.3)) h.3.2),
      ),
      tt,
    )
item_stands a b here (g.globals {base = n} {ds = ds}) h = globals_declared a h.0 h.3.0 b n ds h.1 (omega (arith, h.3.3)) h.2.0 h.3.2
item_stands {at = at} a b here (g.a_function {result = result} {x = name} {ps = qs} {end = end}) h =
    let n = h.3 in
    let q = n.3 in
    let e = q.3 in
    let begin = here (omega (arith, h.1, n.1, q.1, e.1, e.3)) in (
      a,
      b,
      omega arith,
      omega (arith, h.1, n.1, q.1, e.1, e.3),
      omega arith,
      ((omega (arith, begin), omega (arith, begin, h.1, n.1, q.1, e.1, e.3)), h.0, h.1, n.0, n.1, q.0, omega (arith, q.1), omega (arith, e.1, e.3), h.2, n.2, params_left n.0 (n.0 + 1) q.0 qs (omega arith) q.2, body_right q.0 e.0 b end.body (omega (arith, e.3)) e.2),
      tt,
    ) where
      params_left : (u v w : ℕ) (ps : List t.Param) → u ≤ v → SpansParams v w ps → SpansParams u w ps
      params_left u v w [] r k = tt
      params_left u v w (x ∷ xs) r k = (k.0, k.1, omega (arith, k.2, r), k.3, k.4, k.5, k.6)

      body_right : (u v w : ℕ) (body : Option t.Stmts) → v ≤ w → SpansBody u v body → SpansBody u w body
      body_right u v w None r k = tt
      body_right u v w (Some body) r k = (k.0, k.1, k.2, omega (arith, k.3, r), k.4)
item_stands {at = at} a b here (g.a_deleting {result = result} {x = name} {ps = qs} {end = end}) h =
    let n = h.3 in
    let q = n.3 in
    let e = q.3 in
    let begin = here (omega (arith, h.1, n.1, q.1, e.1, e.3)) in (
      a,
      b,
      omega arith,
      omega (arith, h.1, n.1, q.1, e.1, e.3),
      omega arith,
      ((omega (arith, begin), omega (arith, begin, h.1, n.1, q.1, e.1, e.3)), h.0, omega (arith, h.1), n.0, n.1, q.0, omega (arith, q.1), omega (arith, e.1, e.3), result_left a (a + 1) h.0 result (omega arith) h.2, n.2, params_left n.0 (n.0 + 1) q.0 qs (omega arith) q.2, body_right q.0 e.0 b end.body (omega (arith, e.3)) e.2),
      tt,
    ) where
      params_left : (u v w : ℕ) (ps : List t.Param) → u ≤ v → SpansParams v w ps → SpansParams u w ps
      params_left u v w [] r k = tt
      params_left u v w (x ∷ xs) r k = (k.0, k.1, omega (arith, k.2, r), k.3, k.4, k.5, k.6)

      result_left : (u v w : ℕ) (r : Option t.TypeName) → u ≤ v → SpansResult v w r → SpansResult u w r
      result_left u v w None p k = tt
      result_left u v w (Some n) p k = base_wider v w u w n.base p (omega arith) k

      body_right : (u v w : ℕ) (body : Option t.Stmts) → v ≤ w → SpansBody u v body → SpansBody u w body
      body_right u v w None r k = tt
      body_right u v w (Some body) r k = (k.0, k.1, k.2, omega (arith, k.3, r), k.4)

fields_stand : {at : Spot} {x : TreeOf g.Fields} {ps : List Part} (a b : ℕ) → Rule at g.Fields x ps → Along a b ps → SpansFields None a b x
fields_stand a b (g.first_field {fs = fs}) h = fields_right None a h.0 b fs (omega (arith, h.3)) h.2
fields_stand a b (g.more_fields {before = before} {fs = fs}) h = fields_joined None a h.0 b before fs h.1 (omega (arith, h.3.1, h.3.3)) h.2 (fields_right None h.0 h.3.0 b fs (omega (arith, h.3.3)) h.3.2)

field_stands : {at : Spot} {x : TreeOf g.Field} {ps : List Part} (a b : ℕ) → Rule at g.Field x ps → Along a b ps → SpansFields None a b x
field_stands a b (g.fields {base = n} {ds = ds}) h = fields_declared a h.0 h.3.0 b n ds h.1 (omega (arith, h.3.3)) h.2.0 h.3.2

field_dec_right : (a b c : ℕ) (d : FieldDeclarator) → b ≤ c → SpansFieldDec a b d → SpansFieldDec a c d
field_dec_right a b c d r h = (inside_wider a b a c d.spot (omega arith) r h.0, inside_wider a b a c d.name.spot (omega arith) r h.1)

field_decs_stand : {at : Spot} {x : TreeOf g.FieldDecs} {ps : List Part} (a b : ℕ) → Rule at g.FieldDecs x ps → Along a b ps → SpansFieldDecs a b x
field_decs_stand a b (g.one_field {d = d}) h = (a, h.0, omega arith, h.1, omega (arith, h.3), h.2, tt)
field_decs_stand a b (g.another_field {before = before} {d = d}) h =
    field_decs_joined a h.0 (h.0 + 1) b before d h.1 (omega arith) (omega (arith, h.3.1, h.3.3)) h.2 (field_dec_right (h.0 + 1) h.3.0 b d (omega (arith, h.3.3)) h.3.2)

field_dec_stands : {at : Spot} {x : TreeOf g.FieldDec} {ps : List Part} (a b : ℕ) → (a < b → at.place ≡ a) → Rule at g.FieldDec x ps → Along a b ps → SpansFieldDec a b x
field_dec_stands a b here (g.a_field {x = name}) h =
    let n = h.3 in
    let begin = here (omega (arith, h.1, n.2.0, n.2.1, n.3)) in
    ((omega (arith, begin), omega (arith, begin, h.1, n.2.0, n.2.1, n.3)), inside_wider h.0 n.0 a b name.spot h.1 (omega (arith, n.3)) n.2)
field_dec_stands a b here (g.an_array {x = name}) h =
    let n = h.3 in
    let begin = here (omega (arith, h.1, n.1, n.3)) in
    ((omega (arith, begin), omega (arith, begin, h.1, n.1, n.3)), inside_wider h.0 n.0 a b name.spot h.1 (omega (arith, n.3)) n.2)

decs_stand : {at : Spot} {x : TreeOf g.Decs} {ps : List Part} (a b : ℕ) → Rule at g.Decs x ps → Along a b ps → SpansDecs a b x
decs_stand a b (g.one_global {d = d}) h = (a, h.0, omega arith, h.1, omega (arith, h.3), h.2, tt)
decs_stand a b (g.another_global {before = before} {d = d}) h =
    decs_joined a h.0 (h.0 + 1) b before d h.1 (omega arith) (omega (arith, h.3.1, h.3.3)) h.2 (field_dec_right (h.0 + 1) h.3.0 b d.declarator (omega (arith, h.3.3)) h.3.2)

dec_stands : {at : Spot} {x : TreeOf g.Dec} {ps : List Part} (a b : ℕ) → Rule at g.Dec x ps → Along a b ps → SpansFieldDec a b x.declarator
dec_stands a b (g.a_global {d = d}) h = field_dec_right a h.0 b d (omega (arith, h.3)) h.2
dec_stands a b (g.an_initial {d = d}) h = field_dec_right a h.0 b d (omega (arith, h.3.1, h.3.3)) h.2

base_stands : {at : Spot} {x : TreeOf g.Base} {ps : List Part} (a b : ℕ) → Rule at g.Base x ps → Along a b ps → SpansBase a b x × (a < b)
base_stands a b g.an_int h = (tt, omega (arith, h))
base_stands a b g.an_unsigned h = (tt, omega (arith, h))
base_stands a b g.an_unsigned_int h = (tt, omega (arith, h))
base_stands a b g.a_char h = (tt, omega (arith, h))
base_stands a b g.a_region h = (tt, omega (arith, h))
base_stands a b (g.a_named_struct {x = name}) h = (inside_wider (a + 1) h.0 a b name.spot (omega arith) (omega (arith, h.3)) h.2, omega (arith, h.1, h.3))

type_stands : {at : Spot} {x : TreeOf g.TypeName} {ps : List Part} (a b : ℕ) → Rule at g.TypeName x ps → Along a b ps → SpansBase a b x.base × (a < b)
type_stands a b (g.a_type {base = n}) h = (base_wider a h.0 a b n (omega arith) (omega (arith, h.3.1, h.3.3)) h.2.0, omega (arith, h.2.1, h.3.1, h.3.3))

result_stands : {at : Spot} {x : TreeOf g.Result} {ps : List Part} (a b : ℕ) → Rule at g.Result x ps → Along a b ps → SpansResult a b x
result_stands a b g.a_void h = tt
result_stands a b (g.a_result {ty = n}) h = base_wider a h.0 a b n.base (omega arith) (omega (arith, h.3)) h.2.0

params_end_stand : {at : Spot} {x : TreeOf g.ParamsEnd} {ps : List Part} (a b : ℕ) → Rule at g.ParamsEnd x ps → Along a b ps → SpansParams a b x
params_end_stand a b g.no_params h = tt
params_end_stand a b g.void_params h = tt
params_end_stand a b (g.some_params {ps = qs}) h = params_right a h.0 b qs (omega (arith, h.3)) h.2

params_stand : {at : Spot} {x : TreeOf g.Params} {ps : List Part} (a b : ℕ) → Rule at g.Params x ps → Along a b ps → SpansParams a b x
params_stand a b (g.one_param {p = q}) h = (a, h.0, omega arith, h.1, omega (arith, h.3), h.2, tt)
params_stand a b (g.another_param {before = before} {p = q}) h = params_joined a h.0 (h.0 + 1) b before q h.1 (omega arith) (omega (arith, h.3.1, h.3.3)) h.2 (param_right (h.0 + 1) h.3.0 b q (omega (arith, h.3.3)) h.3.2)

param_stands : {at : Spot} {x : TreeOf g.Param} {ps : List Part} (a b : ℕ) → (a < b → at.place ≡ a) → Rule at g.Param x ps → Along a b ps → SpansParam a b x
param_stands a b here (g.a_nameless {ty = n}) h =
    let begin = here (omega (arith, h.2.1, h.3)) in
    ((omega (arith, begin), omega (arith, begin, h.2.1, h.3)), h.0, h.1, omega (arith, h.3), h.2.0, tt)
param_stands a b here (g.a_param {ty = n} {x = name}) h =
    let begin = here (omega (arith, h.2.1, h.3.1, h.3.3)) in
    ((omega (arith, begin), omega (arith, begin, h.2.1, h.3.1, h.3.3)), h.0, h.1, omega (arith, h.3.1, h.3.3), h.2.0, inside_wider h.0 h.3.0 h.0 b name.spot (omega arith) (omega (arith, h.3.3)) h.3.2)

body_part : (a b c d : ℕ) (body : Option t.Stmts) → c ≤ a → b ≤ d → SpansBody a b body → SpansBody c d body
body_part a b c d None p q h = tt
body_part a b c d (Some body) p q h = (h.0, h.1, omega (arith, h.2, p), omega (arith, h.3, q), h.4)

end_stands : {at : Spot} {x : TreeOf g.FunctionEnd} {ps : List Part} (a b : ℕ) → Rule at g.FunctionEnd x ps → Along a b ps → SpansBody a b x.body
end_stands a b (g.ends {body = body}) h = body_part a h.0 a b body (omega arith) (omega (arith, h.3)) h.2
end_stands a b (g.ends_deleting {body = body}) h = body_part (a + 1) h.0 a b body (omega arith) (omega (arith, h.3)) h.2

body_end_stands : {at : Spot} {x : TreeOf g.BodyEnd} {ps : List Part} (a b : ℕ) → Rule at g.BodyEnd x ps → Along a b ps → SpansBody a b x
body_end_stands a b g.no_body h = tt
body_end_stands a b (g.a_body {body = body}) h = (h.2.0, h.2.1, h.2.2, omega (arith, h.2.3, h.3), h.2.4)

block_stands : {at : Spot} {x : TreeOf g.Block} {ps : List Part} (a b : ℕ) → Rule at g.Block x ps → Along a b ps → (c : ℕ) × (d : ℕ) × (a ≤ c) × (d ≤ b) × SpansStmts None c d x
block_stands a b (g.a_block {body = body}) h = (a + 1, h.0, omega arith, omega (arith, h.3), h.2)

stmts_right : (shared : Option Base) (x y z : ℕ) (body : t.Stmts) → y ≤ z → SpansStmts shared x y body → SpansStmts shared x z body
stmts_right shared x y z t.done r o = tt
stmts_right shared x y z (t.next c rest) r o = (o.0, o.1, o.2, o.3, omega (arith, o.4, r), o.5, stmts_right (shared_behind c) o.1 y z rest r o.6)

body_stands : {at : Spot} {x : TreeOf g.Body} {ps : List Part} (a b : ℕ) → Rule at g.Body x ps → Along a b ps → SpansStmts None a b x
body_stands a b g.no_stmts h = tt
body_stands a b (g.then_locals {before = before} {ls = ls}) h =
    stmts_joined None a h.0 b before (stmts_of ls) h.1 (omega (arith, h.3.1, h.3.3)) h.2 (stmts_right None h.0 h.3.0 b (stmts_of ls) (omega (arith, h.3.3)) (locals_listed None h.0 h.3.0 ls h.3.2))
body_stands a b (g.then_stmt {before = before} {s = x}) h =
    stmts_joined None a h.0 b before (t.next x t.done) h.1 (omega (arith, h.3.1, h.3.3)) h.2 (h.0, h.3.0, omega arith, h.3.1, omega (arith, h.3.3), h.3.2, tt)

locals_stand : {at : Spot} {x : TreeOf g.Locals} {ps : List Part} (a b : ℕ) → Rule at g.Locals x ps → Along a b ps → SpansLocals None a b x
locals_stand a b (g.locals {base = n} {ds = ds}) h = declared a h.0 h.3.0 b n ds h.1 (omega (arith, h.3.3)) h.2.0 h.3.2

option_right : (a b c : ℕ) (e : Option t.Expr) → b ≤ c → SpansOption a b e → SpansOption a c e
option_right a b c None r h = tt
option_right a b c (Some e) r h = wider a b a c e (omega arith) r h

local_dec_right : (a b c : ℕ) (d : LocalDeclarator) → b ≤ c → SpansOf g.LocalDec a b d → SpansOf g.LocalDec a c d
local_dec_right a b c d r h = (inside_wider a b a c d.spot (omega arith) r h.0, h.1, h.2, omega (arith, h.3, r), h.4, option_right h.1 b c d.initial r h.5)

local_decs_stand : {at : Spot} {x : TreeOf g.LocalDecs} {ps : List Part} (a b : ℕ) → Rule at g.LocalDecs x ps → Along a b ps → SpansDeclarators a b x
local_decs_stand a b (g.one_local {d = d}) h = (a, h.0, omega arith, h.1, omega (arith, h.3), h.2, tt)
local_decs_stand a b (g.another_local {before = before} {d = d}) h =
    declarators_joined a h.0 (h.0 + 1) b before d h.1 (omega arith) (omega (arith, h.3.1, h.3.3)) h.2 (local_dec_right (h.0 + 1) h.3.0 b d (omega (arith, h.3.3)) h.3.2)

local_dec_stands : {at : Spot} {x : TreeOf g.LocalDec} {ps : List Part} (a b : ℕ) → (a < b → at.place ≡ a) → Rule at g.LocalDec x ps → Along a b ps → SpansOf g.LocalDec a b x
local_dec_stands a b here (g.a_local {x = name}) h =
    let n = h.3 in
    let begin = here (omega (arith, h.1, n.2.0, n.2.1, n.3)) in
    ((omega (arith, begin), omega (arith, begin, h.1, n.2.0, n.2.1, n.3)), b, omega (arith, h.1, n.1, n.3), omega arith, inside_wider h.0 n.0 a b name.spot h.1 (omega (arith, n.3)) n.2, tt)
local_dec_stands a b here (g.a_local_with {x = name} {e = e}) h =
    let n = h.3 in
    let v = n.3 in
    let begin = here (omega (arith, h.1, n.1, v.1, v.3)) in
    ((omega (arith, begin), omega (arith, begin, h.1, n.1, v.1, v.3)), n.0, omega (arith, h.1, n.1), omega (arith, v.1, v.3), inside_wider h.0 n.0 a n.0 name.spot h.1 (omega arith) n.2, wider (n.0 + 1) v.0 n.0 b e (omega arith) (omega (arith, v.3)) v.2)

option_part : (a b c d : ℕ) (e : Option t.Expr) → c ≤ a → b ≤ d → SpansOption a b e → SpansOption c d e
option_part a b c d None p q h = tt
option_part a b c d (Some e) p q h = wider a b c d e p q h

stmt_to : (a b c : ℕ) (x : t.Stmt) → b ≡ c → SpansStmt None a b x → SpansStmt None a c x
stmt_to a b c x e h = subst (λ m. SpansStmt None a m x) e h

stmt_stands : {at : Spot} {x : TreeOf g.Stmt} {ps : List Part} (a b : ℕ) → (a < b → at.place ≡ a) → Rule at g.Stmt x ps → Along a b ps → SpansStmt None a b x
stmt_stands a b here (g.a_block_stmt {body = body}) h = (h.2.0, h.2.1, h.2.2, omega (arith, h.2.3, h.3), h.2.4)
stmt_stands a b here g.an_empty h = tt
stmt_stands a b here (g.a_simple {x = x}) h = simple_wider a h.0 a b x (omega arith) (omega (arith, h.3)) h.2
stmt_stands a b here (g.an_if {e = e} {a = x}) h =
    let v = h.3 in
    (h.0 + 1, omega (arith, h.1), omega (arith, v.1, v.3), wider (a + 1 + 1) h.0 a (h.0 + 1) e (omega arith) (omega arith) h.2, stmt_to (h.0 + 1) v.0 b x v.3 v.2)
stmt_stands a b here (g.an_if_else {e = e} {a = x} {b = y} closed) h =
    let v = h.3 in
    let w = v.3 in
    (h.0 + 1, omega (arith, h.1), v.0, v.0 + 1, v.1, omega arith, omega (arith, w.1, w.3), wider (a + 1 + 1) h.0 a (h.0 + 1) e (omega arith) (omega arith) h.2, v.2, stmt_to (v.0 + 1) w.0 b y w.3 w.2)
stmt_stands a b here (g.a_while {e = e} {a = x}) h =
    let v = h.3 in
    (h.0 + 1, omega (arith, h.1), omega (arith, v.1, v.3), wider (a + 1 + 1) h.0 a (h.0 + 1) e (omega arith) (omega arith) h.2, stmt_to (h.0 + 1) v.0 b x v.3 v.2)
stmt_stands a b here (g.a_do {a = x} {e = e}) h =
    let v = h.3 in
    (a + 1, h.0, omega arith, h.1, omega (arith, v.1, v.3), h.2, wider (h.0 + 1 + 1) v.0 h.0 b e (omega arith) (omega (arith, v.3)) v.2)
stmt_stands a b here (g.a_for {start = start} {e = e} {then = then} {a = x}) h =
    let v = h.3 in
    let w = v.3 in
    let y = w.3 in
    (a + 1 + 1, omega arith, h.0, h.1, v.0, v.1, w.0, w.1, omega (arith, y.1, y.3), h.2, v.2, w.2, stmt_to w.0 y.0 b x y.3 y.2)
stmt_stands a b here g.a_break h = let begin = here (omega (arith, h)) in (omega (arith, begin), omega (arith, begin, h))
stmt_stands a b here g.a_continue h = let begin = here (omega (arith, h)) in (omega (arith, begin), omega (arith, begin, h))
stmt_stands a b here (g.a_return {e = e}) h =
    let begin = here (omega (arith, h.1, h.3)) in
    ((omega (arith, begin), omega (arith, begin, h.1, h.3)), option_part (a + 1) h.0 a b e (omega arith) (omega (arith, h.3)) h.2)

start_stands : {at : Spot} {x : TreeOf g.ForStart} {ps : List Part} (a b : ℕ) → Rule at g.ForStart x ps → Along a b ps → SpansStart a b x
start_stands a b (g.starts_local {ls = ls}) h = locals_right None a h.0 b ls (omega (arith, h.3)) h.2
start_stands a b (g.starts_simple {x = x}) h = simple_wider a h.0 a b x (omega arith) (omega (arith, h.3)) h.2
start_stands a b g.starts_nothing h = tt

expr_end_stands : {at : Spot} {x : TreeOf g.ExprEnd} {ps : List Part} (a b : ℕ) → Rule at g.ExprEnd x ps → Along a b ps → SpansOption a b x
expr_end_stands a b g.no_expr h = tt
expr_end_stands a b (g.an_expr {e = e}) h = wider a h.0 a b e (omega arith) (omega (arith, h.3)) h.2

simple_end_stands : {at : Spot} {x : TreeOf g.SimpleEnd} {ps : List Part} (a b : ℕ) → Rule at g.SimpleEnd x ps → Along a b ps → SpansSimpleOption a b x
simple_end_stands a b g.no_simple h = tt
simple_end_stands a b (g.some_simple {x = x}) h = simple_wider a h.0 a b x (omega arith) (omega (arith, h.3)) h.2

simple_stands : {at : Spot} {x : TreeOf g.Simple} {ps : List Part} (a b : ℕ) → (a < b → at.place ≡ a) → Rule at g.Simple x ps → Along a b ps → SpansSimple a b x
simple_stands a b here (g.evaluates {e = e}) h = wider a h.0 a b e (omega arith) (omega (arith, h.3)) h.2
simple_stands a b here (g.assigns {l = l} {r = r}) h =
    let v = h.3 in
    let begin = here (omega (arith, h.1, v.1, v.3)) in
    ((omega (arith, begin), omega (arith, begin, h.1, v.1, v.3)), h.0, h.1, omega (arith, v.1, v.3), h.2, wider (h.0 + 1) v.0 h.0 b r (omega arith) (omega (arith, v.3)) v.2)
simple_stands a b here (g.updates {l = l} {r = r} known) h =
    let v = h.3 in
    let begin = here (omega (arith, h.1, v.1, v.3)) in
    ((omega (arith, begin), omega (arith, begin, h.1, v.1, v.3)), h.0, h.1, omega (arith, v.1, v.3), h.2, wider (h.0 + 1) v.0 h.0 b r (omega arith) (omega (arith, v.3)) v.2)
simple_stands a b here (g.steps_after {l = l}) h =
    let begin = here (omega (arith, h.1, h.3)) in
    ((omega (arith, begin), omega (arith, begin, h.1, h.3)), wider a h.0 a b l (omega arith) (omega (arith, h.3)) h.2)
simple_stands a b here (g.steps_before {l = l}) h =
    let begin = here (omega (arith, h.1, h.3)) in
    ((omega (arith, begin), omega (arith, begin, h.1, h.3)), wider (a + 1) h.0 a b l (omega arith) (omega (arith, h.3)) h.2)

level_stands : {at : Spot} {l : ℕ} {x : t.Expr} {ps : List Part} (a b : ℕ) → (a < b → at.place ≡ a) → Rule at (g.Level l) x ps → Along a b ps → Spans a b x
level_stands a b here (g.conditional {c = c} {a = x} {b = y}) h =
    let v = h.3 in
    let w = v.3 in
    let begin = here (omega (arith, h.1, v.1, w.1, w.3)) in
    (omega (arith, begin), omega (arith, begin, h.1, v.1, w.1, w.3), h.0, h.1, v.0, omega (arith, v.1), omega (arith, w.1, w.3), h.2, wider (h.0 + 1) v.0 h.0 v.0 x (omega arith) (omega arith) v.2, wider (v.0 + 1) w.0 v.0 b y (omega arith) (omega (arith, w.3)) w.2)
level_stands a b here (g.chain {a = x} {b = y} known) h =
    let v = h.3 in
    let begin = here (omega (arith, h.1, v.1, v.3)) in
    (omega (arith, begin), omega (arith, begin, h.1, v.1, v.3), h.0, h.1, omega (arith, v.1, v.3), h.2, wider (h.0 + 1) v.0 h.0 b y (omega arith) (omega (arith, v.3)) v.2)
level_stands a b here (g.up {e = e} known) h = wider a h.0 a b e (omega arith) (omega (arith, h.3)) h.2
level_stands a b here (g.operand {e = e}) h = wider a h.0 a b e (omega arith) (omega (arith, h.3)) h.2

arm_stands : {at : Spot} {x : TreeOf g.Arm} {ps : List Part} (a b : ℕ) → Rule at g.Arm x ps → Along a b ps → Spans a b x
arm_stands a b (g.arm {e = e}) h = wider a h.0 a b e (omega arith) (omega (arith, h.3)) h.2

unary_stands : {at : Spot} {x : TreeOf g.Unary} {ps : List Part} (a b : ℕ) → (a < b → at.place ≡ a) → Rule at g.Unary x ps → Along a b ps → Spans a b x
unary_stands a b here (g.plain {e = e}) h = wider a h.0 a b e (omega arith) (omega (arith, h.3)) h.2
unary_stands a b here (g.prefixed {e = e}) h =
    let begin = here (omega (arith, h.1, h.3)) in
    (omega (arith, begin), omega (arith, begin, h.1, h.3), wider (a + 1) h.0 a b e (omega arith) (omega (arith, h.3)) h.2)
unary_stands a b here (g.a_cast {e = e}) h =
    let v = h.3 in
    let begin = here (omega (arith, h.1, v.1, v.3)) in
    (omega (arith, begin), omega (arith, begin, h.1, v.1, v.3), wider (h.0 + 1) v.0 a b e (omega (arith, h.1)) (omega (arith, v.3)) v.2)

postfix_stands : {at : Spot} {x : TreeOf g.Postfix} {ps : List Part} (a b : ℕ) → (a < b → at.place ≡ a) → Rule at g.Postfix x ps → Along a b ps → Spans a b x
postfix_stands a b here (g.bare {e = e}) h = wider a h.0 a b e (omega arith) (omega (arith, h.3)) h.2
postfix_stands a b here (g.indexed {a = x} {i = k}) h =
    let v = h.3 in
    let begin = here (omega (arith, h.1, v.1, v.3)) in
    (omega (arith, begin), omega (arith, begin, h.1, v.1, v.3), h.0, h.1, omega (arith, v.1, v.3), h.2, wider (h.0 + 1) v.0 h.0 b k (omega arith) (omega (arith, v.3)) v.2)
postfix_stands a b here (g.a_member {a = x} {x = name}) h =
    let v = h.3 in
    let begin = here (omega (arith, h.1, v.1, v.3)) in
    (omega (arith, begin), omega (arith, begin, h.1, v.1, v.3), inside_wider (h.0 + 1) v.0 a b name.spot (omega (arith, h.1)) (omega (arith, v.3)) v.2, wider a h.0 a b x (omega arith) (omega (arith, v.1, v.3)) h.2)
postfix_stands a b here (g.an_arrow {a = x} {x = name}) h =
    let v = h.3 in
    let begin = here (omega (arith, h.1, v.1, v.3)) in
    (omega (arith, begin), omega (arith, begin, h.1, v.1, v.3), inside_wider (h.0 + 1) v.0 a b name.spot (omega (arith, h.1)) (omega (arith, v.3)) v.2, wider a h.0 a b x (omega arith) (omega (arith, v.1, v.3)) h.2)

primary_stands : {at : Spot} {x : TreeOf g.Primary} {ps : List Part} (a b : ℕ) → (a < b → at.place ≡ a) → Rule at g.Primary x ps → Along a b ps → Spans a b x
primary_stands a b here g.a_number h = let begin = here (omega (arith, h)) in (omega (arith, begin), omega (arith, begin, h))
primary_stands a b here g.a_character h = let begin = here (omega (arith, h)) in (omega (arith, begin), omega (arith, begin, h))
primary_stands a b here g.a_string h = let begin = here (omega (arith, h)) in (omega (arith, begin), omega (arith, begin, h))
primary_stands a b here g.the_null h = let begin = here (omega (arith, h)) in (omega (arith, begin), omega (arith, begin, h))
primary_stands a b here g.the_eof h = let begin = here (omega (arith, h)) in (omega (arith, begin), omega (arith, begin, h))
primary_stands a b here (g.a_variable {x = name}) h = inside_wider a h.0 a b name.spot (omega arith) (omega (arith, h.3)) h.2
primary_stands a b here (g.calls {x = name}) h = (h.2.0, omega (arith, h.2.1, h.3), tt)
primary_stands a b here (g.calls_with {x = name} {v = v}) h =
    let w = h.3 in
    (h.2.0, omega (arith, h.2.1, w.1, w.3), all_wider (h.0 + 1) w.0 (name.spot.place + 1) b v (omega (arith, h.2.1)) (omega (arith, w.3)) w.2)
primary_stands a b here (g.allocates {r = r} {ty = n}) h =
    let v = h.3 in
    let begin = here (omega (arith, h.1, v.1, v.3)) in
    (omega (arith, begin), omega (arith, begin, h.1, v.1, v.3), h.0, omega (arith, h.1), omega (arith, v.1, v.3), wider (a + 1 + 1) h.0 a h.0 r (omega arith) (omega arith) h.2, base_wider (h.0 + 1) v.0 h.0 b n.base (omega arith) (omega (arith, v.3)) v.2.0)
primary_stands a b here (g.allocates_array {r = r} {i = k} {ty = n}) h =
    let v = h.3 in
    let w = v.3 in
    let begin = here (omega (arith, h.1, v.1, w.1, w.3)) in
    (omega (arith, begin), omega (arith, begin, h.1, v.1, w.1, w.3), h.0, omega (arith, h.1), v.0, omega (arith, v.1), omega (arith, w.1, w.3), wider (a + 1 + 1) h.0 a h.0 r (omega arith) (omega arith) h.2, wider (h.0 + 1) v.0 h.0 v.0 k (omega arith) (omega arith) v.2, base_wider (v.0 + 1) w.0 v.0 b n.base (omega arith) (omega (arith, w.3)) w.2.0)
primary_stands a b here (g.parentheses {e = e}) h = wider (a + 1) h.0 a b e (omega arith) (omega (arith, h.3)) h.2

arguments_stand : {at : Spot} {x : TreeOf g.Arguments} {ps : List Part} (a b : ℕ) → Rule at g.Arguments x ps → Along a b ps → SpansAll a b x
arguments_stand a b (g.one {e = e}) h = (h.0, h.1, omega (arith, h.3), h.2, tt)
arguments_stand a b (g.another {v = v} {e = e}) h = let w = h.3 in argument_last a h.0 (h.0 + 1) b v e h.1 (omega arith) (omega (arith, w.1, w.3)) h.2 (wider (h.0 + 1) w.0 (h.0 + 1) b e (omega arith) (omega (arith, w.3)) w.2)

name_stands : {at : Spot} {x : TreeOf g.Name} {ps : List Part} (a b : ℕ) → (a < b → at.place ≡ a) → Rule at g.Name x ps → Along a b ps → Inside a b x.spot
name_stands a b here g.a_name h = let begin = here (omega (arith, h)) in (omega (arith, begin), omega (arith, begin, h))

rule_stands : (x : Symbol) {at : Spot} {c : TreeOf x} {ps : List Part} (a b : ℕ) → (a < b → at.place ≡ a) → Rule at x c ps → Along a b ps → SpansOf x a b c
rule_stands g.Text a b here rule h = text_stands a b rule h
rule_stands g.Item a b here rule h = item_stands a b here rule h
rule_stands g.Fields a b here rule h = fields_stand a b rule h
rule_stands g.Field a b here rule h = field_stands a b rule h
rule_stands g.FieldDecs a b here rule h = field_decs_stand a b rule h
rule_stands g.FieldDec a b here rule h = field_dec_stands a b here rule h
rule_stands g.Decs a b here rule h = decs_stand a b rule h
rule_stands g.Dec a b here rule h = dec_stands a b rule h
rule_stands g.Base a b here rule h = base_stands a b rule h
rule_stands g.TypeName a b here rule h = type_stands a b rule h
rule_stands g.Result a b here rule h = result_stands a b rule h
rule_stands g.ParamsEnd a b here rule h = params_end_stand a b rule h
rule_stands g.Params a b here rule h = params_stand a b rule h
rule_stands g.Param a b here rule h = param_stands a b here rule h
rule_stands g.FunctionEnd a b here rule h = end_stands a b rule h
rule_stands g.BodyEnd a b here rule h = body_end_stands a b rule h
rule_stands g.Block a b here rule h = block_stands a b rule h
rule_stands g.Body a b here rule h = body_stands a b rule h
rule_stands g.Locals a b here rule h = locals_stand a b rule h
rule_stands g.LocalDecs a b here rule h = local_decs_stand a b rule h
rule_stands g.LocalDec a b here rule h = local_dec_stands a b here rule h
rule_stands g.Stmt a b here rule h = stmt_stands a b here rule h
rule_stands g.ForStart a b here rule h = start_stands a b rule h
rule_stands g.ExprEnd a b here rule h = expr_end_stands a b rule h
rule_stands g.SimpleEnd a b here rule h = simple_end_stands a b rule h
rule_stands g.Simple a b here rule h = simple_stands a b here rule h
rule_stands (g.Level l) a b here rule h = level_stands a b here rule h
rule_stands g.Arm a b here rule h = arm_stands a b rule h
rule_stands g.Unary a b here rule h = unary_stands a b here rule h
rule_stands g.Postfix a b here rule h = postfix_stands a b here rule h
rule_stands g.Primary a b here rule h = primary_stands a b here rule h
rule_stands g.Arguments a b here rule h = arguments_stand a b rule h
rule_stands g.Name a b here rule h = name_stands a b here rule h
rule_stands x a b here rule h = tt

step : (x : Symbol) (at : Spot) (c : TreeOf x) (ps : List Part) (ws : List Placed) → BeginAt at ws → Rule at x c ps → KnownAll Stands ws ps → Stands x c ws
step x at c ps ws e rule all a b runs = rule_stands x a b (begins at a b ws e runs) rule (along all a b runs)

-- the items of the tree of a text stand in its order
pub items_in_text : (tree : t.Tree) (tokens : List Token) → Derives (placed 0 tokens) (node g.Text tree.items) → SpansItems None 0 (0 + length tokens) tree.items
items_in_text tree tokens d = derived Stands step d 0 (0 + length tokens) (placed_runs 0 tokens)

-- the first violation of the tree of a text is the least
pub first_in_text : (tree : t.Tree) (tokens : List Token) (f : Fault) → Derives (placed 0 tokens) (node g.Text tree.items) → first_fault (judged tree) ≡ Some f → IsLeast tree f
first_in_text tree tokens f d h = first_is_least tree 0 (0 + length tokens) f (items_in_text tree tokens d) h
