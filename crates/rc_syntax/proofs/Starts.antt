-- What the grammar begins, the reader reads: production by production.
use Rattle.std.proofs.Common.{ℕ, ◌≡◌, ◌+◌, List, [], ◌∷◌, ◌++◌, append_assoc, length, length-append, Option, Some, Bool, true, false, refl, ap, sym, ◌∙◌, subst, arith, inl, inr}
use Rattle.rc_syntax.specs.declared.word.Mark.TheVariants as m
use Rattle.rc_syntax.specs.declared.tree.Spot.{Spot}
use Rattle.rc_syntax.specs.declared.tree.Name as names
use Rattle.rc_syntax.specs.declared.word.Key.TheVariants.{Char, Deletes, Int, Unsigned, Void}
use Rattle.rc_syntax.specs.declared.tree.Note as notes
use Rattle.rc_syntax.specs.declared.tree.Base as bases
use Rattle.rc_syntax.specs.declared.tree.Base.TheVariants as b
use Rattle.rc_syntax.specs.Tokens as w
use Rattle.rc_syntax.specs.Tokens.{Word, mark, key}
use Rattle.rc_syntax.specs.Tree as t
use Rattle.rc_syntax.specs.Grammar as g
use Rattle.rc_syntax.specs.Grammar.{Symbol, TreeOf, Placed, Part, word, node, Rule, BeginAt, Derives, itself, by, DeriveAll, done, then, Begins, inside, BeginAll, a_word, here, later, adds, reach, typed, field, global, local, joined, stmts_of}
use Rattle.rc_syntax.specs.reader.Todo.{build}
use Rattle.rc_syntax.specs.reader.Reading as r
use Rattle.rc_syntax.specs.reader.Reading.{first, tail}
use Rattle.rc_syntax.specs.reader.Steps.{Stack, frame, State, about, feed, opened, depth, reach_of}
use Rattle.rc_syntax.proofs.Sound.{outer, reached_outer}
use Rattle.rc_syntax.proofs.Fronts.{is}
use Rattle.rc_syntax.proofs.Along.{Along, on, same_first, begun_by, StartsAt, StartsOn, Begun, StartAll, s_word, s_name, s_here, s_later_word, s_later_name, s_later, Sinks, starts_along}
use Rattle.rc_syntax.proofs.Shapes.{Ends, MeetsAs, starts_shape, first_read}
use Rattle.rc_syntax.proofs.Tables as table
use Rattle.rc_syntax.proofs.Tables.{generic, untrue, quiet_level}
use Rattle.rc_syntax.proofs.Unaries as una
use Rattle.rc_syntax.proofs.Unaries.{n0}
use Rattle.rc_syntax.proofs.Levels as lev
use Rattle.rc_syntax.proofs.Levels.{LevelLead, StartLead, level_about, start_about}
use Rattle.rc_syntax.proofs.Declarators as dec
use Rattle.rc_syntax.proofs.Declarators.{StarsKnown, none, some, stars_met, NamedLead, NamedStart, field_top, dec_top, decs_top, named_about, named_start_about, enters_field, enters_dec, enters_decs, Light}
use Rattle.rc_syntax.proofs.Lists as list
use Rattle.rc_syntax.proofs.Items as item
use Rattle.rc_syntax.proofs.Meets.{shape, Known, name_given, c_int, c_char, c_unsigned, c_unsigned_int, type_given, ResultGiven, r_void, r_type, met, left_acts, meets}

pub some_tail : (xs ys : List Placed) → xs ++ ys ≡ [] → ys ≡ []
some_tail [] ys e = e
some_tail (x ∷ xs) ys e = absurd (cc)

mutual
  pub some_begin : {ws : List Placed} {s : Symbol} {d u : ℕ} → Begins ws s d u → ws ≡ [] → ⊥
  some_begin (inside r b) e = some_all b e

  some_all : {ws : List Placed} {ps : List Part} {d u : ℕ} → BeginAll ws ps d u → ws ≡ [] → ⊥
  some_all a_word e = cc
  some_all (here b) e = some_begin b e
  some_all (later {xs = xs} {ys = ys} d b) e = some_all b (some_tail xs ys e)

pub data NameBegun : List Placed → ℕ → ℕ → Type 0 where
  n_begun : {o : Spot} {y : List ℕ} → NameBegun (is (w.name y) o ∷ []) 0 0

pub data CastBegun : List Placed → ℕ → ℕ → Type 0 where
  b_int : {o : Spot} → CastBegun (is (key Int) o ∷ []) 0 0
  b_char : {o : Spot} → CastBegun (is (key Char) o ∷ []) 0 0
  b_unsigned : {o : Spot} → CastBegun (is (key Unsigned) o ∷ []) 0 0
  b_second : {o p : Spot} → CastBegun (is (key Unsigned) o ∷ is (key Int) p ∷ []) 0 0

abbrev pub InItem : List Placed → ℕ → ℕ → Type 0
InItem ws d u = (root : Symbol) (k : Stack root g.Item) → Sinks g.Item 0 k (about k) ws d u

pub data ResultBegun : List Placed → ℕ → ℕ → Type 0 where
  b_void : {o : Spot} → ResultBegun (is (key Void) o ∷ []) 0 0
  b_type : {ws : List Placed} {d u : ℕ} → StartsAt g.TypeName ws d u → InItem ws d u → ResultBegun ws d u

pub data StarBegun : ℕ → List Placed → ℕ → ℕ → Type 0 where
  b_star : {i : ℕ} {o : Spot} → StarBegun i (is (mark m.Star) o ∷ []) (i + 0) 0

abbrev pub StartsUnary : List Placed → ℕ → Type 0
StartsUnary ws d = (root : Symbol) (k : Stack root g.Unary) → (x : State root) × (feed (about k) ws ≡ Some x) × (depth x ≡ opened k + (1 + d)) × (reach_of x ≡ outer k (length ws) (length ws))

-- What is known of a part that begins, for what it may stand in.
abbrev pub KnownStart : (s : Symbol) → List Placed → ℕ → ℕ → Type 0
KnownStart (g.Level i) ws d u = StartsAt (g.Level i) ws d u × StartLead i ws d u × (reach (g.Level i) (length ws) u ≡ u)
KnownStart g.Unary ws d u = StartsAt g.Unary ws d u × (u ≡ length ws)
KnownStart g.FieldDec ws d u = StartsAt g.FieldDec ws d u × NamedStart g.FieldDec field_top ws d u
KnownStart g.Dec ws d u = StartsAt g.Dec ws d u × NamedStart g.Dec dec_top ws d u
KnownStart g.Decs ws d u = StartsAt g.Decs ws d u × NamedStart g.Decs decs_top ws d u
KnownStart g.Base ws d u = StartsAt g.Base ws d u × InItem ws d u
KnownStart g.TypeName ws d u = StartsAt g.TypeName ws d u × InItem ws d u
KnownStart g.Postfix ws d u = StartsUnary ws d
KnownStart g.Primary ws d u = StartsUnary ws d
KnownStart g.Stars ws d u = StartsOn g.Stars [] ws d u
KnownStart g.Body ws d u = StartsOn g.Body t.done ws d u
KnownStart g.Text ws d u = StartsOn g.Text [] ws d u
KnownStart (g.Star i) ws d u = StarBegun i ws d u
KnownStart g.Result ws d u = ResultBegun ws d u
KnownStart g.CastType ws d u = CastBegun ws d u
KnownStart g.Name ws d u = NameBegun ws d u
KnownStart s ws d u = StartsAt s ws d u

pub data BegunAll : List Placed → List Part → ℕ → ℕ → Type 0 where
  g_word : {y : Word} {o : Spot} {ps : List Part} → BegunAll (is y o ∷ []) (word y ∷ ps) 0 0
  g_here : {j : Symbol} {a : TreeOf j} {xs : List Placed} {ps : List Part} {d u : ℕ} → (xs ≡ [] → ⊥) → KnownStart j xs d u → BegunAll xs (node j a ∷ ps) d u
  g_later_word : {y : Word} {o : Spot} {ys : List Placed} {q : Part} {ps : List Part} {d u : ℕ} → BegunAll ys (q ∷ ps) d u → BegunAll (is y o ∷ ys) (word y ∷ q ∷ ps) d u
  g_later : {j : Symbol} {a : TreeOf j} (xs : List Placed) {ys : List Placed} {q : Part} {ps : List Part} {d u : ℕ} → Known j a xs → BegunAll ys (q ∷ ps) d u → BegunAll (xs ++ ys) (node j a ∷ q ∷ ps) d u

abbrev is_name : Symbol → Bool
is_name g.Name = true
is_name _ = false

begun_of : (s : Symbol) (ws : List Placed) (d u : ℕ) → is_name s ≡ false → KnownStart s ws d u → Begun s ws d u
begun_of (g.Level i) ws d u e x = x.0
begun_of g.Unary ws d u e x = x.0
begun_of g.FieldDec ws d u e x = x.0
begun_of g.Dec ws d u e x = x.0
begun_of g.Decs ws d u e x = x.0
begun_of g.Base ws d u e x = x.0
begun_of g.TypeName ws d u e x = x.0
begun_of g.Postfix ws d u e x = tt
begun_of g.Primary ws d u e x = tt
begun_of g.Text ws d u e x = tt
begun_of (g.Star i) ws d u e x = tt
begun_of g.Result ws d u e x = tt
begun_of g.CastType ws d u e x = tt
begun_of g.Name ws d u e x = absurd (untrue e)
begun_of s ws d u e x = x

here_all : (s : Symbol) (a : TreeOf s) (ws : List Placed) (ps : List Part) (d u : ℕ) → (ws ≡ [] → ⊥) → Begun s ws d u → StartAll ws (node s a ∷ ps) d u
here_all s a [] ps d u full b = absurd (full refl)
here_all s a (p ∷ xs) ps d u full b = s_here b

later_name : (o q : Spot) (y : List ℕ) (ys : List Placed) (p : Part) (ps : List Part) (d u : ℕ) → o ≡ q → StartAll ys (p ∷ ps) d u → StartAll (is (w.name y) o ∷ ys) (node g.Name (n0 q y) ∷ p ∷ ps) d u
later_name o q y ys p ps d u e rest = let P : Spot → Type 0 = λ v. StartAll (is (w.name y) o ∷ ys) (node g.Name (n0 v y) ∷ p ∷ ps) d u in subst P e (s_later_name rest)

to_start : {ws : List Placed} {ps : List Part} {d u : ℕ} → BegunAll ws ps d u → StartAll ws ps d u
to_start g_word = s_word
to_start (g_here {j = g.Name} full n_begun) = s_name
to_start (g_here {j = s} {a = a} {xs = xs} {ps = ps} {d = d} {u = u} full b) = here_all s a xs ps d u full (begun_of s xs d u refl b)
to_start (g_later_word rest) = s_later_word (to_start rest)
to_start (g_later {j = g.Name} _ {ys = ys} {q = p} {ps = ps} {d = d} {u = u} (name_given {o = o} {q = q} {y = y} e) rest) = later_name o q y ys p ps d u e (to_start rest)
to_start (g_later {j = s} {a = a} xs c rest) = s_later xs (met s a xs refl c) (to_start rest)

start_shape : {i : Spot} {s : Symbol} {a : TreeOf s} {ps : List Part} {ws : List Placed} {d u : ℕ} → generic s ≡ true → Rule i s a ps → BegunAll ws ps d u → StartsAt s ws (adds s + d) (reach s (length ws) u)
start_shape e rule all = starts_shape (shape e rule).2 (to_start all)

-- Symbol by symbol.
zero_more : (P : ℕ → Type 0) (d : ℕ) → P d → P (0 + d)
zero_more P d x = subst P (let e : d ≡ 0 + d = omega arith in e) x

text_starts : {at : Spot} {a : TreeOf g.Text} {ps : List Part} {ws : List Placed} {d u : ℕ} → Rule at g.Text a ps → BegunAll ws ps d u → StartsOn g.Text [] ws (0 + d) u
text_starts g.no_items x = elim x [ ]
text_starts g.items (g_here {xs = ws} {d = d} {u = u} full b) = zero_more (λ c. StartsOn g.Text [] ws c u) d b
text_starts (g.items {before = before} {is = js}) (g_later xs {d = d} {u = u} c (g_here {xs = ys} full b)) =
    list.list_starts g.Text g.Item [] before (λ js. build (before ++ js)) xs ys d u (refl, λ l v. refl) full c b (λ p e. tt) (list.text_goes before)

stars_starts : {at : Spot} {a : TreeOf g.Stars} {ps : List Part} {ws : List Placed} {d u : ℕ} → Rule at g.Stars a ps → BegunAll ws ps d u → StartsOn g.Stars [] ws (0 + d) u
stars_starts g.no_stars x = elim x [ ]
stars_starts g.plain_star (g_here {xs = ws} {d = d} {u = u} full b) = zero_more (λ c. StartsOn g.Stars [] ws c u) d b
stars_starts (g.plain_star {before = ns}) (g_later xs c (g_here full (b_star {o = o}))) = list.star_starts ns xs o (stars_met ns xs c)
stars_starts (g.noted_star note h) (g_here {xs = ws} {d = d} {u = u} full b) = zero_more (λ c. StartsOn g.Stars [] ws c u) d b
stars_starts (g.noted_star {before = ns} note h) (g_later xs c (g_here full (b_star {o = o}))) = list.star_starts ns xs o (stars_met ns xs c)
stars_starts (g.noted_star {before = ns} note {i = i} h) (g_later xs c (g_later zs e (g_word {o = q2}))) =
    let P : List Placed → Type 0 = λ l. StartsOn g.Stars [] (xs ++ (l ++ (is (key i) q2 ∷ []))) 0 0 in
    subst P (sym e.1) (list.note_starts ns note i xs e.0 q2 h (stars_met ns xs c))

body_starts : {at : Spot} {a : TreeOf g.Body} {ps : List Part} {ws : List Placed} {d u : ℕ} → Rule at g.Body a ps → BegunAll ws ps d u → StartsOn g.Body t.done ws (0 + d) u
body_starts g.no_stmts x = elim x [ ]
body_starts g.then_locals (g_here {xs = ws} {d = d} {u = u} full b) = zero_more (λ c. StartsOn g.Body t.done ws c u) d b
body_starts (g.then_locals {before = before}) (g_later xs {d = d} {u = u} c (g_here {xs = ys} full b)) =
    list.list_starts g.Body g.Locals t.done before (λ ls. build (joined before (stmts_of ls))) xs ys d u (refl, λ l v. refl) full c b list.locals_may (list.locals_go before)
body_starts g.then_stmt (g_here {xs = ws} {d = d} {u = u} full b) = zero_more (λ c. StartsOn g.Body t.done ws c u) d b
body_starts (g.then_stmt {before = before}) (g_later xs {d = d} {u = u} c (g_here {xs = ys} full b)) =
    list.list_starts g.Body g.Stmt t.done before (λ z. build (joined before (t.next z t.done))) xs ys d u (refl, λ l v. refl) full c b list.stmt_may (list.stmts_go before)

-- Unaries.
to_unary : (ws : List Placed) (d u : ℕ) → StartsAt g.Unary ws (1 + d) (length ws) → StartsUnary ws (0 + d)
to_unary ws d u x root k = let y = x root k in (y.0, y.1, y.2 ∙ omega arith, y.3)

unary_starts : {at : Spot} {a : t.Expr} {ps : List Part} {ws : List Placed} {d u : ℕ} → Rule at g.Unary a ps → BegunAll ws ps d u → StartsAt g.Unary ws (1 + d) (length ws)
unary_starts g.plain (g_here full b) = b
unary_starts (g.prefixed {op = op} {e = a}) all = starts_shape (una.prefixed op a) (to_start all)
unary_starts (g.a_cast {e = a}) (g_word {o = o}) = starts_shape (una.cast_int a) (s_word {o = o})
unary_starts (g.a_cast {e = a}) (g_later_word {o = o} (g_here full (b_int {o = p}))) = starts_shape (una.cast_int a) (s_later_word {o = o} (s_word {o = p}))
unary_starts (g.a_cast {e = a}) (g_later_word {o = o} (g_here full (b_char {o = p}))) = starts_shape (una.cast_char a) (s_later_word {o = o} (s_word {o = p}))
unary_starts (g.a_cast {e = a}) (g_later_word {o = o} (g_here full (b_unsigned {o = p}))) = starts_shape (una.cast_unsigned a) (s_later_word {o = o} (s_word {o = p}))
unary_starts (g.a_cast {e = a}) (g_later_word {o = o} (g_here full (b_second {o = p} {p = q}))) = starts_shape (una.cast_unsigned_int a) (s_later_word {o = o} (s_later_word {o = p} (s_word {o = q})))
unary_starts (g.a_cast {e = a}) (g_later_word {o = o} (g_later _ (c_int {o = p}) rest)) = starts_shape (una.cast_int a) (s_later_word {o = o} (s_later_word {o = p} (to_start rest)))
unary_starts (g.a_cast {e = a}) (g_later_word {o = o} (g_later _ (c_char {o = p}) rest)) = starts_shape (una.cast_char a) (s_later_word {o = o} (s_later_word {o = p} (to_start rest)))
unary_starts (g.a_cast {e = a}) (g_later_word {o = o} (g_later _ (c_unsigned {o = p}) rest)) = starts_shape (una.cast_unsigned a) (s_later_word {o = o} (s_later_word {o = p} (to_start rest)))
unary_starts (g.a_cast {e = a}) (g_later_word {o = o} (g_later _ (c_unsigned_int {o = p} {p = q}) rest)) = starts_shape (una.cast_unsigned_int a) (s_later_word {o = o} (s_later_word {o = p} (s_later_word {o = q} (to_start rest))))

cast_starts : {at : Spot} {a : TreeOf g.CastType} {ps : List Part} {ws : List Placed} {d u : ℕ} → Rule at g.CastType a ps → BegunAll ws ps d u → CastBegun ws (0 + d) u
cast_starts g.to_int g_word = b_int
cast_starts g.to_char g_word = b_char
cast_starts g.to_unsigned g_word = b_unsigned
cast_starts g.to_unsigned_int g_word = b_unsigned
cast_starts g.to_unsigned_int (g_later_word g_word) = b_second

up_unary : (ws : List Placed) (d : ℕ) → StartsUnary ws d → StartsUnary ws (0 + d)
up_unary ws d x = zero_more (λ c. StartsUnary ws c) d x

postfix_later : (a : t.Expr) (tree : Spot → t.Expr) (xs ys : List Placed) (ps : List Part) (d u : ℕ) → MeetsAs true g.Unary a xs → StartAll ys ps d u →
    ((o : Spot) → Along {s = g.Unary} o (tree o) (Ends true g.Unary (tree o)) (Ends true g.Unary a) (build a) ps) → StartsUnary (xs ++ ys) (0 + d)
postfix_later a tree xs ys ps d u left rest alongs root k =
    let x = left root k in
    let o = x.0 in
    let z = starts_along rest o (tree o) (Ends true g.Unary (tree o)) (Ends true g.Unary a) (build a) (length xs) k x.2.0 (alongs o) x.2.2 in
    (z.0, on (about k) x.2.0 xs ys (Some z.0) x.2.1 z.1, z.2 ∙ omega arith, z.3 ∙ ap (λ c. outer k c c) (sym (length-append xs ys)))

postfix_starts : {at : Spot} {a : t.Expr} {ps : List Part} {ws : List Placed} {d u : ℕ} → Rule at g.Postfix a ps → BegunAll ws ps d u → StartsUnary ws (0 + d)
postfix_starts g.bare (g_here {xs = ws} {d = d} full b) = up_unary ws d b
postfix_starts g.indexed (g_here {xs = ws} {d = d} full b) = up_unary ws d b
postfix_starts (g.indexed {a = a} {i = i}) (g_later xs {ys = ys} {d = d} {u = u} c rest) = postfix_later a (λ o. t.index o a i) xs ys _ d u c (to_start rest) (una.along_index a i)
postfix_starts g.a_member (g_here {xs = ws} {d = d} full b) = up_unary ws d b
postfix_starts (g.a_member {a = a} {x = x}) (g_later xs {ys = ys} {d = d} {u = u} c rest) = postfix_later a (λ o. t.member o a x) xs ys _ d u c (to_start rest) (una.along_member a x)
postfix_starts g.an_arrow (g_here {xs = ws} {d = d} full b) = up_unary ws d b
postfix_starts (g.an_arrow {a = a} {x = x}) (g_later xs {ys = ys} {d = d} {u = u} c rest) = postfix_later a (λ o. t.arrow o a x) xs ys _ d u c (to_start rest) (una.along_arrow a x)

primary_starts : {at : Spot} {a : t.Expr} {ps : List Part} {ws : List Placed} {d u : ℕ} → Rule at g.Primary a ps → BegunAll ws ps d u → StartsAt g.Unary ws (1 + d) (length ws)
primary_starts (g.a_number {i = i} {unsigned = v}) all = starts_shape (una.a_number i v) (to_start all)
primary_starts (g.a_character {i = i}) all = starts_shape (una.a_character i) (to_start all)
primary_starts (g.a_string {bytes = x}) all = starts_shape (una.a_string x) (to_start all)
primary_starts g.the_null all = starts_shape una.a_null (to_start all)
primary_starts g.the_eof all = starts_shape una.an_eof (to_start all)
primary_starts g.a_variable (g_here full (n_begun {o = o} {y = y})) = starts_shape (una.a_variable y) (s_word {o = o})
primary_starts g.calls (g_here full (n_begun {o = o} {y = y})) = starts_shape (una.a_variable y) (s_word {o = o})
primary_starts g.calls (g_later _ (name_given {o = o} {y = y} e) rest) = starts_shape (una.a_call y) (s_later_word {o = o} (to_start rest))
primary_starts g.calls_with (g_here full (n_begun {o = o} {y = y})) = starts_shape (una.a_variable y) (s_word {o = o})
primary_starts (g.calls_with {v = v}) (g_later _ (name_given {o = o} {y = y} e) rest) = starts_shape (una.a_call_with y v) (s_later_word {o = o} (to_start rest))
primary_starts (g.allocates {r = c} {ty = ty}) all = starts_shape (una.an_allocation c ty) (to_start all)
primary_starts (g.allocates_array {r = c} {i = i} {ty = ty}) all = starts_shape (una.an_array_allocation c i ty) (to_start all)
primary_starts (g.parentheses {e = a}) all = starts_shape (una.in_parentheses a) (to_start all)

-- Levels.
level_starts : {at : Spot} {i : ℕ} {a : t.Expr} {ps : List Part} {ws : List Placed} {d u : ℕ} → Rule at (g.Level i) a ps → BegunAll ws ps d u → StartLead i ws (0 + d) (reach (g.Level i) (length ws) u)
level_starts g.conditional (g_here {xs = ws} {d = d} {u = u} full b) = lev.start_up 0 1 ws d u (omega arith) b.1
level_starts (g.conditional {c = c} {a = a} {b = z}) (g_later xs {ys = ys} {d = d} {u = u} e rest) = lev.start_on 1 0 (omega arith) c (λ o. t.conditional o c a z) xs ys _ d u e.1 (to_start rest) (lev.conditional_along c a z)
level_starts (g.chain {i = i} h) (g_here {xs = ws} {d = d} {u = u} full b) = lev.start_up i i ws d u (omega arith) b.1
level_starts (g.chain {i = i} {op = op} {a = a} {b = c} h) (g_later xs {ys = ys} {d = d} {u = u} e rest) =
    let P : ℕ → Type 0 = λ j. LevelLead j a xs in
    let Q : ℕ → Type 0 = λ j. StartAll ys (g.sign (g.mark_of op) ∷ node (g.Level (j + 1)) c ∷ []) d u in
    let R : ℕ → Type 0 = λ j. StartLead j (xs ++ ys) (0 + d) (reach (g.Level j) (length (xs ++ ys)) u) in
    subst R h (lev.start_on (g.level_of op) (g.level_of op) (omega arith) a (λ o. t.binary o op a c) xs ys _ d u (subst P (sym h) e.1) (subst Q (sym h) (to_start rest)) (lev.chain_along op a c))
level_starts (g.up {i = i} h) (g_here {xs = ws} {d = d} {u = u} full b) = lev.start_up i (i + 1) ws d u (omega arith) b.1
level_starts g.operand (g_here {xs = ws} {d = d} {u = u} full b) = lev.unary_start 11 ws d u full b.0 b.1

-- Declarators.
field_starts : {at : Spot} {a : TreeOf g.FieldDec} {ps : List Part} {ws : List Placed} {d u : ℕ} → Rule at g.FieldDec a ps → (ws ≡ [] → ⊥) → BegunAll ws ps d u → NamedStart g.FieldDec field_top ws (0 + d) u
field_starts (g.a_field {ns = ns} {x = x}) full (g_here {xs = ws} {d = d} {u = u} f b) = zero_more (λ c. NamedStart g.FieldDec field_top ws c u) d (inl (full, (ns, x, here_all g.Stars ns ws _ d u full b)))
field_starts (g.a_field {ns = ns} {x = x}) full (g_later xs c (g_here f n_begun)) = inl (full, (ns, x, s_later xs (stars_met ns xs c) s_name))
field_starts (g.an_array {ns = ns} {x = x}) full (g_here {xs = ws} {d = d} {u = u} f b) = zero_more (λ c. NamedStart g.FieldDec field_top ws c u) d (inl (full, (ns, x, here_all g.Stars ns ws _ d u full b)))
field_starts (g.an_array {ns = ns} {x = x}) full (g_later xs c (g_here f n_begun)) = inl (full, (ns, x, s_later xs (stars_met ns xs c) s_name))
field_starts (g.an_array {ns = ns} {i = i} {unsigned = v}) full (g_later xs c (g_later _ {ys = ys} {d = d} {u = u} (name_given {o = o} {y = y} e) rest)) =
    dec.field_begin ns xs o y ys _ d u (λ o1. record { spot = o1; stars = ns; name = n0 o y; length = Some i }) c (to_start rest) (λ o1. dec.array_along ns i v (n0 o y) o1)

dec_starts : {at : Spot} {a : TreeOf g.Dec} {ps : List Part} {ws : List Placed} {d u : ℕ} → Rule at g.Dec a ps → BegunAll ws ps d u → NamedStart g.Dec dec_top ws (0 + d) u
dec_starts g.a_global (g_here {xs = ws} {d = d} {u = u} full b) = dec.named_start_here g.FieldDec g.Dec field_top r.initialised ws d u (refl, λ l v. refl) b.1
dec_starts g.an_initial (g_here {xs = ws} {d = d} {u = u} full b) = dec.named_start_here g.FieldDec g.Dec field_top r.initialised ws d u (refl, λ l v. refl) b.1
dec_starts (g.an_initial {d = c} {i = i}) (g_later xs {ys = ys} {d = d} {u = u} e rest) =
    dec.named_start_in g.FieldDec g.Dec field_top r.initialised c (record { declarator = c; constant = Some i }) xs ys _ d u (refl, λ l v. refl) e.1 (to_start rest) (dec.initial_along c i)

decs_starts : {at : Spot} {a : TreeOf g.Decs} {ps : List Part} {ws : List Placed} {d u : ℕ} → Rule at g.Decs a ps → BegunAll ws ps d u → NamedStart g.Decs decs_top ws (0 + d) u
decs_starts g.one_global (g_here {xs = ws} {d = d} {u = u} full b) = dec.named_start_here g.Dec g.Decs dec_top (λ d. build (d ∷ [])) ws d u (refl, λ l v. refl) b.1
decs_starts g.another_global (g_here {xs = ws} {d = d} {u = u} full b) = dec.named_start_up g.Decs decs_top ws d u b.1
decs_starts (g.another_global {before = before} {d = c}) (g_later xs {ys = ys} {d = d} {u = u} e rest) =
    dec.named_start_on g.Decs decs_top before (before ++ c ∷ []) xs ys _ d u (refl, λ l v. refl) e.1 (to_start rest) (dec.another_along before c)

local_starts : {at : Spot} {a : TreeOf g.LocalDec} {ps : List Part} {ws : List Placed} {d u : ℕ} → Rule at g.LocalDec a ps → (ws ≡ [] → ⊥) → BegunAll ws ps d u → StartsAt g.LocalDec ws (0 + d) u
local_starts (g.a_local {ns = ns} {x = x}) full (g_here {xs = ws} {d = d} {u = u} f b) = dec.local_inside ns x ws d u full (here_all g.Stars ns ws _ d u full b)
local_starts (g.a_local {ns = ns} {x = x}) full (g_later xs {ys = ys} {d = d} {u = u} c (g_here f n_begun)) = dec.local_inside ns x (xs ++ ys) d u full (s_later xs (stars_met ns xs c) s_name)
local_starts (g.a_local_with {ns = ns} {x = x}) full (g_here {xs = ws} {d = d} {u = u} f b) = dec.local_inside ns x ws d u full (here_all g.Stars ns ws _ d u full b)
local_starts (g.a_local_with {ns = ns} {x = x}) full (g_later xs {ys = ys} {d = d} {u = u} c (g_here f n_begun)) = dec.local_inside ns x (xs ++ ys) d u full (s_later xs (stars_met ns xs c) s_name)
local_starts (g.a_local_with {ns = ns} {e = v}) full (g_later xs c (g_later _ {ys = ys} {d = d} {u = u} (name_given {o = o} {y = y} e) rest)) =
    dec.local_begin ns xs o y ys _ d u (λ o1. record { spot = o1; stars = ns; name = n0 o y; initial = Some v }) c (to_start rest) (λ o1. dec.local_with_along ns v (n0 o y) o1)

-- Types and bases.
base_starts : {at : Spot} {a : TreeOf g.Base} {ps : List Part} {ws : List Placed} {d u : ℕ} → Rule at g.Base a ps → BegunAll ws ps d u → BeginAll ws ps d u → StartsAt g.Base ws (0 + d) u × InItem ws (0 + d) u
base_starts rule all b = (start_shape refl rule all, item.base_begins (inside rule b))

in_more : (ws : List Placed) (d u : ℕ) → InItem ws d u → InItem ws (0 + d) u
in_more ws d u x = zero_more (λ c. InItem ws c u) d x

type_starts : {at : Spot} {a : TreeOf g.TypeName} {ps : List Part} {ws : List Placed} {d u : ℕ} → Rule at g.TypeName a ps → BegunAll ws ps d u → StartsAt g.TypeName ws (0 + d) u × InItem ws (0 + d) u
type_starts {at = at} (g.a_type {base = a} {ns = ns}) (g_here {xs = ws} {d = d} {u = u} full b) = (start_shape {i = at} refl (g.a_type {base = a} {ns = ns}) (g_here full b), in_more ws d u b.1)
type_starts {at = at} (g.a_type {base = a} {ns = ns}) (g_later bs c (g_here {xs = ss} {d = d} {u = u} full b)) =
    (start_shape {i = at} refl (g.a_type {base = a} {ns = ns}) (g_later bs c (g_here full b)), in_more (bs ++ ss) d u (item.head_begins a bs ss ns (n0 at []) d u c.1 full (here_all g.Stars ns ss _ d u full b)))

result_starts : {at : Spot} {a : TreeOf g.Result} {ps : List Part} {ws : List Placed} {d u : ℕ} → Rule at g.Result a ps → BegunAll ws ps d u → ResultBegun ws (0 + d) u
result_starts g.a_void g_word = b_void
result_starts g.a_result (g_here {xs = ws} {d = d} {u = u} full b) = zero_more (λ c. ResultBegun ws c u) d (b_type b.0 b.1)

-- Items.
in_item : (ws : List Placed) (d u : ℕ) → InItem ws d u → StartsAt g.Item ws (0 + d) u
in_item ws d u x = item.item_starts ws d u x

in_words : (xs ys : List Placed) (d u : ℕ) → xs ≡ ys → InItem xs d u → InItem ys d u
in_words xs ys d u e x = let P : List Placed → Type 0 = λ l. InItem l d u in subst P e x

result_item : (x : names.Name) (ps : List t.Param) (end : g.FunctionEnding) (ws : List Placed) (d u : ℕ) → ResultBegun ws d u → StartsAt g.Item ws (0 + d) u
result_item x ps end _ _ _ (b_void {o = o}) = starts_shape (item.void_function x ps end) (s_word {o = o})
result_item x ps end ws d u (b_type b c) = in_item ws d u c

typed_item : {a : bases.Base} {ns : List notes.Note} (bs ss zs : List Placed) (x : names.Name) (ps : List t.Param) (end : g.FunctionEnding) (d u : ℕ) → item.ItemBase a bs → StarsKnown ns ss →
    BegunAll zs (node g.Name x ∷ g.sign m.OpenParenthesis ∷ node g.ParamsEnd ps ∷ node g.FunctionEnd end ∷ []) d u → InItem ((bs ++ ss) ++ zs) d u
typed_item {a = a} {ns = ns} bs ss _ x ps end d u base known (g_here full (n_begun {o = o} {y = y})) =
    let zs : List Placed = is (w.name y) o ∷ [] in
    in_words (bs ++ (ss ++ zs)) ((bs ++ ss) ++ zs) 0 0 (sym (append_assoc bs ss zs)) (item.head_begins a bs (ss ++ zs) ns x 0 0 base (dec.some_name ss o y) (s_later ss (stars_met ns ss known) s_name))
typed_item {a = a} {ns = ns} bs ss _ x ps end d u base known (g_later _ {ys = ys} (name_given {o = o} {q = q} {y = y} e) rest) =
    let zs : List Placed = is (w.name y) o ∷ ys in
    in_words (bs ++ (ss ++ zs)) ((bs ++ ss) ++ zs) d u (sym (append_assoc bs ss zs)) (item.function_begins a ns bs ss o y ys ps end d u base known (to_start rest))

later_item : (result : Option t.TypeName) (x : names.Name) (ps : List t.Param) (end : g.FunctionEnding) (xs ys : List Placed) (d u : ℕ) → ResultGiven result xs →
    BegunAll ys (node g.Name x ∷ g.sign m.OpenParenthesis ∷ node g.ParamsEnd ps ∷ node g.FunctionEnd end ∷ []) d u → StartsAt g.Item (xs ++ ys) (0 + d) u
later_item _ x ps end _ ys d u (r_void {o = o}) rest = starts_shape (item.void_function x ps end) (s_later_word {o = o} (to_start rest))
later_item _ x ps end _ ys d u (r_type (type_given bs ss base known dt)) rest = in_item ((bs ++ ss) ++ ys) d u (typed_item bs ss ys x ps end d u base known rest)

deleting_item : (x : names.Name) (ps : List t.Param) (end : g.FunctionEnding) (o : Spot) (ws : List Placed) (d u : ℕ) → (ws ≡ [] → ⊥) → ResultBegun ws d u → StartsAt g.Item (is (key Deletes) o ∷ ws) (0 + d) u
deleting_item x ps end o _ _ _ full (b_void {o = p}) = starts_shape (item.void_deleting x ps end) (s_later_word {o = o} (s_word {o = p}))
deleting_item x ps end o ws d u full (b_type e c) = starts_shape (item.typed_deleting (typed (b.Int o) []) x ps end) (s_later_word {o = o} (here_all g.TypeName (typed (b.Int o) []) ws _ d u full e))

later_deleting : (result : Option t.TypeName) (x : names.Name) (ps : List t.Param) (end : g.FunctionEnding) (o : Spot) (xs ys : List Placed) (d u : ℕ) → ResultGiven result xs →
    BegunAll ys (node g.Name x ∷ g.sign m.OpenParenthesis ∷ node g.ParamsEnd ps ∷ node g.FunctionEnd end ∷ []) d u → StartsAt g.Item (is (key Deletes) o ∷ (xs ++ ys)) (0 + d) u
later_deleting _ x ps end o _ ys d u (r_void {o = p}) rest = starts_shape (item.void_deleting x ps end) (s_later_word {o = o} (s_later_word {o = p} (to_start rest)))
later_deleting _ x ps end o xs ys d u (r_type {ty = ty} dt) rest = starts_shape (item.typed_deleting ty x ps end) (s_later_word {o = o} (s_later xs (met g.TypeName ty xs refl dt) (to_start rest)))

item_starts : {at : Spot} {a : TreeOf g.Item} {ps : List Part} {ws : List Placed} {d u : ℕ} → Rule at g.Item a ps → BegunAll ws ps d u → StartsAt g.Item ws (0 + d) u
item_starts (g.a_struct {x = x} {fs = fs}) all = starts_shape (table.the_struct x fs) (to_start all)
item_starts g.globals (g_here {xs = ws} {d = d} {u = u} full b) = in_item ws d u b.1
item_starts (g.globals {base = a}) (g_later bs c (g_here {xs = ws} {d = d} {u = u} full b)) = in_item (bs ++ ws) d u (item.decs_begin a bs ws d u c.1 b.1)
item_starts (g.globals {base = a} {ds = ds}) (g_later bs c (g_later dw {ys = ys} {d = d} {u = u} e rest)) = in_item (bs ++ (dw ++ ys)) d u (item.globals_begin a bs dw ys ds d u c.1 e.1 (to_start rest))
item_starts (g.a_function {x = x} {ps = ps} {end = end}) (g_here {xs = ws} {d = d} {u = u} full b) = result_item x ps end ws d u b
item_starts (g.a_function {result = result} {x = x} {ps = ps} {end = end}) (g_later xs {ys = ys} {d = d} {u = u} c rest) = later_item result x ps end xs ys d u c rest
item_starts (g.a_deleting {x = x} {ps = ps} {end = end}) (g_word {o = o}) = starts_shape (item.void_deleting x ps end) (s_word {o = o})
item_starts (g.a_deleting {x = x} {ps = ps} {end = end}) (g_later_word {o = o} (g_here {xs = ws} {d = d} {u = u} full b)) = deleting_item x ps end o ws d u full b
item_starts (g.a_deleting {result = result} {x = x} {ps = ps} {end = end}) (g_later_word {o = o} (g_later xs {ys = ys} {d = d} {u = u} c rest)) = later_deleting result x ps end o xs ys d u c rest

-- Simple statements.
evaluated_starts : (ws : List Placed) (d u : ℕ) → u ≡ length ws → StartLead 0 ws d u → StartsAt g.Simple ws (0 + d) u
evaluated_starts [] d u e (inl x) root k = absurd (x.0 refl)
evaluated_starts (p ∷ ps) d u e (inl x) root k =
    let F : Stack root g.Unary = frame p.spot 0 (r.left_side p.spot) k in
    let n = length (p ∷ ps) in
    let y = x.1 root F in
    let begins = begun_by F p ps y.0 y.1 in
    let many : 0 + n ≡ n = omega arith in
    (y.0, same_first (about k) (about F) p ps (table.begins_left p.spot p.word (table.unary_word p.spot p.word begins) root k) ∙ y.1, y.2 ∙ omega arith, y.3 ∙ reached_outer k (0 + n) n ∙ ap (λ c. outer k c n) many ∙ ap (outer k n) (sym e))
evaluated_starts ws d u e (inr lead) root k =
    let zs = lead.0 in
    let v = lead.2 in
    let x = first_read g.Unary v r.left_side k zs lead.4 (λ p e. table.begins_left p.spot p.word (table.unary_word p.spot p.word e) root k) in
    let o = x.0 in
    let F : Stack root (g.Level 0) = frame o 0 r.evaluated k in
    let n = length ws in
    let y = lead.5 root 0 (omega arith) F o (about k) x.2.0 x.1 x.2.1 (left_acts o v (length zs) k x.2.0 x.2.2) in
    let many : 0 + n ≡ n = omega arith in
    (y.0, y.1, y.2 ∙ omega arith, y.3 ∙ reached_outer k (0 + n) n ∙ ap (λ c. outer k c n) many ∙ ap (outer k n) (sym e))

simple_starts : {at : Spot} {a : TreeOf g.Simple} {ps : List Part} {ws : List Placed} {d u : ℕ} → Rule at g.Simple a ps → BegunAll ws ps d u → StartsAt g.Simple ws (0 + d) u
simple_starts g.evaluates (g_here {xs = ws} {d = d} {u = u} full b) = evaluated_starts ws d u (sym b.2) b.1
simple_starts (g.assigns {l = l} {r = c}) all = starts_shape (table.assigned l c) (to_start all)
simple_starts (g.updates {op = op} {i = x} {l = l} {r = c} h) all = starts_shape (table.updated op x l c h) (to_start all)
simple_starts (g.steps_after {op = op} {l = l}) all = starts_shape (table.after_left op l) (to_start all)
simple_starts (g.steps_before {op = op} {l = l}) all = starts_shape (table.stepped op l) (to_start all)

star_starts : {at : Spot} {i : ℕ} {a : Unit {0}} {ps : List Part} {ws : List Placed} {d u : ℕ} → Rule at (g.Star i) a ps → BegunAll ws ps d u → StarBegun i ws (i + d) u
star_starts g.a_star g_word = b_star

name_starts : {at : Spot} {a : TreeOf g.Name} {ps : List Part} {ws : List Placed} {d u : ℕ} → Rule at g.Name a ps → BegunAll ws ps d u → NameBegun ws (0 + d) u
name_starts g.a_name g_word = n_begun

field_flat : {root s : Symbol} (k : Stack root s) (n v : ℕ) → outer k (0 + n) v ≡ outer k n v
field_flat k n v = ap (λ c. outer k c v) (let e : 0 + n ≡ n = omega arith in e)

dec_flat : (root : Symbol) (o : Spot) (k : Stack root g.Dec) (n v : ℕ) → (opened (dec_top root o k) ≡ opened k) × (outer (dec_top root o k) (0 + n) v ≡ outer k n v)
dec_flat root o k n v = (omega arith, reached_outer k (0 + (0 + n)) v ∙ ap (λ c. outer k c v) (let e : 0 + (0 + n) ≡ n = omega arith in e))

decs_flat : (root : Symbol) (o : Spot) (k : Stack root g.Decs) (n v : ℕ) → (opened (decs_top root o k) ≡ opened k) × (outer (decs_top root o k) (0 + n) v ≡ outer k n v)
decs_flat root o k n v = (omega arith, reached_outer k (0 + (0 + (0 + n))) v ∙ ap (λ c. outer k c v) (let e : 0 + (0 + (0 + n)) ≡ n = omega arith in e))

start_known : (s : Symbol) {at : Spot} {a : TreeOf s} {ps : List Part} {ws : List Placed} {d u : ℕ} → Rule at s a ps → (ws ≡ [] → ⊥) → BegunAll ws ps d u → BeginAll ws ps d u → KnownStart s ws (adds s + d) (reach s (length ws) u)
start_known g.Text rule full all b = text_starts rule all
start_known g.Item rule full all b = item_starts rule all
start_known g.FieldDec {ws = ws} {d = d} {u = u} rule full all b = let x = field_starts rule full all in (named_start_about g.FieldDec field_top ws (0 + d) u enters_field (λ root o k n v. (refl, field_flat k n v)) x, x)
start_known g.Dec {ws = ws} {d = d} {u = u} rule full all b = let x = dec_starts rule all in (named_start_about g.Dec dec_top ws (0 + d) u enters_dec dec_flat x, x)
start_known g.Decs {ws = ws} {d = d} {u = u} rule full all b = let x = decs_starts rule all in (named_start_about g.Decs decs_top ws (0 + d) u enters_decs decs_flat x, x)
start_known g.Base rule full all b = base_starts rule all b
start_known g.Stars rule full all b = stars_starts rule all
start_known (g.Star i) rule full all b = star_starts rule all
start_known g.TypeName rule full all b = type_starts rule all
start_known g.Result rule full all b = result_starts rule all
start_known g.Body rule full all b = body_starts rule all
start_known g.LocalDec rule full all b = local_starts rule full all
start_known g.Simple rule full all b = simple_starts rule all
start_known (g.Level i) {ws = ws} {d = d} {u = u} rule full all b =
    let x = level_starts rule all in
    let e = lev.reach_again i (length ws) u in
    (start_about i ws (0 + d) (reach (g.Level i) (length ws) u) e x, x, e)
start_known g.Unary rule full all b = (unary_starts rule all, refl)
start_known g.CastType rule full all b = cast_starts rule all
start_known g.Postfix rule full all b = postfix_starts rule all
start_known g.Primary {ws = ws} {d = d} {u = u} rule full all b = to_unary ws d u (primary_starts rule all)
start_known g.Name rule full all b = name_starts rule all
start_known s rule full all b = start_shape refl rule all

mutual
  pub starts : {ws : List Placed} {s : Symbol} {d u : ℕ} → Begins ws s d u → KnownStart s ws d u
  starts (inside {s = s} rule b) = start_known s rule (some_all b) (starts_all b) b

  pub starts_all : {ws : List Placed} {ps : List Part} {d u : ℕ} → BeginAll ws ps d u → BegunAll ws ps d u
  starts_all a_word = g_word
  starts_all (here b) = g_here (some_begin b) (starts b)
  starts_all (later itself b) = g_later_word (starts_all b)
  starts_all (later {xs = xs} {p = node s a} d b) = g_later xs (meets d) (starts_all b)
