-- How items are read: a base, stars and a name, and then a function or globals.
use Rattle.std.proofs.Common.{ℕ, ◌≡◌, ◌≤◌, ◌+◌, ◌-◌, List, [], ◌∷◌, ◌++◌, append_assoc, length, length-append, map, Option, Some, None, true, false, refl, ap, sym, ◌∙◌, subst, arith, inl, inr}
use Rattle.rc_syntax.specs.declared.word.Key.TheVariants.{Char, Deletes, Int, Region, Struct, Unsigned, Void}
use Rattle.rc_syntax.specs.declared.word.Mark.TheVariants as m
use Rattle.rc_syntax.specs.declared.tree.Spot.{Spot}
use Rattle.rc_syntax.specs.declared.tree.Name as names
use Rattle.rc_syntax.specs.declared.tree.Note as notes
use Rattle.rc_syntax.specs.declared.tree.Base as bases
use Rattle.rc_syntax.specs.declared.tree.Base.TheVariants as b
use Rattle.rc_syntax.specs.Tokens as w
use Rattle.rc_syntax.specs.Tokens.{Word, mark, key}
use Rattle.rc_syntax.specs.Tree as t
use Rattle.rc_syntax.specs.Grammar as g
use Rattle.rc_syntax.specs.Grammar.{Symbol, TreeOf, Placed, Part, word, node, BeginAt, Rule, Derives, itself, by, done, then, Begins, inside, a_word, here, later, adds, reach, typed, global, GlobalDeclarator, FunctionEnding}
use Rattle.rc_syntax.specs.reader.Todo.{Todo, build, try, resume, read, sees, when, is_stop}
use Rattle.rc_syntax.specs.reader.Reading as r
use Rattle.rc_syntax.specs.reader.Reading.{first, tail}
use Rattle.rc_syntax.specs.reader.Steps as reader
use Rattle.rc_syntax.specs.reader.Steps.{Stack, frame, State, about, amid, taken, place, offer, give, closed, step, feed, finish, opened, depth, reached, reach_of}
use Rattle.rc_syntax.proofs.Sound.{Since, since_on, outer, reached_outer}
use Rattle.rc_syntax.proofs.Fronts.{is}
use Rattle.rc_syntax.proofs.Along.{comma, close, semicolon, a_name, separates, AfterBase, a_star, a_type, Acts, Leads, Any, Follows, Past, Meets, MeetAll, Along, along, leads_at, on, by_word, passes_on, acts_past, StartsAt, StartAll, Sinks, starts_along, sinks_more}
use Rattle.rc_syntax.proofs.Shapes.{Shape, with_word, skipped, same_at}
use Rattle.rc_syntax.proofs.Tables.{BaseWord, w_int, w_unsigned, w_char, w_region, w_struct, base_word}
use Rattle.rc_syntax.proofs.Unaries.{n0}
use Rattle.rc_syntax.proofs.Declarators.{StarsKnown, starred, name_at, starred_name, starred_sinks, sinks_same, starred_word, NamedLead, NamedStart, NotOpen, decs_top, since_first, some_name}

-- Functions whose result has no stars to be read before it is seen that they are functions.
begins_type : (o : Spot) (y : Word) → BaseWord y → (q : Spot) (root : Symbol) (n : ℕ) (k : Stack root g.Item) → step (amid o (r.item_deleting o) n k) (is y q) ≡ place (is y q) (first g.TypeName (is y q)) q 0 (frame o n (λ ty. r.function_named o true (Some ty)) k)
begins_type o _ w_int q root n k = refl
begins_type o _ w_unsigned q root n k = refl
begins_type o _ w_char q root n k = refl
begins_type o _ w_region q root n k = refl
begins_type o _ w_struct q root n k = refl

pub void_function : (x : names.Name) (ps : List t.Param) (end : FunctionEnding) → Shape false g.Item (λ o. t.function o end.deletes None x ps end.body ∷ []) (g.keyword Void ∷ node g.Name x ∷ g.sign m.OpenParenthesis ∷ node g.ParamsEnd ps ∷ node g.FunctionEnd end ∷ [])
void_function x ps end = with_word (λ o. r.function_named o false None) (λ o root k. refl) (λ o. (
  (λ x. read (sees r.is_open (r.function_params o false None x))),
  (λ q y. (tt, λ root n k. refl)),
  λ q. (tt, (_, λ root n k. refl, (_, (λ p e root n k. refl), (λ p e. tt), (_, (λ p e root n k. refl), (λ p e. (tt, λ o. refl)), (λ p f. ((tt, λ o. refl), λ root n k. refl), λ root n k. refl))))),
))

pub void_deleting : (x : names.Name) (ps : List t.Param) (end : FunctionEnding) → Shape false g.Item (λ o. t.function o true None x ps end.body ∷ []) (g.keyword Deletes ∷ g.keyword Void ∷ node g.Name x ∷ g.sign m.OpenParenthesis ∷ node g.ParamsEnd ps ∷ node g.FunctionEnd end ∷ [])
void_deleting x ps end = with_word (λ o. r.item_deleting o) (λ o root k. refl) (λ o. λ q. (
  tt,
  (
    r.function_named o true None,
    λ root n k. refl,
    (
      (λ x. read (sees r.is_open (r.function_params o true None x))),
      (λ q y. (tt, λ root n k. refl)),
      λ q. (tt, (_, λ root n k. refl, (_, (λ p e root n k. refl), (λ p e. tt), (_, (λ p e root n k. refl), (λ p e. (tt, λ o. refl)), (λ p f. ((tt, λ o. refl), λ root n k. refl), λ root n k. refl))))),
    ),
  ),
))

pub typed_deleting : (ty : t.TypeName) (x : names.Name) (ps : List t.Param) (end : FunctionEnding) → Shape false g.Item (λ o. t.function o true (Some ty) x ps end.body ∷ []) (g.keyword Deletes ∷ node g.TypeName ty ∷ node g.Name x ∷ g.sign m.OpenParenthesis ∷ node g.ParamsEnd ps ∷ node g.FunctionEnd end ∷ [])
typed_deleting ty x ps end = with_word (λ o. r.item_deleting o) (λ o root k. refl) (λ o. (
  (λ ty. r.function_named o true (Some ty)),
  (λ p e. begins_type o p.word (base_word p.spot p.word e) p.spot),
  (λ p e. tt),
  (
    (λ x. read (sees r.is_open (r.function_params o true (Some ty) x))),
    (λ q y. ((a_name, λ o. refl), λ root n k. refl)),
    λ q. (tt, (_, λ root n k. refl, (_, (λ p e root n k. refl), (λ p e. tt), (_, (λ p e root n k. refl), (λ p e. (tt, λ o. refl)), (λ p f. ((tt, λ o. refl), λ root n k. refl), λ root n k. refl))))),
  ),
))

-- The base of an item.
abbrev pub ItemBase : bases.Base → List Placed → Type 0
ItemBase a bs =
    (root : Symbol) (k : Stack root g.Item) → (o : Spot) × Since o bs × ((q : State root) × (feed (about k) bs ≡ Some q) × ((p : Placed) → AfterBase p.word → step q p ≡ step (amid o (r.item_based o a) (length bs) k) p))

base_along : (tree : Spot → bases.Base) (o i : Spot) (bs : List Placed) → o ≡ i → ItemBase (tree o) bs → ItemBase (tree i) bs
base_along tree o i bs e h = let P : Spot → Type 0 = λ u. ItemBase (tree u) bs in subst P e h

not_int : (td : Todo g.Base) (y : Word) → AfterBase y → is_stop (when (r.is_int y) td) ≡ true
not_int td _ a_star = refl
not_int td _ (a_type a_name) = refl
not_int td _ (a_type (separates comma)) = refl
not_int td _ (a_type (separates close)) = refl
not_int td _ (a_type (separates semicolon)) = refl

not_brace : (td : Todo g.Item) (y : Word) → AfterBase y → is_stop (when (r.is_open_brace y) td) ≡ true
not_brace td _ a_star = refl
not_brace td _ (a_type a_name) = refl
not_brace td _ (a_type (separates comma)) = refl
not_brace td _ (a_type (separates close)) = refl
not_brace td _ (a_type (separates semicolon)) = refl

one_base : (o : Spot) (y : Word) (a : bases.Base) → ((root : Symbol) (k : Stack root g.Item) → step (about k) (is y o) ≡ Some (amid {s = g.Base} o (build a) 1 (frame o 0 (r.item_based o) k))) → ItemBase a (is y o ∷ [])
one_base o y a e root k =
    let q = amid {s = g.Base} o (build a) 1 (frame o 0 (r.item_based o) k) in
    (o, refl, (q, by_word (about k) q (is y o) [] _ (e root k) refl, λ p f. passes_on g.Base o o a 1 0 (r.item_based o) k p refl))

pub item_base : {bs : List Placed} {a : bases.Base} → Derives bs (node g.Base a) → ItemBase a bs
item_base (by {at = at} e g.an_int (then (itself {at = o}) done)) = base_along (λ u. b.Int u) o at (is (key Int) o ∷ []) e (one_base o (key Int) (b.Int o) (λ root k. refl))
item_base (by {at = at} e g.a_char (then (itself {at = o}) done)) = base_along (λ u. b.Char u) o at (is (key Char) o ∷ []) e (one_base o (key Char) (b.Char o) (λ root k. refl))
item_base (by {at = at} e g.a_region (then (itself {at = o}) done)) = base_along (λ u. b.Region u) o at (is (key Region) o ∷ []) e (one_base o (key Region) (b.Region o) (λ root k. refl))
item_base (by {at = at} e g.an_unsigned (then (itself {at = o}) done)) = base_along (λ u. b.Unsigned u) o at (is (key Unsigned) o ∷ []) e (λ root k.
    let F : Stack root g.Base = frame o 0 (r.item_based o) k in
    let q = amid o (try (sees r.is_int (build (b.Unsigned o))) (build (b.Unsigned o))) 1 F in
    (o, refl, (q, by_word (about k) q (is (key Unsigned) o) [] _ refl refl, λ p f. skipped (sees r.is_int (build (b.Unsigned o))) (build (b.Unsigned o)) o 1 F p (not_int (build (b.Unsigned o)) p.word f) ∙ passes_on g.Base o o (b.Unsigned o) 1 0 (r.item_based o) k p refl)))
item_base (by {at = at} e g.an_unsigned_int (then (itself {at = o}) (then (itself {at = o2}) done))) = base_along (λ u. b.Unsigned u) o at (is (key Unsigned) o ∷ is (key Int) o2 ∷ []) e (λ root k.
    let F : Stack root g.Base = frame o 0 (r.item_based o) k in
    let q = amid o (build (b.Unsigned o)) 2 F in
    (o, refl, (q, refl, λ p f. passes_on g.Base o o (b.Unsigned o) 2 0 (r.item_based o) k p refl)))
item_base (by {at = at} e g.a_named_struct (then (itself {at = o}) (then (by {at = at2} e2 (g.a_name {bytes = x}) (then (itself {at = q0}) done)) done))) =
    let bs : List Placed = is (key Struct) o ∷ is (w.name x) q0 ∷ [] in
    let P : Spot → Type 0 = λ u. ItemBase (b.Struct at (n0 u x)) bs in
    subst P e2 (base_along (λ u. b.Struct u (n0 q0 x)) o at bs e (λ root k.
    let q = amid o (r.struct_named o (n0 q0 x)) 2 k in
    (o, refl, (q, refl, λ p f. skipped (sees r.is_open_brace (r.struct_fields o (n0 q0 x))) (r.item_based o (b.Struct o (n0 q0 x))) o 2 k p (not_brace (r.struct_fields o (n0 q0 x)) p.word f)))))

-- A beginning of it.
pub base_begins : {bs : List Placed} {d u : ℕ} → Begins bs g.Base d u → (root : Symbol) (k : Stack root g.Item) → Sinks g.Item 0 k (about k) bs d u
base_begins (inside g.an_int (a_word {at = o})) root k = (amid o (build (b.Int o)) 1 (frame o 0 (r.item_based o) k), refl, omega arith, reached_outer k 1 0)
base_begins (inside g.a_char (a_word {at = o})) root k = (amid o (build (b.Char o)) 1 (frame o 0 (r.item_based o) k), refl, omega arith, reached_outer k 1 0)
base_begins (inside g.a_region (a_word {at = o})) root k = (amid o (build (b.Region o)) 1 (frame o 0 (r.item_based o) k), refl, omega arith, reached_outer k 1 0)
base_begins (inside g.an_unsigned (a_word {at = o})) root k = (amid o (try (sees r.is_int (build (b.Unsigned o))) (build (b.Unsigned o))) 1 (frame o 0 (r.item_based o) k), refl, omega arith, reached_outer k 1 0)
base_begins (inside g.an_unsigned_int (a_word {at = o})) root k = (amid o (try (sees r.is_int (build (b.Unsigned o))) (build (b.Unsigned o))) 1 (frame o 0 (r.item_based o) k), refl, omega arith, reached_outer k 1 0)
base_begins (inside g.an_unsigned_int (later (itself {at = o}) (a_word {at = o2}))) root k = (amid o (build (b.Unsigned o)) 2 (frame o 0 (r.item_based o) k), refl, omega arith, reached_outer k 2 0)
base_begins (inside g.a_named_struct (a_word {at = o})) root k = (amid o (read (r.named (r.struct_named o))) 1 k, refl, omega arith, reached_outer k 1 0)
base_begins (inside g.a_named_struct (later (itself {at = o}) (here (inside (g.a_name {bytes = y}) (a_word {at = q0}))))) root k = (amid o (r.struct_named o (n0 q0 y)) 2 k, refl, omega arith, reached_outer k 2 0)

item_going : (o : Spot) (a : bases.Base) (i : ℕ) (own : Spot) (ns : List notes.Note) (x : names.Name) → is_stop (r.item_named o a i own ns x) ≡ false
item_going o a i own ns x = refl

based_same : (o own : Spot) (a : bases.Base) (root : Symbol) (n : ℕ) (k : Stack root g.Item) (p : Placed) → p.spot ≡ own → step (amid o (r.item_based o a) n k) p ≡ step (amid o (starred (r.item_named o a n own)) n k) p
based_same o own a root n k p e = let P : Spot → Type 0 = λ u. step (amid o (r.item_based o a) n k) p ≡ step (amid o (starred (r.item_named o a n u)) n k) p in subst P e refl

-- A function.
function_along : (a : bases.Base) (n : ℕ) (own : Spot) (ns : List notes.Note) (x : names.Name) (ps : List t.Param) (end : FunctionEnding) (o : Spot) → let f : TreeOf g.Item = t.function o end.deletes (Some (typed a ns)) x ps end.body ∷ [] in
    Along {s = g.Item} o f (Follows g.Item f) Any (r.item_named o a n own ns x) (g.sign m.OpenParenthesis ∷ node g.ParamsEnd ps ∷ node g.FunctionEnd end ∷ [])
function_along a n own ns x ps end o = λ q. (
  tt,
  (
    r.function_params o false (Some (typed a ns)) x,
    λ root n k. refl,
    (
      _,
      (λ p e root n k. refl),
      (λ p e. tt),
      (_, (λ p e root n k. refl), (λ p e. (tt, λ o. refl)), (λ p f. ((tt, λ o. refl), λ root n k. refl), λ root n k. refl)),
    ),
  ),
)

pub function_rule : (a : bases.Base) (ns : List notes.Note) (bs ss : List Placed) (q0 q1 : Spot) (x : List ℕ) (ys : List Placed) (ps : List t.Param) (end : FunctionEnding) (at : Spot) → ItemBase a bs → StarsKnown ns ss → q0 ≡ q1 →
    BeginAt at (bs ++ (ss ++ (is (w.name x) q0 ∷ ys))) → MeetAll ys (g.sign m.OpenParenthesis ∷ node g.ParamsEnd ps ∷ node g.FunctionEnd end ∷ []) →
    Meets g.Item (t.function at end.deletes (Some (typed a ns)) (n0 q1 x) ps end.body ∷ []) (bs ++ (ss ++ (is (w.name x) q0 ∷ ys)))
function_rule a ns bs ss q0 q1 x ys ps end at base known same begins rest =
    let P : Spot → Type 0 = λ u. Meets g.Item (t.function at end.deletes (Some (typed a ns)) (n0 u x) ps end.body ∷ []) (bs ++ (ss ++ (is (w.name x) q0 ∷ ys))) in
    subst P same (λ root k.
    let z = base root k in
    let o = z.0 in
    let xs = ss ++ name_at q0 x in
    let v = since_first (record { place = 0; line = 0 }) xs (some_name ss q0 x) in
    let own = v.0 in
    let n = length bs in
    let f = starred_name o n k (r.item_named o a n own) (item_going o a n own) ns ss known q0 x own z.2.0 v.1 (λ p y e. z.2.2 p y ∙ based_same o own a root n k p e) in
    let s1 = amid o (r.item_named o a n own ns (n0 q0 x)) (n + length xs) k in
    let tree : Spot → TreeOf g.Item = λ u. t.function u end.deletes (Some (typed a ns)) (n0 q0 x) ps end.body ∷ [] in
    let l = along rest o (tree o) (Follows g.Item (tree o)) Any (r.item_named o a n own ns (n0 q0 x)) (n + length xs) k s1 (function_along a n own ns (n0 q0 x) ps end o) (λ p f. refl, refl) in
    let ws = bs ++ (ss ++ (is (w.name x) q0 ∷ ys)) in
    let cut : ws ≡ bs ++ (xs ++ ys) = ap (λ l. bs ++ l) (sym (append_assoc ss (name_at q0 x) ys)) in
    let many : n + length xs + length ys ≡ length ws = (let h1 : length ws ≡ length (bs ++ (xs ++ ys)) = ap length cut in let h2 : length (bs ++ (xs ++ ys)) ≡ n + length (xs ++ ys) = length-append bs (xs ++ ys) in let h3 : length (xs ++ ys) ≡ length xs + length ys = length-append xs ys in omega arith) in
    let fed_all : feed (about k) (bs ++ (xs ++ ys)) ≡ Some l.0 = on (about k) z.2.0 bs (xs ++ ys) (Some l.0) z.2.1 (on z.2.0 s1 xs ys (Some l.0) f l.1) in
    let F : List Placed → Type 0 = λ u. feed (about k) u ≡ Some l.0 in
    let y = leads_at (Follows g.Item (tree o)) (about k) ws o (tree o) (n + length xs + length ys) (length ws) k many (l.0, subst F (sym cut) fed_all, l.2) in
    let at_same : o ≡ at = same_at o at bs (ss ++ (is (w.name x) q0 ∷ ys)) z.1 begins in
    let R : Spot → Type 0 = λ u. (i : Spot) × Since i ws × Leads (Follows g.Item (tree u)) (about k) ws (amid i (build (tree u)) (length ws) k) in
    let Q : Spot → Type 0 = λ u. Leads (Follows g.Item (tree u)) (about k) ws (amid u (build (tree u)) (length ws) k) in
    let S : Spot → Type 0 = λ u. Since u ws in
    (at, subst S at_same (since_on o bs (ss ++ (is (w.name x) q0 ∷ ys)) z.1), subst Q at_same y))

-- Globals are read as from their own declarators on.
pub resume_is : {root s : Symbol} (j : Symbol) (i own : Spot) (m n : ℕ) (h : TreeOf j → Todo s) (td : Todo j) (k : Stack root s) (p : Placed) → m ≤ n → step (amid i (resume own m j h td) n k) p ≡ step (amid own td (n - m) (frame i m h k)) p
resume_is {root = root} {s = s} j i own m n h td k p e =
    let G : ℕ → Option (State root) = λ x. offer p td own (n - m) (frame i m h k) (λ a. reader.first_of (place p (tail j own a p) own (n - m) (frame i m h k)) (offer p (h a) i x k (closed p i x k))) in
    let f : n ≡ m + (n - m) = omega arith in
    ap G f

abbrev pub globals_end : bases.Base → List GlobalDeclarator → Todo g.Item
globals_end a ds = read (sees r.is_semicolon (build (map (global a) ds)))

globals_at : {root : Symbol} (o own : Spot) (a : bases.Base) (n m : ℕ) (ns : List notes.Note) (x : names.Name) (k : Stack root g.Item) (p : Placed) → NotOpen p →
    step (amid o (r.item_named o a n own ns x) (n + m) k) p ≡ step (amid own (r.field_named own ns x) m (decs_top root own (frame o n (globals_end a) k))) p
globals_at {root = root} o own a n m ns x k p f =
    let G = globals_end a in
    let F1 : Stack root g.Decs = frame o n G k in
    let one : TreeOf g.Dec → Todo g.Decs = λ d. build (d ∷ []) in
    let td : Todo g.FieldDec = r.field_named own ns x in
    let inner : Todo g.Dec = resume own 0 g.FieldDec r.initialised td in
    let outer1 : Todo g.Decs = resume own 0 g.Dec one inner in
    let e1 = skipped (sees r.is_open (r.function_params o false (Some (typed a ns)) x)) (r.global_named a own n ns x) o (n + m) k p (ap (λ v. is_stop (when v (r.function_params o false (Some (typed a ns)) x))) f) in
    let e2 = resume_is g.Decs o own n (n + m) G outer1 k p (omega arith) in
    let s3 : n + m - n ≡ m = omega arith in
    let P : ℕ → Type 0 = λ c. step (amid own outer1 (n + m - n) F1) p ≡ step (amid own outer1 c F1) p in
    let e3 = subst P s3 refl in
    let e4 = resume_is g.Dec own own 0 m one inner F1 p (omega arith) in
    let s5 : m - 0 ≡ m = omega arith in
    let Q : ℕ → Type 0 = λ c. step (amid own inner (m - 0) (frame own 0 one F1)) p ≡ step (amid own inner c (frame own 0 one F1)) p in
    let e5 = subst Q s5 refl in
    let e6 = resume_is g.FieldDec own own 0 m r.initialised td (frame own 0 one F1) p (omega arith) in
    let R : ℕ → Type 0 = λ c. step (amid own td (m - 0) (frame own 0 r.initialised (frame own 0 one F1))) p ≡ step (amid own td c (frame own 0 r.initialised (frame own 0 one F1))) p in
    e1 ∙ e2 ∙ e3 ∙ e4 ∙ e5 ∙ e6 ∙ subst R s5 refl

-- The state behind the first name of globals, and how the declarators are read from it.
pub decs_read : (a : bases.Base) (bs ds_words : List Placed) (ds : List GlobalDeclarator) → ItemBase a bs → NamedLead g.Decs decs_top ds ds_words → (root : Symbol) (k : Stack root g.Item) →
    (o : Spot) × Since o bs × ((q : State root) × (feed (about k) (bs ++ ds_words) ≡ Some q) × Acts (Past g.Decs ds) (amid o (globals_end a ds) (length bs + length ds_words) k) q)
decs_read a bs dw ds base lead root k =
    let z = base root k in
    let o = z.0 in
    let xs = lead.0 ++ name_at lead.3 lead.4 in
    let v = since_first (record { place = 0; line = 0 }) xs (some_name lead.0 lead.3 lead.4) in
    let own = v.0 in
    let n = length bs in
    let f = starred_name o n k (r.item_named o a n own) (item_going o a n own) lead.2 lead.0 lead.6 lead.3 lead.4 own z.2.0 v.1 (λ p y e. z.2.2 p y ∙ based_same o own a root n k p e) in
    let s1 = amid o (r.item_named o a n own lead.2 (n0 lead.3 lead.4)) (n + length xs) k in
    let F1 : Stack root g.Decs = frame o n (globals_end a) k in
    let y = lead.7 root F1 own z.2.0 s1 v.1 f (λ p e. globals_at o own a n (length xs) lead.2 (n0 lead.3 lead.4) k p e, refl) in
    (o, z.1, (y.0, on (about k) z.2.0 bs dw (Some y.0) z.2.1 y.1, acts_past g.Decs ds own o (length dw) n (globals_end a) k y.0 y.2))

globals_along : (a : bases.Base) (ds : List GlobalDeclarator) (o : Spot) → Along {s = g.Item} o (map (global a) ds) (Follows g.Item (map (global a) ds)) (Past g.Decs ds) (globals_end a ds) (g.sign m.Semicolon ∷ [])
globals_along a ds o = λ q. ((semicolon, λ o. refl), (_, λ root n k. refl, (λ p f. (tt, λ root n k. refl), λ root n k. refl)))

pub globals_rule : (a : bases.Base) (bs dw ys : List Placed) (ds : List GlobalDeclarator) → ItemBase a bs → NamedLead g.Decs decs_top ds dw → MeetAll ys (g.sign m.Semicolon ∷ []) → Meets g.Item (map (global a) ds) (bs ++ (dw ++ ys))
globals_rule a bs dw ys ds base lead rest root k =
    let x = decs_read a bs dw ds base lead root k in
    let o = x.0 in
    let tree = map (global a) ds in
    let n = length bs + length dw in
    let z = along rest o tree (Follows g.Item tree) (Past g.Decs ds) (globals_end a ds) n k x.2.0 (globals_along a ds o) x.2.2 in
    let ws = bs ++ (dw ++ ys) in
    let cut : (bs ++ dw) ++ ys ≡ ws = append_assoc bs dw ys in
    let many : n + length ys ≡ length ws = (let h1 : length ws ≡ length bs + length (dw ++ ys) = length-append bs (dw ++ ys) in let h2 : length (dw ++ ys) ≡ length dw + length ys = length-append dw ys in omega arith) in
    let F : List Placed → Type 0 = λ u. feed (about k) u ≡ Some z.0 in
    (o, since_on o bs (dw ++ ys) x.1, leads_at (Follows g.Item tree) (about k) ws o tree (n + length ys) (length ws) k many (z.0, subst F cut (on (about k) x.2.0 (bs ++ dw) ys (Some z.0) x.2.1 z.1), z.2))

-- Beginnings.
pub item_starts : (ws : List Placed) (d u : ℕ) → ((root : Symbol) (k : Stack root g.Item) → Sinks g.Item 0 k (about k) ws d u) → StartsAt g.Item ws (0 + d) u
item_starts ws d u f root k = let x = f root k in (x.0, x.1, x.2, x.3 ∙ ap (λ l. outer k l u) (let h : 0 + length ws ≡ length ws = omega arith in h))

-- Behind the base, stars and a name begin,
pub head_begins : (a : bases.Base) (bs ws : List Placed) (ns : List notes.Note) (c : names.Name) (d u : ℕ) → ItemBase a bs → (ws ≡ [] → ⊥) → StartAll ws (node g.Stars ns ∷ node g.Name c ∷ []) d u → (root : Symbol) (k : Stack root g.Item) → Sinks g.Item 0 k (about k) (bs ++ ws) d u
head_begins a bs ws ns c d u base full x root k =
    let z = base root k in
    let o = z.0 in
    let v = since_first (record { place = 0; line = 0 }) ws full in
    let own = v.0 in
    let n = length bs in
    let q' = amid o (starred (r.item_named o a n own)) n k in
    let y = sinks_same g.Item n k z.2.0 q' ws d u full own v.1 (λ p y e. z.2.2 p y ∙ based_same o own a root n k p e) (λ p x e. starred_word o n k (r.item_named o a n own) p.spot p.word x e) (starred_sinks o n k (r.item_named o a n own) (item_going o a n own) ns c ws d u x) in
    let S : ℕ → Type 0 = λ c. Sinks g.Item c k z.2.0 ws d u in
    sinks_more g.Item 0 k (about k) z.2.0 bs ws d u z.2.1 (subst S (let h : n ≡ 0 + length bs = omega arith in h) y)

-- or a function behind them,
pub function_begins : (a : bases.Base) (ns : List notes.Note) (bs ss : List Placed) (q0 : Spot) (x : List ℕ) (ys : List Placed) (ps : List t.Param) (end : FunctionEnding) (d u : ℕ) → ItemBase a bs → StarsKnown ns ss →
    StartAll ys (g.sign m.OpenParenthesis ∷ node g.ParamsEnd ps ∷ node g.FunctionEnd end ∷ []) d u → (root : Symbol) (k : Stack root g.Item) → Sinks g.Item 0 k (about k) (bs ++ (ss ++ (is (w.name x) q0 ∷ ys))) d u
function_begins a ns bs ss q0 x ys ps end d u base known rest root k =
    let z = base root k in
    let o = z.0 in
    let xs = ss ++ name_at q0 x in
    let v = since_first (record { place = 0; line = 0 }) xs (some_name ss q0 x) in
    let own = v.0 in
    let n = length bs in
    let f = starred_name o n k (r.item_named o a n own) (item_going o a n own) ns ss known q0 x own z.2.0 v.1 (λ p y e. z.2.2 p y ∙ based_same o own a root n k p e) in
    let s1 = amid o (r.item_named o a n own ns (n0 q0 x)) (n + length xs) k in
    let tree : Spot → TreeOf g.Item = λ u. t.function u end.deletes (Some (typed a ns)) (n0 q0 x) ps end.body ∷ [] in
    let l = starts_along rest o (tree o) (Follows g.Item (tree o)) Any (r.item_named o a n own ns (n0 q0 x)) (n + length xs) k s1 (function_along a n own ns (n0 q0 x) ps end o) (λ p f. refl, refl) in
    let S : ℕ → Type 0 = λ c. Sinks g.Item c k s1 ys d u in
    let W : List Placed → Type 0 = λ ws. Sinks g.Item 0 k (about k) ws d u in
    subst W (ap (λ l. bs ++ l) (append_assoc ss (name_at q0 x) ys)) (sinks_more g.Item 0 k (about k) z.2.0 bs (xs ++ ys) d u z.2.1
    (let S2 : ℕ → Type 0 = λ c. Sinks g.Item c k z.2.0 (xs ++ ys) d u in subst S2 (let h : n ≡ 0 + length bs = omega arith in h) (sinks_more g.Item n k z.2.0 s1 xs ys d u f l)))

-- or globals.
pub decs_begin : (a : bases.Base) (bs ws : List Placed) (d u : ℕ) → ItemBase a bs → NamedStart g.Decs decs_top ws d u → (root : Symbol) (k : Stack root g.Item) → Sinks g.Item 0 k (about k) (bs ++ ws) d u
decs_begin a bs ws d u base (inl x) root k = head_begins a bs ws x.1.0 x.1.1 d u base x.0 x.1.2 root k
decs_begin a bs ws d u base (inr lead) root k =
    let z = base root k in
    let o = z.0 in
    let xs = lead.0 ++ name_at lead.3 lead.4 in
    let v = since_first (record { place = 0; line = 0 }) xs (some_name lead.0 lead.3 lead.4) in
    let own = v.0 in
    let n = length bs in
    let f = starred_name o n k (r.item_named o a n own) (item_going o a n own) lead.2 lead.0 lead.6 lead.3 lead.4 own z.2.0 v.1 (λ p y e. z.2.2 p y ∙ based_same o own a root n k p e) in
    let s1 = amid o (r.item_named o a n own lead.2 (n0 lead.3 lead.4)) (n + length xs) k in
    let y = lead.7 root (frame o n (globals_end a) k) own z.2.0 s1 v.1 f (λ p e. globals_at o own a n (length xs) lead.2 (n0 lead.3 lead.4) k p e, refl) in
    let many : n + length ws ≡ 0 + length (bs ++ ws) = (let h : length (bs ++ ws) ≡ n + length ws = length-append bs ws in omega arith) in
    (y.0, on (about k) z.2.0 bs ws (Some y.0) z.2.1 y.1, y.2 ∙ omega arith, y.3 ∙ reached_outer k (n + length ws) u ∙ ap (λ l. outer k l u) many)

pub globals_begin : (a : bases.Base) (bs dw ys : List Placed) (ds : List GlobalDeclarator) (d u : ℕ) → ItemBase a bs → NamedLead g.Decs decs_top ds dw → StartAll ys (g.sign m.Semicolon ∷ []) d u → (root : Symbol) (k : Stack root g.Item) → Sinks g.Item 0 k (about k) (bs ++ (dw ++ ys)) d u
globals_begin a bs dw ys ds d u base lead rest root k =
    let x = decs_read a bs dw ds base lead root k in
    let o = x.0 in
    let tree = map (global a) ds in
    let n = length bs + length dw in
    let z = starts_along rest o tree (Follows g.Item tree) (Past g.Decs ds) (globals_end a ds) n k x.2.0 (globals_along a ds o) x.2.2 in
    let W : List Placed → Type 0 = λ ws. Sinks g.Item 0 k (about k) ws d u in
    let S : ℕ → Type 0 = λ c. Sinks g.Item c k x.2.0 ys d u in
    subst W (append_assoc bs dw ys) (sinks_more g.Item 0 k (about k) x.2.0 (bs ++ dw) ys d u x.2.1 (subst S (let h : n ≡ 0 + length (bs ++ dw) = (let h1 : length (bs ++ dw) ≡ length bs + length dw = length-append bs dw in omega arith) in h) z))
