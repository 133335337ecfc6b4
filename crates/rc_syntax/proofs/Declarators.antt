-- How declarators of fields and globals are read: first stars and a name, wherever these are read, and then the rest.
use Rattle.std.proofs.Common.{ℕ, ◌≡◌, ◌+◌, List, [], ◌∷◌, ◌++◌, append_assoc, length, length-append, Option, Some, None, Bool, true, false, refl, ap, sym, ◌∙◌, subst, arith, ◌⊎◌, inl, inr}
use Rattle.rc_syntax.specs.declared.word.Mark.TheVariants as m
use Rattle.rc_syntax.specs.declared.tree.Spot.{Spot}
use Rattle.rc_syntax.specs.declared.tree.Name as names
use Rattle.rc_syntax.specs.declared.tree.Note as notes
use Rattle.rc_syntax.specs.declared.tree.Constant as constants
use Rattle.rc_syntax.specs.Tokens as w
use Rattle.rc_syntax.specs.Tokens.{Word, mark}
use Rattle.rc_syntax.specs.Tree as t
use Rattle.rc_syntax.specs.Grammar as g
use Rattle.rc_syntax.specs.Grammar.{Symbol, TreeOf, Placed, Part, word, node, BeginAt, adds, reach, FieldDeclarator, GlobalDeclarator, LocalDeclarator}
use Rattle.rc_syntax.specs.reader.Todo.{Todo, stop, build, try, enter, peek, begin, resume, read, sees, when, is_stop}
use Rattle.rc_syntax.specs.reader.Reading as r
use Rattle.rc_syntax.specs.reader.Reading.{first, tail}
use Rattle.rc_syntax.specs.reader.Steps as reader
use Rattle.rc_syntax.specs.reader.Steps.{Stack, frame, State, about, amid, taken, place, step, fed, feed, finish, opened, depth, reached, reach_of}
use Rattle.rc_syntax.proofs.Sound.{Since, since_on, outer, reached_outer}
use Rattle.rc_syntax.proofs.Fronts.{is}
use Rattle.rc_syntax.proofs.Along.{ends, Separates, comma, close, semicolon, a_name, AfterBase, a_star, a_type, AfterField, equal, separates_fields, Acts, Leads, Any, Follows, Past, Meets, MeetsOn, MeetAll, Along, along, leads_at, on, by_word, same_first, acts_past, begun_on, StartsAt, StartAll, s_name, s_here, s_later, Sinks, starts_along, sinks_on, sinks_more}
use Rattle.rc_syntax.proofs.Shapes.{same_at, skipped}
use Rattle.rc_syntax.proofs.Tables.{quiet_level}
use Rattle.rc_syntax.proofs.Unaries.{n0}

pub data StarsKnown : List notes.Note → List Placed → Type 0 where
  none : StarsKnown [] []
  some : {o : Spot} {rest : List Placed} {ns : List notes.Note} → MeetsOn g.Stars [] ns (is (mark m.Star) o ∷ rest) → StarsKnown ns (is (mark m.Star) o ∷ rest)

pub stars_met : (ns : List notes.Note) (ss : List Placed) → StarsKnown ns ss → MeetsOn g.Stars [] ns ss
stars_met ns ss none root k q f e = (q, refl, f, e)
stars_met ns ss (some d) root k q f e = d root k q f e

taken_is : {root s : Symbol} (td : Todo s) (i : Spot) (n : ℕ) (k : Stack root s) → is_stop td ≡ false → taken td i n k ≡ Some (amid i td (n + 1) k)
taken_is stop i n k e = absurd (cc)
taken_is (build a) i n k e = refl
taken_is (try f td) i n k e = refl
taken_is (enter j h) i n k e = refl
taken_is (peek f) i n k e = refl
taken_is (begin j a h) i n k e = refl
taken_is (resume o m j h td) i n k e = refl

abbrev pub starred : {s : Symbol} → (List notes.Note → names.Name → Todo s) → Todo s
starred H = begin g.Stars [] (λ ns. read (r.named (H ns)))

abbrev pub name_at : Spot → List ℕ → List Placed
name_at q x = is (w.name x) q ∷ []

named_step : {root s : Symbol} (i : Spot) (n : ℕ) (k : Stack root s) (H : names.Name → Todo s) (q : Spot) (x : List ℕ) → is_stop (H (n0 q x)) ≡ false → step (amid i (read (r.named H)) n k) (is (w.name x) q) ≡ Some (amid i (H (n0 q x)) (n + 1) k)
named_step i n k H q x e = ap (λ u. reader.first_of u None) (taken_is (H (n0 q x)) i n k e)

-- Stars and a name are read from a state that is so for their first word.
pub starred_name : {root s : Symbol} (i : Spot) (n : ℕ) (k : Stack root s) (H : List notes.Note → names.Name → Todo s) → ((ns : List notes.Note) (x : names.Name) → is_stop (H ns x) ≡ false) →
    (ns : List notes.Note) (ss : List Placed) → StarsKnown ns ss → (q0 : Spot) (x : List ℕ) (o : Spot) (q : State root) → Since o (ss ++ name_at q0 x) → ((p : Placed) → AfterBase p.word → p.spot ≡ o → step q p ≡ step (amid i (starred H) n k) p) →
    feed q (ss ++ name_at q0 x) ≡ Some (amid i (H ns (n0 q0 x)) (n + length (ss ++ name_at q0 x)) k)
starred_name i n k H going ns ss none q0 x o q since same =
    by_word q (amid i (H [] (n0 q0 x)) (n + 1) k) (is (w.name x) q0) [] _ (same (is (w.name x) q0) (a_type a_name) since ∙ named_step i n k (H []) q0 x (going [] (n0 q0 x))) refl
starred_name i n k H going ns ss (some {o = o1} {rest = rest} d) q0 x o q since same =
    let star : Placed = is (mark m.Star) o1 in
    let s0 = amid i (starred H) n k in
    let z = begun_on g.Stars [] ns i (starred H) Any n (λ ns. read (r.named (H ns))) k s0 (star ∷ rest) d refl (λ p f. tt) (λ p f. refl, refl) in
    let e : feed q (star ∷ rest) ≡ Some z.0 = same_first q s0 star rest (same star a_star since) ∙ z.1 in
    let l = length (star ∷ rest) in
    let N = length ((star ∷ rest) ++ name_at q0 x) in
    let y : step z.0 (is (w.name x) q0) ≡ Some (amid i (H ns (n0 q0 x)) (n + l + 1) k) = z.2.0 (is (w.name x) q0) (a_type a_name, λ o. refl) ∙ named_step i (n + l) k (H ns) q0 x (going ns (n0 q0 x)) in
    let many : n + l + 1 ≡ n + N = (let h : N ≡ l + 1 = length-append (star ∷ rest) (name_at q0 x) in omega arith) in
    on q z.0 (star ∷ rest) (name_at q0 x) _ e (by_word z.0 (amid i (H ns (n0 q0 x)) (n + l + 1) k) (is (w.name x) q0) [] _ y (ap (λ u. Some (amid i (H ns (n0 q0 x)) u k)) many))

-- A beginning of them likewise.
pub starred_sinks : {root s : Symbol} (i : Spot) (n : ℕ) (k : Stack root s) (H : List notes.Note → names.Name → Todo s) → ((ns : List notes.Note) (x : names.Name) → is_stop (H ns x) ≡ false) →
    (ns : List notes.Note) (c : names.Name) (ws : List Placed) (d u : ℕ) → StartAll ws (node g.Stars ns ∷ node g.Name c ∷ []) d u → Sinks s n k (amid i (starred H) n k) ws d u
starred_sinks i n k H going ns c ws d u (s_here {p = p} {xs = xs} b) = sinks_on g.Stars [] i (starred H) Any n (λ ns. read (r.named (H ns))) k (amid i (starred H) n k) (p ∷ xs) d u b refl (λ p f. tt) (λ p f. refl, refl)
starred_sinks {s = s} i n k H going ns c ws d u (s_later xs e (s_name {o = q0} {y = x})) =
    let z = begun_on g.Stars [] ns i (starred H) Any n (λ ns. read (r.named (H ns))) k (amid i (starred H) n k) xs e refl (λ p f. tt) (λ p f. refl, refl) in
    let y = amid i (H ns (n0 q0 x)) (n + length xs + 1) k in
    sinks_more s n k (amid i (starred H) n k) z.0 xs (name_at q0 x) 0 0 z.1
    (y, by_word z.0 y (is (w.name x) q0) [] _ (z.2.0 (is (w.name x) q0) (a_type a_name, λ o. refl) ∙ named_step i (n + length xs) k (H ns) q0 x (going ns (n0 q0 x))) refl, omega arith, reached_outer k (n + length xs + 1) 0)
starred_sinks i n k H going ns c ws d u (s_later xs e (s_here b)) = absurd b

first_step : {root : Symbol} (z : State root) (p : Placed) (ps : List Placed) (x : State root) → feed z (p ∷ ps) ≡ Some x → (y : State root) × (step z p ≡ Some y)
first_step z p ps x e = go (step z p) refl e
  where
    go : (o : Option (State _)) → step z p ≡ o → fed (λ r. feed r ps) o ≡ Some x → (y : State _) × (step z p ≡ Some y)
    go None h f = absurd (cc)
    go (Some y) h f = (y, h)

none_some : {A : Type 0} {a : A} → None ≡ Some a → ⊥
none_some e = cc

pub starred_word : {root s : Symbol} (i : Spot) (n : ℕ) (k : Stack root s) (H : List notes.Note → names.Name → Todo s) (o : Spot) (y : Word) (x : State root) → step (amid i (starred H) n k) (is y o) ≡ Some x → AfterBase y
starred_word i n k H o (mark m.Star) x e = a_star
starred_word i n k H o (w.name z) x e = a_type a_name
starred_word i n k H o y x e = absurd (none_some e)

pub sinks_same : {root : Symbol} (s : Symbol) (n : ℕ) (k : Stack root s) (q z : State root) (ws : List Placed) (d u : ℕ) → (ws ≡ [] → ⊥) → (o : Spot) → Since o ws → ((p : Placed) → AfterBase p.word → p.spot ≡ o → step q p ≡ step z p) → ((p : Placed) (x : State root) → step z p ≡ Some x → AfterBase p.word) → Sinks s n k z ws d u → Sinks s n k q ws d u
sinks_same s n k q z [] d u full o since same can x = absurd (full refl)
sinks_same s n k q z (p ∷ ps) d u full o since same can x =
    let y = first_step z p ps x.0 x.1 in
    (x.0, same_first q z p ps (same p (can p y.0 y.1) since) ∙ x.1, x.2, x.3)

-- The frames in which the declarator of a field is read.
abbrev pub Top : Symbol → Type 0
Top s = (root : Symbol) → Spot → Stack root s → Stack root g.FieldDec

abbrev pub NotOpen : Placed → Type 0
NotOpen p = r.is_open p.word ≡ false

-- Where stars and a name have been read as of such a declarator, the rest of the words is read.
abbrev pub NamedLead : (s : Symbol) → Top s → TreeOf s → List Placed → Type 0
NamedLead s top a ws =
    (ss : List Placed) × (vs : List Placed) × (ns : List notes.Note) × (q0 : Spot) × (x : List ℕ) × (ws ≡ (ss ++ name_at q0 x) ++ vs) × StarsKnown ns ss ×
    ((root : Symbol) (k : Stack root s) (o : Spot) (q r0 : State root) → Since o (ss ++ name_at q0 x) → feed q (ss ++ name_at q0 x) ≡ Some r0 →
    Acts NotOpen (amid o (r.field_named o ns (n0 q0 x)) (length (ss ++ name_at q0 x)) (top root o k)) r0 → Leads (Follows s a) q ws (amid o (build a) (length ws) k))

abbrev pub field_top : Top g.FieldDec
field_top root o k = k

abbrev pub in_top : {j s : Symbol} → (TreeOf j → Todo s) → Top j → Top s
in_top h top root o k = top root o (frame o 0 h k)

pub field_lead : (ns : List notes.Note) (ss : List Placed) (q0 : Spot) (x : List ℕ) (tree : Spot → FieldDeclarator) (at : Spot) (ys : List Placed) (ps : List Part) → StarsKnown ns ss → BeginAt at ((ss ++ name_at q0 x) ++ ys) → MeetAll ys ps →
    ((o : Spot) → Along {s = g.FieldDec} o (tree o) (Follows g.FieldDec (tree o)) NotOpen (r.field_named o ns (n0 q0 x)) ps) → NamedLead g.FieldDec field_top (tree at) ((ss ++ name_at q0 x) ++ ys)
field_lead ns ss q0 x tree at ys ps known b rest alongs = (
  ss,
  ys,
  ns,
  q0,
  x,
  refl,
  known,
  λ root k o q r0 since f acts.
      let xs = ss ++ name_at q0 x in
      let z = along rest o (tree o) (Follows g.FieldDec (tree o)) NotOpen (r.field_named o ns (n0 q0 x)) (length xs) k r0 (alongs o) acts in
      let same : o ≡ at = same_at o at xs ys since b in
      let P : Spot → Type 0 = λ u. Leads (Follows g.FieldDec (tree u)) q (xs ++ ys) (amid o (build (tree u)) (length (xs ++ ys)) k) in
      subst P same (leads_at (Follows g.FieldDec (tree o)) q (xs ++ ys) o (tree o) (length xs + length ys) (length (xs ++ ys)) k (sym (length-append xs ys)) (z.0, on q r0 xs ys (Some z.0) f z.1, z.2)),
)

pub since_along : (o : Spot) (xs ys zs : List Placed) → ys ≡ xs ++ zs → Since o xs → Since o ys
since_along o xs ys zs e h = let P : List Placed → Type 0 = λ l. Since o l in subst P (sym e) (since_on o xs zs h)

-- In another symbol, and behind itself.
pub named_in : (j s : Symbol) (top : Top j) (h : TreeOf j → Todo s) (c : TreeOf j) (a : TreeOf s) (xs ys : List Placed) (ps : List Part) → NamedLead j top c xs → MeetAll ys ps → ((o : Spot) → Along {s = s} o a (Follows s a) (Past j c) (h c) ps) → NamedLead s (in_top h top) a (xs ++ ys)
named_in j s top h c a xs ys ps lead rest alongs = (
  lead.0,
  lead.1 ++ ys,
  lead.2,
  lead.3,
  lead.4,
  ap (λ l. l ++ ys) lead.5 ∙ append_assoc (lead.0 ++ name_at lead.3 lead.4) lead.1 ys,
  lead.6,
  λ root k o q r0 since f acts.
      let x = lead.7 root (frame o 0 h k) o q r0 since f acts in
      let z = along rest o a (Follows s a) (Past j c) (h c) (0 + length xs) k x.0 (alongs o) (acts_past j c o o (length xs) 0 h k x.0 x.2) in
      leads_at (Follows s a) q (xs ++ ys) o a (0 + length xs + length ys) (length (xs ++ ys)) k (let e : length (xs ++ ys) ≡ length xs + length ys = length-append xs ys in omega arith) (z.0, on q x.0 xs ys (Some z.0) x.1 z.1, z.2),
)

pub named_on : (s : Symbol) (top : Top s) (before a : TreeOf s) (xs ys : List Placed) (ps : List Part) → NamedLead s top before xs → MeetAll ys ps → ((o : Spot) → Along {s = s} o a (Follows s a) (Follows s before) (build before) ps) → NamedLead s top a (xs ++ ys)
named_on s top before a xs ys ps lead rest alongs = (
  lead.0,
  lead.1 ++ ys,
  lead.2,
  lead.3,
  lead.4,
  ap (λ l. l ++ ys) lead.5 ∙ append_assoc (lead.0 ++ name_at lead.3 lead.4) lead.1 ys,
  lead.6,
  λ root k o q r0 since f acts.
      let x = lead.7 root k o q r0 since f acts in
      let z = along rest o a (Follows s a) (Follows s before) (build before) (length xs) k x.0 (alongs o) x.2 in
      leads_at (Follows s a) q (xs ++ ys) o a (length xs + length ys) (length (xs ++ ys)) k (sym (length-append xs ys)) (z.0, on q x.0 xs ys (Some z.0) x.1 z.1, z.2),
)

field_going : (o : Spot) (ns : List notes.Note) (x : names.Name) → is_stop (r.field_named o ns x) ≡ false
field_going o ns x = refl

abbrev pub EntersTop : (s : Symbol) → Top s → Type 0
EntersTop s top = (p : Placed) (root : Symbol) (k : Stack root s) → step (about k) p ≡ step (amid p.spot (starred (r.field_named p.spot)) 0 (top root p.spot k)) p

pub since_first : (o : Spot) (ws : List Placed) → (ws ≡ [] → ⊥) → (q : Spot) × Since q ws
since_first o [] h = absurd (h refl)
since_first o (p ∷ ps) h = (p.spot, refl)

pub some_name : (ss : List Placed) (q0 : Spot) (x : List ℕ) → ss ++ name_at q0 x ≡ [] → ⊥
some_name [] q0 x e = cc
some_name (p ∷ ps) q0 x e = cc

top_same : (s : Symbol) (top : Top s) → EntersTop s top → (o : Spot) (root : Symbol) (k : Stack root s) (p : Placed) → p.spot ≡ o → step (about k) p ≡ step (amid o (starred (r.field_named o)) 0 (top root o k)) p
top_same s top enters o root k p e = let P : Spot → Type 0 = λ u. step (about k) p ≡ step (amid u (starred (r.field_named u)) 0 (top root u k)) p in subst P e (enters p root k)

pub named_about : (s : Symbol) (top : Top s) (a : TreeOf s) (ws : List Placed) → EntersTop s top → NamedLead s top a ws → Meets s a ws
named_about s top a ws enters lead root k =
    let xs = lead.0 ++ name_at lead.3 lead.4 in
    let y = since_first (record { place = 0; line = 0 }) xs (some_name lead.0 lead.3 lead.4) in
    let o = y.0 in
    let T = top root o k in
    let e = starred_name o 0 T (r.field_named o) (field_going o) lead.2 lead.0 lead.6 lead.3 lead.4 o (about k) y.1 (λ p f e. top_same s top enters o root k p e) in
    let P : ℕ → Type 0 = λ n. Acts NotOpen (amid o (r.field_named o lead.2 (n0 lead.3 lead.4)) n T) (amid o (r.field_named o lead.2 (n0 lead.3 lead.4)) (0 + length xs) T) in
    let z = lead.7 root k o (about k) (amid o (r.field_named o lead.2 (n0 lead.3 lead.4)) (0 + length xs) T) y.1 e (subst P (let h : 0 + length xs ≡ length xs = omega arith in h) (λ p f. refl, refl)) in
    (o, since_along o xs ws lead.1 lead.5 y.1, z)

-- Beginnings: inside of the stars and the name, or beyond.
abbrev pub NamedStart : (s : Symbol) → Top s → List Placed → ℕ → ℕ → Type 0
NamedStart s top ws d u =
    ((ws ≡ [] → ⊥) × ((ns : List notes.Note) × (c : names.Name) × StartAll ws (node g.Stars ns ∷ node g.Name c ∷ []) d u)) ⊎
    ((ss : List Placed) × (vs : List Placed) × (ns : List notes.Note) × (q0 : Spot) × (x : List ℕ) × (ws ≡ (ss ++ name_at q0 x) ++ vs) × StarsKnown ns ss ×
    ((root : Symbol) (k : Stack root s) (o : Spot) (q r0 : State root) → Since o (ss ++ name_at q0 x) → feed q (ss ++ name_at q0 x) ≡ Some r0 →
    Acts NotOpen (amid o (r.field_named o ns (n0 q0 x)) (length (ss ++ name_at q0 x)) (top root o k)) r0 →
    (z : State root) × (feed q ws ≡ Some z) × (depth z ≡ opened k + d) × (reach_of z ≡ outer k (length ws) u)))

-- A symbol that adds nothing.
abbrev pub Light : Symbol → Type 0
Light s = (adds s ≡ 0) × ((l u : ℕ) → reach s l u ≡ u)

pub field_start : (ns : List notes.Note) (ss : List Placed) (q0 : Spot) (x : List ℕ) (tree : Spot → FieldDeclarator) (ys : List Placed) (ps : List Part) (d u : ℕ) → StarsKnown ns ss → StartAll ys ps d u →
    ((o : Spot) → Along {s = g.FieldDec} o (tree o) (Follows g.FieldDec (tree o)) NotOpen (r.field_named o ns (n0 q0 x)) ps) → NamedStart g.FieldDec field_top ((ss ++ name_at q0 x) ++ ys) (0 + d) u
field_start ns ss q0 x tree ys ps d u known rest alongs = inr (
  ss,
  ys,
  ns,
  q0,
  x,
  refl,
  known,
  λ root k o q r0 since f acts.
      let xs = ss ++ name_at q0 x in
      let z = starts_along rest o (tree o) (Follows g.FieldDec (tree o)) NotOpen (r.field_named o ns (n0 q0 x)) (length xs) k r0 (alongs o) acts in
      (z.0, on q r0 xs ys (Some z.0) f z.1, z.2, z.3 ∙ ap (λ n. outer k n u) (sym (length-append xs ys))),
)

pub named_start_here : (j s : Symbol) (top : Top j) (h : TreeOf j → Todo s) (ws : List Placed) (d u : ℕ) → Light s → NamedStart j top ws d u → NamedStart s (in_top h top) ws (0 + d) u
named_start_here j s top h ws d u light (inl x) = let P : ℕ → Type 0 = λ n. StartAll ws (node g.Stars x.1.0 ∷ node g.Name x.1.1 ∷ []) n u in inl (x.0, (x.1.0, x.1.1, subst P (let e : d ≡ 0 + d = omega arith in e) x.1.2))
named_start_here j s top h ws d u light (inr lead) = inr (
  lead.0,
  lead.1,
  lead.2,
  lead.3,
  lead.4,
  lead.5,
  lead.6,
  λ root k o q r0 since f acts.
      let x = lead.7 root (frame o 0 h k) o q r0 since f acts in
      let many : 0 + length ws ≡ length ws = omega arith in
      (x.0, x.1, x.2 ∙ omega (arith, light.0), x.3 ∙ reached_outer k (0 + length ws) u ∙ ap (outer k (0 + length ws)) (light.1 (0 + length ws) u) ∙ ap (λ n. outer k n u) many),
)

pub named_start_up : (s : Symbol) (top : Top s) (ws : List Placed) (d u : ℕ) → NamedStart s top ws d u → NamedStart s top ws (0 + d) u
named_start_up s top ws d u x = let P : ℕ → Type 0 = λ n. NamedStart s top ws n u in subst P (let e : d ≡ 0 + d = omega arith in e) x

pub named_start_in : (j s : Symbol) (top : Top j) (h : TreeOf j → Todo s) (c : TreeOf j) (a : TreeOf s) (xs ys : List Placed) (ps : List Part) (d u : ℕ) → Light s → NamedLead j top c xs → StartAll ys ps d u →
    ((o : Spot) → Along {s = s} o a (Follows s a) (Past j c) (h c) ps) → NamedStart s (in_top h top) (xs ++ ys) (0 + d) u
named_start_in j s top h c a xs ys ps d u light lead rest alongs = inr (
  lead.0,
  lead.1 ++ ys,
  lead.2,
  lead.3,
  lead.4,
  ap (λ l. l ++ ys) lead.5 ∙ append_assoc (lead.0 ++ name_at lead.3 lead.4) lead.1 ys,
  lead.6,
  λ root k o q r0 since f acts.
      let x = lead.7 root (frame o 0 h k) o q r0 since f acts in
      let z = starts_along rest o a (Follows s a) (Past j c) (h c) (0 + length xs) k x.0 (alongs o) (acts_past j c o o (length xs) 0 h k x.0 x.2) in
      let n = length (xs ++ ys) in
      let many : 0 + length xs + length ys ≡ n = (let e : n ≡ length xs + length ys = length-append xs ys in omega arith) in
      (z.0, on q x.0 xs ys (Some z.0) x.1 z.1, z.2 ∙ omega (arith, light.0), z.3 ∙ ap (λ l. outer k l (reach s l u)) many ∙ ap (outer k n) (light.1 n u)),
)

pub named_start_on : (s : Symbol) (top : Top s) (before a : TreeOf s) (xs ys : List Placed) (ps : List Part) (d u : ℕ) → Light s → NamedLead s top before xs → StartAll ys ps d u →
    ((o : Spot) → Along {s = s} o a (Follows s a) (Follows s before) (build before) ps) → NamedStart s top (xs ++ ys) (0 + d) u
named_start_on s top before a xs ys ps d u light lead rest alongs = inr (
  lead.0,
  lead.1 ++ ys,
  lead.2,
  lead.3,
  lead.4,
  ap (λ l. l ++ ys) lead.5 ∙ append_assoc (lead.0 ++ name_at lead.3 lead.4) lead.1 ys,
  lead.6,
  λ root k o q r0 since f acts.
      let x = lead.7 root k o q r0 since f acts in
      let z = starts_along rest o a (Follows s a) (Follows s before) (build before) (length xs) k x.0 (alongs o) x.2 in
      let n = length (xs ++ ys) in
      let many : length xs + length ys ≡ n = sym (length-append xs ys) in
      (z.0, on q x.0 xs ys (Some z.0) x.1 z.1, z.2 ∙ omega (arith, light.0), z.3 ∙ ap (λ l. outer k l (reach s l u)) many ∙ ap (outer k n) (light.1 n u)),
)

pub named_start_about : (s : Symbol) (top : Top s) (ws : List Placed) (d u : ℕ) → EntersTop s top → ((root : Symbol) (o : Spot) (k : Stack root s) (n v : ℕ) → (opened (top root o k) ≡ opened k) × (outer (top root o k) (0 + n) v ≡ outer k n v)) → NamedStart s top ws d u → StartsAt s ws d u
named_start_about s top ws d u enters flat (inl x) root k =
    let y = since_first (record { place = 0; line = 0 }) ws x.0 in
    let o = y.0 in
    let T = top root o k in
    let a = sinks_same g.FieldDec 0 T (about k) (amid o (starred (r.field_named o)) 0 T) ws d u x.0 o y.1 (λ p f e. top_same s top enters o root k p e) (λ p x e. starred_word o 0 T (r.field_named o) p.spot p.word x e) (starred_sinks o 0 T (r.field_named o) (field_going o) x.1.0 x.1.1 ws d u x.1.2) in
    let e = flat root o k (length ws) u in
    (a.0, a.1, a.2 ∙ omega (arith, e.0), a.3 ∙ e.1)
named_start_about s top ws d u enters flat (inr lead) root k =
    let xs = lead.0 ++ name_at lead.3 lead.4 in
    let y = since_first (record { place = 0; line = 0 }) xs (some_name lead.0 lead.3 lead.4) in
    let o = y.0 in
    let T = top root o k in
    let e = starred_name o 0 T (r.field_named o) (field_going o) lead.2 lead.0 lead.6 lead.3 lead.4 o (about k) y.1 (λ p f e. top_same s top enters o root k p e) in
    let P : ℕ → Type 0 = λ n. Acts NotOpen (amid o (r.field_named o lead.2 (n0 lead.3 lead.4)) n T) (amid o (r.field_named o lead.2 (n0 lead.3 lead.4)) (0 + length xs) T) in
    lead.7 root k o (about k) (amid o (r.field_named o lead.2 (n0 lead.3 lead.4)) (0 + length xs) T) y.1 e (subst P (let h : 0 + length xs ≡ length xs = omega arith in h) (λ p f. refl, refl))

field_enters : (o : Spot) (y : Word) (root : Symbol) (T : Stack root g.FieldDec) → place (is y o) (r.field_dec_in o y) o 0 T ≡ step (amid o (starred (r.field_named o)) 0 T) (is y o)
field_enters o (mark m.Star) root T = refl
field_enters o (w.name x) root T = refl
field_enters o y root T = refl

pub enters_field : EntersTop g.FieldDec field_top
enters_field p root k = field_enters p.spot p.word root k

abbrev pub dec_top : Top g.Dec
dec_top = in_top r.initialised field_top

abbrev pub decs_top : Top g.Decs
decs_top = in_top (λ d. build (d ∷ [])) dec_top

pub enters_dec : EntersTop g.Dec dec_top
enters_dec p root k = field_enters p.spot p.word root (frame p.spot 0 r.initialised k)

pub enters_decs : EntersTop g.Decs decs_top
enters_decs p root k = field_enters p.spot p.word root (frame p.spot 0 r.initialised (frame p.spot 0 (λ d. build (d ∷ [])) k))

-- What is left of declarators.
not_open_field : (y : Word) → AfterField y → r.is_open y ≡ false
not_open_field _ equal = refl
not_open_field _ (separates_fields comma) = refl
not_open_field _ (separates_fields close) = refl
not_open_field _ (separates_fields semicolon) = refl

not_bracket : (td : Todo g.FieldDec) (y : Word) → AfterField y → is_stop (when (r.is_open_bracket y) td) ≡ true
not_bracket td _ equal = refl
not_bracket td _ (separates_fields comma) = refl
not_bracket td _ (separates_fields close) = refl
not_bracket td _ (separates_fields semicolon) = refl

pub field_along : (ns : List notes.Note) (x : names.Name) (o : Spot) → let d : FieldDeclarator = record { spot = o; stars = ns; name = x; length = None } in Along {s = g.FieldDec} o d (Follows g.FieldDec d) NotOpen (r.field_named o ns x) []
field_along ns x o = (
  λ p f. (
    not_open_field p.word f,
    λ root n k. skipped (sees r.is_open_bracket (r.length_in (λ i v. record { spot = o; stars = ns; name = x; length = Some i }))) (build (record { spot = o; stars = ns; name = x; length = None })) o n k p
        (not_bracket (r.length_in (λ i v. record { spot = o; stars = ns; name = x; length = Some i })) p.word f),
  ),
  λ root n k. refl,
)

pub array_along : (ns : List notes.Note) (i : ℕ) (v : Bool) (x : names.Name) (o : Spot) → let d : FieldDeclarator = record { spot = o; stars = ns; name = x; length = Some i } in
    Along {s = g.FieldDec} o d (Follows g.FieldDec d) NotOpen (r.field_named o ns x) (g.sign m.OpenBracket ∷ word (w.number i v) ∷ g.sign m.CloseBracket ∷ [])
array_along ns i v x o = λ q. (refl, (_, λ root n k. refl, λ q. (tt, (_, λ root n k. refl, λ q. (tt, (_, λ root n k. refl, (λ p f. (tt, λ root n k. refl), λ root n k. refl)))))))

not_equal : {s : Symbol} (td : Todo s) (y : Word) → Separates y → is_stop (when (r.is_equal y) td) ≡ true
not_equal td _ comma = refl
not_equal td _ close = refl
not_equal td _ semicolon = refl

pub global_along : (d : FieldDeclarator) (o : Spot) → let a : GlobalDeclarator = record { declarator = d; constant = None } in Along {s = g.Dec} o a (Follows g.Dec a) (Past g.FieldDec d) (r.initialised d) []
global_along d o = (
  λ p f. (
    (separates_fields f, λ o. refl),
    λ root n k. skipped (sees r.is_equal (enter g.Constant (λ i. build (record { declarator = d; constant = Some i })))) (build (record { declarator = d; constant = None })) o n k p
        (not_equal (enter g.Constant (λ i. build (record { declarator = d; constant = Some i }))) p.word f),
  ),
  λ root n k. refl,
)

pub initial_along : (d : FieldDeclarator) (i : constants.Constant) (o : Spot) → let a : GlobalDeclarator = record { declarator = d; constant = Some i } in Along {s = g.Dec} o a (Follows g.Dec a) (Past g.FieldDec d) (r.initialised d) (g.sign m.Equal ∷ node g.Constant i ∷ [])
initial_along d i o = λ q. ((equal, λ o. refl), (_, λ root n k. refl, (_, (λ p e root n k. refl), (λ p e. tt), (λ p f. ((tt, λ o. refl), λ root n k. refl), λ root n k. refl))))

pub one_along : (d : GlobalDeclarator) (o : Spot) → Along {s = g.Decs} o (d ∷ []) (Follows g.Decs (d ∷ [])) (Past g.Dec d) (build (d ∷ [])) []
one_along d o = (λ p f. ((f, λ o. refl), λ root n k. refl), λ root n k. refl)

pub another_along : (before : List GlobalDeclarator) (d : GlobalDeclarator) (o : Spot) → Along {s = g.Decs} o (before ++ d ∷ []) (Follows g.Decs (before ++ d ∷ [])) (Follows g.Decs before) (build before) (g.sign m.Comma ∷ node g.Dec d ∷ [])
another_along before d o = λ q. (comma, (_, λ root n k. refl, (_, (λ p e root n k. refl), (λ p e. tt), (λ p f. ((f, λ o. refl), λ root n k. refl), λ root n k. refl))))

name_first : (ss ys : List Placed) (q0 : Spot) (x : List ℕ) → (ss ++ name_at q0 x) ++ ys ≡ ss ++ (is (w.name x) q0 ∷ ys)
name_first ss ys q0 x = append_assoc ss (name_at q0 x) ys

pub field_rule : (ns : List notes.Note) (ss : List Placed) (o q : Spot) (y : List ℕ) (ys : List Placed) (ps : List Part) (tree : names.Name → Spot → FieldDeclarator) (at : Spot) → StarsKnown ns ss → o ≡ q →
    BeginAt at (ss ++ (is (w.name y) o ∷ ys)) → MeetAll ys ps → ((x : names.Name) (o1 : Spot) → Along {s = g.FieldDec} o1 (tree x o1) (Follows g.FieldDec (tree x o1)) NotOpen (r.field_named o1 ns x) ps) →
    Meets g.FieldDec (tree (n0 q y) at) (ss ++ (is (w.name y) o ∷ ys)) × NamedLead g.FieldDec field_top (tree (n0 q y) at) (ss ++ (is (w.name y) o ∷ ys))
field_rule ns ss o q y ys ps tree at known same b rest alongs =
    let e = name_first ss ys o y in
    let B : List Placed → Type 0 = λ l. BeginAt at l in
    let lead = field_lead ns ss o y (tree (n0 o y)) at ys ps known (subst B (sym e) b) rest (alongs (n0 o y)) in
    let P : Spot → Type 0 = λ u. NamedLead g.FieldDec field_top (tree (n0 u y) at) (ss ++ (is (w.name y) o ∷ ys)) in
    let Q : List Placed → Type 0 = λ l. NamedLead g.FieldDec field_top (tree (n0 o y) at) l in
    let x = subst P same (subst Q e lead) in
    (named_about g.FieldDec field_top (tree (n0 q y) at) (ss ++ (is (w.name y) o ∷ ys)) enters_field x, x)

pub field_begin : (ns : List notes.Note) (ss : List Placed) (o : Spot) (y : List ℕ) (ys : List Placed) (ps : List Part) (d u : ℕ) (tree : Spot → FieldDeclarator) → StarsKnown ns ss → StartAll ys ps d u →
    ((o1 : Spot) → Along {s = g.FieldDec} o1 (tree o1) (Follows g.FieldDec (tree o1)) NotOpen (r.field_named o1 ns (n0 o y)) ps) → NamedStart g.FieldDec field_top (ss ++ (is (w.name y) o ∷ ys)) (0 + d) u
field_begin ns ss o y ys ps d u tree known rest alongs = let Q : List Placed → Type 0 = λ l. NamedStart g.FieldDec field_top l (0 + d) u in subst Q (name_first ss ys o y) (field_start ns ss o y tree ys ps d u known rest alongs)

-- Declarators of locals are read from where they begin alone.
local_enters : (o : Spot) (y : Word) (root : Symbol) (k : Stack root g.LocalDec) → place (is y o) (r.local_dec_in o y) o 0 k ≡ step (amid o (starred (r.local_named o)) 0 k) (is y o)
local_enters o (mark m.Star) root k = refl
local_enters o (w.name x) root k = refl
local_enters o y root k = refl

local_same : (o : Spot) (root : Symbol) (k : Stack root g.LocalDec) (p : Placed) → p.spot ≡ o → step (about k) p ≡ step (amid o (starred (r.local_named o)) 0 k) p
local_same o root k p e = let P : Spot → Type 0 = λ u. step (about k) p ≡ step (amid u (starred (r.local_named u)) 0 k) p in subst P e (local_enters p.spot p.word root k)

local_going : (o : Spot) (ns : List notes.Note) (x : names.Name) → is_stop (r.local_named o ns x) ≡ false
local_going o ns x = refl

pub local_rule : (ns : List notes.Note) (ss : List Placed) (o q : Spot) (y : List ℕ) (ys : List Placed) (ps : List Part) (tree : names.Name → Spot → LocalDeclarator) (at : Spot) → StarsKnown ns ss → o ≡ q →
    BeginAt at (ss ++ (is (w.name y) o ∷ ys)) → MeetAll ys ps → ((x : names.Name) (o1 : Spot) → Along {s = g.LocalDec} o1 (tree x o1) (Follows g.LocalDec (tree x o1)) Any (r.local_named o1 ns x) ps) → Meets g.LocalDec (tree (n0 q y) at) (ss ++ (is (w.name y) o ∷ ys))
local_rule ns ss o q y ys ps tree at known same b rest alongs =
    let e = name_first ss ys o y in
    let B : List Placed → Type 0 = λ l. BeginAt at l in
    let P : Spot → Type 0 = λ u. Meets g.LocalDec (tree (n0 u y) at) (ss ++ (is (w.name y) o ∷ ys)) in
    let Q : List Placed → Type 0 = λ l. Meets g.LocalDec (tree (n0 o y) at) l in
    subst P same (subst Q e (λ root k.
    let xs = ss ++ name_at o y in
    let z = since_first (record { place = 0; line = 0 }) xs (some_name ss o y) in
    let i = z.0 in
    let f = starred_name i 0 k (r.local_named i) (local_going i) ns ss known o y i (about k) z.1 (λ p f e. local_same i root k p e) in
    let at_same : i ≡ at = same_at i at xs ys z.1 (subst B (sym e) b) in
    let v = along rest i (tree (n0 o y) i) (Follows g.LocalDec (tree (n0 o y) i)) Any (r.local_named i ns (n0 o y)) (0 + length xs) k (amid i (r.local_named i ns (n0 o y)) (0 + length xs) k) (alongs (n0 o y) i) (λ p f. refl, refl) in
    let R : Spot → Type 0 = λ u. Leads (Follows g.LocalDec (tree (n0 o y) u)) (about k) (xs ++ ys) (amid u (build (tree (n0 o y) u)) (length (xs ++ ys)) k) in
    let w1 = leads_at (Follows g.LocalDec (tree (n0 o y) i)) (about k) (xs ++ ys) i (tree (n0 o y) i) (0 + length xs + length ys) (length (xs ++ ys)) k (let h : length (xs ++ ys) ≡ length xs + length ys = length-append xs ys in omega arith)
    (v.0, on (about k) (amid i (r.local_named i ns (n0 o y)) (0 + length xs) k) xs ys (Some v.0) f v.1, v.2) in
    let S : Spot → Type 0 = λ u. Since u (xs ++ ys) in
    (at, subst S at_same (since_on i xs ys z.1), subst R at_same w1)))

pub local_begin : (ns : List notes.Note) (ss : List Placed) (o : Spot) (y : List ℕ) (ys : List Placed) (ps : List Part) (d u : ℕ) (tree : Spot → LocalDeclarator) → StarsKnown ns ss → StartAll ys ps d u →
    ((o1 : Spot) → Along {s = g.LocalDec} o1 (tree o1) (Follows g.LocalDec (tree o1)) Any (r.local_named o1 ns (n0 o y)) ps) → StartsAt g.LocalDec (ss ++ (is (w.name y) o ∷ ys)) (0 + d) u
local_begin ns ss o y ys ps d u tree known rest alongs =
    let Q : List Placed → Type 0 = λ l. StartsAt g.LocalDec l (0 + d) u in
    subst Q (name_first ss ys o y) (λ root k.
    let xs = ss ++ name_at o y in
    let z = since_first (record { place = 0; line = 0 }) xs (some_name ss o y) in
    let i = z.0 in
    let f = starred_name i 0 k (r.local_named i) (local_going i) ns ss known o y i (about k) z.1 (λ p f e. local_same i root k p e) in
    let v = starts_along rest i (tree i) (Follows g.LocalDec (tree i)) Any (r.local_named i ns (n0 o y)) (0 + length xs) k (amid i (r.local_named i ns (n0 o y)) (0 + length xs) k) (alongs i) (λ p f. refl, refl) in
    let n = length (xs ++ ys) in
    (v.0, on (about k) (amid i (r.local_named i ns (n0 o y)) (0 + length xs) k) xs ys (Some v.0) f v.1, v.2, v.3 ∙ ap (λ l. outer k l u) (let h : n ≡ length xs + length ys = length-append xs ys in omega arith)))

pub local_inside : (ns : List notes.Note) (c : names.Name) (ws : List Placed) (d u : ℕ) → (ws ≡ [] → ⊥) → StartAll ws (node g.Stars ns ∷ node g.Name c ∷ []) d u → StartsAt g.LocalDec ws (0 + d) u
local_inside ns c ws d u full x root k =
    let y = since_first (record { place = 0; line = 0 }) ws full in
    let a = sinks_same g.LocalDec 0 k (about k) (amid y.0 (starred (r.local_named y.0)) 0 k) ws d u full y.0 y.1 (λ p f e. local_same y.0 root k p e) (λ p x e. starred_word y.0 0 k (r.local_named y.0) p.spot p.word x e) (starred_sinks y.0 0 k (r.local_named y.0) (local_going y.0) ns c ws d u x) in
    (a.0, a.1, a.2, a.3 ∙ ap (λ l. outer k l u) (let h : 0 + length ws ≡ length ws = omega arith in h))

pub local_along : (ns : List notes.Note) (x : names.Name) (o : Spot) → let d : LocalDeclarator = record { spot = o; stars = ns; name = x; initial = None } in Along {s = g.LocalDec} o d (Follows g.LocalDec d) Any (r.local_named o ns x) []
local_along ns x o = (
  λ p f. (
    tt,
    λ root n k. skipped (sees r.is_equal (enter (g.Level 0) (λ e. build (record { spot = o; stars = ns; name = x; initial = Some e })))) (build (record { spot = o; stars = ns; name = x; initial = None })) o n k p
        (not_equal (enter (g.Level 0) (λ e. build (record { spot = o; stars = ns; name = x; initial = Some e }))) p.word f),
  ),
  λ root n k. refl,
)

pub local_with_along : (ns : List notes.Note) (e : t.Expr) (x : names.Name) (o : Spot) → let d : LocalDeclarator = record { spot = o; stars = ns; name = x; initial = Some e } in Along {s = g.LocalDec} o d (Follows g.LocalDec d) Any (r.local_named o ns x) (g.sign m.Equal ∷ node (g.Level 0) e ∷ [])
local_with_along ns e x o = λ q. (tt, (_, λ root n k. refl, (_, (λ p e root n k. refl), (λ p e. tt), (λ p f. ((ends f, λ o. quiet_level 0 o e p.word f), λ root n k. refl), λ root n k. refl))))
