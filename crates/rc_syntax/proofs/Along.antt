-- What the grammar begins or derives, the reader reads: the parts of a production, one after the other.
use Rattle.std.proofs.Common.{ℕ, ◌≡◌, ◌≤◌, ◌+◌, List, [], ◌∷◌, ◌++◌, length, length-append, Option, Some, None, Bool, true, false, refl, ap, sym, ◌∙◌, subst, arith}
use Rattle.rc_syntax.specs.declared.tree.Spot.{Spot}
use Rattle.rc_syntax.specs.declared.tree.BinaryOp.{BinaryOp}
use Rattle.rc_syntax.specs.declared.tree.Name as names
use Rattle.rc_syntax.specs.declared.word.Mark as marks
use Rattle.rc_syntax.specs.declared.word.Mark.TheVariants as m
use Rattle.rc_syntax.specs.declared.tree.StepOp.{StepOp}
use Rattle.rc_syntax.specs.Tokens as w
use Rattle.rc_syntax.specs.Tokens.{Word, mark, key}
use Rattle.rc_syntax.specs.Tree as t
use Rattle.rc_syntax.specs.Grammar as g
use Rattle.rc_syntax.specs.Grammar.{Symbol, TreeOf, Placed, Part, word, node, Rule, BeginAt, Derives, itself, by, DeriveAll, done, then, Begins, inside, BeginAll, a_word, here, later, adds, reach, level_of, mark_of, ends_open}
use Rattle.rc_syntax.specs.reader.Todo.{Todo, stop, build, try, enter, peek, begin, resume, Deeper, only, within, refuses}
use Rattle.rc_syntax.specs.reader.Reading.{first, tail, is_else}
use Rattle.rc_syntax.specs.reader.Steps.{Stack, frame, State, about, amid, first_of, place, offer, give, closed, step, fed, feed, whole, finish, opened, depth, reach_of}
use Rattle.rc_syntax.proofs.Sound.{Since, outer, reached_outer}
use Rattle.rc_syntax.proofs.Fronts.{is}

-- The words that may follow: a declarator, a parameter, an argument or the like;
pub data Separates : Word → Type 0 where
  comma : Separates (mark m.Comma)
  close : Separates (mark m.CloseParenthesis)
  semicolon : Separates (mark m.Semicolon)

-- a type;
pub data AfterType : Word → Type 0 where
  a_name : {x : List ℕ} → AfterType (w.name x)
  separates : {y : Word} → Separates y → AfterType y

-- the base of a type;
pub data AfterBase : Word → Type 0 where
  a_star : AfterBase (mark m.Star)
  a_type : {y : Word} → AfterType y → AfterBase y

-- a declarator of a field;
pub data AfterField : Word → Type 0 where
  equal : AfterField (mark m.Equal)
  separates_fields : {y : Word} → Separates y → AfterField y

-- an expression of a level;
pub data After : ℕ → Word → Type 0 where
  operator : {i : ℕ} (op : BinaryOp) → level_of op ≤ i → After i (mark (mark_of op))
  question : {i : ℕ} → 1 ≤ i → After i (mark m.Question)
  colon : {i : ℕ} → After i (mark m.Colon)
  bracket : {i : ℕ} → After i (mark m.CloseBracket)
  ends : {i : ℕ} {y : Word} → Separates y → After i y

-- a unary;
pub data AfterUnary : Word → Type 0 where
  inner : {y : Word} → After 11 y → AfterUnary y
  equals : AfterUnary (mark m.Equal)
  updates : (op : BinaryOp) {x : marks.Mark} → g.update_of op ≡ Some x → AfterUnary (mark x)
  steps : (op : StepOp) → AfterUnary (mark (g.step_of op))

-- a postfix.
pub data AfterPostfix : Word → Type 0 where
  unaries : {y : Word} → AfterUnary y → AfterPostfix y
  open_bracket : AfterPostfix (mark m.OpenBracket)
  dot : AfterPostfix (mark m.Dot)
  arrow : AfterPostfix (mark m.Arrow)

-- The word may follow the symbol.
abbrev pub Frees : (s : Symbol) → TreeOf s → Word → Type 0
Frees (g.Level i) a y = After i y
Frees g.Arm a y = After 0 y
Frees g.Arguments a y = Separates y
Frees g.Simple a y = Separates y
Frees g.Unary a y = AfterUnary y
Frees g.Postfix a y = AfterPostfix y
Frees g.Primary a y = AfterPostfix y
Frees g.Stmt a y = is_else y ≡ true → ends_open a ≡ false
Frees g.Body a y = is_else y ≡ false
Frees g.Base a y = AfterBase y
Frees g.Stars a y = AfterBase y
Frees g.TypeName a y = AfterType y
Frees g.Param a y = Separates y
Frees g.Params a y = Separates y
Frees g.FieldDec a y = AfterField y
Frees g.FieldDecs a y = Separates y
Frees g.Dec a y = Separates y
Frees g.Decs a y = Separates y
Frees g.LocalDec a y = Separates y
Frees g.LocalDecs a y = Separates y
Frees _ a y = Unit {0}

-- The state is as this one, for what follows.
abbrev pub Acts : {root : Symbol} → (Placed → Type 0) → State root → State root → Type 0
Acts F q r = ((p : Placed) → F p → step r p ≡ step q p) × (finish r ≡ finish q)

-- The words lead from the state to one that is as this one.
abbrev pub Leads : {root : Symbol} → (Placed → Type 0) → State root → List Placed → State root → Type 0
Leads {root = root} F q ws e = (r : State root) × (feed q ws ≡ Some r) × Acts F e r

abbrev pub Any : Placed → Type 0
Any p = Unit {0}

abbrev pub Follows : (s : Symbol) → TreeOf s → Placed → Type 0
Follows s a p = Frees s a p.word

-- The word follows the symbol, and doesn't go on with it.
abbrev pub Past : (s : Symbol) → TreeOf s → Placed → Type 0
Past s a p = Frees s a p.word × ((o : Spot) → refuses (tail s o a p) ≡ true)

-- A symbol is read from where it is to begin.
abbrev pub Meets : (s : Symbol) → TreeOf s → List Placed → Type 0
Meets s a ws = (root : Symbol) (k : Stack root s) → (o : Spot) × Since o ws × Leads (Follows s a) (about k) ws (amid o (build a) (length ws) k)

-- A symbol whose words may be none is read from a state that is as it without words.
abbrev pub MeetsOn : (s : Symbol) → TreeOf s → TreeOf s → List Placed → Type 0
MeetsOn s c a ws = (root : Symbol) (k : Stack root s) (q : State root) → ((p : Placed) → Frees s c p.word → (o : Spot) × (step q p ≡ step (amid o (build c) 0 k) p)) → (finish q ≡ whole k c) →
    (r : State root) × (feed q ws ≡ Some r) × ((p : Placed) → Frees s a p.word → (o : Spot) × (step r p ≡ step (amid o (build a) (length ws) k) p)) × (finish r ≡ whole k a)

feed_some : {root : Symbol} (o : Option (State root)) (ws vs : List Placed) (r : State root) (q : Option (State root)) → fed (λ x. feed x ws) o ≡ Some r → feed r vs ≡ q → ((x : State root) → feed x ws ≡ Some r → feed x (ws ++ vs) ≡ q) → fed (λ x. feed x (ws ++ vs)) o ≡ q
feed_some None ws vs r q e h f = absurd (cc)
feed_some (Some x) ws vs r q e h f = f x e

-- Words behind words.
pub on : {root : Symbol} (s r : State root) (xs ys : List Placed) (q : Option (State root)) → feed s xs ≡ Some r → feed r ys ≡ q → feed s (xs ++ ys) ≡ q
on s r [] ys q e h = let f : s ≡ r = cc in ap (λ x. feed x ys) f ∙ h
on s r (x ∷ xs) ys q e h = feed_some (step s x) xs ys r q e h (λ z i. on z r xs ys q i h)

pub by_word : {root : Symbol} (s r : State root) (p : Placed) (ws : List Placed) (q : Option (State root)) → step s p ≡ Some r → feed r ws ≡ q → feed s (p ∷ ws) ≡ q
by_word s r p ws q e h = ap (fed (λ x. feed x ws)) e ∙ h

-- The first word decides.
pub same_first : {root : Symbol} (s r : State root) (p : Placed) (ws : List Placed) → step s p ≡ step r p → feed s (p ∷ ws) ≡ feed r (p ∷ ws)
same_first s r p ws e = ap (fed (λ x. feed x ws)) e

refused_is : {root s : Symbol} (p : Placed) (d : Deeper s) (i : Spot) (n : ℕ) (k : Stack root s) → refuses d ≡ true → place p d i n k ≡ None
refused_is p (only stop) i n k e = refl
refused_is p (only (build a)) i n k e = absurd (cc)
refused_is p (only (try f td)) i n k e = absurd (cc)
refused_is p (only (enter j h)) i n k e = absurd (cc)
refused_is p (only (peek f)) i n k e = absurd (cc)
refused_is p (only (begin j a h)) i n k e = absurd (cc)
refused_is p (only (resume o m j h td)) i n k e = absurd (cc)
refused_is p (within j h d) i n k e = refused_is p d p.spot 0 (frame i n h k) e

-- A word that a complete symbol refuses goes to what is open round it.
pub passes_on : {root s : Symbol} (j : Symbol) (o i : Spot) (c : TreeOf j) (m n : ℕ) (h : TreeOf j → Todo s) (k : Stack root s) (p : Placed) → refuses (tail j o c p) ≡ true →
    step (amid o (build c) m (frame i n h k)) p ≡ step (amid i (h c) (n + m) k) p
passes_on j o i c m n h k p e = ap (λ x. first_of x (give p (frame i n h k) m c)) (refused_is p (tail j o c p) o m (frame i n h k) e)

pub begun_by : {root s : Symbol} (k : Stack root s) (p : Placed) (ws : List Placed) (r : State root) → feed (about k) (p ∷ ws) ≡ Some r → refuses (first s p) ≡ false
begun_by {s = s} k p ws r e = go (refuses (first s p)) refl
  where
    go : (b : Bool) → refuses (first s p) ≡ b → b ≡ false
    go false h = refl
    go true h = let n : None ≡ Some r = sym (ap (fed (λ x. feed x ws)) (refused_is p (first s p) p.spot 0 k h)) ∙ e in absurd (cc)

-- How a symbol goes on from what is left of it.
abbrev pub Takes : {s : Symbol} → Spot → Todo s → Placed → Todo s → Type 0
Takes {s = s} i td p td2 = (root : Symbol) (n : ℕ) (k : Stack root s) → step (amid i td n k) p ≡ Some (amid i td2 (n + 1) k)

abbrev pub Enters : {s : Symbol} → Spot → Todo s → (j : Symbol) → (TreeOf j → Todo s) → Type 0
Enters {s = s} i td j h = (p : Placed) → refuses (first j p) ≡ false → (root : Symbol) (n : ℕ) (k : Stack root s) → step (amid i td n k) p ≡ place p (first j p) p.spot 0 (frame i n h k)

abbrev pub Quits : {s : Symbol} → Spot → Todo s → (Placed → Type 0) → (Placed → Type 0) → TreeOf s → Type 0
Quits {s = s} i td Q F a =
    ((p : Placed) → F p → Q p × ((root : Symbol) (n : ℕ) (k : Stack root s) → step (amid i td n k) p ≡ step (amid i (build a) n k) p))
    × ((root : Symbol) (n : ℕ) (k : Stack root s) → finish (amid i td n k) ≡ finish (amid i (build a) n k))

-- From what is left of a symbol, known for the words Q that may come next, the parts are read, and it is complete for the
-- words F.
abbrev pub Along : {s : Symbol} → Spot → TreeOf s → (Placed → Type 0) → (Placed → Type 0) → Todo s → List Part → Type 0
Along i a F Q td [] = Quits i td Q F a
Along {s = s} i a F Q td (word y ∷ ps) = (o : Spot) → Q (is y o) × ((td2 : Todo s) × Takes i td (is y o) td2 × Along i a F Any td2 ps)
Along {s = s} i a F Q td (node g.Name x ∷ ps) =
    (h : names.Name → Todo s) × ((o : Spot) (y : List ℕ) → Q (is (w.name y) o) × Takes i td (is (w.name y) o) (h (record { spot = o; text = y }))) × Along i a F Any (h x) ps
Along {s = s} i a F Q td (node g.Stars c ∷ ps) = (h : TreeOf g.Stars → Todo s) × (td ≡ begin g.Stars [] h) × ((p : Placed) → AfterBase p.word → Q p) × Along i a F (Past g.Stars c) (h c) ps
Along {s = s} i a F Q td (node g.Body c ∷ ps) = (h : TreeOf g.Body → Todo s) × (td ≡ begin g.Body t.done h) × ((p : Placed) → is_else p.word ≡ false → Q p) × Along i a F (Past g.Body c) (h c) ps
Along i a F Q td (node g.Text c ∷ ps) = ⊥
Along i a F Q td (node (g.Star j) c ∷ ps) = ⊥
Along i a F Q td (node g.Result c ∷ ps) = ⊥
Along i a F Q td (node g.CastType c ∷ ps) = ⊥
Along i a F Q td (node g.Postfix c ∷ ps) = ⊥
Along i a F Q td (node g.Primary c ∷ ps) = ⊥
Along {s = s} i a F Q td (node j c ∷ ps) = (h : TreeOf j → Todo s) × Enters i td j h × ((p : Placed) → refuses (first j p) ≡ false → Q p) × Along i a F (Past j c) (h c) ps

-- What is known of a part that is derived.
abbrev pub Met : (s : Symbol) → TreeOf s → List Placed → Type 0
Met g.Stars a ws = MeetsOn g.Stars [] a ws
Met g.Body a ws = MeetsOn g.Body t.done a ws
Met g.Text a ws = Unit {0}
Met (g.Star j) a ws = Unit {0}
Met g.Result a ws = Unit {0}
Met g.CastType a ws = Unit {0}
Met g.Postfix a ws = Unit {0}
Met g.Primary a ws = Unit {0}
Met g.Name a ws = ⊥
Met s a ws = Meets s a ws

pub data MeetAll : List Placed → List Part → Type 0 where
  m_done : MeetAll [] []
  m_word : {y : Word} {o : Spot} {ys : List Placed} {ps : List Part} → MeetAll ys ps → MeetAll (is y o ∷ ys) (word y ∷ ps)
  m_name : {o : Spot} {x : List ℕ} {ys : List Placed} {ps : List Part} → MeetAll ys ps → MeetAll (is (w.name x) o ∷ ys) (node g.Name (record { spot = o; text = x }) ∷ ps)
  m_node : {j : Symbol} {c : TreeOf j} (xs : List Placed) {ys : List Placed} {ps : List Part} → Met j c xs → MeetAll ys ps → MeetAll (xs ++ ys) (node j c ∷ ps)

-- The next state, for what follows.
pub acts_past : {root s : Symbol} (j : Symbol) (c : TreeOf j) (o i : Spot) (m n : ℕ) (h : TreeOf j → Todo s) (k : Stack root s) (r : State root) →
    Acts (Follows j c) (amid o (build c) m (frame i n h k)) r → Acts (Past j c) (amid i (h c) (n + m) k) r
acts_past j c o i m n h k r x = (λ p e. x.0 p e.0 ∙ passes_on j o i c m n h k p (e.1 o), x.1)

pub leads_at : {root s : Symbol} (F : Placed → Type 0) (q : State root) (ws : List Placed) (i : Spot) (a : TreeOf s) (m n : ℕ) (k : Stack root s) → m ≡ n → Leads F q ws (amid i (build a) m k) → Leads F q ws (amid i (build a) n k)
leads_at F q ws i a m n k e x = let P : ℕ → Type 0 = λ z. Leads F q ws (amid i (build a) z k) in subst P e x

-- A symbol is entered, from a state that is as one where it may be.
pub entered : {root s : Symbol} (j : Symbol) (c : TreeOf j) (i : Spot) (td : Todo s) (Q : Placed → Type 0) (n : ℕ) (h : TreeOf j → Todo s) (k : Stack root s) (q : State root) (ws : List Placed) →
    Meets j c ws → Enters i td j h → ((p : Placed) → refuses (first j p) ≡ false → Q p) → Acts Q (amid i td n k) q →
    (r : State root) × (feed q ws ≡ Some r) × Acts (Past j c) (amid i (h c) (n + length ws) k) r
entered {root = root} j c i td Q n h k q ws meets enters starts acts = go ws (meets root (frame i n h k))
  where
    go : (vs : List Placed) → ((o : Spot) × Since o vs × Leads (Follows j c) (about (frame i n h k)) vs (amid o (build c) (length vs) (frame i n h k))) →
        (r : State root) × (feed q vs ≡ Some r) × Acts (Past j c) (amid i (h c) (n + length vs) k) r
    go [] x = absurd x.1
    go (p ∷ ps) x =
        let e = begun_by (frame i n h k) p ps x.2.0 x.2.1 in
        (x.2.0, same_first q (about (frame i n h k)) p ps (acts.0 p (starts p e) ∙ enters p e root n k) ∙ x.2.1, acts_past j c x.0 i (length (p ∷ ps)) n h k x.2.0 x.2.2)

pub begin_acts : {root s : Symbol} (j : Symbol) (c : TreeOf j) (i : Spot) (n : ℕ) (h : TreeOf j → Todo s) (k : Stack root s) (p : Placed) → step (amid i (begin j c h) n k) p ≡ step (amid p.spot (build c) 0 (frame i n h k)) p
begin_acts {root = root} j c i n h k p =
    let G : ℕ → Option (State root) = λ m. first_of (place p (tail j p.spot c p) p.spot 0 (frame i n h k)) (offer p (h c) i m k (closed p i m k)) in
    let e : n ≡ n + 0 = omega arith in
    ap G e

-- A symbol whose words may be none is read likewise.
pub begun_on : {root s : Symbol} (j : Symbol) (c0 c : TreeOf j) (i : Spot) (td : Todo s) (Q : Placed → Type 0) (n : ℕ) (h : TreeOf j → Todo s) (k : Stack root s) (q : State root) (ws : List Placed) →
    MeetsOn j c0 c ws → td ≡ begin j c0 h → ((p : Placed) → Frees j c0 p.word → Q p) → Acts Q (amid i td n k) q →
    (r : State root) × (feed q ws ≡ Some r) × Acts (Past j c) (amid i (h c) (n + length ws) k) r
begun_on {root = root} j c0 c i td Q n h k q ws meets is_begin starts acts =
    let x = meets root (frame i n h k) q (λ p f. (p.spot, acts.0 p (starts p f) ∙ ap (λ u. step (amid i u n k) p) is_begin ∙ begin_acts j c0 i n h k p)) (acts.1 ∙ ap (λ u. finish (amid i u n k)) is_begin) in
    (x.0, x.1, (λ p e. let y = x.2 p e.0 in y.1 ∙ passes_on j y.0 i c (length ws) n h k p (e.1 y.0), x.3))

pub leads_more : {root s : Symbol} (F : Placed → Type 0) (q r : State root) (xs ys : List Placed) (i : Spot) (a : TreeOf s) (n : ℕ) (k : Stack root s) → feed q xs ≡ Some r →
    Leads F r ys (amid i (build a) (n + length xs + length ys) k) → Leads F q (xs ++ ys) (amid i (build a) (n + length (xs ++ ys)) k)
leads_more F q r xs ys i a n k e x =
    leads_at F q (xs ++ ys) i a (n + length xs + length ys) (n + length (xs ++ ys)) k (let h : length (xs ++ ys) ≡ length xs + length ys = length-append xs ys in omega arith)
    (x.0, on q r xs ys (Some x.0) e x.1, x.2)

-- The parts are read in their order.
pub along : {ws : List Placed} {ps : List Part} → MeetAll ws ps → {root s : Symbol} (i : Spot) (a : TreeOf s) (F Q : Placed → Type 0) (td : Todo s) (n : ℕ) (k : Stack root s) (q : State root) →
    Along i a F Q td ps → Acts Q (amid i td n k) q → Leads F q ws (amid i (build a) (n + length ws) k)
along m_done {root = root} i a F Q td n k q x acts =
    leads_at F q [] i a n (n + 0) k (omega arith) (q, refl, (λ p f. acts.0 p (x.0 p f).0 ∙ (x.0 p f).1 root n k, acts.1 ∙ x.1 root n k))
along (m_word {y = y} {o = o} {ys = ys} rest) {root = root} i a F Q td n k q x acts =
    let z = x o in
    let e : step q (is y o) ≡ Some (amid i z.1.0 (n + 1) k) = acts.0 (is y o) z.0 ∙ z.1.1 root n k in
    leads_more F q (amid i z.1.0 (n + 1) k) (is y o ∷ []) ys i a n k (by_word q (amid i z.1.0 (n + 1) k) (is y o) [] _ e refl)
    (along rest i a F Any z.1.0 (n + 1) k (amid i z.1.0 (n + 1) k) z.1.2 (λ p f. refl, refl))
along (m_name {o = o} {x = y} {ys = ys} rest) {root = root} i a F Q td n k q x acts =
    let p = is (w.name y) o in
    let td2 = x.0 (record { spot = o; text = y }) in
    let z = x.1 o y in
    let e : step q p ≡ Some (amid i td2 (n + 1) k) = acts.0 p z.0 ∙ z.1 root n k in
    leads_more F q (amid i td2 (n + 1) k) (p ∷ []) ys i a n k (by_word q (amid i td2 (n + 1) k) p [] _ e refl)
    (along rest i a F Any td2 (n + 1) k (amid i td2 (n + 1) k) x.2 (λ p f. refl, refl))
along (m_node {j = g.Stars} {c = c} xs {ys = ys} d rest) {root = root} i a F Q td n k q x acts =
    let z = begun_on g.Stars [] c i td Q n x.0 k q xs d x.1 x.2 acts in
    leads_more F q z.0 xs ys i a n k z.1 (along rest i a F (Past g.Stars c) (x.0 c) (n + length xs) k z.0 x.3 z.2)
along (m_node {j = g.Body} {c = c} xs {ys = ys} d rest) {root = root} i a F Q td n k q x acts =
    let z = begun_on g.Body t.done c i td Q n x.0 k q xs d x.1 x.2 acts in
    leads_more F q z.0 xs ys i a n k z.1 (along rest i a F (Past g.Body c) (x.0 c) (n + length xs) k z.0 x.3 z.2)
along (m_node {j = g.Name} {c = c} xs {ys = ys} d rest) {root = root} i a F Q td n k q x acts = absurd d
along (m_node {j = g.Text} {c = c} xs {ys = ys} d rest) {root = root} i a F Q td n k q x acts = absurd x
along (m_node {j = g.Star j} {c = c} xs {ys = ys} d rest) {root = root} i a F Q td n k q x acts = absurd x
along (m_node {j = g.Result} {c = c} xs {ys = ys} d rest) {root = root} i a F Q td n k q x acts = absurd x
along (m_node {j = g.CastType} {c = c} xs {ys = ys} d rest) {root = root} i a F Q td n k q x acts = absurd x
along (m_node {j = g.Postfix} {c = c} xs {ys = ys} d rest) {root = root} i a F Q td n k q x acts = absurd x
along (m_node {j = g.Primary} {c = c} xs {ys = ys} d rest) {root = root} i a F Q td n k q x acts = absurd x
along (m_node {j = j} {c = c} xs {ys = ys} d rest) {root = root} i a F Q td n k q x acts =
    let z = entered j c i td Q n x.0 k q xs d x.1 x.2 acts in
    leads_more F q z.0 xs ys i a n k z.1 (along rest i a F (Past j c) (x.0 c) (n + length xs) k z.0 x.3 z.2)

-- The words begin the symbol, and the last has this depth and this reach: read from where it is to begin,
abbrev pub StartsAt : (s : Symbol) → List Placed → ℕ → ℕ → Type 0
StartsAt s ws d r = (root : Symbol) (k : Stack root s) → (x : State root) × (feed (about k) ws ≡ Some x) × (depth x ≡ opened k + d) × (reach_of x ≡ outer k (length ws) r)

-- or from a state that is as it without words.
abbrev pub StartsOn : (s : Symbol) → TreeOf s → List Placed → ℕ → ℕ → Type 0
StartsOn s c ws d r =
    (root : Symbol) (k : Stack root s) (q : State root) → ((p : Placed) → Frees s c p.word → (o : Spot) × (step q p ≡ step (amid o (build c) 0 k) p)) → (finish q ≡ whole k c) →
    (x : State root) × (feed q ws ≡ Some x) × (depth x ≡ opened k + d) × (reach_of x ≡ outer k (length ws) r)

abbrev pub Begun : (s : Symbol) → List Placed → ℕ → ℕ → Type 0
Begun g.Stars ws d r = StartsOn g.Stars [] ws d r
Begun g.Body ws d r = StartsOn g.Body t.done ws d r
Begun g.Text ws d r = Unit {0}
Begun (g.Star j) ws d r = Unit {0}
Begun g.Result ws d r = Unit {0}
Begun g.CastType ws d r = Unit {0}
Begun g.Postfix ws d r = Unit {0}
Begun g.Primary ws d r = Unit {0}
Begun g.Name ws d r = ⊥
Begun s ws d r = StartsAt s ws d r

pub data StartAll : List Placed → List Part → ℕ → ℕ → Type 0 where
  s_word : {y : Word} {o : Spot} {ps : List Part} → StartAll (is y o ∷ []) (word y ∷ ps) 0 0
  s_name : {o : Spot} {y : List ℕ} {c : names.Name} {ps : List Part} → StartAll (is (w.name y) o ∷ []) (node g.Name c ∷ ps) 0 0
  s_here : {j : Symbol} {c : TreeOf j} {p : Placed} {xs : List Placed} {ps : List Part} {d r : ℕ} → Begun j (p ∷ xs) d r → StartAll (p ∷ xs) (node j c ∷ ps) d r
  s_later_word : {y : Word} {o : Spot} {ys : List Placed} {q : Part} {ps : List Part} {d r : ℕ} → StartAll ys (q ∷ ps) d r → StartAll (is y o ∷ ys) (word y ∷ q ∷ ps) d r
  s_later_name : {o : Spot} {x : List ℕ} {ys : List Placed} {q : Part} {ps : List Part} {d r : ℕ} → StartAll ys (q ∷ ps) d r → StartAll (is (w.name x) o ∷ ys) (node g.Name (record { spot = o; text = x }) ∷ q ∷ ps) d r
  s_later : {j : Symbol} {c : TreeOf j} (xs : List Placed) {ys : List Placed} {q : Part} {ps : List Part} {d r : ℕ} → Met j c xs → StartAll ys (q ∷ ps) d r → StartAll (xs ++ ys) (node j c ∷ q ∷ ps) d r

-- The words lead from a state inside the symbol, behind so many of its words, to one with this depth and this reach.
abbrev pub Sinks : {root : Symbol} → (s : Symbol) → ℕ → Stack root s → State root → List Placed → ℕ → ℕ → Type 0
Sinks {root = root} s n k q ws d r = (x : State root) × (feed q ws ≡ Some x) × (depth x ≡ opened k + (adds s + d)) × (reach_of x ≡ outer k (n + length ws) (reach s (n + length ws) r))

pub sinks_more : {root : Symbol} (s : Symbol) (n : ℕ) (k : Stack root s) (q z : State root) (xs ys : List Placed) (d r : ℕ) → feed q xs ≡ Some z → Sinks s (n + length xs) k z ys d r → Sinks s n k q (xs ++ ys) d r
sinks_more s n k q z xs ys d r e x =
    let h : n + length xs + length ys ≡ n + length (xs ++ ys) = (let f : length (xs ++ ys) ≡ length xs + length ys = length-append xs ys in omega arith) in
    (x.0, on q z xs ys (Some x.0) e x.1, x.2, x.3 ∙ ap (λ m. outer k m (reach s m r)) h)

-- The first word of a symbol inside.
pub sinks_in : {root s : Symbol} (j : Symbol) (i : Spot) (td : Todo s) (Q : Placed → Type 0) (n : ℕ) (h : TreeOf j → Todo s) (k : Stack root s) (q : State root) (p : Placed) (ps : List Placed) (d r : ℕ) →
    StartsAt j (p ∷ ps) d r → Enters i td j h → ((p : Placed) → refuses (first j p) ≡ false → Q p) → Acts Q (amid i td n k) q → Sinks s n k q (p ∷ ps) d r
sinks_in {root = root} {s = s} j i td Q n h k q p ps d r starts enters may acts =
    let x = starts root (frame i n h k) in
    let e = begun_by (frame i n h k) p ps x.0 x.1 in
    (x.0, same_first q (about (frame i n h k)) p ps (acts.0 p (may p e) ∙ enters p e root n k) ∙ x.1, x.2 ∙ omega arith, x.3 ∙ reached_outer k (n + length (p ∷ ps)) r)

pub sinks_on : {root s : Symbol} (j : Symbol) (c0 : TreeOf j) (i : Spot) (td : Todo s) (Q : Placed → Type 0) (n : ℕ) (h : TreeOf j → Todo s) (k : Stack root s) (q : State root) (ws : List Placed) (d r : ℕ) →
    StartsOn j c0 ws d r → td ≡ begin j c0 h → ((p : Placed) → Frees j c0 p.word → Q p) → Acts Q (amid i td n k) q → Sinks s n k q ws d r
sinks_on {root = root} {s = s} j c0 i td Q n h k q ws d r starts is_begin may acts =
    let x = starts root (frame i n h k) q (λ p f. (p.spot, acts.0 p (may p f) ∙ ap (λ u. step (amid i u n k) p) is_begin ∙ begin_acts j c0 i n h k p)) (acts.1 ∙ ap (λ u. finish (amid i u n k)) is_begin) in
    (x.0, x.1, x.2 ∙ omega arith, x.3 ∙ reached_outer k (n + length ws) r)

pub starts_along : {ws : List Placed} {ps : List Part} {d r : ℕ} → StartAll ws ps d r → {root s : Symbol} (i : Spot) (a : TreeOf s) (F Q : Placed → Type 0) (td : Todo s) (n : ℕ) (k : Stack root s) (q : State root) →
    Along i a F Q td ps → Acts Q (amid i td n k) q → Sinks s n k q ws d r
starts_along (s_word {y = y} {o = o}) {root = root} {s = s} i a F Q td n k q x acts =
    let z = x o in
    let e : step q (is y o) ≡ Some (amid i z.1.0 (n + 1) k) = acts.0 (is y o) z.0 ∙ z.1.1 root n k in
    (amid i z.1.0 (n + 1) k, by_word q (amid i z.1.0 (n + 1) k) (is y o) [] _ e refl, omega arith, reached_outer k (n + 1) 0)
starts_along (s_name {o = o} {y = y}) {root = root} {s = s} i a F Q td n k q x acts =
    let p = is (w.name y) o in
    let td2 = x.0 (record { spot = o; text = y }) in
    let z = x.1 o y in
    let e : step q p ≡ Some (amid i td2 (n + 1) k) = acts.0 p z.0 ∙ z.1 root n k in
    (amid i td2 (n + 1) k, by_word q (amid i td2 (n + 1) k) p [] _ e refl, omega arith, reached_outer k (n + 1) 0)
starts_along (s_later_word {y = y} {o = o} {ys = ys} {d = d} {r = r} rest) {root = root} {s = s} i a F Q td n k q x acts =
    let z = x o in
    let e : step q (is y o) ≡ Some (amid i z.1.0 (n + 1) k) = acts.0 (is y o) z.0 ∙ z.1.1 root n k in
    sinks_more s n k q (amid i z.1.0 (n + 1) k) (is y o ∷ []) ys d r (by_word q (amid i z.1.0 (n + 1) k) (is y o) [] _ e refl)
    (starts_along rest i a F Any z.1.0 (n + 1) k (amid i z.1.0 (n + 1) k) z.1.2 (λ p f. refl, refl))
starts_along (s_later_name {o = o} {x = y} {ys = ys} {d = d} {r = r} rest) {root = root} {s = s} i a F Q td n k q x acts =
    let p = is (w.name y) o in
    let td2 = x.0 (record { spot = o; text = y }) in
    let z = x.1 o y in
    let e : step q p ≡ Some (amid i td2 (n + 1) k) = acts.0 p z.0 ∙ z.1 root n k in
    sinks_more s n k q (amid i td2 (n + 1) k) (p ∷ []) ys d r (by_word q (amid i td2 (n + 1) k) p [] _ e refl)
    (starts_along rest i a F Any td2 (n + 1) k (amid i td2 (n + 1) k) x.2 (λ p f. refl, refl))
starts_along (s_here {j = g.Stars} {p = p} {xs = xs} {d = d} {r = r} b) i a F Q td n k q x acts = sinks_on g.Stars [] i td Q n x.0 k q (p ∷ xs) d r b x.1 x.2 acts
starts_along (s_here {j = g.Body} {p = p} {xs = xs} {d = d} {r = r} b) i a F Q td n k q x acts = sinks_on g.Body t.done i td Q n x.0 k q (p ∷ xs) d r b x.1 x.2 acts
starts_along (s_here {j = g.Name} b) i a F Q td n k q x acts = absurd b
starts_along (s_here {j = g.Text} b) i a F Q td n k q x acts = absurd x
starts_along (s_here {j = g.Star j} b) i a F Q td n k q x acts = absurd x
starts_along (s_here {j = g.Result} b) i a F Q td n k q x acts = absurd x
starts_along (s_here {j = g.CastType} b) i a F Q td n k q x acts = absurd x
starts_along (s_here {j = g.Postfix} b) i a F Q td n k q x acts = absurd x
starts_along (s_here {j = g.Primary} b) i a F Q td n k q x acts = absurd x
starts_along (s_here {j = j} {p = p} {xs = xs} {d = d} {r = r} b) i a F Q td n k q x acts = sinks_in j i td Q n x.0 k q p xs d r b x.1 x.2 acts
starts_along (s_later {j = g.Stars} {c = c} xs {ys = ys} {d = d} {r = r} e rest) {s = s} i a F Q td n k q x acts =
    let z = begun_on g.Stars [] c i td Q n x.0 k q xs e x.1 x.2 acts in
    sinks_more s n k q z.0 xs ys d r z.1 (starts_along rest i a F (Past g.Stars c) (x.0 c) (n + length xs) k z.0 x.3 z.2)
starts_along (s_later {j = g.Body} {c = c} xs {ys = ys} {d = d} {r = r} e rest) {s = s} i a F Q td n k q x acts =
    let z = begun_on g.Body t.done c i td Q n x.0 k q xs e x.1 x.2 acts in
    sinks_more s n k q z.0 xs ys d r z.1 (starts_along rest i a F (Past g.Body c) (x.0 c) (n + length xs) k z.0 x.3 z.2)
starts_along (s_later {j = g.Name} xs e rest) i a F Q td n k q x acts = absurd e
starts_along (s_later {j = g.Text} xs e rest) i a F Q td n k q x acts = absurd x
starts_along (s_later {j = g.Star j} xs e rest) i a F Q td n k q x acts = absurd x
starts_along (s_later {j = g.Result} xs e rest) i a F Q td n k q x acts = absurd x
starts_along (s_later {j = g.CastType} xs e rest) i a F Q td n k q x acts = absurd x
starts_along (s_later {j = g.Postfix} xs e rest) i a F Q td n k q x acts = absurd x
starts_along (s_later {j = g.Primary} xs e rest) i a F Q td n k q x acts = absurd x
starts_along (s_later {j = j} {c = c} xs {ys = ys} {d = d} {r = r} e rest) {s = s} i a F Q td n k q x acts =
    let z = entered j c i td Q n x.0 k q xs e x.1 x.2 acts in
    sinks_more s n k q z.0 xs ys d r z.1 (starts_along rest i a F (Past j c) (x.0 c) (n + length xs) k z.0 x.3 z.2)
