-- What the reader reads, the grammar begins and derives: what is known while a symbol is read, and that each step keeps it.
use Rattle.std.proofs.Common.{ℕ, ◌≡◌, ◌≤◌, ◌+◌, ◌-◌, nat_le, List, [], ◌∷◌, ◌++◌, append_assoc, append-nil, length, length-append, Option, Some, None, Bool, true, false, refl, ap, sym, ◌∙◌, subst, arith, ◌⊎◌, inl, inr}
use Rattle.rc_syntax.specs.declared.tree.Spot.{Spot}
use Rattle.rc_syntax.specs.declared.tree.BinaryOp.{BinaryOp}
use Rattle.rc_syntax.specs.declared.word.Mark.TheVariants.{OpenBracket, Dot, Arrow}
use Rattle.rc_syntax.specs.Tokens.{Word, mark}
use Rattle.rc_syntax.specs.Tree as t
use Rattle.rc_syntax.specs.Grammar as g
use Rattle.rc_syntax.specs.Grammar.{Symbol, TreeOf, Placed, node, Derives, Begins, adds, reach, level_of, ends_open}
use Rattle.rc_syntax.specs.reader.Todo.{Todo, stop, build, try, enter, peek, begin, resume, Deeper, only, within, is_stop, refuses}
use Rattle.rc_syntax.specs.reader.Reading.{first, tail, binary_of, is_question, is_else}
use Rattle.rc_syntax.specs.reader.Steps.{amid}
use Rattle.rc_syntax.specs.reader.Steps.{Stack, bottom, frame, State, about, first_of, taken, place, offer, give, closed, step, fed, feed, last, whole, finish, opened, depth, reached, reach_of}

-- The words are some, and begin at the spot.
abbrev pub Since : Spot → List Placed → Type 0
Since i [] = ⊥
Since i (p ∷ ps) = p.spot ≡ i

-- How a symbol began: with some word, with the word at the spot, or anyhow.
pub data Entry : Type 0 where
  some : Entry
  exactly : Spot → Entry
  anyhow : Entry

abbrev pub Started : Entry → Spot → List Placed → Type 0
Started some o zs = Since o zs
Started (exactly i) o zs = (o ≡ i) × Since i zs
Started anyhow o zs = Unit {0}

-- The spot is known where what goes on with the symbol needs it.
abbrev pub Ready : Symbol → Spot → List Placed → Type 0
Ready (g.Level i) o zs = Since o zs
Ready g.Unary o zs = Since o zs
Ready s o zs = Unit {0}

abbrev pub next_op : Option Placed → Option BinaryOp
next_op None = None
next_op (Some p) = binary_of p.word

abbrev pub asks : Option Placed → Bool
asks None = false
asks (Some p) = is_question p.word

abbrev pub is_postfix : Word → Bool
is_postfix (mark OpenBracket) = true
is_postfix (mark Dot) = true
is_postfix (mark Arrow) = true
is_postfix _ = false

abbrev pub goes_in : Option Placed → Bool
goes_in None = false
goes_in (Some p) = is_postfix p.word

abbrev pub parts : Option Placed → Bool
parts None = false
parts (Some p) = is_else p.word

-- An expression of level i, where this is the next word.
pub record LevelDone (i : ℕ) (ys : List Placed) (a : t.Expr) (v : Option Placed) : Type 0 where
  pub low : Derives ys (node (g.Level i) a)
  pub operator : (op : BinaryOp) → next_op v ≡ Some op → i ≤ level_of op → Derives ys (node (g.Level (level_of op)) a)
  pub question : asks v ≡ true → i ≡ 0 → Derives ys (node (g.Level 1) a)

pub record UnaryDone (ys : List Placed) (a : t.Expr) (v : Option Placed) : Type 0 where
  pub whole : Derives ys (node g.Unary a)
  pub postfix : goes_in v ≡ true → Derives ys (node g.Postfix a)

pub record ArmDone (ys : List Placed) (a : t.Expr) (v : Option Placed) : Type 0 where
  pub whole : Derives ys (node g.Arm a)
  pub operator : next_op v ≡ None
  pub question : asks v ≡ false

pub record StmtDone (ys : List Placed) (a : t.Stmt) (v : Option Placed) : Type 0 where
  pub whole : Derives ys (node g.Stmt a)
  pub ended : parts v ≡ true → ends_open a ≡ false

-- The symbol is complete, where this is the next word.
abbrev pub Done : (s : Symbol) → List Placed → TreeOf s → Option Placed → Type 0
Done (g.Level i) ys a v = LevelDone i ys a v
Done g.Unary ys a v = UnaryDone ys a v
Done g.Arm ys a v = ArmDone ys a v
Done g.Stmt ys a v = StmtDone ys a v
Done s ys a v = Derives ys (node s a)

-- The word doesn't go on with the complete symbol.
abbrev pub Passes : (s : Symbol) → Spot → TreeOf s → Option Placed → Type 0
Passes s i a None = Unit {0}
Passes s i a (Some p) = refuses (tail s i a p) ≡ true

abbrev pub Skips : {s : Symbol} → (Placed → Todo s) → Option Placed → Type 0
Skips f None = Unit {0}
Skips f (Some p) = is_stop (f p) ≡ true

-- The symbol has productions: no level is above 11.
abbrev pub is_used : Symbol → Bool
is_used (g.Level i) = nat_le i 11
is_used _ = true

-- Behind these words of the symbol the other may begin.
pub record Hole (ys : List Placed) (s j : Symbol) : Type 0 where
  pub used : is_used j ≡ true
  pub begins : (zs : List Placed) (d r : ℕ) → Begins zs j d r → Begins (ys ++ zs) s (adds s + d) (reach s (length (ys ++ zs)) r)

-- The last of these words is one of the symbol itself.
abbrev pub Stands : List Placed → Symbol → Type 0
Stands ys s = Begins ys s (adds s + 0) (reach s (length ys) 0)

-- What is left is right behind these words of the symbol, which began at the spot, where this is the next word.
abbrev pub Left : {s : Symbol} → Option Placed → Spot → List Placed → Todo s → Type 0
Left v i ys stop = Unit {0}
Left {s = s} v i ys (build a) = Done s ys a v
Left {s = s} v i ys (try f td) =
    ((p : Placed) → v ≡ Some p → (is_stop (f p) ≡ false → Stands (ys ++ p ∷ []) s) × ((w : Option Placed) → Left w i (ys ++ p ∷ []) (f p)))
    × (Skips f v → Left v i ys td)
Left {s = s} v i ys (enter j h) =
    Hole ys s j × ((w : Option Placed) (o : Spot) (zs : List Placed) (a : TreeOf j) → Done j zs a w → Passes j o a w → Since o zs → Left w i (ys ++ zs) (h a))
Left v i ys (peek f) = (p : Placed) → v ≡ Some p → Left v i ys (f (length ys) p)
Left {s = s} v i ys (begin j c h) =
    Hole ys s j × ((w : Option Placed) → Done j [] c w) × ((o : Spot) (zs : List Placed) → Ready j o zs)
    × ((o : Spot) → Passes j o c v → Left v i ys (h c))
    × ((p : Placed) → v ≡ Some p → (w : Option Placed) (o : Spot) (zs : List Placed) (a : TreeOf j) → Done j zs a w → Passes j o a w → Since p.spot zs → Left w i (ys ++ zs) (h a))
Left {s = s} v i ys (resume o m j h td) =
    (xs us : List Placed) × (ys ≡ xs ++ us) × (length xs ≡ m) × Since o us × Hole xs s j × Left v o us td
    × ((w : Option Placed) (q : Spot) (zs : List Placed) (a : TreeOf j) → Done j zs a w → Passes j q a w → Since q zs → Left w i (xs ++ zs) (h a))

-- What a word leads to is right behind these words.
abbrev pub Goes : {s : Symbol} → Spot → List Placed → Placed → Deeper s → Type 0
Goes {s = s} i ys p (only td) = (is_stop td ≡ false → Stands (ys ++ p ∷ []) s) × ((w : Option Placed) → Left w i (ys ++ p ∷ []) td)
Goes {s = s} i ys p (within j h d) =
    Hole ys s j × ((w : Option Placed) (o : Spot) (zs : List Placed) (a : TreeOf j) → Done j zs a w → Passes j o a w → Since p.spot zs → Left w i (ys ++ zs) (h a))
    × Goes p.spot [] p d

-- The words leave this open, and the symbol inside of it begins so.
pub data Opens : (root s : Symbol) → Entry → List Placed → Stack root s → Type 0 where
  o_bottom : {root : Symbol} {e : Entry} → ((o : Spot) (zs : List Placed) → Started e o zs → Ready root o zs) → Opens root root e [] bottom
  o_frame : {root s j : Symbol} {b e : Entry} {xs : List Placed} (ys : List Placed) {i : Spot} {h : TreeOf j → Todo s} {k : Stack root s} →
      Opens root s b xs k → ((o : Spot) (zs us : List Placed) → Started e o zs → Started b i ((ys ++ zs) ++ us)) →
      ((o : Spot) (zs : List Placed) → Started e o zs → Ready j o zs) → Hole ys s j →
      ((w : Option Placed) (o : Spot) (zs : List Placed) (a : TreeOf j) → Done j zs a w → Passes j o a w → Started e o zs → Left w i (ys ++ zs) (h a)) →
      Opens root j e (xs ++ ys) (frame i (length ys) h k)

pub data Holds : (root : Symbol) → List Placed → State root → Type 0 where
  h_about : {root s : Symbol} {xs : List Placed} {k : Stack root s} → is_used s ≡ true → Opens root s some xs k → Holds root xs (about k)
  h_amid : {root s : Symbol} {e : Entry} {xs : List Placed} (ys : List Placed) {i : Spot} {td : Todo s} {k : Stack root s} →
      Opens root s e xs k → ((us : List Placed) → Started e i (ys ++ us)) → ((w : Option Placed) → Left w i ys td) → Holds root (xs ++ ys) (amid i td (length ys) k)

pub since_on : (o : Spot) (zs us : List Placed) → Since o zs → Since o (zs ++ us)
since_on o [] us h = absurd h
since_on o (z ∷ zs) us h = h

pub since_ready : (j : Symbol) (o : Spot) (zs : List Placed) → Since o zs → Ready j o zs
since_ready (g.Level i) o zs h = h
since_ready g.Unary o zs h = h
since_ready _ o zs h = tt

ready_of : {root s : Symbol} {e : Entry} {xs : List Placed} {k : Stack root s} → Opens root s e xs k → (o : Spot) (zs : List Placed) → Started e o zs → Ready s o zs
ready_of (o_bottom f) = f
ready_of (o_frame ys o joins ready hole keep) = ready

pub recount : {xs ys : List Placed} {s : Symbol} {d e q r : ℕ} → Begins xs s d q → xs ≡ ys → d ≡ e → q ≡ r → Begins ys s e r
recount {xs = xs} {ys = ys} {s = s} {d = d} {e = e} {q = q} {r = r} b h i j =
    let P : List Placed → Type 0 = λ ws. Begins ws s e r in
    let Q : ℕ → Type 0 = λ n. Begins xs s n r in
    let R : ℕ → Type 0 = λ n. Begins xs s d n in
    subst P h (subst Q i (subst R j b))

-- The reach of a word that has this reach in the symbol itself.
abbrev pub outer : {root s : Symbol} → Stack root s → ℕ → ℕ → ℕ
outer bottom n r = r
outer (frame i m h k) n r = reached k (m + n) r

pub reached_outer : {root s : Symbol} (k : Stack root s) (n r : ℕ) → reached k n r ≡ outer k n (reach s n r)
reached_outer bottom n r = refl
reached_outer (frame i m h k) n r = refl

begun : {root s : Symbol} {e : Entry} {xs ys : List Placed} {k : Stack root s} {d r : ℕ} → Opens root s e xs k → Begins ys s d r → Begins (xs ++ ys) root (opened k + d) (outer k (length ys) r)
begun (o_bottom f) b = recount b refl (omega arith) refl
begun {ys = ys} {d = d} {r = r} (o_frame {s = s} {xs = xs} us {k = k} o joins ready hole keep) b =
    recount (begun o (hole.begins ys d r b)) (sym (append_assoc xs us ys)) (omega arith)
    (sym (reached_outer k (length (us ++ ys)) r) ∙ ap (λ m. reached k m r) (length-append us ys))

standing : {root s : Symbol} {e : Entry} {xs ys : List Placed} {k : Stack root s} → Opens root s e xs k → Stands ys s → Begins (xs ++ ys) root (opened k + adds s) (reached k (length ys) 0)
standing {ys = ys} {k = k} o b = recount (begun o b) refl (omega arith) (sym (reached_outer k (length ys) 0))

-- The words lead to the state, and begin the root.
abbrev pub Kept : (root : Symbol) → List Placed → State root → Type 0
Kept root ws r = Holds root ws r × Begins ws root (depth r) (reach_of r)

kept_along : {root : Symbol} {ws vs : List Placed} {r : State root} → ws ≡ vs → Kept root ws r → Kept root vs r
kept_along {root = root} {r = r} e h = let P : List Placed → Type 0 = λ x. Kept root x r in subst P e h

some_is : {A : Type 0} {x y : A} → Some x ≡ Some y → x ≡ y
some_is e = cc

one_of : {A : Type 0} (x y : Option A) (r : A) → first_of x y ≡ Some r → (x ≡ Some r) ⊎ ((x ≡ None) × (y ≡ Some r))
one_of (Some a) y r e = inl e
one_of None y r e = inr (refl, e)

taken_some : {root s : Symbol} (td : Todo s) (i : Spot) (n : ℕ) (k : Stack root s) (r : State root) → taken td i n k ≡ Some r → (is_stop td ≡ false) × (amid i td (n + 1) k ≡ r)
taken_some stop i n k r e = absurd (cc)
taken_some (build a) i n k r e = (refl, some_is e)
taken_some (try f td) i n k r e = (refl, some_is e)
taken_some (enter j h) i n k r e = (refl, some_is e)
taken_some (peek f) i n k r e = (refl, some_is e)
taken_some (begin j a h) i n k r e = (refl, some_is e)
taken_some (resume o m j h td) i n k r e = (refl, some_is e)

taken_none : {root s : Symbol} (td : Todo s) (i : Spot) (n : ℕ) (k : Stack root s) → taken td i n k ≡ None → is_stop td ≡ true
taken_none stop i n k e = refl
taken_none (build a) i n k e = absurd (cc)
taken_none (try f td) i n k e = absurd (cc)
taken_none (enter j h) i n k e = absurd (cc)
taken_none (peek f) i n k e = absurd (cc)
taken_none (begin j a h) i n k e = absurd (cc)
taken_none (resume o m j h td) i n k e = absurd (cc)

pub place_none : {root s : Symbol} (p : Placed) (d : Deeper s) (i : Spot) (n : ℕ) (k : Stack root s) → place p d i n k ≡ None → refuses d ≡ true
place_none p (only td) i n k e = taken_none td i n k e
place_none p (within j h d) i n k e = place_none p d p.spot 0 (frame i n h k) e

one_more : (ys : List Placed) (p : Placed) → length (ys ++ p ∷ []) ≡ length ys + 1
one_more ys p = length-append ys (p ∷ [])

took : {root s : Symbol} {e : Entry} {xs : List Placed} {k : Stack root s} (td : Todo s) (i : Spot) (ys : List Placed) (p : Placed) (r : State root) →
    Opens root s e xs k → ((zs : List Placed) → Since p.spot zs → Started e i (ys ++ zs)) →
    (is_stop td ≡ false → Stands (ys ++ p ∷ []) s) → ((w : Option Placed) → Left w i (ys ++ p ∷ []) td) →
    taken td i (length ys) k ≡ Some r → Kept root (xs ++ (ys ++ p ∷ [])) r
took {root = root} {s = s} {e = e} {xs = xs} {k = k} td i ys p r o ready stands left h =
    let x = taken_some td i (length ys) k r h in
    let same : amid i td (length (ys ++ p ∷ [])) k ≡ r = ap (λ n. amid i td n k) (one_more ys p) ∙ x.1 in
    let steady : (us : List Placed) → Started e i ((ys ++ p ∷ []) ++ us) = λ us. (let P : List Placed → Type 0 = λ l. Started e i l in subst P (sym (append_assoc ys (p ∷ []) us)) (ready (p ∷ us) refl)) in
    let P : State root → Type 0 = λ q. Kept root (xs ++ (ys ++ p ∷ [])) q in
    subst P same (h_amid (ys ++ p ∷ []) o steady left, standing o (stands x.0))

place_holds : {root s : Symbol} {e : Entry} {xs : List Placed} {k : Stack root s} (d : Deeper s) (i : Spot) (ys : List Placed) (p : Placed) (r : State root) →
    Opens root s e xs k → ((zs : List Placed) → Since p.spot zs → Started e i (ys ++ zs)) → Goes i ys p d →
    place p d i (length ys) k ≡ Some r → Kept root (xs ++ (ys ++ p ∷ [])) r
place_holds (only td) i ys p r o ready g h = took td i ys p r o ready g.0 g.1 h
place_holds {e = e} {xs = xs} (within j f d) i ys p r o ready g h =
    kept_along (append_assoc xs ys (p ∷ []))
    (place_holds d p.spot [] p r
    (o_frame {e = exactly p.spot} ys o
    (λ q zs us x. let P : List Placed → Type 0 = λ l. Started e i l in subst P (sym (append_assoc ys zs us)) (ready (zs ++ us) (since_on p.spot zs us x.1)))
    (λ q zs x. since_ready j q zs (let P : Spot → Type 0 = λ y. Since y zs in subst P (sym x.0) x.1))
    g.0 (λ w q zs a x y z. g.1 w q zs a x y z.1))
    (λ zs z. (refl, z)) g.2 h)

left_along : {s : Symbol} (v : Option Placed) (i : Spot) (ys zs : List Placed) (td : Todo s) → ys ≡ zs → Left v i ys td → Left v i zs td
left_along v i ys zs td e h = let P : List Placed → Type 0 = λ l. Left v i l td in subst P e h

done_along : (s : Symbol) (v : Option Placed) {ys zs : List Placed} (a : TreeOf s) → ys ≡ zs → Done s ys a v → Done s zs a v
done_along s v a e h = let P : List Placed → Type 0 = λ l. Done s l a v in subst P e h

start_of : (e : Entry) (i : Spot) (ys : List Placed) → ((zs : List Placed) → Started e i (ys ++ zs)) → Started e i ys
start_of e i ys f = let P : List Placed → Type 0 = λ l. Started e i l in subst P (append-nil ys) (f [])

-- How a symbol began is seen by its first word.
same_start : (e : Entry) (i : Spot) (y z : Placed) (ys zs : List Placed) → y.spot ≡ z.spot → Started e i (y ∷ ys) → Started e i (z ∷ zs)
same_start some i y z ys zs h x = sym h ∙ x
same_start (exactly o) i y z ys zs h x = (x.0, sym h ∙ x.1)
same_start anyhow i y z ys zs h x = tt

begins_alike : (e : Entry) (i o : Spot) (vs us zs ws : List Placed) → Since o us → Since o zs → Started e i (vs ++ us) → Started e i ((vs ++ zs) ++ ws)
begins_alike e i o [] [] zs ws x y z = absurd x
begins_alike e i o [] (u ∷ us) [] ws x y z = absurd y
begins_alike e i o [] (u ∷ us) (v ∷ zs) ws x y z = same_start e i u v us (zs ++ ws) (x ∙ sym y) z
begins_alike e i o (v ∷ vs) us zs ws x y z = same_start e i v v (vs ++ us) ((vs ++ zs) ++ ws) refl z

cut_less : (xs us : List Placed) (m : ℕ) → length xs ≡ m → length (xs ++ us) - m ≡ length us
cut_less xs us m h = let e : length (xs ++ us) ≡ length xs + length us = length-append xs us in omega arith

module _
    (firsts : (s : Symbol) (p : Placed) → is_used s ≡ true → Goes p.spot [] p (first s p))
    (tails : (s : Symbol) (i : Spot) (ys : List Placed) (a : TreeOf s) (p : Placed) → Ready s i ys → Done s ys a (Some p) → Goes i ys p (tail s i a p)) where
  -- The complete symbol goes on, or passes the word back.
  goes_on : {root s : Symbol} {e : Entry} {xs : List Placed} {k : Stack root s} (i : Spot) (ys : List Placed) (a : TreeOf s) (p : Placed) (r : State root) (o : Option (State root)) →
      Opens root s e xs k → ((zs : List Placed) → Since p.spot zs → Started e i (ys ++ zs)) → Ready s i ys → Done s ys a (Some p) →
      (refuses (tail s i a p) ≡ true → o ≡ Some r → Kept root (xs ++ (ys ++ p ∷ [])) r) →
      first_of (place p (tail s i a p) i (length ys) k) o ≡ Some r → Kept root (xs ++ (ys ++ p ∷ [])) r
  goes_on {s = s} {k = k} i ys a p r o op ready known d f h =
      elim (one_of (place p (tail s i a p) i (length ys) k) o r h) [
        | inl x ↦ place_holds (tail s i a p) i ys p r op ready (tails s i ys a p known d) x
        | inr x ↦ f (place_none p (tail s i a p) i (length ys) k x.0) x.1
      ]

  offer_holds : {root s : Symbol} {e : Entry} {xs : List Placed} {k : Stack root s} (td : Todo s) (i : Spot) (ys : List Placed) (p : Placed) (r : State root) (back : TreeOf s → Option (State root)) →
      Opens root s e xs k → ((zs : List Placed) → Started e i (ys ++ zs)) → Left (Some p) i ys td →
      ((a : TreeOf s) → Done s ys a (Some p) → back a ≡ Some r → Kept root (xs ++ (ys ++ p ∷ [])) r) →
      offer p td i (length ys) k back ≡ Some r → Kept root (xs ++ (ys ++ p ∷ [])) r
  offer_holds stop i ys p r back o steady left b h = absurd (cc)
  offer_holds (build a) i ys p r back o steady left b h = b a left h
  offer_holds {k = k} (try f td) i ys p r back o steady left b h =
      elim (one_of (taken (f p) i (length ys) k) (offer p td i (length ys) k back) r h) [
        | inl x ↦ took (f p) i ys p r o (λ zs z. steady zs) (left.0 p refl).0 (left.0 p refl).1 x
        | inr x ↦ offer_holds td i ys p r back o steady (left.1 (taken_none (f p) i (length ys) k x.0)) b x.1
      ]
  offer_holds {e = e} {xs = xs} (enter j f) i ys p r back o steady left b h =
      kept_along (append_assoc xs ys (p ∷ []))
      (place_holds (first j p) p.spot [] p r
      (o_frame {e = some} ys o
      (λ q zs us x. let P : List Placed → Type 0 = λ l. Started e i l in subst P (sym (append_assoc ys zs us)) (steady (zs ++ us)))
      (λ q zs x. since_ready j q zs x) left.0 (λ w q zs a x y z. left.1 w q zs a x y z))
      (λ zs z. z) (firsts j p left.0.used) h)
  offer_holds (peek f) i ys p r back o steady left b h = offer_holds (f (length ys) p) i ys p r back o steady (left p refl) b h
  offer_holds {e = e} {xs = xs} {k = k} (begin j c f) i ys p r back o steady left b h =
      elim (one_of (place p (tail j p.spot c p) p.spot 0 (frame i (length ys) f k)) (offer p (f c) i (length ys) k back) r h) [
        | inl x ↦
            kept_along (append_assoc xs ys (p ∷ []))
            (place_holds (tail j p.spot c p) p.spot [] p r
            (o_frame {e = exactly p.spot} ys o
            (λ q zs us x. let P : List Placed → Type 0 = λ l. Started e i l in subst P (sym (append_assoc ys zs us)) (steady (zs ++ us)))
            (λ q zs x. left.2 q zs) left.0 (λ w q zs a x y z. left.4 p refl w q zs a x y z.1))
            (λ zs z. (refl, z)) (tails j p.spot [] c p (left.2 p.spot []) (left.1 (Some p))) x)
        | inr x ↦
            offer_holds (f c) i ys p r back o steady
            (left.3 p.spot (place_none p (tail j p.spot c p) p.spot 0 (frame i (length ys) f k) x.0)) b x.1
      ]
  offer_holds {root = root} {s = s} {e = e} {xs = xs} {k = k} (resume own m j f td) i ys p r back o steady left b h =
      let vs = left.0 in
      let us = left.1 in
      let cut : ys ≡ vs ++ us = left.2 in
      let many : length vs ≡ m = left.3 in
      let n = length ys - m in
      let less : n ≡ length us = ap (λ l. length l - m) cut ∙ cut_less vs us m many in
      let F : ℕ → ℕ → Option (State root) = λ x y. offer p td own x (frame i y f k) (λ a. first_of (place p (tail j own a p) own x (frame i y f k)) (offer p (f a) i (length ys) k back)) in
      let moved : F (length us) (length vs) ≡ Some r = ap (λ x. F x (length vs)) (sym less) ∙ ap (F n) many ∙ h in
      let joined : (xs ++ vs) ++ (us ++ p ∷ []) ≡ xs ++ (ys ++ p ∷ []) = simp append_assoc (ap (λ l. xs ++ l) (sym (append_assoc vs us (p ∷ [])) ∙ ap (λ l. l ++ p ∷ []) (sym cut))) in
      let op : Opens root j (exactly own) (xs ++ vs) (frame i (length vs) f k) = o_frame {e = exactly own} vs o
      (λ q zs ws x. begins_alike e i own vs us zs ws left.4 x.1 (let P : List Placed → Type 0 = λ l. Started e i l in subst P cut (start_of e i ys steady)))
      (λ q zs x. since_ready j q zs (let P : Spot → Type 0 = λ y. Since y zs in subst P (sym x.0) x.1)) left.5
      (λ w q zs a x y z. left.7 w q zs a x y (let P : Spot → Type 0 = λ u. Since u zs in subst P (sym z.0) z.1)) in
      kept_along joined
      (offer_holds td own us p r (λ a. first_of (place p (tail j own a p) own (length us) (frame i (length vs) f k)) (offer p (f a) i (length ys) k back)) op
      (λ zs. (refl, since_on own us zs left.4)) left.6
      (λ a d g. goes_on own us a p r (offer p (f a) i (length ys) k back) op (λ zs z. (refl, since_on own us zs left.4)) (since_ready j own us left.4) d
      (λ y z. kept_along (sym joined) (offer_holds (f a) i ys p r back o steady (left_along (Some p) i (vs ++ us) ys (f a) (sym cut) (left.7 (Some p) own us a d y left.4)) b z)) g)
      moved)

  give_holds : {root s : Symbol} {e : Entry} {xs : List Placed} {k : Stack root s} (o : Spot) (ys : List Placed) (a : TreeOf s) (p : Placed) (r : State root) →
      Opens root s e xs k → Started e o ys → Done s ys a (Some p) → refuses (tail s o a p) ≡ true →
      give p k (length ys) a ≡ Some r → Kept root (xs ++ (ys ++ p ∷ [])) r
  give_holds o ys a p r (o_bottom f) st d x h = absurd (cc)
  give_holds {root = root} o ys a p r (o_frame {s = s} {b = b} {xs = xs} us {i = i} {h = f} {k = k} op joins ready hole keep) st d x h =
      let n = length us + length ys in
      let sum : n ≡ length (us ++ ys) = sym (length-append us ys) in
      let F : ℕ → Option (State root) = λ m. offer p (f a) i m k (λ c. first_of (place p (tail s i c p) i m k) (give p k m c)) in
      let steady : (zs : List Placed) → Started b i ((us ++ ys) ++ zs) = λ zs. joins o ys zs st in
      let begins : Started b i (us ++ ys) = start_of b i (us ++ ys) steady in
      kept_along (simp append_assoc refl)
      (offer_holds (f a) i (us ++ ys) p r (λ c. first_of (place p (tail s i c p) i (length (us ++ ys)) k) (give p k (length (us ++ ys)) c)) op steady (keep (Some p) o ys a d x st)
      (λ c y z. goes_on i (us ++ ys) c p r (give p k (length (us ++ ys)) c) op (λ zs u. steady zs) (ready_of op i (us ++ ys) begins) y
      (λ u v. give_holds i (us ++ ys) c p r op begins y u v) z)
      (ap F (sym sum) ∙ h))

  step_holds : {root : Symbol} {ws : List Placed} (q r : State root) (p : Placed) → Holds root ws q → step q p ≡ Some r → Kept root (ws ++ p ∷ []) r
  step_holds (about {s = s} k) r p (h_about used o) h = place_holds (first s p) p.spot [] p r o (λ zs z. z) (firsts s p used) h
  step_holds (amid {s = s} i td n k) r p (h_amid {e = e} {xs = xs} ys o steady left) h =
      let begins : Started e i ys = start_of e i ys steady in
      kept_along (sym (append_assoc xs ys (p ∷ [])))
      (offer_holds td i ys p r (closed p i (length ys) k) o steady (left (Some p))
      (λ c y z. goes_on i ys c p r (give p k (length ys) c) o (λ zs u. steady zs) (ready_of o i ys begins) y
      (λ u v. give_holds i ys c p r o begins y u v) z)
      h)

  fed_some : {A B : Type 0} (o : Option A) (f : A → Option B) (r : B) → fed f o ≡ Some r → (q : A) × (o ≡ Some q) × (f q ≡ Some r)
  fed_some None f r e = absurd (cc)
  fed_some (Some q) f r e = (q, refl, e)

  pub feed_holds : {root : Symbol} (xs ws : List Placed) (q r : State root) → Holds root xs q → feed q ws ≡ Some r → Holds root (xs ++ ws) r
  feed_holds {root = root} xs [] q r h e =
      let P : List Placed → Type 0 = λ l. Holds root l r in
      let Q : State root → Type 0 = λ u. Holds root xs u in
      subst P (sym (append-nil xs)) (subst Q (some_is e) h)
  feed_holds {root = root} xs (p ∷ ws) q r h e =
      let x = fed_some (step q p) (λ u. feed u ws) r e in
      let P : List Placed → Type 0 = λ l. Holds root l r in
      subst P (append_assoc xs (p ∷ []) ws) (feed_holds (xs ++ p ∷ []) ws x.0 r (step_holds q x.0 p h x.1).0 x.2)

  pub step_begins : {root : Symbol} {ws : List Placed} (q r : State root) (p : Placed) → Holds root ws q → step q p ≡ Some r → Begins (ws ++ p ∷ []) root (depth r) (reach_of r)
  step_begins q r p h e = (step_holds q r p h e).1

  -- Where the words end, the tree is theirs.
  last_done : (root : Symbol) {s : Symbol} (td : Todo s) (i : Spot) (ys ws : List Placed) (back : TreeOf s → Option (TreeOf root)) (c : TreeOf root) → Left None i ys td →
      ((a : TreeOf s) → Done s ys a None → back a ≡ Some c → Done root ws c None) → last td back ≡ Some c → Done root ws c None
  last_done root stop i ys ws back c left b h = absurd (cc)
  last_done root (build a) i ys ws back c left b h = b a left h
  last_done root (try f td) i ys ws back c left b h = last_done root td i ys ws back c (left.1 tt) b h
  last_done root (enter j f) i ys ws back c left b h = absurd (cc)
  last_done root (peek f) i ys ws back c left b h = absurd (cc)
  last_done root (begin j a f) i ys ws back c left b h =
      last_done root (f a) i ys ws back c (left.3 i tt) b h
  last_done root (resume o m j f td) i ys ws back c left b h =
      last_done root td o left.1 ws (λ a. last (f a) back) c left.6
      (λ a d g. last_done root (f a) i ys ws back c (left_along None i (left.0 ++ left.1) ys (f a) (sym left.2) (left.7 None o left.1 a d tt left.4)) b g) h

  whole_done : {root s : Symbol} {e : Entry} {xs : List Placed} {k : Stack root s} (o : Spot) (ys : List Placed) (a : TreeOf s) (c : TreeOf root) →
      Opens root s e xs k → Started e o ys → Done s ys a None → whole k a ≡ Some c → Done root (xs ++ ys) c None
  whole_done {root = root} o ys a c (o_bottom f) st d h = let P : TreeOf root → Type 0 = λ u. Done root ys u None in subst P (some_is h) d
  whole_done {root = root} o ys a c (o_frame {b = b} {xs = xs} us {i = i} {h = f} {k = k} op joins ready hole keep) st d h =
      let begins : Started b i (us ++ ys) = start_of b i (us ++ ys) (λ zs. joins o ys zs st) in
      last_done root (f a) i (us ++ ys) ((xs ++ us) ++ ys) (whole k) c (keep None o ys a d tt st)
      (λ u x g. done_along root None c (sym (append_assoc xs us ys)) (whole_done i (us ++ ys) u c op begins x g)) h

  pub finish_done : {root : Symbol} {ws : List Placed} (q : State root) (c : TreeOf root) → Holds root ws q → finish q ≡ Some c → Done root ws c None
  finish_done (about k) c (h_about used o) h = absurd (cc)
  finish_done {root = root} (amid i td n k) c (h_amid {e = e} {xs = xs} ys o steady left) h =
      last_done root td i ys (xs ++ ys) (whole k) c (left None) (λ a x g. whole_done i ys a c o (start_of e i ys steady) x g) h
