-- How the words of an item end: with `;` or `}`, and with `unsigned NAME ;` only where nothing stands before that.
use Rattle.rc_task_trees.proofs.Common.{◌≡◌, append_assoc, append-nil, not, ◌&&◌, refl, ap, sym, ◌∙◌, subst, inl, inr, Some, ◌⊎◌, Key, Unsigned, Deletes, Struct, Word, name, key, mark, Symbol, TreeOf, Placed, Part, word, node, Rule, Derives, itself, by, DeriveAll, done, then, note_of, and_true}
use Rattle.std.proofs.Common.{List, [], ◌∷◌, ◌++◌, Bool, true, false}
use Rattle.rc_syntax.specs.declared.word.Mark.TheVariants as m
use Rattle.rc_syntax.specs.declared.tree.Note as notes
use Rattle.rc_syntax.specs.declared.tree.Note.TheVariants as n
use Rattle.rc_syntax.specs.Grammar as g
use Rattle.rc_task_trees.proofs.Apart.{is_semicolon}

-- The last two words, where these two stand before.
abbrev pub last : Word → Word → List Placed → Word × Word
last a b [] = (a, b)
last a b (p ∷ ps) = last b p.word ps

pub last_on : (a b : Word) (xs ys : List Placed) → last a b (xs ++ ys) ≡ last (last a b xs).0 (last a b xs).1 ys
last_on a b [] ys = refl
last_on a b (x ∷ xs) ys = last_on b x.word xs ys

abbrev pub is_name : Word → Bool
is_name (name x) = true
is_name _ = false

abbrev pub is_ending : Word → Bool
is_ending (mark m.Semicolon) = true
is_ending (mark m.CloseBrace) = true
is_ending _ = false

-- a name and a `;`
abbrev is_named : Word × Word → Bool
is_named w = is_semicolon w.1 && is_name w.0

block_ends : {ws : List Placed} {a : TreeOf g.Block} → Derives ws (node g.Block a) → (x y : Word) → (last x y ws).1 ≡ mark m.CloseBrace
block_ends (by h g.a_block (then itself (then {xs = xs} d (then itself done)))) x y = ap (λ z. z.1) (last_on y (mark m.OpenBrace) xs _)

-- a body or none
abbrev BodyEnds : Word → Word × Word → Type 0
BodyEnds before w = (w.1 ≡ mark m.CloseBrace) ⊎ (w ≡ (before, mark m.Semicolon))

body_ends : {ws : List Placed} {a : TreeOf g.BodyEnd} → Derives ws (node g.BodyEnd a) → (x y : Word) → BodyEnds y (last x y ws)
body_ends (by h g.no_body (then itself done)) x y = inr refl
body_ends (by h g.a_body (then {xs = xs} d done)) x y = inl (ap (λ z. (last x y z).1) (append-nil xs) ∙ block_ends d x y)

-- the end of a function
record Closed (w : Word × Word) : Type 0 where
  ends : is_ending w.1 ≡ true
  unnamed : is_named w ≡ false

closed_of : (before : Word) (w : Word × Word) → is_name before ≡ false → BodyEnds before w → Closed w
closed_of before w e (inl h) = record { ends = ap is_ending h; unnamed = rw h refl }
closed_of before w e (inr h) = let P : Word × Word → Type 0 = λ z. Closed z in subst P (sym h) (record { ends = refl; unnamed = e })

function_ends : {ws : List Placed} {a : TreeOf g.FunctionEnd} → Derives ws (node g.FunctionEnd a) → (x y : Word) → is_name y ≡ false → Closed (last x y ws)
function_ends (by h g.ends (then {xs = xs} d done)) x y e =
    let P : List Placed → Type 0 = λ z. Closed (last x y z) in
    subst P (sym (append-nil xs)) (closed_of y (last x y xs) e (body_ends d x y))
function_ends (by h g.ends_deleting (then itself (then {xs = xs} d done))) x y e =
    let P : List Placed → Type 0 = λ z. Closed (last y (key Deletes) z) in
    subst P (sym (append-nil xs)) (closed_of (key Deletes) (last y (key Deletes) xs) refl (body_ends d y (key Deletes)))

params_end : {ws : List Placed} {a : TreeOf g.ParamsEnd} → Derives ws (node g.ParamsEnd a) → (x y : Word) → is_name (last x y ws).1 ≡ false
params_end (by h g.no_params (then itself done)) x y = refl
params_end (by h g.void_params (then itself (then itself done))) x y = refl
params_end (by h g.some_params (then {xs = xs} d (then itself done))) x y = ap (λ z. is_name z.1) (last_on x y xs _)

head_ends : (rs ns ps es : List Placed) (o : Placed) → ((x y : Word) → is_name (last x y ps).1 ≡ false) → ((x y : Word) → is_name y ≡ false → Closed (last x y es)) → (x y : Word) →
    Closed (last x y (rs ++ (ns ++ (o ∷ (ps ++ (es ++ []))))))
head_ends rs ns ps es o h i x y =
    let e = append-nil es in
    let a = last x y rs in
    let b = last a.0 a.1 ns in
    let c = last b.1 o.word ps in
    let P : Word × Word → Type 0 = λ z. Closed z in
    let whole : last x y (rs ++ (ns ++ (o ∷ (ps ++ (es ++ []))))) ≡ last c.0 c.1 es =
    ap (λ z. last x y (rs ++ (ns ++ (o ∷ (ps ++ z))))) e ∙ last_on x y rs (ns ++ (o ∷ (ps ++ es))) ∙ last_on a.0 a.1 ns (o ∷ (ps ++ es)) ∙ last_on b.1 o.word ps es in
    subst P (sym whole) (i c.0 c.1 (h b.1 o.word))

-- Words without `unsigned`.
abbrev pub is_unsigned : Word → Bool
is_unsigned (key Unsigned) = true
is_unsigned _ = false

abbrev pub Without : List Placed → Type 0
Without [] = Unit {0}
Without (p ∷ ps) = (is_unsigned p.word ≡ false) × Without ps

without_on : (xs ys : List Placed) → Without xs → Without ys → Without (xs ++ ys)
without_on [] ys h i = i
without_on (x ∷ xs) ys h i = (h.0, without_on xs ys h.1 i)

pub not_without : (xs more : List Placed) (u : Placed) → is_unsigned u.word ≡ true → Without (xs ++ u ∷ more) → ⊥
not_without [] more u e h = let f : true ≡ false = sym e ∙ h.0 in cc
not_without (x ∷ xs) more u e h = not_without xs more u e h.1

-- symbols that have none
abbrev free : Symbol → Bool
free g.Decs = true
free g.Dec = true
free g.FieldDec = true
free g.Constant = true
free g.Stars = true
free (g.Star i) = true
free g.Name = true
free s = false

abbrev frees : List Part → Bool
frees [] = true
frees (word w ∷ ps) = not (is_unsigned w) && frees ps
frees (node s a ∷ ps) = free s && frees ps

noted : (note : notes.Note) (i : Key) → note_of note ≡ Some i → is_unsigned (key i) ≡ false
noted n.Plain i e = absurd (cc)
noted n.SameRegion i e = (cc)
noted n.ParentPtr i e = (cc)
noted n.Traditional i e = (cc)

free_rule : {at : _} {s : Symbol} {a : TreeOf s} {ps : List Part} → Rule at s a ps → free s ≡ true → frees ps ≡ true
free_rule (g.noted_star note {i = i} e) h = rw (noted note i e) refl
free_rule rule h = (cc)

not_true : (x : Bool) → not x ≡ true → x ≡ false
not_true true e = absurd (cc)
not_true false e = refl

mutual
  pub without : {ws : List Placed} {s : Symbol} {a : TreeOf s} → Derives ws (node s a) → free s ≡ true → Without ws
  without (by h rule ds) e = without_all ds (free_rule rule e)

  without_all : {ws : List Placed} {ps : List Part} → DeriveAll ws ps → frees ps ≡ true → Without ws
  without_all done e = tt
  without_all (then {ps = ps} (itself {i = i}) ds) e =
      let f = and_true (not (is_unsigned i)) (frees ps) e in
      (not_true (is_unsigned i) f.0, without_all ds f.1)
  without_all (then {xs = xs} {ys = ys} {p = node s a} {ps = ps} d ds) e =
      let f = and_true (free s) (frees ps) e in
      without_on xs ys (without d f.0) (without_all ds f.1)

-- Each item ends with `;` or `}`.
pub item_ends : {ws : List Placed} {a : TreeOf g.Item} → Derives ws (node g.Item a) → (x y : Word) → is_ending (last x y ws).1 ≡ true
item_ends (by h g.a_struct (then itself (then {xs = xs} d (then itself (then {xs = ys} e (then itself (then itself done))))))) x y =
    ap (λ z. is_ending z.1) (last_on y _ xs _ ∙ last_on _ _ ys _)
item_ends (by h g.globals (then {xs = xs} d (then {xs = ys} e (then itself done)))) x y = ap (λ z. is_ending z.1) (last_on x y xs _ ∙ last_on (last x y xs).0 (last x y xs).1 ys _)
item_ends (by h g.a_function (then {xs = rs} r (then {xs = ns} n (then (itself {at = o}) (then {xs = ps} p (then {xs = es} e done)))))) x y =
    (head_ends rs ns ps es (record { word = mark m.OpenParenthesis; spot = o }) (params_end p) (function_ends e) x y).ends
item_ends (by h g.a_deleting (then itself (then {xs = rs} r (then {xs = ns} n (then (itself {at = o}) (then {xs = ps} p (then {xs = es} e done))))))) x y =
    (head_ends rs ns ps es (record { word = mark m.OpenParenthesis; spot = o }) (params_end p) (function_ends e) y (key Deletes)).ends

-- In a base `unsigned` is the first word.
record Tailed (ws : List Placed) : Type 0 where
  head : Placed
  tail : List Placed
  is : ws ≡ head ∷ tail
  without : Without tail

base_tail : {ws : List Placed} {a : TreeOf g.Base} → Derives ws (node g.Base a) → Tailed ws
base_tail (by h g.an_int (then itself done)) = record { head = _; tail = []; is = refl; without = tt }
base_tail (by h g.an_unsigned (then itself done)) = record { head = _; tail = []; is = refl; without = tt }
base_tail (by h g.an_unsigned_int (then itself (then itself done))) = record { head = _; tail = _; is = refl; without = (refl, tt) }
base_tail (by h g.a_char (then itself done)) = record { head = _; tail = []; is = refl; without = tt }
base_tail (by h g.a_region (then itself done)) = record { head = _; tail = []; is = refl; without = tt }
base_tail (by h g.a_named_struct (then itself (then {xs = xs} d done))) = record { head = _; tail = xs ++ []; is = refl; without = without_on xs [] (without d refl) tt }

base_first : {ws : List Placed} {a : TreeOf g.Base} → Derives ws (node g.Base a) → (xs more : List Placed) (u : Placed) → is_unsigned u.word ≡ true → ws ≡ xs ++ u ∷ more → xs ≡ []
base_first d [] more u e f = refl
base_first d (x ∷ xs) more u e f =
    let t = base_tail d in
    let i : ◌≡◌ {A = List Placed} (t.head ∷ t.tail) (x ∷ (xs ++ u ∷ more)) = sym t.is ∙ f in
    let j : t.tail ≡ xs ++ u ∷ more = cc in
    let P : List Placed → Type 0 = λ z. Without z in
    absurd (not_without xs more u e (subst P j t.without))

abbrev pub IsNamed : Placed → Placed → Placed → Type 0
IsNamed u n s = (is_unsigned u.word ≡ true) × (is_name n.word ≡ true) × (is_semicolon s.word ≡ true)

cons_same : {x y : Placed} {xs ys : List Placed} → ◌≡◌ {A = List Placed} (x ∷ xs) (y ∷ ys) → (x ≡ y) × (xs ≡ ys)
cons_same e = ((cc), (cc))

-- Of two fronts of a list one is a front of the other.
pub fronts : {A : Type 0} (xs l ys zs : List A) → xs ++ l ≡ ys ++ zs → ((us : List A) × (xs ≡ ys ++ us) × (zs ≡ us ++ l)) ⊎ ((u : A) × (us : List A) × (ys ≡ xs ++ u ∷ us) × (l ≡ u ∷ us ++ zs))
fronts xs l [] zs e = inl (xs, refl, sym e)
fronts [] l (y ∷ ys) zs e = inr (y, ys, refl, e)
fronts (x ∷ xs) l (y ∷ ys) zs e =
    let h : x ≡ y = cc in
    let i : xs ++ l ≡ ys ++ zs = cc in
    elim (fronts xs l ys zs i) [
      | inl p ↦ inl (p.0, (let j : xs ≡ ys ++ p.0 = p.1 in cc), p.2)
      | inr p ↦ inr (p.0, p.1, (let j : ys ≡ xs ++ p.0 ∷ p.1 = p.2 in cc), p.3)
    ]

none_last : {A : Type 0} (ys : List A) (y : A) → [] ≡ ys ++ y ∷ [] → ⊥
none_last [] y e = cc
none_last (z ∷ ys) y e = cc

pub same_ends : {A : Type 0} (xs ys : List A) (x y : A) → xs ++ x ∷ [] ≡ ys ++ y ∷ [] → (xs ≡ ys) × (x ≡ y)
same_ends [] [] x y e = (refl, (cc))
same_ends [] (z ∷ ys) x y e = absurd (none_last ys y (let f : [] ≡ ys ++ y ∷ [] = cc in f))
same_ends (z ∷ xs) [] x y e = absurd (none_last xs x (let f : xs ++ x ∷ [] ≡ [] = cc in sym f))
same_ends (z ∷ xs) (w ∷ ys) x y e = let f : xs ++ x ∷ [] ≡ ys ++ y ∷ [] = cc in let g : z ≡ w = cc in let h = same_ends xs ys x y f in ((let i : xs ≡ ys = h.0 in cc), h.1)

-- words that end so end with a name and a `;`
named_not : (xs : List Placed) (u n s : Placed) → IsNamed u n s → {ws : List Placed} → (x y : Word) → is_named (last x y ws) ≡ false → ws ≡ xs ++ u ∷ n ∷ s ∷ [] → ⊥
named_not xs u n s i x y e f =
    let a = i.1 in
    let b = i.2 in
    let g : is_named (last x y (xs ++ u ∷ n ∷ s ∷ [])) ≡ true = ap is_named (last_on x y xs (u ∷ n ∷ s ∷ [])) ∙ rw (b, a) refl in
    let h : true ≡ false = sym g ∙ ap (λ z. is_named (last x y z)) (sym f) ∙ e in cc

-- `unsigned NAME ;` is at the end of an item only where nothing stands before it.
pub item_named : {ws : List Placed} {a : TreeOf g.Item} → Derives ws (node g.Item a) → (xs : List Placed) (u n s : Placed) → IsNamed u n s → ws ≡ xs ++ u ∷ n ∷ s ∷ [] → xs ≡ []
item_named (by h g.a_struct (then (itself {at = o}) (then {xs = ns} d (then (itself {at = p}) (then {xs = fs} e (then (itself {at = q}) (then (itself {at = r}) done))))))) xs u n s i f =
    absurd (named_not xs u n s i u.word u.word (ap is_named (last_on u.word (key Struct) ns _ ∙ last_on (last u.word (key Struct) ns).1 (mark m.OpenBrace) fs _)) f)
item_named (by h g.globals (then {xs = bs} {ys = cs} d (then {xs = ds} e (then (itself {at = o}) done)))) xs u n s i f =
    let semi : Placed = record { word = mark m.Semicolon; spot = o } in
    let w : bs ++ ds ≡ xs ++ u ∷ n ∷ [] = (same_ends (bs ++ ds) (xs ++ u ∷ n ∷ []) semi s (append_assoc bs ds (semi ∷ []) ∙ f ∙ sym (append_assoc xs (u ∷ n ∷ []) (s ∷ [])))).0 in
    elim (fronts bs ds xs (u ∷ n ∷ []) w) [
      | inl p ↦ of_base p.0 p.1 p.2
      | inr p ↦ (let P : List Placed → Type 0 = λ z. Without z in absurd (not_without (p.0 ∷ p.1) (n ∷ []) u i.0 (subst P p.3 (without e refl))))
    ]
  where
    of_base : (us : List Placed) → bs ≡ xs ++ us → u ∷ n ∷ [] ≡ us ++ ds → xs ≡ []
    of_base [] j k = (let P : List Placed → Type 0 = λ z. Without z in absurd (not_without [] (n ∷ []) u i.0 (subst P (sym k) (without e refl))))
    of_base (v ∷ us) j k = let l = (cons_same k).0 in base_first d xs us v (ap (λ z. is_unsigned z.word) (sym l) ∙ i.0) j
item_named (by h g.a_function (then {xs = rs} r (then {xs = ns} nm (then (itself {at = o}) (then {xs = ps} p (then {xs = es} e done)))))) xs u n s i f =
    absurd (named_not xs u n s i u.word u.word (head_ends rs ns ps es (record { word = mark m.OpenParenthesis; spot = o }) (params_end p) (function_ends e) u.word u.word).unnamed f)
item_named (by h g.a_deleting (then itself (then {xs = rs} r (then {xs = ns} nm (then (itself {at = o}) (then {xs = ps} p (then {xs = es} e done))))))) xs u n s i f =
    absurd (named_not xs u n s i u.word u.word (head_ends rs ns ps es (record { word = mark m.OpenParenthesis; spot = o }) (params_end p) (function_ends e) u.word (key Deletes)).unnamed f)
