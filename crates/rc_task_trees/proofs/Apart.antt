-- In the words of an item no `void` stands directly behind a `;`.
use Rattle.rc_task_trees.proofs.Common.{◌≡◌, not, ◌&&◌, refl, sym, ◌∙◌, Some, Key, Void, Spot, Word, key, mark, Symbol, TreeOf, Placed, Part, word, node, Rule, Derives, itself, by, DeriveAll, done, then, note_of, and_true}
use Rattle.std.proofs.Common.{List, [], ◌∷◌, ◌++◌, Bool, true, false}
use Rattle.rc_syntax.specs.declared.word.Mark.TheVariants as m
use Rattle.rc_syntax.specs.declared.tree.Note as notes
use Rattle.rc_syntax.specs.declared.tree.Note.TheVariants as n
use Rattle.rc_syntax.specs.Grammar as g

abbrev pub is_void : Word → Bool
is_void (key Void) = true
is_void _ = false

abbrev pub is_semicolon : Word → Bool
is_semicolon (mark m.Semicolon) = true
is_semicolon _ = false

-- no `void` directly behind a `;`, where one stands before or not
abbrev pub Apart : (before : Bool) → List Placed → Type 0
Apart b [] = Unit {0}
Apart b (p ∷ ps) = ((is_void p.word && b) ≡ false) × Apart (is_semicolon p.word) ps

abbrev behind : Bool → List Placed → Bool
behind b [] = b
behind b (p ∷ ps) = behind (is_semicolon p.word) ps

and_none : (x : Bool) → (x && false) ≡ false
and_none true = refl
and_none false = refl

any : (b : Bool) (xs : List Placed) → Apart true xs → Apart b xs
any b [] h = tt
any true (p ∷ xs) h = h
any false (p ∷ xs) h = (and_none (is_void p.word), h.1)

apart_on : (b : Bool) (xs ys : List Placed) → Apart b xs → Apart true ys → Apart b (xs ++ ys)
apart_on b [] ys h i = any b ys i
apart_on b (x ∷ xs) ys h i = (h.0, apart_on (is_semicolon x.word) xs ys h.1 i)

-- whether the symbol may stand where a `;` may be before it
abbrev may : Symbol → Bool → Bool
may g.Text b = false
may g.Item b = not b
may g.Result b = not b
may g.ParamsEnd b = not b
may s b = true

abbrev fits : Bool → List Part → Bool
fits b [] = true
fits b (word w ∷ ps) = not (is_void w && b) && fits (is_semicolon w) ps
fits b (node s a ∷ ps) = may s b && fits true ps

noted : (note : notes.Note) (i : Key) → note_of note ≡ Some i → is_void (key i) ≡ false
noted n.Plain i e = absurd (cc)
noted n.SameRegion i e = (cc)
noted n.ParentPtr i e = (cc)
noted n.Traditional i e = (cc)

fits_rule : {at : Spot} {s : Symbol} {a : TreeOf s} {ps : List Part} → Rule at s a ps → (b : Bool) → may s b ≡ true → fits b ps ≡ true
fits_rule g.no_items b h = absurd (cc)
fits_rule g.items b h = absurd (cc)
fits_rule g.a_function true h = absurd (cc)
fits_rule g.a_function false h = refl
fits_rule g.a_void true h = absurd (cc)
fits_rule g.a_void false h = refl
fits_rule g.void_params true h = absurd (cc)
fits_rule g.void_params false h = refl
fits_rule (g.noted_star note {i = i} e) b h = rw (noted note i e) refl
fits_rule rule b h = refl

not_true : (x : Bool) → not x ≡ true → x ≡ false
not_true true e = absurd (cc)
not_true false e = refl

mutual
  pub apart : {ws : List Placed} {s : Symbol} {a : TreeOf s} → Derives ws (node s a) → (b : Bool) → may s b ≡ true → Apart b ws
  apart (by h rule ds) b e = apart_all ds b (fits_rule rule b e)

  apart_all : {ws : List Placed} {ps : List Part} → DeriveAll ws ps → (b : Bool) → fits b ps ≡ true → Apart b ws
  apart_all done b e = tt
  apart_all (then {ps = ps} (itself {i = i}) ds) b e =
      let f = and_true (not (is_void i && b)) (fits (is_semicolon i) ps) e in
      (not_true (is_void i && b) f.0, apart_all ds (is_semicolon i) f.1)
  apart_all (then {xs = xs} {ys = ys} {p = node s a} {ps = ps} d ds) b e =
      let f = and_true (may s b) (fits true ps) e in
      apart_on b xs ys (apart d b f.0) (apart_all ds true f.1)

pub not_apart : (b : Bool) (xs more : List Placed) (s v : Placed) → is_semicolon s.word ≡ true → is_void v.word ≡ true → Apart b (xs ++ s ∷ v ∷ more) → ⊥
not_apart b [] more s v e f h = let i : (is_void v.word && is_semicolon s.word) ≡ false = h.1.0 in let j : (is_void v.word && is_semicolon s.word) ≡ true = rw (f, e) refl in let k : true ≡ false = sym j ∙ i in cc
not_apart b (x ∷ xs) more s v e f h = not_apart (is_semicolon x.word) xs more s v e f h.1
