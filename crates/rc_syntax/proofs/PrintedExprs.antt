-- The words of types and expressions, as they are printed, derive them.
use Rattle.std.proofs.Common.{ℕ, ◌≡◌, ◌≤◌, ◌+◌, List, [], ◌∷◌, ◌++◌, append_assoc, append-nil, length, map, Bool, true, false, cond, refl, ap, sym, subst, arith}
use Rattle.std.proofs.lemmas.Bool.Decides.{nat_tests}
use Rattle.std.proofs.lemmas.List.{map-append, map-id}
use Rattle.std.specs.Prelude.{flat_map, nat_le}
use Rattle.rc_syntax.specs.declared.word.Mark.TheVariants as m
use Rattle.rc_syntax.specs.declared.tree.Name as names
use Rattle.rc_syntax.specs.declared.tree.Note as notes
use Rattle.rc_syntax.specs.declared.tree.Note.TheVariants as n
use Rattle.rc_syntax.specs.declared.tree.Base as bases
use Rattle.rc_syntax.specs.declared.tree.Base.TheVariants as b
use Rattle.rc_syntax.specs.declared.tree.CastType as casts
use Rattle.rc_syntax.specs.declared.tree.CastType.TheVariants as c
use Rattle.rc_syntax.specs.Tokens as w
use Rattle.rc_syntax.specs.Tokens.{Word, key, mark}
use Rattle.rc_syntax.specs.Tree as t
use Rattle.rc_syntax.specs.Grammar as g
use Rattle.rc_syntax.specs.Grammar.{Symbol, TreeOf, Placed, Part, word, node, Rule, BeginAt, Derives, itself, by, DeriveAll, done, then, level_of, with_last}
use Rattle.rc_syntax.specs.printing.Unplaced.{nowhere, unplaced_name, unplaced_base, unplaced_type, unplaced_expr, unplaced_exprs}
use Rattle.rc_syntax.specs.printing.TreeWords.{base_words, star_words, type_words, cast_words, expr_level, operand_words, expr_words, further_words}
use Rattle.rc_syntax.proofs.Fronts.{alone}
use Rattle.rc_syntax.proofs.Operands.{derives_to, unary_level, op_level}

-- The words at one spot.
abbrev placed_nowhere : Word → Placed
placed_nowhere i = record { word = i; spot = nowhere }

abbrev pub anywhere : List Word → List Placed
anywhere words = map placed_nowhere words

-- They are the tree of the symbol.
pub data Prints (s : Symbol) (words : List Word) (a : TreeOf s) : Type 0 where
  prints : Derives (anywhere words) (node s a) → Prints s words a

-- They are the parts in their order.
pub data PrintAll : List Word → List Part → Type 0 where
  nothing : PrintAll [] []
  one : {i : Word} {ws : List Word} {ps : List Part} → PrintAll ws ps → PrintAll (i ∷ ws) (word i ∷ ps)
  first : {s : Symbol} {a : TreeOf s} {xs ys : List Word} {ps : List Part} → Prints s xs a → PrintAll ys ps → PrintAll (xs ++ ys) (node s a ∷ ps)
  last : {s : Symbol} {a : TreeOf s} {xs : List Word} → Prints s xs a → PrintAll xs (node s a ∷ [])

derive_all : {ws : List Word} {ps : List Part} → PrintAll ws ps → DeriveAll (anywhere ws) ps
derive_all nothing = done
derive_all (one h) = then itself (derive_all h)
derive_all (first {s = s} {a = a} {xs = xs} {ys = ys} {ps = ps} (prints d) h) =
    let P : List Placed → Type 0 = λ z. DeriveAll z (node s a ∷ ps) in
    subst P (sym (map-append placed_nowhere xs ys)) (then d (derive_all h))
derive_all (last (prints d)) = alone d

begin_nowhere : (ws : List Word) → BeginAt nowhere (anywhere ws)
begin_nowhere [] = tt
begin_nowhere (i ∷ ws) = refl

pub print : {s : Symbol} {a : TreeOf s} {ps : List Part} {ws : List Word} → Rule nowhere s a ps → PrintAll ws ps → Prints s ws a
print {ws = ws} rule h = prints (by (begin_nowhere ws) rule (derive_all h))

-- One after the other.
pub grow : {A B : Type 0} (P : List Word → List B → Type 0) (f : A → List Word) (h : A → B) → ((ws : List Word) (bs : List B) (x : A) → P ws bs → P (ws ++ f x) (bs ++ h x ∷ [])) →
    (xs : List A) (ws : List Word) (bs : List B) → P ws bs → P (ws ++ flat_map f xs) (bs ++ map h xs)
grow {B = B} P f h more [] ws bs p =
    let Q : List Word → Type 0 = λ z. P z (bs ++ []) in
    let R : List B → Type 0 = λ z. P ws z in
    subst Q (sym (append-nil ws)) (subst R (sym (append-nil bs)) p)
grow {B = B} P f h more (x ∷ xs) ws bs p =
    let Q : List Word → Type 0 = λ z. P z (bs ++ h x ∷ map h xs) in
    let R : List B → Type 0 = λ z. P ((ws ++ f x) ++ flat_map f xs) z in
    subst Q (append_assoc ws (f x) (flat_map f xs)) (subst R (append_assoc bs (h x ∷ []) (map h xs)) (grow P f h more xs (ws ++ f x) (bs ++ h x ∷ []) (more ws bs x p)))

-- Types.
pub print_name : (x : names.Name) → Prints g.Name (w.name x.text ∷ []) (unplaced_name x)
print_name x = print g.a_name (one nothing)

pub print_base : (x : bases.Base) → Prints g.Base (base_words x) (unplaced_base x)
print_base (b.Int at) = print g.an_int (one nothing)
print_base (b.Unsigned at) = print g.an_unsigned (one nothing)
print_base (b.Char at) = print g.a_char (one nothing)
print_base (b.Region at) = print g.a_region (one nothing)
print_base (b.Struct at x) = print g.a_named_struct (one (last (print_name x)))

print_star : (i : ℕ) → Prints (g.Star i) (mark m.Star ∷ []) tt
print_star i = print g.a_star (one nothing)

another_star : (ws : List Word) (ns : List notes.Note) (note : notes.Note) → Prints g.Stars ws ns → Prints g.Stars (ws ++ star_words note) (ns ++ note ∷ [])
another_star ws ns n.Plain p = print g.plain_star (first p (last (print_star (length ns + 1))))
another_star ws ns n.SameRegion p = print (g.noted_star n.SameRegion refl) (first p (first (print_star (length ns + 1)) (one nothing)))
another_star ws ns n.ParentPtr p = print (g.noted_star n.ParentPtr refl) (first p (first (print_star (length ns + 1)) (one nothing)))
another_star ws ns n.Traditional p = print (g.noted_star n.Traditional refl) (first p (first (print_star (length ns + 1)) (one nothing)))

pub print_stars : (ns : List notes.Note) → Prints g.Stars (flat_map star_words ns) ns
print_stars ns =
    let P : List notes.Note → Type 0 = λ z. Prints g.Stars (flat_map star_words ns) z in
    subst P (map-id ns) (grow (Prints g.Stars) star_words (λ z. z) another_star ns [] [] (print g.no_stars nothing))

pub print_type : (x : t.TypeName) → Prints g.TypeName (type_words x) (unplaced_type x)
print_type x = print g.a_type (first (print_base x.base) (last (print_stars x.stars)))

print_cast : (x : casts.CastType) → Prints g.CastType (cast_words x) x
print_cast c.Int = print g.to_int (one nothing)
print_cast c.Unsigned = print g.to_unsigned (one nothing)
print_cast c.Char = print g.to_char (one nothing)

-- An expression derives from its words at each level up to its own.
pub record Stands (e : t.Expr) : Type 0 where
  pub level : (i : ℕ) → i ≤ 11 → i ≤ expr_level e → Prints (g.Level i) (expr_words e) (unplaced_expr e)
  pub unary : 11 ≤ expr_level e → Prints g.Unary (expr_words e) (unplaced_expr e)
  pub postfix : 12 ≤ expr_level e → Prints g.Postfix (expr_words e) (unplaced_expr e)

lower : {ws : List Word} {a : t.Expr} (i j : ℕ) → i ≤ j → j ≤ 11 → Prints (g.Level j) ws a → Prints (g.Level i) ws a
lower i j h l (prints d) = prints (derives_to i j h l d)

all_levels : {ws : List Word} {a : t.Expr} (i : ℕ) → i ≤ 11 → Prints g.Unary ws a → Prints (g.Level i) ws a
all_levels i h (prints d) = prints (unary_level i h d)

of_level : (e : t.Expr) (j : ℕ) → expr_level e ≡ j → j ≤ 10 → Prints (g.Level j) (expr_words e) (unplaced_expr e) → Stands e
of_level e j is h p = record { level = λ i k l. lower i j (omega (arith, is)) (omega arith) p; unary = λ l. absurd (omega (arith, is)); postfix = λ l. absurd (omega (arith, is)) }

of_unary : (e : t.Expr) → expr_level e ≡ 11 → Prints g.Unary (expr_words e) (unplaced_expr e) → Stands e
of_unary e is p = record { level = λ i k l. all_levels i k p; unary = λ l. p; postfix = λ l. absurd (omega (arith, is)) }

of_postfix : (e : t.Expr) → Prints g.Postfix (expr_words e) (unplaced_expr e) → Stands e
of_postfix e p = let q = print g.plain (last p) in record { level = λ i k l. all_levels i k q; unary = λ l. q; postfix = λ l. p }

of_primary : (e : t.Expr) → Prints g.Primary (expr_words e) (unplaced_expr e) → Stands e
of_primary e p = of_postfix e (print g.bare (last p))

le_of : (a b : ℕ) → nat_le a b ≡ true → a ≤ b
le_of a b h = grind (arith, nat_tests)

pub whole : (e : t.Expr) → Stands e → Prints (g.Level 0) (expr_words e) (unplaced_expr e)
whole e s = s.level 0 (omega arith) (omega arith)

in_parentheses : (e : t.Expr) → Stands e → Prints g.Postfix (mark m.OpenParenthesis ∷ expr_words e ++ mark m.CloseParenthesis ∷ []) (unplaced_expr e)
in_parentheses e s = print g.bare (last (print g.parentheses (one (first (whole e s) (one nothing)))))

-- As an operand it stands in parentheses where they are needed.
at_level : (i : ℕ) (e : t.Expr) → Stands e → i ≤ 11 → Prints (g.Level i) (operand_words i e (expr_words e)) (unplaced_expr e)
at_level i e s h = go (nat_le i (expr_level e)) refl
  where
    go : (v : Bool) → nat_le i (expr_level e) ≡ v → Prints (g.Level i) (cond v (expr_words e) (mark m.OpenParenthesis ∷ expr_words e ++ mark m.CloseParenthesis ∷ [])) (unplaced_expr e)
    go true k = s.level i h (le_of i (expr_level e) k)
    go false k = all_levels i h (print g.plain (last (in_parentheses e s)))

pub at_unary : (e : t.Expr) → Stands e → Prints g.Unary (operand_words 11 e (expr_words e)) (unplaced_expr e)
at_unary e s = go (nat_le 11 (expr_level e)) refl
  where
    go : (v : Bool) → nat_le 11 (expr_level e) ≡ v → Prints g.Unary (cond v (expr_words e) (mark m.OpenParenthesis ∷ expr_words e ++ mark m.CloseParenthesis ∷ [])) (unplaced_expr e)
    go true k = s.unary (le_of 11 (expr_level e) k)
    go false k = print g.plain (last (in_parentheses e s))

at_postfix : (e : t.Expr) → Stands e → Prints g.Postfix (operand_words 12 e (expr_words e)) (unplaced_expr e)
at_postfix e s = go (nat_le 12 (expr_level e)) refl
  where
    go : (v : Bool) → nat_le 12 (expr_level e) ≡ v → Prints g.Postfix (cond v (expr_words e) (mark m.OpenParenthesis ∷ expr_words e ++ mark m.CloseParenthesis ∷ [])) (unplaced_expr e)
    go true k = s.postfix (le_of 12 (expr_level e) k)
    go false k = in_parentheses e s

-- Arguments, one after the other.
abbrev plus : t.Exprs → t.Exprs → t.Exprs
plus t.none v = v
plus (t.more a u) v = t.more a (plus u v)

plus_none : (v : t.Exprs) → plus v t.none ≡ v
plus_none t.none = refl
plus_none (t.more a v) = ap (t.more a) (plus_none v)

plus_last : (u : t.Exprs) (e : t.Expr) (v : t.Exprs) → plus (with_last u e) v ≡ plus u (t.more e v)
plus_last t.none e v = refl
plus_last (t.more a u) e v = ap (t.more a) (plus_last u e v)

mutual
  pub stands : (e : t.Expr) → Stands e
  stands (t.number at i unsigned) = of_primary (t.number at i unsigned) (print g.a_number (one nothing))
  stands (t.character at i) = of_primary (t.character at i) (print g.a_character (one nothing))
  stands (t.string at bytes) = of_primary (t.string at bytes) (print g.a_string (one nothing))
  stands (t.null at) = of_primary (t.null at) (print g.the_null (one nothing))
  stands (t.eof at) = of_primary (t.eof at) (print g.the_eof (one nothing))
  stands (t.variable x) = of_primary (t.variable x) (print g.a_variable (last (print_name x)))
  stands (t.call x t.none) = of_primary (t.call x t.none) (print g.calls (first (print_name x) (one (one nothing))))
  stands (t.call x (t.more a rest)) =
      let v = further rest (expr_words a) (t.more (unplaced_expr a) t.none) (print g.one (last (whole a (stands a)))) in
      of_primary (t.call x (t.more a rest)) (print g.calls_with (first (print_name x) (one (first v (one nothing)))))
  stands (t.ralloc at r ty) = of_primary (t.ralloc at r ty) (print g.allocates (one (one (first (whole r (stands r)) (one (first (print_type ty) (one nothing)))))))
  stands (t.rarrayalloc at r i ty) =
      of_primary (t.rarrayalloc at r i ty) (print g.allocates_array (one (one (first (whole r (stands r)) (one (first (whole i (stands i)) (one (first (print_type ty) (one nothing)))))))))
  stands (t.index at a i) = of_postfix (t.index at a i) (print g.indexed (first (at_postfix a (stands a)) (one (first (whole i (stands i)) (one nothing)))))
  stands (t.member at a x) = of_postfix (t.member at a x) (print g.a_member (first (at_postfix a (stands a)) (one (last (print_name x)))))
  stands (t.arrow at a x) = of_postfix (t.arrow at a x) (print g.an_arrow (first (at_postfix a (stands a)) (one (last (print_name x)))))
  stands (t.unary at op a) = of_unary (t.unary at op a) refl (print g.prefixed (one (last (at_unary a (stands a)))))
  stands (t.cast at to a) = of_unary (t.cast at to a) refl (print g.a_cast (one (first (print_cast to) (one (last (at_unary a (stands a)))))))
  stands (t.binary at op a e) =
      let h = (op_level op).1 in
      of_level (t.binary at op a e) (level_of op) refl h
      (print (g.chain refl) (first (at_level (level_of op) a (stands a) (omega arith)) (one (last (at_level (level_of op + 1) e (stands e) (omega arith))))))
  stands (t.conditional at c a e) =
      of_level (t.conditional at c a e) 0 refl (omega arith)
      (print g.conditional (first (at_level 1 c (stands c) (omega arith)) (one (first (whole a (stands a)) (one (last (print g.arm (last (whole e (stands e))))))))))

  further : (v : t.Exprs) (ws : List Word) (u : t.Exprs) → Prints g.Arguments ws u → Prints g.Arguments (ws ++ further_words v) (plus u (unplaced_exprs v))
  further t.none ws u p =
      let P : List Word → Type 0 = λ z. Prints g.Arguments z (plus u t.none) in
      let Q : t.Exprs → Type 0 = λ z. Prints g.Arguments ws z in
      subst P (sym (append-nil ws)) (subst Q (sym (plus_none u)) p)
  further (t.more a rest) ws u p =
      let x = mark m.Comma ∷ expr_words a in
      let q : Prints g.Arguments (ws ++ x) (with_last u (unplaced_expr a)) = print g.another (first p (one (last (whole a (stands a))))) in
      let r = further rest (ws ++ x) (with_last u (unplaced_expr a)) q in
      let P : List Word → Type 0 = λ z. Prints g.Arguments z (plus u (t.more (unplaced_expr a) (unplaced_exprs rest))) in
      let Q : t.Exprs → Type 0 = λ z. Prints g.Arguments ((ws ++ x) ++ further_words rest) z in
      subst P (append_assoc ws x (further_words rest)) (subst Q (plus_last u (unplaced_expr a) (unplaced_exprs rest)) r)
