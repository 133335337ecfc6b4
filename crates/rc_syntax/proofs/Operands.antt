-- What is left of types and expressions is right.
use Rattle.std.proofs.Common.{ℕ, zero, suc, zero-add, ◌≡◌, ◌<◌, ◌≤◌, ◌+◌, ◌-◌, nat_le, List, [], ◌∷◌, ◌++◌, length, Option, Some, None, Bool, true, false, refl, ap, sym, ◌∙◌, subst, arith}
use Rattle.std.proofs.lemmas.Bool.Decides.{nat_tests}
use Rattle.rc_syntax.specs.declared.word.Key.TheVariants.{Char, Eof, Int, Null, ParentPtr, Ralloc, RarrayAlloc, Region, SameRegion, Struct, Traditional, Unsigned}
use Rattle.rc_syntax.specs.declared.word.Mark.TheVariants as m
use Rattle.rc_syntax.specs.declared.tree.Spot.{Spot}
use Rattle.rc_syntax.specs.declared.tree.Name as names
use Rattle.rc_syntax.specs.declared.tree.Note as notes
use Rattle.rc_syntax.specs.declared.tree.Note.TheVariants as n
use Rattle.rc_syntax.specs.declared.tree.Base as bases
use Rattle.rc_syntax.specs.declared.tree.Base.TheVariants as b
use Rattle.rc_syntax.specs.declared.tree.CastType as casts
use Rattle.rc_syntax.specs.declared.tree.CastType.TheVariants as c
use Rattle.rc_syntax.specs.declared.tree.UnaryOp.{UnaryOp}
use Rattle.rc_syntax.specs.declared.tree.UnaryOp.TheVariants as u
use Rattle.rc_syntax.specs.declared.tree.BinaryOp.{BinaryOp}
use Rattle.rc_syntax.specs.declared.tree.BinaryOp.TheVariants as o
use Rattle.rc_syntax.specs.Tokens as w
use Rattle.rc_syntax.specs.Tokens.{Word, key, mark}
use Rattle.rc_syntax.specs.Tree as t
use Rattle.rc_syntax.specs.Grammar as g
use Rattle.rc_syntax.specs.Grammar.{Symbol, TreeOf, Placed, Part, word, node, Rule, Derives, itself, by, DeriveAll, done, Begins, inside, a_word, here, later, adds, reach, level_of, mark_of, typed}
use Rattle.rc_syntax.specs.reader.Todo.{Todo, build, enter, only, is_stop, refuses, when, read, sees}
use Rattle.rc_syntax.specs.reader.Reading.{first, tail, binary_of, is_question, is_open, is_close, is_comma, is_int, noted, star, more_stars, base_in, call, cast_to, cast_in, allocated, array_allocated, parenthesized, prefixed, unary_in, postfix_in, level, otherwise, chosen, beside, operated}
use Rattle.rc_syntax.proofs.Sound.{Since, is_used, Hole, Stands, Left, Goes, Passes, recount, since_on, LevelDone, UnaryDone, next_op, asks, is_postfix}
use Rattle.rc_syntax.proofs.Fronts.{at_spot, is, must_name, must_open, must_close, must_close_bracket, must_comma, must_colon, snoc, snoc_none, all_then, alone, by_any, by_since, stands, hole, Took, Reads, stopped, took_sees, goes_nowhere, open_is, close_is, comma_is, question_is, int_is}

-- What stands for a part that isn't read yet.
abbrev pub e0 : t.Expr
e0 = t.null (record { place = 0; line = 0 })

abbrev pub b0 : bases.Base
b0 = b.Int (record { place = 0; line = 0 })

abbrev pub x0 : names.Name
x0 = record { spot = record { place = 0; line = 0 }; text = [] }

abbrev pub ty0 : t.TypeName
ty0 = typed b0 []

-- Names.
pub a_name_is : (o : Spot) (x : List ℕ) → Derives (record { word = w.name x; spot = o } ∷ []) (node g.Name (record { spot = o; text = x }))
a_name_is o x = by refl g.a_name (alone itself)

pub stands_name : {s : Symbol} {a : TreeOf s} {ys : List Placed} {ps : List Part} {i : Spot} (o : Spot) (x : List ℕ) (c : names.Name) (qs : List Part) → DeriveAll ys ps → Rule i s a (ps ++ node g.Name c ∷ qs) → Stands (ys ++ record { word = w.name x; spot = o } ∷ []) s
stands_name o x c qs f r = inside r (all_then f (here (inside (at_spot o (g.a_name {bytes = x})) a_word)))

-- Stars.
pub no_stars_are : Derives [] (node g.Stars [])
no_stars_are = by {at = record { place = 0; line = 0 }} tt g.no_stars done

noted_left : (i : Spot) (ys : List Placed) (ns : List notes.Note) → DeriveAll ys (node g.Stars ns ∷ node (g.Star (length ns + 1)) tt ∷ []) → Took i ys (λ p. noted ns p.word)
noted_left i ys ns f = λ p. go p.spot p.word
  where
    go : (o : Spot) (y : Word) → let p : Placed = record { word = y; spot = o } in (is_stop (noted ns y) ≡ false → Stands (ys ++ p ∷ []) g.Stars) × ((v : Option Placed) → Left v i (ys ++ p ∷ []) (noted ns y))
    go o (key SameRegion) = (λ e. stands _ _ _ f (at_spot i (g.noted_star {before = ns} n.SameRegion refl)), λ v. by_any i (λ j. g.noted_star {before = ns} n.SameRegion refl) (snoc f itself))
    go o (key ParentPtr) = (λ e. stands _ _ _ f (at_spot i (g.noted_star {before = ns} n.ParentPtr refl)), λ v. by_any i (λ j. g.noted_star {before = ns} n.ParentPtr refl) (snoc f itself))
    go o (key Traditional) = (λ e. stands _ _ _ f (at_spot i (g.noted_star {before = ns} n.Traditional refl)), λ v. by_any i (λ j. g.noted_star {before = ns} n.Traditional refl) (snoc f itself))
    go o y = stopped i ys (record { word = y; spot = o })

pub star_goes : (i o : Spot) (ys : List Placed) (ns : List notes.Note) → Derives ys (node g.Stars ns) → Goes i ys (is (mark m.Star) o) (star ns)
star_goes i o ys ns d = (
  hole refl _ _ (alone d) (at_spot i (g.plain_star {before = ns})),
  λ v q zs a e y z. let f = snoc (alone d) e in (λ p h. noted_left i (ys ++ zs) ns f p, λ h. by_any i (λ j. g.plain_star {before = ns}) f),
  (λ e. stands _ _ _ done (at_spot o (g.a_star {i = length ns + 1})), λ v. by_any o (λ j. g.a_star) (alone itself)),
)

pub stars_go : (i : Spot) (ys : List Placed) (ns : List notes.Note) (o : Spot) (y : Word) → Derives ys (node g.Stars ns) → Goes i ys (record { word = y; spot = o }) (more_stars ns y)
stars_go i ys ns o (mark m.Star) d = star_goes i o ys ns d
stars_go i ys ns o y d = goes_nowhere i ys _

-- Types.
pub base_goes : (o : Spot) (y : Word) → Goes o [] (record { word = y; spot = o }) (only (base_in o y))
base_goes o (key Int) = (λ e. stands _ _ _ done (at_spot o g.an_int), λ v. by refl g.an_int (alone itself))
base_goes o (key Char) = (λ e. stands _ _ _ done (at_spot o g.a_char), λ v. by refl g.a_char (alone itself))
base_goes o (key Region) = (λ e. stands _ _ _ done (at_spot o g.a_region), λ v. by refl g.a_region (alone itself))
base_goes o (key Unsigned) = (
  λ e. stands _ _ _ done (at_spot o g.an_unsigned),
  λ v. (
    λ p h. took_sees o (is (key Unsigned) o ∷ []) (build (b.Unsigned o)) is_int (key Int) int_is
        (λ q. (stands _ _ _ (alone itself) (at_spot o g.an_unsigned_int), λ v. by refl g.an_unsigned_int (snoc (alone itself) itself))) p,
    λ e. by refl g.an_unsigned (alone itself),
  ),
)
base_goes o (key Struct) = (
  λ e. stands _ _ _ done (at_spot o (g.a_named_struct {x = x0})),
  must_name o (is (key Struct) o ∷ []) (λ x. build (b.Struct o x))
      (λ q x. (stands_name q x x0 _ (alone itself) (at_spot o (g.a_named_struct {x = x0})), λ v. by refl g.a_named_struct (snoc (alone itself) (a_name_is q x)))),
)
base_goes o y = goes_nowhere o [] _

pub type_goes : (p : Placed) → Goes p.spot [] p (first g.TypeName p)
type_goes p = (
  hole refl _ _ done (at_spot p.spot (g.a_type {base = b0} {ns = []})),
  λ v q zs a d y z. (
    hole refl _ _ (alone d) (at_spot p.spot (g.a_type {base = a} {ns = []})),
    λ v. no_stars_are,
    λ o us. tt,
    λ o h. by_any o (λ j. g.a_type) (snoc_none (alone d) no_stars_are),
    λ r h v o us ns e k l. by_any o (λ j. g.a_type) (snoc (alone d) e),
  ),
  base_goes p.spot p.word,
)

-- Levels: a node of a level is one of each lower level.
reach_up : (i l r : ℕ) → reach (g.Level (i + 1)) l r ≡ r
reach_up i l r = let e : suc i ≡ i + 1 = omega arith in let P : ℕ → Type 0 = λ j. reach (g.Level j) l r ≡ r in subst P e refl

lower : {zs : List Placed} {d : ℕ} (r k i : ℕ) → k + i ≤ 11 → Begins zs (g.Level (k + i)) d (reach (g.Level (k + i)) (length zs) r) → Begins zs (g.Level i) d (reach (g.Level i) (length zs) r)
lower {zs = zs} {d = d} r zero i h x = let P : ℕ → Type 0 = λ j. Begins zs (g.Level j) d (reach (g.Level j) (length zs) r) in subst P (zero-add i) x
lower {zs = zs} {d = d} r (suc k) i h x =
    let P : ℕ → Type 0 = λ j. Begins zs (g.Level j) d (reach (g.Level j) (length zs) r) in
    let y : Begins zs (g.Level (k + i + 1)) d (reach (g.Level (k + i + 1)) (length zs) r) = subst P (let e : suc k + i ≡ k + i + 1 = omega arith in e) x in
    let z = inside (at_spot (record { place = 0; line = 0 }) (g.up {i = k + i} {e = e0} (omega arith))) (here y) in
    lower r k i (omega arith) (recount z refl (omega arith) (ap (reach (g.Level (k + i)) (length zs)) (reach_up (k + i) (length zs) r)))

pub lower_to : {zs : List Placed} {d : ℕ} (r i j : ℕ) → i ≤ j → j ≤ 11 → Begins zs (g.Level j) d (reach (g.Level j) (length zs) r) → Begins zs (g.Level i) d (reach (g.Level i) (length zs) r)
lower_to {zs = zs} {d = d} r i j h k x =
    let P : ℕ → Type 0 = λ l. Begins zs (g.Level l) d (reach (g.Level l) (length zs) r) in
    lower r (j - i) i (omega arith) (subst P (let e : j ≡ j - i + i = omega arith in e) x)

derive_lower : {zs : List Placed} {a : t.Expr} (k i : ℕ) → k + i ≤ 11 → Derives zs (node (g.Level (k + i)) a) → Derives zs (node (g.Level i) a)
derive_lower {zs = zs} {a = a} zero i h x = let P : ℕ → Type 0 = λ j. Derives zs (node (g.Level j) a) in subst P (zero-add i) x
derive_lower {zs = zs} {a = a} (suc k) i h x =
    let P : ℕ → Type 0 = λ j. Derives zs (node (g.Level j) a) in
    let y : Derives zs (node (g.Level (k + i + 1)) a) = subst P (let e : suc k + i ≡ k + i + 1 = omega arith in e) x in
    derive_lower k i (omega arith) (by_any (record { place = 0; line = 0 }) (λ j. g.up {i = k + i} (omega arith)) (alone y))

pub derives_to : {zs : List Placed} {a : t.Expr} (i j : ℕ) → i ≤ j → j ≤ 11 → Derives zs (node (g.Level j) a) → Derives zs (node (g.Level i) a)
derives_to {zs = zs} {a = a} i j h k x =
    let P : ℕ → Type 0 = λ l. Derives zs (node (g.Level l) a) in
    derive_lower (j - i) i (omega arith) (subst P (let e : j ≡ j - i + i = omega arith in e) x)

pub level_used : (i : ℕ) → nat_le i 11 ≡ true → i ≤ 11
level_used i h = grind (arith, nat_tests)

-- A unary stands for each level.
pub unary_level : {zs : List Placed} {a : t.Expr} (i : ℕ) → i ≤ 11 → Derives zs (node g.Unary a) → Derives zs (node (g.Level i) a)
unary_level i h d = derives_to i 11 h (omega arith) (by_any (record { place = 0; line = 0 }) (λ j. g.operand) (alone d))

pub hole_level : (i : ℕ) → i ≤ 11 → Hole [] (g.Level i) g.Unary
hole_level i h = record {
  used = refl;
  begins = λ zs d r b. lower_to r i 11 h (omega arith) (inside (at_spot (record { place = 0; line = 0 }) (g.operand {e = e0})) (here b));
}

pub op_level : (op : BinaryOp) → (1 ≤ level_of op) × (level_of op ≤ 10)
op_level o.LogicalOr = (omega arith, omega arith)
op_level o.LogicalAnd = (omega arith, omega arith)
op_level o.BitOr = (omega arith, omega arith)
op_level o.BitXor = (omega arith, omega arith)
op_level o.BitAnd = (omega arith, omega arith)
op_level o.Equal = (omega arith, omega arith)
op_level o.NotEqual = (omega arith, omega arith)
op_level o.Less = (omega arith, omega arith)
op_level o.Greater = (omega arith, omega arith)
op_level o.LessEqual = (omega arith, omega arith)
op_level o.GreaterEqual = (omega arith, omega arith)
op_level o.ShiftLeft = (omega arith, omega arith)
op_level o.ShiftRight = (omega arith, omega arith)
op_level o.Add = (omega arith, omega arith)
op_level o.Subtract = (omega arith, omega arith)
op_level o.Multiply = (omega arith, omega arith)
op_level o.Divide = (omega arith, omega arith)
op_level o.Remainder = (omega arith, omega arith)

pub unary_done : {zs : List Placed} {a : t.Expr} (i : ℕ) → i ≤ 11 → (v : Option Placed) → Derives zs (node g.Unary a) → LevelDone i zs a v
unary_done i k v d = record { low = unary_level i k d; operator = λ op e h. let l = op_level op in unary_level (level_of op) (omega arith) d; question = λ e h. unary_level 1 (omega arith) d }

pub level_goes : (i : ℕ) → i ≤ 11 → (p : Placed) → Goes p.spot [] p (only (unary_in p.spot p.word)) → Goes p.spot [] p (level {i = i} p)
level_goes i h p u = (hole_level i h, λ v q zs a d y z. unary_done i h v d.whole, u)

-- A primary is a postfix and a unary.
pub primary_done : {zs : List Placed} {a : t.Expr} (o : Spot) (v : Option Placed) → Derives zs (node g.Primary a) → UnaryDone zs a v
primary_done o v d =
    let e = by_any o (λ j. g.bare) (alone d) in
    record { whole = by_any o (λ j. g.plain) (alone e); postfix = λ h. e }

stands_primary : {a : t.Expr} {ys : List Placed} {ps : List Part} {i : Spot} (o : Spot) (x : Word) (qs : List Part) → DeriveAll ys ps → Rule i g.Primary a (ps ++ word x ∷ qs) → Stands (ys ++ is x o ∷ []) g.Unary
stands_primary {i = i} o x qs f r = inside (at_spot i (g.plain {e = e0})) (here (inside (at_spot i (g.bare {e = e0})) (here (inside r (all_then f a_word)))))

hole_primary : {a : t.Expr} {j : Symbol} {ys : List Placed} {ps : List Part} {i : Spot} → is_used j ≡ true → (c : TreeOf j) (qs : List Part) → DeriveAll ys ps → Rule i g.Primary a (ps ++ node j c ∷ qs) → Hole ys g.Unary j
hole_primary {i = i} used c qs f r = record { used = used; begins = λ zs d q b. recount (inside (at_spot i (g.plain {e = e0})) (here (inside (at_spot i (g.bare {e = e0})) (here (inside r (all_then f (here b))))))) refl (omega arith) refl }

stands_postfix : {a : t.Expr} {ys : List Placed} {ps : List Part} {i : Spot} (o : Spot) (x : Word) (qs : List Part) → DeriveAll ys ps → Rule i g.Postfix a (ps ++ word x ∷ qs) → Stands (ys ++ is x o ∷ []) g.Unary
stands_postfix {i = i} o x qs f r = inside (at_spot i (g.plain {e = e0})) (here (inside r (all_then f a_word)))

hole_postfix : {a : t.Expr} {j : Symbol} {ys : List Placed} {ps : List Part} {i : Spot} → is_used j ≡ true → (c : TreeOf j) (qs : List Part) → DeriveAll ys ps → Rule i g.Postfix a (ps ++ node j c ∷ qs) → Hole ys g.Unary j
hole_postfix {i = i} used c qs f r = record { used = used; begins = λ zs d q b. recount (inside (at_spot i (g.plain {e = e0})) (here (inside r (all_then f (here b))))) refl (omega arith) refl }

stands_postfix_name : {a : t.Expr} {ys : List Placed} {ps : List Part} {i : Spot} (o : Spot) (x : List ℕ) (c : names.Name) (qs : List Part) → DeriveAll ys ps → Rule i g.Postfix a (ps ++ node g.Name c ∷ qs) → Stands (ys ++ is (w.name x) o ∷ []) g.Unary
stands_postfix_name {i = i} o x c qs f r = inside (at_spot i (g.plain {e = e0})) (here (inside r (all_then f (here (inside (at_spot o (g.a_name {bytes = x})) a_word)))))

stands_primary_name : {a : t.Expr} {ys : List Placed} {ps : List Part} {i : Spot} (o : Spot) (x : List ℕ) (c : names.Name) (qs : List Part) → DeriveAll ys ps → Rule i g.Primary a (ps ++ node g.Name c ∷ qs) → Stands (ys ++ is (w.name x) o ∷ []) g.Unary
stands_primary_name {i = i} o x c qs f r = inside (at_spot i (g.plain {e = e0})) (here (inside (at_spot i (g.bare {e = e0})) (here (inside r (all_then f (here (inside (at_spot o (g.a_name {bytes = x})) a_word)))))))

pub postfix_done : {zs : List Placed} {a : t.Expr} (o : Spot) (v : Option Placed) → Derives zs (node g.Postfix a) → UnaryDone zs a v
postfix_done o v d = record { whole = by_any o (λ j. g.plain) (alone d); postfix = λ h. d }

-- Unaries.
not_both : (q : Spot) (a : t.Expr) (y : Word) → is_stop (postfix_in q a y) ≡ true → is_postfix y ≡ true → ⊥
not_both q a (mark m.OpenBracket) e f = cc
not_both q a (mark m.Dot) e f = cc
not_both q a (mark m.Arrow) e f = cc
not_both q a y e f = cc

-- No postfix follows a unary that ends in one.
unary_ends : {zs : List Placed} {c : t.Expr} (a : t.Expr) (q : Spot) (v : Option Placed) → Passes g.Unary q a v → Derives zs (node g.Unary c) → UnaryDone zs c v
unary_ends a q None y d = record { whole = d; postfix = λ h. absurd (cc) }
unary_ends a q (Some p) y d = record { whole = d; postfix = λ h. absurd (not_both q a p.word y h) }

prefix_goes : (o : Spot) (op : UnaryOp) → Goes o [] (is (mark (g.prefix_of op)) o) (only (prefixed o op))
prefix_goes o op = (
  λ e. stands _ _ _ done (at_spot o (g.prefixed {op = op} {e = e0})),
  λ v. (hole refl _ _ (alone itself) (at_spot o (g.prefixed {op = op} {e = e0})), λ v q zs a d y z. unary_ends a q v y (by refl (at_spot o (g.prefixed {op = op})) (snoc (alone itself) d.whole))),
)

-- The rest of a cast, behind its type.
cast_left : (i o : Spot) (ys : List Placed) (to : casts.CastType) → Since i ys → DeriveAll ys (g.sign m.OpenParenthesis ∷ node g.CastType to ∷ []) → (v : Option Placed) → Left v i ys (read (sees is_close (cast_to i to)))
cast_left i o ys to since f =
    must_close i ys (cast_to i to) (λ r. (
      stands _ _ _ f (at_spot i (g.a_cast {to = to} {e = e0})),
      λ v. let f2 = snoc f itself in (
        hole refl _ _ f2 (at_spot i (g.a_cast {to = to} {e = e0})),
        λ v q zs a d y z. unary_ends a q v y (by_since (since_on i _ zs (since_on i ys _ since)) (at_spot i (g.a_cast {to = to})) (snoc f2 d.whole)),
      ),
    ))

-- The first word of the type of a cast.
stands_cast : {to : casts.CastType} {ys : List Placed} {i : Spot} (o : Spot) (x : Word) (qs : List Part) → DeriveAll ys (g.sign m.OpenParenthesis ∷ []) → Rule i g.CastType to (word x ∷ qs) → Stands (ys ++ is x o ∷ []) g.Unary
stands_cast {to = to} {i = i} o x qs f r = inside (at_spot i (g.a_cast {to = to} {e = e0})) (all_then f (here (inside r a_word)))

cast_took : (o : Spot) → Took o (is (mark m.OpenParenthesis) o ∷ []) (λ p. cast_in o p.word)
cast_took o = λ p. go p.spot p.word
  where
    ys : List Placed
    ys = is (mark m.OpenParenthesis) o ∷ []

    go : (q : Spot) (y : Word) → (is_stop (cast_in o y) ≡ false → Stands (is (mark m.OpenParenthesis) o ∷ is y q ∷ []) g.Unary) × ((v : Option Placed) → Left v o (is (mark m.OpenParenthesis) o ∷ is y q ∷ []) (cast_in o y))
    go q (key Int) = (
      λ e. stands_cast {ys = is (mark m.OpenParenthesis) o ∷ []} q _ _ (alone itself) (at_spot q g.to_int),
      cast_left o q (is (mark m.OpenParenthesis) o ∷ is (key Int) q ∷ []) c.Int refl (snoc (alone itself) (by refl (at_spot q g.to_int) (alone itself))),
    )
    go q (key Char) = (
      λ e. stands_cast {ys = is (mark m.OpenParenthesis) o ∷ []} q _ _ (alone itself) (at_spot q g.to_char),
      cast_left o q (is (mark m.OpenParenthesis) o ∷ is (key Char) q ∷ []) c.Char refl (snoc (alone itself) (by refl (at_spot q g.to_char) (alone itself))),
    )
    go q (key Unsigned) = (
      λ e. stands_cast {ys = is (mark m.OpenParenthesis) o ∷ []} q _ _ (alone itself) (at_spot q g.to_unsigned),
      λ v. (
        λ p h. took_sees o (is (mark m.OpenParenthesis) o ∷ is (key Unsigned) q ∷ []) (read (sees is_close (cast_to o c.Unsigned))) is_int (key Int) int_is
            (λ r. (
              inside (at_spot o (g.a_cast {to = c.Unsigned} {e = e0})) (all_then (alone {xs = is (mark m.OpenParenthesis) o ∷ []} itself) (here (inside (at_spot q g.to_unsigned_int) (all_then (alone {xs = is (key Unsigned) q ∷ []} itself) a_word)))),
              cast_left o q (is (mark m.OpenParenthesis) o ∷ is (key Unsigned) q ∷ is (key Int) r ∷ []) c.Unsigned refl (snoc (alone itself) (by refl (at_spot q g.to_unsigned_int) (snoc (alone itself) itself))),
            )) p,
        λ e. cast_left o q (is (mark m.OpenParenthesis) o ∷ is (key Unsigned) q ∷ []) c.Unsigned refl (snoc (alone itself) (by refl (at_spot q g.to_unsigned) (alone itself))) v,
      ),
    )
    go q y = stopped o (is (mark m.OpenParenthesis) o ∷ []) (is y q)

parenthesis_left : (o : Spot) (v : Option Placed) → Left v o (is (mark m.OpenParenthesis) o ∷ []) (parenthesized o)
parenthesis_left o v = (
  λ p h. cast_took o p,
  λ h. (
    hole_primary refl _ _ (alone itself) (at_spot o (g.parentheses {e = e0})),
    λ v q zs e d y z.
        let f = snoc (alone {xs = is (mark m.OpenParenthesis) o ∷ []} itself) d.low in
        must_close o (is (mark m.OpenParenthesis) o ∷ zs) (build e)
        (λ r. (stands_primary _ _ _ f (at_spot o (g.parentheses {e = e})), λ v. primary_done o v (by_any o (λ j. g.parentheses) (snoc f itself)))) v,
  ),
)

call_left : (o p : Spot) (x : List ℕ) (v : Option Placed) → let n : names.Name = record { spot = o; text = x } in Left v o (is (w.name x) o ∷ is (mark m.OpenParenthesis) p ∷ []) (call n)
call_left o p x v =
    let n : names.Name = record { spot = o; text = x } in
    let ys : List Placed = is (w.name x) o ∷ is (mark m.OpenParenthesis) p ∷ [] in
    let f : DeriveAll ys (node g.Name n ∷ g.sign m.OpenParenthesis ∷ []) = snoc (alone (a_name_is o x)) itself in (
      λ q h. took_sees o ys (build (t.call n t.none)) is_close (mark m.CloseParenthesis) close_is
          (λ r. (stands_primary _ _ _ f (at_spot o (g.calls {x = n})), λ v. primary_done o v (by_any o (λ j. g.calls) (snoc f itself)))) q,
      λ h. (
        hole_primary refl _ _ f (at_spot o (g.calls_with {x = n} {v = t.none})),
        λ w q zs a d y z.
            let f2 = snoc f d in
            must_close o (ys ++ zs) (build (t.call n a))
            (λ r. (stands_primary _ _ _ f2 (at_spot o (g.calls_with {x = n} {v = a})), λ v. primary_done o v (by_any o (λ j. g.calls_with) (snoc f2 itself)))) w,
      ),
    )

allocated_left : (o p : Spot) (v : Option Placed) → Left v o (is (key Ralloc) o ∷ is (mark m.OpenParenthesis) p ∷ []) (allocated o)
allocated_left o p v =
    let ys : List Placed = is (key Ralloc) o ∷ is (mark m.OpenParenthesis) p ∷ [] in
    let f : DeriveAll ys (g.keyword Ralloc ∷ g.sign m.OpenParenthesis ∷ []) = snoc (alone itself) itself in (
      hole_primary refl _ _ f (at_spot o (g.allocates {r = e0} {ty = ty0})),
      λ w q zs r d y z.
          let f2 = snoc f d.low in
          must_comma o (ys ++ zs) (enter g.TypeName (λ ty. read (sees is_close (build (t.ralloc o r ty)))))
          (λ s. (
            stands_primary _ _ _ f2 (at_spot o (g.allocates {r = r} {ty = ty0})),
            λ v. let f3 = snoc f2 itself in (
              hole_primary refl _ _ f3 (at_spot o (g.allocates {r = r} {ty = ty0})),
              λ w q us ty e y z.
                  let f4 = snoc f3 e in
                  must_close o (((ys ++ zs) ++ is (mark m.Comma) s ∷ []) ++ us) (build (t.ralloc o r ty))
                  (λ s. (stands_primary _ _ _ f4 (at_spot o (g.allocates {r = r} {ty = ty})), λ v. primary_done o v (by refl (at_spot o g.allocates) (snoc f4 itself)))) w,
            ),
          )) w,
    )

array_allocated_left : (o p : Spot) (v : Option Placed) → Left v o (is (key RarrayAlloc) o ∷ is (mark m.OpenParenthesis) p ∷ []) (array_allocated o)
array_allocated_left o p v =
    let ys : List Placed = is (key RarrayAlloc) o ∷ is (mark m.OpenParenthesis) p ∷ [] in
    let f : DeriveAll ys (g.keyword RarrayAlloc ∷ g.sign m.OpenParenthesis ∷ []) = snoc (alone itself) itself in (
      hole_primary refl _ _ f (at_spot o (g.allocates_array {r = e0} {i = e0} {ty = ty0})),
      λ w q zs r d y z.
          let f2 = snoc f d.low in
          must_comma o (ys ++ zs) (enter (g.Level 0) (λ i. read (sees is_comma (enter g.TypeName (λ ty. read (sees is_close (build (t.rarrayalloc o r i ty))))))))
          (λ s. (
            stands_primary _ _ _ f2 (at_spot o (g.allocates_array {r = r} {i = e0} {ty = ty0})),
            λ v. let f3 = snoc f2 itself in (
              hole_primary refl _ _ f3 (at_spot o (g.allocates_array {r = r} {i = e0} {ty = ty0})),
              λ w q us i e y z.
                  let f4 = snoc f3 e.low in
                  must_comma o (((ys ++ zs) ++ is (mark m.Comma) s ∷ []) ++ us) (enter g.TypeName (λ ty. read (sees is_close (build (t.rarrayalloc o r i ty)))))
                  (λ s2. (
                    stands_primary _ _ _ f4 (at_spot o (g.allocates_array {r = r} {i = i} {ty = ty0})),
                    λ v. let f5 = snoc f4 itself in (
                      hole_primary refl _ _ f5 (at_spot o (g.allocates_array {r = r} {i = i} {ty = ty0})),
                      λ w q vs ty e y z.
                          let f6 = snoc f5 e in
                          must_close o (((((ys ++ zs) ++ is (mark m.Comma) s ∷ []) ++ us) ++ is (mark m.Comma) s2 ∷ []) ++ vs) (build (t.rarrayalloc o r i ty))
                          (λ s. (stands_primary _ _ _ f6 (at_spot o (g.allocates_array {r = r} {i = i} {ty = ty})), λ v. primary_done o v (by refl (at_spot o g.allocates_array) (snoc f6 itself)))) w,
                    ),
                  )) w,
            ),
          )) w,
    )

pub unary_goes : (o : Spot) (y : Word) → Goes o [] (is y o) (only (unary_in o y))
unary_goes o (mark m.Minus) = prefix_goes o u.Minus
unary_goes o (mark m.Plus) = prefix_goes o u.Plus
unary_goes o (mark m.Exclamation) = prefix_goes o u.Not
unary_goes o (mark m.Tilde) = prefix_goes o u.Complement
unary_goes o (mark m.Star) = prefix_goes o u.Dereference
unary_goes o (mark m.Ampersand) = prefix_goes o u.Address
unary_goes o (mark m.OpenParenthesis) = (λ e. stands_primary _ _ _ done (at_spot o (g.parentheses {e = e0})), parenthesis_left o)
unary_goes o (w.number i s) = (λ e. stands_primary _ _ _ done (at_spot o g.a_number), λ v. primary_done o v (by refl g.a_number (alone itself)))
unary_goes o (w.character i) = (λ e. stands_primary _ _ _ done (at_spot o g.a_character), λ v. primary_done o v (by refl g.a_character (alone itself)))
unary_goes o (w.string bytes) = (λ e. stands_primary _ _ _ done (at_spot o g.a_string), λ v. primary_done o v (by refl g.a_string (alone itself)))
unary_goes o (key Null) = (λ e. stands_primary _ _ _ done (at_spot o g.the_null), λ v. primary_done o v (by refl g.the_null (alone itself)))
unary_goes o (key Eof) = (λ e. stands_primary _ _ _ done (at_spot o g.the_eof), λ v. primary_done o v (by refl g.the_eof (alone itself)))
unary_goes o (w.name x) = (
  λ e. stands_primary_name o x x0 _ done (at_spot o (g.a_variable {x = x0})),
  λ v. (
    λ p h. took_sees o (is (w.name x) o ∷ []) (call (record { spot = o; text = x })) is_open (mark m.OpenParenthesis) open_is
        (λ q. (stands_primary _ _ _ (alone (a_name_is o x)) (at_spot o (g.calls {x = record { spot = o; text = x }})), call_left o q x)) p,
    λ h. primary_done o v (by_any o (λ j. g.a_variable) (alone (a_name_is o x))),
  ),
)
unary_goes o (key Ralloc) = (
  λ e. stands_primary _ _ _ done (at_spot o (g.allocates {r = e0} {ty = ty0})),
  must_open o (is (key Ralloc) o ∷ []) (allocated o) (λ q. (stands_primary _ _ _ (alone itself) (at_spot o (g.allocates {r = e0} {ty = ty0})), allocated_left o q)),
)
unary_goes o (key RarrayAlloc) = (
  λ e. stands_primary _ _ _ done (at_spot o (g.allocates_array {r = e0} {i = e0} {ty = ty0})),
  must_open o (is (key RarrayAlloc) o ∷ []) (array_allocated o) (λ q. (stands_primary _ _ _ (alone itself) (at_spot o (g.allocates_array {r = e0} {i = e0} {ty = ty0})), array_allocated_left o q)),
)
unary_goes o y = goes_nowhere o [] (is y o)

-- Postfixes.
postfix_goes : (i : Spot) (ys : List Placed) (a : t.Expr) (o : Spot) (y : Word) → Since i ys → (is_postfix y ≡ true → Derives ys (node g.Postfix a)) → Goes i ys (is y o) (only (postfix_in i a y))
postfix_goes i ys a o (mark m.OpenBracket) since d =
    let f = snoc (alone (d refl)) itself in (
      λ e. stands_postfix _ _ _ (alone (d refl)) (at_spot i (g.indexed {a = a} {i = e0})),
      λ v. (
        hole_postfix refl _ _ f (at_spot i (g.indexed {a = a} {i = e0})),
        λ v q zs e d y z.
            let f2 = snoc f d.low in
            must_close_bracket i ((ys ++ is (mark m.OpenBracket) o ∷ []) ++ zs) (build (t.index i a e))
            (λ r. (
              stands_postfix _ _ _ f2 (at_spot i (g.indexed {a = a} {i = e})),
              λ v. postfix_done i v (by_since (since_on i _ _ (since_on i _ zs (since_on i ys _ since))) (at_spot i g.indexed) (snoc f2 itself)),
            )) v,
      ),
    )
postfix_goes i ys a o (mark m.Dot) since d =
    let f = snoc (alone (d refl)) itself in (
      λ e. stands_postfix _ _ _ (alone (d refl)) (at_spot i (g.a_member {a = a} {x = x0})),
      must_name i (ys ++ is (mark m.Dot) o ∷ []) (λ x. build (t.member i a x))
          (λ q x. (
            stands_postfix_name q x x0 _ f (at_spot i (g.a_member {a = a} {x = x0})),
            λ v. postfix_done i v (by_since (since_on i _ _ (since_on i ys _ since)) (at_spot i g.a_member) (snoc f (a_name_is q x))),
          )),
    )
postfix_goes i ys a o (mark m.Arrow) since d =
    let f = snoc (alone (d refl)) itself in (
      λ e. stands_postfix _ _ _ (alone (d refl)) (at_spot i (g.an_arrow {a = a} {x = x0})),
      must_name i (ys ++ is (mark m.Arrow) o ∷ []) (λ x. build (t.arrow i a x))
          (λ q x. (
            stands_postfix_name q x x0 _ f (at_spot i (g.an_arrow {a = a} {x = x0})),
            λ v. postfix_done i v (by_since (since_on i _ _ (since_on i ys _ since)) (at_spot i g.an_arrow) (snoc f (a_name_is q x))),
          )),
    )
postfix_goes i ys a o y since d = goes_nowhere i ys (is y o)

pub unary_goes_on : (i : Spot) (ys : List Placed) (a : t.Expr) (p : Placed) → Since i ys → UnaryDone ys a (Some p) → Goes i ys p (tail g.Unary i a p)
unary_goes_on i ys a p since d = postfix_goes i ys a p.spot p.word since d.postfix

-- Operators.
pub binary_is : (y : Word) (op : BinaryOp) → binary_of y ≡ Some op → y ≡ mark (mark_of op)
binary_is (mark m.BarBar) op e = let h : o.LogicalOr ≡ op = cc in ap (λ x. mark (mark_of x)) h
binary_is (mark m.AmpersandAmpersand) op e = let h : o.LogicalAnd ≡ op = cc in ap (λ x. mark (mark_of x)) h
binary_is (mark m.Bar) op e = let h : o.BitOr ≡ op = cc in ap (λ x. mark (mark_of x)) h
binary_is (mark m.Caret) op e = let h : o.BitXor ≡ op = cc in ap (λ x. mark (mark_of x)) h
binary_is (mark m.Ampersand) op e = let h : o.BitAnd ≡ op = cc in ap (λ x. mark (mark_of x)) h
binary_is (mark m.EqualEqual) op e = let h : o.Equal ≡ op = cc in ap (λ x. mark (mark_of x)) h
binary_is (mark m.ExclamationEqual) op e = let h : o.NotEqual ≡ op = cc in ap (λ x. mark (mark_of x)) h
binary_is (mark m.Less) op e = let h : o.Less ≡ op = cc in ap (λ x. mark (mark_of x)) h
binary_is (mark m.Greater) op e = let h : o.Greater ≡ op = cc in ap (λ x. mark (mark_of x)) h
binary_is (mark m.LessEqual) op e = let h : o.LessEqual ≡ op = cc in ap (λ x. mark (mark_of x)) h
binary_is (mark m.GreaterEqual) op e = let h : o.GreaterEqual ≡ op = cc in ap (λ x. mark (mark_of x)) h
binary_is (mark m.ShiftLeft) op e = let h : o.ShiftLeft ≡ op = cc in ap (λ x. mark (mark_of x)) h
binary_is (mark m.ShiftRight) op e = let h : o.ShiftRight ≡ op = cc in ap (λ x. mark (mark_of x)) h
binary_is (mark m.Plus) op e = let h : o.Add ≡ op = cc in ap (λ x. mark (mark_of x)) h
binary_is (mark m.Minus) op e = let h : o.Subtract ≡ op = cc in ap (λ x. mark (mark_of x)) h
binary_is (mark m.Star) op e = let h : o.Multiply ≡ op = cc in ap (λ x. mark (mark_of x)) h
binary_is (mark m.Slash) op e = let h : o.Divide ≡ op = cc in ap (λ x. mark (mark_of x)) h
binary_is (mark m.Percent) op e = let h : o.Remainder ≡ op = cc in ap (λ x. mark (mark_of x)) h
binary_is y op e = absurd (cc)

pub when_stops : {s : Symbol} (b : Bool) (td : Todo s) → is_stop td ≡ false → is_stop (when b td) ≡ true → b ≡ false
when_stops true td h e = absurd (cc)
when_stops false td h e = refl

-- An operator that isn't read behind a node of the level is of a lower one.
pub op_refused : (i : ℕ) (q : Spot) (a : t.Expr) (v : Option Placed) (op : BinaryOp) → Passes (g.Level i) q a v → next_op v ≡ Some op → level_of op < i
op_refused i q a None op y e = absurd (cc)
op_refused i q a (Some p) op y e =
    let h : is_stop (operated {i = i} q a p.word (Some op)) ≡ true = ap (λ x. is_stop (operated {i = i} q a p.word x)) (sym e) ∙ y in
    let k : nat_le i (level_of op) ≡ false = when_stops (nat_le i (level_of op)) (beside {i = i} q a op) refl h in
    grind (arith, nat_tests)

quiet_op : (q : Spot) (a : t.Expr) (v : Option Placed) (o : Option BinaryOp) → next_op v ≡ o → Passes (g.Level 0) q a v → o ≡ None
quiet_op q a v None e y = refl
quiet_op q a v (Some op) e y = let h : level_of op < 0 = op_refused 0 q a v op y e in absurd (omega arith)

quiet_question : (q : Spot) (a : t.Expr) (p : Placed) (b : Bool) → is_question p.word ≡ b → binary_of p.word ≡ None → refuses (tail (g.Level 0) q a p) ≡ true → b ≡ false
quiet_question q a p false e n y = refl
quiet_question q a p true e n y =
    let h : is_stop (operated {i = 0} q a p.word None) ≡ true = ap (λ x. is_stop (operated {i = 0} q a p.word x)) (sym n) ∙ y in
    let k : is_stop (when true (when (nat_le 0 0) (chosen {i = 0} q a))) ≡ true = ap (λ x. is_stop (when x (when (nat_le 0 0) (chosen {i = 0} q a)))) (sym e) ∙ h in
    absurd (cc)

asks_not : (q : Spot) (a : t.Expr) (v : Option Placed) → Passes (g.Level 0) q a v → asks v ≡ false
asks_not q a None y = refl
asks_not q a (Some p) y = quiet_question q a p (is_question p.word) refl (quiet_op q a (Some p) (binary_of p.word) refl y) y

pub arm_goes : (p : Placed) → Goes p.spot [] p (first g.Arm p)
arm_goes p = (
  hole refl _ _ done (at_spot p.spot (g.arm {e = e0})),
  λ v q zs a d y z. record { whole = by_any p.spot (λ j. g.arm) (alone d.low); operator = quiet_op q a v (next_op v) refl y; question = asks_not q a v y },
  level_goes 0 (omega arith) p (unary_goes p.spot p.word),
)

pub arguments_go : (p : Placed) → Goes p.spot [] p (first g.Arguments p)
arguments_go p = (
  hole refl _ _ done (at_spot p.spot (g.one {e = e0})),
  λ v q zs a d y z. by_any p.spot (λ j. g.one) (alone d.low),
  level_goes 0 (omega arith) p (unary_goes p.spot p.word),
)

pub arguments_go_on : (i : Spot) (ys : List Placed) (v : t.Exprs) (p : Placed) → Derives ys (node g.Arguments v) → Goes i ys p (tail g.Arguments i v p)
arguments_go_on i ys v p d =
    took_sees i ys (enter (g.Level 0) (λ e. build (g.with_last v e))) is_comma (mark m.Comma) comma_is
    (λ o. (
      stands _ _ _ (alone d) (at_spot i (g.another {v = v} {e = e0})),
      λ w. let f = snoc (alone d) itself in (
        hole refl _ _ f (at_spot i (g.another {v = v} {e = e0})),
        λ w q zs a c y z. by_any i (λ j. g.another) (snoc f c.low),
      ),
    )) p

-- A binary node, and what follows it.
binary_done : (i : ℕ) (q : Spot) (b : t.Expr) (v : Option Placed) (op : BinaryOp) (zs : List Placed) (a : t.Expr) → i ≤ level_of op → Passes (g.Level (level_of op + 1)) q b v →
    Derives zs (node (g.Level (level_of op)) a) → LevelDone i zs a v
binary_done i q b v op zs a h y d =
    let l = op_level op in
    record {
      low = derives_to i (level_of op) h (omega arith) d;
      operator = λ op2 e k. let u : level_of op2 < level_of op + 1 = op_refused (level_of op + 1) q b v op2 y e in derives_to (level_of op2) (level_of op) (omega arith) (omega arith) d;
      question = λ e k. derives_to 1 (level_of op) (omega arith) (omega arith) d;
    }

level_zero_reach : (i l : ℕ) → 1 ≤ i → reach (g.Level i) l 0 ≡ 0
level_zero_reach zero l h = absurd (omega arith)
level_zero_reach (suc i) l h = refl

next_used : (op : BinaryOp) → is_used (g.Level (level_of op + 1)) ≡ true
next_used op = let h : level_of op ≤ 10 = (op_level op).1 in let k : level_of op + 1 ≤ 11 = omega arith in grind (arith, nat_tests)

beside_reads : (i : ℕ) (s : Spot) (ys : List Placed) (a : t.Expr) (op : BinaryOp) (o : Spot) → i ≤ level_of op → Since s ys → Derives ys (node (g.Level (level_of op)) a) → Reads s ys (is (mark (mark_of op)) o) (beside {i = i} s a op)
beside_reads i s ys a op o h since d =
    let l = op_level op in
    let f = alone d in
    let f2 = snoc f itself in (
      lower_to 0 i (level_of op) h (omega arith) (inside (at_spot s (g.chain {op = op} {a = a} {b = e0} refl)) (all_then f a_word)),
      λ v. (
        record { used = next_used op; begins = λ zs e r b. lower_to r i (level_of op) h (omega arith) (inside (at_spot s (g.chain {op = op} {a = a} {b = e0} refl)) (all_then f2 (here b))) },
        λ v q zs b e y z. binary_done i q b v op _ _ h y (by_since (since_on s _ zs (since_on s ys _ since)) (at_spot s (g.chain {op = op} refl)) (snoc f2 e.low)),
      ),
    )

chosen_reads : (s : Spot) (ys : List Placed) (a : t.Expr) (o : Spot) → Since s ys → Derives ys (node (g.Level 1) a) → Reads s ys (is (mark m.Question) o) (chosen {i = 0} s a)
chosen_reads s ys a o since d =
    let f = alone d in
    let f2 = snoc f itself in (
      stands _ _ _ f (at_spot s (g.conditional {c = a} {a = e0} {b = e0})),
      λ v. (
        hole refl _ _ f2 (at_spot s (g.conditional {c = a} {a = e0} {b = e0})),
        λ v q zs e d2 y z.
            let f3 = snoc f2 d2.low in
            must_colon s ((ys ++ is (mark m.Question) o ∷ []) ++ zs) (otherwise {i = 0} s a e)
            (λ r. (
              stands _ _ _ f3 (at_spot s (g.conditional {c = a} {a = e} {b = e0})),
              λ v. let f4 = snoc f3 itself in (
                hole refl _ _ f4 (at_spot s (g.conditional {c = a} {a = e} {b = e0})),
                λ v q us n d3 y z.
                    let whole = by_since (since_on s _ us (since_on s _ _ (since_on s _ zs (since_on s ys _ since)))) (at_spot s g.conditional) (snoc f4 d3.whole) in
                    record {
                      low = whole;
                      operator = λ op e k. (let h : None ≡ Some op = sym d3.operator ∙ e in absurd (cc));
                      question = λ e k. (let h : false ≡ true = sym d3.question ∙ e in absurd (cc));
                    },
              ),
            )) v,
      ),
    )

took_when : {s : Symbol} (i : Spot) (ys : List Placed) (p : Placed) (b : Bool) (td : Todo s) → (b ≡ true → (is_stop td ≡ false → Stands (ys ++ p ∷ []) s) × ((v : Option Placed) → Left v i (ys ++ p ∷ []) td)) →
    (is_stop (when b td) ≡ false → Stands (ys ++ p ∷ []) s) × ((v : Option Placed) → Left v i (ys ++ p ∷ []) (when b td))
took_when i ys p true td h = h refl
took_when i ys p false td h = stopped i ys p

level_is_zero : (i : ℕ) → nat_le i 0 ≡ true → 0 ≡ i
level_is_zero i h = let k : i ≤ 0 = grind (arith, nat_tests) in omega arith

pub level_goes_on : (i : ℕ) (s : Spot) (ys : List Placed) (a : t.Expr) (p : Placed) → Since s ys → LevelDone i ys a (Some p) → Goes s ys p (tail (g.Level i) s a p)
level_goes_on i s ys a p since d = go (binary_of p.word) refl
  where
    go : (x : Option BinaryOp) → binary_of p.word ≡ x → Goes s ys p (only (operated {i = i} s a p.word x))
    go (Some op) e = took_when s ys p (nat_le i (level_of op)) (beside {i = i} s a op) (λ h.
        let k : i ≤ level_of op = grind (arith, nat_tests) in
        let P : Word → Type 0 = λ y. Reads s ys (is y p.spot) (beside {i = i} s a op) in
        let r = subst P (sym (binary_is p.word op e)) (beside_reads i s ys a op p.spot k since (d.operator op e k)) in
        (λ u. r.0, r.1))
    go None e = took_when s ys p (is_question p.word) (when (nat_le i 0) (chosen {i = i} s a)) (λ h. took_when s ys p (nat_le i 0) (chosen {i = i} s a) (λ k.
        let z : 0 ≡ i = level_is_zero i k in
        let P : Word → Type 0 = λ y. Reads s ys (is y p.spot) (chosen {i = 0} s a) in
        let Q : ℕ → Type 0 = λ j. Reads s ys p (chosen {i = j} s a) in
        let r = subst Q z (subst P (sym (question_is p.word h)) (chosen_reads s ys a p.spot since (d.question h (sym z)))) in
        (λ u. r.0, r.1)))
