-- What is left of each symbol is right: declarators, statements and items, and all of them together.
use Rattle.std.proofs.Common.{ℕ, ◌≡◌, List, [], ◌∷◌, ◌++◌, append_assoc, append-nil, length, map, Option, Some, None, Bool, true, false, refl, ap, sym, ◌∙◌, subst, arith}
use Rattle.rc_syntax.specs.declared.word.Key.TheVariants.{Break, Continue, Deletes, Do, Eof, For, If, Null, Return, Struct, Void, While}
use Rattle.rc_syntax.specs.declared.word.Mark as marks
use Rattle.rc_syntax.specs.declared.word.Mark.TheVariants as m
use Rattle.rc_syntax.specs.declared.tree.Spot.{Spot}
use Rattle.rc_syntax.specs.declared.tree.Name as names
use Rattle.rc_syntax.specs.declared.tree.Note as notes
use Rattle.rc_syntax.specs.declared.tree.Base as bases
use Rattle.rc_syntax.specs.declared.tree.Base.TheVariants as b
use Rattle.rc_syntax.specs.declared.tree.BinaryOp.{BinaryOp}
use Rattle.rc_syntax.specs.declared.tree.BinaryOp.TheVariants as ops
use Rattle.rc_syntax.specs.declared.tree.StepOp.{StepOp}
use Rattle.rc_syntax.specs.declared.tree.StepOp.TheVariants.{Increment, Decrement}
use Rattle.rc_syntax.specs.declared.tree.Constant.TheVariants as k
use Rattle.rc_syntax.specs.Tokens as w
use Rattle.rc_syntax.specs.Tokens.{Word, key, mark}
use Rattle.rc_syntax.specs.Tree as t
use Rattle.rc_syntax.specs.Grammar as g
use Rattle.rc_syntax.specs.Grammar.{Symbol, TreeOf, Placed, Part, word, node, Rule, Derives, itself, by, DeriveAll, done, then, Begins, inside, a_word, here, later, adds, reach, typed, field, global, local, joined, stmts_of, FieldDeclarator, GlobalDeclarator, LocalDeclarator, FunctionEnding}
use Rattle.rc_syntax.specs.reader.Todo.{Todo, build, enter, Deeper, only, within, is_stop, refuses, when, sees, read, or_else}
use Rattle.rc_syntax.specs.reader.Reading as r
use Rattle.rc_syntax.specs.reader.Reading.{first, tail}
use Rattle.rc_syntax.proofs.Sound.{Since, is_used, Hole, Stands, Left, Goes, Skips, recount, since_on, Ready, Done, StmtDone, parts}
use Rattle.rc_syntax.proofs.Fronts.{at_spot, is, snoc, snoc_none, all_then, alone, by_any, by_since, stands, hole, Reads, stopped, took_sees, took_name, took_number, must, must_name, must_open, must_close, must_close_brace, must_close_bracket, must_semicolon, must_while, goes_nowhere, goes_either, open_is, open_brace_is, open_bracket_is, comma_is, equal_is, void_is, else_is}
use Rattle.rc_syntax.proofs.Operands.{e0, b0, x0, ty0, a_name_is, stands_name, no_stars_are, star_goes, stars_go, base_goes, type_goes, level_goes, unary_goes, unary_goes_on, level_goes_on, arm_goes, arguments_go, arguments_go_on, unary_done, level_used, when_stops}

-- What stands for a part that isn't read yet.
abbrev pub o0 : Spot
o0 = record { place = 0; line = 0 }

abbrev pub s0 : t.Stmt
s0 = t.empty o0

abbrev pub d0 : FieldDeclarator
d0 = record { spot = o0; stars = []; name = x0; length = None }

abbrev pub gd0 : GlobalDeclarator
gd0 = record { declarator = d0; constant = None }

abbrev pub ld0 : LocalDeclarator
ld0 = record { spot = o0; stars = []; name = x0; initial = None }

abbrev pub end0 : FunctionEnding
end0 = record { deletes = false; body = None }

abbrev pub p0 : t.Param
p0 = record { spot = o0; type_name = ty0; name = None }

-- Declarators of fields.
field_named_left : (i : Spot) (ys : List Placed) (ns : List notes.Note) (x : names.Name) → Since i ys → DeriveAll ys (node g.Stars ns ∷ node g.Name x ∷ []) → (v : Option Placed) → Left v i ys (r.field_named i ns x)
field_named_left i ys ns x since f v = (
  λ p h. took_sees i ys (r.length_in (λ n u. record { spot = i; stars = ns; name = x; length = Some n })) r.is_open_bracket (mark m.OpenBracket) open_bracket_is
      (λ o. (
        stands _ _ _ f (at_spot i (g.an_array {ns = ns} {x = x} {i = 0} {unsigned = false})),
        λ v. let f2 = snoc f itself in
            must i (ys ++ is (mark m.OpenBracket) o ∷ []) (r.numbered (λ n u. read (sees r.is_close_bracket (build (record { spot = i; stars = ns; name = x; length = Some n })))))
            (took_number i (ys ++ is (mark m.OpenBracket) o ∷ []) (λ n u. read (sees r.is_close_bracket (build (record { spot = i; stars = ns; name = x; length = Some n }))))
            (λ q n u. (
              stands _ _ _ f2 (at_spot i (g.an_array {ns = ns} {x = x} {i = n} {unsigned = u})),
              let f3 = snoc f2 itself in
                  must_close_bracket i ((ys ++ is (mark m.OpenBracket) o ∷ []) ++ is (w.number n u) q ∷ []) (build (record { spot = i; stars = ns; name = x; length = Some n }))
                  (λ q. (
                    stands _ _ _ f3 (at_spot i (g.an_array {ns = ns} {x = x} {i = n} {unsigned = u})),
                    λ v. by_since (since_on i _ _ (since_on i _ _ (since_on i ys _ since))) (at_spot i (g.an_array {unsigned = u})) (snoc f3 itself),
                  )),
            ))) v,
      )) p,
  λ h. by_since since (at_spot i g.a_field) f,
)

field_dec_goes : (o : Spot) (y : Word) → Goes o [] (is y o) (r.field_dec_in o y)
field_dec_goes o (mark m.Star) = (
  hole refl _ _ done (at_spot o (g.a_field {ns = []} {x = x0})),
  λ v q zs ns d y since. must_name o zs (r.field_named o ns)
      (λ p x. (
        stands_name p x x0 _ (alone d) (at_spot o (g.a_field {ns = ns} {x = x0})),
        field_named_left o (zs ++ is (w.name x) p ∷ []) ns (record { spot = p; text = x }) (since_on o zs _ since) (snoc (alone d) (a_name_is p x)),
      )) v,
  star_goes o o [] [] no_stars_are,
)
field_dec_goes o (w.name x) = (
  λ e. stands_name o x x0 _ (snoc done no_stars_are) (at_spot o (g.a_field {ns = []} {x = x0})),
  field_named_left o (is (w.name x) o ∷ []) [] (record { spot = o; text = x }) refl (snoc (snoc done no_stars_are) (a_name_is o x)),
)
field_dec_goes o y = goes_nowhere o [] (is y o)

field_decs_go : (p : Placed) → Goes p.spot [] p (first g.FieldDecs p)
field_decs_go p = (
  hole refl _ _ done (at_spot p.spot (g.one_field {d = d0})),
  λ v q zs d f y z. by_any p.spot (λ j. g.one_field) (alone f),
  field_dec_goes p.spot p.word,
)

field_decs_go_on : (i : Spot) (ys : List Placed) (ds : List FieldDeclarator) (p : Placed) → Derives ys (node g.FieldDecs ds) → Goes i ys p (tail g.FieldDecs i ds p)
field_decs_go_on i ys ds p d =
    took_sees i ys (enter g.FieldDec (λ c. build (ds ++ c ∷ []))) r.is_comma (mark m.Comma) comma_is
    (λ o. (
      stands _ _ _ (alone d) (at_spot i (g.another_field {before = ds} {d = d0})),
      λ v. let f = snoc (alone d) itself in (
        hole refl _ _ f (at_spot i (g.another_field {before = ds} {d = d0})),
        λ v q zs c e y z. by_any i (λ j. g.another_field) (snoc f e),
      ),
    )) p

a_field_goes : (p : Placed) → Goes p.spot [] p (first g.Field p)
a_field_goes p = (
  hole refl _ _ done (at_spot p.spot (g.fields {base = b0} {ds = []})),
  λ v q zs a d y z. (
    hole refl _ _ (alone d) (at_spot p.spot (g.fields {base = a} {ds = []})),
    λ v q us ds e y z.
        let f = snoc (alone d) e in
        must_semicolon p.spot (zs ++ us) (build (map (field a) ds))
        (λ o. (stands _ _ _ f (at_spot p.spot (g.fields {base = a} {ds = ds})), λ v. by_any p.spot (λ j. g.fields) (snoc f itself))) v,
  ),
  base_goes p.spot p.word,
)

fields_go : (p : Placed) → Goes p.spot [] p (first g.Fields p)
fields_go p = (
  hole refl _ _ done (at_spot p.spot (g.first_field {fs = []})),
  λ v q zs a d y z. by_any p.spot (λ j. g.first_field) (alone d),
  a_field_goes p,
)

fields_go_on : (i : Spot) (ys : List Placed) (fs : List t.Field) (p : Placed) → Derives ys (node g.Fields fs) → Goes i ys p (tail g.Fields i fs p)
fields_go_on i ys fs p d = (
  hole refl _ _ (alone d) (at_spot i (g.more_fields {before = fs} {fs = []})),
  λ v q zs a e y z. by_any i (λ j. g.more_fields) (snoc (alone d) e),
  a_field_goes p,
)

-- Declarators of globals.
number_left : (o : Spot) (v : Option Placed) → Left v o (is (mark m.Minus) o ∷ []) (read (r.numbered (λ n u. build {s = g.Constant} (k.Negative o n u))))
number_left o =
    must o (is (mark m.Minus) o ∷ []) (r.numbered (λ n u. build (k.Negative o n u)))
    (took_number o (is (mark m.Minus) o ∷ []) (λ n u. build (k.Negative o n u))
    (λ q n u. (stands _ _ _ (alone itself) (at_spot o (g.a_negative {i = n} {unsigned = u})), λ v. by refl (at_spot o g.a_negative) (snoc (alone itself) itself))))

constant_goes : (o : Spot) (y : Word) → Goes o [] (is y o) (only (r.constant_in o y))
constant_goes o (w.number n u) = (λ e. stands _ _ _ done (at_spot o g.a_constant), λ v. by refl g.a_constant (alone itself))
constant_goes o (mark m.Minus) = (λ e. stands _ _ _ done (at_spot o (g.a_negative {i = 0} {unsigned = false})), number_left o)
constant_goes o (w.character n) = (λ e. stands _ _ _ done (at_spot o g.a_code), λ v. by refl g.a_code (alone itself))
constant_goes o (key Null) = (λ e. stands _ _ _ done (at_spot o g.a_null), λ v. by refl g.a_null (alone itself))
constant_goes o (key Eof) = (λ e. stands _ _ _ done (at_spot o g.an_eof), λ v. by refl g.an_eof (alone itself))
constant_goes o y = goes_nowhere o [] (is y o)

initialised_left : (i : Spot) (ys : List Placed) (d : FieldDeclarator) → Derives ys (node g.FieldDec d) → (v : Option Placed) → Left v i ys (r.initialised d)
initialised_left i ys d c v = (
  λ p h. took_sees i ys (enter g.Constant (λ n. build (record { declarator = d; constant = Some n }))) r.is_equal (mark m.Equal) equal_is
      (λ o. (
        stands _ _ _ (alone c) (at_spot i (g.an_initial {d = d} {i = k.Null i})),
        λ v. let f = snoc (alone c) itself in (
          hole refl _ _ f (at_spot i (g.an_initial {d = d} {i = k.Null i})),
          λ v q zs n e y z. by_any i (λ j. g.an_initial) (snoc f e),
        ),
      )) p,
  λ h. by_any i (λ j. g.a_global) (alone c),
)

dec_goes : (p : Placed) → Goes p.spot [] p (first g.Dec p)
dec_goes p = (
  hole refl _ _ done (at_spot p.spot (g.a_global {d = d0})),
  λ v q zs d c y z. initialised_left p.spot zs d c v,
  field_dec_goes p.spot p.word,
)

decs_go : (p : Placed) → Goes p.spot [] p (first g.Decs p)
decs_go p = (
  hole refl _ _ done (at_spot p.spot (g.one_global {d = gd0})),
  λ v q zs d f y z. by_any p.spot (λ j. g.one_global) (alone f),
  dec_goes p,
)

decs_go_on : (i : Spot) (ys : List Placed) (ds : List GlobalDeclarator) (p : Placed) → Derives ys (node g.Decs ds) → Goes i ys p (tail g.Decs i ds p)
decs_go_on i ys ds p d =
    took_sees i ys (enter g.Dec (λ c. build (ds ++ c ∷ []))) r.is_comma (mark m.Comma) comma_is
    (λ o. (
      stands _ _ _ (alone d) (at_spot i (g.another_global {before = ds} {d = gd0})),
      λ v. let f = snoc (alone d) itself in (
        hole refl _ _ f (at_spot i (g.another_global {before = ds} {d = gd0})),
        λ v q zs c e y z. by_any i (λ j. g.another_global) (snoc f e),
      ),
    )) p

-- Declarators of locals.
local_named_left : (i : Spot) (ys : List Placed) (ns : List notes.Note) (x : names.Name) → Since i ys → DeriveAll ys (node g.Stars ns ∷ node g.Name x ∷ []) → (v : Option Placed) → Left v i ys (r.local_named i ns x)
local_named_left i ys ns x since f v = (
  λ p h. took_sees i ys (enter (g.Level 0) (λ e. build (record { spot = i; stars = ns; name = x; initial = Some e }))) r.is_equal (mark m.Equal) equal_is
      (λ o. (
        stands _ _ _ f (at_spot i (g.a_local_with {ns = ns} {x = x} {e = e0})),
        λ v. let f2 = snoc f itself in (
          hole refl _ _ f2 (at_spot i (g.a_local_with {ns = ns} {x = x} {e = e0})),
          λ v q zs e d y z. by_since (since_on i _ zs (since_on i ys _ since)) (at_spot i g.a_local_with) (snoc f2 d.low),
        ),
      )) p,
  λ h. by_since since (at_spot i g.a_local) f,
)

local_dec_goes : (o : Spot) (y : Word) → Goes o [] (is y o) (r.local_dec_in o y)
local_dec_goes o (mark m.Star) = (
  hole refl _ _ done (at_spot o (g.a_local {ns = []} {x = x0})),
  λ v q zs ns d y since. must_name o zs (r.local_named o ns)
      (λ p x. (
        stands_name p x x0 _ (alone d) (at_spot o (g.a_local {ns = ns} {x = x0})),
        local_named_left o (zs ++ is (w.name x) p ∷ []) ns (record { spot = p; text = x }) (since_on o zs _ since) (snoc (alone d) (a_name_is p x)),
      )) v,
  star_goes o o [] [] no_stars_are,
)
local_dec_goes o (w.name x) = (
  λ e. stands_name o x x0 _ (snoc done no_stars_are) (at_spot o (g.a_local {ns = []} {x = x0})),
  local_named_left o (is (w.name x) o ∷ []) [] (record { spot = o; text = x }) refl (snoc (snoc done no_stars_are) (a_name_is o x)),
)
local_dec_goes o y = goes_nowhere o [] (is y o)

local_decs_go : (p : Placed) → Goes p.spot [] p (first g.LocalDecs p)
local_decs_go p = (
  hole refl _ _ done (at_spot p.spot (g.one_local {d = ld0})),
  λ v q zs d f y z. by_any p.spot (λ j. g.one_local) (alone f),
  local_dec_goes p.spot p.word,
)

local_decs_go_on : (i : Spot) (ys : List Placed) (ds : List LocalDeclarator) (p : Placed) → Derives ys (node g.LocalDecs ds) → Goes i ys p (tail g.LocalDecs i ds p)
local_decs_go_on i ys ds p d =
    took_sees i ys (enter g.LocalDec (λ c. build (ds ++ c ∷ []))) r.is_comma (mark m.Comma) comma_is
    (λ o. (
      stands _ _ _ (alone d) (at_spot i (g.another_local {before = ds} {d = ld0})),
      λ v. let f = snoc (alone d) itself in (
        hole refl _ _ f (at_spot i (g.another_local {before = ds} {d = ld0})),
        λ v q zs c e y z. by_any i (λ j. g.another_local) (snoc f e),
      ),
    )) p

locals_go : (p : Placed) → Goes p.spot [] p (first g.Locals p)
locals_go p = (
  hole refl _ _ done (at_spot p.spot (g.locals {base = b0} {ds = []})),
  λ v q zs a d y z. (
    hole refl _ _ (alone d) (at_spot p.spot (g.locals {base = a} {ds = []})),
    λ v q us ds e y z.
        let f = snoc (alone d) e in
        must_semicolon p.spot (zs ++ us) (build (map (local a) ds))
        (λ o. (stands _ _ _ f (at_spot p.spot (g.locals {base = a} {ds = ds})), λ v. by_any p.spot (λ j. g.locals) (snoc f itself))) v,
  ),
  base_goes p.spot p.word,
)

-- Simple statements.
updated_reads : (i : Spot) (ys : List Placed) (l : t.Expr) (op : BinaryOp) (x : marks.Mark) (o : Spot) → g.update_of op ≡ Some x → Since i ys → Derives ys (node g.Unary l) → Reads i ys (is (mark x) o) (r.updated i l op)
updated_reads i ys l op x o e since d = (
  stands _ _ _ (alone d) (at_spot i (g.updates {op = op} {i = x} {l = l} {r = e0} e)),
  λ v. let f = snoc (alone d) itself in (
    hole refl _ _ f (at_spot i (g.updates {op = op} {i = x} {l = l} {r = e0} e)),
    λ v q zs a c y z. by_since (since_on i _ zs (since_on i ys _ since)) (at_spot i (g.updates {op = op} e)) (snoc f c.low),
  ),
)

updated_took : (i : Spot) (ys : List Placed) (l : t.Expr) (op : BinaryOp) (x : marks.Mark) (o : Spot) → g.update_of op ≡ Some x → Since i ys → Derives ys (node g.Unary l) →
    (is_stop (r.updated i l op) ≡ false → Stands (ys ++ is (mark x) o ∷ []) g.Simple) × ((v : Option Placed) → Left v i (ys ++ is (mark x) o ∷ []) (r.updated i l op))
updated_took i ys l op x o e since d = let p = updated_reads i ys l op x o e since d in (λ h. p.0, p.1)

assigned_took : (i : Spot) (ys : List Placed) (l : t.Expr) → Since i ys → Derives ys (node g.Unary l) → (o : Spot) (y : Word) →
    (is_stop (r.assigned i l y) ≡ false → Stands (ys ++ is y o ∷ []) g.Simple) × ((v : Option Placed) → Left v i (ys ++ is y o ∷ []) (r.assigned i l y))
assigned_took i ys l since d o (mark m.Equal) = (
  λ h. stands _ _ _ (alone d) (at_spot i (g.assigns {l = l} {r = e0})),
  λ v. let f = snoc (alone d) itself in (
    hole refl _ _ f (at_spot i (g.assigns {l = l} {r = e0})),
    λ v q zs a c y z. by_since (since_on i _ zs (since_on i ys _ since)) (at_spot i g.assigns) (snoc f c.low),
  ),
)
assigned_took i ys l since d o (mark m.BarEqual) = updated_took i ys l ops.BitOr m.BarEqual o refl since d
assigned_took i ys l since d o (mark m.CaretEqual) = updated_took i ys l ops.BitXor m.CaretEqual o refl since d
assigned_took i ys l since d o (mark m.AmpersandEqual) = updated_took i ys l ops.BitAnd m.AmpersandEqual o refl since d
assigned_took i ys l since d o (mark m.ShiftLeftEqual) = updated_took i ys l ops.ShiftLeft m.ShiftLeftEqual o refl since d
assigned_took i ys l since d o (mark m.ShiftRightEqual) = updated_took i ys l ops.ShiftRight m.ShiftRightEqual o refl since d
assigned_took i ys l since d o (mark m.PlusEqual) = updated_took i ys l ops.Add m.PlusEqual o refl since d
assigned_took i ys l since d o (mark m.MinusEqual) = updated_took i ys l ops.Subtract m.MinusEqual o refl since d
assigned_took i ys l since d o (mark m.StarEqual) = updated_took i ys l ops.Multiply m.StarEqual o refl since d
assigned_took i ys l since d o (mark m.SlashEqual) = updated_took i ys l ops.Divide m.SlashEqual o refl since d
assigned_took i ys l since d o (mark m.PercentEqual) = updated_took i ys l ops.Remainder m.PercentEqual o refl since d
assigned_took i ys l since d o (mark m.PlusPlus) = (
  λ h. stands _ _ _ (alone d) (at_spot i (g.steps_after {op = Increment} {l = l})),
  λ v. by_since (since_on i ys _ since) (at_spot i (g.steps_after {op = Increment})) (snoc (alone d) itself),
)
assigned_took i ys l since d o (mark m.MinusMinus) = (
  λ h. stands _ _ _ (alone d) (at_spot i (g.steps_after {op = Decrement} {l = l})),
  λ v. by_since (since_on i ys _ since) (at_spot i (g.steps_after {op = Decrement})) (snoc (alone d) itself),
)
assigned_took i ys l since d o y = stopped i ys (is y o)

left_side_left : (i : Spot) (ys : List Placed) (l : t.Expr) → Since i ys → Derives ys (node g.Unary l) → (v : Option Placed) → Left v i ys (r.left_side i l)
left_side_left i ys l since d v = (
  λ p h. assigned_took i ys l since d p.spot p.word,
  λ h. (
    [],
    ys,
    refl,
    refl,
    since,
    hole refl _ _ done (at_spot i (g.evaluates {e = e0})),
    unary_done 0 (omega arith) v d,
    λ v q zs e c y z. by_any i (λ j. g.evaluates) (alone c.low),
  ),
)

stepped_left : (o : Spot) (op : StepOp) (v : Option Placed) → Left v o (is (mark (g.step_of op)) o ∷ []) (r.stepped o op)
stepped_left o op v = (
  hole refl _ _ (alone itself) (at_spot o (g.steps_before {op = op} {l = e0})),
  λ v q zs l d y z. by refl (at_spot o (g.steps_before {op = op})) (snoc (alone itself) d.whole),
)

simple_in_goes : (o : Spot) (y : Word) (d : Deeper g.Simple) → Goes o [] (is y o) d → Goes o [] (is y o) (r.simple_in o y d)
simple_in_goes o (mark m.PlusPlus) d h = (λ e. stands _ _ _ done (at_spot o (g.steps_before {op = Increment} {l = e0})), stepped_left o Increment)
simple_in_goes o (mark m.MinusMinus) d h = (λ e. stands _ _ _ done (at_spot o (g.steps_before {op = Decrement} {l = e0})), stepped_left o Decrement)
simple_in_goes o y d h = h

simple_goes : (p : Placed) → Goes p.spot [] p (first g.Simple p)
simple_goes p = simple_in_goes p.spot p.word (within g.Unary (r.left_side p.spot) (r.unary p)) (
  hole refl _ _ done (at_spot p.spot (g.assigns {l = e0} {r = e0})),
  λ v q zs l d y since. left_side_left p.spot zs l since d.whole v,
  unary_goes p.spot p.word,
)

-- Statements.
no_stmts_are : Derives [] (node g.Body t.done)
no_stmts_are = by {at = o0} tt g.no_stmts done

block_goes : (p : Placed) → Goes p.spot [] p (first g.Block p)
block_goes p =
    took_sees p.spot [] r.block_body r.is_open_brace (mark m.OpenBrace) open_brace_is
    (λ o. (
      stands _ _ _ done (at_spot o (g.a_block {body = t.done})),
      λ v. let f : DeriveAll (is (mark m.OpenBrace) o ∷ []) (g.sign m.OpenBrace ∷ []) = alone itself in (
        hole refl _ _ f (at_spot o (g.a_block {body = t.done})),
        λ v. no_stmts_are,
        λ o zs. tt,
        λ q h. must_close_brace p.spot (is (mark m.OpenBrace) o ∷ []) (build t.done)
            (λ q. (stands _ _ _ (snoc_none f no_stmts_are) (at_spot o (g.a_block {body = t.done})), λ v. by_any o (λ j. g.a_block) (snoc (snoc_none f no_stmts_are) itself))) v,
        λ q h v s zs a d y z. must_close_brace p.spot (is (mark m.OpenBrace) o ∷ zs) (build a)
            (λ q. (stands _ _ _ (snoc f d) (at_spot o (g.a_block {body = a})), λ v. by_any o (λ j. g.a_block) (snoc (snoc f d) itself))) v,
      ),
    )) p

expr_end_in_goes : (o : Spot) (y : Word) (d : Deeper g.ExprEnd) → Goes o [] (is y o) d → Goes o [] (is y o) (r.expr_end_in y d)
expr_end_in_goes o (mark m.Semicolon) d h = (λ e. stands _ _ _ done (at_spot o g.no_expr), λ v. by refl (at_spot o g.no_expr) (alone itself))
expr_end_in_goes o y d h = h

expr_end_goes : (p : Placed) → Goes p.spot [] p (first g.ExprEnd p)
expr_end_goes p = expr_end_in_goes p.spot p.word (within (g.Level 0) (λ e. read (sees r.is_semicolon (build (Some e)))) (r.level p)) (
  hole refl _ _ done (at_spot p.spot (g.an_expr {e = e0})),
  λ v q zs e d y z. must_semicolon p.spot zs (build (Some e)) (λ o. (stands _ _ _ (alone d.low) (at_spot p.spot (g.an_expr {e = e})), λ v. by_any o (λ j. g.an_expr) (snoc (alone d.low) itself))) v,
  level_goes 0 (omega arith) p (unary_goes p.spot p.word),
)

simple_end_in_goes : (o : Spot) (y : Word) (d : Deeper g.SimpleEnd) → Goes o [] (is y o) d → Goes o [] (is y o) (r.simple_end_in y d)
simple_end_in_goes o (mark m.CloseParenthesis) d h = (λ e. stands _ _ _ done (at_spot o g.no_simple), λ v. by refl (at_spot o g.no_simple) (alone itself))
simple_end_in_goes o y d h = h

simple_end_goes : (p : Placed) → Goes p.spot [] p (first g.SimpleEnd p)
simple_end_goes p = simple_end_in_goes p.spot p.word (within g.Simple (λ x. read (sees r.is_close (build (Some x)))) (r.simple p)) (
  hole refl _ _ done (at_spot p.spot (g.some_simple {x = t.expression e0})),
  λ v q zs x d y z. must_close p.spot zs (build (Some x)) (λ o. (stands _ _ _ (alone d) (at_spot p.spot (g.some_simple {x = x})), λ v. by_any o (λ j. g.some_simple) (snoc (alone d) itself))) v,
  simple_goes p,
)

for_start_in_goes : (o : Spot) (y : Word) (d : Deeper g.ForStart) → Goes o [] (is y o) d → Goes o [] (is y o) (r.for_start_in y d)
for_start_in_goes o (mark m.Semicolon) d h = (λ e. stands _ _ _ done (at_spot o g.starts_nothing), λ v. by refl (at_spot o g.starts_nothing) (alone itself))
for_start_in_goes o y d h = h

for_start_goes : (p : Placed) → Goes p.spot [] p (first g.ForStart p)
for_start_goes p =
    let d : Deeper g.ForStart = within g.Locals (λ ls. build (t.locals ls)) (r.locals p) in
    let e : Deeper g.ForStart = within g.Simple (λ x. read (sees r.is_semicolon (build (t.simply x)))) (r.simple p) in
    for_start_in_goes p.spot p.word (or_else d e) (goes_either p.spot [] p (refuses d) d e (
      hole refl _ _ done (at_spot p.spot (g.starts_local {ls = []})),
      λ v q zs ls d y z. by_any p.spot (λ j. g.starts_local) (alone d),
      locals_go p,
    ) (
      hole refl _ _ done (at_spot p.spot (g.starts_simple {x = t.expression e0})),
      λ v q zs x d y z. must_semicolon p.spot zs (build (t.simply x)) (λ o. (stands _ _ _ (alone d) (at_spot p.spot (g.starts_simple {x = x})), λ v. by_any o (λ j. g.starts_simple) (snoc (alone d) itself))) v,
      simple_goes p,
    ))

-- A statement that doesn't end in an `if`.
closed_done : {ys : List Placed} {a : t.Stmt} (v : Option Placed) → g.ends_open a ≡ false → Derives ys (node g.Stmt a) → StmtDone ys a v
closed_done v e d = record { whole = d; ended = λ h. e }

if_done_left : (o : Spot) (ys : List Placed) (e : t.Expr) (a : t.Stmt) → Since o ys → (f : DeriveAll ys (g.keyword If ∷ g.sign m.OpenParenthesis ∷ node (g.Level 0) e ∷ g.sign m.CloseParenthesis ∷ node g.Stmt a ∷ [])) →
    (v : Option Placed) → (parts v ≡ true → g.ends_open a ≡ false) → Left v o ys (r.if_done o e a)
if_done_left o ys e a since f v ended = (
  λ p h. took_else p h,
  λ h. record { whole = by_since since (at_spot o g.an_if) f; ended = not_else v h },
)
  where
    took_else : (p : Placed) → v ≡ Some p → (is_stop {s = g.Stmt} (sees r.is_else (enter g.Stmt (λ n. build (t.if_else o e a n))) p) ≡ false → Stands (ys ++ p ∷ []) g.Stmt) × ((w : Option Placed) → Left {s = g.Stmt} w o (ys ++ p ∷ []) (sees r.is_else (enter g.Stmt (λ n. build (t.if_else o e a n))) p))
    took_else p h = go (r.is_else p.word) refl
      where
        go : (b : Bool) → r.is_else p.word ≡ b → (is_stop {s = g.Stmt} (when b (enter g.Stmt (λ n. build (t.if_else o e a n)))) ≡ false → Stands (ys ++ p ∷ []) g.Stmt) × ((w : Option Placed) → Left {s = g.Stmt} w o (ys ++ p ∷ []) (when b (enter g.Stmt (λ n. build (t.if_else o e a n)))))
        go false i = stopped o ys p
        go true i =
            let shut : g.ends_open a ≡ false = ended (ap parts h ∙ i) in
            let P : Word → Type 0 = λ y. Reads {s = g.Stmt} o ys (is y p.spot) (enter g.Stmt (λ n. build (t.if_else o e a n))) in
            let x = subst P (sym (else_is p.word i)) (
              stands _ _ _ f (at_spot o (g.an_if_else {e = e} {a = a} {b = s0} shut)),
              λ w. let f2 = snoc f itself in (
                hole refl _ _ f2 (at_spot o (g.an_if_else {e = e} {a = a} {b = s0} shut)),
                λ w q zs n d y z. record { whole = by_since (since_on o _ zs (since_on o ys _ since)) (at_spot o (g.an_if_else shut)) (snoc f2 d.whole); ended = d.ended },
              ),
            ) in
            (λ u. x.0, x.1)

    not_else : (v : Option Placed) → Skips {s = g.Stmt} (sees r.is_else (enter g.Stmt (λ n. build (t.if_else o e a n)))) v → parts v ≡ true → true ≡ false
    not_else None h i = absurd (cc)
    not_else (Some p) h i = sym i ∙ when_stops (r.is_else p.word) (enter g.Stmt (λ n. build (t.if_else o e a n))) refl h

if_left : (o : Spot) (v : Option Placed) → Left v o (is (key If) o ∷ []) (r.tested (r.if_done o))
if_left o =
    let ys : List Placed = is (key If) o ∷ [] in
    must_open o ys (enter (g.Level 0) (λ e. read (sees r.is_close (enter g.Stmt (r.if_done o e))))) (λ p. (
      stands _ _ _ (alone itself) (at_spot o (g.an_if {e = e0} {a = s0})),
      λ v. let f : DeriveAll (ys ++ is (mark m.OpenParenthesis) p ∷ []) (g.keyword If ∷ g.sign m.OpenParenthesis ∷ []) = snoc (alone itself) itself in (
        hole refl _ _ f (at_spot o (g.an_if {e = e0} {a = s0})),
        λ v q zs e d y z. let f2 = snoc f d.low in
            must_close o ((ys ++ is (mark m.OpenParenthesis) p ∷ []) ++ zs) (enter g.Stmt (r.if_done o e)) (λ p. (
              stands _ _ _ f2 (at_spot o (g.an_if {e = e} {a = s0})),
              λ v. let f3 = snoc f2 itself in (
                hole refl _ _ f3 (at_spot o (g.an_if {e = e} {a = s0})),
                λ v q us a c y z. if_done_left o _ e a refl (snoc f3 c.whole) v c.ended,
              ),
            )) v,
      ),
    ))

while_left : (o : Spot) (v : Option Placed) → Left v o (is (key While) o ∷ []) (r.tested (λ e a. build (t.while_do o e a)))
while_left o =
    let ys : List Placed = is (key While) o ∷ [] in
    must_open o ys (enter (g.Level 0) (λ e. read (sees r.is_close (enter g.Stmt (λ a. build (t.while_do o e a)))))) (λ p. (
      stands _ _ _ (alone itself) (at_spot o (g.a_while {e = e0} {a = s0})),
      λ v. let f : DeriveAll (ys ++ is (mark m.OpenParenthesis) p ∷ []) (g.keyword While ∷ g.sign m.OpenParenthesis ∷ []) = snoc (alone itself) itself in (
        hole refl _ _ f (at_spot o (g.a_while {e = e0} {a = s0})),
        λ v q zs e d y z. let f2 = snoc f d.low in
            must_close o ((ys ++ is (mark m.OpenParenthesis) p ∷ []) ++ zs) (enter g.Stmt (λ a. build (t.while_do o e a))) (λ p. (
              stands _ _ _ f2 (at_spot o (g.a_while {e = e} {a = s0})),
              λ v. let f3 = snoc f2 itself in (
                hole refl _ _ f3 (at_spot o (g.a_while {e = e} {a = s0})),
                λ v q us a c y z. record { whole = by refl (at_spot o g.a_while) (snoc f3 c.whole); ended = c.ended },
              ),
            )) v,
      ),
    ))

do_left : (o : Spot) (v : Option Placed) → Left v o (is (key Do) o ∷ []) (enter g.Stmt (r.until o))
do_left o v = (
  hole refl _ _ (alone itself) (at_spot o (g.a_do {a = s0} {e = e0})),
  λ v q zs a c y z.
      let f : DeriveAll (is (key Do) o ∷ zs) (g.keyword Do ∷ node g.Stmt a ∷ []) = snoc (alone itself) c.whole in
      must_while o (is (key Do) o ∷ zs) (read (sees r.is_open (enter (g.Level 0) (λ e. read (sees r.is_close (read (sees r.is_semicolon (build (t.do_while o a e))))))))) (λ p. (
        stands _ _ _ f (at_spot o (g.a_do {a = a} {e = e0})),
        let f2 = snoc f itself in
            must_open o (is (key Do) o ∷ (zs ++ is (key While) p ∷ [])) (enter (g.Level 0) (λ e. read (sees r.is_close (read (sees r.is_semicolon (build (t.do_while o a e))))))) (λ q. (
              stands _ _ _ f2 (at_spot o (g.a_do {a = a} {e = e0})),
              λ v. let f3 = snoc f2 itself in (
                hole refl _ _ f3 (at_spot o (g.a_do {a = a} {e = e0})),
                λ v u us e d y z. let f4 = snoc f3 d.low in
                    must_close o (is (key Do) o ∷ (((zs ++ is (key While) p ∷ []) ++ is (mark m.OpenParenthesis) q ∷ []) ++ us)) (read (sees r.is_semicolon (build (t.do_while o a e)))) (λ x. (
                      stands _ _ _ f4 (at_spot o (g.a_do {a = a} {e = e})),
                      let f5 = snoc f4 itself in
                          must_semicolon o (is (key Do) o ∷ ((((zs ++ is (key While) p ∷ []) ++ is (mark m.OpenParenthesis) q ∷ []) ++ us) ++ is (mark m.CloseParenthesis) x ∷ [])) (build (t.do_while o a e)) (λ x. (
                            stands _ _ _ f5 (at_spot o (g.a_do {a = a} {e = e})),
                            λ v. closed_done v refl (by refl (at_spot o g.a_do) (snoc f5 itself)),
                          )),
                    )) v,
              ),
            )),
      )) v,
)

for_left : (o : Spot) (v : Option Placed) → Left v o (is (key For) o ∷ []) (read (sees r.is_open (r.for_head o)))
for_left o =
    must_open o (is (key For) o ∷ []) (r.for_head o) (λ p. (
      stands _ _ _ (alone itself) (at_spot o (g.a_for {start = t.nothing} {e = None} {then = None} {a = s0})),
      λ v. let f : DeriveAll (is (key For) o ∷ is (mark m.OpenParenthesis) p ∷ []) (g.keyword For ∷ g.sign m.OpenParenthesis ∷ []) = snoc (alone itself) itself in (
        hole refl _ _ f (at_spot o (g.a_for {start = t.nothing} {e = None} {then = None} {a = s0})),
        λ v q zs start d y z. let f2 = snoc f d in (
          hole refl _ _ f2 (at_spot o (g.a_for {start = start} {e = None} {then = None} {a = s0})),
          λ v q us e d y z. let f3 = snoc f2 d in (
            hole refl _ _ f3 (at_spot o (g.a_for {start = start} {e = e} {then = None} {a = s0})),
            λ v q us x d y z. let f4 = snoc f3 d in (
              hole refl _ _ f4 (at_spot o (g.a_for {start = start} {e = e} {then = x} {a = s0})),
              λ v q us a c y z. record { whole = by refl (at_spot o g.a_for) (snoc f4 c.whole); ended = c.ended },
            ),
          ),
        ),
      ),
    ))

stmt_in_goes : (o : Spot) (y : Word) (d : Deeper g.Stmt) → Goes o [] (is y o) d → Goes o [] (is y o) (r.stmt_in o y d)
stmt_in_goes o (mark m.Semicolon) d h = (λ e. stands _ _ _ done (at_spot o g.an_empty), λ v. closed_done v refl (by refl (at_spot o g.an_empty) (alone itself)))
stmt_in_goes o (key If) d h = (λ e. stands _ _ _ done (at_spot o (g.an_if {e = e0} {a = s0})), if_left o)
stmt_in_goes o (key While) d h = (λ e. stands _ _ _ done (at_spot o (g.a_while {e = e0} {a = s0})), while_left o)
stmt_in_goes o (key Do) d h = (λ e. stands _ _ _ done (at_spot o (g.a_do {a = s0} {e = e0})), do_left o)
stmt_in_goes o (key For) d h = (λ e. stands _ _ _ done (at_spot o (g.a_for {start = t.nothing} {e = None} {then = None} {a = s0})), for_left o)
stmt_in_goes o (key Break) d h = (
  λ e. stands _ _ _ done (at_spot o g.a_break),
  must_semicolon o (is (key Break) o ∷ []) (build (t.break_loop o)) (λ q. (stands _ _ _ (alone itself) (at_spot o g.a_break), λ v. closed_done v refl (by refl (at_spot o g.a_break) (snoc (alone itself) itself)))),
)
stmt_in_goes o (key Continue) d h = (
  λ e. stands _ _ _ done (at_spot o g.a_continue),
  must_semicolon o (is (key Continue) o ∷ []) (build (t.continue_loop o)) (λ q. (stands _ _ _ (alone itself) (at_spot o g.a_continue), λ v. closed_done v refl (by refl (at_spot o g.a_continue) (snoc (alone itself) itself)))),
)
stmt_in_goes o (key Return) d h = (
  λ e. stands _ _ _ done (at_spot o (g.a_return {e = None})),
  λ v. (
    hole refl _ _ (alone itself) (at_spot o (g.a_return {e = None})),
    λ v q zs e d y z. closed_done v refl (by refl (at_spot o g.a_return) (snoc (alone itself) d)),
  ),
)
stmt_in_goes o y d h = h

stmt_goes : (p : Placed) → Goes p.spot [] p (first g.Stmt p)
stmt_goes p =
    let d : Deeper g.Stmt = within g.Block (λ a. build (t.block p.spot a)) (r.block p) in
    let e : Deeper g.Stmt = within g.Simple (λ x. read (sees r.is_semicolon (build (t.simple p.spot x)))) (r.simple p) in
    stmt_in_goes p.spot p.word (or_else d e) (goes_either p.spot [] p (refuses d) d e (
      hole refl _ _ done (at_spot p.spot (g.a_block_stmt {body = t.done})),
      λ v q zs a d y since. closed_done v refl (by_since since (at_spot p.spot g.a_block_stmt) (alone d)),
      block_goes p,
    ) (
      hole refl _ _ done (at_spot p.spot (g.a_simple {x = t.expression e0})),
      λ v q zs x d y since. must_semicolon p.spot zs (build (t.simple p.spot x)) (λ o. (
        stands _ _ _ (alone d) (at_spot p.spot (g.a_simple {x = x})),
        λ v. closed_done v refl (by_since (since_on p.spot zs _ since) (at_spot p.spot g.a_simple) (snoc (alone d) itself)),
      )) v,
      simple_goes p,
    ))

body_goes_on : (i : Spot) (ys : List Placed) (a : t.Stmts) (p : Placed) → Derives ys (node g.Body a) → Goes i ys p (tail g.Body i a p)
body_goes_on i ys a p d =
    let l : Deeper g.Body = within g.Locals (λ ls. build (joined a (stmts_of ls))) (r.locals p) in
    let n : Deeper g.Body = within g.Stmt (λ n. build (joined a (t.next n t.done))) (r.stmt p) in
    goes_either i ys p (refuses l) l n (
      hole refl _ _ (alone d) (at_spot i (g.then_locals {before = a} {ls = []})),
      λ v q zs ls e y z. by_any i (λ j. g.then_locals) (snoc (alone d) e),
      locals_go p,
    ) (
      hole refl _ _ (alone d) (at_spot i (g.then_stmt {before = a} {s = s0})),
      λ v q zs s e y z. by_any i (λ j. g.then_stmt) (snoc (alone d) e.whole),
      stmt_goes p,
    )

-- Functions.
param_goes : (p : Placed) → Goes p.spot [] p (first g.Param p)
param_goes p = (
  hole refl _ _ done (at_spot p.spot (g.a_nameless {ty = ty0})),
  λ v q zs ty d y since. (
    λ n h. took_name p.spot zs (λ x. build (record { spot = p.spot; type_name = ty; name = Some x }))
        (λ q x. (stands_name q x x0 _ (alone d) (at_spot p.spot (g.a_param {ty = ty} {x = x0})), λ v. by_since (since_on p.spot zs _ since) (at_spot p.spot g.a_param) (snoc (alone d) (a_name_is q x)))) n,
    λ h. by_since since (at_spot p.spot g.a_nameless) (alone d),
  ),
  type_goes p,
)

params_go : (p : Placed) → Goes p.spot [] p (first g.Params p)
params_go p = (
  hole refl _ _ done (at_spot p.spot (g.one_param {p = p0})),
  λ v q zs a d y z. by_any p.spot (λ j. g.one_param) (alone d),
  param_goes p,
)

params_go_on : (i : Spot) (ys : List Placed) (ps : List t.Param) (p : Placed) → Derives ys (node g.Params ps) → Goes i ys p (tail g.Params i ps p)
params_go_on i ys ps p d =
    took_sees i ys (enter g.Param (λ c. build (ps ++ c ∷ []))) r.is_comma (mark m.Comma) comma_is
    (λ o. (
      stands _ _ _ (alone d) (at_spot i (g.another_param {before = ps} {p = p0})),
      λ v. let f = snoc (alone d) itself in (
        hole refl _ _ f (at_spot i (g.another_param {before = ps} {p = p0})),
        λ v q zs c e y z. by_any i (λ j. g.another_param) (snoc f e),
      ),
    )) p

params_end_in_goes : (o : Spot) (y : Word) (d : Deeper g.ParamsEnd) → Goes o [] (is y o) d → Goes o [] (is y o) (r.params_end_in y d)
params_end_in_goes o (mark m.CloseParenthesis) d h = (λ e. stands _ _ _ done (at_spot o g.no_params), λ v. by refl (at_spot o g.no_params) (alone itself))
params_end_in_goes o (key Void) d h = (
  λ e. stands _ _ _ done (at_spot o g.void_params),
  must_close o (is (key Void) o ∷ []) (build []) (λ q. (stands _ _ _ (alone itself) (at_spot o g.void_params), λ v. by refl (at_spot o g.void_params) (snoc (alone itself) itself))),
)
params_end_in_goes o y d h = h

params_end_goes : (p : Placed) → Goes p.spot [] p (first g.ParamsEnd p)
params_end_goes p = params_end_in_goes p.spot p.word (within g.Params (λ ps. read (sees r.is_close (build ps))) (r.params p)) (
  hole refl _ _ done (at_spot p.spot (g.some_params {ps = []})),
  λ v q zs ps d y z. must_close p.spot zs (build ps) (λ o. (stands _ _ _ (alone d) (at_spot p.spot (g.some_params {ps = ps})), λ v. by_any o (λ j. g.some_params) (snoc (alone d) itself))) v,
  params_go p,
)

body_end_in_goes : (o : Spot) (y : Word) (d : Deeper g.BodyEnd) → Goes o [] (is y o) d → Goes o [] (is y o) (r.body_end_in y d)
body_end_in_goes o (mark m.Semicolon) d h = (λ e. stands _ _ _ done (at_spot o g.no_body), λ v. by refl (at_spot o g.no_body) (alone itself))
body_end_in_goes o y d h = h

body_end_goes : (p : Placed) → Goes p.spot [] p (first g.BodyEnd p)
body_end_goes p = body_end_in_goes p.spot p.word (within g.Block (λ a. build (Some a)) (r.block p)) (
  hole refl _ _ done (at_spot p.spot (g.a_body {body = t.done})),
  λ v q zs a d y z. by_any p.spot (λ j. g.a_body) (alone d),
  block_goes p,
)

function_end_in_goes : (o : Spot) (y : Word) (d : Deeper g.FunctionEnd) → Goes o [] (is y o) d → Goes o [] (is y o) (r.function_end_in y d)
function_end_in_goes o (key Deletes) d h = (
  λ e. stands _ _ _ done (at_spot o (g.ends_deleting {body = None})),
  λ v. (hole refl _ _ (alone itself) (at_spot o (g.ends_deleting {body = None})), λ v q zs a d y z. by refl (at_spot o g.ends_deleting) (snoc (alone itself) d)),
)
function_end_in_goes o y d h = h

function_end_goes : (p : Placed) → Goes p.spot [] p (first g.FunctionEnd p)
function_end_goes p = function_end_in_goes p.spot p.word (within g.BodyEnd (λ a. build (record { deletes = false; body = a })) (r.body_end p)) (
  hole refl _ _ done (at_spot p.spot (g.ends {body = None})),
  λ v q zs a d y z. by_any p.spot (λ j. g.ends) (alone d),
  body_end_goes p,
)

-- The rest of a function behind its `(`.
function_left : (i : Spot) (ys : List Placed) (ps : List Part) (tree : List t.Param → FunctionEnding → TreeOf g.Item) → Since i ys → DeriveAll ys ps →
    ((a : List t.Param) (end : FunctionEnding) → Rule i g.Item (tree a end) (ps ++ node g.ParamsEnd a ∷ node g.FunctionEnd end ∷ [])) →
    (v : Option Placed) → Left {s = g.Item} v i ys (enter g.ParamsEnd (λ a. enter g.FunctionEnd (λ end. build (tree a end))))
function_left i ys ps tree since f rule v = (
  hole refl [] _ f (rule [] end0),
  λ v q zs a d y z.
      let f2 = snoc f d in
      let rule2 : (end : FunctionEnding) → Rule i g.Item (tree a end) ((ps ++ node g.ParamsEnd a ∷ []) ++ node g.FunctionEnd end ∷ []) = λ end.
      (let P : List Part → Type 0 = λ l. Rule i g.Item (tree a end) l in subst P (sym (append_assoc ps (node g.ParamsEnd a ∷ []) (node g.FunctionEnd end ∷ []))) (rule a end)) in (
        hole refl end0 _ f2 (rule2 end0),
        λ v q us end c y z. by_since (since_on i _ us (since_on i ys zs since)) (rule2 end) (snoc f2 c),
      ),
)

-- A function behind its result.
named_left : (i : Spot) (ys : List Placed) (ps : List Part) (deletes : Bool) (result : Option t.TypeName) → Since i ys → DeriveAll ys ps →
    ((x : names.Name) (a : List t.Param) (end : FunctionEnding) → Rule i g.Item (r.function_of i deletes result x a end) (ps ++ node g.Name x ∷ g.sign m.OpenParenthesis ∷ node g.ParamsEnd a ∷ node g.FunctionEnd end ∷ [])) →
    (v : Option Placed) → Left v i ys (r.function_named i deletes result)
named_left i ys ps deletes result since f rule = must_name i ys (λ x. read (sees r.is_open (r.function_params i deletes result x))) (λ q x.
    let n : names.Name = record { spot = q; text = x } in
    let f2 = snoc f (a_name_is q x) in
    let more : List t.Param → FunctionEnding → List Part = λ a end. node g.ParamsEnd a ∷ node g.FunctionEnd end ∷ [] in
    let rule2 : (a : List t.Param) (end : FunctionEnding) → Rule i g.Item (r.function_of i deletes result n a end) ((ps ++ node g.Name n ∷ []) ++ g.sign m.OpenParenthesis ∷ more a end) = λ a end.
    (let P : List Part → Type 0 = λ l. Rule i g.Item (r.function_of i deletes result n a end) l in subst P (sym (append_assoc ps (node g.Name n ∷ []) (g.sign m.OpenParenthesis ∷ more a end))) (rule n a end)) in
    let rule3 : (a : List t.Param) (end : FunctionEnding) → Rule i g.Item (r.function_of i deletes result n a end) (((ps ++ node g.Name n ∷ []) ++ g.sign m.OpenParenthesis ∷ []) ++ more a end) = λ a end.
    (let P : List Part → Type 0 = λ l. Rule i g.Item (r.function_of i deletes result n a end) l in subst P (sym (append_assoc (ps ++ node g.Name n ∷ []) (g.sign m.OpenParenthesis ∷ []) (more a end))) (rule2 a end)) in (
      stands_name q x n _ f (rule n [] end0),
      must_open i (ys ++ is (w.name x) q ∷ []) (r.function_params i deletes result n) (λ o. (
        stands o (mark m.OpenParenthesis) (more [] end0) f2 (rule2 [] end0),
        function_left i ((ys ++ is (w.name x) q ∷ []) ++ is (mark m.OpenParenthesis) o ∷ []) ((ps ++ node g.Name n ∷ []) ++ g.sign m.OpenParenthesis ∷ []) (λ a end. r.function_of i deletes result n a end)
            (since_on i _ _ (since_on i ys _ since)) (snoc f2 itself) rule3,
      )),
    ))

-- The first declarator of globals, behind its name.
global_left : (i own : Spot) (ys us : List Placed) (a : bases.Base) (ns : List notes.Note) (x : names.Name) → Derives ys (node g.Base a) → Since own us → DeriveAll us (node g.Stars ns ∷ node g.Name x ∷ []) →
    (v : Option Placed) → Left v i (ys ++ us) (r.global_named a own (length ys) ns x)
global_left i own ys us a ns x d since f v = (
  ys,
  us,
  refl,
  refl,
  since,
  hole refl _ _ (alone d) (at_spot i (g.globals {base = a} {ds = []})),
  (
    [],
    us,
    refl,
    refl,
    since,
    hole refl _ _ done (at_spot own (g.one_global {d = gd0})),
    (
      [],
      us,
      refl,
      refl,
      since,
      hole refl _ _ done (at_spot own (g.a_global {d = d0})),
      field_named_left own us ns x since f v,
      λ v q zs d c y z. initialised_left own zs d c v,
    ),
    λ v q zs d c y z. by_any own (λ j. g.one_global) (alone c),
  ),
  λ v q zs ds c y z.
      let f = snoc (alone d) c in
      must_semicolon i (ys ++ zs) (build (map (global a) ds)) (λ o. (stands _ _ _ f (at_spot i (g.globals {base = a} {ds = ds})), λ v. by_any o (λ j. g.globals) (snoc f itself))) v,
)

left_at : {s : Symbol} (v : Option Placed) (i : Spot) (ys zs : List Placed) (td : Todo s) → ys ≡ zs → Left v i ys td → Left v i zs td
left_at v i ys zs td e h = let P : List Placed → Type 0 = λ l. Left v i l td in subst P e h

-- An item behind a base, its stars and its name.
item_named_left : (i own : Spot) (ys zs : List Placed) (a : bases.Base) (ns : List notes.Note) (q : Spot) (x : List ℕ) → Since i ys → Derives ys (node g.Base a) → Derives zs (node g.Stars ns) → Since own (zs ++ is (w.name x) q ∷ []) →
    (v : Option Placed) → Left v i ((ys ++ zs) ++ is (w.name x) q ∷ []) (r.item_named i a (length ys) own ns (record { spot = q; text = x }))
item_named_left i own ys zs a ns q x since d e own_since v =
    let n : names.Name = record { spot = q; text = x } in
    let result : Derives (ys ++ zs) (node g.Result (Some (typed a ns))) = by_any i (λ j. g.a_result) (alone (by_any i (λ j. g.a_type) (snoc (alone d) e))) in
    let f = snoc (alone result) (a_name_is q x) in (
      λ p h. took_sees i ((ys ++ zs) ++ is (w.name x) q ∷ []) (r.function_params i false (Some (typed a ns)) n) r.is_open (mark m.OpenParenthesis) open_is
          (λ o. (
            stands _ _ _ f (at_spot i (g.a_function {result = Some (typed a ns)} {x = n} {ps = []} {end = end0})),
            function_left i (((ys ++ zs) ++ is (w.name x) q ∷ []) ++ is (mark m.OpenParenthesis) o ∷ []) (node g.Result (Some (typed a ns)) ∷ node g.Name n ∷ g.sign m.OpenParenthesis ∷ [])
                (λ ps end. r.function_of i false (Some (typed a ns)) n ps end) (since_on i _ _ (since_on i _ _ (since_on i ys zs since))) (snoc f itself) (λ ps end. (at_spot i g.a_function)),
          )) p,
      λ h. left_at v i (ys ++ (zs ++ is (w.name x) q ∷ [])) ((ys ++ zs) ++ is (w.name x) q ∷ []) (r.global_named a own (length ys) ns n) (sym (append_assoc ys zs _))
          (global_left i own ys (zs ++ is (w.name x) q ∷ []) a ns n d own_since (snoc (alone e) (a_name_is q x)) v),
    )

-- In globals, stars and a name may stand behind the base.
global_stars : (i : Spot) (ys : List Placed) (a : bases.Base) → Derives ys (node g.Base a) → Hole ys g.Item g.Stars
global_stars i ys a d = record {
  used = refl;
  begins = λ zs e q b. recount (inside (at_spot i (g.globals {base = a} {ds = []})) (all_then (alone d) (here (inside (at_spot i (g.one_global {d = gd0})) (here (inside (at_spot i (g.a_global {d = d0})) (here (inside (at_spot i (g.a_field {ns = []} {x = x0})) (here b))))))))) refl (omega arith) refl;
}

global_name : (i : Spot) (ys zs : List Placed) (a : bases.Base) (ns : List notes.Note) (q : Spot) (x : List ℕ) → Derives ys (node g.Base a) → Derives zs (node g.Stars ns) → Stands ((ys ++ zs) ++ is (w.name x) q ∷ []) g.Item
global_name i ys zs a ns q x d e =
    let b = inside (at_spot i (g.globals {base = a} {ds = []})) (all_then (alone d) (here (inside (at_spot i (g.one_global {d = gd0})) (here (inside (at_spot i (g.a_global {d = d0})) (here (inside (at_spot i (g.a_field {ns = ns} {x = x0})) (all_then (alone e) (here (inside (at_spot q (g.a_name {bytes = x})) a_word)))))))))) in
    recount b (sym (append_assoc ys zs _)) refl refl

item_based_left : (i : Spot) (ys : List Placed) (a : bases.Base) → Since i ys → Derives ys (node g.Base a) → (v : Option Placed) → Left v i ys (r.item_based i a)
item_based_left i ys a since d v p e = (
  global_stars i ys a d,
  λ v. no_stars_are,
  λ o zs. tt,
  λ o h. (
    λ n k. took_here n (same_next n k),
    λ h. tt,
  ),
  λ n k w o zs ns c y z.
      let same : n.spot ≡ p.spot = ap (λ u. u.spot) (same_next n k) in
      must_name i (ys ++ zs) (r.item_named i a (length ys) p.spot ns) (λ q x. (
        global_name i ys zs a ns q x d c,
        item_named_left i p.spot ys zs a ns q x since d c (since_on p.spot zs _ (let P : Spot → Type 0 = λ u. Since u zs in subst P same z)),
      )) w,
)
  where
    same_next : (n : Placed) → v ≡ Some n → n ≡ p
    same_next n k = let h : Some n ≡ Some p = sym k ∙ e in cc

    took_here : (n : Placed) → n ≡ p → (is_stop (r.named (r.item_named i a (length ys) p.spot []) n) ≡ false → Stands (ys ++ n ∷ []) g.Item) × ((w : Option Placed) → Left {s = g.Item} w i (ys ++ n ∷ []) (r.named (r.item_named i a (length ys) p.spot []) n))
    took_here n h = go n.spot n.word (ap (λ u. u.spot) h)
      where
        go : (q : Spot) (y : Word) → q ≡ p.spot → (is_stop (r.name_in (r.item_named i a (length ys) p.spot []) q y) ≡ false → Stands (ys ++ is y q ∷ []) g.Item) × ((w : Option Placed) → Left {s = g.Item} w i (ys ++ is y q ∷ []) (r.name_in (r.item_named i a (length ys) p.spot []) q y))
        go q (w.name x) k =
            let e : (ys ++ []) ++ is (w.name x) q ∷ [] ≡ ys ++ is (w.name x) q ∷ [] = ap (λ l. l ++ is (w.name x) q ∷ []) (append-nil ys) in (
              λ u. recount (global_name i ys [] a [] q x d no_stars_are) e refl (ap (λ l. reach g.Item (length l) 0) e),
              λ v. left_at v i _ _ (r.item_named i a (length ys) p.spot [] (record { spot = q; text = x })) e (item_named_left i p.spot ys [] a [] q x since d no_stars_are k v),
            )
        go q y k = stopped i ys (is y q)

struct_fields_left : (o q : Spot) (x : List ℕ) (p : Spot) (v : Option Placed) → Left v o (is (key Struct) o ∷ is (w.name x) q ∷ is (mark m.OpenBrace) p ∷ []) (r.struct_fields o (record { spot = q; text = x }))
struct_fields_left o q x p v =
    let n : names.Name = record { spot = q; text = x } in
    let ys : List Placed = is (key Struct) o ∷ is (w.name x) q ∷ is (mark m.OpenBrace) p ∷ [] in
    let f : DeriveAll ys (g.keyword Struct ∷ node g.Name n ∷ g.sign m.OpenBrace ∷ []) = snoc (snoc (alone itself) (a_name_is q x)) itself in (
      hole refl _ _ f (at_spot o (g.a_struct {x = n} {fs = []})),
      λ v u zs fs d y z. let f2 = snoc f d in
          must_close_brace o (ys ++ zs) (read (sees r.is_semicolon (build (t.struct o n fs ∷ [])))) (λ c. (
            stands _ _ _ f2 (at_spot o (g.a_struct {x = n} {fs = fs})),
            let f3 = snoc f2 itself in
                must_semicolon o ((ys ++ zs) ++ is (mark m.CloseBrace) c ∷ []) (build (t.struct o n fs ∷ [])) (λ c. (
                  stands _ _ _ f3 (at_spot o (g.a_struct {x = n} {fs = fs})),
                  λ v. by refl (at_spot o g.a_struct) (snoc f3 itself),
                )),
          )) v,
    )

struct_left : (o : Spot) (v : Option Placed) → Left v o (is (key Struct) o ∷ []) (read (r.named (r.struct_named o)))
struct_left o = must_name o (is (key Struct) o ∷ []) (r.struct_named o) (λ q x.
    let n : names.Name = record { spot = q; text = x } in (
      stands_name q x x0 _ (alone itself) (at_spot o (g.a_struct {x = x0} {fs = []})),
      λ v. (
        λ p h. took_sees o (is (key Struct) o ∷ is (w.name x) q ∷ []) (r.struct_fields o n) r.is_open_brace (mark m.OpenBrace) open_brace_is
            (λ p. (stands _ _ _ (snoc (alone itself) (a_name_is q x)) (at_spot o (g.a_struct {x = n} {fs = []})), struct_fields_left o q x p)) p,
        λ h. item_based_left o (is (key Struct) o ∷ is (w.name x) q ∷ []) (b.Struct o n) refl (by refl (at_spot o g.a_named_struct) (snoc (alone itself) (a_name_is q x))) v,
      ),
    ))

deleting_left : (o : Spot) (v : Option Placed) → Left v o (is (key Deletes) o ∷ []) (r.item_deleting o)
deleting_left o v = (
  λ p h. took_sees o (is (key Deletes) o ∷ []) (r.function_named o true None) r.is_void (key Void) void_is
      (λ q. (
        inside (at_spot o (g.a_deleting {result = None} {x = x0} {ps = []} {end = end0})) (all_then (alone {xs = is (key Deletes) o ∷ []} itself) (here (inside (at_spot q g.a_void) a_word))),
        named_left o (is (key Deletes) o ∷ is (key Void) q ∷ []) (g.keyword Deletes ∷ node g.Result None ∷ []) true None refl (snoc (alone itself) (by refl (at_spot q g.a_void) (alone itself))) (λ x a end. (at_spot o g.a_deleting)),
      )) p,
  λ h. (
    record { used = refl; begins = λ zs d q b. recount (inside (at_spot o (g.a_deleting {result = Some ty0} {x = x0} {ps = []} {end = end0})) (all_then (alone {xs = is (key Deletes) o ∷ []} itself) (here (inside (at_spot o (g.a_result {ty = ty0})) (here b))))) refl (omega arith) refl },
    λ v q zs ty d y z. named_left o (is (key Deletes) o ∷ zs) (g.keyword Deletes ∷ node g.Result (Some ty) ∷ []) true (Some ty) refl
        (snoc (alone {xs = is (key Deletes) o ∷ []} itself) (by_any o (λ j. g.a_result) (alone d))) (λ x a end. (at_spot o g.a_deleting)) v,
  ),
)

item_in_goes : (o : Spot) (y : Word) (d : Deeper g.Item) → Goes o [] (is y o) d → Goes o [] (is y o) (r.item_in o y d)
item_in_goes o (key Struct) d h = (λ e. stands _ _ _ done (at_spot o (g.a_struct {x = x0} {fs = []})), struct_left o)
item_in_goes o (key Deletes) d h = (λ e. stands _ _ _ done (at_spot o (g.a_deleting {result = None} {x = x0} {ps = []} {end = end0})), deleting_left o)
item_in_goes o (key Void) d h = (
  λ e. inside (at_spot o (g.a_function {result = None} {x = x0} {ps = []} {end = end0})) (here (inside (at_spot o g.a_void) a_word)),
  named_left o (is (key Void) o ∷ []) (node g.Result None ∷ []) false None refl (alone (by refl (at_spot o g.a_void) (alone itself))) (λ x a end. (at_spot o g.a_function)),
)
item_in_goes o y d h = h

item_goes : (p : Placed) → Goes p.spot [] p (first g.Item p)
item_goes p = item_in_goes p.spot p.word (within g.Base (r.item_based p.spot) (r.base p)) (
  hole refl _ _ done (at_spot p.spot (g.globals {base = b0} {ds = []})),
  λ v q zs a d y since. item_based_left p.spot zs a since d v,
  base_goes p.spot p.word,
)

text_goes_on : (i : Spot) (ys : List Placed) (before : List t.Item) (p : Placed) → Derives ys (node g.Text before) → Goes i ys p (tail g.Text i before p)
text_goes_on i ys before p d = (
  hole refl _ _ (alone d) (at_spot i (g.items {before = before} {is = []})),
  λ v q zs js e y z. by_any i (λ j. g.items) (snoc (alone d) e),
  item_goes p,
)

-- All symbols.
pub firsts : (s : Symbol) (p : Placed) → is_used s ≡ true → Goes p.spot [] p (first s p)
firsts g.Item p used = item_goes p
firsts g.Fields p used = fields_go p
firsts g.Field p used = a_field_goes p
firsts g.FieldDecs p used = field_decs_go p
firsts g.FieldDec p used = field_dec_goes p.spot p.word
firsts g.Decs p used = decs_go p
firsts g.Dec p used = dec_goes p
firsts g.Constant p used = constant_goes p.spot p.word
firsts g.Base p used = base_goes p.spot p.word
firsts g.TypeName p used = type_goes p
firsts g.ParamsEnd p used = params_end_goes p
firsts g.Params p used = params_go p
firsts g.Param p used = param_goes p
firsts g.FunctionEnd p used = function_end_goes p
firsts g.BodyEnd p used = body_end_goes p
firsts g.Block p used = block_goes p
firsts g.Locals p used = locals_go p
firsts g.LocalDecs p used = local_decs_go p
firsts g.LocalDec p used = local_dec_goes p.spot p.word
firsts g.Stmt p used = stmt_goes p
firsts g.ForStart p used = for_start_goes p
firsts g.ExprEnd p used = expr_end_goes p
firsts g.SimpleEnd p used = simple_end_goes p
firsts g.Simple p used = simple_goes p
firsts (g.Level i) p used = level_goes i (level_used i used) p (unary_goes p.spot p.word)
firsts g.Arm p used = arm_goes p
firsts g.Unary p used = unary_goes p.spot p.word
firsts g.Arguments p used = arguments_go p
firsts _ p used = goes_nowhere p.spot [] p

pub tails : (s : Symbol) (i : Spot) (ys : List Placed) (a : TreeOf s) (p : Placed) → Ready s i ys → Done s ys a (Some p) → Goes i ys p (tail s i a p)
tails g.Text i ys a p h d = text_goes_on i ys a p d
tails g.Fields i ys a p h d = fields_go_on i ys a p d
tails g.FieldDecs i ys a p h d = field_decs_go_on i ys a p d
tails g.Decs i ys a p h d = decs_go_on i ys a p d
tails g.Stars i ys a p h d = stars_go i ys a p.spot p.word d
tails g.Params i ys a p h d = params_go_on i ys a p d
tails g.Body i ys a p h d = body_goes_on i ys a p d
tails g.LocalDecs i ys a p h d = local_decs_go_on i ys a p d
tails (g.Level j) i ys a p h d = level_goes_on j i ys a p h d
tails g.Unary i ys a p h d = unary_goes_on i ys a p h d
tails g.Arguments i ys a p h d = arguments_go_on i ys a p d
tails _ i ys a p h d = goes_nowhere i ys p
