-- What the grammar derives or begins, the reader reads: production by production.
use Rattle.std.proofs.Common.{ℕ, ◌≡◌, ◌+◌, ◌-◌, List, [], ◌∷◌, ◌++◌, append_assoc, append-nil, length, length-append, map, Option, Some, None, Bool, true, false, refl, sym, ◌∙◌, subst, arith}
use Rattle.rc_syntax.specs.declared.word.Mark.TheVariants as m
use Rattle.rc_syntax.specs.declared.tree.Spot.{Spot}
use Rattle.rc_syntax.specs.declared.tree.Name as names
use Rattle.rc_syntax.specs.declared.word.Key.TheVariants.{Char, Int, Unsigned, Void}
use Rattle.rc_syntax.specs.declared.tree.Note as notes
use Rattle.rc_syntax.specs.declared.tree.CastType as casts
use Rattle.rc_syntax.specs.declared.tree.Base as bases
use Rattle.rc_syntax.specs.declared.tree.Base.TheVariants as b
use Rattle.rc_syntax.specs.declared.tree.Note.TheVariants as n
use Rattle.rc_syntax.specs.declared.tree.CastType.TheVariants as c
use Rattle.rc_syntax.specs.declared.tree.Constant.TheVariants as k
use Rattle.rc_syntax.specs.declared.tree.BinaryOp.{BinaryOp}
use Rattle.rc_syntax.specs.declared.tree.BinaryOp.TheVariants as ops
use Rattle.rc_syntax.specs.Tokens as w
use Rattle.rc_syntax.specs.Tokens.{Word, mark, key}
use Rattle.rc_syntax.specs.Tree as t
use Rattle.rc_syntax.specs.Grammar as g
use Rattle.rc_syntax.specs.Grammar.{Symbol, TreeOf, Placed, Part, word, node, Rule, BeginAt, Derives, itself, by, DeriveAll, done, then, Begins, inside, BeginAll, a_word, here, later, adds, reach, typed, field, global, local, joined, stmts_of}
use Rattle.rc_syntax.specs.reader.Todo.{Todo, build, resume, is_stop}
use Rattle.rc_syntax.specs.reader.Reading as r
use Rattle.rc_syntax.specs.reader.Reading.{first, tail}
use Rattle.rc_syntax.specs.reader.Steps.{Stack, frame, State, about, amid, step}
use Rattle.rc_syntax.proofs.Sound.{Since, since_on}
use Rattle.rc_syntax.proofs.Fronts.{is}
use Rattle.rc_syntax.proofs.Along.{comma, close, semicolon, operator, question, colon, bracket, ends, After, inner, unaries, Acts, Leads, Past, Meets, MeetsOn, Met, MeetAll, m_done, m_word, m_name, m_node, Along, along, leads_at, on, acts_past}
use Rattle.rc_syntax.proofs.Shapes.{skipped, same_at, Ends, MeetsAs, Shape, meets_shape, first_read}
use Rattle.rc_syntax.proofs.Tables as table
use Rattle.rc_syntax.proofs.Tables.{generic, untrue, quiet_level}
use Rattle.rc_syntax.proofs.Unaries as una
use Rattle.rc_syntax.proofs.Unaries.{n0}
use Rattle.rc_syntax.proofs.Levels as lev
use Rattle.rc_syntax.proofs.Levels.{LevelLead, StartLead, level_about, start_about}
use Rattle.rc_syntax.proofs.Declarators as dec
use Rattle.rc_syntax.proofs.Declarators.{StarsKnown, none, some, stars_met, NamedLead, NamedStart, field_top, dec_top, decs_top, named_about, named_start_about, enters_field, enters_dec, enters_decs, Light}
use Rattle.rc_syntax.proofs.Lists as list
use Rattle.rc_syntax.proofs.Items as item

-- The symbols whose productions are read as their tables say.
pub shape : {i : Spot} {s : Symbol} {a : TreeOf s} {ps : List Part} → generic s ≡ true → Rule i s a ps → (tree : Spot → TreeOf s) × (tree i ≡ a) × Shape false s tree ps
shape e (g.first_field {fs = fs}) = ((λ o. fs), refl, table.first_field fs)
shape e (g.more_fields {before = before} {fs = fs}) = ((λ o. before ++ fs), refl, table.more_fields before fs)
shape e (g.fields {base = a} {ds = ds}) = ((λ o. map (field a) ds), refl, table.the_fields a ds)
shape e (g.one_field {d = d}) = ((λ o. d ∷ []), refl, table.one_field d)
shape e (g.another_field {before = before} {d = d}) = ((λ o. before ++ d ∷ []), refl, table.another_field before d)
shape e (g.a_constant {i = i} {unsigned = v}) = ((λ o. k.Number o i v), refl, table.const_number i v)
shape e (g.a_negative {i = i} {unsigned = v}) = ((λ o. k.Negative o i v), refl, table.const_negative i v)
shape e (g.a_code {i = i}) = ((λ o. k.Character o i), refl, table.const_code i)
shape e g.a_null = ((λ o. k.Null o), refl, table.const_null)
shape e g.an_eof = ((λ o. k.Eof o), refl, table.const_eof)
shape e g.an_int = ((λ o. b.Int o), refl, table.base_int)
shape e g.an_unsigned = ((λ o. b.Unsigned o), refl, table.base_unsigned)
shape e g.an_unsigned_int = ((λ o. b.Unsigned o), refl, table.base_unsigned_int)
shape e g.a_char = ((λ o. b.Char o), refl, table.base_char)
shape e g.a_region = ((λ o. b.Region o), refl, table.base_region)
shape e (g.a_named_struct {x = x}) = ((λ o. b.Struct o x), refl, table.base_struct x)
shape e (g.a_type {base = a} {ns = ns}) = ((λ o. typed a ns), refl, table.the_type a ns)
shape e g.no_params = ((λ o. []), refl, table.params_none)
shape e g.void_params = ((λ o. []), refl, table.params_void)
shape e (g.some_params {ps = ps}) = ((λ o. ps), refl, table.params_some ps)
shape e (g.one_param {p = p}) = ((λ o. p ∷ []), refl, table.one_param p)
shape e (g.another_param {before = before} {p = p}) = ((λ o. before ++ p ∷ []), refl, table.another_param before p)
shape e (g.a_nameless {ty = ty}) = ((λ o. record { spot = o; type_name = ty; name = None }), refl, table.param_nameless ty)
shape e (g.a_param {ty = ty} {x = x}) = ((λ o. record { spot = o; type_name = ty; name = Some x }), refl, table.param_named ty x)
shape e (g.ends {body = a}) = ((λ o. record { deletes = false; body = a }), refl, table.ends_plain a)
shape e (g.ends_deleting {body = a}) = ((λ o. record { deletes = true; body = a }), refl, table.ends_deleting a)
shape e g.no_body = ((λ o. None), refl, table.body_none)
shape e (g.a_body {body = a}) = ((λ o. Some a), refl, table.body_some a)
shape e (g.a_block {body = a}) = ((λ o. a), refl, table.the_block a)
shape e (g.locals {base = a} {ds = ds}) = ((λ o. map (local a) ds), refl, table.the_locals a ds)
shape e (g.one_local {d = d}) = ((λ o. d ∷ []), refl, table.one_local d)
shape e (g.another_local {before = before} {d = d}) = ((λ o. before ++ d ∷ []), refl, table.another_local before d)
shape e (g.a_block_stmt {body = a}) = ((λ o. t.block o a), refl, table.the_block_stmt a)
shape e g.an_empty = ((λ o. t.empty o), refl, table.the_empty)
shape e (g.a_simple {x = x}) = ((λ o. t.simple o x), refl, table.the_simple x)
shape e (g.an_if {e = c} {a = a}) = ((λ o. t.if_then o c a), refl, table.the_if c a)
shape e (g.an_if_else {e = c} {a = a} {b = z} shut) = ((λ o. t.if_else o c a z), refl, table.the_if_else c a z shut)
shape e (g.a_while {e = c} {a = a}) = ((λ o. t.while_do o c a), refl, table.the_while c a)
shape e (g.a_do {a = a} {e = c}) = ((λ o. t.do_while o a c), refl, table.the_do a c)
shape e (g.a_for {start = start} {e = c} {then = x} {a = a}) = ((λ o. t.for_do o start c x a), refl, table.the_for start c x a)
shape e g.a_break = ((λ o. t.break_loop o), refl, table.the_break)
shape e g.a_continue = ((λ o. t.continue_loop o), refl, table.the_continue)
shape e (g.a_return {e = c}) = ((λ o. t.return_with o c), refl, table.the_return c)
shape e (g.starts_local {ls = ls}) = ((λ o. t.locals ls), refl, table.starts_local ls)
shape e (g.starts_simple {x = x}) = ((λ o. t.simply x), refl, table.starts_simple x)
shape e g.starts_nothing = ((λ o. t.nothing), refl, table.starts_nothing)
shape e g.no_expr = ((λ o. None), refl, table.no_expr)
shape e (g.an_expr {e = c}) = ((λ o. Some c), refl, table.an_expr c)
shape e g.no_simple = ((λ o. None), refl, table.no_simple)
shape e (g.some_simple {x = x}) = ((λ o. Some x), refl, table.some_simple x)
shape e (g.arm {e = c}) = ((λ o. c), refl, table.the_arm c)
shape e (g.one {e = c}) = ((λ o. t.more c t.none), refl, table.one_argument c)
shape e (g.another {v = v} {e = c}) = ((λ o. g.with_last v c), refl, table.another_argument v c)
shape e rule = absurd (untrue (sym e))

-- What is known of a part that is derived, for what it may stand in.
pub data NameGiven : names.Name → List Placed → Type 0 where
  name_given : {o q : Spot} {y : List ℕ} → o ≡ q → NameGiven (n0 q y) (is (w.name y) o ∷ [])

pub data CastGiven : casts.CastType → List Placed → Type 0 where
  c_int : {o : Spot} → CastGiven c.Int (is (key Int) o ∷ [])
  c_char : {o : Spot} → CastGiven c.Char (is (key Char) o ∷ [])
  c_unsigned : {o : Spot} → CastGiven c.Unsigned (is (key Unsigned) o ∷ [])
  c_unsigned_int : {o p : Spot} → CastGiven c.Unsigned (is (key Unsigned) o ∷ is (key Int) p ∷ [])

pub data TypeGiven : t.TypeName → List Placed → Type 0 where
  type_given : {a : bases.Base} {ns : List notes.Note} (bs ss : List Placed) → item.ItemBase a bs → StarsKnown ns ss → Meets g.TypeName (typed a ns) (bs ++ ss) → TypeGiven (typed a ns) (bs ++ ss)

pub data ResultGiven : Option t.TypeName → List Placed → Type 0 where
  r_void : {o : Spot} → ResultGiven None (is (key Void) o ∷ [])
  r_type : {ty : t.TypeName} {xs : List Placed} → TypeGiven ty xs → ResultGiven (Some ty) xs

abbrev pub Known : (s : Symbol) → TreeOf s → List Placed → Type 0
Known (g.Level i) a ws = Meets (g.Level i) a ws × LevelLead i a ws
Known g.FieldDec a ws = Meets g.FieldDec a ws × NamedLead g.FieldDec field_top a ws
Known g.Dec a ws = Meets g.Dec a ws × NamedLead g.Dec dec_top a ws
Known g.Decs a ws = Meets g.Decs a ws × NamedLead g.Decs decs_top a ws
Known g.Base a ws = Meets g.Base a ws × item.ItemBase a ws
Known g.TypeName a ws = TypeGiven a ws
Known g.Postfix a ws = MeetsAs true g.Unary a ws
Known g.Primary a ws = MeetsAs true g.Unary a ws
Known g.Stars a ws = StarsKnown a ws
Known g.Body a ws = MeetsOn g.Body t.done a ws
Known g.Text a ws = MeetsOn g.Text [] a ws
Known (g.Star i) a ws = (o : Spot) × (ws ≡ is (mark m.Star) o ∷ [])
Known g.Result a ws = ResultGiven a ws
Known g.CastType a ws = CastGiven a ws
Known g.Name a ws = NameGiven a ws
Known s a ws = Meets s a ws

abbrev pub KnownPart : Part → List Placed → Type 0
KnownPart (word y) ws = Unit {0}
KnownPart (node s a) ws = Known s a ws

-- The parts of a production with what is known of them.
pub data KnownAll : List Placed → List Part → Type 0 where
  k_done : KnownAll [] []
  k_word : {y : Word} {o : Spot} {ys : List Placed} {ps : List Part} → KnownAll ys ps → KnownAll (is y o ∷ ys) (word y ∷ ps)
  k_node : {j : Symbol} {a : TreeOf j} (xs : List Placed) {ys : List Placed} {ps : List Part} → Known j a xs → KnownAll ys ps → KnownAll (xs ++ ys) (node j a ∷ ps)

abbrev is_name : Symbol → Bool
is_name g.Name = true
is_name _ = false

type_met : (a : t.TypeName) (ws : List Placed) → TypeGiven a ws → Meets g.TypeName a ws
type_met a ws (type_given bs ss x y d) = d

pub met : (s : Symbol) (a : TreeOf s) (ws : List Placed) → is_name s ≡ false → Known s a ws → Met s a ws
met (g.Level i) a ws e x = x.0
met g.FieldDec a ws e x = x.0
met g.Dec a ws e x = x.0
met g.Decs a ws e x = x.0
met g.Base a ws e x = x.0
met g.TypeName a ws e x = type_met a ws x
met g.Postfix a ws e x = tt
met g.Primary a ws e x = tt
met g.Stars a ws e x = stars_met a ws x
met g.Text a ws e x = tt
met (g.Star i) a ws e x = tt
met g.Result a ws e x = tt
met g.CastType a ws e x = tt
met g.Name a ws e x = absurd (untrue e)
met s a ws e x = x

name_all : (o q : Spot) (y : List ℕ) (ys : List Placed) (ps : List Part) → o ≡ q → MeetAll ys ps → MeetAll (is (w.name y) o ∷ ys) (node g.Name (n0 q y) ∷ ps)
name_all o q y ys ps e rest = let P : Spot → Type 0 = λ u. MeetAll (is (w.name y) o ∷ ys) (node g.Name (n0 u y) ∷ ps) in subst P e (m_name rest)

-- A primary or a postfix is a unary.
plainly : (a : t.Expr) (ws : List Placed) → MeetsAs true g.Unary a ws → Meets g.Unary a ws
plainly a ws x root k = let y = x root k in (y.0, y.1, (y.2.0, y.2.1, (λ p f. y.2.2.0 p (unaries f), y.2.2.1)))

named_primary : (tree : names.Name → t.Expr) (o q : Spot) (y : List ℕ) (ws : List Placed) → o ≡ q → MeetsAs true g.Unary (tree (n0 o y)) ws → MeetsAs true g.Unary (tree (n0 q y)) ws
named_primary tree o q y ws e x = let P : Spot → Type 0 = λ u. MeetsAs true g.Unary (tree (n0 u y)) ws in subst P e x

-- A postfix goes on behind what it is of.
postfix_on : (a : t.Expr) (tree : Spot → t.Expr) (at : Spot) (xs ys : List Placed) (ps : List Part) → MeetsAs true g.Unary a xs → BeginAt at (xs ++ ys) → MeetAll ys ps →
    ((o : Spot) → Along {s = g.Unary} o (tree o) (Ends true g.Unary (tree o)) (Ends true g.Unary a) (build a) ps) → MeetsAs true g.Unary (tree at) (xs ++ ys)
postfix_on a tree at xs ys ps left begins rest alongs root k =
    let x = left root k in
    let o = x.0 in
    let z = along rest o (tree o) (Ends true g.Unary (tree o)) (Ends true g.Unary a) (build a) (length xs) k x.2.0 (alongs o) x.2.2 in
    let same : o ≡ at = same_at o at xs ys x.1 begins in
    let Q : Spot → Type 0 = λ u. Leads (Ends true g.Unary (tree u)) (about k) (xs ++ ys) (amid u (build (tree u)) (length (xs ++ ys)) k) in
    let S : Spot → Type 0 = λ u. Since u (xs ++ ys) in
    (at, subst S same (since_on o xs ys x.1), subst Q same (leads_at (Ends true g.Unary (tree o)) (about k) (xs ++ ys) o (tree o) (length xs + length ys) (length (xs ++ ys)) k (sym (length-append xs ys)) (z.0, on (about k) x.2.0 xs ys (Some z.0) x.2.1 z.1, z.2)))

-- An expression as a statement: its first unary is read as a left side, which nothing assigns to.
not_assigned_op : (o : Spot) (u : t.Expr) (op : BinaryOp) → is_stop (r.assigned o u (mark (g.mark_of op))) ≡ true
not_assigned_op o u ops.LogicalOr = refl
not_assigned_op o u ops.LogicalAnd = refl
not_assigned_op o u ops.BitOr = refl
not_assigned_op o u ops.BitXor = refl
not_assigned_op o u ops.BitAnd = refl
not_assigned_op o u ops.Equal = refl
not_assigned_op o u ops.NotEqual = refl
not_assigned_op o u ops.Less = refl
not_assigned_op o u ops.Greater = refl
not_assigned_op o u ops.LessEqual = refl
not_assigned_op o u ops.GreaterEqual = refl
not_assigned_op o u ops.ShiftLeft = refl
not_assigned_op o u ops.ShiftRight = refl
not_assigned_op o u ops.Add = refl
not_assigned_op o u ops.Subtract = refl
not_assigned_op o u ops.Multiply = refl
not_assigned_op o u ops.Divide = refl
not_assigned_op o u ops.Remainder = refl

not_assigned : {i : ℕ} (o : Spot) (u : t.Expr) (y : Word) → After i y → is_stop (r.assigned o u y) ≡ true
not_assigned o u _ (operator op l) = not_assigned_op o u op
not_assigned o u _ (question l) = refl
not_assigned o u _ colon = refl
not_assigned o u _ bracket = refl
not_assigned o u _ (ends comma) = refl
not_assigned o u _ (ends close) = refl
not_assigned o u _ (ends semicolon) = refl

pub left_acts : {root : Symbol} (o : Spot) (u : t.Expr) (n : ℕ) (k : Stack root g.Simple) (q : State root) → Acts (Past g.Unary u) (amid o (r.left_side o u) (0 + n) k) q → Acts lev.AfterAll (amid o (build u) n (frame {i = g.Level 0} o 0 r.evaluated k)) q
left_acts {root = root} o u n k q acts =
    let F : Stack root (g.Level 0) = frame o 0 r.evaluated k in
    let td : Todo (g.Level 0) = build u in
    let many : 0 + n ≡ n = omega arith in
    let less : n - 0 ≡ n = omega arith in (
      λ p f.
          let P : ℕ → Type 0 = λ c. step (amid o (r.left_side o u) (0 + n) k) p ≡ step (amid o (r.left_side o u) c k) p in
          let Q : ℕ → Type 0 = λ c. step (amid o td (n - 0) F) p ≡ step (amid o td c F) p in
          acts.0 p (inner f, λ q. una.quiet_unary_after q u p.word f) ∙ subst P many refl
          ∙ skipped (λ p. r.assigned o u p.word) (resume o 0 (g.Level 0) r.evaluated td) o n k p (not_assigned o u p.word f)
          ∙ item.resume_is (g.Level 0) o o 0 n r.evaluated td k p (omega arith) ∙ subst Q less refl,
      acts.1,
    )

evaluated_rule : (a : t.Expr) (ws : List Placed) → LevelLead 0 a ws → Meets g.Simple (t.expression a) ws
evaluated_rule a ws lead root k =
    let zs = lead.0 in
    let u = lead.2 in
    let x = first_read g.Unary u r.left_side k zs lead.4 (λ p e. table.begins_left p.spot p.word (table.unary_word p.spot p.word e) root k) in
    let o = x.0 in
    let F : Stack root (g.Level 0) = frame o 0 r.evaluated k in
    let y = lead.5 root 0 (omega arith) F o (about k) x.2.0 x.1 x.2.1 (left_acts o u (length zs) k x.2.0 x.2.2) in
    let z = acts_past (g.Level 0) a o o (length ws) 0 r.evaluated k y.0 y.2 in
    let P : ℕ → Type 0 = λ c. Acts (Past (g.Level 0) a) (amid o (r.evaluated a) c k) y.0 in
    let v = subst P (let e : 0 + length ws ≡ length ws = omega arith in e) z in
    (o, dec.since_along o zs ws lead.1 lead.3 x.1, (y.0, y.1, (λ p f. v.0 p (ends f, λ q. quiet_level 0 q a p.word f), v.1)))

pub to_meet : {ws : List Placed} {ps : List Part} → KnownAll ws ps → MeetAll ws ps
to_meet k_done = m_done
to_meet (k_word rest) = m_word (to_meet rest)
to_meet (k_node {j = g.Name} _ {ys = ys} {ps = ps} (name_given {o = o} {q = q} {y = y} e) rest) = name_all o q y ys ps e (to_meet rest)
to_meet (k_node {j = s} {a = a} xs d rest) = m_node xs (met s a xs refl d) (to_meet rest)

by_shape : {i : Spot} {s : Symbol} {a : TreeOf s} {ps : List Part} {ws : List Placed} → generic s ≡ true → BeginAt i ws → Rule i s a ps → KnownAll ws ps → Meets s a ws
by_shape {i = i} {s = s} {ws = ws} e begins rule all =
    let x = shape e rule in
    let P : TreeOf s → Type 0 = λ u. Meets s u ws in
    subst P x.1 (meets_shape i begins x.2 (to_meet all))

along_words : (P : List Placed → Type 0) (xs : List Placed) → P xs → P (xs ++ [])
along_words P xs x = subst P (sym (append-nil xs)) x

level_known : (i : ℕ) (a : t.Expr) (ws : List Placed) → LevelLead i a ws → Known (g.Level i) a ws
level_known i a ws x = (level_about i a ws x, x)

dec_known : (a : g.GlobalDeclarator) (ws : List Placed) → NamedLead g.Dec dec_top a ws → Known g.Dec a ws
dec_known a ws x = (named_about g.Dec dec_top a ws enters_dec x, x)

decs_known : (a : List g.GlobalDeclarator) (ws : List Placed) → NamedLead g.Decs decs_top a ws → Known g.Decs a ws
decs_known a ws x = (named_about g.Decs decs_top a ws enters_decs x, x)

pub not_both : (y : Word) → r.is_else y ≡ false → r.is_else y ≡ true → ⊥
not_both y e f = untrue (sym f ∙ e)

-- Symbol by symbol.
known_text : {at : Spot} {a : TreeOf g.Text} {ps : List Part} {ws : List Placed} → Rule at g.Text a ps → KnownAll ws ps → MeetsOn g.Text [] a ws
known_text g.no_items k_done = λ root k q f h. (q, refl, f, h)
known_text (g.items {before = before} {is = js}) (k_node xs d (k_node ys c k_done)) =
    list.list_on g.Text g.Item [] before (before ++ js) js (λ js. build (before ++ js)) xs (ys ++ []) refl d (along_words (λ l. Meets g.Item js l) ys c) (λ p e. tt) (list.text_goes before) (λ p f. (tt, λ o. refl))

known_item : {at : Spot} {a : TreeOf g.Item} {ps : List Part} {ws : List Placed} → BeginAt at ws → Rule at g.Item a ps → KnownAll ws ps → Meets g.Item a ws
known_item {at = at} e (g.a_struct {x = x} {fs = fs}) all = meets_shape at e (table.the_struct x fs) (to_meet all)
known_item e (g.globals {base = a} {ds = ds}) (k_node bs da (k_node dw {ys = ys} dd rest)) = item.globals_rule a bs dw ys ds da.1 dd.1 (to_meet rest)
known_item {at = at} e (g.a_function {x = x} {ps = ps} {end = end}) (k_node _ (r_void {o = o}) rest) = meets_shape at e (item.void_function x ps end) (m_word {o = o} (to_meet rest))
known_item {at = at} e (g.a_function {ps = ps} {end = end}) (k_node _ (r_type (type_given {a = a} {ns = ns} bs ss da dn dt)) (k_node _ {ys = ys} (name_given {o = o} {q = q} {y = y} e4) rest)) =
    let ws : List Placed = is (w.name y) o ∷ ys in
    let cut : (bs ++ ss) ++ ws ≡ bs ++ (ss ++ ws) = append_assoc bs ss ws in
    let P : List Placed → Type 0 = λ l. Meets g.Item (t.function at end.deletes (Some (typed a ns)) (n0 q y) ps end.body ∷ []) l in
    let B : List Placed → Type 0 = λ l. BeginAt at l in
    subst P (sym cut) (item.function_rule a ns bs ss o q y ys ps end at da dn e4 (subst B cut e) (to_meet rest))
known_item {at = at} e (g.a_deleting {x = x} {ps = ps} {end = end}) (k_word {o = o1} (k_node _ (r_void {o = o}) rest)) = meets_shape at e (item.void_deleting x ps end) (m_word {o = o1} (m_word {o = o} (to_meet rest)))
known_item {at = at} e (g.a_deleting {x = x} {ps = ps} {end = end}) (k_word {o = o1} (k_node xs (r_type {ty = ty} dt) rest)) = meets_shape at e (item.typed_deleting ty x ps end) (m_word {o = o1} (m_node xs (type_met ty xs dt) (to_meet rest)))

known_field : {at : Spot} {a : TreeOf g.FieldDec} {ps : List Part} {ws : List Placed} → BeginAt at ws → Rule at g.FieldDec a ps → KnownAll ws ps → Known g.FieldDec a ws
known_field {at = at} e (g.a_field {ns = ns}) (k_node ss dn (k_node _ (name_given {o = o} {q = q} {y = y} e2) k_done)) =
    dec.field_rule ns ss o q y [] [] (λ x o. record { spot = o; stars = ns; name = x; length = None }) at dn e2 e m_done (λ x o. dec.field_along ns x o)
known_field {at = at} e (g.an_array {ns = ns} {i = i} {unsigned = v}) (k_node ss dn (k_node _ {ys = ys} (name_given {o = o} {q = q} {y = y} e2) rest)) =
    dec.field_rule ns ss o q y ys _ (λ x o. record { spot = o; stars = ns; name = x; length = Some i }) at dn e2 e (to_meet rest) (λ x o. dec.array_along ns i v x o)

known_dec : {at : Spot} {a : TreeOf g.Dec} {ps : List Part} {ws : List Placed} → Rule at g.Dec a ps → KnownAll ws ps → Known g.Dec a ws
known_dec (g.a_global {d = d}) (k_node xs c k_done) = dec_known (record { declarator = d; constant = None }) (xs ++ []) (dec.named_in g.FieldDec g.Dec field_top r.initialised d (record { declarator = d; constant = None }) xs [] [] c.1 m_done (dec.global_along d))
known_dec (g.an_initial {d = d} {i = i}) (k_node xs {ys = ys} c rest) =
    dec_known (record { declarator = d; constant = Some i }) (xs ++ ys) (dec.named_in g.FieldDec g.Dec field_top r.initialised d (record { declarator = d; constant = Some i }) xs ys _ c.1 (to_meet rest) (dec.initial_along d i))

known_decs : {at : Spot} {a : TreeOf g.Decs} {ps : List Part} {ws : List Placed} → Rule at g.Decs a ps → KnownAll ws ps → Known g.Decs a ws
known_decs (g.one_global {d = d}) (k_node xs c k_done) = decs_known (d ∷ []) (xs ++ []) (dec.named_in g.Dec g.Decs dec_top (λ d. build (d ∷ [])) d (d ∷ []) xs [] [] c.1 m_done (dec.one_along d))
known_decs (g.another_global {before = before} {d = d}) (k_node xs {ys = ys} c rest) = decs_known (before ++ d ∷ []) (xs ++ ys) (dec.named_on g.Decs decs_top before (before ++ d ∷ []) xs ys _ c.1 (to_meet rest) (dec.another_along before d))

known_stars : {at : Spot} {a : TreeOf g.Stars} {ps : List Part} {ws : List Placed} → Rule at g.Stars a ps → KnownAll ws ps → StarsKnown a ws
known_stars g.no_stars k_done = none
known_stars (g.plain_star {before = ns}) (k_node xs d (k_node ys c k_done)) = let P : List Placed → Type 0 = λ l. StarsKnown (ns ++ n.Plain ∷ []) (xs ++ (l ++ [])) in subst P (sym c.1) (list.plain_known ns xs c.0 d)
known_stars (g.noted_star {before = ns} note {i = i} h) (k_node xs d (k_node ys c (k_word {o = q2} k_done))) = let P : List Placed → Type 0 = λ l. StarsKnown (ns ++ note ∷ []) (xs ++ (l ++ (is (key i) q2 ∷ []))) in subst P (sym c.1) (list.noted_known ns note i xs c.0 q2 h d)

known_type : {at : Spot} {a : TreeOf g.TypeName} {ps : List Part} {ws : List Placed} → BeginAt at ws → Rule at g.TypeName a ps → KnownAll ws ps → TypeGiven a ws
known_type {at = at} e (g.a_type {base = a} {ns = ns}) (k_node bs da (k_node ss dn k_done)) =
    let P : List Placed → Type 0 = λ l. TypeGiven (typed a ns) (bs ++ l) in
    let Q : List Placed → Type 0 = λ l. Meets g.TypeName (typed a ns) (bs ++ l) in
    subst P (sym (append-nil ss)) (type_given bs ss da.1 dn (subst Q (append-nil ss) (by_shape refl e g.a_type (k_node bs da (k_node ss dn k_done)))))

known_result : {at : Spot} {a : TreeOf g.Result} {ps : List Part} {ws : List Placed} → Rule at g.Result a ps → KnownAll ws ps → ResultGiven a ws
known_result g.a_void (k_word k_done) = r_void
known_result (g.a_result {ty = ty}) (k_node xs d k_done) = along_words (λ l. ResultGiven (Some ty) l) xs (r_type d)

known_body : {at : Spot} {a : TreeOf g.Body} {ps : List Part} {ws : List Placed} → Rule at g.Body a ps → KnownAll ws ps → MeetsOn g.Body t.done a ws
known_body g.no_stmts k_done = λ root k q f h. (q, refl, f, h)
known_body (g.then_locals {before = before} {ls = ls}) (k_node xs d (k_node ys c k_done)) =
    list.list_on g.Body g.Locals t.done before (joined before (stmts_of ls)) ls (λ ls. build (joined before (stmts_of ls))) xs (ys ++ []) refl d (along_words (λ l. Meets g.Locals ls l) ys c) list.locals_may (list.locals_go before) (λ p f. (tt, λ o. refl))
known_body (g.then_stmt {before = before} {s = z}) (k_node xs d (k_node ys c k_done)) =
    list.list_on g.Body g.Stmt t.done before (joined before (t.next z t.done)) z (λ z. build (joined before (t.next z t.done))) xs (ys ++ []) refl d (along_words (λ l. Meets g.Stmt z l) ys c) list.stmt_may (list.stmts_go before)
    (λ p f. (λ h. absurd (not_both p.word f h), λ o. refl))

known_local : {at : Spot} {a : TreeOf g.LocalDec} {ps : List Part} {ws : List Placed} → BeginAt at ws → Rule at g.LocalDec a ps → KnownAll ws ps → Meets g.LocalDec a ws
known_local {at = at} e (g.a_local {ns = ns}) (k_node ss dn (k_node _ (name_given {o = o} {q = q} {y = y} e2) k_done)) =
    dec.local_rule ns ss o q y [] [] (λ x o. record { spot = o; stars = ns; name = x; initial = None }) at dn e2 e m_done (λ x o. dec.local_along ns x o)
known_local {at = at} e (g.a_local_with {ns = ns} {e = c}) (k_node ss dn (k_node _ {ys = ys} (name_given {o = o} {q = q} {y = y} e2) rest)) =
    dec.local_rule ns ss o q y ys _ (λ x o. record { spot = o; stars = ns; name = x; initial = Some c }) at dn e2 e (to_meet rest) (λ x o. dec.local_with_along ns c x o)

known_simple : {at : Spot} {a : TreeOf g.Simple} {ps : List Part} {ws : List Placed} → BeginAt at ws → Rule at g.Simple a ps → KnownAll ws ps → Meets g.Simple a ws
known_simple e (g.evaluates {e = a}) (k_node xs d k_done) = along_words (λ l. Meets g.Simple (t.expression a) l) xs (evaluated_rule a xs d.1)
known_simple {at = at} e (g.assigns {l = l} {r = c}) all = meets_shape at e (table.assigned l c) (to_meet all)
known_simple {at = at} e (g.updates {op = op} {i = x} {l = l} {r = c} h) all = meets_shape at e (table.updated op x l c h) (to_meet all)
known_simple {at = at} e (g.steps_after {op = op} {l = l}) all = meets_shape at e (table.after_left op l) (to_meet all)
known_simple {at = at} e (g.steps_before {op = op} {l = l}) all = meets_shape at e (table.stepped op l) (to_meet all)

known_level : {at : Spot} {i : ℕ} {a : t.Expr} {ps : List Part} {ws : List Placed} → BeginAt at ws → Rule at (g.Level i) a ps → KnownAll ws ps → Known (g.Level i) a ws
known_level {at = at} e (g.conditional {c = c} {a = a} {b = z}) (k_node xs {ys = ys} d rest) =
    level_known 0 (t.conditional at c a z) (xs ++ ys) (lev.lead_on 1 0 (omega arith) c (λ o. t.conditional o c a z) at xs ys _ d.1 e (to_meet rest) (lev.conditional_along c a z))
known_level {at = at} e (g.chain {i = i} {op = op} {a = a} {b = c} h) (k_node xs {ys = ys} d rest) =
    let P : ℕ → Type 0 = λ j. LevelLead j a xs in
    let Q : ℕ → Type 0 = λ j. MeetAll ys (g.sign (g.mark_of op) ∷ node (g.Level (j + 1)) c ∷ []) in
    let R : ℕ → Type 0 = λ j. LevelLead j (t.binary at op a c) (xs ++ ys) in
    level_known i (t.binary at op a c) (xs ++ ys)
    (subst R h (lev.lead_on (g.level_of op) (g.level_of op) (omega arith) a (λ o. t.binary o op a c) at xs ys _ (subst P (sym h) d.1) e (subst Q (sym h) (to_meet rest)) (lev.chain_along op a c)))
known_level e (g.up {i = i} {e = a} h) (k_node xs d k_done) = along_words (λ l. Known (g.Level i) a l) xs (level_known i a xs (lev.lead_up i (i + 1) a xs (omega arith) d.1))
known_level e (g.operand {e = a}) (k_node xs d k_done) = along_words (λ l. Known (g.Level 11) a l) xs (level_known 11 a xs (lev.unary_lead 11 a xs d))

known_unary : {at : Spot} {a : t.Expr} {ps : List Part} {ws : List Placed} → BeginAt at ws → Rule at g.Unary a ps → KnownAll ws ps → Meets g.Unary a ws
known_unary e (g.plain {e = a}) (k_node xs d k_done) = along_words (λ l. Meets g.Unary a l) xs (plainly a xs d)
known_unary {at = at} e (g.prefixed {op = op} {e = a}) all = meets_shape at e (una.prefixed op a) (to_meet all)
known_unary {at = at} e (g.a_cast {e = a}) (k_word {o = o1} (k_node _ (c_int {o = o}) rest)) = meets_shape at e (una.cast_int a) (m_word {o = o1} (m_word {o = o} (to_meet rest)))
known_unary {at = at} e (g.a_cast {e = a}) (k_word {o = o1} (k_node _ (c_char {o = o}) rest)) = meets_shape at e (una.cast_char a) (m_word {o = o1} (m_word {o = o} (to_meet rest)))
known_unary {at = at} e (g.a_cast {e = a}) (k_word {o = o1} (k_node _ (c_unsigned {o = o}) rest)) = meets_shape at e (una.cast_unsigned a) (m_word {o = o1} (m_word {o = o} (to_meet rest)))
known_unary {at = at} e (g.a_cast {e = a}) (k_word {o = o1} (k_node _ (c_unsigned_int {o = o} {p = p}) rest)) = meets_shape at e (una.cast_unsigned_int a) (m_word {o = o1} (m_word {o = o} (m_word {o = p} (to_meet rest))))

known_cast : {at : Spot} {a : TreeOf g.CastType} {ps : List Part} {ws : List Placed} → Rule at g.CastType a ps → KnownAll ws ps → CastGiven a ws
known_cast g.to_int (k_word k_done) = c_int
known_cast g.to_char (k_word k_done) = c_char
known_cast g.to_unsigned (k_word k_done) = c_unsigned
known_cast g.to_unsigned_int (k_word (k_word k_done)) = c_unsigned_int

known_postfix : {at : Spot} {a : t.Expr} {ps : List Part} {ws : List Placed} → BeginAt at ws → Rule at g.Postfix a ps → KnownAll ws ps → MeetsAs true g.Unary a ws
known_postfix e (g.bare {e = a}) (k_node xs d k_done) = along_words (λ l. MeetsAs true g.Unary a l) xs d
known_postfix {at = at} e (g.indexed {a = a} {i = i}) (k_node xs {ys = ys} d rest) = postfix_on a (λ o. t.index o a i) at xs ys _ d e (to_meet rest) (una.along_index a i)
known_postfix {at = at} e (g.a_member {a = a} {x = x}) (k_node xs {ys = ys} d rest) = postfix_on a (λ o. t.member o a x) at xs ys _ d e (to_meet rest) (una.along_member a x)
known_postfix {at = at} e (g.an_arrow {a = a} {x = x}) (k_node xs {ys = ys} d rest) = postfix_on a (λ o. t.arrow o a x) at xs ys _ d e (to_meet rest) (una.along_arrow a x)

known_primary : {at : Spot} {a : t.Expr} {ps : List Part} {ws : List Placed} → BeginAt at ws → Rule at g.Primary a ps → KnownAll ws ps → MeetsAs true g.Unary a ws
known_primary {at = at} e (g.a_number {i = i} {unsigned = v}) all = meets_shape at e (una.a_number i v) (to_meet all)
known_primary {at = at} e (g.a_character {i = i}) all = meets_shape at e (una.a_character i) (to_meet all)
known_primary {at = at} e (g.a_string {bytes = x}) all = meets_shape at e (una.a_string x) (to_meet all)
known_primary {at = at} e g.the_null all = meets_shape at e una.a_null (to_meet all)
known_primary {at = at} e g.the_eof all = meets_shape at e una.an_eof (to_meet all)
known_primary e g.a_variable (k_node _ (name_given {o = o} {q = q} {y = y} e2) k_done) = named_primary (λ x. t.variable x) o q y (is (w.name y) o ∷ []) e2 (meets_shape o refl (una.a_variable y) (m_word {o = o} m_done))
known_primary e g.calls (k_node _ {ys = ys} (name_given {o = o} {q = q} {y = y} e2) rest) = named_primary (λ x. t.call x t.none) o q y (is (w.name y) o ∷ ys) e2 (meets_shape o refl (una.a_call y) (m_word {o = o} (to_meet rest)))
known_primary e (g.calls_with {v = v}) (k_node _ {ys = ys} (name_given {o = o} {q = q} {y = y} e2) rest) = named_primary (λ x. t.call x v) o q y (is (w.name y) o ∷ ys) e2 (meets_shape o refl (una.a_call_with y v) (m_word {o = o} (to_meet rest)))
known_primary {at = at} e (g.allocates {r = c} {ty = ty}) all = meets_shape at e (una.an_allocation c ty) (to_meet all)
known_primary {at = at} e (g.allocates_array {r = c} {i = i} {ty = ty}) all = meets_shape at e (una.an_array_allocation c i ty) (to_meet all)
known_primary {at = at} e (g.parentheses {e = a}) all = meets_shape at e (una.in_parentheses a) (to_meet all)

known_base : {at : Spot} {a : TreeOf g.Base} {ps : List Part} {ws : List Placed} → BeginAt at ws → Rule at g.Base a ps → KnownAll ws ps → DeriveAll ws ps → Known g.Base a ws
known_base e rule all ds = (by_shape refl e rule all, item.item_base (by e rule ds))

known_name : {at : Spot} {a : TreeOf g.Name} {ps : List Part} {ws : List Placed} → BeginAt at ws → Rule at g.Name a ps → KnownAll ws ps → NameGiven a ws
known_name e g.a_name (k_word k_done) = name_given e

known_star : {at : Spot} {i : ℕ} {a : Unit {0}} {ps : List Part} {ws : List Placed} → Rule at (g.Star i) a ps → KnownAll ws ps → (o : Spot) × (ws ≡ is (mark m.Star) o ∷ [])
known_star g.a_star (k_word {o = o} k_done) = (o, refl)

known : (s : Symbol) {at : Spot} {a : TreeOf s} {ps : List Part} {ws : List Placed} → BeginAt at ws → Rule at s a ps → KnownAll ws ps → DeriveAll ws ps → Known s a ws
known g.Text e rule all ds = known_text rule all
known g.Item e rule all ds = known_item e rule all
known g.FieldDec e rule all ds = known_field e rule all
known g.Dec e rule all ds = known_dec rule all
known g.Decs e rule all ds = known_decs rule all
known g.Base e rule all ds = known_base e rule all ds
known g.Stars e rule all ds = known_stars rule all
known (g.Star i) e rule all ds = known_star rule all
known g.TypeName e rule all ds = known_type e rule all
known g.Result e rule all ds = known_result rule all
known g.Body e rule all ds = known_body rule all
known g.LocalDec e rule all ds = known_local e rule all
known g.Simple e rule all ds = known_simple e rule all
known (g.Level i) e rule all ds = known_level e rule all
known g.Unary e rule all ds = known_unary e rule all
known g.CastType e rule all ds = known_cast rule all
known g.Postfix e rule all ds = known_postfix e rule all
known g.Primary e rule all ds = known_primary e rule all
known g.Name e rule all ds = known_name e rule all
known s e rule all ds = by_shape refl e rule all

mutual
  pub meets : {ws : List Placed} {p : Part} → Derives ws p → KnownPart p ws
  meets itself = tt
  meets (by {s = s} e rule ds) = known s e rule (meets_all ds) ds

  pub meets_all : {ws : List Placed} {ps : List Part} → DeriveAll ws ps → KnownAll ws ps
  meets_all done = k_done
  meets_all (then itself ds) = k_word (meets_all ds)
  meets_all (then {xs = xs} {p = node s a} d ds) = k_node xs (meets d) (meets_all ds)
