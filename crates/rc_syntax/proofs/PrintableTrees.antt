-- The words of a tree, as it is printed, can be printed where words that derive it can.
use Rattle.std.proofs.Common.{ℕ, ◌≡◌, ◌≤◌, ◌+◌, List, [], ◌∷◌, ◌++◌, map, Option, Some, None, Bool, true, false, not, cond, refl, sym, subst, arith}
use Rattle.std.proofs.lemmas.Bool.Decides.{nat_tests}
use Rattle.std.proofs.lemmas.List.Concat.{flat_map-append}
use Rattle.std.proofs.lemmas.List.Elements.{All-head, All-tail, All-cons, All-append}
use Rattle.std.specs.Prelude.{All, flat_map, nat_le}
use Rattle.rc_syntax.specs.declared.word.Mark as marks
use Rattle.rc_syntax.specs.declared.word.Mark.TheVariants as m
use Rattle.rc_syntax.specs.declared.tree.Spot.{Spot}
use Rattle.rc_syntax.specs.declared.tree.Name as names
use Rattle.rc_syntax.specs.declared.tree.Note as notes
use Rattle.rc_syntax.specs.declared.tree.Note.TheVariants as n
use Rattle.rc_syntax.specs.declared.tree.Base as bases
use Rattle.rc_syntax.specs.declared.tree.CastType as casts
use Rattle.rc_syntax.specs.declared.tree.CastType.TheVariants as c
use Rattle.rc_syntax.specs.Tokens as w
use Rattle.rc_syntax.specs.Tokens.{Word, key, mark}
use Rattle.rc_syntax.specs.Tree as t
use Rattle.rc_syntax.specs.Grammar as g
use Rattle.rc_syntax.specs.Grammar.{Symbol, TreeOf, Placed, Part, word, node, Rule, Derives, itself, by, DeriveAll, done, then, FieldDeclarator, GlobalDeclarator, LocalDeclarator, joined, stmts_of, with_last, field, global, local, level_of}
use Rattle.rc_syntax.specs.printing.Printing.{IsPrintable}
use Rattle.rc_syntax.specs.printing.Unplaced.{words_at}
use Rattle.rc_syntax.specs.printing.TreeWords.{base_words, star_words, type_words, cast_words, expr_level, operand_words, expr_words, further_words, update_words, simple_words, declarator_words, constant_words, global_words, initial_words, local_words, locals_words, expr_end_words, simple_end_words, start_words, stmt_words, stmts_words, field_words, param_words, params_words, result_words, body_words, ending_words, item_words, items_words}
use Rattle.rc_syntax.proofs.PrintedItems.{Every, every_append, joined_words}

-- Each of the words can be printed.
pub data Fits : List Word → Type 0 where
  end : Fits []
  free : {i : Word} {ws : List Word} → IsPrintable i → Fits ws → Fits (i ∷ ws)
  join : {xs ys : List Word} → Fits xs → Fits ys → Fits (xs ++ ys)

all_none : All IsPrintable []
all_none k d h = absurd (omega arith)

pub all_fit : {ws : List Word} → Fits ws → All IsPrintable ws
all_fit end = all_none
all_fit (free {i = i} {ws = ws} h f) = All-cons IsPrintable i ws h (all_fit f)
all_fit (join {xs = xs} {ys = ys} f h) = All-append IsPrintable xs ys (all_fit f) (all_fit h)

-- Lists.
flat_joined : {A : Type 0} (f : A → List Word) (xs ys : List A) → Fits (flat_map f xs) → Fits (flat_map f ys) → Fits (flat_map f (xs ++ ys))
flat_joined f xs ys h i = subst Fits (sym (flat_map-append f xs ys)) (join h i)

star_fits : (note : notes.Note) → Fits (star_words note)
star_fits n.Plain = free tt end
star_fits n.SameRegion = free tt (free tt end)
star_fits n.ParentPtr = free tt (free tt end)
star_fits n.Traditional = free tt (free tt end)

stars_fit : (ns : List notes.Note) → Fits (flat_map star_words ns)
stars_fit [] = end
stars_fit (note ∷ ns) = join (star_fits note) (stars_fit ns)

cast_fits : (to : casts.CastType) → Fits (cast_words to)
cast_fits c.Int = free tt end
cast_fits c.Unsigned = free tt end
cast_fits c.Char = free tt end

operand_fits : (i : ℕ) (e : t.Expr) (ws : List Word) → Fits ws → Fits (operand_words i e ws)
operand_fits i e ws h = go (nat_le i (expr_level e))
  where
    go : (v : Bool) → Fits (cond v ws (mark m.OpenParenthesis ∷ ws ++ mark m.CloseParenthesis ∷ []))
    go true = h
    go false = free tt (join h (free tt end))

update_fits : (o : Option marks.Mark) → Fits (update_words o)
update_fits None = end
update_fits (Some i) = free tt end

le_of : (a b : ℕ) → nat_le a b ≡ true → a ≤ b
le_of a b h = grind (arith, nat_tests)

-- the number of a length
length_fits : (i : ℕ) (unsigned : Bool) → IsPrintable (w.number i unsigned) → IsPrintable (w.number i (not (nat_le i 2147483647)))
length_fits i unsigned h = go (nat_le i 2147483647) refl
  where
    at_most : (u : Bool) → IsPrintable (w.number i u) → i ≤ 4294967295
    at_most true k = k
    at_most false k = omega arith

    go : (v : Bool) → nat_le i 2147483647 ≡ v → IsPrintable (w.number i (not v))
    go true e = le_of i 2147483647 e
    go false e = at_most unsigned h

-- Declarators and the like.
abbrev DeclaratorFits : FieldDeclarator → Type 0
DeclaratorFits d = Fits (declarator_words d.stars d.name d.length)

abbrev GlobalFits : GlobalDeclarator → Type 0
GlobalFits d = Fits (global_words d.declarator.stars d.declarator.name d.declarator.length d.constant)

abbrev LocalDeclaratorFits : LocalDeclarator → Type 0
LocalDeclaratorFits d = Fits (flat_map star_words d.stars ++ w.name d.name.text ∷ initial_words d.initial)

abbrev LocalFits : t.Local → Type 0
LocalFits l = Fits (base_words l.type_name.base) × Fits (local_words l)

abbrev ParamFits : t.Param → Type 0
ParamFits p = Fits (param_words p)

abbrev ExprsFit : t.Exprs → Type 0
ExprsFit t.none = Unit {0}
ExprsFit (t.more a rest) = Fits (expr_words a) × ExprsFit rest

fields_fit : (base : bases.Base) (ds : List FieldDeclarator) → Fits (base_words base) → Every DeclaratorFits ds → Fits (flat_map field_words (map (field base) ds))
fields_fit base [] h i = end
fields_fit base (d ∷ ds) h i = join (join h (join i.0 (free tt end))) (fields_fit base ds h i.1)

globals_fit : (base : bases.Base) (ds : List GlobalDeclarator) → Fits (base_words base) → Every GlobalFits ds → Fits (items_words (map (global base) ds))
globals_fit base [] h i = end
globals_fit base (d ∷ ds) h i = join (join h (join i.0 (free tt end))) (globals_fit base ds h i.1)

based_fits : (base : bases.Base) (ds : List LocalDeclarator) → Fits (base_words base) → Every LocalDeclaratorFits ds → Every LocalFits (map (local base) ds)
based_fits base [] h i = tt
based_fits base (d ∷ ds) h i = ((h, i.0), based_fits base ds h i.1)

locals_fit : (ls : List t.Local) → Every LocalFits ls → Fits (stmts_words (stmts_of ls))
locals_fit [] h = end
locals_fit (l ∷ ls) h = join (join h.0.0 (join (join h.0.1 end) (free tt end))) (locals_fit ls h.1)

same_base_fits : (ls : List t.Local) → Every LocalFits ls → Fits (locals_words ls)
same_base_fits [] h = free tt end
same_base_fits (l ∷ ls) h = join h.0.0 (join (join h.0.1 (others ls h.1)) (free tt end))
  where
    others : (more : List t.Local) → Every LocalFits more → Fits (flat_map (λ other. mark m.Comma ∷ local_words other) more)
    others [] i = end
    others (k ∷ more) i = free tt (join i.0.1 (others more i.1))

joined_fits : (a e : t.Stmts) → Fits (stmts_words a) → Fits (stmts_words e) → Fits (stmts_words (joined a e))
joined_fits a e h i = subst Fits (sym (joined_words a e)) (join h i)

params_fit : (ps : List t.Param) → Every ParamFits ps → Fits (params_words ps)
params_fit [] h = free tt (free tt end)
params_fit (p ∷ ps) h = join (join h.0 (others ps h.1)) (free tt end)
  where
    others : (more : List t.Param) → Every ParamFits more → Fits (flat_map (λ other. mark m.Comma ∷ param_words other) more)
    others [] i = end
    others (q ∷ more) i = free tt (join i.0 (others more i.1))

ending_fits : (deletes : Bool) (body : Option t.Stmts) → Fits (body_words body) → Fits (ending_words deletes body)
ending_fits true body h = free tt h
ending_fits false body h = h

further_fits : (v : t.Exprs) → ExprsFit v → Fits (further_words v)
further_fits t.none h = end
further_fits (t.more a rest) h = free tt (join h.0 (further_fits rest h.1))

call_fits : (x : names.Name) (v : t.Exprs) → IsPrintable (w.name x.text) → ExprsFit v → Fits (expr_words (t.call x v))
call_fits x t.none h i = free h (free tt (free tt end))
call_fits x (t.more a rest) h i = free h (free tt (join (join i.0 (further_fits rest i.1)) (free tt end)))

last_fits : (v : t.Exprs) (e : t.Expr) → ExprsFit v → Fits (expr_words e) → ExprsFit (with_last v e)
last_fits t.none e h i = (i, tt)
last_fits (t.more a v) e h i = (h.0, last_fits v e h.1 i)

-- What is known of a symbol's tree.
abbrev TreeFits : (s : Symbol) → TreeOf s → Type 0
TreeFits g.Text a = Fits (items_words a)
TreeFits g.Item a = Fits (items_words a)
TreeFits g.Fields a = Fits (flat_map field_words a)
TreeFits g.Field a = Fits (flat_map field_words a)
TreeFits g.FieldDecs a = Every DeclaratorFits a
TreeFits g.FieldDec a = DeclaratorFits a
TreeFits g.Decs a = Every GlobalFits a
TreeFits g.Dec a = GlobalFits a
TreeFits g.Constant a = Fits (constant_words a)
TreeFits g.Base a = Fits (base_words a)
TreeFits g.Stars a = Unit {0}
TreeFits (g.Star i) a = Unit {0}
TreeFits g.TypeName a = Fits (type_words a)
TreeFits g.Result a = Fits (result_words a)
TreeFits g.ParamsEnd a = Every ParamFits a
TreeFits g.Params a = Every ParamFits a
TreeFits g.Param a = ParamFits a
TreeFits g.FunctionEnd a = Fits (body_words a.body)
TreeFits g.BodyEnd a = Fits (body_words a)
TreeFits g.Block a = Fits (stmts_words a)
TreeFits g.Body a = Fits (stmts_words a)
TreeFits g.Locals a = Every LocalFits a
TreeFits g.LocalDecs a = Every LocalDeclaratorFits a
TreeFits g.LocalDec a = LocalDeclaratorFits a
TreeFits g.Stmt a = Fits (stmt_words a)
TreeFits g.ForStart a = Fits (start_words a)
TreeFits g.ExprEnd a = Fits (expr_end_words a)
TreeFits g.SimpleEnd a = Fits (simple_end_words a)
TreeFits g.Simple a = Fits (simple_words a)
TreeFits (g.Level i) a = Fits (expr_words a)
TreeFits g.Arm a = Fits (expr_words a)
TreeFits g.Unary a = Fits (expr_words a)
TreeFits g.CastType a = Unit {0}
TreeFits g.Postfix a = Fits (expr_words a)
TreeFits g.Primary a = Fits (expr_words a)
TreeFits g.Arguments a = ExprsFit a
TreeFits g.Name a = IsPrintable (w.name a.text)

abbrev PartFits : Part → Type 0
PartFits (word i) = IsPrintable i
PartFits (node s a) = TreeFits s a

fits : {at : Spot} {s : Symbol} {a : TreeOf s} {ps : List Part} → Rule at s a ps → Every PartFits ps → TreeFits s a
fits g.no_items h = end
fits (g.items {before = xs} {is = ys}) h = flat_joined item_words xs ys h.0 h.1.0
fits g.a_struct h = join (free tt (free h.1.0 (free tt (join h.1.1.1.0 (free tt (free tt end)))))) end
fits (g.globals {base = base} {ds = ds}) h = globals_fit base ds h.0 h.1.0
fits (g.a_function {ps = ps} {end = ending}) h = join (join h.0 (free h.1.0 (free tt (join (params_fit ps h.1.1.1.0) (ending_fits ending.deletes ending.body h.1.1.1.1.0))))) end
fits (g.a_deleting {ps = ps} {end = ending}) h = join (join h.1.0 (free h.1.1.0 (free tt (join (params_fit ps h.1.1.1.1.0) (ending_fits true ending.body h.1.1.1.1.1.0))))) end
fits g.first_field h = h.0
fits (g.more_fields {before = xs} {fs = ys}) h = flat_joined field_words xs ys h.0 h.1.0
fits (g.fields {base = base} {ds = ds}) h = fields_fit base ds h.0 h.1.0
fits g.one_field h = (h.0, tt)
fits (g.another_field {before = xs} {d = d}) h = every_append DeclaratorFits xs (d ∷ []) h.0 (h.1.1.0, tt)
fits (g.a_field {ns = ns}) h = join (stars_fit ns) (free h.1.0 end)
fits (g.an_array {ns = ns} {i = i} {unsigned = unsigned}) h = join (stars_fit ns) (free h.1.0 (free tt (free (length_fits i unsigned h.1.1.1.0) (free tt end))))
fits g.one_global h = (h.0, tt)
fits (g.another_global {before = xs} {d = d}) h = every_append GlobalFits xs (d ∷ []) h.0 (h.1.1.0, tt)
fits g.a_global h = h.0
fits g.an_initial h = join h.0 (free tt h.1.1.0)
fits g.a_constant h = free h.0 end
fits g.a_negative h = free tt (free h.1.0 end)
fits g.a_code h = free tt end
fits g.a_null h = free tt end
fits g.an_eof h = free tt end
fits g.an_int h = free tt end
fits g.an_unsigned h = free tt end
fits g.an_unsigned_int h = free tt end
fits g.a_char h = free tt end
fits g.a_region h = free tt end
fits g.a_named_struct h = free tt (free h.1.0 end)
fits (g.a_type {ns = ns}) h = join h.0 (stars_fit ns)
fits g.a_void h = free tt end
fits g.a_result h = h.0
fits g.some_params h = h.0
fits g.one_param h = (h.0, tt)
fits (g.another_param {before = xs} {p = p}) h = every_append ParamFits xs (p ∷ []) h.0 (h.1.1.0, tt)
fits g.a_nameless h = h.0
fits g.a_param h = join h.0 (free h.1.0 end)
fits g.ends h = h.0
fits g.ends_deleting h = h.1.0
fits g.no_body h = free tt end
fits g.a_body h = free tt (join h.0 (free tt end))
fits g.a_block h = h.1.0
fits g.no_stmts h = end
fits (g.then_locals {before = a} {ls = ls}) h = joined_fits a (stmts_of ls) h.0 (locals_fit ls h.1.0)
fits (g.then_stmt {before = a} {s = s}) h = joined_fits a (t.next s t.done) h.0 (join h.1.0 end)
fits (g.locals {base = base} {ds = ds}) h = based_fits base ds h.0 h.1.0
fits g.one_local h = (h.0, tt)
fits (g.another_local {before = xs} {d = d}) h = every_append LocalDeclaratorFits xs (d ∷ []) h.0 (h.1.1.0, tt)
fits (g.a_local {ns = ns}) h = join (stars_fit ns) (free h.1.0 end)
fits (g.a_local_with {ns = ns}) h = join (stars_fit ns) (free h.1.0 (free tt h.1.1.1.0))
fits g.a_block_stmt h = free tt (join h.0 (free tt end))
fits g.an_empty h = free tt end
fits g.a_simple h = join h.0 (free tt end)
fits g.an_if h = free tt (free tt (join h.1.1.0 (free tt h.1.1.1.1.0)))
fits (g.an_if_else p) h = free tt (free tt (join h.1.1.0 (free tt (join h.1.1.1.1.0 (free tt h.1.1.1.1.1.1.0)))))
fits g.a_while h = free tt (free tt (join h.1.1.0 (free tt h.1.1.1.1.0)))
fits g.a_do h = free tt (join h.1.0 (free tt (free tt (join h.1.1.1.1.0 (free tt (free tt end))))))
fits g.a_for h = free tt (free tt (join h.1.1.0 (join h.1.1.1.0 (join h.1.1.1.1.0 h.1.1.1.1.1.0))))
fits g.a_break h = free tt (free tt end)
fits g.a_continue h = free tt (free tt end)
fits g.a_return h = free tt h.1.0
fits (g.starts_local {ls = ls}) h = same_base_fits ls h.0
fits g.starts_simple h = join h.0 (free tt end)
fits g.starts_nothing h = free tt end
fits g.no_expr h = free tt end
fits g.an_expr h = join h.0 (free tt end)
fits g.no_simple h = free tt end
fits g.some_simple h = join h.0 (free tt end)
fits g.evaluates h = h.0
fits (g.assigns {l = l}) h = join (operand_fits 11 l (expr_words l) h.0) (free tt h.1.1.0)
fits (g.updates {op = op} {l = l} p) h = join (operand_fits 11 l (expr_words l) h.0) (join (update_fits (g.update_of op)) h.1.1.0)
fits (g.steps_after {l = l}) h = join (operand_fits 11 l (expr_words l) h.0) (free tt end)
fits (g.steps_before {l = l}) h = free tt (operand_fits 11 l (expr_words l) h.1.0)
fits (g.conditional {c = c}) h = join (operand_fits 1 c (expr_words c) h.0) (free tt (join h.1.1.0 (free tt h.1.1.1.1.0)))
fits g.arm h = h.0
fits (g.chain {op = op} {a = a} {b = e} p) h = join (operand_fits (level_of op) a (expr_words a) h.0) (free tt (operand_fits (level_of op + 1) e (expr_words e) h.1.1.0))
fits (g.up p) h = h.0
fits g.operand h = h.0
fits g.plain h = h.0
fits (g.prefixed {e = e}) h = free tt (operand_fits 11 e (expr_words e) h.1.0)
fits (g.a_cast {to = to} {e = e}) h = free tt (join (cast_fits to) (free tt (operand_fits 11 e (expr_words e) h.1.1.1.0)))
fits g.bare h = h.0
fits (g.indexed {a = a}) h = join (operand_fits 12 a (expr_words a) h.0) (free tt (join h.1.1.0 (free tt end)))
fits (g.a_member {a = a}) h = join (operand_fits 12 a (expr_words a) h.0) (free tt (free h.1.1.0 end))
fits (g.an_arrow {a = a}) h = join (operand_fits 12 a (expr_words a) h.0) (free tt (free h.1.1.0 end))
fits g.a_number h = free h.0 end
fits g.a_character h = free tt end
fits g.a_string h = free tt end
fits g.the_null h = free tt end
fits g.the_eof h = free tt end
fits g.a_variable h = free h.0 end
fits g.calls h = free h.0 (free tt (free tt end))
fits (g.calls_with {x = x} {v = v}) h = call_fits x v h.0 h.1.1.0
fits g.allocates h = free tt (free tt (join h.1.1.0 (free tt (join h.1.1.1.1.0 (free tt end)))))
fits g.allocates_array h = free tt (free tt (join h.1.1.0 (free tt (join h.1.1.1.1.0 (free tt (join h.1.1.1.1.1.1.0 (free tt end)))))))
fits g.parentheses h = h.1.0
fits g.one h = (h.0, tt)
fits (g.another {v = v} {e = e}) h = last_fits v e h.0 h.1.1.0
fits g.a_name h = h.0
fits rule h = tt

-- Words where they stand.
abbrev Printables : List Placed → Type 0
Printables ws = Every (λ p. IsPrintable p.word) ws

front_of : (xs ys : List Placed) → Printables (xs ++ ys) → Printables xs
front_of [] ys h = tt
front_of (x ∷ xs) ys h = (h.0, front_of xs ys h.1)

back_of : (xs ys : List Placed) → Printables (xs ++ ys) → Printables ys
back_of [] ys h = h
back_of (x ∷ xs) ys h = back_of xs ys h.1

mutual
  tree_fits : {ws : List Placed} {s : Symbol} {a : TreeOf s} → Derives ws (node s a) → Printables ws → TreeFits s a
  tree_fits (by at rule ds) h = fits rule (parts_fit ds h)

  parts_fit : {ws : List Placed} {ps : List Part} → DeriveAll ws ps → Printables ws → Every PartFits ps
  parts_fit done h = tt
  parts_fit (then {xs = xs} {ys = ys} itself ds) h = (h.0, parts_fit ds h.1)
  parts_fit (then {xs = xs} {ys = ys} {p = node s a} d ds) h = (tree_fits d (front_of xs ys h), parts_fit ds (back_of xs ys h))

printables : (ws : List Placed) → All IsPrintable (words_at ws) → Printables ws
printables [] h = tt
printables (p ∷ ws) h = (All-head IsPrintable p.word (words_at ws) h, printables ws (All-tail IsPrintable p.word (words_at ws) h))

-- The words of a tree can be printed where the words that derive it can.
pub printable_tree : (ws : List Placed) (a : List t.Item) → Derives ws (node g.Text a) → All IsPrintable (words_at ws) → All IsPrintable (items_words a)
printable_tree ws a d h = all_fit (tree_fits d (printables ws h))
