-- The string literals of a tree are those of its words, in their order.
use Rattle.std.specs.Prelude.{◌≡◌, ℕ, ◌≤◌, List, [], ◌∷◌, ◌++◌, length, map, slice_get, Option, Some, None, Bool, true, false, ◌&&◌}
use Rattle.std.proofs.Common.{zero, suc, refl, sym, ap, ◌∙◌, subst, arith, append_assoc, length-append}
use Rattle.std.proofs.lemmas.List.{append-nil}
use Rattle.rc_syntax.specs.declared.tree.Spot.{Spot}
use Rattle.rc_syntax.specs.declared.tree.Base.{Base}
use Rattle.rc_syntax.specs.Tokens as w
use Rattle.rc_syntax.specs.Tokens.{Word}
use Rattle.rc_syntax.specs.Tree as t
use Rattle.rc_syntax.specs.Grammar as g
use Rattle.rc_syntax.specs.Grammar.{Symbol, TreeOf, Placed, Part, word, node, Rule, BeginAt, Derives, LocalDeclarator, GlobalDeclarator, FunctionEnding, joined, stmts_of, with_last, global, local}
use Rattle.rc_deletes.specs.Scopes.{Context}
use Rattle.rc_deletes.specs.Expressions.{strings_in, strings_in_all}
use Rattle.rc_deletes.specs.Statements.{Here, strings_in_option, strings_in_simple, strings_in_simple_option, inside, behind, behind_option, behind_simple_option, behind_local, behind_locals, behind_start, behind_stmt, behind_stmts}
use Rattle.rc_deletes.specs.Items.{Outside, with_function, with_params, before_params, behind_item, behind_items, context_of, at_the_start}
use Rattle.rc_deletes.specs.Limits.{AreShort, IsShort, strings_of}
use Rattle.rc_judgements.proofs.Derived.{KnownAll, k_done, k_word, k_node, derived}
use Rattle.rc_judgements.proofs.WellTypedFunctions.{params_strings}

abbrev pub strings_in_locals : List t.Local → List (List ℕ)
strings_in_locals [] = []
strings_in_locals (l ∷ ls) = strings_in_option l.initial ++ strings_in_locals ls

abbrev pub strings_in_start : t.ForStart → List (List ℕ)
strings_in_start t.nothing = []
strings_in_start (t.simply s) = strings_in_simple s
strings_in_start (t.locals ls) = strings_in_locals ls

abbrev mutual
  pub strings_in_stmt : t.Stmt → List (List ℕ)
  strings_in_stmt (t.local l) = strings_in_option l.initial
  strings_in_stmt (t.block at body) = strings_in_stmts body
  strings_in_stmt (t.empty at) = []
  strings_in_stmt (t.simple at s) = strings_in_simple s
  strings_in_stmt (t.if_then at c a) = strings_in c ++ strings_in_stmt a
  strings_in_stmt (t.if_else at c a b) = strings_in c ++ (strings_in_stmt a ++ strings_in_stmt b)
  strings_in_stmt (t.while_do at c a) = strings_in c ++ strings_in_stmt a
  strings_in_stmt (t.do_while at a c) = strings_in_stmt a ++ strings_in c
  strings_in_stmt (t.for_do at start c next a) = strings_in_start start ++ (strings_in_option c ++ (strings_in_simple_option next ++ strings_in_stmt a))
  strings_in_stmt (t.break_loop at) = []
  strings_in_stmt (t.continue_loop at) = []
  strings_in_stmt (t.return_with at e) = strings_in_option e

  pub strings_in_stmts : t.Stmts → List (List ℕ)
  strings_in_stmts t.done = []
  strings_in_stmts (t.next s rest) = strings_in_stmt s ++ strings_in_stmts rest

abbrev pub strings_in_body : Option t.Stmts → List (List ℕ)
strings_in_body None = []
strings_in_body (Some body) = strings_in_stmts body

abbrev pub strings_in_items : List t.Item → List (List ℕ)
strings_in_items [] = []
strings_in_items (t.struct at name fields ∷ is) = strings_in_items is
strings_in_items (t.global at n name count c ∷ is) = strings_in_items is
strings_in_items (t.function at deletes result name params body ∷ is) = strings_in_body body ++ strings_in_items is

abbrev pub strings_in_decs : List LocalDeclarator → List (List ℕ)
strings_in_decs [] = []
strings_in_decs (d ∷ ds) = strings_in_option d.initial ++ strings_in_decs ds

-- those of a symbol's tree
abbrev pub strings_under : (s : Symbol) → TreeOf s → List (List ℕ)
strings_under g.Text is = strings_in_items is
strings_under g.Item is = strings_in_items is
strings_under g.FunctionEnd end = strings_in_body end.body
strings_under g.BodyEnd body = strings_in_body body
strings_under g.Block body = strings_in_stmts body
strings_under g.Body body = strings_in_stmts body
strings_under g.Locals ls = strings_in_locals ls
strings_under g.LocalDecs ds = strings_in_decs ds
strings_under g.LocalDec d = strings_in_option d.initial
strings_under g.Stmt s = strings_in_stmt s
strings_under g.ForStart start = strings_in_start start
strings_under g.ExprEnd e = strings_in_option e
strings_under g.SimpleEnd s = strings_in_simple_option s
strings_under g.Simple s = strings_in_simple s
strings_under (g.Level i) e = strings_in e
strings_under g.Arm e = strings_in e
strings_under g.Unary e = strings_in e
strings_under g.Postfix e = strings_in e
strings_under g.Primary e = strings_in e
strings_under g.Arguments es = strings_in_all es
strings_under s a = []

abbrev pub strings_at : Word → List (List ℕ)
strings_at (w.string bytes) = bytes ∷ []
strings_at i = []

abbrev pub strings_in_words : List Placed → List (List ℕ)
strings_in_words [] = []
strings_in_words (p ∷ ps) = strings_at p.word ++ strings_in_words ps

-- those of parts; what is behind the last that has any is left out
abbrev pub is_quiet : Symbol → Bool
is_quiet g.Fields = true
is_quiet g.Field = true
is_quiet g.FieldDecs = true
is_quiet g.FieldDec = true
is_quiet g.Decs = true
is_quiet g.Dec = true
is_quiet g.Constant = true
is_quiet g.Base = true
is_quiet g.Stars = true
is_quiet (g.Star i) = true
is_quiet g.TypeName = true
is_quiet g.Result = true
is_quiet g.ParamsEnd = true
is_quiet g.Params = true
is_quiet g.Param = true
is_quiet g.CastType = true
is_quiet g.Name = true
is_quiet s = false

abbrev pub is_string : Word → Bool
is_string (w.string bytes) = true
is_string i = false

abbrev pub are_quiet : List Part → Bool
are_quiet [] = true
are_quiet (word (w.string bytes) ∷ ps) = false
are_quiet (word i ∷ ps) = are_quiet ps
are_quiet (node s a ∷ ps) = is_quiet s && are_quiet ps

abbrev pub joined_unless : Bool → List (List ℕ) → List (List ℕ) → List (List ℕ)
joined_unless true xs ys = xs
joined_unless false xs ys = xs ++ ys

abbrev pub strings_in_parts : List Part → List (List ℕ)
strings_in_parts [] = []
strings_in_parts (word i ∷ ps) = joined_unless (are_quiet ps) (strings_at i) (strings_in_parts ps)
strings_in_parts (node s a ∷ ps) = joined_unless (are_quiet ps) (strings_under s a) (strings_in_parts ps)

quiet_symbol : (s : Symbol) (a : TreeOf s) → is_quiet s ≡ true → strings_under s a ≡ []
quiet_symbol g.Fields a h = refl
quiet_symbol g.Field a h = refl
quiet_symbol g.FieldDecs a h = refl
quiet_symbol g.FieldDec a h = refl
quiet_symbol g.Decs a h = refl
quiet_symbol g.Dec a h = refl
quiet_symbol g.Constant a h = refl
quiet_symbol g.Base a h = refl
quiet_symbol g.Stars a h = refl
quiet_symbol (g.Star i) a h = refl
quiet_symbol g.TypeName a h = refl
quiet_symbol g.Result a h = refl
quiet_symbol g.ParamsEnd a h = refl
quiet_symbol g.Params a h = refl
quiet_symbol g.Param a h = refl
quiet_symbol g.CastType a h = refl
quiet_symbol g.Name a h = refl
quiet_symbol s a h = absurd cc

both_true : (a b : Bool) → (a && b) ≡ true → (a ≡ true) × (b ≡ true)
both_true true true h = (refl, refl)
both_true true false h = absurd cc
both_true false b h = absurd cc

joined_nothing : (b : Bool) (xs ys : List (List ℕ)) → xs ≡ [] → ys ≡ [] → joined_unless b xs ys ≡ []
joined_nothing true xs ys h k = h
joined_nothing false xs ys h k = (λ j. h j ++ k j)

quiet_parts : (ps : List Part) → are_quiet ps ≡ true → strings_in_parts ps ≡ []
quiet_parts [] h = refl
quiet_parts (word (w.string bytes) ∷ ps) h = absurd cc
quiet_parts (word (w.name x) ∷ ps) h = joined_nothing (are_quiet ps) [] (strings_in_parts ps) refl (quiet_parts ps h)
quiet_parts (word (w.number n u) ∷ ps) h = joined_nothing (are_quiet ps) [] (strings_in_parts ps) refl (quiet_parts ps h)
quiet_parts (word (w.character n) ∷ ps) h = joined_nothing (are_quiet ps) [] (strings_in_parts ps) refl (quiet_parts ps h)
quiet_parts (word (w.key k) ∷ ps) h = joined_nothing (are_quiet ps) [] (strings_in_parts ps) refl (quiet_parts ps h)
quiet_parts (word (w.mark k) ∷ ps) h = joined_nothing (are_quiet ps) [] (strings_in_parts ps) refl (quiet_parts ps h)
quiet_parts (node s a ∷ ps) h =
    let k = both_true (is_quiet s) (are_quiet ps) h in
    joined_nothing (are_quiet ps) (strings_under s a) (strings_in_parts ps) (quiet_symbol s a k.0) (quiet_parts ps k.1)

joined_is : (b : Bool) (xs ys : List (List ℕ)) → (b ≡ true → ys ≡ []) → joined_unless b xs ys ≡ xs ++ ys
joined_is true xs ys h = sym (append-nil xs) ∙ ap (λ l. xs ++ l) (sym (h refl))
joined_is false xs ys h = refl

words_joined : (xs ys : List Placed) → strings_in_words (xs ++ ys) ≡ strings_in_words xs ++ strings_in_words ys
words_joined [] ys = refl
words_joined (x ∷ xs) ys = ap (λ l. strings_at x.word ++ l) (words_joined xs ys) ∙ sym (append_assoc (strings_at x.word) (strings_in_words xs) (strings_in_words ys))

-- the strings of a symbol's tree are those of its words
abbrev pub Kept : (s : Symbol) → TreeOf s → List Placed → Type 0
Kept s a ws = strings_under s a ≡ strings_in_words ws

kept_parts : {ws : List Placed} {ps : List Part} → KnownAll Kept ws ps → strings_in_parts ps ≡ strings_in_words ws
kept_parts k_done = refl
kept_parts (k_word {i = i} {ps = ps} rest) = joined_is (are_quiet ps) (strings_at i) (strings_in_parts ps) (quiet_parts ps) ∙ ap (λ l. strings_at i ++ l) (kept_parts rest)
kept_parts (k_node xs {ys = ys} {s = s} {a = a} {ps = ps} d rest) =
    joined_is (are_quiet ps) (strings_under s a) (strings_in_parts ps) (quiet_parts ps) ∙ (λ j. d j ++ kept_parts rest j) ∙ sym (words_joined xs ys)

items_joined : (xs ys : List t.Item) → strings_in_items (xs ++ ys) ≡ strings_in_items xs ++ strings_in_items ys
items_joined [] ys = refl
items_joined (t.struct at name fields ∷ xs) ys = items_joined xs ys
items_joined (t.global at n name count c ∷ xs) ys = items_joined xs ys
items_joined (t.function at deletes result name params body ∷ xs) ys = ap (λ l. strings_in_body body ++ l) (items_joined xs ys) ∙ sym (append_assoc (strings_in_body body) (strings_in_items xs) (strings_in_items ys))

globals_nothing : (base : Base) (ds : List GlobalDeclarator) → strings_in_items (map (global base) ds) ≡ []
globals_nothing base [] = refl
globals_nothing base (d ∷ ds) = globals_nothing base ds

stmts_joined : (a b : t.Stmts) → strings_in_stmts (joined a b) ≡ strings_in_stmts a ++ strings_in_stmts b
stmts_joined t.done b = refl
stmts_joined (t.next s a) b = ap (λ l. strings_in_stmt s ++ l) (stmts_joined a b) ∙ sym (append_assoc (strings_in_stmt s) (strings_in_stmts a) (strings_in_stmts b))

locals_listed : (ls : List t.Local) → strings_in_stmts (stmts_of ls) ≡ strings_in_locals ls
locals_listed [] = refl
locals_listed (l ∷ ls) = ap (λ m. strings_in_option l.initial ++ m) (locals_listed ls)

locals_declared : (base : Base) (ds : List LocalDeclarator) → strings_in_locals (map (local base) ds) ≡ strings_in_decs ds
locals_declared base [] = refl
locals_declared base (d ∷ ds) = ap (λ m. strings_in_option d.initial ++ m) (locals_declared base ds)

decs_joined : (xs ys : List LocalDeclarator) → strings_in_decs (xs ++ ys) ≡ strings_in_decs xs ++ strings_in_decs ys
decs_joined [] ys = refl
decs_joined (d ∷ xs) ys = ap (λ l. strings_in_option d.initial ++ l) (decs_joined xs ys) ∙ sym (append_assoc (strings_in_option d.initial) (strings_in_decs xs) (strings_in_decs ys))

last_argument : (v : t.Exprs) (e : t.Expr) → strings_in_all (with_last v e) ≡ strings_in_all v ++ strings_in e
last_argument t.none e = append-nil (strings_in e)
last_argument (t.more a v) e = ap (λ l. strings_in a ++ l) (last_argument v e) ∙ sym (append_assoc (strings_in a) (strings_in_all v) (strings_in e))

text_kept : {at : Spot} {a : TreeOf g.Text} {ps : List Part} → Rule at g.Text a ps → strings_under g.Text a ≡ strings_in_parts ps
text_kept g.no_items = refl
text_kept (g.items {before = before} {is = is}) = items_joined before is

item_kept : {at : Spot} {a : TreeOf g.Item} {ps : List Part} → Rule at g.Item a ps → strings_under g.Item a ≡ strings_in_parts ps
item_kept g.a_struct = refl
item_kept (g.globals {base = base} {ds = ds}) = globals_nothing base ds
item_kept (g.a_function {end = end}) = append-nil (strings_in_body end.body)
item_kept (g.a_deleting {end = end}) = append-nil (strings_in_body end.body)

body_kept : {at : Spot} {a : TreeOf g.Body} {ps : List Part} → Rule at g.Body a ps → strings_under g.Body a ≡ strings_in_parts ps
body_kept g.no_stmts = refl
body_kept (g.then_locals {before = before} {ls = ls}) = stmts_joined before (stmts_of ls) ∙ ap (λ l. strings_in_stmts before ++ l) (locals_listed ls)
body_kept (g.then_stmt {before = before} {s = s}) = stmts_joined before (t.next s t.done) ∙ ap (λ l. strings_in_stmts before ++ l) (append-nil (strings_in_stmt s))

locals_kept : {at : Spot} {a : TreeOf g.Locals} {ps : List Part} → Rule at g.Locals a ps → strings_under g.Locals a ≡ strings_in_parts ps
locals_kept (g.locals {base = base} {ds = ds}) = locals_declared base ds

decs_kept : {at : Spot} {a : TreeOf g.LocalDecs} {ps : List Part} → Rule at g.LocalDecs a ps → strings_under g.LocalDecs a ≡ strings_in_parts ps
decs_kept (g.one_local {d = d}) = append-nil (strings_in_option d.initial)
decs_kept (g.another_local {before = before} {d = d}) = decs_joined before (d ∷ []) ∙ ap (λ l. strings_in_decs before ++ l) (append-nil (strings_in_option d.initial))

arguments_kept : {at : Spot} {a : TreeOf g.Arguments} {ps : List Part} → Rule at g.Arguments a ps → strings_under g.Arguments a ≡ strings_in_parts ps
arguments_kept (g.one {e = e}) = append-nil (strings_in e)
arguments_kept (g.another {v = v} {e = e}) = last_argument v e

dec_kept : {at : Spot} {a : TreeOf g.LocalDec} {ps : List Part} → Rule at g.LocalDec a ps → strings_under g.LocalDec a ≡ strings_in_parts ps
dec_kept g.a_local = refl
dec_kept g.a_local_with = refl

end_kept : {at : Spot} {a : TreeOf g.FunctionEnd} {ps : List Part} → Rule at g.FunctionEnd a ps → strings_under g.FunctionEnd a ≡ strings_in_parts ps
end_kept g.ends = refl
end_kept g.ends_deleting = refl

body_end_kept : {at : Spot} {a : TreeOf g.BodyEnd} {ps : List Part} → Rule at g.BodyEnd a ps → strings_under g.BodyEnd a ≡ strings_in_parts ps
body_end_kept g.no_body = refl
body_end_kept g.a_body = refl

block_kept : {at : Spot} {a : TreeOf g.Block} {ps : List Part} → Rule at g.Block a ps → strings_under g.Block a ≡ strings_in_parts ps
block_kept g.a_block = refl

stmt_kept : {at : Spot} {a : TreeOf g.Stmt} {ps : List Part} → Rule at g.Stmt a ps → strings_under g.Stmt a ≡ strings_in_parts ps
stmt_kept g.a_block_stmt = refl
stmt_kept g.an_empty = refl
stmt_kept g.a_simple = refl
stmt_kept g.an_if = refl
stmt_kept (g.an_if_else h) = refl
stmt_kept g.a_while = refl
stmt_kept g.a_do = refl
stmt_kept g.a_for = refl
stmt_kept g.a_break = refl
stmt_kept g.a_continue = refl
stmt_kept g.a_return = refl

start_kept : {at : Spot} {a : TreeOf g.ForStart} {ps : List Part} → Rule at g.ForStart a ps → strings_under g.ForStart a ≡ strings_in_parts ps
start_kept g.starts_local = refl
start_kept g.starts_simple = refl
start_kept g.starts_nothing = refl

expr_end_kept : {at : Spot} {a : TreeOf g.ExprEnd} {ps : List Part} → Rule at g.ExprEnd a ps → strings_under g.ExprEnd a ≡ strings_in_parts ps
expr_end_kept g.no_expr = refl
expr_end_kept g.an_expr = refl

simple_end_kept : {at : Spot} {a : TreeOf g.SimpleEnd} {ps : List Part} → Rule at g.SimpleEnd a ps → strings_under g.SimpleEnd a ≡ strings_in_parts ps
simple_end_kept g.no_simple = refl
simple_end_kept g.some_simple = refl

simple_kept : {at : Spot} {a : TreeOf g.Simple} {ps : List Part} → Rule at g.Simple a ps → strings_under g.Simple a ≡ strings_in_parts ps
simple_kept g.evaluates = refl
simple_kept g.assigns = refl
simple_kept (g.updates h) = refl
simple_kept g.steps_after = refl
simple_kept g.steps_before = refl

level_kept : {at : Spot} {i : ℕ} {a : t.Expr} {ps : List Part} → Rule at (g.Level i) a ps → strings_in a ≡ strings_in_parts ps
level_kept g.conditional = refl
level_kept (g.chain h) = refl
level_kept (g.up h) = refl
level_kept g.operand = refl

arm_kept : {at : Spot} {a : TreeOf g.Arm} {ps : List Part} → Rule at g.Arm a ps → strings_under g.Arm a ≡ strings_in_parts ps
arm_kept g.arm = refl

unary_kept : {at : Spot} {a : TreeOf g.Unary} {ps : List Part} → Rule at g.Unary a ps → strings_under g.Unary a ≡ strings_in_parts ps
unary_kept g.plain = refl
unary_kept g.prefixed = refl
unary_kept g.a_cast = refl

postfix_kept : {at : Spot} {a : TreeOf g.Postfix} {ps : List Part} → Rule at g.Postfix a ps → strings_under g.Postfix a ≡ strings_in_parts ps
postfix_kept g.bare = refl
postfix_kept g.indexed = refl
postfix_kept g.a_member = refl
postfix_kept g.an_arrow = refl

primary_kept : {at : Spot} {a : TreeOf g.Primary} {ps : List Part} → Rule at g.Primary a ps → strings_under g.Primary a ≡ strings_in_parts ps
primary_kept g.a_number = refl
primary_kept g.a_character = refl
primary_kept g.a_string = refl
primary_kept g.the_null = refl
primary_kept g.the_eof = refl
primary_kept g.a_variable = refl
primary_kept g.calls = refl
primary_kept g.calls_with = refl
primary_kept g.allocates = refl
primary_kept g.allocates_array = refl
primary_kept g.parentheses = refl

fields_kept : {at : Spot} {a : TreeOf g.Fields} {ps : List Part} → Rule at g.Fields a ps → strings_under g.Fields a ≡ strings_in_parts ps
fields_kept g.first_field = refl
fields_kept g.more_fields = refl

field_kept : {at : Spot} {a : TreeOf g.Field} {ps : List Part} → Rule at g.Field a ps → strings_under g.Field a ≡ strings_in_parts ps
field_kept g.fields = refl

field_decs_kept : {at : Spot} {a : TreeOf g.FieldDecs} {ps : List Part} → Rule at g.FieldDecs a ps → strings_under g.FieldDecs a ≡ strings_in_parts ps
field_decs_kept g.one_field = refl
field_decs_kept g.another_field = refl

field_dec_kept : {at : Spot} {a : TreeOf g.FieldDec} {ps : List Part} → Rule at g.FieldDec a ps → strings_under g.FieldDec a ≡ strings_in_parts ps
field_dec_kept g.a_field = refl
field_dec_kept g.an_array = refl

global_decs_kept : {at : Spot} {a : TreeOf g.Decs} {ps : List Part} → Rule at g.Decs a ps → strings_under g.Decs a ≡ strings_in_parts ps
global_decs_kept g.one_global = refl
global_decs_kept g.another_global = refl

global_dec_kept : {at : Spot} {a : TreeOf g.Dec} {ps : List Part} → Rule at g.Dec a ps → strings_under g.Dec a ≡ strings_in_parts ps
global_dec_kept g.a_global = refl
global_dec_kept g.an_initial = refl

constant_kept : {at : Spot} {a : TreeOf g.Constant} {ps : List Part} → Rule at g.Constant a ps → strings_under g.Constant a ≡ strings_in_parts ps
constant_kept g.a_constant = refl
constant_kept g.a_negative = refl
constant_kept g.a_code = refl
constant_kept g.a_null = refl
constant_kept g.an_eof = refl

base_kept : {at : Spot} {a : TreeOf g.Base} {ps : List Part} → Rule at g.Base a ps → strings_under g.Base a ≡ strings_in_parts ps
base_kept g.an_int = refl
base_kept g.an_unsigned = refl
base_kept g.an_unsigned_int = refl
base_kept g.a_char = refl
base_kept g.a_region = refl
base_kept g.a_named_struct = refl

stars_kept : {at : Spot} {a : TreeOf g.Stars} {ps : List Part} → Rule at g.Stars a ps → strings_under g.Stars a ≡ strings_in_parts ps
stars_kept g.no_stars = refl
stars_kept g.plain_star = refl
stars_kept (g.noted_star note h) = refl

type_kept : {at : Spot} {a : TreeOf g.TypeName} {ps : List Part} → Rule at g.TypeName a ps → strings_under g.TypeName a ≡ strings_in_parts ps
type_kept g.a_type = refl

result_kept : {at : Spot} {a : TreeOf g.Result} {ps : List Part} → Rule at g.Result a ps → strings_under g.Result a ≡ strings_in_parts ps
result_kept g.a_void = refl
result_kept g.a_result = refl

params_end_kept : {at : Spot} {a : TreeOf g.ParamsEnd} {ps : List Part} → Rule at g.ParamsEnd a ps → strings_under g.ParamsEnd a ≡ strings_in_parts ps
params_end_kept g.no_params = refl
params_end_kept g.void_params = refl
params_end_kept g.some_params = refl

params_kept : {at : Spot} {a : TreeOf g.Params} {ps : List Part} → Rule at g.Params a ps → strings_under g.Params a ≡ strings_in_parts ps
params_kept g.one_param = refl
params_kept g.another_param = refl

param_kept : {at : Spot} {a : TreeOf g.Param} {ps : List Part} → Rule at g.Param a ps → strings_under g.Param a ≡ strings_in_parts ps
param_kept g.a_nameless = refl
param_kept g.a_param = refl

cast_kept : {at : Spot} {a : TreeOf g.CastType} {ps : List Part} → Rule at g.CastType a ps → strings_under g.CastType a ≡ strings_in_parts ps
cast_kept g.to_int = refl
cast_kept g.to_unsigned = refl
cast_kept g.to_unsigned_int = refl
cast_kept g.to_char = refl

name_kept : {at : Spot} {a : TreeOf g.Name} {ps : List Part} → Rule at g.Name a ps → strings_under g.Name a ≡ strings_in_parts ps
name_kept g.a_name = refl

star_kept : {at : Spot} {i : ℕ} {a : Unit {0}} {ps : List Part} → Rule at (g.Star i) a ps → strings_under (g.Star i) a ≡ strings_in_parts ps
star_kept g.a_star = refl

rule_kept : (s : Symbol) {at : Spot} {a : TreeOf s} {ps : List Part} → Rule at s a ps → strings_under s a ≡ strings_in_parts ps
rule_kept g.Text rule = text_kept rule
rule_kept g.Item rule = item_kept rule
rule_kept g.Fields rule = fields_kept rule
rule_kept g.Field rule = field_kept rule
rule_kept g.FieldDecs rule = field_decs_kept rule
rule_kept g.FieldDec rule = field_dec_kept rule
rule_kept g.Decs rule = global_decs_kept rule
rule_kept g.Dec rule = global_dec_kept rule
rule_kept g.Constant rule = constant_kept rule
rule_kept g.Base rule = base_kept rule
rule_kept g.Stars rule = stars_kept rule
rule_kept g.TypeName rule = type_kept rule
rule_kept g.Result rule = result_kept rule
rule_kept g.ParamsEnd rule = params_end_kept rule
rule_kept g.Params rule = params_kept rule
rule_kept g.Param rule = param_kept rule
rule_kept g.CastType rule = cast_kept rule
rule_kept g.Name rule = name_kept rule
rule_kept (g.Star i) rule = star_kept rule
rule_kept g.FunctionEnd rule = end_kept rule
rule_kept g.BodyEnd rule = body_end_kept rule
rule_kept g.Block rule = block_kept rule
rule_kept g.Body rule = body_kept rule
rule_kept g.Locals rule = locals_kept rule
rule_kept g.LocalDecs rule = decs_kept rule
rule_kept g.LocalDec rule = dec_kept rule
rule_kept g.Stmt rule = stmt_kept rule
rule_kept g.ForStart rule = start_kept rule
rule_kept g.ExprEnd rule = expr_end_kept rule
rule_kept g.SimpleEnd rule = simple_end_kept rule
rule_kept g.Simple rule = simple_kept rule
rule_kept (g.Level i) rule = level_kept rule
rule_kept g.Arm rule = arm_kept rule
rule_kept g.Unary rule = unary_kept rule
rule_kept g.Postfix rule = postfix_kept rule
rule_kept g.Primary rule = primary_kept rule
rule_kept g.Arguments rule = arguments_kept rule

kept_step : (s : Symbol) {at : Spot} {a : TreeOf s} {ps : List Part} {ws : List Placed} → BeginAt at ws → Rule at s a ps → KnownAll Kept ws ps → Kept s a ws
kept_step s e rule all = rule_kept s rule ∙ kept_parts all

-- the strings of a text's tree are the string literals of its words, in their order
pub strings_of_text : (is : List t.Item) (ws : List Placed) → Derives ws (node g.Text is) → strings_in_items is ≡ strings_in_words ws
strings_of_text is ws d = derived Kept (λ s at a ps ws e rule all. kept_step s e rule all) d

-- what stands behind a node has the strings of what stands before it, and those of the node
behind_one_local : (context : Context) (here : Here) (l : t.Local) → (behind_local context here l).strings ≡ here.strings ++ strings_in_option l.initial
behind_one_local context here l = refl

behind_all_locals : (context : Context) (here : Here) (ls : List t.Local) → (behind_locals context here ls).strings ≡ here.strings ++ strings_in_locals ls
behind_all_locals context here [] = sym (append-nil here.strings)
behind_all_locals context here (l ∷ ls) = behind_all_locals context (behind_local context here l) ls ∙ append_assoc here.strings (strings_in_option l.initial) (strings_in_locals ls)

behind_the_start : (context : Context) (here : Here) (start : t.ForStart) → (behind_start context here start).strings ≡ here.strings ++ strings_in_start start
behind_the_start context here t.nothing = sym (append-nil here.strings)
behind_the_start context here (t.simply s) = refl
behind_the_start context here (t.locals ls) = behind_all_locals context here ls

module _ (context : Context) where
  mutual
    behind_one : (here : Here) (s : t.Stmt) → (behind_stmt context here s).strings ≡ here.strings ++ strings_in_stmt s
    behind_one here (t.local l) = refl
    behind_one here (t.block at body) = behind_all (inside here) body
    behind_one here (t.empty at) = sym (append-nil here.strings)
    behind_one here (t.simple at s) = refl
    behind_one here (t.if_then at c a) = behind_one (behind here c) a ∙ append_assoc here.strings (strings_in c) (strings_in_stmt a)
    behind_one here (t.if_else at c a b) =
        behind_one (behind_stmt context (behind here c) a) b
        ∙ ap (λ l. l ++ strings_in_stmt b) (behind_one (behind here c) a ∙ append_assoc here.strings (strings_in c) (strings_in_stmt a))
        ∙ append_assoc here.strings (strings_in c ++ strings_in_stmt a) (strings_in_stmt b)
        ∙ ap (λ l. here.strings ++ l) (append_assoc (strings_in c) (strings_in_stmt a) (strings_in_stmt b))
    behind_one here (t.while_do at c a) = behind_one (behind here c) a ∙ append_assoc here.strings (strings_in c) (strings_in_stmt a)
    behind_one here (t.do_while at a c) = ap (λ l. l ++ strings_in c) (behind_one here a) ∙ append_assoc here.strings (strings_in_stmt a) (strings_in c)
    behind_one here (t.for_do at start c next a) =
        let one = inside here in
        let two = behind_start context one start in
        let three = behind_option two c in
        let four = behind_simple_option three next in
        behind_one four a
        ∙ append_assoc three.strings (strings_in_simple_option next) (strings_in_stmt a)
        ∙ append_assoc two.strings (strings_in_option c) (strings_in_simple_option next ++ strings_in_stmt a)
        ∙ ap (λ l. l ++ (strings_in_option c ++ (strings_in_simple_option next ++ strings_in_stmt a))) (behind_the_start context one start)
        ∙ append_assoc here.strings (strings_in_start start) (strings_in_option c ++ (strings_in_simple_option next ++ strings_in_stmt a))
    behind_one here (t.break_loop at) = sym (append-nil here.strings)
    behind_one here (t.continue_loop at) = sym (append-nil here.strings)
    behind_one here (t.return_with at e) = refl

    behind_all : (here : Here) (body : t.Stmts) → (behind_stmts context here body).strings ≡ here.strings ++ strings_in_stmts body
    behind_all here t.done = sym (append-nil here.strings)
    behind_all here (t.next s rest) =
        behind_all (behind_stmt context here s) rest ∙ ap (λ l. l ++ strings_in_stmts rest) (behind_one here s) ∙ append_assoc here.strings (strings_in_stmt s) (strings_in_stmts rest)

  behind_all_items : (o : Outside) (is : List t.Item) → (behind_items context o is).strings ≡ o.strings ++ strings_in_items is
  behind_all_items o [] = sym (append-nil o.strings)
  behind_all_items o (t.struct at name fields ∷ is) = behind_all_items (behind_item context o (t.struct at name fields)) is
  behind_all_items o (t.global at n name count c ∷ is) = behind_all_items (behind_item context o (t.global at n name count c)) is
  behind_all_items o (t.function at deletes result name params None ∷ is) = behind_all_items (behind_item context o (t.function at deletes result name params None)) is
  behind_all_items o (t.function at deletes result name params (Some body) ∷ is) =
      let own = with_function context o deletes result name params in
      behind_all_items (behind_item context o (t.function at deletes result name params (Some body))) is
      ∙ ap (λ l. l ++ strings_in_items is) (behind_all (with_params context (before_params own) params) body ∙ ap (λ l. l ++ strings_in_stmts body) (params_strings context (before_params own) params))
      ∙ append_assoc o.strings (strings_in_stmts body) (strings_in_items is)

pub strings_are : (tree : t.Tree) → strings_of tree ≡ strings_in_items tree.items
strings_are tree = behind_all_items (context_of tree.items) at_the_start tree.items

-- words have at most one string each
at_most_one : (i : Word) → length (strings_at i) ≤ 1
at_most_one (w.string bytes) = omega arith
at_most_one (w.name x) = omega arith
at_most_one (w.number n u) = omega arith
at_most_one (w.character n) = omega arith
at_most_one (w.key k) = omega arith
at_most_one (w.mark k) = omega arith

pub few_strings : (ws : List Placed) → length (strings_in_words ws) ≤ length ws
few_strings [] = omega arith
few_strings (p ∷ ps) = omega (arith, length-append (strings_at p.word) (strings_in_words ps), at_most_one p.word, few_strings ps)

short_here : (i : Word) (rest : List (List ℕ)) → IsShort i → ((k : ℕ) (bytes : List ℕ) → slice_get rest k ≡ Some bytes → length bytes ≤ 1048576) → (k : ℕ) (bytes : List ℕ) → slice_get (strings_at i ++ rest) k ≡ Some bytes → length bytes ≤ 1048576
short_here (w.string own) rest h more zero bytes e = let same : own ≡ bytes = cc in subst (λ b. length b ≤ 1048576) same h
short_here (w.string own) rest h more (suc k) bytes e = more k bytes e
short_here (w.name x) rest h more k bytes e = more k bytes e
short_here (w.number n u) rest h more k bytes e = more k bytes e
short_here (w.character n) rest h more k bytes e = more k bytes e
short_here (w.key x) rest h more k bytes e = more k bytes e
short_here (w.mark x) rest h more k bytes e = more k bytes e

pub short_strings : (ws : List Placed) → AreShort ws → (k : ℕ) (bytes : List ℕ) → slice_get (strings_in_words ws) k ≡ Some bytes → length bytes ≤ 1048576
short_strings [] h k bytes e = absurd cc
short_strings (p ∷ ps) h k bytes e = short_here p.word (strings_in_words ps) h.0 (short_strings ps h.1) k bytes e
