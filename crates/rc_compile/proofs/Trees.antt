-- The trees of words whose numbers are in range have such numbers alone.
use Rattle.std.specs.Prelude.{ℕ, List, [], ◌∷◌, ◌++◌, map}
use Rattle.rc_syntax.specs.declared.tree.Spot.{Spot}
use Rattle.rc_syntax.specs.declared.tree.Base.{Base}
use Rattle.rc_syntax.specs.Tree as t
use Rattle.rc_syntax.specs.Grammar as g
use Rattle.rc_syntax.specs.Grammar.{Symbol, TreeOf, Placed, Part, word, node, Rule, Derives, LocalDeclarator, GlobalDeclarator, joined, stmts_of, with_last, global, local}
use Rattle.rc_deletes.specs.Ranges.{IsInRange, AreInRange, OptionInRange, SimpleInRange, SimpleOptionInRange, LocalsInRange, StartInRange, StmtInRange, StmtsInRange, BodyInRange, ItemsInRange}
use Rattle.rc_judgements.proofs.Derived.{KnownAll, k_done, k_word, k_node, derived}
use Rattle.rc_compile.proofs.Words.{WordInRange, WordsInRange}

abbrev DecsInRange : List LocalDeclarator → Type 0
DecsInRange [] = Unit {0}
DecsInRange (d ∷ ds) = OptionInRange d.initial × DecsInRange ds

-- the numbers of a symbol's tree
abbrev TreeInRange : (s : Symbol) → TreeOf s → Type 0
TreeInRange g.Text is = ItemsInRange is
TreeInRange g.Item is = ItemsInRange is
TreeInRange g.FunctionEnd end = BodyInRange end.body
TreeInRange g.BodyEnd body = BodyInRange body
TreeInRange g.Block body = StmtsInRange body
TreeInRange g.Body body = StmtsInRange body
TreeInRange g.Locals ls = LocalsInRange ls
TreeInRange g.LocalDecs ds = DecsInRange ds
TreeInRange g.LocalDec d = OptionInRange d.initial
TreeInRange g.Stmt s = StmtInRange s
TreeInRange g.ForStart start = StartInRange start
TreeInRange g.ExprEnd e = OptionInRange e
TreeInRange g.SimpleEnd s = SimpleOptionInRange s
TreeInRange g.Simple s = SimpleInRange s
TreeInRange (g.Level i) e = IsInRange e
TreeInRange g.Arm e = IsInRange e
TreeInRange g.Unary e = IsInRange e
TreeInRange g.Postfix e = IsInRange e
TreeInRange g.Primary e = IsInRange e
TreeInRange g.Arguments es = AreInRange es
TreeInRange s a = Unit {0}

abbrev PartsInRange : List Part → Type 0
PartsInRange [] = Unit {0}
PartsInRange (word i ∷ ps) = WordInRange i × PartsInRange ps
PartsInRange (node s a ∷ ps) = TreeInRange s a × PartsInRange ps

abbrev Ranged : (s : Symbol) → TreeOf s → List Placed → Type 0
Ranged s a ws = WordsInRange ws → TreeInRange s a

front : (xs ys : List Placed) → WordsInRange (xs ++ ys) → WordsInRange xs
front [] ys all = tt
front (x ∷ xs) ys all = (all.0, front xs ys all.1)

back : (xs ys : List Placed) → WordsInRange (xs ++ ys) → WordsInRange ys
back [] ys all = all
back (x ∷ xs) ys all = back xs ys all.1

parts_in_range : {ws : List Placed} {ps : List Part} → KnownAll Ranged ws ps → WordsInRange ws → PartsInRange ps
parts_in_range k_done all = tt
parts_in_range (k_word rest) all = (all.0, parts_in_range rest all.1)
parts_in_range (k_node xs {ys = ys} h rest) all = (h (front xs ys all), parts_in_range rest (back xs ys all))

-- ---- lists, joined and made longer

items_joined : (xs ys : List t.Item) → ItemsInRange xs → ItemsInRange ys → ItemsInRange (xs ++ ys)
items_joined [] ys h k = k
items_joined (t.struct at name fields ∷ xs) ys h k = items_joined xs ys h k
items_joined (t.global at n name count c ∷ xs) ys h k = items_joined xs ys h k
items_joined (t.function at deletes result name params body ∷ xs) ys h k = (h.0, items_joined xs ys h.1 k)

globals_in_range : (base : Base) (ds : List GlobalDeclarator) → ItemsInRange (map (global base) ds)
globals_in_range base [] = tt
globals_in_range base (d ∷ ds) = globals_in_range base ds

stmts_joined : (a b : t.Stmts) → StmtsInRange a → StmtsInRange b → StmtsInRange (joined a b)
stmts_joined t.done b h k = k
stmts_joined (t.next s a) b h k = (h.0, stmts_joined a b h.1 k)

locals_listed : (ls : List t.Local) → LocalsInRange ls → StmtsInRange (stmts_of ls)
locals_listed [] h = tt
locals_listed (l ∷ ls) h = (h.0, locals_listed ls h.1)

locals_declared : (base : Base) (ds : List LocalDeclarator) → DecsInRange ds → LocalsInRange (map (local base) ds)
locals_declared base [] h = tt
locals_declared base (d ∷ ds) h = (h.0, locals_declared base ds h.1)

decs_joined : (xs ys : List LocalDeclarator) → DecsInRange xs → DecsInRange ys → DecsInRange (xs ++ ys)
decs_joined [] ys h k = k
decs_joined (d ∷ xs) ys h k = (h.0, decs_joined xs ys h.1 k)

last_argument : (v : t.Exprs) (e : t.Expr) → AreInRange v → IsInRange e → AreInRange (with_last v e)
last_argument t.none e h k = (k, tt)
last_argument (t.more a v) e h k = (h.0, last_argument v e h.1 k)

-- ---- by the productions

text_ranged : {at : Spot} {a : TreeOf g.Text} {ps : List Part} → Rule at g.Text a ps → PartsInRange ps → ItemsInRange a
text_ranged g.no_items p = tt
text_ranged (g.items {before = before} {is = is}) p = items_joined before is p.0 p.1.0

item_ranged : {at : Spot} {a : TreeOf g.Item} {ps : List Part} → Rule at g.Item a ps → PartsInRange ps → ItemsInRange a
item_ranged g.a_struct p = tt
item_ranged (g.globals {base = base} {ds = ds}) p = globals_in_range base ds
item_ranged g.a_function p = (p.1.1.1.1.0, tt)
item_ranged g.a_deleting p = (p.1.1.1.1.1.0, tt)

end_ranged : {at : Spot} {a : TreeOf g.FunctionEnd} {ps : List Part} → Rule at g.FunctionEnd a ps → PartsInRange ps → BodyInRange a.body
end_ranged g.ends p = p.0
end_ranged g.ends_deleting p = p.1.0

body_end_ranged : {at : Spot} {a : TreeOf g.BodyEnd} {ps : List Part} → Rule at g.BodyEnd a ps → PartsInRange ps → BodyInRange a
body_end_ranged g.no_body p = tt
body_end_ranged g.a_body p = p.0

block_ranged : {at : Spot} {a : TreeOf g.Block} {ps : List Part} → Rule at g.Block a ps → PartsInRange ps → StmtsInRange a
block_ranged g.a_block p = p.1.0

body_ranged : {at : Spot} {a : TreeOf g.Body} {ps : List Part} → Rule at g.Body a ps → PartsInRange ps → StmtsInRange a
body_ranged g.no_stmts p = tt
body_ranged (g.then_locals {before = before} {ls = ls}) p = stmts_joined before (stmts_of ls) p.0 (locals_listed ls p.1.0)
body_ranged (g.then_stmt {before = before} {s = s}) p = stmts_joined before (t.next s t.done) p.0 (p.1.0, tt)

locals_ranged : {at : Spot} {a : TreeOf g.Locals} {ps : List Part} → Rule at g.Locals a ps → PartsInRange ps → LocalsInRange a
locals_ranged (g.locals {base = base} {ds = ds}) p = locals_declared base ds p.1.0

decs_ranged : {at : Spot} {a : TreeOf g.LocalDecs} {ps : List Part} → Rule at g.LocalDecs a ps → PartsInRange ps → DecsInRange a
decs_ranged g.one_local p = (p.0, tt)
decs_ranged (g.another_local {before = before} {d = d}) p = decs_joined before (d ∷ []) p.0 (p.1.1.0, tt)

dec_ranged : {at : Spot} {a : TreeOf g.LocalDec} {ps : List Part} → Rule at g.LocalDec a ps → PartsInRange ps → OptionInRange a.initial
dec_ranged g.a_local p = tt
dec_ranged g.a_local_with p = p.1.1.1.0

stmt_ranged : {at : Spot} {a : TreeOf g.Stmt} {ps : List Part} → Rule at g.Stmt a ps → PartsInRange ps → StmtInRange a
stmt_ranged g.a_block_stmt p = p.0
stmt_ranged g.an_empty p = tt
stmt_ranged g.a_simple p = p.0
stmt_ranged g.an_if p = (p.1.1.0, p.1.1.1.1.0)
stmt_ranged (g.an_if_else h) p = (p.1.1.0, p.1.1.1.1.0, p.1.1.1.1.1.1.0)
stmt_ranged g.a_while p = (p.1.1.0, p.1.1.1.1.0)
stmt_ranged g.a_do p = (p.1.0, p.1.1.1.1.0)
stmt_ranged g.a_for p = (p.1.1.0, p.1.1.1.0, p.1.1.1.1.0, p.1.1.1.1.1.0)
stmt_ranged g.a_break p = tt
stmt_ranged g.a_continue p = tt
stmt_ranged g.a_return p = p.1.0

start_ranged : {at : Spot} {a : TreeOf g.ForStart} {ps : List Part} → Rule at g.ForStart a ps → PartsInRange ps → StartInRange a
start_ranged g.starts_local p = p.0
start_ranged g.starts_simple p = p.0
start_ranged g.starts_nothing p = tt

expr_end_ranged : {at : Spot} {a : TreeOf g.ExprEnd} {ps : List Part} → Rule at g.ExprEnd a ps → PartsInRange ps → OptionInRange a
expr_end_ranged g.no_expr p = tt
expr_end_ranged g.an_expr p = p.0

simple_end_ranged : {at : Spot} {a : TreeOf g.SimpleEnd} {ps : List Part} → Rule at g.SimpleEnd a ps → PartsInRange ps → SimpleOptionInRange a
simple_end_ranged g.no_simple p = tt
simple_end_ranged g.some_simple p = p.0

simple_ranged : {at : Spot} {a : TreeOf g.Simple} {ps : List Part} → Rule at g.Simple a ps → PartsInRange ps → SimpleInRange a
simple_ranged g.evaluates p = p.0
simple_ranged g.assigns p = (p.0, p.1.1.0)
simple_ranged (g.updates h) p = (p.0, p.1.1.0)
simple_ranged g.steps_after p = p.0
simple_ranged g.steps_before p = p.1.0

level_ranged : {at : Spot} {i : ℕ} {a : t.Expr} {ps : List Part} → Rule at (g.Level i) a ps → PartsInRange ps → IsInRange a
level_ranged g.conditional p = (p.0, p.1.1.0, p.1.1.1.1.0)
level_ranged (g.chain h) p = (p.0, p.1.1.0)
level_ranged (g.up h) p = p.0
level_ranged g.operand p = p.0

arm_ranged : {at : Spot} {a : TreeOf g.Arm} {ps : List Part} → Rule at g.Arm a ps → PartsInRange ps → IsInRange a
arm_ranged g.arm p = p.0

unary_ranged : {at : Spot} {a : TreeOf g.Unary} {ps : List Part} → Rule at g.Unary a ps → PartsInRange ps → IsInRange a
unary_ranged g.plain p = p.0
unary_ranged g.prefixed p = p.1.0
unary_ranged g.a_cast p = p.1.1.1.0

postfix_ranged : {at : Spot} {a : TreeOf g.Postfix} {ps : List Part} → Rule at g.Postfix a ps → PartsInRange ps → IsInRange a
postfix_ranged g.bare p = p.0
postfix_ranged g.indexed p = (p.0, p.1.1.0)
postfix_ranged g.a_member p = p.0
postfix_ranged g.an_arrow p = p.0

primary_ranged : {at : Spot} {a : TreeOf g.Primary} {ps : List Part} → Rule at g.Primary a ps → PartsInRange ps → IsInRange a
primary_ranged g.a_number p = p.0
primary_ranged g.a_character p = p.0
primary_ranged g.a_string p = tt
primary_ranged g.the_null p = tt
primary_ranged g.the_eof p = tt
primary_ranged g.a_variable p = tt
primary_ranged g.calls p = tt
primary_ranged g.calls_with p = p.1.1.0
primary_ranged g.allocates p = p.1.1.0
primary_ranged g.allocates_array p = (p.1.1.0, p.1.1.1.1.0)
primary_ranged g.parentheses p = p.1.0

arguments_ranged : {at : Spot} {a : TreeOf g.Arguments} {ps : List Part} → Rule at g.Arguments a ps → PartsInRange ps → AreInRange a
arguments_ranged g.one p = (p.0, tt)
arguments_ranged (g.another {v = v} {e = e}) p = last_argument v e p.0 p.1.1.0

rule_ranged : (s : Symbol) {at : Spot} {a : TreeOf s} {ps : List Part} → Rule at s a ps → PartsInRange ps → TreeInRange s a
rule_ranged g.Text rule p = text_ranged rule p
rule_ranged g.Item rule p = item_ranged rule p
rule_ranged g.FunctionEnd rule p = end_ranged rule p
rule_ranged g.BodyEnd rule p = body_end_ranged rule p
rule_ranged g.Block rule p = block_ranged rule p
rule_ranged g.Body rule p = body_ranged rule p
rule_ranged g.Locals rule p = locals_ranged rule p
rule_ranged g.LocalDecs rule p = decs_ranged rule p
rule_ranged g.LocalDec rule p = dec_ranged rule p
rule_ranged g.Stmt rule p = stmt_ranged rule p
rule_ranged g.ForStart rule p = start_ranged rule p
rule_ranged g.ExprEnd rule p = expr_end_ranged rule p
rule_ranged g.SimpleEnd rule p = simple_end_ranged rule p
rule_ranged g.Simple rule p = simple_ranged rule p
rule_ranged (g.Level i) rule p = level_ranged rule p
rule_ranged g.Arm rule p = arm_ranged rule p
rule_ranged g.Unary rule p = unary_ranged rule p
rule_ranged g.Postfix rule p = postfix_ranged rule p
rule_ranged g.Primary rule p = primary_ranged rule p
rule_ranged g.Arguments rule p = arguments_ranged rule p
rule_ranged s rule p = tt

pub items_in_range : (is : List t.Item) (ws : List Placed) → Derives ws (node g.Text is) → WordsInRange ws → ItemsInRange is
items_in_range is ws d = derived Ranged (λ s at a ps ws e rule all. λ words. rule_ranged s rule (parts_in_range all words)) d
