-- Words that derive a tree derive it wherever they stand, but for its spots.
use Rattle.std.proofs.Common.{ℕ, ◌≡◌, ◌+◌, List, [], ◌∷◌, ◌++◌, length, map, Some, None, true, false, refl, ap, sym, ◌∙◌, subst}
use Rattle.std.proofs.lemmas.List.{map-append}
use Rattle.rc_syntax.specs.declared.tree.Spot.{Spot}
use Rattle.rc_syntax.specs.declared.tree.Note as notes
use Rattle.rc_syntax.specs.declared.tree.Note.TheVariants as n
use Rattle.rc_syntax.specs.declared.tree.Base as bases
use Rattle.rc_syntax.specs.declared.tree.Base.TheVariants as b
use Rattle.rc_syntax.specs.Tokens as w
use Rattle.rc_syntax.specs.Tokens.{Word}
use Rattle.rc_syntax.specs.Tree as t
use Rattle.rc_syntax.specs.Shape.{mapped}
use Rattle.rc_syntax.specs.Grammar as g
use Rattle.rc_syntax.specs.Grammar.{Symbol, TreeOf, Placed, Part, word, node, Rule, BeginAt, Derives, itself, by, DeriveAll, done, then, placed, FieldDeclarator, GlobalDeclarator, LocalDeclarator, FunctionEnding, joined, stmts_of, with_last, ends_open, field, global, local}
use Rattle.rc_syntax.specs.printing.Printing.{on_first_line}
use Rattle.rc_syntax.specs.printing.Unplaced.{nowhere, unplaced_name, unplaced_base, unplaced_type, unplaced_expr, unplaced_exprs, unplaced_simple, unplaced_local, unplaced_start, unplaced_stmt, unplaced_stmts, unplaced_constant, unplaced_field, unplaced_param, unplaced_item, words_at}

abbrev unplaced_declarator : FieldDeclarator → FieldDeclarator
unplaced_declarator d = record { spot = nowhere; stars = d.stars; name = unplaced_name d.name; length = d.length }

abbrev unplaced_global : GlobalDeclarator → GlobalDeclarator
unplaced_global d = record { declarator = unplaced_declarator d.declarator; constant = mapped unplaced_constant d.constant }

abbrev unplaced_local_declarator : LocalDeclarator → LocalDeclarator
unplaced_local_declarator d = record { spot = nowhere; stars = d.stars; name = unplaced_name d.name; initial = mapped unplaced_expr d.initial }

abbrev unplaced_ending : FunctionEnding → FunctionEnding
unplaced_ending e = record { deletes = e.deletes; body = mapped unplaced_stmts e.body }

-- the tree of a symbol without its places
abbrev pub unplaced : (s : Symbol) → TreeOf s → TreeOf s
unplaced g.Text a = map unplaced_item a
unplaced g.Item a = map unplaced_item a
unplaced g.Fields a = map unplaced_field a
unplaced g.Field a = map unplaced_field a
unplaced g.FieldDecs a = map unplaced_declarator a
unplaced g.FieldDec a = unplaced_declarator a
unplaced g.Decs a = map unplaced_global a
unplaced g.Dec a = unplaced_global a
unplaced g.Constant a = unplaced_constant a
unplaced g.Base a = unplaced_base a
unplaced g.Stars a = a
unplaced (g.Star i) a = a
unplaced g.TypeName a = unplaced_type a
unplaced g.Result a = mapped unplaced_type a
unplaced g.ParamsEnd a = map unplaced_param a
unplaced g.Params a = map unplaced_param a
unplaced g.Param a = unplaced_param a
unplaced g.FunctionEnd a = unplaced_ending a
unplaced g.BodyEnd a = mapped unplaced_stmts a
unplaced g.Block a = unplaced_stmts a
unplaced g.Body a = unplaced_stmts a
unplaced g.Locals a = map unplaced_local a
unplaced g.LocalDecs a = map unplaced_local_declarator a
unplaced g.LocalDec a = unplaced_local_declarator a
unplaced g.Stmt a = unplaced_stmt a
unplaced g.ForStart a = unplaced_start a
unplaced g.ExprEnd a = mapped unplaced_expr a
unplaced g.SimpleEnd a = mapped unplaced_simple a
unplaced g.Simple a = unplaced_simple a
unplaced (g.Level i) a = unplaced_expr a
unplaced g.Arm a = unplaced_expr a
unplaced g.Unary a = unplaced_expr a
unplaced g.CastType a = a
unplaced g.Postfix a = unplaced_expr a
unplaced g.Primary a = unplaced_expr a
unplaced g.Arguments a = unplaced_exprs a
unplaced g.Name a = unplaced_name a

-- Lists that are joined, without their places.
pub joined_unplaced : (a c : t.Stmts) → unplaced_stmts (joined a c) ≡ joined (unplaced_stmts a) (unplaced_stmts c)
joined_unplaced t.done c = refl
joined_unplaced (t.next s a) c = ap (t.next (unplaced_stmt s)) (joined_unplaced a c)

stmts_unplaced : (ls : List t.Local) → unplaced_stmts (stmts_of ls) ≡ stmts_of (map unplaced_local ls)
stmts_unplaced [] = refl
stmts_unplaced (l ∷ ls) = ap (t.next (t.local (unplaced_local l))) (stmts_unplaced ls)

last_unplaced : (v : t.Exprs) (e : t.Expr) → unplaced_exprs (with_last v e) ≡ with_last (unplaced_exprs v) (unplaced_expr e)
last_unplaced t.none e = refl
last_unplaced (t.more a v) e = ap (t.more (unplaced_expr a)) (last_unplaced v e)

pub open_unplaced : (a : t.Stmt) → ends_open (unplaced_stmt a) ≡ ends_open a
open_unplaced (t.local l) = refl
open_unplaced (t.block at body) = refl
open_unplaced (t.empty at) = refl
open_unplaced (t.simple at a) = refl
open_unplaced (t.if_then at c a) = refl
open_unplaced (t.if_else at c a e) = open_unplaced e
open_unplaced (t.while_do at c a) = open_unplaced a
open_unplaced (t.do_while at a c) = refl
open_unplaced (t.for_do at start c last a) = open_unplaced a
open_unplaced (t.break_loop at) = refl
open_unplaced (t.continue_loop at) = refl
open_unplaced (t.return_with at a) = refl

fields_unplaced : (base : bases.Base) (ds : List FieldDeclarator) → map unplaced_field (map (field base) ds) ≡ map (field (unplaced_base base)) (map unplaced_declarator ds)
fields_unplaced base [] = refl
fields_unplaced base (d ∷ ds) = ap (λ z. unplaced_field (field base d) ∷ z) (fields_unplaced base ds)

globals_unplaced : (base : bases.Base) (ds : List GlobalDeclarator) → map unplaced_item (map (global base) ds) ≡ map (global (unplaced_base base)) (map unplaced_global ds)
globals_unplaced base [] = refl
globals_unplaced base (d ∷ ds) = ap (λ z. unplaced_item (global base d) ∷ z) (globals_unplaced base ds)

locals_unplaced : (base : bases.Base) (ds : List LocalDeclarator) → map unplaced_local (map (local base) ds) ≡ map (local (unplaced_base base)) (map unplaced_local_declarator ds)
locals_unplaced base [] = refl
locals_unplaced base (d ∷ ds) = ap (λ z. unplaced_local (local base d) ∷ z) (locals_unplaced base ds)

-- The same parts, but for places.
pub data Alike : List Part → List Part → Type 0 where
  none : Alike [] []
  a_word : {i : Word} {ps qs : List Part} → Alike ps qs → Alike (word i ∷ ps) (word i ∷ qs)
  a_node : {s : Symbol} {a c : TreeOf s} {ps qs : List Part} → unplaced s a ≡ unplaced s c → Alike ps qs → Alike (node s a ∷ ps) (node s c ∷ qs)

-- At the spot, the parts make a tree that is the same but for places.
data Made (i : Spot) (s : Symbol) (a : TreeOf s) (qs : List Part) : Type 0 where
  of : (c : TreeOf s) → Rule i s c qs → unplaced s a ≡ unplaced s c → Made i s a qs

append_same : {A : Type 0} (f : A → A) (xs us ys vs : List A) → map f xs ≡ map f us → map f ys ≡ map f vs → map f (xs ++ ys) ≡ map f (us ++ vs)
append_same f xs us ys vs e h = map-append f xs ys ∙ (λ i. e i ++ h i) ∙ sym (map-append f us vs)

joined_same : (a c x y : t.Stmts) → unplaced_stmts a ≡ unplaced_stmts c → unplaced_stmts x ≡ unplaced_stmts y → unplaced_stmts (joined a x) ≡ unplaced_stmts (joined c y)
joined_same a c x y e h = joined_unplaced a x ∙ (λ i. joined (e i) (h i)) ∙ sym (joined_unplaced c y)

made : {at i : Spot} {s : Symbol} {a : TreeOf s} {ps qs : List Part} → Rule at s a ps → Alike ps qs → Made i s a qs
made g.no_items none = of _ g.no_items refl
made g.items (a_node {a = before} {c = before2} e (a_node {a = is} {c = is2} f none)) = of _ g.items (append_same unplaced_item before before2 is is2 e f)
made g.a_struct (a_word (a_node e (a_word (a_node f (a_word (a_word none)))))) = of _ g.a_struct (λ j. t.struct nowhere (e j) (f j) ∷ [])
made g.globals (a_node {a = base} {c = base2} e (a_node {a = ds} {c = ds2} f (a_word none))) = of _ g.globals (globals_unplaced base ds ∙ (λ j. map (global (e j)) (f j)) ∙ sym (globals_unplaced base2 ds2))
made g.a_function (a_node e (a_node f (a_word (a_node h (a_node k none))))) = of _ g.a_function (λ j. t.function nowhere (k j).deletes (e j) (f j) (h j) (k j).body ∷ [])
made g.a_deleting (a_word (a_node e (a_node f (a_word (a_node h (a_node k none)))))) = of _ g.a_deleting (λ j. t.function nowhere true (e j) (f j) (h j) (k j).body ∷ [])
made g.first_field (a_node e none) = of _ g.first_field e
made g.more_fields (a_node {a = before} {c = before2} e (a_node {a = fs} {c = fs2} f none)) = of _ g.more_fields (append_same unplaced_field before before2 fs fs2 e f)
made g.fields (a_node {a = base} {c = base2} e (a_node {a = ds} {c = ds2} f (a_word none))) = of _ g.fields (fields_unplaced base ds ∙ (λ j. map (field (e j)) (f j)) ∙ sym (fields_unplaced base2 ds2))
made g.one_field (a_node e none) = of _ g.one_field (λ j. e j ∷ [])
made g.another_field (a_node {a = before} {c = before2} e (a_word (a_node {a = d} {c = d2} f none))) = of _ g.another_field (append_same unplaced_declarator before before2 (d ∷ []) (d2 ∷ []) e (λ j. f j ∷ []))
made g.a_field (a_node e (a_node f none)) = of _ g.a_field (λ j. record { spot = nowhere; stars = e j; name = f j; length = None })
made (g.an_array {i = i}) (a_node e (a_node f (a_word (a_word (a_word none))))) = of _ g.an_array (λ j. record { spot = nowhere; stars = e j; name = f j; length = Some i })
made g.one_global (a_node e none) = of _ g.one_global (λ j. e j ∷ [])
made g.another_global (a_node {a = before} {c = before2} e (a_word (a_node {a = d} {c = d2} f none))) = of _ g.another_global (append_same unplaced_global before before2 (d ∷ []) (d2 ∷ []) e (λ j. f j ∷ []))
made g.a_global (a_node e none) = of _ g.a_global (λ j. record { declarator = e j; constant = None })
made g.an_initial (a_node e (a_word (a_node f none))) = of _ g.an_initial (λ j. record { declarator = e j; constant = Some (f j) })
made g.a_constant (a_word none) = of _ g.a_constant refl
made g.a_negative (a_word (a_word none)) = of _ g.a_negative refl
made g.a_code (a_word none) = of _ g.a_code refl
made g.a_null (a_word none) = of _ g.a_null refl
made g.an_eof (a_word none) = of _ g.an_eof refl
made g.an_int (a_word none) = of _ g.an_int refl
made g.an_unsigned (a_word none) = of _ g.an_unsigned refl
made g.an_unsigned_int (a_word (a_word none)) = of _ g.an_unsigned_int refl
made g.a_char (a_word none) = of _ g.a_char refl
made g.a_region (a_word none) = of _ g.a_region refl
made g.a_named_struct (a_word (a_node e none)) = of _ g.a_named_struct (λ j. b.Struct nowhere (e j))
made g.no_stars none = of _ g.no_stars refl
made {i = i} (g.plain_star {before = ns}) (a_node e (a_node h none)) =
    let P : List notes.Note → Type 0 = λ z. Made i g.Stars (ns ++ n.Plain ∷ []) (node g.Stars z ∷ node (g.Star (length ns + 1)) tt ∷ []) in
    subst P e (of (ns ++ n.Plain ∷ []) g.plain_star refl)
made {i = i} (g.noted_star {before = ns} note {i = x} p) (a_node e (a_node h (a_word none))) =
    let P : List notes.Note → Type 0 = λ z. Made i g.Stars (ns ++ note ∷ []) (node g.Stars z ∷ node (g.Star (length ns + 1)) tt ∷ word (w.key x) ∷ []) in
    subst P e (of (ns ++ note ∷ []) (g.noted_star note p) refl)
made g.a_star (a_word none) = of tt g.a_star refl
made g.a_type (a_node e (a_node f none)) = of _ g.a_type (λ j. g.typed (e j) (f j))
made g.a_void (a_word none) = of _ g.a_void refl
made g.a_result (a_node e none) = of _ g.a_result (λ j. Some (e j))
made g.no_params (a_word none) = of _ g.no_params refl
made g.void_params (a_word (a_word none)) = of _ g.void_params refl
made g.some_params (a_node e (a_word none)) = of _ g.some_params e
made g.one_param (a_node e none) = of _ g.one_param (λ j. e j ∷ [])
made g.another_param (a_node {a = before} {c = before2} e (a_word (a_node {a = p} {c = p2} f none))) = of _ g.another_param (append_same unplaced_param before before2 (p ∷ []) (p2 ∷ []) e (λ j. f j ∷ []))
made g.a_nameless (a_node e none) = of _ g.a_nameless (λ j. record { spot = nowhere; type_name = e j; name = None })
made g.a_param (a_node e (a_node f none)) = of _ g.a_param (λ j. record { spot = nowhere; type_name = e j; name = Some (f j) })
made g.ends (a_node e none) = of _ g.ends (λ j. record { deletes = false; body = e j })
made g.ends_deleting (a_word (a_node e none)) = of _ g.ends_deleting (λ j. record { deletes = true; body = e j })
made g.no_body (a_word none) = of _ g.no_body refl
made g.a_body (a_node e none) = of _ g.a_body (λ j. Some (e j))
made g.a_block (a_word (a_node e (a_word none))) = of _ g.a_block e
made g.no_stmts none = of _ g.no_stmts refl
made g.then_locals (a_node {a = before} {c = before2} e (a_node {a = ls} {c = ls2} f none)) = of _ g.then_locals (joined_same before before2 (stmts_of ls) (stmts_of ls2) e (stmts_unplaced ls ∙ ap stmts_of f ∙ sym (stmts_unplaced ls2)))
made g.then_stmt (a_node {a = before} {c = before2} e (a_node {a = s} {c = s2} f none)) = of _ g.then_stmt (joined_same before before2 (t.next s t.done) (t.next s2 t.done) e (λ j. t.next (f j) t.done))
made g.locals (a_node {a = base} {c = base2} e (a_node {a = ds} {c = ds2} f (a_word none))) = of _ g.locals (locals_unplaced base ds ∙ (λ j. map (local (e j)) (f j)) ∙ sym (locals_unplaced base2 ds2))
made g.one_local (a_node e none) = of _ g.one_local (λ j. e j ∷ [])
made g.another_local (a_node {a = before} {c = before2} e (a_word (a_node {a = d} {c = d2} f none))) = of _ g.another_local (append_same unplaced_local_declarator before before2 (d ∷ []) (d2 ∷ []) e (λ j. f j ∷ []))
made g.a_local (a_node e (a_node f none)) = of _ g.a_local (λ j. record { spot = nowhere; stars = e j; name = f j; initial = None })
made g.a_local_with (a_node e (a_node f (a_word (a_node h none)))) = of _ g.a_local_with (λ j. record { spot = nowhere; stars = e j; name = f j; initial = Some (h j) })
made g.a_block_stmt (a_node e none) = of _ g.a_block_stmt (λ j. t.block nowhere (e j))
made g.an_empty (a_word none) = of _ g.an_empty refl
made g.a_simple (a_node e (a_word none)) = of _ g.a_simple (λ j. t.simple nowhere (e j))
made g.an_if (a_word (a_word (a_node e (a_word (a_node f none))))) = of _ g.an_if (λ j. t.if_then nowhere (e j) (f j))
made (g.an_if_else p) (a_word (a_word (a_node e (a_word (a_node {a = a} {c = a2} f (a_word (a_node h none))))))) = of _ (g.an_if_else (sym (open_unplaced a2) ∙ sym (ap ends_open f) ∙ open_unplaced a ∙ p)) (λ j. t.if_else nowhere (e j) (f j) (h j))
made g.a_while (a_word (a_word (a_node e (a_word (a_node f none))))) = of _ g.a_while (λ j. t.while_do nowhere (e j) (f j))
made g.a_do (a_word (a_node e (a_word (a_word (a_node f (a_word (a_word none))))))) = of _ g.a_do (λ j. t.do_while nowhere (e j) (f j))
made g.a_for (a_word (a_word (a_node e (a_node f (a_node h (a_node k none)))))) = of _ g.a_for (λ j. t.for_do nowhere (e j) (f j) (h j) (k j))
made g.a_break (a_word (a_word none)) = of _ g.a_break refl
made g.a_continue (a_word (a_word none)) = of _ g.a_continue refl
made g.a_return (a_word (a_node e none)) = of _ g.a_return (λ j. t.return_with nowhere (e j))
made g.starts_local (a_node e none) = of _ g.starts_local (λ j. t.locals (e j))
made g.starts_simple (a_node e (a_word none)) = of _ g.starts_simple (λ j. t.simply (e j))
made g.starts_nothing (a_word none) = of _ g.starts_nothing refl
made g.no_expr (a_word none) = of _ g.no_expr refl
made g.an_expr (a_node e (a_word none)) = of _ g.an_expr (λ j. Some (e j))
made g.no_simple (a_word none) = of _ g.no_simple refl
made g.some_simple (a_node e (a_word none)) = of _ g.some_simple (λ j. Some (e j))
made g.evaluates (a_node e none) = of _ g.evaluates (λ j. t.expression (e j))
made g.assigns (a_node e (a_word (a_node f none))) = of _ g.assigns (λ j. t.assign nowhere (e j) (f j))
made (g.updates {op = op} p) (a_node e (a_word (a_node f none))) = of _ (g.updates p) (λ j. t.update nowhere op (e j) (f j))
made (g.steps_after {op = op}) (a_node e (a_word none)) = of _ g.steps_after (λ j. t.step_after nowhere op (e j))
made (g.steps_before {op = op}) (a_word (a_node e none)) = of _ g.steps_before (λ j. t.step_before nowhere op (e j))
made g.conditional (a_node e (a_word (a_node f (a_word (a_node h none))))) = of _ g.conditional (λ j. t.conditional nowhere (e j) (f j) (h j))
made g.arm (a_node e none) = of _ g.arm e
made (g.chain {op = op} p) (a_node e (a_word (a_node f none))) = of _ (g.chain p) (λ j. t.binary nowhere op (e j) (f j))
made (g.up p) (a_node e none) = of _ (g.up p) e
made g.operand (a_node e none) = of _ g.operand e
made g.plain (a_node e none) = of _ g.plain e
made (g.prefixed {op = op}) (a_word (a_node e none)) = of _ g.prefixed (λ j. t.unary nowhere op (e j))
made g.a_cast (a_word (a_node e (a_word (a_node f none)))) = of _ g.a_cast (λ j. t.cast nowhere (e j) (f j))
made g.to_int (a_word none) = of _ g.to_int refl
made g.to_unsigned (a_word none) = of _ g.to_unsigned refl
made g.to_unsigned_int (a_word (a_word none)) = of _ g.to_unsigned_int refl
made g.to_char (a_word none) = of _ g.to_char refl
made g.bare (a_node e none) = of _ g.bare e
made g.indexed (a_node e (a_word (a_node f (a_word none)))) = of _ g.indexed (λ j. t.index nowhere (e j) (f j))
made g.a_member (a_node e (a_word (a_node f none))) = of _ g.a_member (λ j. t.member nowhere (e j) (f j))
made g.an_arrow (a_node e (a_word (a_node f none))) = of _ g.an_arrow (λ j. t.arrow nowhere (e j) (f j))
made g.a_number (a_word none) = of _ g.a_number refl
made g.a_character (a_word none) = of _ g.a_character refl
made g.a_string (a_word none) = of _ g.a_string refl
made g.the_null (a_word none) = of _ g.the_null refl
made g.the_eof (a_word none) = of _ g.the_eof refl
made g.a_variable (a_node e none) = of _ g.a_variable (λ j. t.variable (e j))
made g.calls (a_node e (a_word (a_word none))) = of _ g.calls (λ j. t.call (e j) t.none)
made g.calls_with (a_node e (a_word (a_node f (a_word none)))) = of _ g.calls_with (λ j. t.call (e j) (f j))
made g.allocates (a_word (a_word (a_node e (a_word (a_node f (a_word none)))))) = of _ g.allocates (λ j. t.ralloc nowhere (e j) (f j))
made g.allocates_array (a_word (a_word (a_node e (a_word (a_node f (a_word (a_node h (a_word none)))))))) = of _ g.allocates_array (λ j. t.rarrayalloc nowhere (e j) (f j) (h j))
made g.parentheses (a_word (a_node e (a_word none))) = of _ g.parentheses e
made g.one (a_node e none) = of _ g.one (λ j. t.more (e j) t.none)
made g.another (a_node {a = v} {c = v2} e (a_word (a_node {a = e1} {c = e2} f none))) = of _ g.another (last_unplaced v e1 ∙ (λ j. with_last (e j) (f j)) ∙ sym (last_unplaced v2 e2))
made g.a_name (a_word none) = of _ g.a_name refl

spot_of : List Placed → Spot
spot_of [] = nowhere
spot_of (p ∷ ps) = p.spot

begin_there : (ws : List Placed) → BeginAt (spot_of ws) ws
unfolding spot_of
begin_there [] = tt
begin_there (p ∷ ps) = refl

-- where these are first and last words, so are others with the same words
record Split (vs xs ys : List Placed) : Type 0 where
  front : List Placed
  back : List Placed
  is : vs ≡ front ++ back
  fronts : words_at front ≡ words_at xs
  backs : words_at back ≡ words_at ys

split : (vs xs ys : List Placed) → words_at vs ≡ words_at (xs ++ ys) → Split vs xs ys
split vs [] ys e = record { front = []; back = vs; is = refl; fronts = refl; backs = e }
split [] (x ∷ xs) ys e = absurd (cc)
split (v ∷ vs) (x ∷ xs) ys e =
    let head : v.word ≡ x.word = cc in
    let tail : words_at vs ≡ words_at (xs ++ ys) = cc in
    let s = split vs xs ys tail in
    record { front = v ∷ s.front; back = s.back; is = (λ i. v ∷ s.is i); fronts = (λ i. head i ∷ s.fronts i); backs = s.backs }

-- The same words anywhere derive a tree that is the same but for places.
pub record Again (vs : List Placed) (s : Symbol) (a : TreeOf s) : Type 0 where
  pub tree : TreeOf s
  pub derives : Derives vs (node s tree)
  pub same : unplaced s a ≡ unplaced s tree

record AllAgain (vs : List Placed) (ps : List Part) : Type 0 where
  parts : List Part
  derive : DeriveAll vs parts
  alike : Alike ps parts

made_again : (vs : List Placed) (s : Symbol) (a : TreeOf s) (qs : List Part) → Made (spot_of vs) s a qs → DeriveAll vs qs → Again vs s a
made_again vs s a qs (of c rule same) ds = record { tree = c; derives = by (begin_there vs) rule ds; same = same }

one_word : (vs : List Placed) (i : Word) → words_at vs ≡ i ∷ [] → Derives vs (word i)
one_word [] i e = absurd (cc)
one_word (v ∷ []) i e =
    let h : v.word ≡ i = cc in
    let P : Word → Type 0 = λ z. Derives (v ∷ []) (word z) in
    subst P h itself
one_word (v ∷ u ∷ vs) i e = absurd (cc)

mutual
  pub again : {ws : List Placed} {s : Symbol} {a : TreeOf s} → Derives ws (node s a) → (vs : List Placed) → words_at vs ≡ words_at ws → Again vs s a
  again {s = s} {a = a} (by h rule ds) vs e = let r = all_again ds vs e in made_again vs s a r.parts (made rule r.alike) r.derive

  all_again : {ws : List Placed} {ps : List Part} → DeriveAll ws ps → (vs : List Placed) → words_at vs ≡ words_at ws → AllAgain vs ps
  all_again done [] e = record { parts = []; derive = done; alike = none }
  all_again done (v ∷ vs) e = absurd (cc)
  all_again (then {xs = xs} {ys = ys} {p = word i} itself ds) vs e =
      let c = split vs xs ys e in
      let r = all_again ds c.back c.backs in
      let P : List Placed → Type 0 = λ z. DeriveAll z (word i ∷ r.parts) in
      record { parts = word i ∷ r.parts; derive = subst P (sym c.is) (then (one_word c.front i c.fronts) r.derive); alike = a_word r.alike }
  all_again (then {xs = xs} {ys = ys} {p = node s a} d ds) vs e =
      let c = split vs xs ys e in
      let x = again d c.front c.fronts in
      let r = all_again ds c.back c.backs in
      let P : List Placed → Type 0 = λ z. DeriveAll z (node s x.tree ∷ r.parts) in
      record { parts = node s x.tree ∷ r.parts; derive = subst P (sym c.is) (then x.derives r.derive); alike = a_node x.same r.alike }

pub placed_words : (i : ℕ) (words : List Word) → words_at (placed i (on_first_line words)) ≡ words
placed_words i [] = refl
placed_words i (x ∷ words) = ap (λ z. x ∷ z) (placed_words (i + 1) words)
