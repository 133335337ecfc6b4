-- The words of a tree, as it is printed, derive it, where some words do.
use Rattle.std.proofs.Common.{ℕ, ◌≡◌, ◌≤◌, List, [], ◌∷◌, ◌++◌, append_assoc, append-nil, length, length-append, map, Option, Some, None, Bool, true, false, refl, ap, sym, ◌∙◌, subst, arith}
use Rattle.std.proofs.lemmas.List.{length-map}
use Rattle.std.specs.Prelude.{flat_map}
use Rattle.rc_syntax.specs.declared.word.Mark.TheVariants as m
use Rattle.rc_syntax.specs.declared.word.Mark as marks
use Rattle.rc_syntax.specs.declared.tree.Spot.{Spot}
use Rattle.rc_syntax.specs.declared.tree.Name as names
use Rattle.rc_syntax.specs.declared.tree.Note as notes
use Rattle.rc_syntax.specs.declared.tree.Base as bases
use Rattle.rc_syntax.specs.declared.tree.BinaryOp.{BinaryOp}
use Rattle.rc_syntax.specs.declared.tree.Constant as constants
use Rattle.rc_syntax.specs.declared.tree.Constant.TheVariants as k
use Rattle.rc_syntax.specs.Tokens as w
use Rattle.rc_syntax.specs.Tokens.{Word, key, mark}
use Rattle.rc_syntax.specs.Tree as t
use Rattle.rc_syntax.specs.Shape.{mapped}
use Rattle.rc_syntax.specs.Grammar as g
use Rattle.rc_syntax.specs.Grammar.{Symbol, TreeOf, Placed, Part, word, node, Rule, Derives, itself, by, DeriveAll, done, then, FieldDeclarator, GlobalDeclarator, LocalDeclarator, FunctionEnding, joined, stmts_of, field, global, local, update_of}
use Rattle.rc_syntax.specs.printing.Unplaced.{nowhere, unplaced_name, unplaced_base, unplaced_type, unplaced_expr, unplaced_simple, unplaced_local, unplaced_start, unplaced_stmt, unplaced_stmts, unplaced_constant, unplaced_field, unplaced_param, unplaced_item}
use Rattle.rc_syntax.specs.printing.TreeWords.{star_words, expr_words, left_words, update_words, simple_words, declarator_words, constant_words, global_words, initial_words, local_words, locals_words, expr_end_words, simple_end_words, start_words, stmt_words, stmts_words, field_words, param_words, params_words, result_words, body_words, ending_words, item_words, items_words}
use Rattle.rc_syntax.proofs.Replaced.{joined_unplaced, open_unplaced}
use Rattle.rc_syntax.proofs.PrintedExprs.{Prints, nothing, one, first, last, print, grow, print_name, print_base, print_stars, print_type, whole, at_unary, stands}

print_expr : (e : t.Expr) → Prints (g.Level 0) (expr_words e) (unplaced_expr e)
print_expr e = whole e (stands e)

print_left : (e : t.Expr) → Prints g.Unary (left_words e) (unplaced_expr e)
print_left e = at_unary e (stands e)

-- Declarators.
print_declarator : (ns : List notes.Note) (x : names.Name) (length : Option ℕ) → Prints g.FieldDec (declarator_words ns x length) (record { spot = nowhere; stars = ns; name = unplaced_name x; length = length })
print_declarator ns x None = print g.a_field (first (print_stars ns) (last (print_name x)))
print_declarator ns x (Some i) = print g.an_array (first (print_stars ns) (first (print_name x) (one (one (one nothing)))))

print_field : (f : t.Field) → Prints g.Field (field_words f) (unplaced_field f ∷ [])
print_field f = print g.fields (first (print_base f.type_name.base) (first (print g.one_field (last (print_declarator f.type_name.stars f.name f.length))) (one nothing)))

print_fields : (fs : List t.Field) → 1 ≤ length fs → Prints g.Fields (flat_map field_words fs) (map unplaced_field fs)
print_fields [] h = absurd (omega arith)
print_fields (f ∷ fs) h =
    grow (Prints g.Fields) field_words unplaced_field (λ ws bs x p. print g.more_fields (first p (last (print_field x)))) fs (field_words f) (unplaced_field f ∷ []) (print g.first_field (last (print_field f)))

print_constant : (x : constants.Constant) → Prints g.Constant (constant_words x) (unplaced_constant x)
print_constant (k.Number at i unsigned) = print g.a_constant (one nothing)
print_constant (k.Negative at i unsigned) = print g.a_negative (one (one nothing))
print_constant (k.Character at i) = print g.a_code (one nothing)
print_constant (k.Null at) = print g.a_null (one nothing)
print_constant (k.Eof at) = print g.an_eof (one nothing)

print_global_declarator : (ns : List notes.Note) (x : names.Name) (length : Option ℕ) (initial : Option constants.Constant) →
    Prints g.Dec (global_words ns x length initial) (record { declarator = record { spot = nowhere; stars = ns; name = unplaced_name x; length = length }; constant = mapped unplaced_constant initial })
print_global_declarator ns x length None = print g.a_global (last (print_declarator ns x length))
print_global_declarator ns x length (Some i) = print g.an_initial (first (print_declarator ns x length) (one (last (print_constant i))))

-- An item is printed by itself.
abbrev Printed : t.Item → Type 0
Printed a = Prints g.Item (item_words a) (unplaced_item a ∷ [])

print_global : (at : Spot) (ty : t.TypeName) (x : names.Name) (length : Option ℕ) (initial : Option constants.Constant) → Printed (t.global at ty x length initial)
print_global at ty x length initial = print g.globals (first (print_base ty.base) (first (print g.one_global (last (print_global_declarator ty.stars x length initial))) (one nothing)))

-- Locals of one base.
abbrev declarator_of : t.Local → LocalDeclarator
declarator_of l = record { spot = nowhere; stars = l.type_name.stars; name = unplaced_name l.name; initial = mapped unplaced_expr l.initial }

print_local : (l : t.Local) → Prints g.LocalDec (local_words l) (declarator_of l)
print_local l = go l.initial
  where
    go : (initial : Option t.Expr) → Prints g.LocalDec (flat_map star_words l.type_name.stars ++ w.name l.name.text ∷ initial_words initial)
        (record { spot = nowhere; stars = l.type_name.stars; name = unplaced_name l.name; initial = mapped unplaced_expr initial })
    go None = print g.a_local (first (print_stars l.type_name.stars) (last (print_name l.name)))
    go (Some e) = print g.a_local_with (first (print_stars l.type_name.stars) (first (print_name l.name) (one (last (print_expr e)))))

print_locals : (l : t.Local) (ls : List t.Local) → Prints g.Locals (locals_words (l ∷ ls)) (map (local (unplaced_base l.type_name.base)) (declarator_of l ∷ map declarator_of ls))
print_locals l ls =
    let one_more = λ (ws : List Word) (bs : List LocalDeclarator) (x : t.Local) (p : Prints g.LocalDecs ws bs). print g.another_local (first p (one (last (print_local x)))) in
    let all = grow (Prints g.LocalDecs) (λ other. mark m.Comma ∷ local_words other) declarator_of one_more ls (local_words l) (declarator_of l ∷ []) (print g.one_local (last (print_local l))) in
    print g.locals (first (print_base l.type_name.base) (first all (one nothing)))

one_base : (base : bases.Base) (ds : List LocalDeclarator) → map (local (unplaced_base base)) (map declarator_of (map (local base) ds)) ≡ map unplaced_local (map (local base) ds)
one_base base [] = refl
one_base base (d ∷ ds) = ap (λ z. unplaced_local (local base d) ∷ z) (one_base base ds)

record OfOneBase (ls : List t.Local) : Type 0 where
  base : bases.Base
  head : LocalDeclarator
  others : List LocalDeclarator
  are : ls ≡ map (local base) (head ∷ others)

print_based : (ls : List t.Local) → OfOneBase ls → Prints g.Locals (locals_words ls) (map unplaced_local ls)
print_based ls o =
    let P : List t.Local → Type 0 = λ z. Prints g.Locals (locals_words z) (map unplaced_local z) in
    let Q : List t.Local → Type 0 = λ z. Prints g.Locals (locals_words (map (local o.base) (o.head ∷ o.others))) z in
    subst P (sym o.are) (subst Q (one_base o.base (o.head ∷ o.others)) (print_locals (local o.base o.head) (map (local o.base) o.others)))

-- Statements.
print_expr_end : (o : Option t.Expr) → Prints g.ExprEnd (expr_end_words o) (mapped unplaced_expr o)
print_expr_end None = print g.no_expr (one nothing)
print_expr_end (Some e) = print g.an_expr (first (print_expr e) (one nothing))

print_update : (at : Spot) (op : BinaryOp) (i : marks.Mark) (l r : t.Expr) → update_of op ≡ Some i → Prints g.Simple (simple_words (t.update at op l r)) (unplaced_simple (t.update at op l r))
print_update at op i l r h =
    let P : Option marks.Mark → Type 0 = λ z. Prints g.Simple (left_words l ++ (update_words z ++ expr_words r)) (t.update nowhere op (unplaced_expr l) (unplaced_expr r)) in
    subst P (sym h) (print (g.updates h) (first (print_left l) (one (last (print_expr r)))))

abbrev PrintedStmts : t.Stmts → Type 0
PrintedStmts a = Prints g.Body (stmts_words a) (unplaced_stmts a)

pub joined_words : (a c : t.Stmts) → stmts_words (joined a c) ≡ stmts_words a ++ stmts_words c
joined_words t.done c = refl
joined_words (t.next s a) c = ap (λ z. stmt_words s ++ z) (joined_words a c) ∙ sym (append_assoc (stmt_words s) (stmts_words a) (stmts_words c))

joined_done : (a : t.Stmts) → joined a t.done ≡ a
joined_done t.done = refl
joined_done (t.next s a) = ap (t.next s) (joined_done a)

joined_twice : (a c e : t.Stmts) → joined (joined a c) e ≡ joined a (joined c e)
joined_twice t.done c e = refl
joined_twice (t.next s a) c e = ap (t.next s) (joined_twice a c e)

of_joined : (a c : t.Stmts) → Prints g.Body (stmts_words a ++ stmts_words c) (joined (unplaced_stmts a) (unplaced_stmts c)) → PrintedStmts (joined a c)
of_joined a c p =
    let P : List Word → Type 0 = λ z. Prints g.Body z (unplaced_stmts (joined a c)) in
    let Q : t.Stmts → Type 0 = λ z. Prints g.Body (stmts_words a ++ stmts_words c) z in
    subst P (sym (joined_words a c)) (subst Q (sym (joined_unplaced a c)) p)

with_locals : (ls : List t.Local) (ws : List Word) (a : t.Stmts) → Prints g.Body ws a → Prints g.Body (ws ++ stmts_words (stmts_of ls)) (joined a (unplaced_stmts (stmts_of ls)))
with_locals [] ws a p =
    let P : List Word → Type 0 = λ z. Prints g.Body z (joined a t.done) in
    let Q : t.Stmts → Type 0 = λ z. Prints g.Body ws z in
    subst P (sym (append-nil ws)) (subst Q (sym (joined_done a)) p)
with_locals (l ∷ ls) ws a p =
    let x = locals_words (l ∷ []) in
    let s = t.next (t.local (unplaced_local l)) t.done in
    let rest = stmts_words (stmts_of ls) in
    let v = unplaced_stmts (stmts_of ls) in
    let q : Prints g.Body (ws ++ x) (joined a s) = print g.then_locals (first p (last (print_locals l []))) in
    let r = with_locals ls (ws ++ x) (joined a s) q in
    let P : List Word → Type 0 = λ z. Prints g.Body z (joined a (joined s v)) in
    let Q : t.Stmts → Type 0 = λ z. Prints g.Body ((ws ++ x) ++ rest) z in
    subst P (append_assoc ws x rest) (subst Q (joined_twice a s v) r)

with_stmt : (a : t.Stmts) (s : t.Stmt) → PrintedStmts a → Prints g.Stmt (stmt_words s) (unplaced_stmt s) → PrintedStmts (joined a (t.next s t.done))
with_stmt a s p q =
    let P : List Word → Type 0 = λ z. Prints g.Body (stmts_words a ++ z) (joined (unplaced_stmts a) (t.next (unplaced_stmt s) t.done)) in
    of_joined a (t.next s t.done) (subst P (sym (append-nil (stmt_words s))) (print g.then_stmt (first p (last q))))

-- What is known of a symbol's tree, where words derive it.
abbrev pub Every : {A : Type 0} → (A → Type 0) → List A → Type 0
Every P [] = Unit {0}
Every P (a ∷ as_) = P a × Every P as_

pub every_append : {A : Type 0} (P : A → Type 0) (xs ys : List A) → Every P xs → Every P ys → Every P (xs ++ ys)
every_append P [] ys h i = i
every_append P (x ∷ xs) ys h i = (h.0, every_append P xs ys h.1 i)

abbrev Claim : (s : Symbol) → TreeOf s → Type 0
Claim g.Text a = Every Printed a
Claim g.Item a = Every Printed a
Claim g.Fields a = 1 ≤ length a
Claim g.Field a = 1 ≤ length a
Claim g.FieldDecs a = 1 ≤ length a
Claim g.FunctionEnd a = Prints g.BodyEnd (body_words a.body) (mapped unplaced_stmts a.body)
Claim g.BodyEnd a = Prints g.BodyEnd (body_words a) (mapped unplaced_stmts a)
Claim g.Block a = Prints g.Block (mark m.OpenBrace ∷ stmts_words a ++ mark m.CloseBrace ∷ []) (unplaced_stmts a)
Claim g.Body a = PrintedStmts a
Claim g.Locals a = OfOneBase a
Claim g.LocalDecs a = 1 ≤ length a
Claim g.Stmt a = Prints g.Stmt (stmt_words a) (unplaced_stmt a)
Claim g.ForStart a = Prints g.ForStart (start_words a) (unplaced_start a)
Claim g.SimpleEnd a = Prints g.SimpleEnd (simple_end_words a) (mapped unplaced_simple a)
Claim g.Simple a = Prints g.Simple (simple_words a) (unplaced_simple a)
Claim s a = Unit {0}

abbrev ClaimAll : List Part → Type 0
ClaimAll [] = Unit {0}
ClaimAll (word i ∷ ps) = ClaimAll ps
ClaimAll (node s a ∷ ps) = Claim s a × ClaimAll ps

every_global : (base : bases.Base) (ds : List GlobalDeclarator) → Every Printed (map (global base) ds)
every_global base [] = tt
every_global base (d ∷ ds) = (print_global d.declarator.spot (g.typed base d.declarator.stars) d.declarator.name d.declarator.length d.constant, every_global base ds)

print_param : (p : t.Param) → Prints g.Param (param_words p) (unplaced_param p)
print_param p = go p.name
  where
    go : (x : Option names.Name) → Prints g.Param (param_words (record { spot = p.spot; type_name = p.type_name; name = x })) (record { spot = nowhere; type_name = unplaced_type p.type_name; name = mapped unplaced_name x })
    go None = print g.a_nameless (last (print_type p.type_name))
    go (Some x) = print g.a_param (first (print_type p.type_name) (last (print_name x)))

print_params : (ps : List t.Param) → Prints g.ParamsEnd (params_words ps) (map unplaced_param ps)
print_params [] = print g.void_params (one (one nothing))
print_params (p ∷ ps) =
    let one_more = λ (ws : List Word) (bs : List t.Param) (x : t.Param) (q : Prints g.Params ws bs). print g.another_param (first q (one (last (print_param x)))) in
    let all = grow (Prints g.Params) (λ other. mark m.Comma ∷ param_words other) unplaced_param one_more ps (param_words p) (unplaced_param p ∷ []) (print g.one_param (last (print_param p))) in
    print g.some_params (first all (one nothing))

print_result : (o : Option t.TypeName) → Prints g.Result (result_words o) (mapped unplaced_type o)
print_result None = print g.a_void (one nothing)
print_result (Some ty) = print g.a_result (last (print_type ty))

print_ending : (deletes : Bool) (body : Option t.Stmts) → Prints g.BodyEnd (body_words body) (mapped unplaced_stmts body) →
    Prints g.FunctionEnd (ending_words deletes body) (record { deletes = deletes; body = mapped unplaced_stmts body })
print_ending false body p = print g.ends (last p)
print_ending true body p = print g.ends_deleting (one (last p))

print_function : (at : Spot) (deletes : Bool) (result : Option t.TypeName) (x : names.Name) (ps : List t.Param) (body : Option t.Stmts) → Prints g.BodyEnd (body_words body) (mapped unplaced_stmts body) →
    Printed (t.function at deletes result x ps body)
print_function at deletes result x ps body p = print g.a_function (first (print_result result) (first (print_name x) (one (first (print_params ps) (last (print_ending deletes body p))))))

based : (base : bases.Base) (ds : List LocalDeclarator) → 1 ≤ length ds → OfOneBase (map (local base) ds)
based base [] h = absurd (omega arith)
based base (d ∷ ds) h = record { base = base; head = d; others = ds; are = refl }

claim : {at : Spot} {s : Symbol} {a : TreeOf s} {ps : List Part} → Rule at s a ps → ClaimAll ps → Claim s a
claim g.no_items h = tt
claim (g.items {before = xs} {is = ys}) h = every_append Printed xs ys h.0 h.1.0
claim (g.a_struct {x = x} {fs = fs}) h = (print g.a_struct (one (first (print_name x) (one (first (print_fields fs h.1.0) (one (one nothing)))))), tt)
claim (g.globals {base = base} {ds = ds}) h = every_global base ds
claim {at = at} (g.a_function {result = result} {x = x} {ps = ps} {end = end}) h = (print_function at end.deletes result x ps end.body h.1.1.1.0, tt)
claim {at = at} (g.a_deleting {result = result} {x = x} {ps = ps} {end = end}) h = (print_function at true result x ps end.body h.1.1.1.0, tt)
claim g.first_field h = h.0
claim (g.more_fields {before = xs} {fs = ys}) h = omega (arith, h.0, length-append xs ys)
claim (g.fields {base = base} {ds = ds}) h = omega (arith, h.1.0, length-map ds (field base))
claim g.one_field h = omega arith
claim (g.another_field {before = xs} {d = d}) h = omega (arith, length-append xs (d ∷ []))
claim g.ends h = h.0
claim g.ends_deleting h = h.0
claim g.no_body h = print g.no_body (one nothing)
claim g.a_body h = print g.a_body (last h.0)
claim g.a_block h = print g.a_block (one (first h.0 (one nothing)))
claim g.no_stmts h = print g.no_stmts nothing
claim (g.then_locals {before = a} {ls = ls}) h = of_joined a (stmts_of ls) (with_locals ls (stmts_words a) (unplaced_stmts a) h.0)
claim (g.then_stmt {before = a} {s = s}) h = with_stmt a s h.0 h.1.0
claim (g.locals {base = base} {ds = ds}) h = based base ds h.1.0
claim g.one_local h = omega arith
claim (g.another_local {before = xs} {d = d}) h = omega (arith, length-append xs (d ∷ []))
claim g.a_block_stmt h = print g.a_block_stmt (last h.0)
claim g.an_empty h = print g.an_empty (one nothing)
claim g.a_simple h = print g.a_simple (first h.0 (one nothing))
claim (g.an_if {e = e}) h = print g.an_if (one (one (first (print_expr e) (one (last h.1.0)))))
claim (g.an_if_else {e = e} {a = a} p) h = print (g.an_if_else (open_unplaced a ∙ p)) (one (one (first (print_expr e) (one (first h.1.0 (one (last h.1.1.0)))))))
claim (g.a_while {e = e}) h = print g.a_while (one (one (first (print_expr e) (one (last h.1.0)))))
claim (g.a_do {e = e}) h = print g.a_do (one (first h.0 (one (one (first (print_expr e) (one (one nothing)))))))
claim (g.a_for {e = e}) h = print g.a_for (one (one (first h.0 (first (print_expr_end e) (first h.1.1.0 (last h.1.1.1.0))))))
claim g.a_break h = print g.a_break (one (one nothing))
claim g.a_continue h = print g.a_continue (one (one nothing))
claim (g.a_return {e = e}) h = print g.a_return (one (last (print_expr_end e)))
claim (g.starts_local {ls = ls}) h = print g.starts_local (last (print_based ls h.0))
claim g.starts_simple h = print g.starts_simple (first h.0 (one nothing))
claim g.starts_nothing h = print g.starts_nothing (one nothing)
claim g.no_simple h = print g.no_simple (one nothing)
claim g.some_simple h = print g.some_simple (first h.0 (one nothing))
claim (g.evaluates {e = e}) h = print g.evaluates (last (print_expr e))
claim (g.assigns {l = l} {r = r}) h = print g.assigns (first (print_left l) (one (last (print_expr r))))
claim {at = at} (g.updates {op = op} {i = i} {l = l} {r = r} p) h = print_update at op i l r p
claim (g.steps_after {l = l}) h = print g.steps_after (first (print_left l) (one nothing))
claim (g.steps_before {l = l}) h = print g.steps_before (one (last (print_left l)))
claim rule h = tt

mutual
  claims : {ws : List Placed} {s : Symbol} {a : TreeOf s} → Derives ws (node s a) → Claim s a
  claims (by h rule ds) = claim rule (claim_all ds)

  claim_all : {ws : List Placed} {ps : List Part} → DeriveAll ws ps → ClaimAll ps
  claim_all done = tt
  claim_all (then itself ds) = claim_all ds
  claim_all (then {p = node s a} d ds) = (claims d, claim_all ds)

print_items : (xs : List t.Item) (ws : List Word) (bs : List t.Item) → Every Printed xs → Prints g.Text ws bs → Prints g.Text (ws ++ items_words xs) (bs ++ map unplaced_item xs)
print_items [] ws bs h p =
    let P : List Word → Type 0 = λ z. Prints g.Text z (bs ++ []) in
    let Q : List t.Item → Type 0 = λ z. Prints g.Text ws z in
    subst P (sym (append-nil ws)) (subst Q (sym (append-nil bs)) p)
print_items (x ∷ xs) ws bs h p =
    let y = unplaced_item x in
    let q : Prints g.Text (ws ++ item_words x) (bs ++ y ∷ []) = print g.items (first p (last h.0)) in
    let P : List Word → Type 0 = λ z. Prints g.Text z (bs ++ y ∷ map unplaced_item xs) in
    let Q : List t.Item → Type 0 = λ z. Prints g.Text ((ws ++ item_words x) ++ items_words xs) z in
    subst P (append_assoc ws (item_words x) (items_words xs)) (subst Q (append_assoc bs (y ∷ []) (map unplaced_item xs)) (print_items xs (ws ++ item_words x) (bs ++ y ∷ []) h.1 q))

-- The words of a tree derive it.
pub print_tree : {ws : List Placed} (a : List t.Item) → Derives ws (node g.Text a) → Prints g.Text (items_words a) (map unplaced_item a)
print_tree a d = print_items a [] [] (claims d) (print g.no_items nothing)
