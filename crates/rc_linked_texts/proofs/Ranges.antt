-- What the trees of files of bytes keep, the joined tree keeps: its numbers are those of words, and its strings are of bytes. So its
-- program is well typed.
use Rattle.std.proofs.Common.{◌∙◌, ◌≤◌, ◌+◌, ℕ, List, [], ◌∷◌, ◌++◌, length, Bool, true, false, Option, Some, None, sym, subst, arith}
use Rattle.std.specs.Prelude.{if◌then◌else◌}
use Rattle.std.specs.List.{AllByRecursion as Every}
use Rattle.rc_base.specs.Limits.{most_text_bytes}
use Rattle.rc_core.specs.Numbers.{IsByte}
use Rattle.rc_core.specs.Programs.{Program}
use Rattle.rc_core.specs.WellTyped.{IsWellTyped}
use Rattle.rc_syntax.specs.Tree as t
use Rattle.rc_syntax.specs.declared.tree.Name.{Name}
use Rattle.rc_syntax.specs.declared.tree.Spot.{Spot}
use Rattle.rc_deletes.specs.Items.{is_among}
use Rattle.rc_deletes.specs.Ranges.{AreInRange, BodyInRange, IsInRange, ItemsInRange, LocalsInRange, OptionInRange, SimpleInRange, SimpleOptionInRange, StartInRange, StmtInRange, StmtsInRange}
use Rattle.rc_judgements.proofs.Strings.{strings_are, strings_in_items}
use Rattle.rc_judgements.proofs.WellTyped.{fits_together}
use Rattle.rc_linking.specs.Joined.{all_items, joined, joined_behind, structs_of, without}
use Rattle.rc_linking.specs.Limits.{IsFileLimited}
use Rattle.rc_linking.specs.Moved.{moved, moved_all, moved_body, moved_items, moved_locals, moved_option, moved_simple, moved_simple_option, moved_start, moved_stmt, moved_stmts}
use Rattle.rc_linked_files.proofs.Limits.{append_strings, joined_limits, joined_strings}
use Rattle.rc_compile.proofs.Texts.{program_strings, tree_in_range}
use Rattle.rc_linked_texts.specs.Texts.{AreFine, AreProgram}
use Rattle.rc_linked_texts.proofs.OneText.{file_limited}

module _ (n : ℕ) where
  mutual
    expr_ranged : (e : t.Expr) → IsInRange e → IsInRange (moved n e)
    expr_ranged (t.number at v u) h = h
    expr_ranged (t.character at c) h = h
    expr_ranged (t.string at bytes) h = h
    expr_ranged (t.null at) h = h
    expr_ranged (t.eof at) h = h
    expr_ranged (t.variable name) h = h
    expr_ranged (t.call name args) h = all_ranged args h
    expr_ranged (t.ralloc at r ty) h = expr_ranged r h
    expr_ranged (t.rarrayalloc at r k ty) h = (expr_ranged r h.0, expr_ranged k h.1)
    expr_ranged (t.index at a k) h = (expr_ranged a h.0, expr_ranged k h.1)
    expr_ranged (t.member at a name) h = expr_ranged a h
    expr_ranged (t.arrow at a name) h = expr_ranged a h
    expr_ranged (t.unary at op a) h = expr_ranged a h
    expr_ranged (t.cast at to a) h = expr_ranged a h
    expr_ranged (t.binary at op a b) h = (expr_ranged a h.0, expr_ranged b h.1)
    expr_ranged (t.conditional at c a b) h = (expr_ranged c h.0, expr_ranged a h.1, expr_ranged b h.2)

    all_ranged : (es : t.Exprs) → AreInRange es → AreInRange (moved_all n es)
    all_ranged t.none h = h
    all_ranged (t.more e rest) h = (expr_ranged e h.0, all_ranged rest h.1)

  option_ranged : (e : Option t.Expr) → OptionInRange e → OptionInRange (moved_option n e)
  option_ranged None h = h
  option_ranged (Some e) h = expr_ranged e h

  simple_ranged : (s : t.Simple) → SimpleInRange s → SimpleInRange (moved_simple n s)
  simple_ranged (t.expression e) h = expr_ranged e h
  simple_ranged (t.assign at l r) h = (expr_ranged l h.0, expr_ranged r h.1)
  simple_ranged (t.update at op l r) h = (expr_ranged l h.0, expr_ranged r h.1)
  simple_ranged (t.step_after at op l) h = expr_ranged l h
  simple_ranged (t.step_before at op l) h = expr_ranged l h

  simple_option_ranged : (s : Option t.Simple) → SimpleOptionInRange s → SimpleOptionInRange (moved_simple_option n s)
  simple_option_ranged None h = h
  simple_option_ranged (Some s) h = simple_ranged s h

  locals_ranged : (ls : List t.Local) → LocalsInRange ls → LocalsInRange (moved_locals n ls)
  locals_ranged [] h = h
  locals_ranged (l ∷ ls) h = (option_ranged l.initial h.0, locals_ranged ls h.1)

  start_ranged : (s : t.ForStart) → StartInRange s → StartInRange (moved_start n s)
  start_ranged t.nothing h = h
  start_ranged (t.simply s) h = simple_ranged s h
  start_ranged (t.locals ls) h = locals_ranged ls h

  mutual
    stmt_ranged : (s : t.Stmt) → StmtInRange s → StmtInRange (moved_stmt n s)
    stmt_ranged (t.local l) h = option_ranged l.initial h
    stmt_ranged (t.block at body) h = stmts_ranged body h
    stmt_ranged (t.empty at) h = h
    stmt_ranged (t.simple at s) h = simple_ranged s h
    stmt_ranged (t.if_then at c a) h = (expr_ranged c h.0, stmt_ranged a h.1)
    stmt_ranged (t.if_else at c a b) h = (expr_ranged c h.0, stmt_ranged a h.1, stmt_ranged b h.2)
    stmt_ranged (t.while_do at c a) h = (expr_ranged c h.0, stmt_ranged a h.1)
    stmt_ranged (t.do_while at a c) h = (stmt_ranged a h.0, expr_ranged c h.1)
    stmt_ranged (t.for_do at start c next a) h = (start_ranged start h.0, option_ranged c h.1, simple_option_ranged next h.2, stmt_ranged a h.3)
    stmt_ranged (t.break_loop at) h = h
    stmt_ranged (t.continue_loop at) h = h
    stmt_ranged (t.return_with at e) h = option_ranged e h

    stmts_ranged : (body : t.Stmts) → StmtsInRange body → StmtsInRange (moved_stmts n body)
    stmts_ranged t.done h = h
    stmts_ranged (t.next s rest) h = (stmt_ranged s h.0, stmts_ranged rest h.1)

  body_ranged : (body : Option t.Stmts) → BodyInRange body → BodyInRange (moved_body n body)
  body_ranged None h = h
  body_ranged (Some body) h = stmts_ranged body h

  -- a struct says nothing of numbers, whether it is left out or not
  skipped : (b : Bool) (at : Spot) (name : Name) (fields : List t.Field) (ks ys : List t.Item) → ItemsInRange (moved_items n ks ++ ys) → ItemsInRange (moved_items n (if b then ks else t.struct at name fields ∷ ks) ++ ys)
  skipped true at name fields ks ys h = h
  skipped false at name fields ks ys h = h

  kept_ranged : (names : List (List ℕ)) (is ys : List t.Item) → ItemsInRange is → ItemsInRange ys → ItemsInRange (moved_items n (without names is) ++ ys)
  kept_ranged names [] ys h k = k
  kept_ranged names (t.struct at name fields ∷ is) ys h k = skipped (is_among names name.text) at name fields (without names is) ys (kept_ranged names is ys h k)
  kept_ranged names (t.global at ty name count c ∷ is) ys h k = kept_ranged names is ys h k
  kept_ranged names (t.function at deletes result name params body ∷ is) ys h k = (body_ranged body h.0, kept_ranged names is ys h.1 k)

-- ---- of all files

abbrev AreRanged : List t.Tree → Type 0
AreRanged trees = Every (λ (tree : t.Tree). ItemsInRange tree.items × Every (Every IsByte) (strings_in_items tree.items)) trees

joined_ranged : (trees : List t.Tree) (earlier : List t.Item) (n : ℕ) → AreRanged trees → ItemsInRange (joined_behind earlier n trees)
joined_ranged [] earlier n h = tt
joined_ranged (tree ∷ trees) earlier n h =
    kept_ranged n (structs_of earlier) tree.items (joined_behind (earlier ++ tree.items) (n + most_text_bytes) trees) h.0.0 (joined_ranged trees (earlier ++ tree.items) (n + most_text_bytes) h.1)

both_bytes : (xs ys : List (List ℕ)) → Every (Every IsByte) xs → Every (Every IsByte) ys → Every (Every IsByte) (xs ++ ys)
both_bytes [] ys h k = k
both_bytes (x ∷ xs) ys h k = (h.0, both_bytes xs ys h.1 k)

all_bytes : (trees : List t.Tree) → AreRanged trees → Every (Every IsByte) (strings_in_items (all_items trees))
all_bytes [] h = tt
all_bytes (tree ∷ trees) h = subst (Every (Every IsByte)) (sym (append_strings tree.items (all_items trees))) (both_bytes (strings_in_items tree.items) (strings_in_items (all_items trees)) h.0.1 (all_bytes trees h.1))

all_limited : (texts : List (List ℕ)) (trees : List t.Tree) → AreFine texts trees → Every IsFileLimited trees
all_limited [] [] fine = tt
all_limited [] (tree ∷ trees) fine = absurd fine
all_limited (text ∷ texts) [] fine = absurd fine
all_limited (text ∷ texts) (tree ∷ trees) fine = (file_limited text tree fine.0.is_file.has_tree, all_limited texts trees fine.1)

all_ranged_of : (texts : List (List ℕ)) (trees : List t.Tree) → AreFine texts trees → Every (Every IsByte) texts → AreRanged trees
all_ranged_of [] [] fine bytes = tt
all_ranged_of [] (tree ∷ trees) fine bytes = absurd fine
all_ranged_of (text ∷ texts) [] fine bytes = absurd fine
all_ranged_of (text ∷ texts) (tree ∷ trees) fine bytes = (tree_in_range text tree bytes.0 fine.0.is_file.has_tree, all_ranged_of texts trees fine.1 bytes.1)

as_many : (texts : List (List ℕ)) (trees : List t.Tree) → AreFine texts trees → length trees ≤ length texts
as_many [] [] fine = omega arith
as_many [] (tree ∷ trees) fine = absurd fine
as_many (text ∷ texts) [] fine = absurd fine
as_many (text ∷ texts) (tree ∷ trees) fine = let more = as_many texts trees fine.1 in omega (arith, more)

pub linked_well_typed : (texts : List (List ℕ)) (program : Program) → length texts ≤ 16 → Every (Every IsByte) texts → AreProgram texts program → IsWellTyped program
linked_well_typed texts program few bytes is =
    let trees = is.trees in
    let ranged = all_ranged_of texts trees is.fine bytes in
    let limits = joined_limits trees (let many = as_many texts trees is.fine in omega (arith, few, many)) (all_limited texts trees is.fine) in
    fits_together (joined trees) program (joined_ranged trees [] 0 ranged) limits
    (subst (Every (Every IsByte)) (sym (program_strings (joined trees) program is.typed ∙ strings_are (joined trees) ∙ joined_strings trees [] 0)) (all_bytes trees ranged))
    is.typed
