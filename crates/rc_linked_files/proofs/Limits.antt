-- What the trees of files keep, the joined tree keeps: each struct has a field, and strings are few and short.
use Rattle.std.specs.Prelude.{◌≡◌, ℕ, zero, suc, ◌+◌, ◌*◌, ◌≤◌, List, [], ◌∷◌, ◌++◌, Option, Some, None, Bool, true, false, length, slice_get, if◌then◌else◌}
use Rattle.std.specs.List.{AllByRecursion as Every}
use Rattle.std.proofs.Common.{refl, sym, ap, ◌∙◌, subst, arith, length-append, append_assoc}
use Rattle.std.proofs.lemmas.List.{length-map}
use Rattle.rc_base.specs.Limits.{most_text_bytes}
use Rattle.rc_syntax.specs.declared.tree.Spot.{Spot}
use Rattle.rc_syntax.specs.declared.tree.Name.{Name}
use Rattle.rc_syntax.specs.Tree as t
use Rattle.rc_deletes.specs.Expressions.{strings_in, strings_in_all}
use Rattle.rc_deletes.specs.Statements.{strings_in_option, strings_in_simple, strings_in_simple_option}
use Rattle.rc_deletes.specs.Items.{is_among}
use Rattle.rc_deletes.specs.Limits.{HasFields, IsLimited, strings_of}
use Rattle.rc_judgements.proofs.Strings.{strings_in_locals, strings_in_start, strings_in_stmt, strings_in_stmts, strings_in_body, strings_in_items, strings_are}
use Rattle.rc_linking.specs.Moved.{moved, moved_all, moved_option, moved_simple, moved_simple_option, moved_locals, moved_start, moved_stmt, moved_stmts, moved_body, moved_field, moved_items}
use Rattle.rc_linking.specs.Joined.{structs_of, without, joined_behind, joined, all_items}
use Rattle.rc_linking.specs.Limits.{IsFileLimited}

two : {A : Type 0} {a b c d : List A} → a ≡ c → b ≡ d → a ++ b ≡ c ++ d
two {b = b} {c = c} h k = ap (λ x. x ++ b) h ∙ ap (λ x. c ++ x) k

module _ (n : ℕ) where
  mutual
    expr_strings : (e : t.Expr) → strings_in (moved n e) ≡ strings_in e
    expr_strings (t.number at v u) = refl
    expr_strings (t.character at c) = refl
    expr_strings (t.string at bytes) = refl
    expr_strings (t.null at) = refl
    expr_strings (t.eof at) = refl
    expr_strings (t.variable name) = refl
    expr_strings (t.call name args) = all_strings args
    expr_strings (t.ralloc at r ty) = expr_strings r
    expr_strings (t.rarrayalloc at r k ty) = two (expr_strings r) (expr_strings k)
    expr_strings (t.index at a k) = two (expr_strings a) (expr_strings k)
    expr_strings (t.member at a name) = expr_strings a
    expr_strings (t.arrow at a name) = expr_strings a
    expr_strings (t.unary at op a) = expr_strings a
    expr_strings (t.cast at to a) = expr_strings a
    expr_strings (t.binary at op a b) = two (expr_strings a) (expr_strings b)
    expr_strings (t.conditional at c a b) = two (expr_strings c) (two (expr_strings a) (expr_strings b))

    all_strings : (es : t.Exprs) → strings_in_all (moved_all n es) ≡ strings_in_all es
    all_strings t.none = refl
    all_strings (t.more e rest) = two (expr_strings e) (all_strings rest)

  option_strings : (e : Option t.Expr) → strings_in_option (moved_option n e) ≡ strings_in_option e
  option_strings None = refl
  option_strings (Some e) = expr_strings e

  simple_strings : (s : t.Simple) → strings_in_simple (moved_simple n s) ≡ strings_in_simple s
  simple_strings (t.expression e) = expr_strings e
  simple_strings (t.assign at l r) = two (expr_strings l) (expr_strings r)
  simple_strings (t.update at op l r) = two (expr_strings l) (expr_strings r)
  simple_strings (t.step_after at op l) = expr_strings l
  simple_strings (t.step_before at op l) = expr_strings l

  simple_option_strings : (s : Option t.Simple) → strings_in_simple_option (moved_simple_option n s) ≡ strings_in_simple_option s
  simple_option_strings None = refl
  simple_option_strings (Some s) = simple_strings s

  locals_strings : (ls : List t.Local) → strings_in_locals (moved_locals n ls) ≡ strings_in_locals ls
  locals_strings [] = refl
  locals_strings (l ∷ ls) = two (option_strings l.initial) (locals_strings ls)

  start_strings : (s : t.ForStart) → strings_in_start (moved_start n s) ≡ strings_in_start s
  start_strings t.nothing = refl
  start_strings (t.simply s) = simple_strings s
  start_strings (t.locals ls) = locals_strings ls

  mutual
    stmt_strings : (s : t.Stmt) → strings_in_stmt (moved_stmt n s) ≡ strings_in_stmt s
    stmt_strings (t.local l) = option_strings l.initial
    stmt_strings (t.block at body) = stmts_strings body
    stmt_strings (t.empty at) = refl
    stmt_strings (t.simple at s) = simple_strings s
    stmt_strings (t.if_then at c a) = two (expr_strings c) (stmt_strings a)
    stmt_strings (t.if_else at c a b) = two (expr_strings c) (two (stmt_strings a) (stmt_strings b))
    stmt_strings (t.while_do at c a) = two (expr_strings c) (stmt_strings a)
    stmt_strings (t.do_while at a c) = two (stmt_strings a) (expr_strings c)
    stmt_strings (t.for_do at start c next a) = two (start_strings start) (two (option_strings c) (two (simple_option_strings next) (stmt_strings a)))
    stmt_strings (t.break_loop at) = refl
    stmt_strings (t.continue_loop at) = refl
    stmt_strings (t.return_with at e) = option_strings e

    stmts_strings : (body : t.Stmts) → strings_in_stmts (moved_stmts n body) ≡ strings_in_stmts body
    stmts_strings t.done = refl
    stmts_strings (t.next s rest) = two (stmt_strings s) (stmts_strings rest)

  body_strings : (body : Option t.Stmts) → strings_in_body (moved_body n body) ≡ strings_in_body body
  body_strings None = refl
  body_strings (Some body) = stmts_strings body

  skipped : (b : Bool) (at : Spot) (name : Name) (fields : List t.Field) (ks ys : List t.Item) (m : List (List ℕ)) → strings_in_items (moved_items n ks ++ ys) ≡ m → strings_in_items (moved_items n (if b then ks else t.struct at name fields ∷ ks) ++ ys) ≡ m
  skipped true at name fields ks ys m h = h
  skipped false at name fields ks ys m h = h

  kept_strings : (names : List (List ℕ)) (is ys : List t.Item) → strings_in_items (moved_items n (without names is) ++ ys) ≡ strings_in_items (is ++ ys)
  kept_strings names [] ys = refl
  kept_strings names (t.global at ty name count c ∷ is) ys = kept_strings names is ys
  kept_strings names (t.struct at name fields ∷ is) ys = skipped (is_among names name.text) at name fields (without names is) ys (strings_in_items (is ++ ys)) (kept_strings names is ys)
  kept_strings names (t.function at deletes result name params body ∷ is) ys = two (body_strings body) (kept_strings names is ys)

  has_if : (b : Bool) (at : Spot) (name : Name) (fields : List t.Field) (ks ys : List t.Item) → 1 ≤ length fields → HasFields (moved_items n ks ++ ys) → HasFields (moved_items n (if b then ks else t.struct at name fields ∷ ks) ++ ys)
  has_if true at name fields ks ys h k = k
  has_if false at name fields ks ys h k = (omega (arith, h, length-map fields (moved_field n)), k)

  kept_fields : (names : List (List ℕ)) (is ys : List t.Item) → HasFields is → HasFields ys → HasFields (moved_items n (without names is) ++ ys)
  kept_fields names [] ys h k = k
  kept_fields names (t.global at ty name count c ∷ is) ys h k = kept_fields names is ys h k
  kept_fields names (t.function at deletes result name params body ∷ is) ys h k = kept_fields names is ys h k
  kept_fields names (t.struct at name fields ∷ is) ys h k = has_if (is_among names name.text) at name fields (without names is) ys h.0 (kept_fields names is ys h.1 k)

behind_strings : (is ys zs : List t.Item) → strings_in_items ys ≡ strings_in_items zs → strings_in_items (is ++ ys) ≡ strings_in_items (is ++ zs)
behind_strings [] ys zs h = h
behind_strings (t.struct at name fields ∷ is) ys zs h = behind_strings is ys zs h
behind_strings (t.global at ty name count c ∷ is) ys zs h = behind_strings is ys zs h
behind_strings (t.function at deletes result name params body ∷ is) ys zs h = ap (λ x. strings_in_body body ++ x) (behind_strings is ys zs h)

pub append_strings : (is ys : List t.Item) → strings_in_items (is ++ ys) ≡ strings_in_items is ++ strings_in_items ys
append_strings [] ys = refl
append_strings (t.struct at name fields ∷ is) ys = append_strings is ys
append_strings (t.global at ty name count c ∷ is) ys = append_strings is ys
append_strings (t.function at deletes result name params body ∷ is) ys = ap (λ x. strings_in_body body ++ x) (append_strings is ys) ∙ sym (append_assoc (strings_in_body body) (strings_in_items is) (strings_in_items ys))

pub joined_strings : (trees : List t.Tree) (earlier : List t.Item) (n : ℕ) → strings_in_items (joined_behind earlier n trees) ≡ strings_in_items (all_items trees)
joined_strings [] earlier n = refl
joined_strings (tree ∷ trees) earlier n =
    let later = joined_behind (earlier ++ tree.items) (n + most_text_bytes) trees in
    kept_strings n (structs_of earlier) tree.items later ∙ behind_strings tree.items later (all_items trees) (joined_strings trees (earlier ++ tree.items) (n + most_text_bytes))

joined_fields : (trees : List t.Tree) (earlier : List t.Item) (n : ℕ) → Every IsFileLimited trees → HasFields (joined_behind earlier n trees)
joined_fields [] earlier n h = tt
joined_fields (tree ∷ trees) earlier n h = kept_fields n (structs_of earlier) tree.items (joined_behind (earlier ++ tree.items) (n + most_text_bytes) trees) h.0.limited.fields (joined_fields trees (earlier ++ tree.items) (n + most_text_bytes) h.1)

few_strings : (trees : List t.Tree) (m : ℕ) → length trees ≤ m → Every IsFileLimited trees → length (strings_in_items (all_items trees)) ≤ m * 1048576
few_strings [] m l h = omega arith
few_strings (tree ∷ trees) zero l h = absurd (never l) where
  never : suc (length trees) ≤ zero → ⊥
  never l = omega arith
few_strings (tree ∷ trees) (suc m) l h =
    let own : length (strings_in_items tree.items) ≤ 1048576 = subst (λ x. length x ≤ 1048576) (strings_are tree) h.0.few in
    let rest = few_strings trees m (omega (arith, l)) h.1 in
    subst (λ x. length x ≤ suc m * 1048576) (sym (append_strings tree.items (all_items trees))) (omega (arith, length-append (strings_in_items tree.items) (strings_in_items (all_items trees)), own, rest))

abbrev AllShort : List (List ℕ) → Type 0
AllShort xs = (k : ℕ) (bytes : List ℕ) → slice_get xs k ≡ Some bytes → length bytes ≤ 1048576

short_both : (xs ys : List (List ℕ)) → AllShort xs → AllShort ys → AllShort (xs ++ ys)
short_both [] ys h k j bytes e = k j bytes e
short_both (x ∷ xs) ys h k zero bytes e = h zero bytes e
short_both (x ∷ xs) ys h k (suc j) bytes e = short_both xs ys (λ i b q. h (suc i) b q) k j bytes e

none_short : AllShort []
none_short k bytes e = absurd cc

short_strings : (trees : List t.Tree) → Every IsFileLimited trees → AllShort (strings_in_items (all_items trees))
short_strings [] h = none_short
short_strings (tree ∷ trees) h = subst AllShort (sym (append_strings tree.items (all_items trees))) (short_both (strings_in_items tree.items) (strings_in_items (all_items trees)) (subst AllShort (strings_are tree) h.0.limited.strings) (short_strings trees h.1))

pub joined_limits : (trees : List t.Tree) → length trees ≤ 16 → Every IsFileLimited trees → IsLimited (joined trees)
joined_limits trees l h =
    let same : strings_of (joined trees) ≡ strings_in_items (all_items trees) = strings_are (joined trees) ∙ joined_strings trees [] 0 in
    record {
      fields = joined_fields trees [] 0 h;
      number_of_strings = subst (λ x. length x ≤ 16777216) (sym same) (few_strings trees 16 l h);
      strings = subst AllShort (sym same) (short_strings trees h);
    }
