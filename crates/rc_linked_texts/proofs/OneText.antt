-- A text is a fine file or is refused as one, in one way.
use Rattle.std.proofs.Common.{◌≡◌, ◌⊎◌, ◌∙◌, ℕ, List, Option, Some, None, Err, refl, sym, ap, subst, inl, inr}
use Rattle.rc_syntax.specs.Place.{last_line}
use Rattle.rc_syntax.specs.Tree.{Tree}
use Rattle.rc_core.specs.Programs.{Program}
use Rattle.rc_deletes.specs.Answer as rules
use Rattle.rc_deletes.specs.Items.{judged}
use Rattle.rc_deletes.specs.Judged.{Judged, Holds, Faulty}
use Rattle.rc_deletes.specs.declared.deletes.DeletesFault.TheVariants as place_refusal
use Rattle.rc_deletes.specs.declared.fault.Refusal.TheVariants as node_refusal
use Rattle.rc_linking.specs.Limits.{IsFileLimited}
use Rattle.rc_linking.specs.Stubs.{stubbed}
use Rattle.rc_linking.proofs.FileLimits.{limited}
use Rattle.rc_rlang.specs.Bounds.{IsWithinBounds}
use Rattle.rc_compile.specs.Acceptance.{Accepted, HasTree, Refused, TooMuch, byte, deep, in_counts, in_tree, in_words, points, rule_refusal, syntax, token, too_long, variables}
use Rattle.rc_compile.specs.Acceptance as acceptance
use Rattle.rc_compile.specs.Answers.{IsOnlyTree}
use Rattle.rc_compile.specs.Compiles.{EndsOnLine, IsOfReading, IsReason}
use Rattle.rc_compile.specs.declared.fault.CompileFault.{CompileFault}
use Rattle.rc_compile.specs.declared.fault.CompileFault.TheVariants as fault
use Rattle.rc_compile.specs.declared.refusal.Refusal.{Refusal}
use Rattle.rc_compile.proofs.EveryText.{decided, fits_or_too_much}
use Rattle.rc_compile.proofs.Limits.{of_few_words}
use Rattle.rc_compile.proofs.OneAnswer.{counts_only, one_refusal, program_only, rules_only, same_words}
use Rattle.rc_compile.proofs.Texts.{only_tree_of}
use Rattle.rc_linked_texts.specs.Texts.{IsFile, IsFine, IsRefused, in_rules, unread}
use Rattle.rc_linked_texts.specs.Units.{FindsUnit, RefusedByRules}

-- ---- a tree

abbrev IsDecided : Tree → Type 0
IsDecided tree = ((program : Program) × rules.IsProgramOf tree program) ⊎ ((broken : rules.Refused) × (rules.refusal tree ≡ Some broken))

-- it is a program, or the rules refuse it
by_rules : (tree : Tree) → IsDecided tree
by_rules tree = by (rules.refusal tree) refl (judged tree) refl where
  by : (o : Option rules.Refused) → rules.refusal tree ≡ o → (found : Judged Program) → judged tree ≡ found → IsDecided tree
  by (Some broken) refused found is = inr (broken, refused)
  by None none (Holds program) is = inl (program, (is, none))
  by None none (Faulty f fs) is = (
      let e : rules.refusal tree ≡ Some (rules.at_node f.refusal f.at.line) = ap (rules.first_of tree) is in
      let wrong : None ≡ Some (rules.at_node f.refusal f.at.line) = sym none ∙ e in
      absurd cc)

some_not_none : (found : Option rules.Refused) (broken : rules.Refused) → found ≡ Some broken → found ≡ None → ⊥
some_not_none found broken is none = let wrong : None ≡ Some broken = sym none ∙ is in cc

same_broken : (found : Option rules.Refused) (a b : rules.Refused) → found ≡ Some a → found ≡ Some b → a ≡ b
same_broken found a b x y = let same : Some a ≡ Some b = sym x ∙ y in cc

-- ---- the tree of a text

pub same_tree : (text : List ℕ) (a b : Tree) → HasTree text a → HasTree text b → a ≡ b
same_tree text a b x y = (only_tree_of text b y).only a x

same_line : (text : List ℕ) (a b : Tree) (m n : ℕ) → IsFile text a m → IsFile text b n → m ≡ n
same_line text a b m n x y = x.on_line ∙ ap last_line (same_words text x.has_tree.tokens y.has_tree.tokens x.has_tree.has_words y.has_tree.has_words) ∙ sym y.on_line

-- it keeps the limits of a file
pub file_limited : (text : List ℕ) (tree : Tree) → HasTree text tree → IsFileLimited tree
file_limited text tree has = let words = of_few_words text tree (only_tree_of text tree has) in limited tree words.words words.derived words.few words.short

-- what the rules and the counts refuse is no refusal of a text without a tree
rules_read : (broken : rules.Refused) → IsOfReading (fault.Refused (rule_refusal broken)) → ⊥
rules_read (rules.at_node node_refusal.Unknown line) is = is
rules_read (rules.at_node node_refusal.Twice line) is = is
rules_read (rules.at_node node_refusal.Mistyped line) is = is
rules_read (rules.at_node node_refusal.Arity line) is = is
rules_read (rules.at_node node_refusal.TooBig line) is = is
rules_read (rules.at_main line) is = is
rules_read (rules.at_place (place_refusal.AnnotationPlace line)) is = is
rules_read (rules.at_place (place_refusal.NotDeletes line)) is = is
rules_read (rules.at_place (place_refusal.DeletesPlace line)) is = is

counts_read : (program : Program) (k : Refusal) → TooMuch program k → IsOfReading (fault.Refused k) → ⊥
counts_read program k (variables line x) is = is
counts_read program k (points x) is = is

tree_or_unread : (text : List ℕ) (tree : Tree) (k : Refusal) → HasTree text tree → Refused text k → IsOfReading (fault.Refused k) → ⊥
tree_or_unread text tree k has refused reading = by (by_rules tree) where
  only : IsOnlyTree text tree
  only = only_tree_of text tree has

  counted : (program : Program) → rules.IsProgramOf tree program → IsWithinBounds program ⊎ ((l : Refusal) × TooMuch program l) → ⊥
  counted program typed (inl within) = (program_only text tree program only typed within).not_refused k refused
  counted program typed (inr (l, much)) = counts_read program l much (subst (λ (r : Refusal). IsOfReading (fault.Refused r)) ((counts_only text tree program l only typed much).only k refused) reading)

  by : IsDecided tree → ⊥
  by (inl (program, typed)) = counted program typed (fits_or_too_much program)
  by (inr (broken, found)) = rules_read broken (subst (λ (r : Refusal). IsOfReading (fault.Refused r)) ((rules_only text tree broken only found).only k refused) reading)

-- ---- a file

abbrev pub IsFineOrRefused : List ℕ → Type 0
IsFineOrRefused text = ((tree : Tree) × IsFine text tree) ⊎ ((refusal : Refusal) × IsRefused text refusal)

of_tree : (text : List ℕ) (tree : Tree) → HasTree text tree → IsFineOrRefused text
of_tree text tree has = by (by_rules (stubbed (last_line has.tokens) tree)) where
  by : IsDecided (stubbed (last_line has.tokens) tree) → IsFineOrRefused text
  by (inl (program, typed)) = inl (tree, record { line = last_line has.tokens; is_file = record { has_tree = has; on_line = refl }; program = program; typed = typed })
  by (inr (broken, found)) = inr (rule_refusal broken, in_rules tree (last_line has.tokens) broken (record { has_tree = has; on_line = refl }) found refl)

of_refused : (text : List ℕ) (k : Refusal) → Refused text k → IsFineOrRefused text
of_refused text k (too_long long is) = inr (k, unread (too_long long is) (subst (λ (r : Refusal). IsOfReading (fault.Refused r)) (sym is) tt))
of_refused text k (in_words short (byte line x)) = inr (k, unread (in_words short (byte line x)) tt)
of_refused text k (in_words short (token line x)) = inr (k, unread (in_words short (token line x)) tt)
of_refused text k (in_tree tokens has (syntax line x)) = inr (k, unread (in_tree tokens has (syntax line x)) tt)
of_refused text k (in_tree tokens has (deep line x)) = inr (k, unread (in_tree tokens has (deep line x)) tt)
of_refused text k (acceptance.in_rules tree broken has found is) = of_tree text tree has
of_refused text k (in_counts program has much) = of_tree text has.tree has.has_tree

pub fine_or_refused : (text : List ℕ) → IsFineOrRefused text
fine_or_refused text = by (decided text) where
  by : ((program : Program) × Accepted text program) ⊎ ((k : Refusal) × Refused text k) → IsFineOrRefused text
  by (inl (program, accepted)) = of_tree text accepted.has_program.tree accepted.has_program.has_tree
  by (inr (k, refused)) = of_refused text k refused

same_stubbed : (text : List ℕ) (a b : Tree) (m n : ℕ) → IsFile text a m → IsFile text b n → stubbed m a ≡ stubbed n b
same_stubbed text a b m n x y = ap (λ line. stubbed line a) (same_line text a b m n x y) ∙ ap (stubbed n) (same_tree text a b x.has_tree y.has_tree)

pub one_refused : (text : List ℕ) (k l : Refusal) → IsRefused text k → IsRefused text l → k ≡ l
one_refused text k l (unread a i) (unread b j) = one_refusal text k l a b
one_refused text k l (unread a i) (in_rules tree line broken file found is) = absurd (tree_or_unread text tree k file.has_tree a i)
one_refused text k l (in_rules tree line broken file found is) (unread b j) = absurd (tree_or_unread text tree l file.has_tree b j)
one_refused text k l (in_rules a m broken x found is) (in_rules b n other y seen so) =
    is ∙ ap rule_refusal (same_broken (rules.refusal (stubbed n b)) broken other (sym (ap rules.refusal (same_stubbed text a b m n x y)) ∙ found) seen) ∙ sym so

pub fine_not_refused : (text : List ℕ) (tree : Tree) (k : Refusal) → IsFine text tree → IsRefused text k → ⊥
fine_not_refused text tree k fine (unread a i) = tree_or_unread text tree k fine.is_file.has_tree a i
fine_not_refused text tree k fine (in_rules b n broken y found is) =
    some_not_none (rules.refusal (stubbed n b)) broken found (sym (ap rules.refusal (same_stubbed text tree b fine.line n fine.is_file y)) ∙ fine.typed.1)

-- ---- what is answered

file_of : (text : List ℕ) (tree : Tree) (line : ℕ) → IsOnlyTree text tree → EndsOnLine text line → IsFile text tree line
file_of text tree line only ends = record { has_tree = only.is_tree; on_line = ends only.is_tree.tokens only.is_tree.has_words }

pub fine_of : (text : List ℕ) (tree own : Tree) (line : ℕ) → IsOnlyTree text tree → EndsOnLine text line → own ≡ tree → (program : Program) × rules.IsProgramOf (stubbed line tree) program → IsFine text own
fine_of text tree own line only ends same typed = subst (IsFine text) (sym same) (record { line = line; is_file = file_of text tree line only ends; program = typed.0; typed = typed.1 })

pub refused_of : (text : List ℕ) (tree : Tree) (line : ℕ) (reason : CompileFault) → IsOnlyTree text tree → EndsOnLine text line → RefusedByRules (stubbed line tree) reason → FindsUnit text (Err reason)
refused_of text tree line (fault.Refused k) only ends (broken, found, is) = in_rules tree line broken (file_of text tree line only ends) found is
refused_of text tree line fault.Memory only ends refused = tt

pub unread_of : (text : List ℕ) (reason : CompileFault) → IsReason text reason × IsOfReading reason → FindsUnit text (Err reason)
unread_of text (fault.Refused k) (only, reading) = unread only.refused reading
unread_of text fault.Memory both = tt
