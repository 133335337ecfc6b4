-- A text has at most one answer: each stage has one outcome, and a refusal at a stage leaves the next ones nothing.
use Rattle.std.proofs.Common.{◌≡◌, ◌<◌, ◌≤◌, ◌+◌, ◌⊎◌, ◌∙◌, ℕ, List, [], ◌∷◌, ◌++◌, length, drop, Option, Some, None, Err, refl, sym, ap, subst, inl, inr, arith, append_assoc, length-append, slice_get}
use Rattle.std.proofs.Math.Nat.{lt_of_not-le}
use Rattle.std.proofs.Math.Seq.{drop-append_seam}
use Rattle.rc_syntax.specs.Tokens.{Token}
use Rattle.rc_syntax.specs.Words.{BeginsWord, UnreadByte, UnreadToken}
use Rattle.rc_syntax.specs.Tree.{Tree, Item}
use Rattle.rc_syntax.specs.Grammar.{Symbol, Text, Placed, Derives, Begins, node, placed}
use Rattle.rc_syntax.specs.Place.{IsTooDeep, Shallow, Stretch, TooDeep, line_at}
use Rattle.rc_syntax.proofs.Whole.{one_tree, of_text}
use Rattle.rc_syntax.proofs.CutLaws.{one_list, one_place, read_or_stopped}
use Rattle.rc_core.specs.Programs.{Function, Program}
use Rattle.rc_deletes.specs.Answer as rules
use Rattle.rc_deletes.specs.Judged.{Judged, Holds}
use Rattle.rc_rlang.specs.Bounds.{FirstWide, IsNarrow, IsWithinBounds}
use Rattle.rc_compile.specs.Acceptance.{Accepted, HasWords, HasTree, HasProgram, Unread, byte, token, NoTree, syntax, deep, rule_refusal, TooMuch, variables, points, Refused, too_long, in_words, in_tree, in_rules, in_counts}
use Rattle.rc_compile.specs.Answers.{IsOnlyProgram, IsOnlyRefusal, IsOnlyTree}
use Rattle.rc_compile.specs.Compiles.{IsReason, KeepsWithin}
use Rattle.rc_compile.specs.declared.fault.CompileFault.{CompileFault}
use Rattle.rc_compile.specs.declared.fault.CompileFault.TheVariants as faults
use Rattle.rc_compile.specs.declared.refusal.Refusal.{Refusal}
use Rattle.rc_compile.specs.declared.refusal.Refusal.TheVariants.{TooLong, Byte, Token as BadToken, Syntax, Deep, Variables}

-- of two fronts of one list the shorter is a front of the longer
front_of_front : {A : Type 0} (xs ys us vs : List A) → xs ++ ys ≡ us ++ vs → length xs ≤ length us → (more : List A) × (us ≡ xs ++ more)
front_of_front [] ys us vs same short = (us, refl)
front_of_front (x ∷ xs) ys [] vs same short = absurd (omega (arith, short))
front_of_front (x ∷ xs) ys (u ∷ us) vs same short =
    let head : x ≡ u = cc in
    let tail : xs ++ ys ≡ us ++ vs = cc in
    let found = front_of_front xs ys us vs tail (omega (arith, short)) in
    (found.0, ap (λ h. h ∷ us) (sym head) ∙ ap (λ t. x ∷ t) found.1)

-- what is left behind a front
rest_is : {A : Type 0} (words front rest : List A) → words ≡ front ++ rest → rest ≡ drop (length front) words
rest_is words front rest cut = sym (drop-append_seam front rest) ∙ ap (drop (length front)) (sym cut)

same_rest : {A : Type 0} (words xs ys us vs : List A) → words ≡ xs ++ ys → words ≡ us ++ vs → length xs ≤ length us → length us ≤ length xs → ys ≡ vs
same_rest words xs ys us vs first second short long =
    let same : length xs ≡ length us = omega (arith, short, long) in
    rest_is words xs ys first ∙ ap (λ n. drop n words) same ∙ sym (rest_is words us vs second)

-- a front of shallow words is not too deep
not_too_deep : (s : Symbol) (ws xs ys : List Placed) (d r : ℕ) → Shallow 0 s ws → ws ≡ xs ++ ys → Begins xs s d r → TooDeep 0 d r → ⊥
not_too_deep s ws xs ys d r shallow cut begins (inl high) = let low = (shallow xs ys d r cut begins).0 in omega (arith, low, high)
not_too_deep s ws xs ys d r shallow cut begins (inr long) = let low = (shallow xs ys d r cut begins).1 in omega (arith, low, long)

longer_stretch : (s : Symbol) (words xs ys us vs : List Placed) → Stretch s words xs ys → Stretch s words us vs → length xs ≤ length us
longer_stretch s words xs ys us vs a b = by a.begun where
  by : (xs ≡ []) ⊎ ((d r : ℕ) × Begins xs s d r) → length xs ≤ length us
  by (inl none) = subst (λ (l : List Placed). length l ≤ length us) (sym none) (omega arith)
  by (inr begins) = b.longest xs ys begins.0 begins.1 a.cut begins.2

one_syntax_rest : (s : Symbol) (words xs ys us vs : List Placed) → Stretch s words xs ys → Stretch s words us vs → ys ≡ vs
one_syntax_rest s words xs ys us vs a b = same_rest words xs ys us vs a.cut b.cut (longer_stretch s words xs ys us vs a b) (longer_stretch s words us vs xs ys b a)

-- the words up to the first that is too deep, and those behind it
deep_cut : (s : Symbol) (words rest : List Placed) → (x : IsTooDeep 0 s words rest) → words ≡ (x.0 ++ x.1 ∷ []) ++ x.2
deep_cut s words rest x = x.5 ∙ ap (λ z. x.0 ++ z) x.6 ∙ sym (append_assoc x.0 (x.1 ∷ []) x.2)

-- too deep words are no front of shallow ones
deep_behind : (s : Symbol) (words rest ws ys : List Placed) → (x : IsTooDeep 0 s words rest) → Shallow 0 s ws → words ≡ ws ++ ys → length (x.0 ++ x.1 ∷ []) ≤ length ws → ⊥
deep_behind s words rest ws ys x shallow cut short =
    let found = front_of_front (x.0 ++ x.1 ∷ []) x.2 ws ys (sym (deep_cut s words rest x) ∙ cut) short in
    not_too_deep s ws (x.0 ++ x.1 ∷ []) found.0 x.3 x.4 shallow found.1 x.7 x.8

deep_first : (s : Symbol) (words a b : List Placed) → (x : IsTooDeep 0 s words a) → (y : IsTooDeep 0 s words b) → length y.0 ≤ length x.0
deep_first s words a b x y =
    let not_less : ¬ (length x.0 + 1 ≤ length y.0) = λ less. deep_behind s words a y.0 b x y.9 y.5 (omega (arith, less, length-append x.0 (x.1 ∷ []))) in
    let low = lt_of_not-le not_less in
    omega (arith, low)

one_deep_rest : (s : Symbol) (words a b : List Placed) → IsTooDeep 0 s words a → IsTooDeep 0 s words b → a ≡ b
one_deep_rest s words a b x y = same_rest words x.0 a y.0 b x.5 y.5 (deep_first s words b a y x) (deep_first s words a b x y)

syntax_or_deep : (s : Symbol) (words front rest a : List Placed) → Stretch s words front rest → Shallow 0 s front → IsTooDeep 0 s words a → ⊥
syntax_or_deep s words front rest a stretch shallow x = deep_behind s words a front rest x shallow stretch.cut (stretch.longest (x.0 ++ x.1 ∷ []) x.2 x.3 x.4 (deep_cut s words a x) x.7)

shallow_or_deep : (s : Symbol) (words a : List Placed) → Shallow 0 s words → IsTooDeep 0 s words a → ⊥
shallow_or_deep s words a shallow x = not_too_deep s words (x.0 ++ x.1 ∷ []) x.2 x.3 x.4 shallow (deep_cut s words a x) x.7 x.8

-- words that are no tree are refused once
one_no_tree : (tokens : List Token) (k l : Refusal) → NoTree tokens k → NoTree tokens l → k ≡ l
one_no_tree tokens k l (syntax m x) (syntax n y) =
    ap Syntax (x.on_line ∙ ap (line_at tokens) (one_syntax_rest Text (placed 0 tokens) x.front x.rest y.front y.rest x.stretch y.stretch) ∙ sym y.on_line)
one_no_tree tokens k l (syntax m x) (deep n y) = absurd (syntax_or_deep Text (placed 0 tokens) x.front x.rest y.rest x.stretch x.shallow y.too_deep)
one_no_tree tokens k l (deep m x) (syntax n y) = absurd (syntax_or_deep Text (placed 0 tokens) y.front y.rest x.rest y.stretch y.shallow x.too_deep)
one_no_tree tokens k l (deep m x) (deep n y) =
    ap Deep (x.on_line ∙ ap (line_at tokens) (one_deep_rest Text (placed 0 tokens) x.rest y.rest x.too_deep y.too_deep) ∙ sym y.on_line)

no_tree_or_tree : (tokens : List Token) (k : Refusal) (items : List Item) → NoTree tokens k → Derives (placed 0 tokens) (node Text items) → Shallow 0 Text (placed 0 tokens) → ⊥
no_tree_or_tree tokens k items (syntax m x) derived shallow = x.no_tree items derived
no_tree_or_tree tokens k items (deep m x) derived shallow = shallow_or_deep Text (placed 0 tokens) x.rest shallow x.too_deep

byte_or_token : (text : List ℕ) (m n : ℕ) → UnreadByte text m → UnreadToken text n → ⊥
byte_or_token text m n x y = x.2 (subst BeginsWord (sym (one_place text x.0 y.0 m n x.1 y.1).0) y.2)

-- words that can't be read are refused once
one_unread : (text : List ℕ) (k l : Refusal) → Unread text k → Unread text l → k ≡ l
one_unread text k l (byte m x) (byte n y) = ap Byte (one_place text x.0 y.0 m n x.1 y.1).1
one_unread text k l (token m x) (token n y) = ap BadToken (one_place text x.0 y.0 m n x.1 y.1).1
one_unread text k l (byte m x) (token n y) = absurd (byte_or_token text m n x y)
one_unread text k l (token m x) (byte n y) = absurd (byte_or_token text n m y x)

unread_or_words : (text : List ℕ) (k : Refusal) (tokens : List Token) → Unread text k → HasWords text tokens → ⊥
unread_or_words text k tokens (byte m x) has = read_or_stopped text tokens x.0 m has.words x.1
unread_or_words text k tokens (token m x) has = read_or_stopped text tokens x.0 m has.words x.1

pub same_words : (text : List ℕ) (a b : List Token) → HasWords text a → HasWords text b → a ≡ b
same_words text a b x y = one_list text a b x.words y.words

no_tree_or_has : (text : List ℕ) (tokens : List Token) (k : Refusal) (tree : Tree) → HasWords text tokens → NoTree tokens k → HasTree text tree → ⊥
no_tree_or_has text tokens k tree has none is =
    let same = same_words text tokens is.tokens has is.has_words in
    no_tree_or_tree is.tokens k tree.items (subst (λ (t : List Token). NoTree t k) same none) is.derived is.shallow

-- the rules give a program or a refusal
same_typed : (judged : Judged Program) (p q : Program) → judged ≡ Holds p → judged ≡ Holds q → p ≡ q
same_typed judged p q x y = let same : Holds p ≡ Holds q = sym x ∙ y in cc

one_typed : (tree : Tree) (p q : Program) → rules.IsProgramOf tree p → rules.IsProgramOf tree q → p ≡ q
one_typed tree p q x y = same_typed _ p q x.0 y.0

same_fault : (found : Option rules.Refused) (a b : rules.Refused) → found ≡ Some a → found ≡ Some b → a ≡ b
same_fault found a b x y = let same : Some a ≡ Some b = sym x ∙ y in cc

typed_or_fault : (found : Option rules.Refused) (a : rules.Refused) → found ≡ None → found ≡ Some a → ⊥
typed_or_fault found a x y = let wrong : None ≡ Some a = sym x ∙ y in cc

-- each function before the first that is too wide is not
first_wide_low : (p : Program) (m n : ℕ) → (x : FirstWide p.functions m) → (y : FirstWide p.functions n) → x.number ≤ y.number
first_wide_low p m n x y =
    let not_less : ¬ (y.number + 1 ≤ x.number) = λ less. (let narrow = x.narrow_before y.number y.function (omega (arith, less)) y.there in omega (arith, narrow, y.wide)) in
    let low = lt_of_not-le not_less in
    omega (arith, low)

one_wide : (p : Program) (m n : ℕ) → FirstWide p.functions m → FirstWide p.functions n → m ≡ n
one_wide p m n x y =
    let low = first_wide_low p m n x y in
    let high = first_wide_low p n m y x in
    let same : x.number ≡ y.number = omega (arith, low, high) in
    let there : Some x.function ≡ Some y.function = sym x.there ∙ ap (slice_get p.functions) same ∙ y.there in
    let function : x.function ≡ y.function = cc in
    x.on_line ∙ ap (λ (f : Function). f.line) function ∙ sym y.on_line

wide_or_narrow : (p : Program) (m : ℕ) → FirstWide p.functions m → ((k : ℕ) (f : Function) → slice_get p.functions k ≡ Some f → IsNarrow f) → ⊥
wide_or_narrow p m x narrow = let is = narrow x.number x.function x.there in omega (arith, is, x.wide)

pub one_too_much : (p : Program) (k l : Refusal) → TooMuch p k → TooMuch p l → k ≡ l
one_too_much p k l (variables m x) (variables n y) = ap Variables (one_wide p m n x y)
one_too_much p k l (variables m x) (points y) = absurd (wide_or_narrow p m x y.narrow)
one_too_much p k l (points x) (variables n y) = absurd (wide_or_narrow p n y x.narrow)
one_too_much p k l (points x) (points y) = refl

pub too_much_or_bounds : (p : Program) (k : Refusal) → TooMuch p k → IsWithinBounds p → ⊥
too_much_or_bounds p k (variables m x) within = wide_or_narrow p m x within.narrow
too_much_or_bounds p k (points x) within = let few = within.few_points in let many = x.many in omega (arith, few, many)

pub only_tree : (text : List ℕ) (tokens : List Token) (tree : Tree) → HasWords text tokens → Derives (placed 0 tokens) (node Text tree.items) → Shallow 0 Text (placed 0 tokens) → ((items : List Item) → Derives (placed 0 tokens) (node Text items) → items ≡ tree.items) → IsOnlyTree text tree
only_tree text tokens tree has derived shallow only = record {
  is_tree = record { tokens = tokens; has_words = has; derived = derived; shallow = shallow };
  only = λ other is. (let same = same_words text is.tokens tokens is.has_words has in
      ap (λ items. record { items = items }) (only other.items (subst (λ (t : List Token). Derives (placed 0 t) (node Text other.items)) same is.derived)));
}

only_typed : (text : List ℕ) (tree : Tree) (p q : Program) → IsOnlyTree text tree → rules.IsProgramOf tree p → HasProgram text q → q ≡ p
only_typed text tree p q only typed has = one_typed tree q p (subst (λ (t : Tree). rules.IsProgramOf t q) (only.only has.tree has.has_tree) has.typed) typed

-- each refusal of a text says how far it came
pub too_long_only : (text : List ℕ) → 1048576 < length text → IsOnlyRefusal text TooLong
too_long_only text long = record {
  refused = too_long long refl;
  only = by;
  not_accepted = λ p accepted. (let short = accepted.has_program.has_tree.has_words.short in omega (arith, long, short));
} where
  by : (other : Refusal) → Refused text other → other ≡ TooLong
  by other (too_long l is) = is
  by other (in_words short x) = absurd (omega (arith, long, short))
  by other (in_tree tokens has x) = absurd (let short = has.short in omega (arith, long, short))
  by other (in_rules tree fault has x is) = absurd (let short = has.has_words.short in omega (arith, long, short))
  by other (in_counts p has x) = absurd (let short = has.has_tree.has_words.short in omega (arith, long, short))

pub unread_only : (text : List ℕ) (k : Refusal) → length text ≤ 1048576 → Unread text k → IsOnlyRefusal text k
unread_only text k short unread = record {
  refused = in_words short unread;
  only = by;
  not_accepted = λ p accepted. unread_or_words text k _ unread accepted.has_program.has_tree.has_words;
} where
  by : (other : Refusal) → Refused text other → other ≡ k
  by other (too_long long is) = absurd (omega (arith, long, short))
  by other (in_words s x) = one_unread text other k x unread
  by other (in_tree tokens has x) = absurd (unread_or_words text k tokens unread has)
  by other (in_rules tree fault has x is) = absurd (unread_or_words text k _ unread has.has_words)
  by other (in_counts p has x) = absurd (unread_or_words text k _ unread has.has_tree.has_words)

pub no_tree_only : (text : List ℕ) (tokens : List Token) (k : Refusal) → HasWords text tokens → NoTree tokens k → IsOnlyRefusal text k
no_tree_only text tokens k has none = record {
  refused = in_tree tokens has none;
  only = by;
  not_accepted = λ p accepted. no_tree_or_has text tokens k _ has none accepted.has_program.has_tree;
} where
  by : (other : Refusal) → Refused text other → other ≡ k
  by other (too_long long is) = absurd (let short = has.short in omega (arith, long, short))
  by other (in_words s x) = absurd (unread_or_words text other tokens x has)
  by other (in_tree others is x) = one_no_tree tokens other k (subst (λ (t : List Token). NoTree t other) (same_words text others tokens is has) x) none
  by other (in_rules tree fault is x e) = absurd (no_tree_or_has text tokens k tree has none is)
  by other (in_counts p is x) = absurd (no_tree_or_has text tokens k _ has none is.has_tree)

pub rules_only : (text : List ℕ) (tree : Tree) (fault : rules.Refused) → IsOnlyTree text tree → rules.refusal tree ≡ Some fault → IsOnlyRefusal text (rule_refusal fault)
rules_only text tree fault only found = record {
  refused = in_rules tree fault only.is_tree found refl;
  only = by;
  not_accepted = λ p accepted. none accepted.has_program;
} where
  none : {p : Program} → HasProgram text p → ⊥
  none has = typed_or_fault (rules.refusal tree) fault (subst (λ (t : Tree). rules.refusal t ≡ None) (only.only has.tree has.has_tree) has.typed.1) found

  by : (other : Refusal) → Refused text other → other ≡ rule_refusal fault
  by other (too_long long is) = absurd (let short = only.is_tree.has_words.short in omega (arith, long, short))
  by other (in_words s x) = absurd (unread_or_words text other _ x only.is_tree.has_words)
  by other (in_tree tokens has x) = absurd (no_tree_or_has text tokens other tree has x only.is_tree)
  by other (in_rules t f has x is) = is ∙ ap rule_refusal (same_fault (rules.refusal tree) f fault (subst (λ (u : Tree). rules.refusal u ≡ Some f) (only.only t has) x) found)
  by other (in_counts p has x) = absurd (none has)

pub counts_only : (text : List ℕ) (tree : Tree) (p : Program) (k : Refusal) → IsOnlyTree text tree → rules.IsProgramOf tree p → TooMuch p k → IsOnlyRefusal text k
counts_only text tree p k only typed much = record {
  refused = in_counts p (record { tree = tree; has_tree = only.is_tree; typed = typed }) much;
  only = by;
  not_accepted = λ q accepted. too_much_or_bounds p k much (subst IsWithinBounds (only_typed text tree p q only typed accepted.has_program) accepted.bounds);
} where
  by : (other : Refusal) → Refused text other → other ≡ k
  by other (too_long long is) = absurd (let short = only.is_tree.has_words.short in omega (arith, long, short))
  by other (in_words s x) = absurd (unread_or_words text other _ x only.is_tree.has_words)
  by other (in_tree tokens has x) = absurd (no_tree_or_has text tokens other tree has x only.is_tree)
  by other (in_rules t f has x is) = absurd (typed_or_fault (rules.refusal tree) f typed.1 (subst (λ (u : Tree). rules.refusal u ≡ Some f) (only.only t has) x))
  by other (in_counts q has x) = one_too_much p other k (subst (λ (r : Program). TooMuch r other) (only_typed text tree p q only typed has) x) much

pub program_only : (text : List ℕ) (tree : Tree) (p : Program) → IsOnlyTree text tree → rules.IsProgramOf tree p → IsWithinBounds p → IsOnlyProgram text p
program_only text tree p only typed within = record {
  accepted = record { has_program = record { tree = tree; has_tree = only.is_tree; typed = typed }; bounds = within };
  only = λ other accepted. only_typed text tree p other only typed accepted.has_program;
  not_refused = by;
} where
  by : (k : Refusal) → Refused text k → ⊥
  by k (too_long long is) = let short = only.is_tree.has_words.short in omega (arith, long, short)
  by k (in_words s x) = unread_or_words text k _ x only.is_tree.has_words
  by k (in_tree tokens has x) = no_tree_or_has text tokens k tree has x only.is_tree
  by k (in_rules t f has x is) = typed_or_fault (rules.refusal tree) f typed.1 (subst (λ (u : Tree). rules.refusal u ≡ Some f) (only.only t has) x)
  by k (in_counts q has x) = too_much_or_bounds p k (subst (λ (r : Program). TooMuch r k) (only_typed text tree p q only typed has) x) within

-- a list of words has one tree at most
abbrev pub OneTree : Type 0
OneTree = (tokens : List Token) (a b : List Item) → Derives (placed 0 tokens) (node Text a) → Derives (placed 0 tokens) (node Text b) → a ≡ b

only_tree_of : OneTree → (text : List ℕ) (tree : Tree) → HasTree text tree → IsOnlyTree text tree
only_tree_of one text tree is = only_tree text is.tokens tree is.has_words is.derived is.shallow (λ items derived. one is.tokens items tree.items derived is.derived)

-- so a text that is accepted is one program, and is not refused
pub only_program : OneTree → (text : List ℕ) (p : Program) → Accepted text p → IsOnlyProgram text p
only_program one text p accepted = program_only text accepted.has_program.tree p (only_tree_of one text accepted.has_program.tree accepted.has_program.has_tree) accepted.has_program.typed accepted.bounds

-- and one that is refused is refused once
pub only_refusal : OneTree → (text : List ℕ) (k : Refusal) → Refused text k → IsOnlyRefusal text k
only_refusal one text k (too_long long is) = subst (IsOnlyRefusal text) (sym is) (too_long_only text long)
only_refusal one text k (in_words short unread) = unread_only text k short unread
only_refusal one text k (in_tree tokens has none) = no_tree_only text tokens k has none
only_refusal one text k (in_rules tree fault has found is) = subst (IsOnlyRefusal text) (sym is) (rules_only text tree fault (only_tree_of one text tree has) found)
only_refusal one text k (in_counts p has much) = counts_only text has.tree p k (only_tree_of one text has.tree has.has_tree) has.typed much

-- words have one tree
each_one : OneTree
each_one tokens a b x y = one_tree Text of_text x y

pub one_program : (text : List ℕ) (one other : Program) → Accepted text one → Accepted text other → one ≡ other
one_program text one other a b = (only_program each_one text other b).only one a

pub one_refusal : (text : List ℕ) (one other : Refusal) → Refused text one → Refused text other → one ≡ other
one_refusal text one other a b = (only_refusal each_one text other b).only one a

pub not_both : (text : List ℕ) (p : Program) (k : Refusal) → Accepted text p → Refused text k → ⊥
not_both text p k accepted refused = (only_program each_one text p accepted).not_refused k refused

-- a program by the rules that keeps within the bounds is the text's one program
pub typed_only : (text : List ℕ) (p : Program) → HasProgram text p → IsWithinBounds p → IsOnlyProgram text p
typed_only text p has within = only_program each_one text p (record { has_program = has; bounds = within })

-- and what it needs too much of is the text's one refusal
pub much_only : (text : List ℕ) (p : Program) (fault : CompileFault) → HasProgram text p → KeepsWithin {T = Unit {0}} p (Err fault) → IsReason text fault
much_only text p (faults.Refused k) has much = only_refusal each_one text k (in_counts p has much)
much_only text p faults.Memory has much = tt
