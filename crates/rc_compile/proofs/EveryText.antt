-- Every text is a program or is refused: each stage has an answer, whatever the bytes.
use Rattle.std.proofs.Common.{◌≡◌, ◌<◌, ◌≤◌, ◌⊎◌, ◌∙◌, ◌+◌, ℕ, zero, suc, List, [], ◌∷◌, ◌++◌, length, take, drop, get_or, Option, Some, None, Err, refl, sym, ap, subst, inl, inr, arith, append_assoc, length-append, slice_get}
use Rattle.std.proofs.Math.Seq.{drop-append_seam}
use Rattle.std.proofs.lemmas.List.{take-append-le}
use Rattle.std.proofs.lemmas.Grind.{common_steps}
use Rattle.rc_syntax.specs.Tokens.{Token}
use Rattle.rc_syntax.specs.Bytes.{line_behind}
use Rattle.rc_syntax.specs.Words.{Cut, IsStuck, StopsAt, end, piece}
use Rattle.rc_syntax.specs.Tree.{Tree}
use Rattle.rc_syntax.specs.Grammar.{Text, placed}
use Rattle.rc_syntax.specs.Place.{line_at}
use Rattle.rc_syntax.specs.reader.Look as class
use Rattle.rc_syntax.specs.reader.Look.{Class, Seen, class_of, look}
use Rattle.rc_syntax.specs.reader.Steps.{Answer, Accepts, Refuses, Sinks, entry, run}
use Rattle.rc_syntax.proofs.CutLaws.{look_reads, words_or_stop}
use Rattle.rc_syntax.proofs.Whole.{MeansAll, text_means}
use Rattle.rc_lexer.specs.Lexes.{Lexes}
use Rattle.rc_lexer.specs.Pieces.{fault_of}
use Rattle.rc_lexer.proofs.Lexed.{refusal}
use Rattle.rc_core.specs.Programs.{Function, Program}
use Rattle.rc_deletes.specs.Answer as rules
use Rattle.rc_deletes.specs.Items.{judged}
use Rattle.rc_deletes.specs.Judged.{Judged, Holds, Faulty}
use Rattle.rc_rlang.specs.Bounds.{AllNarrow, FirstWide, IsNarrow, IsWithinBounds}
use Rattle.rc_rlang.specs.Points.{program_points}
use Rattle.rc_rlang.specs.Variables.{region_variables}
use Rattle.rc_compile.specs.Acceptance.{Accepted, HasProgram, HasTree, HasWords, Refused, TooMuch, Unread, byte, deep, in_counts, in_rules, in_tree, in_words, points, rule_refusal, syntax, token, too_long, variables}
use Rattle.rc_compile.specs.declared.refusal.Refusal.{Refusal}
use Rattle.rc_compile.specs.declared.refusal.Refusal.TheVariants.{TooLong, Byte, Token as BadToken, Syntax, Deep, Variables, Points}

abbrev IsDecided : List ℕ → Type 0
IsDecided text = ((program : Program) × Accepted text program) ⊎ ((refusal : Refusal) × Refused text refusal)

le_or_more : (n m : ℕ) → (n ≤ m) ⊎ (m < n)
le_or_more zero m = inl (omega arith)
le_or_more (suc n) zero = inr (omega arith)
le_or_more (suc n) (suc m) = by (le_or_more n m) where
  by : (n ≤ m) ⊎ (m < n) → (suc n ≤ suc m) ⊎ (suc m < suc n)
  by (inl h) = inl (omega (arith, h))
  by (inr h) = inr (omega (arith, h))

-- of functions one is the first that is too wide, or none is
wide_or_narrow : (fs : List Function) → ((line : ℕ) × FirstWide fs line) ⊎ AllNarrow fs
wide_or_narrow [] = inr (λ k f e. absurd (nothing k f e)) where
  nothing : (k : ℕ) (f : Function) → slice_get {X = Function} [] k ≡ Some f → ⊥
  nothing k f e = cc
wide_or_narrow (f ∷ fs) = by (le_or_more (region_variables f) 128) (wide_or_narrow fs) where
  before_the_next : IsNarrow f → (n : ℕ) → ((k : ℕ) (g : Function) → k < n → slice_get fs k ≡ Some g → IsNarrow g) → (k : ℕ) (g : Function) → k < suc n → slice_get (f ∷ fs) k ≡ Some g → IsNarrow g
  before_the_next narrow n before zero g low e = let same : f ≡ g = cc in subst IsNarrow same narrow
  before_the_next narrow n before (suc k) g low e = before k g (omega (arith, low)) e

  each : IsNarrow f → AllNarrow fs → AllNarrow (f ∷ fs)
  each narrow all zero g e = let same : f ≡ g = cc in subst IsNarrow same narrow
  each narrow all (suc k) g e = all k g e

  by : (region_variables f ≤ 128) ⊎ (128 < region_variables f) → ((line : ℕ) × FirstWide fs line) ⊎ AllNarrow fs → ((line : ℕ) × FirstWide (f ∷ fs) line) ⊎ AllNarrow (f ∷ fs)
  by (inr wide) later = inl (f.line, record { number = 0; function = f; there = refl; wide = wide; on_line = refl; narrow_before = λ k g low e. absurd (omega (arith, low)) })
  by (inl narrow) (inl (line, first)) = inl (line, record { number = suc first.number; function = first.function; there = first.there; wide = first.wide; on_line = first.on_line; narrow_before = before_the_next narrow first.number first.narrow_before })
  by (inl narrow) (inr all) = inr (each narrow all)

-- a program needs no more than it may, or too much
pub fits_or_too_much : (program : Program) → IsWithinBounds program ⊎ ((refusal : Refusal) × TooMuch program refusal)
fits_or_too_much program = by (wide_or_narrow program.functions) (le_or_more (program_points program) 65536) where
  by : ((line : ℕ) × FirstWide program.functions line) ⊎ AllNarrow program.functions → (program_points program ≤ 65536) ⊎ (65536 < program_points program) → IsWithinBounds program ⊎ ((refusal : Refusal) × TooMuch program refusal)
  by (inl (line, first)) few = inr (Variables line, variables line first)
  by (inr narrow) (inl few) = inl (record { narrow = narrow; few_points = few })
  by (inr narrow) (inr many) = inr (Points, points (record { narrow = narrow; many = many }))

-- so the text is accepted as this program, or is refused
counts_decided : (text : List ℕ) (program : Program) → HasProgram text program → IsDecided text
counts_decided text program has = by (fits_or_too_much program) where
  by : IsWithinBounds program ⊎ ((refusal : Refusal) × TooMuch program refusal) → IsDecided text
  by (inl bounds) = inl (program, record { has_program = has; bounds = bounds })
  by (inr (refusal, much)) = inr (refusal, in_counts program has much)

-- a tree has a program, or the rules refuse it
rules_decided : (text : List ℕ) (tree : Tree) → HasTree text tree → IsDecided text
rules_decided text tree has = by (rules.refusal tree) refl (judged tree) refl where
  faulty : (found : Judged Program) → judged tree ≡ found → rules.refusal tree ≡ rules.first_of tree found
  faulty found is = ap (rules.first_of tree) is

  by : (o : Option rules.Refused) → rules.refusal tree ≡ o → (found : Judged Program) → judged tree ≡ found → IsDecided text
  by (Some fault) refused found is = inr (rule_refusal fault, in_rules tree fault has refused refl)
  by None none (Holds program) is = counts_decided text program (record { tree = tree; has_tree = has; typed = (is, none) })
  by None none (Faulty f fs) is = (let e : rules.refusal tree ≡ Some (rules.at_node f.refusal f.at.line) = faulty (Faulty f fs) is in let wrong : None ≡ Some (rules.at_node f.refusal f.at.line) = sym none ∙ e in absurd cc)

-- words are a tree, or stop to be one, or are too deep
tree_decided : (text : List ℕ) (tokens : List Token) → HasWords text tokens → IsDecided text
tree_decided text tokens has = by (run 0 (entry Text) (placed 0 tokens)) (text_means (placed 0 tokens)) where
  by : (a : Answer Text) → MeansAll (placed 0 tokens) a → IsDecided text
  by (Accepts items []) (derived, shallow) = rules_decided text (record { items = items }) (record { tokens = tokens; has_words = has; derived = derived; shallow = shallow })
  by (Accepts items (p ∷ rest)) (front, stretch, shallow, none) = inr (Syntax (line_at tokens (p ∷ rest)), in_tree tokens has (syntax (line_at tokens (p ∷ rest)) (record { front = front; rest = p ∷ rest; stretch = stretch; shallow = shallow; no_tree = none; on_line = refl })))
  by (Refuses rest) (front, stretch, shallow, none) = inr (Syntax (line_at tokens rest), in_tree tokens has (syntax (line_at tokens rest) (record { front = front; rest = rest; stretch = stretch; shallow = shallow; no_tree = none; on_line = refl })))
  by (Sinks rest) sunk = inr (Deep (line_at tokens rest), in_tree tokens has (deep (line_at tokens rest) (record { rest = rest; too_deep = sunk; on_line = refl })))

-- what was read and what is left are the text
whole : {before text read rest : List ℕ} {tokens : List Token} → Cut before text tokens read rest → read ++ rest ≡ before ++ text
whole end = refl
whole {before = before} (piece {bytes = bytes} {middle = middle} reads cut) = whole cut ∙ append_assoc before bytes middle ∙ ap (λ z. before ++ z) (sym reads.cut)

nothing_seen : (read rest : List ℕ) → IsStuck read rest → look read rest ≡ None
nothing_seen read rest stuck = by (look read rest) refl where
  by : (o : Option Seen) → look read rest ≡ o → o ≡ None
  by None is = refl
  by (Some x) is = (let reads = look_reads read rest x is in absurd (stuck (take x.0 rest) (drop x.0 rest) x.1 reads.cut reads.piece))

unread_of : (text : List ℕ) (line : ℕ) (c : Class) → Lexes text (Err (fault_of c line)) → (k : Refusal) × Unread text k
unread_of text line class.digit x = (BadToken line, token line x.1)
unread_of text line class.quote x = (BadToken line, token line x.1)
unread_of text line class.double_quote x = (BadToken line, token line x.1)
unread_of text line class.slash x = (BadToken line, token line x.1)
unread_of text line class.blank x = (Byte line, byte line x.1)
unread_of text line class.letter x = (Byte line, byte line x.1)
unread_of text line class.hash x = (Byte line, byte line x.1)
unread_of text line class.other x = (Byte line, byte line x.1)

-- a text with an unread place is refused there
stop_decided : (text : List ℕ) (b line : ℕ) → length text ≤ 1048576 → StopsAt text b line → (k : Refusal) × Unread text k
stop_decided text b line short stops =
    let left = b ∷ stops.others in
    let all : text ≡ stops.read ++ left = sym (whole stops.cut) in
    let at = length stops.read in
    let front : stops.read ≡ take at text = sym (ap (take at) all ∙ take-append-le at stops.read left (omega arith) ∙ grind (arith, common_steps)) in
    let back : left ≡ drop at text = sym (ap (drop at) all ∙ drop-append_seam stops.read left) in
    let long : length text ≡ at + length left = ap length all ∙ length-append stops.read left in
    let P : List ℕ → Type 0 = λ z. Cut [] text stops.tokens z left in
    let Q : List ℕ → Type 0 = λ z. Cut [] text stops.tokens (take at text) z in
    let none : look (take at text) (drop at text) ≡ None = ap (λ z. look z (drop at text)) (sym front) ∙ ap (look stops.read) (sym back) ∙ nothing_seen stops.read left stops.stuck in
    unread_of text line (class_of (get_or text at 0)) (refusal text at line stops.tokens (omega (arith, long)) short (stops.on_line ∙ ap line_behind front) (subst Q back (subst P front stops.cut)) none)

pub decided : (text : List ℕ) → IsDecided text
decided text = by_length (le_or_more (length text) 1048576) where
  by_words : length text ≤ 1048576 → ((tokens : List Token) × Cut [] text tokens text []) ⊎ ((b : ℕ) × (line : ℕ) × StopsAt text b line) → IsDecided text
  by_words short (inl (tokens, words)) = tree_decided text tokens (record { short = short; words = words })
  by_words short (inr (b, line, stops)) = (let unread = stop_decided text b line short stops in inr (unread.0, in_words short unread.1))

  by_length : (length text ≤ 1048576) ⊎ (1048576 < length text) → IsDecided text
  by_length (inr long) = inr (TooLong, too_long long refl)
  by_length (inl short) = by_words short (words_or_stop text)
