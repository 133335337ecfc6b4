-- A printed tree is read as itself, but for places.
use Rattle.std.proofs.Common.{ℕ, ◌≡◌, ◌+◌, List, [], ◌∷◌, map, refl, ap, sym, ◌∙◌, subst}
use Rattle.std.specs.Prelude.{All}
use Rattle.rc_syntax.specs.Tokens.{Word, Token}
use Rattle.rc_syntax.specs.Tree as t
use Rattle.rc_syntax.specs.Words.{Words}
use Rattle.rc_syntax.specs.Grammar as g
use Rattle.rc_syntax.specs.Grammar.{Placed, node, Derives, placed}
use Rattle.rc_syntax.specs.printing.Printing.{IsPrintable, words_in, on_first_line}
use Rattle.rc_syntax.specs.printing.Unplaced.{unplaced_item, words_at, ReadBack}
use Rattle.rc_syntax.specs.printing.TreeWords.{items_words}
use Rattle.rc_syntax.proofs.Printed.{printed_words, cut_printable}
use Rattle.rc_syntax.proofs.Replaced.{again, placed_words}
use Rattle.rc_syntax.proofs.PrintedExprs.{Prints, prints, anywhere}
use Rattle.rc_syntax.proofs.PrintedItems.{print_tree}
use Rattle.rc_syntax.proofs.PrintableTrees.{printable_tree}
use Rattle.rc_syntax.proofs.Unplacing.{items_twice}

-- The printed words of a tree are read as it.
pub words_read : (ws : List Placed) (a : List t.Item) → Derives ws (node g.Text a) → All IsPrintable (words_at ws) → ReadBack (words_at ws) a
words_read ws a d h =
    let x = again d (placed 0 (on_first_line (words_at ws))) (placed_words 0 (words_at ws)) in
    record { read = printed_words (words_at ws) h; tree = x.tree; derives = x.derives; same = x.same }

anywhere_words : (words : List Word) → words_at (anywhere words) ≡ words
anywhere_words [] = refl
anywhere_words (x ∷ words) = ap (λ z. x ∷ z) (anywhere_words words)

of_unplaced : (words : List Word) (a : List t.Item) → ReadBack words (map unplaced_item a) → ReadBack words a
of_unplaced words a r = record { read = r.read; tree = r.tree; derives = r.derives; same = sym (items_twice a) ∙ r.same }

printed_tree : (words : List Word) (a : List t.Item) → Prints g.Text words (map unplaced_item a) → All IsPrintable words → ReadBack words a
printed_tree words a (prints d) h =
    let e = anywhere_words words in
    let P : List Word → Type 0 = λ z. All IsPrintable z in
    let Q : List Word → Type 0 = λ z. ReadBack z (map unplaced_item a) in
    of_unplaced words a (subst Q e (words_read (anywhere words) (map unplaced_item a) d (subst P (sym e) h)))

pub tree_read : (ws : List Placed) (a : List t.Item) → Derives ws (node g.Text a) → All IsPrintable (words_at ws) → ReadBack (items_words a) a
tree_read ws a d h = printed_tree (items_words a) a (print_tree a d) (printable_tree ws a d h)

placed_tokens : (i : ℕ) (tokens : List Token) → words_at (placed i tokens) ≡ words_in tokens
placed_tokens i [] = refl
placed_tokens i (x ∷ tokens) = ap (λ z. x.word ∷ z) (placed_tokens (i + 1) tokens)

pub text_read : (text : List ℕ) (tokens : List Token) (a : List t.Item) → Words text tokens → Derives (placed 0 tokens) (node g.Text a) → ReadBack (items_words a) a
text_read text tokens a x d =
    let P : List Word → Type 0 = λ z. All IsPrintable z in
    tree_read (placed 0 tokens) a d (subst P (sym (placed_tokens 0 tokens)) (cut_printable x))
