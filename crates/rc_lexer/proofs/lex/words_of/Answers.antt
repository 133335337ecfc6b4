use Rattle.std.proofs.Common.{ℕ, List, ◌≡◌, ◌≤◌, ◌+◌, ◌++◌, [], length, take, drop, None, Err, refl, ap, sym, ◌∙◌, subst, arith, rules, length-take}
use Rattle.std.specs.Prelude.{◌==◌, count_by}
use Rattle.rc_syntax.specs.Tokens.{Token}
use Rattle.rc_syntax.specs.WordShapes.{tokens_of}
use Rattle.rc_syntax.specs.Words.{Cut, end, with_line}
use Rattle.rc_syntax.specs.reader.Look.{Seen, look}
use Rattle.rc_lexer.specs.declared.fault.LexFault.{LexFault}
use Rattle.rc_lexer.specs.Shapes.{word_in}
use Rattle.rc_lexer.specs.Pieces.{piece_in}
use Rattle.rc_lexer.specs.Lexes.{Lexes}
use Rattle.rc_lexer.proofs.Lexed.{cut_on, split_within, lines_on, refusal}
use Rattle.rc_lexer.proofs.lex.words_of.Goals as goal

pub pieces-init : goal.pieces-init
pieces-init c = record { within = omega arith; low = omega arith; line = refl; cut = rw c.new-tokens.ensures.items end }

pub returns-in_default : goal.returns-in_default
returns-in_default c =
    let text = c.args.text.now in
    let at = c.pieces.at in
    let n : look (take at text) (drop at text) ≡ None =
    ap (λ z. look z (drop at text)) (sym c.split_at.ensures.front) ∙ ap (look c.split_at.result.0.now) (sym c.split_at.ensures.back) ∙ sym c.in_ok-piece.ensures.ok ∙ ap piece_in c.in_default.is in
    let P : LexFault → Type 0 = λ z. Lexes text (Err z) in
    subst P (sym c.fault_at.ensures) (refusal text at c.pieces.line (tokens_of c.pieces.tokens.items) (omega (arith, c.pieces-test.true)) c.requires c.pieces.invariant.line c.pieces.invariant.cut n)

pub slice_bounds-line_feeds-end : goal.slice_bounds-line_feeds-end
slice_bounds-line_feeds-end c =
    let text = c.args.text.now in
    let at = c.pieces.at in
    let x : Seen = (c.in-Some.piece.length, word_in c.in-Some.piece.word) in
    let w = split_within text c.split_at.result.0.now c.split_at.result.1.now at x (omega (arith, c.pieces-test.true)) c.split_at.ensures.front c.split_at.ensures.back (sym c.in_ok-piece.ensures.ok ∙ ap piece_in c.in-Some.is) in
    let b : c.in-Some.piece.length ≤ length c.split_at.result.1.now = omega (arith, w.2, c.split_at.ensures.back_len) in
    search (rules, b)

pub overflow_add-at : goal.overflow_add-at
overflow_add-at c =
    let text = c.args.text.now in
    let at = c.pieces.at in
    let x : Seen = (c.in-Some.piece.length, word_in c.in-Some.piece.word) in
    let w = split_within text c.split_at.result.0.now c.split_at.result.1.now at x (omega (arith, c.pieces-test.true)) c.split_at.ensures.front c.split_at.ensures.back (sym c.in_ok-piece.ensures.ok ∙ ap piece_in c.in-Some.is) in
    omega (arith, w.2, c.requires)

pub pieces-smaller : goal.pieces-smaller
pieces-smaller c =
    let text = c.args.text.now in
    let at = c.pieces.at in
    let x : Seen = (c.in-Some.piece.length, word_in c.in-Some.piece.word) in
    let w = split_within text c.split_at.result.0.now c.split_at.result.1.now at x (omega (arith, c.pieces-test.true)) c.split_at.ensures.front c.split_at.ensures.back (sym c.in_ok-piece.ensures.ok ∙ ap piece_in c.in-Some.is) in
    omega (arith, w.1, w.2)

pub pieces-preserved : goal.pieces-preserved
pieces-preserved c =
    let text = c.args.text.now in
    let at = c.pieces.at in
    let x : Seen = (c.in-Some.piece.length, word_in c.in-Some.piece.word) in
    let w = split_within text c.split_at.result.0.now c.split_at.result.1.now at x (omega (arith, c.pieces-test.true)) c.split_at.ensures.front c.split_at.ensures.back (sym c.in_ok-piece.ensures.ok ∙ ap piece_in c.in-Some.is) in
    let n = c.in-Some.piece.length in
    let more : tokens_of c.push_word.new.tokens.items ≡ tokens_of c.pieces.tokens.items ++ with_line c.pieces.line (word_in c.in-Some.piece.word) [] = c.in_ok-push_word.ensures.ok in
    let l : c.line_feeds.result ≡ count_by (λ b. b == 10) (take n (drop at text)) = c.line_feeds.ensures.count ∙ ap (λ z. count_by (λ b. b == 10) (take n z)) c.split_at.ensures.back in
    let P : List Token → Type 0 = λ z. Cut [] text z (take (at + n) text) (drop (at + n) text) in
    let Q : ℕ → Type 0 = λ z. Cut [] text (tokens_of c.pieces.tokens.items ++ with_line z (word_in c.in-Some.piece.word) []) (take (at + n) text) (drop (at + n) text) in
    record {
      within = w.2;
      low = omega (arith, c.line_feeds.ensures.low, length-take n c.split_at.result.1.now);
      line = omega (arith, lines_on text at n, c.pieces.invariant.line, l);
      cut = subst P (sym more) (subst Q (sym c.pieces.invariant.line) (cut_on text at (tokens_of c.pieces.tokens.items) x c.pieces.invariant.cut w.0));
    }
