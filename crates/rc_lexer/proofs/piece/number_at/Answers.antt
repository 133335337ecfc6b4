use Rattle.std.proofs.Common.{◌≡◌, ◌+◌, take, drop, Some, None, true, false, cond, ap, sym, ◌∙◌}
use Rattle.std.specs.Prelude.{◌==◌}
use Rattle.std.specs.List.{prefix_len}
use Rattle.rc_syntax.specs.Bytes.{in_name, begins}
use Rattle.rc_syntax.specs.WordShapes.{word_of}
use Rattle.rc_syntax.specs.reader.Look.{found_word, number_word}
use Rattle.rc_lexer.specs.Shapes.{word_in}
use Rattle.rc_lexer.proofs.Bodies.{whole_rest}
use Rattle.rc_lexer.proofs.Places.{number_from}
use Rattle.rc_lexer.proofs.piece.number_at.Goals as goal

pub returns-then-stands_at : goal.returns-then-stands_at
returns-then-stands_at c =
    let text = c.args.text.now in
    let n = 1 + c.run_len-length.result in
    let e = number_from text n c.requires (ap (λ z. 1 + z) (c.run_len-length.ensures.value ∙ ap (prefix_len in_name) (whole_rest text 1))) in
    let f : begins (λ z. z == 46) (drop n text) ≡ true = sym c.stands_at.ensures ∙ c.if-stands_at.true in
    sym (e ∙ ap (λ z. cond z None (found_word n (number_word (take n text)))) f)

pub returns-in-Some : goal.returns-in-Some
returns-in-Some c =
    let text = c.args.text.now in
    let n = 1 + c.run_len-length.result in
    let e = number_from text n c.requires (ap (λ z. 1 + z) (c.run_len-length.ensures.value ∙ ap (prefix_len in_name) (whole_rest text 1))) in
    let f : begins (λ z. z == 46) (drop n text) ≡ false = sym c.stands_at.ensures ∙ c.if-stands_at.false in
    let g : number_word (take n text) ≡ Some (word_of c.in-Some.word) = sym c.number_word.ensures ∙ ap word_in c.in-Some.is in
    sym (e ∙ ap (λ z. cond z None (found_word n (number_word (take n text)))) f ∙ ap (found_word n) g)

pub returns-in-None : goal.returns-in-None
returns-in-None c =
    let text = c.args.text.now in
    let n = 1 + c.run_len-length.result in
    let e = number_from text n c.requires (ap (λ z. 1 + z) (c.run_len-length.ensures.value ∙ ap (prefix_len in_name) (whole_rest text 1))) in
    let f : begins (λ z. z == 46) (drop n text) ≡ false = sym c.stands_at.ensures ∙ c.if-stands_at.false in
    let g : number_word (take n text) ≡ None = sym c.number_word.ensures ∙ ap word_in c.in-None.is in
    sym (e ∙ ap (λ z. cond z None (found_word n (number_word (take n text)))) f ∙ ap (found_word n) g)
