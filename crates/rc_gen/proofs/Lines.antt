-- Lines behind a text.
use Rattle.std.proofs.Common.{◌≡◌, ◌∙◌, ◌+◌, ◌%◌, ℕ, List, [], ◌++◌, map, get_or, sym, ap, append-nil, append_assoc, arith}
use Rattle.std.specs.List.{range_with_len}
use Rattle.std.proofs.lemmas.Grind.{flat_map-append}
use Rattle.std.proofs.lemmas.List.{flat_map_more}
use Rattle.std.proofs.lemmas.List.FromFn.{map-range_with_len_more}
use Rattle.rc_gen.specs.Program.{calls, form, forms, main, main_begins, main_ends}
use Rattle.rc_gen.specs.Template.{line_of, text_of}

-- a text with the lines of the first places, and then the line of the next place
pub one_line_more : (line : ℕ → List ℕ) (k : ℕ) (start before after : List ℕ) → before ≡ start ++ text_of (map line (range_with_len 0 k)) → after ≡ before ++ line_of (line k) → after ≡ start ++ text_of (map line (range_with_len 0 (k + 1)))
one_line_more line k start before after so_far next =
    next
    ∙ ap (λ text. text ++ line_of (line k)) so_far
    ∙ flat_map_more line_of start (map line (range_with_len 0 k)) (line k)
    ∙ ap (λ lines. start ++ text_of lines) (sym (map-range_with_len_more line 0 k k (omega arith)))

pub in_parts : (text : List ℕ) (a b c : List (List ℕ)) → text ++ text_of (a ++ b ++ c) ≡ text ++ text_of a ++ text_of b ++ text_of c
in_parts text a b c = simp (flat_map-append, append_assoc)

pub main_in_parts : (n count : ℕ) (start first second third : List ℕ) → first ≡ start ++ line_of main_begins → second ≡ first ++ text_of (calls n count) → third ≡ second ++ line_of main_ends → third ≡ start ++ text_of (main n count)
main_in_parts n count start first second third e f g =
    g ∙ ap (λ text. text ++ line_of main_ends) (f ∙ ap (λ text. text ++ text_of (calls n count)) e) ∙ simp (flat_map-append, append_assoc, append-nil)

pub form_at : (i k : ℕ) → i % 4 ≡ k → form i ≡ get_or forms k []
form_at i k e = ap (λ j. get_or forms j []) e
