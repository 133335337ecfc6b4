-- Code that grows at its front, kept the last instruction first.
use Rattle.std.proofs.Common.{◌≡◌, ℕ, List, [], ◌∷◌, ◌++◌, length, reverse, refl, sym, ap, ◌∙◌, append_assoc}
use Rattle.std.specs.Prelude.{slice_set}
use Rattle.std.proofs.lemmas.List.{map-append, reverse-append, reverse-reverse, length-reverse, length-map}
use Rattle.rc_emission.specs.StackCode.{Line}
use Rattle.rc_lines.specs.declared.instruction.Line.{Line as CodeLine}
use Rattle.rc_lines.specs.Bare.{line_of, lines_of}
use Rattle.rc_lines.proofs.Places.{set_between}
use Rattle.rc_program_code.specs.Onward.{onward}

pub put_front : (l l1 : List Line) (x : Line) → l1 ≡ l ++ x ∷ [] → reverse l1 ≡ x ∷ reverse l
put_front l l1 x e = ap reverse e ∙ reverse-append l (x ∷ [])

-- the last instruction of a piece comes in front first
pub moved : (piece piece1 : List CodeLine) (out out1 : List CodeLine) (x : CodeLine) → piece ≡ piece1 ++ x ∷ [] → out1 ≡ out ++ x ∷ [] → lines_of piece1 ++ onward out1 ≡ lines_of piece ++ onward out
moved piece piece1 out out1 x e f =
    ap (λ xs. lines_of piece1 ++ onward xs) f ∙ ap (λ xs. lines_of piece1 ++ reverse xs) (append_lines out) ∙ ap (λ xs. lines_of piece1 ++ xs) (reverse-append (lines_of out) (line_of x ∷ []))
    ∙ sym (append_assoc (lines_of piece1) (line_of x ∷ []) (onward out)) ∙ ap (λ xs. xs ++ onward out) (sym (append_lines piece1)) ∙ ap (λ xs. lines_of xs ++ onward out) (sym e)
  where
    append_lines : (xs : List CodeLine) → lines_of (xs ++ x ∷ []) ≡ lines_of xs ++ line_of x ∷ []
    append_lines [] = refl
    append_lines (y ∷ ys) = ap (λ ls. line_of y ∷ ls) (append_lines ys)

turned : (xs ys : List Line) (x : Line) → reverse (xs ++ x ∷ ys) ≡ reverse ys ++ x ∷ reverse xs
turned xs ys x = reverse-append xs (x ∷ ys) ∙ ap (λ l. l ++ reverse xs) (reverse-append (x ∷ []) ys) ∙ append_assoc (reverse ys) (x ∷ []) (reverse xs)

pub set_onward : (items : List CodeLine) (place : ℕ) (x : CodeLine) (before after : List Line) (left : Line) → onward items ≡ before ++ left ∷ after → length after ≡ place → onward (slice_set items place x) ≡ before ++ line_of x ∷ after
set_onward items place x before after left e n =
    ap reverse (set_between items place x (reverse after) (reverse before) left (sym (reverse-reverse (lines_of items)) ∙ ap reverse e ∙ turned before after left) (length-reverse after ∙ n))
    ∙ turned (reverse after) (reverse before) (line_of x) ∙ ap (λ l. l ++ line_of x ∷ reverse (reverse after)) (reverse-reverse before) ∙ ap (λ l. before ++ line_of x ∷ l) (reverse-reverse after)

pub onward_long : (items : List CodeLine) → length (onward items) ≡ length items
onward_long items = length-reverse (lines_of items) ∙ length-map items line_of

-- read from the first on
pub onward_read : (items : List CodeLine) → lines_of (reverse items) ≡ onward items
onward_read [] = refl
onward_read (x ∷ xs) = ap lines_of (reverse-append (x ∷ []) xs) ∙ map-append line_of (reverse xs) (x ∷ []) ∙ ap (λ l. l ++ line_of x ∷ []) (onward_read xs) ∙ sym (reverse-append (line_of x ∷ []) (lines_of xs))
