-- Places in lists of instructions.
use Rattle.std.proofs.Common.{◌≡◌, ◌-◌, ℕ, suc, List, [], ◌∷◌, ◌++◌, length, refl, sym, ap, ◌∙◌, arith}
use Rattle.std.specs.Prelude.{slice_set}
use Rattle.std.proofs.lemmas.List.{map-set, set_at, length-map, length-append}
use Rattle.rc_emission.specs.StackCode.{Line}
use Rattle.rc_lines.specs.declared.instruction.Line.{Line as CodeLine}
use Rattle.rc_lines.specs.Bare.{line_of, lines_of}

pub set_between : (items : List CodeLine) (place : ℕ) (x : CodeLine) (before after : List Line) (left : Line) → lines_of items ≡ before ++ left ∷ after → length before ≡ place → lines_of (slice_set items place x) ≡ before ++ line_of x ∷ after
set_between items place x before after left e h = map-set line_of items place x ∙ ap (λ ls. slice_set ls place (line_of x)) e ∙ set_at before left after (line_of x) place h

pub length_behind : (items : List CodeLine) (place : ℕ) (before after : List Line) (left : Line) → lines_of items ≡ before ++ left ∷ after → length before ≡ place → length items - place - 1 ≡ length after
length_behind items place before after left e h =
    let a = sym (length-map items line_of) ∙ ap length e ∙ length-append before (left ∷ after) in
    let b : length (left ∷ after) ≡ suc (length after) = refl in
    omega (arith, a, b, h)

-- one line more
pub length_on : (old new : List CodeLine) (x : Line) → lines_of new ≡ lines_of old ++ x ∷ [] → suc (length old) ≡ length new
length_on old new x e =
    let a = sym (length-map new line_of) ∙ ap length e ∙ length-append (lines_of old) (x ∷ []) in
    let b = length-map old line_of in
    let u : length (x ∷ []) ≡ 1 = refl in
    omega (arith, a, b, u)
