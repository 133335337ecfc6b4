-- A line is empty where its text is.
use Rattle.std.proofs.Common.{◌≡◌, ℕ, true, List, [], ◌∷◌, Option, Some, None, refl}
use Rattle.rc_answers.specs.Pieces.{all_numbered, begins_with_text}
use Rattle.rc_answers.specs.declared.numbered.Numbered.{Numbered}

pub empty_line : (text : List ℕ) (first second : Option Numbered) → begins_with_text text first ≡ true → text ≡ [] → all_numbered text first second ≡ []
empty_line [] None second begins is = refl
empty_line [] (Some n) second begins is = cc
empty_line (b ∷ text) first second begins is = cc

pub empty_text : (text : List ℕ) (first second : Option Numbered) → all_numbered text first second ≡ [] → text ≡ []
empty_text [] first second is = refl
empty_text (b ∷ text) None second is = is
empty_text (b ∷ text) (Some n) None is = cc
empty_text (b ∷ text) (Some n) (Some m) is = cc

-- a text that isn't empty may have a number behind it
pub begins : (text : List ℕ) (n : Numbered) → (text ≡ [] → ⊥) → begins_with_text text (Some n) ≡ true
begins [] n some = absurd (some refl)
begins (b ∷ text) n some = refl
