-- Functions by their fields.
use Rattle.std.proofs.Common.{◌≡◌, ℕ, suc, List, [], ◌∷◌, length, map, Option, refl, ap, ◌∙◌}
use Rattle.rc_core.specs.Types.{Ty}
use Rattle.rc_rlang.specs.RegionCode.{Access}
use Rattle.rc_emission.specs.StackCode.{Line}
use Rattle.rc_code.specs.declared.kind.Storage.{Storage}
use Rattle.rc_code.specs.declared.instruction.Instruction.{Instruction as Row}
use Rattle.rc_code.specs.declared.image.Function.{Function}
use Rattle.rc_numbering.specs.Numbered.{numbered_from}
use Rattle.rc_tables.specs.Placed.{placed_code}

abbrev pub function_made : ℕ → List Storage → Option Storage → List Row → List ℕ → Function
function_made parameters locals result code lines = record { parameters = parameters; locals = locals; result = result; code = code; lines = lines }

pub same_function : (n : ℕ) (locals locals' : List Storage) (result result' : Option Storage) (code code' : List Row) (lines lines' : List ℕ) → locals ≡ locals' → result ≡ result' → code ≡ code' → lines ≡ lines' → function_made n locals result code lines ≡ function_made n locals' result' code' lines'
same_function n locals locals' result result' code code' lines lines' a b c d =
    ap (λ x. function_made n x result code lines) a ∙ ap (λ x. function_made n locals' x code lines) b ∙ ap (λ x. function_made n locals' result' x lines) c ∙ ap (function_made n locals' result' code') d

pub placed_lines : (n : ℕ) (code : List Line) → map (λ (l : Line). l.line) (placed_code n code) ≡ map (λ (l : Line). l.line) code
placed_lines n [] = refl
placed_lines n (l ∷ code) = ap (λ ls. l.line ∷ ls) (placed_lines n code)

pub as_many_rows : (number : Ty → ℕ) (path : Access → ℕ) (at : ℕ) (code : List Line) → length (numbered_from number path at code) ≡ length code
as_many_rows number path at [] = refl
as_many_rows number path at (l ∷ code) = ap suc (as_many_rows number path (suc at) code)
