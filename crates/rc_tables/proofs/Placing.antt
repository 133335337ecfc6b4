-- A function's bare code, with its steps back in place, becomes what the function's code becomes.
use Rattle.std.proofs.Common.{◌≡◌, ◌<◌, ◌+◌, ◌-◌, ℕ, suc, List, [], ◌∷◌, ◌++◌, length, map, take, get_or, refl, sym, ap, ◌∙◌, arith}
use Rattle.std.proofs.lemmas.List.{length-map, length-take-le, map_push}
use Rattle.std.specs.Prelude.{false}
use Rattle.std.specs.Option.{option_map}
use Rattle.std.specs.List.{AllByRecursion as Every}
use Rattle.rc_core.specs.Types.{Ty}
use Rattle.rc_rlang.specs.RegionCode.{Access, Routine, Rlang}
use Rattle.rc_emission.specs.StackCode as To
use Rattle.rc_emission.specs.StackCode.{Line, StackFunction}
use Rattle.rc_code.specs.declared.opcode.Jump.TheVariants as jump
use Rattle.rc_code.specs.declared.instruction.Instruction.{Instruction as Row}
use Rattle.rc_code.specs.declared.instruction.Instruction.TheVariants as row
use Rattle.rc_code.specs.declared.image.Function.{Function}
use Rattle.rc_lines.specs.Bare.{bare_access, bare, bare_line, bare_code, lines_of, line_of}
use Rattle.rc_lines.specs.declared.instruction.Line.{Line as CodeLine}
use Rattle.rc_lines.specs.declared.function_code.FunctionCode.{FunctionCode}
use Rattle.rc_lines.specs.ProgramCode.{bare_function, function_of as code_function, IsFunctionCode}
use Rattle.rc_numbering.specs.Names.{stack_of}
use Rattle.rc_numbering.specs.Numbered.{numbered, numbered_from, function_of, storage_of}
use Rattle.rc_tables.proofs.Taken.{map_more}
use Rattle.rc_tables.specs.Placed.{placed, placed_line, placed_code, in_place, BackFits}

module _ (number : Ty → ℕ) (path : Access → ℕ) where
  numbered_more : (at : ℕ) (code : List Line) (l : Line) → numbered_from number path at (code ++ l ∷ []) ≡ numbered_from number path at code ++ numbered number path (at + length code) l.instruction ∷ []
  numbered_more at [] l = let e : at ≡ at + 0 = omega arith in ap (λ n. numbered number path n l.instruction ∷ []) e
  numbered_more at (m ∷ code) l =
      ap (λ rows. numbered number path at m.instruction ∷ rows) (numbered_more (suc at) code l)
      ∙ (let e : suc at + length code ≡ at + suc (length code) = omega arith in ap (λ n. numbered number path at m.instruction ∷ (numbered_from number path (suc at) code ++ numbered number path n l.instruction ∷ [])) e)

  -- a step of a walk over a function's lines
  pub line_step : (total : ℕ) (lines : List CodeLine) (i : ℕ) (x : CodeLine) (rows now : List Row) → i < length lines → x ≡ get_or lines i x → rows ≡ numbered_from number path 0 (placed_code total (lines_of (take i lines))) → now ≡ rows ++ numbered number path i (placed total (line_of x).instruction) ∷ [] → now ≡ numbered_from number path 0 (placed_code total (lines_of (take (i + 1) lines)))
  line_step total lines i x rows now h q e n =
      let front : List Line = placed_code total (lines_of (take i lines)) in
      let l : 0 + length front ≡ i = omega (arith, length-map (lines_of (take i lines)) (placed_line total), length-map (take i lines) line_of, length-take-le i lines (omega (arith, h))) in
      n ∙ ap (λ rs. rs ++ numbered number path i (placed total (line_of x).instruction) ∷ []) e
      ∙ ap (λ k. numbered_from number path 0 front ++ numbered number path k (placed total (line_of x).instruction) ∷ []) (sym l)
      ∙ sym (numbered_more 0 front (placed_line total (line_of x)))
      ∙ ap (numbered_from number path 0) (sym (ap (placed_code total) (map_more lines i x h q line_of) ∙ map_push (placed_line total) (lines_of (take i lines)) (line_of x)))

  module _ (blind : (a : Access) → path (bare_access a) ≡ path a) where
    row_same : (n at : ℕ) (i : To.Instruction) → BackFits n i → numbered number path at (placed n (bare n i)) ≡ numbered number path at i
    row_same m at (To.number s n) fits = refl
    row_same m at (To.null ty) fits = refl
    row_same m at (To.global g) fits = refl
    row_same m at (To.get x) fits = refl
    row_same m at (To.set x ty) fits = refl
    row_same m at (To.arithmetic o s) fits = refl
    row_same m at (To.unary o s) fits = refl
    row_same m at To.zero_test fits = refl
    row_same m at (To.null_test ty) fits = refl
    row_same m at (To.same ty) fits = refl
    row_same m at (To.convert to) fits = refl
    row_same m at (To.move ty s d) fits = refl
    row_same m at (To.load a) fits = ap row.Load (blind a)
    row_same m at (To.store a) fits = ap (λ p. row.Store p false) (blind a)
    row_same m at To.new_region fits = refl
    row_same m at To.new_subregion fits = refl
    row_same m at (To.region_of ty) fits = refl
    row_same m at (To.allocate ty layout) fits = refl
    row_same m at (To.allocate_array ty layout) fits = refl
    row_same m at (To.delete pins) fits = refl
    row_same m at (To.call f tys pins) fits = refl
    row_same m at (To.perform f tys pins) fits = refl
    row_same m at (To.leave tys) fits = refl
    row_same m at To.putchar fits = refl
    row_same m at To.getchar fits = refl
    row_same m at (To.jump n) fits = refl
    row_same m at (To.jump_zero n) fits = refl
    row_same m at (To.back to) fits = let e : m - (m - to) ≡ to = omega (arith, fits) in ap (row.Jump jump.Back) e
    row_same m at To.pop fits = refl

    rows_same : (n at : ℕ) (code : List Line) → Every (λ (l : Line). BackFits n l.instruction) code → numbered_from number path at (placed_code n (bare_code n code)) ≡ numbered_from number path at code
    rows_same n at [] fit = refl
    rows_same n at (l ∷ code) fit =
        ap (λ r. r ∷ numbered_from number path (suc at) (placed_code n (bare_code n code))) (row_same n at l.instruction fit.0)
        ∙ ap (λ rs. numbered number path at l.instruction ∷ rs) (rows_same n (suc at) code fit.1)

    lines_same : (n : ℕ) (code : List Line) → map (λ (l : Line). l.line) (placed_code n (bare_code n code)) ≡ map (λ (l : Line). l.line) code
    lines_same n [] = refl
    lines_same n (l ∷ code) = ap (λ ls. l.line ∷ ls) (lines_same n code)

    bare_same : (f : Routine) (s : StackFunction) → Every (λ (l : Line). BackFits (length s.code) l.instruction) s.code → function_of number path (in_place (bare_function s)) f ≡ function_of number path s f
    bare_same f s fit =
        let n = length s.code in
        let made : List Row → List ℕ → Function = λ code lines. record { parameters = f.parameters; locals = map (storage_of number path) s.locals; result = option_map (storage_of number path) f.result; code = code; lines = lines } in
        let as_long : length (bare_code n s.code) ≡ n = length-map s.code (bare_line n) in
        ap (λ m. made (numbered_from number path 0 (placed_code m (bare_code n s.code))) (map (λ (l : Line). l.line) (placed_code m (bare_code n s.code)))) as_long
        ∙ ap (λ c. made c (map (λ (l : Line). l.line) (placed_code n (bare_code n s.code)))) (rows_same n 0 s.code fit)
        ∙ ap (made (numbered_from number path 0 s.code)) (lines_same n s.code)

    -- a function's code becomes what the function's definition becomes
    pub function_same : (r : Rlang) (f : Routine) (c : FunctionCode) → IsFunctionCode r f c → Every (λ (l : Line). BackFits (length (stack_of r f).code) l.instruction) (stack_of r f).code → function_of number path (in_place (code_function c)) f ≡ function_of number path (stack_of r f) f
    function_same r f c h fit = ap (λ s. function_of number path (in_place s) f) h ∙ bare_same f (stack_of r f) fit
