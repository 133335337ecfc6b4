-- An image with other marks is the same but for these.
use Rattle.std.proofs.Common.{◌≡◌, ◌∙◌, ℕ, zero, suc, ◌+◌, ◌<◌, Bool, true, false, List, [], ◌∷◌, ◌++◌, length, map, drop, take, get_or, set, refl, sym, ap, arith, append_assoc}
use Rattle.std.specs.List.{AllByRecursion as Every}
use Rattle.std.proofs.lemmas.List.{length-take-le, take_more, drop_more, get_or_at, set_at}
use Rattle.rc_code.specs.declared.opcode.Simple.TheVariants as simple
use Rattle.rc_code.specs.declared.instruction.Instruction.{Instruction}
use Rattle.rc_code.specs.declared.instruction.Instruction.TheVariants as instruction
use Rattle.rc_code.specs.declared.image.Function.{Function}
use Rattle.rc_code.specs.declared.image.Parts.{Parts}
use Rattle.rc_code.specs.Image.{InstructionFits, FunctionFits, FieldsFit}
use Rattle.rc_code.specs.Running.{reading_of, function_at, no_function}
use Rattle.rc_code.specs.Soundness.{instruction_at}
use Rattle.rc_loader.specs.Unmarked.{unmarked_function, unmarked_instruction}
use Rattle.rc_seal.specs.Marking.{marked_instruction, marked_code, marked_function, marked_functions, with_marks, IsMarked}

behind : {A : Type 0} (xs : List A) (n : ℕ) (d : A) → get_or (drop 1 xs) n d ≡ get_or xs (suc n) d
behind [] zero d = refl
behind [] (suc n) d = refl
behind (x ∷ xs) n d = refl

-- ---- one more

code_push : (marks : List Bool) (is : List Instruction) (i : Instruction) → marked_code marks (is ++ i ∷ []) ≡ marked_code marks is ++ marked_instruction (get_or marks (length is) false) i ∷ []
code_push marks [] i = refl
code_push marks (x ∷ is) i = ap (λ xs. marked_instruction (get_or marks 0 false) x ∷ xs) (code_push (drop 1 marks) is i ∙ ap (λ b. marked_code (drop 1 marks) is ++ marked_instruction b i ∷ []) (behind marks (length is) false))

functions_push : (marks : List (List Bool)) (fs : List Function) (f : Function) → marked_functions marks (fs ++ f ∷ []) ≡ marked_functions marks fs ++ marked_function (get_or marks (length fs) []) f ∷ []
functions_push marks [] f = refl
functions_push marks (x ∷ fs) f = ap (λ xs. marked_function (get_or marks 0 []) x ∷ xs) (functions_push (drop 1 marks) fs f ∙ ap (λ ms. marked_functions (drop 1 marks) fs ++ marked_function ms f ∷ []) (behind marks (length fs) []))

-- the first instructions, and the next one
pub code_next : (marks : List Bool) (code : List Instruction) (at : ℕ) (i : Instruction) → at < length code → i ≡ get_or code at i → marked_code marks (take (at + 1) code) ≡ marked_code marks (take at code) ++ marked_instruction (get_or marks at false) i ∷ []
code_next marks code at i lt is =
    ap (marked_code marks) (take_more code at i lt ∙ ap (λ x. take at code ++ x ∷ []) (sym is)) ∙ code_push marks (take at code) i
    ∙ ap (λ n. marked_code marks (take at code) ++ marked_instruction (get_or marks n false) i ∷ []) (length-take-le at code (omega (arith, lt)))

pub functions_next : (marks : List (List Bool)) (fs : List Function) (g : ℕ) (f : Function) → g < length fs → f ≡ get_or fs g f → marked_functions marks (take (g + 1) fs) ≡ marked_functions marks (take g fs) ++ marked_function (get_or marks g []) f ∷ []
functions_next marks fs g f lt is =
    ap (marked_functions marks) (take_more fs g f lt ∙ ap (λ x. take g fs ++ x ∷ []) (sym is)) ∙ functions_push marks (take g fs) f
    ∙ ap (λ n. marked_functions marks (take g fs) ++ marked_function (get_or marks n []) f ∷ []) (length-take-le g fs (omega (arith, lt)))

-- ---- without marks

instruction_same : (mark : Bool) (i : Instruction) → unmarked_instruction (marked_instruction mark i) ≡ unmarked_instruction i
instruction_same mark (instruction.Store path proved) = refl
instruction_same mark i = refl

code_same : (marks : List Bool) (is : List Instruction) → map unmarked_instruction (marked_code marks is) ≡ map unmarked_instruction is
code_same marks [] = refl
code_same marks (i ∷ is) = ap (λ x. x ∷ map unmarked_instruction (marked_code (drop 1 marks) is)) (instruction_same (get_or marks 0 false) i) ∙ ap (λ xs. unmarked_instruction i ∷ xs) (code_same (drop 1 marks) is)

function_same : (marks : List Bool) (f : Function) → unmarked_function (marked_function marks f) ≡ unmarked_function f
function_same marks f = ap (λ is. record f { code = is }) (code_same marks f.code)

functions_same : (marks : List (List Bool)) (fs : List Function) → map unmarked_function (marked_functions marks fs) ≡ map unmarked_function fs
functions_same marks [] = refl
functions_same marks (f ∷ fs) = ap (λ x. x ∷ map unmarked_function (marked_functions (drop 1 marks) fs)) (function_same (get_or marks 0 []) f) ∙ ap (λ xs. unmarked_function f ∷ xs) (functions_same (drop 1 marks) fs)

-- ---- the marks

mark_is : (mark : Bool) (i : Instruction) (path : ℕ) (found : Bool) → marked_instruction mark i ≡ instruction.Store path found → found ≡ mark
mark_is mark (instruction.Store p proved) path found e = cc
mark_is mark (instruction.Constant kind value) path found e = absurd cc
mark_is mark (instruction.Global global) path found e = absurd cc
mark_is mark (instruction.Get local) path found e = absurd cc
mark_is mark (instruction.Set local) path found e = absurd cc
mark_is mark (instruction.Load p) path found e = absurd cc
mark_is mark (instruction.Typed typed type) path found e = absurd cc
mark_is mark (instruction.Arithmetic arithmetic kind) path found e = absurd cc
mark_is mark (instruction.Move type kind direction) path found e = absurd cc
mark_is mark (instruction.Simple simple) path found e = absurd cc
mark_is mark (instruction.Delete pins) path found e = absurd cc
mark_is mark (instruction.Call function pins) path found e = absurd cc
mark_is mark (instruction.Jump jump target) path found e = absurd cc

marks_are : (marks : List Bool) (is : List Instruction) (at path : ℕ) (found : Bool) → get_or (marked_code marks is) at (instruction.Simple simple.Return) ≡ instruction.Store path found → found ≡ get_or marks at false
marks_are marks [] zero path found e = absurd cc
marks_are marks [] (suc at) path found e = absurd cc
marks_are marks (i ∷ is) zero path found e = mark_is (get_or marks 0 false) i path found e
marks_are marks (i ∷ is) (suc at) path found e = marks_are (drop 1 marks) is at path found e ∙ behind marks at false

function_there : (marks : List (List Bool)) (fs : List Function) (g : ℕ) → get_or (marked_functions marks fs) g no_function ≡ marked_function (get_or marks g []) (get_or fs g no_function)
function_there marks [] zero = refl
function_there marks [] (suc g) = refl
function_there marks (f ∷ fs) zero = refl
function_there marks (f ∷ fs) (suc g) = function_there (drop 1 marks) fs g ∙ ap (λ ms. marked_function ms (get_or fs g no_function)) (behind marks g [])

-- ---- rules of fields

instruction_fits : (mark : Bool) (i : Instruction) → InstructionFits i → InstructionFits (marked_instruction mark i)
instruction_fits false (instruction.Store path proved) fits = record { operands = (fits.operands.0, (omega arith, tt)) }
instruction_fits true (instruction.Store path proved) fits = record { operands = (fits.operands.0, (omega arith, tt)) }
instruction_fits mark i fits = fits

code_fits : (marks : List Bool) (is : List Instruction) → Every InstructionFits is → Every InstructionFits (marked_code marks is)
code_fits marks [] all = tt
code_fits marks (i ∷ is) all = (instruction_fits (get_or marks 0 false) i all.0, code_fits (drop 1 marks) is all.1)

code_long : (marks : List Bool) (is : List Instruction) → length (marked_code marks is) ≡ length is
code_long marks [] = refl
code_long marks (i ∷ is) = ap suc (code_long (drop 1 marks) is)

function_fits : (types : ℕ) (marks : List Bool) (f : Function) → FunctionFits types f → FunctionFits types (marked_function marks f)
function_fits types marks f fits = record {
  parameters = fits.parameters;
  count = fits.count;
  locals = fits.locals;
  result = fits.result;
  instructions = let e = code_long marks f.code in let l = fits.instructions in omega (arith, e, l);
  code = code_fits marks f.code fits.code;
  lines = fits.lines;
  lined = fits.lined ∙ sym (code_long marks f.code);
}

functions_fit : (types : ℕ) (marks : List (List Bool)) (fs : List Function) → Every (FunctionFits types) fs → Every (FunctionFits types) (marked_functions marks fs)
functions_fit types marks [] all = tt
functions_fit types marks (f ∷ fs) all = (function_fits types (get_or marks 0 []) f all.0, functions_fit types (drop 1 marks) fs all.1)

functions_long : (marks : List (List Bool)) (fs : List Function) → length (marked_functions marks fs) ≡ length fs
functions_long marks [] = refl
functions_long marks (f ∷ fs) = ap suc (functions_long (drop 1 marks) fs)

-- ---- loops that mark one after another

pub code_over : (marks : List Bool) (before now : List Instruction) (at : ℕ) (i : Instruction) → at < length before → now ≡ marked_code marks (take at before) ++ drop at before → i ≡ get_or now at i → set now at (marked_instruction (get_or marks at false) i) ≡ marked_code marks (take (at + 1) before) ++ drop (at + 1) before
code_over marks before now at i lt is read =
    let front = marked_code marks (take at before) in
    let mark = marked_instruction (get_or marks at false) i in
    let long : length front ≡ at = code_long marks (take at before) ∙ length-take-le at before (omega (arith, lt)) in
    let parts : now ≡ front ++ get_or before at i ∷ drop (at + 1) before = is ∙ ap (λ l. front ++ l) (drop_more before at i lt) in
    let there : i ≡ get_or before at i = read ∙ ap (λ l. get_or l at i) parts ∙ get_or_at front _ _ i at long in
    ap (λ l. set l at mark) parts ∙ set_at front _ _ mark at long ∙ sym (append_assoc front (mark ∷ []) _)
    ∙ ap (λ l. l ++ drop (at + 1) before) (sym (code_next marks before at i lt there))

pub functions_over : (marks : List (List Bool)) (before now : List Function) (g : ℕ) (f : Function) → g < length before → now ≡ marked_functions marks (take g before) ++ drop g before → f ≡ get_or now g f → set now g (marked_function (get_or marks g []) f) ≡ marked_functions marks (take (g + 1) before) ++ drop (g + 1) before
functions_over marks before now g f lt is read =
    let front = marked_functions marks (take g before) in
    let mark = marked_function (get_or marks g []) f in
    let long : length front ≡ g = functions_long marks (take g before) ∙ length-take-le g before (omega (arith, lt)) in
    let parts : now ≡ front ++ get_or before g f ∷ drop (g + 1) before = is ∙ ap (λ l. front ++ l) (drop_more before g f lt) in
    let there : f ≡ get_or before g f = read ∙ ap (λ l. get_or l g f) parts ∙ get_or_at front _ _ f g long in
    ap (λ l. set l g mark) parts ∙ set_at front _ _ mark g long ∙ sym (append_assoc front (mark ∷ []) _)
    ∙ ap (λ l. l ++ drop (g + 1) before) (sym (functions_next marks before g f lt there))

-- ---- the image

pub is_marked : (marks : List (List Bool)) (parts : Parts) → IsMarked marks parts (with_marks marks parts)
is_marked marks parts = record {
  same = ap (λ fs. record parts { functions = fs }) (functions_same marks parts.functions);
  marks_are = λ g at path mark e. marks_are (get_or marks g []) (function_at (reading_of parts) g).code at path mark (ap (λ (f : Function). instruction_at f at) (sym (function_there marks parts.functions g)) ∙ e);
}

pub marked_fits : (marks : List (List Bool)) (parts : Parts) → FieldsFit parts → FieldsFit (with_marks marks parts)
marked_fits marks parts fits = record {
  type_count = fits.type_count;
  types = fits.types;
  global_count = fits.global_count;
  globals = fits.globals;
  path_count = fits.path_count;
  paths = fits.paths;
  function_count = let e = functions_long marks parts.functions in let l = fits.function_count in omega (arith, e, l);
  functions = functions_fit (length parts.types) marks parts.functions fits.functions;
  main = let e = functions_long marks parts.functions in let l = fits.main in omega (arith, e, l);
}
