-- With marks an image keeps the rules of its fields.
use Rattle.std.proofs.Common.{◌≡◌, ℕ, suc, Bool, true, false, List, [], ◌∷◌, length, refl, sym, ap, ◌∙◌, arith}
use Rattle.std.specs.List.{AllByRecursion as Every}
use Rattle.rc_core.specs.declared.ty.Note.{Note}
use Rattle.rc_code.specs.declared.instruction.Instruction.{Instruction}
use Rattle.rc_code.specs.declared.instruction.Instruction.TheVariants as instruction
use Rattle.rc_code.specs.declared.image.Function.{Function}
use Rattle.rc_code.specs.declared.image.Parts.{Parts}
use Rattle.rc_code.specs.Image.{InstructionFits, FunctionFits, FieldsFit, IsNumber, bit}
use Rattle.rc_marking.specs.Marking.{note_at, mark_by, marked_one, left_by_one, marked_code, left_by_code, marked_function, marked_functions, with_marks}

bit_is_number : (b : Bool) → IsNumber (bit b)
bit_is_number false = omega arith
bit_is_number true = omega arith

module _ (note : ℕ → Note) where
  one_fits : (bits : List Bool) (i : Instruction) → InstructionFits i → InstructionFits (marked_one note bits i)
  one_fits bits (instruction.Store path proved) fits = record { operands = (fits.operands.0, (bit_is_number (mark_by (note path) bits proved), tt)) }
  one_fits bits i fits = fits

  code_fits : (bits : List Bool) (code : List Instruction) → Every InstructionFits code → Every InstructionFits (marked_code note bits code)
  code_fits bits [] all = tt
  code_fits bits (i ∷ code) all = (one_fits bits i all.0, code_fits (left_by_one note bits i) code all.1)

  code_as_long : (bits : List Bool) (code : List Instruction) → length (marked_code note bits code) ≡ length code
  code_as_long bits [] = refl
  code_as_long bits (i ∷ code) = ap suc (code_as_long (left_by_one note bits i) code)

  function_fits : (types : ℕ) (bits : List Bool) (f : Function) → FunctionFits types f → FunctionFits types (marked_function note bits f)
  function_fits types bits f fits = record {
    parameters = fits.parameters;
    count = fits.count;
    locals = fits.locals;
    result = fits.result;
    instructions = let e = code_as_long bits f.code in let l = fits.instructions in omega (arith, e, l);
    code = code_fits bits f.code fits.code;
    lines = fits.lines;
    lined = fits.lined ∙ sym (code_as_long bits f.code);
  }

  functions_fit : (types : ℕ) (bits : List Bool) (fs : List Function) → Every (FunctionFits types) fs → Every (FunctionFits types) (marked_functions note bits fs)
  functions_fit types bits [] all = tt
  functions_fit types bits (f ∷ fs) all = (function_fits types bits f all.0, functions_fit types (left_by_code note bits f.code) fs all.1)

  functions_as_long : (bits : List Bool) (fs : List Function) → length (marked_functions note bits fs) ≡ length fs
  functions_as_long bits [] = refl
  functions_as_long bits (f ∷ fs) = ap suc (functions_as_long (left_by_code note bits f.code) fs)

pub fields_fit : (bits : List Bool) (parts : Parts) → FieldsFit parts → FieldsFit (with_marks bits parts)
fields_fit bits parts fits = record {
  type_count = fits.type_count;
  types = fits.types;
  global_count = fits.global_count;
  globals = fits.globals;
  path_count = fits.path_count;
  paths = fits.paths;
  function_count = let e = functions_as_long (note_at parts) bits parts.functions in let l = fits.function_count in omega (arith, e, l);
  functions = functions_fit (note_at parts) (length parts.types) bits parts.functions fits.functions;
  main = let e = functions_as_long (note_at parts) bits parts.functions in let l = fits.main in omega (arith, e, l);
}
