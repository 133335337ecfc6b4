-- An image keeps the rules where it does without its marks, and these stand at annotated cells.
use Rattle.std.proofs.Common.{◌≡◌, ◌<◌, ℕ, zero, suc, true, false, List, [], ◌∷◌, ◌++◌, map, length, Some, refl, sym, ap, ◌∙◌, subst, arith}
use Rattle.std.specs.Prelude.{slice_get}
use Rattle.std.specs.List.{AllByRecursion as Every}
use Rattle.rc_core.specs.Layout.{note_of, is_plain}
use Rattle.rc_code.specs.declared.opcode.Jump.TheVariants as jump
use Rattle.rc_code.specs.declared.opcode.Simple.TheVariants as simple
use Rattle.rc_code.specs.declared.instruction.Instruction.{Instruction}
use Rattle.rc_code.specs.declared.instruction.Instruction.TheVariants as instruction
use Rattle.rc_code.specs.declared.image.Function.{Function}
use Rattle.rc_code.specs.declared.image.Parts.{Parts}
use Rattle.rc_code.specs.Image.{InstructionFits, FunctionFits, FieldsFit}
use Rattle.rc_code.specs.Running.{reading_of, path_at, function_at, cell_at}
use Rattle.rc_code.specs.Soundness.{Kind, kinds_before, ArePins, Names, Operands, Targets, Empty, IsFine, ends, FunctionIsSound, ReadingIsSound, Sound}
use Rattle.rc_loader.specs.Unmarked.{unmarked_instruction, unmarked_function, unmarked}
use Rattle.rc_loader.proofs.Marks.{as_long, function_is, same_takes, same_kinds}

at_changed : {A B : Type 0} (change : A → B) (xs : List A) (n : ℕ) (x : A) → slice_get xs n ≡ Some x → slice_get (map change xs) n ≡ Some (change x)
at_changed change [] n x e = absurd (cc e)
at_changed change (y ∷ xs) zero x e = let q : y ≡ x = cc in ap (λ z. Some (change z)) q
at_changed change (y ∷ xs) (suc n) x e = at_changed change xs n x e

-- ---- rules of code

module _ (parts : Parts) (f : Function) where
  abbrev pub StandsAt : Instruction → Type 0
  StandsAt i = (path : ℕ) → i ≡ instruction.Store path true → is_plain (note_of (cell_at (reading_of parts) (path_at (reading_of parts) path))) ≡ false

  pins_are : (pins : List ℕ) → ArePins (unmarked_function f) pins → ArePins f pins
  pins_are pins a = record { each = a.each; order = a.order }

  names : (i : Instruction) → StandsAt i → Names false (reading_of (unmarked parts)) (unmarked_function f) (unmarked_instruction i) → Names true (reading_of parts) f i
  names (instruction.Store path proved) stands n = (n.0, λ e. (refl, stands path (ap (instruction.Store path) e)))
  names (instruction.Call g pins) stands n = (there, pins_are pins n.1)
    where
      there : g < length parts.functions
      there = let e = as_long unmarked_function parts.functions in let l = n.0 in omega (arith, e, l)
  names (instruction.Delete pins) stands n = pins_are pins n
  names i stands n = n

  operands : (i : Instruction) (kinds : List Kind) → Operands (reading_of (unmarked parts)) (unmarked_function f) (unmarked_instruction i) kinds → Operands (reading_of parts) f i kinds
  operands (instruction.Simple simple.Pop) kinds o = o
  operands i kinds o = (o.0, o.1 ∙ ap (λ ks. ks ++ o.0) (same_takes parts f i))

  empties : (i : Instruction) (kinds : List Kind) → Empty (reading_of (unmarked parts)) (unmarked_function f) (unmarked_instruction i) kinds → Empty (reading_of parts) f i kinds
  empties (instruction.Store path proved) kinds e = e
  empties i kinds e = e

  inside : (to : ℕ) → to < length (map unmarked_instruction f.code) → to < length f.code
  inside to l = let e = as_long unmarked_instruction f.code in omega (arith, e, l)

  targets : (n : ℕ) (i : Instruction) → Targets (reading_of (unmarked parts)) (unmarked_function f) n (unmarked_instruction i) → Targets (reading_of parts) f n i
  targets n (instruction.Jump jump.Always to) t = (t.0, inside to t.1, sym (same_kinds parts f to) ∙ t.2)
  targets n (instruction.Jump jump.IfZero to) t = (t.0, inside to t.1, sym (same_kinds parts f to) ∙ t.2)
  targets n (instruction.Jump jump.Back to) t = (t.0, inside to t.1, sym (same_kinds parts f to) ∙ t.2)
  targets n i t = t

  still_ends : (i : Instruction) → ends (unmarked_instruction i) ≡ true → ends i ≡ true
  still_ends (instruction.Store path proved) e = e
  still_ends i e = e

  fine : (n : ℕ) (i : Instruction) → StandsAt i → IsFine false (reading_of (unmarked parts)) (unmarked_function f) n (unmarked_instruction i) → IsFine true (reading_of parts) f n i
  fine n i stands g = record {
    names = names i stands g.names;
    operands = subst (Operands (reading_of parts) f i) (same_kinds parts f n) (operands i (kinds_before (reading_of (unmarked parts)) (unmarked_function f) n) g.operands);
    targets = targets n i g.targets;
    empty = subst (Empty (reading_of parts) f i) (same_kinds parts f n) (empties i (kinds_before (reading_of (unmarked parts)) (unmarked_function f) n) g.empty);
  }

  function_sound : ((n : ℕ) (i : Instruction) → slice_get f.code n ≡ Some i → StandsAt i) → FunctionIsSound false (reading_of (unmarked parts)) (unmarked_function f) → FunctionIsSound true (reading_of parts) f
  function_sound stand sound = record {
    begins = let e = as_long unmarked_instruction f.code in let l = sound.begins in omega (arith, e, l);
    fine = λ n i is. fine n i (stand n i is) (sound.fine n (unmarked_instruction i) (at_changed unmarked_instruction f.code n i is));
    last = λ n i is l. still_ends i (sound.last n (unmarked_instruction i) (at_changed unmarked_instruction f.code n i is) (l ∙ sym (as_long unmarked_instruction f.code)));
  }

pub sound_with_marks : (parts : Parts) → ((g n : ℕ) (i : Instruction) → slice_get (function_at (reading_of parts) g).code n ≡ Some i → StandsAt parts (function_at (reading_of parts) g) i) → ReadingIsSound false (reading_of (unmarked parts)) → Sound parts
sound_with_marks parts stand sound = record {
  functions = λ g there. function_sound parts (function_at (reading_of parts) g) (stand g)
      (subst (FunctionIsSound false (reading_of (unmarked parts))) (function_is parts g) (sound.functions g (let e = as_long unmarked_function parts.functions in omega (arith, e, there))));
  main_takes = ap (λ (h : Function). h.parameters) (sym (function_is parts parts.main)) ∙ sound.main_takes;
  main_gives = ap (λ (h : Function). h.result) (sym (function_is parts parts.main)) ∙ sound.main_gives;
}

-- ---- rules of fields

each_back : {A : Type 0} (P Q : A → Type 0) (change : A → A) → ((x : A) → P (change x) → Q x) → (xs : List A) → Every P (map change xs) → Every Q xs
each_back P Q change keeps [] all = tt
each_back P Q change keeps (x ∷ xs) all = (keeps x all.0, each_back P Q change keeps xs all.1)

instruction_fits : (i : Instruction) → InstructionFits (unmarked_instruction i) → InstructionFits i
instruction_fits (instruction.Store path true) fits = record { operands = (fits.operands.0, (omega arith, tt)) }
instruction_fits (instruction.Store path false) fits = fits
instruction_fits i fits = fits

function_fits : (types : ℕ) (f : Function) → FunctionFits types (unmarked_function f) → FunctionFits types f
function_fits types f fits = record {
  parameters = fits.parameters;
  count = fits.count;
  locals = fits.locals;
  result = fits.result;
  instructions = let e = as_long unmarked_instruction f.code in let l = fits.instructions in omega (arith, e, l);
  code = each_back InstructionFits InstructionFits unmarked_instruction instruction_fits f.code fits.code;
  lines = fits.lines;
  lined = fits.lined ∙ as_long unmarked_instruction f.code;
}

pub fields_with_marks : (parts : Parts) → FieldsFit (unmarked parts) → FieldsFit parts
fields_with_marks parts fits = record {
  type_count = fits.type_count;
  types = fits.types;
  global_count = fits.global_count;
  globals = fits.globals;
  path_count = fits.path_count;
  paths = fits.paths;
  function_count = let e = as_long unmarked_function parts.functions in let l = fits.function_count in omega (arith, e, l);
  functions = each_back (FunctionFits (length parts.types)) (FunctionFits (length parts.types)) unmarked_function (function_fits (length parts.types)) parts.functions fits.functions;
  main = let e = as_long unmarked_function parts.functions in let l = fits.main in omega (arith, e, l);
}
