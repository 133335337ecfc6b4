-- Without its marks an image keeps the rules, and no mark is wrong.
use Rattle.std.proofs.Common.{◌≡◌, ℕ, zero, suc, ◌<◌, Bool, true, false, List, [], ◌∷◌, ◌++◌, map, length, drop, reverse, Some, refl, sym, ap, subst, ◌∙◌, arith}
use Rattle.std.specs.Prelude.{slice_get, get_or}
use Rattle.std.specs.List.{AllByRecursion as Every}
use Rattle.rc_code.specs.declared.opcode.Jump.TheVariants as jump
use Rattle.rc_code.specs.declared.opcode.Simple.TheVariants as simple
use Rattle.rc_code.specs.declared.instruction.Instruction.{Instruction}
use Rattle.rc_code.specs.declared.instruction.Instruction.TheVariants as instruction
use Rattle.rc_code.specs.declared.image.Function.{Function}
use Rattle.rc_code.specs.declared.image.Parts.{Parts}
use Rattle.rc_code.specs.Image.{InstructionFits, FunctionFits, FieldsFit, opcode_of}
use Rattle.rc_code.specs.Running.{reading_of, function_at, no_function}
use Rattle.rc_code.proofs.Kinding.{same_items}
use Rattle.rc_code.specs.Table.{Item, row}
use Rattle.rc_code.specs.Table as item
use Rattle.rc_code.specs.Soundness.{Kind, item_kinds, kinds_on, takes, gives, after, instruction_at, kinds_before, count_off, parameter_kinds, result_kinds, ArePins, Names, Operands, Targets, Empty, IsFine, ends, FunctionIsSound, ReadingIsSound, Sound}
use Rattle.rc_code.specs.Faithful.{Faithful}
use Rattle.rc_loader.specs.Unmarked.{unmarked_instruction, unmarked_function, unmarked}

-- ---- lists

no_other : {A B : Type 0} (change : A → B) (xs : List A) (n : ℕ) (y : B) → slice_get (map change xs) n ≡ Some y → (x : A) × (slice_get xs n ≡ Some x) × (change x ≡ y)
no_other change [] n y e = absurd cc
no_other change (x ∷ xs) zero y e = (x, refl, cc)
no_other change (x ∷ xs) (suc n) y e = no_other change xs n y e

at_mapped : {A B : Type 0} (change : A → B) (xs : List A) (n : ℕ) (d : A) → get_or (map change xs) n (change d) ≡ change (get_or xs n d)
at_mapped change [] zero d = refl
at_mapped change [] (suc n) d = refl
at_mapped change (x ∷ xs) zero d = refl
at_mapped change (x ∷ xs) (suc n) d = at_mapped change xs n d

pub as_long : {A B : Type 0} (change : A → B) (xs : List A) → length (map change xs) ≡ length xs
as_long change [] = refl
as_long change (x ∷ xs) = ap suc (as_long change xs)

each_mapped : {A : Type 0} (P Q : A → Type 0) (change : A → A) → ((x : A) → P x → Q (change x)) → (xs : List A) → Every P xs → Every Q (map change xs)
each_mapped P Q change keeps [] all = tt
each_mapped P Q change keeps (x ∷ xs) all = (keeps x all.0, each_mapped P Q change keeps xs all.1)

-- ---- marks

no_mark : (i : Instruction) (path : ℕ) → unmarked_instruction i ≡ instruction.Store path true → ⊥
no_mark (instruction.Store p proved) path e = absurd cc
no_mark (instruction.Constant kind value) path e = absurd cc
no_mark (instruction.Global global) path e = absurd cc
no_mark (instruction.Get local) path e = absurd cc
no_mark (instruction.Set local) path e = absurd cc
no_mark (instruction.Load p) path e = absurd cc
no_mark (instruction.Typed typed type) path e = absurd cc
no_mark (instruction.Arithmetic arithmetic kind) path e = absurd cc
no_mark (instruction.Move type kind direction) path e = absurd cc
no_mark (instruction.Simple simple) path e = absurd cc
no_mark (instruction.Delete pins) path e = absurd cc
no_mark (instruction.Call function pins) path e = absurd cc
no_mark (instruction.Jump jump target) path e = absurd cc

pub function_is : (parts : Parts) (g : ℕ) → function_at (reading_of (unmarked parts)) g ≡ unmarked_function (function_at (reading_of parts) g)
function_is parts g = at_mapped unmarked_function parts.functions g no_function

pub faithful : (parts : Parts) → Faithful (unmarked parts)
faithful parts input bytes limits n s w path at is =
    let here : slice_get (map unmarked_instruction (function_at (reading_of parts) s.function).code) s.at ≡ Some (instruction.Store path true) =
    subst (λ (f : Function). slice_get f.code s.at ≡ Some (instruction.Store path true)) (function_is parts s.function) is in
    let found = no_other unmarked_instruction (function_at (reading_of parts) s.function).code s.at (instruction.Store path true) here in
    absurd (no_mark found.0 path found.2)

-- ---- rules of fields

instruction_fits : (i : Instruction) → InstructionFits i → InstructionFits (unmarked_instruction i)
instruction_fits (instruction.Store path proved) fits = record { operands = (fits.operands.0, (omega arith, tt)) }
instruction_fits i fits = fits

function_fits : (types : ℕ) (f : Function) → FunctionFits types f → FunctionFits types (unmarked_function f)
function_fits types f fits = record {
  parameters = fits.parameters;
  count = fits.count;
  locals = fits.locals;
  result = fits.result;
  instructions = let e = as_long unmarked_instruction f.code in let l = fits.instructions in omega (arith, e, l);
  code = each_mapped InstructionFits InstructionFits unmarked_instruction instruction_fits f.code fits.code;
  lines = fits.lines;
  lined = fits.lined ∙ sym (as_long unmarked_instruction f.code);
}

pub fields_fit : (parts : Parts) → FieldsFit parts → FieldsFit (unmarked parts)
fields_fit parts fits = record {
  type_count = fits.type_count;
  types = fits.types;
  global_count = fits.global_count;
  globals = fits.globals;
  path_count = fits.path_count;
  paths = fits.paths;
  function_count = let e = as_long unmarked_function parts.functions in let l = fits.function_count in omega (arith, e, l);
  functions = each_mapped (FunctionFits (length parts.types)) (FunctionFits (length parts.types)) unmarked_function (function_fits (length parts.types)) parts.functions fits.functions;
  main = let e = as_long unmarked_function parts.functions in let l = fits.main in omega (arith, e, l);
}

-- ---- rules of code

module _ (parts : Parts) (f : Function) where
  same_item : (x : Item) (i : Instruction) → item_kinds (reading_of (unmarked parts)) (unmarked_function f) x (unmarked_instruction i) ≡ item_kinds (reading_of parts) f x i
  same_item item.int i = refl
  same_item item.unsigned i = refl
  same_item item.number (instruction.Store path proved) = refl
  same_item item.number i = refl
  same_item item.region i = refl
  same_item item.pointer (instruction.Store path proved) = refl
  same_item item.pointer i = refl
  same_item item.local (instruction.Store path proved) = refl
  same_item item.local i = refl
  same_item item.place (instruction.Store path proved) = refl
  same_item item.place i = refl
  same_item item.cell (instruction.Store path proved) = refl
  same_item item.cell i = refl
  same_item item.arguments (instruction.Call g pins) = ap (λ (h : Function). reverse (parameter_kinds h)) (function_is parts g)
  same_item item.arguments i = refl
  same_item item.result (instruction.Call g pins) = ap (λ (h : Function). result_kinds h.result) (function_is parts g)
  same_item item.result i = refl
  same_item item.any (instruction.Store path proved) = refl
  same_item item.any i = refl

  same_row : (i : Instruction) → opcode_of (unmarked_instruction i) ≡ opcode_of i
  same_row (instruction.Store path proved) = refl
  same_row i = refl

  same_kinds_on : (i : Instruction) (items : List Item) → kinds_on (reading_of (unmarked parts)) (unmarked_function f) items (unmarked_instruction i) ≡ kinds_on (reading_of parts) f items i
  same_kinds_on i items = same_items (reading_of (unmarked parts)) (reading_of parts) (unmarked_function f) f (unmarked_instruction i) i (λ x. same_item x i) items

  pub same_takes : (i : Instruction) → takes (reading_of (unmarked parts)) (unmarked_function f) (unmarked_instruction i) ≡ takes (reading_of parts) f i
  same_takes i =
      ap (λ o. kinds_on (reading_of (unmarked parts)) (unmarked_function f) (row o).takes (unmarked_instruction i)) (same_row i)
      ∙ same_kinds_on i (row (opcode_of i)).takes

  same_gives : (i : Instruction) → gives (reading_of (unmarked parts)) (unmarked_function f) (unmarked_instruction i) ≡ gives (reading_of parts) f i
  same_gives i =
      ap (λ o. kinds_on (reading_of (unmarked parts)) (unmarked_function f) (row o).gives (unmarked_instruction i)) (same_row i)
      ∙ same_kinds_on i (row (opcode_of i)).gives

  same_count : (i : Instruction) → count_off (reading_of (unmarked parts)) (unmarked_function f) (unmarked_instruction i) ≡ count_off (reading_of parts) f i
  same_count (instruction.Simple simple.Pop) = refl
  same_count i = ap length (same_takes i)

  same_after : (i : Instruction) (kinds : List Kind) → after (reading_of (unmarked parts)) (unmarked_function f) (unmarked_instruction i) kinds ≡ after (reading_of parts) f i kinds
  same_after i kinds = ap (λ ks. ks ++ drop (count_off (reading_of (unmarked parts)) (unmarked_function f) (unmarked_instruction i)) kinds) (same_gives i)
      ∙ ap (λ n. gives (reading_of parts) f i ++ drop n kinds) (same_count i)

  same_at : (n : ℕ) → instruction_at (unmarked_function f) n ≡ unmarked_instruction (instruction_at f n)
  same_at n = at_mapped unmarked_instruction f.code n (instruction.Simple simple.Return)

  pub same_kinds : (n : ℕ) → kinds_before (reading_of (unmarked parts)) (unmarked_function f) n ≡ kinds_before (reading_of parts) f n
  same_kinds zero = refl
  same_kinds (suc n) =
      ap (λ i. after (reading_of (unmarked parts)) (unmarked_function f) i (kinds_before (reading_of (unmarked parts)) (unmarked_function f) n)) (same_at n)
      ∙ same_after (instruction_at f n) (kinds_before (reading_of (unmarked parts)) (unmarked_function f) n)
      ∙ ap (after (reading_of parts) f (instruction_at f n)) (same_kinds n)

  pins_are : (pins : List ℕ) → ArePins f pins → ArePins (unmarked_function f) pins
  pins_are pins a = record { each = a.each; order = a.order }

  names : (marked : Bool) (i : Instruction) → Names true (reading_of parts) f i → Names marked (reading_of (unmarked parts)) (unmarked_function f) (unmarked_instruction i)
  names marked (instruction.Store path proved) n = (n.0, λ e. absurd (false_is_not e))
    where
      false_is_not : false ≡ true → ⊥
      false_is_not e = absurd cc
  names marked (instruction.Call g pins) n = (there, pins_are pins n.1)
    where
      there : g < length (map unmarked_function parts.functions)
      there = let e = as_long unmarked_function parts.functions in let l = n.0 in omega (arith, e, l)
  names marked (instruction.Delete pins) n = pins_are pins n
  names marked i n = n

  operands : (i : Instruction) (kinds : List Kind) → Operands (reading_of parts) f i kinds → Operands (reading_of (unmarked parts)) (unmarked_function f) (unmarked_instruction i) kinds
  operands (instruction.Simple simple.Pop) kinds o = o
  operands i kinds o = (o.0, o.1 ∙ ap (λ ks. ks ++ o.0) (sym (same_takes i)))

  empties : (i : Instruction) (kinds : List Kind) → Empty (reading_of parts) f i kinds → Empty (reading_of (unmarked parts)) (unmarked_function f) (unmarked_instruction i) kinds
  empties (instruction.Store path proved) kinds e = e
  empties i kinds e = e

  inside : (to : ℕ) → to < length f.code → to < length (map unmarked_instruction f.code)
  inside to l = let e = as_long unmarked_instruction f.code in omega (arith, e, l)

  targets : (n : ℕ) (i : Instruction) → Targets (reading_of parts) f n i → Targets (reading_of (unmarked parts)) (unmarked_function f) n (unmarked_instruction i)
  targets n (instruction.Jump jump.Always to) t = (t.0, inside to t.1, same_kinds to ∙ t.2)
  targets n (instruction.Jump jump.IfZero to) t = (t.0, inside to t.1, same_kinds to ∙ t.2)
  targets n (instruction.Jump jump.Back to) t = (t.0, inside to t.1, same_kinds to ∙ t.2)
  targets n i t = t

  still_ends : (i : Instruction) → ends i ≡ true → ends (unmarked_instruction i) ≡ true
  still_ends (instruction.Store path proved) e = e
  still_ends i e = e

  fine : (marked : Bool) (n : ℕ) (i : Instruction) → IsFine true (reading_of parts) f n i → IsFine marked (reading_of (unmarked parts)) (unmarked_function f) n (unmarked_instruction i)
  fine marked n i g = record {
    names = names marked i g.names;
    operands = subst (Operands (reading_of (unmarked parts)) (unmarked_function f) (unmarked_instruction i)) (sym (same_kinds n)) (operands i (kinds_before (reading_of parts) f n) g.operands);
    targets = targets n i g.targets;
    empty = subst (Empty (reading_of (unmarked parts)) (unmarked_function f) (unmarked_instruction i)) (sym (same_kinds n)) (empties i (kinds_before (reading_of parts) f n) g.empty);
  }

  function_sound : (marked : Bool) → FunctionIsSound true (reading_of parts) f → FunctionIsSound marked (reading_of (unmarked parts)) (unmarked_function f)
  function_sound marked sound = record {
    begins = let e = as_long unmarked_instruction f.code in let l = sound.begins in omega (arith, e, l);
    fine = λ n i is. let found = no_other unmarked_instruction f.code n i is in
        subst (λ j. IsFine marked (reading_of (unmarked parts)) (unmarked_function f) n j) found.2 (fine marked n found.0 (sound.fine n found.0 found.1));
    last = λ n i is l. let found = no_other unmarked_instruction f.code n i is in
        subst (λ j. ends j ≡ true) found.2 (still_ends found.0 (sound.last n found.0 found.1 (l ∙ as_long unmarked_instruction f.code)));
  }

pub stays_sound : (marked : Bool) (parts : Parts) → Sound parts → ReadingIsSound marked (reading_of (unmarked parts))
stays_sound marked parts sound = record {
  functions = λ g there. subst (FunctionIsSound marked (reading_of (unmarked parts))) (sym (function_is parts g))
      (function_sound parts (function_at (reading_of parts) g) marked (sound.functions g (let e = as_long unmarked_function parts.functions in omega (arith, e, there))));
  main_takes = ap (λ (h : Function). h.parameters) (function_is parts parts.main) ∙ sound.main_takes;
  main_gives = ap (λ (h : Function). h.result) (function_is parts parts.main) ∙ sound.main_gives;
}
