-- An image whose marks are right means what it means with every mark taken away.
use Rattle.std.proofs.Common.{◌≡◌, ℕ, zero, suc, ◌+◌, true, false, List, [], ◌∷◌, map, get_or, take, drop, reverse, refl, sym, ap, ◌∙◌, arith}
use Rattle.rc_base.specs.declared.ends.Limits.{Limits}
use Rattle.rc_core.specs.Heap.{Value}
use Rattle.rc_core.specs.Runs.{Run, Go, Stopped, bind}
use Rattle.rc_code.specs.declared.opcode.Simple.TheVariants as simple
use Rattle.rc_code.specs.declared.opcode.Jump.TheVariants as jump
use Rattle.rc_code.specs.declared.instruction.Instruction.{Instruction}
use Rattle.rc_code.specs.declared.instruction.Instruction.TheVariants as instruction
use Rattle.rc_code.specs.declared.image.Function.{Function}
use Rattle.rc_code.specs.declared.image.Parts.{Parts}
use Rattle.rc_code.specs.Image.{FieldsFit}
use Rattle.rc_code.specs.Running.{Reading, reading_of, function_at, line_at, path_at, width, pinned, result_of, first_locals, onward, effect, calls_within}
use Rattle.rc_code.specs.Soundness.{Sound, instruction_at}
use Rattle.rc_code.specs.StoreModel.{Held, store_model, stored}
use Rattle.rc_code.specs.Steps.{Frame, State, Moved, goes, finished, placed, leaving, step_by, step_of, steps_of, main_state}
use Rattle.rc_code.specs.ImageMeaning.{image_run, meaning_of_run, left_by_run, first_held}
use Rattle.rc_code.specs.Faithful.{MarkIsRight}
use Rattle.rc_code.proofs.Marks.{same_where_right}
use Rattle.rc_worlds.specs.SmallSteps.{ended}
use Rattle.rc_worlds.specs.States.{store_steps}
use Rattle.rc_worlds.proofs.Ended.{steps_mean}
use Rattle.rc_worlds.proofs.Small.{first_add}
use Rattle.rc_loader.specs.Unmarked.{unmarked, unmarked_function, unmarked_instruction}
use Rattle.rc_sealed.specs.Law.{MeansTheSame}
use Rattle.rc_loader.proofs.Marks.{function_is, stays_sound, fields_fit}

mapped_at : {A B : Type 0} (change : A → B) (xs : List A) (n : ℕ) (d : A) → get_or (map change xs) n (change d) ≡ change (get_or xs n d)
mapped_at change [] zero d = refl
mapped_at change [] (suc n) d = refl
mapped_at change (x ∷ xs) zero d = refl
mapped_at change (x ∷ xs) (suc n) d = mapped_at change xs n d

module _ (parts : Parts) where
  abbrev code : Reading
  code = reading_of parts

  abbrev bare : Reading
  bare = reading_of (unmarked parts)

  abbrev pub Right : State Held → Held → Type 0
  Right s w = (path : ℕ) → instruction_at (function_at code s.function) s.at ≡ instruction.Store path true → MarkIsRight code path s w

  same_leaving : (f : Function) (frames : List (Frame Held)) (v : Value) (w : Held) → leaving stored bare (unmarked_function f) frames v w ≡ leaving stored code f frames v w
  same_leaving f [] v w = refl
  same_leaving f (caller ∷ rest) v w = refl

  module _ (s : State Held) (w : Held) (right : Right s w) where
    abbrev F : Function
    F = function_at code s.function

    by : (i : Instruction) (line : ℕ) → instruction_at F s.at ≡ i → step_by stored bare (unmarked_instruction i) line s w ≡ step_by stored code i line s w
    by (instruction.Call g pins) line is =
        ap (λ (f : Function). bind (store_model.take_turn (store_model.enter (pinned pins s.locals) w)) (λ _. Go (goes (record {
          function = g;
          at = 0;
          stack = [];
          locals = first_locals f (reverse (take f.parameters s.stack));
          frames = record { function = s.function; at = suc s.at; stack = drop f.parameters s.stack; locals = s.locals; before = w } ∷ s.frames;
        })))) (function_is parts g)
    by (instruction.Simple simple.Return) line is =
        ap (λ (f : Function). leaving stored bare f s.frames (result_of f.result s.stack) w) (function_is parts s.function) ∙ same_leaving F s.frames (result_of F.result s.stack) w
    by (instruction.Store path false) line is = refl
    by (instruction.Store path true) line is = ap (λ m. bind (bind m (λ _. Go (onward 0 (drop (suc (width (path_at code path))) s.stack) s.locals))) (λ x. Go (placed s x))) (same_where_right code path s w (right path is) line)
    by (instruction.Set x) line is = ap (λ (f : Function). bind (effect stored bare f line s.at (instruction.Set x) (calls_within stored bare 0) s.stack s.locals w) (λ x. Go (placed s x))) (function_is parts s.function)
    by (instruction.Constant k n) line is = refl
    by (instruction.Global n) line is = refl
    by (instruction.Get x) line is = refl
    by (instruction.Load path) line is = refl
    by (instruction.Typed row t) line is = refl
    by (instruction.Arithmetic row k) line is = refl
    by (instruction.Move t k direction) line is = refl
    by (instruction.Delete pins) line is = refl
    by (instruction.Jump jump.Always to) line is = refl
    by (instruction.Jump jump.IfZero to) line is = refl
    by (instruction.Jump jump.Back to) line is = refl
    by (instruction.Simple row) line is = refl

    same_step : step_of stored bare s w ≡ step_of stored code s w
    same_step =
        ap (λ (f : Function). step_by stored bare (instruction_at f s.at) (line_at f s.at) s w) (function_is parts s.function)
        ∙ ap (λ i. step_by stored bare i (line_at F s.at) s w) (mapped_at unmarked_instruction F.code s.at (instruction.Simple simple.Return))
        ∙ by (instruction_at F s.at) (line_at F s.at) refl

  module _ (input : List ℕ) (limits : Limits) (rights : (n : ℕ) (s : State Held) (w : Held) → store_steps parts input limits n ≡ Go (goes s) w → Right s w) where
    same_main : main_state {W = Held} bare ≡ main_state code
    same_main = ap (λ (f : Function). record { function = parts.main; at = 0; stack = []; locals = first_locals f []; frames = [] }) (function_is parts parts.main)

    one_more : (m : Run Held (Moved Held)) → ((s : State Held) (w : Held) → m ≡ Go (goes s) w → Right s w) → bind m (steps_of stored bare 1) ≡ bind m (steps_of stored code 1)
    one_more (Stopped stop w) right = refl
    one_more (Go (finished v) w) right = refl
    one_more (Go (goes s) w) right = ap (λ m. bind m (steps_of stored code 0)) (same_step s w (right s w refl))

    same_at_each : (n : ℕ) → store_steps (unmarked parts) input limits n ≡ store_steps parts input limits n
    same_at_each zero = ap (λ s. bind (store_model.take_turn (first_held code input limits)) (λ _. Go (goes s))) same_main
    same_at_each (suc n) =
        let next : suc n ≡ n + 1 = omega arith in
        ap (store_steps (unmarked parts) input limits) next ∙ first_add stored bare n 1 (first_held bare input limits)
        ∙ ap (λ m. bind m (steps_of stored bare 1)) (same_at_each n)
        ∙ one_more (store_steps parts input limits n) (rights n)
        ∙ sym (first_add stored code n 1 (first_held code input limits)) ∙ ap (store_steps parts input limits) (sym next)

    pub same_run : FieldsFit parts → Sound parts → image_run parts input limits ≡ image_run (unmarked parts) input limits
    same_run fields rules =
        let theirs = steps_mean (unmarked parts) (fields_fit parts fields) (stays_sound true parts rules) input limits in
        let ours = steps_mean parts fields rules input limits in
        sym (ours.only theirs.enough (image_run (unmarked parts) input limits) (ap ended (sym (same_at_each theirs.enough)) ∙ theirs.ends theirs.enough (omega arith)))

    pub means_the_same : FieldsFit parts → Sound parts → MeansTheSame parts (unmarked parts) input limits
    means_the_same fields rules = record { meaning = ap (meaning_of_run input) (same_run fields rules); left = ap left_by_run (same_run fields rules) }
