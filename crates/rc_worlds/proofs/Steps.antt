-- One instruction of a sound image, over the source's world and over its store.
use Rattle.std.proofs.Common.{◌≡◌, ℕ, suc, ◌+◌, ◌-◌, ◌<◌, ℤ, pos, Bool, false, List, [], ◌∷◌, ◌++◌, length, take, drop, get_or, reverse, Option, Some, None, refl, sym, ap, ◌∙◌, subst, inl, inr, arith}
use Rattle.std.specs.Prelude.{true, not, IsTrue, Result, Ok, Err}
use Rattle.std.proofs.lemmas.Option.{slice_get-get_or}
use Rattle.std.proofs.lemmas.List.{length-reverse as length_reversed, length-map, length-take-le}
use Rattle.rc_base.specs.declared.ends.Trap.{Trap}
use Rattle.rc_core.specs.declared.ty.Signedness.{Signedness}
use Rattle.rc_core.specs.declared.operators.Direction.{Direction}
use Rattle.rc_core.specs.declared.ty.Signedness.TheVariants.{Signed, Unsigned as Wrapping}
use Rattle.rc_core.specs.declared.ty.NumberType.TheVariants.{Int, Unsigned}
use Rattle.rc_core.specs.Numbers.{byte_of}
use Rattle.rc_core.specs.Arithmetic.{type_of}
use Rattle.rc_core.specs.Typing.{fits}
use Rattle.rc_kinds.proofs.InRange.{IfOk, converted_fits, truth_fits, byte_of_fits}
use Rattle.rc_core.specs.Heap.{Value, Number, Null, Handle, Pointer, Heap}
use Rattle.rc_core.specs.Runs.{Run, Go, Stopped, bind, computed, Calls}
use Rattle.rc_core.specs.Source.{World, source}
use Rattle.rc_core.specs.Evaluation.{number_in, is_true, same_value, toward, region_named, give_number, local_at, static}
use Rattle.rc_core.specs.Execution.{with_local}
use Rattle.rc_code.specs.declared.kind.Storage.TheVariants as storage
use Rattle.rc_code.specs.declared.opcode.Typed.TheVariants as typed
use Rattle.rc_code.specs.declared.opcode.Arithmetic.{Arithmetic}
use Rattle.rc_code.specs.declared.opcode.Typed.{Typed}
use Rattle.rc_code.specs.declared.opcode.Simple.{Simple}
use Rattle.rc_code.specs.declared.opcode.Jump.{Jump}
use Rattle.rc_code.specs.declared.opcode.Jump.TheVariants as jump
use Rattle.rc_code.specs.declared.opcode.Simple.TheVariants as simple
use Rattle.rc_code.specs.declared.instruction.Instruction.TheVariants as instruction
use Rattle.rc_code.specs.declared.kind.Storage.{Storage}
use Rattle.rc_code.specs.declared.image.Path.{Path}
use Rattle.rc_code.specs.declared.image.Function.{Function}
use Rattle.rc_code.specs.declared.image.Global.{Global}
use Rattle.rc_code.specs.declared.instruction.Instruction.{Instruction}
use Rattle.rc_code.specs.Running.{Operation, two, one, operation, outcome, operand_count, path_at, function_at, cell_at, storage_of, value_at, kept, width, target_on, count_taken, Next, onward, backward, done, pinned, result_pushed, result_of, given, effect}
use Rattle.rc_code.specs.StoreModel.{Held}
use Rattle.rc_code.specs.Soundness.{no_global, Kind, numbers, handles, pointers, operand_kind, place_kinds, local_in, parameter_kinds, result_kinds, takes, gives, count_off, after, instruction_at, kinds_before, ends, IsFine}
use Rattle.rc_code.proofs.Kinding.{arithmetic_gives, arithmetic_takes, constant_gives, constant_takes, operation_takes, right_kind, result_sign}
use Rattle.rc_worlds.specs.Worlds.{Compared, watched, trusting, model, naming, may_mark, looks}
use Rattle.rc_worlds.specs.Typed.{HasKind, InRange, Keeps, Good, Reaches}
use Rattle.rc_worlds.specs.Facts.{ImageIsSound}
use Rattle.rc_worlds.proofs.Looks.{enter_law}
use Rattle.rc_worlds.proofs.Does.{Same, IfGoes, Does, reaches_itself, does_go, does_from, does_then, does_branching}
use Rattle.rc_worlds.proofs.Ranges.{byte_is_int, first_operand, outcome_fits}
use Rattle.rc_worlds.proofs.Typed.{there_is_made}
use Rattle.rc_worlds.proofs.WorldOps.{Gives, take_turn_does, put_byte_does, get_byte_does, new_region_does, new_subregion_does, allocate_does, delete_does, enter_good, leave_reaches, leave_law, step_does, load_does, put_does}
use Rattle.rc_worlds.proofs.Stacks.{AreKinds, AreLocals, zip_drop, zip_pushed, zip_below, zip_get, zip_update, kinds_grow, locals_grow, pinned_made, kept_suits, width_is, place_reached, value_reached}

pub drop_front : {A : Type 0} (xs ys : List A) → drop (length xs) (xs ++ ys) ≡ ys
drop_front [] ys = refl
drop_front (x ∷ xs) ys = drop_front xs ys

module _ (image : Compared) where
  abbrev pub ResultSuits : Option Storage → Value → World → Type 0
  ResultSuits None v w = Unit {0}
  ResultSuits (Some s) v w = HasKind image w.heap (operand_kind s) v

  -- where an instruction leaves the run: operands and locals have the kinds that are asked for there
  abbrev pub NextSuits : Function → (at : ℕ) → Next → World → Type 0
  NextSuits f at (onward n st env) w = (p : ℕ) × (p ≡ suc at + n) × (p < length f.code) × AreKinds image w.heap (kinds_before image.code f p) st × AreLocals image w.heap f.locals env
  NextSuits f at (backward to st env) w = (to < length f.code) × AreKinds image w.heap (kinds_before image.code f to) st × AreLocals image w.heap f.locals env
  NextSuits f at (done v) w = ResultSuits f.result v w

  -- from here on in a function, before the instruction p
  pub record Agrees (f : Function) (m : List Value → List Value → World → Run World Value) (m' : List Value → List Value → Held → Run Held Value) (p : ℕ) : Type 0 where
    pub agrees : (st env : List Value) (w : World) → Good image w → AreKinds image w.heap (kinds_before image.code f p) st → AreLocals image w.heap f.locals env → Does image w (ResultSuits f.result) (m st env w) (m' st env (model image.name w))

  pub record CallsAgree (calls : Calls World) (calls' : Calls Held) : Type 0 where
    pub agree : (g : ℕ) (vs : List Value) (w : World) → g < length image.code.parts.functions → Good image w → AreKinds image w.heap (parameter_kinds (function_at image.code g)) vs → Does image w (ResultSuits (function_at image.code g).result) (calls g vs w) (calls' g vs (model image.name w))

  goes_number : (w : World) (s : Signedness) (n : ℤ) → Good image w → InRange image.ranged (type_of s) n → Does image w (Gives image (numbers s)) (Go (Number n) w) (Go (Number n) (model image.name w))
  goes_number w s n good fits = does_go image w w (Gives image (numbers s)) (Number n) (reaches_itself image w good) (record { suits = fits })

  computed_does : (w : World) (s : Signedness) (line : ℕ) (r : Result ℤ Trap) → Good image w → (image.ranged ≡ true → IfOk (λ n. IsTrue (fits (type_of s) n)) r) → Does image w (Gives image (numbers s)) (bind (computed line r w) give_number) (bind (computed line r (model image.name w)) give_number)
  computed_does w s line (Ok n) good fits = goes_number w s n good fits
  computed_does w s line (Err t) good fits = record { same = inr refl; goes = tt }

  region_does : (w : World) (line t : ℕ) (v : Value) → Good image w → HasKind image w.heap (pointers t) v → Does image w (Gives image handles) (region_named line v w) (region_named line v (model image.name w))
  region_does w line t (Number n) good is = record { same = inr refl; goes = tt }
  region_does w line t Null good is = record { same = inr refl; goes = tt }
  region_does w line t (Handle r) good is = absurd is.suits
  region_does w line t (Pointer a) good is = does_go image w w (Gives image handles) (Handle a.region) (reaches_itself image w good) (record { suits = there_is_made w.heap a.region a.object _ is.suits.there })

  pub first_kind : (heap : Heap) (k : Kind) (below : List Kind) (st : List Value) → AreKinds image heap (k ∷ below) st → HasKind image heap k (value_at st 0)
  first_kind heap k below [] all = absurd all
  first_kind heap k below (v ∷ st) all = all.0

  number_fits : (heap : Heap) (s : Signedness) (v : Value) → HasKind image heap (numbers s) v → image.ranged ≡ true → IsTrue (fits (type_of s) (number_in v))
  number_fits heap s (Number n) is e = is.suits e
  number_fits heap s Null is e = absurd is.suits
  number_fits heap s (Handle r) is e = absurd is.suits
  number_fits heap s (Pointer a) is e = absurd is.suits

  second_kind : (heap : Heap) (k j : Kind) (below : List Kind) (st : List Value) → AreKinds image heap (k ∷ j ∷ below) st → HasKind image heap j (value_at st 1)
  second_kind heap k j below [] all = absurd all
  second_kind heap k j below (v ∷ []) all = absurd all.1
  second_kind heap k j below (v ∷ u ∷ st) all = all.1.0

  module _ (sound : ImageIsSound image) (f : Function) (line at : ℕ) (calls : Calls World) (calls' : Calls Held) (called : CallsAgree calls calls') where
    behind : (st env : List Value) (w : World) → suc at < length f.code → AreKinds image w.heap (kinds_before image.code f (suc at)) st → AreLocals image w.heap f.locals env → NextSuits f at (onward 0 st env) w
    behind st env w more all locals = let e : suc at ≡ suc at + 0 = omega arith in (suc at, e, more, all, locals)

    -- what stands on the stack behind the instruction
    pub kinds_behind : (i : Instruction) (below : List Kind) → instruction_at f at ≡ i → count_off image.code f i ≡ length (takes image.code f i) → kinds_before image.code f at ≡ takes image.code f i ++ below → kinds_before image.code f (suc at) ≡ gives image.code f i ++ below
    kinds_behind i below is off e =
        ap (λ i. after image.code f i (kinds_before image.code f at)) is
        ∙ ap (λ n. gives image.code f i ++ drop n (kinds_before image.code f at)) off
        ∙ ap (λ kinds. gives image.code f i ++ drop (length (takes image.code f i)) kinds) e
        ∙ ap (λ kinds. gives image.code f i ++ kinds) (drop_front (takes image.code f i) below)

    -- an instruction that gives a value
    giving : (i : Instruction) (k : Kind) (below : List Kind) → instruction_at f at ≡ i → suc at < length f.code → gives image.code f i ≡ k ∷ [] → count_off image.code f i ≡ length (takes image.code f i) → count_taken image.code i ≡ length (takes image.code f i)
        → kinds_before image.code f at ≡ takes image.code f i ++ below
        → (st env : List Value) (w : World) → AreKinds image w.heap (takes image.code f i ++ below) st → AreLocals image w.heap f.locals env
        → (m : Run World Value) (m' : Run Held Value) → Does image w (Gives image k) m m'
        → Does image w (NextSuits f at) (bind m (λ v. Go (onward 0 (v ∷ drop (count_taken image.code i) st) env))) (bind m' (λ v. Go (onward 0 (v ∷ drop (count_taken image.code i) st) env)))
    giving i k below is more single off count e st env w all locals m m' d =
        does_then image w (Gives image k) (NextSuits f at) m m' _ _ d (λ v w1 a gives_k.
        does_go image w1 w1 (NextSuits f at) (onward 0 (v ∷ drop (count_taken image.code i) st) env) (reaches_itself image w1 a.good) (behind (v ∷ drop (count_taken image.code i) st) env w1 more
        (subst (λ kinds. AreKinds image w1.heap kinds (v ∷ drop (count_taken image.code i) st)) (sym (kinds_behind i below is off e ∙ ap (λ kinds. kinds ++ below) single))
        (gives_k, subst (λ n. AreKinds image w1.heap below (drop n st)) (sym count) (kinds_grow image w.heap w1.heap a.grows below _ (zip_drop (HasKind image w.heap) (takes image.code f i) below st all))))
        (locals_grow image w.heap w1.heap a.grows f.locals env locals)))

    -- one instruction
    pub record Steps (i : Instruction) : Type 0 where
      pub agrees : (st env : List Value) (w : World) → Good image w → AreKinds image w.heap (kinds_before image.code f at) st → AreLocals image w.heap f.locals env
          → Does image w (NextSuits f at) (effect (watched image) image.code f line at i calls st env w) (effect (trusting image.name) image.code f line at i calls' st env (model image.name w))

    abbrev pub Acts : Instruction → Type 0
    Acts i = instruction_at f at ≡ i → IsFine (may_mark image.marks) image.code f at i → (ends i ≡ false → suc at < length f.code) → Steps i

    abbrev as_kinds : (w : World) (kinds : List Kind) (st : List Value) → kinds_before image.code f at ≡ kinds → AreKinds image w.heap (kinds_before image.code f at) st → AreKinds image w.heap kinds st
    as_kinds w kinds st e all = subst (λ kinds. AreKinds image w.heap kinds st) e all

    -- an instruction that gives a value: what it gives suffices
    gives_by : (i : Instruction) (k : Kind) → gives image.code f i ≡ k ∷ [] → count_off image.code f i ≡ length (takes image.code f i) → count_taken image.code i ≡ length (takes image.code f i)
        → instruction_at f at ≡ i → suc at < length f.code → (below : List Kind) → kinds_before image.code f at ≡ takes image.code f i ++ below
        → ((st env : List Value) (w : World) → Good image w → AreKinds image w.heap (takes image.code f i ++ below) st → AreLocals image w.heap f.locals env → Does image w (Gives image k) (given (watched image) image.code line i env st w) (given (trusting image.name) image.code line i env st (model image.name w)))
        → (st env : List Value) (w : World) → Good image w → AreKinds image w.heap (kinds_before image.code f at) st → AreLocals image w.heap f.locals env
        → Does image w (NextSuits f at) (bind (given (watched image) image.code line i env st w) (λ v. Go (onward 0 (v ∷ drop (count_taken image.code i) st) env))) (bind (given (trusting image.name) image.code line i env st (model image.name w)) (λ v. Go (onward 0 (v ∷ drop (count_taken image.code i) st) env)))
    gives_by i k single off count is more below e each st env w good all locals =
        giving i k below is more single off count e st env w (as_kinds w _ st e all) locals (given (watched image) image.code line i env st w) (given (trusting image.name) image.code line i env st (model image.name w)) (each st env w good (as_kinds w _ st e all) locals)

    number_acts : (s : Signedness) (n : ℕ) → Acts (instruction.Constant s n)
    number_acts s n is fine more = let b = fine.operands in record { agrees = gives_by (instruction.Constant s n) (numbers s) (constant_gives image.code f s n) refl (sym (ap length (constant_takes image.code f s n))) is (more refl) b.0 b.1 (λ st env w good all locals. goes_number w s _ good (λ _. converted_fits (type_of s) (pos n))) }

    null_region_acts : Acts (instruction.Simple simple.NullRegion)
    null_region_acts is fine more = let b = fine.operands in record {
      agrees = gives_by (instruction.Simple simple.NullRegion) handles refl refl refl is (more refl) b.0 b.1 (λ st env w good all locals.
          does_go image w w (Gives image handles) Null (reaches_itself image w good) (record { suits = tt }));
    }

    null_pointer_acts : (t : ℕ) → Acts (instruction.Typed typed.Null t)
    null_pointer_acts t is fine more = let b = fine.operands in record {
      agrees = gives_by (instruction.Typed typed.Null t) (pointers t) refl refl refl is (more refl) b.0 b.1 (λ st env w good all locals.
          does_go image w w (Gives image (pointers t)) Null (reaches_itself image w good) (record { suits = tt }));
    }

    global_acts : (g : ℕ) → Acts (instruction.Global g)
    global_acts g is fine more = let b = fine.operands in record {
      agrees = gives_by (instruction.Global g) (pointers there.type_number) refl refl refl is (more refl) b.0 b.1 (λ st env w good all locals.
          does_go image w w (Gives image (pointers there.type_number)) (static g) (reaches_itself image w good) (record { suits = record { count = there.elements; there = good.globals g there (slice_get-get_or image.code.parts.globals g no_global fine.names); within = omega arith } }));
    }
      where
        there : Global
        there = get_or image.code.parts.globals g no_global

    get_acts : (x : ℕ) → Acts (instruction.Get x)
    get_acts x is fine more = let b = fine.operands in record {
      agrees = gives_by (instruction.Get x) (operand_kind (local_in f x)) refl refl refl is (more refl) b.0 b.1 (λ st env w good all locals.
          does_go image w w (Gives image (operand_kind (local_in f x))) (local_at env x) (reaches_itself image w good) (zip_get (Keeps image w.heap) f.locals env x storage.Region Null locals fine.names).kind);
    }

    arithmetic_acts : (row : Arithmetic) (s : Signedness) → Acts (instruction.Arithmetic row s)
    arithmetic_acts row s is fine more = let b = fine.operands in record {
      agrees = gives_by (instruction.Arithmetic row s) (numbers (result_sign (operation row) s)) (arithmetic_gives image.code f row s) refl (count (operation row) ∙ ap length (sym taken)) is (more refl) b.0 b.1 (λ st env w good all locals.
          computed_does w (result_sign (operation row) s) line (outcome (operation row) s st) good (λ e. outcome_fits (operation row) s st (operand (operation row) w st b.0 (subst (λ kinds. AreKinds image w.heap (kinds ++ b.0) st) taken all) e)));
    }
      where
        taken : takes image.code f (instruction.Arithmetic row s) ≡ operation_takes (operation row) s
        taken = arithmetic_takes image.code f row s

        count : (o : Operation) → operand_count o ≡ length (operation_takes o s)
        count (two o) = refl
        count (one o) = refl

        operand : (o : Operation) (w : World) (st : List Value) (below : List Kind) → AreKinds image w.heap (operation_takes o s ++ below) st → image.ranged ≡ true → IsTrue (fits (type_of s) (number_in (first_operand o st)))
        operand (two o) w st below all e = number_fits w.heap s (value_at st 1) (second_kind w.heap (right_kind o s) (numbers s) below st all) e
        operand (one o) w st below all e = number_fits w.heap s (value_at st 0) (first_kind w.heap (numbers s) below st all) e

    zero_test_acts : Acts (instruction.Simple simple.IsZero)
    zero_test_acts is fine more = let b = fine.operands in record { agrees = gives_by (instruction.Simple simple.IsZero) (numbers Signed) refl refl refl is (more refl) b.0 b.1 (λ st env w good all locals. goes_number w Signed _ good (λ _. truth_fits (not (is_true (value_at st 0))))) }

    null_pointer_test_acts : (t : ℕ) → Acts (instruction.Typed typed.IsNull t)
    null_pointer_test_acts t is fine more = let b = fine.operands in record { agrees = gives_by (instruction.Typed typed.IsNull t) (numbers Signed) refl refl refl is (more refl) b.0 b.1 (λ st env w good all locals. goes_number w Signed _ good (λ _. truth_fits (not (is_true (value_at st 0))))) }

    null_region_test_acts : Acts (instruction.Simple simple.IsNullRegion)
    null_region_test_acts is fine more = let b = fine.operands in record { agrees = gives_by (instruction.Simple simple.IsNullRegion) (numbers Signed) refl refl refl is (more refl) b.0 b.1 (λ st env w good all locals. goes_number w Signed _ good (λ _. truth_fits (not (is_true (value_at st 0))))) }

    same_pointer_acts : (t : ℕ) → Acts (instruction.Typed typed.Same t)
    same_pointer_acts t is fine more = let b = fine.operands in record { agrees = gives_by (instruction.Typed typed.Same t) (numbers Signed) refl refl refl is (more refl) b.0 b.1 (λ st env w good all locals. goes_number w Signed _ good (λ _. truth_fits (same_value (value_at st 1) (value_at st 0)))) }

    same_region_acts : Acts (instruction.Simple simple.SameRegion)
    same_region_acts is fine more = let b = fine.operands in record { agrees = gives_by (instruction.Simple simple.SameRegion) (numbers Signed) refl refl refl is (more refl) b.0 b.1 (λ st env w good all locals. goes_number w Signed _ good (λ _. truth_fits (same_value (value_at st 1) (value_at st 0)))) }

    to_int_acts : Acts (instruction.Simple simple.ToInt)
    to_int_acts is fine more = let b = fine.operands in record { agrees = gives_by (instruction.Simple simple.ToInt) (numbers Signed) refl refl refl is (more refl) b.0 b.1 (λ st env w good all locals. goes_number w Signed _ good (λ _. converted_fits Int (number_in (value_at st 0)))) }

    to_unsigned_acts : Acts (instruction.Simple simple.ToUnsigned)
    to_unsigned_acts is fine more = let b = fine.operands in record { agrees = gives_by (instruction.Simple simple.ToUnsigned) (numbers Wrapping) refl refl refl is (more refl) b.0 b.1 (λ st env w good all locals. goes_number w Wrapping _ good (λ _. converted_fits Unsigned (number_in (value_at st 0)))) }

    to_char_acts : Acts (instruction.Simple simple.ToChar)
    to_char_acts is fine more = let b = fine.operands in record { agrees = gives_by (instruction.Simple simple.ToChar) (numbers Signed) refl refl refl is (more refl) b.0 b.1 (λ st env w good all locals. goes_number w Signed _ good (λ _. byte_is_int (number_in (value_at st 0)))) }

    move_acts : (t : ℕ) (s : Signedness) (direction : Direction) → Acts (instruction.Move t s direction)
    move_acts t s direction is fine more = let b = fine.operands in record {
      agrees = gives_by (instruction.Move t s direction) (pointers t) refl refl refl is (more refl) b.0 b.1 (λ st env w good all locals.
          step_does image line t (value_at st 1) (toward direction (number_in (value_at st 0))) w good (second_kind w.heap (numbers s) (pointers t) b.0 st all));
    }

    load_acts : (p : ℕ) → Acts (instruction.Load p)
    load_acts p is fine more = let b = fine.operands in let path = path_at image.code p in
        record {
          agrees = gives_by (instruction.Load p) (operand_kind (storage_of image.code (cell_at image.code path))) refl refl (width_is image path ∙ sym (length_reversed (place_kinds path))) is (more refl) b.0 b.1 (λ st env w good all locals.
              load_does image line (target_on path st) (operand_kind (storage_of image.code (cell_at image.code path))) w good (λ a spot here.
              (value_reached image w path (target_on path st) a spot good here (place_reached image w path b.0 st (sound.paths p fine.names) all a spot here)).kind));
        }

    new_region_acts : Acts (instruction.Simple simple.NewRegion)
    new_region_acts is fine more = let b = fine.operands in record { agrees = gives_by (instruction.Simple simple.NewRegion) handles refl refl refl is (more refl) b.0 b.1 (λ st env w good all locals. new_region_does image line w good) }

    new_subregion_acts : Acts (instruction.Simple simple.NewSubregion)
    new_subregion_acts is fine more = let b = fine.operands in record { agrees = gives_by (instruction.Simple simple.NewSubregion) handles refl refl refl is (more refl) b.0 b.1 (λ st env w good all locals. new_subregion_does image line (value_at st 0) w good) }

    region_of_acts : (t : ℕ) → Acts (instruction.Typed typed.RegionOf t)
    region_of_acts t is fine more = let b = fine.operands in record { agrees = gives_by (instruction.Typed typed.RegionOf t) handles refl refl refl is (more refl) b.0 b.1 (λ st env w good all locals. region_does w line t (value_at st 0) good (first_kind w.heap (pointers t) b.0 st all)) }

    allocate_acts : (t : ℕ) → Acts (instruction.Typed typed.Allocate t)
    allocate_acts t is fine more = let b = fine.operands in record { agrees = gives_by (instruction.Typed typed.Allocate t) (pointers t) refl refl refl is (more refl) b.0 b.1 (λ st env w good all locals. allocate_does image line (value_at st 0) (pos 1) t w good) }

    allocate_array_acts : (t : ℕ) → Acts (instruction.Typed typed.AllocateArray t)
    allocate_array_acts t is fine more = let b = fine.operands in record { agrees = gives_by (instruction.Typed typed.AllocateArray t) (pointers t) refl refl refl is (more refl) b.0 b.1 (λ st env w good all locals. allocate_does image line (value_at st 1) (number_in (value_at st 0)) t w good) }

    putchar_acts : Acts (instruction.Simple simple.PutChar)
    putchar_acts is fine more = let b = fine.operands in record {
      agrees = gives_by (instruction.Simple simple.PutChar) (numbers Signed) refl refl refl is (more refl) b.0 b.1 (λ st env w good all locals.
          does_then image w (λ _ w1. Unit {0}) (Gives image (numbers Signed)) _ _ (λ _ w1. Go (Number (pos (byte_of (number_in (value_at st 0))))) w1) (λ _ w1. Go (Number (pos (byte_of (number_in (value_at st 0))))) w1) (put_byte_does image (byte_of (number_in (value_at st 0))) w good) (λ _ w1 a _. goes_number w1 Signed (pos (byte_of (number_in (value_at st 0)))) a.good (λ _. byte_of_fits (number_in (value_at st 0)))));
    }

    getchar_acts : Acts (instruction.Simple simple.GetChar)
    getchar_acts is fine more = let b = fine.operands in record {
      agrees = gives_by (instruction.Simple simple.GetChar) (numbers Signed) refl refl refl is (more refl) b.0 b.1 (λ st env w good all locals.
          does_then image w (λ z w1. InRange image.ranged Int z) (Gives image (numbers Signed)) _ _ give_number give_number (get_byte_does image w good) (λ n w1 a fits. goes_number w1 Signed n a.good fits));
    }

    -- an instruction behind which the run goes on with fewer operands
    falling : (i : Instruction) (below : List Kind) → instruction_at f at ≡ i → suc at < length f.code → gives image.code f i ≡ [] → count_off image.code f i ≡ length (takes image.code f i) → kinds_before image.code f at ≡ takes image.code f i ++ below
        → (st env : List Value) (w : World) → Good image w → AreKinds image w.heap below st → AreLocals image w.heap f.locals env → Does image w (NextSuits f at) (Go (onward 0 st env) w) (Go (onward 0 st env) (model image.name w))
    falling i below is more none off e st env w good all locals =
        does_go image w w (NextSuits f at) (onward 0 st env) (reaches_itself image w good) (behind st env w more (subst (λ kinds. AreKinds image w.heap kinds st) (sym (kinds_behind i below is off e ∙ ap (λ kinds. kinds ++ below) none)) all) locals)

    set_acts : (x : ℕ) → Acts (instruction.Set x)
    set_acts x is fine more = record {
      agrees = λ st env w good all locals. let b = fine.operands in let all1 = as_kinds w _ st b.1 all in
          falling (instruction.Set x) b.0 is (more refl) refl refl b.1 (drop 1 st) (with_local env x (kept (local_in f x) (value_at st 0))) w good (zip_drop (HasKind image w.heap) (operand_kind (local_in f x) ∷ []) b.0 st all1)
          (zip_update (Keeps image w.heap) f.locals env x storage.Region _ locals (kept_suits image w.heap (local_in f x) (value_at st 0) (first_kind w.heap (operand_kind (local_in f x)) b.0 st all1)));
    }

    store_acts : (p : ℕ) (proved : Bool) → Acts (instruction.Store p proved)
    store_acts p proved is fine more = record { agrees = λ st env w good all locals. on st env w good (as_kinds w _ st b.1 all) locals }
      where
        b : (below : List Kind) × (kinds_before image.code f at ≡ takes image.code f (instruction.Store p proved) ++ below)
        b = fine.operands

        path : Path
        path = path_at image.code p

        on : (st env : List Value) (w : World) → Good image w → AreKinds image w.heap (operand_kind (storage_of image.code (cell_at image.code path)) ∷ reverse (place_kinds path) ++ b.0) st → AreLocals image w.heap f.locals env
            → Does image w (NextSuits f at) (effect (watched image) image.code f line at (instruction.Store p proved) calls st env w) (effect (trusting image.name) image.code f line at (instruction.Store p proved) calls' st env (model image.name w))
        on [] env w good all locals = absurd all
        on (v ∷ st) env w good all locals =
            does_then image w (λ _ w1. Unit {0}) (NextSuits f at) _ _ _ _
            (put_does image (looks image.marks) refl proved (λ e. (fine.names.1 e).0) line (target_on path st) (kept (storage_of image.code (cell_at image.code path)) v) w good (λ a spot here.
            subst (λ s. Keeps image w.heap s (kept (storage_of image.code (cell_at image.code path)) v)) (sym (place_reached image w path b.0 st (sound.paths p fine.names.0) all.1 a spot here).kind)
            (kept_suits image w.heap (storage_of image.code (cell_at image.code path)) v all.0)))
            (λ _ w1 a _. falling (instruction.Store p proved) b.0 is (more refl) refl refl b.1 (drop (width path) st) env w1 a.good
            (kinds_grow image w.heap w1.heap a.grows b.0 _ (zip_below (HasKind image w.heap) (place_kinds path) b.0 st (width path) (width_is image path) all.1))
            (locals_grow image w.heap w1.heap a.grows f.locals env locals))

    delete_acts : (pins : List ℕ) → Acts (instruction.Delete pins)
    delete_acts pins is fine more = record {
      agrees = λ st env w good all locals. let b = fine.operands in let all1 = as_kinds w _ st b.1 all in
          does_then image w (λ _ w1. Unit {0}) (NextSuits f at) _ _ _ _ (delete_does image line (pinned pins env) (value_at st 0) w good) (λ _ w1 a _.
          falling (instruction.Delete pins) b.0 is (more refl) refl refl b.1 (drop 1 st) env w1 a.good (kinds_grow image w.heap w1.heap a.grows b.0 _ (zip_drop (HasKind image w.heap) (handles ∷ []) b.0 st all1)) (locals_grow image w.heap w1.heap a.grows f.locals env locals));
    }

    -- pinned values wait while the function runs
    pub around : {A : Type 0} (w : World) (held : List Value) (P : Value → World → Type 0) (m : Run World Value) (m' : Run Held Value) (go : Value → World → Run World A) (go' : Value → Held → Run Held A) (Q : A → World → Type 0)
        → Does image (source.enter held w) P m m' → ((v : Value) (w1 : World) → Reaches image w (source.leave w w1) → P v w1 → Does image (source.leave w w1) Q (go v (source.leave w w1)) (go' v (model image.name (source.leave w w1))))
        → Does image w Q (bind m (λ v w1. go v (source.leave w w1))) (bind m' (λ v w1. go' v ((naming image.name).leave (model image.name w) w1)))
    around w held P m m' go go' Q d k = by m d.same d.goes
      where
        by : (m : Run World Value) → Same image m m' → IfGoes (λ v w1. Reaches image (source.enter held w) w1 × P v w1) m → Does image w Q (bind m (λ v w1. go v (source.leave w w1))) (bind m' (λ v w1. go' v ((naming image.name).leave (model image.name w) w1)))
        by (Go v w1) (inl e) goes = absurd e
        by (Stopped stop w1) (inl e) goes = record { same = inl e; goes = tt }
        by (Go v w1) (inr same) goes =
            let a = leave_reaches image held w w1 goes.0 in
            subst (λ m'. Does image w Q (go v (source.leave w w1)) (bind m' (λ v w1. go' v ((naming image.name).leave (model image.name w) w1)))) (sym same)
            (subst (λ now. Does image w Q (go v (source.leave w w1)) (go' v now)) (sym (leave_law image held w w1 goes.0))
            (does_from image w (source.leave w w1) Q _ _ a (k v w1 a goes.1)))
        by (Stopped s w1) (inr same) goes = subst (λ m'. Does image w Q (Stopped s w1) (bind m' (λ v w1. go' v ((naming image.name).leave (model image.name w) w1)))) (sym same) (record { same = inr refl; goes = tt })

    call_acts : (g : ℕ) (pins : List ℕ) → Acts (instruction.Call g pins)
    call_acts g pins is fine more = record { agrees = λ st env w good all locals. on st env w good (as_kinds w _ st b.1 all) locals }
      where
        b : (below : List Kind) × (kinds_before image.code f at ≡ takes image.code f (instruction.Call g pins) ++ below)
        b = fine.operands

        to : Function
        to = function_at image.code g

        count : to.parameters ≡ length (parameter_kinds to)
        count = let e = length-map (take to.parameters to.locals) operand_kind in let e2 = length-take-le to.parameters to.locals (sound.parameters g fine.names.0) in sym (e ∙ e2)

        gone : (v : Value) (st env : List Value) (w w1 : World) → Reaches image w w1 → ResultSuits to.result v w1 → AreKinds image w.heap (reverse (parameter_kinds to) ++ b.0) st → AreLocals image w.heap f.locals env
            → Does image w1 (NextSuits f at) (Go (onward 0 (result_pushed to.result v (drop to.parameters st)) env) w1) (Go (onward 0 (result_pushed to.result v (drop to.parameters st)) env) (model image.name w1))
        gone v st env w w1 a suits all locals =
            does_go image w1 w1 (NextSuits f at) (onward 0 (result_pushed to.result v (drop to.parameters st)) env) (reaches_itself image w1 a.good) (behind (result_pushed to.result v (drop to.parameters st)) env w1 (more refl)
            (subst (λ kinds. AreKinds image w1.heap kinds (result_pushed to.result v (drop to.parameters st))) (sym (kinds_behind (instruction.Call g pins) b.0 is refl b.1)) (push to.result suits))
            (locals_grow image w.heap w1.heap a.grows f.locals env locals))
          where
            rest : AreKinds image w1.heap b.0 (drop to.parameters st)
            rest = kinds_grow image w.heap w1.heap a.grows b.0 _ (zip_below (HasKind image w.heap) (parameter_kinds to) b.0 st to.parameters count all)

            push : (result : Option Storage) → ResultSuits result v w1 → AreKinds image w1.heap (result_kinds result ++ b.0) (result_pushed result v (drop to.parameters st))
            push None s = rest
            push (Some r) s = (s, rest)

        on : (st env : List Value) (w : World) → Good image w → AreKinds image w.heap (reverse (parameter_kinds to) ++ b.0) st → AreLocals image w.heap f.locals env
            → Does image w (NextSuits f at) (effect (watched image) image.code f line at (instruction.Call g pins) calls st env w) (effect (trusting image.name) image.code f line at (instruction.Call g pins) calls' st env (model image.name w))
        on st env w good all locals =
            let held = pinned pins env in
            let vs = reverse (take to.parameters st) in
            around w held (ResultSuits to.result) (calls g vs (source.enter held w)) (calls' g vs ((naming image.name).enter held (model image.name w))) (λ v. Go (onward 0 (result_pushed to.result v (drop to.parameters st)) env)) (λ v. Go (onward 0 (result_pushed to.result v (drop to.parameters st)) env)) (NextSuits f at)
            (subst (λ now. Does image (source.enter held w) (ResultSuits to.result) (calls g vs (source.enter held w)) (calls' g vs now)) (sym (enter_law image.name held w))
            (called.agree g vs (source.enter held w) fine.names.0 (enter_good image held w good (pinned_made image w.heap pins f.locals env locals)) (zip_pushed (HasKind image w.heap) (parameter_kinds to) b.0 st to.parameters count all)))
            (λ v w1 a s. gone v st env w (source.leave w w1) a (left to.result v w w1 s) all locals)
          where
            left : (result : Option Storage) (v : Value) (w w1 : World) → ResultSuits result v w1 → ResultSuits result v (source.leave w w1)
            left None v w w1 s = tt
            left (Some r) v w w1 s = s

    leave_acts : Acts (instruction.Simple simple.Return)
    leave_acts is fine more = record { agrees = λ st env w good all locals. let b = fine.operands in does_go image w w (NextSuits f at) (done (result_of f.result st)) (reaches_itself image w good) (gives_result w f.result b.0 st (as_kinds w _ st b.1 all)) }
      where
        gives_result : (w : World) (result : Option Storage) (below : List Kind) (st : List Value) → AreKinds image w.heap (result_kinds result ++ below) st → ResultSuits result (result_of result st) w
        gives_result w None below st all = tt
        gives_result w (Some s) below st all = first_kind w.heap (operand_kind s) below st all

    -- to a target, before which the stack is empty
    ahead : (to : ℕ) (st env : List Value) (w : World) → at < to → to < length f.code → AreKinds image w.heap (kinds_before image.code f to) st → AreLocals image w.heap f.locals env → NextSuits f at (onward (to - suc at) st env) w
    ahead to st env w later inside all locals = let e : to ≡ suc at + (to - suc at) = omega arith in (to, e, inside, all, locals)

    empty_at : (w : World) (kinds kinds1 : List Kind) (st : List Value) → kinds ≡ [] → kinds1 ≡ [] → AreKinds image w.heap kinds st → AreKinds image w.heap kinds1 st
    empty_at w kinds kinds1 st e e1 all = subst (λ ks. AreKinds image w.heap ks st) (e ∙ sym e1) all

    jump_acts : (to : ℕ) → Acts (instruction.Jump jump.Always to)
    jump_acts to is fine more = record { agrees = λ st env w good all locals. let t = fine.targets in does_go image w w (NextSuits f at) (onward (to - suc at) st env) (reaches_itself image w good) (ahead to st env w t.0 t.1 (empty_at w _ _ st fine.empty t.2 all) locals) }

    back_acts : (to : ℕ) → Acts (instruction.Jump jump.Back to)
    back_acts to is fine more = record {
      agrees = λ st env w good all locals. let t = fine.targets in
          does_then image w (λ _ w1. Unit {0}) (NextSuits f at) _ _ _ _ (take_turn_does image w good) (λ _ w1 a _.
          does_go image w1 w1 (NextSuits f at) (backward to st env) (reaches_itself image w1 a.good) (t.1, empty_at w1 _ _ st fine.empty t.2 (kinds_grow image w.heap w1.heap a.grows _ st all), locals_grow image w.heap w1.heap a.grows f.locals env locals));
    }

    jump_zero_acts : (to : ℕ) → Acts (instruction.Jump jump.IfZero to)
    jump_zero_acts to is fine more = record {
      agrees = λ st env w good all locals. let t = fine.targets in let b = fine.operands in let all1 = as_kinds w _ st b.1 all in
          let rest = zip_drop (HasKind image w.heap) (numbers Signed ∷ []) b.0 st all1 in
          let none : b.0 ≡ [] = sym (ap (λ kinds. drop 1 kinds) b.1) ∙ fine.empty in
          does_branching image w (NextSuits f at) (is_true (value_at st 0)) (Go (onward 0 (drop 1 st) env)) (Go (onward (to - suc at) (drop 1 st) env)) (Go (onward 0 (drop 1 st) env)) (Go (onward (to - suc at) (drop 1 st) env))
          (falling (instruction.Jump jump.IfZero to) b.0 is (more refl) refl refl b.1 (drop 1 st) env w good rest locals)
          (does_go image w w (NextSuits f at) (onward (to - suc at) (drop 1 st) env) (reaches_itself image w good) (ahead to (drop 1 st) env w t.0 t.1 (empty_at w _ _ (drop 1 st) none t.2 rest) locals));
    }

    pop_acts : Acts (instruction.Simple simple.Pop)
    pop_acts is fine more = record {
      agrees = λ st env w good all locals. let b = fine.operands in let all1 = as_kinds w _ st b.2 all in
          does_go image w w (NextSuits f at) (onward 0 (drop 1 st) env) (reaches_itself image w good) (behind (drop 1 st) env w (more refl)
          (subst (λ kinds. AreKinds image w.heap kinds (drop 1 st)) (sym (ap (λ i. after image.code f i (kinds_before image.code f at)) is ∙ ap (λ kinds. drop 1 kinds) b.2)) (zip_drop (HasKind image w.heap) (b.0 ∷ []) b.1 st all1)) locals);
    }

    typed_acts : (row : Typed) (t : ℕ) → Acts (instruction.Typed row t)
    typed_acts typed.Null t = null_pointer_acts t
    typed_acts typed.Same t = same_pointer_acts t
    typed_acts typed.IsNull t = null_pointer_test_acts t
    typed_acts typed.RegionOf t = region_of_acts t
    typed_acts typed.Allocate t = allocate_acts t
    typed_acts typed.AllocateArray t = allocate_array_acts t

    simple_acts : (row : Simple) → Acts (instruction.Simple row)
    simple_acts simple.NullRegion = null_region_acts
    simple_acts simple.SameRegion = same_region_acts
    simple_acts simple.IsZero = zero_test_acts
    simple_acts simple.IsNullRegion = null_region_test_acts
    simple_acts simple.ToInt = to_int_acts
    simple_acts simple.ToUnsigned = to_unsigned_acts
    simple_acts simple.ToChar = to_char_acts
    simple_acts simple.NewRegion = new_region_acts
    simple_acts simple.NewSubregion = new_subregion_acts
    simple_acts simple.Return = leave_acts
    simple_acts simple.PutChar = putchar_acts
    simple_acts simple.GetChar = getchar_acts
    simple_acts simple.Pop = pop_acts

    jump_row_acts : (row : Jump) (to : ℕ) → Acts (instruction.Jump row to)
    jump_row_acts jump.Always to = jump_acts to
    jump_row_acts jump.IfZero to = jump_zero_acts to
    jump_row_acts jump.Back to = back_acts to

    pub acts : (i : Instruction) → Acts i
    acts (instruction.Constant s n) = number_acts s n
    acts (instruction.Global g) = global_acts g
    acts (instruction.Get x) = get_acts x
    acts (instruction.Set x) = set_acts x
    acts (instruction.Load p) = load_acts p
    acts (instruction.Typed row t) = typed_acts row t
    acts (instruction.Arithmetic row s) = arithmetic_acts row s
    acts (instruction.Move t s direction) = move_acts t s direction
    acts (instruction.Store p b) = store_acts p b
    acts (instruction.Simple row) = simple_acts row
    acts (instruction.Delete pins) = delete_acts pins
    acts (instruction.Call g pins) = call_acts g pins
    acts (instruction.Jump row to) = jump_row_acts row to
