-- The instructions that give a value.
use Rattle.std.proofs.Common.{◌≡◌, ◌≢◌, ℕ, zero, suc, ◌-◌, ◌<◌, ◌≤◌, ℤ, pos, Bool, true, false, List, [], ◌∷◌, ◌++◌, length, map, take, drop, get_or, reverse, Option, None, refl, sym, ap, ◌∙◌, subst, arith}
use Rattle.std.specs.Prelude.{Result, Ok, Err}
use Rattle.std.specs.List.{AllZip}
use Rattle.std.proofs.lemmas.List.{length-reverse}
use Rattle.rc_base.specs.declared.ends.Trap.{Trap}
use Rattle.rc_core.specs.declared.ty.Note.TheVariants.{Plain}
use Rattle.rc_core.specs.declared.ty.Signedness.{Signedness}
use Rattle.rc_core.specs.declared.operators.Direction.{Direction}
use Rattle.rc_core.specs.Numbers.{byte_of}
use Rattle.rc_base.specs.Acts.{Write}
use Rattle.rc_core.specs.Types.{int_cell}
use Rattle.rc_core.specs.Layout.{Layout, note_of}
use Rattle.rc_core.specs.Heap.{Value, Number, Null, Handle, Pointer, Address, Heap, live, parent, fits, object_at}
use Rattle.rc_core.specs.Runs.{Run, Go, Stopped, bind, computed, Target}
use Rattle.rc_core.specs.Evaluation.{number_in, local_at, give_number, region_named, static, toward}
use Rattle.rc_core.specs.Source.{World, Spot, object_of, cell_of, doing, source}
use Rattle.rc_rlang.specs.RegionFlow.{Effect, nothing, nulled, moved, fixed, beside, made, under, loaded, looked_at}
use Rattle.rc_annotations.specs.Annotations.{Annotation, exit_facts}
use Rattle.rc_annotations.specs.Holding.{is_present, region_in}
use Rattle.rc_annotations.specs.Worlds.{Stays, Beside, Loaded, note_at, note_behind}
use Rattle.rc_annotations.specs.Effects.{Happens}
use Rattle.rc_annotations.proofs.WorldFacts.{stays_itself, stays_heap, step_says, new_region_says, new_subregion_says, allocate_says, load_says}
use Rattle.rc_code.specs.declared.opcode.Arithmetic.{Arithmetic}
use Rattle.rc_code.specs.declared.opcode.Typed.{Typed}
use Rattle.rc_code.specs.declared.opcode.Typed.TheVariants as typed
use Rattle.rc_code.specs.declared.opcode.Simple.TheVariants as simple
use Rattle.rc_code.specs.declared.instruction.Instruction.{Instruction}
use Rattle.rc_code.specs.declared.instruction.Instruction.TheVariants as instruction
use Rattle.rc_code.specs.declared.image.Function.{Function}
use Rattle.rc_code.specs.declared.image.Path.{Path}
use Rattle.rc_code.specs.declared.image.Parts.{Parts}
use Rattle.rc_code.specs.Image.{FieldsFit}
use Rattle.rc_code.specs.Running.{Reading, reading_of, function_at, path_at, cell_at, storage_of, layout_at, value_at, width, target_on, Operation, two, one, operation, outcome, operand_count}
use Rattle.rc_code.specs.Soundness.{Kind, place_kinds, Sound, gives, count_off, instruction_at, is_regional, local_in, IsFine}
use Rattle.rc_code.proofs.Kinding.{operation_takes, arithmetic_takes, arithmetic_gives, constant_takes, constant_gives}
use Rattle.rc_worlds.specs.Typed.{HasKind}
use Rattle.rc_worlds.proofs.Stacks.{width_is, place_reached}
use Rattle.rc_claims.specs.Counts.{copies, local_variable, place}
use Rattle.rc_sealed.specs.ImageVariables.{scratch, values_of}
use Rattle.rc_sealed.specs.Carrying.{effect_of, height, lowest, if_regional, load_effect}
use Rattle.rc_sealed.specs.Proved.{Way}
use Rattle.rc_sealed.specs.Pinned.{got}
use Rattle.rc_sealed.specs.AllProved.{AllProved}
use Rattle.rc_sealed.proofs.Safe.{FreshIn, Quiet, none_dies, goes_quietly, quiet_both, quiet_more, quiet_byte, AtSpot, load_quiet, new_region_quiet, new_subregion_quiet, allocate_quiet, step_quiet}
use Rattle.rc_sealed.proofs.Values.{local_value}
use Rattle.rc_sealed.proofs.Carry.{nulled_happens, fixed_happens, moved_happens, beside_happens, made_happens, under_happens, loaded_happens}
use Rattle.rc_sealed.proofs.Operands.{lowest_of_one, lowest_of_two, target_pointer, regional_local}
use Rattle.rc_sealed.proofs.Instructions.{Outcome, At, NextHere, Follow, image, sound, low_value, low_fresh, low_below, local_below, gives_regional, gives_number}

module _ (parts : Parts) (fields : FieldsFit parts) (rules : Sound parts) (proofs : Annotation) (all : AllProved parts proofs) (g : ℕ) (there : g < length parts.functions) (at : ℕ) (inside : at < length (function_at (reading_of parts) g).code) (copied : List Value) (whole : length copied ≡ copies (function_at (reading_of parts) g)) where
  abbrev pub code : Reading
  code = reading_of parts

  abbrev pub f : Function
  f = function_at code g

  abbrev State : (st env : List Value) (w : World) → Type 0
  State st env w = At parts fields rules proofs all g there at inside copied whole st env w

  abbrev Leads : Rattle.rc_code.specs.Running.Next → World → Type 0
  Leads = NextHere parts fields rules proofs all g there at inside copied whole

  abbrev low : ℕ
  low = place f (lowest code f at)

  abbrev Occurs : Option ℕ → Effect → (values mid : ℕ → Value) → World → Type 0
  Occurs x effect values mid w1 = Happens (scratch code f) (scratch code f) (exit_facts proofs) x effect values mid w1.heap

  abbrev effect_here : Instruction → Effect
  effect_here i = effect_of code f (lowest code f at) (height code f at - 1) i

  one_given : {n : ℕ} → n ≡ 1 → 1 ≤ n
  one_given e = omega (arith, e)

  -- a number, on which nothing is known
  plain : (i : Instruction) → instruction_at f at ≡ i → (n : ℕ) → count_off code f i ≡ n → Way i at (suc at) → ((x : ℕ) → i ≢ instruction.Set x) → 1 ≤ length (gives code f i) → effect_here i ≡ nothing
      → (st env : List Value) (w : World) → State st env w → (v : Value) → FreshIn w v → Outcome code g w Leads (bind (Go v w) (λ v. Go (Rattle.rc_code.specs.Running.onward 0 (v ∷ drop n st) env)))
  plain i is n count way apart gives1 e st env w s v fresh =
      gives_number parts fields rules proofs all g there at inside copied whole i is n count st env w s way apart gives1 nothing e refl (Go v w)
      (goes_quietly w w _ v (none_dies w) (fresh, stays_itself w s.sane, ((λ u lt. refl), tt)))

  pub constant_acts : (k : Signedness) (n : ℕ) → instruction_at f at ≡ instruction.Constant k n → Follow parts fields rules proofs all g there at inside copied whole (instruction.Constant k n)
  constant_acts k n is st env w s = plain (instruction.Constant k n) is 0 (ap length (constant_takes code f k n)) refl (λ x e. cc) (one_given (ap length (constant_gives code f k n))) refl st env w s _ refl

  same_pointer_acts : (t : ℕ) → instruction_at f at ≡ instruction.Typed typed.Same t → Follow parts fields rules proofs all g there at inside copied whole (instruction.Typed typed.Same t)
  same_pointer_acts t is st env w s = plain (instruction.Typed typed.Same t) is 2 refl refl (λ x e. cc) (omega arith) refl st env w s _ refl

  null_pointer_test_acts : (t : ℕ) → instruction_at f at ≡ instruction.Typed typed.IsNull t → Follow parts fields rules proofs all g there at inside copied whole (instruction.Typed typed.IsNull t)
  null_pointer_test_acts t is st env w s = plain (instruction.Typed typed.IsNull t) is 1 refl refl (λ x e. cc) (omega arith) refl st env w s _ refl

  pub same_region_acts : instruction_at f at ≡ instruction.Simple simple.SameRegion → Follow parts fields rules proofs all g there at inside copied whole (instruction.Simple simple.SameRegion)
  same_region_acts is st env w s = plain (instruction.Simple simple.SameRegion) is 2 refl refl (λ x e. cc) (omega arith) refl st env w s _ refl

  pub zero_test_acts : instruction_at f at ≡ instruction.Simple simple.IsZero → Follow parts fields rules proofs all g there at inside copied whole (instruction.Simple simple.IsZero)
  zero_test_acts is st env w s = plain (instruction.Simple simple.IsZero) is 1 refl refl (λ x e. cc) (omega arith) refl st env w s _ refl

  pub null_region_test_acts : instruction_at f at ≡ instruction.Simple simple.IsNullRegion → Follow parts fields rules proofs all g there at inside copied whole (instruction.Simple simple.IsNullRegion)
  null_region_test_acts is st env w s = plain (instruction.Simple simple.IsNullRegion) is 1 refl refl (λ x e. cc) (omega arith) refl st env w s _ refl

  pub to_int_acts : instruction_at f at ≡ instruction.Simple simple.ToInt → Follow parts fields rules proofs all g there at inside copied whole (instruction.Simple simple.ToInt)
  to_int_acts is st env w s = plain (instruction.Simple simple.ToInt) is 1 refl refl (λ x e. cc) (omega arith) refl st env w s _ refl

  pub to_unsigned_acts : instruction_at f at ≡ instruction.Simple simple.ToUnsigned → Follow parts fields rules proofs all g there at inside copied whole (instruction.Simple simple.ToUnsigned)
  to_unsigned_acts is st env w s = plain (instruction.Simple simple.ToUnsigned) is 1 refl refl (λ x e. cc) (omega arith) refl st env w s _ refl

  pub to_char_acts : instruction_at f at ≡ instruction.Simple simple.ToChar → Follow parts fields rules proofs all g there at inside copied whole (instruction.Simple simple.ToChar)
  to_char_acts is st env w s = plain (instruction.Simple simple.ToChar) is 1 refl refl (λ x e. cc) (omega arith) refl st env w s _ refl

  pub arithmetic_acts : (row : Arithmetic) (k : Signedness) → instruction_at f at ≡ instruction.Arithmetic row k → Follow parts fields rules proofs all g there at inside copied whole (instruction.Arithmetic row k)
  arithmetic_acts row k is st env w s =
      gives_number parts fields rules proofs all g there at inside copied whole (instruction.Arithmetic row k) is (operand_count (operation row)) (ap length (arithmetic_takes code f row k) ∙ count (operation row)) st env w s refl (λ x e. cc) (one_given (ap length (arithmetic_gives code f row k))) nothing refl refl _ (by (outcome (operation row) k st))
    where
      count : (o : Operation) → length (operation_takes o k) ≡ operand_count o
      count (two o) = refl
      count (one o) = refl

      by : (r : Result ℤ Trap) → Quiet w (λ v w1. FreshIn w1 v × Stays w w1 × Occurs None nothing (values_of f copied env st) (values_of f copied env st) w1) (bind (computed (Rattle.rc_code.specs.Running.line_at f at) r w) give_number)
      by (Ok z) = goes_quietly w w _ (Number z) (none_dies w) (refl, stays_itself w s.sane, ((λ u lt. refl), tt))
      by (Err t) = record { holds = tt }

  pub putchar_acts : instruction_at f at ≡ instruction.Simple simple.PutChar → Follow parts fields rules proofs all g there at inside copied whole (instruction.Simple simple.PutChar)
  putchar_acts is st env w s =
      gives_number parts fields rules proofs all g there at inside copied whole (instruction.Simple simple.PutChar) is 1 refl st env w s refl (λ x e. cc) (omega arith) nothing refl refl _
      (goes_quietly w (doing w (Write (byte_of (number_in (value_at st 0))))) _ (Number (pos (byte_of (number_in (value_at st 0))))) (none_dies w) (refl, stays_heap w (doing w (Write (byte_of (number_in (value_at st 0))))) s.sane refl, ((λ u lt. refl), tt)))

  pub getchar_acts : instruction_at f at ≡ instruction.Simple simple.GetChar → Follow parts fields rules proofs all g there at inside copied whole (instruction.Simple simple.GetChar)
  getchar_acts is st env w s =
      gives_number parts fields rules proofs all g there at inside copied whole (instruction.Simple simple.GetChar) is 0 refl st env w s refl (λ x e. cc) (omega arith) nothing refl refl (bind (source.get_byte w) give_number) (by (source.get_byte w) (quiet_byte w))
    where
      by : (m : Run World ℤ) → Quiet w (λ _ w1. w1.heap ≡ w.heap) m → Quiet w (λ v w1. FreshIn w1 v × Stays w w1 × Occurs None nothing (values_of f copied env st) (values_of f copied env st) w1) (bind m give_number)
      by (Go z w1) q = goes_quietly w w1 _ (Number z) q.holds.0 (refl, stays_heap w w1 s.sane q.holds.1, ((λ u lt. refl), tt))
      by (Stopped stop w1) q = record { holds = q.holds }

  -- ---- regions and pointers

  nulls : (i : Instruction) → instruction_at f at ≡ i → (n : ℕ) → count_off code f i ≡ n → Way i at (suc at) → ((x : ℕ) → i ≢ instruction.Set x) → 1 ≤ length (gives code f i) → effect_here i ≡ nulled low
      → (st env : List Value) (w : World) → State st env w → Outcome code g w Leads (bind (Go Null w) (λ v. Go (Rattle.rc_code.specs.Running.onward 0 (v ∷ drop n st) env)))
  nulls i is n count way apart gives1 e st env w s =
      gives_regional parts fields rules proofs all g there at inside copied whole i is n count st env w s way apart gives1 (nulled low) e refl (Go Null w)
      (goes_quietly w w _ Null (none_dies w) (refl, stays_itself w s.sane, nulled_happens (exit_facts proofs) (scratch code f) (values_of f copied env st) Null w.heap low (λ p. p)))

  null_pointer_acts : (t : ℕ) → instruction_at f at ≡ instruction.Typed typed.Null t → Follow parts fields rules proofs all g there at inside copied whole (instruction.Typed typed.Null t)
  null_pointer_acts t is st env w s = nulls (instruction.Typed typed.Null t) is 0 refl refl (λ x e. cc) (omega arith) refl st env w s

  pub null_region_acts : instruction_at f at ≡ instruction.Simple simple.NullRegion → Follow parts fields rules proofs all g there at inside copied whole (instruction.Simple simple.NullRegion)
  null_region_acts is st env w s = nulls (instruction.Simple simple.NullRegion) is 0 refl refl (λ x e. cc) (omega arith) refl st env w s

  pub global_acts : (n : ℕ) → instruction_at f at ≡ instruction.Global n → Follow parts fields rules proofs all g there at inside copied whole (instruction.Global n)
  global_acts n is st env w s =
      gives_regional parts fields rules proofs all g there at inside copied whole (instruction.Global n) is 0 refl st env w s refl (λ x e. cc) (omega arith) (fixed low) refl refl (Go (static n) w)
      (goes_quietly w w _ (static n) (none_dies w) (s.sane.sound.root, stays_itself w s.sane, fixed_happens (exit_facts proofs) (scratch code f) (values_of f copied env st) (static n) w.heap low tt refl))

  pub get_acts : (x : ℕ) → x < length f.locals → instruction_at f at ≡ instruction.Get x → Follow parts fields rules proofs all g there at inside copied whole (instruction.Get x)
  get_acts x lt is st env w s = by (is_regional (local_in f x)) refl
    where
      fresh : FreshIn w (local_at env x)
      fresh = s.here.used x (got is)

      by : (b : Bool) → is_regional (local_in f x) ≡ b → Outcome code g w Leads (bind (Go (local_at env x) w) (λ v. Go (Rattle.rc_code.specs.Running.onward 0 (v ∷ st) env)))
      by true e =
          gives_regional parts fields rules proofs all g there at inside copied whole (instruction.Get x) is 0 refl st env w s refl (λ x e. cc) (omega arith) (moved low (local_variable f x)) (ap (λ b. if_regional b (moved low (local_variable f x))) e) refl (Go (local_at env x) w)
          (goes_quietly w w _ (local_at env x) (none_dies w) (fresh, stays_itself w s.sane, moved_happens (exit_facts proofs) (scratch code f) (values_of f copied env st) (local_at env x) w.heap low (local_variable f x) (local_below parts fields rules proofs all g there at inside copied whole x) (sym (local_value f copied whole env st x (regional_local f x true lt e)))))
      by false e = plain (instruction.Get x) is 0 refl refl (λ x e. cc) (omega arith) (ap (λ b. if_regional b (moved low (local_variable f x))) e) st env w s (local_at env x) fresh

  -- beside a value that it takes
  besides : (i : Instruction) → instruction_at f at ≡ i → (n : ℕ) → count_off code f i ≡ n → Way i at (suc at) → ((x : ℕ) → i ≢ instruction.Set x) → 1 ≤ length (gives code f i) → effect_here i ≡ beside low low
      → (st env : List Value) (w : World) → State st env w → (v : Value) → value_at (reverse (take n st)) 0 ≡ v → (m : Run World Value) → (FreshIn w v → Quiet w (λ u w1. FreshIn w1 u × Beside w v u w1) m)
      → Outcome code g w Leads (bind m (λ v. Go (Rattle.rc_code.specs.Running.onward 0 (v ∷ drop n st) env)))
  besides i is n count way apart gives1 e st env w s v at_v m q =
      gives_regional parts fields rules proofs all g there at inside copied whole i is n count st env w s way apart gives1 (beside low low) e refl m
      (quiet_more w (λ u w1. FreshIn w1 u × Beside w v u w1) _ m (q (subst (FreshIn w) at_v (low_fresh parts fields rules proofs all g there at inside copied whole i is n count st env w s))) (λ u w1 none k. (
        k.0,
        k.1.0,
        beside_happens (exit_facts proofs) (scratch code f) (values_of f copied env st) u w1.heap low low (low_below parts fields rules proofs all g there at inside copied whole i is n count st env w s)
            (subst is_present (sym value) k.1.2) k.1.3 (k.1.4 ∙ ap region_in (sym value)),
      )))
    where
      value : values_of f copied env st low ≡ v
      value = low_value parts fields rules proofs all g there at inside copied whole i is n count st env w s ∙ at_v

  region_of_acts : (t : ℕ) → instruction_at f at ≡ instruction.Typed typed.RegionOf t → Follow parts fields rules proofs all g there at inside copied whole (instruction.Typed typed.RegionOf t)
  region_of_acts t is st env w s = besides (instruction.Typed typed.RegionOf t) is 1 refl refl (λ x e. cc) (omega arith) refl st env w s (value_at st 0) (lowest_of_one st) _ (by (value_at st 0) (s.good.typed))
    where
      by : (v : Value) → Rattle.rc_worlds.specs.Typed.HeapIsTyped (image parts fields rules proofs all) w.heap → FreshIn w v → Quiet w (λ u w1. FreshIn w1 u × Beside w v u w1) (region_named (Rattle.rc_code.specs.Running.line_at f at) v w)
      by (Number n) typed fresh = record { holds = tt }
      by Null typed fresh = record { holds = tt }
      by (Handle r) typed fresh = goes_quietly w w _ (Handle r) (none_dies w) (fresh, (stays_itself w s.sane, (λ p. Rattle.rc_safety.proofs.Made.live_is_made w.heap r fresh), tt, tt, refl))
      by (Pointer a) typed fresh = goes_quietly w w _ (Handle a.region) (none_dies w) (fresh, (stays_itself w s.sane, (λ p. Rattle.rc_safety.proofs.Made.live_is_made w.heap a.region fresh), tt, tt, refl))

  allocate_acts : (t : ℕ) → instruction_at f at ≡ instruction.Typed typed.Allocate t → Follow parts fields rules proofs all g there at inside copied whole (instruction.Typed typed.Allocate t)
  allocate_acts t is st env w s = besides (instruction.Typed typed.Allocate t) is 1 refl refl (λ x e. cc) (omega arith) refl st env w s (value_at st 0) (lowest_of_one st) _ (λ fresh.
      quiet_both w _ _ _ (allocate_quiet (Rattle.rc_code.specs.Running.line_at f at) (value_at st 0) (pos 1) (layout_at code t) w fresh) (allocate_says (Rattle.rc_code.specs.Running.line_at f at) (value_at st 0) (pos 1) (layout_at code t) w s.sane).holds)

  -- two operands, of which the lower one counts
  second : (k j : Kind) (below : List Kind) (st : List Value) (heap : Heap) → AllZip (HasKind (image parts fields rules proofs all) heap) (k ∷ j ∷ below) st → value_at (reverse (take 2 st)) 0 ≡ value_at st 1
  second k j below [] heap all2 = absurd all2
  second k j below (u ∷ []) heap all2 = absurd all2.1
  second k j below (u ∷ v ∷ st) heap all2 = lowest_of_two u v st

  allocate_array_acts : (t : ℕ) → instruction_at f at ≡ instruction.Typed typed.AllocateArray t → IsFine true code f at (instruction.Typed typed.AllocateArray t) → Follow parts fields rules proofs all g there at inside copied whole (instruction.Typed typed.AllocateArray t)
  allocate_array_acts t is fine st env w s = besides (instruction.Typed typed.AllocateArray t) is 2 refl refl (λ x e. cc) (omega arith) refl st env w s (value_at st 1) (second _ _ fine.operands.0 st w.heap (subst (λ ks. AllZip (HasKind (image parts fields rules proofs all) w.heap) ks st) fine.operands.1 s.kinds)) _ (λ fresh.
      quiet_both w _ _ _ (allocate_quiet (Rattle.rc_code.specs.Running.line_at f at) (value_at st 1) (number_in (value_at st 0)) (layout_at code t) w fresh) (allocate_says (Rattle.rc_code.specs.Running.line_at f at) (value_at st 1) (number_in (value_at st 0)) (layout_at code t) w s.sane).holds)

  pub move_acts : (t : ℕ) (k : Signedness) (direction : Direction) → instruction_at f at ≡ instruction.Move t k direction → IsFine true code f at (instruction.Move t k direction) → Follow parts fields rules proofs all g there at inside copied whole (instruction.Move t k direction)
  move_acts t k direction is fine st env w s = besides (instruction.Move t k direction) is 2 refl refl (λ x e. cc) (omega arith) refl st env w s (value_at st 1) (second _ _ fine.operands.0 st w.heap (subst (λ ks. AllZip (HasKind (image parts fields rules proofs all) w.heap) ks st) fine.operands.1 s.kinds)) _ (λ fresh.
      quiet_both w _ _ _ (step_quiet (Rattle.rc_code.specs.Running.line_at f at) (value_at st 1) (toward direction (number_in (value_at st 0))) w fresh) (step_says (Rattle.rc_code.specs.Running.line_at f at) (value_at st 1) (toward direction (number_in (value_at st 0))) w s.sane).holds)

  pub new_region_acts : instruction_at f at ≡ instruction.Simple simple.NewRegion → Follow parts fields rules proofs all g there at inside copied whole (instruction.Simple simple.NewRegion)
  new_region_acts is st env w s =
      gives_regional parts fields rules proofs all g there at inside copied whole (instruction.Simple simple.NewRegion) is 0 refl st env w s refl (λ x e. cc) (omega arith) (made low) refl refl (source.new_region (Rattle.rc_code.specs.Running.line_at f at) w)
      (quiet_more w _ _ _ (quiet_both w _ _ _ (new_region_quiet (Rattle.rc_code.specs.Running.line_at f at) w) (new_region_says (Rattle.rc_code.specs.Running.line_at f at) w s.sane).holds) (λ u w1 none k.
      (k.0, k.1.0, made_happens (exit_facts proofs) (scratch code f) (values_of f copied env st) u w1.heap low k.1.2)))

  pub new_subregion_acts : instruction_at f at ≡ instruction.Simple simple.NewSubregion → Follow parts fields rules proofs all g there at inside copied whole (instruction.Simple simple.NewSubregion)
  new_subregion_acts is st env w s =
      gives_regional parts fields rules proofs all g there at inside copied whole (instruction.Simple simple.NewSubregion) is 1 refl st env w s refl (λ x e. cc) (omega arith) (under low low) refl refl (source.new_subregion (Rattle.rc_code.specs.Running.line_at f at) (value_at st 0) w)
      (quiet_more w _ _ _ (quiet_both w _ _ _ (new_subregion_quiet (Rattle.rc_code.specs.Running.line_at f at) (value_at st 0) w (subst (FreshIn w) (lowest_of_one st) (low_fresh parts fields rules proofs all g there at inside copied whole (instruction.Simple simple.NewSubregion) is 1 refl st env w s))) (new_subregion_says (Rattle.rc_code.specs.Running.line_at f at) (value_at st 0) w s.sane).holds) (λ u w1 none k. (
        k.0,
        k.1.0,
        under_happens (exit_facts proofs) (scratch code f) (values_of f copied env st) u w1.heap low low (low_below parts fields rules proofs all g there at inside copied whole (instruction.Simple simple.NewSubregion) is 1 refl st env w s)
            (subst is_present (sym value) k.1.2) k.1.3 (ap (λ v. Rattle.rc_core.specs.Heap.is_above (parent w1.heap) (region_in v) (region_in u)) value ∙ k.1.4),
      )))
    where
      value : values_of f copied env st low ≡ value_at st 0
      value = low_value parts fields rules proofs all g there at inside copied whole (instruction.Simple simple.NewSubregion) is 1 refl st env w s ∙ lowest_of_one st

  -- ---- loads

  noted : (layout : Layout) (c : ℕ) → get_or (map note_of layout) c Plain ≡ note_of (get_or layout c int_cell)
  noted [] zero = refl
  noted [] (suc c) = refl
  noted (k ∷ ks) zero = refl
  noted (k ∷ ks) (suc c) = noted ks c

  -- at each spot that the place may name, the layout of its object has the annotation of the path
  pub note_is : (path : ℕ) → path < length parts.paths → (below : List Kind) (st : List Value) (w : World) → AllZip (HasKind (image parts fields rules proofs all) w.heap) (reverse (place_kinds (path_at code path)) ++ below) st
      → (a : Address) (spot : Spot) → AtSpot w (target_on (path_at code path) st) a spot → note_of (get_or (object_of w.heap spot).layout spot.cell int_cell) ≡ note_of (cell_at code (path_at code path))
  note_is path lt below st w kinds a spot is =
      (place_reached (image parts fields rules proofs all) w (path_at code path) below st ((sound parts fields rules proofs all).paths path lt) kinds a spot
      (record { pointer = is.pointer; alive = is.alive; there = is.there; inside = is.inside; element = is.element; chosen = is.chosen; cell = is.cell })).noted

  pub note_there : (path : ℕ) → path < length parts.paths → (below : List Kind) (st : List Value) (w : World) → AllZip (HasKind (image parts fields rules proofs all) w.heap) (reverse (place_kinds (path_at code path)) ++ below) st
      → (a : Address) (spot : Spot) → AtSpot w (target_on (path_at code path) st) a spot → note_at w.heap (target_on (path_at code path) st) ≡ note_of (cell_at code (path_at code path))
  note_there path lt below st w kinds a spot is =
      let t = target_on (path_at code path) st in
      ap (λ p. note_behind w.heap p (cell_of t)) is.pointer
      ∙ noted (object_at w.heap a.region a.object).layout (cell_of t)
      ∙ ap (λ c. note_of (get_or (object_at w.heap a.region a.object).layout c int_cell)) (sym is.cell)
      ∙ ap (λ r. note_of (get_or (object_at w.heap r a.object).layout spot.cell int_cell)) (sym is.there.0)
      ∙ ap (λ o. note_of (get_or (object_at w.heap spot.region o).layout spot.cell int_cell)) (sym is.there.1)
      ∙ note_is path lt below st w kinds a spot is

  pub load_acts : (path : ℕ) → instruction_at f at ≡ instruction.Load path → IsFine true code f at (instruction.Load path) → Follow parts fields rules proofs all g there at inside copied whole (instruction.Load path)
  load_acts path is fine st env w s = by (is_regional (storage_of code (cell_at code p))) refl
    where
      p : Path
      p = path_at code path

      t : Target
      t = target_on p st

      line : ℕ
      line = Rattle.rc_code.specs.Running.line_at f at

      count : length (reverse (place_kinds p)) ≡ width p
      count = length-reverse (place_kinds p) ∙ sym (width_is (image parts fields rules proofs all) p)

      kinds : AllZip (HasKind (image parts fields rules proofs all) w.heap) (reverse (place_kinds p) ++ fine.operands.0) st
      kinds = subst (λ ks. AllZip (HasKind (image parts fields rules proofs all) w.heap) ks st) fine.operands.1 s.kinds

      pointer : value_at (reverse (take (width p) st)) 0 ≡ t.pointer
      pointer = sym (target_pointer p st)

      value : values_of f copied env st low ≡ t.pointer
      value = low_value parts fields rules proofs all g there at inside copied whole (instruction.Load path) is (width p) count st env w s ∙ pointer

      loads : Quiet w (λ u w1. (FreshIn w1 u × (note_at w.heap t ≡ note_of (cell_at code p))) × Loaded w t u w1) (source.load line t w)
      loads = quiet_both w _ _ _ (load_quiet (note_at w.heap t ≡ note_of (cell_at code p)) line t w s.sane.sound (subst (FreshIn w) pointer (low_fresh parts fields rules proofs all g there at inside copied whole (instruction.Load path) is (width p) count st env w s)) (note_there path fine.names fine.operands.0 st w kinds)) (load_says line t w s.sane).holds

      below : low < scratch code f
      below = low_below parts fields rules proofs all g there at inside copied whole (instruction.Load path) is (width p) count st env w s

      by : (b : Bool) → is_regional (storage_of code (cell_at code p)) ≡ b → Outcome code g w Leads (bind (source.load line t w) (λ v. Go (Rattle.rc_code.specs.Running.onward 0 (v ∷ drop (width p) st) env)))
      by true e =
          gives_regional parts fields rules proofs all g there at inside copied whole (instruction.Load path) is (width p) count st env w s refl (λ x e. cc) (omega arith) (loaded low low (note_of (cell_at code p))) (ap (λ b. load_effect b (loaded low low (note_of (cell_at code p))) (looked_at low)) e) refl (source.load line t w)
          (quiet_more w _ _ _ loads (λ u w1 none k. (
            k.0.0,
            k.1.0,
            loaded_happens (exit_facts proofs) (scratch code f) (values_of f copied env st) u w1.heap low low (note_of (cell_at code p)) below (subst is_present (sym value) k.1.2)
                (ap (λ n. fits (parent w1.heap) n (region_in (values_of f copied env st low)) u) (sym k.0.1) ∙ ap (λ v. fits (parent w1.heap) (note_at w.heap t) (region_in v) u) value ∙ k.1.3),
          )))
      by false e =
          gives_number parts fields rules proofs all g there at inside copied whole (instruction.Load path) is (width p) count st env w s refl (λ x e. cc) (omega arith) (looked_at low) (ap (λ b. load_effect b (loaded low low (note_of (cell_at code p))) (looked_at low)) e) refl (source.load line t w)
          (quiet_more w _ _ _ loads (λ u w1 none k. (k.0.0, k.1.0, ((λ u lt. refl), subst is_present (sym value) k.1.2))))

  -- ---- the rows of the table that give a value

  typed_acts : (row : Typed) (t : ℕ) → instruction_at f at ≡ instruction.Typed row t → IsFine true code f at (instruction.Typed row t) → Follow parts fields rules proofs all g there at inside copied whole (instruction.Typed row t)
  typed_acts typed.Null t is fine = null_pointer_acts t is
  typed_acts typed.Same t is fine = same_pointer_acts t is
  typed_acts typed.IsNull t is fine = null_pointer_test_acts t is
  typed_acts typed.RegionOf t is fine = region_of_acts t is
  typed_acts typed.Allocate t is fine = allocate_acts t is
  typed_acts typed.AllocateArray t is fine = allocate_array_acts t is fine

  pub typed_follow : (row : Typed) (t : ℕ) → instruction_at f at ≡ instruction.Typed row t → IsFine true code f at (instruction.Typed row t) → Follow parts fields rules proofs all g there at inside copied whole (instruction.Typed row t)
  typed_follow = typed_acts
