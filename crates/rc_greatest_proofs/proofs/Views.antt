-- What of an image a pass over a function looks at, and that it doesn't look at marks.
use Rattle.std.proofs.Common.{◌≡◌, ◌∙◌, ℕ, zero, suc, ◌+◌, ◌-◌, Bool, true, false, ◌||◌, List, [], ◌∷◌, map, length, take, drop, get_or, reverse, refl, ap}
use Rattle.std.specs.List.{list_any}
use Rattle.rc_rlang.specs.RegionFlow.{Effect, called, moved}
use Rattle.rc_code.specs.declared.opcode.Simple.TheVariants as simple
use Rattle.rc_code.specs.declared.instruction.Instruction.{Instruction}
use Rattle.rc_code.specs.declared.instruction.Instruction.TheVariants as instruction
use Rattle.rc_code.specs.declared.image.Function.{Function}
use Rattle.rc_code.specs.declared.image.Parts.{Parts}
use Rattle.rc_code.specs.Running.{Reading, reading_of, function_at}
use Rattle.rc_code.specs.Image.{opcode_of}
use Rattle.rc_code.specs.Table.{Item, row}
use Rattle.rc_code.specs.Table as item
use Rattle.rc_code.proofs.Kinding.{same_items}
use Rattle.rc_code.specs.Soundness.{item_kinds, kinds_on, parameter_kinds, result_kinds, count_off, gives, instruction_at, kinds_before}
use Rattle.rc_loader.specs.Unmarked.{unmarked, unmarked_function, unmarked_instruction}
use Rattle.rc_loader.proofs.Marks.{function_is, same_takes, same_kinds}
use Rattle.rc_claims.specs.Counts.{regionals, place, regional_result}
use Rattle.rc_sealed.specs.ImageVariables.{greater, height_within, result_variable, scratch, variables}
use Rattle.rc_sealed.specs.Carrying.{jumps_to, is_target, if_regional, when, regional_places, effect_of, height, lowest, effect_at, reach}

-- the variables of a function, and what an instruction of it does to them
pub record View : Type 0 where
  pub count : ℕ
  pub spare : ℕ
  pub low : ℕ
  pub top : ℕ
  pub effect : Effect

abbrev pub view : Reading → Function → ℕ → View
view image f at = record { count = variables image f; spare = scratch image f; low = place f (lowest image f at); top = place f (reach image f at); effect = effect_at image f at }

-- ---- lists

mapped_at : {A B : Type 0} (change : A → B) (xs : List A) (n : ℕ) (d : A) → get_or (map change xs) n (change d) ≡ change (get_or xs n d)
mapped_at change [] zero d = refl
mapped_at change [] (suc n) d = refl
mapped_at change (x ∷ xs) zero d = refl
mapped_at change (x ∷ xs) (suc n) d = mapped_at change xs n d

pub map_long : {A B : Type 0} (change : A → B) (xs : List A) → length (map change xs) ≡ length xs
map_long change [] = refl
map_long change (x ∷ xs) = ap suc (map_long change xs)

-- ---- targets

same_jump : (at : ℕ) (i : Instruction) → jumps_to at (unmarked_instruction i) ≡ jumps_to at i
same_jump at (instruction.Store path proved) = refl
same_jump at i = refl

same_jumps : (at : ℕ) (is : List Instruction) → list_any (jumps_to at) (map unmarked_instruction is) ≡ list_any (jumps_to at) is
same_jumps at [] = refl
same_jumps at (i ∷ is) = ap (λ b. b || list_any (jumps_to at) (map unmarked_instruction is)) (same_jump at i) ∙ ap (λ b. jumps_to at i || b) (same_jumps at is)

pub same_instruction : (f : Function) (at : ℕ) → instruction_at (unmarked_function f) at ≡ unmarked_instruction (instruction_at f at)
same_instruction f at = mapped_at unmarked_instruction f.code at (instruction.Simple simple.Return)

same_places : (f : Function) (bs : List Bool) (j : ℕ) → regional_places (unmarked_function f) bs j ≡ regional_places f bs j
same_places f [] j = refl
same_places f (true ∷ bs) j = ap (λ ps. place f j ∷ ps) (same_places f bs (suc j))
same_places f (false ∷ bs) j = same_places f bs (suc j)

module _ (parts : Parts) where
  abbrev code : Reading
  code = reading_of parts

  abbrev bare : Reading
  bare = reading_of (unmarked parts)

  pub same_target : (g at : ℕ) → is_target (function_at bare g) at ≡ is_target (function_at code g) at
  same_target g at = ap (λ (f : Function). is_target f at) (function_is parts g) ∙ same_jumps at (function_at code g).code

  module _ (f : Function) where
    same_count : (i : Instruction) → count_off bare (unmarked_function f) (unmarked_instruction i) ≡ count_off code f i
    same_count (instruction.Simple simple.Pop) = refl
    same_count i = ap length (same_takes parts f i)

    same_item : (x : Item) (i : Instruction) → item_kinds bare (unmarked_function f) x (unmarked_instruction i) ≡ item_kinds code f x i
    same_item item.int i = refl
    same_item item.unsigned i = refl
    same_item item.number (instruction.Store path proved) = refl
    same_item item.number i = refl
    same_item item.region i = refl
    same_item item.pointer (instruction.Store path proved) = refl
    same_item item.pointer i = refl
    same_item item.local (instruction.Store path proved) = refl
    same_item item.local i = refl
    same_item item.place (instruction.Store path proved) = refl
    same_item item.place i = refl
    same_item item.cell (instruction.Store path proved) = refl
    same_item item.cell i = refl
    same_item item.arguments (instruction.Call g pins) = ap (λ (h : Function). reverse (parameter_kinds h)) (function_is parts g)
    same_item item.arguments i = refl
    same_item item.result (instruction.Call g pins) = ap (λ (h : Function). result_kinds h.result) (function_is parts g)
    same_item item.result i = refl
    same_item item.any (instruction.Store path proved) = refl
    same_item item.any i = refl

    same_row : (i : Instruction) → opcode_of (unmarked_instruction i) ≡ opcode_of i
    same_row (instruction.Store path proved) = refl
    same_row i = refl

    same_gives : (i : Instruction) → gives bare (unmarked_function f) (unmarked_instruction i) ≡ gives code f i
    same_gives i =
        ap (λ o. kinds_on bare (unmarked_function f) (row o).gives (unmarked_instruction i)) (same_row i)
        ∙ same_items bare code (unmarked_function f) f (unmarked_instruction i) i (λ x. same_item x i) (row (opcode_of i)).gives

    pub same_height : (n : ℕ) → height bare (unmarked_function f) n ≡ height code f n
    same_height n = ap length (same_kinds parts f n)

    pub same_left : (at : ℕ) → drop (count_off bare (unmarked_function f) (instruction_at (unmarked_function f) at)) (kinds_before bare (unmarked_function f) at) ≡ drop (count_off code f (instruction_at f at)) (kinds_before code f at)
    same_left at =
        ap (λ i. drop (count_off bare (unmarked_function f) i) (kinds_before bare (unmarked_function f) at)) (same_instruction f at)
        ∙ ap (λ n. drop n (kinds_before bare (unmarked_function f) at)) (same_count (instruction_at f at))
        ∙ ap (drop (count_off code f (instruction_at f at))) (same_kinds parts f at)

    same_lowest : (at : ℕ) → lowest bare (unmarked_function f) at ≡ lowest code f at
    same_lowest at = ap length (same_left at)

    same_reach : (at : ℕ) → reach bare (unmarked_function f) at ≡ reach code f at
    same_reach at =
        ap (λ i. greater (height bare (unmarked_function f) at) (lowest bare (unmarked_function f) at + length (gives bare (unmarked_function f) i))) (same_instruction f at)
        ∙ ap (λ ks. greater (height bare (unmarked_function f) at) (lowest bare (unmarked_function f) at + length ks)) (same_gives (instruction_at f at))
        ∙ ap (λ n. greater n (lowest bare (unmarked_function f) at + length (gives code f (instruction_at f at)))) (same_height at)
        ∙ ap (λ n. greater (height code f at) (n + length (gives code f (instruction_at f at)))) (same_lowest at)

    same_heights : (n : ℕ) → height_within bare (unmarked_function f) n ≡ height_within code f n
    same_heights zero = refl
    same_heights (suc n) =
        ap (λ h. greater h (length (kinds_before bare (unmarked_function f) (suc n)))) (same_heights n)
        ∙ ap (λ h. greater (height_within code f n) h) (same_height (suc n))

    pub same_result : result_variable bare (unmarked_function f) ≡ result_variable code f
    same_result = ap (λ n. place f (height_within bare (unmarked_function f) n)) (map_long unmarked_instruction f.code) ∙ ap (place f) (same_heights (length f.code))

    same_effect_of : (low high : ℕ) (i : Instruction) → effect_of bare (unmarked_function f) low high (unmarked_instruction i) ≡ effect_of code f low high i
    same_effect_of low high (instruction.Call g pins) =
        ap (λ (to : Function). called (when (regional_result to.result) (place f low)) g (regional_places (unmarked_function f) (take to.parameters (regionals to)) low)) (function_is parts g)
        ∙ ap (λ ps. called (when (regional_result (function_at code g).result) (place f low)) g ps) (same_places f (take (function_at code g).parameters (regionals (function_at code g))) low)
    same_effect_of low high (instruction.Simple simple.Return) = ap (λ x. if_regional (regional_result f.result) (moved x (place f high))) same_result
    same_effect_of low high (instruction.Store path proved) = refl
    same_effect_of low high i = refl

    same_effect : (at : ℕ) → effect_at bare (unmarked_function f) at ≡ effect_at code f at
    same_effect at =
        ap (λ l. effect_of bare (unmarked_function f) l (height bare (unmarked_function f) at - 1) (instruction_at (unmarked_function f) at)) (same_lowest at)
        ∙ ap (λ h. effect_of bare (unmarked_function f) (lowest code f at) (h - 1) (instruction_at (unmarked_function f) at)) (same_height at)
        ∙ ap (effect_of bare (unmarked_function f) (lowest code f at) (height code f at - 1)) (same_instruction f at)
        ∙ same_effect_of (lowest code f at) (height code f at - 1) (instruction_at f at)

    same_view : (at : ℕ) → view bare (unmarked_function f) at ≡ view code f at
    same_view at =
        ap (λ r. record { count = suc (suc r); spare = suc r; low = place f (lowest bare (unmarked_function f) at); top = place f (reach bare (unmarked_function f) at); effect = effect_at bare (unmarked_function f) at }) same_result
        ∙ ap (λ l. record { count = variables code f; spare = scratch code f; low = place f l; top = place f (reach bare (unmarked_function f) at); effect = effect_at bare (unmarked_function f) at }) (same_lowest at)
        ∙ ap (λ t. record { count = variables code f; spare = scratch code f; low = place f (lowest code f at); top = place f t; effect = effect_at bare (unmarked_function f) at }) (same_reach at)
        ∙ ap (λ e. record { count = variables code f; spare = scratch code f; low = place f (lowest code f at); top = place f (reach code f at); effect = e }) (same_effect at)

  -- of a function of the image
  pub views : (g at : ℕ) → view bare (function_at bare g) at ≡ view code (function_at code g) at
  views g at = ap (λ f. view bare f at) (function_is parts g) ∙ same_view (function_at code g) at

  pub same_variables : (g : ℕ) → variables bare (function_at bare g) ≡ variables code (function_at code g)
  same_variables g = ap (λ (v : View). v.count) (views g 0)

  pub same_answer : (g : ℕ) → result_variable bare (function_at bare g) ≡ result_variable code (function_at code g)
  same_answer g = ap (result_variable bare) (function_is parts g) ∙ same_result (function_at code g)

  pub same_low : (g at : ℕ) → lowest bare (function_at bare g) at ≡ lowest code (function_at code g) at
  same_low g at = ap (λ (f : Function). lowest bare f at) (function_is parts g) ∙ same_lowest (function_at code g) at

  pub same_at : (g at : ℕ) → instruction_at (function_at bare g) at ≡ unmarked_instruction (instruction_at (function_at code g) at)
  same_at g at = ap (λ (f : Function). instruction_at f at) (function_is parts g) ∙ same_instruction (function_at code g) at

  -- the places of a call's arguments
  pub same_arguments : (g h at : ℕ) → regional_places (function_at bare g) (take (function_at bare h).parameters (regionals (function_at bare h))) (lowest bare (function_at bare g) at)
      ≡ regional_places (function_at code g) (take (function_at code h).parameters (regionals (function_at code h))) (lowest code (function_at code g) at)
  same_arguments g h at =
      ap (λ (k : Function). regional_places (function_at bare g) (take k.parameters (regionals k)) (lowest bare (function_at bare g) at)) (function_is parts h)
      ∙ ap (λ l. regional_places (function_at bare g) (take (function_at code h).parameters (regionals (function_at code h))) l) (same_low g at)
      ∙ ap (λ (f : Function). regional_places f (take (function_at code h).parameters (regionals (function_at code h))) (lowest code (function_at code g) at)) (function_is parts g)
      ∙ same_places (function_at code g) (take (function_at code h).parameters (regionals (function_at code h))) (lowest code (function_at code g) at)
