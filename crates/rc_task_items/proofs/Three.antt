-- The three items behind others: what they add, where the names of functions have the numbers that the text gives them.
use Rattle.rc_task_items.proofs.Common.{◌≡◌, ℕ, suc, ◌+◌, ◌≤◌, pos, List, [], ◌∷◌, ◌++◌, codes, length, map, get_or, Option, Some, None, is_some, refl, ap, ◌∙◌, arith, Name, unsigned, Builtin, NewRegion, NewSubregion, DeleteRegion, RegionOf, Putchar, Getchar, row, Judged, Holds, with_parts, place_of, number_or, Context, Scope, Meaning, a_local, a_global, a_function, a_builtin, meaning_in, Outside, Made, nothing_made, made_both, once, global_made, behind_item, behind_items, before_globals, item, items, Held, held_part, held_parts, held_after, held_and, held_front, held_always, kept_name, Tasks, yield_of}
use Rattle.rc_syntax.specs.Tree as t
use Rattle.rc_syntax.specs.declared.tree.Base.TheVariants as base
use Rattle.rc_judgements.proofs.WellTypedScopes.{new_name}
use Rattle.rc_tasks.specs.Appended as typed
use Rattle.rc_task_items.specs.Items as tree
use Rattle.rc_task_items.proofs.Bodies.{Is, Calls}
use Rattle.rc_task_items.proofs.Items.{counter_made, function_made, counter_held, in_yield, in_main, yield_item_held, main_item_held, yield_strings, main_strings}
use Rattle.rc_task_items.proofs.Split.{Stands, AllStand, stand_with}

abbrev first_byte : List ℕ → ℕ
first_byte l = get_or l 0 0

-- no built-in function's name begins with such a letter
no_builtin : (n : List ℕ) (c : ℕ) → first_byte n ≡ c → 114 + 1 ≤ c → (b : Builtin) → (row b).name ≡ n → ⊥
no_builtin n c e le NewRegion h = omega (arith, e, le, ap first_byte h)
no_builtin n c e le NewSubregion h = omega (arith, e, le, ap first_byte h)
no_builtin n c e le DeleteRegion h = omega (arith, e, le, ap first_byte h)
no_builtin n c e le RegionOf h = omega (arith, e, le, ap first_byte h)
no_builtin n c e le Putchar h = omega (arith, e, le, ap first_byte h)
no_builtin n c e le Getchar h = omega (arith, e, le, ap first_byte h)

once_none : (name : Name) (m : Option Meaning) → Held (λ u. m ≡ None) (once name (is_some m))
once_none name None = refl
once_none name (Some m) = tt

module _ (context : Context) where
  calls : (n : List ℕ) (k c : ℕ) → first_byte n ≡ c → 114 + 1 ≤ c → number_or (place_of context.functions n) 0 ≡ k → (m : Option Meaning) → Stands context n m → Calls k m
  calls n k c e le q None h = tt
  calls n k c e le q (Some (a_local x u)) h = tt
  calls n k c e le q (Some (a_global g u z)) h = tt
  calls n k c e le q (Some (a_function f s)) h = ap (λ o. number_or o 0) h ∙ q
  calls n k c e le q (Some (a_builtin b)) h = no_builtin n c e le b h

  module _ (o : Outside) (tk : Tasks) (choices : List ℕ) (places : ℕ → ℕ → ℕ) (line : ℕ) (few : length choices ≤ 1000) (stand : AllStand context o.names)
      (count : length o.strings ≡ length tk.program.strings) (globals : o.globals ≡ length tk.program.globals)
      (task_numbers : (d : ℕ) → number_or (place_of context.functions (tree.task_name d)) 0 ≡ tk.task d) (start_number : number_or (place_of context.functions tree.start_name) 0 ≡ tk.start)
      (yield_number : number_or (place_of context.functions tree.yield_name) 0 ≡ yield_of tk) where
    abbrev one : t.Item
    one = tree.counter_item choices (places 0) line

    abbrev two : t.Item
    two = tree.yield_item choices (places 1) (suc line)

    abbrev three : t.Item
    three = tree.main_item choices (places 2) (suc (suc line))

    abbrev o2 : Outside
    o2 = behind_item context o one

    abbrev o3 : Outside
    o3 = behind_item context o2 two

    abbrev pub New : Type 0
    New = meaning_in o.names tree.counter_name ≡ None

    abbrev names2 : Scope
    names2 = in_yield tk choices (places 1) (suc line) few context o2

    abbrev names3 : Scope
    names3 = in_main tk choices (places 2) (suc (suc line)) few context o3

    known2 : New → meaning_in names2 tree.counter_name ≡ Some (a_global (length tk.program.globals) unsigned None)
    known2 new = kept_name o2.names tree.yield_name tree.counter_name _ _ (new_name o.names tree.counter_name (a_global o.globals unsigned None) new) ∙ ap (λ n. Some (a_global n unsigned None)) globals

    known3 : New → meaning_in names3 tree.counter_name ≡ Some (a_global (length tk.program.globals) unsigned None)
    known3 new = kept_name names2 (codes "main") tree.counter_name _ _ (known2 new)

    stand2 : AllStand context names2
    stand2 = stand_with context o2.names tree.yield_name _ refl (stand_with context o.names tree.counter_name (a_global o.globals unsigned None) tt stand)

    stand3 : AllStand context names3
    stand3 = stand_with context names2 (codes "main") _ refl stand2

    counter_new : Held (λ m. New × Is counter_made m) (item context o one)
    counter_new = held_and (λ m. New) (Is counter_made) (item context o one)
        (held_part (λ (u : Unit {0}). New) (λ (m : Made). New) (once (tree.named choices (places 0) line 2 tree.counter_name) (is_some (meaning_in o.names tree.counter_name))) _ (once_none (tree.named choices (places 0) line 2 tree.counter_name) (meaning_in o.names tree.counter_name)) (λ u new. held_always New (global_made context (tree.spot choices (places 0) line 0) (record { base = base.Unsigned (tree.spot choices (places 0) line 1); stars = [] }) None (o.cells + 1) (Some (pos 0))) new))
        (counter_held tk choices (places 0) line few context o)

    yield_made : New → Held (Is (function_made (typed.yield_function tk choices (suc line)))) (item context o2 two)
    yield_made new = yield_item_held tk choices (places 1) (suc line) few context o2 count (known2 new) (λ d. calls (tree.task_name d) (tk.task d) 116 refl (omega arith) (task_numbers d) (meaning_in names2 (tree.task_name d)) (stand2 (tree.task_name d)))

    -- of `main` the number of strings is of no account
    abbrev tk3 : Tasks
    tk3 = record tk { program = record tk.program { strings = o3.strings } }

    main_made : New → Held (Is (function_made (typed.main_function tk choices (suc (suc line))))) (item context o3 three)
    main_made new = main_item_held tk3 choices (places 2) (suc (suc line)) few context o3 refl (known3 new) (λ d. calls (tree.task_name d) (tk.task d) 116 refl (omega arith) (task_numbers d) (meaning_in names3 (tree.task_name d)) (stand3 (tree.task_name d)))
        (calls tree.start_name tk.start 115 refl (omega arith) start_number (meaning_in names3 tree.start_name) (stand3 tree.start_name))
        (calls tree.yield_name (yield_of tk) 121 refl (omega arith) yield_number (meaning_in names3 tree.yield_name) (stand3 tree.yield_name))

    abbrev pub all_made : Made
    all_made = record { globals = typed.counter ∷ []; functions = typed.yield_function tk choices (suc line) ∷ typed.main_function tk choices (suc (suc line)) ∷ [] }

    abbrev joining : Made → Made → Judged Made
    joining a b = Holds (made_both a b)

    last_held : New → Held (Is (function_made (typed.main_function tk choices (suc (suc line))))) (items context o3 (three ∷ []))
    last_held new = held_front (Is (function_made (typed.main_function tk choices (suc (suc line))))) (before_globals context o3.structs (three ∷ [])) (with_parts (item context o3 three) (Holds nothing_made) joining) (held_parts (Is (function_made (typed.main_function tk choices (suc (suc line))))) (Is nothing_made) (Is (function_made (typed.main_function tk choices (suc (suc line))))) (item context o3 three) (Holds nothing_made) joining (main_made new) refl
        (λ a b e f. ap (λ z. made_both z b) e ∙ ap (made_both (function_made (typed.main_function tk choices (suc (suc line))))) f))

    abbrev two_made : Made
    two_made = record { globals = []; functions = typed.yield_function tk choices (suc line) ∷ typed.main_function tk choices (suc (suc line)) ∷ [] }

    two_held : New → Held (Is two_made) (items context o2 (two ∷ three ∷ []))
    two_held new = held_front (Is two_made) (before_globals context o2.structs (two ∷ three ∷ [])) (with_parts (item context o2 two) (items context o3 (three ∷ [])) joining) (held_parts (Is (function_made (typed.yield_function tk choices (suc line)))) (Is (function_made (typed.main_function tk choices (suc (suc line))))) (Is two_made) (item context o2 two) (items context o3 (three ∷ [])) joining (yield_made new) (last_held new)
        (λ a b e f. ap (λ z. made_both z b) e ∙ ap (made_both (function_made (typed.yield_function tk choices (suc line)))) f))

    pub three_held : Held (λ m. New × Is all_made m) (items context o (tree.appended_items choices places line))
    three_held = held_front (λ m. New × Is all_made m) (before_globals context o.structs (tree.appended_items choices places line)) (with_parts (item context o one) (items context o2 (two ∷ three ∷ [])) joining) (held_after New (Is counter_made) (Is two_made) (λ m. New × Is all_made m) (item context o one) (items context o2 (two ∷ three ∷ [])) joining counter_new two_held
        (λ a b new e f. (new, ap (λ z. made_both z b) e ∙ ap (made_both counter_made) f)))

    -- the strings behind them
    pub three_strings : New → (behind_items context o (tree.appended_items choices places line)).strings ≡ o.strings ++ map typed.digit choices ∷ []
    three_strings new =
        main_strings tk3 choices (places 2) (suc (suc line)) few context o3 refl (known3 new) (λ d. calls (tree.task_name d) (tk.task d) 116 refl (omega arith) (task_numbers d) (meaning_in names3 (tree.task_name d)) (stand3 (tree.task_name d)))
        ∙ yield_strings tk choices (places 1) (suc line) few context o2 count (known2 new) (λ d. calls (tree.task_name d) (tk.task d) 116 refl (omega arith) (task_numbers d) (meaning_in names2 (tree.task_name d)) (stand2 (tree.task_name d)))
