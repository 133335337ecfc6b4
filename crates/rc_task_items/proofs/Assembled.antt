-- The program of a text that ends with the three lines is that of what stands in front, with the three items as typed.
use Rattle.rc_task_items.proofs.Common.{◌≡◌, ℕ, suc, ◌+◌, ◌≤◌, List, [], ◌∷◌, ◌++◌, length, map, slice_get, Option, Some, None, Bool, true, false, is_some, if◌then◌else◌, refl, sym, ap, ◌∙◌, arith, length-append, Base, Holds, place_of, number_or, Context, Scope, structs_in, meaning_in, is_among, with_new, with_function_name, with_functions, function_names, context_of, at_the_start, builtins, Made, behind_item, behind_items, global_by_value, items, main_name, program_of, Typed, place_new, of_held, held_by, Outer, OuterAfter, outer_builtins, outer_items, Complete, Paired, complete, Tasks, yield_of, main_of}
use Rattle.rc_syntax.specs.declared.tree.Base.TheVariants as base
use Rattle.rc_syntax.specs.Tree as t
use Rattle.rc_core.specs.Programs as p
use Rattle.rc_tasks.specs.Appended as typed
use Rattle.rc_task_items.specs.Items as tree
use Rattle.rc_task_items.proofs.Bodies.{Is}
use Rattle.rc_task_items.proofs.Split.{Splits, splits, counts, definitions, AllStand, builtins_stand, stand_items}
use Rattle.rc_task_items.proofs.Three.{New, all_made, three_held, three_strings}

with_functions_on : (ns : List (List ℕ)) (is js : List t.Item) → with_functions ns (is ++ js) ≡ with_functions (with_functions ns is) js
with_functions_on ns [] js = refl
with_functions_on ns (i ∷ is) js = with_functions_on (with_function_name ns i) is js

pub behind_on : (context : Context) (o : _) (is js : List t.Item) → behind_items context o (is ++ js) ≡ behind_items context (behind_items context o is) js
behind_on context o [] js = refl
behind_on context o (i ∷ is) js = behind_on context (behind_item context o i) is js

new_length : (b : Bool) (ns : List (List ℕ)) (n : List ℕ) → length (if b then ns else ns ++ n ∷ []) ≤ length ns + 1
new_length true ns n = omega arith
new_length false ns n = omega (arith, length-append ns (n ∷ []))

names_few : (is : List t.Item) (ns : List (List ℕ)) → length (with_functions ns is) ≤ length ns + definitions is
names_few [] ns = omega arith
names_few (t.struct at name fields ∷ is) ns = omega (arith, names_few is ns)
names_few (t.global at n name count c ∷ is) ns = omega (arith, names_few is ns)
names_few (t.function at deletes result name params None ∷ is) ns = omega (arith, names_few is ns)
names_few (t.function at deletes result name params (Some body) ∷ is) ns = omega (arith, names_few is (with_new ns name.text), new_length (is_among ns name.text) ns name.text)

-- with two names more there are two more
pub record Two (ns : List (List ℕ)) (y m : List ℕ) (k : ℕ) : Type 0 where
  pub joined : with_new (with_new ns y) m ≡ ns ++ y ∷ m ∷ []
  pub count : length ns ≡ k
  pub first : place_of ns y ≡ None
  pub second : place_of (ns ++ y ∷ []) m ≡ None

none_of : (o : Option ℕ) → is_some o ≡ false → o ≡ None
none_of None e = refl
none_of (Some k) e = cc

again : (ns : List (List ℕ)) (y m : List ℕ) → (ns ++ y ∷ []) ++ m ∷ [] ≡ ns ++ y ∷ m ∷ []
again [] y m = refl
again (n ∷ ns) y m = ap (λ l. n ∷ l) (again ns y m)

two_new : (ns : List (List ℕ)) (y m : List ℕ) (k : ℕ) → length (with_new (with_new ns y) m) ≡ suc (suc k) → length ns ≤ k → Two ns y m k
two_new ns y m k total few = by (is_among ns y) refl total
  where
    inner : (c : Bool) → is_among ns y ≡ false → is_among (ns ++ y ∷ []) m ≡ c → length (if c then ns ++ y ∷ [] else (ns ++ y ∷ []) ++ m ∷ []) ≡ suc (suc k) → Two ns y m k
    inner true p q e = absurd (omega (arith, e, few, length-append ns (y ∷ [])))
    inner false p q e = record {
      joined = ap (λ c. with_new (if c then ns else ns ++ y ∷ []) m) p ∙ ap (λ c. if c then ns ++ y ∷ [] else (ns ++ y ∷ []) ++ m ∷ []) q ∙ again ns y m;
      count = omega (arith, e, length-append (ns ++ y ∷ []) (m ∷ []), length-append ns (y ∷ []));
      first = none_of (place_of ns y) p;
      second = none_of (place_of (ns ++ y ∷ []) m) q;
    }

    by : (b : Bool) → is_among ns y ≡ b → length (with_new (if b then ns else ns ++ y ∷ []) m) ≡ suc (suc k) → Two ns y m k
    by true p e = absurd (omega (arith, e, few, new_length (is_among ns m) ns m))
    by false p e = inner (is_among (ns ++ y ∷ []) m) p refl e

paired_length : (context : Context) (gs : List p.Global) (last : Scope) (outer : Outer context gs last) (wanted : Type 0) (ns : List (List ℕ)) (fs : List p.Function) → Paired context gs last outer wanted ns fs → length ns ≡ length fs
paired_length context gs last outer wanted [] [] h = refl
paired_length context gs last outer wanted (n ∷ ns) (f ∷ fs) h = ap suc (paired_length context gs last outer wanted ns fs h.2)
paired_length context gs last outer wanted [] (f ∷ fs) h = absurd h
paired_length context gs last outer wanted (n ∷ ns) [] h = absurd h

module _ (is : List t.Item) (choices : List ℕ) (places : ℕ → ℕ → ℕ) (line : ℕ) (few : length choices ≤ 1000) where
  abbrev pub all : List t.Item
  all = is ++ tree.appended_items choices places line

  abbrev pub context : Context
  context = context_of all

  stand : AllStand (context_of (is ++ tree.appended_items choices places line)) builtins
  stand = builtins_stand (context_of (is ++ tree.appended_items choices places line))

  quiet : (b : Base) → global_by_value b (tree.appended_items choices places line) ≡ false
  quiet (base.Int at) = refl
  quiet (base.Unsigned at) = refl
  quiet (base.Char at) = refl
  quiet (base.Region at) = refl
  quiet (base.Struct at name) = refl

  module _ (made : Made) (e : items context at_the_start all ≡ Holds made) where
    pub parts : Splits context is (tree.appended_items choices places line) at_the_start made
    parts = of_held (Splits context is (tree.appended_items choices places line) at_the_start) (items context at_the_start all) made (splits context is (tree.appended_items choices places line) quiet at_the_start) e

    abbrev pub own : p.Program
    own = record { structs = structs_in context; globals = parts.0.globals; strings = (behind_items context at_the_start is).strings; functions = parts.0.functions; main = 0 }

    abbrev pub tk : Tasks
    tk = tree.tasks_of_text all own

    pub last : Scope
    last = (behind_items context at_the_start all).names

    pub outer : Outer context made.globals (behind_items context at_the_start all).names
    outer = of_held (OuterAfter context [] all at_the_start) (items context at_the_start all) made (outer_items context all at_the_start [] refl) e (outer_builtins context made.globals)

    pub numbered : Complete context made.globals (behind_items context at_the_start all).names outer ⊥ [] made
    numbered = of_held (Complete context made.globals (behind_items context at_the_start all).names outer ⊥ []) (items context at_the_start all) made
        (complete context made.globals (behind_items context at_the_start all).names outer ⊥ all [] at_the_start refl refl nothing_seen (λ n m h. h) (λ w. absurd w)) e
      where
        nothing_seen : (j : ℕ) (n : List ℕ) → slice_get {X = List ℕ} [] j ≡ Some n → is_some (meaning_in at_the_start.names n) ≡ true
        nothing_seen j n h = absurd cc

    number_of_functions : length (function_names all) ≡ length made.functions
    number_of_functions = ap length numbered.1 ∙ paired_length context made.globals (behind_items context at_the_start all).names outer ⊥ numbered.0 made.functions numbered.2

    globals_are : (behind_items context at_the_start is).globals ≡ length parts.0.globals
    globals_are = parts.5 ∙ none (length parts.0.globals)
      where
        none : (n : ℕ) → 0 + n ≡ n
        none n = omega arith

    definitions_on : (js : List t.Item) (is : List t.Item) → definitions (is ++ js) ≡ definitions is + definitions js
    definitions_on js [] = omega arith
    definitions_on js (i ∷ is) = omega (arith, definitions_on js is)

    abbrev names : List (List ℕ)
    names = function_names is

    names_are : function_names all ≡ with_new (with_new names tree.yield_name) main_name
    names_are = with_functions_on [] is (tree.appended_items choices places line)

    two : Two names tree.yield_name main_name (definitions is)
    two = two_new names tree.yield_name main_name (definitions is)
        (omega (arith, ap length (sym names_are), number_of_functions, of_held (λ (m : Made). length m.functions ≡ definitions all) (items context at_the_start all) made (counts context all at_the_start) e, definitions_on (tree.appended_items choices places line) is))
        (omega (arith, names_few is []))

    names_end : function_names all ≡ names ++ tree.yield_name ∷ main_name ∷ []
    names_end = names_are ∙ two.joined

    count_is : length names ≡ length parts.0.functions
    count_is = two.count ∙ sym parts.6

    yield_number : number_or (place_of (function_names all) tree.yield_name) 0 ≡ yield_of tk
    yield_number = ap (λ ns. number_or (place_of ns tree.yield_name) 0) names_end ∙ ap (λ o. number_or o 0) (place_new names (main_name ∷ []) tree.yield_name two.first) ∙ count_is

    main_number : number_or (place_of (function_names all) main_name) 0 ≡ main_of tk
    main_number =
        ap (λ ns. number_or (place_of ns main_name) 0) (names_end ∙ sym (again names tree.yield_name main_name)) ∙ ap (λ o. number_or o 0) (place_new (names ++ tree.yield_name ∷ []) [] main_name two.second)
        ∙ omega (arith, length-append names (tree.yield_name ∷ []), count_is)

    ends : New context (behind_items context at_the_start is) tk choices places line few (stand_items context is at_the_start stand) refl globals_are (λ d. refl) refl yield_number
        × Is (all_made context (behind_items context at_the_start is) tk choices places line few (stand_items context is at_the_start stand) refl globals_are (λ d. refl) refl yield_number) parts.1
    ends = of_held _ (items context (behind_items context at_the_start is) (tree.appended_items choices places line)) parts.1 (three_held context (behind_items context at_the_start is) tk choices places line few (stand_items context is at_the_start stand) refl globals_are (λ d. refl) refl yield_number) parts.4

    pub functions_are : made.functions ≡ parts.0.functions ++ typed.yield_function tk choices (suc line) ∷ typed.main_function tk choices (suc (suc line)) ∷ []
    functions_are = parts.3 ∙ ap (λ (b : Made). parts.0.functions ++ b.functions) ends.1

    strings_are : (behind_items context at_the_start all).strings ≡ own.strings ++ map typed.digit choices ∷ []
    strings_are = ap (λ o. o.strings) (behind_on context at_the_start is (tree.appended_items choices places line)) ∙ three_strings context (behind_items context at_the_start is) tk choices places line few (stand_items context is at_the_start stand) refl globals_are (λ d. refl) refl yield_number ends.0

    pub program_is : program_of all made ≡ typed.appended tk choices (suc line)
    program_is =
        ap (λ gs. record (program_of all made) { globals = gs }) (parts.2 ∙ ap (λ (b : Made). parts.0.globals ++ b.globals) ends.1)
        ∙ ap (λ fs. record (program_of all made) { globals = own.globals ++ typed.counter ∷ []; functions = fs }) (parts.3 ∙ ap (λ (b : Made). parts.0.functions ++ b.functions) ends.1)
        ∙ ap (λ ss. record (typed.appended tk choices (suc line)) { strings = ss; main = number_or (place_of (function_names all) main_name) 0 }) strings_are
        ∙ ap (λ n. record (typed.appended tk choices (suc line)) { main = n }) main_number

  -- what `Typed` says of such a tree
  pub text_ends_with_tasks : (program : p.Program) → Typed (record { items = all }) program → (tk : Tasks) × (program ≡ typed.appended tk choices (suc line)) × (tk ≡ tree.tasks_of_text all tk.program)
  text_ends_with_tasks program h =
      let by = held_by (items context at_the_start all) all program h in
      (tk by.0 by.1, sym by.2 ∙ program_is by.0 by.1, refl)
