-- In a typed text that ends with the three items, the functions in front of them have types where `yield` and `main` are declared.
use Rattle.rc_task_items.proofs.Common.{◌≡◌, ℕ, zero, suc, ◌≤◌, List, [], ◌∷◌, ◌++◌, length, map, slice_get, Option, Some, None, false, IfSome, refl, sym, ap, ◌∙◌, subst, arith, append_assoc, Ty, int, field_at, IsTyped, parameters_of, IsVariable, IsWellTyped, Holds, place_of, ItemsInRange, Context, Scope, Meaning, Signature, a_local, a_global, a_function, a_builtin, structs_in, meaning_in, function_names, at_the_start, Made, behind_items, items, program_of, Typed, name_at, prefix_more, Given, of_held, held_by, AllFunctionsFit, function_at, functions_fit, IsThere, Defined, paired_at, Outer, OuterAfter, StandsFor, outer_builtins, outer_items, kept_items, Tasks, declared, declaration, HasOwnNames, own_names}
use Rattle.rc_syntax.specs.Tree as t
use Rattle.rc_core.specs.Programs as p
use Rattle.rc_tasks.specs.Appended as typed
use Rattle.rc_task_items.specs.Items as tree
use Rattle.rc_task_items.proofs.Split.{Splits}
use Rattle.rc_task_items.proofs.Assembled.{all, context, parts, tk, outer, numbered, functions_are, behind_on, program_is}

some_is : {A : Type 0} {x y : A} → Some x ≡ Some y → x ≡ y
some_is e = cc

abbrev Alike : p.Function → p.Function → Type 0
Alike f g = (parameters_of g ≡ parameters_of f) × (g.result ≡ f.result)

-- of lists that end with two functions alike
alike_at : (fs : List p.Function) (y m z n : p.Function) → Alike y z → Alike m n → (k : ℕ) (g : p.Function) → slice_get (fs ++ y ∷ m ∷ []) k ≡ Some g → (h : p.Function) × (slice_get (fs ++ z ∷ n ∷ []) k ≡ Some h) × Alike g h
alike_at [] y m z n a b zero g e = let P : p.Function → Type 0 = λ x. Alike x z in (z, refl, subst P (some_is e) a)
alike_at [] y m z n a b (suc zero) g e = let P : p.Function → Type 0 = λ x. Alike x n in (n, refl, subst P (some_is e) b)
alike_at [] y m z n a b (suc (suc k)) g e = absurd (none k e)
  where
    none : (k : ℕ) → slice_get {X = p.Function} [] k ≡ Some g → ⊥
    none k e = cc
alike_at (f ∷ fs) y m z n a b zero g e = (g, e, (refl, refl))
alike_at (f ∷ fs) y m z n a b (suc k) g e = alike_at fs y m z n a b k g e

field_of_struct : (structs : List p.Struct) (s f : ℕ) (d : p.Field) → field_at structs s f ≡ Some d → (fields : p.Struct) × (slice_get structs s ≡ Some fields) × (slice_get fields f ≡ Some d)
field_of_struct [] s f d h = absurd (none f d h)
  where
    none : (f : ℕ) (d : p.Field) → slice_get {X = p.Field} [] f ≡ Some d → ⊥
    none f d e = cc
field_of_struct (x ∷ xs) zero f d h = (x, refl, h)
field_of_struct (x ∷ xs) (suc s) f d h = field_of_struct xs s f d h

range_front : (is js : List t.Item) → ItemsInRange (is ++ js) → ItemsInRange is
range_front [] js h = tt
range_front (t.struct at name fields ∷ is) js h = range_front is js h
range_front (t.global at n name count c ∷ is) js h = range_front is js h
range_front (t.function at deletes result name params body ∷ is) js h = (h.0, range_front is js h.1)

module _ (is : List t.Item) (choices : List ℕ) (places : ℕ → ℕ → ℕ) (line : ℕ) (few : length choices ≤ 1000) (made : Made)
    (e : items (context is choices places line few) at_the_start (all is choices places line few) ≡ Holds made) (good : IsWellTyped (program_of (all is choices places line few) made)) (numbers : ItemsInRange is) where
  abbrev js : List t.Item
  js = tree.appended_items choices places line

  abbrev whole : List t.Item
  whole = all is choices places line few

  abbrev Whole : p.Program
  Whole = program_of whole made

  abbrev c : Context
  c = context is choices places line few

  abbrev tasks : Tasks
  tasks = tk is choices places line few made e

  abbrev front : Scope
  front = (behind_items c at_the_start is).names

  abbrev y : p.Function
  y = typed.yield_function tasks choices (suc line)

  abbrev m : p.Function
  m = typed.main_function tasks choices (suc (suc line))

  abbrev split : Splits (context is choices places line few) is (tree.appended_items choices places line) at_the_start made
  split = parts is choices places line few made e

  same_functions : made.functions ≡ split.0.functions ++ y ∷ m ∷ []
  same_functions = functions_are is choices places line few made e

  outer_front : Outer c split.0.globals front
  outer_front = of_held (OuterAfter c [] is at_the_start) (items c at_the_start is) split.0 (outer_items c is at_the_start [] refl) split.7 (outer_builtins c split.0.globals)

  kept_last : (n : List ℕ) (x : Meaning) → meaning_in front n ≡ Some x → meaning_in (behind_items c at_the_start whole).names n ≡ Some x
  kept_last n x h = subst (λ o. meaning_in o.names n ≡ Some x) (sym (behind_on c at_the_start is js)) (kept_items c js (behind_items c at_the_start is) n x h)

  function_there : (locals : List Ty) (n : List ℕ) (k : ℕ) (s : Signature) → meaning_in front n ≡ Some (a_function (Some k) s) → Some k ≡ place_of (function_names whole) n → IsThere (declared tasks) locals (a_function (Some k) s)
  function_there locals n k s q h =
      let numbers_are = numbered is choices places line few made e in
      let at_k : slice_get numbers_are.0 k ≡ Some n = subst (λ x. slice_get x k ≡ Some n) numbers_are.1 (name_at (function_names whole) n k (sym h)) in
      let g = paired_at c made.globals (behind_items c at_the_start whole).names (outer is choices places line few made e) ⊥ numbers_are.0 made.functions numbers_are.2 k n at_k in
      let types = g.2 (Some k) s (kept_last n (a_function (Some k) s) q) in
      let x = alike_at split.0.functions y m (declaration None) (declaration (Some int)) (refl, refl) (refl, refl) k g.0 (subst (λ fs. slice_get fs k ≡ Some g.0) same_functions g.1) in
      (x.0, x.1, x.2.0 ∙ types.0, x.2.1 ∙ types.1)

  there : (locals : List Ty) (n : List ℕ) → Given (IsThere (declared tasks) locals) (meaning_in front n)
  there locals n = by (meaning_in front n) refl (outer_front n)
    where
      by : (x : Option Meaning) → meaning_in front n ≡ x → Given (StandsFor c split.0.globals n) x → Given (IsThere (declared tasks) locals) x
      by None q h = tt
      by (Some (a_local x u)) q h = absurd h
      by (Some (a_global g u z)) q h = h
      by (Some (a_function None s)) q h = tt
      by (Some (a_function (Some k) s)) q h = function_there locals n k s q h
      by (Some (a_builtin b)) q h = tt

  defined : Defined (declared tasks)
  defined = record {
    globals = λ k d h. (good.globals k d (subst (λ gs. slice_get gs k ≡ Some d) (sym split.2) (prefix_more split.0.globals split.1.globals k d h))).defined;
    fields = λ s f d h. let x = field_of_struct (structs_in c) s f d h in ((good.structs s x.0 x.1).fields_fit f d x.2).defined;
    results = λ k g u h q.
        let x = alike_at split.0.functions (declaration None) (declaration (Some int)) y m (refl, refl) (refl, refl) k g h in
        let r = (good.functions k x.0 (subst (λ fs. slice_get fs k ≡ Some x.0) (sym same_functions) x.1)).result in
        (subst (λ z. IfSome z (IsVariable (structs_in c))) (x.2.1 ∙ q) r).0;
  }

  pub functions_typed : (k : ℕ) (f : p.Function) → slice_get split.0.functions k ≡ Some f → IsTyped (declared tasks) f false f.body
  functions_typed k f h =
      let fit : AllFunctionsFit (declared tasks) c refl defined front there split.0.functions = of_held _ (items c at_the_start is) split.0 (functions_fit (declared tasks) c refl defined front there is at_the_start (λ n x q. q) (omega arith) numbers) split.7 in
      (function_at (declared tasks) c refl defined front there split.0.functions fit k f h).body

-- the program of such a text, and that what stands in front names its own alone
pub typed_tasks : (is : List t.Item) (choices : List ℕ) (places : ℕ → ℕ → ℕ) (line : ℕ) (program : p.Program) → length choices ≤ 1000 → ItemsInRange (is ++ tree.appended_items choices places line) → IsWellTyped program → Typed (record { items = is ++ tree.appended_items choices places line }) program →
    (tk : Tasks) × (program ≡ typed.appended tk choices (suc line)) × (tk ≡ tree.tasks_of_text (is ++ tree.appended_items choices places line) tk.program) × HasOwnNames tk.program × (record tk.program { main = 0 } ≡ tk.program)
typed_tasks is choices places line program few numbers good h =
    let by = held_by (items (context is choices places line few) at_the_start (all is choices places line few)) (all is choices places line few) program h in
    let own_good = subst IsWellTyped (sym by.2) good in (
      tk is choices places line few by.0 by.1,
      sym by.2 ∙ program_is is choices places line few by.0 by.1,
      refl,
      own_names (tk is choices places line few by.0 by.1) (functions_typed is choices places line few by.0 by.1 own_good (range_front is (tree.appended_items choices places line) numbers)),
      refl,
    )

last_off : {A : Type 0} (xs : List A) (x : A) → tree.without_last (xs ++ x ∷ []) ≡ xs
last_off [] x = refl
last_off (y ∷ []) x = refl
last_off (y ∷ z ∷ xs) x = ap (λ l. y ∷ l) (last_off (z ∷ xs) x)

two_off : {A : Type 0} (xs : List A) (x y : A) → tree.without_last (tree.without_last (xs ++ x ∷ y ∷ [])) ≡ xs
two_off xs x y = ap (λ l. tree.without_last (tree.without_last l)) (sym (append_assoc xs (x ∷ []) (y ∷ []))) ∙ ap tree.without_last (last_off (xs ++ x ∷ []) y) ∙ last_off xs x

own_back : (t : Tasks) (choices : List ℕ) (line : ℕ) → tree.without_tasks (typed.appended t choices line) ≡ record t.program { main = 0 }
own_back t choices line =
    ap (λ gs. record (tree.without_tasks (typed.appended t choices line)) { globals = gs }) (last_off t.program.globals typed.counter)
    ∙ ap (λ ss. record (tree.without_tasks (typed.appended t choices line)) { globals = t.program.globals; strings = ss }) (last_off t.program.strings (map typed.digit choices))
    ∙ ap (λ fs. record t.program { main = 0; functions = fs }) (two_off t.program.functions (typed.yield_function t choices line) (typed.main_function t choices (suc line)))

-- the same of the program without the three items
pub tasks_without : (is : List t.Item) (choices : List ℕ) (places : ℕ → ℕ → ℕ) (line : ℕ) (program : p.Program) → length choices ≤ 1000 → ItemsInRange (is ++ tree.appended_items choices places line) → IsWellTyped program → Typed (record { items = is ++ tree.appended_items choices places line }) program →
    (program ≡ typed.appended (tree.tasks_of_text (is ++ tree.appended_items choices places line) (tree.without_tasks program)) choices (suc line)) × HasOwnNames (tree.without_tasks program)
tasks_without is choices places line program few numbers good h =
    let x = typed_tasks is choices places line program few numbers good h in
    let same : tree.without_tasks program ≡ x.0.program = ap tree.without_tasks x.1 ∙ own_back x.0 choices (suc line) ∙ x.4 in
    (x.1 ∙ ap (λ z. typed.appended z choices (suc line)) (x.2 ∙ ap (tree.tasks_of_text (is ++ tree.appended_items choices places line)) (sym same)), subst HasOwnNames (sym same) x.3)
