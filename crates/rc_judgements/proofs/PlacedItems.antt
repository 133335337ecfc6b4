-- A program has the faults that its tree shows.
use Rattle.std.specs.Prelude.{◌≡◌, ℕ, suc, List, [], ◌∷◌, ◌++◌, Option, Some, None, Bool, true, false, is_some, length, map, slice_get}
use Rattle.std.proofs.Common.{refl, sym, ap, ◌∙◌, subst, arith, append_assoc, length-append}
use Rattle.rc_syntax.specs.declared.tree.Spot.{Spot}
use Rattle.rc_syntax.specs.declared.tree.Name.{Name}
use Rattle.rc_syntax.specs.Tree as t
use Rattle.rc_syntax.specs.Tokens.{Token}
use Rattle.rc_syntax.specs.Grammar.{placed, node, Derives, Text}
use Rattle.rc_core.specs.Types.{Ty}
use Rattle.rc_core.specs.Programs as p
use Rattle.rc_deletes.specs.declared.fault.Refusal.TheVariants.{Mistyped}
use Rattle.rc_deletes.specs.Judged.{Holds, failing}
use Rattle.rc_deletes.specs.Kinds.{written_type}
use Rattle.rc_deletes.specs.Scopes.{Context, Scope, Meaning, a_local, a_global, a_function, a_builtin, meaning_in}
use Rattle.rc_deletes.specs.Statements.{Here, stmts}
use Rattle.rc_deletes.specs.Items.{function_names, Outside, type_option, with_function, with_param, with_params, before_params, behind_body, behind_item, behind_items, context_of, at_the_start, is_struct_option, head_rule, Made, made_both, item, items, before_globals, Typed}
use Rattle.rc_deletes.specs.declared.deletes.DeletesFault.{DeletesFault}
use Rattle.rc_deletes.specs.First.{first}
use Rattle.rc_deletes.specs.Order.{IsLeastPlaced}
use Rattle.rc_deletes.specs.Places as rule
use Rattle.rc_deletes.specs.Places.{or_own, deletes_faults}
use Rattle.rc_deletes.specs.PlacedFaults as rules
use Rattle.rc_deletes.specs.PlacedFaults.{PlacedFault, without_place, placed_faults}
use Rattle.rc_judgements.proofs.Held.{Held, Given, held_parts, held_ruled, held_always, held_front}
use Rattle.rc_deletes.proofs.Naming.{name_at}
use Rattle.rc_deletes.proofs.Standing.{at_end}
use Rattle.rc_judgements.proofs.WellTypedScopes.{StandsFor, Outer, OuterAfter, outer_builtins, outer_items, kept_items}
use Rattle.rc_judgements.proofs.WellTypedFunctions.{made_function, param_of}
use Rattle.rc_judgements.proofs.WellTypedNumbers.{AddsNone, struct_adds, global_adds, prototype_adds, Complete, paired_at, complete}
use Rattle.rc_judgements.proofs.WellTyped.{of_held, held_by}
use Rattle.rc_judgements.proofs.PlacedOrder.{first_is_least}
use Rattle.rc_judgements.proofs.PlacedOperators.{plain, plain_both}
use Rattle.rc_judgements.proofs.PlacedExpressions.{DeletesAs, Tells}
use Rattle.rc_judgements.proofs.PlacedStatements.{plain_params, plain_result, own_both, tells_local, stmts_same}

module _ (fs : List p.Function) (context : Context) (last : Scope) (tells : (d : Bool) → Tells fs d last) where
  -- names of functions and of parameters
  tells_from : (d : Bool) (names : Scope) → ((n : List ℕ) (m : Meaning) → meaning_in names n ≡ Some m → meaning_in last n ≡ Some m) → Tells fs d names
  tells_from d names kept n = go (meaning_in names n) refl where
    go : (m : Option Meaning) → meaning_in names n ≡ m → Given (DeletesAs fs d) m
    go None e = tt
    go (Some m) e = subst (Given (DeletesAs fs d)) (kept n m e) (tells d n)

  tells_param : (d : Bool) (here : Here) (u : Ty) (o : Option Name) → Tells fs d here.names → Tells fs d (param_of here u o).names
  tells_param d here u None k = k
  tells_param d here u (Some name) k = tells_local fs d here u name.text k

  tells_params : (d : Bool) (here : Here) (qs : List t.Param) → Tells fs d here.names → Tells fs d (with_params context here qs).names
  tells_params d here [] k = k
  tells_params d here (q ∷ qs) k = tells_params d (with_param context here q) qs (tells_param d here (written_type context.types q.type_name) q.name k)

  -- functions from a number on
  abbrev AreSame : Outside → List t.Item → Made → Type 0
  AreSame o is m = (before : List p.Function) → fs ≡ before ++ m.functions → rule.items fs is (length before) ≡ plain (rules.items context o is)

  -- an item that makes no function
  without_one : (o : Outside) (i : t.Item) (is : List t.Item) (a b : Made) → ((next : ℕ) → rule.items fs (i ∷ is) next ≡ rule.item fs i next ++ rule.items fs is next) → ((next : ℕ) → rule.item fs i next ≡ plain (rules.item context o i)) → a.functions ≡ [] →
      AreSame (behind_item context o i) is b → AreSame o (i ∷ is) (made_both a b)
  without_one o i is a b split here e h before q =
      split (length before) ∙ plain_both (rule.item fs i (length before)) (rule.items fs is (length before)) (rules.item context o i) (rules.items context (behind_item context o i) is) (here (length before)) (h before (q ∙ ap (λ x. before ++ (x ++ b.functions)) e))

  -- one definition
  module _ (o : Outside) (at : Spot) (deletes : Bool) (gives : Option t.TypeName) (name : Name) (qs : List t.Param) (body : t.Stmts) where
    abbrev own : Outside
    own = with_function context o deletes gives name qs

    abbrev start : Here
    start = with_params context (before_params (with_function context o deletes gives name qs)) qs

    abbrev function_of : p.Stmts → p.Function
    function_of b = made_function context at deletes gives qs (behind_body context (with_function context o deletes gives name qs) qs body) b

    abbrev MakesSame : Made → Type 0
    MakesSame m = (b : p.Stmts) × (m.functions ≡ function_of b ∷ []) × (rule.stmts fs deletes body b ≡ plain (rules.stmts context deletes start body))

    makes_same : Tells fs deletes own.names → Held MakesSame (item context o (t.function at deletes gives name qs (Some body)))
    makes_same k =
        let code = stmts context (type_option context gives) false start body in
        held_parts (λ (u : Unit {0}). Unit {0}) (λ b. rule.stmts fs deletes body b ≡ plain (rules.stmts context deletes start body)) MakesSame (head_rule context o true deletes gives name qs) code _
        (held_always (Unit {0}) (head_rule context o true deletes gives name qs) tt) (stmts_same fs deletes context (type_option context gives) false start body (tells_params deletes (before_params own) qs k))
        (λ u b h q. held_ruled MakesSame at (failing (is_struct_option (type_option context gives)) Mistyped) (record { globals = []; functions = function_of b ∷ [] }) (λ e. (b, refl, q)))

    function_same : (b : p.Stmts) → rule.stmts fs deletes body b ≡ plain (rules.stmts context deletes start body) → rule.function fs deletes at gives qs (Some body) (Some (function_of b)) ≡ plain (rules.item context o (t.function at deletes gives name qs (Some body)))
    function_same b h =
        own_both _ _ (rules.params qs ++ rules.stmts context deletes start body) (rules.result at gives) (plain_both (rule.params qs) (rule.stmts fs deletes body b) (rules.params qs) (rules.stmts context deletes start body) (plain_params qs) h) (plain_result at gives)

    one_same : (is : List t.Item) (a b : Made) → MakesSame a → AreSame (behind_item context o (t.function at deletes gives name qs (Some body))) is b → AreSame o (t.function at deletes gives name qs (Some body) ∷ is) (made_both a b)
    one_same is a b m h before e =
        let i = t.function at deletes gives name qs (Some body) in
        let f = function_of m.0 in
        let all : fs ≡ before ++ f ∷ b.functions = e ∙ ap (λ x. before ++ (x ++ b.functions)) m.1 in
        let there : slice_get fs (length before) ≡ Some f = subst (λ x. slice_get x (length before) ≡ Some f) (sym all) (at_end before b.functions f) in
        let mine : rule.item fs i (length before) ≡ plain (rules.item context o i) = subst (λ x. rule.function fs deletes at gives qs (Some body) x ≡ plain (rules.item context o i)) (sym there) (function_same m.0 m.2) in
        let count : suc (length before) ≡ length (before ++ f ∷ []) = omega (arith, length-append before (f ∷ [])) in
        let rest = h (before ++ f ∷ []) (all ∙ sym (append_assoc before (f ∷ []) b.functions)) in
        plain_both (rule.item fs i (length before)) (rule.items fs is (suc (length before))) (rules.item context o i) (rules.items context (behind_item context o i) is) mine (ap (rule.items fs is) count ∙ rest)

  prototype_same : (at : Spot) (gives : Option t.TypeName) (qs : List t.Param) → or_own (rule.params qs ++ []) (rule.result at gives) ≡ plain (or_own (rules.params qs ++ []) (rules.result at gives))
  prototype_same at gives qs = own_both _ _ (rules.params qs ++ []) (rules.result at gives) (plain_both (rule.params qs) [] (rules.params qs) [] (plain_params qs) refl) (plain_result at gives)

  pub items_same : (is : List t.Item) (o : Outside) → ((n : List ℕ) (m : Meaning) → meaning_in (behind_items context o is).names n ≡ Some m → meaning_in last n ≡ Some m) → Held (AreSame o is) (items context o is)
  items_same [] o kept = λ before e. refl
  items_same (t.struct at name fields ∷ is) o kept =
      let i = t.struct at name fields in
      held_parts (AddsNone context) (AreSame (behind_item context o i) is) (AreSame o (i ∷ is)) (item context o i) (items context (behind_item context o i) is) _ (struct_adds context o at name fields) (items_same is (behind_item context o i) kept)
      (λ a b e h. without_one o i is a b (λ next. refl) (λ next. refl) e h)
  items_same (t.global at n name count c ∷ is) o kept =
      let i = t.global at n name count c in
      held_front (AreSame o (i ∷ is)) (before_globals context o.structs (i ∷ is)) _ (held_parts (AddsNone context) (AreSame (behind_item context o i) is) (AreSame o (i ∷ is)) (item context o i) (items context (behind_item context o i) is) _ (global_adds context o at n name count c) (items_same is (behind_item context o i) kept)
      (λ a b e h. without_one o i is a b (λ next. refl) (λ next. refl) e h))
  items_same (t.function at deletes gives name qs None ∷ is) o kept =
      let i = t.function at deletes gives name qs None in
      held_parts (AddsNone context) (AreSame (behind_item context o i) is) (AreSame o (i ∷ is)) (item context o i) (items context (behind_item context o i) is) _ (prototype_adds context o at deletes gives name qs) (items_same is (behind_item context o i) kept)
      (λ a b e h. without_one o i is a b (λ next. refl) (λ next. prototype_same at gives qs) e h)
  items_same (t.function at deletes gives name qs (Some body) ∷ is) o kept =
      let i = t.function at deletes gives name qs (Some body) in
      let next = behind_item context o i in
      held_parts (MakesSame o at deletes gives name qs body) (AreSame next is) (AreSame o (i ∷ is)) (item context o i) (items context next is) _
      (makes_same o at deletes gives name qs body (tells_from deletes (with_function context o deletes gives name qs).names (λ n m e. kept n m (kept_items context is next n m e)))) (items_same is next kept)
      (λ a b m h. one_same o at deletes gives name qs body is a b m h)

module _ (is : List t.Item) (made : Made) (e : items (context_of is) at_the_start is ≡ Holds made) where
  abbrev last : Scope
  last = (behind_items (context_of is) at_the_start is).names

  outer : Outer (context_of is) made.globals last
  outer = of_held (OuterAfter (context_of is) [] is at_the_start) (items (context_of is) at_the_start is) made (outer_items (context_of is) is at_the_start [] refl) e (outer_builtins (context_of is) made.globals)

  all_functions : Complete (context_of is) made.globals last outer ⊥ [] made
  all_functions = of_held (Complete (context_of is) made.globals last outer ⊥ []) (items (context_of is) at_the_start is) made (complete (context_of is) made.globals last outer ⊥ is [] at_the_start refl refl nothing_seen (λ n m h. h) (λ w. absurd w)) e where
    nothing_seen : (j : ℕ) (n : List ℕ) → slice_get {X = List ℕ} [] j ≡ Some n → is_some (meaning_in (at_the_start).names n) ≡ true
    nothing_seen j n h = absurd cc

  -- names of functions tell whether they delete
  last_tells : (d : Bool) → Tells made.functions d last
  last_tells d n = by (meaning_in last n) refl (outer n) where
    by : (m : Option Meaning) → meaning_in last n ≡ m → Given (StandsFor (context_of is) made.globals n) m → Given (DeletesAs made.functions d) m
    by None q h = tt
    by (Some (a_local x u)) q h = absurd h
    by (Some (a_global g u c)) q h = tt
    by (Some (a_function None s)) q h = tt
    by (Some (a_function (Some k) s)) q h =
        let at_k : slice_get all_functions.0 k ≡ Some n = subst (λ x. slice_get x k ≡ Some n) all_functions.1 (name_at (function_names is) n k (sym h)) in
        let g = paired_at (context_of is) made.globals last outer ⊥ all_functions.0 made.functions all_functions.2 k n at_k in
        ap rule.function_deletes g.1 ∙ (g.2 (Some k) s q).2
    by (Some (a_builtin b)) q h = tt

  faults_same : rule.items made.functions is 0 ≡ plain (rules.items (context_of is) at_the_start is)
  faults_same = of_held (AreSame made.functions (context_of is) last last_tells at_the_start is) (items (context_of is) at_the_start is) made (items_same made.functions (context_of is) last last_tells is at_the_start (λ n m h. h)) e [] refl

-- the faults of a program are those of its tree, without their places
pub same_faults : (tree : t.Tree) (program : p.Program) → Typed tree program → deletes_faults tree program ≡ map without_place (placed_faults tree)
same_faults tree program h =
    let by = held_by (items (context_of tree.items) at_the_start tree.items) tree.items program h in
    subst (λ x. deletes_faults tree x ≡ map without_place (placed_faults tree)) by.2 (faults_same tree.items by.0 by.1)

first_of : (fs : List PlacedFault) (f : DeletesFault) → first (map without_place fs) ≡ Some f → (g : PlacedFault) × (first fs ≡ Some g) × (without_place g ≡ f)
first_of [] f h = absurd cc
first_of (g ∷ gs) f h = (g, refl, cc)

-- what is answered of a program is the least
pub answer_is_least : (tree : t.Tree) (tokens : List Token) (program : p.Program) (f : DeletesFault) → Derives (placed 0 tokens) (node Text tree.items) → Typed tree program → first (deletes_faults tree program) ≡ Some f → (g : PlacedFault) × (without_place g ≡ f) × IsLeastPlaced tree g
answer_is_least tree tokens program f d h e =
    let g = first_of (placed_faults tree) f (subst (λ fs. first fs ≡ Some f) (same_faults tree program h) e) in
    (g.0, g.2, first_is_least tree tokens g.0 d g.1)
