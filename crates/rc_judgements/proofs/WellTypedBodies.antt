-- Functions fit, and delete where they may.
use Rattle.std.specs.Prelude.{◌≡◌, ℕ, zero, suc, ◌≤◌, List, [], ◌∷◌, ◌++◌, Option, Some, None, Bool, true, false, IfSome, length, slice_get}
use Rattle.std.proofs.Common.{refl, sym, ap, ◌∙◌, subst, arith, append_assoc, length-append}
use Rattle.std.proofs.lemmas.List.{length-map}
use Rattle.rc_syntax.specs.declared.tree.Spot.{Spot}
use Rattle.rc_syntax.specs.declared.tree.Name.{Name}
use Rattle.rc_syntax.specs.Tree as t
use Rattle.rc_core.specs.Types.{Ty}
use Rattle.rc_core.specs.Programs as p
use Rattle.rc_core.specs.Typing.{is_struct, IsDefined}
use Rattle.rc_core.specs.WellTyped.{IsVariable}
use Rattle.rc_deletes.specs.declared.fault.Refusal.TheVariants.{Mistyped}
use Rattle.rc_deletes.specs.Judged.{failing}
use Rattle.rc_deletes.specs.Kinds.{written_type}
use Rattle.rc_deletes.specs.Scopes.{Context, structs_in, Scope, Meaning, meaning_in}
use Rattle.rc_deletes.specs.Statements.{Here, stmts}
use Rattle.rc_deletes.specs.Items.{Outside, type_option, with_function, with_param, with_params, before_params, behind_body, behind_item, behind_items, is_struct_option, head_rule, Made, made_both, item, items, before_globals}
use Rattle.rc_judgements.proofs.Held.{Held, Given, held_parts, held_ruled, held_always, held_then, not_failing, held_front}
use Rattle.rc_judgements.proofs.WellTypedLocals.{Variables}
use Rattle.rc_judgements.proofs.WellTypedStructs.{some_is}
use Rattle.rc_judgements.proofs.WellTypedScopes.{kept_items}
use Rattle.rc_deletes.proofs.Standing.{Extends, extends_self, extends_on, prefix_more, at_end, on_with_local, on_stmts}
use Rattle.rc_core.specs.Typing.{IsTyped, AreTyped}
use Rattle.rc_core.specs.WellTyped.{FunctionFits}
use Rattle.rc_core.specs.Deletes.{IsPlaced, KeepsRegions}
use Rattle.rc_deletes.specs.Ranges.{StmtsInRange, ItemsInRange}
use Rattle.rc_deletes.specs.Places as rule
use Rattle.rc_judgements.proofs.Held.{held_and, held_knowing}
use Rattle.rc_judgements.proofs.WellTypedDefined.{Defined}
use Rattle.rc_judgements.proofs.WellTypedCalls.{IsThere}
use Rattle.rc_judgements.proofs.WellTypedLocals.{Known, Within, within_before, known_local, stmts_variables}
use Rattle.rc_judgements.proofs.WellTypedStatements.{stmts_fit}
use Rattle.rc_judgements.proofs.WellTypedDeletes.{append_none, own_none, KeepAll, stmts_keep}
use Rattle.rc_judgements.proofs.WellTypedFunctions.{OptionDefined, HeadHolds, head_holds, made_function, param_of, param_type, params_locals, params_strings, prefix_length, not_true}
use Rattle.rc_judgements.proofs.WellTypedNumbers.{AddsNone, struct_adds, global_adds, prototype_adds}

-- a body is typed whatever the function's own body is
module _ (program : p.Program) (f : p.Function) (code : p.Stmt) where
  mutual
    typed_with : (loop : Bool) (s : p.Stmt) → IsTyped program f loop s → IsTyped program (record f { body = code }) loop s
    typed_with loop (p.block body) h = all_typed_with loop body h
    typed_with loop (p.declare line x value) h = h
    typed_with loop (p.assign line x e) h = h
    typed_with loop (p.store line place e) h = h
    typed_with loop (p.update line place change e) h = h
    typed_with loop (p.copy line s left right) h = h
    typed_with loop (p.evaluate line e) h = h
    typed_with loop (p.delete line e) h = h
    typed_with loop (p.branch line test a b) h = (h.0, typed_with loop a h.1, typed_with loop b h.2)
    typed_with loop (p.while line test a) h = (h.0, typed_with true a h.1)
    typed_with loop (p.repeat line a test) h = (typed_with true a h.0, h.1)
    typed_with loop (p.for line first test third a) h = (typed_with loop first h.0, h.1, typed_with loop third h.2, typed_with true a h.3, h.4, h.5)
    typed_with loop (p.break line) h = h
    typed_with loop (p.continue line) h = h
    typed_with loop (p.return line None) h = h
    typed_with loop (p.return line (Some e)) h = h

    all_typed_with : (loop : Bool) (s : p.Stmts) → AreTyped program f loop s → AreTyped program (record f { body = code }) loop s
    all_typed_with loop p.done h = tt
    all_typed_with loop (p.then s rest) h = (typed_with loop s h.0, all_typed_with loop rest h.1)

-- strings are only added
item_strings : (context : Context) (o : Outside) (i : t.Item) → length o.strings ≤ length (behind_item context o i).strings
item_strings context o (t.struct at name fields) = omega arith
item_strings context o (t.global at n name count c) = omega arith
item_strings context o (t.function at deletes result name qs None) = omega arith
item_strings context o (t.function at deletes result name qs (Some body)) =
    let own = with_function context o deletes result name qs in
    let start = with_params context (before_params own) qs in
    let e : length start.strings ≡ length o.strings = ap length (params_strings context (before_params own) qs) in
    omega (arith, e, (on_stmts context start body).1)

items_strings : (context : Context) (is : List t.Item) (o : Outside) → length o.strings ≤ length (behind_items context o is).strings
items_strings context [] o = omega arith
items_strings context (i ∷ is) o = omega (arith, item_strings context o i, items_strings context is (behind_item context o i))

-- parameters are known in a body
module _ (program : p.Program) (all : List Ty) (context : Context) where
  on_param : (here : Here) (u : Ty) (o : Option Name) → Extends here (param_of here u o)
  on_param here u None = (λ x w h. prefix_more here.locals (u ∷ []) x w h, omega arith)
  on_param here u (Some name) = on_with_local here u name.text

  on_params : (here : Here) (qs : List t.Param) → Extends here (with_params context here qs)
  on_params here [] = extends_self here
  on_params here (q ∷ qs) = extends_on here (with_param context here q) (with_params context (with_param context here q) qs) (on_param here (param_type context q) q.name) (on_params (with_param context here q) qs)

  known_param : (here : Here) (u : Ty) (o : Option Name) → Known program all here.names → Within program all (param_of here u o) → Known program all (param_of here u o).names
  known_param here u None k w = k
  known_param here u (Some name) k w = known_local program all here u name.text k w

  known_params : (here : Here) (qs : List t.Param) → Known program all here.names → Within program all (with_params context here qs) → Known program all (with_params context here qs).names
  known_params here [] k w = k
  known_params here (q ∷ qs) k w =
      let next = with_param context here q in
      known_params next qs (known_param here (param_type context q) q.name k (within_before program all next (with_params context next qs) (on_params next qs) w)) w

-- results name structs that are defined
module _ (context : Context) where
  result_of_type : (r : Option t.TypeName) → OptionDefined context r → is_struct_option (type_option context r) ≡ false → IfSome (type_option context r) (IsVariable (structs_in context))
  result_of_type None h e = tt
  result_of_type (Some n) h e = (h, not_true (is_struct (written_type context.types n)) e)

module _ (program : p.Program) (context : Context) (structs : program.structs ≡ structs_in context) (defined : Defined program) (last : Scope) (there : (all : List Ty) → Known program all last) where
  abbrev pub AllFunctionsFit : List p.Function → Type 0
  AllFunctionsFit [] = Unit {0}
  AllFunctionsFit (f ∷ fs) = FunctionFits program f × AllFunctionsFit fs

  pub function_at : (fs : List p.Function) → AllFunctionsFit fs → (k : ℕ) (f : p.Function) → slice_get fs k ≡ Some f → FunctionFits program f
  function_at [] h k f e = absurd cc
  function_at (g ∷ fs) h zero f e = let same : g ≡ f = some_is g f e in subst (FunctionFits program) same h.0
  function_at (g ∷ fs) h (suc k) f e = function_at fs h.1 k f e

  abbrev FunctionsFit : Made → Type 0
  FunctionsFit m = AllFunctionsFit m.functions

  known_from : (all : List Ty) (names : Scope) → ((n : List ℕ) (m : Meaning) → meaning_in names n ≡ Some m → meaning_in last n ≡ Some m) → Known program all names
  known_from all names kept n = go (meaning_in names n) refl where
    go : (m : Option Meaning) → meaning_in names n ≡ m → Given (IsThere program all) m
    go None e = tt
    go (Some m) e = subst (Given (IsThere program all)) (kept n m e) (there all n)

  -- one definition
  module _ (o : Outside) (at : Spot) (deletes : Bool) (result : Option t.TypeName) (name : Name) (qs : List t.Param) (body : t.Stmts)
      (kept : (n : List ℕ) (m : Meaning) → meaning_in (with_function context o deletes result name qs).names n ≡ Some m → meaning_in last n ≡ Some m)
      (strings : length (behind_body context (with_function context o deletes result name qs) qs body).strings ≤ length program.strings) (numbers : StmtsInRange body) where
    abbrev own : Outside
    own = with_function context o deletes result name qs

    abbrev start : Here
    start = with_params context (before_params (with_function context o deletes result name qs)) qs

    abbrev end : Here
    end = behind_body context (with_function context o deletes result name qs) qs body

    abbrev function_of : p.Stmts → p.Function
    function_of b = made_function context at deletes result qs (behind_body context (with_function context o deletes result name qs) qs body) b

    abbrev empty : p.Function
    empty = function_of p.done

    at_end_of : Within program end.locals end
    at_end_of = (λ x u h. h, strings)

    at_start : Within program end.locals start
    at_start = within_before program end.locals start end (on_stmts context start body) at_end_of

    local_defined : Variables context end → (x : ℕ) (u : Ty) → slice_get end.locals x ≡ Some u → IsDefined program.structs u
    local_defined v x u h = subst (λ s. IsDefined s u) (sym structs) (v x u h).0

    body_fits : Variables context end → Held (AreTyped program empty false) (stmts context (type_option context result) false start body)
    body_fits v = stmts_fit program empty context structs defined (local_defined v) false start body numbers (known_params program end.locals context (before_params own) qs (known_from end.locals own.names kept) at_start) at_end_of

    code_fits : Variables context start → Held (λ b. Variables context end × AreTyped program empty false b) (stmts context (type_option context result) false start body)
    code_fits v =
        let code = stmts context (type_option context result) false start body in
        let variables = stmts_variables context (type_option context result) false start body v in
        held_and (λ (b : p.Stmts). Variables context end) (AreTyped program empty false) code variables (held_knowing (Variables context end) (AreTyped program empty false) code variables body_fits)

    makes_fitting : (b : p.Stmts) → OptionDefined context result → is_struct_option (type_option context result) ≡ false → Variables context end → AreTyped program empty false b → FunctionFits program (function_of b)
    makes_fitting b d e v h = record {
      parameters = omega (arith, prefix_length start.locals end.locals (on_stmts context start body).0, ap length (params_locals context (before_params own) qs), length-map qs (λ q. written_type context.types q.type_name));
      locals = λ x u q. subst (λ s. IsVariable s u) (sym structs) (v x u q);
      result = subst (λ s. IfSome (type_option context result) (IsVariable s)) (sym structs) (result_of_type context result d e);
      body = all_typed_with program empty (p.block b) false b h;
    }

    pub definition_fits : Held FunctionsFit (item context o (t.function at deletes result name qs (Some body)))
    definition_fits =
        let code = stmts context (type_option context result) false start body in
        held_then (HeadHolds context o deletes result name qs) (λ b. Variables context end × AreTyped program empty false b) FunctionsFit (head_rule context o true deletes result name qs) code _
        (head_holds context o deletes result name qs) (λ k. code_fits k.2)
        (λ u b k h. held_ruled FunctionsFit at (failing (is_struct_option (type_option context result)) Mistyped) (record { globals = []; functions = function_of b ∷ [] }) (λ e. (makes_fitting b k.0 (not_failing _ Mistyped e) h.0 h.1, tt)))

  append_fit : (a b : List p.Function) → AllFunctionsFit a → AllFunctionsFit b → AllFunctionsFit (a ++ b)
  append_fit [] b h k = k
  append_fit (f ∷ a) b h k = (h.0, append_fit a b h.1 k)

  pub functions_fit : (is : List t.Item) (o : Outside) → ((n : List ℕ) (m : Meaning) → meaning_in (behind_items context o is).names n ≡ Some m → meaning_in last n ≡ Some m) → length (behind_items context o is).strings ≤ length program.strings → ItemsInRange is → Held FunctionsFit (items context o is)
  functions_fit [] o kept strings r = tt
  functions_fit (t.struct at name fields ∷ is) o kept strings r =
      let i = t.struct at name fields in
      held_parts (AddsNone context) FunctionsFit FunctionsFit (item context o i) (items context (behind_item context o i) is) _ (struct_adds context o at name fields) (functions_fit is (behind_item context o i) kept strings r) (λ a b e h. subst (λ x. AllFunctionsFit (x ++ b.functions)) (sym e) h)
  functions_fit (t.global at n name count c ∷ is) o kept strings r =
      let i = t.global at n name count c in
      held_front FunctionsFit (before_globals context o.structs (i ∷ is)) _ (held_parts (λ (m : Made). m.functions ≡ []) FunctionsFit FunctionsFit (item context o i) (items context (behind_item context o i) is) _ (global_adds context o at n name count c) (functions_fit is (behind_item context o i) kept strings r) (λ a b e h. subst (λ x. AllFunctionsFit (x ++ b.functions)) (sym e) h))
  functions_fit (t.function at deletes result name qs None ∷ is) o kept strings r =
      let i = t.function at deletes result name qs None in
      held_parts (λ (m : Made). m.functions ≡ []) FunctionsFit FunctionsFit (item context o i) (items context (behind_item context o i) is) _ (prototype_adds context o at deletes result name qs) (functions_fit is (behind_item context o i) kept strings r.1) (λ a b e h. subst (λ x. AllFunctionsFit (x ++ b.functions)) (sym e) h)
  functions_fit (t.function at deletes result name qs (Some body) ∷ is) o kept strings r =
      let i = t.function at deletes result name qs (Some body) in
      let next = behind_item context o i in
      held_parts FunctionsFit FunctionsFit FunctionsFit (item context o i) (items context next is) _
      (definition_fits o at deletes result name qs body (λ n m e. kept n m (kept_items context is next n m e)) (omega (arith, items_strings context is next, strings)) r.0)
      (functions_fit is next kept strings r.1) (λ a b h k. append_fit a.functions b.functions h k)

-- functions delete where nothing is found out of place
module _ (program : p.Program) (context : Context) where
  abbrev pub IsInPlace : p.Function → Type 0
  IsInPlace f = IsPlaced program f.body × (f.deletes ≡ false → KeepsRegions program f.body)

  abbrev pub AllInPlace : List p.Function → Type 0
  AllInPlace [] = Unit {0}
  AllInPlace (f ∷ fs) = IsInPlace f × AllInPlace fs

  pub in_place_at : (fs : List p.Function) → AllInPlace fs → (k : ℕ) (f : p.Function) → slice_get fs k ≡ Some f → IsInPlace f
  in_place_at [] h k f e = absurd cc
  in_place_at (g ∷ fs) h zero f e = let same : g ≡ f = some_is g f e in subst IsInPlace same h.0
  in_place_at (g ∷ fs) h (suc k) f e = in_place_at fs h.1 k f e

  abbrev pub AreInPlace : List t.Item → Made → Type 0
  AreInPlace is m = (before : List p.Function) → program.functions ≡ before ++ m.functions → rule.items program.functions is (length before) ≡ [] → AllInPlace m.functions

  without_one : (is : List t.Item) (a b : Made) → a.functions ≡ [] → AreInPlace is b → AreInPlace is (made_both a b)
  without_one is a b e h = subst (λ x. (before : List p.Function) → program.functions ≡ before ++ (x ++ b.functions) → rule.items program.functions is (length before) ≡ [] → AllInPlace (x ++ b.functions)) (sym e) h

  abbrev MakesPlaced : Outside → Spot → Bool → Option t.TypeName → Name → List t.Param → t.Stmts → Made → Type 0
  MakesPlaced o at deletes result name qs body m =
      (b : p.Stmts) × (m.functions ≡ made_function context at deletes result qs (behind_body context (with_function context o deletes result name qs) qs body) b ∷ []) × (rule.stmts program.functions deletes body b ≡ [] → KeepAll program deletes b)

  makes_placed : (o : Outside) (at : Spot) (deletes : Bool) (result : Option t.TypeName) (name : Name) (qs : List t.Param) (body : t.Stmts) → Held (MakesPlaced o at deletes result name qs body) (item context o (t.function at deletes result name qs (Some body)))
  makes_placed o at deletes result name qs body =
      let own = with_function context o deletes result name qs in
      let start = with_params context (before_params own) qs in
      let code = stmts context (type_option context result) false start body in
      held_parts (λ (u : Unit {0}). Unit {0}) (λ b. rule.stmts program.functions deletes body b ≡ [] → KeepAll program deletes b) (MakesPlaced o at deletes result name qs body) (head_rule context o true deletes result name qs) code _
      (held_always (Unit {0}) (head_rule context o true deletes result name qs) tt) (stmts_keep program deletes context (type_option context result) false start body)
      (λ u b h k. held_ruled (MakesPlaced o at deletes result name qs body) at (failing (is_struct_option (type_option context result)) Mistyped) (record { globals = []; functions = made_function context at deletes result qs (behind_body context own qs body) b ∷ [] }) (λ e. (b, refl, k)))

  -- a function beside what makes it
  beside : (before rest : List p.Function) (is : List t.Item) (at : Spot) (deletes : Bool) (result : Option t.TypeName) (name : Name) (qs : List t.Param) (body : t.Stmts) (end : Here) (b : p.Stmts) →
      (rule.stmts program.functions deletes body b ≡ [] → KeepAll program deletes b) →
      program.functions ≡ before ++ made_function context at deletes result qs end b ∷ rest → rule.items program.functions (t.function at deletes result name qs (Some body) ∷ is) (length before) ≡ [] →
      IsInPlace (made_function context at deletes result qs end b) × (rule.items program.functions is (suc (length before)) ≡ [])
  beside before rest is at deletes result name qs body end b keeps e h =
      let f = made_function context at deletes result qs end b in
      let there : slice_get program.functions (length before) ≡ Some f = subst (λ x. slice_get x (length before) ≡ Some f) (sym e) (at_end before rest f) in
      let two = append_none (rule.item program.functions (t.function at deletes result name qs (Some body)) (length before)) (rule.items program.functions is (suc (length before))) h in
      let mine : rule.function program.functions deletes at result qs (Some body) (Some f) ≡ [] = subst (λ x. rule.function program.functions deletes at result qs (Some body) x ≡ []) there two.0 in
      let whole = own_none (rule.params qs ++ rule.inner program.functions deletes (Some body) (Some f)) (rule.result at result) mine in
      let code = append_none (rule.params qs) (rule.inner program.functions deletes (Some body) (Some f)) whole.0 in
      (keeps code.1, two.1)

  one_in_place : (is : List t.Item) (o : Outside) (at : Spot) (deletes : Bool) (result : Option t.TypeName) (name : Name) (qs : List t.Param) (body : t.Stmts) (a b : Made) → MakesPlaced o at deletes result name qs body a → AreInPlace is b → AreInPlace (t.function at deletes result name qs (Some body) ∷ is) (made_both a b)
  one_in_place is o at deletes result name qs body a b m h before e k =
      let end = behind_body context (with_function context o deletes result name qs) qs body in
      let f = made_function context at deletes result qs end m.0 in
      let all : program.functions ≡ before ++ f ∷ b.functions = e ∙ ap (λ x. before ++ (x ++ b.functions)) m.1 in
      let both = beside before b.functions is at deletes result name qs body end m.0 m.2 all k in
      let count : suc (length before) ≡ length (before ++ f ∷ []) = omega (arith, length-append before (f ∷ [])) in
      let rest = h (before ++ f ∷ []) (all ∙ sym (append_assoc before (f ∷ []) b.functions)) (subst (λ n. rule.items program.functions is n ≡ []) count both.1) in
      subst (λ x. AllInPlace (x ++ b.functions)) (sym m.1) (both.0, rest)

  pub functions_in_place : (is : List t.Item) (o : Outside) → Held (AreInPlace is) (items context o is)
  functions_in_place [] o = λ before e h. tt
  functions_in_place (t.struct at name fields ∷ is) o =
      let i = t.struct at name fields in
      held_parts (AddsNone context) (AreInPlace is) (AreInPlace (i ∷ is)) (item context o i) (items context (behind_item context o i) is) _ (struct_adds context o at name fields) (functions_in_place is (behind_item context o i)) (λ a b e h. without_one is a b e h)
  functions_in_place (t.global at n name count c ∷ is) o =
      let i = t.global at n name count c in
      held_front (AreInPlace (i ∷ is)) (before_globals context o.structs (i ∷ is)) _ (held_parts (AddsNone context) (AreInPlace is) (AreInPlace (i ∷ is)) (item context o i) (items context (behind_item context o i) is) _ (global_adds context o at n name count c) (functions_in_place is (behind_item context o i)) (λ a b e h. without_one is a b e h))
  functions_in_place (t.function at deletes result name qs None ∷ is) o =
      let i = t.function at deletes result name qs None in
      held_parts (AddsNone context) (AreInPlace is) (AreInPlace (i ∷ is)) (item context o i) (items context (behind_item context o i) is) _ (prototype_adds context o at deletes result name qs) (functions_in_place is (behind_item context o i))
      (λ a b e h. λ before x y. without_one is a b e h before x (append_none (rule.item program.functions i (length before)) (rule.items program.functions is (length before)) y).1)
  functions_in_place (t.function at deletes result name qs (Some body) ∷ is) o =
      let i = t.function at deletes result name qs (Some body) in
      held_parts (MakesPlaced o at deletes result name qs body) (AreInPlace is) (AreInPlace (i ∷ is)) (item context o i) (items context (behind_item context o i) is) _ (makes_placed o at deletes result name qs body) (functions_in_place is (behind_item context o i))
      (λ a b m h. one_in_place is o at deletes result name qs body a b m h)

-- results of functions name structs that are defined
module _ (context : Context) where
  abbrev pub AllResults : List p.Function → Type 0
  AllResults [] = Unit {0}
  AllResults (f ∷ fs) = IfSome f.result (IsVariable (structs_in context)) × AllResults fs

  pub result_at : (fs : List p.Function) → AllResults fs → (k : ℕ) (f : p.Function) → slice_get fs k ≡ Some f → IfSome f.result (IsVariable (structs_in context))
  result_at [] h k f e = absurd cc
  result_at (g ∷ fs) h zero f e = let same : g ≡ f = some_is g f e in subst (λ x. IfSome x.result (IsVariable (structs_in context))) same h.0
  result_at (g ∷ fs) h (suc k) f e = result_at fs h.1 k f e

  abbrev pub ResultsHold : Made → Type 0
  ResultsHold m = AllResults m.functions

  append_results : (a b : List p.Function) → AllResults a → AllResults b → AllResults (a ++ b)
  append_results [] b h k = k
  append_results (f ∷ a) b h k = (h.0, append_results a b h.1 k)

  definition_result : (o : Outside) (at : Spot) (deletes : Bool) (result : Option t.TypeName) (name : Name) (qs : List t.Param) (body : t.Stmts) → Held ResultsHold (item context o (t.function at deletes result name qs (Some body)))
  definition_result o at deletes result name qs body =
      let own = with_function context o deletes result name qs in
      let code = stmts context (type_option context result) false (with_params context (before_params own) qs) body in
      held_parts (λ (u : Unit {0}). HeadHolds context o deletes result name qs) (λ (b : p.Stmts). Unit {0}) ResultsHold (head_rule context o true deletes result name qs) code _
      (head_holds context o deletes result name qs) (held_always (Unit {0}) code tt)
      (λ u b k h. held_ruled ResultsHold at (failing (is_struct_option (type_option context result)) Mistyped) (record { globals = []; functions = made_function context at deletes result qs (behind_body context own qs body) b ∷ [] }) (λ e. (result_of_type context result k.0 (not_failing _ Mistyped e), tt)))

  pub results_hold : (is : List t.Item) (o : Outside) → Held ResultsHold (items context o is)
  results_hold [] o = tt
  results_hold (t.struct at name fields ∷ is) o =
      let i = t.struct at name fields in
      held_parts (AddsNone context) ResultsHold ResultsHold (item context o i) (items context (behind_item context o i) is) _ (struct_adds context o at name fields) (results_hold is (behind_item context o i)) (λ a b e h. subst (λ x. AllResults (x ++ b.functions)) (sym e) h)
  results_hold (t.global at n name count c ∷ is) o =
      let i = t.global at n name count c in
      held_front ResultsHold (before_globals context o.structs (i ∷ is)) _ (held_parts (AddsNone context) ResultsHold ResultsHold (item context o i) (items context (behind_item context o i) is) _ (global_adds context o at n name count c) (results_hold is (behind_item context o i)) (λ a b e h. subst (λ x. AllResults (x ++ b.functions)) (sym e) h))
  results_hold (t.function at deletes result name qs None ∷ is) o =
      let i = t.function at deletes result name qs None in
      held_parts (AddsNone context) ResultsHold ResultsHold (item context o i) (items context (behind_item context o i) is) _ (prototype_adds context o at deletes result name qs) (results_hold is (behind_item context o i)) (λ a b e h. subst (λ x. AllResults (x ++ b.functions)) (sym e) h)
  results_hold (t.function at deletes result name qs (Some body) ∷ is) o =
      let i = t.function at deletes result name qs (Some body) in
      held_parts ResultsHold ResultsHold ResultsHold (item context o i) (items context (behind_item context o i) is) _ (definition_result o at deletes result name qs body) (results_hold is (behind_item context o i)) (λ a b h k. append_results a.functions b.functions h k)
