-- The functions of a program stand at the numbers that calls go by, and `main` has its shape.
use Rattle.std.specs.Prelude.{◌≡◌, ◌⊎◌, ℕ, zero, suc, max, ◌+◌, ◌<◌, List, [], ◌∷◌, ◌++◌, Option, Some, None, Bool, true, false, ◌&&◌, ◌||◌, IsTrue, is_some, is_none, nat_lt, length, slice_get, if◌then◌else◌}
use Rattle.std.proofs.Common.{refl, sym, ap, ◌∙◌, subst, inl, inr, arith, append_assoc, length-append}
use Rattle.std.proofs.lemmas.List.{append-nil}
use Rattle.std.specs.Str.{bytes_eq}
use Rattle.rc_syntax.specs.declared.tree.Spot.{Spot}
use Rattle.rc_syntax.specs.declared.tree.Name.{Name}
use Rattle.rc_syntax.specs.declared.tree.Base.{Base}
use Rattle.rc_syntax.specs.declared.tree.Base.TheVariants as base
use Rattle.rc_syntax.specs.declared.tree.Note.{Note as WrittenNote}
use Rattle.rc_syntax.specs.Tree as t
use Rattle.rc_core.specs.Types.{int}
use Rattle.rc_core.specs.Programs as p
use Rattle.rc_core.specs.Typing.{parameters_of}
use Rattle.rc_deletes.specs.declared.fault.Refusal.TheVariants.{Mistyped, TooBig}
use Rattle.rc_deletes.specs.Judged.{failing}
use Rattle.rc_deletes.specs.Kinds.{place_of, written_type, base_type, starred}
use Rattle.rc_deletes.specs.Scopes.{Context, struct_names, Scope, Meaning, a_local, a_global, a_function, a_builtin, Signature, meaning_in}
use Rattle.rc_deletes.specs.Statements.{stmts}
use Rattle.rc_deletes.specs.Items.{with_new, with_functions, Outside, behind_definition, is_defined_before, type_option, signature_of, with_function, with_params, before_params, behind_body, behind_item, behind_items, is_empty, once, cell_type, cells_of_global, cells_of_struct, fields_rule, initial_of, value_or_zero, global_of, is_struct_option, head_rule, Made, nothing_made, made_both, item, items, main_name, before_globals}
use Rattle.rc_deletes.specs.Answer.{is_int, gives_int, takes_nothing, main_shape, main_fault}
use Rattle.rc_judgements.proofs.Held.{Held, Given, held_part, held_parts, held_ruled, held_always, held_after, held_front}
use Rattle.rc_judgements.proofs.WellTypedValues.{and_left, and_right}
use Rattle.rc_judgements.proofs.WellTypedExpressions.{place_within}
use Rattle.rc_judgements.proofs.WellTypedStructs.{no_less, some_is}
use Rattle.rc_judgements.proofs.WellTypedScopes.{StandsFor, Outer, kept_name, kept_item, kept_items, new_name}
use Rattle.rc_deletes.proofs.Naming.{same_name, place_more, place_new, name_at}
use Rattle.rc_deletes.proofs.Standing.{one_more}
use Rattle.rc_judgements.proofs.WellTypedFunctions.{Once, HeadHolds, head_holds, made_function, takes_is, more_functions}

before_not : (k n : ℕ) → k < n → nat_lt k n ≡ false → ⊥
before_not k n h q = omega (arith, no_less k n q)

module _ (context : Context) where
  -- what adds no function
  abbrev pub AddsNone : Made → Type 0
  AddsNone m = m.functions ≡ []

  pub struct_adds : (o : Outside) (at : Spot) (name : Name) (fields : List t.Field) → Held AddsNone (item context o (t.struct at name fields))
  struct_adds o at name fields =
      held_parts (λ (u : Unit {0}). Unit {0}) (λ (u : Unit {0}). Unit {0}) AddsNone (once name (is_defined_before o.structs (place_of (struct_names context) name.text))) (fields_rule context o.structs [] fields) _
      (held_always (Unit {0}) (once name (is_defined_before o.structs (place_of (struct_names context) name.text))) tt) (held_always (Unit {0}) (fields_rule context o.structs [] fields) tt)
      (λ u v h k. held_ruled AddsNone at (failing (nat_lt 4096 (cells_of_struct context (place_of (struct_names context) name.text))) TooBig) nothing_made (λ e. refl))

  pub global_adds : (o : Outside) (at : Spot) (ty : t.TypeName) (name : Name) (c : Option ℕ) (z : _) → Held AddsNone (item context o (t.global at ty name c z))
  global_adds o at ty name c z =
      let initial = initial_of (written_type context.types ty) c z in
      held_parts (λ (u : Unit {0}). Unit {0}) (λ (u : Unit {0}). Unit {0}) AddsNone (cell_type context o.structs ty) (once name (is_some (meaning_in o.names name.text))) _
      (held_always (Unit {0}) (cell_type context o.structs ty) tt) (held_always (Unit {0}) (once name (is_some (meaning_in o.names name.text))) tt)
      (λ u v h k. held_ruled AddsNone at (failing (is_none initial) Mistyped ++ failing (is_empty c || nat_lt 1048576 (o.cells + cells_of_global context ty c)) TooBig) (record { globals = global_of context ty c (value_or_zero initial) ∷ []; functions = [] }) (λ e. refl))

  pub prototype_adds : (o : Outside) (at : Spot) (deletes : Bool) (result : Option t.TypeName) (name : Name) (qs : List t.Param) → Held AddsNone (item context o (t.function at deletes result name qs None))
  prototype_adds o at deletes result name qs =
      held_part (λ (u : Unit {0}). Unit {0}) AddsNone (head_rule context o false deletes result name qs) _ (held_always (Unit {0}) (head_rule context o false deletes result name qs) tt)
      (λ u h. held_ruled AddsNone at (failing (is_struct_option (type_option context result)) Mistyped) nothing_made (λ e. refl))

  abbrev pub MakesOne : Outside → Spot → Bool → Option t.TypeName → Name → List t.Param → t.Stmts → Made → Type 0
  MakesOne o at deletes result name qs body m = (b : p.Stmts) × (m.functions ≡ made_function context at deletes result qs (behind_body context (with_function context o deletes result name qs) qs body) b ∷ [])

  pub definition_makes : (o : Outside) (at : Spot) (deletes : Bool) (result : Option t.TypeName) (name : Name) (qs : List t.Param) (body : t.Stmts) → Held (λ m. HeadHolds context o deletes result name qs × MakesOne o at deletes result name qs body m) (item context o (t.function at deletes result name qs (Some body)))
  definition_makes o at deletes result name qs body =
      let own = with_function context o deletes result name qs in
      let code = stmts context (type_option context result) false (with_params context (before_params own) qs) body in
      let P = λ (m : Made). HeadHolds context o deletes result name qs × MakesOne o at deletes result name qs body m in
      held_parts (λ (u : Unit {0}). HeadHolds context o deletes result name qs) (λ (b : p.Stmts). Unit {0}) P (head_rule context o true deletes result name qs) code _
      (head_holds context o deletes result name qs) (held_always (Unit {0}) code tt)
      (λ u b h k. held_ruled P at (failing (is_struct_option (type_option context result)) Mistyped) (record { globals = []; functions = made_function context at deletes result qs (behind_body context own qs body) b ∷ [] }) (λ e. (h, (b, refl))))

-- with the shape of `main` where it is wanted
module _ (context : Context) (gs : List p.Global) (last : Scope) (outer : Outer context gs last) (Wanted : Type 0) where
  -- calls of the name go by the function's own types
  abbrev pub HasSignature : List ℕ → p.Function → Type 0
  HasSignature n g = (k : Option ℕ) (s : Signature) → meaning_in last n ≡ Some (a_function k s) → (parameters_of g ≡ s.takes) × (g.result ≡ s.gives) × (g.deletes ≡ s.deletes)

  abbrev pub IsMain : List ℕ → p.Function → Type 0
  IsMain n g = Wanted → bytes_eq n main_name ≡ true → (g.parameters ≡ 0) × (g.result ≡ Some int)

  abbrev pub Paired : List (List ℕ) → List p.Function → Type 0
  Paired [] [] = Unit {0}
  Paired (n ∷ ns) (g ∷ fs) = HasSignature n g × IsMain n g × Paired ns fs
  Paired ns fs = ⊥

  pub paired_at : (ns : List (List ℕ)) (fs : List p.Function) → Paired ns fs → (k : ℕ) (n : List ℕ) → slice_get ns k ≡ Some n → (g : p.Function) × (slice_get fs k ≡ Some g) × HasSignature n g × IsMain n g
  paired_at [] [] h k n e = absurd cc
  paired_at (m ∷ ns) [] h k n e = absurd h
  paired_at [] (g ∷ fs) h k n e = absurd h
  paired_at (m ∷ ns) (g ∷ fs) h zero n e =
      let same : m ≡ n = some_is m n e in
      (g, refl, subst (λ x. HasSignature x g) same h.0, subst (λ x. IsMain x g) same h.1)
  paired_at (m ∷ ns) (g ∷ fs) h (suc k) n e = paired_at ns fs h.2 k n e

  abbrev MainIsSeen : List (List ℕ) → List t.Item → Type 0
  MainIsSeen ns is = (main_fault is ≡ None) ⊎ ((j : ℕ) × (place_of ns main_name ≡ Some j))

  abbrev pub MainSeen : List (List ℕ) → List t.Item → Type 0
  MainSeen ns is = Wanted → MainIsSeen ns is

  abbrev pub Complete : List (List ℕ) → Made → Type 0
  Complete ns m = (rest : List (List ℕ)) × (context.functions ≡ ns ++ rest) × Paired rest m.functions × (Wanted → (j : ℕ) × (place_of context.functions main_name ≡ Some j))

  -- every name that was defined has a meaning
  abbrev pub AreSeen : List (List ℕ) → Scope → Type 0
  AreSeen ns names = (j : ℕ) (n : List ℕ) → slice_get ns j ≡ Some n → is_some (meaning_in names n) ≡ true

  seen_item : (o : Outside) (i : t.Item) (n : List ℕ) → is_some (meaning_in o.names n) ≡ true → is_some (meaning_in (behind_item context o i).names n) ≡ true
  seen_item o i n h = go (meaning_in o.names n) refl h where
    go : (m : Option Meaning) → meaning_in o.names n ≡ m → is_some m ≡ true → is_some (meaning_in (behind_item context o i).names n) ≡ true
    go (Some m) e h = ap is_some (kept_item context o i n m e)
    go None e h = absurd cc

  has_meaning : (o : Outside) (deletes : Bool) (result : Option t.TypeName) (name : Name) (qs : List t.Param) → is_some (meaning_in (with_function context o deletes result name qs).names name.text) ≡ true
  has_meaning o deletes result name qs = go (meaning_in o.names name.text) refl where
    go : (m : Option Meaning) → meaning_in o.names name.text ≡ m → is_some (meaning_in (with_function context o deletes result name qs).names name.text) ≡ true
    go (Some m) e = ap is_some (kept_name o.names name.text name.text _ m e)
    go None e = ap is_some (new_name o.names name.text _ e)

  given_is : (n : List ℕ) (m : Meaning) → meaning_in last n ≡ Some m → StandsFor context gs n m
  given_is n m e = subst (Given (StandsFor context gs n)) e (outer n)

  -- one definition
  module _ (ns : List (List ℕ)) (is : List t.Item) (o : Outside) (count : o.functions ≡ length ns) (at : Spot) (deletes : Bool) (result : Option t.TypeName) (name : Name) (qs : List t.Param) (body : t.Stmts)
      (same : with_functions (with_new ns name.text) is ≡ context.functions) (seen : AreSeen ns o.names)
      (kept : (n : List ℕ) (m : Meaning) → meaning_in (with_function context o deletes result name qs).names n ≡ Some m → meaning_in last n ≡ Some m)
      (holds : HeadHolds context o deletes result name qs) where
    before : (n : List ℕ) (m : Meaning) → meaning_in o.names n ≡ Some m → meaning_in last n ≡ Some m
    before n m e = kept n m (kept_name o.names name.text n _ m e)

    all_is : (rest : List (List ℕ)) × (context.functions ≡ ns ++ rest)
    all_is = let m = more_functions ns (t.function at deletes result name qs (Some body) ∷ is) in (m.0, sym same ∙ m.1)

    new_by : (m : Option Meaning) (j : ℕ) → meaning_in o.names name.text ≡ m → Once context o.functions m (signature_of context deletes result qs) → place_of ns name.text ≡ Some j → ⊥
    new_by None j e q h = none (ap is_some e) (seen j name.text (name_at ns name.text j h)) where
      none : is_some (meaning_in o.names name.text) ≡ false → is_some (meaning_in o.names name.text) ≡ true → ⊥
      none a b = cc
    new_by (Some (a_local x u)) j e q h = given_is name.text (a_local x u) (before name.text (a_local x u) e)
    new_by (Some (a_global g u c)) j e q h = q
    new_by (Some (a_builtin b)) j e q h = q
    new_by (Some (a_function k first)) j e q h =
        let placed : k ≡ place_of context.functions name.text = given_is name.text (a_function k first) (before name.text (a_function k first) e) in
        let there : place_of context.functions name.text ≡ Some j = ap (λ x. place_of x name.text) all_is.1 ∙ place_more ns all_is.0 name.text j h in
        let twice : nat_lt j o.functions ≡ false = subst (λ x. is_defined_before o.functions x ≡ false) (placed ∙ there) q.0 in
        before_not j o.functions (subst (λ x. j < x) (sym count) (place_within ns name.text j h)) twice

    is_new : place_of ns name.text ≡ None
    is_new = go (place_of ns name.text) refl where
      go : (m : Option ℕ) → place_of ns name.text ≡ m → place_of ns name.text ≡ None
      go None e = e
      go (Some j) e = absurd (new_by (meaning_in o.names name.text) j refl holds.1 e)

    pub same_next : with_functions (ns ++ name.text ∷ []) is ≡ context.functions
    same_next = subst (λ b. with_functions (if b then ns else ns ++ name.text ∷ []) is ≡ context.functions) (ap is_some is_new) same

    rest_is : (rest : List (List ℕ)) × (context.functions ≡ ns ++ name.text ∷ rest)
    rest_is = let m = more_functions (ns ++ name.text ∷ []) is in (m.0, sym same_next ∙ m.1 ∙ append_assoc ns (name.text ∷ []) m.0)

    its_place : place_of context.functions name.text ≡ Some (length ns)
    its_place = ap (λ x. place_of x name.text) rest_is.1 ∙ place_new ns rest_is.0 name.text is_new

    pub count_next : behind_definition o.functions (place_of context.functions name.text) ≡ length (ns ++ name.text ∷ [])
    count_next = rw its_place (let e = length-append ns (name.text ∷ []) in let f : max o.functions (suc (length ns)) ≡ length (ns ++ name.text ∷ []) = omega (arith, count, e) in f)

    pub seen_next : AreSeen (ns ++ name.text ∷ []) (with_function context o deletes result name qs).names
    seen_next j n h = go (one_more ns name.text j n h) where
      go : (slice_get ns j ≡ Some n) ⊎ (n ≡ name.text) → is_some (meaning_in (with_function context o deletes result name qs).names n) ≡ true
      go (inl e) = seen_item o (t.function at deletes result name qs None) n (seen j n e)
      go (inr e) = subst (λ x. is_some (meaning_in (with_function context o deletes result name qs).names x) ≡ true) (sym e) (has_meaning o deletes result name qs)

    pub signed : (b : p.Stmts) → HasSignature name.text (made_function context at deletes result qs (behind_body context (with_function context o deletes result name qs) qs body) b)
    signed b k s e = go (meaning_in o.names name.text) refl holds.1 where
      mine : Signature
      mine = signature_of context deletes result qs

      types : parameters_of (made_function context at deletes result qs (behind_body context (with_function context o deletes result name qs) qs body) b) ≡ (signature_of context deletes result qs).takes
      types = takes_is context at deletes result name qs (with_function context o deletes result name qs) body b

      differ : (a c : Meaning) → meaning_in last name.text ≡ Some a → meaning_in last name.text ≡ Some c → a ≡ c
      differ a c h q = some_is a c (sym h ∙ q)

      function_is : (k l : Option ℕ) (s r : Signature) → a_function k s ≡ a_function l r → s ≡ r
      function_is k l s r h = cc

      go : (m : Option Meaning) → meaning_in o.names name.text ≡ m → Once context o.functions m (signature_of context deletes result qs) → (parameters_of (made_function context at deletes result qs (behind_body context (with_function context o deletes result name qs) qs body) b) ≡ s.takes) × (type_option context result ≡ s.gives) × (deletes ≡ s.deletes)
      go None q h =
          let r : signature_of context deletes result qs ≡ s = function_is (place_of context.functions name.text) k (signature_of context deletes result qs) s (differ _ (a_function k s) (kept name.text _ (new_name o.names name.text _ q)) e) in
          (types ∙ ap (λ x. x.takes) r, ap (λ x. x.gives) r, ap (λ x. x.deletes) r)
      go (Some (a_local x u)) q h = absurd (given_is name.text (a_local x u) (before name.text (a_local x u) q))
      go (Some (a_global g u c)) q h = absurd h
      go (Some (a_builtin c)) q h = absurd h
      go (Some (a_function l first)) q h =
          let r : first ≡ s = function_is l k first s (differ (a_function l first) (a_function k s) (before name.text (a_function l first) q) e) in
          (types ∙ sym h.1 ∙ ap (λ x. x.takes) r, sym h.2 ∙ ap (λ x. x.gives) r, sym h.3 ∙ ap (λ x. x.deletes) r)

    abbrev Elsewhere : Bool → Type 0
    Elsewhere b = (if b then main_shape at (takes_nothing qs && gives_int result) else main_fault is) ≡ None

    nothing_taken : (qs : List t.Param) → takes_nothing qs ≡ true → length qs ≡ 0
    nothing_taken [] h = refl
    nothing_taken (q ∷ qs) h = absurd cc

    int_given : (r : Option t.TypeName) → gives_int r ≡ true → type_option context r ≡ Some int
    int_given None h = absurd cc
    int_given (Some n) h = go n.base n.stars (and_left (is_int n.base) _ h) (and_right (is_int n.base) _ h) where
      go : (b : Base) (stars : List WrittenNote) → IsTrue (is_int b) → IsTrue (elim stars [ [] ↦ true | note ∷ notes ↦ false ]) → Some (starred (base_type context.types b) stars) ≡ Some int
      go (base.Int at) [] a c = refl
      go b (n ∷ notes) a c = absurd cc
      go (base.Unsigned at) [] a c = absurd cc
      go (base.Char at) [] a c = absurd cc
      go (base.Region at) [] a c = absurd cc
      go (base.Struct at name) [] a c = absurd cc

    shape_fits : (fits : Bool) → main_shape at fits ≡ None → IsTrue fits
    shape_fits true h = refl
    shape_fits false h = absurd cc

    shaped : (b : p.Stmts) → main_shape at (takes_nothing qs && gives_int result) ≡ None → (length qs ≡ 0) × (type_option context result ≡ Some int)
    shaped b h =
        let q = shape_fits (takes_nothing qs && gives_int result) h in
        (nothing_taken qs (and_left (takes_nothing qs) _ q), int_given result (and_right (takes_nothing qs) _ q))

    main_by : (c : Bool) (b : p.Stmts) → bytes_eq name.text main_name ≡ c → Elsewhere c → IsMain name.text (made_function context at deletes result qs (behind_body context (with_function context o deletes result name qs) qs body) b)
    main_by true b e h = λ w q. shaped b h
    main_by false b e h = λ w q. absurd cc

    main_seen : (b : p.Stmts) → MainIsSeen ns (t.function at deletes result name qs (Some body) ∷ is) → IsMain name.text (made_function context at deletes result qs (behind_body context (with_function context o deletes result name qs) qs body) b)
    main_seen b (inl h) = main_by (bytes_eq name.text main_name) b refl h
    main_seen b (inr j) = λ w q. absurd (clash (subst (λ x. place_of ns x ≡ Some j.0) (sym (same_name name.text main_name q)) j.1)) where
      clash : place_of ns name.text ≡ Some j.0 → ⊥
      clash h = none is_new h where
        none : place_of ns name.text ≡ None → place_of ns name.text ≡ Some j.0 → ⊥
        none a c = cc

    pub main_is : (b : p.Stmts) → MainSeen ns (t.function at deletes result name qs (Some body) ∷ is) → IsMain name.text (made_function context at deletes result qs (behind_body context (with_function context o deletes result name qs) qs body) b)
    main_is b h = λ w. main_seen b (h w) w

    main_next_by : (c : Bool) → bytes_eq name.text main_name ≡ c → Elsewhere c → MainIsSeen (ns ++ name.text ∷ []) is
    main_next_by true e h = inr (length ns, subst (λ x. place_of (ns ++ name.text ∷ []) x ≡ Some (length ns)) (same_name name.text main_name e) (place_new ns [] name.text is_new))
    main_next_by false e h = inl h

    next_seen : MainIsSeen ns (t.function at deletes result name qs (Some body) ∷ is) → MainIsSeen (ns ++ name.text ∷ []) is
    next_seen (inl h) = main_next_by (bytes_eq name.text main_name) refl h
    next_seen (inr j) = inr (j.0, place_more ns (name.text ∷ []) main_name j.0 j.1)

    pub main_next : MainSeen ns (t.function at deletes result name qs (Some body) ∷ is) → MainSeen (ns ++ name.text ∷ []) is
    main_next h = λ w. next_seen (h w)

  without : (ns : List (List ℕ)) (a b : Made) → a.functions ≡ [] → Complete ns b → Complete ns (made_both a b)
  without ns a b e h = (h.0, h.1, subst (λ x. Paired h.0 (x ++ b.functions)) (sym e) h.2, h.3)

  pub complete : (is : List t.Item) (ns : List (List ℕ)) (o : Outside) → o.functions ≡ length ns → with_functions ns is ≡ context.functions → AreSeen ns o.names → ((n : List ℕ) (m : Meaning) → meaning_in (behind_items context o is).names n ≡ Some m → meaning_in last n ≡ Some m) → MainSeen ns is → Held (Complete ns) (items context o is)
  complete [] ns o count same seen kept main = ([], sym same ∙ sym (append-nil ns), tt, λ w. found (main w)) where
    found : MainIsSeen ns [] → (j : ℕ) × (place_of context.functions main_name ≡ Some j)
    found (inl h) = absurd cc
    found (inr j) = (j.0, subst (λ x. place_of x main_name ≡ Some j.0) same j.1)
  complete (t.struct at name fields ∷ is) ns o count same seen kept main =
      let i = t.struct at name fields in
      held_parts (AddsNone context) (Complete ns) (Complete ns) (item context o i) (items context (behind_item context o i) is) _ (struct_adds context o at name fields)
      (complete is ns (behind_item context o i) count same seen kept main) (λ a b e h. without ns a b e h)
  complete (t.global at ty name c z ∷ is) ns o count same seen kept main =
      let i = t.global at ty name c z in
      held_front (Complete ns) (before_globals context o.structs (i ∷ is)) _ (held_parts (AddsNone context) (Complete ns) (Complete ns) (item context o i) (items context (behind_item context o i) is) _ (global_adds context o at ty name c z)
      (complete is ns (behind_item context o i) count same (λ j n h. seen_item o i n (seen j n h)) kept main) (λ a b e h. without ns a b e h))
  complete (t.function at deletes result name qs None ∷ is) ns o count same seen kept main =
      let i = t.function at deletes result name qs None in
      held_parts (AddsNone context) (Complete ns) (Complete ns) (item context o i) (items context (behind_item context o i) is) _ (prototype_adds context o at deletes result name qs)
      (complete is ns (behind_item context o i) count same (λ j n h. seen_item o i n (seen j n h)) kept main) (λ a b e h. without ns a b e h)
  complete (t.function at deletes result name qs (Some body) ∷ is) ns o count same seen kept main =
      let i = t.function at deletes result name qs (Some body) in
      let next = behind_item context o i in
      let on : (n : List ℕ) (m : Meaning) → meaning_in (with_function context o deletes result name qs).names n ≡ Some m → meaning_in last n ≡ Some m = λ n m e. kept n m (kept_items context is next n m e) in
      held_after (HeadHolds context o deletes result name qs) (MakesOne context o at deletes result name qs body) (Complete (ns ++ name.text ∷ [])) (Complete ns) (item context o i) (items context next is) _
      (definition_makes context o at deletes result name qs body)
      (λ k. complete is (ns ++ name.text ∷ []) next (count_next ns is o count at deletes result name qs body same seen on k) (same_next ns is o count at deletes result name qs body same seen on k) (seen_next ns is o count at deletes result name qs body same seen on k) kept (main_next ns is o count at deletes result name qs body same seen on k main))
      (λ a b k m h.
      let f = made_function context at deletes result qs (behind_body context (with_function context o deletes result name qs) qs body) m.0 in
      let pair : Paired (name.text ∷ h.0) (f ∷ b.functions) = (signed ns is o count at deletes result name qs body same seen on k m.0, main_is ns is o count at deletes result name qs body same seen on k m.0 main, h.2) in
      (name.text ∷ h.0, h.1 ∙ append_assoc ns (name.text ∷ []) h.0, subst (λ x. Paired (name.text ∷ h.0) (x ++ b.functions)) (sym m.1) pair, h.3))
