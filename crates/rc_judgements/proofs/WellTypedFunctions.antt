-- Functions stand at their numbers with the signatures that calls go by, and `main` has its shape.
use Rattle.std.specs.Prelude.{◌≡◌, ℕ, zero, suc, ◌≤◌, List, [], ◌∷◌, ◌++◌, Option, Some, None, Bool, true, false, not, ◌&&◌, ◌||◌, IsTrue, is_none, length, map, take, slice_get, if◌then◌else◌}
use Rattle.std.proofs.Common.{refl, sym, ap, ◌∙◌, subst, arith, append_assoc}
use Rattle.std.proofs.lemmas.List.{append-nil, length-map}
use Rattle.rc_syntax.specs.declared.tree.Spot.{Spot}
use Rattle.rc_syntax.specs.declared.tree.Name.{Name}
use Rattle.rc_syntax.specs.Tree as t
use Rattle.rc_core.specs.Types.{Ty}
use Rattle.rc_core.specs.Programs as p
use Rattle.rc_core.specs.Typing.{is_struct, parameters_of, IsDefined}
use Rattle.rc_core.specs.WellTyped.{IsVariable}
use Rattle.rc_deletes.specs.declared.fault.Refusal.TheVariants.{Mistyped}
use Rattle.rc_deletes.specs.Judged.{both, failing}
use Rattle.rc_deletes.specs.Kinds.{same_type, written_type, base_type}
use Rattle.rc_deletes.specs.Scopes.{Context, structs_in, Meaning, a_local, a_global, a_function, a_builtin, Signature, meaning_in}
use Rattle.rc_deletes.specs.Expressions.{base_rule}
use Rattle.rc_deletes.specs.Statements.{Here, with_local}
use Rattle.rc_deletes.specs.Items.{is_among, with_functions, Outside, is_defined_before, type_option, signature_of, with_function, with_param, with_params, before_params, behind_body, same_result, same_takes, same_bool, agrees, agrees_with, declared_again, function_name, param_name, param_rule, params_rule, result_rule, head_rule}
use Rattle.rc_judgements.proofs.Held.{Held, held_parts, held_both, held_ruled, held_always, held_then, held_more, not_failing}
use Rattle.rc_judgements.proofs.WellTypedValues.{same_type_is, and_left, and_right}
use Rattle.rc_judgements.proofs.WellTypedExpressions.{base_fits, starred_defined}
use Rattle.rc_judgements.proofs.WellTypedLocals.{Variables, with_variable}
use Rattle.rc_judgements.proofs.WellTypedStructs.{some_is}
use Rattle.rc_deletes.proofs.Standing.{Prefix, on_stmts}

same_takes_is : (ts us : List Ty) → IsTrue (same_takes ts us) → ts ≡ us
same_takes_is [] [] h = refl
same_takes_is (t ∷ ts) (u ∷ us) h =
    let e = same_type_is t u (and_left (same_type t u) (same_takes ts us) h) in
    let f = same_takes_is ts us (and_right (same_type t u) (same_takes ts us) h) in
    cc
same_takes_is [] (u ∷ us) h = absurd cc
same_takes_is (t ∷ ts) [] h = absurd cc

same_result_is : (a b : Option Ty) → IsTrue (same_result a b) → a ≡ b
same_result_is None None h = refl
same_result_is (Some t) (Some u) h = ap Some (same_type_is t u h)
same_result_is None (Some u) h = absurd cc
same_result_is (Some t) None h = absurd cc

same_bool_is : (a b : Bool) → IsTrue (same_bool a b) → a ≡ b
same_bool_is true true h = refl
same_bool_is false false h = refl
same_bool_is true false h = absurd cc
same_bool_is false true h = absurd cc

agrees_is : (a b : Signature) → IsTrue (agrees a b) → (a.takes ≡ b.takes) × (a.gives ≡ b.gives) × (a.deletes ≡ b.deletes)
agrees_is a b h = (
  same_takes_is a.takes b.takes (and_left (same_takes a.takes b.takes) _ h),
  same_result_is a.gives b.gives (and_left (same_result a.gives b.gives) _ (and_right (same_takes a.takes b.takes) _ h)),
  same_bool_is a.deletes b.deletes (and_right (same_result a.gives b.gives) _ (and_right (same_takes a.takes b.takes) _ h)),
)

or_left : (a b : Bool) → (a || b) ≡ false → a ≡ false
or_left true b h = absurd cc
or_left false b h = refl

pub not_true : (a : Bool) → a ≡ false → IsTrue (not a)
not_true a h = rw h refl

-- a list whose elements another list begins with
pub take_prefix : (a b : List Ty) → Prefix a b → take (length a) b ≡ a
take_prefix [] b h = refl
take_prefix (x ∷ a) [] h = absurd (none (h zero x refl)) where
  none : slice_get {X = Ty} [] zero ≡ Some x → ⊥
  none e = cc
take_prefix (x ∷ a) (y ∷ b) h =
    let e : y ≡ x = some_is y x (h zero x refl) in
    let f = take_prefix a b (λ k u q. h (suc k) u q) in
    cc

pub prefix_length : (a b : List Ty) → Prefix a b → length a ≤ length b
prefix_length [] b h = omega arith
prefix_length (x ∷ a) [] h = absurd (none (h zero x refl)) where
  none : slice_get {X = Ty} [] zero ≡ Some x → ⊥
  none e = cc
prefix_length (x ∷ a) (y ∷ b) h = omega (arith, prefix_length a b (λ k u q. h (suc k) u q))

-- parameters
abbrev pub param_of : Here → Ty → Option Name → Here
param_of here u None = record here { locals = here.locals ++ u ∷ [] }
param_of here u (Some name) = with_local here u name.text

module _ (context : Context) where
  abbrev pub param_type : t.Param → Ty
  param_type q = written_type context.types q.type_name

  pub param_is : (here : Here) (q : t.Param) → with_param context here q ≡ param_of here (written_type context.types q.type_name) q.name
  param_is here q = refl

  param_locals : (here : Here) (u : Ty) (o : Option Name) → (param_of here u o).locals ≡ here.locals ++ u ∷ []
  param_locals here u None = refl
  param_locals here u (Some name) = refl

  pub param_strings : (here : Here) (u : Ty) (o : Option Name) → (param_of here u o).strings ≡ here.strings
  param_strings here u None = refl
  param_strings here u (Some name) = refl

  pub params_locals : (here : Here) (qs : List t.Param) → (with_params context here qs).locals ≡ here.locals ++ map (λ q. written_type context.types q.type_name) qs
  params_locals here [] = sym (append-nil here.locals)
  params_locals here (q ∷ qs) = params_locals (with_param context here q) qs ∙ ap (λ x. x ++ map (λ q. written_type context.types q.type_name) qs) (param_locals here (param_type q) q.name) ∙ append_assoc here.locals _ _

  pub params_strings : (here : Here) (qs : List t.Param) → (with_params context here qs).strings ≡ here.strings
  params_strings here [] = refl
  params_strings here (q ∷ qs) = params_strings (with_param context here q) qs ∙ param_strings here (param_type q) q.name

  param_variables : (here : Here) (u : Ty) (o : Option Name) → Variables context here → IsVariable (structs_in context) u → Variables context (param_of here u o)
  param_variables here u None h k = with_variable context here u [] h k
  param_variables here u (Some name) h k = with_variable context here u name.text h k

  param_variable : (has_body : Bool) (here : Here) (q : t.Param) → Held (λ (u : Unit {0}). IsVariable (structs_in context) (written_type context.types q.type_name)) (param_rule context has_body here q)
  param_variable has_body here q =
      held_parts (λ (u : Unit {0}). IsDefined (structs_in context) (base_type context.types q.type_name.base)) (λ (u : Unit {0}). Unit {0}) (λ (u : Unit {0}). IsVariable (structs_in context) (written_type context.types q.type_name)) (base_rule context q.type_name.base) (param_name here q.name) _
      (base_fits context q.type_name.base) (held_always (Unit {0}) (param_name here q.name) tt)
      (λ u v h k. held_ruled (λ (u : Unit {0}). IsVariable (structs_in context) (written_type context.types q.type_name)) q.spot (failing (is_struct (param_type q) || (has_body && is_none q.name)) Mistyped) tt
      (λ e. (starred_defined (structs_in context) (base_type context.types q.type_name.base) q.type_name.stars h, not_true (is_struct (param_type q)) (or_left (is_struct (param_type q)) (has_body && is_none q.name) (not_failing _ Mistyped e)))))

  pub params_variables : (has_body : Bool) (here : Here) (qs : List t.Param) → Variables context here → Held (λ (u : Unit {0}). Variables context (with_params context here qs)) (params_rule context has_body here qs)
  params_variables has_body here [] h = h
  params_variables has_body here (q ∷ qs) h =
      held_then (IsVariable (structs_in context) (param_type q)) (λ (u : Unit {0}). Variables context (with_params context here (q ∷ qs))) (λ (u : Unit {0}). Variables context (with_params context here (q ∷ qs))) (param_rule context has_body here q) (params_rule context has_body (with_param context here q) qs) _
      (param_variable has_body here q) (λ k. params_variables has_body (with_param context here q) qs (param_variables here (param_type q) q.name h k)) (λ u v k r. r)

  abbrev pub OptionDefined : Option t.TypeName → Type 0
  OptionDefined None = Unit {0}
  OptionDefined (Some n) = IsDefined (structs_in context) (written_type context.types n)

  result_defined : (r : Option t.TypeName) → Held (λ (u : Unit {0}). OptionDefined r) (result_rule context r)
  result_defined None = tt
  result_defined (Some n) = held_more (λ (u : Unit {0}). IsDefined (structs_in context) (base_type context.types n.base)) (λ (u : Unit {0}). OptionDefined (Some n)) (base_rule context n.base) (base_fits context n.base) (λ u k. starred_defined (structs_in context) (base_type context.types n.base) n.stars k)

  -- what a definition's name is where it is nowhere twice
  abbrev pub Once : ℕ → Option Meaning → Signature → Type 0
  Once count None s = Unit {0}
  Once count (Some (a_local x u)) s = Unit {0}
  Once count (Some (a_global g u c)) s = ⊥
  Once count (Some (a_builtin b)) s = ⊥
  Once count (Some (a_function k first)) s = (is_defined_before count k ≡ false) × (first.takes ≡ s.takes) × (first.gives ≡ s.gives) × (first.deletes ≡ s.deletes)

  again_once : (name : Name) (count : ℕ) (k : Option ℕ) (first s : Signature) (twice same : Bool) → is_defined_before count k ≡ twice → agrees first s ≡ same → Held (λ (u : Unit {0}). Once count (Some (a_function k first)) s) (declared_again name twice same)
  again_once name count k first s true same e q = tt
  again_once name count k first s false false e q = tt
  again_once name count k first s false true e q = let a = agrees_is first s q in (e, a.0, a.1, a.2)

  builtin_once : (name : Name) (same : Bool) → Held (λ (u : Unit {0}). ⊥) (declared_again name true same)
  builtin_once name same = tt

  name_once : (name : Name) (count : ℕ) (m : Option Meaning) (s : Signature) → Held (λ (u : Unit {0}). Once count m s) (function_name name true count m s)
  name_once name count None s = tt
  name_once name count (Some (a_local x u)) s = tt
  name_once name count (Some (a_global g u c)) s = tt
  name_once name count (Some (a_builtin b)) s = builtin_once name (agrees_with b s)
  name_once name count (Some (a_function k first)) s = again_once name count k first s (is_defined_before count k) (agrees first s) refl refl

  abbrev pub HeadHolds : Outside → Bool → Option t.TypeName → Name → List t.Param → Type 0
  HeadHolds o deletes result name qs =
      OptionDefined result × Once o.functions (meaning_in o.names name.text) (signature_of context deletes result qs) × Variables context (with_params context (before_params (with_function context o deletes result name qs)) qs)

  no_variables : (o : Outside) → Variables context (before_params o)
  no_variables o x u h = absurd (none x h) where
    none : (x : ℕ) → slice_get {X = Ty} [] x ≡ Some u → ⊥
    none x e = cc

  pub head_holds : (o : Outside) (deletes : Bool) (result : Option t.TypeName) (name : Name) (qs : List t.Param) → Held (λ (u : Unit {0}). HeadHolds o deletes result name qs) (head_rule context o true deletes result name qs)
  head_holds o deletes result name qs =
      let s = signature_of context deletes result qs in
      let own = with_function context o deletes result name qs in
      held_parts (λ (u : Unit {0}). OptionDefined result) (λ (v : Unit {0} × Unit {0}). Once o.functions (meaning_in o.names name.text) s × Variables context (with_params context (before_params own) qs)) (λ (u : Unit {0}). HeadHolds o deletes result name qs)
      (result_rule context result) (both (function_name name true o.functions (meaning_in o.names name.text) s) (params_rule context true (before_params own) qs)) _
      (result_defined result)
      (held_both (λ (u : Unit {0}). Once o.functions (meaning_in o.names name.text) s) (λ (u : Unit {0}). Variables context (with_params context (before_params own) qs)) (function_name name true o.functions (meaning_in o.names name.text) s) (params_rule context true (before_params own) qs) (name_once name o.functions (meaning_in o.names name.text) s) (params_variables true (before_params own) qs (no_variables own)))
      (λ u v h k. (h, k.0, k.1))

  -- the function that a definition makes
  abbrev pub made_function : Spot → Bool → Option t.TypeName → List t.Param → Here → p.Stmts → p.Function
  made_function at deletes result qs end body = record { parameters = length qs; locals = end.locals; result = type_option context result; deletes = deletes; line = at.line; body = p.block body }

  pub takes_is : (at : Spot) (deletes : Bool) (result : Option t.TypeName) (name : Name) (qs : List t.Param) (o : Outside) (body : t.Stmts) (b : p.Stmts) → parameters_of (made_function at deletes result qs (behind_body context o qs body) b) ≡ (signature_of context deletes result qs).takes
  takes_is at deletes result name qs o body b =
      let types = map (λ q. written_type context.types q.type_name) qs in
      let start = with_params context (before_params o) qs in
      let e : start.locals ≡ types = params_locals (before_params o) qs in
      let l : length types ≡ length qs = length-map qs _ in
      let pre : Prefix start.locals (behind_body context o qs body).locals = (on_stmts context start body).0 in
      let f : take (length types) (behind_body context o qs body).locals ≡ types = take_prefix types (behind_body context o qs body).locals (subst (λ x. Prefix x (behind_body context o qs body).locals) e pre) in
      ap (λ n. take n (behind_body context o qs body).locals) (sym l) ∙ f

or_new : (ns : List (List ℕ)) (n : List ℕ) (is : List t.Item) (b : Bool) → ((rest : List (List ℕ)) × (with_functions ns is ≡ ns ++ rest)) → ((rest : List (List ℕ)) × (with_functions (ns ++ n ∷ []) is ≡ (ns ++ n ∷ []) ++ rest)) → (rest : List (List ℕ)) × (with_functions (if b then ns else ns ++ n ∷ []) is ≡ ns ++ rest)
or_new ns n is true h k = h
or_new ns n is false h k = (n ∷ k.0, k.1 ∙ append_assoc ns (n ∷ []) k.0)

pub more_functions : (ns : List (List ℕ)) (is : List t.Item) → (rest : List (List ℕ)) × (with_functions ns is ≡ ns ++ rest)
more_functions ns [] = ([], sym (append-nil ns))
more_functions ns (t.struct at name fields ∷ is) = more_functions ns is
more_functions ns (t.global at n name count c ∷ is) = more_functions ns is
more_functions ns (t.function at deletes result name params None ∷ is) = more_functions ns is
more_functions ns (t.function at deletes result name params (Some body) ∷ is) = or_new ns name.text is (is_among ns name.text) (more_functions ns is) (more_functions (ns ++ name.text ∷ []) is)
