-- A parameter, and the rest of the parameters.
use Rattle.std.proofs.Common.{◌≡◌, ◌<◌, ◌≤◌, ◌+◌, ℕ, refl, ap, sym, ◌∙◌, subst, List, [], ◌∷◌, ◌++◌, append_assoc, length, drop, map, Option, Some, None, Bool, true, ◌&&◌, ◌||◌}
use Rattle.std.specs.Prelude.{get_or, is_none}
use Rattle.std.proofs.lemmas.List.{append-nil, map-append}
use Rattle.rc_syntax.specs.declared.tree.Spot.{Spot}
use Rattle.rc_syntax.specs.declared.tree.Name.{Name}
use Rattle.rc_syntax.specs.declared.tree.Param.{Param}
use Rattle.rc_syntax.specs.declared.tree.TypeName.{TypeName}
use Rattle.rc_syntax.specs.Shape as written
use Rattle.rc_syntax.specs.Tree as t
use Rattle.rc_core.specs.declared.ty.Ty.{Ty as CodeTy}
use Rattle.rc_core.specs.Types.{Ty}
use Rattle.rc_core.specs.Shapes.{ty_of}
use Rattle.rc_core.specs.Typing.{is_struct}
use Rattle.rc_deletes.specs.declared.fault.Refusal.TheVariants.{Mistyped}
use Rattle.rc_deletes.specs.Judged.{Judged, Holds, with_parts, ruled, failing}
use Rattle.rc_deletes.specs.Kinds.{written_type}
use Rattle.rc_deletes.specs.Scopes.{Context}
use Rattle.rc_deletes.specs.Statements.{Here}
use Rattle.rc_deletes.specs.Expressions.{base_rule}
use Rattle.rc_deletes.specs.Items.{param_name, param_rule, params_rule, with_param, with_params, type_option}
use Rattle.rc_typed_values.specs.declared.stop.Stop.{Stop}
use Rattle.rc_typed_values.specs.declared.stop.Stop.TheVariants.{Rule}
use Rattle.rc_typed_values.specs.Stops.{StopsAt}
use Rattle.rc_defined.specs.declared.context.Context.{Context as CodeContext}
use Rattle.rc_defined.specs.Contexts.{context_of}
use Rattle.rc_items.proofs.Ruled.{ruled_broken, unit_part}
use Rattle.rc_bodies.proofs.Kept.{Grown, grown_self, grown_on}
use Rattle.rc_defined.proofs.Walks.{front, none_left}
use Rattle.rc_defined.proofs.Stops.{left_stops, right_stops, both_stop}

abbrev pub takes : List (List ℕ) → List Param → List Ty
takes types qs = map (λ q. written_type types q.type_name) (map written.param_of qs)

module _ (types : List (List ℕ)) (qs : List Param) (i : ℕ) (before : List CodeTy) where
  pub taken_step : (q : Param) (ty : CodeTy) → i < length qs → q ≡ get_or qs i q → ty_of ty ≡ written_type types (written.type_of q.type_name) →
      map ty_of before ++ takes types (drop i qs) ≡ map ty_of (before ++ ty ∷ []) ++ takes types (drop (i + 1) qs)
  taken_step q ty l h e =
      let rest = takes types (drop (i + 1) qs) in
      ap (λ xs. map ty_of before ++ takes types xs) (front qs i q l h)
      ∙ ap (λ u. map ty_of before ++ u ∷ rest) (sym e)
      ∙ sym (append_assoc (map ty_of before) (ty_of ty ∷ []) rest)
      ∙ ap (λ xs. xs ++ rest) (sym (map-append ty_of before (ty ∷ [])))

  pub taken_end : length qs ≤ i → map ty_of before ++ takes types (drop i qs) ≡ map ty_of before
  taken_end l = ap (λ xs. map ty_of before ++ takes types xs) (none_left qs i l) ∙ append-nil (map ty_of before)

-- the rule of one parameter
module _ (context : Context) (has_body : Bool) (here : Here) (q : t.Param) (typed : base_rule context q.type_name.base ≡ Holds tt) where
  abbrev own : Unit {0} → Unit {0} → Judged (Unit {0})
  own u v = ruled q.spot (failing (is_struct (written_type context.types q.type_name) || (has_body && is_none q.name)) Mistyped) tt

  pub name_stops : (s : Stop) → StopsAt (param_name here q.name) s → StopsAt (param_rule context has_body here q) s
  name_stops s h = right_stops (base_rule context q.type_name.base) tt (param_name here q.name) own s typed h

  pub own_stops : (ty : Ty) (b : Bool) (s : Stop) → param_name here q.name ≡ Holds tt → ty ≡ written_type context.types q.type_name → b ≡ (is_struct ty || (has_body && is_none q.name)) → b ≡ true → s ≡ Rule (record { at = q.spot; refusal = Mistyped }) → StopsAt (param_rule context has_body here q) s
  own_stops ty b s named is e t r =
      subst (λ s. StopsAt (param_rule context has_body here q) s) (sym r)
      (both_stop (base_rule context q.type_name.base) tt (param_name here q.name) tt own (Rule (record { at = q.spot; refusal = Mistyped })) typed named
      (ruled_broken q.spot (is_struct (written_type context.types q.type_name) || (has_body && is_none q.name)) Mistyped (tt {0}) (ap (λ u. is_struct u || (has_body && is_none q.name)) (sym is) ∙ sym e ∙ t)))

pub given_is : (c : CodeContext) (gives : Option TypeName) (n : TypeName) (ty : Ty) → gives ≡ Some n → ty ≡ written_type c.types (written.type_of n) → Some ty ≡ type_option (context_of c) (written.mapped written.type_of gives)
given_is c gives n ty e h =
    ap Some h ∙ ap (λ g. type_option (context_of c) (written.mapped written.type_of g)) (sym e)

module _ (context : Context) (has_body : Bool) (here : Here) (qs : List Param) (i : ℕ) where
  pub param_stops : (q : Param) (s : Stop) → i < length qs → q ≡ get_or qs i q → StopsAt (param_rule context has_body here (written.param_of q)) s → StopsAt (params_rule context has_body here (map written.param_of (drop i qs))) s
  param_stops q s l h stops = rw (front qs i q l h) (left_stops (param_rule context has_body here (written.param_of q)) (params_rule context has_body (with_param context here (written.param_of q)) (map written.param_of (drop (i + 1) qs))) (λ u v. Holds tt) s stops)

  pub param_step : (q : Param) (next : Here) → i < length qs → q ≡ get_or qs i q → param_rule context has_body here (written.param_of q) ≡ Holds tt → next ≡ with_param context here (written.param_of q) →
      params_rule context has_body here (map written.param_of (drop i qs)) ≡ params_rule context has_body next (map written.param_of (drop (i + 1) qs))
  param_step q next l h held n =
      let rest = params_rule context has_body (with_param context here (written.param_of q)) (map written.param_of (drop (i + 1) qs)) in
      ap (λ xs. params_rule context has_body here (map written.param_of xs)) (front qs i q l h)
      ∙ ap (λ (x : Judged (Unit {0})). with_parts x rest (λ u v. Holds tt)) held ∙ unit_part rest
      ∙ ap (λ x. params_rule context has_body x (map written.param_of (drop (i + 1) qs))) (sym n)

  pub params_end : length qs ≤ i → params_rule context has_body here (map written.param_of (drop i qs)) ≡ Holds tt
  params_end l = ap (λ xs. params_rule context has_body here (map written.param_of xs)) (none_left qs i l)

module _ (context : Context) (here : Here) (qs : List Param) (i : ℕ) where
  pub behind_step : (q : Param) (next : Here) → i < length qs → q ≡ get_or qs i q → next ≡ with_param context here (written.param_of q) →
      with_params context here (map written.param_of (drop i qs)) ≡ with_params context next (map written.param_of (drop (i + 1) qs))
  behind_step q next l h n =
      ap (λ xs. with_params context here (map written.param_of xs)) (front qs i q l h)
      ∙ ap (λ x. with_params context x (map written.param_of (drop (i + 1) qs))) (sym n)

  pub behind_end : length qs ≤ i → with_params context here (map written.param_of (drop i qs)) ≡ here
  behind_end l = ap (λ xs. with_params context here (map written.param_of xs)) (none_left qs i l)

-- parameters add names inside those before them, and no string
module _ (context : Context) where
  on_name : (here : Here) (spot : Spot) (n : t.TypeName) (name : Option Name) → Grown here.names (with_param context here (record { spot = spot; type_name = n; name = name })).names
  on_name here spot n None = grown_self here.names
  on_name here spot n (Some name) = (_ ∷ [], refl)

  pub on_params : (here : Here) (qs : List t.Param) → Grown here.names (with_params context here qs).names
  on_params here [] = grown_self here.names
  on_params here (q ∷ qs) = grown_on here.names (with_param context here q).names (with_params context (with_param context here q) qs).names (on_name here q.spot q.type_name q.name) (on_params (with_param context here q) qs)

  name_strings : (here : Here) (spot : Spot) (n : t.TypeName) (name : Option Name) → (with_param context here (record { spot = spot; type_name = n; name = name })).strings ≡ here.strings
  name_strings here spot n None = refl
  name_strings here spot n (Some name) = refl

  pub params_strings : (here : Here) (qs : List t.Param) → (with_params context here qs).strings ≡ here.strings
  params_strings here [] = refl
  params_strings here (q ∷ qs) = params_strings (with_param context here q) qs ∙ name_strings here q.spot q.type_name q.name
