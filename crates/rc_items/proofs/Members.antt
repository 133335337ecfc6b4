-- A field, and the rest of the fields.
use Rattle.std.proofs.Common.{◌≡◌, ◌<◌, ◌≤◌, ap, sym, ◌∙◌, subst, ℕ, List, [], ◌∷◌, ◌++◌, map, length, Bool, true}
use Rattle.std.specs.Prelude.{get_or}
use Rattle.rc_syntax.specs.declared.tree.Field.{Field}
use Rattle.rc_syntax.specs.Shape as written
use Rattle.rc_syntax.specs.Tree as t
use Rattle.rc_deletes.specs.Judged.{Judged, Holds, with_parts, in_front}
use Rattle.rc_deletes.specs.Scopes.{Context}
use Rattle.rc_deletes.specs.Items.{field_rule, fields_rule, before_fields}
use Rattle.rc_typed_values.specs.declared.stop.Stop.{Stop}
use Rattle.rc_typed_values.specs.Stops.{StopsAt}
use Rattle.rc_defined.specs.Groups.{shares_with_next}
use Rattle.rc_items.proofs.Ruled.{front_stop, unit_part}
use Rattle.rc_defined.proofs.Stops.{left_stops}
use Rattle.rc_defined.proofs.Fronts.{tail, split, nothing_left}
use Rattle.rc_defined.proofs.Groups.{field_next}

module _ (context : Context) (count : ℕ) (earlier : List (List ℕ)) (f : t.Field) (after : List t.Field) where
  pub group_stops : (s : Stop) → StopsAt (before_fields context count (f ∷ after)) s → StopsAt (fields_rule context count earlier (f ∷ after)) s
  group_stops s h = front_stop (before_fields context count (f ∷ after)) (with_parts (field_rule context count earlier f) (fields_rule context count (earlier ++ f.name.text ∷ []) after) (λ u v. Holds tt)) s h

  module _ (held : before_fields context count (f ∷ after) ≡ Holds tt) where
    pub member_stops : (s : Stop) → StopsAt (field_rule context count earlier f) s → StopsAt (fields_rule context count earlier (f ∷ after)) s
    member_stops s h = rw held (left_stops (field_rule context count earlier f) (fields_rule context count (earlier ++ f.name.text ∷ []) after) (λ u v. Holds tt) s h)

    pub member_step : (now : List (List ℕ)) → field_rule context count earlier f ≡ Holds tt → now ≡ earlier ++ f.name.text ∷ [] → fields_rule context count earlier (f ∷ after) ≡ fields_rule context count now after
    member_step now h n =
        let rest = fields_rule context count (earlier ++ f.name.text ∷ []) after in
        ap (λ (x : Judged (Unit {0})). in_front x (with_parts (field_rule context count earlier f) rest (λ u v. Holds tt))) held
        ∙ ap (λ (x : Judged (Unit {0})). with_parts x rest (λ u v. Holds tt)) h ∙ unit_part rest
        ∙ ap (λ names. fields_rule context count names after) (sym n)

-- where the walk over the fields stands
module _ (context : Context) (count : ℕ) (earlier : List (List ℕ)) (whole : Judged (Unit {0})) (rest : List Field) (same : whole ≡ fields_rule context count earlier (map written.field_of rest)) where
  pub walk_ends : length rest < 1 → whole ≡ Holds tt
  walk_ends l = same ∙ ap (λ fs. fields_rule context count earlier (map written.field_of fs)) (nothing_left rest l)

  module _ (f : Field) (l : 1 ≤ length rest) (is : f ≡ get_or rest 0 f) where
    pub known_here : before_fields context count (map written.field_of rest) ≡ Holds tt → before_fields context count (written.field_of f ∷ map written.field_of (tail rest)) ≡ Holds tt
    known_here h = subst (λ fs. before_fields context count (map written.field_of fs) ≡ Holds tt) (split rest f l is) h

    whole_is : whole ≡ fields_rule context count earlier (written.field_of f ∷ map written.field_of (tail rest))
    whole_is = same ∙ ap (λ fs. fields_rule context count earlier (map written.field_of fs)) (split rest f l is)

    pub front_stops : (s : Stop) → StopsAt (before_fields context count (written.field_of f ∷ map written.field_of (tail rest))) s → StopsAt whole s
    front_stops s h = subst (λ (x : Judged (Unit {0})). StopsAt x s) (sym whole_is) (group_stops context count earlier (written.field_of f) (map written.field_of (tail rest)) s h)

    module _ (held : before_fields context count (written.field_of f ∷ map written.field_of (tail rest)) ≡ Holds tt) where
      pub field_stops : (s : Stop) → StopsAt (field_rule context count earlier (written.field_of f)) s → StopsAt whole s
      field_stops s h = subst (λ (x : Judged (Unit {0})). StopsAt x s) (sym whole_is) (member_stops context count earlier (written.field_of f) (map written.field_of (tail rest)) held s h)

      pub field_step : (now : List (List ℕ)) → field_rule context count earlier (written.field_of f) ≡ Holds tt → now ≡ earlier ++ f.name.text ∷ [] → whole ≡ fields_rule context count now (map written.field_of (tail rest))
      field_step now h n = whole_is ∙ member_step context count earlier (written.field_of f) (map written.field_of (tail rest)) held now h n

      pub known_on : (b : Bool) → b ≡ shares_with_next (written.field_of f) (map written.field_of (tail rest)) → b ≡ true → before_fields context count (map written.field_of (tail rest)) ≡ Holds tt
      known_on b e t = field_next context count (written.field_of f) (map written.field_of (tail rest)) (sym e ∙ t) held
