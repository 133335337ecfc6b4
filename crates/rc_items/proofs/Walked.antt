-- An item, and the rest of the items.
use Rattle.std.proofs.Common.{◌≡◌, refl, ap, sym, ◌∙◌, subst, List, [], ◌∷◌, ◌++◌, Bool, true, append_assoc, ◌<◌, ◌≤◌, length, map}
use Rattle.std.specs.Prelude.{get_or}
use Rattle.std.proofs.lemmas.List.{append-nil}
use Rattle.rc_syntax.specs.declared.tree.Item.{Item}
use Rattle.rc_syntax.specs.Shape as written
use Rattle.rc_syntax.specs.Tree as t
use Rattle.rc_core.specs.Programs as p
use Rattle.rc_deletes.specs.Judged.{Judged, Holds, Faulty, with_parts, in_front}
use Rattle.rc_deletes.specs.Scopes.{Context}
use Rattle.rc_deletes.specs.Items.{Outside, Made, nothing_made, made_both, item, items, before_globals, behind_item, behind_items}
use Rattle.rc_typed_values.specs.declared.stop.Stop.{Stop}
use Rattle.rc_typed_values.specs.declared.stop.Stop.TheVariants.{Rule, Memory}
use Rattle.rc_typed_values.specs.Stops.{StopsAt}
use Rattle.rc_defined.specs.Groups.{goes_on}
use Rattle.rc_defined.proofs.Stops.{left_stops}
use Rattle.rc_items.proofs.Ruled.{front_stop}
use Rattle.rc_defined.proofs.Fronts.{tail, split, nothing_left}
use Rattle.rc_defined.proofs.Groups.{global_next}

abbrev pub after_made : Made → Judged Made → Judged Made
after_made m (Holds n) = Holds (made_both m n)
after_made m (Faulty f fs) = Faulty f fs

pub after_nothing : (x : Judged Made) → x ≡ after_made nothing_made x
after_nothing (Holds n) = refl
after_nothing (Faulty f fs) = refl

abbrev made : List p.Global → List p.Function → Made
made gs fs = record { globals = gs; functions = fs }

both_made : (gs hs : List p.Global) (fs es : List p.Function) → gs ≡ hs → fs ≡ es → made gs fs ≡ made hs es
both_made gs hs fs es a b = ap (λ xs. made xs fs) a ∙ ap (λ xs. made hs xs) b

pub after_end : (m : Made) → after_made m (Holds nothing_made) ≡ Holds m
after_end m = ap Holds (both_made (m.globals ++ []) m.globals (m.functions ++ []) m.functions (append-nil m.globals) (append-nil m.functions))

after_more : (m a : Made) (x : Judged Made) → after_made m (with_parts (Holds a) x (λ a b. Holds (made_both a b))) ≡ after_made (made_both m a) x
after_more m a (Holds b) = ap Holds (both_made (m.globals ++ (a.globals ++ b.globals)) ((m.globals ++ a.globals) ++ b.globals) (m.functions ++ (a.functions ++ b.functions)) ((m.functions ++ a.functions) ++ b.functions)
    (sym (append_assoc m.globals a.globals b.globals)) (sym (append_assoc m.functions a.functions b.functions)))
after_more m a (Faulty f fs) = refl

pub after_stops : (m : Made) (x : Judged Made) (s : Stop) → StopsAt x s → StopsAt (after_made m x) s
after_stops m x Memory h = tt
after_stops m (Faulty g gs) (Rule f) h = h
after_stops m (Holds a) (Rule f) h = absurd cc

module _ (context : Context) (o : Outside) where
  pub known_next : (i : t.Item) (after : List t.Item) → goes_on i after ≡ true → before_globals context o.structs (i ∷ after) ≡ Holds tt → before_globals context (behind_item context o i).structs after ≡ Holds tt
  known_next i [] h e = refl
  known_next (t.struct at name fields) (j ∷ after) h e = absurd cc
  known_next (t.global at n name count c) (j ∷ after) h e = global_next context o.structs (t.global at n name count c) (j ∷ after) h e
  known_next (t.function at deletes result name params body) (j ∷ after) h e = absurd cc

module _ (context : Context) (o : Outside) (i : t.Item) (after : List t.Item) where
  abbrev here : Judged Made
  here = with_parts (item context o i) (items context (behind_item context o i) after) (λ a b. Holds (made_both a b))

  pub group_stops : (s : Stop) → StopsAt (before_globals context o.structs (i ∷ after)) s → StopsAt (items context o (i ∷ after)) s
  group_stops s h = front_stop (before_globals context o.structs (i ∷ after)) here s h

  module _ (held : before_globals context o.structs (i ∷ after) ≡ Holds tt) where
    without : items context o (i ∷ after) ≡ here
    without = ap (λ (x : Judged (Unit {0})). in_front x here) held

    pub item_stops : (s : Stop) → StopsAt (item context o i) s → StopsAt (items context o (i ∷ after)) s
    item_stops s h = subst (λ (x : Judged Made). StopsAt x s) (sym without) (left_stops (item context o i) (items context (behind_item context o i) after) (λ a b. Holds (made_both a b)) s h)

    pub item_step : (m made now : Made) (next : Outside) → item context o i ≡ Holds made → next ≡ behind_item context o i → now ≡ made_both m made →
        after_made m (items context o (i ∷ after)) ≡ after_made now (items context next after)
    item_step m made now next h n e =
        ap (after_made m) without
        ∙ ap (λ (x : Judged Made). after_made m (with_parts x (items context (behind_item context o i) after) (λ a b. Holds (made_both a b)))) h
        ∙ after_more m made (items context (behind_item context o i) after)
        ∙ ap (λ o. after_made (made_both m made) (items context o after)) (sym n)
        ∙ ap (λ m. after_made m (items context next after)) (sym e)

-- where the walk over the items stands
module _ (context : Context) (o : Outside) (m : Made) (whole : Judged Made) (rest : List Item) (same : whole ≡ after_made m (items context o (map written.item_of rest))) where
  pub walk_ends : length rest < 1 → whole ≡ Holds m
  walk_ends l = same ∙ ap (λ is. after_made m (items context o (map written.item_of is))) (nothing_left rest l) ∙ after_end m

  module _ (i : Item) (l : 1 ≤ length rest) (is : i ≡ get_or rest 0 i) where
    pub known_here : before_globals context o.structs (map written.item_of rest) ≡ Holds tt → before_globals context o.structs (written.item_of i ∷ map written.item_of (tail rest)) ≡ Holds tt
    known_here h = subst (λ is. before_globals context o.structs (map written.item_of is) ≡ Holds tt) (split rest i l is) h

    whole_is : whole ≡ after_made m (items context o (written.item_of i ∷ map written.item_of (tail rest)))
    whole_is = same ∙ ap (λ is. after_made m (items context o (map written.item_of is))) (split rest i l is)

    pub front_stops : (s : Stop) → StopsAt (before_globals context o.structs (written.item_of i ∷ map written.item_of (tail rest))) s → StopsAt whole s
    front_stops s h =
        subst (λ (x : Judged Made). StopsAt x s) (sym whole_is)
        (after_stops m (items context o (written.item_of i ∷ map written.item_of (tail rest))) s (group_stops context o (written.item_of i) (map written.item_of (tail rest)) s h))

    module _ (held : before_globals context o.structs (written.item_of i ∷ map written.item_of (tail rest)) ≡ Holds tt) where
      pub here_stops : (s : Stop) → StopsAt (item context o (written.item_of i)) s → StopsAt whole s
      here_stops s h =
          subst (λ (x : Judged Made). StopsAt x s) (sym whole_is)
          (after_stops m (items context o (written.item_of i ∷ map written.item_of (tail rest))) s (item_stops context o (written.item_of i) (map written.item_of (tail rest)) held s h))

      pub walk_step : (one now : Made) (next : Outside) → item context o (written.item_of i) ≡ Holds one → next ≡ behind_item context o (written.item_of i) → now ≡ made_both m one → whole ≡ after_made now (items context next (map written.item_of (tail rest)))
      walk_step one now next h n e = whole_is ∙ item_step context o (written.item_of i) (map written.item_of (tail rest)) held m one now next h n e

      pub known_on : (b : Bool) (next : Outside) → next ≡ behind_item context o (written.item_of i) → b ≡ goes_on (written.item_of i) (map written.item_of (tail rest)) → b ≡ true → before_globals context next.structs (map written.item_of (tail rest)) ≡ Holds tt
      known_on b next n e t =
          subst (λ (o : Outside). before_globals context o.structs (map written.item_of (tail rest)) ≡ Holds tt) (sym n)
          (known_next context o (written.item_of i) (map written.item_of (tail rest)) (sym e ∙ t) held)

module _ (context : Context) (o end : Outside) (rest : List Item) (moved : end ≡ behind_items context o (map written.item_of rest)) where
  pub behind_ends : length rest < 1 → end ≡ o
  behind_ends l = moved ∙ ap (λ is. behind_items context o (map written.item_of is)) (nothing_left rest l)

  pub behind_step : (i : Item) → 1 ≤ length rest → i ≡ get_or rest 0 i → (next : Outside) → next ≡ behind_item context o (written.item_of i) → end ≡ behind_items context next (map written.item_of (tail rest))
  behind_step i l is next n =
      moved ∙ ap (λ is. behind_items context o (map written.item_of is)) (split rest i l is)
      ∙ ap (λ o. behind_items context o (map written.item_of (tail rest))) (sym n)
