-- A pass over a function that changes no set but its own.
use Rattle.std.proofs.Common.{◌≡◌, ◌∙◌, ℕ, zero, suc, ◌<◌, Bool, true, false, ◌||◌, nat_lt, IsTrue, ◌↔◌, ◌⊎◌, List, [], ◌∷◌, ◌++◌, get_or, Option, Some, None, refl, sym, ap, subst, inl, inr, arith}
use Rattle.std.specs.Prelude.{slice_get, is_some, length, replicate, ◌≤◌, IfSome}
use Rattle.std.specs.List.{list_any}
use Rattle.std.proofs.lemmas.Grind.{common_steps}
use Rattle.std.proofs.lemmas.List.{length-append, length-replicate, get_or_append_left, get_or-replicate}
use Rattle.std.proofs.lemmas.List.Folds.{list_any_at}
use Rattle.std.proofs.lemmas.Option.{slice_get_cases}
use Rattle.std.proofs.lemmas.Bool.{and_parts, and_from, or_cases, lt-ltb}
use Rattle.rc_core.specs.declared.ty.Note.TheVariants.{Plain, SameRegion, ParentPtr, Traditional}
use Rattle.rc_facts.specs.declared.fact.Fact.{Fact}
use Rattle.rc_facts.specs.Derivable.{Derivable, stated}
use Rattle.rc_facts.specs.Facts.{Known, holds, is_over}
use Rattle.rc_rlang.specs.RegionFlow.{Effect, nothing, nulled, moved, fixed, beside, made, under, loaded, looked_at, stored, present, absent, called, entered}
use Rattle.rc_annotations.specs.Annotations.{Annotation, asked_of, exit_facts, some_pair}
use Rattle.rc_annotations.proofs.Derivations.{derivable_cut}
use Rattle.rc_facts.specs.Flow.{no_set, set_at}
use Rattle.rc_edges.specs.Edges.{EffectBelow, AreNews, renewed}
use Rattle.rc_edges.specs.Reading.{Loses}
use Rattle.rc_edges.specs.News.{news_of}
use Rattle.rc_edges.proofs.Adding.{news_are}
use Rattle.rc_edges.proofs.Downward.{renewed_below}
use Rattle.rc_graph.specs.Nodes.{effect_of}
use Rattle.rc_code.specs.declared.image.Function.{Function}
use Rattle.rc_code.specs.Running.{Reading, function_at}
use Rattle.rc_claims.specs.Counts.{place}
use Rattle.rc_sealed.specs.ImageVariables.{scratch, variables}
use Rattle.rc_sealed.specs.Carrying.{is_target, effect_at, lowest, reach, entry_pairs, either, Begins, Carried, Before}
use Rattle.rc_sealed.proofs.Carry.{before_over}
use Rattle.rc_carrying.specs.Left.{IsReady}
use Rattle.rc_carrying.specs.Passing.{CarriesOver}
use Rattle.rc_carrying.specs.Closing.{Has}
use Rattle.rc_carrying.proofs.Carried.{left_carried}
use Rattle.rc_carrying.proofs.Ready.{left_ready}
use Rattle.rc_prove_parts.specs.declared.route.Route.{Route}
use Rattle.rc_prove_parts.specs.declared.spot.Spot.{Spot}
use Rattle.rc_prove.specs.Sets.{Sets, rank, Claims}
use Rattle.rc_prove.specs.Visiting.{SpotIs, SpotFits}
use Rattle.rc_prove.specs.Passing.{Reached}
use Rattle.rc_prove.specs.Family.{Family, sets_at, claimed, IsRoute, RouteFits}
use Rattle.rc_prove.proofs.Anew.{over_more, anew_ready, follows_listed}
use Rattle.rc_prove.proofs.Beginning.{pair_over, reached_first}
use Rattle.rc_prove.proofs.Carrying.{each_is}
use Rattle.rc_prove.proofs.Lowering.{is_in}
use Rattle.rc_prove_marks.specs.Checked.{IsChecked, TellsChecked}
use Rattle.rc_prove_marks.specs.Going.{asks, has_it, IsAt, AreFirst}

-- ---- of any image

module _ (route : Route) (m : Family) (fits : RouteFits route m) where
  abbrev g : ℕ
  g = route.place.function

  abbrev sets : Sets
  sets = sets_at m g

  abbrev last : ℕ
  last = suc route.place.result

  -- what is known where the function begins
  abbrev pub Begun : Known → Type 0
  Begun start = (fact : Fact) → IsTrue (holds start fact) ↔ Derivable (suc last) (λ p. set_at m.entries g p || some_pair (entry_pairs route.place.copies route.place.copies) p) fact

  -- a set is taken from a frame, if one is named
  pub record Anew (at : Option ℕ) (old new : Known) : Type 0 where
    pub kept : at ≡ None → new ≡ old
    pub whole : (r : ℕ) → at ≡ Some r → (fact : Fact) → IsTrue (holds new fact) ↔ Derivable (suc last) (set_at sets.frames r) fact

  anew_is_ready : (at : Option ℕ) (old new : Known) → IsReady (suc last) last (holds old) → Anew at old new → IsReady (suc last) last (holds new)
  anew_is_ready None old new ready a = subst (λ (k : Known). IsReady (suc last) last (holds k)) (sym (a.kept refl)) ready
  anew_is_ready (Some r) old new ready a = anew_ready (suc last) last (set_at sets.frames r) (holds new) refl (λ q is. fits.place.frames r q is) (a.whole r refl)

  begun_ready : (start : Known) → Begun start → IsReady (suc last) last (holds start)
  begun_ready start begun = anew_ready (suc last) last (λ p. set_at m.entries g p || some_pair (entry_pairs route.place.copies route.place.copies) p) (holds start) refl over begun
    where
      over : (p : Fact) → IsTrue (set_at m.entries g p || some_pair (entry_pairs route.place.copies route.place.copies) p) → IsTrue (is_over last p)
      over p e = elim (or_cases (set_at m.entries g p) _ e) [
        | inl a ↦ over_more route.place.copies last (let r = fits.room in omega (arith, r)) p (fits.over p a)
        | inr b ↦ pair_over last route.place.copies route.place.copies (let r = fits.room in omega (arith, r)) (omega arith) p b
      ]

  -- ---- of an image that the route is of

  module _ (image : Reading) (looks : IsRoute image m route) where
    abbrev f : Function
    f = function_at image g

    abbrev n : ℕ
    n = variables image f

    abbrev s : ℕ
    s = scratch image f

    abbrev proofs : Annotation
    proofs = claimed image m

    same_last : last ≡ s
    same_last = ap suc looks.are.result

    claims : Claims image proofs g sets
    claims = record { before = λ at fact. refl; entry = λ h fact. refl; exit = λ h fact. refl }

    -- ---- frames

    chosen : (b : Bool) (A B : Fact → Type 0) → b ≡ true → (fact : Fact) → either b (A fact) (B fact) ↔ A fact
    chosen true A B e fact = (λ x. x, λ x. x)
    chosen false A B e fact = absurd (no e)
      where
        no : false ≡ true → ⊥
        no e = cc

    stands : (at : ℕ) → is_target f at ≡ true → (fact : Fact) → Before image proofs g at fact ↔ IsTrue (proofs.before g at fact)
    stands zero t fact = chosen (is_target f 0) (λ q. IsTrue (proofs.before g 0 q)) (Begins image proofs g) t fact
    stands (suc at) t fact = chosen (is_target f (suc at)) (λ q. IsTrue (proofs.before g (suc at) q)) (Carried image proofs g at (Before image proofs g at)) t fact

    has_frame : (at r : ℕ) → is_target f at ≡ true → rank f at ≡ r → (new : Known) → ((fact : Fact) → IsTrue (holds new fact) ↔ Derivable (suc last) (set_at sets.frames r) fact) → Has n (holds new) (Before image proofs g at)
    has_frame at r t same new whole fact = (
      λ is. follows_listed n (get_or sets.frames (rank f at) no_set) (Before image proofs g at) (λ q e. (stands at t q).1 (and_from (is_target f at) (set_at sets.frames (rank f at) q) t e)) fact ((derives fact).0 is),
      λ c. (derives fact).1 (derivable_cut (λ q e. stated (and_parts (is_target f at) (set_at sets.frames (rank f at) q) ((stands at t q).0 (each_is (Before image proofs g at) c.used c.each q e))).1) c.derived),
    )
      where
        derives : (fact : Fact) → IsTrue (holds new fact) ↔ Derivable n (set_at sets.frames (rank f at)) fact
        derives fact = subst (λ k. IsTrue (holds new fact) ↔ Derivable (suc k) (set_at sets.frames (rank f at)) fact) same_last
            (subst (λ k. IsTrue (holds new fact) ↔ Derivable (suc last) (set_at sets.frames k) fact) (sym same) (whole fact))

    -- ---- the first instruction

    has_first : (start new : Known) → Begun start → Anew route.first start new → Has n (holds new) (Before image proofs g 0)
    has_first start new begun a = by route.first refl
      where
        none_some : {P : Type 0} (k : ℕ) → route.first ≡ None → route.first ≡ Some k → P
        none_some k e d = absurd (no (sym d ∙ e))
          where
            no : Some k ≡ None → ⊥
            no q = cc

        by : (first : Option ℕ) → route.first ≡ first → Has n (holds new) (Before image proofs g 0)
        by None e = λ fact. (λ is. reached.here.below refl proofs claims fact is, λ c. reached.here.above proofs (is_in image g proofs sets claims) fact c)
          where
            loses : Loses false sets.frames sets.frames (λ k fact. route.first ≡ Some k → IsTrue (holds start fact))
            loses = record { long = refl; variables = λ p. refl; facts = λ k fact. (λ is. (is, λ d. none_some k e d), λ b. b.0); fewer = refl }

            reached : Reached image g 0 sets sets (holds new) false
            reached = reached_first image route.place route.spots.items route.first sets sets.frames (holds start) (holds new) false looks fits.room begun loses (λ q. ap holds (a.kept q)) a.whole
        by (Some r) e = has_frame 0 r (looks.begins r e).0 (looks.begins r e).1 new (a.whole r e)

    -- ---- from one instruction to the next

    module _ (at : ℕ) (spot : Spot) (is : SpotIs image g at spot) (below : EffectBelow last (effect_of spot.effect)) (work mid : Known)
        (carries : CarriesOver (suc last) last m.exits (effect_of spot.effect) spot.low spot.top (holds work) (holds mid)) (has : Has n (holds work) (Before image proofs g at)) where
      abbrev effect : Effect
      effect = effect_at image f at

      abbrev Crossed : ℕ → Effect → ℕ → ℕ → Type 0
      Crossed r effect low top = CarriesOver (suc r) r m.exits effect low top (holds work) (holds mid)

      crossed : Crossed s effect (place f (lowest image f at)) (place f (reach image f at))
      crossed = subst (Crossed s effect (place f (lowest image f at))) is.top
          (subst (λ l. Crossed s effect l spot.top) is.low (subst (λ e. Crossed s e spot.low spot.top) is.effect (subst (λ r. Crossed r (effect_of spot.effect) spot.low spot.top) same_last carries)))

      below_at : EffectBelow s effect
      below_at = subst (EffectBelow s) is.effect (subst (λ r. EffectBelow r (effect_of spot.effect)) same_last below)

      news : AreNews n (exit_facts proofs) (renewed s effect) (news_of n (set_at m.exits) (renewed s effect))
      news = news_are n proofs (renewed s effect) (renewed_below s effect below_at)

      frames_over : (to : ℕ) (fact : Fact) → IsTrue (proofs.before g to fact) → IsTrue (is_over (place f 0) fact)
      frames_over to fact e = looks.frames (rank f to) fact (and_parts (is_target f to) (set_at sets.frames (rank f to) fact) e).1

      has_behind : Has n (holds mid) (Carried image proofs g at (Before image proofs g at))
      has_behind = left_carried image proofs g at (Before image proofs g at) (news_of n (set_at m.exits) (renewed s effect)) work (holds mid) below_at news (before_over image proofs g frames_over at) has crossed

      has_next : (new : Known) → Anew spot.next mid new → Has n (holds new) (Before image proofs g (suc at))
      has_next new a = by spot.next refl
        where
          falls : is_target f (suc at) ≡ false → Has n (holds mid) (Before image proofs g (suc at))
          falls e = subst (λ (b : Bool). Has n (holds mid) (λ q. either b (IsTrue (proofs.before g (suc at) q)) (Carried image proofs g at (Before image proofs g at) q))) (sym e) has_behind

          by : (next : Option ℕ) → spot.next ≡ next → Has n (holds new) (Before image proofs g (suc at))
          by None e = subst (λ (k : Known). Has n (holds k) (Before image proofs g (suc at))) (sym (a.kept e)) (falls (is.leads.alone e))
          by (Some r) e = has_frame (suc at) r (is.leads.follows r e).0 (is.leads.follows r e).1 new (a.whole r e)

  -- ---- what a pass has shown

  pub begins_at : (start new : Known) → start.variables ≡ suc last → new.variables ≡ start.variables → Begun start → Anew route.first start new → IsAt route m 0 new
  begins_at start new wide same begun a = record {
    wide = same ∙ wide;
    ready = anew_is_ready route.first start new (begun_ready start begun) a;
    has = λ image looks. has_first image looks start new begun a;
  }

  pub goes_to : (at : ℕ) (spot : Spot) → slice_get route.spots.items at ≡ Some spot → SpotFits route.place sets spot → (work mid new : Known) → IsAt route m at work → mid.variables ≡ work.variables → new.variables ≡ mid.variables
      → CarriesOver (suc last) last m.exits (effect_of spot.effect) spot.low spot.top (holds work) (holds mid) → Anew spot.next mid new → IsAt route m (suc at) new
  goes_to at spot there fit work mid new here wide same carries a = record {
    wide = same ∙ wide ∙ here.wide;
    ready = anew_is_ready spot.next mid new (left_ready (suc last) last m.exits (effect_of spot.effect) spot.low spot.top (holds work) (holds mid) fit.below here.ready carries) a;
    has = λ image looks. has_next image looks at spot (looks.are.each at spot there) fit.below work mid carries (here.has image looks) new a;
  }

-- ---- what is told of a check

pub asked_over : (n s : ℕ) → s < n → (effect : Effect) → EffectBelow s effect → IfSome (asked_of effect) (λ fact. IsTrue (is_over n fact))
asked_over n s lt (stored z y Plain) b = tt
asked_over n s lt (stored z y SameRegion) b = and_from (nat_lt z n) (nat_lt y n) (let l = b.0 in lt-ltb z n (omega (arith, l, lt))) (let l = b.1 in lt-ltb y n (omega (arith, l, lt)))
asked_over n s lt (stored z y ParentPtr) b = and_from (nat_lt z n) (nat_lt y n) (let l = b.0 in lt-ltb z n (omega (arith, l, lt))) (let l = b.1 in lt-ltb y n (omega (arith, l, lt)))
asked_over n s lt (stored z y Traditional) b = let l = b.0 in lt-ltb z n (omega (arith, l, lt))
asked_over n s lt nothing b = tt
asked_over n s lt (nulled x) b = tt
asked_over n s lt (moved x y) b = tt
asked_over n s lt (fixed x) b = tt
asked_over n s lt (beside x y) b = tt
asked_over n s lt (made x) b = tt
asked_over n s lt (under x y) b = tt
asked_over n s lt (loaded x y note) b = tt
asked_over n s lt (looked_at y) b = tt
asked_over n s lt (present y) b = tt
asked_over n s lt (absent y) b = tt
asked_over n s lt (called x h arguments) b = tt
asked_over n s lt (entered pairs) b = tt

pub tells_checked : (route : Route) (m : Family) (at : ℕ) (spot : Spot) → slice_get route.spots.items at ≡ Some spot → (work : Known) → IsAt route m at work → (proved : Bool) → proved ≡ has_it (holds work) (asked_of (effect_of spot.effect))
    → (image : Reading) → IsRoute image m route → (proved ≡ true) ↔ IsChecked image (claimed image m) route.place.function at
tells_checked route m at spot there work here proved is image looks = (λ e. by (asked_of here_effect) refl (sym told ∙ e), λ c. told ∙ ap (has_it (holds work)) c.asks ∙ (here.has image looks c.fact).1 c.follows)
  where
    here_effect : Effect
    here_effect = effect_at image (function_at image route.place.function) at

    told : proved ≡ has_it (holds work) (asked_of here_effect)
    told = is ∙ ap (λ e. has_it (holds work) (asked_of e)) (looks.are.each at spot there).effect

    by : (asked : Option Fact) → asked_of here_effect ≡ asked → has_it (holds work) (asked_of here_effect) ≡ true → IsChecked image (claimed image m) route.place.function at
    by None e t = absurd (no (sym (ap (has_it (holds work)) e) ∙ t))
      where
        no : false ≡ true → ⊥
        no e = cc
    by (Some fact) e t = record { fact = fact; asks = e; follows = (here.has image looks fact).0 (sym (ap (has_it (holds work)) e) ∙ t) }

-- ---- the marks

pub one_more : (route : Route) (m : Family) (at : ℕ) (marks more : List Bool) (proved : Bool) → AreFirst route m at marks → more ≡ marks ++ proved ∷ [] → ((image : Reading) → IsRoute image m route → (proved ≡ true) ↔ IsChecked image (claimed image m) route.place.function at) → AreFirst route m (suc at) more
one_more route m at marks more proved first is tells = subst (AreFirst route m (suc at)) (sym is) (record {
  long = length-append marks (proved ∷ []) ∙ (let l = first.long in omega (arith, l));
  each = λ image looks k lt. elim (order k lt) [
    | inl l ↦ subst (λ b. (b ≡ true) ↔ IsChecked image (claimed image m) route.place.function k) (sym (get_or_append_left marks (proved ∷ []) false k (let e = first.long in omega (arith, e, l)))) (first.each image looks k l)
    | inr e ↦ subst (λ b. (b ≡ true) ↔ IsChecked image (claimed image m) route.place.function k) (sym (at_end k e)) (subst (λ j. (proved ≡ true) ↔ IsChecked image (claimed image m) route.place.function j) (sym e) (tells image looks))
  ];
})
  where
    order : (k : ℕ) → k < suc at → (k < at) ⊎ (k ≡ at)
    order k lt = grind arith

    at_end : (k : ℕ) → k ≡ at → get_or (marks ++ proved ∷ []) k false ≡ proved
    at_end k e = let l = first.long in grind (arith, common_steps)

-- ---- a function that asks nothing

pub none_checked : (route : Route) (m : Family) → list_any asks route.spots.items ≡ false → (marks : List Bool) → marks ≡ replicate (length route.spots.items) false → AreFirst route m (length route.spots.items) marks
none_checked route m none marks is = subst (AreFirst route m (length route.spots.items)) (sym is) (record {
  long = length-replicate (length route.spots.items) false;
  each = λ image looks k lt. (λ e. absurd (no (sym (get_or-replicate (length route.spots.items) k false false lt) ∙ e)), λ c. absurd (asks_not image looks k lt c (slice_get_cases route.spots.items k).1));
})
  where
    no : false ≡ true → ⊥
    no e = cc

    asks_not : (image : Reading) (looks : IsRoute image m route) (k : ℕ) → k < length route.spots.items → IsChecked image (claimed image m) route.place.function k
        → ((spot : Spot) × (k < length route.spots.items) × (slice_get route.spots.items k ≡ Some spot) × (get_or route.spots.items k spot ≡ spot)) ⊎ ((length route.spots.items ≤ k) × (slice_get route.spots.items k ≡ None)) → ⊥
    asks_not image looks k lt c (inl x) = no (sym none ∙ list_any_at asks route.spots.items k x.0 lt (ap asks x.3 ∙ ap is_some (ap asked_of (looks.are.each k x.0 x.2).effect ∙ c.asks)))
    asks_not image looks k lt c (inr x) = let l = x.0 in omega (arith, l, lt)

-- ---- the marks are those of the image

pub all_told : (image : Reading) (route : Route) (m : Family) → IsRoute image m route → (marks : List Bool) → AreFirst route m (length route.spots.items) marks → TellsChecked image (claimed image m) route.place.function marks
all_told image route m looks marks first = record {
  long = first.long ∙ looks.are.long;
  each = λ at lt. first.each image looks at (let l = looks.are.long in omega (arith, l, lt));
}
