-- The sets of all functions, of which those of one are lowered.
use Rattle.std.proofs.Common.{◌≡◌, ◌∙◌, ℕ, zero, suc, ◌+◌, ◌<◌, Bool, true, false, ◌||◌, nat_eq, IsTrue, List, [], ◌∷◌, length, map, get_or, Option, Some, None, refl, sym, ap, subst, inl, inr, ◌⊎◌, arith}
use Rattle.std.specs.Prelude.{MatchBool, IfOk, Result, Ok, Err, slice_get, slice_set}
use Rattle.std.proofs.lemmas.List.Sums.{sum_by-cons}
use Rattle.std.specs.List.{All, sum_by}
use Rattle.std.specs.declared.vec.Vec.{Vec}
use Rattle.std.specs.declared.alloc.Global.{Global}
use Rattle.std.specs.Vec.{with_items}
use Rattle.std.proofs.lemmas.Bool.{eqb-true, eq-eqb}
use Rattle.std.proofs.lemmas.List.{length-map, map-set, length-set, get_or-set_same, get_or-set_other, with_items_is}
use Rattle.rc_facts.specs.declared.fact.Fact.{Fact}
use Rattle.rc_facts.specs.Facts.{Known}
use Rattle.rc_annotations.specs.Annotations.{Annotation}
use Rattle.rc_annotations.specs.Laws.{Inside}
use Rattle.rc_facts.specs.Flow.{facts_in, no_set, set_at}
use Rattle.rc_code.specs.Running.{Reading, function_at}
use Rattle.rc_greatest_proofs.specs.Marks.{ProvedBare}
use Rattle.rc_prove_parts.specs.declared.route.Route.{Route}
use Rattle.rc_prove_parts.specs.declared.spot.Place.{Place}
use Rattle.rc_prove.specs.Sets.{Sets, framed, IsIn, Claims, ProveFunction, Shrinks, FewerFacts}
use Rattle.rc_prove.specs.Visiting.{IsFrame, SameShape}
use Rattle.rc_prove.specs.Lowering.{Looks, LooksAhead, Lessens, Lowered}
use Rattle.rc_prove.specs.Family.{Family, items_of, family_of, sets_at, facts_of, claimed, RouteFits, IsRoute, LessenedAt, LoweredAt, FewerAll, Lessened, Rounded, Found}
use Rattle.rc_prove.proofs.Stretches.{ahead_all}
use Rattle.rc_prove.proofs.Shapes.{shape_none, shape_then, fewer_none, fewer_then, spot_later, place_later}

order : (a b : ℕ) → (a < b) ⊎ ((a ≡ b) ⊎ (b < a))
order a b = grind arith

pub if_ok : {T E : Type 0} (r : Result T E) (P Q : T → Type 0) → ((x : T) → P x → Q x) → IfOk r P → IfOk r Q
if_ok (Ok x) P Q f p = f x p
if_ok (Err e) P Q f p = p

-- ---- sums of lists of which one changes

sum_set : (xs : List (List Known)) (g : ℕ) (y : List Known) → g < length xs → sum_by facts_in (slice_set xs g y) + facts_in (get_or xs g []) ≡ sum_by facts_in xs + facts_in y
sum_set [] g y lt = absurd (omega (arith, lt))
sum_set (x ∷ xs) zero y lt =
    let a : sum_by facts_in (slice_set (x ∷ xs) zero y) ≡ facts_in y + sum_by facts_in xs = sum_by-cons facts_in y xs in
    let b : facts_in (get_or (x ∷ xs) zero []) ≡ facts_in x = refl in
    let d : sum_by facts_in (x ∷ xs) ≡ facts_in x + sum_by facts_in xs = sum_by-cons facts_in x xs in
    omega (arith, a, b, d)
sum_set (x ∷ xs) (suc g) y lt =
    let h = sum_set xs g y (omega (arith, lt)) in
    let a : sum_by facts_in (slice_set (x ∷ xs) (suc g) y) ≡ facts_in x + sum_by facts_in (slice_set xs g y) = sum_by-cons facts_in x (slice_set xs g y) in
    let b : facts_in (get_or (x ∷ xs) (suc g) []) ≡ facts_in (get_or xs g []) = refl in
    let d : sum_by facts_in (x ∷ xs) ≡ facts_in x + sum_by facts_in xs = sum_by-cons facts_in x xs in
    omega (arith, a, b, d, h)

set_same : (xs : List (List Known)) (g : ℕ) → slice_set xs g (get_or xs g []) ≡ xs
set_same [] g = refl
set_same (x ∷ xs) zero = refl
set_same (x ∷ xs) (suc g) = ap (λ ys. x ∷ ys) (set_same xs g)

-- ---- one function's sets

pub looks_in : (image : Reading) (route : Route) (entries exits : List Known) (frames : List (Vec Known Global)) (v : Vec Known Global) → get_or (map items_of frames) route.place.function [] ≡ v.items → IsRoute image (family_of entries exits frames) route → Looks image route.place route.spots.items route.first (record { entries = entries; exits = exits; frames = v.items })
looks_in image route entries exits frames v is looks = subst (λ (fs : List Known). Looks image route.place route.spots.items route.first (record { entries = entries; exits = exits; frames = fs })) is looks

pub lessens_where : (where_is : Place) (Look Other : Reading → Type 0) (old new : Sets) (lost : Bool) → ((image : Reading) → Other image → Look image) → Lessens where_is Look old new lost → Lessens where_is Other old new lost
lessens_where where_is Look Other old new lost f l = record { shape = l.shape; fewer = l.fewer; shrinks = l.shrinks; lowers = λ image o. l.lowers image (f image o) }

module _ (route : Route) (entries exits entries1 exits1 : List Known) (frames : List (Vec Known Global)) (v : Vec Known Global) (new : List Known) (lost : Bool) where
  abbrev g : ℕ
  g = route.place.function

  abbrev old : Family
  old = family_of entries exits frames

  abbrev now : Family
  now = family_of entries1 exits1 (slice_set frames g (with_items v new))

  abbrev old_sets : Sets
  old_sets = record { entries = entries; exits = exits; frames = v.items }

  abbrev new_sets : Sets
  new_sets = record { entries = entries1; exits = exits1; frames = new }

  module _ (at : g < length frames) (is : get_or old.frames g [] ≡ v.items) (Look : Reading → Type 0) (look : (image : Reading) → IsRoute image old route → Look image) (l : Lessens route.place Look old_sets new_sets lost) where
    items_new : (with_items v new).items ≡ new
    items_new = with_items_is v new (l.shape.frames ∙ sym v.ok.0)

    written : now.frames ≡ slice_set old.frames g new
    written = map-set items_of frames g (with_items v new) ∙ ap (slice_set old.frames g) items_new

    long_old : length old.frames ≡ length frames
    long_old = length-map frames items_of

    inside : g < length old.frames
    inside = let e = long_old in omega (arith, at, e)

    there : get_or now.frames g [] ≡ new
    there = ap (λ fs. get_or fs g []) written ∙ get_or-set_same old.frames g new [] inside

    pub lessened_at : LessenedAt route old now lost
    lessened_at = record {
      lessens = subst (λ (fs : List Known). Lessens route.place (λ image. IsRoute image old route) (sets_at old g) (record { entries = entries1; exits = exits1; frames = fs }) lost) (sym there)
          (subst (λ (fs : List Known). Lessens route.place (λ image. IsRoute image old route) (record { entries = entries; exits = exits; frames = fs }) new_sets lost) (sym is)
          (lessens_where route.place Look (λ image. IsRoute image old route) old_sets new_sets lost look l));
      others = λ k apart. ap (λ fs. get_or fs k []) written ∙ get_or-set_other old.frames g k new [] apart;
      long = ap length written ∙ length-set old.frames g new;
      shrinks = by lost l.shrinks;
    }
      where
        total : sum_by facts_in now.frames + facts_in v.items ≡ sum_by facts_in old.frames + facts_in new
        total = ap (λ fs. sum_by facts_in fs + facts_in v.items) written ∙ ap (λ fs. sum_by facts_in (slice_set old.frames g new) + facts_in fs) (sym is) ∙ sum_set old.frames g new inside

        by : (b : Bool) → Shrinks b old_sets new_sets → MatchBool b (facts_of now < facts_of old) (now ≡ old)
        by true lt = omega (arith, lt, total)
        by false e = ap (λ (s : Sets). record { entries = s.entries; exits = s.exits; frames = now.frames }) e ∙ ap (λ fs. record { entries = entries; exits = exits; frames = fs }) (written ∙ ap (slice_set old.frames g) (ap (λ (s : Sets). s.frames) e ∙ sym is) ∙ set_same old.frames g)

  -- all of it was gone over
  module _ (at : g < length frames) (is : get_or old.frames g [] ≡ v.items) (l : Lowered route.place route.spots.items route.first old_sets new_sets lost) where
    look_ahead : (image : Reading) → IsRoute image old route → LooksAhead image route.place route.spots.items route.first old_sets
    look_ahead image looks = ahead_all image route.place route.spots.items route.first old_sets (looks_in image route entries exits frames v is looks)

    pub lowered_at : LoweredAt route old now lost
    lowered_at = record {
      lessened = lessened_at at is (λ image. LooksAhead image route.place route.spots.items route.first old_sets) look_ahead l.lessens;
      proved = λ image looks e k lt. l.proved image (look_ahead image looks) e (claimed image old) (claims image) k (let long = looks.are.long in omega (arith, long, lt));
    }
      where
        claims : (image : Reading) → Claims image (claimed image old) g old_sets
        claims image = record { before = λ k fact. ap (λ (fs : List Known). framed (function_at image g) fs k fact) is; entry = λ h fact. refl; exit = λ h fact. refl }

-- ---- later

apart : (a b : ℕ) → nat_eq a b ≡ false → a ≡ b → ⊥
apart a b e q = not_both (sym e ∙ eq-eqb a b q)
  where
    not_both : false ≡ true → ⊥
    not_both c = cc

module _ (old new : Family) (w : FewerAll old new) where
  frame_later : (k m : ℕ) (at : Option ℕ) → IsFrame (sets_at old k) m at → IsFrame (sets_at new k) m at
  frame_later k m None f = f
  frame_later k m (Some r) f = let s = w.shape k in ((let l = f.0 in let e = s.frames in omega (arith, l, e)), s.frame r ∙ f.1)

  pub fits_later : (other : Route) → RouteFits other old → RouteFits other new
  fits_later other f =
      let g = other.place.function in
      record {
        place = place_later other.place (sets_at old g) (sets_at new g) (w.shape g) (w.facts g).frames f.place;
        spots = λ k d lt. spot_later other.place (sets_at old g) (sets_at new g) (get_or other.spots.items k d) (w.shape g) (f.spots k d lt);
        there = (let t = f.there in let e = (w.shape g).entries in omega (arith, t, e));
        frames = (let t = f.frames in let e = w.long in omega (arith, t, e));
        entry = (w.shape g).entry g ∙ f.entry;
        room = f.room;
        over = λ fact is. f.over fact ((w.facts g).entries g fact is);
        first = frame_later g (suc (suc other.place.result)) other.first f.first;
      }

  pub looks_later : (image : Reading) (other : Route) → IsRoute image old other → IsRoute image new other
  looks_later image other k =
      let g = other.place.function in
      record {
        are = k.are;
        begins = k.begins;
        alone = k.alone;
        inside = k.inside;
        frames = λ r fact is. k.frames r fact ((w.facts g).frames r fact is);
        entry = λ fact is. k.entry fact ((w.facts g).entries g fact is);
        main = k.main;
      }

  pub all_fit : (routes : List Route) → All (λ (route : Route). RouteFits route old) routes → All (λ (route : Route). RouteFits route new) routes
  all_fit routes all k d lt = fits_later (get_or routes k d) (all k d lt)

  pub all_look : (routes : List Route) (image : Reading) → All (IsRoute image old) routes → All (IsRoute image new) routes
  all_look routes image all k d lt = looks_later image (get_or routes k d) (all k d lt)

pub fewer_all_none : (m : Family) → FewerAll m m
fewer_all_none m = record { long = refl; shape = λ k. shape_none (sets_at m k); facts = λ k. fewer_none (sets_at m k) }

pub fewer_all_then : (old mid new : Family) → FewerAll old mid → FewerAll mid new → FewerAll old new
fewer_all_then old mid new a b = record {
  long = b.long ∙ a.long;
  shape = λ k. shape_then (sets_at old k) (sets_at mid k) (sets_at new k) (a.shape k) (b.shape k);
  facts = λ k. fewer_then (sets_at old k) (sets_at mid k) (sets_at new k) (a.facts k) (b.facts k);
}

pub lessened_none : (routes : List Route) (m : Family) → Lessened routes m m
lessened_none routes m = record { fewer = fewer_all_none m; keeps = λ image all proofs good i. i }

pub lessened_then : (routes : List Route) (old mid new : Family) → Lessened routes old mid → Lessened routes mid new → Lessened routes old new
lessened_then routes old mid new a b = record {
  fewer = fewer_all_then old mid new a.fewer b.fewer;
  keeps = λ image all proofs good i. b.keeps image (all_look old mid a.fewer routes image all) proofs good (a.keeps image all proofs good i);
}

module _ (route : Route) (old new : Family) (lost : Bool) (l : LessenedAt route old new lost) where
  abbrev here : ℕ
  here = route.place.function

  -- of any function the sets are as many, and have no more facts
  shape_at : (k : ℕ) → SameShape (sets_at old k) (sets_at new k)
  shape_at k = by (nat_eq k here) refl
    where
      by : (b : Bool) → nat_eq k here ≡ b → SameShape (sets_at old k) (sets_at new k)
      by true e = subst (λ j. SameShape (sets_at old j) (sets_at new j)) (sym (eqb-true k here e)) l.lessens.shape
      by false e = record {
        entries = l.lessens.shape.entries;
        exits = l.lessens.shape.exits;
        frames = ap length (l.others k (apart k here e));
        entry = l.lessens.shape.entry;
        exit = l.lessens.shape.exit;
        frame = λ p. ap (λ (fs : List Known). (get_or fs p no_set).variables) (l.others k (apart k here e));
      }

  fewer_at : (k : ℕ) → FewerFacts (sets_at old k) (sets_at new k)
  fewer_at k = record { entries = l.lessens.fewer.entries; exits = l.lessens.fewer.exits; frames = λ r fact. by r fact (nat_eq k here) refl }
    where
      by : (r : ℕ) (fact : Fact) (b : Bool) → nat_eq k here ≡ b → IsTrue (set_at (get_or new.frames k []) r fact) → IsTrue (set_at (get_or old.frames k []) r fact)
      by r fact true e is = subst (λ j. IsTrue (set_at (get_or old.frames j []) r fact)) (sym (eqb-true k here e)) (l.lessens.fewer.frames r fact (subst (λ j. IsTrue (set_at (get_or new.frames j []) r fact)) (eqb-true k here e) is))
      by r fact false e is = subst (λ (fs : List Known). IsTrue (set_at fs r fact)) (l.others k (apart k here e)) is

  pub fewer_there : FewerAll old new
  fewer_there = record { long = l.long; shape = shape_at; facts = fewer_at }

  pub keeps_inside : (image : Reading) → IsRoute image old route → (proofs : Annotation) → ProveFunction image proofs here → Inside proofs (claimed image old) → Inside proofs (claimed image new)
  keeps_inside image looks proofs good i = record { before = before; entry = kept.entry; exit = kept.exit }
    where
      kept : IsIn image proofs here (sets_at new here)
      kept = (l.lessens.lowers image looks).keeps proofs good (record { before = λ at fact is. i.before here at fact is; entry = i.entry; exit = i.exit })

      before : (k at : ℕ) (fact : Fact) → IsTrue (proofs.before k at fact) → IsTrue (framed (function_at image k) (get_or new.frames k []) at fact)
      before k at fact = by (nat_eq k here) refl
        where
          by : (b : Bool) → nat_eq k here ≡ b → IsTrue (proofs.before k at fact) → IsTrue (framed (function_at image k) (get_or new.frames k []) at fact)
          by true e is = subst (λ j. IsTrue (framed (function_at image j) (get_or new.frames j []) at fact)) (sym (eqb-true k here e)) (kept.before at fact (subst (λ j. IsTrue (proofs.before j at fact)) (eqb-true k here e) is))
          by false e is = subst (λ (fs : List Known). IsTrue (framed (function_at image k) fs at fact)) (sym (l.others k (apart k here e))) (i.before k at fact is)

-- ---- rounds

one_more : (k m : ℕ) → k < m + 1 → (k < m) ⊎ (k ≡ m)
one_more k m lt = by (order k m)
  where
    by : (k < m) ⊎ ((k ≡ m) ⊎ (m < k)) → (k < m) ⊎ (k ≡ m)
    by (inl l) = inl l
    by (inr (inl e)) = inr e
    by (inr (inr l)) = absurd (omega (arith, l, lt))

-- a function of the routes was lowered
pub lessened_there : (routes : List Route) (k : ℕ) (route : Route) (old new : Family) (lost : Bool) → k < length routes → route ≡ get_or routes k route → LessenedAt route old new lost → Lessened routes old new
lessened_there routes k route old new lost within is l = record {
  fewer = fewer_there route old new lost l;
  keeps = λ image all proofs good i. keeps_inside route old new lost l image (own (IsRoute image old) all) proofs (own (λ (x : Route). ProveFunction image proofs x.place.function) good) i;
}
  where
    own : (P : Route → Type 0) → All P routes → P route
    own P all = subst P (sym is) (all k route within)

pub rounded_none : (routes : List Route) (m : Family) → Rounded routes 0 m m false
rounded_none routes m = record { lessened = lessened_none routes m; shrinks = refl; proved = λ image all e j route lt. absurd (omega (arith, lt)) }

pub rounded_more : (routes : List Route) (k : ℕ) (route : Route) (old mid new : Family) (l1 l2 : Bool) → k < length routes → route ≡ get_or routes k route → slice_get routes k ≡ Some route → Rounded routes k old mid l1 → LoweredAt route mid new l2 → Rounded routes (k + 1) old new (l1 || l2)
rounded_more routes k route old mid new l1 l2 within is at r l = record {
  lessened = lessened_then routes old mid new r.lessened (lessened_there routes k route mid new l2 within is l.lessened);
  shrinks = by l1 l2 r.shrinks l.lessened.shrinks;
  proved = λ image all e j other lt there. proved image all e j other there (one_more j k lt);
}
  where
    own : (P : Route → Type 0) → All P routes → P route
    own P all = subst P (sym is) (all k route within)

    by : (a b : Bool) → MatchBool a (facts_of mid < facts_of old) (mid ≡ old) → MatchBool b (facts_of new < facts_of mid) (new ≡ mid) → MatchBool (a || b) (facts_of new < facts_of old) (new ≡ old)
    by true true x y = omega (arith, x, y)
    by true false x y = subst (λ m. facts_of m < facts_of old) (sym y) x
    by false true x y = subst (λ m. facts_of new < facts_of m) x y
    by false false x y = y ∙ x

    first : (a b : Bool) → (a || b) ≡ false → a ≡ false
    first true b e = e
    first false b e = refl

    second : (a b : Bool) → (a || b) ≡ false → b ≡ false
    second true b e = absurd (no e)
      where
        no : true ≡ false → ⊥
        no c = cc
    second false b e = e

    some_is : (x y : Route) → Some x ≡ Some y → x ≡ y
    some_is x y e = cc

    proved : (image : Reading) → All (IsRoute image old) routes → (l1 || l2) ≡ false → (j : ℕ) (other : Route) → slice_get routes j ≡ Some other → (j < k) ⊎ (j ≡ k) → (at : ℕ) → at < length (function_at image other.place.function).code → ProvedBare image (claimed image old) other.place.function at
    proved image all e j other there (inl lt) = r.proved image all (first l1 l2 e) j other lt there
    proved image all e j other there (inr q) =
        let same : mid ≡ old = subst (λ b. MatchBool b (facts_of mid < facts_of old) (mid ≡ old)) (first l1 l2 e) r.shrinks in
        let one : route ≡ other = some_is route other (sym at ∙ ap (slice_get routes) (sym q) ∙ there) in
        subst (λ (x : Route). (i : ℕ) → i < length (function_at image x.place.function).code → ProvedBare image (claimed image old) x.place.function i) one
        (subst (λ m. (i : ℕ) → i < length (function_at image route.place.function).code → ProvedBare image (claimed image m) route.place.function i) same (l.proved image (own (IsRoute image mid) (all_look old mid r.lessened.fewer routes image all)) (second l1 l2 e)))

-- ---- searches

pub found_last : (routes : List Route) (start mid new : Family) (lost : Bool) → lost ≡ false → Lessened routes start mid → Rounded routes (length routes) mid new lost → Found routes start new
found_last routes start mid new lost e s r = record {
  lessened = lessened_then routes start mid new s r.lessened;
  proved = λ image all j route lt there at inside. subst (λ m. ProvedBare image (claimed image m) route.place.function at) (sym same) (r.proved image (all_look start mid s.fewer routes image all) e j route lt there at inside);
}
  where
    same : new ≡ mid
    same = subst (λ b. MatchBool b (facts_of new < facts_of mid) (new ≡ mid)) e r.shrinks
