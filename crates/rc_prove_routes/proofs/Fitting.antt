-- The sets with which a search begins suit the ways through functions.
use Rattle.std.proofs.Common.{◌≡◌, ◌∙◌, ◌⊎◌, inl, inr, ℕ, zero, suc, ◌+◌, ◌-◌, ◌<◌, ◌≤◌, Bool, true, false, IsTrue, List, [], ◌∷◌, length, take, get_or, slice_get, Option, Some, None, refl, sym, ap, subst, arith}
use Rattle.std.specs.List.{All}
use Rattle.std.proofs.lemmas.List.{length-map}
use Rattle.rc_facts.specs.declared.fact.Fact.{Fact}
use Rattle.rc_facts.specs.Facts.{Known, holds, is_over}
use Rattle.rc_facts.specs.Flow.{no_set, set_at}
use Rattle.rc_edges.specs.Edges.{all_below, EffectBelow}
use Rattle.rc_edges.specs.Boundaries.{Callable, CallReady}
use Rattle.rc_crossing.specs.Fitting.{CallFits}
use Rattle.rc_rlang.specs.RegionFlow.{Effect, called}
use Rattle.rc_code.specs.declared.opcode.Typed.TheVariants as typed
use Rattle.rc_code.specs.declared.opcode.Simple.TheVariants as simple
use Rattle.rc_code.specs.declared.instruction.Instruction.{Instruction}
use Rattle.rc_code.specs.declared.instruction.Instruction.TheVariants as instruction
use Rattle.rc_code.specs.declared.image.Function.{Function}
use Rattle.rc_code.specs.declared.image.Parts.{Parts}
use Rattle.rc_code.specs.Running.{Reading, reading_of, function_at, path_at, cell_at, storage_of}
use Rattle.rc_code.specs.Soundness.{ArePins, FunctionIsSound, IsFine, Names, Sound, instruction_at, is_regional, local_in}
use Rattle.rc_claims.specs.Counts.{copies, place, regional_result, regionals, trues}
use Rattle.rc_sealed.specs.ImageVariables.{result_variable, variables}
use Rattle.rc_sealed.specs.Carrying.{effect_of, height, if_regional, is_target, load_effect, lowest, regional_places, effect_at}
use Rattle.rc_sealed.specs.Faults.{NoneIsWide}
use Rattle.rc_sealed.proofs.Carry.{trues_bound}
use Rattle.rc_image_shapes.proofs.Counting.{not_wide}
use Rattle.rc_image_steps.specs.Sites.{AreExits}
use Rattle.rc_image_steps.proofs.Below.{arguments_long, call_fits, effect_below}
use Rattle.rc_image_steps.proofs.Facts.{below_at, over_more}
use Rattle.rc_image_steps.proofs.Places.{height_fits, is_fine, low_reaches, lowest_below, reach_fits}
use Rattle.rc_image_steps.proofs.Stepping.{call_room}
use Rattle.rc_prove_parts.specs.declared.spot.Spot.{Spot}
use Rattle.rc_prove_parts.specs.declared.route.Route.{Route}
use Rattle.rc_prove.specs.declared.start.Counts.{Counts}
use Rattle.rc_prove.specs.Sets.{rank}
use Rattle.rc_prove.specs.Visiting.{IsFrame, SpotFits, SpotIs}
use Rattle.rc_prove.specs.Family.{Family, IsRoute, RouteFits, sets_at}
use Rattle.rc_prove.specs.Starting.{AreFull, CountsFit, IsBegun, IsFull}
use Rattle.rc_prove_routes.specs.Routed.{AreFirst, IsCounted, IsRouteThrough}
use Rattle.rc_prove_routes.proofs.Gathering.{all_of, there}
use Rattle.rc_prove_routes.proofs.Ranking.{at_most_one, none_true, ranks_below, target_inside}

order : (a b : ℕ) → (a < b) ⊎ (b ≤ a)
order a b = grind arith

-- ---- a call is of what is there

if_ready : (b : Bool) (e : Effect) (n : ℕ) (entries : List Known) → CallReady e n entries → CallReady (if_regional b e) n entries
if_ready true e n entries r = r
if_ready false e n entries r = λ x h a is. cc

load_ready : (b : Bool) (e d : Effect) (n : ℕ) (entries : List Known) → CallReady e n entries → CallReady d n entries → CallReady (load_effect b e d) n entries
load_ready true e d n entries r s = r
load_ready false e d n entries r s = s

called_parts : (x y : Option ℕ) (g h : ℕ) (a b : List ℕ) → called x g a ≡ called y h b → (g ≡ h) × (a ≡ b)
called_parts x y g h a b e = (cc, cc)

module _ (image : Reading) (f : Function) (low high n : ℕ) (entries : List Known) where
  abbrev places : ℕ → List ℕ
  places g = regional_places f (take (function_at image g).parameters (regionals (function_at image g))) low

  call_ready : (i : Instruction) → ((g : ℕ) (pins : List ℕ) → i ≡ instruction.Call g pins → Callable g (places g) n entries) → CallReady (effect_of image f low high i) n entries
  call_ready (instruction.Call g pins) call = λ x h a e. (let p = called_parts _ x g h (places g) a e in subst (λ b. Callable h b n entries) p.1 (subst (λ k. Callable k (places g) n entries) p.0 (call g pins refl)))
  call_ready (instruction.Constant k v) call = λ x h a e. cc
  call_ready (instruction.Global g) call = λ x h a e. cc
  call_ready (instruction.Get y) call = if_ready (is_regional (local_in f y)) _ n entries (λ x h a e. cc)
  call_ready (instruction.Set y) call = if_ready (is_regional (local_in f y)) _ n entries (λ x h a e. cc)
  call_ready (instruction.Load p) call = load_ready (is_regional (storage_of image (cell_at image (path_at image p)))) _ _ n entries (λ x h a e. cc) (λ x h a e. cc)
  call_ready (instruction.Store p b) call = λ x h a e. cc
  call_ready (instruction.Typed typed.Null y) call = λ x h a e. cc
  call_ready (instruction.Typed typed.Same y) call = λ x h a e. cc
  call_ready (instruction.Typed typed.IsNull y) call = λ x h a e. cc
  call_ready (instruction.Typed typed.RegionOf y) call = λ x h a e. cc
  call_ready (instruction.Typed typed.Allocate y) call = λ x h a e. cc
  call_ready (instruction.Typed typed.AllocateArray y) call = λ x h a e. cc
  call_ready (instruction.Arithmetic o k) call = λ x h a e. cc
  call_ready (instruction.Move y k d) call = λ x h a e. cc
  call_ready (instruction.Simple simple.NullRegion) call = λ x h a e. cc
  call_ready (instruction.Simple simple.SameRegion) call = λ x h a e. cc
  call_ready (instruction.Simple simple.IsZero) call = λ x h a e. cc
  call_ready (instruction.Simple simple.IsNullRegion) call = λ x h a e. cc
  call_ready (instruction.Simple simple.ToInt) call = λ x h a e. cc
  call_ready (instruction.Simple simple.ToUnsigned) call = λ x h a e. cc
  call_ready (instruction.Simple simple.ToChar) call = λ x h a e. cc
  call_ready (instruction.Simple simple.NewRegion) call = λ x h a e. cc
  call_ready (instruction.Simple simple.NewSubregion) call = λ x h a e. cc
  call_ready (instruction.Simple simple.Return) call = if_ready (regional_result f.result) _ n entries (λ x h a e. cc)
  call_ready (instruction.Simple simple.PutChar) call = λ x h a e. cc
  call_ready (instruction.Simple simple.GetChar) call = λ x h a e. cc
  call_ready (instruction.Simple simple.Pop) call = λ x h a e. cc
  call_ready (instruction.Delete pins) call = λ x h a e. cc
  call_ready (instruction.Jump j to) call = λ x h a e. cc

all_own : (s : ℕ) (xs : List ℕ) → all_below s xs → All (λ v. v < suc s) xs
all_own s xs all i d lt = below_more i d lt (below_at s xs all i lt) (same xs i d lt)
  where
    same : (ys : List ℕ) (j e : ℕ) → j < length ys → get_or ys j e ≡ get_or ys j 0
    same [] j e l = absurd (omega (arith, l))
    same (y ∷ ys) zero e l = refl
    same (y ∷ ys) (suc j) e l = same ys j e (omega (arith, l))

    below_more : (j e : ℕ) → j < length xs → get_or xs j 0 < s → get_or xs j e ≡ get_or xs j 0 → get_or xs j e < suc s
    below_more j e l b q = omega (arith, b, q)

-- ---- full sets

none_held : (fact : Fact) → holds no_set fact ≡ false
unfolding holds
none_held fact = refl

full_over : (count n : ℕ) (set : Known) → IsFull count n set → (fact : Fact) → IsTrue (holds set fact) → IsTrue (is_over count fact)
full_over count n set full fact is = sym (full.facts fact) ∙ is

past_set : (sets : List Known) (r : ℕ) → length sets ≤ r → get_or sets r no_set ≡ no_set
past_set [] r le = refl
past_set (s ∷ sets) zero le = absurd (omega (arith, le))
past_set (s ∷ sets) (suc r) le = past_set sets r (omega (arith, le))

frames_over : (count n many : ℕ) (sets : List Known) → AreFull count n many sets → (r : ℕ) (fact : Fact) → IsTrue (set_at sets r fact) → IsTrue (is_over count fact)
frames_over count n many sets are r fact is = by (order r many)
  where
    by : (r < many) ⊎ (many ≤ r) → IsTrue (is_over count fact)
    by (inl lt) = full_over count n (get_or sets r no_set) (are.each r lt) fact is
    by (inr le) =
        let p = past_set sets r (let l = are.long in omega (arith, l, le)) in
        let x : true ≡ false = sym is ∙ ap (λ (s : Known). holds s fact) p ∙ none_held fact in
        cc

-- ---- counts

module _ (parts : Parts) (g : ℕ) (c : Counts) (is : IsCounted parts g c) where
  abbrev own : Function
  own = function_at (reading_of parts) g

  pub counts_fit : variables (reading_of parts) own ≤ 128 → CountsFit c
  counts_fit narrow =
      let a = is.are.copies in
      let b = is.are.answers in
      let d = is.are.locals in
      let v = is.variables in
      let o = at_most_one (regional_result own.result) in
      record {
        copies = omega (arith, a, narrow);
        answers = omega (arith, a, b, o);
        few = omega (arith, a, narrow);
        locals = omega (arith, d, v);
        variables = omega (arith, v, narrow);
      }

pub narrow_at : (parts : Parts) → NoneIsWide parts → (g : ℕ) → g < length parts.functions → variables (reading_of parts) (function_at (reading_of parts) g) ≤ 128
narrow_at parts narrow g lt = not_wide (variables (reading_of parts) (function_at (reading_of parts) g)) (narrow g lt)

-- hidden copies are of parameters, each of which is a local too
copies_twice : (image : Reading) (f : Function) → copies f + copies f ≤ result_variable image f
copies_twice image f =
    let b = trues_bound (regionals f) f.parameters in
    let m : trues (regionals f) (length (regionals f)) ≡ trues (regionals f) (length f.locals) = ap (trues (regionals f)) (length-map f.locals is_regional) in
    omega (arith, b, m)

-- ---- routes

module _ (parts : Parts) (sound : Sound parts) (narrow : NoneIsWide parts) (routes : List Route) (counts : List Counts) (are : AreFirst parts (length parts.functions) routes counts) (m : Family) (begun : IsBegun counts (length counts) m) where
  abbrev image : Reading
  image = reading_of parts

  counted : (h : ℕ) → h < length parts.functions → (c : Counts) × (slice_get counts h ≡ Some c) × IsCounted parts h c
  counted h lt = (let c = there counts h (let l = are.counted in omega (arith, lt, l)) in (c.0, c.1, are.count h c.0 c.1))

  within : (h : ℕ) → h < length parts.functions → h < length counts
  within h lt = let l = are.counted in omega (arith, lt, l)

  exits_are : AreExits parts m.exits
  exits_are = record {
    long = begun.exits ∙ are.counted;
    each = λ h lt. (
        let c = counted h lt in
        let w = (begun.exit_full h c.0 (within h lt) c.1).wide in
        let a = c.2.are.copies in
        let o = at_most_one (regional_result (function_at image h).result) in
        omega (arith, w, a, o));
  }

  module _ (route : Route) (here : route.place.function < length parts.functions) (is : IsRouteThrough image route.place.function route) where
    abbrev g : ℕ
    g = route.place.function

    abbrev f : Function
    f = function_at image g

    f_sound : FunctionIsSound true image f
    f_sound = sound.functions g here

    abbrev c : Counts
    c = (counted g here).0

    c_is : IsCounted parts g c
    c_is = (counted g here).2

    entry_full : IsFull c.copies c.copies (get_or m.entries g no_set)
    entry_full = begun.entry_full g c (within g here) (counted g here).1

    exit_full : IsFull c.answers (suc c.copies) (get_or m.exits g no_set)
    exit_full = begun.exit_full g c (within g here) (counted g here).1

    frames_full : AreFull c.locals c.variables c.targets (get_or m.frames g [])
    frames_full = begun.frames_full g c (within g here) (counted g here).1

    entry_over : (fact : Fact) → IsTrue (set_at m.entries g fact) → IsTrue (is_over (copies f) fact)
    entry_over fact e = subst (λ n. IsTrue (is_over n fact)) c_is.are.copies (full_over c.copies c.copies _ entry_full fact e)

    locals_over : (r : ℕ) (fact : Fact) → IsTrue (set_at (get_or m.frames g []) r fact) → IsTrue (is_over (place f 0) fact)
    locals_over r fact e = subst (λ n. IsTrue (is_over n fact)) c_is.are.locals (frames_over c.locals c.variables c.targets (get_or m.frames g []) frames_full r fact e)

    -- a target has its set
    framed : (to r : ℕ) → is_target f to ≡ true → rank f to ≡ r → IsFrame (sets_at m g) (suc (suc route.place.result)) (Some r)
    framed to r t e =
        let b = ranks_below f to (length f.code) (target_inside image f f_sound to t) t in
        let k = c_is.are.targets in
        let lt : r < c.targets = omega (arith, b, k, e) in
        let l = frames_full.long in
        (omega (arith, lt, l), (frames_full.each r lt).wide ∙ c_is.variables ∙ ap (λ n. suc (suc n)) (sym is.are.result))

    frame_if : (at : Option ℕ) → ((r : ℕ) → at ≡ Some r → (to : ℕ) × (is_target f to ≡ true) × (rank f to ≡ r)) → IsFrame (sets_at m g) (suc (suc route.place.result)) at
    frame_if None h = tt
    frame_if (Some r) h = let t = h r refl in framed t.0 r t.1 t.2

    callable : (at h : ℕ) (pins : List ℕ) → at < length f.code → instruction_at f at ≡ instruction.Call h pins → all_below (suc route.place.result) (regional_places f (take (function_at image h).parameters (regionals (function_at image h))) (lowest image f at)) → Callable h (regional_places f (take (function_at image h).parameters (regionals (function_at image h))) (lowest image f at)) (suc (suc route.place.result)) m.entries
    callable at h pins lt e below =
        let n : (h < length parts.functions) × ArePins f pins = subst (Names true image f) e (is_fine image f f_sound at lt).names in
        let k = counted h n.0 in
        let long = arguments_long f (function_at image h) (lowest image f at) in
        let w = (begun.entry_full h k.0 (within h n.0) k.1).wide in
        let a = k.2.are.copies in
        let few = narrow_at parts narrow h n.0 in
        record {
          there = (let t : h < length parts.functions = n.0 in let i = begun.entries in let j = are.counted in omega (arith, t, i, j));
          places = w ∙ a ∙ sym long;
          few = omega (arith, long, few);
          own = all_own (suc route.place.result) _ below;
        }

    module _ (at : ℕ) (lt : at < length f.code) (spot : Spot) (spot_is : SpotIs image g at spot) where
      fine : IsFine true image f at (instruction_at f at)
      fine = is_fine image f f_sound at lt

      fits : place f (height image f at) ≤ route.place.result
      fits = let h = height_fits image f at (omega (arith, lt)) in let r = is.are.result in omega (arith, h, r)

      low_fits : place f (lowest image f at) ≤ route.place.result
      low_fits = let l = lowest_below image f at in let h = fits in omega (arith, l, h)

      room : (h : ℕ) (pins : List ℕ) → instruction_at f at ≡ instruction.Call h pins → place f (lowest image f at + length (take (function_at image h).parameters (regionals (function_at image h)))) ≤ suc route.place.result
      room h pins e = let r = call_room image f at h pins fine e in let b = fits in omega (arith, r, b)

      below : EffectBelow (suc route.place.result) (effect_at image f at)
      below = effect_below image f (suc route.place.result) (lowest image f at) (height image f at - 1)
          (let l = low_fits in omega (arith, l)) (let h = fits in omega (arith, h)) (let r = is.are.result in omega (arith, r)) (instruction_at f at) room

      arguments_below : (h : ℕ) (pins : List ℕ) → instruction_at f at ≡ instruction.Call h pins → all_below (suc route.place.result) (regional_places f (take (function_at image h).parameters (regionals (function_at image h))) (lowest image f at))
      arguments_below h pins e = (subst (λ (i : Instruction). EffectBelow (suc route.place.result) (effect_of image f (lowest image f at) (height image f at - 1) i)) e below).1

      pub spot_fits : SpotFits route.place (sets_at m g) spot
      spot_fits = record {
        below = subst (EffectBelow (suc route.place.result)) (sym spot_is.effect) below;
        call = subst (CallFits m.exits) (sym spot_is.effect) (call_fits parts f m.exits exits_are (lowest image f at) (height image f at - 1) (instruction_at f at) fine.names);
        ready = subst (λ (e : Effect). CallReady e (suc (suc route.place.result)) m.entries) (sym spot_is.effect)
            (call_ready image f (lowest image f at) (height image f at - 1) (suc (suc route.place.result)) m.entries (instruction_at f at) (λ h pins e. callable at h pins lt e (arguments_below h pins e)));
        low = (let l = spot_is.low in let t = spot_is.top in let r = low_reaches image f at in omega (arith, l, t, r));
        top = (let t = spot_is.top in let r = reach_fits image f at lt in let p = is.are.result in omega (arith, t, r, p));
        jumped = frame_if spot.jumped (λ r e. (let t = spot_is.leads.jumps r e in (t.0, t.2, t.3)));
        fallen = frame_if spot.fallen (λ r e. (let t = spot_is.leads.falls r e in (t.0, t.2, t.3)));
        next = frame_if spot.next (λ r e. (let t = spot_is.leads.follows r e in (suc at, t.0, t.1)));
      }

    few : suc route.place.result < 128
    few = let n = narrow_at parts narrow g here in let r = is.are.result in omega (arith, n, r)

    pub route_fits : RouteFits route m
    route_fits = record {
      place = record {
        there = (let h : g < length parts.functions = here in let i = begun.exits in let j = are.counted in omega (arith, h, i, j));
        own = exit_full.wide ∙ ap suc (c_is.are.copies ∙ sym is.are.copies);
        copies = (let a = is.are.copies in let r = is.are.result in omega (arith, a, r));
        few = few;
        frames = λ r fact e. over_more (place f 0) (suc route.place.result) (let p = is.are.result in omega (arith, p)) fact (locals_over r fact e);
      };
      spots = all_of (SpotFits route.place (sets_at m g)) route.spots.items (λ at spot lt e. spot_fits at (let l = is.are.long in omega (arith, lt, l)) spot (is.are.each at spot e));
      there = (let h : g < length parts.functions = here in let i = begun.entries in let j = are.counted in omega (arith, h, i, j));
      frames = (let h : g < length parts.functions = here in let i = begun.frames in let j = are.counted in omega (arith, h, i, j));
      entry = entry_full.wide ∙ c_is.are.copies ∙ sym is.are.copies;
      room = (let t = copies_twice image f in let a = is.are.copies in let r = is.are.result in omega (arith, t, a, r));
      over = λ fact e. subst (λ n. IsTrue (is_over n fact)) (sym is.are.copies) (entry_over fact e);
      first = frame_if route.first (λ r e. (let t = is.begins r e in (0, t.0, t.1)));
    }

    main_has_none : g ≡ parts.main → copies f ≡ 0
    main_has_none e =
        let p : f.parameters ≡ 0 = ap (λ k. (function_at image k).parameters) e ∙ sound.main_takes in
        ap (trues (regionals f)) p ∙ none_true (regionals f)

    pub route_looks : IsRoute image m route
    route_looks = record {
      are = is.are;
      begins = is.begins;
      alone = is.alone;
      inside = f_sound.begins;
      frames = locals_over;
      entry = entry_over;
      main = main_has_none;
    }
