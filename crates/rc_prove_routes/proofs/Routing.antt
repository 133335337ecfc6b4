-- What is made of all functions.
use Rattle.std.proofs.Common.{◌≡◌, ◌∙◌, ◌⊎◌, inl, inr, ℕ, zero, suc, ◌+◌, ◌<◌, ◌≤◌, ◌++◌, ◌∷◌, [], true, false, List, length, get_or, refl, sym, ap, subst, arith}
use Rattle.std.specs.List.{All}
use Rattle.rc_code.specs.declared.image.Function.{Function}
use Rattle.rc_code.specs.declared.image.Parts.{Parts}
use Rattle.rc_code.specs.Running.{Reading, reading_of, function_at, no_function}
use Rattle.rc_code.specs.Soundness.{Sound}
use Rattle.rc_sealed.specs.Carrying.{is_target}
use Rattle.rc_sealed.specs.Faults.{NoneIsWide}
use Rattle.rc_prove_parts.specs.declared.spot.Spot.{Spot}
use Rattle.rc_prove_parts.specs.declared.route.Route.{Route}
use Rattle.rc_prove.specs.declared.start.Counts.{Counts}
use Rattle.rc_prove.specs.Visiting.{SpotIs}
use Rattle.rc_prove.specs.Family.{Family, IsRoute, RouteFits}
use Rattle.rc_prove.specs.Starting.{CountsFit, IsBegun}
use Rattle.rc_prove.specs.TheGreatest.{AreRoutes}
use Rattle.rc_prove_routes.specs.Routed.{AreFirst, AreFirstSpots, IsCounted, IsRouteThrough}
use Rattle.rc_prove_routes.proofs.Gathering.{all_of, each_more, each_none, long_more, there}
use Rattle.rc_prove_routes.proofs.Ranking.{target_inside}
use Rattle.rc_prove_routes.proofs.Fitting.{counts_fit, narrow_at, route_fits, route_looks}

-- ---- spots

pub spots_none : (image : Reading) (g : ℕ) (spots : List Spot) → spots ≡ [] → AreFirstSpots image g 0 spots
spots_none image g spots e = record { long = ap length e; each = each_none (SpotIs image g) spots e }

pub spots_more : (image : Reading) (g at : ℕ) (spots new : List Spot) (spot : Spot) → new ≡ spots ++ spot ∷ [] → SpotIs image g at spot → AreFirstSpots image g at spots → AreFirstSpots image g (at + 1) new
spots_more image g at spots new spot e is are = record { long = long_more spots new spot at e are.long; each = each_more (SpotIs image g) spots new spot at e are.long is are.each }

-- ---- routes

module _ (parts : Parts) where
  pub routes_none : (routes : List Route) (counts : List Counts) → routes ≡ [] → counts ≡ [] → AreFirst parts 0 routes counts
  routes_none routes counts r c = record { ways = ap length r; counted = ap length c; way = each_none (IsRouteThrough (reading_of parts)) routes r; count = each_none (IsCounted parts) counts c }

  pub routes_more : (k : ℕ) (routes new : List Route) (counts more : List Counts) (route : Route) (c : Counts) → new ≡ routes ++ route ∷ [] → more ≡ counts ++ c ∷ [] → IsRouteThrough (reading_of parts) k route → IsCounted parts k c → AreFirst parts k routes counts → AreFirst parts (k + 1) new more
  routes_more k routes new counts more route c r n is ok are = record {
    ways = long_more routes new route k r are.ways;
    counted = long_more counts more c k n are.counted;
    way = each_more (IsRouteThrough (reading_of parts)) routes new route k r are.ways is are.way;
    count = each_more (IsCounted parts) counts more c k n are.counted ok are.count;
  }

  past_function : (fs : List Function) (g : ℕ) → length fs ≤ g → get_or fs g no_function ≡ no_function
  past_function [] g le = refl
  past_function (f ∷ fs) zero le = absurd (omega (arith, le))
  past_function (f ∷ fs) (suc g) le = past_function fs g (omega (arith, le))

  module _ (sound : Sound parts) (narrow : NoneIsWide parts) (routes : List Route) (counts : List Counts) (are : AreFirst parts (length parts.functions) routes counts) where
    pub all_counts_fit : All (λ (c : Counts). CountsFit c) counts
    all_counts_fit = all_of (λ (c : Counts). CountsFit c) counts (λ g c lt e. counts_fit parts g c (are.count g c e) (narrow_at parts narrow g (let l = are.counted in omega (arith, lt, l))))

    -- of each of them, by what is known of it where it stands
    each_route : (P : Route → Type 0) → ((route : Route) → route.place.function < length parts.functions → IsRouteThrough (reading_of parts) route.place.function route → P route) → All P routes
    each_route P of = all_of P routes (λ g route lt e. (
        let w = are.way g route e in
        of route (let q = w.function in let l = are.ways in omega (arith, lt, q, l)) (subst (λ k. IsRouteThrough (reading_of parts) k route) (sym w.function) w)))

    pub all_fit : (m : Family) → IsBegun counts (length counts) m → All (λ (route : Route). RouteFits route m) routes
    all_fit m begun = each_route (λ (route : Route). RouteFits route m) (route_fits parts sound narrow routes counts are m begun)

    stays : (g at : ℕ) → (g < length parts.functions) ⊎ (length parts.functions ≤ g) → is_target (function_at (reading_of parts) g) at ≡ true → at < length (function_at (reading_of parts) g).code
    stays g at (inl lt) t = target_inside (reading_of parts) (function_at (reading_of parts) g) (sound.functions g lt) at t
    stays g at (inr le) t =
        let e : is_target (function_at (reading_of parts) g) at ≡ false = ap (λ (f : Function). is_target f at) (past_function parts.functions g le) in
        let x : true ≡ false = sym t ∙ e in
        cc

    order : (a b : ℕ) → (a < b) ⊎ (b ≤ a)
    order a b = grind arith

    pub are_routes : AreRoutes parts routes counts
    are_routes = record {
      ways = are.ways;
      counted = are.counted;
      way = λ g lt. (let r = there routes g (let l = are.ways in omega (arith, lt, l)) in (r.0, r.1, (are.way g r.0 r.1).function));
      theirs = each_route (λ (route : Route). route.place.function < length parts.functions) (λ route lt is. lt);
      count = λ g lt. (let c = there counts g (let l = are.counted in omega (arith, lt, l)) in (c.0, c.1, (are.count g c.0 c.1).are));
      looks = λ m begun. each_route (IsRoute (reading_of parts) m) (route_looks parts sound narrow routes counts are m begun);
      stay = λ g at t. stays g at (order g (length parts.functions)) t;
    }
