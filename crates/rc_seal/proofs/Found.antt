-- What is found of an image.
use Rattle.std.proofs.Common.{◌≡◌, ◌∙◌, ◌⊎◌, ℕ, ◌+◌, ◌<◌, Bool, nat_eq, List, [], ◌∷◌, ◌++◌, length, map, get_or, Some, Vec, Global, sym, ap, subst, inl, inr, arith}
use Rattle.std.specs.Prelude.{slice_get}
use Rattle.std.specs.List.{All, list_any}
use Rattle.std.proofs.lemmas.List.{length-append, map-append, get_or_append_left}
use Rattle.std.proofs.lemmas.Option.{get_or_from_slice_get}
use Rattle.std.proofs.lemmas.Grind.{common_steps}
use Rattle.rc_annotations.specs.Laws.{Inside}
use Rattle.rc_code.specs.declared.image.Parts.{Parts}
use Rattle.rc_code.specs.Running.{Reading, reading_of, function_at}
use Rattle.rc_claims.specs.declared.proofs.Frame.{Frame}
use Rattle.rc_claims.specs.declared.proofs.Proofs.{Proofs}
use Rattle.rc_claims.specs.Claims.{known_at, ProofsFit}
use Rattle.rc_sealed.specs.Carrying.{is_target}
use Rattle.rc_sealed.specs.Claimed.{annotation_of}
use Rattle.rc_greatest_proofs.specs.Marks.{ProvedBare}
use Rattle.rc_prove_parts.specs.declared.route.Route.{Route}
use Rattle.rc_prove.specs.declared.start.Counts.{Counts}
use Rattle.rc_prove.specs.Family.{Family, claimed, IsRoute}
use Rattle.rc_prove.specs.TheGreatest.{AreRoutes, AreGreatest}
use Rattle.rc_prove_marks.specs.Checked.{TellsChecked}
use Rattle.rc_seal.specs.Marking.{bits_of}
use Rattle.rc_seal.specs.Finding.{AreFirstMarks, AreMarks, AreFound}

-- ---- marks of one function after another

module _ (routes : List Route) (m : Family) (n : ℕ) (all more : List (Vec Bool Global)) (marks : Vec Bool Global) where
  pub one_more : (route : Route) → slice_get routes n ≡ Some route → AreFirstMarks routes m n (map bits_of all) → more ≡ all ++ marks ∷ []
      → ((image : Reading) → IsRoute image m route → TellsChecked image (claimed image m) route.place.function marks.items) → AreFirstMarks routes m (n + 1) (map bits_of more)
  one_more route here first is tells = subst (AreFirstMarks routes m (n + 1)) (sym (ap (map bits_of) is ∙ map-append bits_of all (marks ∷ []))) (record {
    long = length-append (map bits_of all) (marks.items ∷ []) ∙ (let l = first.long in omega (arith, l));
    each = λ k r lt there image looks. elim (order k lt) [
      | inl l ↦ subst (TellsChecked image (claimed image m) r.place.function) (sym (get_or_append_left (map bits_of all) (marks.items ∷ []) [] k (let e = first.long in omega (arith, e, l)))) (first.each k r l there image looks)
      | inr e ↦ subst (TellsChecked image (claimed image m) r.place.function) (sym (at_end k e))
          (subst (λ (x : Route). TellsChecked image (claimed image m) x.place.function marks.items) (same k r e there) (tells image (subst (IsRoute image m) (sym (same k r e there)) looks)))
    ];
  })
    where
      order : (k : ℕ) → k < n + 1 → (k < n) ⊎ (k ≡ n)
      order k lt = grind arith

      at_end : (k : ℕ) → k ≡ n → get_or (map bits_of all ++ marks.items ∷ []) k [] ≡ marks.items
      at_end k e = let l = first.long in grind (arith, common_steps)

      same : (k : ℕ) (r : Route) → k ≡ n → slice_get routes k ≡ Some r → route ≡ r
      same k r e there = told (sym here ∙ ap (slice_get routes) (sym e) ∙ there)
        where
          told : Some route ≡ Some r → route ≡ r
          told e = cc

-- ---- marks of all functions

pub all_tell : (parts : Parts) (routes : List Route) (counts : List Counts) (m : Family) (marks : List (List Bool)) → AreRoutes parts routes counts → All (IsRoute (reading_of parts) m) routes → AreMarks routes m marks
    → (g : ℕ) → g < length parts.functions → TellsChecked (reading_of parts) (claimed (reading_of parts) m) g (get_or marks g [])
all_tell parts routes counts m marks are looks first g lt =
    let way = are.way g lt in
    subst (λ k. TellsChecked (reading_of parts) (claimed (reading_of parts) m) k (get_or marks g [])) way.2
    (first.each g way.0 (let w = are.ways in omega (arith, w, lt)) way.1 (reading_of parts) (theirs way.0 way.1))
  where
    theirs : (route : Route) → slice_get routes g ≡ Some route → IsRoute (reading_of parts) m route
    theirs route there = subst (IsRoute (reading_of parts) m) (get_or_from_slice_get routes g route route there) (looks g route (let w = are.ways in omega (arith, w, lt)))

-- ---- all that is found

pub are_found : (parts : Parts) (m : Family) (proofs : Proofs) (marks : List (List Bool)) → ProofsFit parts proofs → annotation_of parts proofs ≡ claimed (reading_of parts) m
    → ((g at : ℕ) → g < length parts.functions → list_any (λ (frame : Frame). nat_eq frame.at at) (known_at proofs g).frames ≡ is_target (function_at (reading_of parts) g) at) → AreGreatest parts m
    → ((g : ℕ) → g < length parts.functions → TellsChecked (reading_of parts) (claimed (reading_of parts) m) g (get_or marks g [])) → AreFound parts proofs marks
are_found parts m proofs marks fits same frames are tell = record {
  fits = fits;
  frames = frames;
  proved = λ g at lt there. subst (λ a. ProvedBare (reading_of parts) a g at) (sym same) (are.proved g at lt there);
  greatest = λ others admitted. subst (Inside others) (sym same) (are.greatest others admitted);
  tells = λ g lt. subst (λ a. TellsChecked (reading_of parts) a g (get_or marks g [])) (sym same) (tell g lt);
}
