-- A search that begins with all facts finds the greatest.
use Rattle.std.proofs.Common.{◌≡◌, ◌∙◌, ℕ, suc, ◌+◌, ◌<◌, ◌≤◌, Bool, true, false, nat_lt, IsTrue, List, [], ◌∷◌, length, get_or, zero, refl, sym, ap, subst, inl, inr, ◌⊎◌, arith}
use Rattle.std.proofs.lemmas.Bool.{and_parts, and_from, ltb-true}
use Rattle.rc_facts.specs.declared.fact.Fact.{Fact}
use Rattle.rc_facts.specs.declared.fact.Fact.TheVariants.{In, Up, Trad, NonNull}
use Rattle.rc_facts.specs.Facts.{is_over}
use Rattle.rc_annotations.specs.Annotations.{Annotation}
use Rattle.rc_annotations.specs.Laws.{Inside}
use Rattle.rc_facts.specs.Flow.{set_at}
use Rattle.rc_code.specs.declared.image.Function.{Function}
use Rattle.rc_code.specs.declared.image.Parts.{Parts}
use Rattle.rc_code.specs.Running.{Reading, reading_of, function_at, no_function}
use Rattle.rc_claims.specs.Counts.{copies, exit_count, frame_count, one_if, regional_result}
use Rattle.rc_sealed.specs.Carrying.{is_target}
use Rattle.rc_greatest_proofs.specs.Admitted.{IsAdmitted}
use Rattle.rc_greatest_proofs.specs.Marks.{ProvedBare}
use Rattle.rc_greatest_proofs.proofs.Bare.{bare_back}
use Rattle.rc_prove_parts.specs.declared.route.Route.{Route}
use Rattle.rc_prove.specs.declared.start.Counts.{Counts}
use Rattle.rc_prove.specs.Sets.{rank, framed}
use Rattle.rc_prove.specs.Family.{Family, claimed, ProveAll, Found}
use Rattle.rc_prove.specs.Starting.{IsBegun}
use Rattle.rc_prove.specs.TheGreatest.{AreRoutes, AreGreatest}
use Rattle.rc_prove.proofs.Anew.{over_more}
use Rattle.rc_prove.proofs.Reaching.{rank_above}

none_over : (fact : Fact) → IsTrue (is_over 0 fact) → ⊥
none_over (In x y) e = let l = ltb-true x 0 (and_parts (nat_lt x 0) (nat_lt y 0) e).0 in omega (arith, l)
none_over (Up x y) e = let l = ltb-true x 0 (and_parts (nat_lt x 0) (nat_lt y 0) e).0 in omega (arith, l)
none_over (Trad x) e = let l = ltb-true x 0 e in omega (arith, l)
none_over (NonNull x) e = let l = ltb-true x 0 e in omega (arith, l)

order : (a b : ℕ) → (a < b) ⊎ ((a ≡ b) ⊎ (b < a))
order a b = grind arith

beyond : {X : Type 0} (xs : List X) (i : ℕ) (d : X) → length xs ≤ i → get_or xs i d ≡ d
beyond [] i d le = refl
beyond (x ∷ xs) zero d le = absurd (omega (arith, le))
beyond (x ∷ xs) (suc i) d le = beyond xs i d (omega (arith, le))

module _ (parts : Parts) (routes : List Route) (counts : List Counts) (are : AreRoutes parts routes counts) where
  abbrev image : Reading
  image = reading_of parts

  -- a function that is there, or one of no variables
  there_or : (g : ℕ) → (g < length parts.functions) ⊎ (function_at image g ≡ no_function)
  there_or g = by (order g (length parts.functions))
    where
      by : (g < length parts.functions) ⊎ ((g ≡ length parts.functions) ⊎ (length parts.functions < g)) → (g < length parts.functions) ⊎ (function_at image g ≡ no_function)
      by (inl l) = inl l
      by (inr (inl e)) = inr (beyond parts.functions g no_function (omega (arith, e)))
      by (inr (inr l)) = inr (beyond parts.functions g no_function (omega (arith, l)))

  nowhere : (count : Function → ℕ) → count no_function ≡ 0 → (g : ℕ) (fact : Fact) → function_at image g ≡ no_function → IsTrue (is_over (count (function_at image g)) fact) → ⊥
  nowhere count z g fact e over = none_over fact (subst (λ n. IsTrue (is_over n fact)) (ap count e ∙ z) over)

  module _ (others : Annotation) (admitted : IsAdmitted parts others) (m : Family) (begun : IsBegun counts (length counts) m) where
    in_counts : (g : ℕ) → g < length parts.functions → g < length counts
    in_counts g lt = let e = are.counted in omega (arith, e, lt)

    entries_in : (h : ℕ) (fact : Fact) → IsTrue (others.entry h fact) → IsTrue (set_at m.entries h fact)
    entries_in h fact is = by (there_or h)
      where
        by : (h < length parts.functions) ⊎ (function_at image h ≡ no_function) → IsTrue (set_at m.entries h fact)
        by (inr e) = absurd (nowhere copies refl h fact e (admitted.carried.entries h fact is))
        by (inl l) = let c = are.count h l in (begun.entry_full h c.0 (in_counts h l) c.1).facts fact ∙ subst (λ n. IsTrue (is_over n fact)) (sym c.2.copies) (admitted.carried.entries h fact is)

    exits_in : (h : ℕ) (fact : Fact) → IsTrue (others.exit h fact) → IsTrue (set_at m.exits h fact)
    exits_in h fact is = by (there_or h)
      where
        by : (h < length parts.functions) ⊎ (function_at image h ≡ no_function) → IsTrue (set_at m.exits h fact)
        by (inr e) = absurd (nowhere exit_count refl h fact e (admitted.carried.exits h fact is))
        by (inl l) = let c = are.count h l in (begun.exit_full h c.0 (in_counts h l) c.1).facts fact ∙ subst (λ n. IsTrue (is_over n fact)) (sym c.2.answers) (admitted.carried.exits h fact is)

    frames_in : (h at : ℕ) (fact : Fact) → IsTrue (others.before h at fact) → IsTrue (framed (function_at image h) (get_or m.frames h []) at fact)
    frames_in h at fact is = by (there_or h)
      where
        target : is_target (function_at image h) at ≡ true
        target = admitted.carried.targets h at fact is

        by : (h < length parts.functions) ⊎ (function_at image h ≡ no_function) → IsTrue (framed (function_at image h) (get_or m.frames h []) at fact)
        by (inr e) = absurd (nowhere frame_count refl h fact e (admitted.carried.frames h at fact is))
        by (inl l) =
            let c = are.count h l in
            let full = begun.frames_full h c.0 (in_counts h l) c.1 in
            let above = rank_above (function_at image h) at (length (function_at image h).code) target (are.stay h at target) in
            and_from (is_target (function_at image h) at) (set_at (get_or m.frames h []) (rank (function_at image h) at) fact) target
            ((full.each (rank (function_at image h) at) (let e = c.2.targets in omega (arith, above, e))).facts fact ∙ subst (λ n. IsTrue (is_over n fact)) (sym c.2.locals) (admitted.carried.frames h at fact is))

    begins_inside : Inside others (claimed image m)
    begins_inside = record { before = frames_in; entry = entries_in; exit = exits_in }

    one_more : (f : Function) → exit_count f ≤ suc (copies f)
    one_more f = by (regional_result f.result)
      where
        by : (b : Bool) → copies f + one_if b ≤ suc (copies f)
        by true = omega arith
        by false = omega arith

    prove_all : ProveAll image routes others
    prove_all k d lt = record {
      entries = admitted.carried.entries;
      exits = λ fact is. over_more (exit_count (function_at image (get_or routes k d).place.function)) (suc (copies (function_at image (get_or routes k d).place.function))) (one_more (function_at image (get_or routes k d).place.function)) fact (admitted.carried.exits (get_or routes k d).place.function fact is);
      proved = λ at inside. bare_back parts others (get_or routes k d).place.function at (admitted.proved (get_or routes k d).place.function at (are.theirs k d lt) inside);
    }

  pub are_greatest : (first m : Family) → IsBegun counts (length counts) first → Found routes first m → AreGreatest parts m
  are_greatest first m begun found = record {
    proved = λ g at lt inside. (let r = are.way g lt in
        subst (λ h. at < length (function_at image h).code → ProvedBare image (claimed image m) h at) r.2 (found.proved image (are.looks first begun) g r.0 (let e = are.ways in omega (arith, e, lt)) r.1 at) inside);
    greatest = λ others admitted. found.lessened.keeps image (are.looks first begun) others (prove_all others admitted first begun) (begins_inside others admitted first begun);
  }
