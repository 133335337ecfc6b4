-- A path leads from a function's first stop to a deletion exactly where it may delete.
use Rattle.std.proofs.Common.{◌≡◌, ◌∙◌, ◌↔◌, ◌⊎◌, inl, inr, ℕ, zero, suc, ◌+◌, ◌<◌, ◌≤◌, true, false, IsTrue, List, [], ◌∷◌, length, get_or, Some, None, refl, sym, ap, subst, arith}
use Rattle.std.proofs.lemmas.Option.{slice_get-get_or}
use Rattle.rc_code.specs.declared.opcode.Simple.TheVariants as simple
use Rattle.rc_code.specs.declared.instruction.Instruction.{Instruction}
use Rattle.rc_code.specs.declared.instruction.Instruction.TheVariants as instruction
use Rattle.rc_code.specs.declared.image.Function.{Function}
use Rattle.rc_code.specs.declared.image.Parts.{Parts}
use Rattle.rc_code.specs.Running.{reading_of, function_at}
use Rattle.rc_code.specs.Soundness.{Sound, instruction_at}
use Rattle.rc_stops.specs.declared.stop.Stop.{Stop}
use Rattle.rc_stops.specs.Paths.{stop_at, is_it, Leads, UsedOn, got, on}
use Rattle.rc_base.specs.BitSets.{marks}
use Rattle.rc_stops.specs.Rows.{row_at, StopFits, AllFit}
use Rattle.rc_sealed.specs.Pinned.{MayDelete, deletes, calls}
use Rattle.rc_deleters.specs.Calls.{stops_if, deletion_stop, call_stop, end_stop, code_stops, image_stops, code_at, first_of, first_in, AreFirsts}
use Rattle.rc_deleters.proofs.Standing.{some, Stands, a_deletion, a_call, the_end, stands, found, falls_on}
use Rattle.rc_deleters.proofs.Places.{in_block, inside, place_of}

not_both : false ≡ true → ⊥
not_both c = cc

is_there : (fs : List Function) (g at : ℕ) → at < length (code_at fs g) → g < length fs
is_there [] g at lt = absurd (omega (arith, lt))
is_there (f ∷ fs) zero at lt = omega arith
is_there (f ∷ fs) (suc g) at lt = let l = is_there fs g at lt in omega (arith, l)

some_same : (a b : ℕ) → Some a ≡ Some b → a ≡ b
some_same a b e = cc

-- calls name functions that are there
abbrev pub HasCalls : Parts → Type 0
HasCalls parts = (g at h : ℕ) (pins : List ℕ) → instruction_at (function_at (reading_of parts) g) at ≡ instruction.Call h pins → h < length parts.functions

module _ (parts : Parts) (has : HasCalls parts) (first : ℕ → ℕ) (firsts : (h : ℕ) → h < length parts.functions → first h ≡ first_of parts.functions h) where
  abbrev fs : List Function
  fs = parts.functions

  abbrev stops : List Stop
  stops = image_stops first fs

  abbrev block : ℕ → List Stop
  block g = code_stops first (code_at fs g)

  here : (p g k : ℕ) → p ≡ first_of fs g + k → g < length fs → k < length (block g) → (s : Stop) → stop_at (block g) k ≡ s → stop_at stops p ≡ s
  here p g k e there below s is = ap (stop_at stops) e ∙ in_block first fs g k there below ∙ is

  abbrev Again : ℕ → Type 0
  Again to = (g k : ℕ) → to ≡ first_of fs g + k → g < length fs → k < length (block g) → MayDelete (reading_of parts) g

  by_got : (p g k : ℕ) → p ≡ first_of fs g + k → g < length fs → k < length (block g) → is_it (stop_at stops p).gets 0 ≡ true → Stands first (code_at fs g) k → MayDelete (reading_of parts) g
  by_got p g k e there below is (a_deletion at pins l q s more) = deletes at l pins q
  by_got p g k e there below is (a_call at h pins l q s more) = absurd (not_both (sym (ap (λ (t : Stop). is_it t.gets 0) (here p g k e there below (call_stop (first h)) s)) ∙ is))
  by_got p g k e there below is (the_end last s) = absurd (not_both (sym (ap (λ (t : Stop). is_it t.gets 0) (here p g k e there below end_stop s)) ∙ is))

  by_on : (p to g k : ℕ) → p ≡ first_of fs g + k → g < length fs → k < length (block g) → Leads (stop_at stops p) p to → Again to → Stands first (code_at fs g) k → MayDelete (reading_of parts) g
  by_on p to g k e there below way again (a_deletion at pins l q s more) = deletes at l pins q
  by_on p to g k e there below way again (a_call at h pins l q s more) = by (subst (λ (t : Stop). Leads t p to) (here p g k e there below (call_stop (first h)) s) way)
    where
      lead : first h ≡ to → MayDelete (reading_of parts) g
      lead e1 =
          let below_h = has g at h pins q in
          let f = firsts h below_h in
          calls at l pins q (again h 0 (omega (arith, e1, f)) below_h (some first (code_at fs h)))

      by : Leads (call_stop (first h)) p to → MayDelete (reading_of parts) g
      by (inl w) = let n = w.1 in again g (suc k) (omega (arith, n, e)) there more
      by (inr w) = lead (some_same (first h) to w)
  by_on p to g k e there below way again (the_end last s) = by (subst (λ (t : Stop). Leads t p to) (here p g k e there below end_stop s) way)
    where
      by : Leads end_stop p to → MayDelete (reading_of parts) g
      by (inl w) = absurd (not_both w.0)
      by (inr w) = let c : None ≡ Some to = w in cc

  to_may : {p : ℕ} → UsedOn stops 0 p → (g k : ℕ) → p ≡ first_of fs g + k → g < length fs → k < length (block g) → MayDelete (reading_of parts) g
  to_may (got {at = p} lt is) g k e there below = by_got p g k e there below is (stands first (code_at fs g) k below)
  to_may (on {at = p} {to = to} lt unset way next) g k e there below = by_on p to g k e there below way (λ g1 k1 e1 t1 b1. to_may next g1 k1 e1 t1 b1) (stands first (code_at fs g) k below)

  -- ---- and back

  reach : (g : ℕ) → g < length fs → (k : ℕ) → k < length (block g) → UsedOn stops 0 (first_of fs g + k) → UsedOn stops 0 (first_of fs g)
  reach g there zero below u = let q : first_of fs g + 0 ≡ first_of fs g = omega arith in subst (UsedOn stops 0) q u
  reach g there (suc k) below u =
      let f = falls_on first (code_at fs g) k below in
      let lt : k < length (block g) = omega (arith, below) in
      let same = in_block first fs g k there lt in
      let way : Leads (stop_at stops (first_of fs g + k)) (first_of fs g + k) (first_of fs g + suc k) = inl (ap (λ (t : Stop). t.falls) same ∙ f.falls, omega arith) in
      reach g there k lt (on (inside first fs g k there lt) (ap (λ (t : Stop). is_it t.sets 0) same ∙ ap (λ o. is_it o 0) f.sets) way u)

  from_may : {g : ℕ} → MayDelete (reading_of parts) g → UsedOn stops 0 (first_of fs g)
  from_may (deletes {g = g} at lt pins e) =
      let there = is_there fs g at lt in
      let f = found first (code_at fs g) at deletion_stop lt (subst (λ (i : Instruction). stops_if first i ≡ deletion_stop ∷ []) (sym e) refl) in
      reach g there f.k f.below (got (inside first fs g f.k there f.below) (ap (λ (t : Stop). is_it t.gets 0) (in_block first fs g f.k there f.below ∙ f.is)))
  from_may (calls {g = g} {h = h} at lt pins e m) =
      let there = is_there fs g at lt in
      let f = found first (code_at fs g) at (call_stop (first h)) lt (subst (λ (i : Instruction). stops_if first i ≡ call_stop (first h) ∷ []) (sym e) refl) in
      let same = in_block first fs g f.k there f.below ∙ f.is in
      let way : Leads (stop_at stops (first_of fs g + f.k)) (first_of fs g + f.k) (first_of fs h) = inr (ap (λ (t : Stop). t.leads) same ∙ ap Some (firsts h (has g at h pins e))) in
      reach g there f.k f.below (on (inside first fs g f.k there f.below) (ap (λ (t : Stop). is_it t.sets 0) same) way (from_may m))

  pub told : (g : ℕ) → g < length fs → UsedOn stops 0 (first_of fs g) ↔ MayDelete (reading_of parts) g
  told g there = (λ u. to_may u g 0 (omega arith) there (some first (code_at fs g)), λ m. from_may m)

  pub starts_inside : (g : ℕ) → g < length fs → first_of fs g < length stops
  starts_inside g there = let l = inside first fs g 0 there (some first (code_at fs g)) in omega (arith, l)

  -- ---- stops fit

  pub all_fit : AllFit stops
  all_fit p lt = let q = place_of first fs p lt in by q.g q.k q.is q.there q.below (stands first (code_at fs q.g) q.k q.below)
    where
      by : (g k : ℕ) → p ≡ first_of fs g + k → g < length fs → k < length (block g) → Stands first (code_at fs g) k → StopFits (length stops) p (stop_at stops p)
      by g k e there below (a_deletion at pins l q s more) =
          subst (StopFits (length stops) p) (sym (here p g k e there below deletion_stop s)) (record { gets = omega arith; sets = tt; falls = λ f. (let i = inside first fs g (suc k) there more in omega (arith, i, e)); leads = tt })
      by g k e there below (a_call at h pins l q s more) =
          let below_h = has g at h pins q in
          let f = firsts h below_h in
          let i = starts_inside h below_h in
          subst (StopFits (length stops) p) (sym (here p g k e there below (call_stop (first h)) s)) (record { gets = tt; sets = tt; falls = λ w. (let n = inside first fs g (suc k) there more in omega (arith, n, e)); leads = omega (arith, f, i) })
      by g k e there below (the_end last s) =
          subst (StopFits (length stops) p) (sym (here p g k e there below end_stop s)) (record { gets = tt; sets = tt; falls = λ w. absurd (not_both w); leads = tt })

-- ---- sound images

beyond : (code : List Instruction) (at : ℕ) → length code ≤ at → get_or code at (instruction.Simple simple.Return) ≡ instruction.Simple simple.Return
beyond [] at le = refl
beyond (i ∷ code) zero le = absurd (omega (arith, le))
beyond (i ∷ code) (suc at) le = beyond code at (omega (arith, le))

pub has_calls : (parts : Parts) → Sound parts → HasCalls parts
has_calls parts sound g at h pins is = by (order at (length (function_at (reading_of parts) g).code))
  where
    order : (a b : ℕ) → (a < b) ⊎ (b ≤ a)
    order a b = grind arith

    by : (at < length (function_at (reading_of parts) g).code) ⊎ (length (function_at (reading_of parts) g).code ≤ at) → h < length parts.functions
    by (inl lt) =
        let fine = (sound.functions g (is_there parts.functions g at lt)).fine at (instruction.Call h pins) (slice_get-get_or (function_at (reading_of parts) g).code at (instruction.Simple simple.Return) lt ∙ ap Some is) in
        fine.names.0
    by (inr le) = let c : instruction.Simple simple.Return ≡ instruction.Call h pins = sym (beyond (function_at (reading_of parts) g).code at le) ∙ is in cc

-- ---- rows of an image's stops

module _ (parts : Parts) (sound : Sound parts) (firsts : List ℕ) (stops : List Stop) (is : stops ≡ image_stops (first_in firsts) parts.functions) (are : AreFirsts parts.functions firsts) where
  pub stops_fit : AllFit stops
  stops_fit = subst AllFit (sym is) (all_fit parts (has_calls parts sound) (first_in firsts) are.each)

  starts : (g : ℕ) → g < length parts.functions → first_in firsts g < length stops
  starts g lt =
      let l = starts_inside parts (has_calls parts sound) (first_in firsts) are.each g lt in
      let f = are.each g lt in
      let e : length stops ≡ length (image_stops (first_in firsts) parts.functions) = ap length is in
      omega (arith, l, f, e)

  pub rows_there : (rows : List ℕ) → length rows ≡ length stops → (g : ℕ) → g < length parts.functions → first_in firsts g < length rows
  rows_there rows long g lt = let l = starts g lt in omega (arith, l, long)

  pub rows_tell : (rows : List ℕ) → ((at x : ℕ) → at < length stops → IsTrue (marks (row_at rows at) x) ↔ UsedOn stops x at) → (g : ℕ) → g < length parts.functions → IsTrue (marks (row_at rows (first_in firsts g)) 0) ↔ MayDelete (reading_of parts) g
  rows_tell rows used g lt =
      let u = used (first_in firsts g) 0 (starts g lt) in
      let t = told parts (has_calls parts sound) (first_in firsts) are.each g lt in (
        λ m. t.0 (subst (λ (ss : List Stop). UsedOn ss 0 (first_of parts.functions g)) is (subst (UsedOn stops 0) (are.each g lt) (u.0 m))),
        λ m. u.1 (subst (UsedOn stops 0) (sym (are.each g lt)) (subst (λ (ss : List Stop). UsedOn ss 0 (first_of parts.functions g)) (sym is) (t.1 m))),
      )
