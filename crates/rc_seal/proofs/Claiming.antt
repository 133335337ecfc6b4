-- What is claimed of the functions of an image, by their sets.
use Rattle.std.proofs.Common.{◌≡◌, ◌∙◌, ◌⊎◌, inl, inr, ℕ, zero, suc, ◌+◌, ◌<◌, ◌≤◌, ◌&&◌, Bool, true, false, nat_eq, List, [], ◌∷◌, ◌++◌, length, get_or, Some, refl, sym, ap, subst, arith}
use Rattle.std.proofs.Math.Path.{fun_ext}
use Rattle.std.specs.List.{list_any}
use Rattle.std.proofs.lemmas.Bool.{cases_lt}
use Rattle.std.proofs.lemmas.List.{get_or_read, length-append}
use Rattle.std.proofs.lemmas.List.Elements.{All-get_or}
use Rattle.std.proofs.lemmas.Option.{slice_get-get_or}
use Rattle.rc_facts.specs.declared.fact.Fact.{Fact}
use Rattle.rc_facts.specs.Facts.{Known, holds, is_over}
use Rattle.rc_annotations.specs.Annotations.{Facts, Annotation}
use Rattle.rc_facts.specs.Flow.{no_set, set_at}
use Rattle.rc_code.specs.declared.image.Function.{Function}
use Rattle.rc_code.specs.declared.image.Parts.{Parts}
use Rattle.rc_code.specs.Running.{reading_of, function_at}
use Rattle.rc_claims.specs.declared.proofs.Known.{Known as Claims}
use Rattle.rc_claims.specs.declared.proofs.Frame.{Frame}
use Rattle.rc_claims.specs.declared.proofs.Proofs.{Proofs}
use Rattle.rc_claims.specs.Bits.{bit_in, bit_number, claims, BitsFit}
use Rattle.rc_claims.specs.Claims.{known_at, no_known, frame_facts, ProofsFit}
use Rattle.rc_claims.proofs.BitLaws.{no_bit_is}
use Rattle.rc_claims.specs.Counts.{copies, exit_count, frame_count}
use Rattle.rc_sealed.specs.Carrying.{is_target}
use Rattle.rc_sealed.specs.Claimed.{annotation_of}
use Rattle.rc_prove.specs.declared.start.Counts.{Counts}
use Rattle.rc_prove.specs.Sets.{rank, framed}
use Rattle.rc_prove.specs.Family.{claimed, Family}
use Rattle.rc_prove.specs.Starting.{AreWithin, IsWithin, CountsFit}
use Rattle.rc_prove.specs.TheGreatest.{AreCounts}
use Rattle.rc_seal.specs.declared.claims.Sets.{Sets}
use Rattle.rc_seal.specs.Claiming.{family, AreFirstKnown, AreFramesAt, IsKnownOf, IsReady}
use Rattle.rc_seal.proofs.Targets.{both_same, none_there}

-- ---- one function

pub record IsOne (parts : Parts) (m : Family) (g : ℕ) (c : Counts) : Type 0 where
  pub fit : CountsFit c
  pub are : AreCounts parts g c
  pub entered : g < length m.entries
  pub entry : IsWithin c.copies c.copies (get_or m.entries g no_set)
  pub left : g < length m.exits
  pub exit : IsWithin c.answers (suc c.copies) (get_or m.exits g no_set)
  pub frames : AreWithin c.locals c.variables c.targets (get_or m.frames g [])

some_is : (a b : Counts) → Some a ≡ Some b → a ≡ b
some_is a b e = cc

pub one : (sets : Sets) → IsReady sets → (g : ℕ) → g < length sets.parts.now.functions → (d : Counts) → IsOne sets.parts.now (family sets) g (get_or sets.counts.now g d)
one sets ready g lt d =
    let there : g < length sets.counts.now = (let l = ready.counts.counted in omega (arith, l, lt)) in
    let found = slice_get-get_or sets.counts.now g d there in
    let s = ready.counts.count g lt in
    record {
      fit = All-get_or (λ (c : Counts). CountsFit c) sets.counts.now g d there ready.fit;
      are = subst (AreCounts sets.parts.now g) (some_is s.0 (get_or sets.counts.now g d) (sym s.1 ∙ found)) s.2;
      entered = (let l = ready.shaped.entries in omega (arith, l, there));
      entry = ready.shaped.entry g (get_or sets.counts.now g d) found;
      left = (let l = ready.shaped.exits in omega (arith, l, there));
      exit = ready.shaped.exit g (get_or sets.counts.now g d) found;
      frames = ready.shaped.frame g (get_or sets.counts.now g d) found;
    }

module _ (parts : Parts) (m : Family) (g : ℕ) (c : Counts) (is : IsOne parts m g c) where
  abbrev f : Function
  f = function_at (reading_of parts) g

  pub locals_within : AreWithin (frame_count f) c.variables c.targets (get_or m.frames g [])
  locals_within = subst (λ n. AreWithin n c.variables c.targets (get_or m.frames g [])) is.are.locals is.frames

  pub as_many : (frames : List Known) → frames ≡ get_or m.frames g [] → length frames ≡ rank f (length f.code)
  as_many frames are = ap length are ∙ is.frames.long ∙ is.are.targets

  pub wide_enough : (n : ℕ) (frames : List Known) → n ≡ frame_count f → frames ≡ get_or m.frames g [] → (r : ℕ) → r < length frames → n ≤ (get_or frames r no_set).variables
  wide_enough n frames count are r lt =
      let lower = ap length are in
      let there : r < c.targets = (let l = is.frames.long in omega (arith, l, lower, lt)) in
      let wide = (is.frames.each r there).wide in
      let same = ap (λ (xs : List Known). (get_or xs r no_set).variables) are in
      let most = is.fit.locals in
      let locals = is.are.locals in
      omega (arith, wide, same, most, locals, count)

abbrev pub no_counts : Counts
no_counts = record { copies = 0; answers = 0; locals = 0; variables = 0; targets = 0 }

-- ---- what is claimed of it

module _ (parts : Parts) (m : Family) (g : ℕ) (c : Counts) (is : IsOne parts m g c) where
  pub known_is : (entry exit : Known) (known : Claims) → entry ≡ get_or m.entries g entry → exit ≡ get_or m.exits g exit
      → ((fact : Fact) → claims c.copies known.entry fact ≡ (is_over c.copies fact && holds entry fact)) → BitsFit c.copies known.entry
      → ((fact : Fact) → claims c.answers known.exit fact ≡ (is_over c.answers fact && holds exit fact)) → BitsFit c.answers known.exit
      → AreFramesAt parts m g known.frames → IsKnownOf parts m g known
  known_is entry exit known entry_is exit_is enters entry_fits leaves exit_fits frames = record {
    entry_fits = subst (λ n. BitsFit n known.entry) is.are.copies entry_fits;
    entry = λ fact.
        ap (λ n. claims n known.entry fact) (sym is.are.copies)
        ∙ enters fact
        ∙ ap (λ (s : Known). is_over c.copies fact && holds s fact) (get_or_read m.entries g entry is.entered entry_is no_set)
        ∙ both_same (is_over c.copies fact) (set_at m.entries g fact) (is.entry.facts fact);
    exit_fits = subst (λ n. BitsFit n known.exit) is.are.answers exit_fits;
    exit = λ fact.
        ap (λ n. claims n known.exit fact) (sym is.are.answers)
        ∙ leaves fact
        ∙ ap (λ (s : Known). is_over c.answers fact && holds s fact) (get_or_read m.exits g exit is.left exit_is no_set)
        ∙ both_same (is_over c.answers fact) (set_at m.exits g fact) (is.exit.facts fact);
    frames = frames;
  }

-- ---- the first functions

get_before : (xs : List Claims) (y : Claims) (i : ℕ) → i < length xs → get_or (xs ++ y ∷ []) i no_known ≡ get_or xs i no_known
get_before [] y i lt = absurd (omega (arith, lt))
get_before (x ∷ xs) y zero lt = refl
get_before (x ∷ xs) y (suc i) lt = get_before xs y i (omega (arith, lt))

get_last : (xs : List Claims) (y : Claims) → get_or (xs ++ y ∷ []) (length xs) no_known ≡ y
get_last [] y = refl
get_last (x ∷ xs) y = get_last xs y

module _ (parts : Parts) (m : Family) where
  pub none_known : (all : List Claims) → all ≡ [] → AreFirstKnown parts m 0 all
  none_known all e = record { long = ap length e; each = λ g lt. absurd (omega (arith, lt)) }

  pub one_more_known : (number : ℕ) (all new : List Claims) (known : Claims) → new ≡ all ++ known ∷ [] → IsKnownOf parts m number known → AreFirstKnown parts m number all → AreFirstKnown parts m (number + 1) new
  one_more_known number all new known e is are = subst (AreFirstKnown parts m (number + 1)) (sym e) (record {
    long = (let l = are.long in let a = length-append all (known ∷ []) in omega (arith, l, a));
    each = λ g lt. by g (cases_lt g number) lt;
  })
    where
      by : (g : ℕ) → (g < number) ⊎ (number ≤ g) → g < number + 1 → IsKnownOf parts m g (get_or (all ++ known ∷ []) g no_known)
      by g (inl l) lt = subst (IsKnownOf parts m g) (sym (get_before all known g (let q = are.long in omega (arith, l, q)))) (are.each g l)
      by g (inr le) lt =
          let q : number ≡ g = omega (arith, le, lt) in
          subst (λ k. IsKnownOf parts m k (get_or (all ++ known ∷ []) k no_known)) q
          (subst (IsKnownOf parts m number) (sym (ap (λ k. get_or (all ++ known ∷ []) k no_known) (sym are.long) ∙ get_last all known)) is)

-- ---- all of them

nothing_known : (all : List Claims) (g : ℕ) → length all ≤ g → get_or all g no_known ≡ no_known
nothing_known [] g le = refl
nothing_known (x ∷ all) zero le = absurd (omega (arith, le))
nothing_known (x ∷ all) (suc g) le = nothing_known all g (omega (arith, le))

nothing_claimed : (n : ℕ) (fact : Fact) → claims n [] fact ≡ false
nothing_claimed n fact = neither (is_over n fact) (bit_in [] (bit_number n fact)) (no_bit_is [] (bit_number n fact) refl)
  where
    neither : (a b : Bool) → b ≡ false → (a && b) ≡ false
    neither true b e = e
    neither false b e = refl

no_sets : (all : List (List Known)) (g : ℕ) → length all ≤ g → get_or all g [] ≡ []
no_sets [] g le = refl
no_sets (x ∷ all) zero le = absurd (omega (arith, le))
no_sets (x ∷ all) (suc g) le = no_sets all g (omega (arith, le))

module _ (sets : Sets) (ready : IsReady sets) (all : List Claims) (are : AreFirstKnown sets.parts.now (family sets) (length sets.parts.now.functions) all) where
  abbrev parts : Parts
  parts = sets.parts.now

  abbrev m : Family
  m = family sets

  abbrev proofs : Proofs
  proofs = record { functions = all }

  abbrev function : ℕ → Function
  function g = function_at (reading_of parts) g

  pub they_fit : ProofsFit parts proofs
  they_fit = record {
    long = are.long;
    each = λ g lt. record {
      entry = (are.each g lt).entry_fits;
      exit = (are.each g lt).exit_fits;
      frames = (are.each g lt).frames.fit;
      order = (are.each g lt).frames.order;
    };
  }

  pub at_targets : (g at : ℕ) → g < length parts.functions → list_any (λ (frame : Frame). nat_eq frame.at at) (known_at proofs g).frames ≡ is_target (function g) at
  at_targets g at lt = (are.each g lt).frames.there at

  behind : (g : ℕ) → length parts.functions ≤ g → known_at proofs g ≡ no_known
  behind g le = nothing_known all g (let l = are.long in omega (arith, l, le))

  entries : (g : ℕ) (fact : Fact) → claims (copies (function g)) (known_at proofs g).entry fact ≡ set_at m.entries g fact
  entries g fact = by (cases_lt g (length parts.functions))
    where
      by : (g < length parts.functions) ⊎ (length parts.functions ≤ g) → claims (copies (function g)) (known_at proofs g).entry fact ≡ set_at m.entries g fact
      by (inl lt) = (are.each g lt).entry fact
      by (inr le) =
          ap (λ (k : Claims). claims (copies (function g)) k.entry fact) (behind g le)
          ∙ nothing_claimed (copies (function g)) fact
          ∙ sym (none_there m.entries g fact (let l = ready.shaped.entries in let n = ready.counts.counted in omega (arith, l, n, le)))

  exits : (g : ℕ) (fact : Fact) → claims (exit_count (function g)) (known_at proofs g).exit fact ≡ set_at m.exits g fact
  exits g fact = by (cases_lt g (length parts.functions))
    where
      by : (g < length parts.functions) ⊎ (length parts.functions ≤ g) → claims (exit_count (function g)) (known_at proofs g).exit fact ≡ set_at m.exits g fact
      by (inl lt) = (are.each g lt).exit fact
      by (inr le) =
          ap (λ (k : Claims). claims (exit_count (function g)) k.exit fact) (behind g le)
          ∙ nothing_claimed (exit_count (function g)) fact
          ∙ sym (none_there m.exits g fact (let l = ready.shaped.exits in let n = ready.counts.counted in omega (arith, l, n, le)))

  frames : (g at : ℕ) (fact : Fact) → frame_facts (frame_count (function g)) (known_at proofs g).frames at fact ≡ framed (function g) (get_or m.frames g []) at fact
  frames g at fact = by (cases_lt g (length parts.functions))
    where
      by : (g < length parts.functions) ⊎ (length parts.functions ≤ g) → frame_facts (frame_count (function g)) (known_at proofs g).frames at fact ≡ framed (function g) (get_or m.frames g []) at fact
      by (inl lt) = (are.each g lt).frames.facts at fact
      by (inr le) =
          ap (λ (k : Claims). frame_facts (frame_count (function g)) k.frames at fact) (behind g le)
          ∙ sym (ap (λ (xs : List Known). framed (function g) xs at fact) (no_sets m.frames g (let l = ready.shaped.frames in let n = ready.counts.counted in omega (arith, l, n, le))) ∙ none (is_target (function g) at) (rank (function g) at))
        where
          none : (b : Bool) (r : ℕ) → (b && set_at [] r fact) ≡ false
          none true r = none_there [] r fact (omega arith)
          none false r = refl

  abbrev made : (before : ℕ → ℕ → Facts) (entry exit : ℕ → Facts) → Annotation
  made before entry exit = record { before = before; entry = entry; exit = exit }

  pub they_claim : annotation_of parts proofs ≡ claimed (reading_of parts) m
  they_claim =
      ap (λ (b : ℕ → ℕ → Facts). made b (annotation_of parts proofs).entry (annotation_of parts proofs).exit) (fun_ext (λ g. fun_ext (λ at. fun_ext (λ fact. frames g at fact))))
      ∙ ap (λ (b : ℕ → Facts). made (claimed (reading_of parts) m).before b (annotation_of parts proofs).exit) (fun_ext (λ g. fun_ext (λ fact. entries g fact)))
      ∙ ap (λ (b : ℕ → Facts). made (claimed (reading_of parts) m).before (claimed (reading_of parts) m).entry b) (fun_ext (λ g. fun_ext (λ fact. exits g fact)))
