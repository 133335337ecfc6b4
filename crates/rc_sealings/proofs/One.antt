-- An image is sealed in one way, or refused for one thing.
use Rattle.std.proofs.Common.{◌≡◌, ◌≢◌, ◌<◌, ◌≤◌, ◌⊎◌, ◌∙◌, ◌++◌, ◌||◌, nat_eq, ℕ, zero, suc, Bool, true, false, List, [], ◌∷◌, length, get_or, IsTrue, inl, inr, refl, sym, ap, subst, arith}
use Rattle.std.specs.List.{AllByRecursion as Every, flat_map}
use Rattle.std.specs.Prelude.{if◌then◌else◌}
use Rattle.std.proofs.Math.ListN.{get_or-eq_default}
use Rattle.std.proofs.lemmas.Bool.{and_parts, cases_lt, cases_order}
use Rattle.std.proofs.lemmas.List.{ext_get_or}
use Rattle.rc_core.specs.Numbers.{IsByte}
use Rattle.rc_facts.specs.declared.fact.Fact.{Fact}
use Rattle.rc_facts.specs.Facts.{is_over}
use Rattle.rc_annotations.specs.Annotations.{Annotation}
use Rattle.rc_annotations.specs.Laws.{Inside}
use Rattle.rc_code.specs.declared.image.Function.{Function}
use Rattle.rc_code.specs.declared.image.Parts.{Parts}
use Rattle.rc_code.specs.Running.{reading_of, function_at}
use Rattle.rc_fields.specs.Spelling.{counted, number}
use Rattle.rc_image.specs.Spelling.{fields_bytes, start_bytes}
use Rattle.rc_image.specs.declared.version.Version.TheVariants.{Two}
use Rattle.rc_loader.specs.Unmarked.{unmarked_function, unmarked_instruction}
use Rattle.rc_loader.proofs.Marks.{as_long, function_is}
use Rattle.rc_claims.specs.declared.proofs.Frame.{Frame}
use Rattle.rc_claims.specs.declared.proofs.Known.{Known}
use Rattle.rc_claims.specs.declared.proofs.Proofs.{Proofs}
use Rattle.rc_claims.specs.Bits.{bit_in, bit_number, claims}
use Rattle.rc_claims.specs.Claims.{frame_facts, known_at, no_known}
use Rattle.rc_claims.specs.Counts.{copies, exit_count, frame_count}
use Rattle.rc_sealed.specs.Carrying.{is_target}
use Rattle.rc_sealed.specs.Claimed.{annotation_of}
use Rattle.rc_sealed.specs.Faults.{IsWide, StandsBefore}
use Rattle.rc_sealed.specs.ImageVariables.{variables}
use Rattle.rc_sealed.specs.Pinned.{Pinned}
use Rattle.rc_sealed.specs.Proved.{Proved}
use Rattle.rc_sealed.specs.declared.fault.ProofFault.{ProofFault}
use Rattle.rc_sealed.specs.declared.fault.ProofFault.TheVariants as proof_fault
use Rattle.rc_greatest_proofs.specs.Admitted.{IsAdmitted, MayBeCarried, Provable}
use Rattle.rc_greatest_proofs.proofs.Views.{same_variables}
use Rattle.rc_greatest_proofs.proofs.Bare.{bare_there, checked}
use Rattle.rc_greatest_proofs.proofs.Pins as pins
use Rattle.rc_greatest_proofs.specs.Sealed.{FirstUnpinned, IsPinFault, IsSealedAs}
use Rattle.rc_sealed_images.specs.Spelling.{claims_bytes, frame_bytes, known_bytes, sealing}
use Rattle.rc_sealings.specs.Laws.{IsOne}
use Rattle.rc_sealings.proofs.Faults.{one_wide}
use Rattle.rc_sealings.proofs.Frames.{AreBytes, ClaimTheSame, KnownIsBytes, has_frame, same_known}
use Rattle.rc_sealings.proofs.Marks.{same_image}

-- ---- what is stored are bytes, so what is claimed is

record TwoParts (xs ys : List ℕ) : Type 0 where
  pub front : Every IsByte xs
  pub back : Every IsByte ys

split_bytes : (xs ys : List ℕ) → Every IsByte (xs ++ ys) → TwoParts xs ys
split_bytes [] ys all = record { front = tt; back = all }
split_bytes (x ∷ xs) ys all = let rest = split_bytes xs ys all.1 in record { front = (all.0, rest.front); back = rest.back }

frames_are_bytes : (frames : List Frame) → Every IsByte (flat_map frame_bytes frames) → Every AreBytes frames
frames_are_bytes [] all = tt
frames_are_bytes (frame ∷ frames) all =
    let s = split_bytes (frame_bytes frame) (flat_map frame_bytes frames) all in
    ((split_bytes (number frame.at) frame.facts s.front).back, frames_are_bytes frames s.back)

known_is_bytes : (known : Known) → Every IsByte (known_bytes known) → KnownIsBytes known
known_is_bytes known all =
    let a = split_bytes (known.entry ++ known.exit) (counted frame_bytes known.frames) all in
    let b = split_bytes known.entry known.exit a.front in
    record { entry = b.front; exit = b.back; frames = frames_are_bytes known.frames (split_bytes (number (length known.frames)) (flat_map frame_bytes known.frames) a.back).back }

each_is_bytes : (knowns : List Known) (g : ℕ) → Every IsByte (flat_map known_bytes knowns) → KnownIsBytes (get_or knowns g no_known)
each_is_bytes [] g all = record { entry = tt; exit = tt; frames = tt }
each_is_bytes (known ∷ knowns) zero all = known_is_bytes known (split_bytes (known_bytes known) (flat_map known_bytes knowns) all).front
each_is_bytes (known ∷ knowns) (suc g) all = each_is_bytes knowns g (split_bytes (known_bytes known) (flat_map known_bytes knowns) all).back

are_bytes : (parts : Parts) (proofs : Proofs) → Every IsByte (sealing parts proofs) → (g : ℕ) → KnownIsBytes (known_at proofs g)
are_bytes parts proofs all g =
    each_is_bytes proofs.functions g (split_bytes (start_bytes Two ++ fields_bytes Two parts ++ number 1) (claims_bytes proofs) all).back

-- ---- the proofs of a sealed image are admitted by the image

frame_over : (n : ℕ) (frames : List Frame) (at : ℕ) (fact : Fact) → IsTrue (frame_facts n frames at fact) → IsTrue (is_over n fact)
frame_over n [] at fact e = absurd cc
frame_over n (frame ∷ frames) at fact e = by (nat_eq frame.at at) e (λ is. frame_over n frames at fact is)
  where
    by : (b : Bool) → IsTrue (if b then claims n frame.facts fact else frame_facts n frames at fact) → (IsTrue (frame_facts n frames at fact) → IsTrue (is_over n fact)) → IsTrue (is_over n fact)
    by true is later = (and_parts (is_over n fact) (bit_in frame.facts (bit_number n fact)) is).0
    by false is later = later is

frame_has : (n : ℕ) (frames : List Frame) (at : ℕ) (fact : Fact) → IsTrue (frame_facts n frames at fact) → has_frame frames at ≡ true
frame_has n [] at fact e = absurd cc
frame_has n (frame ∷ frames) at fact e = by (nat_eq frame.at at) e (λ is. frame_has n frames at fact is)
  where
    by : (b : Bool) → IsTrue (if b then claims n frame.facts fact else frame_facts n frames at fact) → (IsTrue (frame_facts n frames at fact) → has_frame frames at ≡ true) → (b || has_frame frames at) ≡ true
    by true is later = refl
    by false is later = later is

module _ (parts sealed : Parts) (proofs : Proofs) (is : IsSealedAs parts sealed proofs) where
  abbrev claimed : Annotation
  claimed = annotation_of sealed proofs

  same_function : (g : ℕ) → unmarked_function (function_at (reading_of sealed) g) ≡ unmarked_function (function_at (reading_of parts) g)
  same_function g = sym (function_is sealed g) ∙ ap (λ (p : Parts). function_at (reading_of p) g) is.same ∙ function_is parts g

  pub as_many : length sealed.functions ≡ length parts.functions
  as_many = sym (as_long unmarked_function sealed.functions) ∙ ap (λ (p : Parts). length p.functions) is.same ∙ as_long unmarked_function parts.functions

  pub as_much : (g : ℕ) → length (function_at (reading_of sealed) g).code ≡ length (function_at (reading_of parts) g).code
  as_much g = sym (as_long unmarked_instruction (function_at (reading_of sealed) g).code) ∙ ap (λ (f : Function). length f.code) (same_function g) ∙ as_long unmarked_instruction (function_at (reading_of parts) g).code

  there : (g : ℕ) → g < length parts.functions → g < length sealed.functions
  there g l = let e = as_many in omega (arith, e, l)

  inside : (g at : ℕ) → at < length (function_at (reading_of parts) g).code → at < length (function_at (reading_of sealed) g).code
  inside g at l = let e = as_much g in omega (arith, e, l)

  -- behind the last function nothing is claimed
  a_target : (g at : ℕ) (fact : Fact) → (g < length parts.functions) ⊎ (length parts.functions ≤ g) → IsTrue (claimed.before g at fact) → is_target (function_at (reading_of parts) g) at ≡ true
  a_target g at fact (inl l) e = sym (is.frames g at l) ∙ frame_has (frame_count (function_at (reading_of sealed) g)) (known_at proofs g).frames at fact e
  a_target g at fact (inr l) e =
      let long = is.fits.long in
      let many = as_many in
      let beyond : length proofs.functions ≤ g = omega (arith, long, many, l) in
      let none : known_at proofs g ≡ no_known = get_or-eq_default proofs.functions no_known {n = g} beyond in
      let wrong : false ≡ true = sym (ap (λ (known : Known). frame_facts (frame_count (function_at (reading_of sealed) g)) known.frames at fact) none) ∙ e in
      absurd cc

  may_be_carried : MayBeCarried parts claimed
  may_be_carried = record {
    entries = λ g fact e. subst (λ n. IsTrue (is_over n fact)) (ap copies (same_function g)) (and_parts (is_over (copies (function_at (reading_of sealed) g)) fact) (bit_in (known_at proofs g).entry (bit_number (copies (function_at (reading_of sealed) g)) fact)) e).0;
    exits = λ g fact e. subst (λ n. IsTrue (is_over n fact)) (ap exit_count (same_function g)) (and_parts (is_over (exit_count (function_at (reading_of sealed) g)) fact) (bit_in (known_at proofs g).exit (bit_number (exit_count (function_at (reading_of sealed) g)) fact)) e).0;
    frames = λ g at fact e. subst (λ n. IsTrue (is_over n fact)) (ap frame_count (same_function g)) (frame_over (frame_count (function_at (reading_of sealed) g)) (known_at proofs g).frames at fact e);
    targets = λ g at fact e. a_target g at fact (cases_lt g (length parts.functions)) e;
  }

  pub admitted : IsAdmitted parts claimed
  admitted = record {
    carried = may_be_carried;
    proved = λ g at l below. subst (λ (p : Parts). Proved (reading_of p) claimed g at) is.same (bare_there sealed claimed g at ((checked (reading_of sealed) claimed g at).0 (is.proved.proved g at (there g l) (inside g at below))).0);
  }

  -- it is neither wide nor lacks a pin
  not_wide : (f : ℕ) → f < length parts.functions → IsWide parts f → ⊥
  not_wide f l wide =
      let same = sym (same_variables sealed f) ∙ ap (λ (p : Parts). variables (reading_of p) (function_at (reading_of p) f)) is.same ∙ same_variables parts f in
      is.narrow f (there f l) (omega (arith, same, wide))

  pins_suffice : (f i : ℕ) → f < length parts.functions → i < length (function_at (reading_of parts) f).code → Pinned (reading_of parts) f i
  pins_suffice f i l below = (pins.pinned parts f i).1 (subst (λ (p : Parts). Pinned (reading_of p) f i) is.same ((pins.pinned sealed f i).0 (is.proved.pinned f i (there f l) (inside f i below))))

  pub not_refused : (fault : ProofFault) → fault ≢ proof_fault.Memory → IsPinFault parts fault → ⊥
  not_refused (proof_fault.Facts f i) n p = p
  not_refused (proof_fault.Pins f i) n p = p.1.fails (pins_suffice f i p.1.there p.1.inside)
  not_refused (proof_fault.Wide f) n p = not_wide f p.there p.wide
  not_refused proof_fault.Memory n p = n refl

-- ---- one image and one list of proofs

same_test : (x y : Bool) → (x ≡ true → y ≡ true) → (y ≡ true → x ≡ true) → x ≡ y
same_test true y to from = sym (to refl)
same_test false true to from = from refl
same_test false false to from = refl

one_image : (parts a b : Parts) (p q : Proofs) → IsSealedAs parts a p → IsSealedAs parts b q → a ≡ b
one_image parts a b p q x y = same_image a b (x.same ∙ sym y.same) (λ g at l below.
    let many = as_many parts a p x in
    let much = as_much parts a p x g in
    let here : g < length parts.functions = omega (arith, many, l) in
    let inner : at < length (function_at (reading_of parts) g).code = omega (arith, much, below) in
    (Provable parts g at, (λ path mark e. x.marks g at path mark here inner e), (λ path mark e. y.marks g at path mark here inner e)))

module _ (parts a : Parts) (p q : Proofs) (x : IsSealedAs parts a p) (y : IsSealedAs parts a q) (x_bytes : Every IsByte (sealing a p)) (y_bytes : Every IsByte (sealing a q)) where
  less : Inside (annotation_of a q) (annotation_of a p)
  less = x.greatest (annotation_of a q) (admitted parts a q y)

  more : Inside (annotation_of a p) (annotation_of a q)
  more = y.greatest (annotation_of a p) (admitted parts a p x)

  claim_the_same : (g : ℕ) → g < length parts.functions → ClaimTheSame (function_at (reading_of a) g) (known_at p g) (known_at q g)
  claim_the_same g l = record {
    entry = λ fact. same_test ((annotation_of a p).entry g fact) ((annotation_of a q).entry g fact) (more.entry g fact) (less.entry g fact);
    exit = λ fact. same_test ((annotation_of a p).exit g fact) ((annotation_of a q).exit g fact) (more.exit g fact) (less.exit g fact);
    before = λ at fact. same_test ((annotation_of a p).before g at fact) ((annotation_of a q).before g at fact) (more.before g at fact) (less.before g at fact);
    places = λ at. x.frames g at l ∙ sym (y.frames g at l);
  }

  one_known : (g : ℕ) → g < length parts.functions → known_at p g ≡ known_at q g
  one_known g l =
      let many = as_many parts a p x in
      let here : g < length a.functions = omega (arith, many, l) in
      same_known (function_at (reading_of a) g) (known_at p g) (known_at q g) (x.fits.each g here) (y.fits.each g here) (are_bytes a p x_bytes g) (are_bytes a q y_bytes g) (claim_the_same g l)

  one_list : p.functions ≡ q.functions
  one_list = ext_get_or no_known p.functions q.functions (x.fits.long ∙ sym y.fits.long) (λ g l.
      let many = as_many parts a p x in
      let long = x.fits.long in
      one_known g (omega (arith, many, long, l)))

  one_proofs : p ≡ q
  one_proofs = ap (λ functions. let all : Proofs = record { functions = functions } in all) one_list

pub one_seal : (parts a b : Parts) (p q : Proofs) → IsSealedAs parts a p → IsSealedAs parts b q → Every IsByte (sealing a p) → Every IsByte (sealing b q) → IsOne a b p q
one_seal parts a b p q x y x_bytes y_bytes =
    let same = one_image parts a b p q x y in
    record {
      image = same;
      claims = one_proofs parts a p q x (subst (λ (c : Parts). IsSealedAs parts c q) (sym same) y) x_bytes (subst (λ (c : Parts). Every IsByte (sealing c q)) (sym same) y_bytes);
    }

-- ---- one refusal

module _ (parts : Parts) where
  one_unpinned : (f i g j : ℕ) → FirstUnpinned parts f i → FirstUnpinned parts g j → proof_fault.Pins f i ≡ proof_fault.Pins g j
  one_unpinned f i g j a b = by (cases_order f g) (cases_order i j)
    where
      earlier : (StandsBefore f i g j → ⊥) × (StandsBefore g j f i → ⊥)
      earlier = ((λ l. a.fails (b.before f i l a.inside)), (λ l. b.fails (a.before g j l b.inside)))

      by : (f ≡ g) ⊎ ((f < g) ⊎ (g < f)) → (i ≡ j) ⊎ ((i < j) ⊎ (j < i)) → proof_fault.Pins f i ≡ proof_fault.Pins g j
      by (inr (inl l)) other = absurd (earlier.0 (inl l))
      by (inr (inr l)) other = absurd (earlier.1 (inl l))
      by (inl e) (inl d) = ap (λ h. proof_fault.Pins h i) e ∙ ap (proof_fault.Pins g) d
      by (inl e) (inr (inl l)) = absurd (earlier.0 (inr (e, l)))
      by (inl e) (inr (inr l)) = absurd (earlier.1 (inr (sym e, l)))

  pub one_pin_fault : (a b : ProofFault) → a ≢ proof_fault.Memory → b ≢ proof_fault.Memory → IsPinFault parts a → IsPinFault parts b → a ≡ b
  one_pin_fault proof_fault.Memory b n m p q = absurd (n refl)
  one_pin_fault (proof_fault.Facts f i) b n m p q = absurd p
  one_pin_fault (proof_fault.Pins f i) proof_fault.Memory n m p q = absurd (m refl)
  one_pin_fault (proof_fault.Pins f i) (proof_fault.Facts g j) n m p q = absurd q
  one_pin_fault (proof_fault.Pins f i) (proof_fault.Pins g j) n m p q = one_unpinned f i g j p.1 q.1
  one_pin_fault (proof_fault.Pins f i) (proof_fault.Wide g) n m p q = absurd (p.0 g q.there q.wide)
  one_pin_fault (proof_fault.Wide f) proof_fault.Memory n m p q = absurd (m refl)
  one_pin_fault (proof_fault.Wide f) (proof_fault.Facts g j) n m p q = absurd q
  one_pin_fault (proof_fault.Wide f) (proof_fault.Pins g j) n m p q = absurd (q.0 f p.there p.wide)
  one_pin_fault (proof_fault.Wide f) (proof_fault.Wide g) n m p q = ap proof_fault.Wide (one_wide parts f g p q)
