-- What is claimed of a function is one thing where it claims the same facts and has frames at the same instructions.
use Rattle.std.proofs.Common.{◌≡◌, ◌<◌, ◌≤◌, ◌⊎◌, ◌∙◌, ◌||◌, ℕ, suc, Bool, true, false, nat_eq, List, [], ◌∷◌, inl, inr, refl, sym, ap, subst, arith}
use Rattle.std.specs.List.{AllByRecursion as Every, list_any}
use Rattle.std.specs.Prelude.{if◌then◌else◌}
use Rattle.std.proofs.lemmas.Bool.{cases_lt, cases_order}
use Rattle.std.proofs.lemmas.Bool.Decides.{nat_tests}
use Rattle.rc_core.specs.Numbers.{IsByte}
use Rattle.rc_facts.specs.declared.fact.Fact.{Fact}
use Rattle.rc_code.specs.declared.image.Function.{Function}
use Rattle.rc_claims.specs.declared.proofs.Frame.{Frame}
use Rattle.rc_claims.specs.declared.proofs.Known.{Known}
use Rattle.rc_claims.specs.Bits.{claims}
use Rattle.rc_claims.specs.Claims.{AreInOrder, FrameFits, KnownFits, frame_facts}
use Rattle.rc_claims.specs.Counts.{copies, exit_count, frame_count}
use Rattle.rc_sealings.proofs.Bits.{same_bytes}

-- ---- where frames stand

abbrev pub stands_at : ℕ → Frame → Bool
stands_at at frame = nat_eq frame.at at

abbrev pub has_frame : List Frame → ℕ → Bool
has_frame frames at = list_any (stands_at at) frames

same_number : (n : ℕ) → nat_eq n n ≡ true
same_number n = grind (arith, nat_tests)

other_number : (n m : ℕ) → n < m → nat_eq n m ≡ false
other_number n m l = grind (arith, nat_tests)

-- none stands below the least
none_below : (frames : List Frame) (least at : ℕ) → AreInOrder least frames → at < least → has_frame frames at ≡ false
none_below [] least at order l = refl
none_below (frame ∷ frames) least at order l =
    let low = order.0 in
    let other : nat_eq frame.at at ≡ false = grind (arith, nat_tests, l, low) in
    ap (λ b. b || has_frame frames at) other ∙ none_below frames (suc frame.at) at order.1 (omega (arith, l, low))

no_facts_below : (n : ℕ) (frames : List Frame) (least at : ℕ) → AreInOrder least frames → at < least → (fact : Fact) → frame_facts n frames at fact ≡ false
no_facts_below n [] least at order l fact = refl
no_facts_below n (frame ∷ frames) least at order l fact =
    let low = order.0 in
    let other : nat_eq frame.at at ≡ false = grind (arith, nat_tests, l, low) in
    ap (λ b. if b then claims n frame.facts fact else frame_facts n frames at fact) other ∙ no_facts_below n frames (suc frame.at) at order.1 (omega (arith, l, low)) fact

abbrev pub AreBytes : Frame → Type 0
AreBytes frame = Every IsByte frame.facts

module _ (f : Function) where
  abbrev n : ℕ
  n = frame_count f

  record AreAlike (xs ys : List Frame) : Type 0 where
    pub places : (at : ℕ) → has_frame xs at ≡ has_frame ys at
    pub facts : (at : ℕ) (fact : Fact) → frame_facts n xs at fact ≡ frame_facts n ys at fact

  -- the first frame is at the same instruction
  first_there : (x : Frame) (xs : List Frame) → has_frame (x ∷ xs) x.at ≡ true
  first_there x xs = ap (λ b. b || has_frame xs x.at) (same_number x.at)

  not_before : (x y : Frame) (xs ys : List Frame) → AreInOrder (suc y.at) ys → has_frame (x ∷ xs) x.at ≡ has_frame (y ∷ ys) x.at → x.at < y.at → ⊥
  not_before x y xs ys order same l =
      let e : true ≡ false =
      sym (first_there x xs) ∙ same
      ∙ none_below (y ∷ ys) y.at x.at (omega arith, order) l in
      cc

  same_place : (x y : Frame) (xs ys : List Frame) → AreInOrder (suc x.at) xs → AreInOrder (suc y.at) ys → AreAlike (x ∷ xs) (y ∷ ys) → x.at ≡ y.at
  same_place x y xs ys a b alike = by (cases_order x.at y.at)
    where
      by : (x.at ≡ y.at) ⊎ ((x.at < y.at) ⊎ (y.at < x.at)) → x.at ≡ y.at
      by (inl e) = e
      by (inr (inl l)) = absurd (not_before x y xs ys b (alike.places x.at) l)
      by (inr (inr l)) = absurd (not_before y x ys xs a (sym (alike.places y.at)) l)

  -- of the first the facts are the frame's
  first_facts : (x : Frame) (xs : List Frame) (fact : Fact) → frame_facts n (x ∷ xs) x.at fact ≡ claims n x.facts fact
  first_facts x xs fact = ap (λ b. if b then claims n x.facts fact else frame_facts n xs x.at fact) (same_number x.at)

  -- and behind it those of the others
  other_place : (x : Frame) (xs : List Frame) (at : ℕ) → x.at < at → has_frame (x ∷ xs) at ≡ has_frame xs at
  other_place x xs at l = ap (λ b. b || has_frame xs at) (other_number x.at at l)

  other_facts : (x : Frame) (xs : List Frame) (at : ℕ) (fact : Fact) → x.at < at → frame_facts n (x ∷ xs) at fact ≡ frame_facts n xs at fact
  other_facts x xs at fact l = ap (λ b. if b then claims n x.facts fact else frame_facts n xs at fact) (other_number x.at at l)

  others_alike : (x y : Frame) (xs ys : List Frame) → x.at ≡ y.at → AreInOrder (suc x.at) xs → AreInOrder (suc y.at) ys → AreAlike (x ∷ xs) (y ∷ ys) → AreAlike xs ys
  others_alike x y xs ys e a b alike = record { places = λ at. place at (cases_lt x.at at); facts = λ at fact. facts at fact (cases_lt x.at at) }
    where
      place : (at : ℕ) → (x.at < at) ⊎ (at ≤ x.at) → has_frame xs at ≡ has_frame ys at
      place at (inl l) = sym (other_place x xs at l) ∙ alike.places at ∙ other_place y ys at (omega (arith, l, e))
      place at (inr l) = none_below xs (suc x.at) at a (omega (arith, l)) ∙ sym (none_below ys (suc y.at) at b (omega (arith, l, e)))

      facts : (at : ℕ) (fact : Fact) → (x.at < at) ⊎ (at ≤ x.at) → frame_facts n xs at fact ≡ frame_facts n ys at fact
      facts at fact (inl l) = sym (other_facts x xs at fact l) ∙ alike.facts at fact ∙ other_facts y ys at fact (omega (arith, l, e))
      facts at fact (inr l) = no_facts_below n xs (suc x.at) at a (omega (arith, l)) fact ∙ sym (no_facts_below n ys (suc y.at) at b (omega (arith, l, e)) fact)

  same_frame : (x y : Frame) (xs ys : List Frame) → x.at ≡ y.at → FrameFits f x → FrameFits f y → AreBytes x → AreBytes y → AreAlike (x ∷ xs) (y ∷ ys) → x ≡ y
  same_frame x y xs ys e a b c d alike =
      let facts : x.facts ≡ y.facts = same_bytes n x.facts y.facts a.facts b.facts c d (λ fact.
      sym (first_facts x xs fact) ∙ alike.facts x.at fact ∙ ap (λ at. frame_facts n (y ∷ ys) at fact) e ∙ first_facts y ys fact) in
      ap (λ at. let z : Frame = record { at = at; facts = x.facts } in z) e ∙ ap (λ bytes. let z : Frame = record { at = y.at; facts = bytes } in z) facts

  same_frames : (xs ys : List Frame) (least : ℕ) → Every (FrameFits f) xs → Every (FrameFits f) ys → Every AreBytes xs → Every AreBytes ys → AreInOrder least xs → AreInOrder least ys → AreAlike xs ys → xs ≡ ys
  same_frames [] [] least a b c d p q alike = refl
  same_frames [] (y ∷ ys) least a b c d p q alike = let e : false ≡ true = alike.places y.at ∙ first_there y ys in absurd cc
  same_frames (x ∷ xs) [] least a b c d p q alike = let e : true ≡ false = sym (first_there x xs) ∙ alike.places x.at in absurd cc
  same_frames (x ∷ xs) (y ∷ ys) least a b c d p q alike =
      let e = same_place x y xs ys p.1 q.1 alike in
      let order : AreInOrder (suc x.at) ys = subst (λ at. AreInOrder (suc at) ys) (sym e) q.1 in
      let rest = same_frames xs ys (suc x.at) a.1 b.1 c.1 d.1 p.1 order (others_alike x y xs ys e p.1 q.1 alike) in
      ap (λ (z : Frame). z ∷ xs) (same_frame x y xs ys e a.0 b.0 c.0 d.0 alike) ∙ ap (λ (zs : List Frame). y ∷ zs) rest

-- ---- what is claimed of a function

pub record KnownIsBytes (known : Known) : Type 0 where
  pub entry : Every IsByte known.entry
  pub exit : Every IsByte known.exit
  pub frames : Every AreBytes known.frames

pub record ClaimTheSame (f : Function) (k l : Known) : Type 0 where
  pub entry : (fact : Fact) → claims (copies f) k.entry fact ≡ claims (copies f) l.entry fact
  pub exit : (fact : Fact) → claims (exit_count f) k.exit fact ≡ claims (exit_count f) l.exit fact
  pub before : (at : ℕ) (fact : Fact) → frame_facts (frame_count f) k.frames at fact ≡ frame_facts (frame_count f) l.frames at fact
  pub places : (at : ℕ) → has_frame k.frames at ≡ has_frame l.frames at

pub same_known : (f : Function) (k l : Known) → KnownFits f k → KnownFits f l → KnownIsBytes k → KnownIsBytes l → ClaimTheSame f k l → k ≡ l
same_known f k l a b c d same =
    ap (λ bytes. let z : Known = record { entry = bytes; exit = k.exit; frames = k.frames } in z) (same_bytes (copies f) k.entry l.entry a.entry b.entry c.entry d.entry same.entry)
    ∙ ap (λ bytes. let z : Known = record { entry = l.entry; exit = bytes; frames = k.frames } in z) (same_bytes (exit_count f) k.exit l.exit a.exit b.exit c.exit d.exit same.exit)
    ∙ ap (λ frames. let z : Known = record { entry = l.entry; exit = l.exit; frames = frames } in z)
    (same_frames f k.frames l.frames 0 a.frames b.frames c.frames d.frames a.order b.order (record { places = same.places; facts = same.before }))
