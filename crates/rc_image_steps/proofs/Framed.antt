-- Facts of frames and exits, as they are listed.
use Rattle.std.proofs.Common.{◌≡◌, ◌∙◌, ◌⊎◌, inl, inr, ℕ, zero, suc, ◌<◌, ◌≤◌, Bool, true, false, nat_eq, IsTrue, List, [], ◌∷◌, ◌++◌, length, get_or, ◌↔◌, refl, sym, ap, subst, arith, rules, length-append}
use Rattle.std.proofs.lemmas.Bool.{and_parts}
use Rattle.rc_facts.specs.declared.fact.Fact.{Fact}
use Rattle.rc_facts.specs.Facts.{is_over}
use Rattle.rc_annotations.specs.Annotations.{fact_with, renamed, renamed_by}
use Rattle.rc_code.specs.declared.image.Function.{Function}
use Rattle.rc_code.specs.Running.{Reading}
use Rattle.rc_claims.specs.declared.proofs.Frame.{Frame}
use Rattle.rc_claims.specs.declared.proofs.Proofs.{Proofs}
use Rattle.rc_claims.specs.Bits.{bit_in, bit_number, claims}
use Rattle.rc_claims.specs.Claims.{frame_facts, known_at}
use Rattle.rc_claims.specs.Counts.{copies, one_if, regional_result}
use Rattle.rc_sealed.specs.ImageVariables.{result_variable}
use Rattle.rc_sealed.specs.Carrying.{is_target}
use Rattle.rc_sealed.specs.Claimed.{annotation_of}
use Rattle.rc_image_claims.specs.Naming.{Named}
use Rattle.rc_image_steps.specs.declared.site.Site.{Site}
use Rattle.rc_image_steps.specs.Sites.{function_in, image_of}
use Rattle.rc_image_steps.specs.Listing.{number_if, AreExitNames, ExitAsked, FrameAsked}
use Rattle.rc_image_steps.proofs.Facts.{kept_names, named_alike, same_truth}

claims_over : (n : ℕ) (bytes : List ℕ) (fact : Fact) → IsTrue (claims n bytes fact) → IsTrue (is_over n fact)
claims_over n bytes fact e = (and_parts (is_over n fact) (bit_in bytes (bit_number n fact)) e).0

pub none_more : (a b : Bool) → b ≡ false → IsTrue a ↔ (IsTrue a ⊎ IsTrue b)
none_more a b e = (λ h. inl h, by)
  where
    by : IsTrue a ⊎ IsTrue b → IsTrue a
    by (inl h) = h
    by (inr h) = let x : true ≡ false = sym h ∙ e in cc

pub joined : (A B P Q : Type 0) → A ↔ (B ⊎ P) → P ↔ Q → A ↔ (B ⊎ Q)
joined A B P Q h k = (λ a. there (h.0 a), back)
  where
    there : B ⊎ P → B ⊎ Q
    there (inl b) = inl b
    there (inr p) = inr (k.0 p)

    back : B ⊎ Q → A
    back (inl b) = h.1 (inl b)
    back (inr q) = h.1 (inr (k.1 q))

-- what is claimed over variables that keep their names
pub own_claims : (n : ℕ) (bytes names : List ℕ) → length names ≡ n → ((x : ℕ) → x < n → get_or names x 0 ≡ x) → (fact : Fact) → Named (claims (length names) bytes) names fact ↔ IsTrue (claims n bytes fact)
own_claims n bytes names long each fact =
    let k = kept_names (claims (length names) bytes) n names long each (λ p e. subst (λ m. IsTrue (is_over m p)) long (claims_over (length names) bytes p e)) fact in (
      λ named. subst (λ m. IsTrue (claims m bytes fact)) long (k.0 named),
      λ has. k.1 (subst (λ m. IsTrue (claims m bytes fact)) (sym long) has),
    )

pub frame_said : (n : ℕ) (names : List ℕ) (frames : List Frame) (frame : Frame) (at : ℕ) → length names ≡ n → ((x : ℕ) → x < n → get_or names x 0 ≡ x) → ((m : ℕ) (fact : Fact) → frame_facts m frames at fact ≡ claims m frame.facts fact)
    → (fact : Fact) → Named (claims (length names) frame.facts) names fact ↔ IsTrue (frame_facts n frames at fact)
frame_said n names frames frame at long each is fact =
    let k = own_claims n frame.facts names long each fact in (λ h. is n fact ∙ k.0 h, λ h. k.1 (sym (is n fact) ∙ h))

-- ---- exits

get_left : (xs ys : List ℕ) (x : ℕ) → x < length xs → get_or (xs ++ ys) x 0 ≡ get_or xs x 0
get_left [] ys x lt = absurd (omega (arith, lt))
get_left (y ∷ xs) ys zero lt = refl
get_left (y ∷ xs) ys (suc x) lt = get_left xs ys x (omega (arith, lt))

get_last : (xs : List ℕ) (c : ℕ) → get_or (xs ++ c ∷ []) (length xs) 0 ≡ c
get_last [] c = refl
get_last (y ∷ xs) c = get_last xs c

if_long : (b : Bool) (r : ℕ) → length (number_if b r) ≡ one_if b
if_long true r = refl
if_long false r = refl

kept : (from to x : ℕ) → x < from → renamed from to x ≡ x
kept from to x lt = by (nat_eq x from) refl
  where
    by : (t : Bool) → nat_eq x from ≡ t → renamed_by (nat_eq x from) to x ≡ x
    by true e = absurd (grind (arith, rules, e, lt))
    by false e = ap (λ b. renamed_by b to x) e

turned : (from to : ℕ) → renamed from to from ≡ to
turned from to = ap (λ b. renamed_by b to from) (let e : nat_eq from from ≡ true = grind arith in e)

pub exit_named : (image : Reading) (f : Function) (names more : List ℕ) (b : Bool) (r copied : ℕ) → b ≡ regional_result f.result → r ≡ result_variable image f → copied ≡ copies f → length names ≡ copied → ((x : ℕ) → x < copied → get_or names x 0 ≡ x) → more ≡ names ++ number_if b r → AreExitNames image f more
exit_named image f names more b r copied is result count long each e = record {
  long = (let k = ap length e ∙ length-append names (number_if b r) in let l = if_long b r in let m : one_if b ≡ one_if (regional_result f.result) = ap one_if is in omega (arith, k, l, m, long, count));
  each = λ x lt. ap (λ (ns : List ℕ). get_or ns x 0) e ∙ by b x (subst (λ (ns : List ℕ). x < length ns) e lt);
}
  where
    order : (a c : ℕ) → (a < c) ⊎ (c ≤ a)
    order a c = grind arith

    low : (t : Bool) (x : ℕ) → x < length names → get_or (names ++ number_if t r) x 0 ≡ renamed (copies f) (result_variable image f) x
    low t x lt = get_left names (number_if t r) x lt ∙ each x (omega (arith, lt, long)) ∙ sym (kept (copies f) (result_variable image f) x (omega (arith, lt, long, count)))

    last : (x : ℕ) → x ≡ length names → get_or (names ++ r ∷ []) x 0 ≡ renamed (copies f) (result_variable image f) x
    last x q =
        let s : copies f ≡ x = sym (q ∙ long ∙ count) in
        ap (λ n. get_or (names ++ r ∷ []) n 0) q ∙ get_last names r ∙ result ∙ sym (turned (copies f) (result_variable image f)) ∙ ap (renamed (copies f) (result_variable image f)) s

    by : (t : Bool) (x : ℕ) → x < length (names ++ number_if t r) → get_or (names ++ number_if t r) x 0 ≡ renamed (copies f) (result_variable image f) x
    by true x lt = split (order x (length names))
      where
        split : (x < length names) ⊎ (length names ≤ x) → get_or (names ++ r ∷ []) x 0 ≡ renamed (copies f) (result_variable image f) x
        split (inl l) = low true x l
        split (inr ge) = let k = length-append names (r ∷ []) in last x (omega (arith, lt, ge, k))
    by false x lt = low false x (let k = length-append names [] in omega (arith, lt, k))

pub exit_said : (site : Site) (proofs : Proofs) (names : List ℕ) → AreExitNames (image_of site) (function_in site) names → (fact : Fact) → Named (claims (length names) (known_at proofs site.number).exit) names fact ↔ ExitAsked site proofs true fact
exit_said site proofs names are fact = (there, back)
  where
    bytes : List ℕ
    bytes = (known_at proofs site.number).exit

    alike : (p : Fact) → IsTrue (is_over (length names) p) → fact_with (λ v. get_or names v 0) p ≡ fact_with (renamed (copies (function_in site)) (result_variable (image_of site) (function_in site))) p
    alike p o = named_alike (length names) (λ v. get_or names v 0) (renamed (copies (function_in site)) (result_variable (image_of site) (function_in site))) are.each p o

    there : Named (claims (length names) (known_at proofs site.number).exit) names fact → ExitAsked site proofs true fact
    there n = record { asks = refl; of = n.of; has = subst (λ m. IsTrue (claims m (known_at proofs site.number).exit n.of)) are.long n.has; named = sym (alike n.of n.over) ∙ n.named }

    back : ExitAsked site proofs true fact → Named (claims (length names) (known_at proofs site.number).exit) names fact
    back x =
        let has = subst (λ m. IsTrue (claims m (known_at proofs site.number).exit x.of)) (sym are.long) x.has in
        let over = claims_over (length names) (known_at proofs site.number).exit x.of has in
        record { of = x.of; over = over; has = has; named = alike x.of over ∙ x.named }

-- ---- what is put behind other facts

module _ (A B : Fact → Type 0) where
  abbrev Adds : (Fact → Type 0) → Type 0
  Adds P = (fact : Fact) → A fact ↔ (B fact ⊎ P fact)

  pub frame_added : (n at : ℕ) (names numbers bytes : List ℕ) (known frames : List Frame) (frame : Frame) → frames ≡ known → names ≡ numbers → bytes ≡ frame.facts → length numbers ≡ n → ((x : ℕ) → x < n → get_or numbers x 0 ≡ x)
      → ((m : ℕ) (fact : Fact) → frame_facts m frames at fact ≡ claims m frame.facts fact) → Adds (λ fact. Named (claims (length names) bytes) names fact) → Adds (λ fact. IsTrue (frame_facts n known at fact))
  frame_added n at names numbers bytes known frames frame k m b long each is added fact =
      joined (A fact) (B fact) (Named (claims (length numbers) frame.facts) numbers fact) (IsTrue (frame_facts n known at fact)) (by fact)
      (frame_said n numbers known frame at long each (λ i p. ap (λ (xs : List Frame). frame_facts i xs at p) (sym k) ∙ is i p) fact)
    where
      by : Adds (λ fact. Named (claims (length numbers) frame.facts) numbers fact)
      by = subst (λ (ys : List ℕ). Adds (λ fact. Named (claims (length numbers) ys) numbers fact)) b (subst (λ (ns : List ℕ). Adds (λ fact. Named (claims (length ns) bytes) ns fact)) m added)

  pub exit_added : (site : Site) (proofs : Proofs) (names numbers bytes : List ℕ) → names ≡ numbers → bytes ≡ (known_at proofs site.number).exit → AreExitNames (image_of site) (function_in site) numbers → Adds (λ fact. Named (claims (length names) bytes) names fact) → Adds (λ fact. ExitAsked site proofs true fact)
  exit_added site proofs names numbers bytes m b are added fact =
      joined (A fact) (B fact) (Named (claims (length numbers) (known_at proofs site.number).exit) numbers fact) (ExitAsked site proofs true fact) (by fact) (exit_said site proofs numbers are fact)
    where
      by : Adds (λ fact. Named (claims (length numbers) (known_at proofs site.number).exit) numbers fact)
      by = subst (λ (ys : List ℕ). Adds (λ fact. Named (claims (length numbers) ys) numbers fact)) b (subst (λ (ns : List ℕ). Adds (λ fact. Named (claims (length ns) bytes) ns fact)) m added)

  pub entry_added : (n : ℕ) (names numbers bytes known : List ℕ) → names ≡ numbers → bytes ≡ known → length numbers ≡ n → ((x : ℕ) → x < n → get_or numbers x 0 ≡ x) → Adds (λ fact. Named (claims (length names) bytes) names fact) → Adds (λ fact. IsTrue (claims n known fact))
  entry_added n names numbers bytes known m b long each added fact =
      joined (A fact) (B fact) (Named (claims (length numbers) known) numbers fact) (IsTrue (claims n known fact)) (by fact) (own_claims n known numbers long each fact)
    where
      by : Adds (λ fact. Named (claims (length numbers) known) numbers fact)
      by = subst (λ (ys : List ℕ). Adds (λ fact. Named (claims (length numbers) ys) numbers fact)) b (subst (λ (ns : List ℕ). Adds (λ fact. Named (claims (length ns) bytes) ns fact)) m added)

-- a target's frame, if so
pub target_added : (site : Site) (proofs : Proofs) (at : ℕ) → is_target (function_in site) at ≡ true → (fact : Fact) → IsTrue ((annotation_of site.parts.now proofs).before site.number at fact) ↔ FrameAsked site proofs true at fact
target_added site proofs at t fact = (λ h. record { asks = refl; target = t; has = h }, λ x. x.has)

pub none_asked : (P Q : Type 0) → (Q → ⊥) → P ↔ (P ⊎ Q)
none_asked P Q never = (λ h. inl h, by)
  where
    by : P ⊎ Q → P
    by (inl h) = h
    by (inr h) = absurd (never h)

pub listed_is : (b c : Bool) → IsTrue b ↔ (IsTrue false ⊎ IsTrue c) → b ≡ c
listed_is b c h = same_truth b c (λ e. there (h.0 e)) (λ e. h.1 (inr e))
  where
    there : IsTrue false ⊎ IsTrue c → IsTrue c
    there (inl x) = cc
    there (inr x) = x
