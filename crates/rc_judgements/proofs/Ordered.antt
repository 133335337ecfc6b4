-- Where the violations of a node stand, and that the first of them is the least: what rules keep.
use Rattle.std.specs.Prelude.{◌≡◌, ◌⊎◌, ℕ, ◌<◌, ◌≤◌, List, [], ◌∷◌, ◌++◌, Option, Some, None, Bool, true, false, nat_lt}
use Rattle.std.proofs.Common.{refl, inl, inr, arith}
use Rattle.std.proofs.lemmas.Bool.Decides.{nat_tests}
use Rattle.rc_syntax.specs.declared.tree.Spot.{Spot}
use Rattle.rc_deletes.specs.declared.fault.Fault.{Fault}
use Rattle.rc_deletes.specs.declared.fault.Refusal.{Refusal}
use Rattle.rc_deletes.specs.declared.fault.Refusal.TheVariants.{Unknown, Twice, Mistyped, Arity, TooBig}
use Rattle.rc_deletes.specs.Judged.{Judged, Holds, Faulty, faults, with_part, with_parts, both, failing, ruled, fitting}
use Rattle.rc_deletes.specs.Order.{rank, NotAfter}

abbrev pub Each : {A : Type 0} → (A → Type 0) → List A → Type 0
Each P [] = Unit {0}
Each P (x ∷ xs) = P x × Each P xs

abbrev pub Inside : ℕ → ℕ → Spot → Type 0
Inside a b at = (a ≤ at.place) × (at.place < b)

abbrev pub In : ℕ → ℕ → List Fault → Type 0
In a b fs = Each (λ f. Inside a b f.at) fs

-- the violations stand between two places, and the first is the least
abbrev pub Sound : {A : Type 0} → ℕ → ℕ → Judged A → Type 0
Sound a b (Holds x) = Unit {0}
Sound a b (Faulty f fs) = Inside a b f.at × In a b fs × Each (NotAfter f) fs

pub all_in : {A : Type 0} (a b : ℕ) (x : Judged A) → Sound a b x → In a b (faults x)
all_in a b (Holds v) h = tt
all_in a b (Faulty f fs) h = (h.0, h.1)

pub in_wider : (a b c d : ℕ) (fs : List Fault) → a ≤ b → c ≤ d → In b c fs → In a d fs
in_wider a b c d [] p q h = tt
in_wider a b c d (f ∷ fs) p q h = let k = h.0 in ((omega arith, omega arith), in_wider a b c d fs p q h.1)

pub in_both : (a b : ℕ) (fs gs : List Fault) → In a b fs → In a b gs → In a b (fs ++ gs)
in_both a b [] gs p q = q
in_both a b (f ∷ fs) gs p q = (p.0, in_both a b fs gs p.1 q)

after_both : (f : Fault) (fs gs : List Fault) → Each (NotAfter f) fs → Each (NotAfter f) gs → Each (NotAfter f) (fs ++ gs)
after_both f [] gs p q = q
after_both f (g ∷ fs) gs p q = (p.0, after_both f fs gs p.1 q)

-- what stands from a place on is after what stands before it
pub all_later : (f : Fault) (m b : ℕ) (gs : List Fault) → f.at.place < m → In m b gs → Each (NotAfter f) gs
all_later f m b [] p h = tt
all_later f m b (g ∷ gs) p h = let k = h.0 in (inl (omega arith), all_later f m b gs p h.1)

pub sound_wider : {A : Type 0} (a b c d : ℕ) (x : Judged A) → a ≤ b → c ≤ d → Sound b c x → Sound a d x
sound_wider a b c d (Holds x) p q h = tt
sound_wider a b c d (Faulty f fs) p q h = let k = h.0 in ((omega arith, omega arith), in_wider a b c d fs p q h.1, h.2)

pub part_sound : {A B : Type 0} (a b : ℕ) (x : Judged A) (rule : A → Judged B) → Sound a b x → ((v : A) → Sound a b (rule v)) → Sound a b (with_part x rule)
part_sound a b (Holds v) rule h k = k v
part_sound a b (Faulty f fs) rule h k = h

pub parts_sound : {A B C : Type 0} (a m b : ℕ) (x : Judged A) (y : Judged B) (rule : A → B → Judged C) → a ≤ m → m ≤ b → Sound a m x → Sound m b y → ((v : A) (w : B) → Sound a b (rule v w)) → Sound a b (with_parts x y rule)
parts_sound a m b (Holds v) y rule p q h k r = part_sound a b y (rule v) (sound_wider a m b b y p (omega arith) k) (r v)
parts_sound a m b (Faulty f fs) y rule p q h k r =
    let inside = h.0 in
    ((omega arith, omega arith), in_both a b fs (faults y) (in_wider a a m b fs (omega arith) q h.1) (in_wider a m b b (faults y) p (omega arith) (all_in m b y k)), after_both f fs (faults y) h.2 (all_later f m b (faults y) inside.1 (all_in m b y k)))

pub both_sound : {A B : Type 0} (a m b : ℕ) (x : Judged A) (y : Judged B) → a ≤ m → m ≤ b → Sound a m x → Sound m b y → Sound a b (both x y)
both_sound a m b x y p q h k = parts_sound a m b x y (λ v w. Holds (v, w)) p q h k (λ v w. tt)

-- where all that is said of the violations is where they stand
pub part_in : {A B : Type 0} (a b : ℕ) (x : Judged A) (rule : A → Judged B) → In a b (faults x) → ((v : A) → In a b (faults (rule v))) → In a b (faults (with_part x rule))
part_in a b (Holds v) rule h k = k v
part_in a b (Faulty f fs) rule h k = h

pub parts_in : {A B C : Type 0} (a b : ℕ) (x : Judged A) (y : Judged B) (rule : A → B → Judged C) → In a b (faults x) → In a b (faults y) → ((v : A) (w : B) → In a b (faults (rule v w))) → In a b (faults (with_parts x y rule))
parts_in a b (Holds v) y rule h k r = part_in a b y (rule v) k (r v)
parts_in a b (Faulty f fs) y rule h k r = (h.0, in_both a b fs (faults y) h.1 k)

least_rank : (r : Refusal) → 6 ≤ rank r
least_rank Unknown = omega arith
least_rank Twice = omega arith
least_rank Mistyped = omega arith
least_rank Arity = omega arith
least_rank TooBig = omega arith

not_before : (m n r : ℕ) → m ≤ n → 6 ≤ r → (m < n) ⊎ ((m ≡ n) × (6 ≤ r))
not_before m n r h k = by (nat_lt m n) refl where
  by : (b : Bool) → nat_lt m n ≡ b → (m < n) ⊎ ((m ≡ n) × (6 ≤ r))
  by true e = inl (grind (arith, nat_tests))
  by false e = let most : n ≤ m = grind (arith, nat_tests) in inr (omega arith, k)

-- nothing from a place on is before an Unknown at that place
pub unknown_first : (at : Spot) (b : ℕ) (gs : List Fault) → In at.place b gs → Each (NotAfter (record { at = at; refusal = Unknown })) gs
unknown_first at b [] h = tt
unknown_first at b (g ∷ gs) h = (not_before at.place g.at.place (rank g.refusal) h.0.0 (least_rank g.refusal), unknown_first at b gs h.1)

-- at one node the refusals are listed by their numbers
pub fitting_sound : {A : Type 0} (a b : ℕ) (at : Spot) (o : Option A) → Inside a b at → Sound a b (fitting at o)
fitting_sound a b at None h = (h, tt, tt)
fitting_sound a b at (Some v) h = tt

pub ruled_one : {A : Type 0} (a b : ℕ) (at : Spot) (x : Bool) (k : Refusal) (v : A) → Inside a b at → Sound a b (ruled at (failing x k) v)
ruled_one a b at false k v h = tt
ruled_one a b at true k v h = (h, tt, tt)

pub ruled_two : {A : Type 0} (a b : ℕ) (at : Spot) (x y : Bool) (k l : Refusal) (v : A) → rank k ≤ rank l → Inside a b at → Sound a b (ruled at (failing x k ++ failing y l) v)
ruled_two a b at false y k l v p h = ruled_one a b at y l v h
ruled_two a b at true false k l v p h = (h, tt, tt)
ruled_two a b at true true k l v p h = (h, (h, tt), (inr (refl, p), tt))

pub ruled_three : {A : Type 0} (a b : ℕ) (at : Spot) (x y z : Bool) (k l m : Refusal) (v : A) → rank k ≤ rank l → rank l ≤ rank m → Inside a b at → Sound a b (ruled at (failing x k ++ (failing y l ++ failing z m)) v)
ruled_three a b at false y z k l m v p q h = ruled_two a b at y z l m v q h
ruled_three a b at true false false k l m v p q h = (h, tt, tt)
ruled_three a b at true true false k l m v p q h = (h, (h, tt), (inr (refl, p), tt))
ruled_three a b at true false true k l m v p q h = (h, (h, tt), (inr (refl, omega arith), tt))
ruled_three a b at true true true k l m v p q h = (h, (h, (h, tt)), (inr (refl, p), (inr (refl, omega arith), tt)))
