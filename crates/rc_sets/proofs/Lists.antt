-- Lists of regions: one more, one changed, some deleted.
use Rattle.std.proofs.Common.{◌≡◌, ◌≢◌, ◌<◌, ◌∙◌, ℕ, zero, suc, true, List, [], ◌∷◌, ◌++◌, length, get_or, set, Option, Some, None, refl, sym, ap, arith}
use Rattle.std.proofs.lemmas.Bool.{false≢true}
use Rattle.std.proofs.lemmas.List.{length-set}
use Rattle.rc_store.specs.Kept.{KeptStore, KeptView, Regions}
use Rattle.rc_store.specs.Stores.{deleted, is_view, live_in, objects_in, or_none, region_at}
use Rattle.rc_store.specs.Sets.{deleted_all}

pub set_same : (regions : Regions) (r : ℕ) (x : Option KeptView) → live_in regions r ≡ true → region_at (set regions r x) r ≡ x
set_same [] r x live = absurd (false≢true live)
set_same (v ∷ vs) zero x live = refl
set_same (v ∷ vs) (suc r) x live = set_same vs r x live

pub set_other : (regions : Regions) (r q : ℕ) (x : Option KeptView) → q ≢ r → region_at (set regions r x) q ≡ region_at regions q
set_other [] r q x other = refl
set_other (v ∷ vs) zero zero x other = absurd (other refl)
set_other (v ∷ vs) zero (suc q) x other = refl
set_other (v ∷ vs) (suc r) zero x other = refl
set_other (v ∷ vs) (suc r) (suc q) x other = set_other vs r q x (λ e. other (ap suc e))

pub set_dead : (regions : Regions) (r q : ℕ) → live_in (set regions r None) q ≡ true → region_at (set regions r None) q ≡ region_at regions q
set_dead [] r q live = refl
set_dead (v ∷ vs) zero zero live = absurd (false≢true live)
set_dead (v ∷ vs) zero (suc q) live = refl
set_dead (v ∷ vs) (suc r) zero live = refl
set_dead (v ∷ vs) (suc r) (suc q) live = set_dead vs r q live

pub push_old : (regions : Regions) (q : ℕ) (x : Option KeptView) → q < length regions → region_at (regions ++ x ∷ []) q ≡ region_at regions q
push_old [] q x below = absurd (omega (arith, below))
push_old (v ∷ vs) zero x below = refl
push_old (v ∷ vs) (suc q) x below = push_old vs q x (omega (arith, below))

pub push_new : (regions : Regions) (x : Option KeptView) → region_at (regions ++ x ∷ []) (length regions) ≡ x
push_new [] x = refl
push_new (v ∷ vs) x = push_new vs x

pub live_below : (regions : Regions) (q : ℕ) → live_in regions q ≡ true → q < length regions
live_below [] q live = absurd (false≢true live)
live_below (v ∷ vs) zero live = omega arith
live_below (v ∷ vs) (suc q) live = let rest = live_below vs q live in omega (arith, rest)

with_view : (v : Option KeptView) (o : ℕ) → o < length (or_none v).objects → is_view v ≡ true
with_view None o there = absurd (omega (arith, there))
with_view (Some v) o there = refl

-- a region with an object is live
pub has_live : (regions : Regions) (q o : ℕ) → o < length (objects_in regions q) → live_in regions q ≡ true
has_live regions q o there = with_view (region_at regions q) o there

pub objects_same : (xs ys : Regions) (q : ℕ) → region_at xs q ≡ region_at ys q → objects_in xs q ≡ objects_in ys q
objects_same xs ys q same = ap (λ v. (or_none v).objects) same

-- ---- deletions

pub deleted_length : (set : List ℕ) (s : KeptStore) → length (deleted_all set s).regions ≡ length s.regions
deleted_length [] s = refl
deleted_length (r ∷ set) s = deleted_length set (deleted r s) ∙ length-set s.regions r None

pub survives : (set : List ℕ) (s : KeptStore) (q : ℕ) → live_in (deleted_all set s).regions q ≡ true → region_at (deleted_all set s).regions q ≡ region_at s.regions q
survives [] s q live = refl
survives (r ∷ set) s q live =
    let rest = survives set (deleted r s) q live in
    rest ∙ set_dead s.regions r q (sym (ap is_view rest) ∙ live)

-- ---- numbers by region

pub zero_pushed : (xs : List ℕ) (q : ℕ) → get_or (xs ++ 0 ∷ []) q 0 ≡ get_or xs q 0
zero_pushed [] zero = refl
zero_pushed [] (suc q) = refl
zero_pushed (x ∷ xs) zero = refl
zero_pushed (x ∷ xs) (suc q) = zero_pushed xs q

pub beyond : (xs : List ℕ) (q : ℕ) → length xs ≡ q → get_or xs q 0 ≡ 0
beyond [] q end = refl
beyond (x ∷ xs) zero end = absurd (omega (arith, end))
beyond (x ∷ xs) (suc q) end = beyond xs q (omega (arith, end))
