-- References and cells where several regions go, one after the other.
use Rattle.std.proofs.Common.{◌≡◌, ◌≢◌, ◌<◌, ◌+◌, ◌∙◌, ◌⊎◌, inl, inr, ℕ, zero, suc, Bool, true, false, cond, nat_eq, List, [], ◌∷◌, None, length, get_or, set as slice_set, refl, sym, ap, subst, arith, rules, get_or-set_other, length-set}
use Rattle.std.specs.Prelude.{◌||◌, ⊤, All, AllPairs, Contains}
use Rattle.std.specs.List.{count_by, sum_by}
use Rattle.std.proofs.lemmas.Bool.{cases_eq, false≢true}
use Rattle.std.proofs.lemmas.List.Sums.{sum_by-cons}
use Rattle.rc_core.specs.Heap.{names}
use Rattle.rc_store.specs.Kept.{KeptStore, Regions, refs, view_refs}
use Rattle.rc_store.specs.Sets.{IsSet, deleted_all, is_in, refs_to, without}
use Rattle.rc_store.specs.Stores.{IsLive, all_cells, cells_in, deleted, region_at}
use Rattle.rc_store.proofs.Along.{without_read}
use Rattle.rc_cells.specs.Together.{SetsFollow, held}
use Rattle.rc_cells.proofs.Cells.{cells_follow}
use Rattle.rc_cells.proofs.Changes.{live_there, references_follow, region_read}

number_itself : (n : ℕ) → nat_eq n n ≡ true
number_itself n = search rules

number_other : (m n : ℕ) → m ≢ n → nat_eq m n ≡ false
number_other m n other = search (rules, other)

same_number : (m n : ℕ) → nat_eq m n ≡ true → m ≡ n
same_number m n same = search (rules, same)

either : (a b : Bool) → a || b ≡ true → (a ≡ true) ⊎ (b ≡ true)
either true b holds = inl refl
either false b holds = inr holds

none_false : (a b : Bool) → a || b ≡ false → (a ≡ false) × (b ≡ false)
none_false true b none = absurd (false≢true (sym none))
none_false false b none = (refl, none)

-- a number of a set has a place there
pub place_of : (set : List ℕ) (n : ℕ) → is_in set n ≡ true → Contains set n
place_of [] n there = absurd (false≢true there)
place_of (m ∷ ms) n there = elim (either (nat_eq n m) (is_in ms n) there) [
  | inl same ↦ (0, omega arith, sym (same_number n m same))
  | inr later ↦ let rest = place_of ms n later in (suc rest.0, omega (arith, rest.1), rest.2)
]

-- regions that are there, none of them twice
abbrev pub AreApart : (regions : ℕ) → List ℕ → Type 0
AreApart regions [] = ⊤
AreApart regions (d ∷ set) = (d < regions) × (is_in set d ≡ false) × AreApart regions set

apart_in : (s : KeptStore) (set : List ℕ) → All (IsLive s) set → AllPairs (λ a b. a ≢ b) set → AreApart (length s.regions) set
apart_in s [] live apart = tt
apart_in s (d ∷ ds) live apart = (
  live_there s.regions d (live 0 0 (omega arith)),
  not_there (is_in ds d) refl,
  apart_in s ds (λ k x inside. live (suc k) x (omega (arith, inside))) (λ i j x less inside. apart (suc i) (suc j) x (omega (arith, less)) (omega (arith, inside))),
)
  where
    not_there : (b : Bool) → is_in ds d ≡ b → is_in ds d ≡ false
    not_there true there = let place = place_of ds d there in absurd (apart 0 (suc place.0) d (omega arith) (omega (arith, place.1)) (sym place.2))
    not_there false none = none

pub are_apart : (s : KeptStore) (set : List ℕ) → IsSet s set → AreApart (length s.regions) set
are_apart s set all = apart_in s set all.live all.distinct

-- what is left is the store without the set
left : (s : KeptStore) (set : List ℕ) → deleted_all set s ≡ record s { regions = without set s.regions }
left s [] = refl
left s (d ∷ ds) = left (deleted d s) ds

-- a deletion leaves the other regions
other_region : (s : KeptStore) (d n : ℕ) → n ≢ d → region_at (deleted d s).regions n ≡ region_at s.regions n
other_region s d n apart = region_read (slice_set s.regions d None) n ∙ get_or-set_other s.regions d n None None apart ∙ sym (region_read s.regions n)

not_same : (set : List ℕ) (d n : ℕ) → is_in set d ≡ false → is_in set n ≡ true → n ≢ d
not_same set d n none there same = false≢true (sym none ∙ ap (is_in set) (sym same) ∙ there)

-- a sum over a set hangs on what its members have
sum_same : (f g : ℕ → ℕ) (set : List ℕ) → ((n : ℕ) → is_in set n ≡ true → f n ≡ g n) → sum_by f set ≡ sum_by g set
sum_same f g [] same = refl
sum_same f g (d ∷ ds) same = omega (arith, sum_by-cons f d ds, sum_by-cons g d ds, same d (here (nat_eq d d) (is_in ds d) (number_itself d)), sum_same f g ds (λ n there. same n (later (nat_eq n d) (is_in ds n) there)))
  where
    here : (a b : Bool) → a ≡ true → a || b ≡ true
    here true b holds = refl
    here false b holds = absurd (false≢true holds)

    later : (a b : Bool) → b ≡ true → a || b ≡ true
    later true b holds = refl
    later false b holds = holds

held_one : (s : KeptStore) (r d : ℕ) → d < length s.regions → refs (deleted d s) r + held s r d ≡ refs s r
held_one s r d inside = elim (cases_eq r d) [
  | inl same ↦ omega (arith, ap (λ b. cond b 0 (view_refs r (region_at s.regions d))) (ap (nat_eq d) same ∙ number_itself d), ap (refs (deleted d s)) same, ap (refs s) same, references_follow.own s d inside)
  | inr apart ↦ omega (arith, ap (λ b. cond b 0 (view_refs r (region_at s.regions d))) (number_other d r (λ e. apart (sym e))), references_follow.others s d r inside apart)
]

references : (s : KeptStore) (set : List ℕ) (r : ℕ) → AreApart (length s.regions) set → refs (deleted_all set s) r + sum_by (held s r) set ≡ refs s r
references s [] r apart = omega arith
references s (d ∷ ds) r apart =
    let rest = references (deleted d s) ds r (subst (λ n. AreApart n ds) (sym (length-set s.regions d None)) apart.2) in
    let same = sum_same (held (deleted d s) r) (held s r) ds (λ n there. ap (λ v. cond (nat_eq n r) 0 (view_refs r v)) (other_region s d n (not_same ds d n apart.1 there))) in
    omega (arith, rest, same, held_one s r d apart.0, sum_by-cons (held s r) d ds)

cells : (s : KeptStore) (set : List ℕ) → AreApart (length s.regions) set → all_cells (deleted_all set s) + sum_by (λ d. cells_in (region_at s.regions d)) set ≡ all_cells s
cells s [] apart = omega arith
cells s (d ∷ ds) apart =
    let rest = cells (deleted d s) ds (subst (λ n. AreApart n ds) (sym (length-set s.regions d None)) apart.2) in
    let same = sum_same (λ n. cells_in (region_at (deleted d s).regions n)) (λ n. cells_in (region_at s.regions n)) ds (λ n there. ap cells_in (other_region s d n (not_same ds d n apart.1 there))) in
    omega (arith, rest, same, cells_follow.deleted s d apart.0, sum_by-cons (λ n. cells_in (region_at s.regions n)) d ds)

set_none : (xs : Regions) (n : ℕ) → get_or xs n None ≡ None → slice_set xs n None ≡ xs
set_none [] n is = refl
set_none (x ∷ xs) zero is = ap (λ y. y ∷ xs) (sym is)
set_none (x ∷ xs) (suc n) is = ap (λ ys. x ∷ ys) (set_none xs n is)

-- to a member, the references from beside a set are those of what is left
beside : (s : KeptStore) (set : List ℕ) (r : ℕ) → is_in set r ≡ true → refs_to s set r ≡ refs (deleted_all set s) r
beside s set r member =
    let gone = without_read set s.regions r ∙ ap (λ b. cond b None (get_or s.regions r None)) member in
    ap (λ views. sum_by (view_refs r) views + count_by (names r) s.pins) (sym (set_none (without set s.regions) r gone))
    ∙ ap (λ (x : KeptStore). refs x r) (sym (left s set))

pub sets_follow : SetsFollow
sets_follow = record {
  left = left;
  references = λ s set r all. references s set r (are_apart s set all);
  beside = beside;
  cells = λ s set all. cells s set (are_apart s set all);
}
