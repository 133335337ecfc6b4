-- Counting variables.
use Rattle.std.proofs.Common.{◌≡◌, ◌∙◌, ◌⊎◌, inl, inr, ℕ, zero, suc, ◌+◌, ◌<◌, ◌≤◌, Bool, true, false, List, [], ◌∷◌, ◌++◌, map, take, length, get_or, refl, sym, ap, nat_lt, arith, length-take-le}
use Rattle.std.specs.List.{AllByRecursion as Every}
use Rattle.std.proofs.lemmas.List.{length-map}
use Rattle.rc_code.specs.declared.kind.Storage.{Storage}
use Rattle.rc_code.specs.declared.image.Function.{Function}
use Rattle.rc_code.specs.declared.image.Parts.{Parts}
use Rattle.rc_code.specs.Image.{FieldsFit, FunctionFits}
use Rattle.rc_code.specs.Running.{Reading, reading_of, function_at, no_function}
use Rattle.rc_code.specs.Soundness.{is_regional, kinds_before}
use Rattle.rc_claims.specs.Counts.{copies, regionals, trues, one_if}
use Rattle.rc_sealed.specs.ImageVariables.{greater, height_within, variables}
use Rattle.rc_image_counts.proofs.Counting.{more_trues}
use Rattle.rc_sealed.proofs.Carry.{trues_bound}
use Rattle.rc_image_shapes.specs.declared.counts.Counts.{Counts}
use Rattle.rc_image_shapes.specs.Counted.{AreCounts, IsCountable}

every_at : {A : Type 0} (P : A → Type 0) (xs : List A) (d : A) → Every P xs → (i : ℕ) → i < length xs → P (get_or xs i d)
every_at P [] d all i lt = absurd (omega (arith, lt))
every_at P (x ∷ xs) d all zero lt = all.0
every_at P (x ∷ xs) d all (suc i) lt = every_at P xs d all.1 i (omega (arith, lt))

-- a function of an image whose fields fit
pub is_countable : (parts : Parts) → FieldsFit parts → (g : ℕ) → g < length parts.functions → IsCountable (function_at (reading_of parts) g)
is_countable parts fields g there =
    let fits = every_at (FunctionFits (length parts.types)) parts.functions no_function fields.functions g there in
    record { parameters = fits.parameters; locals = fits.count; code = fits.instructions }

-- those of the first ones
trues_first : (locals : List Storage) (p : ℕ) → p ≤ length locals → trues (map is_regional (take p locals)) p ≡ trues (map is_regional locals) p
trues_first [] zero le = refl
trues_first [] (suc p) le = absurd (omega (arith, le))
trues_first (x ∷ locals) zero le = sym (none (is_regional x ∷ map is_regional locals))
  where
    none : (bs : List Bool) → trues bs 0 ≡ 0
    none [] = refl
    none (b ∷ bs) = refl
trues_first (x ∷ locals) (suc p) le = next (is_regional x) (trues_first locals p (omega (arith, le)))
  where
    next : (b : Bool) → trues (map is_regional (take p locals)) p ≡ trues (map is_regional locals) p → trues (b ∷ map is_regional (take p locals)) (suc p) ≡ trues (b ∷ map is_regional locals) (suc p)
    next true e = ap suc e
    next false e = e

pub copies_counted : (f : Function) (count : ℕ) → f.parameters ≤ length f.locals → count ≡ trues (map is_regional (take f.parameters f.locals)) (length (take f.parameters f.locals)) → count ≡ copies f
copies_counted f count le e = e ∙ ap (trues (map is_regional (take f.parameters f.locals))) (length-take-le f.parameters f.locals le) ∙ trues_first f.locals f.parameters le

pub greatest_next : (image : Reading) (f : Function) (at greatest most next : ℕ) → greatest ≡ height_within image f at → next ≡ length (kinds_before image f (suc at)) → most ≡ greater greatest next → most ≡ height_within image f (at + 1)
greatest_next image f at greatest most next old here new =
    let e : suc at ≡ at + 1 = omega arith in
    new ∙ ap (λ n. greater greatest n) here ∙ ap (λ n. greater n (length (kinds_before image f (suc at)))) old ∙ ap (height_within image f) e

pub greater_small : (a b most n : ℕ) → most ≡ greater a b → a ≤ n → b ≤ n → most ≤ n
greater_small a b most n e la lb = by (nat_lt a b) refl
  where
    by : (t : Bool) → nat_lt a b ≡ t → most ≤ n
    by true is = let q : most ≡ b = e ∙ (rw is refl) in omega (arith, q, lb)
    by false is = let q : most ≡ a = e ∙ (rw is refl) in omega (arith, q, la)

pub are_counts : (image : Reading) (f : Function) (counts : Counts) (locals height : ℕ) → counts.copies ≡ copies f → locals ≡ trues (map is_regional f.locals) (length f.locals) → height ≡ height_within image f (length f.code)
    → counts.first ≡ counts.copies + locals → counts.result ≡ counts.copies + (locals + height) → AreCounts image f counts
are_counts image f counts locals height c l h first result = record {
  copies = c;
  first = (let s : counts.copies + locals ≡ counts.copies + (locals + 0) = omega arith in first ∙ s ∙ ap (λ n. n + (locals + 0)) c ∙ ap (λ n. copies f + (n + 0)) l);
  result = result ∙ ap (λ n. n + (locals + height)) c ∙ ap (λ n. copies f + (n + height)) l ∙ ap (λ n. copies f + (trues (regionals f) (length f.locals) + n)) h;
}

-- ---- a table of variables

pub variable_more : (locals : List Storage) (first i v v1 : ℕ) (s d : Storage) → i < length locals → s ≡ get_or locals i d → v ≡ first + trues (map is_regional locals) i → v1 ≡ v + one_if (is_regional s) → v1 ≡ first + trues (map is_regional locals) (i + 1)
variable_more locals first i v v1 s d lt is old new =
    let e : suc i ≡ i + 1 = omega arith in
    let m = more_trues locals i s d lt is in
    let n : v1 ≡ first + trues (map is_regional locals) (suc i) = omega (arith, old, new, m) in
    n ∙ ap (λ k. first + trues (map is_regional locals) k) e

get_left : (xs : List ℕ) (c x : ℕ) → x < length xs → get_or (xs ++ c ∷ []) x 0 ≡ get_or xs x 0
get_left [] c x lt = absurd (omega (arith, lt))
get_left (y ∷ xs) c zero lt = refl
get_left (y ∷ xs) c (suc x) lt = get_left xs c x (omega (arith, lt))

get_last : (xs : List ℕ) (c : ℕ) → get_or (xs ++ c ∷ []) (length xs) 0 ≡ c
get_last [] c = refl
get_last (y ∷ xs) c = get_last xs c

pub long_more : (xs more : List ℕ) (c i : ℕ) → more ≡ xs ++ c ∷ [] → length xs ≡ i → length more ≡ i + 1
long_more xs more c i e l = ap length e ∙ by xs ∙ ap (λ n. n + 1) l
  where
    by : (ys : List ℕ) → length (ys ++ c ∷ []) ≡ length ys + 1
    by [] = omega arith
    by (y ∷ ys) = let r = by ys in omega (arith, r)

order : (a b : ℕ) → (a < b) ⊎ ((a ≡ b) ⊎ (b < a))
order a b = grind arith

pub each_more : (g : ℕ → ℕ) (i v : ℕ) (table more : List ℕ) → more ≡ table ++ v ∷ [] → length table ≡ i → v ≡ g i → ((x : ℕ) → x < i → get_or table x 0 ≡ g x) → (x : ℕ) → x < i + 1 → get_or more x 0 ≡ g x
each_more g i v table more e long is each x lt = ap (λ (ns : List ℕ). get_or ns x 0) e ∙ by (order x i)
  where
    by : (x < i) ⊎ ((x ≡ i) ⊎ (i < x)) → get_or (table ++ v ∷ []) x 0 ≡ g x
    by (inl l) = get_left table v x (omega (arith, l, long)) ∙ each x l
    by (inr (inl q)) = let r : x ≡ length table = q ∙ sym long in ap (λ n. get_or (table ++ v ∷ []) n 0) r ∙ get_last table v ∙ is ∙ ap g (sym q)
    by (inr (inr l)) = absurd (omega (arith, l, lt))

-- ---- narrow functions

pub not_wide : (n : ℕ) → (128 < n → ⊥) → n ≤ 128
not_wide n narrow = by (order 128 n)
  where
    by : (128 < n) ⊎ ((128 ≡ n) ⊎ (n < 128)) → n ≤ 128
    by (inl l) = absurd (narrow l)
    by (inr (inl e)) = omega (arith, e)
    by (inr (inr l)) = omega (arith, l)

pub record AreNarrow (counts : Counts) : Type 0 where
  pub copies : counts.copies ≤ 128
  pub first : counts.first ≤ 128
  pub result : counts.result ≤ 128

pub are_narrow : (image : Reading) (f : Function) (counts : Counts) → AreCounts image f counts → variables image f ≤ 128 → AreNarrow counts
are_narrow image f counts are le =
    let c = are.copies in
    let p = are.first in
    let r = are.result in
    record { copies = omega (arith, c, le); first = omega (arith, p, le); result = omega (arith, r, le) }

pub few_locals : (image : Reading) (f : Function) (first : ℕ) → first ≡ copies f → variables image f ≤ 128 → (x : ℕ) → first + trues (map is_regional f.locals) x ≤ 128
few_locals image f first e le x =
    let b = trues_bound (map is_regional f.locals) x in
    let m : trues (map is_regional f.locals) (length (map is_regional f.locals)) ≡ trues (map is_regional f.locals) (length f.locals) = ap (trues (map is_regional f.locals)) (length-map f.locals is_regional) in
    omega (arith, e, le, b, m)
