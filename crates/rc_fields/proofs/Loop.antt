-- Reading one item after the other, as a loop does.
use Rattle.std.proofs.Common.{◌≡◌, ℕ, suc, ◌-◌, ◌+◌, ◌≤◌, ◌<◌, List, [], ◌∷◌, ◌++◌, Result, Ok, Err, refl, sym, ap, ◌∙◌, append_assoc, arith}
use Rattle.std.proofs.lemmas.List.{append-nil}
use Rattle.rc_fields.specs.declared.stop.Stop.{Stop}
use Rattle.rc_fields.specs.declared.stop.Stop.TheVariants as stop
use Rattle.rc_fields.specs.Reading.{◌>>=◌, Fault, wrong_magic, wrong_version, short, extra, field, Fails, Read, many}

-- what was read before, and what is still read
abbrev pub with_front : {A : Type 0} → List A → Read (List A) → Read (List A)
with_front front read = read >>= λ x. Ok (front ++ x.0, x.1)

regroup : {A : Type 0} (front : List A) (n : A) (read : Read (List A)) → with_front front (read >>= λ x. Ok (n ∷ x.0, x.1)) ≡ with_front (front ++ n ∷ []) read
regroup {A} front n (Ok x) = ap (λ (ns : List A). Ok (ns, x.1)) (simp append_assoc)
regroup front n (Err f) = refl

pub goes_on : {A : Type 0} (item : List ℕ → Read A) (front : List A) (count i : ℕ) (bytes : List ℕ) (n : A) (after : List ℕ) (total : Read (List A)) → i < count → item bytes ≡ Ok (n, after)
    → with_front front (many item (count - i) bytes) ≡ total → with_front (front ++ n ∷ []) (many item (count - (i + 1)) after) ≡ total
unfolding many
goes_on item front count i bytes n after total lt h so_far =
    let k : count - i ≡ suc (count - (i + 1)) = omega arith in
    let one : with_front front (many item (count - i) bytes) ≡ with_front (front ++ n ∷ []) (many item (count - (i + 1)) after) = rw (k, h) (regroup front n (many item (count - (i + 1)) after)) in
    sym one ∙ so_far

pub fails_by : {A B : Type 0} (e : Stop) (a : Result A Fault) (b : Result B Fault) → ((x : Fault) → a ≡ Err x → b ≡ Err x) → Fails e a → Fails e b
fails_by stop.Memory a b h g = tt
fails_by stop.Magic a b h g = h wrong_magic g
fails_by stop.Version a b h g = h wrong_version g
fails_by stop.Short a b h g = h short g
fails_by stop.Extra a b h g = h extra g
fails_by (stop.Field left) a b h g = h (field left) g

failed : {A : Type 0} (item : List ℕ → Read A) (front : List A) (count i : ℕ) (bytes : List ℕ) (total : Read (List A)) (f : Fault) → i < count
    → with_front front (many item (count - i) bytes) ≡ total → item bytes ≡ Err f → total ≡ Err f
unfolding many
failed item front count i bytes total f lt so_far h =
    let k : count - i ≡ suc (count - (i + 1)) = omega arith in
    let one : with_front front (many item (count - i) bytes) ≡ Err f = rw (k, h) refl in
    sym so_far ∙ one

pub ends : {A : Type 0} (item : List ℕ → Read A) (e : Stop) (front : List A) (count i : ℕ) (bytes : List ℕ) (total : Read (List A)) → i < count → Fails e (item bytes)
    → with_front front (many item (count - i) bytes) ≡ total → Fails e total
ends item e front count i bytes total lt fails so_far = fails_by e (item bytes) total (λ f h. failed item front count i bytes total f lt so_far h) fails

pub is_done : {A : Type 0} (item : List ℕ → Read A) (front : List A) (count i : ℕ) (bytes : List ℕ) (total : Read (List A)) → count ≤ i → with_front front (many item (count - i) bytes) ≡ total → total ≡ Ok (front, bytes)
unfolding many
is_done {A} item front count i bytes total le so_far =
    let k : count - i ≡ 0 = omega arith in
    let one : with_front front (many item (count - i) bytes) ≡ Ok (front, bytes) = rw k (ap (λ (ns : List A). Ok (ns, bytes)) (append-nil front)) in
    sym so_far ∙ one
