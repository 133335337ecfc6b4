-- Cells that are moved one at a time come to what reading all and then writing all comes to, where both places are the same or
-- share no cell.
use Rattle.std.proofs.Common.{◌≡◌, ◌<◌, ◌≤◌, ◌+◌, ℕ, zero, suc, List, [], ◌∷◌, length, take, drop, refl, sym, ap, ◌∙◌, inl, inr, arith}
use Rattle.rc_core.specs.Heap.{Value}
use Rattle.rc_core.specs.Source.{overwritten, first_of}
use Rattle.rc_kinds.specs.Copies.{Apart}

-- read at one place, written at the other, cell by cell
abbrev pub moved : (size from to : ℕ) → List Value → List Value
moved zero from to vs = vs
moved (suc size) from to vs = moved size (suc from) (suc to) (overwritten to (first_of (take 1 (drop from vs)) ∷ []) vs)

pub overwritten_nothing : (at : ℕ) (vs : List Value) → overwritten at [] vs ≡ vs
overwritten_nothing zero [] = refl
overwritten_nothing (suc at) [] = refl
overwritten_nothing zero (v ∷ vs) = refl
overwritten_nothing (suc at) (v ∷ vs) = ap (λ us. v ∷ us) (overwritten_nothing at vs)

pub overwritten_first : (at : ℕ) (u : Value) (new vs : List Value) → overwritten at (u ∷ new) vs ≡ overwritten (suc at) new (overwritten at (u ∷ []) vs)
overwritten_first zero u new [] = refl
overwritten_first (suc at) u new [] = refl
overwritten_first zero u new (v ∷ vs) = ap (λ us. u ∷ us) (ap (overwritten zero new) (sym (overwritten_nothing zero vs)))
overwritten_first (suc at) u new (v ∷ vs) = ap (λ us. v ∷ us) (overwritten_first at u new vs)

-- cells before the one that is written, and cells behind it
read_before : (size from to : ℕ) (u : Value) (vs : List Value) → from + size ≤ to → take size (drop from (overwritten to (u ∷ []) vs)) ≡ take size (drop from vs)
read_before size from to u [] h = refl
read_before size (suc from) zero u (v ∷ vs) h = absurd (omega (arith, h))
read_before zero zero zero u (v ∷ vs) h = refl
read_before (suc size) zero zero u (v ∷ vs) h = absurd (omega (arith, h))
read_before zero zero (suc to) u (v ∷ vs) h = refl
read_before (suc size) zero (suc to) u (v ∷ vs) h = ap (λ us. v ∷ us) (read_before size zero to u vs (omega (arith, h)))
read_before size (suc from) (suc to) u (v ∷ vs) h = read_before size from to u vs (omega (arith, h))

read_behind : (from to : ℕ) (u : Value) (vs : List Value) → to < from → drop from (overwritten to (u ∷ []) vs) ≡ drop from vs
read_behind from to u [] h = refl
read_behind zero to u (v ∷ vs) h = absurd (omega (arith, h))
read_behind (suc from) zero u (v ∷ vs) h = ap (drop from) (overwritten_nothing zero vs)
read_behind (suc from) (suc to) u (v ∷ vs) h = read_behind from to u vs (omega (arith, h))

-- what is read behind a write is what was there before
pub read_after : (size from to : ℕ) (u : Value) (vs : List Value) → Apart (suc size) from to → take size (drop (suc from) (overwritten to (u ∷ []) vs)) ≡ take size (drop (suc from) vs)
read_after size from to u vs (inl e) = ap (take size) (read_behind (suc from) to u vs (omega (arith, e)))
read_after size from to u vs (inr (inl h)) = read_before size (suc from) to u vs (omega (arith, h))
read_after size from to u vs (inr (inr h)) = ap (take size) (read_behind (suc from) to u vs (omega (arith, h)))

pub apart_next : (size from to : ℕ) → Apart (suc size) from to → Apart size (suc from) (suc to)
apart_next size from to (inl e) = inl (ap suc e)
apart_next size from to (inr (inl h)) = inr (inl (omega (arith, h)))
apart_next size from to (inr (inr h)) = inr (inr (omega (arith, h)))

pub overwritten_length : (at : ℕ) (new vs : List Value) → length (overwritten at new vs) ≡ length vs
overwritten_length zero new [] = refl
overwritten_length (suc at) new [] = refl
overwritten_length zero [] (v ∷ vs) = refl
overwritten_length zero (u ∷ new) (v ∷ vs) = ap suc (overwritten_length zero new vs)
overwritten_length (suc at) new (v ∷ vs) = ap suc (overwritten_length at new vs)

pub first_taken : (size from : ℕ) (vs : List Value) → from < length vs → take (suc size) (drop from vs) ≡ first_of (take 1 (drop from vs)) ∷ take size (drop (suc from) vs)
first_taken size from [] h = absurd (omega (arith, h))
first_taken size zero (v ∷ vs) h = refl
first_taken size (suc from) (v ∷ vs) h = first_taken size from vs (omega (arith, h))

pub moved_is : (size from to : ℕ) (vs : List Value) → Apart size from to → from + size ≤ length vs → moved size from to vs ≡ overwritten to (take size (drop from vs)) vs
moved_is zero from to vs a h = sym (overwritten_nothing to vs)
moved_is (suc size) from to vs a h =
    let u = first_of (take 1 (drop from vs)) in
    let long = overwritten_length to (u ∷ []) vs in
    moved_is size (suc from) (suc to) (overwritten to (u ∷ []) vs) (apart_next size from to a) (omega (arith, h, long))
    ∙ ap (λ us. overwritten (suc to) us (overwritten to (u ∷ []) vs)) (read_after size from to u vs a)
    ∙ sym (overwritten_first to u (take size (drop (suc from) vs)) vs)
    ∙ ap (λ us. overwritten to us vs) (sym (first_taken size from vs (omega (arith, h))))
