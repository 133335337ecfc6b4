-- What was read of a reader so far, and the front of a file that it comes to.
use Rattle.std.proofs.Common.{◌≡◌, ◌<◌, ◌≤◌, ◌+◌, ◌-◌, ◌∙◌, ℕ, zero, suc, nat_eq, min, true, false, List, [], ◌++◌, length, take, Option, Some, None, refl, sym, ap, subst, arith, append-nil, append_assoc, length-append}
use Rattle.std.specs.Io.KnownBytes.{Consumes, IsAtEnd}
use Rattle.std.proofs.Math.Seq.{take-append-add}
use Rattle.std.proofs.lemmas.List.{take-append-le}
use Rattle.std.proofs.lemmas.Bool.Decides.{nat_tests}
use Rattle.std.proofs.lemmas.Grind.{common_steps}
use Rattle.rc_base.specs.declared.outside.Piece.{Piece}
use Rattle.rc_adapters.specs.Adapters.{IsFrontOf}

-- first these bytes were read, then those
pub consumes_then : (a b c : Option (List ℕ)) (xs ys : List ℕ) → Consumes a b xs → Consumes b c ys → Consumes a c (xs ++ ys)
consumes_then None b c xs ys first next = tt
consumes_then (Some old) None c xs ys first next = absurd first
consumes_then (Some old) (Some bs) None xs ys first next = absurd next
consumes_then (Some old) (Some bs) (Some cs) xs ys first next = first ∙ ap (λ rest. xs ++ rest) next ∙ sym (append_assoc xs ys cs)

pub consumes_nothing : (a : Option (List ℕ)) → Consumes a a []
consumes_nothing None = tt
consumes_nothing (Some old) = refl

-- all was read, and it is short enough
pub front_whole : (old new : Option (List ℕ)) (most : ℕ) (piece : Piece) → Consumes old new piece.bytes → IsAtEnd new → length piece.bytes ≤ most → piece.whole ≡ true → IsFrontOf old most piece
front_whole None new most piece consumed at_end short whole = tt
front_whole (Some file) None most piece consumed at_end short whole = absurd consumed
front_whole (Some file) (Some rest) most piece consumed at_end short whole =
    let all : file ≡ piece.bytes = consumed ∙ ap (λ r. piece.bytes ++ r) at_end ∙ append-nil piece.bytes in
    let fits : length file ≤ most = (let same = ap length all in omega (arith, same, short)) in
    record { bytes = sym all ∙ grind (arith, common_steps, fits); whole = (λ is. fits, λ is. whole) }

-- more was read than may be kept
pub front_cut : (old new : Option (List ℕ)) (most : ℕ) (bytes more : List ℕ) (piece : Piece) → Consumes old new (bytes ++ more) → length bytes ≤ most → most - length bytes < length more → piece.bytes ≡ bytes ++ take (most - length bytes) more → piece.whole ≡ false → IsFrontOf old most piece
front_cut None new most bytes more piece consumed short long is cut = tt
front_cut (Some file) None most bytes more piece consumed short long is cut = absurd consumed
front_cut (Some file) (Some rest) most bytes more piece consumed short long is cut =
    let longer : most < length file = (let all = ap length consumed in let one = length-append (bytes ++ more) rest in let two = length-append bytes more in omega (arith, all, one, two, short, long)) in
    let all : file ≡ bytes ++ (more ++ rest) = consumed ∙ append_assoc bytes more rest in
    let room = most - length bytes in
    let whole : most ≡ length bytes + room = omega (arith, short) in
    let front : take most file ≡ bytes ++ take room more = ap (take most) all ∙ ap (λ n. take n (bytes ++ (more ++ rest))) whole ∙ take-append-add bytes (more ++ rest) room ∙ ap (λ b. bytes ++ b) (take-append-le room more rest (omega (arith, long))) in
    record {
      bytes = is ∙ sym front;
      whole = (λ wrong. (let e : false ≡ true = sym cut ∙ wrong in cc), λ fits. absurd (omega (arith, longer, fits)));
    }

-- a read that fits
pub kept_more : (old now new : Option (List ℕ)) (count room least : ℕ) (bytes after buffer : List ℕ) → Consumes old now bytes → Consumes now new (take count buffer) → least ≡ min count room → after ≡ bytes ++ take least buffer → count ≤ room → Consumes old new after
kept_more old now new count room least bytes after buffer first next is kept fits =
    let all : least ≡ count = omega (arith, is, fits) in
    subst (λ (b : List ℕ). Consumes old new b) (sym (kept ∙ ap (λ n. bytes ++ take n buffer) all)) (consumes_then old now new bytes (take count buffer) first next)

kept_length : (least : ℕ) (bytes after buffer : List ℕ) → after ≡ bytes ++ take least buffer → length after ≤ length bytes + least
kept_length least bytes after buffer kept = grind (arith, common_steps, kept)

pub kept_bound : (most count room least : ℕ) (bytes after buffer : List ℕ) → least ≡ min count room → after ≡ bytes ++ take least buffer → room ≡ most - length bytes → length bytes ≤ most → length after ≤ most
kept_bound most count room least bytes after buffer is kept room_is short = let long = kept_length least bytes after buffer kept in omega (arith, long, is, room_is, short)

-- the last read
pub read_to_the_end : (old now new : Option (List ℕ)) (most count room least : ℕ) (bytes after buffer : List ℕ) (piece : Piece) → Consumes old now bytes → Consumes now new (take count buffer) → IsAtEnd new → least ≡ min count room → after ≡ bytes ++ take least buffer → room ≡ most - length bytes → length bytes ≤ most → count ≡ 0 → piece.bytes ≡ after → piece.whole ≡ true → IsFrontOf old most piece
read_to_the_end old now new most count room least bytes after buffer piece first next at_end is kept room_is short none same whole =
    let all = kept_more old now new count room least bytes after buffer first next is kept (omega (arith, none)) in
    front_whole old new most piece (subst (λ (b : List ℕ). Consumes old new b) (sym same) all) at_end (let low = kept_bound most count room least bytes after buffer is kept room_is short in let e = ap length same in omega (arith, low, e)) whole

pub read_too_much : (old now new : Option (List ℕ)) (most count room least : ℕ) (bytes after buffer : List ℕ) (piece : Piece) → Consumes old now bytes → Consumes now new (take count buffer) → least ≡ min count room → after ≡ bytes ++ take least buffer → room ≡ most - length bytes → length bytes ≤ most → room < count → count ≤ length buffer → piece.bytes ≡ after → piece.whole ≡ false → IsFrontOf old most piece
read_too_much old now new most count room least bytes after buffer piece first next is kept room_is short long within same cut =
    let low : least ≡ most - length bytes = omega (arith, is, long, room_is) in
    let fits : least ≤ count = omega (arith, is) in
    let size : length (take count buffer) ≡ count = grind (arith, common_steps, within) in
    let front : take least buffer ≡ take least (take count buffer) = grind (arith, common_steps, fits) in
    front_cut old new most bytes (take count buffer) piece (consumes_then old now new bytes (take count buffer) first next) short (omega (arith, size, long, room_is)) (same ∙ kept ∙ ap (λ x. bytes ++ x) front ∙ ap (λ n. bytes ++ take n (take count buffer)) low) cut

-- whether a number is 0
pub is_zero : (n : ℕ) → n ≡ 0 → nat_eq n 0 ≡ true
is_zero n is = ap (λ m. nat_eq m 0) is

pub not_zero : (n : ℕ) → (n ≡ 0 → ⊥) → nat_eq n 0 ≡ false
not_zero zero not = absurd (not refl)
not_zero (suc n) not = grind (arith, nat_tests)
