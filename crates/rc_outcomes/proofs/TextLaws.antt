-- What was loaded of a file, and the whole of it.
use Rattle.std.proofs.Common.{◌≡◌, ◌<◌, ◌≤◌, ◌∙◌, ℕ, true, false, List, length, sym, arith}
use Rattle.std.proofs.Math.Nat.{lt_of_not-le}
use Rattle.std.proofs.lemmas.Grind.{common_steps}
use Rattle.rc_base.specs.Shelves.{IsFront}
use Rattle.rc_base.specs.declared.outside.Piece.{Piece}

-- a piece that is whole is its file
pub whole_is : (file : List ℕ) (most : ℕ) (piece : Piece) → IsFront file most piece → piece.whole ≡ true → piece.bytes ≡ file
whole_is file most piece front is = let short : length file ≤ most = front.whole.0 is in front.bytes ∙ grind (arith, common_steps)

-- and one that isn't is longer
pub longer : (file : List ℕ) (most : ℕ) (piece : Piece) → IsFront file most piece → piece.whole ≡ false → most < length file
longer file most piece front not_whole = lt_of_not-le (λ short. (
    let is : piece.whole ≡ true = front.whole.1 short in
    let wrong : false ≡ true = sym not_whole ∙ is in
    cc))
