use Rattle.std.proofs.Common.{◌≡◌, ℕ, List, Ok, Err, length, ap, subst}
use Rattle.rc_files.specs.Loading.{MaySay, beyond, whole}
use Rattle.rc_outcomes.specs.Images.{carrying, read_as}
use Rattle.rc_files.proofs.image_file.image_in_piece.Goals as goal
use Rattle.rc_sealed_images.specs.Reading.{carried_of}

pub returns-then-not-piece-clause-read : goal.returns-then-not-piece-clause-read
returns-then-not-piece-clause-read c = beyond c.if-not-piece.true

pub returns-in-Ok-clause-read : goal.returns-in-Ok-clause-read
returns-in-Ok-clause-read c =
    whole (Ok (record { image = c.in-Ok.image; proofs = c.in-Ok.proofs })) c.if-not-piece.false
    (subst (λ (b : List ℕ). read_as (length b) (carried_of b) ≡ Ok (carrying c.in-Ok.image c.in-Ok.proofs)) c.as_slice.ensures (ap (read_as (length c.as_slice.result.now)) c.in-Ok.ensures.exact))

pub returns-in-Err-clause-read : goal.returns-in-Err-clause-read
returns-in-Err-clause-read c =
    whole (Err c.no_image.result) c.if-not-piece.false
    (subst (λ (b : List ℕ). MaySay (Err c.no_image.result) (read_as (length b) (carried_of b))) c.as_slice.ensures
    (c.no_image.ensures (length c.as_slice.result.now) (carried_of c.as_slice.result.now) c.in-Err.ensures.exact))
