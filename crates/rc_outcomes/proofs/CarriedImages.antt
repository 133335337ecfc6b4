-- Bytes carry an image, by itself or with proofs, where they are all of a spelling of it.
use Rattle.std.proofs.Common.{◌≡◌, ◌<◌, ◌≤◌, ◌∙◌, ℕ, zero, suc, Bool, true, false, List, [], ◌∷◌, length, get_or, Option, Result, Ok, Err, ap, arith}
use Rattle.std.specs.Prelude.{nat_le, if◌then◌else◌}
use Rattle.std.specs.List.{AllByRecursion as Every}
use Rattle.rc_claims.specs.declared.proofs.Proofs.{Proofs}
use Rattle.rc_code.specs.declared.image.Parts.{Parts}
use Rattle.rc_core.specs.Numbers.{IsByte}
use Rattle.rc_fields.specs.Reading as reading
use Rattle.rc_sealed_images.specs.Carrying.{Carries}
use Rattle.rc_sealed_images.specs.Reading.{carried_of}
use Rattle.rc_sealed_images.proofs.Wholes.{all_again, all_take}
use Rattle.rc_outcomes.specs.Images.{Carried, carried_by, carrying, read_as}
use Rattle.rc_answers.specs.declared.image_refusal.ImageRefusal.TheVariants.{Extra}

pub read_long : (bytes : List ℕ) → 268435456 < length bytes → carried_by bytes ≡ Err Extra
read_long bytes long = ap (λ b. if b then read_as (length bytes) (carried_of bytes) else Err Extra) (let e : nat_le (length bytes) 268435456 ≡ false = grind (arith, long) in e)

pub read_short : (bytes : List ℕ) → length bytes ≤ 268435456 → carried_by bytes ≡ read_as (length bytes) (carried_of bytes)
read_short bytes short = ap (λ b. if b then read_as (length bytes) (carried_of bytes) else Err Extra) (let e : nat_le (length bytes) 268435456 ≡ true = grind (arith, short) in e)

each_byte : (bytes : List ℕ) → Every IsByte bytes → (i : ℕ) → get_or bytes i 0 < 256
each_byte [] all i = omega arith
each_byte (b ∷ bs) all zero = all.0
each_byte (b ∷ bs) all (suc i) = each_byte bs all.1 i

was_read : (total : ℕ) (read : Result (Parts × Option Proofs) reading.Fault) (c : Carried) → read_as total read ≡ Ok c → read ≡ Ok (c.image, c.proofs)
was_read total (Ok found) c e = (let whole : carrying found.0 found.1 ≡ c = cc in ap (λ (carried : Carried). Ok (carried.image, carried.proofs)) whole)
was_read total (Err fault) c e = cc

pub image_carried : (bytes : List ℕ) (c : Carried) → Every IsByte bytes → carried_by bytes ≡ Ok c → Carries bytes c.image c.proofs
image_carried bytes c all e = by (nat_le (length bytes) 268435456) e
  where
    by : (b : Bool) → (if b then read_as (length bytes) (carried_of bytes) else Err Extra) ≡ Ok c → Carries bytes c.image c.proofs
    by true e = all_take bytes c.image c.proofs (each_byte bytes all) (was_read (length bytes) (carried_of bytes) c e)
    by false e = cc

pub carried_image : (bytes : List ℕ) (c : Carried) → length bytes ≤ 268435456 → Carries bytes c.image c.proofs → carried_by bytes ≡ Ok c
carried_image bytes c short is = read_short bytes short ∙ ap (read_as (length bytes)) (all_again bytes c.image c.proofs is)
