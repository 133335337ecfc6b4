-- What a reader of all the bytes answers, by what reading them gives.
use Rattle.std.proofs.Common.{ℕ, Result, refl}
use Rattle.rc_fields.specs.declared.stop.Stop.{Stop}
use Rattle.rc_fields.specs.declared.stop.Stop.TheVariants as stop
use Rattle.rc_fields.specs.Reading.{Fault, Fails}
use Rattle.rc_image.specs.Reading.{Refuses, answered}

pub is_refused : {A : Type 0} (total : ℕ) (e : Stop) (read : Result A Fault) → Fails e read → Refuses total (answered total e) read
is_refused total stop.Memory read fails = tt
is_refused total stop.Magic read fails = fails
is_refused total stop.Version read fails = fails
is_refused total stop.Short read fails = fails
is_refused total stop.Extra read fails = fails
is_refused total (stop.Field left) read fails = (left, fails, refl)
