-- Rules that give nothing: a node's own, by whether it is broken, and one in front of others.
use Rattle.std.proofs.Common.{◌≡◌, refl, Bool, true, false}
use Rattle.rc_syntax.specs.declared.tree.Spot.{Spot}
use Rattle.rc_deletes.specs.declared.fault.Refusal.{Refusal}
use Rattle.rc_deletes.specs.Judged.{Judged, Holds, Faulty, failing, in_front, ruled, with_part}
use Rattle.rc_typed_values.specs.declared.stop.Stop.{Stop}
use Rattle.rc_typed_values.specs.declared.stop.Stop.TheVariants.{Rule, Memory}
use Rattle.rc_typed_values.specs.Stops.{StopsAt}

pub ruled_kept : {A : Type 0} (at : Spot) (b : Bool) (k : Refusal) (a : A) → b ≡ false → ruled at (failing b k) a ≡ Holds a
ruled_kept at b k a h = rw h refl

pub ruled_broken : {A : Type 0} (at : Spot) (b : Bool) (k : Refusal) (a : A) → b ≡ true → StopsAt (ruled at (failing b k) a) (Rule (record { at = at; refusal = k }))
ruled_broken at b k a h = rw h refl

pub front_stop : {A B : Type 0} (x : Judged A) (y : Judged B) (s : Stop) → StopsAt x s → StopsAt (in_front x y) s
front_stop x y Memory h = tt
front_stop (Faulty g gs) y (Rule f) h = h
front_stop (Holds a) y (Rule f) h = absurd cc

pub unit_part : (y : Judged (Unit {0})) → with_part y (λ v. Holds tt) ≡ y
unit_part (Holds v) = refl
unit_part (Faulty f fs) = refl
