-- A value modulo 256 is that of its `int`.
use Rattle.std.proofs.Common.{◌≡◌, ℕ, suc, ◌+◌, ◌*◌, ℤ, pos, negsuc, Bool, true, false, refl, sym, ◌∙◌, arith, rules}
use Rattle.std.specs.Prelude.{◌+ℤ◌, ◌-ℤ◌, ◌%◌, ◌/◌, if◌then◌else◌}
use Rattle.std.specs.Int.{int_rem_euclid}
use Rattle.std.proofs.lemmas.Int.{int_rem_euclid_is}
use Rattle.std.proofs.Math.Nat.{div-add-mod}
use Rattle.rc_core.specs.Numbers.{fits_int}
use Rattle.rc_core.specs.Arithmetic.{wrapped, as_int}

record Lift (z : ℤ) : Type 0 where
  k : ℕ
  m : ℕ
  is : z +ℤ pos (k * 4294967296) ≡ pos m

lift : (z : ℤ) → Lift z
lift (pos a) = record { k = 0; m = a; is = search (rules, arith) }
lift (negsuc a) = record { k = suc a; m = suc a * 4294967295; is = search (rules, arith) }

pub char_again : (z : ℤ) → int_rem_euclid (as_int z) (pos 256) ≡ int_rem_euclid z (pos 256)
char_again z = by (fits_int (wrapped z)) ∙ sym here
  where
    k : ℕ
    k = (lift z).k

    m : ℕ
    m = (lift z).m

    is : z +ℤ pos ((lift z).k * 4294967296) ≡ pos (lift z).m
    is = (lift z).is

    here : int_rem_euclid z (pos 256) ≡ pos ((lift z).m % 256)
    here = int_rem_euclid_is z (pos 256) 256 ((lift z).k * 16777216) (lift z).m (omega arith) refl (let e = (lift z).is in search (rules, arith, e))

    w_is : wrapped z ≡ pos ((lift z).m % 4294967296)
    w_is = int_rem_euclid_is z (pos 4294967296) 4294967296 (lift z).k (lift z).m (omega arith) refl (lift z).is

    by : (b : Bool) → int_rem_euclid (if b then wrapped z else wrapped z -ℤ pos 4294967296) (pos 256) ≡ pos ((lift z).m % 256)
    by true = int_rem_euclid_is (wrapped z) (pos 256) 256 ((lift z).m / 4294967296 * 16777216) (lift z).m (omega arith) refl (let e = div-add-mod (lift z).m 4294967296 in let f = w_is in search (rules, arith, e, f))
    by false = int_rem_euclid_is (wrapped z -ℤ pos 4294967296) (pos 256) 256 ((lift z).m / 4294967296 * 16777216 + 16777216) (lift z).m (omega arith) refl (let e = div-add-mod (lift z).m 4294967296 in let f = w_is in search (rules, arith, e, f))
