use Rattle.std.proofs.Common.{◌≡◌, ◌/◌, ◌<◌, length, get_or, sym, subst, arith}
use Rattle.std.proofs.lemmas.Bool.{ltb-false}
use Rattle.rc_sealed_images.proofs.Unused.{none_unused, some_unused}
use Rattle.rc_sealed_images.proofs.bits.has_unused.Goals as goal

pub returns-in-None : goal.returns-in-None
returns-in-None c = sym (none_unused c.args.variables c.args.used c.args.bits.now c.requires.used c.requires.bytes (ltb-false (c.args.used / 8) (length c.args.bits.now) (sym c.in-None.ensures.lookup.0)))

pub returns-in-Some : goal.returns-in-Some
returns-in-Some c =
    let last : get_or c.args.bits.now (c.args.used / 8) 0 ≡ c.in-Some.last.now = sym (c.in-Some.ensures.lookup.3.1 0) in
    let small : c.in-Some.last.now < 256 = subst (λ b. b < 256) last (omega (arith, c.type_inv.bits (c.args.used / 8))) in
    some_unused c.args.variables c.args.used c.args.bits.now c.requires.used c.requires.bytes c.in-Some.last.now small last
