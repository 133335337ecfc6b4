use Rattle.std.proofs.Common.{◌∙◌, ◌<◌, ◌^◌, ℕ, List, length, subst, sym}
use Rattle.rc_code.specs.declared.kind.Storage.{Storage}
use Rattle.rc_stops.specs.Rows.{AllFit}
use Rattle.rc_pinning.specs.Numbers.{AreNumbers}
use Rattle.rc_pinning.proofs.Fitting.{tells_used}
use Rattle.rc_pinning.proofs.stops.rows_of.Goals as goal

pub numbers_of-requires : goal.numbers_of-requires
numbers_of-requires c = subst (λ (ls : List Storage). length ls < 2 ^ 32) (sym c.as_slice.ensures) c.requires.count

pub stops_of-requires-clause-numbers : goal.stops_of-requires-clause-numbers
stops_of-requires-clause-numbers c =
    subst (λ (ns : List ℕ). AreNumbers c.args.function.now.locals ns) (sym c.as_slice-2.ensures.value) (subst (λ (ls : List Storage). AreNumbers ls c.in_ok-numbers.numbers.items) c.as_slice.ensures c.in_ok-numbers.ensures)

pub used-requires : goal.used-requires
used-requires c = record { fits = subst AllFit (sym (c.as_slice-3.ensures.value ∙ c.in_ok-stops.ensures)) c.requires.fits }

pub returns : goal.returns
returns c = tells_used c.args.function.now c.requires c.as_slice-3.result.now c.in_ok-rows.rows.items (c.as_slice-3.ensures.value ∙ c.in_ok-stops.ensures) c.in_ok-rows.ensures.long c.in_ok-rows.ensures.used
