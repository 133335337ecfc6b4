use Rattle.std.proofs.Common.{sym, subst}
use Rattle.std.specs.Prelude.{IfOk}
use Rattle.rc_code.specs.declared.image.Function.{Function}
use Rattle.rc_pinning.specs.Stops.{HasStops, TellsUsed}
use Rattle.rc_pinning.proofs.Fitting.{has_stops}
use Rattle.rc_pinning.proofs.stops.used_in.Goals as goal

pub rows_of-requires : goal.rows_of-requires
rows_of-requires c = subst HasStops (sym c.function_of.ensures) (has_stops c.args.parts.now c.requires.fields c.requires.sound c.args.number c.requires.there c.requires.few)

pub returns : goal.returns
returns c = subst (λ (f : Function). IfOk c.rows_of.result (λ rows. TellsUsed f rows.items)) c.function_of.ensures c.rows_of.ensures
