use Rattle.std.proofs.Common.{refl}
use Rattle.rc_code.specs.Running.{reading_of}
use Rattle.rc_loader.proofs.demands.demands_of_simple.Goals as goal

pub returns : goal.returns
returns c parts n = record {
  named = refl;
  leads = refl;
  empties = c.is_return.ensures;
  kinds = c.taken_by_simple.ensures.kinds (reading_of parts);
  any = c.taken_by_simple.ensures.any;
  given = c.given_by_simple.ensures (reading_of parts) c.args.function.now;
}
