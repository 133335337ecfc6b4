use Rattle.std.proofs.Common.{◌≡◌, ◌||◌, ◌<◌, ◌+◌, ◌*◌, ◌≤◌, ℕ, sym, subst, length}
use Rattle.rc_base.specs.BitSets.{marks}
use Rattle.rc_stops.specs.declared.stop.Stop.{Stop}
use Rattle.rc_stops.specs.Paths.{stop_at}
use Rattle.rc_stops.specs.Rows.{before_marks, missing, row_at}
use Rattle.rc_stops.proofs.Looks.{look_used, look_quiet, look_grew, grew_less, no_more, of_false, of_true}
use Rattle.rc_stops.proofs.settling.visit.Goals as goal

pub returns-then-not-grew-clause-visited : goal.returns-then-not-grew-clause-visited
returns-then-not-grew-clause-visited c =
    let same = of_false (missing c.look-grew.new.rows < missing c.args.rows.now) (c.look-grew.new.rows ≡ c.args.rows.now) c.look-grew.result c.look-grew.ensures.told c.if-not-grew.true in
    record {
      used = look_used c.args.stops.now c.args.rows.now c.look-grew.new.rows c.requires.fits c.args.at c.requires.at c.look-grew.ensures.others there;
      whole = λ k so. look_quiet c.args.stops.now c.args.rows.now c.look-grew.new.rows c.requires.fits c.args.at c.requires.at c.look-grew.ensures.others there c.args.waiting.now.items same k so;
      less = subst (λ rows. missing rows * (length c.args.stops.now + 2) + length c.args.waiting.now.items ≤ missing c.args.rows.now * (length c.args.stops.now + 2) + length c.args.waiting.now.items) (sym same) (no_more (missing c.args.rows.now * (length c.args.stops.now + 2) + length c.args.waiting.now.items));
    }
  where
    there : (x : ℕ) → marks (row_at c.look-grew.new.rows c.args.at) x ≡ (marks (row_at c.args.rows.now c.args.at) x || before_marks c.args.rows.now c.args.at (stop_at c.args.stops.now c.args.at) x)
    there x = subst (λ (s : Stop). marks (row_at c.look-grew.new.rows c.args.at) x ≡ (marks (row_at c.args.rows.now c.args.at) x || before_marks c.args.rows.now c.args.at s x)) c.stop_of-stop.ensures (c.look-grew.ensures.there x)

pub returns-clause-visited : goal.returns-clause-visited
returns-clause-visited c =
    let less = of_true (missing c.look-grew.new.rows < missing c.args.rows.now) (c.look-grew.new.rows ≡ c.args.rows.now) c.look-grew.result c.look-grew.ensures.told c.if-not-grew.false in
    record {
      used = look_used c.args.stops.now c.args.rows.now c.look-grew.new.rows c.requires.fits c.args.at c.requires.at c.look-grew.ensures.others there;
      whole = λ k so. look_grew c.args.stops.now c.args.rows.now c.look-grew.new.rows c.requires.fits c.args.at c.requires.at c.look-grew.ensures.others there c.args.waiting.now.items c.wake_before.new.waiting.items c.in_ok-wake_before.ensures.woken c.in_ok-wake_before.ensures.kept k so;
      less = grew_less (missing c.args.rows.now) (missing c.look-grew.new.rows) (length c.args.stops.now) (length c.args.waiting.now.items) (length c.wake_before.new.waiting.items) less c.in_ok-wake_before.ensures.count;
    }
  where
    there : (x : ℕ) → marks (row_at c.look-grew.new.rows c.args.at) x ≡ (marks (row_at c.args.rows.now c.args.at) x || before_marks c.args.rows.now c.args.at (stop_at c.args.stops.now c.args.at) x)
    there x = subst (λ (s : Stop). marks (row_at c.look-grew.new.rows c.args.at) x ≡ (marks (row_at c.args.rows.now c.args.at) x || before_marks c.args.rows.now c.args.at s x)) c.stop_of-stop.ensures (c.look-grew.ensures.there x)
