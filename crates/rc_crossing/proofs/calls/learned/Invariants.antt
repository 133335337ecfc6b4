use Rattle.std.proofs.Common.{◌≡◌, ◌++◌, drop}
use Rattle.rc_facts.specs.Facts.{holds}
use Rattle.rc_edges.specs.News.{rows_news}
use Rattle.rc_crossing.proofs.calls.learned.Given as goal

abbrev pub invariant-loop-variable : goal.invariant-loop-variable
invariant-loop-variable l = record {
  at : l.at ≡ l.variable-index;
  news : l.out.items ++ rows_news (holds l.exit) l.places (drop l.variable-index l.places) l.at ≡ rows_news (holds l.exit) l.places l.places 0;
}
