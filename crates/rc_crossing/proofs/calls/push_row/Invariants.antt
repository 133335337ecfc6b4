use Rattle.std.proofs.Common.{◌≡◌, ◌++◌, drop}
use Rattle.rc_facts.specs.Facts.{holds}
use Rattle.rc_edges.specs.News.{row_news}
use Rattle.rc_crossing.proofs.calls.push_row.Given as goal

abbrev pub invariant-loop-other : goal.invariant-loop-other
invariant-loop-other l = record {
  at : l.at ≡ l.other-index;
  news : l.out.items ++ row_news (holds l.exit) l.place l.variable (drop l.other-index l.places) l.at ≡ l.fn.out.items ++ row_news (holds l.exit) l.place l.variable l.places 0;
}
