use Rattle.std.proofs.Common.{◌≡◌, ◌++◌, drop}
use Rattle.rc_claims.specs.Bits.{claims}
use Rattle.rc_edges.specs.News.{row_news}
use Rattle.rc_image_claims.proofs.lists.add_row.Given as goal

abbrev pub invariant-loop-other : goal.invariant-loop-other
invariant-loop-other l = record {
  at : l.at ≡ l.other-index;
  news : l.out.items ++ row_news (claims l.n l.bytes) l.variable l.name (drop l.other-index l.names) l.at ≡ l.fn.out.items ++ row_news (claims l.n l.bytes) l.variable l.name l.names 0;
}
