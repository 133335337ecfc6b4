use Rattle.std.proofs.Common.{◌≡◌, ◌++◌, drop}
use Rattle.rc_claims.specs.Bits.{claims}
use Rattle.rc_edges.specs.News.{rows_news}
use Rattle.rc_image_claims.proofs.lists.add_rows.Given as goal

abbrev pub invariant-loop-name : goal.invariant-loop-name
invariant-loop-name l = record {
  at : l.at ≡ l.name-index;
  news : l.out.items ++ rows_news (claims l.n l.bytes) l.names (drop l.name-index l.names) l.at ≡ l.fn.out.items ++ rows_news (claims l.n l.bytes) l.names l.names 0;
}
