-- Where statements begin.
use Rattle.rc_syntax.specs.declared.tree.Spot.{Spot}
use Rattle.rc_syntax.specs.Tree as t

abbrev pub spot_of : t.Stmt → Spot
spot_of (t.local l) = l.spot
spot_of (t.block at body) = at
spot_of (t.empty at) = at
spot_of (t.simple at s) = at
spot_of (t.if_then at c a) = at
spot_of (t.if_else at c a b) = at
spot_of (t.while_do at c a) = at
spot_of (t.do_while at a c) = at
spot_of (t.for_do at start c next a) = at
spot_of (t.break_loop at) = at
spot_of (t.continue_loop at) = at
spot_of (t.return_with at e) = at
