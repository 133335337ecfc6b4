use Rattle.std.proofs.Common.{◌≡◌, ◌++◌, take, IsTrue}
use Rattle.rc_replies.proofs.write.write_until.Given as goal

abbrev pub invariant-loop-byte : goal.invariant-loop-byte
invariant-loop-byte g l = record {
  tells : (g.O.Sink.state l.out).tells ≡ (g.O.Sink.state l.fn.out).tells;
  taken : IsTrue (g.O.Sink.state l.fn.out).tells → (g.O.Sink.state l.out).taken ≡ (g.O.Sink.state l.fn.out).taken ++ take l.byte-index l.bytes;
  flushed : IsTrue (g.O.Sink.state l.fn.out).tells → (g.O.Sink.state l.out).flushed ≡ (g.O.Sink.state l.fn.out).flushed;
  faults : (g.O.Sink.state l.out).faults ≡ (g.O.Sink.state l.fn.out).faults;
}
