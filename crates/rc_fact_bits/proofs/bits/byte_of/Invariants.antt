use Rattle.std.proofs.Common.{◌≡◌, ◌+◌, ◌<◌, ◌≤◌}
use Rattle.rc_facts.specs.Facts.{holds}
use Rattle.rc_fact_bits.specs.Standing.{number_at}
use Rattle.rc_fact_bits.proofs.Bytes.{Filled}
use Rattle.rc_fact_bits.proofs.bits.byte_of.Given as goal

abbrev pub invariant-loop-at : goal.invariant-loop-at
invariant-loop-at l = record {
  inside : l.next.column < l.n;
  rows : l.next.row ≤ l.fn.first.row + l.at;
  next : number_at l.n l.next ≡ number_at l.n l.fn.first + l.at;
  filled : Filled l.n (holds l.set) (number_at l.n l.fn.first) l.at l.byte;
}
