use Rattle.std.proofs.Common.{◌≡◌, ◌*◌, ◌<◌, ◌≤◌}
use Rattle.rc_facts.specs.Facts.{holds}
use Rattle.rc_fact_bits.specs.Standing.{number_at}
use Rattle.rc_fact_bits.proofs.Bytes.{Packed}
use Rattle.rc_fact_bits.proofs.bits.bits_of.Given as goal

abbrev pub invariant-loop-at : goal.invariant-loop-at
invariant-loop-at l = record {
  packed : Packed l.n (holds l.set) l._at l.bytes.items;
  inside : 0 < l.n → l.next.column < l.n;
  rows : l.next.row ≤ l._at * 8;
  next : number_at l.n l.next ≡ l._at * 8;
}
