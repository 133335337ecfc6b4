use Rattle.rc_facts.specs.Facts.{holds}
use Rattle.rc_fact_bits.specs.Standing.{number_at}
use Rattle.rc_fact_bits.proofs.Bytes.{some_stands}
use Rattle.rc_fact_bits.proofs.Numbering.{none_stands}
use Rattle.rc_fact_bits.proofs.bits.bit_of.Goals as goal

pub returns-in-None : goal.returns-in-None
returns-in-None c = none_stands c.args.n (number_at c.args.n c.args.place) (holds c.args.set.now) c.in-None.ensures

pub returns-in-Some : goal.returns-in-Some
returns-in-Some c = some_stands c.args.n (number_at c.args.n c.args.place) (holds c.args.set.now) c.in-Some.fact c.in-Some.ensures.over c.in-Some.ensures.numbered c.has.result c.has.ensures
