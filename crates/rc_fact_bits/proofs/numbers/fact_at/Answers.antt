use Rattle.std.proofs.Common.{arith}
use Rattle.rc_fact_bits.proofs.Numbering.{up_at, traditional_at, present_at, none_at}
use Rattle.rc_fact_bits.proofs.numbers.fact_at.Goals as goal

pub returns-then-row-n-2 : goal.returns-then-row-n-2
returns-then-row-n-2 c =
    let le = c.if-row-n.false in
    let less = c.if-row-n-2.true in
    up_at c.args.n c.args.place.row c.args.place.column c.requires.inside (omega (arith, le)) (omega (arith, less))

pub returns-then-row-n-3 : goal.returns-then-row-n-3
returns-then-row-n-3 c = let e = c.if-row-n-3.true in traditional_at c.args.n c.args.place.row c.args.place.column c.requires.inside (omega (arith, e))

pub returns-then-row-n-4 : goal.returns-then-row-n-4
returns-then-row-n-4 c = let e = c.if-row-n-4.true in present_at c.args.n c.args.place.row c.args.place.column c.requires.inside (omega (arith, e))

pub returns : goal.returns
returns c =
    let le = c.if-row-n-2.false in
    let one = c.if-row-n-3.false in
    let two = c.if-row-n-4.false in
    none_at c.args.n c.args.place.row c.args.place.column c.requires.inside (omega (arith, le, one, two))
