use Rattle.std.proofs.Common.{subst, arith}
use Rattle.std.proofs.lemmas.Option.{slice_get-get_or}
use Rattle.rc_prove.specs.Family.{family_of}
use Rattle.rc_prove.specs.Starting.{IsBegun}
use Rattle.rc_prove.proofs.Starts.{begun_more}
use Rattle.rc_prove.proofs.start.full.Goals as goal

pub returns : goal.returns
returns c = subst (λ k. IsBegun c.args.counts.now k (family_of c.loop-at.claims.entries.items c.loop-at.claims.exits.items c.loop-at.claims.frames.items)) (let f = c.loop-at-test.false in let e = c.loop-at.auto.at-end in omega (arith, f, e)) c.loop-at.invariant

pub loop-at-preserved : goal.loop-at-preserved
loop-at-preserved c = begun_more c.args.counts.now c.loop-at.at _ (family_of c.loop-at.claims.entries.items c.loop-at.claims.exits.items c.loop-at.claims.frames.items) (family_of c.push_full.new.claims.entries.items c.push_full.new.claims.exits.items c.push_full.new.claims.frames.items)
    (slice_get-get_or c.args.counts.now c.loop-at.at _ c.loop-at-test.true) c.in_ok-push_full.ensures c.loop-at.invariant
