use Rattle.std.proofs.Common.{length, sym, subst}
use Rattle.rc_seal.specs.declared.claims.Sets.{Sets}
use Rattle.rc_seal.specs.Claiming.{family, AreFirstKnown, IsReady}
use Rattle.rc_seal.proofs.Claiming.{at_targets, they_claim, they_fit}
use Rattle.rc_seal.proofs.claims.proofs_of.Goals as goal

pub returns : goal.returns
returns c =
    let sets : Sets = record { alloc = c.args.alloc; parts = c.args.parts; counts = c.args.counts; claims = c.args.claims } in
    let ready : IsReady sets = record { fields = c.requires.fields; sound = c.requires.sound; narrow = c.requires.narrow; fit = c.requires.fit; counts = c.requires.counts; shaped = c.requires.shaped } in
    let are = subst (AreFirstKnown c.args.parts.now (family sets) (length c.args.parts.now.functions)) (sym c.new.ensures) c.in_ok-all.ensures in
    record {
      fits = they_fit sets ready c.new.result are;
      claims = they_claim sets ready c.new.result are;
      frames = at_targets sets ready c.new.result are;
    }
