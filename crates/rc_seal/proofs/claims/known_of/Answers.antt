use Rattle.std.proofs.Common.{get_or}
use Rattle.rc_seal.specs.Claiming.{family}
use Rattle.rc_seal.proofs.Claiming.{one, known_is, no_counts}
use Rattle.rc_seal.proofs.claims.known_of.Goals as goal

pub frames_in-requires-clause-locals : goal.frames_in-requires-clause-locals
frames_in-requires-clause-locals c = (one c.args.sets.now c.requires.sets c.args.number c.requires.there no_counts).are.locals

pub returns : goal.returns
returns c =
    let sets = c.args.sets.now in
    let m = family sets in
    let g = c.args.number in
    known_is sets.parts.now m g (get_or sets.counts.now g no_counts) (one sets c.requires.sets g c.requires.there no_counts) c.index.result.now c.index-2.result.now
    (record { entry = c.in_ok-entry.entry; exit = c.in_ok-exit.exit; frames = c.in_ok-frames.frames })
    c.index.ensures c.index-2.ensures c.in_ok-entry.ensures.facts c.in_ok-entry.ensures.fit c.in_ok-exit.ensures.facts c.in_ok-exit.ensures.fit c.in_ok-frames.ensures
