use Rattle.rc_verify.specs.Passes.{proofs_of}
use Rattle.rc_verify.proofs.Telling.{narrow_count}
use Rattle.rc_verify.proofs.verifying.fault_in.Goals as goal

pub first_unproved-requires-clause-site : goal.first_unproved-requires-clause-site
first_unproved-requires-clause-site c = record {
  fields = c.requires.checks.fields;
  sound = c.requires.checks.sound;
  there = c.requires.there;
  narrow = narrow_count c.args.checks.now.parts.now c.args.number (c.requires.checks.narrow c.args.number c.requires.there);
  shape = c.in_ok-shape.ensures;
}

pub returns : goal.returns
returns c = c.earlier.ensures c.args.checks.now.parts.now (proofs_of c.args.checks.now) c.in_ok-unproved.ensures c.in_ok-unpinned.ensures
