use Rattle.std.proofs.Common.{◌∙◌, length, sym}
use Rattle.rc_base.specs.BitSets.{marks}
use Rattle.rc_facts.specs.Rows.{links}
use Rattle.rc_facts.proofs.Added.{trad_over, trad_exact}
use Rattle.rc_facts.proofs.adding.traditional_rows.Goals as goal

pub returns-clause-sound : goal.returns-clause-sound
returns-clause-sound c = record {
  few = rw c.settle.auto.within c.requires.sound.few;
  same = c.settle.auto.above ∙ c.requires.sound.same ∙ sym c.settle.auto.within;
  over = λ fact there. rw c.settle.auto.within (trad_over (length c.args.within.now) c.args.x (links c.args.within.now) (links c.args.above.now) (marks c.args.traditional.now) (marks c.args.present) (marks c.with.result) c.requires.sound.over c.requires.x c.with.ensures c.settle.ensures fact there);
}

pub returns-clause-facts : goal.returns-clause-facts
returns-clause-facts c = trad_exact (length c.args.within.now) c.args.x (links c.args.within.now) (links c.args.above.now) (marks c.args.traditional.now) (marks c.args.present) (marks c.with.result) c.requires.sound.over c.requires.x c.with.ensures c.settle.ensures
