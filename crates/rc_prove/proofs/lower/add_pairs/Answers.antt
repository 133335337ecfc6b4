use Rattle.std.proofs.Common.{◌≡◌, ◌∙◌, ◌+◌, ◌||◌, suc, subst, arith}
use Rattle.rc_facts.specs.Facts.{holds}
use Rattle.rc_annotations.specs.Annotations.{some_pair}
use Rattle.rc_sealed.specs.Carrying.{entry_pairs}
use Rattle.rc_prove.proofs.Beginning.{pairs_more}
use Rattle.rc_prove.proofs.lower.add_pairs.Goals as goal

pub loop-copy-preserved : goal.loop-copy-preserved
loop-copy-preserved c = record {
  same = c.add-in-loop-copy.ensures.variables ∙ c.add.ensures.variables ∙ c.loop-copy.invariant.same;
  added = λ fact. subst (λ k. holds c.add-in-loop-copy.new.self fact ≡ (holds c.args.work.now fact || some_pair (entry_pairs c.args.copies k) fact)) (let e : suc c.loop-copy.copy ≡ c.loop-copy.copy + 1 = omega arith in e)
      (pairs_more c.args.copies c.loop-copy.copy (holds c.args.work.now) (holds c.loop-copy.work) (holds c.add.new.self) (holds c.add-in-loop-copy.new.self) fact (c.loop-copy.invariant.added fact) (c.add.ensures.facts fact) (c.add-in-loop-copy.ensures.facts fact));
}
