use Rattle.rc_facts.specs.Rows.{here}
use Rattle.rc_facts.proofs.Absent.{absent-lt}
use Rattle.rc_facts.proofs.RowLaws.{reached_again, reached_all}
use Rattle.rc_facts.proofs.spread.spread.Goals as goal

pub rounds-init : goal.rounds-init
rounds-init c = record { kept = λ x is. is; sound = λ x is. here is }

pub rounds-preserved : goal.rounds-preserved
rounds-preserved c = record {
  kept = λ x is. c.swept-wider.ensures.kept x (c.rounds.invariant.kept x is);
  sound = λ x is. reached_again c.rounds.invariant.sound (c.swept-wider.ensures.sound x is);
}

pub rounds-smaller : goal.rounds-smaller
rounds-smaller c =
    let more = c.if-is_subset.ensures in
    absent-lt c.rounds.reached c.swept-wider.result more.0 c.swept-wider.ensures.kept more.1 more.2

pub returns-then-is_subset : goal.returns-then-is_subset
returns-then-is_subset c = λ x. (c.rounds.invariant.sound x, reached_all c.rounds.invariant.kept (λ y z at is. c.if-is_subset.ensures z (c.swept-wider.ensures.one y z at is)))
