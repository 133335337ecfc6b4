use Rattle.std.proofs.Common.{◌≡◌, ℕ, List, length, take}
use Rattle.rc_linked_texts.specs.Texts.{AreFine}
use Rattle.rc_link.specs.Answers.{trees_of}
use Rattle.rc_driver.specs.Linking.{AreTextsOf}
use Rattle.rc_driver.proofs.link.units.Given as goal

abbrev pub invariant-loop-text : goal.invariant-loop-text
invariant-loop-text l = record {
  fine : (all : List (List ℕ)) → AreTextsOf l.texts all → AreFine (take l.text-index all) (trees_of l.units.items);
  count : length l.units.items ≡ l.text-index;
}
