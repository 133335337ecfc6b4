use Rattle.std.proofs.Common.{◌≡◌, length}
use Rattle.rc_tests_leaves.proofs.pages.count_up.Given as goal

abbrev pub invariant-loop-at : goal.invariant-loop-at
invariant-loop-at g l = record {
  now : length l.pages ≡ length l.fn.pages;
  end : l.at-end ≡ length l.fn.pages;
}
