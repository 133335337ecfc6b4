-- Which store of an image has the mark of which point: the marks of region code's stores to annotated cells stand in the order of the code
-- (rc_marks), and a mark stands at such a store alone.
use Rattle.std.specs.Prelude.{◌≡◌, ℕ, Bool, true, Some, slice_get}
use Rattle.rc_facts.specs.declared.fact.Fact.{Fact}
use Rattle.rc_rlang.specs.RegionCode.{Routine, Rlang}
use Rattle.rc_rlang.specs.RegionFlow.{Node, routine_nodes}
use Rattle.rc_annotations.specs.Annotations.{asked_by}
pub use Rattle.rc_marks.specs.InOrder.{routine_marks, functions_marks, marks_in_order, mask_of}

-- at the point is a store whose check asks for a fact
pub record Asks (r : Rlang) (function point : ℕ) : Type 0 where
  pub routine : Routine
  pub there : slice_get r.functions function ≡ Some routine
  pub node : Node
  pub at_point : slice_get (routine_nodes routine) point ≡ Some node
  pub fact : Fact
  pub asks : asked_by node ≡ Some fact

-- marks stand at such stores alone
abbrev pub OnlyWhereAsked : Rlang → (marks : (function point : ℕ) → Bool) → Type 0
OnlyWhereAsked r marks = (g p : ℕ) → marks g p ≡ true → Asks r g p
