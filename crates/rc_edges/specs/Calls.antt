-- What calls and returns of region code fit. A call is of a function that is there, and has an argument for each of its hidden copies; a
-- return gives no variable behind the temporaries.
use Rattle.std.specs.Prelude.{◌≡◌, ℕ, ◌≤◌, List, length, slice_get, Option, Some}
use Rattle.rc_rlang.specs.RegionCode.{Routine, Rlang}
use Rattle.rc_rlang.specs.RegionFlow.{called, Edge, Node, copies, result_variable, routine_nodes}
use Rattle.rc_annotations.specs.Annotations.{NodeEdge}

pub record CallOf (r : Rlang) (function : ℕ) (arguments : List ℕ) : Type 0 where
  pub routine : Routine
  pub there : slice_get r.functions function ≡ Some routine
  pub each : length arguments ≡ copies routine

abbrev pub CallsFit : Rlang → Routine → Type 0
CallsFit r f = (p : ℕ) (edge : Edge) (x : Option ℕ) (h : ℕ) (arguments : List ℕ) → NodeEdge f p edge → edge.effect ≡ called x h arguments → CallOf r h arguments

abbrev pub ReturnsFit : Routine → (temporaries : ℕ) → Type 0
ReturnsFit f temporaries = (p : ℕ) (node : Node) (x : ℕ) → slice_get (routine_nodes f) p ≡ Some node → node.returns ≡ Some (Some x) → x ≤ result_variable f temporaries
