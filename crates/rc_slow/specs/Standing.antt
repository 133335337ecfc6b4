-- What the evaluator's calls stand for: the one that runs, and those that wait, the innermost first.
use Rattle.std.specs.Prelude.{false, List, [], ◌∷◌, is_some}
use Rattle.rc_core.specs.Shapes.{function_of}
use Rattle.rc_frames.specs.declared.calls.Activation.{Activation as CodeActivation}
use Rattle.rc_frames.specs.Codes.{frames_of}
use Rattle.rc_frames.specs.Waiting.{waiting_of}
use Rattle.rc_slow.specs.Whole.{Activation}

abbrev pub activation_of : CodeActivation → Activation
activation_of a = record { function = function_of a.function.now; frames = frames_of a.frames; locals = a.locals; calls = a.calls; deletes = false; waits = [] }

abbrev pub callers_of : List CodeActivation → List Activation
callers_of [] = []
callers_of (a ∷ below) = record (activation_of a) { deletes = is_some a.held; waits = waiting_of below } ∷ callers_of below
