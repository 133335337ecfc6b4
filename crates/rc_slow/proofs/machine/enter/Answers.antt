use Rattle.std.proofs.Common.{◌≡◌, ◌∙◌, ◌∷◌, ◌-◌, [], false, None, arith, refl, ap}
use Rattle.rc_core.specs.Execution.{first_locals}
use Rattle.rc_core.specs.Shapes.{function_of}
use Rattle.rc_frames.specs.declared.calls.Activation.{Activation as CodeActivation}
use Rattle.rc_slow.specs.declared.machine.Machine.{Machine as CodeMachine}
use Rattle.rc_frames.specs.Codes.{frames_of, CodeFrames}
use Rattle.rc_slow.specs.Standing.{activation_of}
use Rattle.rc_frames.specs.Waiting.{waiting_of}
use Rattle.rc_slow.specs.Whole.{Activation}
use Rattle.rc_slow.proofs.Advances.{entered_on}
use Rattle.rc_slow.proofs.machine.enter.Goals as goal

pub returns : goal.returns
returns c = λ program limits k w.
    let m0 = c.args.machine.now in
    let f = function_of c.args.function.now in
    let n = m0.now.calls - 1 in
    let t = m0.turns - 1 in
    let h = c.in_ok-held.held in
    let next : CodeActivation = record { function = c.args.function; frames = c.new.result; locals = c.in_ok-first_locals.field-0; calls = n; held = None } in
    let m1 : CodeMachine = record { now = c.replace-caller.new.dest; below = c.push.new.self; heap = m0.heap; turns = t } in
    let at : c.replace-caller.new.dest ≡ next = c.replace-caller.ensures.after in
    let caller : c.replace-caller.result ≡ m0.now = c.replace-caller.ensures.value in
    let now : activation_of m1.now ≡ record { function = f; frames = []; locals = first_locals f c.args.arguments; calls = n; deletes = false; waits = [] } =
    ap activation_of at
    ∙ ap (λ (fs : CodeFrames). let a : Activation = record { function = f; frames = frames_of fs; locals = c.in_ok-first_locals.field-0; calls = n; deletes = false; waits = [] } in a) c.new.ensures
    ∙ ap (λ l. let a : Activation = record { function = f; frames = []; locals = l; calls = n; deletes = false; waits = [] } in a) c.in_ok-first_locals.ensures.locals in
    entered_on program limits n t f k m0 m1 w c.args.arguments h (omega (arith, c.requires.calls)) (omega (arith, c.requires.turns)) now
    (c.in_ok-push.ensures.pushed ∙ ap (λ (a : CodeActivation). record a { held = h } ∷ m0.below) caller)
    refl refl (c.in_ok-held.ensures.held (waiting_of m0.below)).0 (c.in_ok-held.ensures.held (waiting_of m0.below)).1
