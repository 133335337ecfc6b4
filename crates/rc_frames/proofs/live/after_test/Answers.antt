use Rattle.rc_frames.proofs.live.after_test.Goals as goal

pub returns-in-For : goal.returns-in-For
returns-in-For c = λ k2 a.
    let behind = c.after_condition-in-For.ensures k2 _ a (c.for_inside.ensures k2 a) in
    let shown = rw c.deref-in-For.ensures at (rw c.deref-in-For-2.ensures at (rw c.deref-in-For-3.ensures at behind)) in
    rw c.in-For.is shown
