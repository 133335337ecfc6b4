use Rattle.std.proofs.Common.{◌≡◌, [], ◌∷◌, Some, rules, refl}
use Rattle.rc_base.specs.Acts.{Getchar}
use Rattle.rc_core.specs.Heap.{Number}
use Rattle.rc_pile.specs.Stacks.{giving}
use Rattle.rc_steps.specs.Ready.{IsNextByte}
use Rattle.rc_calls.proofs.Leading.{leads_acts}
use Rattle.rc_calls.proofs.outside.get_char.Goals as goal

pub returns-in-Ok-clause-went : goal.returns-in-Ok-clause-went
returns-in-Ok-clause-went g c =
    let r = c.requires.ready in
    let n = c.in-Ok.n in
    let byte : IsNextByte n = search rules in
    let i : c.give_number.new.self ≡ giving 0 (Number n) c.args.pile.now = search rules in
    (n, search rules, c.in-Ok.ensures.heard, c.in-Ok.ensures.gave, leads_acts _ _ _ _ (Some n) (Getchar ∷ []) _ _ _ (r.1 n byte) i)

pub returns-in-Err-clause-went : goal.returns-in-Err-clause-went
returns-in-Err-clause-went g c =
    let r = c.requires.ready in
    (refl, c.in-Err.ensures.same, λ n byte. (_, _, r.1 n byte))
