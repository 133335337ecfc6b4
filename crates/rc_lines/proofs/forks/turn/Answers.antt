use Rattle.std.proofs.Common.{◌≡◌, suc, [], ◌∷◌, ◌++◌, length, refl, sym, ap, ◌∙◌, arith}
use Rattle.std.proofs.lemmas.List.{append_assoc, length-append, length-map}
use Rattle.rc_core.specs.Types.{int}
use Rattle.rc_emission.specs.StackCode.{set, pop, jump_zero}
use Rattle.rc_emission.specs.OperationCode.{line_of}
use Rattle.rc_lines.specs.Bare.{line_of as line_in}
use Rattle.rc_lines.proofs.forks.turn.Goals as goal

pub returns-clause-lines : goal.returns-clause-lines
returns-clause-lines c before after left e h =
    let line = c.args.line in
    let w = line_of line (set c.args.given int) in
    let x = line_of line pop in
    let f1 = c.in_ok-push.ensures ∙ ap (λ l. l ++ w ∷ []) e ∙ append_assoc before (left ∷ after) (w ∷ []) in
    let f2 = c.in_ok-to_end.ensures.lines ∙ ap (λ l. l ++ x ∷ []) f1 ∙ append_assoc before (left ∷ (after ++ w ∷ [])) (x ∷ []) in
    let m : length ((after ++ w ∷ []) ++ x ∷ []) ≡ suc (suc (length after)) = let p = length-append (after ++ w ∷ []) (x ∷ []) in let q = length-append after (w ∷ []) in let u : length (x ∷ []) ≡ 1 = refl in let v : length (w ∷ []) ≡ 1 = refl in omega (arith, p, q, u, v) in
    c.in_ok-set_jump.ensures before ((after ++ w ∷ []) ++ x ∷ []) left f2 h
    ∙ ap (λ n. before ++ (line_of line (jump_zero n) ∷ ((after ++ w ∷ []) ++ x ∷ []))) m
    ∙ sym (append_assoc before (line_of line (jump_zero (suc (suc (length after)))) ∷ (after ++ w ∷ [])) (x ∷ []))

pub returns-clause-place : goal.returns-clause-place
returns-clause-place c before after left e h =
    let line = c.args.line in
    let w = line_of line (set c.args.given int) in
    let x = line_of line pop in
    let f1 = c.in_ok-push.ensures ∙ ap (λ l. l ++ w ∷ []) e ∙ append_assoc before (left ∷ after) (w ∷ []) in
    let f2 = c.in_ok-to_end.ensures.lines ∙ ap (λ l. l ++ x ∷ []) f1 ∙ append_assoc before (left ∷ (after ++ w ∷ [])) (x ∷ []) in
    let rest = (after ++ w ∷ []) ++ x ∷ [] in
    let s = c.in_ok-set_jump.ensures before rest left f2 h in
    let a = sym (length-map c.leave_place.new.out.items line_in) ∙ ap length f2 ∙ length-append before (left ∷ rest) in
    let b = sym (length-map c.set_jump.new.out.items line_in) ∙ ap length s ∙ length-append before (line_of line (jump_zero (length rest)) ∷ rest) in
    let u : length (left ∷ rest) ≡ suc (length rest) = refl in
    let v : length (line_of line (jump_zero (length rest)) ∷ rest) ≡ suc (length rest) = refl in
    let n = c.in_ok-to_end.ensures.place in
    omega (arith, a, b, u, v, n)
