use Rattle.std.proofs.Common.{◌+◌, ◌++◌, drop, get_or, sym, ap, ◌∙◌}
use Rattle.rc_base.specs.BitSets.{marks}
use Rattle.rc_live.specs.Rows.{chosen, chosen_if}
use Rattle.rc_live.proofs.Bits.{chosen_drop, pushed}
use Rattle.rc_live.proofs.rows.locals_of.Goals.{then-contains+in_ok-push, else-contains}
use Rattle.rc_live.proofs.rows.locals_of.Goals as goal

pub loop-bit-preserved : goal.loop-bit-preserved
loop-bit-preserved c =
    let names = c.args.names.now in
    let bit = c.loop-bit.bit in
    let later = chosen (drop (bit + 1) names) (marks c.args.row) (bit + 1) in
    let step = chosen_drop names (marks c.args.row) bit c.loop-bit-test.true in
    elim c.if-contains.branch [
      | then-contains+in_ok-push w ↦
          ap (λ v. v.items ++ later) w.locals-is ∙ ap (λ xs. xs ++ later) w.in_ok-push.ensures.ok
          ∙ sym (pushed (marks c.args.row bit) (get_or names bit 0) c.loop-bit.locals.items later (sym c.contains.ensures ∙ w.if-contains.true))
          ∙ ap (λ xs. c.loop-bit.locals.items ++ xs) (sym step) ∙ c.loop-bit.invariant
      | else-contains w ↦
          ap (λ v. v.items ++ later) w.locals-is
          ∙ ap (λ b. c.loop-bit.locals.items ++ chosen_if b (get_or names bit 0) later) (sym (sym c.contains.ensures ∙ w.if-contains.false))
          ∙ ap (λ xs. c.loop-bit.locals.items ++ xs) (sym step) ∙ c.loop-bit.invariant
    ]
