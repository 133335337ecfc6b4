use Rattle.std.proofs.Common.{◌∙◌, ◌≤◌, ◌≡◌, ℕ, sym, arith, inl, inr, false, length}
use Rattle.std.proofs.lemmas.Bool.{cases_Bool}
use Rattle.rc_base.specs.BitSets.{marks}
use Rattle.rc_facts.proofs.RowLoops.{written_all, links_beyond}
use Rattle.rc_facts.proofs.RowSteps.{write_all, one_by_none}
use Rattle.rc_facts.proofs.rows.write.Goals as goal

pub returns : goal.returns
returns c =
    let unmarked : (a : ℕ) → length c.args.rows.now ≤ a → marks c.args.column a ≡ false = λ a beyond. elim (cases_Bool (marks c.args.column a)) [ inl is ↦ (let below = c.requires.column a is in let no : ⊥ = omega arith in absurd no) | inr out ↦ out ] in
    write_all c.args.rows.now c.loop-at.rows c.args.x c.with.result c.args.row c.args.column (omega arith) c.with.ensures
    (written_all c.loop-at.rows c.loop-at.at c.loop-at.invariant (λ x y beyond. links_beyond c.args.rows.now x y (omega arith) ∙ sym (one_by_none c.args.rows.now x c.args.column c.args.x y (omega arith) (unmarked x (omega arith)))))
