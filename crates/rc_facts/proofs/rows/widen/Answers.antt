use Rattle.std.proofs.Common.{◌∙◌, sym, arith, inl, inr}
use Rattle.std.proofs.lemmas.Bool.{both_ways, cases_lt}
use Rattle.rc_facts.specs.Rows.{links}
use Rattle.rc_facts.proofs.RowLoops.{links_beyond}
use Rattle.rc_facts.proofs.rows.widen.Goals as goal

pub returns : goal.returns
returns c = λ x y. elim (cases_lt x c.loop-row.row-index) [
  | inl below ↦ c.loop-row.invariant.written x y below
  | inr beyond ↦ (
    λ is. inl (sym (c.loop-row.invariant.rest x y beyond) ∙ is),
    λ from. elim from [
      | inl is ↦ c.loop-row.invariant.rest x y beyond ∙ is
      | inr ((k, is, _), _) ↦ absurd (both_ways (links c.args.rows.now x k) (links_beyond c.args.rows.now x k (omega arith)) is)
    ],
  )
]
