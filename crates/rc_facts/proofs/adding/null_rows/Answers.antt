use Rattle.std.proofs.Common.{refl, ◌≡◌, ◌∙◌, ℕ, ◌||◌, ◌&&◌, ◌==◌, not, length, ap, sym}
use Rattle.rc_base.specs.BitSets.{marks}
use Rattle.rc_facts.specs.Rows.{links}
use Rattle.rc_facts.specs.Steps.{IsWidened}
use Rattle.rc_facts.proofs.Added.{widened_as}
use Rattle.rc_facts.proofs.NullAdded.{null_over, null_exact}
use Rattle.rc_facts.proofs.Shut.{others}
use Rattle.rc_facts.proofs.adding.null_rows.Goals as goal

pub returns-clause-sound : goal.returns-clause-sound
returns-clause-sound c =
    let wide_in : IsWidened (links c.args.within.now) (links c.widen.new.rows) (λ k. k == c.args.x) (marks c.without-all.result) = widened_as (λ k. c.with-entry.ensures k ∙ ap (λ b. b || k == c.args.x) (c.empty.ensures k)) (λ k. refl) c.widen.ensures in
    let wide_up : IsWidened (links c.args.above.now) (links c.widen-2.new.rows) (λ k. k == c.args.x) (marks c.without-all.result) = widened_as (λ k. c.with-entry.ensures k ∙ ap (λ b. b || k == c.args.x) (c.empty.ensures k)) (λ k. refl) c.widen-2.ensures in
    let all : (k : ℕ) → marks c.without-all.result k ≡ others (length c.args.within.now) c.args.scratch k = λ k. c.without-all.ensures k ∙ ap (λ b. b && not (k == c.args.scratch)) (c.below.ensures k) in
    let settles = rw c.widen.auto.rows at c.settle.ensures in
    let same_in = c.settle.auto.within ∙ c.widen.auto.rows in
    record {
      few = rw same_in c.requires.sound.few;
      same = c.settle.auto.above ∙ c.widen-2.auto.rows ∙ c.requires.sound.same ∙ sym same_in;
      over = λ fact there. rw same_in (null_over (length c.args.within.now) c.args.x c.args.scratch (links c.args.within.now) (links c.args.above.now) (links c.widen.new.rows) (links c.widen-2.new.rows) (marks c.args.traditional.now) (marks c.args.present) (marks c.with.result) (marks c.without-all.result) c.requires.sound.over c.requires.x c.with.ensures all wide_in wide_up settles fact there);
    }

pub returns-clause-facts : goal.returns-clause-facts
returns-clause-facts c =
    let wide_in : IsWidened (links c.args.within.now) (links c.widen.new.rows) (λ k. k == c.args.x) (marks c.without-all.result) = widened_as (λ k. c.with-entry.ensures k ∙ ap (λ b. b || k == c.args.x) (c.empty.ensures k)) (λ k. refl) c.widen.ensures in
    let wide_up : IsWidened (links c.args.above.now) (links c.widen-2.new.rows) (λ k. k == c.args.x) (marks c.without-all.result) = widened_as (λ k. c.with-entry.ensures k ∙ ap (λ b. b || k == c.args.x) (c.empty.ensures k)) (λ k. refl) c.widen-2.ensures in
    let all : (k : ℕ) → marks c.without-all.result k ≡ others (length c.args.within.now) c.args.scratch k = λ k. c.without-all.ensures k ∙ ap (λ b. b && not (k == c.args.scratch)) (c.below.ensures k) in
    let settles = rw c.widen.auto.rows at c.settle.ensures in
    null_exact (length c.args.within.now) c.args.x c.args.scratch (links c.args.within.now) (links c.args.above.now) (links c.widen.new.rows) (links c.widen-2.new.rows) (marks c.args.traditional.now) (marks c.args.present) (marks c.with.result) (marks c.without-all.result) c.requires.sound.over c.requires.x c.with.ensures all wide_in wide_up settles c.requires.null
