use Rattle.std.proofs.Common.{◌≡◌, ◌∙◌, ℕ, false, None, Some, length, get_or, sym, ap, refl, arith, add-one, below_more}
use Rattle.std.proofs.lemmas.Bool.{false≢true}
use Rattle.std.proofs.lemmas.List.{length-map}
use Rattle.rc_regions.specs.Columns.{Columns, columns_of}
use Rattle.rc_regions.specs.Slots.{IsUnmarked, is_live, slot_at}
use Rattle.rc_regions.proofs.Stored.{read, slots-made}
use Rattle.rc_regions.proofs.Walked.{after, met_before, met_child, met_end, walk}
use Rattle.rc_regions.proofs.tree.Tree.has_unmarked_child.Goals as goal

pub returns-in_default : goal.returns-in_default
returns-in_default c =
    let old : Columns = columns_of c.self.inside.table in
    let none : walk old.next (old.first_child c.args.slot) c.loop.counter ≡ None = sym c.loop.invariant.at ∙ c.in_default.is in (
      (λ never. absurd (false≢true never)),
      (λ has.
          let there = met_before old c.self.invariant.linked c.args.slot c.loop.counter has.0 none (ap (λ slots. slot_at slots has.0) c.self.view_is ∙ has.1) in
          absurd (c.loop.invariant.marked there.0 there.1 has.0 there.2 has.2)),
    )

pub bounds-marks-child : goal.bounds-marks-child
bounds-marks-child c =
    let old : Columns = columns_of c.self.inside.table in
    let met = met_child old c.self.invariant.linked c.args.slot c.loop.counter c.in-Some.child (sym c.loop.invariant.at ∙ c.in-Some.is) in
    c.requires.marks c.in-Some.child (ap is_live (ap (λ slots. slot_at slots c.in-Some.child) (sym c.self.view_is) ∙ met.1))

pub returns-then-not-marks-child : goal.returns-then-not-marks-child
returns-then-not-marks-child c =
    let old : Columns = columns_of c.self.inside.table in
    let met = met_child old c.self.invariant.linked c.args.slot c.loop.counter c.in-Some.child (sym c.loop.invariant.at ∙ c.in-Some.is) in (
      (λ _. (c.in-Some.child, ap (λ slots. slot_at slots c.in-Some.child) (sym c.self.view_is) ∙ met.1, c.if-not-marks-child.true)),
      (λ _. refl),
    )

pub index-requires-in-loop : goal.index-requires-in-loop
index-requires-in-loop c =
    let table = c.self.inside.table in
    let old : Columns = columns_of table in
    let met = met_child old c.self.invariant.linked c.args.slot c.loop.counter c.in-Some.child (sym c.loop.invariant.at ∙ c.in-Some.is) in
    omega (arith, slots-made table.records.items c.in-Some.child met.0, table.records.ok.0)

pub loop-preserved : goal.loop-preserved
loop-preserved c =
    let table = c.self.inside.table in
    let old : Columns = columns_of table in
    let child = c.in-Some.child in
    let here : walk old.next (old.first_child c.args.slot) c.loop.counter ≡ Some child = sym c.loop.invariant.at ∙ c.in-Some.is in
    let made = (met_child old c.self.invariant.linked c.args.slot c.loop.counter child here).0 in
    let next : old.next child ≡ c.index-in-loop.result.now.next = read table.records.items table.ways table.first_free child c.index-in-loop.result.now made c.index-in-loop.ensures (λ r. r.next) None in
    record {
      at = sym (ap (walk old.next (old.first_child c.args.slot)) (add-one c.loop.counter) ∙ ap (after old.next) here ∙ next);
      marked = below_more (λ k. (s : ℕ) → walk old.next (old.first_child c.args.slot) k ≡ Some s → IsUnmarked c.args.marks.now s → ⊥) c.loop.counter c.loop.invariant.marked
          (λ s is none. let same : Some child ≡ Some s = sym here ∙ is in let one : child ≡ s = cc in false≢true (sym none ∙ ap (λ n. get_or c.args.marks.now n false) (sym one) ∙ c.if-not-marks-child.false));
    }

pub returns : goal.returns
returns c =
    let old : Columns = columns_of c.self.inside.table in
    let all : length old.slots ≡ length c.self.inside.table.records.items = length-map c.self.inside.table.records.items (λ r. r.slot) in
    let none = met_end old c.self.invariant.linked c.args.slot c.loop.counter (omega (arith, c.loop-test.false, c.len-end.ensures, c.self.inside.table.records.ok.0, all)) in (
      (λ never. absurd (false≢true never)),
      (λ has.
          let there = met_before old c.self.invariant.linked c.args.slot c.loop.counter has.0 none (ap (λ slots. slot_at slots has.0) c.self.view_is ∙ has.1) in
          absurd (c.loop.invariant.marked there.0 there.1 has.0 there.2 has.2)),
    )
