use Rattle.std.proofs.Common.{◌≡◌, ◌≢◌, ◌∙◌, ℕ, true, Option, Some, None, IsTrue, refl, sym, ap, subst}
use Rattle.std.specs.Option.{is_some}
use Rattle.rc_regions.specs.Columns.{Columns, columns_of}
use Rattle.rc_regions.specs.Slots.{IsLive, IsParent}
use Rattle.rc_regions.specs.Above.{IsTree}
use Rattle.rc_regions.proofs.Counted.{live_made}
use Rattle.rc_regions.proofs.Sounds.{IsTree-sound, first_has_parent, parent_has_first}
use Rattle.rc_regions.proofs.Stored.{read}
use Rattle.rc_regions.proofs.tree.Tree.has_child.Goals as goal

some_value : (o : Option ℕ) → is_some o ≡ true → (s : ℕ) × (o ≡ Some s)
some_value (Some s) some = (s, refl)
some_value None some = cc

not_none : (o : Option ℕ) → o ≢ None → is_some o ≡ true
not_none (Some s) some = refl
not_none None some = absurd (some refl)

pub returns-clause-child : goal.returns-clause-child
returns-clause-child c =
    let table = c.self.inside.table in
    let old : Columns = columns_of table in
    let slot = c.args.slot in
    let linked = c.self.invariant.linked in
    let live = subst (λ slots. IsLive slots slot) (sym c.self.view_is) c.requires in
    let first : old.first_child slot ≡ c.index.result.now.first_child = read table.records.items table.ways table.first_free slot c.index.result.now (live_made old.slots slot live) c.index.ensures (λ r. r.first_child) None in
    let answer : is_some (old.first_child slot) ≡ c.is_some.result = ap is_some first ∙ sym c.is_some.ensures in
    subst (λ slots. (IsTrue c.is_some.result → IsParent slots slot) × (IsParent slots slot → IsTrue c.is_some.result)) c.self.view_is (
      (λ yes. let child = some_value (old.first_child slot) (answer ∙ yes) in first_has_parent old linked slot child.0 child.1),
      (λ parent. sym answer ∙ not_none (old.first_child slot) (parent_has_first old linked slot parent)),
    )

pub returns-clause-tree : goal.returns-clause-tree
returns-clause-tree c = subst IsTree c.self.view_is (IsTree-sound (columns_of c.self.inside.table) c.self.invariant)
