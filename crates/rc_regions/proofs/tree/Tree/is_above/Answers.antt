use Rattle.std.proofs.Common.{◌≡◌, ◌∙◌, ◌-◌, ℕ, true, IsTrue, List, nat_eq, slice_index_or, count_ones, sym, ap, subst, rules, arith}
use Rattle.std.proofs.lemmas.Nat.{ones-le}
use Rattle.rc_regions.specs.declared.record.Slot.{Slot}
use Rattle.rc_regions.specs.declared.record.Record.{Record}
use Rattle.rc_regions.specs.declared.table.Table.{Table}
use Rattle.rc_regions.specs.Above.{Above, HasDepth, IsTree}
use Rattle.rc_regions.specs.Ascents.{ancestor}
use Rattle.rc_regions.specs.Columns.{Columns, columns_of, slots_of}
use Rattle.rc_regions.specs.Slots.{IsLive}
use Rattle.rc_regions.proofs.Ancestors.{Above-ancestor, above_deeper, above_found, depth-unique}
use Rattle.rc_regions.proofs.Counted.{live_made}
use Rattle.rc_regions.proofs.Sounds.{IsTree-sound}
use Rattle.rc_regions.proofs.Stored.{read}
use Rattle.rc_regions.proofs.tree.Tree.is_above.Goals as goal

is_number : (m n : ℕ) → nat_eq m n ≡ true → m ≡ n
is_number m n same = search rules

same_number : (m n : ℕ) → m ≡ n → nat_eq m n ≡ true
same_number m n same = search rules

-- a depth that was read
depth_read : (table : Table) (slots : List Slot) (s : ℕ) (now : Record) → slots_of table.records.items ≡ slots → IsLive slots s → now ≡ slice_index_or table.records.items s now → (columns_of table).depth s ≡ now.depth
depth_read table slots s now view live is =
    read table.records.items table.ways table.first_free s now (live_made (slots_of table.records.items) s (subst (λ xs. IsLive xs s) (sym view) live)) is (λ r. r.depth) 0

pub returns-then-b_depth-a_depth-clause-above : goal.returns-then-b_depth-a_depth-clause-above
returns-then-b_depth-a_depth-clause-above g c =
    let table = c.self.inside.table in
    let old : Columns = columns_of table in
    let sound = c.self.invariant in
    let a_depth = depth_read table c.args.self.now c.args.a c.index.result.now c.self.view_is c.requires.a c.index.ensures in
    let b_depth = depth_read table c.args.self.now c.args.b c.index-2.result.now c.self.view_is c.requires.b c.index-2.ensures in (
      (λ yes. cc),
      (λ above.
          let deeper = above_deeper old.slots sound.rooted old.depth sound.depths c.args.a c.args.b (subst (λ slots. Above slots c.args.a c.args.b) (sym c.self.view_is) above) in
          absurd (omega (arith, deeper, a_depth, b_depth))),
    )

pub returns-then-b_depth-a_depth-clause-tree : goal.returns-then-b_depth-a_depth-clause-tree
returns-then-b_depth-a_depth-clause-tree g c = subst IsTree c.self.view_is (IsTree-sound (columns_of c.self.inside.table) c.self.invariant)

pub climb-requires-clause-far : goal.climb-requires-clause-far
climb-requires-clause-far g c =
    let b_depth = depth_read c.self.inside.table c.args.self.now c.args.b c.index-2.result.now c.self.view_is c.requires.b c.index-2.ensures in
    omega (arith, b_depth)

pub climb-requires-clause-ascents : goal.climb-requires-clause-ascents
climb-requires-clause-ascents g c =
    let sound = c.self.invariant in
    record { rooted = sound.rooted; depths = sound.depths; ways = sound.links; long = sound.long }

pub returns-clause-above : goal.returns-clause-above
returns-clause-above g c =
    let table = c.self.inside.table in
    let old : Columns = columns_of table in
    let sound = c.self.invariant in
    let a = c.args.a in
    let b = c.args.b in
    let a_depth = depth_read table c.args.self.now a c.index.result.now c.self.view_is c.requires.a c.index.ensures in
    let b_depth = depth_read table c.args.self.now b c.index-2.result.now c.self.view_is c.requires.b c.index-2.ensures in
    let distance : c.index-2.result.now.depth - c.index.result.now.depth ≡ old.depth b - old.depth a = omega (arith, a_depth, b_depth) in
    let found : c.climb.result ≡ ancestor old.slots (old.depth b - old.depth a) b =
    c.climb.ensures.above ∙ ap (λ n. ancestor old.slots n b) distance in
    subst (λ slots. (IsTrue (nat_eq c.climb.result a) → Above slots a b) × (Above slots a b → IsTrue (nat_eq c.climb.result a))) c.self.view_is (
      (λ same. subst (λ s. Above old.slots s b) (sym found ∙ is_number c.climb.result a same) (Above-ancestor old.slots (old.depth b - old.depth a) b)),
      (λ above. same_number c.climb.result a (found ∙ above_found old.slots sound.rooted old.depth sound.depths a b above)),
    )

pub returns-clause-cost : goal.returns-clause-cost
returns-clause-cost g c = λ a_depth b_depth digits a_deep b_deep few.
    let table = c.self.inside.table in
    let old : Columns = columns_of table in
    let sound = c.self.invariant in
    let a = c.args.a in
    let b = c.args.b in
    let a_read = depth_read table c.args.self.now a c.index.result.now c.self.view_is c.requires.a c.index.ensures in
    let b_read = depth_read table c.args.self.now b c.index-2.result.now c.self.view_is c.requires.b c.index-2.ensures in
    let a_is = depth-unique old.slots sound.rooted old.depth sound.depths a a_depth (subst (λ slots. HasDepth slots a a_depth) (sym c.self.view_is) a_deep) in
    let b_is = depth-unique old.slots sound.rooted old.depth sound.depths b b_depth (subst (λ slots. HasDepth slots b b_depth) (sym c.self.view_is) b_deep) in
    let distance : c.index-2.result.now.depth - c.index.result.now.depth ≡ b_depth - a_depth = omega (arith, a_read, b_read, a_is, b_is) in
    omega (arith, c.climb.ensures.cost, ap count_ones distance, ones-le digits (b_depth - a_depth) few)

pub returns-clause-tree : goal.returns-clause-tree
returns-clause-tree g c = subst IsTree c.self.view_is (IsTree-sound (columns_of c.self.inside.table) c.self.invariant)
