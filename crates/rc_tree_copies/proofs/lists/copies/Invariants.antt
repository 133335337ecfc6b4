use Rattle.std.proofs.Common.{◌≡◌, ◌++◌, drop, map}
use Rattle.rc_tree_copies.proofs.lists.copies.Given as goal

abbrev pub invariant-loop-part : goal.invariant-loop-part
invariant-loop-part g l = record { same : map (λ x. g.T.Part.moved l.by (g.T.Part.shape x)) l.parts ≡ map g.T.Part.shape l.copies.items ++ map (λ x. g.T.Part.moved l.by (g.T.Part.shape x)) (drop l.part-index l.parts) }
