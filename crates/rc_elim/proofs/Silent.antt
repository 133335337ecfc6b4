-- Nodes that ask for nothing.
use Rattle.std.proofs.Common.{◌≡◌, Bool, true, false, List, [], ◌∷◌, length, refl, arith}
use Rattle.std.specs.Prelude.{replicate, is_some, Option, Some, None, ◌||◌}
use Rattle.rc_facts.specs.Facts.{Known, holds}
use Rattle.rc_facts.specs.declared.fact.Fact.{Fact}
use Rattle.rc_annotations.specs.Annotations.{Facts, asked_by}
use Rattle.rc_rlang.specs.RegionFlow.{Node}
use Rattle.rc_elim.specs.Asking.{ask_anything, bits_of}
use Rattle.rc_elim.specs.Masks.{has_asked}

nothing_has : (asked : Option Fact) (facts : Facts) → is_some asked ≡ false → has_asked asked facts ≡ false
nothing_has None facts e = refl
nothing_has (Some fact) facts e = absurd cc

-- neither of both
pub neither : (a b : Bool) → (a || b) ≡ false → (a ≡ false) × (b ≡ false)
neither true b e = absurd cc
neither false b e = (refl, e)

-- none of their bits is set
pub silent : (nodes : List Node) (all : List Known) → length all ≡ length nodes → ask_anything nodes ≡ false → bits_of nodes all ≡ replicate (length nodes) false
silent [] all long e = refl
silent (node ∷ nodes) [] long e = absurd (omega (arith, long))
silent (node ∷ nodes) (facts ∷ all) long e =
    let both = neither (is_some (asked_by node)) (ask_anything nodes) e in
    let first = nothing_has (asked_by node) (holds facts) both.0 in
    let others = silent nodes all (omega (arith, long)) both.1 in
    rw (first, others) refl
