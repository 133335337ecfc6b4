-- The tree of a file without the stubs that stand behind its items.
use Rattle.std.proofs.Common.{◌≡◌, ℕ, List, [], ◌∷◌, ◌++◌, refl, ap, sym, ◌∙◌, subst, length, map}
use Rattle.std.specs.Prelude.{take}
use Rattle.rc_syntax.specs.declared.tree.Item.{Item}
use Rattle.rc_syntax.specs.declared.tree.Tree.{Tree as CodeTree}
use Rattle.rc_syntax.specs.Shape.{item_of, tree_of}
use Rattle.rc_syntax.specs.Tree as t
use Rattle.rc_core.specs.Programs.{Program}
use Rattle.rc_deletes.specs.Answer.{IsProgramOf}
use Rattle.rc_linking.specs.Limits.{IsFileLimited}
use Rattle.rc_linking.specs.Stubs.{stubbed, stubs}
use Rattle.rc_units.specs.Units.{HasProgramOn, IsLinkable}

front_is : (xs ys : List Item) (more : List t.Item) → map item_of xs ≡ map item_of ys ++ more → map item_of (take (length ys) xs) ≡ map item_of ys
front_is xs [] more h = refl
front_is [] (y ∷ ys) more h = absurd cc
front_is (x ∷ xs) (y ∷ ys) more h =
    let first : item_of x ≡ item_of y = cc in
    let rest : map item_of xs ≡ map item_of ys ++ more = cc in
    ap (λ i. i ∷ map item_of (take (length ys) xs)) first ∙ ap (λ is. item_of y ∷ is) (front_is xs ys more rest)

pub cut : (line : ℕ) (whole tree : CodeTree) (n : ℕ) (left : List Item) → tree_of whole ≡ stubbed line (tree_of tree) → n ≡ length tree.items.items → left ≡ take n whole.items.items → map item_of left ≡ map item_of tree.items.items
cut line whole tree n left h long front =
    ap (map item_of) (front ∙ ap (λ k. take k whole.items.items) long)
    ∙ front_is whole.items.items tree.items.items (stubs line (tree_of tree)) (ap (λ (r : t.Tree). r.items) h)

pub alone : (line : ℕ) (tree whole : t.Tree) (program : Program) → whole ≡ stubbed line tree → IsProgramOf whole program → HasProgramOn line tree
alone line tree whole program h typed = (program, subst (λ (r : t.Tree). IsProgramOf r program) h typed)

pub linkable : (line : ℕ) (tree own : t.Tree) → own ≡ tree → IsFileLimited tree → HasProgramOn line tree → IsLinkable own
linkable line tree own same limited has = subst IsLinkable (sym same) (record { unit = record { line = line; program = has.0; typed = has.1 }; limited = limited })
