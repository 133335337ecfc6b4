use Rattle.std.proofs.Common.{◌≡◌, ℕ, zero, suc, [], ◌∷◌, None, Option, get_or, length, ap, ◌∙◌, refl, sym, subst}
use Rattle.rc_regions.specs.Columns.{columns, links_in}
use Rattle.rc_regions.specs.Sound.{IsSoundTree}
use Rattle.rc_regions.proofs.Sounds.{IsSoundTree-root, IsTree-sound}
use Rattle.rc_regions.proofs.WayLaws.{links-none}
use Rattle.rc_regions.proofs.tree.Tree.new.Goals as goal

none_else : (s : ℕ) → get_or {A = Option ℕ} (None ∷ []) s None ≡ None
none_else zero = refl
none_else (suc s) = refl

pub invariant_of-result : goal.invariant_of-result
invariant_of-result c = subst (λ items. IsSoundTree (columns items c.in_ok-ways.ways None)) (sym (rw c.new-records.ensures.items at c.in-Ok.ensures.items)) (IsSoundTree-root _ refl refl none_else none_else none_else refl (λ s. ap (λ ways. length (links_in ways s)) c.in_ok-ways.ensures ∙ links-none s))

pub returns-in-Ok-clause-tree : goal.returns-in-Ok-clause-tree
returns-in-Ok-clause-tree c = IsTree-sound (columns c.push.new.self.items c.in_ok-ways.ways None) (invariant_of-result c)
