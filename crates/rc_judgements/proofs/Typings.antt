-- A tree is typed once, or something is wrong in it.
use Rattle.std.proofs.Common.{◌≡◌, ◌↔◌, refl, sym, ◌∙◌, inl}
use Rattle.rc_syntax.specs.declared.tree.Spot.{Spot}
use Rattle.rc_syntax.specs.Tree as t
use Rattle.rc_core.specs.Programs.{Program}
use Rattle.rc_deletes.specs.declared.fault.Fault.{Fault}
use Rattle.rc_deletes.specs.declared.fault.Refusal.{Refusal}
use Rattle.rc_deletes.specs.Judged.{Judged, Holds, Faulty, faults}
use Rattle.rc_deletes.specs.Items.{judged, Typed, Violation, IsAmong}

pub one : (tree : t.Tree) (a b : Program) → Typed tree a → Typed tree b → a ≡ b
one tree a b h k = held a b (sym h ∙ k) where
  held : (a b : Program) → Holds a ≡ Holds b → a ≡ b
  held a b h = cc

Free : Judged Program → Type 0
Free j = (at : Spot) (refusal : Refusal) → ¬ IsAmong (record { at = at; refusal = refusal }) (faults j)

clean : (j : Judged Program) (p : Program) → j ≡ Holds p → (f : Fault) → ¬ IsAmong f (faults j)
clean (Holds a) p h f m = m
clean (Faulty g gs) p h f m = absurd (differ h) where
  differ : Faulty g gs ≡ Holds p → ⊥
  differ h = cc

held : (j : Judged Program) → ((f : Fault) → ¬ IsAmong f (faults j)) → (p : Program) × (j ≡ Holds p)
held (Holds a) none = (a, refl)
held (Faulty g gs) none = absurd (none g (inl refl))

pub typed_or_faulty : (tree : t.Tree) → ((a : Program) × Typed tree a) ↔ ((at : Spot) (refusal : Refusal) → ¬ Violation tree at refusal)
typed_or_faulty tree = (λ h. λ at refusal. clean (judged tree) h.0 h.1 (record { at = at; refusal = refusal }), λ none. held (judged tree) (λ f. none f.at f.refusal))
