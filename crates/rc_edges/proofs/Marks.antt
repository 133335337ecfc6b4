-- Which checks may go is decided by the greatest annotation.
use Rattle.std.proofs.Common.{◌≡◌, ◌↔◌, ℕ, Bool, true, ap, ◌∙◌}
use Rattle.std.specs.Prelude.{slice_get}
use Rattle.rc_rlang.specs.RegionCode.{Rlang}
use Rattle.rc_rlang.specs.IsRlang.{IsRlang}
use Rattle.rc_rlang.specs.RegionFlow.{routine_nodes}
use Rattle.rc_annotations.specs.Annotations.{Annotation, Proven, Removable, asked_by}
use Rattle.rc_annotations.specs.Heights.{temporaries_of}
use Rattle.rc_edges.specs.Inferred.{GreatestOf}
use Rattle.rc_edges.proofs.Restricting.{greatest_removes}
use Rattle.rc_edges.proofs.Downward.{of, within, within_some}
use Rattle.rc_edges.proofs.Reached.{greatest, reached}

module _ (r : Rlang) (a : Annotation) where
  abbrev pub marks : (function point : ℕ) → Bool
  marks g p = within (slice_get r.functions g) (λ f. within (slice_get (routine_nodes f) p) (λ node. within (asked_by node) (a.before g p)))

  marked : (g p : ℕ) → Proven r a g p → marks g p ≡ true
  marked g p q =
      ap (λ o. within o (λ f. within (slice_get (routine_nodes f) p) (λ node. within (asked_by node) (a.before g p)))) q.there
      ∙ ap (λ o. within o (λ node. within (asked_by node) (a.before g p))) q.at_point
      ∙ ap (λ o. within o (a.before g p)) q.asks ∙ q.has

  proven : (g p : ℕ) → marks g p ≡ true → Proven r a g p
  proven g p e =
      let f = within_some (slice_get r.functions g) (λ f. within (slice_get (routine_nodes f) p) (λ node. within (asked_by node) (a.before g p))) e in
      let node = within_some (slice_get (routine_nodes f.0) p) (λ node. within (asked_by node) (a.before g p)) f.2 in
      let fact = within_some (asked_by node.0) (a.before g p) node.2 in
      record { routine = f.0; there = f.1; node = node.0; at_point = node.1; fact = fact.0; asks = fact.1; has = fact.2 }

pub one_greatest : (r : Rlang) → IsRlang r → (a : Annotation) × GreatestOf r (temporaries_of r) a
one_greatest r fits = (of (reached r fits), greatest r fits)

pub marks_decided : (r : Rlang) → IsRlang r → (m : (function point : ℕ) → Bool) × ((g p : ℕ) → m g p ≡ true ↔ Removable r (temporaries_of r) g p)
marks_decided r fits =
    let a = one_greatest r fits in (
      marks r a.0,
      λ g p. (
        λ e. (greatest_removes r (temporaries_of r) a.0 a.1 g p).1 (proven r a.0 g p e),
        λ d. marked r a.0 g p ((greatest_removes r (temporaries_of r) a.0 a.1 g p).0 d),
      ),
    )
