-- A field of a place or behind a pointer, by the struct that its type is or leads to.
use Rattle.std.proofs.Common.{◌≡◌, ℕ, refl, ap, Option, Some, None, slice_get}
use Rattle.rc_syntax.specs.declared.tree.Spot.{Spot}
use Rattle.rc_syntax.specs.declared.tree.Name.{Name}
use Rattle.rc_core.specs.Types.{Ty, struct, pointer}
use Rattle.rc_core.specs.Programs as p
use Rattle.rc_deletes.specs.declared.fault.Refusal.TheVariants.{Mistyped}
use Rattle.rc_deletes.specs.Judged.{fails}
use Rattle.rc_deletes.specs.Scopes.{Context}
use Rattle.rc_deletes.specs.Values.{a_place}
use Rattle.rc_deletes.specs.Expressions.{member_rule, arrow_rule, field_rule, field_named, fields_at}
use Rattle.rc_terms.specs.Pointed.{struct_of, struct_behind}

module _ (context : Context) (at : Spot) (name : Name) where
  pub member_is : (place : p.Place) (t : Ty) (s : ℕ) → Some s ≡ struct_of t → member_rule context at name (a_place place t) ≡ field_rule name place s (field_named (fields_at (slice_get context.shapes s)) name.text)
  member_is place (struct k) s h = let e : k ≡ s = cc in ap (λ k. field_rule name place k (field_named (fields_at (slice_get context.shapes k)) name.text)) e
  member_is place t s h = absurd cc

  pub no_member : (place : p.Place) (t : Ty) → None ≡ struct_of t → member_rule context at name (a_place place t) ≡ fails at Mistyped
  no_member place (struct k) h = absurd cc
  no_member place t h = refl

  pub arrow_is : (o : Option Ty) (e : p.Expr) (s : ℕ) → Some s ≡ struct_behind o → arrow_rule context at name o e ≡ field_rule name (p.pointed e p.here) s (field_named (fields_at (slice_get context.shapes s)) name.text)
  arrow_is (Some (pointer note (struct k))) e s h = let same : k ≡ s = cc in ap (λ k. field_rule name (p.pointed e p.here) k (field_named (fields_at (slice_get context.shapes k)) name.text)) same
  arrow_is o e s h = absurd cc

  pub no_arrow : (o : Option Ty) (e : p.Expr) → None ≡ struct_behind o → arrow_rule context at name o e ≡ fails at Mistyped
  no_arrow (Some (pointer note (struct k))) e h = absurd cc
  no_arrow o e h = refl
