-- A struct that is defined before.
use Rattle.std.proofs.Common.{◌≡◌, ◌<◌, refl, ap, sym, ◌∙◌, arith, ℕ, Some, Bool, true, if◌then◌else◌}
use Rattle.std.specs.Prelude.{nat_lt}
use Rattle.std.proofs.lemmas.Bool.Decides.{nat_tests}
use Rattle.rc_syntax.specs.declared.tree.Name.{Name}
use Rattle.rc_syntax.specs.declared.tree.Base.TheVariants as base
use Rattle.rc_core.specs.Types.{struct}
use Rattle.rc_deletes.specs.declared.fault.Refusal.TheVariants.{Unknown}
use Rattle.rc_deletes.specs.Judged.{Judged, Holds, fails}
use Rattle.rc_deletes.specs.Kinds.{place_of, base_type}
use Rattle.rc_deletes.specs.Scopes.{struct_names}
use Rattle.rc_deletes.specs.Items.{value_base, is_defined_before}
use Rattle.rc_defined.specs.declared.context.Context.{Context}
use Rattle.rc_defined.specs.Contexts.{context_of}
use Rattle.rc_defined.proofs.Contexts.{base_found}

is_less : (k n : ℕ) → k < n → nat_lt k n ≡ true
is_less k n h = grind (arith, nat_tests)

abbrev pub kept_where : Name → Bool → Judged (Unit {0})
kept_where name before = if before then Holds tt else fails name.spot Unknown

pub value_found : (c : Context) (name : Name) (k count : ℕ) → Some k ≡ place_of (struct_names (context_of c)) name.text → k < count →
    (value_base (context_of c) count (base.Struct name.spot name) ≡ Holds tt) × (struct k ≡ base_type c.types (base.Struct name.spot name))
value_found c name k count h l = (
  ap (λ o. kept_where name (is_defined_before count o)) (sym h) ∙ ap (kept_where name) (is_less k count l),
  (base_found c (base.Struct name.spot name) name.spot name k refl h).1,
)
