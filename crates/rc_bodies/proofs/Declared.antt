-- Declarators of locals: what is left is whether the initial value fits.
use Rattle.std.proofs.Common.{◌≡◌, ℕ, refl, ap, sym, ◌∙◌, subst, length, Option}
use Rattle.rc_syntax.specs.Tree as t
use Rattle.rc_core.specs.Types.{Ty}
use Rattle.rc_deletes.specs.Judged.{Holds, fitting}
use Rattle.rc_deletes.specs.Kinds.{written_type}
use Rattle.rc_deletes.specs.Scopes.{Context}
use Rattle.rc_deletes.specs.Values.{Typed}
use Rattle.rc_deletes.specs.Expressions.{base_rule}
use Rattle.rc_deletes.specs.Statements.{Here, with_local, local, local_type, declared, behind_option, behind_local, new_name, value_option, declaration}
use Rattle.rc_typed_values.specs.declared.stop.Stop.{Stop}
use Rattle.rc_typed_values.specs.Stops.{StopsAt}
use Rattle.rc_defined.proofs.Stops.{all_ruled, third_stops}

module _ (context : Context) (here now : Here) (l : t.Local) (ty : Ty) (number : ℕ)
    (count : number ≡ length here.locals) (base : base_rule context l.type_name.base ≡ Holds tt) (is : ty ≡ written_type context.types l.type_name) (own : now ≡ with_local here ty l.name.text) where
  now_is : now ≡ declared context here l
  now_is = own ∙ ap (λ u. with_local here u l.name.text) is

  pub initial_stops : (s : Stop) → new_name here.first here.names l.name ≡ Holds tt → StopsAt (value_option context now.names now.strings l.initial) s → StopsAt (local context here l) s
  initial_stops s new h =
      third_stops (base_rule context l.type_name.base) tt (new_name here.first here.names l.name) tt (value_option context (declared context here l).names here.strings l.initial) _ s base new
      (subst (λ (n : Here). StopsAt (value_option context n.names n.strings l.initial) s) now_is h)

  pub local_is : (v : Option Typed) → new_name here.first here.names l.name ≡ Holds tt → value_option context now.names now.strings l.initial ≡ Holds v → local context here l ≡ fitting l.spot (declaration l.spot.line number ty v)
  local_is v new h =
      all_ruled (base_rule context l.type_name.base) tt (new_name here.first here.names l.name) tt (value_option context (declared context here l).names here.strings l.initial) v
      (λ u v. fitting l.spot (declaration l.spot.line (length here.locals) (local_type context l) v.1)) (fitting l.spot (declaration l.spot.line (length here.locals) (local_type context l) v)) base new
      (subst (λ (n : Here). value_option context n.names n.strings l.initial ≡ Holds v) now_is h) refl
      ∙ ap (λ n. fitting l.spot (declaration l.spot.line n (local_type context l) v)) (sym count)
      ∙ ap (λ u. fitting l.spot (declaration l.spot.line number u v)) (sym is)

  pub local_behind : (end : Here) → end ≡ behind_option now l.initial → end ≡ behind_local context here l
  local_behind end e = e ∙ ap (λ n. behind_option n l.initial) now_is
