-- A function whose parts are judged one behind another.
use Rattle.std.proofs.Common.{◌≡◌, refl, ap, sym, ◌∙◌, subst, ℕ, List, [], ◌∷◌, ◌++◌, append_assoc, Option, Some, None, Bool, true, false, length}
use Rattle.rc_syntax.specs.declared.tree.Spot.{Spot}
use Rattle.rc_syntax.specs.declared.tree.Name.{Name}
use Rattle.rc_syntax.specs.Tree as t
use Rattle.rc_core.specs.Types.{Ty}
use Rattle.rc_core.specs.Programs as p
use Rattle.rc_deletes.specs.declared.fault.Refusal.TheVariants.{Mistyped}
use Rattle.rc_deletes.specs.Judged.{Judged, Holds, ruled, failing}
use Rattle.rc_deletes.specs.Kinds.{place_of}
use Rattle.rc_deletes.specs.Scopes.{Context, meaning_in}
use Rattle.rc_deletes.specs.Statements.{Here, outside, stmts, behind_stmts}
use Rattle.rc_deletes.specs.Items.{Outside, Made, nothing_made, behind_item, behind_definition, result_rule, function_name, signature_of, params_rule, head_rule, before_params, with_function, with_params, item, type_option, is_struct_option, function_made, behind_body}
use Rattle.rc_typed_values.specs.declared.stop.Stop.{Stop}
use Rattle.rc_typed_values.specs.Stops.{StopsAt}
use Rattle.rc_defined.proofs.Stops.{part_stops, left_stops, both_ruled, third_stops, all_ruled}
use Rattle.rc_items.proofs.Ruled.{ruled_kept}
use Rattle.rc_bodies.proofs.Kept.{Grown, on_stmts}
use Rattle.rc_items.proofs.Params.{on_params, params_strings}

module _ (context : Context) (o : Outside) (has_body deletes : Bool) (gives : Option t.TypeName) (name : Name) (params : List t.Param) (here : Here)
    (is : here ≡ before_params (with_function context o deletes gives name params))
    (given : result_rule context gives ≡ Holds tt)
    (named : function_name name has_body o.functions (meaning_in o.names name.text) (signature_of context deletes gives params) ≡ Holds tt) where
  pub params_stop : (s : Stop) → StopsAt (params_rule context has_body here params) s → StopsAt (head_rule context o has_body deletes gives name params) s
  params_stop s h =
      third_stops (result_rule context gives) tt (function_name name has_body o.functions (meaning_in o.names name.text) (signature_of context deletes gives params)) tt (params_rule context has_body (before_params (with_function context o deletes gives name params)) params) (λ u v. Holds tt) s given named
      (subst (λ x. StopsAt (params_rule context has_body x params) s) is h)

  pub head_held : params_rule context has_body here params ≡ Holds tt → head_rule context o has_body deletes gives name params ≡ Holds tt
  head_held h =
      all_ruled (result_rule context gives) tt (function_name name has_body o.functions (meaning_in o.names name.text) (signature_of context deletes gives params)) tt (params_rule context has_body (before_params (with_function context o deletes gives name params)) params) tt (λ u v. Holds tt) (Holds tt) given named
      (subst (λ x. params_rule context has_body x params ≡ Holds tt) is h) refl

module _ (context : Context) (o : Outside) (at : Spot) (deletes : Bool) (gives : Option t.TypeName) (name : Name) (params : List t.Param) where
  pub declared_stops : (s : Stop) → StopsAt (head_rule context o false deletes gives name params) s → StopsAt (item context o (t.function at deletes gives name params None)) s
  declared_stops s h = part_stops (head_rule context o false deletes gives name params) (λ u. ruled at (failing (is_struct_option (type_option context gives)) Mistyped) nothing_made) s h

  module _ (body : t.Stmts) where
    abbrev own : Outside
    own = with_function context o deletes gives name params

    abbrev inside : Judged p.Stmts
    inside = stmts context (type_option context gives) false (with_params context (before_params own) params) body

    pub defined_stops : (s : Stop) → StopsAt (head_rule context o true deletes gives name params) s → StopsAt (item context o (t.function at deletes gives name params (Some body))) s
    defined_stops s h = left_stops (head_rule context o true deletes gives name params) inside (λ u b. function_made context at deletes (type_option context gives) params (behind_body context own params body) b) s h

    module _ (here : Here) (is : here ≡ before_params own) where
      inside_is : stmts context (type_option context gives) false (with_params context here params) body ≡ inside
      inside_is = ap (λ x. stmts context (type_option context gives) false (with_params context x params) body) is

      module _ (given : result_rule context gives ≡ Holds tt) (named : function_name name true o.functions (meaning_in o.names name.text) (signature_of context deletes gives params) ≡ Holds tt)
          (entered : params_rule context true here params ≡ Holds tt) (made : p.Stmts) (walked : stmts context (type_option context gives) false (with_params context here params) body ≡ Holds made) where
        pub defined_held : is_struct_option (type_option context gives) ≡ false → item context o (t.function at deletes gives name params (Some body)) ≡ Holds (record {
          globals = [];
          functions = record { parameters = length params; locals = (behind_stmts context (with_params context here params) body).locals; result = type_option context gives; deletes = deletes; line = at.line; body = p.block made } ∷ [];
        })
        defined_held b =
            both_ruled (head_rule context o true deletes gives name params) tt inside made (λ u b. function_made context at deletes (type_option context gives) params (behind_body context own params body) b) _
            (head_held context o true deletes gives name params here is given named entered) (sym inside_is ∙ walked)
            (ruled_kept at (is_struct_option (type_option context gives)) Mistyped _ b)
            ∙ ap (λ (x : Here). Holds (record {
              globals = [];
              functions = record { parameters = length params; locals = (behind_stmts context (with_params context x params) body).locals; result = type_option context gives; deletes = deletes; line = at.line; body = p.block made } ∷ [];
            })) (sym is)

-- the names that a function adds hold inside those before it
pub own_names : (context : Context) (here inner end : Here) (params : List t.Param) (body : t.Stmts) → inner ≡ with_params context here params → end ≡ behind_stmts context inner body → Grown here.names end.names
own_names context here inner end params body walked ended =
    let a = on_params context here params in
    let b = on_stmts context inner body in
    (b.0 ++ a.0, ap (λ (h : Here). h.names) ended ∙ b.1 ∙ ap (λ (h : Here). b.0 ++ h.names) walked ∙ ap (λ ns. b.0 ++ ns) a.1 ∙ sym (append_assoc b.0 a.0 here.names))

-- what stands behind a function
module _ (context : Context) (o declared entered left : Outside) (at : Spot) (deletes : Bool) (gives : Option t.TypeName) (name : Name) (params : List t.Param) (here end : Here)
    (named : declared ≡ with_function context o deletes gives name params) (begun : here ≡ before_params declared) (rest : entered ≡ record declared { names = []; strings = [] }) (back : left ≡ record entered { names = end.names; strings = end.strings }) where
  pub declared_behind : (inner : Here) → inner ≡ with_params context here params → end ≡ outside here inner → left ≡ behind_item context o (t.function at deletes gives name params None)
  declared_behind inner walked ended =
      back ∙ ap (λ (h : Here). record entered { names = h.names; strings = h.strings }) (ended ∙ ap (outside here) walked)
      ∙ ap (λ ss. record entered { names = here.names; strings = ss }) (params_strings context here params)
      ∙ ap (λ (e : Outside). record e { names = here.names; strings = here.strings }) rest
      ∙ ap (λ (h : Here). record declared { names = h.names; strings = h.strings }) begun
      ∙ named

  pub defined_behind : (body : t.Stmts) (functions : ℕ) → end ≡ outside here (behind_stmts context (with_params context here params) body) → functions ≡ behind_definition left.functions (place_of context.functions name.text) →
      record left { functions = functions } ≡ behind_item context o (t.function at deletes gives name params (Some body))
  defined_behind body functions ended counted =
      let count : left.functions ≡ o.functions = ap (λ (l : Outside). l.functions) back ∙ ap (λ (l : Outside). l.functions) rest ∙ ap (λ (l : Outside). l.functions) named in
      ap (λ n. record left { functions = n }) (counted ∙ ap (λ n. behind_definition n (place_of context.functions name.text)) count)
      ∙ ap (λ (l : Outside). record l { functions = behind_definition o.functions (place_of context.functions name.text) }) (back ∙ ap (λ (h : Here). record entered { names = h.names; strings = h.strings }) ended)
      ∙ ap (λ (e : Outside). record e { functions = behind_definition o.functions (place_of context.functions name.text); names = here.names; strings = (behind_stmts context (with_params context here params) body).strings }) rest
      ∙ ap (λ (h : Here). record declared { functions = behind_definition o.functions (place_of context.functions name.text); names = h.names; strings = (behind_stmts context (with_params context h params) body).strings }) begun
      ∙ ap (λ (d : Outside). record d { functions = behind_definition o.functions (place_of context.functions name.text); strings = (behind_stmts context (with_params context (before_params d) params) body).strings }) named

abbrev function_of : (parameters : ℕ) → List Ty → Option Ty → (deletes : Bool) → (line : ℕ) → p.Stmt → Judged Made
function_of parameters locals result deletes line body = Holds (record {
  globals = [];
  functions = record { parameters = parameters; locals = locals; result = result; deletes = deletes; line = line; body = body } ∷ [];
})

pub one_function : {m n : ℕ} {ls ks : List Ty} {r q : Option Ty} {b d : p.Stmt} (deletes : Bool) (line : ℕ) → m ≡ n → ls ≡ ks → r ≡ q → b ≡ d → function_of m ls r deletes line b ≡ function_of n ks q deletes line d
one_function deletes line e f g h = cc
