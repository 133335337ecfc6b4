-- An item that holds in its file holds behind other files, and so does what stands behind it.
use Rattle.std.specs.Prelude.{◌≡◌, ℕ, ◌+◌, List, [], ◌∷◌, Option, Some, None, Bool, true, false, nat_eq, is_some, ◌&&◌, ◌||◌, map, option_map}
use Rattle.std.proofs.Common.{refl, sym, ap, ◌∙◌, subst, arith}
use Rattle.std.proofs.lemmas.Bool.Decides.{nat_tests}
use Rattle.rc_syntax.specs.declared.tree.Spot.{Spot}
use Rattle.rc_syntax.specs.declared.tree.Name.{Name}
use Rattle.rc_syntax.specs.Tree as t
use Rattle.rc_deletes.specs.declared.fault.Refusal.{Refusal}
use Rattle.rc_deletes.specs.declared.fault.Refusal.TheVariants.{Mistyped}
use Rattle.rc_deletes.specs.Judged.{Judged, Holds, Faulty, with_part, with_parts, both, failing, ruled}
use Rattle.rc_deletes.specs.Kinds.{place_of}
use Rattle.rc_deletes.specs.Scopes.{Context, Meaning, a_local, a_global, a_function, a_builtin, Signature, meaning_in}
use Rattle.rc_deletes.specs.Statements.{Here, stmts}
use Rattle.rc_deletes.specs.Items.{is_among, names_of, Definition, Outside, with_function, with_params, before_params, signature_of, type_option, is_defined_before, nothing_made, agrees, agrees_with, declared_again, function_name, params_rule, result_rule, is_struct_option, head_rule, item, function_names, with_new}
use Rattle.rc_linking.specs.Calls.{is_built_in, calls_in_body}
use Rattle.rc_linking.specs.Moved.{moved_spot, moved_name, moved_type, moved_param, moved_item, moved_stmts}
use Rattle.rc_linking.proofs.Values.{ren_ty}
use Rattle.rc_linking.proofs.Calls.{not_failing, no_refusal, IsSignature, IsMeaning, Found}
use Rattle.rc_linking.proofs.Expressions.{Agree}
use Rattle.rc_linking.proofs.Statements.{IsHere, AreCallable, stmts_sim}
use Rattle.rc_linking.proofs.Names.{Names, Stands, function_before}
use Rattle.rc_linking.proofs.Heads.{moved_signature, own_signature, agrees_more, agrees_with_more}
use Rattle.rc_linking.proofs.Scopes.{known_or, IsApart, not_doubled, Sourced, Numbered, Related, related_with, related_defined, from_earlier}
use Rattle.rc_linking.proofs.Params.{IsHeld, sim_held, sim_gives, held_first, held_second, held_part, held_parts, struct_option_same, params_sim, takes_are, result_sim}

pub or_left : (a b : Bool) → b ≡ true → a || b ≡ true
or_left true b h = refl
or_left false b h = h

pub or_none : (a b : Bool) → a ≡ false → b ≡ false → a || b ≡ false
or_none false b h k = k
or_none true b h k = absurd cc

pub no_more : {A : Type 0} → true ≡ false → A
no_more h = absurd cc

pub not_more : {A : Type 0} → false ≡ true → A
not_more h = absurd cc

agreeing : (name : Name) (twice agrees : Bool) → IsHeld (declared_again name twice agrees) → (twice ≡ false) × (agrees ≡ true)
agreeing name false true h = (refl, refl)
agreeing name false false h = absurd h
agreeing name true b h = absurd h

again : (name : Name) (twice agrees : Bool) → twice ≡ false → agrees ≡ true → IsHeld (declared_again name twice agrees)
again name false true h k = tt
again name false false h k = not_more k
again name true b h k = no_more h

not_defined : (a b : Bool) → a && b ≡ false → (a ≡ true → b ≡ false)
not_defined true b h e = h
not_defined false b h e = not_more e

never : (a b : Bool) → (a ≡ true → b ≡ false) → a && b ≡ false
never true b h = h refl
never false b h = refl

pub ruled_none : {A : Type 0} (at : Spot) (ks : List Refusal) (a : A) → IsHeld (ruled at ks a) → ks ≡ []
ruled_none at [] a h = refl
ruled_none at (k ∷ ks) a h = absurd h

pub none_ruled : {A : Type 0} (at : Spot) (ks : List Refusal) (a : A) → ks ≡ [] → IsHeld (ruled at ks a)
none_ruled at [] a h = tt
none_ruled at (k ∷ ks) a h = absurd cc

pub held_third : {A B C : Type 0} (x : Judged A) (y : Judged B) (f : A → B → Judged C) → IsHeld (with_parts x y f) → (a : A) × (b : B) × IsHeld (f a b)
held_third (Holds a) (Holds b) f h = (a, b, h)
held_third (Holds a) (Faulty e es) f h = absurd h
held_third (Faulty e es) y f h = absurd h

pub held_after : {A B : Type 0} (x : Judged A) (f : A → Judged B) → IsHeld (with_part x f) → (a : A) × IsHeld (f a)
held_after (Holds a) f h = (a, h)
held_after (Faulty e es) f h = absurd h

pub part_held : {A B : Type 0} (x : Judged A) (f : A → Judged B) → IsHeld x → ((a : A) → IsHeld (f a)) → IsHeld (with_part x f)
part_held (Holds a) f h k = k a
part_held (Faulty e es) f h k = h

pub moved_less : (a b n : ℕ) → nat_eq (a + n) (b + n) ≡ nat_eq a b
moved_less a b n = grind (arith, nat_tests)

pub no_place : (o : Option ℕ) → is_some o ≡ true → (k : ℕ) × (o ≡ Some k)
no_place (Some k) h = (k, refl)
no_place None h = not_more h

module _ (n : ℕ) (file all : Context) (ren : ℕ → ℕ) (agree : Agree file all ren) (earlier : List t.Item) where
  -- functions
  heads_are : (has_body deletes : Bool) (here : Here) (result : Option t.TypeName) (params : List t.Param) → IsHeld (result_rule file result) → IsHeld (params_rule file has_body here params) → IsSignature ren (signature_of file deletes result params) (signature_of all deletes (option_map (moved_type n) result) (map (moved_param n) params))
  heads_are has_body deletes here result params h k = record {
    takes = takes_are n file all ren agree has_body here params k;
    gives = sim_gives (type_option all (option_map (moved_type n) result) ≡ option_map (ren_ty ren) (type_option file result)) (result_rule file result) (result_rule all (option_map (moved_type n) result)) (result_sim n file all ren agree result) h;
    deletes = refl;
  }

  -- behind all earlier files, a function's name
  module _ (o p : Outside) (ds es : List Definition) (ns ms : Names) (rest others : List t.Item) (here : Stands file o ds ns rest) (there : Stands all p es ms others) (related : Related file all ren earlier o.names p.names (names_of ds) (names_of es) ns ms) where
    not_before : (name : List ℕ) → is_among (function_names earlier) name ≡ false → is_among ns name ≡ false → is_defined_before p.functions (place_of all.functions name) ≡ false
    not_before name h k = function_before all p es ms others there name ∙ related.functions name ∙ or_none (is_among (function_names earlier) name) (is_among ns name) h k

    unknown_not_among : (name : List ℕ) → meaning_in o.names name ≡ None → is_among ns name ≡ false
    unknown_not_among name h = by (is_among ns name) refl where
      by : (b : Bool) → is_among ns name ≡ b → b ≡ false
      by false e = refl
      by true e = no_more (sym (related.known name e) ∙ ap is_some h)

    module _ (at : Spot) (deletes : Bool) (result : Option t.TypeName) (name : Name) (params : List t.Param) (body : Option t.Stmts) (apart : IsApart earlier (t.function at deletes result name params body)) where
      name_by : (has_body : Bool) (s : Signature) (mo mp : Option Meaning) → (has_body ≡ true → is_among (function_names earlier) name.text ≡ false) → IsSignature ren s (signature_of all deletes (option_map (moved_type n) result) (map (moved_param n) params)) → meaning_in o.names name.text ≡ mo → Found ren all.functions name.text mo mp → (mo ≡ None → Sourced file all ren earlier name.text mp) → Numbered file all ren earlier name.text mo → IsHeld (function_name name has_body o.functions mo s) → IsHeld (function_name (moved_name n name) has_body p.functions mp (signature_of all deletes (option_map (moved_type n) result) (map (moved_param n) params)))
      name_by has_body s None None new sign e f src num h = tt
      name_by has_body s None (Some q) new sign e f src num h =
          let r = signature_of all deletes (option_map (moved_type n) result) (map (moved_param n) params) in
          let from = from_earlier file all ren earlier at deletes result name params body q apart (src refl) in
          subst (λ x. IsHeld (function_name (moved_name n name) has_body p.functions (Some x) r)) (sym from)
          (again (moved_name n name) (has_body && is_defined_before p.functions (place_of all.functions name.text)) (agrees (signature_of all deletes result params) r)
          (never has_body (is_defined_before p.functions (place_of all.functions name.text)) (λ b. not_before name.text (new b) (unknown_not_among name.text e)))
          (subst (λ x. agrees x r ≡ true) (moved_signature all n deletes result params) (own_signature r)))
      name_by has_body s (Some (a_function k first)) (Some (a_function l second)) new sign e f src num h =
          let r = signature_of all deletes (option_map (moved_type n) result) (map (moved_param n) params) in
          let q = agreeing name (has_body && is_defined_before o.functions k) (agrees first s) h in
          again (moved_name n name) (has_body && is_defined_before p.functions l) (agrees second r)
          (never has_body (is_defined_before p.functions l) (λ b. ap (is_defined_before p.functions) f.1 ∙ not_before name.text (new b) (sym (function_before file o ds ns rest here name.text) ∙ ap (is_defined_before o.functions) (sym num) ∙ not_defined has_body (is_defined_before o.functions k) q.0 b)))
          (agrees_more ren first s second r f.0 sign q.1)
      name_by has_body s (Some (a_builtin b)) (Some (a_builtin c)) new sign e f src num h =
          let r = signature_of all deletes (option_map (moved_type n) result) (map (moved_param n) params) in
          let q = agreeing name has_body (agrees_with b s) h in
          again (moved_name n name) has_body (agrees_with c r) q.0 (subst (λ x. agrees_with x r ≡ true) (sym f) (agrees_with_more ren b s r sign q.1))
      name_by has_body s (Some (a_local x t)) (Some (a_local y u)) new sign e f src num h = tt
      name_by has_body s (Some (a_global g t c)) (Some (a_global i u d)) new sign e f src num h = absurd h
      name_by has_body s (Some _) None new sign e f src num h = absurd f
      name_by has_body s (Some _) (Some _) new sign e f src num h = absurd f

      name_held : (has_body : Bool) → (has_body ≡ true → is_among (function_names earlier) name.text ≡ false) → IsSignature ren (signature_of file deletes result params) (signature_of all deletes (option_map (moved_type n) result) (map (moved_param n) params)) → IsHeld (function_name name has_body o.functions (meaning_in o.names name.text) (signature_of file deletes result params)) → IsHeld (function_name (moved_name n name) has_body p.functions (meaning_in p.names name.text) (signature_of all deletes (option_map (moved_type n) result) (map (moved_param n) params)))
      name_held has_body new sign h = name_by has_body (signature_of file deletes result params) (meaning_in o.names name.text) (meaning_in p.names name.text) new sign refl (related.scope name.text) (related.sourced name.text) (related.numbered name.text) h

      not_builtin : meaning_in o.names name.text ≡ None → is_built_in name.text ≡ false
      not_builtin h = by (is_built_in name.text) refl where
        by : (b : Bool) → is_built_in name.text ≡ b → b ≡ false
        by false e = refl
        by true e = no_more (sym (related.builtin name.text e) ∙ ap is_some h)

      fresh : IsSignature ren (signature_of file deletes result params) (signature_of all deletes (option_map (moved_type n) result) (map (moved_param n) params)) → meaning_in o.names name.text ≡ None → Found ren all.functions name.text (Some (a_function (place_of file.functions name.text) (signature_of file deletes result params))) (known_or (meaning_in p.names name.text) (a_function (place_of all.functions name.text) (signature_of all deletes (option_map (moved_type n) result) (map (moved_param n) params))))
      fresh sign e = by (meaning_in p.names name.text) (related.sourced name.text e) where
        by : (q : Option Meaning) → Sourced file all ren earlier name.text q → Found ren all.functions name.text (Some (a_function (place_of file.functions name.text) (signature_of file deletes result params))) (known_or q (a_function (place_of all.functions name.text) (signature_of all deletes (option_map (moved_type n) result) (map (moved_param n) params))))
        by None src = (sign, refl, not_builtin e)
        by (Some q) src =
            let from = from_earlier file all ren earlier at deletes result name params body q apart src in
            subst (λ x. IsMeaning ren all.functions name.text (a_function (place_of file.functions name.text) (signature_of file deletes result params)) x) (sym (from ∙ ap (a_function (place_of all.functions name.text)) (sym (moved_signature all n deletes result params)))) (sign, refl, not_builtin e)

      -- its head, and the names behind it
      pub head_parts : (has_body : Bool) → IsHeld (head_rule file o has_body deletes result name params) → IsHeld (result_rule file result) × IsHeld (function_name name has_body o.functions (meaning_in o.names name.text) (signature_of file deletes result params)) × IsHeld (params_rule file has_body (before_params (with_function file o deletes result name params)) params)
      head_parts has_body h =
          let x = result_rule file result in
          let y = function_name name has_body o.functions (meaning_in o.names name.text) (signature_of file deletes result params) in
          let z = params_rule file has_body (before_params (with_function file o deletes result name params)) params in
          let yz = held_second x (both y z) (λ u v. Holds tt) h in
          (held_first x (both y z) (λ u v. Holds tt) h, held_first y z (λ a b. Holds (a, b)) yz, held_second y z (λ a b. Holds (a, b)) yz)

      signature_kept : (has_body : Bool) → IsHeld (head_rule file o has_body deletes result name params) → IsSignature ren (signature_of file deletes result params) (signature_of all deletes (option_map (moved_type n) result) (map (moved_param n) params))
      signature_kept has_body h = let q = head_parts has_body h in heads_are has_body deletes (before_params (with_function file o deletes result name params)) result params q.0 q.2

      pub own_related : (has_body : Bool) → IsHeld (head_rule file o has_body deletes result name params) → Related file all ren earlier (with_function file o deletes result name params).names (with_function all p deletes (option_map (moved_type n) result) (moved_name n name) (map (moved_param n) params)).names (names_of ds) (names_of es) ns ms
      own_related has_body h = related_with file all ren earlier o.names p.names name.text (a_function (place_of file.functions name.text) (signature_of file deletes result params)) (a_function (place_of all.functions name.text) (signature_of all deletes (option_map (moved_type n) result) (map (moved_param n) params))) (fresh (signature_kept has_body h)) refl (names_of ds) (names_of es) ns ms related

      pub defined_related : IsHeld (head_rule file o true deletes result name params) → Related file all ren earlier (with_function file o deletes result name params).names (with_function all p deletes (option_map (moved_type n) result) (moved_name n name) (map (moved_param n) params)).names (names_of ds) (names_of es) (with_new ns name.text) (with_new ms name.text)
      defined_related h = related_defined file all ren earlier o.names p.names name.text (a_function (place_of file.functions name.text) (signature_of file deletes result params)) (a_function (place_of all.functions name.text) (signature_of all deletes (option_map (moved_type n) result) (map (moved_param n) params))) (fresh (signature_kept true h)) refl (names_of ds) (names_of es) ns ms related

      pub own_here : (has_body : Bool) → IsHeld (head_rule file o has_body deletes result name params) → IsHere n file all ren agree (before_params (with_function file o deletes result name params)) (before_params (with_function all p deletes (option_map (moved_type n) result) (moved_name n name) (map (moved_param n) params)))
      own_here has_body h = ((own_related has_body h).scope, refl, refl)

      head_held : (has_body : Bool) → (has_body ≡ true → is_among (function_names earlier) name.text ≡ false) → IsHeld (head_rule file o has_body deletes result name params) → IsHeld (head_rule all p has_body deletes (option_map (moved_type n) result) (moved_name n name) (map (moved_param n) params))
      head_held has_body new h =
          let q = head_parts has_body h in
          let here_params = params_rule file has_body (before_params (with_function file o deletes result name params)) params in
          let there_params = params_rule all has_body (before_params (with_function all p deletes (option_map (moved_type n) result) (moved_name n name) (map (moved_param n) params))) (map (moved_param n) params) in
          let there_name = function_name (moved_name n name) has_body p.functions (meaning_in p.names name.text) (signature_of all deletes (option_map (moved_type n) result) (map (moved_param n) params)) in
          held_parts (result_rule all (option_map (moved_type n) result)) (both there_name there_params) (λ u v. Holds tt)
          (sim_held _ (result_rule file result) (result_rule all (option_map (moved_type n) result)) (result_sim n file all ren agree result) q.0)
          (held_parts there_name there_params (λ a b. Holds (a, b)) (name_held has_body new (signature_kept has_body h) q.1)
          (sim_held _ here_params there_params (params_sim n file all ren agree has_body _ _ params (own_here has_body h)) q.2) (λ a b. tt))
          (λ a b. tt)

      results_are : IsHeld (result_rule file result) → type_option all (option_map (moved_type n) result) ≡ option_map (ren_ty ren) (type_option file result)
      results_are h = sim_gives (type_option all (option_map (moved_type n) result) ≡ option_map (ren_ty ren) (type_option file result)) (result_rule file result) (result_rule all (option_map (moved_type n) result)) (result_sim n file all ren agree result) h

      no_struct : IsHeld (result_rule file result) → is_struct_option (type_option file result) ≡ false → is_struct_option (type_option all (option_map (moved_type n) result)) ≡ false
      no_struct h k = ap is_struct_option (results_are h) ∙ struct_option_same ren (type_option file result) ∙ k

    pub prototype_held : (at : Spot) (deletes : Bool) (result : Option t.TypeName) (name : Name) (params : List t.Param) → IsApart earlier (t.function at deletes result name params None) → IsHeld (item file o (t.function at deletes result name params None)) → IsHeld (item all p (moved_item n (t.function at deletes result name params None)))
    prototype_held at deletes result name params apart h =
        let x = head_rule file o false deletes result name params in
        let head = held_part x _ h in
        let q = held_after x _ h in
        let none = not_failing (is_struct_option (type_option file result)) Mistyped (ruled_none at (failing (is_struct_option (type_option file result)) Mistyped) nothing_made q.1) in
        part_held (head_rule all p false deletes (option_map (moved_type n) result) (moved_name n name) (map (moved_param n) params)) _
        (head_held at deletes result name params None apart false (λ e. not_more e) head)
        (λ u. none_ruled (moved_spot n at) _ nothing_made (no_refusal _ Mistyped (no_struct at deletes result name params None apart (head_parts at deletes result name params None apart false head).0 none)))

    pub definition_held : (at : Spot) (deletes : Bool) (result : Option t.TypeName) (name : Name) (params : List t.Param) (body : t.Stmts) → IsApart earlier (t.function at deletes result name params (Some body)) → AreCallable n file all ren agree (calls_in_body (Some body)) → IsHeld (item file o (t.function at deletes result name params (Some body))) → IsHeld (item all p (moved_item n (t.function at deletes result name params (Some body))))
    definition_held at deletes result name params body apart calls h =
        let own = with_function file o deletes result name params in
        let own_there = with_function all p deletes (option_map (moved_type n) result) (moved_name n name) (map (moved_param n) params) in
        let x = head_rule file o true deletes result name params in
        let y = stmts file (type_option file result) false (with_params file (before_params own) params) body in
        let head = held_first x y _ h in
        let code = held_second x y _ h in
        let q = held_third x y _ h in
        let parts = head_parts at deletes result name params (Some body) apart true head in
        let none = not_failing (is_struct_option (type_option file result)) Mistyped (ruled_none at (failing (is_struct_option (type_option file result)) Mistyped) _ q.2) in
        let inner = sim_gives (IsHere n file all ren agree (with_params file (before_params own) params) (with_params all (before_params own_there) (map (moved_param n) params))) (params_rule file true (before_params own) params) (params_rule all true (before_params own_there) (map (moved_param n) params)) (params_sim n file all ren agree true (before_params own) (before_params own_there) params (own_here at deletes result name params (Some body) apart true head)) parts.2 in
        held_parts (head_rule all p true deletes (option_map (moved_type n) result) (moved_name n name) (map (moved_param n) params)) (stmts all (type_option all (option_map (moved_type n) result)) false (with_params all (before_params own_there) (map (moved_param n) params)) (moved_stmts n body)) _
        (head_held at deletes result name params (Some body) apart true (λ e. not_doubled earlier at deletes result name params body apart) head)
        (subst (λ r. IsHeld (stmts all r false (with_params all (before_params own_there) (map (moved_param n) params)) (moved_stmts n body))) (sym (results_are at deletes result name params (Some body) apart parts.0))
        (sim_held _ y _ (stmts_sim n file all ren agree (type_option file result) false (with_params file (before_params own) params) (with_params all (before_params own_there) (map (moved_param n) params)) body inner calls) code))
        (λ a b. none_ruled (moved_spot n at) _ _ (no_refusal _ Mistyped (no_struct at deletes result name params (Some body) apart parts.0 none)))
