-- Deletions and annotations of functions.
use Rattle.std.specs.Prelude.{◌≡◌, ℕ, List, [], ◌∷◌, ◌++◌, Option, Some, None, Bool, true, false, map, option_map}
use Rattle.std.proofs.Common.{refl}
use Rattle.rc_syntax.specs.declared.tree.Spot.{Spot}
use Rattle.rc_syntax.specs.declared.tree.Name.{Name}
use Rattle.rc_syntax.specs.Tree as t
use Rattle.rc_deletes.specs.Scopes.{Context}
use Rattle.rc_deletes.specs.Statements.{stmts}
use Rattle.rc_deletes.specs.Items.{names_of, Definition, Outside, with_function, with_params, before_params, type_option, params_rule, head_rule, item}
use Rattle.rc_linking.specs.Calls.{calls_in_body}
use Rattle.rc_linking.specs.Moved.{moved_spot, moved_name, moved_type, moved_param, moved_item, moved_stmts}
use Rattle.rc_linking.proofs.Expressions.{Agree}
use Rattle.rc_linking.proofs.Statements.{IsHere, AreCallable}
use Rattle.rc_linking.proofs.Names.{Names, Stands}
use Rattle.rc_linking.proofs.Scopes.{IsApart, Related}
use Rattle.rc_linking.proofs.Params.{IsHeld, sim_gives, held_first, held_second, params_sim}
use Rattle.rc_deletes.specs.PlacedFaults as placed
use Rattle.rc_deletes.specs.PlacedFaults.{PlacedFault}
use Rattle.rc_linked_files.proofs.Items.{own_here, head_parts}
use Rattle.rc_linking.proofs.Placed.{none_both, both_none, own_none, none_own, annotation_moved, stmts_moved}

params_moved : (n : ℕ) (qs : List t.Param) → placed.params qs ≡ [] → placed.params (map (moved_param n) qs) ≡ []
params_moved n [] h = refl
params_moved n (q ∷ qs) h =
    let r = none_both (placed.annotation q.spot q.type_name) (placed.params qs) h in
    both_none (placed.annotation (moved_spot n q.spot) (moved_type n q.type_name)) (placed.params (map (moved_param n) qs)) (annotation_moved n q.spot q.type_name r.0) (params_moved n qs r.1)

result_moved : (n : ℕ) (at : Spot) (result : Option t.TypeName) → placed.result at result ≡ [] → placed.result (moved_spot n at) (option_map (moved_type n) result) ≡ []
result_moved n at None h = refl
result_moved n at (Some ty) h = annotation_moved n at ty h

module _ (n : ℕ) (file all : Context) (ren : ℕ → ℕ) (agree : Agree file all ren) (earlier : List t.Item) where
  module _ (o p : Outside) (ds es : List Definition) (ns ms : Names) (rest others : List t.Item) (here : Stands file o ds ns rest) (there : Stands all p es ms others) (related : Related file all ren earlier o.names p.names (names_of ds) (names_of es) ns ms) where
    pub prototype_placed : (at : Spot) (deletes : Bool) (result : Option t.TypeName) (name : Name) (params : List t.Param) → placed.item file o (t.function at deletes result name params None) ≡ [] → placed.item all p (moved_item n (t.function at deletes result name params None)) ≡ []
    prototype_placed at deletes result name params h =
        let q = own_none (placed.params params ++ []) (placed.result at result) h in
        let r = none_both (placed.params params) [] q.0 in
        none_own (placed.params (map (moved_param n) params) ++ []) (placed.result (moved_spot n at) (option_map (moved_type n) result)) (both_none (placed.params (map (moved_param n) params)) [] (params_moved n params r.0) refl) (result_moved n at result q.1)

    pub definition_placed : (at : Spot) (deletes : Bool) (result : Option t.TypeName) (name : Name) (params : List t.Param) (body : t.Stmts) → IsApart earlier (t.function at deletes result name params (Some body)) → AreCallable n file all ren agree (calls_in_body (Some body)) → IsHeld (item file o (t.function at deletes result name params (Some body))) → placed.item file o (t.function at deletes result name params (Some body)) ≡ [] → placed.item all p (moved_item n (t.function at deletes result name params (Some body))) ≡ []
    definition_placed at deletes result name params body apart calls k h =
        let own = with_function file o deletes result name params in
        let own_there = with_function all p deletes (option_map (moved_type n) result) (moved_name n name) (map (moved_param n) params) in
        let x = head_rule file o true deletes result name params in
        let y = stmts file (type_option file result) false (with_params file (before_params own) params) body in
        let head = held_first x y _ k in
        let code = held_second x y _ k in
        let parts = head_parts n file all ren agree earlier o p ds es ns ms rest others here there related at deletes result name params (Some body) apart true head in
        let inner = sim_gives (IsHere n file all ren agree (with_params file (before_params own) params) (with_params all (before_params own_there) (map (moved_param n) params))) (params_rule file true (before_params own) params) (params_rule all true (before_params own_there) (map (moved_param n) params)) (params_sim n file all ren agree true (before_params own) (before_params own_there) params (own_here n file all ren agree earlier o p ds es ns ms rest others here there related at deletes result name params (Some body) apart true head)) parts.2 in
        let mine = placed.stmts file deletes (with_params file (before_params own) params) body in
        let theirs = placed.stmts all deletes (with_params all (before_params own_there) (map (moved_param n) params)) (moved_stmts n body) in
        let q = own_none (placed.params params ++ mine) (placed.result at result) h in
        let r = none_both (placed.params params) mine q.0 in
        none_own (placed.params (map (moved_param n) params) ++ theirs) (placed.result (moved_spot n at) (option_map (moved_type n) result))
        (both_none (placed.params (map (moved_param n) params)) theirs (params_moved n params r.0)
        (stmts_moved n file all ren agree deletes (type_option file result) false (with_params file (before_params own) params) (with_params all (before_params own_there) (map (moved_param n) params)) body inner calls code r.1))
        (result_moved n at result q.1)
