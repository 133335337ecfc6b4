-- The stores of region code that have a check.
use Rattle.std.proofs.Common.{◌≡◌, ◌<◌, ℕ, Bool, true, List, [], length, map, get_or, refl, sym, ap, ◌∙◌, subst}
use Rattle.std.specs.Prelude.{Option, Some, None, slice_get, option_map, nat_eq, ◌&&◌, ◌||◌}
use Rattle.std.proofs.lemmas.Bool.{false≢true}
use Rattle.std.proofs.lemmas.Option.{slice_get-map, slice_get_within}
use Rattle.rc_core.specs.Shapes.{struct_of}
use Rattle.rc_rlang.specs.RegionCode.{Routine, Rlang}
use Rattle.rc_rlang.specs.RegionFlow.{Node, routine_nodes}
use Rattle.rc_rlang.specs.Shapes.{rlang_of, routine_in}
use Rattle.rc_rlang.specs.declared.code.RegionParts.{RegionParts}
use Rattle.rc_rlang.specs.declared.code.Routine.{Routine as CodeRoutine}
use Rattle.rc_graph.specs.declared.node.Node.{Node as CodeNode}
use Rattle.rc_graph.specs.Nodes.{node_of, nodes_of}
use Rattle.rc_elim.specs.Masks.{HasPoints, asks, asks_in, has_check, marks_in}

pub asked_there : (parts : RegionParts) (g p : ℕ) (routine : CodeRoutine) (nodes : List CodeNode) → slice_get parts.functions.items g ≡ Some routine → nodes_of nodes ≡ routine_nodes (routine_in (map struct_of parts.structs.items) routine) →
    asks (option_map node_of (slice_get nodes p)) ≡ has_check (rlang_of parts) g p
asked_there parts g p routine nodes e are =
    let of = routine_in (map struct_of parts.structs.items) in
    ap asks (sym (slice_get-map node_of nodes p) ∙ ap (λ (ns : List Node). slice_get ns p) are)
    ∙ sym (ap (λ o. asks_in o p) (slice_get-map of parts.functions.items g ∙ ap (option_map of) e))

-- a mask has a bit where a check stands
pub check_within : (r : Rlang) (rows : List (List Bool)) (g p : ℕ) → HasPoints r rows → has_check r g p ≡ true → p < length (get_or rows g [])
check_within r rows g p has e = by (slice_get r.functions g) refl e
  where
    within : (nodes : List Node) (o : Option Node) → slice_get nodes p ≡ o → asks o ≡ true → p < length nodes
    within nodes None q e = absurd (false≢true e)
    within nodes (Some node) q e = slice_get_within nodes p node q

    by : (o : Option Routine) → slice_get r.functions g ≡ o → asks_in o p ≡ true → p < length (get_or rows g [])
    by None q e = absurd (false≢true e)
    by (Some f) q e = subst (λ n. p < n) (sym (has.points g f q)) (within (routine_nodes f) (slice_get (routine_nodes f) p) refl e)

pub marked_where : (there : Bool) (rows before : List (List Bool)) (g p h q : ℕ) → there ≡ true → marks_in rows h q ≡ (nat_eq h g && nat_eq q p || marks_in before h q) → marks_in rows h q ≡ (there && (nat_eq h g && nat_eq q p) || marks_in before h q)
marked_where there rows before g p h q e is = is ∙ ap (λ b. b && (nat_eq h g && nat_eq q p) || marks_in before h q) (sym e)
