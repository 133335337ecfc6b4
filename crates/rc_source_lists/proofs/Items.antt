-- Each item that deletes has its list.
use Rattle.std.proofs.Common.{◌≡◌, ℕ, zero, suc, ◌+◌, List, [], ◌∷◌, ◌++◌, Some, subst}
use Rattle.std.specs.Prelude.{slice_get}
use Rattle.std.specs.List.{AllByRecursion as Every}
use Rattle.std.proofs.lemmas.Option.{same_Some}
use Rattle.rc_core.specs.Programs.{Function, Program}
use Rattle.rc_rlang.specs.Points.{function_points}
use Rattle.rc_source_lists.specs.DeletingNodes.{Node, function_nodes, functions_nodes}
use Rattle.rc_source_lists.specs.FlowNodes.{Stands}
use Rattle.rc_source_lists.specs.ItemLists.{ItemsHaveTheirLists}
use Rattle.rc_source_lists.proofs.Listed.{Paths, nodes_have_their_lists}
use Rattle.rc_source_lists.proofs.Flowing.{all_nodes_stand, nodes_are_all}

in_front : (xs ys : List Node) (i : ℕ) (n : Node) → slice_get xs i ≡ Some n → slice_get (xs ++ ys) i ≡ Some n
in_front [] ys i n e = cc
in_front (x ∷ xs) ys zero n e = e
in_front (x ∷ xs) ys (suc i) n e = in_front xs ys i n e

in_back : (xs ys : List Node) (i : ℕ) (n : Node) → slice_get ys i ≡ Some n → (j : ℕ) × (slice_get (xs ++ ys) j ≡ Some n)
in_back [] ys i n e = (i, e)
in_back (x ∷ xs) ys i n e = let r = in_back xs ys i n e in (suc r.0, r.1)

at_place : (P : Node → Type 0) (xs : List Node) (i : ℕ) (n : Node) → slice_get xs i ≡ Some n → Every P xs → P n
at_place P [] i n e a = cc
at_place P (x ∷ xs) zero n e a = subst P (same_Some x n e) a.0
at_place P (x ∷ xs) (suc i) n e a = at_place P xs i n e a.1

-- a function's nodes are the program's
record Holds (program : Program) (fs : List Function) (from : ℕ) (f : Function) : Type 0 where
  here : ℕ
  holds : (i : ℕ) (n : Node) → slice_get (function_nodes program f here) i ≡ Some n → (j : ℕ) × (slice_get (functions_nodes program fs from) j ≡ Some n)

function_held : (program : Program) (fs : List Function) (from k : ℕ) (f : Function) → slice_get fs k ≡ Some f → Holds program fs from f
function_held program [] from k f e = cc
function_held program (g ∷ fs) from zero f e =
    subst (λ h. Holds program (g ∷ fs) from h) (same_Some g f e)
    (record { here = from; holds = λ i n t. (i, in_front (function_nodes program g from) (functions_nodes program fs (from + function_points program.structs g)) i n t) })
function_held program (g ∷ fs) from (suc k) f e =
    let r = function_held program fs (from + function_points program.structs g) k f e in
    record { here = r.here; holds = λ i n t. let j = r.holds i n t in in_back (function_nodes program g from) (functions_nodes program fs (from + function_points program.structs g)) j.0 n j.1 }

pub items_have_their_lists : Paths → ItemsHaveTheirLists
items_have_their_lists paths program w k f there item rest a s =
    let h = function_held program program.functions 0 k f there in
    let n = nodes_are_all program f h.here item rest a s in
    let j = h.holds n.number n.node n.there in
    let l = nodes_have_their_lists paths program w j.0 n.node j.1 in
    let stands = at_place (Stands f) (function_nodes program f h.here) n.number n.node n.there (all_nodes_stand program f h.here) in
    record { number = j.0; node = n.node; there = j.1; function = stands.function; item = n.item; rest = n.rest; locals = l.0; listed = l.1; lists = l.2 }
