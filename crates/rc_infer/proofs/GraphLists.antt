-- The graphs of functions, one after another.
use Rattle.std.proofs.Common.{◌≡◌, ℕ, zero, suc, ◌+◌, ◌<◌, ◌++◌, List, [], ◌∷◌, length, Some, ◌⊎◌, inl, inr, sym, ap, ◌∙◌, subst, refl, arith}
use Rattle.std.specs.Prelude.{slice_get}
use Rattle.std.proofs.lemmas.List.{length-append}
use Rattle.std.proofs.lemmas.Option.{slice_get_within}
use Rattle.rc_rlang.specs.RegionCode.{Routine, Rlang}
use Rattle.rc_graph.specs.declared.graph.Graph.{Graph}
use Rattle.rc_graph.specs.Nodes.{AreGraphs, IsGraph}
use Rattle.rc_infer.proofs.Places.{order, some_is}

graph_some : (x y : Graph) → Some x ≡ Some y → x ≡ y
graph_some x y e = cc

before : (xs : List Graph) (y : Graph) (g : ℕ) → g < length xs → slice_get (xs ++ y ∷ []) g ≡ slice_get xs g
before [] y g lt = absurd (omega (arith, lt))
before (x ∷ xs) y zero lt = refl
before (x ∷ xs) y (suc g) lt = before xs y g (omega (arith, lt))

behind : (xs : List Graph) (y : Graph) → slice_get (xs ++ y ∷ []) (length xs) ≡ Some y
behind [] y = refl
behind (x ∷ xs) y = behind xs y

pub graphs_none : (r : Rlang) (all : List Graph) → all ≡ [] → AreGraphs r 0 all
graphs_none r all e = record { long = ap length e; each = λ g f graph there at. absurd (let w = slice_get_within all g graph at in let q = ap length e in omega (arith, w, q)) }

pub graphs_more : (r : Rlang) (k : ℕ) (f : Routine) (old new : List Graph) (graph : Graph) → slice_get r.functions k ≡ Some f → AreGraphs r k old → IsGraph f graph → new ≡ old ++ graph ∷ [] → AreGraphs r (k + 1) new
graphs_more r k f old new graph there are of e = subst (AreGraphs r (k + 1)) (sym e) (record {
  long = (let l = length-append old (graph ∷ []) in let q = are.long in omega (arith, l, q));
  each = λ g f1 one th at. each g f1 one th at (order g k);
})
  where
    each : (g : ℕ) (f1 : Routine) (one : Graph) → slice_get r.functions g ≡ Some f1 → slice_get (old ++ graph ∷ []) g ≡ Some one → (g < k) ⊎ ((g ≡ k) ⊎ (k < g)) → IsGraph f1 one
    each g f1 one th at (inl below) = are.each g f1 one th (sym (before old graph g (let q = are.long in omega (arith, below, q))) ∙ at)
    each g f1 one th at (inr (inl same)) =
        subst (λ z. IsGraph z one) (some_is f f1 (sym there ∙ ap (slice_get r.functions) (sym same) ∙ th))
        (subst (IsGraph f) (graph_some graph one (sym (behind old graph) ∙ ap (slice_get (old ++ graph ∷ [])) (are.long ∙ sym same) ∙ at)) of)
    each g f1 one th at (inr (inr over)) = absurd (let l = length-append old (graph ∷ []) in let q = are.long in let w = slice_get_within (old ++ graph ∷ []) g one at in omega (arith, l, q, w, over))
