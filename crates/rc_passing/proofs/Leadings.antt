-- The edges of a node, one after another.
use Rattle.std.proofs.Common.{◌≡◌, ◌↔◌, ℕ, zero, suc, ◌<◌, List, [], ◌∷◌, Bool, true, false, Some, Result, Ok, Err, length, get_or, sym, ap, ◌∙◌, subst, arith}
use Rattle.std.specs.Prelude.{slice_get, IfOk}
use Rattle.rc_facts.specs.declared.fact.Fact.{Fact}
use Rattle.rc_facts.specs.Facts.{Known}
use Rattle.rc_rlang.specs.RegionFlow.{Edge}
use Rattle.rc_graph.specs.declared.node.Effect.{Effect}
use Rattle.rc_graph.specs.declared.node.Node.{Node}
use Rattle.rc_graph.specs.declared.node.Node.TheVariants.{Fork, Go}
use Rattle.rc_graph.specs.Nodes.{effect_of, node_of}
use Rattle.rc_edges.specs.Reading.{Loses}
use Rattle.rc_passing.specs.Leading.{EdgeLeads, GoesOnAlone, IsLed, LeadsOn, MayFollow, NodeLeads}

abbrev pub edge_of : Effect → ℕ → Edge
edge_of effect to = record { effect = effect_of effect; to = to }

pub if_ok : {T E : Type 0} (r : Result T E) (P Q : T → Type 0) → ((x : T) → P x → Q x) → IfOk r P → IfOk r Q
if_ok (Ok x) P Q f p = f x p
if_ok (Err e) P Q f p = p

edge_some : (x y : Edge) → Some x ≡ Some y → x ≡ y
edge_some x y e = cc

pub go_is : (n : Node) (effect : Effect) (to : ℕ) → n ≡ Go effect to → slice_get (node_of n).edges 0 ≡ Some (edge_of effect to)
go_is n effect to e = ap (λ m. slice_get (node_of m).edges 0) e

pub left_is : (n : Node) (left right : Effect) (one other : ℕ) → n ≡ Fork left one right other → slice_get (node_of n).edges 0 ≡ Some (edge_of left one)
left_is n left right one other e = ap (λ m. slice_get (node_of m).edges 0) e

pub right_is : (n : Node) (left right : Effect) (one other : ℕ) → n ≡ Fork left one right other → slice_get (node_of n).edges 1 ≡ Some (edge_of right other)
right_is n left right one other e = ap (λ m. slice_get (node_of m).edges 1) e

-- whatever would stand behind the end
pub read_at : (xs : List Bool) (i : ℕ) (b : Bool) → i < length xs → b ≡ get_or xs i b → get_or xs i true ≡ b
read_at [] i b lt e = absurd (omega (arith, lt))
read_at (x ∷ xs) zero b lt e = sym e
read_at (x ∷ xs) (suc i) b lt e = read_at xs i b (omega (arith, lt)) e

-- where sets lost facts, one may follow as before
pub may_still : (heads : List Bool) (exits : List Known) (spare : ℕ) (edge : Edge) (old mid : List Known) (lost : Bool) (stays : ℕ → Fact → Type 0) → Loses lost old mid stays → MayFollow heads exits spare edge old → MayFollow heads exits spare edge mid
may_still heads exits spare edge old mid lost stays l may = record {
  call = may.call;
  own = may.own;
  there = (let a = l.long in let b = may.there in omega (arith, a, b));
  within = may.within;
  variables = λ is. l.variables edge.to ∙ may.variables is;
}

module _ (heads : List Bool) (exits : List Known) (spare : ℕ) (known : Known) where
  pub go_leads : (n : Node) (effect : Effect) (to : ℕ) → n ≡ Go effect to → (p : ℕ) (fact : Fact) → EdgeLeads heads exits spare (edge_of effect to) known p fact ↔ NodeLeads heads exits spare (node_of n) known p fact
  go_leads n effect to e p fact = (λ h. subst (λ m. NodeLeads heads exits spare (node_of m) known p fact) (sym e) (at h), λ h. h 0 (edge_of effect to) (go_is n effect to e))
    where
      at : EdgeLeads heads exits spare (edge_of effect to) known p fact → NodeLeads heads exits spare (node_of (Go effect to)) known p fact
      at h zero edge is = subst (λ d. EdgeLeads heads exits spare d known p fact) (edge_some (edge_of effect to) edge is) h
      at h (suc k) edge is = cc

  pub fork_leads : (n : Node) (left right : Effect) (one other : ℕ) → n ≡ Fork left one right other → (p : ℕ) (fact : Fact)
      → (EdgeLeads heads exits spare (edge_of left one) known p fact × EdgeLeads heads exits spare (edge_of right other) known p fact) ↔ NodeLeads heads exits spare (node_of n) known p fact
  fork_leads n left right one other e p fact = (
    λ h. subst (λ m. NodeLeads heads exits spare (node_of m) known p fact) (sym e) (at h),
    λ h. (h 0 (edge_of left one) (left_is n left right one other e), h 1 (edge_of right other) (right_is n left right one other e)),
  )
    where
      at : EdgeLeads heads exits spare (edge_of left one) known p fact × EdgeLeads heads exits spare (edge_of right other) known p fact → NodeLeads heads exits spare (node_of (Fork left one right other)) known p fact
      at h zero edge is = subst (λ d. EdgeLeads heads exits spare d known p fact) (edge_some (edge_of left one) edge is) h.0
      at h (suc zero) edge is = subst (λ d. EdgeLeads heads exits spare d known p fact) (edge_some (edge_of right other) edge is) h.1
      at h (suc (suc k)) edge is = cc

  pub turned_leads : (n : Node) (left right : Effect) (one other : ℕ) → n ≡ Fork left one right other → (p : ℕ) (fact : Fact)
      → (EdgeLeads heads exits spare (edge_of right other) known p fact × EdgeLeads heads exits spare (edge_of left one) known p fact) ↔ NodeLeads heads exits spare (node_of n) known p fact
  turned_leads n left right one other e p fact = let both = fork_leads n left right one other e p fact in (λ h. both.0 (h.1, h.0), λ h. let q = both.1 h in (q.1, q.0))

  pub left_on : (n : Node) (left right : Effect) (one other : ℕ) (after : Known) → n ≡ Fork left one right other → get_or heads one true ≡ false → GoesOnAlone heads (node_of n) → IsLed exits spare (edge_of left one) known after → LeadsOn heads exits spare (node_of n) known after
  left_on n left right one other after e inner alone led k edge is goes =
      subst (λ d. IsLed exits spare d known after) (alone 0 k (edge_of left one) edge (left_is n left right one other e) is inner goes) led
