-- Where the edges of a point lead, and what its touch does for a local.
use Rattle.std.proofs.Common.{◌≡◌, ℕ, zero, suc, ◌+◌, ◌<◌, Bool, true, false, List, [], ◌∷◌, length, Option, Some, None, ◌⊎◌, inl, inr, refl, sym, ap, ◌∙◌, subst, arith}
use Rattle.std.specs.Prelude.{slice_get}
use Rattle.std.proofs.lemmas.Option.{same_Some}
use Rattle.rc_rlang.specs.RegionCode.{Routine}
use Rattle.rc_rlang.specs.RegionFlow.{Effect, Edge, Node, going, forking, returning, one_of, first_of, in_line, routine_nodes}
use Rattle.rc_rlang.specs.LivePaths.{Leads}

no_element : {A : Type 0} (x : A) → ◌≡◌ {A = Option A} None (Some x) → ⊥
no_element x e = cc

only_edge : (e : Effect) (next i : ℕ) (edge : Edge) → slice_get (going e next).edges i ≡ Some edge → edge.to ≡ next
only_edge e next zero edge s = ap (λ d. d.to) (sym (same_Some _ edge s))
only_edge e next (suc i) edge s = absurd (no_element edge s)

either_edge : (e d : Effect) (to_yes to_no i : ℕ) (edge : Edge) → slice_get (forking e d to_yes to_no).edges i ≡ Some edge → (edge.to ≡ to_yes) ⊎ (edge.to ≡ to_no)
either_edge e d to_yes to_no zero edge s = inl (ap (λ d. d.to) (sym (same_Some _ edge s)))
either_edge e d to_yes to_no (suc zero) edge s = inr (ap (λ d. d.to) (sym (same_Some _ edge s)))
either_edge e d to_yes to_no (suc (suc i)) edge s = absurd (no_element edge s)

module _ (f : Routine) (n : ℕ) where
  same_edge : (node : Node) (to : ℕ) → slice_get (routine_nodes f) n ≡ Some node → (l : Leads f n to) → slice_get node.edges l.number ≡ Some l.edge
  same_edge node to s l = subst (λ m. slice_get m.edges l.number ≡ Some l.edge) (same_Some l.node node (sym l.there ∙ s)) l.out

  pub one_edge : (e : Effect) (next : ℕ) → slice_get (routine_nodes f) n ≡ Some (going e next) → (to : ℕ) → Leads f n to → to ≡ next
  one_edge e next s to l = sym l.leads ∙ only_edge e next l.number l.edge (same_edge (going e next) to s l)

  pub two_edges : (e d : Effect) (to_yes to_no : ℕ) → slice_get (routine_nodes f) n ≡ Some (forking e d to_yes to_no) → (to : ℕ) → Leads f n to → (to ≡ to_yes) ⊎ (to ≡ to_no)
  two_edges e d to_yes to_no s to l = by (either_edge e d to_yes to_no l.number l.edge (same_edge (forking e d to_yes to_no) to s l))
    where
      by : (l.edge.to ≡ to_yes) ⊎ (l.edge.to ≡ to_no) → (to ≡ to_yes) ⊎ (to ≡ to_no)
      by (inl p) = inl (sym l.leads ∙ p)
      by (inr p) = inr (sym l.leads ∙ p)

  pub no_edge : (given : Option ℕ) → slice_get (routine_nodes f) n ≡ Some (returning given) → (to : ℕ) → Leads f n to → ⊥
  no_edge given s to l = no_element l.edge (same_edge (returning given) to s l)

  pub test_edges : (wanted : Bool) (e d : Effect) (to_yes to_no : ℕ) → slice_get (routine_nodes f) n ≡ Some (one_of wanted (forking e d to_yes to_no) (forking d e to_yes to_no)) → (to : ℕ) → Leads f n to → (to ≡ to_yes) ⊎ (to ≡ to_no)
  test_edges true e d to_yes to_no s to l = two_edges e d to_yes to_no s to l
  test_edges false e d to_yes to_no s to l = two_edges d e to_yes to_no s to l

  pub leads_on : (e : Effect) (next : ℕ) → slice_get (routine_nodes f) n ≡ Some (going e next) → Leads f n next
  leads_on e next s = record { node = going e next; number = 0; edge = record { effect = e; to = next }; there = s; out = refl; leads = refl }

  pub leads_yes : (e d : Effect) (to_yes to_no : ℕ) → slice_get (routine_nodes f) n ≡ Some (forking e d to_yes to_no) → Leads f n to_yes
  leads_yes e d to_yes to_no s = record { node = forking e d to_yes to_no; number = 0; edge = record { effect = e; to = to_yes }; there = s; out = refl; leads = refl }

  pub leads_no : (e d : Effect) (to_yes to_no : ℕ) → slice_get (routine_nodes f) n ≡ Some (forking e d to_yes to_no) → Leads f n to_no
  leads_no e d to_yes to_no s = record { node = forking e d to_yes to_no; number = 1; edge = record { effect = d; to = to_no }; there = s; out = refl; leads = refl }

  pub test_yes : (wanted : Bool) (e d : Effect) (to_yes to_no : ℕ) → slice_get (routine_nodes f) n ≡ Some (one_of wanted (forking e d to_yes to_no) (forking d e to_yes to_no)) → Leads f n to_yes
  test_yes true e d to_yes to_no s = leads_yes e d to_yes to_no s
  test_yes false e d to_yes to_no s = leads_yes d e to_yes to_no s

  pub test_no : (wanted : Bool) (e d : Effect) (to_yes to_no : ℕ) → slice_get (routine_nodes f) n ≡ Some (one_of wanted (forking e d to_yes to_no) (forking d e to_yes to_no)) → Leads f n to_no
  test_no true e d to_yes to_no s = leads_no e d to_yes to_no s
  test_no false e d to_yes to_no s = leads_no d e to_yes to_no s

-- where a piece begins that has points
pub first_here : (points here next : ℕ) → 0 < points → first_of points here next ≡ here
first_here zero here next l = absurd (omega (arith, l))
first_here (suc n) here next l = refl

-- the same where what comes next stands behind it
pub first_next : (points here : ℕ) → first_of points here (here + points) ≡ here
first_next zero here = omega arith
first_next (suc n) here = refl

pub line_some : (e : Effect) (es : List Effect) (here next : ℕ) → 0 < length (in_line (e ∷ es) here next)
line_some e [] here next = omega arith
line_some e (d ∷ es) here next = omega arith

-- two pieces, one behind the other
pub first_two : (p q here next : ℕ) → first_of (p + q) here next ≡ first_of p here (first_of q (here + p) next)
first_two zero zero here next = refl
first_two zero (suc q) here next = first_here (0 + suc q) here next (omega arith) ∙ omega arith
first_two (suc p) q here next = first_here (suc p + q) here next (omega arith)
