-- The search begins with all facts, function by function.
use Rattle.std.proofs.Common.{◌≡◌, ℕ, zero, suc, ◌+◌, ◌<◌, ◌≤◌, ◌++◌, ◌⊎◌, inl, inr, Bool, true, false, cond, nat_eq, List, [], ◌∷◌, length, get_or, map, Some, refl, sym, ap, ◌∙◌, subst, arith}
use Rattle.std.specs.Prelude.{slice_get}
use Rattle.std.proofs.lemmas.Bool.{cases_Bool, eqb-true, eq-eqb}
use Rattle.std.proofs.lemmas.List.{length-append, length-map}
use Rattle.std.proofs.lemmas.Option.{slice_get_within, same_Some}
use Rattle.rc_facts.specs.declared.fact.Fact.{Fact}
use Rattle.rc_facts.specs.Facts.{Known, holds, is_over}
use Rattle.rc_rlang.specs.IsRlang.{IsRlang}
use Rattle.rc_rlang.specs.RegionCode.{Routine, Rlang}
use Rattle.rc_annotations.specs.Heights.{temporaries_in, temporaries_of}
use Rattle.rc_facts.specs.Flow.{no_set, set_at}
use Rattle.rc_edges.specs.Edges.{spare}
use Rattle.rc_edges.specs.Families.{Family, Owned}
use Rattle.rc_edges.specs.Searching.{Full}
use Rattle.rc_edges.proofs.Owning.{functions_own}
use Rattle.rc_edges.proofs.Steps.{begun}
use Rattle.rc_graph.specs.declared.graph.Graph.{Graph}
use Rattle.rc_graph.specs.Nodes.{AreGraphs, IsGraph, node_of}
use Rattle.rc_infer.specs.Covering.{Turning, known_at}
use Rattle.rc_infer.specs.Starting.{AreWhole, IsWhole, Started, StartedAt}
use Rattle.rc_infer.proofs.Lists.{merged, merged_head, merged_inner, merged_long, past_end, side}
use Rattle.rc_infer.proofs.Places.{order, some_at, some_is}

before_end : {X : Type 0} (xs : List X) (y d : X) (g : ℕ) → g < length xs → get_or (xs ++ y ∷ []) g d ≡ get_or xs g d
before_end [] y d g lt = absurd (omega (arith, lt))
before_end (x ∷ xs) y d zero lt = refl
before_end (x ∷ xs) y d (suc g) lt = before_end xs y d g (omega (arith, lt))

at_end : {X : Type 0} (xs : List X) (y d : X) (g : ℕ) → length xs ≡ g → get_or (xs ++ y ∷ []) g d ≡ y
at_end [] y d zero e = refl
at_end [] y d (suc g) e = absurd (omega (arith, e))
at_end (x ∷ xs) y d zero e = absurd (omega (arith, e))
at_end (x ∷ xs) y d (suc g) e = at_end xs y d g (omega (arith, e))

none_held : (fact : Fact) → holds no_set fact ≡ false
unfolding holds
none_held fact = refl

pub plus_one : (n : ℕ) → n + 1 ≡ suc n
plus_one n = omega (arith)

each_at : (P : ℕ → Known → Type 0) (old : List Known) (set : Known) → ((k : ℕ) → k < length old → P k (get_or old k no_set)) → P (length old) set → (k : ℕ) → k < length (old ++ set ∷ []) → P k (get_or (old ++ set ∷ []) k no_set)
each_at P old set h p k lt = go (order k (length old))
  where
    go : (k < length old) ⊎ ((k ≡ length old) ⊎ (length old < k)) → P k (get_or (old ++ set ∷ []) k no_set)
    go (inl below) = subst (P k) (sym (before_end old set no_set k below)) (h k below)
    go (inr (inl e)) = subst (λ i. P i (get_or (old ++ set ∷ []) i no_set)) (sym e) (subst (P (length old)) (sym (at_end old set no_set (length old) refl)) p)
    go (inr (inr over)) = absurd (let l = length-append old (set ∷ []) in omega (arith, l, lt, over))

pub more_whole : (graph : Graph) (spare : ℕ) (old new : List Known) (set : Known) → new ≡ old ++ set ∷ [] → AreWhole graph spare old → (get_or graph.heads.items (length old) true ≡ true → IsWhole spare set) → AreWhole graph spare new
more_whole graph spare old new set e h w = subst (AreWhole graph spare) (sym e) (each_at (λ p k. get_or graph.heads.items p true ≡ true → IsWhole spare k) old set h w)

not_true : (b : Bool) → (b ≡ true → ⊥) → b ≡ false
not_true true h = absurd (h refl)
not_true false h = refl

module _ (r : Rlang) (is : IsRlang r) (k : ℕ) (f : Routine) (there : slice_get r.functions k ≡ Some f) (graph : Graph) (of : IsGraph f graph) where
  owned : Owned r (temporaries_of r) k f
  owned = functions_own r is k f there

  result_is : graph.result ≡ spare f (temporaries_of r k)
  result_is = of.result ∙ ap (spare f) (sym (ap temporaries_in there))

  pub few_variables : graph.result < 128
  few_variables = let q = result_is in let few = owned.few in omega (arith, q, few)

  pub few_copies : graph.copies + 1 ≤ 128
  few_copies = let q = result_is in let few = owned.few in let hidden = owned.hidden in let h = of.hidden in omega (arith, q, few, hidden, h)

  pub heads_long : length graph.nodes.items < length graph.heads.items
  heads_long = let h = of.heads.long in let q = length-map graph.nodes.items node_of in omega (arith, h, q)

  pub started_at : (sets : List Known) (first last : Known) (main : ℕ) → length sets ≡ length graph.nodes.items → AreWhole graph graph.result sets
      → first.variables ≡ graph.copies → main ≡ r.main → ((fact : Fact) → holds first fact ≡ cond (nat_eq k main) false (is_over graph.copies fact)) → last.variables ≡ graph.copies + 1 → ((fact : Fact) → holds last fact ≡ is_over (graph.copies + 1) fact) → StartedAt r k f graph sets first last
  started_at sets first last main long whole entry m facts exit leaving = record {
    long = long ∙ sym (length-map graph.nodes.items node_of) ∙ ap length of.nodes;
    whole = subst (λ n. AreWhole graph n sets) result_is whole;
    entry = entry ∙ of.hidden;
    others = λ apart fact. facts fact ∙ ap (λ b. cond b false (is_over graph.copies fact)) (not_true (nat_eq k main) (λ e. apart (eqb-true k main e ∙ m))) ∙ ap (λ n. is_over n fact) of.hidden;
    main = λ same fact. facts fact ∙ ap (λ b. cond b false (is_over graph.copies fact)) (eq-eqb k main (same ∙ sym m));
    exit = exit ∙ (let h = of.hidden in omega (arith, h));
    leaving = λ fact. leaving fact ∙ ap (λ n. is_over n fact) (let h = of.hidden in omega (arith, h));
  }

-- the sets of all points: at those that are no heads that of the first one
filled : List Known → List Known
filled sets = map (λ s. get_or sets 0 no_set) sets

same_at : (k : Known) (sets : List Known) (p : ℕ) (d : Known) → p < length sets → get_or (map (λ (s : Known). k) sets) p d ≡ k
same_at k [] p d lt = absurd (omega (arith, lt))
same_at k (x ∷ xs) zero d lt = refl
same_at k (x ∷ xs) (suc p) d lt = same_at k xs p d (omega (arith, lt))

abbrev spread_row : Graph → List Known → List Known
spread_row graph row = merged graph.heads.items row (filled row)

abbrev spread : List Graph → List (List Known) → List (List Known)
spread [] rows = rows
spread (g ∷ gs) [] = []
spread (g ∷ gs) (row ∷ rows) = spread_row g row ∷ spread gs rows

spread_count : (gs : List Graph) (rows : List (List Known)) → length (spread gs rows) ≡ length rows
spread_count [] rows = refl
spread_count (g ∷ gs) [] = refl
spread_count (g ∷ gs) (row ∷ rows) = ap suc (spread_count gs rows)

spread_long : (gs : List Graph) (rows : List (List Known)) (k : ℕ) → length (get_or (spread gs rows) k []) ≡ length (get_or rows k [])
spread_long [] rows k = refl
spread_long (g ∷ gs) [] k = refl
spread_long (g ∷ gs) (row ∷ rows) zero = merged_long 0 g.heads.items row (filled row)
spread_long (g ∷ gs) (row ∷ rows) (suc k) = spread_long gs rows k

spread_at : (gs : List Graph) (rows : List (List Known)) (k : ℕ) (graph : Graph) → slice_get gs k ≡ Some graph → get_or (spread gs rows) k [] ≡ spread_row graph (get_or rows k [])
spread_at [] rows k graph at = cc
spread_at (g ∷ gs) [] k graph at = refl
spread_at (g ∷ gs) (row ∷ rows) zero graph at = ap (λ (x : Graph). spread_row x row) (same_Some _ _ at)
spread_at (g ∷ gs) (row ∷ rows) (suc k) graph at = spread_at gs rows k graph at

spread_whole : (graph : Graph) (spare : ℕ) (row : List Known) → get_or graph.heads.items 0 true ≡ true → AreWhole graph spare row → (p : ℕ) → p < length row → IsWhole spare (get_or (spread_row graph row) p no_set)
unfolding filled
spread_whole graph spare row first whole p lt = elim (cases_Bool (get_or graph.heads.items p true)) [
  | inl head ↦ subst (IsWhole spare) (sym (merged_head graph.heads.items row (filled row) p head)) (whole p lt head)
  | inr inner ↦ subst (IsWhole spare) (sym (merged_inner graph.heads.items row (filled row) p lt inner ∙ same_at (get_or row 0 no_set) row p no_set lt)) (whole 0 (omega (arith, lt)) first)
]

get_same : (sets : List Known) (p : ℕ) (d : Known) → p < length sets → get_or sets p d ≡ get_or sets p no_set
get_same [] p d lt = absurd (omega (arith, lt))
get_same (x ∷ sets) zero d lt = refl
get_same (x ∷ sets) (suc p) d lt = get_same sets p d (omega (arith, lt))

module _ (r : Rlang) (graphs : List Graph) (own : AreGraphs r (length r.functions) graphs) where
  pub started_none : (m : Family) → m.points ≡ [] → m.entries ≡ [] → m.exits ≡ [] → Started r graphs 0 m
  started_none m p e x = record { points = ap length p; entries = ap length e; exits = ap length x; each = λ g f graph lt there at. absurd (omega (arith, lt)) }

  module _ (k : ℕ) (f : Routine) (graph : Graph) (m m1 : Family) (sets : List Known) (first last : Known) (there : slice_get r.functions k ≡ Some f) (at : slice_get graphs k ≡ Some graph) (s : Started r graphs k m) (p : m1.points ≡ m.points ++ sets ∷ []) (e : m1.entries ≡ m.entries ++ first ∷ []) (x : m1.exits ≡ m.exits ++ last ∷ []) (new : StartedAt r k f graph sets first last) where
    place : (g : ℕ) (f1 : Routine) (one : Graph) → g < k + 1 → slice_get r.functions g ≡ Some f1 → slice_get graphs g ≡ Some one → (g < k) ⊎ ((g ≡ k) ⊎ (k < g)) → StartedAt r g f1 one (get_or m1.points g []) (get_or m1.entries g no_set) (get_or m1.exits g no_set)
    place g f1 one lt th is (inl below) =
        subst (λ z. StartedAt r g f1 one z (get_or m1.entries g no_set) (get_or m1.exits g no_set)) (sym (ap (λ z. get_or z g []) p ∙ before_end m.points sets [] g (let l = s.points in omega (arith, l, below))))
        (subst (λ z. StartedAt r g f1 one (get_or m.points g []) z (get_or m1.exits g no_set)) (sym (ap (λ z. get_or z g no_set) e ∙ before_end m.entries first no_set g (let l = s.entries in omega (arith, l, below))))
        (subst (λ z. StartedAt r g f1 one (get_or m.points g []) (get_or m.entries g no_set) z) (sym (ap (λ z. get_or z g no_set) x ∙ before_end m.exits last no_set g (let l = s.exits in omega (arith, l, below)))) (s.each g f1 one below th is)))
    place g f1 one lt th is (inr (inl same)) =
        subst (λ z. StartedAt r g f1 one z (get_or m1.entries g no_set) (get_or m1.exits g no_set)) (sym (ap (λ z. get_or z g []) p ∙ at_end m.points sets [] g (s.points ∙ sym same)))
        (subst (λ z. StartedAt r g f1 one sets z (get_or m1.exits g no_set)) (sym (ap (λ z. get_or z g no_set) e ∙ at_end m.entries first no_set g (s.entries ∙ sym same)))
        (subst (λ z. StartedAt r g f1 one sets first z) (sym (ap (λ z. get_or z g no_set) x ∙ at_end m.exits last no_set g (s.exits ∙ sym same)))
        (subst (λ i. StartedAt r i f1 one sets first last) (sym same)
        (subst (λ z. StartedAt r k z one sets first last) (some_is f f1 (sym there ∙ ap (slice_get r.functions) (sym same) ∙ th))
        (subst (λ z. StartedAt r k f z sets first last) (same_Some _ _ (sym at ∙ ap (slice_get graphs) (sym same) ∙ is)) new)))))
    place g f1 one lt th is (inr (inr over)) = absurd (omega (arith, lt, over))

    pub started_more : Started r graphs (k + 1) m1
    started_more = record {
      points = ap length p ∙ (let l = length-append m.points (sets ∷ []) in let q = s.points in omega (arith, l, q));
      entries = ap length e ∙ (let l = length-append m.entries (first ∷ []) in let q = s.entries in omega (arith, l, q));
      exits = ap length x ∙ (let l = length-append m.exits (last ∷ []) in let q = s.exits in omega (arith, l, q));
      each = λ g f1 one lt th is. place g f1 one lt th is (order g k);
    }

  module _ (is : IsRlang r) (m : Family) (s : Started r graphs (length r.functions) m) where
    abbrev whole_family : Family
    whole_family = record { points = spread graphs m.points; entries = m.entries; exits = m.exits }

    graph_at : (g : ℕ) (f : Routine) → slice_get r.functions g ≡ Some f → (graph : Graph) × (slice_get graphs g ≡ Some graph)
    graph_at g f there = some_at graphs g (let w = slice_get_within r.functions g f there in let q = own.long in omega (arith, w, q))

    here : (g : ℕ) (f : Routine) (there : slice_get r.functions g ≡ Some f) → StartedAt r g f (graph_at g f there).0 (get_or m.points g []) (get_or m.entries g no_set) (get_or m.exits g no_set)
    here g f there = let q = graph_at g f there in s.each g f q.0 (slice_get_within r.functions g f there) there q.1

    wholly : (g : ℕ) (f : Routine) (p : ℕ) → slice_get r.functions g ≡ Some f → p < length (get_or m.points g []) → IsWhole (spare f (temporaries_of r g)) (known_at whole_family g p)
    wholly g f p there lt =
        let q = graph_at g f there in
        subst (λ row. IsWhole (spare f (temporaries_of r g)) (get_or row p no_set)) (sym (spread_at graphs m.points g q.0 q.1))
        (spread_whole q.0 (spare f (temporaries_of r g)) (get_or m.points g []) (own.each g f q.0 there q.1).heads.first (here g f there).whole p lt)

    full : Full r whole_family
    full = record {
      shaped = record {
        points = spread_count graphs m.points ∙ s.points;
        entries = s.entries;
        exits = s.exits;
        each = λ g f there. (
            let one = here g f there in
            let long = spread_long graphs m.points g in
            record {
              points = long ∙ one.long;
              before = λ p d lt. ap (λ (k : Known). k.variables) (get_same (get_or whole_family.points g []) p d lt) ∙ (wholly g f p there (omega (arith, lt, long))).wide;
              entry = one.entry;
              exit = one.exit;
            });
      };
      points = λ g f p fact there lt. (let long = spread_long graphs m.points g in (wholly g f p there (omega (arith, lt, long))).facts fact);
      entries = λ g f fact there apart. (here g f there).others apart fact;
      exits = λ g f fact there. (here g f there).leaving fact;
      main = λ fact. first fact (side r.main (length r.functions));
    }
      where
        first : (fact : Fact) → (r.main < length r.functions) ⊎ (length r.functions ≤ r.main) → set_at m.entries r.main fact ≡ false
        first fact (inl lt) = (let at = some_at r.functions r.main lt in (here r.main at.0 at.1).main refl fact)
        first fact (inr le) = ap (λ k. holds k fact) (past_end m.entries r.main (let q = s.entries in omega (arith, q, le))) ∙ none_held fact

    pub started_all : Turning r graphs m
    started_all = record {
      code = is;
      own = own;
      all = whole_family;
      covers = record {
        searching = begun r is whole_family full;
        entries = refl;
        exits = refl;
        points = sym (spread_count graphs m.points);
        long = λ g. sym (spread_long graphs m.points g);
        here = λ g p graph at head. ap (λ row. get_or row p no_set) (spread_at graphs m.points g graph at) ∙ merged_head graph.heads.items (get_or m.points g []) (filled (get_or m.points g [])) p head;
      };
    }
