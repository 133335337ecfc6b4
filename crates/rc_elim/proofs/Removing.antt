-- Rows of marks made by facts mark exactly what may go.
use Rattle.std.proofs.Common.{◌≡◌, ◌<◌, ◌≤◌, ◌+◌, ◌↔◌, ℕ, zero, suc, Bool, true, false, List, [], ◌∷◌, ◌++◌, length, map, get_or, drop, append_assoc, append-nil, Option, Some, None, refl, sym, ap, ◌∙◌, subst, arith, IsTrue}
use Rattle.std.specs.Prelude.{slice_get, IfSome, nat_lt, ◌&&◌}
use Rattle.std.proofs.lemmas.Bool.{and_from, lt-ltb}
use Rattle.std.proofs.Math.Seq.{drop-cons}
use Rattle.std.proofs.lemmas.List.{get_or-map, length-map}
use Rattle.std.proofs.lemmas.Option.{get_or_from_slice_get, slice_get-get_or, slice_get_within}
use Rattle.rc_core.specs.declared.ty.Note.{Note}
use Rattle.rc_core.specs.declared.ty.Note.TheVariants.{Plain, SameRegion, ParentPtr, Traditional}
use Rattle.rc_facts.specs.declared.fact.Fact.{Fact}
use Rattle.rc_facts.specs.Facts.{Known, is_over, holds}
use Rattle.rc_rlang.specs.RegionCode.{Routine, Rlang}
use Rattle.rc_rlang.specs.Shapes.{rlang_of, routine_in}
use Rattle.rc_rlang.specs.declared.code.RegionParts.{RegionParts}
use Rattle.rc_core.specs.Shapes.{struct_of}
use Rattle.rc_annotations.specs.Heights.{temporaries_of}
use Rattle.rc_edges.specs.Families.{Family, annotation_in}
use Rattle.rc_edges.specs.declared.facts.Facts.{Facts}
use Rattle.rc_edges.specs.Heads.{Inferred}
use Rattle.rc_edges.proofs.Restricting.{greatest_removes}
use Rattle.rc_elim.specs.Marking.{AreMarked}
use Rattle.rc_elim.specs.Masks.{HasPoints, MarksRemovable}
use Rattle.rc_rlang.specs.RegionFlow.{Effect, nothing, nulled, moved, fixed, beside, made, under, loaded, looked_at, stored, present, absent, called, entered, Edge, Node, routine_nodes}
use Rattle.rc_annotations.specs.Annotations.{Annotation, asked, asked_of, asked_by, Proven}
use Rattle.rc_facts.specs.Flow.{set_at}
use Rattle.rc_edges.specs.Edges.{EffectBelow, NodeEdge, spare, kept}
use Rattle.rc_elim.specs.Asking.{AsksOver, bits_of}
use Rattle.rc_elim.specs.Masks.{has_asked, is_proven, marks_in}

-- the element at the front of what is left
front : {X : Type 0} (xs : List X) (i : ℕ) (x : X) → i < length xs → x ≡ get_or xs i x → drop i xs ≡ x ∷ drop (i + 1) xs
front xs i x h e = drop-cons xs i x h ∙ ap (λ y. y ∷ drop (suc i) xs) (sym e) ∙ ap (λ j. x ∷ drop j xs) (let k : suc i ≡ i + 1 = omega arith in k)

none_left : {X : Type 0} (xs : List X) (i : ℕ) → length xs ≤ i → drop i xs ≡ []
none_left [] zero h = refl
none_left [] (suc i) h = refl
none_left (x ∷ xs) zero h = absurd (omega (arith, h))
none_left (x ∷ xs) (suc i) h = none_left xs i (omega (arith, h))

-- what an effect on variables below n asks is over n and one more
over_two : (n x y : ℕ) → x < n → y < n → (nat_lt x (suc n) && nat_lt y (suc n)) ≡ true
over_two n x y a b = and_from (nat_lt x (suc n)) (nat_lt y (suc n)) (lt-ltb x (suc n) (omega (arith, a))) (lt-ltb y (suc n) (omega (arith, b)))

asked_over : (n : ℕ) (note : Note) (x y : ℕ) → x < n → y < n → IfSome (asked note x y) (λ fact. IsTrue (is_over (suc n) fact))
asked_over n Plain x y a b = tt
asked_over n SameRegion x y a b = over_two n x y a b
asked_over n ParentPtr x y a b = over_two n x y a b
asked_over n Traditional x y a b = lt-ltb x (suc n) (omega (arith, a))

effect_over : (n : ℕ) (effect : Effect) → EffectBelow n effect → IfSome (asked_of effect) (λ fact. IsTrue (is_over (suc n) fact))
effect_over n nothing h = tt
effect_over n (nulled x) h = tt
effect_over n (moved x y) h = tt
effect_over n (fixed x) h = tt
effect_over n (beside x y) h = tt
effect_over n (made x) h = tt
effect_over n (under x y) h = tt
effect_over n (loaded x y note) h = tt
effect_over n (looked_at y) h = tt
effect_over n (stored z y note) h = asked_over n note z y h.0 h.1
effect_over n (present y) h = tt
effect_over n (absent y) h = tt
effect_over n (called x g arguments) h = tt
effect_over n (entered pairs) h = tt

first_over : (n : ℕ) (node : Node) (edges : List Edge) → node.edges ≡ edges → ((edge : Edge) → slice_get edges 0 ≡ Some edge → EffectBelow n edge.effect) → AsksOver (suc n) (record node { edges = edges })
first_over n node [] e h = tt
first_over n node (edge ∷ rest) e h = effect_over n edge.effect (h edge refl)

pub node_over : (f : Routine) (temporaries p : ℕ) (node : Node) → ((p : ℕ) (edge : Edge) → NodeEdge f p edge → EffectBelow (spare f temporaries) edge.effect) → slice_get (routine_nodes f) p ≡ Some node → AsksOver (kept f temporaries) node
node_over f temporaries p node own there = first_over (spare f temporaries) node node.edges refl (λ edge is. own p edge (record { node = node; place = 0; there = there; is = is }))

-- a list of marks that has a mark set has that place
marked_within : (bits : List Bool) (p : ℕ) → get_or bits p false ≡ true → p < length bits
marked_within [] zero e = absurd cc
marked_within [] (suc p) e = absurd cc
marked_within (b ∷ bits) zero e = omega arith
marked_within (b ∷ bits) (suc p) e = omega (arith, marked_within bits p e)

marked_row : (rows : List (List Bool)) (g p : ℕ) → marks_in rows g p ≡ true → g < length rows
marked_row [] zero p e = absurd (marked-none p e) where
  marked-none : (p : ℕ) → get_or [] p false ≡ true → ⊥
  marked-none zero e = cc
  marked-none (suc p) e = cc
marked_row [] (suc g) p e = absurd (marked-none p e) where
  marked-none : (p : ℕ) → get_or [] p false ≡ true → ⊥
  marked-none zero e = cc
  marked-none (suc p) e = cc
marked_row (r ∷ rows) zero p e = omega arith
marked_row (r ∷ rows) (suc g) p e = omega (arith, marked_row rows g p e)

record Asked (asked : Option Fact) (facts : Fact → Bool) : Type 0 where
  fact : Fact
  asks : asked ≡ Some fact
  has : facts fact ≡ true

is_asked : (asked : Option Fact) (facts : Fact → Bool) → has_asked asked facts ≡ true → Asked asked facts
is_asked None facts e = absurd cc
is_asked (Some fact) facts e = record { fact = fact; asks = refl; has = e }

pub record There {A : Type 0} (xs : List A) (i : ℕ) : Type 0 where
  pub it : A
  pub is : slice_get xs i ≡ Some it

pub there_at : {A : Type 0} (xs : List A) (i : ℕ) → i < length xs → There xs i
there_at [] i h = absurd (omega (arith, h))
there_at (x ∷ xs) zero h = record { it = x; is = refl }
there_at (x ∷ xs) (suc i) h = let t = there_at xs i (omega (arith, h)) in record { it = t.it; is = t.is }

-- as many bits as nodes, each its node's
bits_length : (nodes : List Node) (sets : List Known) → length sets ≡ length nodes → length (bits_of nodes sets) ≡ length nodes
bits_length [] sets e = refl
bits_length (node ∷ nodes) [] e = absurd (omega (arith, e))
bits_length (node ∷ nodes) (facts ∷ sets) e = ap suc (bits_length nodes sets (omega (arith, e)))

bits_at : (nodes : List Node) (sets : List Known) (p : ℕ) (node : Node) → length sets ≡ length nodes → slice_get nodes p ≡ Some node → get_or (bits_of nodes sets) p false ≡ is_proven node (set_at sets p)
bits_at [] sets zero node e is = absurd cc
bits_at [] sets (suc p) node e is = absurd cc
bits_at (n ∷ nodes) [] p node e is = absurd (omega (arith, e))
bits_at (n ∷ nodes) (facts ∷ sets) zero node e is = cc
bits_at (n ∷ nodes) (facts ∷ sets) (suc p) node e is = bits_at nodes sets p node (omega (arith, e)) is

pub bits_step : (nodes : List Node) (sets : List Known) (i : ℕ) (node : Node) (facts : Known) (before all : List Bool) → i < length nodes → i < length sets → node ≡ get_or nodes i node → facts ≡ get_or sets i facts → before ++ bits_of (drop i nodes) (drop i sets) ≡ all →
    (before ++ is_proven node (holds facts) ∷ []) ++ bits_of (drop (i + 1) nodes) (drop (i + 1) sets) ≡ all
bits_step nodes sets i node facts before all l k is there e =
    append_assoc before (is_proven node (holds facts) ∷ []) (bits_of (drop (i + 1) nodes) (drop (i + 1) sets))
    ∙ sym (ap (λ ns. before ++ bits_of ns (drop i sets)) (front nodes i node l is) ∙ ap (λ ss. before ++ bits_of (node ∷ drop (i + 1) nodes) ss) (front sets i facts k there)) ∙ e

pub bits_end : (nodes : List Node) (sets : List Known) (i : ℕ) (before all : List Bool) → length nodes ≤ i → before ++ bits_of (drop i nodes) (drop i sets) ≡ all → before ≡ all
bits_end nodes sets i before all l e = sym (append-nil before) ∙ sym (ap (λ ns. before ++ bits_of ns (drop i sets)) (none_left nodes i l)) ∙ e

module _ (r : Rlang) (a : Annotation) (rows : List (List Bool)) (points : List (List Known)) (before : (g p : ℕ) (fact : Fact) → a.before g p fact ≡ set_at (get_or points g []) p fact) (count : length rows ≡ length r.functions)
    (sized : (g : ℕ) (f : Routine) → slice_get r.functions g ≡ Some f → length (get_or points g []) ≡ length (routine_nodes f))
    (each : (g : ℕ) (f : Routine) → slice_get r.functions g ≡ Some f → get_or rows g [] ≡ bits_of (routine_nodes f) (get_or points g [])) where
  proven_marked : (g p : ℕ) → Proven r a g p → marks_in rows g p ≡ true
  proven_marked g p q =
      ap (λ bits. get_or bits p false) (each g q.routine q.there) ∙ bits_at (routine_nodes q.routine) (get_or points g []) p q.node (sized g q.routine q.there) q.at_point ∙ ap (λ o. has_asked o (set_at (get_or points g []) p)) q.asks ∙ sym (before g p q.fact) ∙ q.has

  marked_proven : (g p : ℕ) → marks_in rows g p ≡ true → Proven r a g p
  marked_proven g p e =
      let f = there_at r.functions g (subst (λ n. g < n) count (marked_row rows g p e)) in
      let bits = each g f.it f.is in
      let within : p < length (routine_nodes f.it) = subst (λ n. p < n) (ap length bits ∙ bits_length (routine_nodes f.it) (get_or points g []) (sized g f.it f.is)) (marked_within (get_or rows g []) p e) in
      let node = there_at (routine_nodes f.it) p within in
      let q = is_asked (asked_by node.it) (set_at (get_or points g []) p) (sym (bits_at (routine_nodes f.it) (get_or points g []) p node.it (sized g f.it f.is) node.is) ∙ sym (ap (λ b. get_or b p false) bits) ∙ e) in
      record { routine = f.it; there = f.is; node = node.it; at_point = node.is; fact = q.fact; asks = q.asks; has = before g p q.fact ∙ q.has }

  pub marks_proven : (g p : ℕ) → marks_in rows g p ≡ true ↔ Proven r a g p
  marks_proven g p = (marked_proven g p, proven_marked g p)

-- ---- in code

-- an element that is read with itself in the place of what is missing
pub read_there : {X : Type 0} (xs : List X) (i : ℕ) (x d : X) → i < length xs → x ≡ get_or xs i x → get_or xs i d ≡ x
read_there xs i x d l e = get_or_from_slice_get xs i x d (slice_get-get_or xs i x l ∙ ap (λ y. Some y) (sym e))

pub mapped_there : {X Y : Type 0} (f : X → Y) (xs : List X) (i : ℕ) (x : X) (d : Y) → i < length xs → x ≡ get_or xs i x → get_or (map f xs) i d ≡ f x
mapped_there f xs i x d l e = get_or-map f xs i x d l ∙ ap f (sym e)

pub found_there : {X Y : Type 0} (f : X → Y) (xs : List X) (i : ℕ) (x : X) → i < length xs → x ≡ get_or xs i x → slice_get (map f xs) i ≡ Some (f x)
found_there f xs i x l e = slice_get-get_or (map f xs) i (f x) (subst (λ n. i < n) (sym (length-map xs f)) l) ∙ ap (λ y. Some y) (mapped_there f xs i x (f x) l e)

-- ---- all of them

pub marked_each : (parts : RegionParts) (family : Family) (n : ℕ) (rows : List (List Bool)) → n ≡ length parts.functions.items → AreMarked parts family n rows → (g : ℕ) (f : Routine) → slice_get (rlang_of parts).functions g ≡ Some f → get_or rows g [] ≡ bits_of (routine_nodes f) (get_or family.points g [])
marked_each parts family n rows e m g f is = m.each g (subst (λ k. g < k) (length-map parts.functions.items (routine_in (map struct_of parts.structs.items)) ∙ sym e) (slice_get_within (rlang_of parts).functions g f is)) f is

pub has_points : (parts : RegionParts) (facts : Facts) (n : ℕ) (rows : List (List Bool)) → n ≡ length parts.functions.items → (inferred : Inferred parts facts) → AreMarked parts inferred.family n rows → HasPoints (rlang_of parts) rows
has_points parts facts n rows e inferred m = record {
  functions = m.functions ∙ e ∙ sym (length-map parts.functions.items (routine_in (map struct_of parts.structs.items)));
  points = λ g f is. ap length (marked_each parts inferred.family n rows e m g f is) ∙ bits_length (routine_nodes f) (get_or inferred.family.points g []) (inferred.shaped.each g f is).points;
}

pub marks_removable : (parts : RegionParts) (facts : Facts) (n : ℕ) (rows : List (List Bool)) → n ≡ length parts.functions.items → (inferred : Inferred parts facts) → AreMarked parts inferred.family n rows → MarksRemovable (rlang_of parts) (marks_in rows)
marks_removable parts facts n rows e inferred m = λ g p.
    let a = annotation_in inferred.family in
    let proven = marks_proven (rlang_of parts) a rows inferred.family.points (λ h q fact. refl) (m.functions ∙ e ∙ sym (length-map parts.functions.items (routine_in (map struct_of parts.structs.items)))) (λ h f is. (inferred.shaped.each h f is).points) (marked_each parts inferred.family n rows e m) g p in
    let may_go = greatest_removes (rlang_of parts) (temporaries_of (rlang_of parts)) a inferred.greatest g p in
    (λ is. may_go.1 (proven.0 is), λ is. proven.1 (may_go.0 is))
