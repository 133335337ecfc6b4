-- A pass begins at the entry of a function.
use Rattle.std.proofs.Common.{◌≡◌, ◌∙◌, ℕ, zero, suc, ◌+◌, ◌<◌, ◌≤◌, Bool, true, false, ◌||◌, nat_lt, IsTrue, ◌↔◌, List, [], ◌∷◌, ◌++◌, length, get_or, Option, Some, None, refl, sym, ap, subst, inl, inr, arith}
use Rattle.std.proofs.lemmas.List.Folds.{list_any-append}
use Rattle.std.proofs.lemmas.Bool.{and_parts, and_from, or_cases, lt-ltb, ltb-true}
use Rattle.rc_facts.specs.declared.fact.Fact.{Fact}
use Rattle.rc_facts.specs.declared.fact.Fact.TheVariants.{In, Up, Trad, NonNull}
use Rattle.rc_facts.specs.Derivable.{Derivable, stated}
use Rattle.rc_facts.specs.Facts.{Known, is_over, same_fact}
use Rattle.rc_facts.proofs.Sets.{same_fact-true}
use Rattle.rc_annotations.specs.Annotations.{Facts, Annotation, some_pair}
use Rattle.rc_annotations.proofs.Derivations.{derivable_more, derivable_cut, either_more}
use Rattle.rc_facts.specs.Flow.{no_set, set_at}
use Rattle.rc_edges.specs.Reading.{Loses}
use Rattle.rc_edges.proofs.Renaming.{same_self}
use Rattle.rc_code.specs.declared.image.Function.{Function}
use Rattle.rc_code.specs.Running.{Reading, function_at}
use Rattle.rc_claims.specs.Counts.{copies}
use Rattle.rc_sealed.specs.ImageVariables.{scratch, variables, result_variable}
use Rattle.rc_sealed.specs.Carrying.{among, is_target, entry_pairs, either, Follows, Begins}
use Rattle.rc_carrying.specs.Left.{IsReady}
use Rattle.rc_carrying.proofs.Carried.{every_of}
use Rattle.rc_prove_parts.specs.declared.spot.Spot.{Spot}
use Rattle.rc_prove_parts.specs.declared.spot.Place.{Place}
use Rattle.rc_prove.specs.Sets.{Sets, rank, IsIn, Claims, ProveFunction, AreFrames, Lowers}
use Rattle.rc_prove.specs.Passing.{Passing, before_at, Reached}
use Rattle.rc_prove.specs.Lowering.{Looks}
use Rattle.rc_prove.proofs.Anew.{over_more, anew_ready, held, follows_listed, frame_ready}
use Rattle.rc_prove.proofs.Carrying.{each_is}
use Rattle.rc_prove.proofs.Lowering.{told_by, lowers_none, passing_then, frames_lower, fewer_frames}
use Rattle.rc_prove.proofs.Reaching.{same_rank}

-- ---- pairs

turned : (p q : Fact) → same_fact p q ≡ same_fact q p
turned p q = by (same_fact p q) (same_fact q p) refl refl
  where
    one : (p q : Fact) → same_fact p q ≡ true → same_fact q p ≡ true
    one p q e = subst (λ r. same_fact r p ≡ true) (same_fact-true p q e) (same_self p)

    by : (a b : Bool) → same_fact p q ≡ a → same_fact q p ≡ b → same_fact p q ≡ same_fact q p
    by true b e d = e ∙ sym (one p q e)
    by false true e d = one q p d ∙ sym d
    by false false e d = e ∙ sym d

four : (h s a b : Bool) → (((h || s) || a) || b) ≡ (h || (a || (b || s)))
four true s a b = refl
four false true true b = refl
four false true false true = refl
four false true false false = refl
four false false true b = refl
four false false false true = refl
four false false false false = refl

pub pairs_more : (copies k : ℕ) (before old one two : Fact → Bool) (fact : Fact) → (old fact ≡ (before fact || some_pair (entry_pairs copies k) fact)) → one fact ≡ (old fact || same_fact (In k (copies + k)) fact) → two fact ≡ (one fact || same_fact (In (copies + k) k) fact)
    → two fact ≡ (before fact || some_pair (entry_pairs copies (suc k)) fact)
pairs_more copies k before old one two fact a b c =
    c ∙ ap (λ x. x || same_fact (In (copies + k) k) fact) b ∙ ap (λ x. (x || same_fact (In k (copies + k)) fact) || same_fact (In (copies + k) k) fact) a
    ∙ ap (λ x. ((before fact || some_pair (entry_pairs copies k) fact) || x) || same_fact (In (copies + k) k) fact) (turned (In k (copies + k)) fact)
    ∙ ap (λ x. ((before fact || some_pair (entry_pairs copies k) fact) || same_fact fact (In k (copies + k))) || x) (turned (In (copies + k) k) fact)
    ∙ four (before fact) (some_pair (entry_pairs copies k) fact) (same_fact fact (In k (copies + k))) (same_fact fact (In (copies + k) k))

pub pair_over : (m copies k : ℕ) → copies + k ≤ m → k ≤ copies → (fact : Fact) → IsTrue (some_pair (entry_pairs copies k) fact) → IsTrue (is_over m fact)
pair_over m copies zero le l fact e = cc
pair_over m copies (suc k) le l fact e = elim (or_cases (same_fact fact (In k (copies + k))) _ e) [
  | inl a ↦ subst (λ p. IsTrue (is_over m p)) (sym (same_fact-true fact (In k (copies + k)) a)) (both k (copies + k) (omega (arith, le)) (omega (arith, le)))
  | inr other ↦ elim (or_cases (same_fact fact (In (copies + k) k)) _ other) [
    | inl b ↦ subst (λ p. IsTrue (is_over m p)) (sym (same_fact-true fact (In (copies + k) k) b)) (both (copies + k) k (omega (arith, le)) (omega (arith, le)))
    | inr rest ↦ pair_over m copies k (omega (arith, le)) (omega (arith, l)) fact rest
  ]
]
  where
    both : (x y : ℕ) → x < m → y < m → IsTrue (is_over m (In x y))
    both x y lx ly = and_from (nat_lt x m) (nat_lt y m) (lt-ltb x m lx) (lt-ltb y m ly)

-- ---- where a function begins

-- the facts of a list
abbrev pairs_listed : List (ℕ × ℕ) → List Fact
pairs_listed [] = []
pairs_listed (c ∷ cs) = In c.0 c.1 ∷ In c.1 c.0 ∷ pairs_listed cs

among_pairs : (cs : List (ℕ × ℕ)) (p : Fact) → among (pairs_listed cs) p ≡ some_pair cs p
among_pairs [] p = refl
among_pairs (c ∷ cs) p = ap (λ b. same_fact p (In c.0 c.1) || (same_fact p (In c.1 c.0) || b)) (among_pairs cs p)

module _ (image : Reading) (where_is : Place) (own : where_is.copies ≡ copies (function_at image where_is.function)) (answer : where_is.result ≡ result_variable image (function_at image where_is.function)) where
  abbrev g : ℕ
  g = where_is.function

  abbrev f : Function
  f = function_at image g

  abbrev n : ℕ
  n = variables image f

  abbrev s : ℕ
  s = scratch image f

  abbrev known : Facts → Facts
  known entry p = entry p || some_pair (entry_pairs (copies f) (copies f)) p

  module _ (old : Sets) (start : Facts) (room : where_is.copies + where_is.copies ≤ where_is.result) (over : (fact : Fact) → IsTrue (set_at old.entries g fact) → IsTrue (is_over (copies f) fact)) (frames : AreFrames image g old)
      (begun : (fact : Fact) → IsTrue (start fact) ↔ Derivable n (known (set_at old.entries g)) fact) where
    given_over : (p : Fact) → IsTrue (known (set_at old.entries g) p) → IsTrue (is_over s p)
    given_over p e = elim (or_cases (set_at old.entries g p) _ e) [
      | inl a ↦ over_more (copies f) s (let r = room in let a = own in let b = answer in omega (arith, r, a, b)) p (over p a)
      | inr b ↦ pair_over s (copies f) (copies f) (let r = room in let a = own in let b = answer in omega (arith, r, a, b)) (omega arith) p b
    ]

    ready : IsReady n s start
    ready = anew_ready n s (known (set_at old.entries g)) start refl given_over begun

    -- the facts that are given, as a list
    abbrev listed : List Fact
    listed = (get_or old.entries g no_set).facts ++ pairs_listed (entry_pairs (copies f) (copies f))

    all_listed : (p : Fact) → among listed p ≡ known (set_at old.entries g) p
    all_listed p =
        list_any-append (same_fact p) (get_or old.entries g no_set).facts (pairs_listed (entry_pairs (copies f) (copies f)))
        ∙ ap (λ b. b || among (pairs_listed (entry_pairs (copies f) (copies f))) p) (sym (held (get_or old.entries g no_set) p))
        ∙ ap (λ b. set_at old.entries g p || b) (among_pairs (entry_pairs (copies f) (copies f)) p)

    begun_passing : Passing image g (λ proofs fact. Begins image proofs g fact) old old start false
    begun_passing = record {
      ready = ready;
      frames = frames;
      above = λ proofs i fact c. ready.closed.closed fact (derivable_cut (λ q e. stated (above proofs i q (each_is (λ r. Begins image proofs g r) c.used c.each q e))) c.derived);
      below = λ e proofs c fact is. record {
        used = listed;
        each = every_of (λ r. Begins image proofs g r) listed (λ q e. begins proofs c q (sym (all_listed q) ∙ e));
        derived = derivable_more (λ q e. all_listed q ∙ e) ((begun fact).0 is);
      };
      lowers = lowers_none image g old;
      told = λ e. refl;
    }
      where
        above : (proofs : Annotation) → IsIn image proofs g old → (q : Fact) → Begins image proofs g q → IsTrue (start q)
        above proofs i q b = (begun q).1 (derivable_more (either_more (i.entry g) (λ r e. e)) b.derived)

        begins : (proofs : Annotation) → Claims image proofs g old → (q : Fact) → IsTrue (known (set_at old.entries g) q) → Begins image proofs g q
        begins proofs c q e = record { over = given_over q e; derived = stated (ap (λ b. b || some_pair (entry_pairs (copies f) (copies f)) q) (c.entry g q) ∙ e) }

    -- the function begins at no target
    begins_alone : is_target f 0 ≡ false → Passing image g (before_at image g 0) old old start false
    begins_alone e = record {
      ready = ready;
      frames = frames;
      above = λ proofs i fact c. begun_passing.above proofs i fact (subst (λ (b : Bool). Follows n (λ q. either b (IsTrue (proofs.before g 0 q)) (Begins image proofs g q)) fact) e c);
      below = λ d proofs c fact is. subst (λ (b : Bool). Follows n (λ q. either b (IsTrue (proofs.before g 0 q)) (Begins image proofs g q)) fact) (sym e) (begun_passing.below d proofs c fact is);
      lowers = lowers_none image g old;
      told = λ e. refl;
    }

    -- it begins at a target, whose frame loses what doesn't follow there
    module _ (r : ℕ) (is : is_target f 0 ≡ true) (same : rank f 0 ≡ r) (inside : 0 < length f.code) (lost : Bool) (met : List Known) (l : Loses lost old.frames met (λ k fact. Some r ≡ Some k → IsTrue (start fact))) where
      abbrev now : Sets
      now = record { entries = old.entries; exits = old.exits; frames = met }

      kept : (proofs : Annotation) → ProveFunction image proofs g → IsIn image proofs g old → (at : ℕ) (fact : Fact) → IsTrue (proofs.before g at fact) → Some r ≡ Some (rank f at) → IsTrue (start fact)
      kept proofs good i at fact has e =
          let t = (and_parts (is_target f at) (set_at old.frames (rank f at) fact) (i.before at fact has)).0 in
          let q : r ≡ rank f at = cc in
          let z : 0 ≡ at = same_rank f 0 at is t (same ∙ q) in
          (begun fact).1 (derivable_more (either_more (i.entry g) (λ p e. e)) ((good.proved 0 inside).first.target is fact (subst (λ k. IsTrue (proofs.before g k fact)) (sym z) has)))

      lowered : Lowers image g old now
      lowered = frames_lower image g lost old met (λ k fact. Some r ≡ Some k → IsTrue (start fact)) l kept

      told : lost ≡ false → now ≡ old
      told d = ap (λ (fs : List Known). record { entries = old.entries; exits = old.exits; frames = fs }) (told_by lost old.frames met l.fewer d)

      abbrev frame : Facts
      frame = set_at met (rank f 0)

      begins_target : (work : Facts) → ((fact : Fact) → IsTrue (work fact) ↔ Derivable n (set_at met r) fact) → Passing image g (before_at image g 0) old now work lost
      begins_target work anew = record {
        ready = frame_ready image g now work r now_frames anew;
        frames = now_frames;
        above = λ proofs i fact c. (whole fact).1 (derivable_cut (λ q e. stated (claimed proofs i q (each_is (before_at image g 0 proofs) c.used c.each q e))) c.derived);
        below = λ d proofs c fact has. follows_listed n (get_or met (rank f 0) no_set) (before_at image g 0 proofs) (λ q e. given proofs d c q e) fact ((whole fact).0 has);
        lowers = lowered;
        told = told;
      }
        where
          now_frames : AreFrames image g now
          now_frames = fewer_frames image g lost old met (λ k fact. Some r ≡ Some k → IsTrue (start fact)) l frames

          whole : (fact : Fact) → IsTrue (work fact) ↔ Derivable n frame fact
          whole fact = subst (λ k. IsTrue (work fact) ↔ Derivable n (set_at met k) fact) (sym same) (anew fact)

          claimed : (proofs : Annotation) → IsIn image proofs g now → (q : Fact) → before_at image g 0 proofs q → IsTrue (frame q)
          claimed proofs i q b = (and_parts (is_target f 0) (frame q) (i.before 0 q (subst (λ (b : Bool). either b (IsTrue (proofs.before g 0 q)) (Begins image proofs g q)) is b))).1

          given : (proofs : Annotation) → lost ≡ false → Claims image proofs g old → (q : Fact) → IsTrue (frame q) → before_at image g 0 proofs q
          given proofs d c q e = subst (λ (b : Bool). either b (IsTrue (proofs.before g 0 q)) (Begins image proofs g q)) (sym is)
              (c.before 0 q ∙ and_from (is_target f 0) (set_at old.frames (rank f 0) q) is (subst (λ (z : Sets). IsTrue (set_at z.frames (rank f 0) q)) (told d) e))

      -- what the frame claims follows from the entry, where nothing was lost
      target_given : lost ≡ false → (proofs : Annotation) → Claims image proofs g old → (fact : Fact) → IsTrue (proofs.before g 0 fact) → Derivable n (known (proofs.entry g)) fact
      target_given d proofs c fact has =
          let old_has = (and_parts (is_target f 0) (set_at old.frames (rank f 0) fact) (sym (c.before 0 fact) ∙ has)).1 in
          let new_has = subst (λ (z : Sets). IsTrue (set_at z.frames (rank f 0) fact)) (sym (told d)) old_has in
          derivable_more (λ p e. ap (λ b. b || some_pair (entry_pairs (copies f) (copies f)) p) (c.entry g p) ∙ e) ((begun fact).0 (((l.facts (rank f 0) fact).0 new_has).1 (ap Some (sym same))))

    -- at the entry of `main` nothing is claimed
    main_given : (copies f ≡ 0) → (proofs : Annotation) → Claims image proofs g old → (fact : Fact) → IsTrue (proofs.entry g fact) → Derivable (copies f) (λ p. false) fact
    main_given z proofs c fact has = absurd (none fact (subst (λ m. IsTrue (is_over m fact)) z (over fact (sym (c.entry g fact) ∙ has))))
      where
        none : (fact : Fact) → IsTrue (is_over 0 fact) → ⊥
        none (In x y) e = let l = ltb-true x 0 (and_parts (nat_lt x 0) (nat_lt y 0) e).0 in omega (arith, l)
        none (Up x y) e = let l = ltb-true x 0 (and_parts (nat_lt x 0) (nat_lt y 0) e).0 in omega (arith, l)
        none (Trad x) e = let l = ltb-true x 0 e in omega (arith, l)
        none (NonNull x) e = let l = ltb-true x 0 e in omega (arith, l)

-- the pass stands at the first instruction
module _ (image : Reading) (where_is : Place) (spots : List Spot) (first : Option ℕ) (old : Sets) (met : List Known) (start work : Facts) (lost : Bool) where
  abbrev here : Function
  here = function_at image where_is.function

  abbrev met_sets : Sets
  met_sets = record { entries = old.entries; exits = old.exits; frames = met }

  module _ (looks : Looks image where_is spots first old) (room : where_is.copies + where_is.copies ≤ where_is.result)
      (begun : (fact : Fact) → IsTrue (start fact) ↔ Derivable (suc (suc where_is.result)) (λ p. set_at old.entries where_is.function p || some_pair (entry_pairs where_is.copies where_is.copies) p) fact)
      (l : Loses lost old.frames met (λ k fact. first ≡ Some k → IsTrue (start fact))) (alone : first ≡ None → work ≡ start)
      (whole : (r : ℕ) → first ≡ Some r → (fact : Fact) → IsTrue (work fact) ↔ Derivable (suc (suc where_is.result)) (set_at met r) fact) where
    begun_here : (fact : Fact) → IsTrue (start fact) ↔ Derivable (variables image here) (λ p. set_at old.entries where_is.function p || some_pair (entry_pairs (copies here) (copies here)) p) fact
    begun_here fact = subst (λ k. IsTrue (start fact) ↔ Derivable (suc (suc k)) (λ p. set_at old.entries where_is.function p || some_pair (entry_pairs (copies here) (copies here)) p) fact) looks.are.result
        (subst (λ c. IsTrue (start fact) ↔ Derivable (suc (suc where_is.result)) (λ p. set_at old.entries where_is.function p || some_pair (entry_pairs c c) p) fact) looks.are.copies (begun fact))

    clash : {P : Type 0} (b : Bool) → b ≡ true → b ≡ false → P
    clash true e d = cc
    clash false e d = cc

    none_some : {P : Type 0} (k : ℕ) → first ≡ None → first ≡ Some k → P
    none_some k e d = let q : Some k ≡ None = sym d ∙ e in absurd (no q)
      where
        no : Some k ≡ None → ⊥
        no q = cc

    main : where_is.function ≡ image.parts.main → (proofs : Annotation) → Claims image proofs where_is.function old → (fact : Fact) → IsTrue (proofs.entry where_is.function fact) → Derivable (copies here) (λ p. false) fact
    main e proofs c fact has = main_given image where_is looks.are.copies looks.are.result old start room looks.entry looks.frames begun_here (looks.main e) proofs c fact has

    first_none : first ≡ None → Reached image where_is.function 0 old met_sets work lost
    first_none e = record {
      here = subst (λ (w : Facts). Passing image where_is.function (before_at image where_is.function 0) old met_sets w lost) (sym (alone e))
          (passing_then image where_is.function (before_at image where_is.function 0) false lost old old met_sets start (begins_alone image where_is looks.are.copies looks.are.result old start room looks.entry looks.frames begun_here (looks.alone e))
          (frames_lower image where_is.function lost old met (λ k fact. first ≡ Some k → IsTrue (start fact)) l (λ proofs good i at fact has d. none_some (rank here at) e d)) (λ d. ap (λ (fs : List Known). record { entries = old.entries; exits = old.exits; frames = fs }) (told_by lost old.frames met l.fewer d)) (fewer_frames image where_is.function lost old met (λ k fact. first ≡ Some k → IsTrue (start fact)) l looks.frames));
      proved = λ d proofs c k lt. absurd (omega (arith, lt));
      entry = λ d proofs c. record { target = λ is fact has. clash (is_target here 0) is (looks.alone e); main = λ m fact has. main m proofs c fact has };
    }

    module _ (r : ℕ) (e : first ≡ Some r) where
      loses_here : Loses lost old.frames met (λ k fact. Some r ≡ Some k → IsTrue (start fact))
      loses_here = subst (λ (x : Option ℕ). Loses lost old.frames met (λ k fact. x ≡ Some k → IsTrue (start fact))) e l

      first_some : Reached image where_is.function 0 old met_sets work lost
      first_some = record {
        here = begins_target image where_is looks.are.copies looks.are.result old start room looks.entry looks.frames begun_here r (looks.begins r e).0 (looks.begins r e).1 looks.inside lost met loses_here work
            (λ fact. subst (λ k. IsTrue (work fact) ↔ Derivable (suc (suc k)) (set_at met r) fact) looks.are.result (whole r e fact));
        proved = λ d proofs c k lt. absurd (omega (arith, lt));
        entry = λ d proofs c. record {
          target = λ is fact has. target_given image where_is looks.are.copies looks.are.result old start room looks.entry looks.frames begun_here r (looks.begins r e).0 (looks.begins r e).1 looks.inside lost met loses_here d proofs c fact has;
          main = λ m fact has. main m proofs c fact has;
        };
      }

    pub reached_first : Reached image where_is.function 0 old met_sets work lost
    reached_first = by first refl
      where
        by : (k : Option ℕ) → first ≡ k → Reached image where_is.function 0 old met_sets work lost
        by None e = first_none e
        by (Some r) e = first_some r e
