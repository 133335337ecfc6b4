-- The facts where a function begins, and whether the entry is proved.
use Rattle.std.proofs.Common.{◌≡◌, ◌∙◌, ◌↔◌, ◌||◌, Vec, Global, ℕ, zero, suc, ◌+◌, ◌≤◌, Bool, true, false, IsTrue, List, [], ◌∷◌, refl, sym, ap, subst, inl, inr, arith}
use Rattle.std.specs.Prelude.{nat_lt, Option, MatchBool, MatchOption}
use Rattle.std.specs.List.{All, AllByRecursion as Every}
use Rattle.std.proofs.lemmas.Bool.{and_from, and_parts, or_cases, or_left, or_right, lt-ltb, ltb-true}
use Rattle.std.proofs.Math.ListN.{length-map}
use Rattle.rc_facts.specs.declared.fact.Fact.{Fact}
use Rattle.rc_facts.specs.declared.fact.Fact.TheVariants.{In, Up, Trad, NonNull}
use Rattle.rc_facts.specs.Derivable.{Derivable, stated}
use Rattle.rc_facts.specs.Facts.{Known, holds, is_over, same_fact}
use Rattle.rc_facts.proofs.Sets.{same_fact-true}
use Rattle.rc_facts.specs.Flow.{Facts}
use Rattle.rc_annotations.specs.Annotations.{Annotation, some_pair}
use Rattle.rc_annotations.proofs.Derivations.{derivable_cut, derivable_more}
use Rattle.rc_edges.proofs.Downward.{over_more}
use Rattle.rc_edges.proofs.Renaming.{same_self}
use Rattle.rc_code.specs.declared.image.Function.{Function}
use Rattle.rc_code.specs.Running.{Reading, function_at}
use Rattle.rc_code.specs.Soundness.{is_regional}
use Rattle.rc_claims.specs.Counts.{regionals, copies, place, trues}
use Rattle.rc_sealed.specs.ImageVariables.{scratch}
use Rattle.rc_sealed.specs.AllProved.{AreOver}
use Rattle.rc_sealed.specs.Carrying.{among, either, entry_pairs, is_target, Begins, Before}
use Rattle.rc_sealed.specs.Proved.{EntryIsProved}
use Rattle.rc_sealed.proofs.Carry.{trues_bound}
use Rattle.rc_sealed.proofs.Claimed.{are_over}
use Rattle.rc_sealed.proofs.Greater.{follows_more}
use Rattle.rc_crossing.specs.Fitting.{lacks}
use Rattle.rc_carrying.specs.Closing.{Has}
use Rattle.rc_carrying.specs.Passing.{listed}
use Rattle.rc_carrying.proofs.Crossed.{there}
use Rattle.rc_carrying.proofs.Visits.{anew_has, anew_ready, not_lacking}
use Rattle.rc_image_steps.specs.Sites.{function_in, image_of}
use Rattle.rc_verify.specs.declared.passing.Pass.{Pass}
use Rattle.rc_verify.specs.Passes.{claimed, count, Entered, IsAt, IsPass, Taken}

-- ---- lists of facts

each_is : (P : Fact → Type 0) (facts : List Fact) → Every P facts → (p : Fact) → IsTrue (among facts p) → P p
each_is P [] all p e = cc
each_is P (q ∷ facts) all p e = elim (or_cases (same_fact p q) (among facts p) e) [
  | inl one ↦ subst P (sym (same_fact-true p q one)) all.0
  | inr other ↦ each_is P facts all.1 p other
]

-- a closed list of facts, from which what is known follows, has what follows from it
begun_has : (n : ℕ) (facts : List Fact) (set : Facts) (known : Fact → Type 0) → ((p : Fact) → IsTrue (listed facts p) → known p) → ((p : Fact) → known p → Derivable n (listed facts) p) → ((p : Fact) → IsTrue (set p) ↔ Derivable n (listed facts) p) → Has n set known
begun_has n facts set known to from is p = (
  λ e. follows_more n (λ q. IsTrue (listed facts q)) known to p ((anew_has n facts set (λ q. IsTrue (listed facts q)) (λ q l. l) (λ q l. l) is p).0 e),
  λ c. (is p).1 (derivable_cut (λ q m. from q (each_is known c.used c.each q m)) c.derived),
)

pub all_listed : (P : Fact → Type 0) (facts : List Fact) → ((p : Fact) → IsTrue (listed facts p) → P p) → All P facts
all_listed P [] h k d lt = absurd (omega (arith, lt))
all_listed P (q ∷ facts) h zero d lt = h q (or_left (same_fact q q) (listed facts q) (same_self q))
all_listed P (q ∷ facts) h (suc k) d lt = all_listed P facts (λ p e. h p (or_right (same_fact q p) (listed facts p) e)) k d (omega (arith, lt))

-- ---- pairs of hidden copies and locals

pairs_over : (c m : ℕ) → c + c ≤ m → (k : ℕ) → k ≤ c → (p : Fact) → IsTrue (some_pair (entry_pairs c k) p) → IsTrue (is_over m p)
pairs_over c m le zero lt p e = cc
pairs_over c m le (suc k) lt p e = elim (or_cases (same_fact p (In k (c + k))) _ e) [
  | inl one ↦ subst (λ q. IsTrue (is_over m q)) (sym (same_fact-true p (In k (c + k)) one)) (and_from (nat_lt k m) (nat_lt (c + k) m) (lt-ltb k m (omega (arith, le, lt))) (lt-ltb (c + k) m (omega (arith, le, lt))))
  | inr later ↦ elim (or_cases (same_fact p (In (c + k) k)) _ later) [
    | inl other ↦ subst (λ q. IsTrue (is_over m q)) (sym (same_fact-true p (In (c + k) k) other)) (and_from (nat_lt (c + k) m) (nat_lt k m) (lt-ltb (c + k) m (omega (arith, le, lt))) (lt-ltb k m (omega (arith, le, lt))))
    | inr rest ↦ pairs_over c m le k (omega (arith, lt)) p rest
  ]
]

copies_twice : (image : Reading) (f : Function) → copies f + copies f ≤ scratch image f
copies_twice image f = let b = trues_bound (regionals f) f.parameters in let l = ap (trues (regionals f)) (length-map f.locals is_regional) in omega (arith, b, l)

none_below : (x : ℕ) → IsTrue (nat_lt x 0) → ⊥
none_below x e = let l = ltb-true x 0 e in omega (arith, l)

nothing_below : (p : Fact) → IsTrue (is_over 0 p) → ⊥
nothing_below (In x y) e = none_below x (and_parts (nat_lt x 0) (nat_lt y 0) e).0
nothing_below (Up x y) e = none_below x (and_parts (nat_lt x 0) (nat_lt y 0) e).0
nothing_below (Trad x) e = none_below x e
nothing_below (NonNull x) e = none_below x e

clash : {P : Type 0} (b : Bool) → b ≡ true → b ≡ false → P
clash true e d = cc
clash false e d = cc

-- ---- where a function begins

module _ (pass : Pass) (is : IsPass pass) where
  abbrev image : Reading
  image = image_of pass.site

  abbrev f : Function
  f = function_in pass.site

  abbrev g : ℕ
  g = pass.site.number

  abbrev proofs : Annotation
  proofs = claimed pass

  abbrev s : ℕ
  s = scratch image f

  over : AreOver pass.site.parts.now proofs
  over = are_over pass.site.parts.now pass.proofs.now

  pub frames_over : (at : ℕ) (fact : Fact) → IsTrue (proofs.before g at fact) → IsTrue (is_over (place f 0) fact)
  frames_over at fact e = over.frames g at fact e

  frames_below : (at : ℕ) (fact : Fact) → IsTrue (proofs.before g at fact) → IsTrue (is_over s fact)
  frames_below at fact e = over_more (place f 0) s (omega arith) fact (frames_over at fact e)

  -- main has no hidden copies, and nothing is claimed of its entry
  main_claims_nothing : g ≡ image.parts.main → (fact : Fact) → IsTrue (proofs.entry g fact) → Derivable (copies f) (λ p. false) fact
  main_claims_nothing e fact c = absurd (nothing_below fact (subst (λ k. IsTrue (is_over k fact)) (none (regionals f) f.parameters no_parameters) (over.entries g fact c)))
    where
      none : (bs : List Bool) (k : ℕ) → k ≡ 0 → trues bs k ≡ 0
      none [] k z = refl
      none (b ∷ bs) zero z = refl
      none (b ∷ bs) (suc k) z = cc

      no_parameters : f.parameters ≡ 0
      no_parameters = ap (λ (h : ℕ). (function_at image h).parameters) e ∙ is.site.sound.main_takes

  -- the first frame, if there is one
  abbrev pub FirstFrame : Option (Vec Fact Global) → Type 0
  FirstFrame frame = MatchOption frame (is_target f 0 ≡ false) (λ facts. (is_target f 0 ≡ true) × ((fact : Fact) → listed facts.items fact ≡ proofs.before g 0 fact))

  module _ (facts : List Fact) (same : (p : Fact) → listed facts p ≡ (proofs.entry g p || some_pair (entry_pairs (copies f) (copies f)) p)) where
    known_over : (p : Fact) → IsTrue (listed facts p) → IsTrue (is_over s p)
    known_over p l = elim (or_cases (proofs.entry g p) _ (sym (same p) ∙ l)) [
      | inl entry ↦ over_more (copies f) s (let t = copies_twice image f in omega (arith, t)) p (over.entries g p entry)
      | inr pair ↦ pairs_over (copies f) s (copies_twice image f) (copies f) (omega arith) p pair
    ]

    pub begins_over : All (λ p. IsTrue (is_over s p)) facts
    begins_over = all_listed (λ p. IsTrue (is_over s p)) facts known_over

    module _ (set : Known) (closed : (p : Fact) → IsTrue (holds set p) ↔ Derivable (count pass) (listed facts) p) where
      -- without a frame there
      pub begun : set.variables ≡ count pass → is_target f 0 ≡ false → IsAt pass 0 set
      begun vars none = record {
        same = vars;
        ready = anew_ready (count pass) s facts (holds set) refl begins_over closed;
        reached = record {
          passed = λ k lt. absurd (omega (arith, lt));
          has = begun_has (count pass) facts (holds set) (Before image proofs g 0)
              (λ p l. subst (λ b. either b (IsTrue (proofs.before g 0 p)) (Begins image proofs g p)) (sym none) (record { over = known_over p l; derived = stated (sym (same p) ∙ l) }))
              (λ p b. derivable_more (λ q e. same q ∙ e) (subst (λ b. either b (IsTrue (proofs.before g 0 p)) (Begins image proofs g p)) none b).derived)
              closed;
        };
      }

      pub begun_proved : is_target f 0 ≡ false → EntryIsProved image proofs g 0
      begun_proved none = record { target = λ t fact e. clash (is_target f 0) t none; main = main_claims_nothing }

      pub unframed : set.variables ≡ count pass → is_target f 0 ≡ false → Entered pass set
      unframed vars none = record { proved = begun_proved none; here = begun vars none }

      -- with one
      module _ (frame : List Fact) (target : is_target f 0 ≡ true) (given : (p : Fact) → listed frame p ≡ proofs.before g 0 p) where
        pub frame_proved : lacks (holds set) frame ≡ false → EntryIsProved image proofs g 0
        frame_proved has = record {
          target = λ t fact e. derivable_more (λ q l. sym (same q) ∙ l) ((closed fact).0 (there (holds set) frame has fact (given fact ∙ e)));
          main = main_claims_nothing;
        }

        pub frame_fails : lacks (holds set) frame ≡ true → EntryIsProved image proofs g 0 → ⊥
        frame_fails lacking p = not_lacking (holds set) frame (λ fact l. (closed fact).1 (derivable_more (λ q e. same q ∙ e) (p.target target fact (sym (given fact) ∙ l)))) lacking

        pub first_over : All (λ p. IsTrue (is_over s p)) frame
        first_over = all_listed (λ p. IsTrue (is_over s p)) frame (λ p l. frames_below 0 p (sym (given p) ∙ l))

        pub framed : (after : Known) → after.variables ≡ count pass → ((p : Fact) → IsTrue (holds after p) ↔ Derivable (count pass) (listed frame) p) → IsAt pass 0 after
        framed after vars closes = record {
          same = vars;
          ready = anew_ready (count pass) s frame (holds after) refl first_over closes;
          reached = record {
            passed = λ k lt. absurd (omega (arith, lt));
            has = anew_has (count pass) frame (holds after) (Before image proofs g 0)
                (λ p l. subst (λ b. either b (IsTrue (proofs.before g 0 p)) (Begins image proofs g p)) (sym target) (sym (given p) ∙ l))
                (λ p b. given p ∙ subst (λ b. either b (IsTrue (proofs.before g 0 p)) (Begins image proofs g p)) target b)
                closes;
          };
        }

        pub taken : (after : Known) → after.variables ≡ count pass → Taken (holds set) frame after → Entered pass after
        taken after vars t = record { proved = frame_proved t.has; here = framed after vars (λ p. subst (λ m. IsTrue (holds after p) ↔ Derivable m (listed frame) p) vars (t.closed p)) }

        pub chosen : (b : Bool) (after : Known) → after.variables ≡ count pass → MatchBool b (Taken (holds set) frame after) (lacks (holds set) frame ≡ true) → MatchBool b (Entered pass after) (EntryIsProved image proofs g 0 → ⊥)
        chosen true after vars t = taken after vars t
        chosen false after vars t = frame_fails t
