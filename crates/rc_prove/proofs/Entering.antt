-- A pass from the entry of a function on lowers sets.
use Rattle.std.proofs.Common.{◌≡◌, ℕ, suc, ◌+◌, ◌≤◌, Bool, ◌||◌, IsTrue, ◌↔◌, List, length, Option, Some, None, refl, sym, ap, subst, inl, inr, arith}
use Rattle.std.proofs.lemmas.Bool.{or_cases}
use Rattle.rc_facts.specs.declared.fact.Fact.{Fact}
use Rattle.rc_facts.specs.Derivable.{Derivable}
use Rattle.rc_facts.specs.Facts.{Known, holds, is_over}
use Rattle.rc_annotations.specs.Annotations.{some_pair}
use Rattle.rc_facts.specs.Flow.{set_at}
use Rattle.rc_edges.specs.Reading.{Loses}
use Rattle.rc_code.specs.Running.{Reading}
use Rattle.rc_sealed.specs.Carrying.{entry_pairs}
use Rattle.rc_carrying.specs.Left.{IsReady}
use Rattle.rc_prove_parts.specs.declared.spot.Spot.{Spot}
use Rattle.rc_prove_parts.specs.declared.spot.Place.{Place}
use Rattle.rc_prove.specs.Sets.{Sets}
use Rattle.rc_prove.specs.Passing.{Reached}
use Rattle.rc_prove.specs.Visiting.{SameShape, FrameGives, WentThrough}
use Rattle.rc_prove.specs.Lowering.{LooksAhead, Lowered}
use Rattle.rc_prove.proofs.Shapes.{shape_then, fewer_then, shrinks_then, frames_shrink}
use Rattle.rc_prove.proofs.Anew.{over_more, anew_ready, ready_shut}
use Rattle.rc_prove.proofs.Beginning.{pair_over, reached_first}
use Rattle.rc_target_sets.specs.Shut.{IsShut}

module _ (where_is : Place) (spots : List Spot) (first : Option ℕ) (old new : Sets) (met : List Known) (start work after : Known) (lost more : Bool) where
  abbrev met_sets : Sets
  met_sets = record { entries = old.entries; exits = old.exits; frames = met }

  pub lowered_by : where_is.copies + where_is.copies ≤ where_is.result
      → ((fact : Fact) → IsTrue (holds start fact) ↔ Derivable (suc (suc where_is.result)) (λ p. set_at old.entries where_is.function p || some_pair (entry_pairs where_is.copies where_is.copies) p) fact)
      → Loses lost old.frames met (FrameGives first start) → (first ≡ None → work ≡ start) → ((r : ℕ) → first ≡ Some r → (fact : Fact) → IsTrue (holds work fact) ↔ Derivable (suc (suc where_is.result)) (set_at met r) fact)
      → WentThrough where_is spots met_sets new work after more → Lowered where_is spots first old new (lost || more)
  lowered_by room begun l alone whole went = record {
    lessens = record {
      shape = shape_then old met_sets new shape went.shape;
      fewer = fewer_then old met_sets new (record { entries = λ h fact is. is; exits = λ h fact is. is; frames = λ r fact is. ((l.facts r fact).0 is).0 }) went.fewer;
      shrinks = shrinks_then lost more old met_sets new (frames_shrink old lost met l.fewer) went.shrinks;
      lowers = λ image looks. (reached image looks).here.lowers;
    };
    proved = λ image looks e proofs c at lt. (reached image looks).proved e proofs c at lt;
  }
    where
      shape : SameShape old met_sets
      shape = record { entries = refl; exits = refl; frames = l.long; entry = λ p. refl; exit = λ p. refl; frame = l.variables }

      reached : (image : Reading) → LooksAhead image where_is spots first old → Reached image where_is.function (length spots) old new (holds after) (lost || more)
      reached image looks = subst (λ m. Reached image where_is.function m old new (holds after) (lost || more)) (let e : 0 + length spots ≡ length spots = omega arith in e) (went.reached image 0 looks.are old lost (reached_first image where_is looks.all first old met (holds start) (holds work) lost looks.looks room begun l (λ e. ap holds (alone e)) whole))

-- the working set is ready for the first instruction
pub entered_ready : (where_is : Place) (first : Option ℕ) (old : Sets) (met : List Known) (start work : Known) → where_is.copies + where_is.copies ≤ where_is.result → ((fact : Fact) → IsTrue (set_at old.entries where_is.function fact) → IsTrue (is_over where_is.copies fact))
    → ((r : ℕ) (fact : Fact) → IsTrue (set_at old.frames r fact) → IsTrue (is_over (suc where_is.result) fact)) → ((fact : Fact) → IsTrue (holds start fact) ↔ Derivable (suc (suc where_is.result)) (λ p. set_at old.entries where_is.function p || some_pair (entry_pairs where_is.copies where_is.copies) p) fact)
    → (lost : Bool) → Loses lost old.frames met (FrameGives first start) → (first ≡ None → work ≡ start) → ((r : ℕ) → first ≡ Some r → (fact : Fact) → IsTrue (holds work fact) ↔ Derivable (suc (suc where_is.result)) (set_at met r) fact)
    → IsReady (suc (suc where_is.result)) (suc where_is.result) (holds work)
entered_ready where_is first old met start work room over frames begun lost l alone whole = by first refl
  where
    given_over : (p : Fact) → IsTrue (set_at old.entries where_is.function p || some_pair (entry_pairs where_is.copies where_is.copies) p) → IsTrue (is_over (suc where_is.result) p)
    given_over p e = elim (or_cases (set_at old.entries where_is.function p) _ e) [
      | inl a ↦ over_more where_is.copies (suc where_is.result) (omega (arith, room)) p (over p a)
      | inr b ↦ pair_over (suc where_is.result) where_is.copies where_is.copies (omega (arith, room)) (omega arith) p b
    ]

    by : (k : Option ℕ) → first ≡ k → IsReady (suc (suc where_is.result)) (suc where_is.result) (holds work)
    by None e = subst (λ (k : Known). IsReady (suc (suc where_is.result)) (suc where_is.result) (holds k)) (sym (alone e)) (anew_ready (suc (suc where_is.result)) (suc where_is.result) (λ p. set_at old.entries where_is.function p || some_pair (entry_pairs where_is.copies where_is.copies) p) (holds start) refl given_over begun)
    by (Some r) e = anew_ready (suc (suc where_is.result)) (suc where_is.result) (set_at met r) (holds work) refl (λ q is. frames r q ((l.facts r q).0 is).0) (whole r e)

-- the set with which it begins is shut
pub begun_shut : (where_is : Place) (old : Sets) (start : Known) → where_is.copies + where_is.copies ≤ where_is.result → ((fact : Fact) → IsTrue (set_at old.entries where_is.function fact) → IsTrue (is_over where_is.copies fact)) → start.variables ≡ suc (suc where_is.result)
    → ((fact : Fact) → IsTrue (holds start fact) ↔ Derivable (suc (suc where_is.result)) (λ p. set_at old.entries where_is.function p || some_pair (entry_pairs where_is.copies where_is.copies) p) fact) → IsShut start
begun_shut where_is old start room over e begun = ready_shut start (suc (suc where_is.result)) (suc where_is.result) e (anew_ready (suc (suc where_is.result)) (suc where_is.result) (λ p. set_at old.entries where_is.function p || some_pair (entry_pairs where_is.copies where_is.copies) p) (holds start) refl given_over begun)
  where
    given_over : (p : Fact) → IsTrue (set_at old.entries where_is.function p || some_pair (entry_pairs where_is.copies where_is.copies) p) → IsTrue (is_over (suc where_is.result) p)
    given_over p e = elim (or_cases (set_at old.entries where_is.function p) _ e) [
      | inl a ↦ over_more where_is.copies (suc where_is.result) (omega (arith, room)) p (over p a)
      | inr b ↦ pair_over (suc where_is.result) where_is.copies where_is.copies (omega (arith, room)) (omega arith) p b
    ]
