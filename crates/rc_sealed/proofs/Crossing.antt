-- An instruction that stays in its function: what holds before it, and what then holds where it leads.
use Rattle.std.proofs.Common.{◌≡◌, ℕ, ◌+◌, ◌<◌, ◌≤◌, Bool, true, false, not, ◌&&◌, nat_eq, nat_lt, IsTrue, List, [], ◌∷◌, ◌++◌, length, drop, get_or, reverse, Option, Some, None, inl, inr, ◌⊎◌, refl, sym, ap, ◌∙◌, subst, arith, rules}
use Rattle.std.specs.List.{AllByRecursion as Every}
use Rattle.std.proofs.lemmas.Bool.{ltb-true, eqb-true}
use Rattle.std.proofs.lemmas.List.{reverse-append, length-reverse}
use Rattle.std.proofs.Math.ListN.{get_or-append}
use Rattle.rc_core.specs.Heap.{Value, Null, live}
use Rattle.rc_core.specs.Evaluation.{local_at}
use Rattle.rc_core.specs.Source.{World}
use Rattle.rc_safety.proofs.Heaps.{NoneDies, fresh_stays}
use Rattle.rc_rlang.specs.RegionFlow.{Effect, assigned}
use Rattle.rc_rlang.specs.RegionRuns.{changed_at}
use Rattle.rc_annotations.specs.Annotations.{Annotation, exit_facts}
use Rattle.rc_annotations.specs.Worlds.{Grounded, Stays}
use Rattle.rc_annotations.specs.Effects.{Happens}
use Rattle.rc_annotations.proofs.Effects.{changed_there, changed_else}
use Rattle.rc_code.specs.declared.image.Function.{Function}
use Rattle.rc_code.specs.declared.image.Parts.{Parts}
use Rattle.rc_code.specs.Running.{Reading, reading_of, function_at, value_at}
use Rattle.rc_code.specs.Soundness.{gives, instruction_at}
use Rattle.rc_claims.specs.Counts.{copies, place}
use Rattle.rc_sealed.specs.ImageVariables.{scratch, values_of}
use Rattle.rc_sealed.specs.Carrying.{effect_at, height, lowest, reach, is_assigned, is_gone, Carried, Before}
use Rattle.rc_sealed.specs.Pinned.{Used}
use Rattle.rc_sealed.specs.AllProved.{AllProved}
use Rattle.rc_sealed.proofs.Safe.{FreshIn}
use Rattle.rc_sealed.proofs.Values.{stack_same, beyond, below_same}
use Rattle.rc_sealed.proofs.Carry.{Hold, greater_left, greater_right, carried_hold, before_over}

-- before the instruction of a function, which has these hidden copies
pub record Here (parts : Parts) (proofs : Annotation) (g at : ℕ) (copied st env : List Value) (w : World) : Type 0 where
  pub facts : Hold (Before (reading_of parts) proofs g at) (values_of (function_at (reading_of parts) g) copied env st) w.heap
  pub stack : Every (FreshIn w) st
  pub used : (x : ℕ) → Used (function_at (reading_of parts) g) x at → FreshIn w (local_at env x)

pub every_fresh : (w w1 : World) → NoneDies (live w.heap) (live w1.heap) → (vs : List Value) → Every (FreshIn w) vs → Every (FreshIn w1) vs
every_fresh w w1 none [] all = tt
every_fresh w w1 none (v ∷ vs) all = (fresh_stays (live w.heap) (live w1.heap) none v all.0, every_fresh w w1 none vs all.1)

front_same : (over d : List Value) (j : ℕ) → j < length d → value_at (reverse (over ++ d)) j ≡ value_at (reverse d) j
front_same over d j lt = ap (λ vs. get_or vs j Null) (reverse-append over d) ∙ get_or-append (reverse d) (reverse over) Null j (let l = length-reverse d in omega (arith, l, lt))

length_over : (over d : List Value) → length (over ++ d) ≡ length over + length d
length_over [] d = omega arith
length_over (x ∷ over) d = let k = length_over over d in omega (arith, k)

module _ (parts : Parts) (proofs : Annotation) (all : AllProved parts proofs) (g : ℕ) (there : g < length parts.functions) (at : ℕ) (inside : at < length (function_at (reading_of parts) g).code) (copied : List Value) (whole : length copied ≡ copies (function_at (reading_of parts) g)) where
  abbrev pub code : Reading
  code = reading_of parts

  abbrev pub f : Function
  f = function_at code g

  kept_cases : (u : ℕ) → IsTrue (not (is_gone code f at u)) → (u < place f (lowest code f at)) ⊎ ((place f (reach code f at) ≤ u) ⊎ (is_assigned (assigned (effect_at code f at)) u ≡ true))
  kept_cases u e = by (nat_lt u (place f (lowest code f at))) (nat_lt u (place f (reach code f at))) (is_assigned (assigned (effect_at code f at)) u) refl refl refl e
    where
      not_less : (a b : ℕ) → nat_lt a b ≡ false → b ≤ a
      not_less a b e = grind (arith, rules, e)

      by : (a b c : Bool) → nat_lt u (place f (lowest code f at)) ≡ a → nat_lt u (place f (reach code f at)) ≡ b → is_assigned (assigned (effect_at code f at)) u ≡ c → IsTrue (not (not a && (b && not c)))
          → (u < place f (lowest code f at)) ⊎ ((place f (reach code f at) ≤ u) ⊎ (is_assigned (assigned (effect_at code f at)) u ≡ true))
      by true b c e1 e2 e3 e = inl (ltb-true u _ e1)
      by false false c e1 e2 e3 e = inr (inl (not_less u _ e2))
      by false true true e1 e2 e3 e = inr (inr e3)
      by false true false e1 e2 e3 e = cc

  module _ (over : List Value) (n : ℕ) (st env : List Value) (low : lowest code f at ≡ length (drop n st)) (high : height code f at ≡ length st) (few : length over ≤ length (gives code f (instruction_at f at))) where
    -- a variable that isn't assigned, and of which something may stay known
    pub places_same : (u : ℕ) → IsTrue (not (is_gone code f at u)) → is_assigned (assigned (effect_at code f at)) u ≡ false → values_of f copied env (over ++ drop n st) u ≡ values_of f copied env st u
    places_same u e other = stack_same f copied whole env (over ++ drop n st) st u (λ j is. by j is (kept_cases u e))
      where
        true_or : (b : Bool) → b ≡ true → b ≡ false → ⊥
        true_or true e e1 = cc
        true_or false e e1 = cc

        by : (j : ℕ) → u ≡ place f j → (u < place f (lowest code f at)) ⊎ ((place f (reach code f at) ≤ u) ⊎ (is_assigned (assigned (effect_at code f at)) u ≡ true)) → value_at (reverse (over ++ drop n st)) j ≡ value_at (reverse st) j
        by j is (inl lt) = let less : j < length (drop n st) = omega (arith, is, lt, low) in front_same over (drop n st) j less ∙ below_same n st j less
        by j is (inr (inl ge)) =
            let l = greater_left (height code f at) (lowest code f at + length (gives code f (instruction_at f at))) in
            let r = greater_right (height code f at) (lowest code f at + length (gives code f (instruction_at f at))) in
            let k = length_over over (drop n st) in
            beyond (over ++ drop n st) j (omega (arith, is, ge, r, low, few, k)) ∙ sym (beyond st j (omega (arith, is, ge, l, high)))
        by j is (inr (inr e)) = absurd (true_or _ e other)

    module _ (w w1 : World) (here : Here parts proofs g at copied st env w) (ground : Grounded (values_of f copied env st) w.heap) (stays : Stays w w1) where
      abbrev Occurs : Option ℕ → Effect → (ℕ → Value) → Type 0
      Occurs x effect mid = Happens (scratch code f) (scratch code f) (exit_facts proofs) x effect (values_of f copied env st) mid w1.heap

      carry : (effect : Effect) → effect_at code f at ≡ effect → (mid after : ℕ → Value) → Occurs (assigned effect) effect mid → ((u : ℕ) → u < scratch code f → IsTrue (not (is_gone code f at u)) → after u ≡ mid u) → Hold (Carried code proofs g at (Before code proofs g at)) after w1.heap
      carry effect is mid after happens same =
          carried_hold code proofs g at (Before code proofs g at) (values_of f copied env st) mid after w.heap w1.heap (before_over code proofs g (all.over.frames g) at) here.facts ground stays.sane.rooted stays.grown
          (subst (λ e. Occurs (assigned e) e mid) (sym is) happens) same

      -- nothing is assigned
      pub carries : (effect : Effect) → effect_at code f at ≡ effect → assigned effect ≡ None → Occurs None effect (values_of f copied env st) → Hold (Carried code proofs g at (Before code proofs g at)) (values_of f copied env (over ++ drop n st)) w1.heap
      carries effect is none happens =
          carry effect is (values_of f copied env st) (values_of f copied env (over ++ drop n st)) (subst (λ x. Occurs x effect (values_of f copied env st)) (sym none) happens)
          (λ u lt e. places_same u e (ap (λ x. is_assigned x u) (ap assigned is ∙ none)))

      -- a variable is assigned that stands for this value behind the instruction
      pub carries_to : (effect : Effect) → effect_at code f at ≡ effect → (x : ℕ) (v : Value) (env1 : List Value) → assigned effect ≡ Some x → Occurs (Some x) effect (changed_at (values_of f copied env st) x v)
          → ((u : ℕ) → nat_eq u x ≡ true → values_of f copied env1 (over ++ drop n st) u ≡ v) → ((u : ℕ) → nat_eq u x ≡ false → values_of f copied env1 (over ++ drop n st) u ≡ values_of f copied env (over ++ drop n st) u)
          → Hold (Carried code proofs g at (Before code proofs g at)) (values_of f copied env1 (over ++ drop n st)) w1.heap
      carries_to effect is x v env1 some happens at_x at_others =
          carry effect is (changed_at (values_of f copied env st) x v) (values_of f copied env1 (over ++ drop n st)) (subst (λ y. Occurs y effect (changed_at (values_of f copied env st) x v)) (sym some) happens) (λ u lt e. by u e (nat_eq u x) refl)
        where
          by : (u : ℕ) → IsTrue (not (is_gone code f at u)) → (b : Bool) → nat_eq u x ≡ b → values_of f copied env1 (over ++ drop n st) u ≡ changed_at (values_of f copied env st) x v u
          by u e true is_x = at_x u is_x ∙ sym (changed_there (values_of f copied env st) x v u (eqb-true u x is_x))
          by u e false other = at_others u other ∙ places_same u e (ap (λ y. is_assigned y u) (ap assigned is ∙ some) ∙ other) ∙ sym (changed_else (values_of f copied env st) x v u other)
