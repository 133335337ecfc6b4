-- Where the run goes from an instruction.
use Rattle.std.proofs.Common.{◌≡◌, ◌∙◌, ◌⊎◌, inl, inr, ℕ, suc, Bool, true, false, List, get_or, Option, Some, None, refl, sym, ap, subst}
use Rattle.rc_code.specs.declared.instruction.Instruction.{Instruction}
use Rattle.rc_code.specs.declared.image.Function.{Function}
use Rattle.rc_code.specs.Running.{Reading, function_at}
use Rattle.rc_code.specs.Soundness.{instruction_at}
use Rattle.rc_claims.specs.Counts.{trues}
use Rattle.rc_sealed.specs.Carrying.{is_target}
use Rattle.rc_image_steps.specs.Ways.{ways_of}
use Rattle.rc_image_steps.proofs.Leading.{way_leads, Leads}
use Rattle.rc_prove.specs.Sets.{rank}
use Rattle.rc_prove.specs.Spots.{LeadsFrom}
use Rattle.rc_prove_ways.specs.Ranks.{AreTargets}
use Rattle.rc_prove_ways.specs.Leading.{IsJumped, IsSetOf}
use Rattle.rc_prove_ways.proofs.Counting.{ranked}

found : (targets : List Bool) (so : Bool) (to : ℕ) (set : Option ℕ) → IsSetOf targets so to set → (r : ℕ) → set ≡ Some r → (so ≡ true) × (get_or targets to false ≡ true) × (trues targets to ≡ r)
found targets so to None s r e = cc
found targets so to (Some q) s r e = let i : q ≡ r = cc in (s.0, s.1, s.2 ∙ i)

given : (targets : List Bool) (so : Bool) (to : ℕ) (set : Option ℕ) → IsSetOf targets so to set → so ≡ true → get_or targets to false ≡ true → set ≡ Some (trues targets to)
given targets so to None s yes_so t = let f = s yes_so in cc
given targets so to (Some q) s yes_so t = ap Some (sym s.2)

nothing : (targets : List Bool) (to : ℕ) (set : Option ℕ) → IsSetOf targets true to set → set ≡ None → get_or targets to false ≡ false
nothing targets to None s e = s refl
nothing targets to (Some q) s e = cc

module _ (image : Reading) (g at : ℕ) (targets : List Bool) (are : AreTargets (function_at image g) targets) where
  abbrev f : Function
  f = function_at image g

  abbrev i : Instruction
  i = instruction_at f at

  here : (jumped fallen next : Option ℕ) → IsJumped targets i jumped → IsSetOf targets (ways_of i).falls (suc at) fallen → IsSetOf targets true (suc at) next → LeadsFrom image g at jumped fallen next
  here jumped fallen next j l n = record {
    whole = λ to way t. by to ((way_leads i at to).0 way) t;
    jumps = λ r e. (let q = found targets (ways_of i).leads (ways_of i).to jumped j r e in ((ways_of i).to, (way_leads i at (ways_of i).to).1 (inr (q.0, refl)), sym (are (ways_of i).to) ∙ q.1, sym (ranked f targets are (ways_of i).to) ∙ q.2));
    falls = λ r e. (let q = found targets (ways_of i).falls (suc at) fallen l r e in (suc at, (way_leads i at (suc at)).1 (inl (q.0, refl)), sym (are (suc at)) ∙ q.1, sym (ranked f targets are (suc at)) ∙ q.2));
    follows = λ r e. (let q = found targets true (suc at) next n r e in (sym (are (suc at)) ∙ q.1, sym (ranked f targets are (suc at)) ∙ q.2));
    alone = λ e. sym (are (suc at)) ∙ nothing targets (suc at) next n e;
  }
    where
      by : (to : ℕ) → Leads i at to → is_target f to ≡ true → (jumped ≡ Some (rank f to)) ⊎ (fallen ≡ Some (rank f to))
      by to (inl h) t = inr (given targets (ways_of i).falls (suc at) fallen l h.0 (are (suc at) ∙ ap (is_target f) (sym h.1) ∙ t) ∙ ap Some (ranked f targets are (suc at) ∙ ap (rank f) (sym h.1)))
      by to (inr h) t = inl (given targets (ways_of i).leads (ways_of i).to jumped j h.0 (are (ways_of i).to ∙ ap (is_target f) (sym h.1) ∙ t) ∙ ap Some (ranked f targets are (ways_of i).to ∙ ap (rank f) (sym h.1)))

  pub leads_from : (own : Instruction) → own ≡ i → (so : Bool) → so ≡ (ways_of own).falls → (more : ℕ) → more ≡ suc at → (jumped fallen next : Option ℕ) → IsJumped targets own jumped → IsSetOf targets so more fallen → IsSetOf targets true more next → LeadsFrom image g at jumped fallen next
  leads_from own e so is more m jumped fallen next j l n =
      here jumped fallen next (subst (λ (k : Instruction). IsJumped targets k jumped) e j)
      (subst (λ (k : Instruction). IsSetOf targets (ways_of k).falls (suc at) fallen) e (subst (λ b. IsSetOf targets b (suc at) fallen) is (subst (λ k. IsSetOf targets so k fallen) m l)))
      (subst (λ k. IsSetOf targets true k next) m n)
