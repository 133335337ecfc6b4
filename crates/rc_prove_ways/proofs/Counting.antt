-- Numbers of targets, counted one by one.
use Rattle.std.proofs.Common.{◌≡◌, ◌∙◌, ◌⊎◌, inl, inr, ℕ, zero, suc, ◌+◌, ◌<◌, ◌≤◌, ◌++◌, ◌∷◌, [], Bool, true, false, List, length, get_or, refl, sym, ap, subst, arith}
use Rattle.std.proofs.lemmas.Bool.{cases_lt}
use Rattle.rc_code.specs.declared.image.Function.{Function}
use Rattle.rc_claims.specs.Counts.{trues, one_if}
use Rattle.rc_fact_bits.proofs.Framing.{trues_next}
use Rattle.rc_prove.specs.Sets.{rank}
use Rattle.rc_prove_ways.specs.Ranks.{AreRanks, AreTargets}

pub trues_zero : (bs : List Bool) → trues bs 0 ≡ 0
trues_zero [] = refl
trues_zero (b ∷ bs) = refl

pub ranked : (f : Function) (targets : List Bool) → AreTargets f targets → (at : ℕ) → trues targets at ≡ rank f at
ranked f targets a zero = trues_zero targets
ranked f targets a (suc at) = trues_next targets at ∙ ap (λ k. k + one_if (get_or targets at false)) (ranked f targets a at) ∙ ap (λ b. rank f at + one_if b) (a at)

-- ---- a table

pub record Counted (targets : List Bool) (at count : ℕ) (ranks : List ℕ) : Type 0 where
  pub now : count ≡ trues targets at
  pub few : count ≤ at
  pub long : length ranks ≡ at
  pub each : (k : ℕ) → k < at → get_or ranks k 0 ≡ trues targets k

at_most_one : (b : Bool) → one_if b ≤ 1
at_most_one true = omega arith
at_most_one false = omega arith

earlier : (ranks : List ℕ) (count k : ℕ) → k < length ranks → get_or (ranks ++ count ∷ []) k 0 ≡ get_or ranks k 0
earlier (r ∷ rs) count zero lt = refl
earlier (r ∷ rs) count (suc k) lt = earlier rs count k (omega (arith, lt))
earlier [] count k lt = absurd (omega (arith, lt))

latest : (ranks : List ℕ) (count : ℕ) → get_or (ranks ++ count ∷ []) (length ranks) 0 ≡ count
latest [] count = refl
latest (r ∷ rs) count = latest rs count

longer : (ranks : List ℕ) (count : ℕ) → length (ranks ++ count ∷ []) ≡ suc (length ranks)
longer [] count = refl
longer (r ∷ rs) count = ap suc (longer rs count)

pub count_none : (targets : List Bool) (ranks : List ℕ) → ranks ≡ [] → Counted targets 0 0 ranks
count_none targets ranks e = subst (λ (all : List ℕ). Counted targets 0 0 all) (sym e) (record { now = sym (trues_zero targets); few = omega arith; long = refl; each = λ k lt. absurd (omega (arith, lt)) })

pub count_more : (targets : List Bool) (at more count next : ℕ) (ranks new : List ℕ) → more ≡ at + 1 → new ≡ ranks ++ count ∷ [] → next ≡ count + one_if (get_or targets at false) → Counted targets at count ranks → Counted targets more next new
count_more targets at more count next ranks new e is on c =
    let m : suc at ≡ more = omega (arith, e) in
    subst (λ i. Counted targets i next new) m (subst (λ (all : List ℕ). Counted targets (suc at) next all) (sym is) (record {
      now = (let n = c.now in omega (arith, n, on, trues_next targets at));
      few = (let le = c.few in omega (arith, le, on, at_most_one (get_or targets at false)));
      long = longer ranks count ∙ ap suc c.long;
      each = λ k less. by k (cases_lt k at) less;
    }))
  where
    by : (k : ℕ) → (k < at) ⊎ (at ≤ k) → k < suc at → get_or (ranks ++ count ∷ []) k 0 ≡ trues targets k
    by k (inl lt) less = let l = c.long in earlier ranks count k (omega (arith, lt, l)) ∙ c.each k lt
    by k (inr le) less =
        let s : at ≡ k = omega (arith, le, less) in
        ap (λ i. get_or (ranks ++ count ∷ []) i 0) (sym (c.long ∙ s)) ∙ latest ranks count ∙ c.now ∙ ap (trues targets) s

pub all_counted : (targets : List Bool) (at count : ℕ) (ranks : List ℕ) → at ≡ length targets → Counted targets at count ranks → AreRanks targets ranks
all_counted targets at count ranks e c = record { long = c.long ∙ e; each = λ k lt. c.each k (omega (arith, lt, e)) }

pub marked_inside : (targets : List Bool) (at : ℕ) → get_or targets at false ≡ true → at < length targets
marked_inside [] at e = cc
marked_inside (b ∷ bs) zero e = omega arith
marked_inside (b ∷ bs) (suc at) e = let l = marked_inside bs at e in omega (arith, l)
