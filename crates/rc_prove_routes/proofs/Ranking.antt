-- Targets, counted.
use Rattle.std.proofs.Common.{◌≡◌, ◌∙◌, ◌⊎◌, inl, inr, ℕ, zero, suc, ◌+◌, ◌<◌, ◌≤◌, Bool, true, false, List, [], ◌∷◌, length, take, min, get_or, refl, sym, ap, arith, rules}
use Rattle.std.proofs.lemmas.List.{get_or-take, length-take}
use Rattle.rc_code.specs.declared.image.Function.{Function}
use Rattle.rc_code.specs.Running.{Reading}
use Rattle.rc_code.specs.Soundness.{FunctionIsSound}
use Rattle.rc_claims.specs.Counts.{one_if, trues}
use Rattle.rc_fact_bits.proofs.Framing.{trues_next}
use Rattle.rc_sealed.specs.Carrying.{is_target}
use Rattle.rc_image_shapes.proofs.Targets.{no_target_outside}
use Rattle.rc_prove.specs.Sets.{rank}
use Rattle.rc_prove_ways.specs.Ranks.{AreTargets}
use Rattle.rc_prove_ways.proofs.Counting.{ranked}

order : (a b : ℕ) → (a < b) ⊎ (b ≤ a)
order a b = grind arith

past : (bs : List Bool) (at : ℕ) → length bs ≤ at → get_or bs at false ≡ false
past [] at le = refl
past (b ∷ bs) zero le = absurd (omega (arith, le))
past (b ∷ bs) (suc at) le = past bs at (omega (arith, le))

-- ---- the first of a table

pub first_targets : (all : List Bool) (count few : ℕ) (image : Reading) (f : Function) → few ≡ min (length all) count → count ≡ length f.code → FunctionIsSound true image f → ((at : ℕ) → get_or all at false ≡ is_target f at) → AreTargets f (take few all)
first_targets all count few image f e c sound are at = by (order at few)
  where
    outside : (length all ≤ at) ⊎ (count ≤ at) → is_target f at ≡ false
    outside (inl le) = sym (are at) ∙ past all at le
    outside (inr le) = no_target_outside image f sound at (omega (arith, le, c))

    which : few ≤ at → (length all ≤ at) ⊎ (count ≤ at)
    which le = grind (arith, rules, e, le)

    by : (at < few) ⊎ (few ≤ at) → get_or (take few all) at false ≡ is_target f at
    by (inl lt) = get_or-take few all at false lt ∙ are at
    by (inr le) = past (take few all) at (let l = length-take few all in omega (arith, l, le)) ∙ sym (outside (which le))

-- ---- counts

pub none_true : (bs : List Bool) → trues bs 0 ≡ 0
none_true [] = refl
none_true (b ∷ bs) = refl

-- behind its end a table has no more
saturates : (bs : List Bool) (n : ℕ) → length bs ≤ n → trues bs n ≡ trues bs (length bs)
saturates [] n le = refl
saturates (b ∷ bs) zero le = absurd (omega (arith, le))
saturates (true ∷ bs) (suc n) le = ap suc (saturates bs n (omega (arith, le)))
saturates (false ∷ bs) (suc n) le = saturates bs n (omega (arith, le))

pub count_next : (bs : List Bool) (i count more : ℕ) (b : Bool) → b ≡ get_or bs i false → count ≡ trues bs i → more ≡ count + one_if b → more ≡ trues bs (i + 1)
count_next bs i count more b is old new =
    let e : suc i ≡ i + 1 = omega arith in
    new ∙ ap (λ k. k + one_if b) old ∙ ap (λ c. trues bs i + one_if c) is ∙ sym (trues_next bs i) ∙ ap (trues bs) e

pub at_most_one : (b : Bool) → one_if b ≤ 1
at_most_one true = omega arith
at_most_one false = omega arith

pub few_next : (i count more : ℕ) (b : Bool) → count ≤ i → more ≡ count + one_if b → more ≤ i + 1
few_next i count more b le e = let m = at_most_one b in omega (arith, le, e, m)

pub all_ranked : (f : Function) (bs : List Bool) → AreTargets f bs → length bs ≤ length f.code → trues bs (length bs) ≡ rank f (length f.code)
all_ranked f bs are le = sym (saturates bs (length f.code) le) ∙ ranked f bs are (length f.code)

-- ---- numbers of sets

pub ranks_below : (f : Function) (at n : ℕ) → at < n → is_target f at ≡ true → rank f at < rank f n
ranks_below f at zero lt is = absurd (omega (arith, lt))
ranks_below f at (suc n) lt is = by (order at n) (λ l. ranks_below f at n l is)
  where
    by : (at < n) ⊎ (n ≤ at) → (at < n → rank f at < rank f n) → rank f at < rank f (suc n)
    by (inl l) before = let r = before l in omega (arith, r)
    by (inr le) before =
        let e : at ≡ n = omega (arith, lt, le) in
        let o : one_if (is_target f n) ≡ 1 = ap (λ k. one_if (is_target f k)) (sym e) ∙ ap one_if is in
        let r : rank f at ≡ rank f n = ap (rank f) e in
        omega (arith, o, r)

-- a target is an instruction of the function
pub target_inside : (image : Reading) (f : Function) → FunctionIsSound true image f → (at : ℕ) → is_target f at ≡ true → at < length f.code
target_inside image f sound at is = by (order at (length f.code))
  where
    by : (at < length f.code) ⊎ (length f.code ≤ at) → at < length f.code
    by (inl lt) = lt
    by (inr le) = let n = no_target_outside image f sound at le in let x : true ≡ false = sym is ∙ n in cc
