-- Variables of locals.
use Rattle.std.proofs.Common.{◌≡◌, ℕ, zero, suc, ◌+◌, Bool, true, false, cond, List, [], ◌∷◌, take, get_or, refl, sym, ap, ◌∙◌, arith}
use Rattle.std.specs.Prelude.{count_by}
use Rattle.std.proofs.lemmas.List.Sums.{sum_by-cons}
use Rattle.rc_core.specs.Types.{Ty}
use Rattle.rc_rlang.specs.RegionCode.{Routine}
use Rattle.rc_rlang.specs.RegionFlow.{is_regional, one_of, copies}
use Rattle.rc_graph.specs.declared.names.Names.{Names}
use Rattle.rc_graph.specs.Nodes.{Numbers, ranks_from}

-- how many regions and pointers there are, from the first on
abbrev pub regionals : List Ty → ℕ
regionals [] = 0
regionals (ty ∷ tys) = one_of (is_regional ty) (suc (regionals tys)) (regionals tys)

pub counted : (tys : List Ty) → count_by is_regional tys ≡ regionals tys
counted [] = refl
counted (ty ∷ tys) = sum_by-cons (λ x. cond (is_regional x) 1 0) ty tys ∙ by (is_regional ty) (counted tys)
  where
    by : (b : Bool) → count_by is_regional tys ≡ regionals tys → cond b 1 0 + count_by is_regional tys ≡ one_of b (suc (regionals tys)) (regionals tys)
    by true e = omega (arith, e)
    by false e = omega (arith, e)

pub one_more : (b : Bool) (k n : ℕ) → one_of b (suc k) k + n ≡ k + one_of b (suc n) n
one_more true k n = omega arith
one_more false k n = refl

rank_from : (k n : ℕ) (tys : List Ty) (x : ℕ) → n ≡ k + regionals tys → get_or (ranks_from k tys) x n ≡ k + regionals (take x tys)
rank_from k n [] zero e = e
rank_from k n [] (suc x) e = e
rank_from k n (ty ∷ tys) zero e = let s : k ≡ k + 0 = omega arith in s
rank_from k n (ty ∷ tys) (suc x) e = rank_from (one_of (is_regional ty) (suc k) k) n tys x (e ∙ sym (one_more (is_regional ty) k (regionals tys))) ∙ one_more (is_regional ty) k (regionals (take x tys))

pub rank_is : (tys : List Ty) (x all : ℕ) → all ≡ count_by is_regional tys → get_or (ranks_from 0 tys) x all ≡ count_by is_regional (take x tys)
rank_is tys x all e =
    let whole = e ∙ counted tys in
    let front : 0 + regionals (take x tys) ≡ regionals (take x tys) = omega arith in
    rank_from 0 all tys x (omega (arith, whole)) ∙ front ∙ sym (counted (take x tys))

-- at the end of the locals
pub numbers_made : (f : Routine) (n : Names) → n.copies ≡ get_or n.ranks.items f.parameters n.all → n.ranks.items ≡ ranks_from 0 f.locals → n.all ≡ regionals f.locals → n.first ≡ n.copies + n.all → Numbers f n
numbers_made f n c r a t =
    let all : n.all ≡ count_by is_regional f.locals = a ∙ sym (counted f.locals) in
    let hidden = c ∙ ap (λ xs. get_or xs f.parameters n.all) r ∙ rank_is f.locals f.parameters n.all all in
    record { hidden = hidden; ranks = r; all = all; first = t ∙ ap (λ k. k + n.all) hidden ∙ ap (λ k. copies f + k) all }
