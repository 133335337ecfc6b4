-- What is done of the operands so far.
use Rattle.std.proofs.Common.{◌≡◌, ◌<◌, ℕ, suc, List, [], ◌∷◌, ◌++◌, length, map, take, drop, reverse, get_or, refl, sym, ap, ◌∙◌, subst, append_assoc}
use Rattle.std.specs.Prelude.{nat_lt, false}
use Rattle.std.specs.List.{AllByRecursion as Every}
use Rattle.std.proofs.Math.Seq.{drop-cons, take-suc}
use Rattle.std.proofs.lemmas.List.{map-append, length-map, reverse-append}
use Rattle.std.specs.List.{take-map}
use Rattle.std.proofs.Math.ListN.{get_or-map}
use Rattle.rc_core.specs.Types.{Ty}
use Rattle.rc_core.specs.declared.ty.Ty.{Ty as CodeTy}
use Rattle.rc_core.specs.Shapes.{ty_of}
use Rattle.rc_emission.specs.KeptOperands.{Kept, same_kept, place_in, entered, once}
use Rattle.rc_lines.specs.Keys.{HasKey}
use Rattle.rc_lines.specs.Gathered.{kept_of, all_kept}
use Rattle.rc_lines.specs.declared.gathering.KeptOperand.{KeptOperand}
use Rattle.rc_lines.specs.Keyed.{key_of}
use Rattle.rc_program_code.specs.Entered.{Entering, has, AreDistinct}
use Rattle.rc_program_code.proofs.Once.{fresh}

-- the table, the last operand first, of those from one on
pub record EnteredFrom (all : List (List ℕ)) (table rest : List Kept) : Type 0 where
  pub table_own : Every HasKey table
  pub keys : all ≡ map key_of table
  pub once : reverse table ≡ once same_kept rest
  pub own : Every HasKey rest

pub one_more : (k : Kept) (keys keys1 : List (List ℕ)) (table table1 rest : List Kept) → Entering k keys keys1 table table1 → EnteredFrom keys table rest → EnteredFrom keys1 table1 (k ∷ rest)
one_more k keys keys1 table table1 rest e f = record {
  table_own = e.all_own f.table_own;
  keys = e.keys f.table_own f.keys;
  once = e.once f.table_own f.keys ∙ ap (λ t. entered (nat_lt (place_in same_kept t k) (length t)) k t) f.once;
  own = (e.own, f.own);
}

pub rest_is : (kept : List KeptOperand) (i : ℕ) (x : KeptOperand) → i < length kept → x ≡ get_or kept i x → all_kept (drop i kept) ≡ kept_of x ∷ all_kept (drop (suc i) kept)
rest_is kept i x h e = ap all_kept (drop-cons kept i x h) ∙ ap (λ y. kept_of y ∷ all_kept (drop (suc i) kept)) (sym e)

-- the keys of those before one
pub record KeysOf (all : List (List ℕ)) (done : List Kept) : Type 0 where
  pub keys : all ≡ map key_of done
  pub own : Every HasKey done

pub done_is : (kept : List KeptOperand) (i : ℕ) (x : KeptOperand) → i < length kept → x ≡ get_or kept i x → all_kept (take (suc i) kept) ≡ all_kept (take i kept) ++ kept_of x ∷ []
done_is kept i x h e = ap all_kept (take-suc kept i x h) ∙ map-append kept_of (take i kept) (get_or kept i x ∷ []) ∙ ap (λ y. all_kept (take i kept) ++ kept_of y ∷ []) (sym e)

-- the types of the locals
pub types_more : {A : Type 0} (f g : A → Ty) (xs : List A) (i : ℕ) (x : A) (old : List Ty) (made made1 : List CodeTy) (t : CodeTy) → i < length xs → x ≡ get_or xs i x → made1 ≡ made ++ t ∷ [] → ty_of t ≡ g x → ((y : A) → f y ≡ g y) →
    map ty_of made ≡ old ++ map f (take i xs) → map ty_of made1 ≡ old ++ map f (take (suc i) xs)
types_more f g xs i x old made made1 t h e n is same m =
    ap (map ty_of) n ∙ map-append ty_of made (t ∷ []) ∙ ap (λ ts. ts ++ ty_of t ∷ []) m ∙ append_assoc old (map f (take i xs)) (ty_of t ∷ [])
    ∙ ap (λ y. old ++ (map f (take i xs) ++ y ∷ [])) (is ∙ sym (same x)) ∙ ap (λ y. old ++ (map f (take i xs) ++ f y ∷ [])) e
    ∙ ap (λ ts. old ++ ts) (sym (ap (map f) (take-suc xs i x h) ∙ map-append f (take i xs) (get_or xs i x ∷ [])))

pub fresh_at : (table : List KeptOperand) (i : ℕ) (x : KeptOperand) → AreDistinct (all_kept table) → i < length table → x ≡ get_or table i x → has (all_kept (take i table)) (kept_of x) ≡ false
fresh_at table i x d h e =
    ap (λ t. has t (kept_of x)) (sym (take-map kept_of i table)) ∙ ap (has (take i (all_kept table))) (ap kept_of e ∙ sym (get_or-map kept_of table i x))
    ∙ fresh (all_kept table) i (kept_of x) d (subst (λ n. i < n) (sym (length-map table kept_of)) h)

pub kept_reversed : (xs : List KeptOperand) → all_kept (reverse xs) ≡ reverse (all_kept xs)
kept_reversed [] = refl
kept_reversed (x ∷ xs) = ap all_kept (reverse-append (x ∷ []) xs) ∙ map-append kept_of (reverse xs) (x ∷ []) ∙ ap (λ l. l ++ kept_of x ∷ []) (kept_reversed xs) ∙ sym (reverse-append (kept_of x ∷ []) (all_kept xs))
