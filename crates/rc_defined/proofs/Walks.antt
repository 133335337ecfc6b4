-- What was walked so far, and what the rest gives.
use Rattle.std.proofs.Common.{◌≡◌, ◌<◌, ◌≤◌, ◌+◌, ℕ, zero, suc, refl, ap, sym, ◌∙◌, arith, List, [], ◌∷◌, ◌++◌, length, drop, append_assoc}
use Rattle.std.specs.Prelude.{get_or}
use Rattle.std.proofs.Math.Seq.{drop-cons}
use Rattle.rc_syntax.specs.declared.tree.Expr.{Expr}
use Rattle.rc_syntax.specs.Shape as written
use Rattle.rc_deletes.specs.Judged.{Judged, Holds, Faulty, with_parts}
use Rattle.rc_deletes.specs.Scopes.{Context, Scope}
use Rattle.rc_deletes.specs.Values.{Typed}
use Rattle.rc_deletes.specs.Expressions.{value, values, strings_in, strings_in_all}
use Rattle.rc_typed_values.specs.declared.stop.Stop.{Stop}
use Rattle.rc_typed_values.specs.declared.stop.Stop.TheVariants.{Rule, Memory}
use Rattle.rc_typed_values.specs.Stops.{StopsAt}
use Rattle.rc_defined.proofs.Stops.{left_stops}

-- the element at the front of what is left
pub front : {X : Type 0} (xs : List X) (i : ℕ) (x : X) → i < length xs → x ≡ get_or xs i x → drop i xs ≡ x ∷ drop (i + 1) xs
front xs i x h e = drop-cons xs i x h ∙ ap (λ y. y ∷ drop (suc i) xs) (sym e) ∙ ap (λ j. x ∷ drop j xs) (let k : suc i ≡ i + 1 = omega arith in k)

pub none_left : {X : Type 0} (xs : List X) (i : ℕ) → length xs ≤ i → drop i xs ≡ []
none_left [] zero h = refl
none_left [] (suc i) h = refl
none_left (x ∷ xs) zero h = absurd (omega arith)
none_left (x ∷ xs) (suc i) h = none_left xs i (omega arith)

abbrev pub after : {A : Type 0} → List A → Judged (List A) → Judged (List A)
after all (Holds vs) = Holds (all ++ vs)
after all (Faulty f fs) = Faulty f fs

pub after_nil : {A : Type 0} (x : Judged (List A)) → after [] x ≡ x
after_nil (Holds vs) = refl
after_nil (Faulty f fs) = refl

after-more : {A : Type 0} (all : List A) (v : A) (x : Judged (List A)) → after all (with_parts (Holds v) x (λ v vs. Holds (v ∷ vs))) ≡ after (all ++ v ∷ []) x
after-more all v (Holds vs) = ap Holds (sym (append_assoc all (v ∷ []) vs))
after-more all v (Faulty f fs) = refl

pub after_stops : {A : Type 0} (all : List A) (x : Judged (List A)) (s : Stop) → StopsAt x s → StopsAt (after all x) s
after_stops all x Memory h = tt
after_stops all (Faulty g gs) (Rule f) h = h
after_stops all (Holds vs) (Rule f) h = absurd cc

append_end : {A : Type 0} (xs : List A) → xs ++ [] ≡ xs
append_end [] = refl
append_end (x ∷ xs) = ap (λ ys. x ∷ ys) (append_end xs)

module _ (context : Context) (names : Scope) (es : List Expr) (i : ℕ) where
  pub values_step : (before : List (List ℕ)) (e : Expr) (given : List Typed) (v : Typed) → i < length es → e ≡ get_or es i e → value context names before (written.expr_of e) ≡ Holds v →
      after given (values context names before (written.exprs_of (drop i es))) ≡ after (given ++ v ∷ []) (values context names (before ++ strings_in (written.expr_of e)) (written.exprs_of (drop (i + 1) es)))
  values_step before e given v l h held =
      let rest = values context names (before ++ strings_in (written.expr_of e)) (written.exprs_of (drop (i + 1) es)) in
      ap (λ xs. after given (values context names before (written.exprs_of xs))) (front es i e l h)
      ∙ ap (λ (x : Judged Typed). after given (with_parts x rest (λ v vs. Holds (v ∷ vs)))) held ∙ after-more given v rest

  pub values_end : (before : List (List ℕ)) (given : List Typed) → length es ≤ i → after given (values context names before (written.exprs_of (drop i es))) ≡ Holds given
  values_end before given l = ap (λ xs. after given (values context names before (written.exprs_of xs))) (none_left es i l) ∙ ap Holds (append_end given)

  pub values_stop : (before : List (List ℕ)) (e : Expr) (given : List Typed) (s : Stop) → i < length es → e ≡ get_or es i e → StopsAt (value context names before (written.expr_of e)) s →
      StopsAt (after given (values context names before (written.exprs_of (drop i es)))) s
  values_stop before e given s l h stops =
      rw (front es i e l h) (after_stops given (values context names before (written.exprs_of (e ∷ drop (i + 1) es))) s
      (left_stops (value context names before (written.expr_of e)) (values context names (before ++ strings_in (written.expr_of e)) (written.exprs_of (drop (i + 1) es))) (λ v vs. Holds (v ∷ vs)) s stops))

pub strings_step : (es : List Expr) (i : ℕ) (e : Expr) (before now : List (List ℕ)) → i < length es → e ≡ get_or es i e → now ≡ before ++ strings_in (written.expr_of e) →
    before ++ strings_in_all (written.exprs_of (drop i es)) ≡ now ++ strings_in_all (written.exprs_of (drop (i + 1) es))
strings_step es i e before now l h k =
    ap (λ xs. before ++ strings_in_all (written.exprs_of xs)) (front es i e l h)
    ∙ sym (append_assoc before (strings_in (written.expr_of e)) (strings_in_all (written.exprs_of (drop (i + 1) es)))) ∙ ap (λ ss. ss ++ strings_in_all (written.exprs_of (drop (i + 1) es))) (sym k)

pub strings_end : (es : List Expr) (i : ℕ) (now : List (List ℕ)) → length es ≤ i → now ++ strings_in_all (written.exprs_of (drop i es)) ≡ now
strings_end es i now l = ap (λ xs. now ++ strings_in_all (written.exprs_of xs)) (none_left es i l) ∙ append_end now
