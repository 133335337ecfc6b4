-- What was copied so far, and what is left to copy.
use Rattle.std.proofs.Common.{◌≡◌, ◌<◌, ◌≤◌, ◌+◌, ℕ, zero, suc, refl, ap, sym, ◌∙◌, arith, List, [], ◌∷◌, ◌++◌, length, drop, drop-cons}
use Rattle.std.specs.Prelude.{get_or, Result, Ok, Err, IfOk}
use Rattle.std.specs.declared.vec.Vec.{Vec}
use Rattle.std.specs.declared.alloc.Global.{Global as Alloc}
use Rattle.std.specs.declared.boxed.Box.{Box}
use Rattle.rc_base.specs.declared.outside.NoMemory.{NoMemory}
use Rattle.rc_syntax.specs.declared.tree.Name.{Name}
use Rattle.rc_syntax.specs.declared.tree.Expr.{Expr, Call}
use Rattle.rc_syntax.specs.Tree as t
use Rattle.rc_syntax.specs.Shape.{expr_of, exprs_of}
use Rattle.rc_syntax.proofs.Rows.{call_is}
use Rattle.rc_linking.specs.Moved.{moved, moved_all}

-- the element at the front of what is left
pub front : {X : Type 0} (xs : List X) (i : ℕ) (x : X) → i < length xs → x ≡ get_or xs i x → drop i xs ≡ x ∷ drop (i + 1) xs
front xs i x h e = drop-cons xs i x h ∙ ap (λ y. y ∷ drop (suc i) xs) (sym e) ∙ ap (λ j. x ∷ drop j xs) (let k : suc i ≡ i + 1 = omega arith in k)

pub none_left : {X : Type 0} (xs : List X) (i : ℕ) → length xs ≤ i → drop i xs ≡ []
none_left [] zero h = refl
none_left [] (suc i) h = refl
none_left (x ∷ xs) zero h = absurd (omega arith)
none_left (x ∷ xs) (suc i) h = none_left xs i (omega arith)

-- expressions behind others
abbrev pub exprs_before : List Expr → t.Exprs → t.Exprs
exprs_before [] rest = rest
exprs_before (e ∷ es) rest = t.more (expr_of e) (exprs_before es rest)

expr_behind : (es : List Expr) (e : Expr) (rest : t.Exprs) → exprs_before es (t.more (expr_of e) rest) ≡ exprs_before (es ++ e ∷ []) rest
expr_behind [] e rest = refl
expr_behind (x ∷ xs) e rest = ap (t.more (expr_of x)) (expr_behind xs e rest)

exprs_all : (es : List Expr) → exprs_before es t.none ≡ exprs_of es
exprs_all [] = refl
exprs_all (e ∷ es) = ap (t.more (expr_of e)) (exprs_all es)

module _ (by : ℕ) where
  pub exprs_step : (es made : List Expr) (i : ℕ) (e copy : Expr) → i < length es → e ≡ get_or es i e → expr_of copy ≡ moved by (expr_of e) →
      exprs_before made (moved_all by (exprs_of (drop i es))) ≡ exprs_before (made ++ copy ∷ []) (moved_all by (exprs_of (drop (i + 1) es)))
  exprs_step es made i e copy l h same =
      let rest = moved_all by (exprs_of (drop (i + 1) es)) in
      ap (λ xs. exprs_before made (moved_all by (exprs_of xs))) (front es i e l h) ∙ ap (λ x. exprs_before made (t.more x rest)) (sym same) ∙ expr_behind made copy rest

  pub exprs_end : (es made : List Expr) (i : ℕ) → length es ≤ i → exprs_before made (moved_all by (exprs_of (drop i es))) ≡ exprs_of made
  exprs_end es made i l = ap (λ xs. exprs_before made (moved_all by (exprs_of xs))) (none_left es i l) ∙ exprs_all made

-- a call, of which the values are children
pub boxed_call : (n : Name) (v : Vec Expr Alloc) (r : Result (Box Expr Alloc) NoMemory) → IfOk r (λ b. b.value ≡ Call n v) → IfOk r (λ b. expr_of b.value ≡ t.call n (exprs_of v.items))
boxed_call n v (Ok b) e = call_is b.value n v e
boxed_call n v (Err f) e = tt
