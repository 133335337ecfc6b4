-- The first call of a function that is not there, part by part.
use Rattle.std.specs.Prelude.{get_or, IsErrAnd}
use Rattle.std.specs.declared.vec.Vec.{Vec}
use Rattle.std.specs.declared.alloc.Global.{Global}
use Rattle.std.proofs.Common.{◌≡◌, ◌<◌, ◌+◌, ℕ, List, [], ◌∷◌, ◌++◌, Bool, true, false, Result, Ok, Err, refl, sym, ap, ◌∙◌, length, drop, if◌then◌else◌}
use Rattle.rc_syntax.specs.declared.tree.Name.{Name}
use Rattle.rc_syntax.specs.declared.tree.Expr.{Expr, Call}
use Rattle.rc_syntax.specs.Shape.{expr_of, exprs_of}
use Rattle.rc_syntax.specs.Tree as t
use Rattle.rc_syntax.proofs.Rows.{call_is}
use Rattle.rc_deletes.specs.First.{clear, and_then}
use Rattle.rc_defined.proofs.Walks.{front}
use Rattle.rc_linking.specs.Calls.{is_callable, calls_in, calls_in_all}
use Rattle.rc_link.specs.Missed.{missed}

-- what `?` hands on
stopped : (r : Result (Unit {0}) ℕ) (line : ℕ) → IsErrAnd r (λ e. e ≡ line) → r ≡ Err line
stopped (Err e) line h = ap Err h
stopped (Ok u) line h = absurd h

module _ (functions : List (List ℕ)) where
  skip : (b : Bool) (line : ℕ) (xs ys : List ℕ) (z : Result (Unit {0}) ℕ) → clear ys ≡ and_then (clear xs) z → clear (if b then ys else line ∷ ys) ≡ and_then (clear (if b then xs else line ∷ xs)) z
  skip true line xs ys z h = h
  skip false line xs ys z h = refl

  pub both : (xs ys : List Name) → clear (missed functions (xs ++ ys)) ≡ and_then (clear (missed functions xs)) (clear (missed functions ys))
  both [] ys = refl
  both (x ∷ xs) ys = skip (is_callable functions x.text) x.spot.line (missed functions xs) (missed functions (xs ++ ys)) (clear (missed functions ys)) (both xs ys)

  pub own : (x : Name) (ys : List Name) → clear (missed functions (x ∷ ys)) ≡ and_then (clear (missed functions (x ∷ []))) (clear (missed functions ys))
  own x ys = both (x ∷ []) ys

  -- of two parts the first is fine, or it is not
  fine : (xs ys : List Name) (u : Unit {0}) → Ok u ≡ clear (missed functions xs) → clear (missed functions (xs ++ ys)) ≡ clear (missed functions ys)
  fine xs ys u h = both xs ys ∙ ap (λ (w : Result (Unit {0}) ℕ). and_then w (clear (missed functions ys))) (sym h)

  lost : (xs ys : List Name) (line : ℕ) → Err line ≡ clear (missed functions xs) → clear (missed functions (xs ++ ys)) ≡ Err line
  lost xs ys line h = both xs ys ∙ ap (λ (w : Result (Unit {0}) ℕ). and_then w (clear (missed functions ys))) (sym h)

  -- a call, whose arguments stand in a row
  pub call_fine : (e : Expr) (name : Name) (given : Vec Expr Global) (args : List Expr) (u : Unit {0}) (r : Result (Unit {0}) ℕ) → e ≡ Call name given → args ≡ given.items →
      Ok u ≡ clear (missed functions (name ∷ [])) → r ≡ clear (missed functions (calls_in_all (exprs_of args))) → r ≡ clear (missed functions (calls_in (expr_of e)))
  call_fine e name given args u r is same first rest =
      rest ∙ sym (fine (name ∷ []) (calls_in_all (exprs_of args)) u first)
      ∙ ap (λ (es : List Expr). clear (missed functions (name ∷ calls_in_all (exprs_of es)))) same
      ∙ ap (λ (x : t.Expr). clear (missed functions (calls_in x))) (sym (call_is e name given is))

  -- a row, one part after the other
  module _ {X : Type 0} (one : X → List Name) (all : List X → List Name) (more : (x : X) (xs : List X) → all (x ∷ xs) ≡ one x ++ all xs)
      (xs : List X) (i : ℕ) (x : X) (l : i < length xs) (h : x ≡ get_or xs i x) (whole : Result (Unit {0}) ℕ) (so_far : whole ≡ clear (missed functions (all (drop i xs)))) where
    at_front : whole ≡ clear (missed functions (one x ++ all (drop (i + 1) xs)))
    at_front = so_far ∙ ap (λ (ys : List X). clear (missed functions (all ys))) (front xs i x l h) ∙ ap (λ (names : List Name). clear (missed functions names)) (more x (drop (i + 1) xs))

    pub row_fine : (u : Unit {0}) → Ok u ≡ clear (missed functions (one x)) → whole ≡ clear (missed functions (all (drop (i + 1) xs)))
    row_fine u e = at_front ∙ fine (one x) (all (drop (i + 1) xs)) u e

    pub row_lost : (r : Result (Unit {0}) ℕ) (line : ℕ) → IsErrAnd r (λ e. e ≡ line) → Err line ≡ clear (missed functions (one x)) → r ≡ whole
    row_lost r line handed e = stopped r line handed ∙ sym (at_front ∙ lost (one x) (all (drop (i + 1) xs)) line e)
