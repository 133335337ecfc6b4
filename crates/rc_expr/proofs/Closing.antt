-- What the reader answers is what the grammar says: the longest stretch, its tree, the first word that is too deep.
use Rattle.std.proofs.Common.{◌≡◌, ◌<◌, ◌≤◌, ◌+◌, ℕ, zero, suc, refl, sym, ap, ◌∙◌, subst, arith, List, [], ◌∷◌, length, drop, Result, Ok, Err, IfOk}
use Rattle.std.specs.declared.boxed.Box.{Box}
use Rattle.std.specs.declared.alloc.Global.{Global}
use Rattle.rc_syntax.specs.declared.fault.ParseFault.{ParseFault}
use Rattle.rc_syntax.specs.declared.fault.ParseFault.TheVariants.{Syntax, Deep, Memory}
use Rattle.rc_syntax.specs.declared.word.Token.{Token as CodeToken}
use Rattle.rc_syntax.specs.declared.tree.Expr.{Expr}
use Rattle.rc_syntax.specs.WordShapes.{tokens_of}
use Rattle.rc_syntax.specs.Shape.{expr_of}
use Rattle.rc_syntax.specs.Grammar.{Symbol, Level, Unary, TreeOf, placed}
use Rattle.rc_syntax.specs.Place.{Answers, IsRead, IsRefused, IsTooDeep}
use Rattle.rc_syntax.specs.reader.Steps.{bottom, about, entry, run}
use Rattle.rc_syntax.proofs.Whole.{Root, of_expression, of_unary, Means, means}
use Rattle.rc_words.specs.Words.{from}
use Rattle.rc_expr.specs.Goes.{boxed_of, unboxed, ReaderAnswers}

placed_drop : (n i : ℕ) (ts : List CodeToken) → placed (n + i) (tokens_of (drop i ts)) ≡ drop i (placed n (tokens_of ts))
placed_drop n zero ts = ap (λ m. placed m (tokens_of ts)) (let e : n + zero ≡ n = omega arith in e)
placed_drop n (suc i) [] = refl
placed_drop n (suc i) (t ∷ ts) = ap (λ m. placed m (tokens_of (drop i ts))) (let e : n + suc i ≡ n + 1 + i = omega arith in e) ∙ placed_drop (n + 1) i ts

from_is : (i : ℕ) (ts : List CodeToken) → from ts i ≡ drop i (placed 0 (tokens_of ts))
from_is i ts = ap (λ m. placed m (tokens_of (drop i ts))) (let e : i ≡ 0 + i = omega arith in e) ∙ placed_drop 0 i ts

length_is : (ts : List CodeToken) → length (tokens_of ts) ≡ length ts
length_is [] = refl
length_is (t ∷ ts) = ap suc (length_is ts)

pub answers_of : (s : Symbol) → Root s → entry s ≡ about (bottom {root = s}) → (shape : Expr → TreeOf s) (depth : ℕ) (ts : List CodeToken) (i : ℕ) (r : Result (Box Expr Global × ℕ) ParseFault) →
    IfOk r (λ x. x.1 ≤ length ts) → ReaderAnswers s depth ts i (λ b. shape b.value) r → Answers depth s shape (tokens_of ts) i (unboxed r)
answers_of s known same shape depth ts i (Ok r) within answers =
    let read = subst (Means depth s (from ts i)) (ap (λ q. run depth q (from ts i)) same ∙ answers) (means depth s known (from ts i)) in (
      subst (λ rest. IsRead depth s (drop i (placed 0 (tokens_of ts))) (shape r.0.value) rest) (from_is r.1 ts) (subst (λ words. IsRead depth s words (shape r.0.value) (from ts r.1)) (from_is i ts) read),
      subst (λ n. r.1 ≤ n) (sym (length_is ts)) within,
    )
answers_of s known same shape depth ts i (Err (Syntax line)) within (rest, e, l) =
    let refused = subst (Means depth s (from ts i)) (ap (λ q. run depth q (from ts i)) same ∙ e) (means depth s known (from ts i)) in
    (rest, subst (λ words. IsRefused depth s words rest) (from_is i ts) refused, l)
answers_of s known same shape depth ts i (Err (Deep line)) within (rest, e, l) =
    let deep = subst (Means depth s (from ts i)) (ap (λ q. run depth q (from ts i)) same ∙ e) (means depth s known (from ts i)) in
    (rest, subst (λ words. IsTooDeep depth s words rest) (from_is i ts) deep, l)
answers_of s known same shape depth ts i (Err Memory) within answers = tt

within : (depth : ℕ) (ts : List CodeToken) (i : ℕ) (r : Result (Box Expr Global × ℕ) ParseFault) → IfOk r (λ x. (i < x.1) × (x.1 ≤ length ts) × (depth < 200)) → IfOk r (λ x. x.1 ≤ length ts)
within depth ts i (Ok x) h = h.1
within depth ts i (Err f) h = tt

pub expression_means : (depth : ℕ) (ts : List CodeToken) (i : ℕ) (r : Result (Box Expr Global × ℕ) ParseFault) →
    IfOk r (λ x. (i < x.1) × (x.1 ≤ length ts) × (depth < 200)) → ReaderAnswers (Level 0) depth ts i boxed_of r → Answers depth (Level 0) expr_of (tokens_of ts) i (unboxed r)
expression_means depth ts i r place answers = answers_of (Level 0) of_expression refl expr_of depth ts i r (within depth ts i r place) answers

pub unary_means : (depth : ℕ) (ts : List CodeToken) (i : ℕ) (r : Result (Box Expr Global × ℕ) ParseFault) →
    IfOk r (λ x. (i < x.1) × (x.1 ≤ length ts) × (depth < 200)) → ReaderAnswers Unary depth ts i boxed_of r → Answers depth Unary expr_of (tokens_of ts) i (unboxed r)
unary_means depth ts i r place answers = answers_of Unary of_unary refl expr_of depth ts i r (within depth ts i r place) answers
