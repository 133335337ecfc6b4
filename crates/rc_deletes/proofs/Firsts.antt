-- The first of several faults.
use Rattle.std.specs.Prelude.{Result, Ok, Err, IsErrAnd}
use Rattle.std.proofs.Common.{◌≡◌, Some, ℕ, refl, ap, sym, ◌∙◌, List, [], ◌∷◌, ◌++◌, map, Bool, length, drop, get_or, ◌<◌, ◌+◌, add-one, drop-cons}
use Rattle.std.specs.declared.vec.Vec.{Vec}
use Rattle.std.specs.declared.alloc.Global.{Global as Alloc}
use Rattle.rc_deletes.specs.declared.deletes.DeletesFault.{DeletesFault}
use Rattle.rc_deletes.specs.First.{first, clear, and_then}
use Rattle.std.proofs.Common.{suc}
use Rattle.rc_syntax.specs.declared.tree.Spot.{Spot}
use Rattle.rc_syntax.specs.declared.tree.Local.{Local}
use Rattle.rc_syntax.specs.declared.tree.Stmt.{Stmt, Block as StmtBlock}
use Rattle.rc_syntax.specs.Shape as tree
use Rattle.rc_syntax.proofs.Rows as TreeRows
use Rattle.rc_core.specs.declared.stmt.Stmt.{Stmt as Step, Block as StepBlock}
use Rattle.rc_core.proofs.ShapeRows as ProgramRows
use Rattle.rc_core.specs.declared.expr.PathStep.{PathStep, Field, Element}
use Rattle.rc_core.specs.Programs as p
use Rattle.rc_core.specs.Shapes as program
use Rattle.rc_deletes.specs.Places as rule
use Rattle.rc_deletes.specs.Places.{or_own}
use Rattle.std.proofs.lemmas.List.{append-nil}

pub clear_both : (xs ys : List DeletesFault) → clear (xs ++ ys) ≡ and_then (clear xs) (clear ys)
clear_both [] ys = refl
clear_both (x ∷ xs) ys = refl

pub clear_none : (xs : List DeletesFault) (u : Unit {0}) → Ok u ≡ clear xs → xs ≡ []
clear_none [] u h = refl
clear_none (x ∷ xs) u h = absurd cc

pub clear_some : (xs : List DeletesFault) (f : DeletesFault) → Err f ≡ clear xs → first xs ≡ Some f
clear_some [] f h = absurd cc
clear_some (x ∷ xs) f h = cc

-- what `?` hands on
pub stopped : (r : Result (Unit {0}) DeletesFault) (f : DeletesFault) → IsErrAnd r (λ e. e ≡ f) → r ≡ Err f
stopped (Err e) f h = ap Err h
stopped (Ok u) f h = absurd h

pub clear_own : (xs ys : List DeletesFault) → clear (or_own xs ys) ≡ and_then (clear xs) (clear ys)
clear_own [] ys = refl
clear_own (x ∷ xs) ys = refl

pub path_clear : (fs : List p.Function) (d : Bool) (s : PathStep) (rest : p.Path) → clear (rule.within_path fs d (program.inward s rest)) ≡ and_then (clear (rule.within_path fs d (program.inward s p.here))) (clear (rule.within_path fs d rest))
path_clear fs d (Field k f) rest = refl
path_clear fs d (Element k f i) rest = clear_both (rule.within fs d (program.expr_of i)) (rule.within_path fs d rest) ∙ ap (λ w. and_then w (clear (rule.within_path fs d rest))) (ap clear (sym (append-nil (rule.within fs d (program.expr_of i)))))

module _ (fs : List p.Function) (d : Bool) where
  pub path_at : (steps : List PathStep) (i : ℕ) (s : PathStep) → s ≡ get_or steps i s → i < length steps → clear (rule.within_path fs d (program.path_of (drop i steps))) ≡ and_then (clear (rule.within_path fs d (program.inward s p.here))) (clear (rule.within_path fs d (program.path_of (drop (i + 1) steps))))
  path_at steps i s h k = rw (add-one, drop-cons steps i s k, ← h) (path_clear fs d s (program.path_of (drop (suc i) steps)))

  pub locals_at : (ls : List Local) (ss : List Step) (i : ℕ) (x : Local) (y : Step) → x ≡ get_or ls i x → y ≡ get_or ss i y → i < length ls → i < length ss → clear (rule.locals fs d (map tree.local_of (drop i ls)) (program.stmts_of (drop i ss))) ≡ and_then (clear (rule.locally fs d (tree.local_of x) (program.stmt_of y))) (clear (rule.locals fs d (map tree.local_of (drop (i + 1) ls)) (program.stmts_of (drop (i + 1) ss))))
  locals_at ls ss i x y h k p q = rw (add-one, drop-cons ls i x p, drop-cons ss i y q, ← h, ← k) (clear_both (rule.locally fs d (tree.local_of x) (program.stmt_of y)) _)

  pub stmts_at : (body : List Stmt) (ss : List Step) (i : ℕ) (x : Stmt) (y : Step) → x ≡ get_or body i x → y ≡ get_or ss i y → i < length body → i < length ss → clear (rule.stmts fs d (tree.stmts_of (drop i body)) (program.stmts_of (drop i ss))) ≡ and_then (clear (rule.stmt fs d (tree.stmt_of x) (program.stmt_of y))) (clear (rule.stmts fs d (tree.stmts_of (drop (i + 1) body)) (program.stmts_of (drop (i + 1) ss))))
  stmts_at body ss i x y h k p q = rw (add-one, drop-cons body i x p, drop-cons ss i y q, ← h, ← k) (clear_both (rule.stmt fs d (tree.stmt_of x) (program.stmt_of y)) _)

  pub block_is : (s : Stmt) (l : Step) (at : Spot) (b : Vec Stmt Alloc) (c : Vec Step Alloc) (body : List Stmt) (ss : List Step) → s ≡ StmtBlock at b → l ≡ StepBlock c → body ≡ b.items → ss ≡ c.items → rule.stmt fs d (tree.stmt_of s) (program.stmt_of l) ≡ rule.stmts fs d (tree.stmts_of body) (program.stmts_of ss)
  block_is s l at b c body ss h k p q = rw (TreeRows.block_is s at b h, ProgramRows.block_is l c k, p, q) refl
