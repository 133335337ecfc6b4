-- What was copied so far, and what is left to copy.
use Rattle.std.proofs.Common.{◌≡◌, ◌<◌, ◌≤◌, ◌+◌, ℕ, refl, ap, sym, ◌∙◌, List, [], ◌∷◌, ◌++◌, length, drop, map}
use Rattle.std.specs.Prelude.{get_or, Result, Ok, Err, IfOk}
use Rattle.std.proofs.lemmas.List.{append-nil}
use Rattle.std.specs.declared.vec.Vec.{Vec}
use Rattle.std.specs.declared.alloc.Global.{Global as Alloc}
use Rattle.std.specs.declared.boxed.Box.{Box}
use Rattle.rc_base.specs.declared.outside.NoMemory.{NoMemory}
use Rattle.rc_syntax.specs.declared.tree.Spot.{Spot}
use Rattle.rc_syntax.specs.declared.tree.Stmt.{Stmt, Block}
use Rattle.rc_syntax.specs.Tree as t
use Rattle.rc_syntax.specs.Shape.{stmt_of, stmts_of}
use Rattle.rc_syntax.proofs.Rows.{block_is}
use Rattle.rc_linking.specs.Moved.{moved_stmt, moved_stmts, moved_local, moved_locals}
use Rattle.rc_expression_copies.proofs.Copied.{front, none_left}

-- a list that is copied part by part
module _ {A B C : Type 0} (f : A → C) (g : B → C) (all : List A) (i : ℕ) (made : List B) where
  pub copied_step : (a : A) (b : B) → i < length all → a ≡ get_or all i a → g b ≡ f a → map g made ++ map f (drop i all) ≡ map g (made ++ b ∷ []) ++ map f (drop (i + 1) all)
  copied_step a b l h same =
      let rest = map f (drop (i + 1) all) in
      ap (λ xs. map g made ++ map f xs) (front all i a l h) ∙ ap (λ x. map g made ++ x ∷ rest) (sym same) ∙ behind made
    where
      behind : (bs : List B) → map g bs ++ g b ∷ map f (drop (i + 1) all) ≡ map g (bs ++ b ∷ []) ++ map f (drop (i + 1) all)
      behind [] = refl
      behind (x ∷ xs) = ap (λ ys. g x ∷ ys) (behind xs)

  pub copied_end : length all ≤ i → map g made ++ map f (drop i all) ≡ map g made
  copied_end l = ap (λ xs. map g made ++ map f xs) (none_left all i l) ∙ append-nil (map g made)

pub map_map : {A B C : Type 0} (f : B → C) (g : A → B) (xs : List A) → map f (map g xs) ≡ map (λ x. f (g x)) xs
map_map f g [] = refl
map_map f g (x ∷ xs) = ap (λ ys. f (g x) ∷ ys) (map_map f g xs)

module _ {A C : Type 0} (m : C → C) (s : A → C) (all made : List A) (i : ℕ) where
  pub copied_all : length all ≤ i → map (λ x. m (s x)) all ≡ map s made ++ map (λ x. m (s x)) (drop i all) → map s made ≡ map m (map s all)
  copied_all l h = sym (map_map m s all ∙ h ∙ copied_end (λ x. m (s x)) s all i made l)

pub locals_are : (by : ℕ) (ls : List t.Local) → moved_locals by ls ≡ map (moved_local by) ls
locals_are by [] = refl
locals_are by (l ∷ ls) = ap (λ rest. moved_local by l ∷ rest) (locals_are by ls)

-- statements behind others
abbrev pub stmts_before : List Stmt → t.Stmts → t.Stmts
stmts_before [] rest = rest
stmts_before (s ∷ ss) rest = t.next (stmt_of s) (stmts_before ss rest)

stmt_behind : (ss : List Stmt) (s : Stmt) (rest : t.Stmts) → stmts_before ss (t.next (stmt_of s) rest) ≡ stmts_before (ss ++ s ∷ []) rest
stmt_behind [] s rest = refl
stmt_behind (x ∷ xs) s rest = ap (t.next (stmt_of x)) (stmt_behind xs s rest)

stmts_all : (ss : List Stmt) → stmts_before ss t.done ≡ stmts_of ss
stmts_all [] = refl
stmts_all (s ∷ ss) = ap (t.next (stmt_of s)) (stmts_all ss)

module _ (by : ℕ) where
  pub stmts_step : (ss made : List Stmt) (i : ℕ) (s copy : Stmt) → i < length ss → s ≡ get_or ss i s → stmt_of copy ≡ moved_stmt by (stmt_of s) →
      stmts_before made (moved_stmts by (stmts_of (drop i ss))) ≡ stmts_before (made ++ copy ∷ []) (moved_stmts by (stmts_of (drop (i + 1) ss)))
  stmts_step ss made i s copy l h same =
      let rest = moved_stmts by (stmts_of (drop (i + 1) ss)) in
      ap (λ xs. stmts_before made (moved_stmts by (stmts_of xs))) (front ss i s l h) ∙ ap (λ x. stmts_before made (t.next x rest)) (sym same) ∙ stmt_behind made copy rest

  pub stmts_end : (ss made : List Stmt) (i : ℕ) → length ss ≤ i → stmts_before made (moved_stmts by (stmts_of (drop i ss))) ≡ stmts_of made
  stmts_end ss made i l = ap (λ xs. stmts_before made (moved_stmts by (stmts_of xs))) (none_left ss i l) ∙ stmts_all made

-- a block, of which the statements are children
pub boxed_block : (at : Spot) (v : Vec Stmt Alloc) (r : Result (Box Stmt Alloc) NoMemory) → IfOk r (λ b. b.value ≡ Block at v) → IfOk r (λ b. stmt_of b.value ≡ t.block at (stmts_of v.items))
boxed_block at v (Ok b) e = block_is b.value at v e
boxed_block at v (Err f) e = tt
