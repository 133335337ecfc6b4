-- What was walked so far of statements, and what the rest gives.
use Rattle.std.proofs.Common.{◌≡◌, ◌<◌, ◌≤◌, ◌+◌, ℕ, refl, ap, sym, ◌∙◌, List, [], ◌∷◌, ◌++◌, length, drop, map, Option, Bool}
use Rattle.std.specs.Prelude.{get_or}
use Rattle.rc_syntax.specs.declared.tree.Stmt.{Stmt}
use Rattle.rc_syntax.specs.declared.tree.Local.{Local}
use Rattle.rc_syntax.specs.Shape as written
use Rattle.rc_core.specs.Types.{Ty}
use Rattle.rc_core.specs.Programs as p
use Rattle.rc_core.specs.Shapes.{stmts_listed}
use Rattle.rc_deletes.specs.Judged.{Judged, Holds, Faulty, with_parts}
use Rattle.rc_deletes.specs.Scopes.{Context}
use Rattle.rc_deletes.specs.Statements.{Here, stmt, stmts, local, locals, behind_stmt, behind_stmts, behind_local, behind_locals}
use Rattle.rc_typed_values.specs.declared.stop.Stop.{Stop}
use Rattle.rc_typed_values.specs.declared.stop.Stop.TheVariants.{Rule, Memory}
use Rattle.rc_typed_values.specs.Stops.{StopsAt}
use Rattle.rc_defined.proofs.Stops.{left_stops}
use Rattle.rc_defined.proofs.Walks.{front, none_left}

-- statements in front of others

abbrev pub joined : List p.Stmt → p.Stmts → p.Stmts
joined [] rest = rest
joined (s ∷ ss) rest = p.then s (joined ss rest)

abbrev pub after_steps : List p.Stmt → Judged p.Stmts → Judged p.Stmts
after_steps all (Holds rest) = Holds (joined all rest)
after_steps all (Faulty f fs) = Faulty f fs

pub after_steps_nil : (x : Judged p.Stmts) → after_steps [] x ≡ x
after_steps_nil (Holds rest) = refl
after_steps_nil (Faulty f fs) = refl

joined-more : (all : List p.Stmt) (s : p.Stmt) (rest : p.Stmts) → joined all (p.then s rest) ≡ joined (all ++ s ∷ []) rest
joined-more [] s rest = refl
joined-more (a ∷ all) s rest = ap (p.then a) (joined-more all s rest)

joined-end : (all : List p.Stmt) → joined all p.done ≡ stmts_listed all
joined-end [] = refl
joined-end (a ∷ all) = ap (p.then a) (joined-end all)

steps-more : (all : List p.Stmt) (s : p.Stmt) (x : Judged p.Stmts) → after_steps all (with_parts (Holds s) x (λ a b. Holds (p.then a b))) ≡ after_steps (all ++ s ∷ []) x
steps-more all s (Holds rest) = ap Holds (joined-more all s rest)
steps-more all s (Faulty f fs) = refl

after_steps_stop : (all : List p.Stmt) (x : Judged p.Stmts) (s : Stop) → StopsAt x s → StopsAt (after_steps all x) s
after_steps_stop all x Memory h = tt
after_steps_stop all (Faulty g gs) (Rule f) h = h
after_steps_stop all (Holds vs) (Rule f) h = absurd cc

module _ (context : Context) (gives : Option Ty) (loop : Bool) (here : Here) (body : List Stmt) (i : ℕ) where
  pub stmts_step : (s : Stmt) (all : List p.Stmt) (r : p.Stmt) (now : Here) → i < length body → s ≡ get_or body i s → stmt context gives loop here (written.stmt_of s) ≡ Holds r → now ≡ behind_stmt context here (written.stmt_of s) →
      after_steps all (stmts context gives loop here (written.stmts_of (drop i body))) ≡ after_steps (all ++ r ∷ []) (stmts context gives loop now (written.stmts_of (drop (i + 1) body)))
  stmts_step s all r now l h held moved =
      let rest = stmts context gives loop (behind_stmt context here (written.stmt_of s)) (written.stmts_of (drop (i + 1) body)) in
      ap (λ xs. after_steps all (stmts context gives loop here (written.stmts_of xs))) (front body i s l h)
      ∙ ap (λ (x : Judged p.Stmt). after_steps all (with_parts x rest (λ a b. Holds (p.then a b)))) held ∙ steps-more all r rest
      ∙ ap (λ (n : Here). after_steps (all ++ r ∷ []) (stmts context gives loop n (written.stmts_of (drop (i + 1) body)))) (sym moved)

  pub stmts_end : (all : List p.Stmt) → length body ≤ i → after_steps all (stmts context gives loop here (written.stmts_of (drop i body))) ≡ Holds (stmts_listed all)
  stmts_end all l = ap (λ xs. after_steps all (stmts context gives loop here (written.stmts_of xs))) (none_left body i l) ∙ ap Holds (joined-end all)

  pub stmts_stop : (s : Stmt) (all : List p.Stmt) (st : Stop) → i < length body → s ≡ get_or body i s → StopsAt (stmt context gives loop here (written.stmt_of s)) st →
      StopsAt (after_steps all (stmts context gives loop here (written.stmts_of (drop i body)))) st
  stmts_stop s all st l h stops =
      rw (front body i s l h) (after_steps_stop all (stmts context gives loop here (written.stmts_of (s ∷ drop (i + 1) body))) st
      (left_stops (stmt context gives loop here (written.stmt_of s)) (stmts context gives loop (behind_stmt context here (written.stmt_of s)) (written.stmts_of (drop (i + 1) body))) (λ a b. Holds (p.then a b)) st stops))

  pub behind_step : (s : Stmt) (now : Here) → i < length body → s ≡ get_or body i s → now ≡ behind_stmt context here (written.stmt_of s) →
      behind_stmts context here (written.stmts_of (drop i body)) ≡ behind_stmts context now (written.stmts_of (drop (i + 1) body))
  behind_step s now l h moved = ap (λ xs. behind_stmts context here (written.stmts_of xs)) (front body i s l h) ∙ ap (λ (n : Here). behind_stmts context n (written.stmts_of (drop (i + 1) body))) (sym moved)

  pub behind_end : length body ≤ i → behind_stmts context here (written.stmts_of (drop i body)) ≡ here
  behind_end l = ap (λ xs. behind_stmts context here (written.stmts_of xs)) (none_left body i l)

module _ (context : Context) (here : Here) (ls : List Local) (i : ℕ) where
  pub locals_step : (l : Local) (all : List p.Stmt) (r : p.Stmt) (now : Here) → i < length ls → l ≡ get_or ls i l → local context here (written.local_of l) ≡ Holds r → now ≡ behind_local context here (written.local_of l) →
      after_steps all (locals context here (map written.local_of (drop i ls))) ≡ after_steps (all ++ r ∷ []) (locals context now (map written.local_of (drop (i + 1) ls)))
  locals_step l all r now w h held moved =
      let rest = locals context (behind_local context here (written.local_of l)) (map written.local_of (drop (i + 1) ls)) in
      ap (λ xs. after_steps all (locals context here (map written.local_of xs))) (front ls i l w h)
      ∙ ap (λ (x : Judged p.Stmt). after_steps all (with_parts x rest (λ a b. Holds (p.then a b)))) held ∙ steps-more all r rest
      ∙ ap (λ (n : Here). after_steps (all ++ r ∷ []) (locals context n (map written.local_of (drop (i + 1) ls)))) (sym moved)

  pub locals_end : (all : List p.Stmt) → length ls ≤ i → after_steps all (locals context here (map written.local_of (drop i ls))) ≡ Holds (stmts_listed all)
  locals_end all l = ap (λ xs. after_steps all (locals context here (map written.local_of xs))) (none_left ls i l) ∙ ap Holds (joined-end all)

  pub locals_stop : (l : Local) (all : List p.Stmt) (st : Stop) → i < length ls → l ≡ get_or ls i l → StopsAt (local context here (written.local_of l)) st →
      StopsAt (after_steps all (locals context here (map written.local_of (drop i ls)))) st
  locals_stop l all st w h stops =
      rw (front ls i l w h) (after_steps_stop all (locals context here (map written.local_of (l ∷ drop (i + 1) ls))) st
      (left_stops (local context here (written.local_of l)) (locals context (behind_local context here (written.local_of l)) (map written.local_of (drop (i + 1) ls))) (λ a b. Holds (p.then a b)) st stops))

  pub locals_behind : (l : Local) (now : Here) → i < length ls → l ≡ get_or ls i l → now ≡ behind_local context here (written.local_of l) →
      behind_locals context here (map written.local_of (drop i ls)) ≡ behind_locals context now (map written.local_of (drop (i + 1) ls))
  locals_behind l now w h moved = ap (λ xs. behind_locals context here (map written.local_of xs)) (front ls i l w h) ∙ ap (λ (n : Here). behind_locals context n (map written.local_of (drop (i + 1) ls))) (sym moved)

  pub locals_behind_end : length ls ≤ i → behind_locals context here (map written.local_of (drop i ls)) ≡ here
  locals_behind_end l = ap (λ xs. behind_locals context here (map written.local_of xs)) (none_left ls i l)
