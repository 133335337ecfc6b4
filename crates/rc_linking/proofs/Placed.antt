-- Deletions and annotations that are in their places in a file are so behind other files.
use Rattle.std.specs.Prelude.{◌≡◌, ℕ, List, [], ◌∷◌, ◌++◌, Option, Some, None, Bool, true, false, option_map, if◌then◌else◌}
use Rattle.std.proofs.Common.{refl, ap, ◌∙◌}
use Rattle.rc_syntax.specs.declared.tree.Spot.{Spot}
use Rattle.rc_syntax.specs.declared.tree.Name.{Name}
use Rattle.rc_syntax.specs.Tree as t
use Rattle.rc_core.specs.Types.{Ty}
use Rattle.rc_core.specs.Programs as p
use Rattle.rc_deletes.specs.Judged.{with_part, both}
use Rattle.rc_deletes.specs.Builtins.{row}
use Rattle.rc_deletes.specs.Scopes.{Context, Scope, Meaning, a_local, a_global, a_function, a_builtin, meaning_in}
use Rattle.rc_deletes.specs.Values.{valued, spot_of, as_value}
use Rattle.rc_deletes.specs.Calls.{callee_rule}
use Rattle.rc_deletes.specs.Expressions.{strings_in, base_rule, type_rule, name_rule, indexed_part, meant, values, value}
use Rattle.rc_deletes.specs.Statements.{Here, inside, behind, behind_option, behind_simple_option, declared, behind_local, behind_start, behind_stmt, right_side, alone_rule, new_name, local_type, value_option, condition, condition_option, expression_alone, simple, simple_option, local, locals, for_start, stmt, stmts}
use Rattle.rc_deletes.specs.Places.{or_own, where_deleting}
use Rattle.rc_deletes.specs.PlacedFaults.{PlacedFault, annotation, deletion, deletes_regions, is_of_local, call, within, within_all, whole, whole_option, given, simple as placed_simple, simple_option as placed_simple_option, local as placed_local, locals as placed_locals, for_start as placed_start, stmt as placed_stmt, stmts as placed_stmts}
use Rattle.rc_linking.specs.Calls.{calls_in, calls_in_option, calls_in_simple_option, calls_in_locals, calls_in_start, calls_in_stmt, calls_in_stmts}
use Rattle.rc_linking.specs.Moved.{moved_spot, moved_name, moved_base, moved_type, moved, moved_all, moved_option, moved_simple, moved_simple_option, moved_local, moved_locals, moved_start, moved_stmt, moved_stmts}
use Rattle.rc_linking.proofs.Calls.{Found, InScope}
use Rattle.rc_linking.proofs.Expressions.{Agree, BaseIs, base_sim, type_is}
use Rattle.rc_linking.proofs.Values.{ren_ty}
use Rattle.rc_linking.proofs.Statements.{IsHere, AreCallable, with_local_here, local_sim, start_sim, stmt_sim, inside_here, left, right}
use Rattle.rc_linking.proofs.Params.{IsHeld, sim_gives, held_first, held_second, held_part}

pub none_both : {A : Type 0} (xs ys : List A) → xs ++ ys ≡ [] → (xs ≡ []) × (ys ≡ [])
none_both [] ys h = (refl, h)
none_both (x ∷ xs) ys h = absurd cc

pub both_none : {A : Type 0} (xs ys : List A) → xs ≡ [] → ys ≡ [] → xs ++ ys ≡ []
both_none [] ys h k = k
both_none (x ∷ xs) ys h k = absurd cc

pub own_none : {A : Type 0} (xs ys : List A) → or_own xs ys ≡ [] → (xs ≡ []) × (ys ≡ [])
own_none [] ys h = (refl, h)
own_none (x ∷ xs) ys h = absurd cc

pub none_own : {A : Type 0} (xs ys : List A) → xs ≡ [] → ys ≡ [] → or_own xs ys ≡ []
none_own [] ys h k = k
none_own (x ∷ xs) ys h k = absurd cc

deletion_moved : (b d w : Bool) (at spot : Spot) → where_deleting b (deletion d w at) ≡ [] → where_deleting b (deletion d w spot) ≡ []
deletion_moved false d w at spot h = refl
deletion_moved true true true at spot h = refl
deletion_moved true true false at spot h = absurd cc
deletion_moved true false true at spot h = absurd cc
deletion_moved true false false at spot h = absurd cc

if_none : (b : Bool) (x y : PlacedFault) → (if b then x ∷ [] else []) ≡ [] → (if b then y ∷ [] else []) ≡ []
if_none false x y h = refl
if_none true x y h = absurd cc

pub annotation_moved : (n : ℕ) (at : Spot) (ty : t.TypeName) → annotation at ty ≡ [] → annotation (moved_spot n at) (moved_type n ty) ≡ []
annotation_moved n at ty h = if_none _ _ _ h

module _ (n : ℕ) (file all : Context) (ren : ℕ → ℕ) (agree : Agree file all ren) where
  deletes_same : (functions : List (List ℕ)) (name : List ℕ) (at : Spot) (m o : Option Meaning) → Found ren functions name m o → IsHeld (callee_rule at m) → deletes_regions o ≡ deletes_regions m
  deletes_same functions name at (Some (a_local x t)) (Some (a_local y u)) h k = refl
  deletes_same functions name at (Some (a_global g t c)) (Some (a_global i u d)) h k = refl
  deletes_same functions name at (Some (a_function i s)) (Some (a_function j r)) h k = h.0.deletes
  deletes_same functions name at (Some (a_builtin b)) (Some (a_builtin c)) h k = ap (λ x. (row x).deletes) h
  deletes_same functions name at None o h k = absurd k
  deletes_same functions name at (Some _) None h k = absurd h
  deletes_same functions name at (Some _) (Some _) h k = absurd h

  local_same : (functions : List (List ℕ)) (name : List ℕ) (at : Spot) (m o : Option Meaning) → Found ren functions name m o → IsHeld (name_rule at m) → is_of_local o ≡ is_of_local m
  local_same functions name at (Some (a_local x t)) (Some (a_local y u)) h k = refl
  local_same functions name at (Some (a_global g t c)) (Some (a_global i u d)) h k = refl
  local_same functions name at (Some (a_function i s)) (Some (a_function j r)) h k = refl
  local_same functions name at (Some (a_builtin b)) (Some (a_builtin c)) h k = refl
  local_same functions name at None o h k = absurd k
  local_same functions name at (Some _) None h k = absurd h
  local_same functions name at (Some _) (Some _) h k = absurd h

  module _ (names others : Scope) (scope : InScope ren all.functions names others) (d : Bool) where
    call_moved : (w : Bool) (name : Name) (xs ys : List PlacedFault) → IsHeld (callee_rule name.spot (meaning_in names name.text)) → (xs ≡ [] → ys ≡ []) → call names d w name xs ≡ [] → call others d w (moved_name n name) ys ≡ []
    call_moved w name xs ys held inner h =
        let q = own_none xs (where_deleting (deletes_regions (meaning_in names name.text)) (deletion d w name.spot)) h in
        none_own ys (where_deleting (deletes_regions (meaning_in others name.text)) (deletion d w (moved_spot n name.spot))) (inner q.0)
        (ap (λ b. where_deleting b (deletion d w (moved_spot n name.spot))) (deletes_same all.functions name.text name.spot (meaning_in names name.text) (meaning_in others name.text) (scope name.text) held)
        ∙ deletion_moved (deletes_regions (meaning_in names name.text)) d w name.spot (moved_spot n name.spot) q.1)

    held_value : (e : t.Expr) (before : List (List ℕ)) → IsHeld (valued e (meant file names before e)) → IsHeld (meant file names before e)
    held_value e before h = held_part (meant file names before e) (as_value (spot_of e)) h

    mutual
      pub within_moved : (before : List (List ℕ)) (e : t.Expr) → IsHeld (meant file names before e) → within names d e ≡ [] → within others d (moved n e) ≡ []
      within_moved before (t.number at v u) k h = refl
      within_moved before (t.character at c) k h = refl
      within_moved before (t.string at bytes) k h = refl
      within_moved before (t.null at) k h = refl
      within_moved before (t.eof at) k h = refl
      within_moved before (t.variable name) k h = refl
      within_moved before (t.call name args) k h =
          let x = callee_rule name.spot (meaning_in names name.text) in
          let y = values file names before args in
          call_moved false name (within_all names d args) (within_all others d (moved_all n args)) (held_first x y _ k) (within_all_moved before args (held_second x y _ k)) h
      within_moved before (t.ralloc at r ty) k h = within_moved before r (held_value r before (held_first (valued r (meant file names before r)) (type_rule file ty) _ k)) h
      within_moved before (t.rarrayalloc at r x ty) k h =
          let q = none_both (within names d r) (within names d x) h in
          let one = valued r (meant file names before r) in
          let two = valued x (meant file names (before ++ strings_in r) x) in
          let rest = held_second one (both two (type_rule file ty)) _ k in
          both_none (within others d (moved n r)) (within others d (moved n x)) (within_moved before r (held_value r before (held_first one (both two (type_rule file ty)) _ k)) q.0) (within_moved (before ++ strings_in r) x (held_value x (before ++ strings_in r) (held_first two (type_rule file ty) _ rest)) q.1)
      within_moved before (t.index at a x) k h =
          let q = none_both (within names d a) (within names d x) h in
          let one = with_part (meant file names before a) (indexed_part (spot_of a)) in
          let two = valued x (meant file names (before ++ strings_in a) x) in
          both_none (within others d (moved n a)) (within others d (moved n x)) (within_moved before a (held_part (meant file names before a) (indexed_part (spot_of a)) (held_first one two _ k)) q.0) (within_moved (before ++ strings_in a) x (held_value x (before ++ strings_in a) (held_second one two _ k)) q.1)
      within_moved before (t.member at a name) k h = within_moved before a (held_part (meant file names before a) _ k) h
      within_moved before (t.arrow at a name) k h = within_moved before a (held_value a before (held_part (valued a (meant file names before a)) _ k)) h
      within_moved before (t.unary at op a) k h = within_moved before a (held_part (meant file names before a) _ k) h
      within_moved before (t.cast at to a) k h = within_moved before a (held_value a before (held_part (valued a (meant file names before a)) _ k)) h
      within_moved before (t.binary at op a b) k h =
          let q = none_both (within names d a) (within names d b) h in
          let one = valued a (meant file names before a) in
          let two = valued b (meant file names (before ++ strings_in a) b) in
          both_none (within others d (moved n a)) (within others d (moved n b)) (within_moved before a (held_value a before (held_first one two _ k)) q.0) (within_moved (before ++ strings_in a) b (held_value b (before ++ strings_in a) (held_second one two _ k)) q.1)
      within_moved before (t.conditional at c a b) k h =
          let q = none_both (within names d c) (within names d a ++ within names d b) h in
          let r = none_both (within names d a) (within names d b) q.1 in
          let one = valued c (meant file names before c) in
          let two = valued a (meant file names (before ++ strings_in c) a) in
          let three = valued b (meant file names (before ++ strings_in c ++ strings_in a) b) in
          let rest = held_second one (both two three) _ k in
          both_none (within others d (moved n c)) (within others d (moved n a) ++ within others d (moved n b)) (within_moved before c (held_value c before (held_first one (both two three) _ k)) q.0)
          (both_none (within others d (moved n a)) (within others d (moved n b)) (within_moved (before ++ strings_in c) a (held_value a (before ++ strings_in c) (held_first two three _ rest)) r.0) (within_moved (before ++ strings_in c ++ strings_in a) b (held_value b (before ++ strings_in c ++ strings_in a) (held_second two three _ rest)) r.1))

      pub within_all_moved : (before : List (List ℕ)) (args : t.Exprs) → IsHeld (values file names before args) → within_all names d args ≡ [] → within_all others d (moved_all n args) ≡ []
      within_all_moved before t.none k h = refl
      within_all_moved before (t.more e rest) k h =
          let q = none_both (within names d e) (within_all names d rest) h in
          let one = valued e (meant file names before e) in
          let two = values file names (before ++ strings_in e) rest in
          both_none (within others d (moved n e)) (within_all others d (moved_all n rest)) (within_moved before e (held_value e before (held_first one two _ k)) q.0) (within_all_moved (before ++ strings_in e) rest (held_second one two _ k) q.1)

    -- where a call may be the whole
    pub whole_moved : (before : List (List ℕ)) (e : t.Expr) → IsHeld (meant file names before e) → whole names d e ≡ [] → whole others d (moved n e) ≡ []
    whole_moved before (t.call name args) k h =
        let x = callee_rule name.spot (meaning_in names name.text) in
        let y = values file names before args in
        call_moved true name (within_all names d args) (within_all others d (moved_all n args)) (held_first x y _ k) (within_all_moved before args (held_second x y _ k)) h
    whole_moved before e k h = within_moved before e k h

    alone_moved : (before : List (List ℕ)) (e : t.Expr) → IsHeld (expression_alone file names before e) → whole names d e ≡ [] → whole others d (moved n e) ≡ []
    alone_moved before (t.call name args) k h =
        let x = callee_rule name.spot (meaning_in names name.text) in
        let y = values file names before args in
        call_moved true name (within_all names d args) (within_all others d (moved_all n args)) (held_first x y _ k) (within_all_moved before args (held_second x y _ k)) h
    alone_moved before e k h = whole_moved before e (held_value e before (held_part {B = p.Stmt} (value file names before e) (alone_rule (spot_of e)) k)) h

    given_if : (b c : Bool) (x y u v : List PlacedFault) → c ≡ b → (x ≡ [] → u ≡ []) → (y ≡ [] → v ≡ []) → (if b then x else y) ≡ [] → (if c then u else v) ≡ []
    given_if true true x y u v e h k l = h l
    given_if false false x y u v e h k l = k l
    given_if true false x y u v e h k l = absurd cc
    given_if false true x y u v e h k l = absurd cc

    given_moved : (before after : List (List ℕ)) (l r : t.Expr) → IsHeld (meant file names before l) → IsHeld (meant file names after r) → given names d l r ≡ [] → given others d (moved n l) (moved n r) ≡ []
    given_moved before after (t.variable name) r k m h =
        given_if (is_of_local (meaning_in names name.text)) (is_of_local (meaning_in others name.text)) (whole names d r) (within names d r) (whole others d (moved n r)) (within others d (moved n r)) (local_same all.functions name.text name.spot (meaning_in names name.text) (meaning_in others name.text) (scope name.text) k)
        (whole_moved after r m) (within_moved after r m) h
    given_moved before after l r k m h = within_moved after r m h

    pub option_moved : (before : List (List ℕ)) (e : Option t.Expr) → IsHeld (value_option file names before e) → whole_option names d e ≡ [] → whole_option others d (moved_option n e) ≡ []
    option_moved before None k h = refl
    option_moved before (Some e) k h = whole_moved before e (held_value e before (held_part (value file names before e) _ k)) h

    pub condition_moved : (before : List (List ℕ)) (e : t.Expr) → IsHeld (condition file names before e) → whole names d e ≡ [] → whole others d (moved n e) ≡ []
    condition_moved before e k h = whole_moved before e (held_value e before (held_part (value file names before e) _ k)) h

    pub condition_option_moved : (before : List (List ℕ)) (e : Option t.Expr) → IsHeld (condition_option file names before e) → whole_option names d e ≡ [] → whole_option others d (moved_option n e) ≡ []
    condition_option_moved before None k h = refl
    condition_option_moved before (Some e) k h = condition_moved before e (held_part (condition file names before e) _ k) h

    pub simple_moved : (before : List (List ℕ)) (s : t.Simple) → IsHeld (simple file names before s) → placed_simple names d s ≡ [] → placed_simple others d (moved_simple n s) ≡ []
    simple_moved before (t.expression e) k h = alone_moved before e k h
    simple_moved before (t.assign at l r) k h =
        let q = none_both (within names d l) (given names d l r) h in
        let one = meant file names before l in
        let right = meant file names (before ++ strings_in l) r in
        let two = with_part right (right_side (spot_of r)) in
        let left_held = held_first one two _ k in
        both_none (within others d (moved n l)) (given others d (moved n l) (moved n r)) (within_moved before l left_held q.0) (given_moved before (before ++ strings_in l) l r left_held (held_part right (right_side (spot_of r)) (held_second one two _ k)) q.1)
    simple_moved before (t.update at op l r) k h =
        let q = none_both (within names d l) (within names d r) h in
        let one = meant file names before l in
        let two = value file names (before ++ strings_in l) r in
        both_none (within others d (moved n l)) (within others d (moved n r)) (within_moved before l (held_first one two _ k) q.0) (within_moved (before ++ strings_in l) r (held_value r (before ++ strings_in l) (held_second one two _ k)) q.1)
    simple_moved before (t.step_after at op l) k h = within_moved before l (held_part (meant file names before l) _ k) h
    simple_moved before (t.step_before at op l) k h = within_moved before l (held_part (meant file names before l) _ k) h

    pub simple_option_moved : (before : List (List ℕ)) (s : Option t.Simple) → IsHeld (simple_option file names before s) → placed_simple_option names d s ≡ [] → placed_simple_option others d (moved_simple_option n s) ≡ []
    simple_option_moved before None k h = refl
    simple_option_moved before (Some s) k h = simple_moved before s k h

  -- statements
  abbrev Near : Here → Here → Type 0
  Near here there = IsHere n file all ren agree here there

  module _ (d : Bool) where
    local_moved : (here there : Here) (l : t.Local) → Near here there → IsHeld (local file here l) → placed_local file d here l ≡ [] → placed_local all d there (moved_local n l) ≡ []
    local_moved here there l near k h =
        let x = base_rule file l.type_name.base in
        let y = new_name here.first here.names l.name in
        let z = value_option file (declared file here l).names here.strings l.initial in
        let based = sim_gives (BaseIs n file all ren agree l.type_name.base tt tt) x (base_rule all (moved_base n l.type_name.base)) (base_sim n file all ren agree l.type_name.base) (held_first x (both y z) _ k) in
        let inner : Near (declared file here l) (declared all there (moved_local n l)) = with_local_here n file all ren agree here there (local_type file l) (local_type all (moved_local n l)) l.name.text (type_is n file all ren agree l.type_name based) near in
        let q = own_none (whole_option (declared file here l).names d l.initial) (annotation l.spot l.type_name) h in
        none_own (whole_option (declared all there (moved_local n l)).names d (moved_option n l.initial)) (annotation (moved_spot n l.spot) (moved_type n l.type_name))
        (option_moved (declared file here l).names (declared all there (moved_local n l)).names inner.0 d here.strings l.initial (held_second y z _ (held_second x (both y z) _ k)) q.0)
        (annotation_moved n l.spot l.type_name q.1)

    locals_moved : (here there : Here) (ls : List t.Local) → Near here there → AreCallable n file all ren agree (calls_in_locals ls) → IsHeld (locals file here ls) → placed_locals file d here ls ≡ [] → placed_locals all d there (moved_locals n ls) ≡ []
    locals_moved here there [] near c k h = refl
    locals_moved here there (l ∷ ls) near c k h =
        let x = local file here l in
        let y = locals file (behind_local file here l) ls in
        let q = none_both (placed_local file d here l) (placed_locals file d (behind_local file here l) ls) h in
        let one = held_first x y _ k in
        let next : Near (behind_local file here l) (behind_local all there (moved_local n l)) = sim_gives (Near (behind_local file here l) (behind_local all there (moved_local n l))) x (local all there (moved_local n l)) (local_sim n file all ren agree here there l near (left n file all ren agree (calls_in_option l.initial) (calls_in_locals ls) c)) one in
        both_none (placed_local all d there (moved_local n l)) (placed_locals all d (behind_local all there (moved_local n l)) (moved_locals n ls)) (local_moved here there l near one q.0)
        (locals_moved (behind_local file here l) (behind_local all there (moved_local n l)) ls next (right n file all ren agree (calls_in_option l.initial) (calls_in_locals ls) c) (held_second x y _ k) q.1)

    start_moved : (here there : Here) (s : t.ForStart) → Near here there → AreCallable n file all ren agree (calls_in_start s) → IsHeld (for_start file here s) → placed_start file d here s ≡ [] → placed_start all d there (moved_start n s) ≡ []
    start_moved here there t.nothing near c k h = refl
    start_moved here there (t.simply s) near c k h = simple_moved here.names there.names near.0 d here.strings s k h
    start_moved here there (t.locals ls) near c k h = locals_moved here there ls near c (held_part (locals file here ls) _ k) h

    module _ (result : Option Ty) where
      mutual
        pub stmt_moved : (loop : Bool) (here there : Here) (s : t.Stmt) → Near here there → AreCallable n file all ren agree (calls_in_stmt s) → IsHeld (stmt file result loop here s) → placed_stmt file d here s ≡ [] → placed_stmt all d there (moved_stmt n s) ≡ []
        stmt_moved loop here there (t.local l) near c k h = local_moved here there l near k h
        stmt_moved loop here there (t.block at body) near c k h = stmts_moved loop (inside here) (inside there) body (inside_here n file all ren agree here there near) c (held_part (stmts file result loop (inside here) body) _ k) h
        stmt_moved loop here there (t.empty at) near c k h = refl
        stmt_moved loop here there (t.simple at s) near c k h = simple_moved here.names there.names near.0 d here.strings s k h
        stmt_moved loop here there (t.if_then at e a) near c k h =
            let x = condition file here.names here.strings e in
            let y = stmt file result loop (behind here e) a in
            let q = none_both (whole here.names d e) (placed_stmt file d (behind here e) a) h in
            both_none (whole there.names d (moved n e)) (placed_stmt all d (behind there (moved n e)) (moved_stmt n a)) (condition_moved here.names there.names near.0 d here.strings e (held_first x y _ k) q.0)
            (stmt_moved loop (behind here e) (behind there (moved n e)) a near (right n file all ren agree (calls_in e) (calls_in_stmt a) c) (held_second x y _ k) q.1)
        stmt_moved loop here there (t.if_else at e a b) near c k h =
            let one = behind here e in
            let one_there = behind there (moved n e) in
            let two = behind_stmt file one a in
            let two_there = behind_stmt all one_there (moved_stmt n a) in
            let x = condition file here.names here.strings e in
            let y = stmt file result loop one a in
            let z = stmt file result loop two b in
            let rest = right n file all ren agree (calls_in e) (calls_in_stmt a ++ calls_in_stmt b) c in
            let ca = left n file all ren agree (calls_in_stmt a) (calls_in_stmt b) rest in
            let arms = held_second x (both y z) _ k in
            let ya = held_first y z _ arms in
            let q = none_both (whole here.names d e) (placed_stmt file d one a ++ placed_stmt file d two b) h in
            let r = none_both (placed_stmt file d one a) (placed_stmt file d two b) q.1 in
            let next : Near two two_there = sim_gives (Near two two_there) y (stmt all (option_map (ren_ty ren) result) loop one_there (moved_stmt n a)) (stmt_sim n file all ren agree result loop one one_there a near ca) ya in
            both_none (whole there.names d (moved n e)) (placed_stmt all d one_there (moved_stmt n a) ++ placed_stmt all d two_there (moved_stmt n b)) (condition_moved here.names there.names near.0 d here.strings e (held_first x (both y z) _ k) q.0)
            (both_none (placed_stmt all d one_there (moved_stmt n a)) (placed_stmt all d two_there (moved_stmt n b)) (stmt_moved loop one one_there a near ca ya r.0)
            (stmt_moved loop two two_there b next (right n file all ren agree (calls_in_stmt a) (calls_in_stmt b) rest) (held_second y z _ arms) r.1))
        stmt_moved loop here there (t.while_do at e a) near c k h =
            let x = condition file here.names here.strings e in
            let y = stmt file result true (behind here e) a in
            let q = none_both (whole here.names d e) (placed_stmt file d (behind here e) a) h in
            both_none (whole there.names d (moved n e)) (placed_stmt all d (behind there (moved n e)) (moved_stmt n a)) (condition_moved here.names there.names near.0 d here.strings e (held_first x y _ k) q.0)
            (stmt_moved true (behind here e) (behind there (moved n e)) a near (right n file all ren agree (calls_in e) (calls_in_stmt a) c) (held_second x y _ k) q.1)
        stmt_moved loop here there (t.do_while at a e) near c k h =
            let one = behind_stmt file here a in
            let one_there = behind_stmt all there (moved_stmt n a) in
            let x = stmt file result true here a in
            let y = condition file one.names one.strings e in
            let ca = left n file all ren agree (calls_in_stmt a) (calls_in e) c in
            let held = held_first x y _ k in
            let q = none_both (placed_stmt file d here a) (whole one.names d e) h in
            let next : Near one one_there = sim_gives (Near one one_there) x (stmt all (option_map (ren_ty ren) result) true there (moved_stmt n a)) (stmt_sim n file all ren agree result true here there a near ca) held in
            both_none (placed_stmt all d there (moved_stmt n a)) (whole one_there.names d (moved n e)) (stmt_moved true here there a near ca held q.0) (condition_moved one.names one_there.names next.0 d one.strings e (held_second x y _ k) q.1)
        stmt_moved loop here there (t.for_do at start e next a) near c k h =
            let one = inside here in
            let one_there = inside there in
            let two = behind_start file one start in
            let two_there = behind_start all one_there (moved_start n start) in
            let three = behind_option two e in
            let three_there = behind_option two_there (moved_option n e) in
            let four = behind_simple_option three next in
            let four_there = behind_simple_option three_there (moved_simple_option n next) in
            let inner = inside_here n file all ren agree here there near in
            let w = for_start file one start in
            let x = condition_option file two.names two.strings e in
            let y = simple_option file three.names three.strings next in
            let z = stmt file result true four a in
            let cs = left n file all ren agree (calls_in_start start) (calls_in_option e ++ (calls_in_simple_option next ++ calls_in_stmt a)) c in
            let ce = right n file all ren agree (calls_in_start start) (calls_in_option e ++ (calls_in_simple_option next ++ calls_in_stmt a)) c in
            let cn = right n file all ren agree (calls_in_option e) (calls_in_simple_option next ++ calls_in_stmt a) ce in
            let ca = right n file all ren agree (calls_in_simple_option next) (calls_in_stmt a) cn in
            let wx = held_first (both w x) (both y z) _ k in
            let yz = held_second (both w x) (both y z) _ k in
            let ws = held_first w x _ wx in
            let after : Near two two_there = sim_gives (Near two two_there) w (for_start all one_there (moved_start n start)) (start_sim n file all ren agree one one_there start inner cs) ws in
            let q = none_both (placed_start file d one start) (whole_option two.names d e ++ (placed_simple_option three.names d next ++ placed_stmt file d four a)) h in
            let r = none_both (whole_option two.names d e) (placed_simple_option three.names d next ++ placed_stmt file d four a) q.1 in
            let s = none_both (placed_simple_option three.names d next) (placed_stmt file d four a) r.1 in
            both_none (placed_start all d one_there (moved_start n start)) (whole_option two_there.names d (moved_option n e) ++ (placed_simple_option three_there.names d (moved_simple_option n next) ++ placed_stmt all d four_there (moved_stmt n a))) (start_moved one one_there start inner cs ws q.0)
            (both_none (whole_option two_there.names d (moved_option n e)) (placed_simple_option three_there.names d (moved_simple_option n next) ++ placed_stmt all d four_there (moved_stmt n a)) (condition_option_moved two.names two_there.names after.0 d two.strings e (held_second w x _ wx) r.0)
            (both_none (placed_simple_option three_there.names d (moved_simple_option n next)) (placed_stmt all d four_there (moved_stmt n a)) (simple_option_moved three.names three_there.names after.0 d three.strings next (held_first y z _ yz) s.0)
            (stmt_moved true four four_there a after ca (held_second y z _ yz) s.1)))
        stmt_moved loop here there (t.break_loop at) near c k h = refl
        stmt_moved loop here there (t.continue_loop at) near c k h = refl
        stmt_moved loop here there (t.return_with at e) near c k h = option_moved here.names there.names near.0 d here.strings e (held_part (value_option file here.names here.strings e) _ k) h

        pub stmts_moved : (loop : Bool) (here there : Here) (body : t.Stmts) → Near here there → AreCallable n file all ren agree (calls_in_stmts body) → IsHeld (stmts file result loop here body) → placed_stmts file d here body ≡ [] → placed_stmts all d there (moved_stmts n body) ≡ []
        stmts_moved loop here there t.done near c k h = refl
        stmts_moved loop here there (t.next s rest) near c k h =
            let one = behind_stmt file here s in
            let one_there = behind_stmt all there (moved_stmt n s) in
            let x = stmt file result loop here s in
            let y = stmts file result loop one rest in
            let cs = left n file all ren agree (calls_in_stmt s) (calls_in_stmts rest) c in
            let held = held_first x y _ k in
            let q = none_both (placed_stmt file d here s) (placed_stmts file d one rest) h in
            let next : Near one one_there = sim_gives (Near one one_there) x (stmt all (option_map (ren_ty ren) result) loop there (moved_stmt n s)) (stmt_sim n file all ren agree result loop here there s near cs) held in
            both_none (placed_stmt all d there (moved_stmt n s)) (placed_stmts all d one_there (moved_stmts n rest)) (stmt_moved loop here there s near cs held q.0) (stmts_moved loop one one_there rest next (right n file all ren agree (calls_in_stmt s) (calls_in_stmts rest) c) (held_second x y _ k) q.1)
