-- Annotations and deletions of regions that stand where they may not, each at the first word of its node. They are read off the
-- tree alone, by what its names stand for. Faults come in the order of the text, and what has a fault inside has none of its own.
use Rattle.std.specs.Prelude.{ℕ, List, [], ◌∷◌, ◌++◌, Option, Some, None, Bool, true, false, slice_get, length, ◌-◌, if◌then◌else◌}
use Rattle.rc_syntax.specs.declared.tree.Spot.{Spot}
use Rattle.rc_syntax.specs.declared.tree.Name.{Name}
use Rattle.rc_syntax.specs.Tree as t
use Rattle.rc_deletes.specs.Builtins.{row}
use Rattle.rc_deletes.specs.declared.deletes.DeletesFault.{DeletesFault}
use Rattle.rc_deletes.specs.declared.deletes.DeletesFault.TheVariants.{AnnotationPlace, NotDeletes, DeletesPlace}
use Rattle.rc_deletes.specs.Scopes.{Context, Scope, Meaning, a_local, a_function, a_builtin, meaning_in}
use Rattle.rc_deletes.specs.Statements.{Here, inside, behind, behind_option, behind_simple_option, declared, behind_local, behind_start, behind_stmt}
use Rattle.rc_deletes.specs.Items.{Outside, with_function, with_params, before_params, behind_item, context_of, at_the_start}
use Rattle.rc_deletes.specs.Places.{or_own, where_deleting, is_annotated}

-- an annotation on the last star of a local, parameter or result; a deletion in a function without `deletes`; a deletion that
-- is not the whole of its place
pub data Misplaced : Type 0 where
  annotated : Misplaced
  not_allowed : Misplaced
  not_whole : Misplaced

pub record PlacedFault : Type 0 where
  pub at : Spot
  pub what : Misplaced

abbrev pub fault : Spot → Misplaced → PlacedFault
fault at what = record { at = at; what = what }

-- a fault by its line alone
abbrev pub on_line : ℕ → Misplaced → DeletesFault
on_line line annotated = AnnotationPlace line
on_line line not_allowed = NotDeletes line
on_line line not_whole = DeletesPlace line

abbrev pub without_place : PlacedFault → DeletesFault
without_place f = on_line f.at.line f.what

-- the last star of a type is annotated
abbrev pub annotation : Spot → t.TypeName → List PlacedFault
annotation at n = if is_annotated (slice_get n.stars (length n.stars - 1)) then fault at annotated ∷ [] else []

abbrev pub params : List t.Param → List PlacedFault
params [] = []
params (q ∷ qs) = annotation q.spot q.type_name ++ params qs

abbrev pub result : Spot → Option t.TypeName → List PlacedFault
result at None = []
result at (Some n) = annotation at n

-- a deletion in a function that deletes or doesn't, as the whole of its place or not
abbrev pub deletion : (deletes whole : Bool) → Spot → List PlacedFault
deletion true true at = []
deletion true false at = fault at not_whole ∷ []
deletion false true at = fault at not_allowed ∷ []
deletion false false at = fault at not_allowed ∷ fault at not_whole ∷ []

-- a call of what a name stands for deletes regions
abbrev pub deletes_regions : Option Meaning → Bool
deletes_regions (Some (a_function number s)) = s.deletes
deletes_regions (Some (a_builtin b)) = (row b).deletes
deletes_regions meaning = false

abbrev pub is_of_local : Option Meaning → Bool
is_of_local (Some (a_local x ty)) = true
is_of_local meaning = false

-- a call: the faults of its arguments, or else its own
abbrev pub call : Scope → (deletes whole : Bool) → Name → List PlacedFault → List PlacedFault
call names deletes whole name inner = or_own inner (where_deleting (deletes_regions (meaning_in names name.text)) (deletion deletes whole name.spot))

-- in a function that deletes or doesn't
module _ (names : Scope) (deletes : Bool) where
  -- where no deletion may stand
  abbrev mutual
    pub within : t.Expr → List PlacedFault
    within (t.number at n u) = []
    within (t.character at c) = []
    within (t.string at bytes) = []
    within (t.null at) = []
    within (t.eof at) = []
    within (t.variable name) = []
    within (t.call name args) = call names deletes false name (within_all args)
    within (t.ralloc at r n) = within r
    within (t.rarrayalloc at r k n) = within r ++ within k
    within (t.index at a k) = within a ++ within k
    within (t.member at a name) = within a
    within (t.arrow at a name) = within a
    within (t.unary at op a) = within a
    within (t.cast at to a) = within a
    within (t.binary at op a b) = within a ++ within b
    within (t.conditional at c a b) = within c ++ (within a ++ within b)

    pub within_all : t.Exprs → List PlacedFault
    within_all t.none = []
    within_all (t.more e rest) = within e ++ within_all rest

  -- where a deletion may be the whole: an expression statement, what a local is given, a condition, a returned value
  abbrev pub whole : t.Expr → List PlacedFault
  whole (t.call name args) = call names deletes true name (within_all args)
  whole e = within e

  abbrev pub whole_option : Option t.Expr → List PlacedFault
  whole_option None = []
  whole_option (Some e) = whole e

  -- what is assigned: a local is given a whole, any other place is not
  abbrev pub given : t.Expr → t.Expr → List PlacedFault
  given (t.variable name) r = if is_of_local (meaning_in names name.text) then whole r else within r
  given l r = within r

  abbrev pub simple : t.Simple → List PlacedFault
  simple (t.expression e) = whole e
  simple (t.assign at l r) = within l ++ given l r
  simple (t.update at op l r) = within l ++ within r
  simple (t.step_after at op l) = within l
  simple (t.step_before at op l) = within l

  abbrev pub simple_option : Option t.Simple → List PlacedFault
  simple_option None = []
  simple_option (Some s) = simple s

module _ (context : Context) (deletes : Bool) where
  abbrev pub local : Here → t.Local → List PlacedFault
  local here l = or_own (whole_option (declared context here l).names deletes l.initial) (annotation l.spot l.type_name)

  abbrev pub locals : Here → List t.Local → List PlacedFault
  locals here [] = []
  locals here (l ∷ ls) = local here l ++ locals (behind_local context here l) ls

  abbrev pub for_start : Here → t.ForStart → List PlacedFault
  for_start here t.nothing = []
  for_start here (t.simply s) = simple here.names deletes s
  for_start here (t.locals ls) = locals here ls

  abbrev mutual
    pub stmt : Here → t.Stmt → List PlacedFault
    stmt here (t.local l) = local here l
    stmt here (t.block at body) = stmts (inside here) body
    stmt here (t.empty at) = []
    stmt here (t.simple at s) = simple here.names deletes s
    stmt here (t.if_then at c a) = whole here.names deletes c ++ stmt (behind here c) a
    stmt here (t.if_else at c a b) = whole here.names deletes c ++ (stmt (behind here c) a ++ stmt (behind_stmt context (behind here c) a) b)
    stmt here (t.while_do at c a) = whole here.names deletes c ++ stmt (behind here c) a
    stmt here (t.do_while at a c) = stmt here a ++ whole (behind_stmt context here a).names deletes c
    stmt here (t.for_do at start c next a) =
        let one = inside here in
        let two = behind_start context one start in
        let three = behind_option two c in
        for_start one start ++ (whole_option two.names deletes c ++ (simple_option three.names deletes next ++ stmt (behind_simple_option three next) a))
    stmt here (t.break_loop at) = []
    stmt here (t.continue_loop at) = []
    stmt here (t.return_with at e) = whole_option here.names deletes e

    pub stmts : Here → t.Stmts → List PlacedFault
    stmts here t.done = []
    stmts here (t.next s rest) = stmt here s ++ stmts (behind_stmt context here s) rest

  abbrev pub body_option : Here → Option t.Stmts → List PlacedFault
  body_option here None = []
  body_option here (Some body) = stmts here body

module _ (context : Context) where
  abbrev pub item : Outside → t.Item → List PlacedFault
  item o (t.struct at name fields) = []
  item o (t.global at n name count c) = []
  item o (t.function at deletes gives name qs body) =
      or_own (params qs ++ body_option context deletes (with_params context (before_params (with_function context o deletes gives name qs)) qs) body) (result at gives)

  abbrev pub items : Outside → List t.Item → List PlacedFault
  items o [] = []
  items o (i ∷ is) = item o i ++ items (behind_item context o i) is

abbrev pub placed_faults : t.Tree → List PlacedFault
placed_faults tree = items (context_of tree.items) at_the_start tree.items
