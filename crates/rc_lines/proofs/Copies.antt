-- Updates and copies: pieces of code that read operands which stay in locals.
use Rattle.std.proofs.Common.{◌≡◌, ◌<◌, ◌≤◌, ◌+◌, ℕ, suc, List, [], ◌∷◌, ◌++◌, length, get_or, map, drop, refl, sym, ap, ◌∙◌, arith}
use Rattle.std.proofs.Math.Seq.{drop-cons}
use Rattle.std.proofs.Math.ListN.{drop_of_length-le}
use Rattle.std.proofs.lemmas.List.{append_assoc, append-nil}
use Rattle.std.specs.Prelude.{Result, Ok, Err, OnOk}
use Rattle.rc_core.specs.Types.{int_cell}
use Rattle.rc_core.specs.Layout.{Layout}
use Rattle.rc_rlang.specs.RegionCode.{Access, width}
use Rattle.rc_rlang.specs.RegionFits.{place_types}
use Rattle.rc_rlang.specs.Shapes.{access_of}
use Rattle.rc_rlang.specs.declared.access.Access.{Access as CodeAccess}
use Rattle.rc_emission.specs.StackCode.{Instruction, Line, load, store}
use Rattle.rc_emission.specs.OperationCode.{at}
use Rattle.rc_emission.specs.StatementCode.{gets, cells_code, cell_type, further}
use Rattle.rc_lines.specs.declared.body.Body.{Body}
use Rattle.rc_lines.specs.declared.instruction.Line.{Line as CodeLine}
use Rattle.rc_lines.specs.declared.operands.Operand.{Operand}
use Rattle.rc_lines.specs.Bare.{bare, bare_all, bare_code, bare_access, lines_of}
use Rattle.rc_lines.specs.Operands.{type_of}
use Rattle.rc_lines.specs.Over.{deleting_in, types_in, slot_in}
use Rattle.rc_lines.proofs.TwoWays.{behind}
use Rattle.rc_lines.proofs.Walking.{at_bare}

pub joined : (line : ℕ) (a b : List Instruction) → at line (bare_all a) ++ at line (bare_all b) ≡ at line (bare_all (a ++ b))
joined line [] b = refl
joined line (i ∷ a) b = ap (λ ls. record { line = line; instruction = bare 0 i } ∷ ls) (joined line a b)

pub at_both : (line : ℕ) (a b : List Instruction) → at line (a ++ b) ≡ at line a ++ at line b
at_both line [] b = refl
at_both line (i ∷ a) b = ap (λ ls. record { line = line; instruction = i } ∷ ls) (at_both line a b)

-- two pieces that were added are one
pub added : (line : ℕ) (a b : List Instruction) (o l1 l2 : List Line) → l1 ≡ o ++ at line (bare_all a) → l2 ≡ l1 ++ at line (bare_all b) → l2 ≡ o ++ at line (bare_all (a ++ b))
added line a b o l1 l2 e f = behind o (at line (bare_all a)) (at line (bare_all b)) l1 l2 e f ∙ ap (λ ls. o ++ ls) (joined line a b)

pub updated : (line : ℕ) (S G C : List Instruction) (ld st : Instruction) (o l1 l2 l3 l4 l5 l6 : List Line) → l1 ≡ o ++ at line (bare_all S) → l2 ≡ l1 ++ at line (bare_all G) → l3 ≡ l2 ++ at line (bare_all G) → l4 ≡ l3 ++ at line (bare_all (ld ∷ [])) → l5 ≡ l4 ++ at line (bare_all C) → l6 ≡ l5 ++ at line (bare_all (st ∷ [])) →
    l6 ≡ o ++ bare_code 0 (at line (S ++ (G ++ (G ++ (ld ∷ (C ++ st ∷ []))))))
updated line S G C ld st o l1 l2 l3 l4 l5 l6 e1 e2 e3 e4 e5 e6 =
    let a2 = added line S G o l1 l2 e1 e2 in
    let a3 = added line (S ++ G) G o l2 l3 a2 e3 in
    let a4 = added line ((S ++ G) ++ G) (ld ∷ []) o l3 l4 a3 e4 in
    let a5 = added line (((S ++ G) ++ G) ++ ld ∷ []) C o l4 l5 a4 e5 in
    let a6 = added line ((((S ++ G) ++ G) ++ ld ∷ []) ++ C) (st ∷ []) o l5 l6 a5 e6 in
    a6 ∙ ap (λ is. o ++ at line (bare_all is)) (simp append_assoc refl) ∙ ap (λ ls. o ++ ls) (at_bare line (S ++ (G ++ (G ++ (ld ∷ (C ++ st ∷ []))))))

-- an access so many cells further
abbrev pub far : ℕ → Access → Access
far n a = record a { offset = a.offset + n }

far_none : (a : Access) → far 0 a ≡ a
far_none a = let e : a.offset + 0 ≡ a.offset = omega arith in ap (λ n. record a { offset = n }) e

far_more : (n : ℕ) (a : Access) → further (far n a) ≡ far (n + 1) a
far_more n a = let e : suc (a.offset + n) ≡ a.offset + (n + 1) = omega arith in ap (λ k. record a { offset = k }) e

module _ (b : Body) (line : ℕ) (left right : CodeAccess) (lefts rights : List Operand) (old : List CodeLine) (count : ℕ) where
  abbrev pub copied : Layout → Access → Access → List Instruction
  copied kinds l r = cells_code (slot_in b) (deleting_in b) (types_in b) kinds l r

  abbrev pub got : ℕ → List Operand → List Instruction
  got h operands = gets (slot_in b) (deleting_in b) (types_in b) h (map type_of operands)

  -- what is left to do when so many cells are copied
  pub record Copying (out : List CodeLine) (i : ℕ) : Type 0 where
    pub lines : (kinds : Layout) → length kinds ≡ count → map type_of lefts ≡ place_types (access_of left) → map type_of rights ≡ place_types (access_of right) →
        lines_of out ++ at line (bare_all (copied (drop i kinds) (far i (access_of left)) (far i (access_of right)))) ≡ lines_of old ++ at line (bare_all (copied kinds (access_of left) (access_of right)))

  pub copy_begins : Copying old 0
  copy_begins = record { lines = λ kinds n l r. ap (λ a. lines_of old ++ at line (bare_all (copied kinds a (far 0 (access_of right))))) (far_none (access_of left)) ∙ ap (λ a. lines_of old ++ at line (bare_all (copied kinds (access_of left) a))) (far_none (access_of right)) }

  pub copy_goes_on : (out : List CodeLine) (l1 l2 l3 l4 : List Line) (i second : ℕ) → i < count → second ≡ width (access_of left) → Copying out i →
      l1 ≡ lines_of out ++ at line (bare_all (got 0 lefts)) → l2 ≡ l1 ++ at line (bare_all (got second rights)) → l3 ≡ l2 ++ at line (load (bare_access (far i (access_of right))) ∷ []) → l4 ≡ l3 ++ at line (store (bare_access (far i (access_of left))) ∷ []) →
      (kinds : Layout) → length kinds ≡ count → map type_of lefts ≡ place_types (access_of left) → map type_of rights ≡ place_types (access_of right) →
      l4 ++ at line (bare_all (copied (drop (i + 1) kinds) (far (i + 1) (access_of left)) (far (i + 1) (access_of right)))) ≡ lines_of old ++ at line (bare_all (copied kinds (access_of left) (access_of right)))
  copy_goes_on out l1 l2 l3 l4 i second h s c e1 e2 e3 e4 kinds n pl pr =
      let a = access_of left in
      let r = access_of right in
      let kind = get_or kinds i int_cell in
      let g1 = gets (slot_in b) (deleting_in b) (types_in b) 0 (place_types a) in
      let g2 = gets (slot_in b) (deleting_in b) (types_in b) (width a) (place_types r) in
      let ld = load (record (far i r) { cell = cell_type kind }) in
      let st = store (record (far i a) { cell = cell_type kind }) in
      let f1 = e1 ∙ ap (λ tys. lines_of out ++ at line (bare_all (gets (slot_in b) (deleting_in b) (types_in b) 0 tys))) pl in
      let f2 = e2 ∙ ap (λ tys. l1 ++ at line (bare_all (gets (slot_in b) (deleting_in b) (types_in b) second tys))) pr ∙ ap (λ m. l1 ++ at line (bare_all (gets (slot_in b) (deleting_in b) (types_in b) m (place_types r)))) s in
      let a2 = added line g1 g2 (lines_of out) l1 l2 f1 f2 in
      let a3 = added line (g1 ++ g2) (ld ∷ []) (lines_of out) l2 l3 a2 e3 in
      let a4 = added line ((g1 ++ g2) ++ ld ∷ []) (st ∷ []) (lines_of out) l3 l4 a3 e4 in
      let rest = copied (drop (i + 1) kinds) (far (i + 1) a) (far (i + 1) r) in
      let rest1 = copied (drop (suc i) kinds) (further (far i a)) (further (far i r)) in
      let same : rest ≡ rest1 =
      let k : i + 1 ≡ suc i = omega arith in
      ap (λ m. copied (drop m kinds) (far (i + 1) a) (far (i + 1) r)) k ∙ ap (λ x. copied (drop (suc i) kinds) x (far (i + 1) r)) (sym (far_more i a)) ∙ ap (λ x. copied (drop (suc i) kinds) (further (far i a)) x) (sym (far_more i r)) in
      let flat : (((g1 ++ g2) ++ ld ∷ []) ++ st ∷ []) ++ rest1 ≡ g1 ++ (g2 ++ (ld ∷ st ∷ rest1)) = simp append_assoc refl in
      ap (λ ls. ls ++ at line (bare_all rest)) a4
      ∙ append_assoc (lines_of out) (at line (bare_all (((g1 ++ g2) ++ ld ∷ []) ++ st ∷ []))) (at line (bare_all rest))
      ∙ ap (λ ls. lines_of out ++ ls) (joined line (((g1 ++ g2) ++ ld ∷ []) ++ st ∷ []) rest)
      ∙ ap (λ is. lines_of out ++ at line (bare_all ((((g1 ++ g2) ++ ld ∷ []) ++ st ∷ []) ++ is))) same
      ∙ ap (λ is. lines_of out ++ at line (bare_all is)) flat
      ∙ ap (λ ks. lines_of out ++ at line (bare_all (copied ks (far i a) (far i r)))) (sym (drop-cons kinds i int_cell (omega (arith, h, n))))
      ∙ c.lines kinds n pl pr

  pub copy_ends : (out : List CodeLine) (i : ℕ) → count ≤ i → Copying out i → (kinds : Layout) → length kinds ≡ count → map type_of lefts ≡ place_types (access_of left) → map type_of rights ≡ place_types (access_of right) → lines_of out ≡ lines_of old ++ at line (bare_all (copied kinds (access_of left) (access_of right)))
  copy_ends out i h c kinds n pl pr =
      sym (append-nil (lines_of out)) ∙ ap (λ ks. lines_of out ++ at line (bare_all (copied ks (far i (access_of left)) (far i (access_of right))))) (sym (drop_of_length-le kinds (omega (arith, h, n)))) ∙ c.lines kinds n pl pr

-- what follows from a clause on an answer that is no error
pub in_ok : {A E : Type 0} (r : Result A E) (P Q : Type 0) → (P → Q) → OnOk r P → OnOk r Q
in_ok (Ok x) P Q f p = f p
in_ok (Err e) P Q f p = tt
