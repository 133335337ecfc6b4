-- Statements one after another, the last one first.
use Rattle.std.proofs.Common.{◌≡◌, ◌<◌, ◌≤◌, ℕ, zero, suc, ◌+◌, ◌-◌, List, [], ◌∷◌, ◌++◌, length, drop, get_or, refl, sym, ap, ◌∙◌, subst, arith}
use Rattle.std.specs.Prelude.{Bool, Result, Ok, Err, OnOk, IfOk}
use Rattle.std.proofs.Math.Seq.{drop-cons}
use Rattle.rc_core.specs.Live.{Ways, then_live}
use Rattle.rc_rlang.specs.declared.code.Code.{Code as CodeCode}
use Rattle.rc_rlang.specs.RegionCode.{Steps, Code, simple, clear, block, branch, loop, repeat, break, continue, Codes, done, then}
use Rattle.rc_rlang.specs.RegionLive.{before_codes}
use Rattle.rc_rlang.specs.RegionPoints.{code_points, codes_points}
use Rattle.rc_emission.specs.StatementCode.{Place, steps_lines, code_lines, codes_lines, code_size, codes_size}
use Rattle.rc_lines.specs.declared.body.Body.{Body}
use Rattle.rc_lines.specs.declared.instruction.Line.{Line as CodeLine}
use Rattle.rc_lines.specs.Bare.{bare_code}
use Rattle.rc_lines.specs.Over.{deleting_in, types_in, slot_in}
use Rattle.rc_program_code.specs.declared.leads.Leads.{Leads}
use Rattle.rc_program_code.specs.Onward.{onward}
use Rattle.rc_program_code.specs.Placed.{code_in, codes_in, CodeHeld, CodesHeld, CodeReady, CodesReady, IsPlaced, StepsHeld}
use Rattle.rc_program_code.proofs.Holding.{first_held, rest_held, first_ready, rest_ready}
use Rattle.rc_program_code.proofs.Making.{rest_place, rest_placed, first_place, first_placed, codes_made}

-- these were put in front of what was there
pub record MadeFrom (b : Body) (all : List CodeCode) (leads : Leads) (end : ℕ) (old out : List CodeLine) (here : ℕ) : Type 0 where
  pub lines : (total : ℕ) (k : Ways) (p : Place) → CodesHeld b (codes_in b all) k end → IsPlaced (codes_size (slot_in b) (deleting_in b) (types_in b) (codes_in b all) k) p total leads (length (onward old)) →
      onward out ≡ bare_code total (codes_lines (slot_in b) (deleting_in b) (types_in b) (codes_in b all) k p) ++ onward old
  pub point : here + codes_points (codes_in b all) ≡ end

module _ (b : Body) (leads : Leads) (end : ℕ) (old : List CodeLine) where
  pub none_made : MadeFrom b [] leads end old old end
  none_made = record { lines = λ total k p h i. refl; point = omega arith }

  pub one_made : (c : CodeCode) (rest : List CodeCode) (out out1 : List CodeLine) (here here1 : ℕ) → MadeFrom b rest leads end old out here →
      ((total : ℕ) (k : Ways) (p : Place) → CodeHeld b (code_in b c) k here → IsPlaced (code_size (slot_in b) (deleting_in b) (types_in b) (code_in b c) k) p total leads (length (onward out)) →
      onward out1 ≡ bare_code total (code_lines (slot_in b) (deleting_in b) (types_in b) (code_in b c) k p) ++ onward out) →
      here1 + code_points (code_in b c) ≡ here → MadeFrom b (c ∷ rest) leads end old out1 here1
  one_made c rest out out1 here here1 m lines point = record {
    lines = λ total k p held placed.
        let one = code_in b c in
        let others = codes_in b rest in
        let s = slot_in b in
        let d = deleting_in b in
        let t = types_in b in
        let e1 = m.lines total k (rest_place total s d t one others k p leads (onward old) placed) (rest_held b one others k end held) (rest_placed total s d t one others k p leads (onward old) placed) in
        codes_made total s d t one others k p leads (onward old) placed (onward out) e1 (onward out1)
        (lines total (then_live (before_codes others k) k) (first_place total s d t one others k p leads (onward old) placed) (first_held b one others k end here m.point held) (first_placed total s d t one others k p leads (onward old) placed (onward out) e1));
    point = let q = m.point in omega (arith, q, point);
  }

-- the statements from one on are ready, and so is the one before them
pub ready_from : (b : Body) (all : List CodeCode) (i end : ℕ) → CodesReady b (codes_in b all) end → CodesReady b (codes_in b (drop i all)) end
ready_from b all zero end r = r
ready_from b [] (suc i) end r = r
ready_from b (c ∷ all) (suc i) end r = ready_from b all i end (rest_ready b (code_in b c) (codes_in b all) end r)

pub at_last : (all : List CodeCode) (i : ℕ) (c : CodeCode) → 0 < i → i ≤ length all → c ≡ get_or all (i - 1) c → drop (i - 1) all ≡ c ∷ drop i all
at_last all i c p l e =
    drop-cons all (i - 1) c (omega (arith, p, l)) ∙ ap (λ y. y ∷ drop (suc (i - 1)) all) (sym e) ∙ ap (λ j. c ∷ drop j all) (let k : suc (i - 1) ≡ i = omega (arith, p) in k)

pub one_ready : (b : Body) (all : List CodeCode) (i end here : ℕ) (c : CodeCode) → drop i all ≡ c ∷ drop (suc i) all → here + codes_points (codes_in b (drop (suc i) all)) ≡ end → CodesReady b (codes_in b all) end → CodeReady b (code_in b c) here
one_ready b all i end here c e point r = first_ready b (code_in b c) (codes_in b (drop (suc i) all)) end here point (subst (λ xs. CodesReady b (codes_in b xs) end) e (ready_from b all i end r))

-- what a statement put in front, and what the steps of a condition did
abbrev pub Lines : Body → Code → Leads → (end : ℕ) → (old new : List CodeLine) → Type 0
Lines b c leads end old new = (total : ℕ) (k : Ways) (p : Place) → CodeHeld b c k end → IsPlaced (code_size (slot_in b) (deleting_in b) (types_in b) c k) p total leads (length (onward old)) →
    onward new ≡ bare_code total (code_lines (slot_in b) (deleting_in b) (types_in b) c k p) ++ onward old

abbrev pub HeadLines : Body → Steps → (end : ℕ) → (old new : List CodeLine) → Type 0
HeadLines b s end old new = (total : ℕ) (live : ℕ → Bool) → StepsHeld b s live end → onward new ≡ bare_code total (steps_lines (slot_in b) (deleting_in b) (types_in b) s [] [] live) ++ onward old

pub any_ok : {A E : Type 0} (r : Result A E) {P : Type 0} → P → OnOk r P
any_ok (Ok x) p = p
any_ok (Err e) p = tt

pub if_ok : {A E : Type 0} (r : Result A E) (P Q : A → Type 0) → ((x : A) → P x → Q x) → IfOk r P → IfOk r Q
if_ok (Ok x) P Q f h = f x h
if_ok (Err e) P Q f h = tt

-- how many statements there are
abbrev mutual
  pub nodes : Code → ℕ
  nodes (simple steps act) = 1
  nodes (clear line x ty) = 1
  nodes (block codes) = suc (all_nodes codes)
  nodes (branch steps test a b) = suc (nodes a + nodes b)
  nodes (loop line steps test third a) = suc (nodes third + nodes a)
  nodes (repeat line a steps test) = suc (nodes a)
  nodes (break line) = 1
  nodes (continue line) = 1

  pub all_nodes : Codes → ℕ
  all_nodes done = 0
  all_nodes (then c rest) = suc (nodes c + all_nodes rest)

pub node_within : (b : Body) (all : List CodeCode) (i : ℕ) (c : CodeCode) → i < length all → c ≡ get_or all i c → nodes (code_in b c) < all_nodes (codes_in b all)
node_within b [] i c h e = absurd (omega (arith, h))
node_within b (x ∷ xs) zero c h e = let p = ap (λ y. nodes (code_in b y)) e in omega (arith, p)
node_within b (x ∷ xs) (suc i) c h e = let p = node_within b xs i c (omega (arith, h)) e in omega (arith, p)
