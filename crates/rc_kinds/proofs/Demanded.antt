-- What has a type answers what is demanded of it.
use Rattle.std.proofs.Common.{◌≡◌, ℕ, Bool, List, [], ◌∷◌, refl, inl, inr, subst}
use Rattle.std.specs.Prelude.{IsTrue}
use Rattle.std.specs.List.{AllByRecursion as Every}
use Rattle.rc_base.specs.declared.ends.Limits.{Limits}
use Rattle.rc_core.specs.declared.ty.NumberType.{NumberType}
use Rattle.rc_core.specs.declared.ty.NumberType.TheVariants.{Int}
use Rattle.rc_core.specs.declared.stmt.Change.{Change}
use Rattle.rc_core.specs.declared.stmt.Change.TheVariants.{Compute, Step}
use Rattle.rc_core.specs.Numbers.{IsByte}
use Rattle.rc_core.specs.Arithmetic.{type_of}
use Rattle.rc_core.specs.Types.{Ty, int, unsigned, char, region, struct, pointer}
use Rattle.rc_core.specs.Programs.{Expr, constant, null, string, local, read, address, step, step_from, unary, binary, convert, not_zero, and, or, choose, is_null, same, call, new_region, new_subregion, region_of, allocate, allocate_array, putchar, getchar, Arguments, none, more, Place, global, pointed, indexed, Path, here, field, element, Stmt, update, delete, Function, Program}
use Rattle.rc_core.specs.Heap.{Value, Number, Null, Handle, Pointer}
use Rattle.rc_core.specs.Live.{Ways}
use Rattle.rc_core.specs.Source.{World, source}
use Rattle.rc_core.specs.Execution.{calls_within}
use Rattle.rc_core.specs.Typing.{number, arithmetic, is_pointer, is_reference, HasType, IsPlace, LeadsTo, Takes, IsTyped}
use Rattle.rc_core.specs.WellTyped.{IsWellTyped}
use Rattle.rc_core.specs.Laws.{IfGoes}
use Rattle.rc_kinds.specs.Suits.{Ledger, IsNumber, Suits, AllSuit, WorldSuits}
use Rattle.rc_kinds.specs.Frames.{Frame, in_world, value_in, IsSuited}
use Rattle.rc_kinds.specs.Kinds.{Of}
use Rattle.rc_kinds.specs.Parts.{Part, Evaluating, EvaluatingAll, Finding, Executing, ExecutingAll, Looping, BehindBody, Calling, operands, indices, place_operands, Comes, MayBeEvaluated, MeetsTypes}
use Rattle.rc_kinds.specs.Demands.{Demand, a_number, a_region, a_pointer, a_reference, Answers, demands, path_demands, place_demands, old_demand, AreAnswered, StatementIsAnswered, IsAnswered}
use Rattle.rc_kinds.proofs.InRange.{suits_number}
use Rattle.rc_kinds.proofs.Grown.{all_still_suit}
use Rattle.rc_kinds.proofs.Knowing.{goes_on}
use Rattle.rc_kinds.proofs.Paths.{Aims}
use Rattle.rc_kinds.proofs.Operations.{load_keeps}
use Rattle.rc_kinds.proofs.Evaluations.{still_aims}
use Rattle.rc_kinds.proofs.Executions.{taken_has, taken_cell, value_keeps, place_keeps}
use Rattle.rc_kinds.proofs.Calls.{calls_keep}
use Rattle.rc_kinds.proofs.PartsMeet.{part_meets}

-- the types whose values answer
abbrev pub TypeAnswers : Demand → Ty → Type 0
TypeAnswers a_number t = (k : NumberType) × (t ≡ number k)
TypeAnswers a_region t = t ≡ region
TypeAnswers a_pointer t = IsTrue (is_pointer t)
TypeAnswers a_reference t = IsTrue (is_reference t)

is_number : (k : NumberType) (v : Value) → IsNumber k v → Answers a_number v
is_number k (Number n) h = tt
is_number k Null h = h
is_number k (Handle r) h = h
is_number k (Pointer a) h = h

is_region : (l : Ledger) (v : Value) → Suits l region v → Answers a_region v
is_region l (Number n) h = h
is_region l Null h = tt
is_region l (Handle r) h = tt
is_region l (Pointer a) h = h

a_region_refers : (v : Value) → Answers a_region v → Answers a_reference v
a_region_refers (Number n) h = h
a_region_refers Null h = tt
a_region_refers (Handle r) h = tt
a_region_refers (Pointer a) h = tt

a_pointer_refers : (v : Value) → Answers a_pointer v → Answers a_reference v
a_pointer_refers (Number n) h = h
a_pointer_refers Null h = tt
a_pointer_refers (Handle r) h = tt
a_pointer_refers (Pointer a) h = tt

answers_pointer : (l : Ledger) (t : Ty) (v : Value) → IsTrue (is_pointer t) → Suits l t v → Answers a_pointer v
answers_pointer l int v h s = cc
answers_pointer l unsigned v h s = cc
answers_pointer l char v h s = cc
answers_pointer l region v h s = cc
answers_pointer l (struct k) v h s = cc
answers_pointer l (pointer note target) (Number n) h s = s
answers_pointer l (pointer note target) Null h s = tt
answers_pointer l (pointer note target) (Handle r) h s = s
answers_pointer l (pointer note target) (Pointer a) h s = tt

answers_reference : (l : Ledger) (t : Ty) (v : Value) → IsTrue (is_reference t) → Suits l t v → Answers a_reference v
answers_reference l int v h s = cc
answers_reference l unsigned v h s = cc
answers_reference l char v h s = cc
answers_reference l region v h s = a_region_refers v (is_region l v s)
answers_reference l (struct k) v h s = cc
answers_reference l (pointer note target) v h s = a_pointer_refers v (answers_pointer l (pointer note target) v refl s)

answers : (l : Ledger) (d : Demand) (t : Ty) (v : Value) → TypeAnswers d t → Suits l t v → Answers d v
answers l a_number t v h s = is_number h.0 v (suits_number l h.0 v (subst (λ u. Suits l u v) h.1 s))
answers l a_region t v h s = is_region l v (subst (λ u. Suits l u v) h s)
answers l a_pointer t v h s = answers_pointer l t v h s
answers l a_reference t v h s = answers_reference l t v h s

module _ (program : Program) (locals : List Ty) where
  -- an expression for each demand, of a type that answers it
  abbrev pub Have : List Demand → Arguments → Type 0
  Have [] es = Unit {0}
  Have (d ∷ ds) none = Unit {0}
  Have (d ∷ ds) (more e rest) = ((t : Ty) × (HasType program locals e t × TypeAnswers d t)) × Have ds rest

  operands_have : (e : Expr) (t : Ty) → HasType program locals e t → Have (demands e) (operands e)
  operands_have (constant line s n) t h = tt
  operands_have (null line) t h = tt
  operands_have (string line k) t h = tt
  operands_have (local line x) t h = tt
  operands_have (read line place) t h = tt
  operands_have (address line g) t h = tt
  operands_have (step line direction p i) t h = ((t, (h.2, h.0)), ((arithmetic h.3.0, (h.3.1, (type_of h.3.0, refl))), tt))
  operands_have (step_from line i p) t h = ((arithmetic h.3.0, (h.3.1, (type_of h.3.0, refl))), ((t, (h.2, h.0)), tt))
  operands_have (unary line operator s e) t h = ((arithmetic s, (h.1, (type_of s, refl))), tt)
  operands_have (binary line operator s a b) t h = ((arithmetic s, (h.1, (type_of s, refl))), ((arithmetic h.2.0, (h.2.1.1, (type_of h.2.0, refl))), tt))
  operands_have (convert line from to e) t h = ((number from, (h.2, (from, refl))), tt)
  operands_have (not_zero line e) t h = ((number h.1.0, (h.1.1, (h.1.0, refl))), tt)
  operands_have (and line a b) t h = tt
  operands_have (or line a b) t h = tt
  operands_have (choose line test a b) t h = tt
  operands_have (is_null line wanted e) t h = ((h.2.0, (h.2.1.1, h.2.1.0)), tt)
  operands_have (same line wanted a b) t h = ((h.3.0, (h.3.1.1, h.3.1.0)), ((h.3.0, (h.3.1.2, h.3.1.0)), tt))
  operands_have (call line f arguments) t h = tt
  operands_have (new_region line) t h = tt
  operands_have (new_subregion line r) t h = ((region, (h.1, refl)), tt)
  operands_have (region_of line p) t h = ((h.2.0, (h.2.1.1, h.2.1.0)), tt)
  operands_have (allocate line r u) t h = ((region, (h.2, refl)), tt)
  operands_have (allocate_array line r n u) t h = ((region, (h.2, refl)), ((int, (h.3, (Int, refl))), tt))
  operands_have (putchar line e) t h = ((int, (h.1, (Int, refl))), tt)
  operands_have (getchar line) t h = tt

  evaluated_have : (e : Expr) → MayBeEvaluated program locals e → Have (demands e) (operands e)
  evaluated_have e (inl h) = operands_have e h.0 h.1
  evaluated_have (call line f arguments) (inr h) = tt
  evaluated_have e (inr h) = operands_have e h.1.0 h.1.1

  indices_have : (path : Path) (u t : Ty) → LeadsTo program locals path u t → Have (path_demands path) (indices path)
  indices_have here u t h = tt
  indices_have (field s f rest) u t h = indices_have rest h.1.0.ty t h.1.1.2
  indices_have (element s f i rest) u t h = ((arithmetic h.1.1.2.0, (h.1.1.2.1, (type_of h.1.1.2.0, refl))), indices_have rest h.1.0.ty t h.1.1.3)

  place_has : (place : Place) (t : Ty) → IsPlace program locals place t → Have (place_demands place) (place_operands place)
  place_has (global g path) t h = indices_have path h.0.ty t h.1.2
  place_has (pointed p path) t h = ((_, (h.1.1.0, refl)), indices_have path h.1.0 t h.1.1.1)
  place_has (indexed p i path) t h = ((_, (h.1.1.0, refl)), ((arithmetic h.1.1.1.0, (h.1.1.1.1, (type_of h.1.1.1.0, refl))), indices_have path h.1.0 t h.1.1.2))

module _ (program : Program) (well : IsWellTyped program) where
  behind : (at : Frame) (s : IsSuited program at) (l1 : Ledger) (w1 : World) → AllSuit l1 at.function.locals at.locals → WorldSuits program l1 w1 → IsSuited program (in_world at w1)
  behind at s l1 w1 suit world = record { number = s.number; there = s.there; known = record { ledger = l1; world = world; suit = suit } }

  value_answers : (live : ℕ → Bool) (e : Expr) (t : Ty) (at : Frame) (d : Demand) (Q : World → Type 0) → IsSuited program at → HasType program at.function.locals e t → TypeAnswers d t → ((w : World) → IsSuited program (in_world at w) → Q w) → IfGoes (λ v w. Answers d v × Q w) (value_in program live e at)
  value_answers live e t at d Q s h a go =
      goes_on program s.known.ledger (Of t) (λ v w. Answers d v × Q w) _ (value_keeps program well.structs at.function (well.functions s.number at.function s.there).locals (calls_within source program at.depth) (calls_keep program well at.depth) live e t at.locals s.known.ledger at.world h s.known.suit s.known.world)
      (λ v l1 w1 g s1 v1. (answers l1 d t v a v1, go w1 (behind at s l1 w1 (all_still_suit s.known.ledger l1 g at.function.locals at.locals s.known.suit) s1)))

  are_answered : (ds : List Demand) (es : Arguments) (live : ℕ → Bool) (at : Frame) → IsSuited program at → Have program at.function.locals ds es → AreAnswered program ds es live at
  are_answered [] es live at s h = tt
  are_answered (d ∷ ds) none live at s h = tt
  are_answered (d ∷ ds) (more e rest) live at s h = value_answers live e h.0.0 at d _ s h.0.1.0 h.0.1.1 (λ w s1. are_answered ds rest live (in_world at w) s1 h.1)

  taken_is_number : (f : Function) (t : Ty) (change : Change) (e : Expr) (h : Takes program f.locals t change e) → TypeAnswers a_number (taken_has program f t change e h).0
  taken_is_number f t (Compute from operator s) e h = (type_of h.3.0, refl)
  taken_is_number f t (Step direction) e h = (type_of h.1.0, refl)

  old_answers : (f : Function) (t : Ty) (change : Change) (e : Expr) → Takes program f.locals t change e → TypeAnswers (old_demand change) t
  old_answers f t (Compute from operator s) e h = (from, h.0)
  old_answers f t (Step direction) e h = h.0

  update_is_answered : (line : ℕ) (place : Place) (change : Change) (e : Expr) (k : Ways) (at : Frame) (t : Ty) → IsSuited program at → IsPlace program at.function.locals place t → Takes program at.function.locals t change e → StatementIsAnswered program (update line place change e) k at
  update_is_answered line place change e k at t s hp ht =
      let f = at.function in
      let variables = (well.functions s.number f s.there).locals in
      let calls = calls_within source program at.depth in
      let has = taken_has program f t change e ht in
      goes_on program s.known.ledger (λ l tg. Aims program.structs l t tg) _ _ (place_keeps program well.structs f variables calls (calls_keep program well at.depth) k.next place t at.locals s.known.ledger at.world hp s.known.suit s.known.world) (λ tg l1 w1 g1 s1 a1.
      goes_on program l1 (Of has.0) _ _ (value_keeps program well.structs f variables calls (calls_keep program well at.depth) k.next e has.0 at.locals l1 w1 has.1 (all_still_suit s.known.ledger l1 g1 f.locals at.locals s.known.suit) s1) (λ v l2 w2 g2 s2 v2. (
        answers l2 a_number has.0 v (taken_is_number f t change e ht) v2,
        goes_on program l2 (Of t) _ _ (load_keeps program l2 line t tg w2 (taken_cell program f t change e ht) (still_aims program l1 l2 t tg g2 a1) s2) (λ old l3 w3 g3 s3 o3. answers l3 (old_demand change) t old (old_answers f t change e ht) o3),
      )))

  statement_is_answered : (loop : Bool) (st : Stmt) (k : Ways) (at : Frame) → IsSuited program at → IsTyped program at.function loop st → StatementIsAnswered program st k at
  statement_is_answered loop (delete line e) k at s h =
      goes_on program s.known.ledger (Of region) _ _ (value_keeps program well.structs at.function (well.functions s.number at.function s.there).locals (calls_within source program at.depth) (calls_keep program well at.depth) k.next e region at.locals s.known.ledger at.world h s.known.suit s.known.world) (λ v l1 w1 g s1 v1. is_region l1 v v1)
  statement_is_answered loop (update line place change e) k at s h = update_is_answered line place change e k at h.0 s h.1.0 h.1.1
  statement_is_answered loop s k at suited h = tt

  meets_is_answered : (part : Part) → MeetsTypes program part → IsAnswered program part
  meets_is_answered (Evaluating live e at) m = are_answered (demands e) (operands e) live at m.0 (evaluated_have program at.function.locals e m.1)
  meets_is_answered (EvaluatingAll live es at) m = tt
  meets_is_answered (Finding live place at) m = are_answered (place_demands place) (place_operands place) live at m.0 (place_has program at.function.locals place m.1.0 m.1.1)
  meets_is_answered (Executing s k at) m = statement_is_answered m.1.0 s k at m.0 m.1.1
  meets_is_answered (ExecutingAll s k at) m = tt
  meets_is_answered (Looping s k at) m = tt
  meets_is_answered (BehindBody s k at) m = tt
  meets_is_answered (Calling n k arguments w) m = tt

pub part_is_answered : (program : Program) → IsWellTyped program → (input : List ℕ) (limits : Limits) → Every IsByte input → (part : Part) → Comes program input limits part → IsAnswered program part
part_is_answered program well input limits bytes part comes = meets_is_answered program well part (part_meets program well input limits bytes part comes)
