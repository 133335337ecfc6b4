-- The value of an expression suits its type.
use Rattle.std.proofs.Common.{◌≡◌, ◌<◌, ◌+◌, ℕ, zero, suc, ℤ, pos, Bool, true, false, not, List, [], ◌∷◌, ◌++◌, length, map, slice_get, get_or, Option, Some, None, option_map, Result, refl, sym, ap, subst, arith}
use Rattle.std.specs.Prelude.{IsTrue}
use Rattle.rc_base.specs.declared.ends.Trap.{Trap}
use Rattle.rc_core.specs.declared.ty.Note.TheVariants.{Plain}
use Rattle.rc_core.specs.declared.ty.NumberType.{NumberType}
use Rattle.rc_core.specs.declared.ty.NumberType.TheVariants.{Int}
use Rattle.rc_core.specs.Numbers.{byte_of}
use Rattle.rc_core.specs.Arithmetic.{type_of}
use Rattle.rc_core.specs.Types.{Ty, int, unsigned, char, region, struct, pointer}
use Rattle.rc_core.specs.Programs.{Expr, constant, null, string, local, read, address, step, step_from, unary, binary, convert, not_zero, and, or, choose, is_null, same, call, new_region, new_subregion, region_of, allocate, allocate_array, putchar, getchar, Arguments, none, more, Place, global, pointed, indexed, Path, here, field, element, Global, Function, Program}
use Rattle.rc_core.specs.Layout.{cells, offset}
use Rattle.rc_core.specs.Heap.{Value, Number, Null, Handle, Pointer}
use Rattle.rc_core.specs.Runs.{Run, Go, bind, computed, Target, Calls}
use Rattle.rc_core.specs.Source.{World, source}
use Rattle.rc_core.specs.Evaluation.{number_in, is_true, same_value, as_wanted, toward, static, aimed, further, region_named, local_at, give_number, eval, eval_all, target, along}
use Rattle.rc_core.specs.Typing.{number, arithmetic, value_type, is_reference, is_pointer, result_type, parameters_of, HasType, AreArguments, IsPlace, LeadsTo}
use Rattle.rc_core.specs.WellTyped.{StructsFit}
use Rattle.rc_kinds.specs.Suits.{Entry, Ledger, entry_at, IsNumber, IsRegion, IsPointer, Suits, Grows, global_entry, literal_entry, WorldSuits, AllSuit}
use Rattle.rc_kinds.specs.Kinds.{Of, ResultSuits}
use Rattle.rc_kinds.proofs.InRange.{IfOk, InRange, converted_fits, number_suits, suits_number, calculated_suits, calculated_one_suits, wanted_suits, byte_of_fits}
use Rattle.rc_kinds.proofs.Zips.{zip_at, slice_append, slice_below, below_slice, stands_itself}
use Rattle.rc_kinds.proofs.Grown.{still_suits, all_still_suit, value_suits, suits_value}
use Rattle.rc_kinds.proofs.Kept.{Keeps, keeps_here, keeps_then, keeps_more, keeps_branching, keeps_computed}
use Rattle.rc_kinds.proofs.Paths.{Aims, there, aims_further, aims_choosing}
use Rattle.rc_kinds.proofs.Operations.{load_keeps, new_region_keeps, new_subregion_keeps, allocate_keeps, step_keeps, get_byte_keeps, put_byte_keeps}

abbrev pub AllOf : List Ty → Ledger → List Value → Type 0
AllOf ts l vs = AllSuit l ts vs

pub number_of : (k : NumberType) (v : Value) → IsNumber k v → InRange k (number_in v)
number_of k (Number n) h = h
number_of k Null h = absurd h
number_of k (Handle r) h = absurd h
number_of k (Pointer a) h = absurd h

null_suits : (l : Ledger) (t : Ty) → IsTrue (is_reference t) → Suits l t Null
null_suits l int h = cc
null_suits l unsigned h = cc
null_suits l char h = cc
null_suits l region h = tt
null_suits l (struct k) h = cc
null_suits l (pointer note target) h = tt

slice_mapped : {A B : Type 0} (f : A → B) (xs : List A) (i : ℕ) (x : A) → slice_get xs i ≡ Some x → slice_get (map f xs) i ≡ Some (f x)
slice_mapped f [] i x e = cc
slice_mapped f (a ∷ xs) zero x e = let q : a ≡ x = cc in ap (λ b. Some (f b)) q
slice_mapped f (a ∷ xs) (suc i) x e = slice_mapped f xs i x e

slice_behind : {A B : Type 0} (f : A → B) (xs : List A) (ys : List B) (i n : ℕ) (y : B) → n ≡ length xs + i → slice_get ys i ≡ Some y → slice_get (map f xs ++ ys) n ≡ Some y
slice_behind f [] ys i n y e h = let q : i ≡ n = omega (arith, e) in subst (λ m. slice_get ys m ≡ Some y) q h
slice_behind f (x ∷ xs) ys i zero y e h = absurd (omega (arith, e))
slice_behind f (x ∷ xs) ys i (suc n) y e h = slice_behind f xs ys i n y (omega (arith, e)) h

entry_below : (l : Ledger) (r o : ℕ) (e : Entry) → entry_at l r o ≡ Some e → r < length l
entry_below l r o e h = below_slice l r (get_or l r []) (there l r o e h)

pub still_aims : (program : Program) (l l1 : Ledger) (t : Ty) (tg : Target) → Grows l l1 → Aims program.structs l t tg → Aims program.structs l1 t tg
still_aims program l l1 t tg g a = record { element = a.element; pointer = still_suits l l1 g (pointer Plain a.element) tg.pointer a.pointer; stands = a.stands; reached = a.reached }

module _ (program : Program) where
  pub of_type : (l : Ledger) (t u : Ty) (m : Run World Value) → t ≡ u → Keeps program l (Of u) m → Keeps program l (Of t) m
  of_type l t u m e k = subst (λ x. Keeps program l (Of x) m) (sym e) k

  global_leads : (l : Ledger) (w : World) (g : ℕ) (d : Global) → WorldSuits program l w → slice_get program.globals g ≡ Some d → IsPointer l d.ty (static g)
  global_leads l w g d suits e = record {
    count = (global_entry d).count;
    entry = suits.begun.entries 0 g (global_entry d) (slice_append (map global_entry program.globals) (map literal_entry program.strings) g (global_entry d) (slice_mapped global_entry program.globals g d e));
    within = omega arith;
  }

  string_leads : (l : Ledger) (w : World) (k : ℕ) → WorldSuits program l w → k < length program.strings → IsPointer l char (static (length program.globals + k))
  string_leads l w k suits below =
      let s = slice_below program.strings k below in
      record {
        count = (literal_entry s.0).count;
        entry = suits.begun.entries 0 (length program.globals + k) (literal_entry s.0) (slice_behind global_entry program.globals (map literal_entry program.strings) k (length program.globals + k) (literal_entry s.0) refl (slice_mapped literal_entry program.strings k s.0 s.1));
        within = omega arith;
      }

  pub step_of : (l : Ledger) (line : ℕ) (t : Ty) (v : Value) (n : ℤ) (w : World) → IsTrue (is_pointer t) → Suits l t v → WorldSuits program l w → Keeps program l (Of t) (source.step line v n w)
  step_of l line int v n w h s suits = cc
  step_of l line unsigned v n w h s suits = cc
  step_of l line char v n w h s suits = cc
  step_of l line region v n w h s suits = cc
  step_of l line (struct k) v n w h s suits = cc
  step_of l line (pointer note target) v n w h s suits = step_keeps program l line target v n w s suits

  region_of_pointer : (l : Ledger) (line : ℕ) (t : Ty) (v : Value) (w : World) → IsTrue (is_pointer t) → Suits l t v → WorldSuits program l w → Keeps program l IsRegion (region_named line v w)
  region_of_pointer l line int v w h s suits = cc
  region_of_pointer l line unsigned v w h s suits = cc
  region_of_pointer l line char v w h s suits = cc
  region_of_pointer l line region v w h s suits = cc
  region_of_pointer l line (struct k) v w h s suits = cc
  region_of_pointer l line (pointer note target) (Number n) w h s suits = absurd s
  region_of_pointer l line (pointer note target) Null w h s suits = record { holds = tt }
  region_of_pointer l line (pointer note target) (Handle r) w h s suits = absurd s
  region_of_pointer l line (pointer note target) (Pointer a) w h s suits = keeps_here program l IsRegion (Handle a.region) w suits (entry_below l a.region a.object _ s.entry)

  computed_of : (l : Ledger) (t : Ty) (line : ℕ) (r : Result ℤ Trap) (w : World) → WorldSuits program l w → IfOk (λ n. Suits l t (Number n)) r → Keeps program l (Of t) (bind (computed line r w) give_number)
  computed_of l t line r w suits ok =
      keeps_then program l (λ _ n. Suits l t (Number n)) (Of t) (computed line r w) give_number (keeps_computed program l (λ n. Suits l t (Number n)) line r w suits ok) (λ n l1 w1 g s1 p.
      keeps_here program l1 (Of t) (Number n) w1 s1 (still_suits l l1 g t (Number n) p))

  result_of_call : (l : Ledger) (result : Option Ty) (t : Ty) (v : Value) → option_map value_type result ≡ Some t → ResultSuits result l v → Suits l t v
  result_of_call l None t v e s = cc
  result_of_call l (Some u) t v e s = let q : value_type u ≡ t = cc in subst (λ x. Suits l x v) q (value_suits l u v s)

module _ (program : Program) (fit : StructsFit program.structs) (locals : List Ty) (calls : Calls World) (env : List Value)
    (called : (f : ℕ) (g : Function) (arguments : List Value) (l : Ledger) (w : World) → slice_get program.functions f ≡ Some g → AllSuit l (parameters_of g) arguments → AllSuit l locals env → WorldSuits program l w → Keeps program l (ResultSuits g.result) (calls f arguments w)) where
  wanted_keeps : (l : Ledger) (t : Ty) (wanted is : Bool) (w : World) → t ≡ int → WorldSuits program l w → Keeps program l (Of t) (Go (as_wanted wanted is) w)
  wanted_keeps l t wanted is w e suits = of_type program l t int _ e (keeps_here program l (Of int) (as_wanted wanted is) w suits (wanted_suits l wanted is))

  stay : (l l1 : Ledger) → Grows l l1 → AllSuit l locals env → AllSuit l1 locals env
  stay l l1 g h = all_still_suit l l1 g locals env h

  mutual
    pub eval_keeps : (e : Expr) (t : Ty) (l : Ledger) (w : World) → HasType program locals e t → AllSuit l locals env → WorldSuits program l w → Keeps program l (Of t) (eval source program e calls env w)
    eval_keeps (constant line s n) t l w h own suits = of_type program l t (arithmetic s) _ h.0 (keeps_here program l (Of (arithmetic s)) (Number n) w suits (number_suits l (type_of s) n h.1))
    eval_keeps (null line) t l w h own suits = keeps_here program l (Of t) Null w suits (null_suits l t h.0)
    eval_keeps (string line k) t l w h own suits = of_type program l t (pointer Plain char) _ h.0 (keeps_here program l (Of (pointer Plain char)) (static (length program.globals + k)) w suits (string_leads program l w k suits h.1))
    eval_keeps (local line x) t l w h own suits = of_type program l t (value_type h.0) _ h.1.1 (keeps_here program l (Of (value_type h.0)) (local_at env x) w suits (value_suits l h.0 (local_at env x) (zip_at (Suits l) locals env x h.0 Null own h.1.0)))
    eval_keeps (read line place) t l w h own suits =
        of_type program l t (value_type h.0) _ h.1.2
        (keeps_then program l (λ l tg. Aims program.structs l h.0 tg) (Of (value_type h.0)) (target source program place calls env w) (source.load line) (target_keeps place h.0 l w h.1.0 own suits) (λ tg l1 w1 g s1 a.
        keeps_more program l1 (Of h.0) (Of (value_type h.0)) (source.load line tg w1) (load_keeps program l1 line h.0 tg w1 h.1.1 a s1) (λ v l2 g2 s. value_suits l2 h.0 v s)))
    eval_keeps (address line g) t l w h own suits = of_type program l t (pointer Plain h.0.ty) _ h.1.1 (keeps_here program l (Of (pointer Plain h.0.ty)) (static g) w suits (global_leads program l w g h.0 suits h.1.0))
    eval_keeps (step line direction p i) t l w h own suits =
        keeps_then program l (Of t) (Of t) (eval source program p calls env w) _ (eval_keeps p t l w h.2 own suits) (λ v l1 w1 g1 s1 v1.
        keeps_then program l1 (Of (arithmetic h.3.0)) (Of t) (eval source program i calls env w1) _ (eval_keeps i (arithmetic h.3.0) l1 w1 h.3.1 (stay l l1 g1 own) s1) (λ n l2 w2 g2 s2 n2.
        step_of program l2 line t v (toward direction (number_in n)) w2 h.0 (still_suits l1 l2 g2 t v v1) s2))
    eval_keeps (step_from line i p) t l w h own suits =
        keeps_then program l (Of (arithmetic h.3.0)) (Of t) (eval source program i calls env w) _ (eval_keeps i (arithmetic h.3.0) l w h.3.1 own suits) (λ n l1 w1 g1 s1 n1.
        keeps_then program l1 (Of t) (Of t) (eval source program p calls env w1) _ (eval_keeps p t l1 w1 h.2 (stay l l1 g1 own) s1) (λ v l2 w2 g2 s2 v2.
        step_of program l2 line t v (number_in n) w2 h.0 v2 s2))
    eval_keeps (unary line operator s e) t l w h own suits =
        of_type program l t (arithmetic s) _ h.0
        (keeps_then program l (Of (arithmetic s)) (Of (arithmetic s)) (eval source program e calls env w) _ (eval_keeps e (arithmetic s) l w h.1 own suits) (λ v l1 w1 g1 s1 v1.
        computed_of program l1 (arithmetic s) line _ w1 s1 (calculated_one_suits l1 operator s (number_in v) (number_of (type_of s) v (suits_number l1 (type_of s) v v1)))))
    eval_keeps (binary line operator s a b) t l w h own suits =
        of_type program l t (result_type operator s) _ h.0
        (keeps_then program l (Of (arithmetic s)) (Of (result_type operator s)) (eval source program a calls env w) _ (eval_keeps a (arithmetic s) l w h.1 own suits) (λ v l1 w1 g1 s1 v1.
        keeps_then program l1 (Of (arithmetic h.2.0)) (Of (result_type operator s)) (eval source program b calls env w1) _ (eval_keeps b (arithmetic h.2.0) l1 w1 h.2.1.1 (stay l l1 g1 own) s1) (λ u l2 w2 g2 s2 u2.
        computed_of program l2 (result_type operator s) line _ w2 s2 (calculated_suits l2 operator s (number_in v) (number_in u) (number_of (type_of s) v (suits_number l1 (type_of s) v v1))))))
    eval_keeps (convert line from to e) t l w h own suits =
        of_type program l t (number to) _ h.0
        (keeps_then program l (Of (number from)) (Of (number to)) (eval source program e calls env w) _ (eval_keeps e (number from) l w h.2 own suits) (λ v l1 w1 g1 s1 v1.
        keeps_here program l1 (Of (number to)) _ w1 s1 (number_suits l1 to _ (converted_fits to (number_in v)))))
    eval_keeps (not_zero line e) t l w h own suits =
        keeps_then program l (Of (number h.1.0)) (Of t) (eval source program e calls env w) _ (eval_keeps e (number h.1.0) l w h.1.1 own suits) (λ v l1 w1 g1 s1 v1. wanted_keeps l1 t false (is_true v) w1 h.0 s1)
    eval_keeps (and line a b) t l w h own suits =
        of_type program l t int _ h.0
        (keeps_then program l (Of h.3.0) (Of int) (eval source program a calls env w) _ (eval_keeps a h.3.0 l w h.3.1 own suits) (λ v l1 w1 g1 s1 v1.
        keeps_branching program l1 (Of int) (is_true v) _ _ w1
        (keeps_then program l1 (Of h.4.0) (Of int) (eval source program b calls env w1) _ (eval_keeps b h.4.0 l1 w1 h.4.1 (stay l l1 g1 own) s1) (λ u l2 w2 g2 s2 u2. wanted_keeps l2 int true (is_true u) w2 refl s2))
        (keeps_here program l1 (Of int) (Number (pos 0)) w1 s1 refl)))
    eval_keeps (or line a b) t l w h own suits =
        of_type program l t int _ h.0
        (keeps_then program l (Of h.3.0) (Of int) (eval source program a calls env w) _ (eval_keeps a h.3.0 l w h.3.1 own suits) (λ v l1 w1 g1 s1 v1.
        keeps_branching program l1 (Of int) (is_true v) _ _ w1
        (keeps_here program l1 (Of int) (Number (pos 1)) w1 s1 refl)
        (keeps_then program l1 (Of h.4.0) (Of int) (eval source program b calls env w1) _ (eval_keeps b h.4.0 l1 w1 h.4.1 (stay l l1 g1 own) s1) (λ u l2 w2 g2 s2 u2. wanted_keeps l2 int true (is_true u) w2 refl s2))))
    eval_keeps (choose line test a b) t l w h own suits =
        keeps_then program l (Of h.1.0) (Of t) (eval source program test calls env w) _ (eval_keeps test h.1.0 l w h.1.1 own suits) (λ v l1 w1 g1 s1 v1.
        keeps_branching program l1 (Of t) (is_true v) _ _ w1 (eval_keeps a t l1 w1 h.3 (stay l l1 g1 own) s1) (eval_keeps b t l1 w1 h.4 (stay l l1 g1 own) s1))
    eval_keeps (is_null line wanted e) t l w h own suits =
        keeps_then program l (Of h.2.0) (Of t) (eval source program e calls env w) _ (eval_keeps e h.2.0 l w h.2.1.1 own suits) (λ v l1 w1 g1 s1 v1. wanted_keeps l1 t wanted (not (is_true v)) w1 h.0 s1)
    eval_keeps (same line wanted a b) t l w h own suits =
        keeps_then program l (Of h.3.0) (Of t) (eval source program a calls env w) _ (eval_keeps a h.3.0 l w h.3.1.1 own suits) (λ v l1 w1 g1 s1 v1.
        keeps_then program l1 (Of h.3.0) (Of t) (eval source program b calls env w1) _ (eval_keeps b h.3.0 l1 w1 h.3.1.2 (stay l l1 g1 own) s1) (λ u l2 w2 g2 s2 u2. wanted_keeps l2 t wanted (same_value v u) w2 h.0 s2))
    eval_keeps (call line f arguments) t l w h own suits =
        keeps_then program l (AllOf (parameters_of h.0)) (Of t) (eval_all source program arguments calls env w) (calls f) (eval_all_keeps arguments (parameters_of h.0) l w h.1.2 own suits) (λ vs l1 w1 g1 s1 all.
        keeps_more program l1 (ResultSuits h.0.result) (Of t) (calls f vs w1) (called f h.0 vs l1 w1 h.1.0 all (stay l l1 g1 own) s1) (λ v l2 g2 s. result_of_call program l2 h.0.result t v h.1.1 s))
    eval_keeps (new_region line) t l w h own suits = of_type program l t region _ h (new_region_keeps program l line w suits)
    eval_keeps (new_subregion line r) t l w h own suits =
        of_type program l t region _ h.0
        (keeps_then program l (Of region) (Of region) (eval source program r calls env w) _ (eval_keeps r region l w h.1 own suits) (λ v l1 w1 g1 s1 v1. new_subregion_keeps program l1 line v w1 v1 s1))
    eval_keeps (region_of line p) t l w h own suits =
        of_type program l t region _ h.0
        (keeps_then program l (Of h.2.0) (Of region) (eval source program p calls env w) _ (eval_keeps p h.2.0 l w h.2.1.1 own suits) (λ v l1 w1 g1 s1 v1. region_of_pointer program l1 line h.2.0 v w1 h.2.1.0 v1 s1))
    eval_keeps (allocate line r u) t l w h own suits =
        of_type program l t (pointer Plain u) _ h.0
        (keeps_then program l (Of region) (Of (pointer Plain u)) (eval source program r calls env w) _ (eval_keeps r region l w h.2 own suits) (λ v l1 w1 g1 s1 v1. allocate_keeps program l1 line v (pos 1) u w1 h.1 v1 s1))
    eval_keeps (allocate_array line r n u) t l w h own suits =
        of_type program l t (pointer Plain u) _ h.0
        (keeps_then program l (Of region) (Of (pointer Plain u)) (eval source program r calls env w) _ (eval_keeps r region l w h.2 own suits) (λ v l1 w1 g1 s1 v1.
        keeps_then program l1 (Of int) (Of (pointer Plain u)) (eval source program n calls env w1) _ (eval_keeps n int l1 w1 h.3 (stay l l1 g1 own) s1) (λ m l2 w2 g2 s2 m2.
        allocate_keeps program l2 line v (number_in m) u w2 h.1 (still_suits l1 l2 g2 region v v1) s2)))
    eval_keeps (putchar line e) t l w h own suits =
        of_type program l t int _ h.0
        (keeps_then program l (Of int) (Of int) (eval source program e calls env w) _ (eval_keeps e int l w h.1 own suits) (λ v l1 w1 g1 s1 v1.
        keeps_then program l1 (λ l x. Unit {0}) (Of int) (source.put_byte (byte_of (number_in v)) w1) _ (put_byte_keeps program l1 (byte_of (number_in v)) w1 s1) (λ _ l2 w2 g2 s2 _.
        keeps_here program l2 (Of int) (Number (pos (byte_of (number_in v)))) w2 s2 (byte_of_fits (number_in v)))))
    eval_keeps (getchar line) t l w h own suits =
        of_type program l t int _ h
        (keeps_then program l (λ l n. InRange Int n) (Of int) (source.get_byte w) give_number (get_byte_keeps program l w suits) (λ n l1 w1 g1 s1 n1. keeps_here program l1 (Of int) (Number n) w1 s1 n1))

    pub eval_all_keeps : (arguments : Arguments) (ts : List Ty) (l : Ledger) (w : World) → AreArguments program locals arguments ts → AllSuit l locals env → WorldSuits program l w → Keeps program l (AllOf ts) (eval_all source program arguments calls env w)
    eval_all_keeps none [] l w h own suits = keeps_here program l (AllOf []) [] w suits tt
    eval_all_keeps none (t ∷ ts) l w h own suits = absurd h
    eval_all_keeps (more e rest) [] l w h own suits = absurd h
    eval_all_keeps (more e rest) (t ∷ ts) l w h own suits =
        keeps_then program l (Of (value_type t)) (AllOf (t ∷ ts)) (eval source program e calls env w) _ (eval_keeps e (value_type t) l w h.0 own suits) (λ v l1 w1 g1 s1 v1.
        keeps_then program l1 (AllOf ts) (AllOf (t ∷ ts)) (eval_all source program rest calls env w1) _ (eval_all_keeps rest ts l1 w1 h.1 (stay l l1 g1 own) s1) (λ vs l2 w2 g2 s2 all.
        keeps_here program l2 (AllOf (t ∷ ts)) (v ∷ vs) w2 s2 (still_suits l1 l2 g2 t v (suits_value l1 t v v1), all)))

    pub target_keeps : (place : Place) (t : Ty) (l : Ledger) (w : World) → IsPlace program locals place t → AllSuit l locals env → WorldSuits program l w → Keeps program l (λ l tg. Aims program.structs l t tg) (target source program place calls env w)
    target_keeps (global g path) t l w h own suits =
        along_keeps path (aimed (static g) (pos 0)) h.0.ty t l w h.1.2 (record { element = h.0.ty; pointer = global_leads program l w g h.0 suits h.1.0; stands = λ _. stands_itself (cells program.structs h.0.ty) 0 refl; reached = λ _. record { path = []; reaches = refl; at_is = refl } }) own suits
    target_keeps (pointed p path) t l w h own suits =
        keeps_then program l (Of (pointer Plain h.1.0)) (λ l tg. Aims program.structs l t tg) (eval source program p calls env w) _ (eval_keeps p (pointer Plain h.1.0) l w h.1.1.0 own suits) (λ v l1 w1 g1 s1 v1.
        along_keeps path (aimed v (pos 0)) h.1.0 t l1 w1 h.1.1.1 (record { element = h.1.0; pointer = v1; stands = λ _. stands_itself (cells program.structs h.1.0) 0 refl; reached = λ _. record { path = []; reaches = refl; at_is = refl } }) (stay l l1 g1 own) s1)
    target_keeps (indexed p i path) t l w h own suits =
        keeps_then program l (Of (pointer Plain h.1.0)) (λ l tg. Aims program.structs l t tg) (eval source program p calls env w) _ (eval_keeps p (pointer Plain h.1.0) l w h.1.1.0 own suits) (λ v l1 w1 g1 s1 v1.
        keeps_then program l1 (Of (arithmetic h.1.1.1.0)) (λ l tg. Aims program.structs l t tg) (eval source program i calls env w1) _ (eval_keeps i (arithmetic h.1.1.1.0) l1 w1 h.1.1.1.1 (stay l l1 g1 own) s1) (λ n l2 w2 g2 s2 n2.
        along_keeps path (aimed v (number_in n)) h.1.0 t l2 w2 h.1.1.2 (record { element = h.1.0; pointer = still_suits l1 l2 g2 (pointer Plain h.1.0) v v1; stands = λ _. stands_itself (cells program.structs h.1.0) 0 refl; reached = λ _. record { path = []; reaches = refl; at_is = refl } }) (stay l1 l2 g2 (stay l l1 g1 own)) s2))

    pub along_keeps : (path : Path) (tg : Target) (u t : Ty) (l : Ledger) (w : World) → LeadsTo program locals path u t → Aims program.structs l u tg → AllSuit l locals env → WorldSuits program l w → Keeps program l (λ l tg. Aims program.structs l t tg) (along source program path tg calls env w)
    along_keeps here tg u t l w h a own suits = keeps_here program l (λ l tg. Aims program.structs l t tg) tg w suits (subst (λ x. Aims program.structs l x tg) h a)
    along_keeps (field s f rest) tg u t l w h a own suits =
        along_keeps rest (further (offset program.structs s f) tg) h.1.0.ty t l w h.1.1.2 (aims_further program.structs fit l s f h.1.0 tg h.1.1.0 h.1.1.1 (subst (λ x. Aims program.structs l x tg) h.0 a)) own suits
    along_keeps (element s f i rest) tg u t l w h a own suits =
        keeps_then program l (Of (arithmetic h.1.1.2.0)) (λ l tg. Aims program.structs l t tg) (eval source program i calls env w) _ (eval_keeps i (arithmetic h.1.1.2.0) l w h.1.1.2.1 own suits) (λ n l1 w1 g1 s1 n1.
        along_keeps rest _ h.1.0.ty t l1 w1 h.1.1.3 (aims_choosing program.structs fit l1 s f h.1.0 (number_in n) tg h.1.1.0 h.1.1.1 (still_aims program l l1 (struct s) tg g1 (subst (λ x. Aims program.structs l x tg) h.0 a))) (stay l l1 g1 own) s1)
