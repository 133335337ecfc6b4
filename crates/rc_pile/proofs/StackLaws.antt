-- What a write to one word does to the parts that the pile shows.
use Rattle.std.proofs.Common.{◌≡◌, ◌+◌, ◌-◌, ◌<◌, ◌≤◌, ◌++◌, ◌∷◌, ◌∙◌, ℕ, List, [], length, slice_get, slice_set, slice_index_or, take, drop, reverse, map, zero, suc, sym, ap, refl, subst, Some, arith, append_assoc}
use Rattle.std.proofs.lemmas.List.{length-drop, take-set-le, take-append-le, drop-append-le, length-append, drop-set-lt, drop-set-add, take_more_set, take_more, reverse-append, length-set, map-append, length-map, length-take-le, length-reverse, get_or-drop, map-set, reverse-reverse}
use Rattle.std.proofs.Math.Seq.{take-set-lt}
use Rattle.std.proofs.lemmas.Option.{slice_get-get_or, slice_get-map}
use Rattle.std.specs.Option.{option_map}
use Rattle.rc_core.specs.Heap.{Value}
use Rattle.rc_pile.specs.declared.caller.Caller.{Caller}
use Rattle.rc_pile.specs.declared.word.Word.{Word}
use Rattle.rc_pile.specs.declared.pile.Frame.{Frame}
use Rattle.rc_pile.specs.Words.{value_of, zero_word}
use Rattle.rc_pile.specs.Stacks.{Wait, Stack, part, waits_of, IsStacked, stack_of, widened, begun, with_locals, with_room, with_more, left, first_caller, started}

module _ (words : List Word) (k : ℕ) (w : Word) where
  pub part_before : (from to : ℕ) → from ≤ to → to ≤ k → part (slice_set words k w) from to ≡ part words from to
  unfolding part
  part_before from to h1 h2 =
      let e : from + (k - from) ≡ k = omega arith in
      ap (λ k. map value_of (take (to - from) (drop from (slice_set words k w)))) (sym e)
      ∙ ap (λ l. map value_of (take (to - from) l)) (drop-set-add from words (k - from) w)
      ∙ ap (map value_of) (take-set-le (to - from) (drop from words) (k - from) w (omega arith))

  pub part_after : (from to : ℕ) → k < from → part (slice_set words k w) from to ≡ part words from to
  unfolding part
  part_after from to h = ap (λ l. map value_of (take (to - from) l)) (drop-set-lt from words k w h)

  pub part_end : (from to : ℕ) → from ≤ k → k < length words → to ≡ k + 1 → reverse (part (slice_set words k w) from to) ≡ value_of w ∷ reverse (part words from k)
  unfolding part
  part_end from to h1 h2 h3 =
      let e : from + (k - from) ≡ k = omega arith in
      let m : to - from ≡ k - from + 1 = omega arith in
      ap (λ m. reverse (map value_of (take m (drop from (slice_set words k w))))) m
      ∙ ap (λ k1. reverse (map value_of (take (k - from + 1) (drop from (slice_set words k1 w))))) (sym e)
      ∙ ap (λ l. reverse (map value_of (take (k - from + 1) l))) (drop-set-add from words (k - from) w)
      ∙ ap (λ l. reverse (map value_of l)) (take_more_set (drop from words) (k - from) w (subst (λ n. k - from < n) (sym (length-drop from words)) (omega arith)))
      ∙ ap reverse (map-append value_of (take (k - from) (drop from words)) (w ∷ []))
      ∙ reverse-append (map value_of (take (k - from) (drop from words))) (value_of w ∷ [])

  pub waits_same : (fs : List Frame) (end : ℕ) → IsStacked fs end → end ≤ k → waits_of fs (slice_set words k w) end ≡ waits_of fs words end
  waits_same [] end h1 h2 = refl
  waits_same (f ∷ fs) end h1 h2 =
      let e1 = part_before f.base f.first h1.0 (omega (arith, h1.1, h2)) in
      let e2 = part_before f.first end h1.1 h2 in
      let e3 = waits_same fs f.base h1.2 (omega (arith, h1.0, h1.1, h2)) in
      let e4 : length (slice_set words k w) ≡ length words = length-set words k w in
      cc

stacks : (l l' o o' : List Value) (ws ws' : List Wait) (r r' m m' : ℕ) → l ≡ l' → o ≡ o' → ws ≡ ws' → r ≡ r' → m ≡ m' → (let x : Stack = record { locals = l; operands = o; waits = ws; room = r; more = m } in x) ≡ (let y : Stack = record { locals = l'; operands = o'; waits = ws'; room = r'; more = m' } in y)
stacks l l' o o' ws ws' r r' m m' h1 h2 h3 h4 h5 = cc

part_length : (words : List Word) (from to : ℕ) → from ≤ to → to ≤ length words → length (part words from to) ≡ to - from
unfolding part
part_length words from to h1 h2 = length-map (take (to - from) (drop from words)) value_of ∙ length-take-le (to - from) (drop from words) (subst (λ n. to - from ≤ n) (sym (length-drop from words)) (omega arith))

pub locals_length : (words : List Word) (base first : ℕ) → base ≤ first → first ≤ length words → length (part words base first) ≡ first - base
locals_length words base first h1 h2 = part_length words base first h1 h2

pub operands_length : (words : List Word) (first top : ℕ) → first ≤ top → top ≤ length words → length (reverse (part words first top)) ≡ top - first
operands_length words first top h1 h2 = length-reverse (part words first top) ∙ part_length words first top h1 h2

pub popped : (words : List Word) (first top : ℕ) (d : Word) → first < top → top ≤ length words → reverse (part words first top) ≡ value_of (slice_index_or words (top - 1) d) ∷ reverse (part words first (top - 1))
unfolding part
popped words first top d h2 h3 =
    let m : top - first ≡ top - 1 - first + 1 = omega arith in
    let lt : top - 1 - first < length (drop first words) = subst (λ n. top - 1 - first < n) (sym (length-drop first words)) (omega arith) in
    let e : first + (top - 1 - first) ≡ top - 1 = omega arith in
    ap (λ m. reverse (map value_of (take m (drop first words)))) m
    ∙ ap (λ l. reverse (map value_of l)) (take_more (drop first words) (top - 1 - first) d lt)
    ∙ ap reverse (map-append value_of (take (top - 1 - first) (drop first words)) (slice_index_or (drop first words) (top - 1 - first) d ∷ []))
    ∙ reverse-append (map value_of (take (top - 1 - first) (drop first words))) (value_of (slice_index_or (drop first words) (top - 1 - first) d) ∷ [])
    ∙ ap (λ x. value_of x ∷ reverse (map value_of (take (top - 1 - first) (drop first words)))) (get_or-drop first words (top - 1 - first) d ∙ ap (λ k. slice_index_or words k d) e)

pub operand_at : (words : List Word) (first top k : ℕ) (w : Word) → k < top - first → top ≤ length words → w ≡ slice_index_or words (top - 1 - k) zero_word → slice_get (reverse (part words first top)) k ≡ Some (value_of w)
operand_at words first top zero w h1 h2 e =
    let m : top - 1 - 0 ≡ top - 1 = omega arith in
    ap (λ l. slice_get l 0) (popped words first top zero_word (omega arith) h2) ∙ ap (λ x. Some (value_of x)) (sym (e ∙ ap (λ k. slice_index_or words k zero_word) m))
operand_at words first top (suc k) w h1 h2 e =
    let m : top - 1 - suc k ≡ top - 1 - 1 - k = omega arith in
    ap (λ l. slice_get l (suc k)) (popped words first top zero_word (omega arith) h2) ∙ operand_at words first (top - 1) k w (omega arith) (omega arith) (e ∙ ap (λ k. slice_index_or words k zero_word) m)

dropped : (words : List Word) (first top k : ℕ) (d : Word) → k ≤ top - first → top ≤ length words → drop k (reverse (part words first top)) ≡ reverse (part words first (top - k))
dropped words first top zero d h1 h2 = let m : top ≡ top - 0 = omega arith in ap (λ t. reverse (part words first t)) m
dropped words first top (suc k) d h1 h2 =
    let m : top - 1 - k ≡ top - suc k = omega arith in
    ap (drop (suc k)) (popped words first top d (omega arith) h2) ∙ dropped words first (top - 1) k d (omega arith) (omega arith) ∙ ap (λ t. reverse (part words first t)) m

pub taken : (words : List Word) (frames : List Frame) (base first top depth k : ℕ) → first ≤ top → top ≤ length words → k ≤ top - first → stack_of words frames base first (top - k) depth ≡ record (stack_of words frames base first top depth) { operands = drop k (reverse (part words first top)); room = length words - top + k }
taken words frames base first top depth k h1 h2 h3 =
    stacks _ _ _ _ _ _ _ _ _ _ refl (sym (dropped words first top k zero_word h3 h2)) refl (omega arith) refl

pub given : (words : List Word) (frames : List Frame) (base first top depth k : ℕ) (w : Word) → base ≤ first → first ≤ top → top ≤ length words → k ≤ top - first → top - k < length words → IsStacked (reverse (take depth frames)) base → stack_of (slice_set words (top - k) w) frames base first (top - k + 1) depth ≡ record (stack_of words frames base first top depth) { operands = value_of w ∷ drop k (reverse (part words first top)); room = length words - top + k - 1 }
given words frames base first top depth k w h1 h2 h3 h4 h5 h6 =
    stacks _ _ _ _ _ _ _ _ _ _
    (part_before words (top - k) w base first h1 (omega arith))
    (part_end words (top - k) w first (top - k + 1) (omega arith) h5 refl ∙ ap (λ l. value_of w ∷ l) (sym (dropped words first top k zero_word h4 h3)))
    (waits_same words (top - k) w (reverse (take depth frames)) base h6 (omega arith))
    (ap (λ n. n - (top - k + 1)) (length-set words (top - k) w) ∙ omega arith)
    refl

slice_get-take : {A : Type 0} (n : ℕ) (xs : List A) (k : ℕ) → k < n → slice_get (take n xs) k ≡ slice_get xs k
slice_get-take zero xs k h = absurd (omega arith)
slice_get-take (suc n) [] k h = refl
slice_get-take (suc n) (x ∷ xs) zero h = refl
slice_get-take (suc n) (x ∷ xs) (suc k) h = slice_get-take n xs k (omega arith)

pub local_at : (words : List Word) (base first x : ℕ) (w : Word) → x < first - base → first ≤ length words → w ≡ slice_index_or words (base + x) zero_word → slice_get (part words base first) x ≡ Some (value_of w)
unfolding part
local_at words base first x w h1 h2 e =
    slice_get-map value_of (take (first - base) (drop base words)) x
    ∙ ap (option_map value_of) (slice_get-take (first - base) (drop base words) x h1 ∙ slice_get-get_or (drop base words) x zero_word (subst (λ n. x < n) (sym (length-drop base words)) (omega arith)) ∙ ap Some (get_or-drop base words x zero_word ∙ sym e))

pub local_set : (words : List Word) (frames : List Frame) (base first top depth x : ℕ) (w : Word) → base ≤ first → first ≤ top → top ≤ length words → x < first - base → IsStacked (reverse (take depth frames)) base → stack_of (slice_set words (base + x) w) frames base first top depth ≡ record (stack_of words frames base first top depth) { locals = slice_set (part words base first) x (value_of w) }
unfolding part
local_set words frames base first top depth x w h1 h2 h3 h4 h5 =
    stacks _ _ _ _ _ _ _ _ _ _
    (ap (λ l. map value_of (take (first - base) l)) (drop-set-add base words x w) ∙ ap (map value_of) (take-set-lt (first - base) (drop base words) x w h4) ∙ map-set value_of (take (first - base) (drop base words)) x w)
    (ap reverse (part_after words (base + x) w first top (omega arith)))
    (waits_same words (base + x) w (reverse (take depth frames)) base h5 (omega arith))
    (ap (λ n. n - top) (length-set words (base + x) w))
    refl

none : (words : List Word) (k : ℕ) → part words k k ≡ []
unfolding part
none words k = let e : k - k ≡ 0 = omega arith in ap (λ n. map value_of (take n (drop k words))) e

reverse_cons : {A : Type 0} (x : A) (xs : List A) → reverse (x ∷ xs) ≡ reverse xs ++ x ∷ []
reverse_cons x xs = reverse-append (x ∷ []) xs

topmost : (words : List Word) (first top k : ℕ) → k ≤ top - first → first ≤ top → top ≤ length words → take k (reverse (part words first top)) ≡ reverse (part words (top - k) top)
topmost words first top zero h0 h1 h2 = let m : top ≡ top - 0 = omega arith in ap reverse (sym (none words top)) ∙ ap (λ t. reverse (part words t top)) m
topmost words first top (suc k) h0 h1 h2 =
    let e1 = popped words first top zero_word (omega arith) h2 in
    let e2 = popped words (top - suc k) top zero_word (omega arith) h2 in
    let m : top - 1 - k ≡ top - suc k = omega arith in
    ap (take (suc k)) e1
    ∙ ap (λ l. value_of (slice_index_or words (top - 1) zero_word) ∷ l) (topmost words first (top - 1) k (omega arith) (omega arith) (omega arith) ∙ ap (λ t. reverse (part words t (top - 1))) m)
    ∙ sym e2

one_more : {A : Type 0} (xs : List A) (n : ℕ) (x : A) → n < length xs → reverse (take (n + 1) (slice_set xs n x)) ≡ x ∷ reverse (take n xs)
one_more xs n x h = ap reverse (take_more_set xs n x h) ∙ reverse-append (take n xs) (x ∷ [])

pub begins : (words : List Word) (frames : List Frame) (base first top depth : ℕ) (caller : Caller) (parameters : ℕ) → first ≤ top → top ≤ length words → depth < length frames → parameters ≤ top - first → stack_of words (slice_set frames depth (record { caller = caller; base = base; first = first })) (top - parameters) top top (depth + 1) ≡ begun caller parameters (stack_of words frames base first top depth)
begins words frames base first top depth caller parameters h1 h2 h3 h4 =
    let f : Frame = record { caller = caller; base = base; first = first } in
    let w1 : Wait = record { caller = caller; locals = part words base first; operands = reverse (part words first (top - parameters)); room = length words - (top - parameters) } in
    let w2 : Wait = record { caller = caller; locals = part words base first; operands = drop parameters (reverse (part words first top)); room = length words - top + parameters } in
    let e2 = dropped words first top parameters zero_word h4 h2 in
    let e4 : length words - (top - parameters) ≡ length words - top + parameters = omega arith in
    let same : w1 ≡ w2 = cc in
    stacks _ _ _ _ _ _ _ _ _ _
    (sym (reverse-reverse (part words (top - parameters) top)) ∙ ap reverse (sym (topmost words first top parameters h4 h1 h2)))
    (ap reverse (none words top))
    (ap (λ fs. waits_of fs words (top - parameters)) (one_more frames depth f h3) ∙ ap (λ w. w ∷ waits_of (reverse (take depth frames)) words base) same)
    refl
    (ap (λ n. n - (depth + 1)) (length-set frames depth f) ∙ omega arith)

pub begins_stacked : (frames : List Frame) (base first top depth : ℕ) (caller : Caller) (parameters : ℕ) → depth < length frames → base ≤ first → parameters ≤ top - first → first ≤ top → IsStacked (reverse (take depth frames)) base → IsStacked (reverse (take (depth + 1) (slice_set frames depth (record { caller = caller; base = base; first = first })))) (top - parameters)
begins_stacked frames base first top depth caller parameters h1 h2 h3 h5 h4 =
    subst (λ fs. IsStacked fs (top - parameters)) (sym (one_more frames depth (record { caller = caller; base = base; first = first }) h1)) (h2, omega arith, h4)

pub local_added : (words : List Word) (frames : List Frame) (base first top depth : ℕ) (w : Word) → base ≤ first → first ≤ top → top < length words → IsStacked (reverse (take depth frames)) base → first ≡ top → stack_of (slice_set words top w) frames base (top + 1) (top + 1) depth ≡ with_locals (value_of w ∷ []) (stack_of words frames base first top depth)
local_added words frames base first top depth w h1 h2 h3 h4 h5 =
    stacks _ _ _ _ _ _ _ _ _ _
    (sym (reverse-reverse (part (slice_set words top w) base (top + 1)))
    ∙ ap reverse (part_end words top w base (top + 1) (omega arith) h3 refl)
    ∙ reverse_cons (value_of w) (reverse (part words base top))
    ∙ ap (λ l. l ++ value_of w ∷ []) (reverse-reverse (part words base top))
    ∙ ap (λ k. part words base k ++ value_of w ∷ []) (sym h5))
    (ap reverse (none (slice_set words top w) (top + 1)) ∙ ap reverse (sym (none words top)) ∙ ap (λ k. reverse (part words k top)) (sym h5))
    (waits_same words top w (reverse (take depth frames)) base h4 (omega arith))
    (ap (λ n. n - (top + 1)) (length-set words top w) ∙ omega arith)
    refl

last_frame : (frames : List Frame) (depth : ℕ) (f : Frame) → 0 < depth → depth ≤ length frames → f ≡ slice_index_or frames (depth - 1) f → reverse (take depth frames) ≡ f ∷ reverse (take (depth - 1) frames)
last_frame frames depth f h1 h2 e =
    let m : depth ≡ depth - 1 + 1 = omega arith in
    ap (λ d. reverse (take d frames)) m ∙ ap reverse (take_more frames (depth - 1) f (omega arith)) ∙ reverse-append (take (depth - 1) frames) (slice_index_or frames (depth - 1) f ∷ []) ∙ ap (λ x. x ∷ reverse (take (depth - 1) frames)) (sym e)

pub left_off : (words : List Word) (frames : List Frame) (base first top depth : ℕ) (f : Frame) → 0 < depth → depth ≤ length frames → f ≡ slice_index_or frames (depth - 1) f → stack_of words frames f.base f.first base (depth - 1) ≡ left (stack_of words frames base first top depth)
left_off words frames base first top depth f h1 h2 e =
    let s : Stack = stack_of words frames f.base f.first base (depth - 1) in
    let m : length frames - (depth - 1) ≡ length frames - depth + 1 = omega arith in
    stacks _ _ _ _ _ _ _ _ _ _ refl refl refl refl m ∙ ap (λ fs. left (record (stack_of words frames base first top depth) { waits = waits_of fs words base })) (sym (last_frame frames depth f h1 h2 e))

pub left_caller : (words : List Word) (frames : List Frame) (base depth : ℕ) (f : Frame) → 0 < depth → depth ≤ length frames → f ≡ slice_index_or frames (depth - 1) f → f.caller ≡ first_caller (waits_of (reverse (take depth frames)) words base)
left_caller words frames base depth f h1 h2 e = ap (λ fs. first_caller (waits_of fs words base)) (sym (last_frame frames depth f h1 h2 e))

pub left_stacked : (frames : List Frame) (base depth : ℕ) (f : Frame) → 0 < depth → depth ≤ length frames → f ≡ slice_index_or frames (depth - 1) f → IsStacked (reverse (take depth frames)) base → (f.base ≤ f.first) × (f.first ≤ base) × IsStacked (reverse (take (depth - 1) frames)) f.base
left_stacked frames base depth f h1 h2 e h = subst (λ fs. IsStacked fs base) (last_frame frames depth f h1 h2 e) h

waits_count : (fs : List Frame) (words : List Word) (end : ℕ) → length (waits_of fs words end) ≡ length fs
waits_count [] words end = refl
waits_count (f ∷ fs) words end = ap suc (waits_count fs words f.base)

pub waits_length : (words : List Word) (frames : List Frame) (base depth : ℕ) → depth ≤ length frames → length (waits_of (reverse (take depth frames)) words base) ≡ depth
waits_length words frames base depth h = waits_count (reverse (take depth frames)) words base ∙ length-reverse (take depth frames) ∙ length-take-le depth frames h

pub locals_more : (vs : List Value) (v : Value) (s s' : Stack) → s' ≡ with_locals vs s → with_locals (v ∷ []) s' ≡ with_locals (vs ++ v ∷ []) s
locals_more vs v s s' e =
    let n : length (vs ++ v ∷ []) ≡ length vs + 1 = length-append vs (v ∷ []) in
    ap (with_locals (v ∷ [])) e
    ∙ stacks _ _ _ _ _ _ _ _ _ _ (append_assoc s.locals vs (v ∷ [])) refl refl (omega (arith, n)) refl

pub empty_is : (words : List Word) (frames : List Frame) (n m : ℕ) → length words ≡ n → length frames ≡ m → stack_of words frames 0 0 0 0 ≡ started n m []
empty_is words frames n m h k =
    stacks _ _ _ _ _ _ _ _ _ _ (none words 0) (ap reverse (none words 0)) refl (omega (arith, h)) (omega (arith, k))

part_longer : (words more : List Word) (from to : ℕ) → from ≤ to → to ≤ length words → part (words ++ more) from to ≡ part words from to
unfolding part
part_longer words more from to h k =
    ap (λ l. map value_of (take (to - from) l)) (drop-append-le from words more (omega arith))
    ∙ ap (map value_of) (take-append-le (to - from) (drop from words) more (subst (λ n. to - from ≤ n) (sym (length-drop from words)) (omega arith)))

waits_longer : (fs : List Frame) (words more : List Word) (end : ℕ) → IsStacked fs end → end ≤ length words → waits_of fs (words ++ more) end ≡ map (widened (length more)) (waits_of fs words end)
waits_longer [] words more end h k = refl
waits_longer (f ∷ fs) words more end h k =
    let e1 = part_longer words more f.base f.first h.0 (omega (arith, h.1, k)) in
    let e2 = part_longer words more f.first end h.1 k in
    let e3 = waits_longer fs words more f.base h.2 (omega (arith, h.0, h.1, k)) in
    let e4 : length (words ++ more) - end ≡ length words - end + length more = ap (λ n. n - end) (length-append words more) ∙ omega arith in
    cc

pub roomier : (words more : List Word) (frames : List Frame) (base first top depth n : ℕ) → base ≤ first → first ≤ top → top ≤ length words → IsStacked (reverse (take depth frames)) base → length more ≡ n → stack_of (words ++ more) frames base first top depth ≡ with_room n (stack_of words frames base first top depth)
roomier words more frames base first top depth n h1 h2 h3 h4 e =
    stacks _ _ _ _ _ _ _ _ _ _
    (part_longer words more base first h1 (omega arith))
    (ap reverse (part_longer words more first top h2 h3))
    (waits_longer (reverse (take depth frames)) words more base h4 (omega arith) ∙ ap (λ n. map (widened n) (waits_of (reverse (take depth frames)) words base)) e)
    (ap (λ k. k - top) (length-append words more) ∙ omega (arith, e))
    refl

pub deeper : (words : List Word) (frames more : List Frame) (base first top depth n : ℕ) → depth ≤ length frames → length more ≡ n → stack_of words (frames ++ more) base first top depth ≡ with_more n (stack_of words frames base first top depth)
deeper words frames more base first top depth n h e =
    stacks _ _ _ _ _ _ _ _ _ _ refl refl
    (ap (λ fs. waits_of (reverse fs) words base) (take-append-le depth frames more h))
    refl
    (ap (λ k. k - depth) (length-append frames more) ∙ omega (arith, e))
