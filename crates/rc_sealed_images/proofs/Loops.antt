-- Reading one frame after the other, and what is claimed of one function after the other, as loops do, and counting.
use Rattle.std.proofs.Common.{◌≡◌, ℕ, zero, suc, ◌-◌, ◌+◌, ◌≤◌, ◌<◌, Bool, true, false, min, cond, ltb, List, [], ◌∷◌, ◌++◌, map, length, get_or, drop, Ok, Err, refl, sym, ap, subst, ◌∙◌, append_assoc, arith}
use Rattle.std.proofs.lemmas.Bool.{ltb-true}
use Rattle.std.proofs.lemmas.List.{append-nil, drop_more, drop_all}
use Rattle.rc_code.specs.declared.kind.Storage.{Storage}
use Rattle.rc_code.specs.declared.image.Function.{Function}
use Rattle.rc_code.specs.Soundness.{is_regional}
use Rattle.rc_fields.specs.declared.stop.Stop.{Stop}
use Rattle.rc_fields.specs.Reading.{◌>>=◌, Fault, field, Fails, Read, number_at, number_within}
use Rattle.rc_fields.proofs.Codecs.{bind_ok, no_then, no_else, ok_is}
use Rattle.rc_fields.proofs.Loop.{with_front, fails_by}
use Rattle.rc_claims.specs.declared.proofs.Frame.{Frame}
use Rattle.rc_claims.specs.declared.proofs.Known.{Known}
use Rattle.rc_claims.specs.Counts.{trues, one_if}
use Rattle.rc_sealed_images.specs.Reading.{frame_at, frames_at, known_at, knowns_at}

-- ---- counting

pub trues_none : (bs : List Bool) → trues bs 0 ≡ 0
trues_none [] = refl
trues_none (b ∷ bs) = refl

next_true : (b c : Bool) (bs : List Bool) (i : ℕ) → trues bs (suc i) ≡ trues bs i + one_if c → trues (b ∷ bs) (suc (suc i)) ≡ trues (b ∷ bs) (suc i) + one_if c
next_true true c bs i e = omega (arith, e)
next_true false c bs i e = e

first_true : (b : Bool) (bs : List Bool) → trues (b ∷ bs) 1 ≡ 0 + one_if b
first_true true bs = let t = trues_none bs in omega (arith, t)
first_true false bs = let t = trues_none bs in omega (arith, t)

more_trues : (locals : List Storage) (i : ℕ) (d : Storage) → i < length locals → trues (map is_regional locals) (suc i) ≡ trues (map is_regional locals) i + one_if (is_regional (get_or locals i d))
more_trues [] i d lt = absurd (omega (arith, lt))
more_trues (x ∷ locals) zero d lt = first_true (is_regional x) (map is_regional locals)
more_trues (x ∷ locals) (suc i) d lt = next_true (is_regional x) (is_regional (get_or locals i d)) (map is_regional locals) i (more_trues locals i d (omega (arith, lt)))

pub count_more : (locals : List Storage) (i count more : ℕ) (so : Bool) (d : Storage) → i < length locals → count ≡ trues (map is_regional locals) i → so ≡ is_regional (get_or locals i d) → more ≡ count + one_if so → more ≡ trues (map is_regional locals) (i + 1)
count_more locals i count more so d lt counted is new =
    let next : suc i ≡ i + 1 = omega arith in
    new ∙ ap (λ n. n + one_if so) counted ∙ ap (λ b. trues (map is_regional locals) i + one_if b) is ∙ sym (more_trues locals i d lt) ∙ ap (trues (map is_regional locals)) next

pub few_more : (count i : ℕ) (b : Bool) → count ≤ i → count + one_if b ≤ i + 1
few_more count i true le = omega (arith, le)
few_more count i false le = omega (arith, le)

-- behind the last there are none
pub trues_past : (bs : List Bool) (m n : ℕ) → length bs ≡ m → trues bs (min m n) ≡ trues bs n
trues_past [] m n e = refl
trues_past (b ∷ bs) m zero e = ap (trues (b ∷ bs)) (let none : min m 0 ≡ 0 = omega arith in none)
trues_past (true ∷ bs) m (suc n) e = ap (trues (true ∷ bs)) (let less : min m (suc n) ≡ suc (min (length bs) n) = omega (arith, e) in less) ∙ ap suc (trues_past bs (length bs) n refl)
trues_past (false ∷ bs) m (suc n) e = ap (trues (false ∷ bs)) (let less : min m (suc n) ≡ suc (min (length bs) n) = omega (arith, e) in less) ∙ trues_past bs (length bs) n refl

-- ---- reading

pub within_bound : (least bound : ℕ) (bytes : List ℕ) (x : ℕ × List ℕ) → number_within least bound bytes ≡ Ok x → x.0 < bound
unfolding number_within
within_bound least bound bytes x e =
    let a = bind_ok (number_at bytes) (λ n. cond (ltb n.0 least) (Err (field (length bytes))) (cond (ltb n.0 bound) (Ok n) (Err (field (length bytes))))) x e in
    let p = no_then (ltb a.0.0 least) (field (length bytes)) (cond (ltb a.0.0 bound) (Ok a.0) (Err (field (length bytes)))) x a.2 in
    let q = no_else (ltb a.0.0 bound) (field (length bytes)) (Ok a.0) x p.1 in
    subst (λ (y : ℕ × List ℕ). y.0 < bound) (ok_is a.0 x q.1) (ltb-true a.0.0 bound q.0)

regroup : {A : Type 0} (front : List A) (n : A) (read : Read (List A)) → with_front front (read >>= λ x. Ok (n ∷ x.0, x.1)) ≡ with_front (front ++ n ∷ []) read
regroup {A} front n (Ok x) = ap (λ (ns : List A). Ok (ns, x.1)) (simp append_assoc)
regroup front n (Err f) = refl

module _ (f : Function) (front : List Frame) (count i least : ℕ) (bytes : List ℕ) (total : Read (List Frame)) (so_far : with_front front (frames_at f (count - i) least bytes) ≡ total) where
  pub frames_go_on : (next : ℕ) (frame : Frame) (after : List ℕ) → i < count → frame_at f least bytes ≡ Ok (frame, after) → next ≡ suc frame.at → with_front (front ++ frame ∷ []) (frames_at f (count - (i + 1)) next after) ≡ total
  unfolding frames_at
  frames_go_on next frame after lt h is =
      let k : count - i ≡ suc (count - (i + 1)) = omega arith in
      let one : with_front front (frames_at f (count - i) least bytes) ≡ with_front (front ++ frame ∷ []) (frames_at f (count - (i + 1)) (suc frame.at) after) = rw (k, h) (regroup front frame (frames_at f (count - (i + 1)) (suc frame.at) after)) in
      ap (λ n. with_front (front ++ frame ∷ []) (frames_at f (count - (i + 1)) n after)) is ∙ sym one ∙ so_far

  frames_failed : (e : Fault) → i < count → frame_at f least bytes ≡ Err e → total ≡ Err e
  unfolding frames_at
  frames_failed e lt h =
      let k : count - i ≡ suc (count - (i + 1)) = omega arith in
      let one : with_front front (frames_at f (count - i) least bytes) ≡ Err e = rw (k, h) refl in
      sym so_far ∙ one

  pub frames_end : (e : Stop) → i < count → Fails e (frame_at f least bytes) → Fails e total
  frames_end e lt fails = fails_by e (frame_at f least bytes) total (λ x h. frames_failed x lt h) fails

  pub frames_are_done : count ≤ i → total ≡ Ok (front, bytes)
  unfolding frames_at
  frames_are_done le =
      let k : count - i ≡ 0 = omega arith in
      let one : with_front front (frames_at f (count - i) least bytes) ≡ Ok (front, bytes) = rw k (ap (λ (fs : List Frame). Ok (fs, bytes)) (append-nil front)) in
      sym so_far ∙ one

module _ (front : List Known) (fs : List Function) (i : ℕ) (bytes : List ℕ) (total : Read (List Known)) (so_far : with_front front (knowns_at (drop i fs) bytes) ≡ total) where
  rest_is : (f : Function) → i < length fs → f ≡ get_or fs i f → drop i fs ≡ f ∷ drop (i + 1) fs
  rest_is f lt is = drop_more fs i f lt ∙ ap (λ g. g ∷ drop (i + 1) fs) (sym is)

  pub knowns_go_on : (f : Function) (known : Known) (after : List ℕ) → i < length fs → f ≡ get_or fs i f → known_at f bytes ≡ Ok (known, after) → with_front (front ++ known ∷ []) (knowns_at (drop (i + 1) fs) after) ≡ total
  unfolding knowns_at
  knowns_go_on f known after lt is h =
      let one : with_front front (knowns_at (drop i fs) bytes) ≡ with_front (front ++ known ∷ []) (knowns_at (drop (i + 1) fs) after) = rw (rest_is f lt is, h) (regroup front known (knowns_at (drop (i + 1) fs) after)) in
      sym one ∙ so_far

  knowns_failed : (f : Function) (e : Fault) → i < length fs → f ≡ get_or fs i f → known_at f bytes ≡ Err e → total ≡ Err e
  unfolding knowns_at
  knowns_failed f e lt is h =
      let one : with_front front (knowns_at (drop i fs) bytes) ≡ Err e = rw (rest_is f lt is, h) refl in
      sym so_far ∙ one

  pub knowns_end : (f : Function) (e : Stop) → i < length fs → f ≡ get_or fs i f → Fails e (known_at f bytes) → Fails e total
  knowns_end f e lt is fails = fails_by e (known_at f bytes) total (λ x h. knowns_failed f x lt is h) fails

  pub knowns_are_done : length fs ≤ i → total ≡ Ok (front, bytes)
  unfolding knowns_at
  knowns_are_done le =
      let one : with_front front (knowns_at (drop i fs) bytes) ≡ Ok (front, bytes) = rw (drop_all i fs le) (ap (λ (ks : List Known). Ok (ks, bytes)) (append-nil front)) in
      sym so_far ∙ one
