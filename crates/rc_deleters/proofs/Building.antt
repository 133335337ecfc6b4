-- Stops are built function by function, and lead to functions' numbers first.
use Rattle.std.proofs.Common.{◌≡◌, ◌∙◌, ◌⊎◌, inl, inr, ℕ, zero, suc, ◌+◌, ◌<◌, ◌≤◌, List, [], ◌∷◌, ◌++◌, length, map, drop, get_or, refl, sym, ap, arith}
use Rattle.std.proofs.lemmas.List.{append_assoc, append-nil, length-append, map-append, drop_more, drop_all, get_or_append_left, get_or_at}
use Rattle.rc_code.specs.declared.instruction.Instruction.{Instruction}
use Rattle.rc_code.specs.declared.image.Function.{Function}
use Rattle.rc_code.specs.Running.{no_function}
use Rattle.rc_stops.specs.declared.stop.Stop.{Stop}
use Rattle.rc_deleters.specs.Calls.{as_numbered, end_stop, stops_if, code_stops, stop_count, image_stops, releading, code_at, first_of, AreFirsts}
use Rattle.rc_deleters.proofs.Standing.{Sort, deletes, calls, neither, sort_of, counted}

pub nothing_put : (xs : List Stop) → xs ≡ xs ++ []
nothing_put xs = sym (append-nil xs)

pub first_none : (fs : List Function) → first_of fs 0 ≡ 0
first_none [] = refl
first_none (f ∷ fs) = refl

-- ---- one function

pub code_more : (code : List Instruction) (at : ℕ) (d : Instruction) (start now next : List Stop) → at < length code → now ++ code_stops as_numbered (drop at code) ≡ start → next ≡ now ++ stops_if as_numbered (get_or code at d) → next ++ code_stops as_numbered (drop (at + 1) code) ≡ start
code_more code at d start now next lt e is =
    ap (λ (ss : List Stop). ss ++ code_stops as_numbered (drop (at + 1) code)) is
    ∙ append_assoc now (stops_if as_numbered (get_or code at d)) (code_stops as_numbered (drop (at + 1) code))
    ∙ ap (λ (is : List Instruction). now ++ code_stops as_numbered is) (sym (drop_more code at d lt))
    ∙ e

pub code_all : (code : List Instruction) (at : ℕ) (start now next : List Stop) → length code ≤ at → now ++ code_stops as_numbered (drop at code) ≡ start → next ≡ now ++ end_stop ∷ [] → next ≡ start
code_all code at start now next le e is = is ∙ ap (λ (is : List Instruction). now ++ code_stops as_numbered is) (sym (drop_all at code le)) ∙ e

-- ---- all functions

pub image_more : (fs : List Function) (g : ℕ) (start now next : List Stop) → g < length fs → now ++ image_stops as_numbered (drop g fs) ≡ start → next ≡ now ++ code_stops as_numbered (code_at fs g) → next ++ image_stops as_numbered (drop (g + 1) fs) ≡ start
image_more fs g start now next lt e is =
    ap (λ (ss : List Stop). ss ++ image_stops as_numbered (drop (g + 1) fs)) is
    ∙ append_assoc now (code_stops as_numbered (code_at fs g)) (image_stops as_numbered (drop (g + 1) fs))
    ∙ ap (λ (gs : List Function). now ++ image_stops as_numbered gs) (sym (drop_more fs g no_function lt))
    ∙ e

pub image_all : (fs : List Function) (g : ℕ) (start now : List Stop) → length fs ≤ g → now ++ image_stops as_numbered (drop g fs) ≡ start → now ≡ start
image_all fs g start now le e = sym (append-nil now) ∙ ap (λ (gs : List Function). now ++ image_stops as_numbered gs) (sym (drop_all g fs le)) ∙ e

first_more : (fs : List Function) (g : ℕ) → g < length fs → first_of fs (suc g) ≡ first_of fs g + stop_count (code_at fs g)
first_more [] g lt = absurd (omega (arith, lt))
first_more (f ∷ []) zero lt = omega arith
first_more (f ∷ e ∷ fs) zero lt = omega arith
first_more (f ∷ fs) (suc g) lt = let r = first_more fs g (omega (arith, lt)) in omega (arith, r)

pub long_more : (fs : List Function) (g : ℕ) (now next : List Stop) → g < length fs → length now ≡ first_of fs g → next ≡ now ++ code_stops as_numbered (code_at fs g) → length next ≡ first_of fs (g + 1)
long_more fs g now next lt e is =
    let l = length-append now (code_stops as_numbered (code_at fs g)) in
    let c = counted as_numbered (code_at fs g) in
    let f = first_more fs g lt in
    let n : suc g ≡ g + 1 = omega arith in
    let m : first_of fs (suc g) ≡ first_of fs (g + 1) = ap (first_of fs) n in
    let k : length next ≡ length (now ++ code_stops as_numbered (code_at fs g)) = ap length is in
    omega (arith, l, c, f, m, k, e)

order : (a b : ℕ) → (a < b) ⊎ ((a ≡ b) ⊎ (b < a))
order a b = grind arith

pub firsts_more : (fs : List Function) (g : ℕ) (now next : List ℕ) (first : ℕ) → length now ≡ g → first ≡ first_of fs g → next ≡ now ++ first ∷ [] → ((h : ℕ) → h < g → get_or now h 0 ≡ first_of fs h) → (h : ℕ) → h < g + 1 → get_or next h 0 ≡ first_of fs h
firsts_more fs g now next first long e is each h lt = ap (λ (ns : List ℕ). get_or ns h 0) is ∙ by (order h g)
  where
    by : (h < g) ⊎ ((h ≡ g) ⊎ (g < h)) → get_or (now ++ first ∷ []) h 0 ≡ first_of fs h
    by (inl l) = get_or_append_left now (first ∷ []) 0 h (omega (arith, l, long)) ∙ each h l
    by (inr (inl q)) = get_or_at now first [] 0 h (long ∙ sym q) ∙ e ∙ ap (first_of fs) (sym q)
    by (inr (inr l)) = absurd (omega (arith, l, lt))

pub firsts_long : (now next : List ℕ) (first g : ℕ) → length now ≡ g → next ≡ now ++ first ∷ [] → length next ≡ g + 1
firsts_long now next first g long is = let l = length-append now (first ∷ []) in let k : length next ≡ length (now ++ first ∷ []) = ap length is in omega (arith, l, k, long)

pub firsts_all : (fs : List Function) (g : ℕ) (now : List ℕ) → g ≡ length fs → length now ≡ g → ((h : ℕ) → h < g → get_or now h 0 ≡ first_of fs h) → AreFirsts fs now
firsts_all fs g now e long each = record { long = long ∙ e; each = λ h lt. each h (omega (arith, e, lt)) }

-- ---- led to first stops

led_if : (first : ℕ → ℕ) (i : Instruction) → map (releading first) (stops_if as_numbered i) ≡ stops_if first i
led_if first i = by (sort_of i)
  where
    by : Sort i → map (releading first) (stops_if as_numbered i) ≡ stops_if first i
    by (deletes pins is e) = ap (map (releading first)) (e as_numbered) ∙ sym (e first)
    by (calls h pins is e) = ap (map (releading first)) (e as_numbered) ∙ sym (e first)
    by (neither e) = ap (map (releading first)) (e as_numbered) ∙ sym (e first)

led_code : (first : ℕ → ℕ) (code : List Instruction) → map (releading first) (code_stops as_numbered code) ≡ code_stops first code
led_code first [] = refl
led_code first (i ∷ code) =
    map-append (releading first) (stops_if as_numbered i) (code_stops as_numbered code)
    ∙ ap (λ (ss : List Stop). ss ++ map (releading first) (code_stops as_numbered code)) (led_if first i)
    ∙ ap (λ (ss : List Stop). stops_if first i ++ ss) (led_code first code)

pub led_image : (first : ℕ → ℕ) (fs : List Function) → map (releading first) (image_stops as_numbered fs) ≡ image_stops first fs
led_image first [] = refl
led_image first (f ∷ fs) =
    map-append (releading first) (code_stops as_numbered f.code) (image_stops as_numbered fs)
    ∙ ap (λ (ss : List Stop). ss ++ map (releading first) (image_stops as_numbered fs)) (led_code first f.code)
    ∙ ap (λ (ss : List Stop). code_stops first f.code ++ ss) (led_image first fs)
