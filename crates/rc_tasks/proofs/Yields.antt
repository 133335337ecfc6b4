-- The appended bodies of `yield` and `main`, run in a world with the two objects, do what a yield and the run do without them.
use Rattle.rc_tasks.proofs.Common.{◌≡◌, ℕ, suc, ◌+◌, ◌*◌, ◌-◌, ◌<◌, ◌≤◌, List, [], ◌∷◌, ◌++◌, length, map, take, drop, filter, nat_eq, if◌then◌else◌, refl, ap, ◌∙◌, arith, pos, ◌+ℤ◌, ◌-ℤ◌, unsigned_abs, mod-eq_of_lt, Bounds, Int, Unsigned, wrapped, converted, equals, fits_int, unsigned_cell, Value, Number, Object, literal, live, names, object_at, note_of, Run, Go, tested, touching, static, aimed, World, with_heap, is_index, first_of, is_empty, fitting, overwritten, written, source, digit}
use Rattle.std.proofs.Common.{Bool, true, false, nat_lt}
use Rattle.rc_tasks.proofs.Heaps.{Fine, Silent, live_lifted, first_there, second_there, first_changed}
use Rattle.rc_tasks.proofs.Worlds.{lifted_world}

-- rc_at and CHOICES as objects
abbrev pub counter_object : ℕ → Object
counter_object n = record { layout = unsigned_cell ∷ []; count = 1; values = Number (pos n) ∷ [] }

abbrev pub choices_object : List ℕ → Object
choices_object choices = literal (map digit choices)

pub counter_silent : (n : ℕ) → Silent (counter_object n)
counter_silent n r = refl

bytes_silent : (r : ℕ) (bytes : List ℕ) → is_empty (filter (names r) (map (λ b. Number (pos b)) bytes ++ Number (pos 0) ∷ [])) ≡ true
bytes_silent r [] = refl
bytes_silent r (b ∷ bytes) = bytes_silent r bytes

pub choices_silent : (choices : List ℕ) → Silent (choices_object choices)
choices_silent choices r = bytes_silent r (map digit choices)

wrapped_small : (n : ℕ) → n < 4294967296 → wrapped (pos n) ≡ pos n
wrapped_small n lt = ap pos (mod-eq_of_lt lt)

pub unsigned_same : (n : ℕ) → n < 4294967296 → converted Unsigned (pos n) ≡ pos n
unsigned_same n lt = wrapped_small n lt

pub int_same : (n : ℕ) → n < 2147483648 → converted Int (pos n) ≡ pos n
int_same n lt = ap (λ z. if fits_int z then z else z -ℤ pos 4294967296) (wrapped_small n (omega (arith, lt))) ∙ fits (nat_lt n 2147483648) (below n lt)
  where
    fits : (b : Bool) → b ≡ true → (if b then pos n else pos n -ℤ pos 4294967296) ≡ pos n
    fits true e = refl
    fits false e = cc

    below : (n : ℕ) → n < 2147483648 → nat_lt n 2147483648 ≡ true
    below n lt = grind (arith, lt)

pub same_digits : (d e : ℕ) → equals (pos (digit d)) (pos (digit e)) ≡ nat_eq d e
same_digits d e = grind arith

index_there : (k n : ℕ) → k ≤ n → is_index (pos 0 +ℤ pos k) (suc n) ≡ true
index_there k n le = grind (arith, le)

place_there : (k : ℕ) → unsigned_abs (pos 0 +ℤ pos k) * 1 + 0 ≡ k
place_there k = omega arith

-- the value of a choice, among those of the literal
chosen_value : (taken : List ℕ) (d : ℕ) (rest : List ℕ) → first_of (take 1 (drop (length taken) (choices_object (taken ++ d ∷ rest)).values)) ≡ Number (pos (digit d))
chosen_value [] d rest = refl
chosen_value (c ∷ taken) d rest = chosen_value taken d rest

digits_length : (choices : List ℕ) → length (map digit choices) ≡ length choices
digits_length [] = refl
digits_length (c ∷ choices) = ap suc (digits_length choices)

module _ (g s : ℕ) (choices : List ℕ) (w : World) (fine : Fine (g + s) w.heap) where
  abbrev v : ℕ → World
  v k = lifted_world g s (counter_object k) (choices_object choices) w

  first_lives : (k : ℕ) → live (v k).heap 0 ≡ true
  first_lives k = ap (λ l. l 0) (live_lifted g s (counter_object k) (choices_object choices) w.heap) ∙ fine.lives

  -- a load through a pointer to an object of region 0, where it is alive and this is the object
  abbrev loaded : (line index : ℕ) → World → Bool → Object → Run World Value
  loaded line n u l o =
      touching l line u (tested (is_index (pos 0 +ℤ pos n) o.count) Bounds line u (tested true Bounds line u
      (Go (first_of (take 1 (drop (unsigned_abs (pos 0 +ℤ pos n) * length o.layout + 0) o.values))) u)))

  abbrev finding : (line index : ℕ) → World → Bool → Object → Bool → Run World Value
  finding line n u l o found =
      touching l line u (tested found Bounds line u (tested true Bounds line u
      (Go (first_of (take 1 (drop (unsigned_abs (pos 0 +ℤ pos n) * length o.layout + 0) o.values))) u)))

  -- rc_at
  pub counter_loaded : (line k : ℕ) → source.load line (aimed (static g) (pos 0)) (v k) ≡ Go (Number (pos k)) (v k)
  counter_loaded line k =
      ap (λ l. loaded line 0 (v k) l (object_at (v k).heap 0 g)) (first_lives k) ∙ ap (loaded line 0 (v k) true) (first_there g s (counter_object k) (choices_object choices) w.heap fine)

  -- s[rc_at]
  pub choice_loaded : (line : ℕ) (taken : List ℕ) (d : ℕ) (rest : List ℕ) → choices ≡ taken ++ d ∷ rest →
      source.load line (aimed (static (suc (g + s))) (pos (length taken))) (v (length taken)) ≡ Go (Number (pos (digit d))) (v (length taken))
  choice_loaded line taken d rest e =
      ap (λ l. loaded line (length taken) (v (length taken)) l (object_at (v (length taken)).heap 0 (suc (g + s)))) (first_lives (length taken))
      ∙ ap (loaded line (length taken) (v (length taken)) true) (second_there g s (counter_object (length taken)) (choices_object choices) w.heap fine)
      ∙ ap (finding line (length taken) (v (length taken)) true (choices_object choices)) (index_there (length taken) (length (map digit choices)) within)
      ∙ ap (λ n. Go (first_of (take 1 (drop n (choices_object choices).values))) (v (length taken))) (place_there (length taken))
      ∙ ap (λ x. Go x (v (length taken))) (ap (λ cs. first_of (take 1 (drop (length taken) (choices_object cs).values))) e ∙ chosen_value taken d rest)
    where
      longer : (xs ys : List ℕ) → length xs ≤ length (xs ++ ys)
      longer [] ys = omega arith
      longer (x ∷ xs) ys = omega (arith, longer xs ys)

      within : length taken ≤ length (map digit choices)
      within = omega (arith, digits_length choices, ap length e, longer taken (d ∷ rest))

  -- rc_at = n
  abbrev putting : (line k n : ℕ) → Bool → Object → Run World (Unit {0})
  putting line k n l o =
      touching l line (v k) (tested (is_index (pos 0 +ℤ pos 0) o.count) Bounds line (v k) (tested true Bounds line (v k) (touching true line (v k)
      (fitting (v k).heap 0 line (map note_of (drop 0 o.layout)) (Number (pos n) ∷ []) (v k)
      (Go tt (with_heap (v k) (written (record { region = 0; object = g; element = unsigned_abs (pos 0 +ℤ pos 0); cell = 0 }) (Number (pos n) ∷ []) (v k).heap)))))))

  pub counter_stored : (line k n : ℕ) → source.store line (aimed (static g) (pos 0)) (Number (pos n)) (v k) ≡ Go tt (v n)
  counter_stored line k n =
      ap (λ l. putting line k n l (object_at (v k).heap 0 g)) (first_lives k)
      ∙ ap (putting line k n true) (first_there g s (counter_object k) (choices_object choices) w.heap fine)
      ∙ ap (λ h. Go tt (with_heap (v k) h)) (first_changed g s (counter_object k) (choices_object choices) w.heap (λ o. record o { values = overwritten (0 * length o.layout + 0) (take (length o.layout - 0) (Number (pos n) ∷ [])) o.values }) fine)
