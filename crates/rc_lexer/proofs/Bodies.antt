-- A loop over the values of a string literal.
use Rattle.std.proofs.Common.{ℕ, zero, suc, ◌≡◌, ◌<◌, ◌≤◌, ◌+◌, ◌-◌, List, [], ◌∷◌, ◌++◌, append_assoc, append-nil, length, take, drop, get_or, Option, Some, None, true, false, refl, ap, sym, ◌∙◌, arith, length-drop}
use Rattle.std.proofs.lemmas.Bool.Decides.{nat_tests}
use Rattle.std.specs.Prelude.{◌==◌}
use Rattle.rc_syntax.specs.reader.Look.{value_next, one_further, one_value, body_at}
use Rattle.rc_syntax.proofs.LiteralLaws.{next_fits}

pub test_not : (a b : ℕ) → (a ≡ b → ⊥) → (a == b) ≡ false
test_not a b h = grind (arith, nat_tests)

-- with what was read before
abbrev pub prefixed : ℕ → List ℕ → Option (ℕ × List ℕ) → Option (ℕ × List ℕ)
prefixed at values None = None
prefixed at values (Some x) = Some (at + x.0, values ++ x.1)

pub next_byte : (text : List ℕ) (at : ℕ) → at < length text → drop at text ≡ get_or text at 0 ∷ drop (at + 1) text
next_byte [] at h = absurd (omega arith)
next_byte (b ∷ bs) zero h = refl
next_byte (b ∷ bs) (suc at) h = next_byte bs at (omega arith) ∙ (let e : suc (at + 1) ≡ suc at + 1 = omega arith in ap (λ j. get_or bs at 0 ∷ drop j (b ∷ bs)) e)

drop_none : (n : ℕ) → drop n (let e : List ℕ = [] in e) ≡ []
drop_none zero = refl
drop_none (suc n) = refl

pub further_in : (text : List ℕ) (i n : ℕ) → drop n (drop i text) ≡ drop (i + n) text
further_in text zero n = let e : n ≡ zero + n = omega arith in ap (λ j. drop j text) e
further_in [] (suc i) n = drop_none n ∙ sym (drop_none (suc i + n))
further_in (b ∷ bs) (suc i) n = further_in bs i n ∙ (let e : suc (i + n) ≡ suc i + n = omega arith in ap (λ j. drop j (b ∷ bs)) e)

pub drop_past : (text : List ℕ) (i : ℕ) → length text ≤ i → drop i text ≡ []
drop_past [] i h = drop_none i
drop_past (b ∷ bs) zero h = absurd (omega arith)
drop_past (b ∷ bs) (suc i) h = drop_past bs i (omega arith)

take_over : (xs : List ℕ) (n : ℕ) → length xs ≤ n → take n xs ≡ xs
take_over [] zero h = refl
take_over [] (suc n) h = refl
take_over (x ∷ xs) zero h = absurd (omega arith)
take_over (x ∷ xs) (suc n) h = ap (λ z. x ∷ z) (take_over xs n (omega arith))

-- the rest of a slice from a place on
pub whole_rest : (text : List ℕ) (i : ℕ) → take (length text - i) (drop i text) ≡ drop i text
whole_rest text i = take_over (drop i text) (length text - i) (omega (arith, length-drop i text))

further_prefixed : (k : ℕ) (o : Option (ℕ × List ℕ)) → one_further (prefixed k [] o) ≡ prefixed (suc k) [] o
further_prefixed k None = refl
further_prefixed k (Some x) = ap (λ z. Some (z, x.1)) (let e : suc (k + x.0) ≡ suc k + x.0 = omega arith in e)

prefixed_none : (o : Option (ℕ × List ℕ)) → prefixed 0 [] o ≡ o
prefixed_none None = refl
prefixed_none (Some x) = ap (λ z. Some (z, x.1)) (let e : 0 + x.0 ≡ x.0 = omega arith in e)

skips : (q k : ℕ) (text : List ℕ) → body_at q k text ≡ prefixed k [] (body_at q 0 (drop k text))
skips q zero text = sym (prefixed_none (body_at q 0 text))
skips q (suc k) [] = refl
skips q (suc k) (b ∷ text) = ap one_further (skips q k text) ∙ further_prefixed k (body_at q 0 (drop k text))

one_prefixed : (n value : ℕ) (o : Option (ℕ × List ℕ)) → 1 ≤ n → one_value (Some (n, value)) (λ z. prefixed (n - 1) [] o) ≡ prefixed n (value ∷ []) o
one_prefixed n value None h = refl
one_prefixed n value (Some x) h = ap (λ z. Some (z, value ∷ x.1)) (let e : suc (n - 1 + x.0) ≡ n + x.0 = omega arith in e)

twice : (at n value : ℕ) (values : List ℕ) (o : Option (ℕ × List ℕ)) → prefixed at values (prefixed n (value ∷ []) o) ≡ prefixed (at + n) (values ++ value ∷ []) o
twice at n value values None = refl
twice at n value values (Some x) =
    let e : at + (n + x.0) ≡ at + n + x.0 = omega arith in
    ap (λ z. Some (z, values ++ value ∷ x.1)) e ∙ ap (λ z. Some (at + n + x.0, z)) (sym (append_assoc values (value ∷ []) x.1))

at_quote : (q : ℕ) (text : List ℕ) (at : ℕ) → at < length text → (get_or text at 0 == q) ≡ true → body_at q 0 (drop at text) ≡ Some (0, [])
at_quote q text at h e = ap (body_at q 0) (next_byte text at h) ∙ rw e refl

pub body_here : (text values : List ℕ) (at : ℕ) → at < length text → (get_or text at 0 == 34) ≡ true → prefixed at values (body_at 34 0 (drop at text)) ≡ Some (at, values)
body_here text values at h e =
    ap (prefixed at values) (at_quote 34 text at h e) ∙ ap (λ z. Some (z, values ++ [])) (let f : at + 0 ≡ at = omega arith in f) ∙ ap (λ z. Some (at, z)) (append-nil values)

opened : (text : List ℕ) (at : ℕ) → at < length text → (get_or text at 0 == 34) ≡ false → body_at 34 0 (drop at text) ≡ one_value (value_next 34 (drop at text)) (λ k. body_at 34 (k - 1) (drop (at + 1) text))
opened text at h e =
    let f = next_byte text at h in
    let b = get_or text at 0 in
    let rest = drop (at + 1) text in
    let g : body_at 34 0 (b ∷ rest) ≡ one_value (value_next 34 (b ∷ rest)) (λ k. body_at 34 (k - 1) rest) = rw e refl in
    ap (body_at 34 0) f ∙ g ∙ ap (λ z. one_value (value_next 34 z) (λ k. body_at 34 (k - 1) rest)) (sym f)

pub body_stops : (text values : List ℕ) (at : ℕ) → at < length text → (get_or text at 0 == 34) ≡ false → value_next 34 (drop at text) ≡ None → prefixed at values (body_at 34 0 (drop at text)) ≡ None
body_stops text values at h e f = ap (prefixed at values) (opened text at h e ∙ ap (λ o. one_value o (λ k. body_at 34 (k - 1) (drop (at + 1) text))) f)

pub body_more : (text values : List ℕ) (at n value : ℕ) → at < length text → (get_or text at 0 == 34) ≡ false → value_next 34 (drop at text) ≡ Some (n, value) →
    prefixed at values (body_at 34 0 (drop at text)) ≡ prefixed (at + n) (values ++ value ∷ []) (body_at 34 0 (drop (at + n) text))
body_more text values at n value h e f =
    let l = next_fits 34 (drop at text) (n, value) f in
    let r = drop (at + 1) text in
    let d : drop (n - 1) r ≡ drop (at + n) text = further_in text (at + 1) (n - 1) ∙ (let i : at + 1 + (n - 1) ≡ at + n = omega (arith, l.0) in ap (λ j. drop j text) i) in
    let g : body_at 34 (n - 1) r ≡ prefixed (n - 1) [] (body_at 34 0 (drop (at + n) text)) = skips 34 (n - 1) r ∙ ap (λ z. prefixed (n - 1) [] (body_at 34 0 z)) d in
    let i : body_at 34 0 (drop at text) ≡ prefixed n (value ∷ []) (body_at 34 0 (drop (at + n) text)) =
    opened text at h e ∙ ap (λ o. one_value o (λ k. body_at 34 (k - 1) r)) f ∙ ap (λ o. one_value (Some (n, value)) (λ k. o)) g ∙ one_prefixed n value (body_at 34 0 (drop (at + n) text)) l.0 in
    ap (prefixed at values) i ∙ twice at n value values (body_at 34 0 (drop (at + n) text))

pub body_past : (text values : List ℕ) (at : ℕ) → length text ≤ at → prefixed at values (body_at 34 0 (drop at text)) ≡ None
body_past text values at h = ap (λ z. prefixed at values (body_at 34 0 z)) (drop_past text at h)

pub next_within : (text : List ℕ) (at n value : ℕ) → at < length text → value_next 34 (drop at text) ≡ Some (n, value) → (1 ≤ n) × (at + n ≤ length text)
next_within text at n value h e = let l = next_fits 34 (drop at text) (n, value) e in (l.0, omega (arith, l.1, length-drop at text))
