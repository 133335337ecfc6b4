-- One more name behind all others.
use Rattle.std.proofs.Common.{◌≡◌, ◌<◌, ℕ, zero, suc, List, [], ◌∷◌, ◌++◌, Option, Some, None, Bool, true, false, length, slice_get, refl, sym, ap, ◌∙◌, subst, arith, length-append, option_map, is_some, if◌then◌else◌}
use Rattle.std.specs.Str.{bytes_eq}
use Rattle.std.proofs.lemmas.Option.{slice_get_within}
use Rattle.rc_deletes.specs.Kinds.{place_of}
use Rattle.rc_deletes.proofs.Naming.{place_is, same_name, name_at, found_in}
use Rattle.rc_deletes.proofs.Standing.{prefix_more, at_end}
use Rattle.rc_scope.specs.Names.{with_name}
use Rattle.rc_defined.specs.Firsts.{kept_at, FindsFirst}

abbrev pub found_or : Option ℕ → Option ℕ → Option ℕ
found_or None q = q
found_or (Some k) q = Some k

last_if : (b c : Bool) (o q : Option ℕ) (n : ℕ) → q ≡ found_or o (if c then Some n else None) →
    (if b then Some 0 else option_map (λ k. suc k) q) ≡ found_or (if b then Some 0 else option_map (λ k. suc k) o) (if c then Some (suc n) else None)
last_if true c o q n h = refl
last_if false c (Some k) q n h = rw h refl
last_if false true None q n h = rw h refl
last_if false false None q n h = rw h refl

last_first : (c : Bool) → (if c then Some 0 else option_map (λ k. suc k) None) ≡ (if c then Some 0 else None)
last_first true = refl
last_first false = refl

found_last : (ns : List (List ℕ)) (m name : List ℕ) → found_in (ns ++ m ∷ []) name ≡ found_or (found_in ns name) (if bytes_eq name m then Some (length ns) else None)
found_last [] m name = last_first (bytes_eq name m)
found_last (n ∷ ns) m name = last_if (bytes_eq name n) (bytes_eq name m) (found_in ns name) (found_in (ns ++ m ∷ []) name) (length ns) (found_last ns m name)

place_last : (ns : List (List ℕ)) (m name : List ℕ) → place_of (ns ++ m ∷ []) name ≡ found_or (place_of ns name) (if bytes_eq name m then Some (length ns) else None)
place_last ns m name = place_is (ns ++ m ∷ []) name ∙ found_last ns m name ∙ ap (λ o. found_or o (if bytes_eq name m then Some (length ns) else None)) (sym (place_is ns name))

some_or : (o q : Option ℕ) (k : ℕ) → o ≡ Some k → found_or o q ≡ o
some_or o q k h = rw h refl

none_if : (b : Bool) (n : ℕ) → b ≡ false → (if b then Some n else None) ≡ None
none_if b n h = rw h refl

-- a name that is there already changes nothing
old_by : (all : List (List ℕ)) (name other : List ℕ) (j : ℕ) (b : Bool) (o : Option ℕ) → place_of all name ≡ Some j → bytes_eq other name ≡ b → place_of all other ≡ o → found_or o (if b then Some (length all) else None) ≡ o
old_by all name other j b (Some k) h e q = refl
old_by all name other j false None h e q = refl
old_by all name other j true None h e q = absurd (let s : other ≡ name = same_name other name e in let t : place_of all other ≡ Some j = subst (λ n. place_of all n ≡ Some j) (sym s) h in cc)

place_old : (all : List (List ℕ)) (name other : List ℕ) (j : ℕ) → place_of all name ≡ Some j → place_of (all ++ name ∷ []) other ≡ place_of all other
place_old all name other j h = place_last all name other ∙ old_by all name other j (bytes_eq other name) (place_of all other) h refl refl

there : (xs : List ℕ) (k : ℕ) → k < length xs → (x : ℕ) × (slice_get xs k ≡ Some x)
there [] k h = absurd (omega arith)
there (x ∷ xs) zero h = (x, refl)
there (x ∷ xs) (suc k) h = there xs k (omega arith)

kept_there : (names : List (List ℕ)) (places : List ℕ) (all : List (List ℕ)) (name : List ℕ) (k : ℕ) → FindsFirst names places all → place_of names name ≡ Some k → (j : ℕ) × ((slice_get places k ≡ Some j) × (place_of all name ≡ Some j))
kept_there names places all name k f h =
    let within = slice_get_within names k name (name_at names name k h) in
    let at = there places k (omega (arith, f.even)) in
    (at.0, (at.1, sym (f.found name) ∙ ap (kept_at places) h ∙ at.1))

pub first_again : (names : List (List ℕ)) (places : List ℕ) (all : List (List ℕ)) (name : List ℕ) (k : ℕ) → FindsFirst names places all → place_of names name ≡ Some k → FindsFirst names places (all ++ name ∷ [])
first_again names places all name k f h =
    let at = kept_there names places all name k f h in
    record { even = f.even; few = omega (arith, f.few, length-append all (name ∷ [])); found = λ other. f.found other ∙ sym (place_old all name other at.0 at.1.1) }

kept_more : (names : List (List ℕ)) (places : List ℕ) (all : List (List ℕ)) (name other : List ℕ) (b : Bool) (o : Option ℕ) → FindsFirst names places all → bytes_eq other name ≡ b → place_of names other ≡ o →
    kept_at (places ++ length all ∷ []) (found_or o (if b then Some (length names) else None)) ≡ found_or (place_of all other) (if b then Some (length all) else None)
kept_more names places all name other b (Some k) f e h =
    let at = kept_there names places all other k f h in
    prefix_more places (length all ∷ []) k at.0 at.1.0 ∙ sym (some_or (place_of all other) _ at.0 at.1.1 ∙ at.1.1)
kept_more names places all name other true None f e h =
    let none : place_of all other ≡ None = sym (f.found other) ∙ ap (kept_at places) h in
    ap (slice_get (places ++ length all ∷ [])) f.even ∙ at_end places [] (length all) ∙ sym (ap (λ o. found_or o (Some (length all))) none)
kept_more names places all name other false None f e h =
    let none : place_of all other ≡ None = sym (f.found other) ∙ ap (kept_at places) h in
    sym (ap (λ o. found_or o None) none)

pub first_new : (names : List (List ℕ)) (places : List ℕ) (all : List (List ℕ)) (name : List ℕ) → FindsFirst names places all → FindsFirst (names ++ name ∷ []) (places ++ length all ∷ []) (all ++ name ∷ [])
first_new names places all name f = record {
  even = omega (arith, f.even, length-append names (name ∷ []), length-append places (length all ∷ []));
  few = omega (arith, f.few, length-append names (name ∷ []), length-append all (name ∷ []));
  found = λ other. ap (kept_at (places ++ length all ∷ [])) (place_last names name other) ∙ kept_more names places all name other (bytes_eq other name) (place_of names other) f refl refl ∙ sym (place_last all name other);
}

new_by : (names : List (List ℕ)) (name : List ℕ) (o : Option ℕ) → o ≡ None → (if is_some o then names else names ++ name ∷ []) ≡ names ++ name ∷ []
new_by names name o h = rw h refl

pub first_noted : (names : List (List ℕ)) (places : List ℕ) (all : List (List ℕ)) (name : List ℕ) (place : ℕ) (names' : List (List ℕ)) (places' : List ℕ) →
    FindsFirst names places all → None ≡ place_of names name → length all ≡ place → names' ≡ with_name names name → places' ≡ places ++ place ∷ [] → FindsFirst names' places' (all ++ name ∷ [])
first_noted names places all name place names' places' f none count n p =
    let e : names' ≡ names ++ name ∷ [] = n ∙ new_by names name (place_of names name) (sym none) in
    let q : places' ≡ places ++ length all ∷ [] = p ∙ ap (λ k. places ++ k ∷ []) (sym count) in
    subst (λ xs. FindsFirst xs places' (all ++ name ∷ [])) (sym e) (subst (λ xs. FindsFirst (names ++ name ∷ []) xs (all ++ name ∷ [])) (sym q) (first_new names places all name f))
