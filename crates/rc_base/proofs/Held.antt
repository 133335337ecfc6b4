-- What a shelf in memory has under a name, by the place where the name stands, and what it has after a store.
use Rattle.std.proofs.Common.{◌≡◌, ◌≢◌, ◌∙◌, ℕ, suc, Bool, true, false, List, [], ◌∷◌, ◌++◌, Option, Some, None, Vec, String, string_bytes, get_or, set, refl, sym, ap, cond}
use Rattle.std.specs.Option.{option_map}
use Rattle.std.specs.Str.{bytes_eq}
use Rattle.std.proofs.lemmas.Slice.Eq.{bytes_eq-Decides}
use Rattle.rc_base.specs.Memory.{Entry, held}
use Rattle.rc_base.specs.Files.{entries, place_of, with_file}

module _ {Y Z : Type 0} where
  -- what one more file in front does
  held_at-cons : (x d : String Y × Vec ℕ Z) (xs : List (String Y × Vec ℕ Z)) (h : Option (List ℕ)) (b : Bool) (o : Option ℕ) → ((j : ℕ) → o ≡ Some j → h ≡ Some ((get_or xs j d).1.items)) → (i : ℕ) → cond b (Some 0) (option_map (λ j. suc j) o) ≡ Some i → cond b (Some x.1.items) h ≡ Some ((get_or (x ∷ xs) i d).1.items)
  held_at-cons x d xs h true o rest i e = let zero_is : 0 ≡ i = cc in ap (λ k. Some ((get_or (x ∷ xs) k d).1.items)) zero_is
  held_at-cons x d xs h false (Some j) rest i e = let next : suc j ≡ i = cc in rest j refl ∙ ap (λ k. Some ((get_or (x ∷ xs) k d).1.items)) next
  held_at-cons x d xs h false None rest i e = cc

  -- what stands at the name's place is what stands under the name
  pub held_at : (xs : List (String Y × Vec ℕ Z)) (name : List ℕ) (i : ℕ) (d : String Y × Vec ℕ Z) → place_of (entries xs) name ≡ Some i → held (entries xs) name ≡ Some ((get_or xs i d).1.items)
  held_at [] name i d e = cc
  held_at (x ∷ xs) name i d e = held_at-cons x d xs (held (entries xs) name) (bytes_eq name (string_bytes x.0)) (place_of (entries xs) name) (λ j. held_at xs name j d) i e

  with_file_at-cons : (x d : String Y × Vec ℕ Z) (xs : List (String Y × Vec ℕ Z)) (v : Vec ℕ Z) (w : List Entry) (b : Bool) (o : Option ℕ) → ((j : ℕ) → o ≡ Some j → w ≡ entries (set xs j ((get_or xs j d).0, v))) → (i : ℕ) → cond b (Some 0) (option_map (λ j. suc j) o) ≡ Some i → cond b ((record { name = string_bytes x.0; bytes = v.items }) ∷ entries xs) ((record { name = string_bytes x.0; bytes = x.1.items }) ∷ w) ≡ entries (set (x ∷ xs) i ((get_or (x ∷ xs) i d).0, v))
  with_file_at-cons x d xs v w true o rest i e = let zero_is : 0 ≡ i = cc in ap (λ k. entries (set (x ∷ xs) k ((get_or (x ∷ xs) k d).0, v))) zero_is
  with_file_at-cons x d xs v w false (Some j) rest i e = let next : suc j ≡ i = cc in ap (λ es. (record { name = string_bytes x.0; bytes = x.1.items }) ∷ es) (rest j refl) ∙ ap (λ k. entries (set (x ∷ xs) k ((get_or (x ∷ xs) k d).0, v))) next
  with_file_at-cons x d xs v w false None rest i e = cc

  -- the bytes in the place of what stands under the name
  pub with_file_at : (xs : List (String Y × Vec ℕ Z)) (name : List ℕ) (v : Vec ℕ Z) (i : ℕ) (d : String Y × Vec ℕ Z) → place_of (entries xs) name ≡ Some i → with_file (entries xs) name v.items ≡ entries (set xs i ((get_or xs i d).0, v))
  with_file_at [] name v i d e = cc
  with_file_at (x ∷ xs) name v i d e = with_file_at-cons x d xs v (with_file (entries xs) name v.items) (bytes_eq name (string_bytes x.0)) (place_of (entries xs) name) (λ j. with_file_at xs name v j d) i e

  with_file_behind-cons : (x : String Y × Vec ℕ Z) (xs : List (String Y × Vec ℕ Z)) (s : String Y) (v : Vec ℕ Z) (w : List Entry) (b : Bool) (o : Option ℕ) → (o ≡ None → w ≡ entries (xs ++ (s, v) ∷ [])) → cond b (Some 0) (option_map (λ j. suc j) o) ≡ None → cond b ((record { name = string_bytes x.0; bytes = v.items }) ∷ entries xs) ((record { name = string_bytes x.0; bytes = x.1.items }) ∷ w) ≡ entries (x ∷ (xs ++ (s, v) ∷ []))
  with_file_behind-cons x xs s v w true o rest e = cc
  with_file_behind-cons x xs s v w false (Some j) rest e = cc
  with_file_behind-cons x xs s v w false None rest e = ap (λ es. (record { name = string_bytes x.0; bytes = x.1.items }) ∷ es) (rest refl)

  -- the bytes behind all others
  pub with_file_behind : (xs : List (String Y × Vec ℕ Z)) (name : List ℕ) (s : String Y) (v : Vec ℕ Z) → string_bytes s ≡ name → place_of (entries xs) name ≡ None → with_file (entries xs) name v.items ≡ entries (xs ++ (s, v) ∷ [])
  with_file_behind [] name s v is e = ap (λ n. (record { name = n; bytes = v.items }) ∷ []) (sym is)
  with_file_behind (x ∷ xs) name s v is e = with_file_behind-cons x xs s v (with_file (entries xs) name v.items) (bytes_eq name (string_bytes x.0)) (place_of (entries xs) name) (with_file_behind xs name s v is) e

pub not_held : (es : List Entry) (name : List ℕ) → place_of es name ≡ None → held es name ≡ None
not_held [] name e = refl
not_held (x ∷ es) name e = not_held-cons x (bytes_eq name x.name) (place_of es name) (held es name) (not_held es name) e where
  not_held-cons : (x : Entry) (b : Bool) (o : Option ℕ) (h : Option (List ℕ)) → (o ≡ None → h ≡ None) → cond b (Some 0) (option_map (λ j. suc j) o) ≡ None → cond b (Some x.bytes) h ≡ None
  not_held-cons x true o h rest e = cc
  not_held-cons x false (Some j) h rest e = cc
  not_held-cons x false None h rest e = rest refl

held_with_same-cons : (x : Entry) (es : List Entry) (name bytes : List ℕ) (b : Bool) → bytes_eq name x.name ≡ b → held (with_file es name bytes) name ≡ Some bytes → held (cond b ((record { name = x.name; bytes = bytes }) ∷ es) (x ∷ with_file es name bytes)) name ≡ Some bytes
held_with_same-cons x es name bytes true is rest = ap (λ c. cond c (Some bytes) (held es name)) is
held_with_same-cons x es name bytes false is rest = ap (λ c. cond c (Some x.bytes) (held (with_file es name bytes) name)) is ∙ rest

-- after a store the name has its bytes
pub held_with_same : (es : List Entry) (name bytes : List ℕ) → held (with_file es name bytes) name ≡ Some bytes
held_with_same [] name bytes = ap (λ c. cond c (Some bytes) None) ((bytes_eq-Decides name name).1 refl)
held_with_same (x ∷ es) name bytes = held_with_same-cons x es name bytes (bytes_eq name x.name) refl (held_with_same es name bytes)

bytes_differ : (xs ys : List ℕ) → xs ≢ ys → (b : Bool) → bytes_eq xs ys ≡ b → b ≡ false
bytes_differ xs ys ne true is = absurd (ne ((bytes_eq-Decides xs ys).0 is))
bytes_differ xs ys ne false is = refl

held_with_other-cons : (x : Entry) (es : List Entry) (name bytes other : List ℕ) (b : Bool) → other ≢ name → bytes_eq name x.name ≡ b → held (with_file es name bytes) other ≡ held es other → held (cond b ((record { name = x.name; bytes = bytes }) ∷ es) (x ∷ with_file es name bytes)) other ≡ held (x ∷ es) other
held_with_other-cons x es name bytes other true ne is rest =
    let named : name ≡ x.name = (bytes_eq-Decides name x.name).0 is in
    let not_this : bytes_eq other x.name ≡ false = bytes_differ other x.name (λ same. ne (same ∙ sym named)) (bytes_eq other x.name) refl in
    ap (λ c. cond c (Some bytes) (held es other)) not_this ∙ ap (λ c. cond c (Some x.bytes) (held es other)) (sym not_this)
held_with_other-cons x es name bytes other false ne is rest = ap (λ h. cond (bytes_eq other x.name) (Some x.bytes) h) rest

-- and every other name has what it had
pub held_with_other : (es : List Entry) (name bytes other : List ℕ) → other ≢ name → held (with_file es name bytes) other ≡ held es other
held_with_other [] name bytes other ne = ap (λ c. cond c (Some bytes) None) (bytes_differ other name ne (bytes_eq other name) refl)
held_with_other (x ∷ es) name bytes other ne = held_with_other-cons x es name bytes other (bytes_eq name x.name) ne refl (held_with_other es name bytes other ne)
