-- What names stand for outside of functions, in a file and behind other files.
use Rattle.std.specs.Prelude.{◌≡◌, ◌⊎◌, ℕ, List, [], ◌∷◌, Option, Some, None, Bool, true, false, not, is_some, ◌||◌, ◌&&◌, if◌then◌else◌}
use Rattle.std.proofs.Common.{refl, sym, ap, ◌∙◌, subst, inl, inr}
use Rattle.std.specs.Str.{bytes_eq}
use Rattle.rc_syntax.specs.declared.tree.Spot.{Spot}
use Rattle.rc_syntax.specs.declared.tree.Name.{Name}
use Rattle.rc_syntax.specs.Tree as t
use Rattle.rc_deletes.specs.Kinds.{place_of}
use Rattle.rc_deletes.specs.Scopes.{Context, Scope, Meaning, a_local, a_global, a_function, a_builtin, meaning_in}
use Rattle.rc_deletes.specs.Items.{is_among, with_name, signature_of, with_new, with_functions, function_names, same_bool}
use Rattle.rc_deletes.proofs.Naming.{same_name, own_name}
use Rattle.rc_linking.specs.Calls.{is_built_in}
use Rattle.rc_linking.specs.Clash.{disagrees, doubles, same_result, same_params}
use Rattle.rc_linking.specs.Joined.{structs_of}
use Rattle.rc_linking.proofs.Calls.{Found, InScope}
use Rattle.rc_linking.proofs.Names.{Names, among_new}
use Rattle.rc_linking.proofs.Heads.{heads_same}

abbrev pub known_or : Option Meaning → Meaning → Option Meaning
known_or (Some m) new = Some m
known_or None new = Some new

-- what names stand for with one more
pub meaning_with : (names : Scope) (name : List ℕ) (new : Meaning) (x : List ℕ) → meaning_in (with_name names name new) x ≡ (if bytes_eq name x then known_or (meaning_in names name) new else meaning_in names x)
meaning_with names name new x = by (meaning_in names name) (bytes_eq name x) refl refl where
  by : (o : Option Meaning) (b : Bool) → meaning_in names name ≡ o → bytes_eq name x ≡ b → meaning_in (if is_some o then names else (name, new) ∷ names) x ≡ (if b then known_or o new else meaning_in names x)
  by (Some m) true h e = ap (meaning_in names) (sym (same_name name x e)) ∙ h
  by (Some m) false h e = refl
  by None b h e = ap (λ c. if c then Some new else meaning_in names x) e

abbrev pub IsIn : t.Item → List t.Item → Type 0
IsIn i [] = ⊥
IsIn i (x ∷ xs) = (x ≡ i) ⊎ IsIn i xs

-- it clashes with no item of an earlier file
abbrev pub IsApart : List t.Item → t.Item → Type 0
IsApart earlier j = (i : t.Item) → IsIn i earlier → (disagrees i j ≡ false) × (doubles i j ≡ false)

abbrev pub Defines : t.Item → List ℕ → Type 0
Defines (t.struct at name fields) x = ⊥
Defines (t.global at ty name count c) x = ⊥
Defines (t.function at deletes result name params None) x = ⊥
Defines (t.function at deletes result name params (Some body)) x = bytes_eq x name.text ≡ true

or_which : (a b : Bool) → a || b ≡ true → (a ≡ true) ⊎ (b ≡ true)
or_which true b h = inl refl
or_which false b h = inr h

abbrev Definer : List t.Item → List ℕ → Type 0
Definer is x = (i : t.Item) × (IsIn i is × Defines i x)

later : (i : t.Item) (is : List t.Item) (ns : Names) (x : List ℕ) → (is_among ns x ≡ true) ⊎ Definer is x → (is_among ns x ≡ true) ⊎ Definer (i ∷ is) x
later i is ns x (inl h) = inl h
later i is ns x (inr h) = inr (h.0, (inr h.1.0, h.1.1))

-- a name among those of the functions that are defined is that of a definition
pub definer : (ns : Names) (is : List t.Item) (x : List ℕ) → is_among (with_functions ns is) x ≡ true → (is_among ns x ≡ true) ⊎ Definer is x
definer ns [] x h = inl h
definer ns (t.struct at name fields ∷ is) x h = later _ is ns x (definer ns is x h)
definer ns (t.global at ty name count c ∷ is) x h = later _ is ns x (definer ns is x h)
definer ns (t.function at deletes result name params None ∷ is) x h = later _ is ns x (definer ns is x h)
definer ns (t.function at deletes result name params (Some body) ∷ is) x h = one (definer (with_new ns name.text) is x h) where
  two : (is_among ns x ≡ true) ⊎ (bytes_eq x name.text ≡ true) → (is_among ns x ≡ true) ⊎ Definer (t.function at deletes result name params (Some body) ∷ is) x
  two (inl h) = inl h
  two (inr h) = inr (t.function at deletes result name params (Some body), (inl refl, h))

  one : (is_among (with_new ns name.text) x ≡ true) ⊎ Definer is x → (is_among ns x ≡ true) ⊎ Definer (t.function at deletes result name params (Some body) ∷ is) x
  one (inl h) = two (or_which (is_among ns x) (bytes_eq x name.text) (sym (among_new ns name.text x) ∙ h))
  one (inr h) = inr (h.0, (inr h.1.0, h.1.1))

no_name : (x : List ℕ) → is_among [] x ≡ true → ⊥
no_name x h = cc

is_false : (b : Bool) → (b ≡ true → ⊥) → b ≡ false
is_false false h = refl
is_false true h = absurd (h refl)

differ : {A : Type 0} → true ≡ false → A
differ h = absurd cc

-- no function that this one defines is defined in an earlier file
pub not_doubled : (earlier : List t.Item) (at : Spot) (deletes : Bool) (result : Option t.TypeName) (name : Name) (params : List t.Param) (body : t.Stmts) → IsApart earlier (t.function at deletes result name params (Some body)) → is_among (function_names earlier) name.text ≡ false
not_doubled earlier at deletes result name params body apart = is_false (is_among (function_names earlier) name.text) (λ h. which (definer [] earlier name.text h)) where
  clash : (i : t.Item) → Defines i name.text → doubles i (t.function at deletes result name params (Some body)) ≡ false → ⊥
  clash (t.function a d r other qs (Some code)) h k = let e : true ≡ false = sym (own_name name.text) ∙ ap (λ x. bytes_eq x name.text) (same_name name.text other.text h) ∙ k in differ e
  clash (t.function a d r other qs None) h k = h
  clash (t.struct a other fields) h k = h
  clash (t.global a ty other count c) h k = h

  which : (is_among [] name.text ≡ true) ⊎ Definer earlier name.text → ⊥
  which (inl h) = no_name name.text h
  which (inr h) = clash h.0 h.1.1 (apart h.0 h.1.0).1

module _ (file all : Context) (ren : ℕ → ℕ) (earlier : List t.Item) where
  -- an item of an earlier file says what a name stands for
  abbrev pub Declares : t.Item → List ℕ → Meaning → Type 0
  Declares (t.global at ty name count c) x (a_global g u d) = name.text ≡ x
  Declares (t.function at deletes result name params body) x (a_function k s) = (name.text ≡ x) × (k ≡ place_of all.functions x) × (s ≡ signature_of all deletes result params)
  Declares i x m = ⊥

  abbrev pub Sourced : List ℕ → Option Meaning → Type 0
  Sourced x None = Unit {0}
  Sourced x (Some m) = (i : t.Item) × (IsIn i earlier × Declares i x m)

  abbrev pub Numbered : List ℕ → Option Meaning → Type 0
  Numbered x (Some (a_function k s)) = k ≡ place_of file.functions x
  Numbered x m = Unit {0}

  -- in a file, and behind other files: the names, and those of the structs and functions that were defined
  pub record Related (names others : Scope) (ds es ns ms : Names) : Type 0 where
    pub scope : InScope ren all.functions names others
    pub sourced : (x : List ℕ) → meaning_in names x ≡ None → Sourced x (meaning_in others x)
    pub builtin : (x : List ℕ) → is_built_in x ≡ true → is_some (meaning_in names x) ≡ true
    pub numbered : (x : List ℕ) → Numbered x (meaning_in names x)
    pub known : (x : List ℕ) → is_among ns x ≡ true → is_some (meaning_in names x) ≡ true
    pub structs : (x : List ℕ) → is_among es x ≡ is_among (structs_of earlier) x || is_among ds x
    pub functions : (x : List ℕ) → is_among ms x ≡ is_among (function_names earlier) x || is_among ns x

  found_with : (x : List ℕ) (b : Bool) (o q r s : Option Meaning) → Found ren all.functions x o q → (b ≡ true → Found ren all.functions x r s) → Found ren all.functions x (if b then r else o) (if b then s else q)
  found_with x true o q r s h k = k refl
  found_with x false o q r s h k = h

  -- a name that was known, or is new here
  met : (x : List ℕ) (o q : Option Meaning) (m n : Meaning) → Found ren all.functions x o q → (o ≡ None → Found ren all.functions x (Some m) (known_or q n)) → Found ren all.functions x (known_or o m) (known_or q n)
  met x (Some m) (Some n) a b h k = h
  met x (Some m) None a b h k = absurd h
  met x None q a b h k = k refl

  is_known : (o : Option Meaning) (m : Meaning) → is_some (known_or o m) ≡ true
  is_known (Some n) m = refl
  is_known None m = refl

  known_is : (o : Option Meaning) (m : Meaning) → known_or o m ≡ None → ⊥
  known_is (Some n) m h = cc
  known_is None m h = cc

  sourced_if : (x : List ℕ) (b : Bool) (o q r s : Option Meaning) → (r ≡ None → ⊥) → (o ≡ None → Sourced x q) → (if b then r else o) ≡ None → Sourced x (if b then s else q)
  sourced_if x true o q r s h k e = absurd (h e)
  sourced_if x false o q r s h k e = k e

  some_if : (b : Bool) (o r : Option Meaning) → is_some r ≡ true → is_some o ≡ true → is_some (if b then r else o) ≡ true
  some_if true o r h k = h
  some_if false o r h k = k

  numbered_if : (x : List ℕ) (b : Bool) (o r : Option Meaning) → (b ≡ true → Numbered x r) → Numbered x o → Numbered x (if b then r else o)
  numbered_if x true o r h k = h refl
  numbered_if x false o r h k = k

  numbered_or : (x : List ℕ) (o : Option Meaning) (m : Meaning) → Numbered x o → Numbered x (Some m) → Numbered x (known_or o m)
  numbered_or x (Some n) m h k = h
  numbered_or x None m h k = k

  module _ (names others : Scope) (name : List ℕ) (m n : Meaning) (fresh : meaning_in names name ≡ None → Found ren all.functions name (Some m) (known_or (meaning_in others name) n)) (number : Numbered name (Some m)) where
    scope_with : InScope ren all.functions names others → InScope ren all.functions (with_name names name m) (with_name others name n)
    scope_with h x =
        subst (λ o. Found ren all.functions x o (meaning_in (with_name others name n) x)) (sym (meaning_with names name m x))
        (subst (λ o. Found ren all.functions x (if bytes_eq name x then known_or (meaning_in names name) m else meaning_in names x) o) (sym (meaning_with others name n x))
        (found_with x (bytes_eq name x) (meaning_in names x) (meaning_in others x) (known_or (meaning_in names name) m) (known_or (meaning_in others name) n) (h x)
        (λ e. subst (λ y. Found ren all.functions y (known_or (meaning_in names name) m) (known_or (meaning_in others name) n)) (same_name name x e) (met name (meaning_in names name) (meaning_in others name) m n (h name) fresh))))

    sourced_with : ((x : List ℕ) → meaning_in names x ≡ None → Sourced x (meaning_in others x)) → (x : List ℕ) → meaning_in (with_name names name m) x ≡ None → Sourced x (meaning_in (with_name others name n) x)
    sourced_with h x e =
        subst (Sourced x) (sym (meaning_with others name n x))
        (sourced_if x (bytes_eq name x) (meaning_in names x) (meaning_in others x) (known_or (meaning_in names name) m) (known_or (meaning_in others name) n) (known_is (meaning_in names name) m) (h x) (sym (meaning_with names name m x) ∙ e))

    some_with : (x : List ℕ) → is_some (meaning_in names x) ≡ true → is_some (meaning_in (with_name names name m) x) ≡ true
    some_with x h = ap is_some (meaning_with names name m x) ∙ some_if (bytes_eq name x) (meaning_in names x) (known_or (meaning_in names name) m) (is_known (meaning_in names name) m) h

    some_new : (x : List ℕ) → bytes_eq x name ≡ true → is_some (meaning_in (with_name names name m) x) ≡ true
    some_new x e = ap is_some (meaning_with names name m x) ∙ ap (λ b. is_some (if b then known_or (meaning_in names name) m else meaning_in names x)) (ap (bytes_eq name) (same_name x name e) ∙ own_name name) ∙ is_known (meaning_in names name) m

    numbered_with : ((x : List ℕ) → Numbered x (meaning_in names x)) → (x : List ℕ) → Numbered x (meaning_in (with_name names name m) x)
    numbered_with h x = subst (Numbered x) (sym (meaning_with names name m x)) (numbered_if x (bytes_eq name x) (meaning_in names x) (known_or (meaning_in names name) m) (λ e. subst (λ y. Numbered y (known_or (meaning_in names name) m)) (same_name name x e) (numbered_or name (meaning_in names name) m (h name) number)) (h x))

    -- behind an item that declares a name
    pub related_with : (ds es ns ms : Names) → Related names others ds es ns ms → Related (with_name names name m) (with_name others name n) ds es ns ms
    related_with ds es ns ms r = record {
      scope = scope_with r.scope;
      sourced = sourced_with r.sourced;
      builtin = λ x h. some_with x (r.builtin x h);
      numbered = numbered_with r.numbered;
      known = λ x h. some_with x (r.known x h);
      structs = r.structs;
      functions = r.functions;
    }

    -- behind one that defines it too
    pub related_defined : (ds es ns ms : Names) → Related names others ds es ns ms → Related (with_name names name m) (with_name others name n) ds es (with_new ns name) (with_new ms name)
    related_defined ds es ns ms r =
        let q = related_with ds es ns ms r in
        record {
          scope = q.scope;
          sourced = q.sourced;
          builtin = q.builtin;
          numbered = q.numbered;
          known = λ x h. which x (or_which (is_among ns x) (bytes_eq x name) (sym (among_new ns name x) ∙ h));
          structs = r.structs;
          functions = λ x. among_new ms name x ∙ ap (λ b. b || bytes_eq x name) (r.functions x) ∙ more (is_among (function_names earlier) x) (is_among ns x) (bytes_eq x name) ∙ ap (λ b. is_among (function_names earlier) x || b) (sym (among_new ns name x));
        } where
          which : (x : List ℕ) → (is_among ns x ≡ true) ⊎ (bytes_eq x name ≡ true) → is_some (meaning_in (with_name names name m) x) ≡ true
          which x (inl h) = some_with x (r.known x h)
          which x (inr h) = some_new x h

          more : (a b c : Bool) → (a || b) || c ≡ a || (b || c)
          more true b c = refl
          more false b c = refl

  -- a function's name that an earlier file declares has the same head there
  pub from_earlier : (at : Spot) (deletes : Bool) (result : Option t.TypeName) (name : Name) (params : List t.Param) (body : Option t.Stmts) (q : Meaning) → IsApart earlier (t.function at deletes result name params body) → Sourced name.text (Some q) → q ≡ a_function (place_of all.functions name.text) (signature_of all deletes result params)
  from_earlier at deletes result name params body q apart s = by s.0 q s.1.1 (apart s.0 s.1.0) where
    head : (b : Bool) → true && not b ≡ false → b ≡ true
    head true h = refl
    head false h = absurd cc

    by : (i : t.Item) (q : Meaning) → Declares i name.text q → (disagrees i (t.function at deletes result name params body) ≡ false) × (doubles i (t.function at deletes result name params body) ≡ false) → q ≡ a_function (place_of all.functions name.text) (signature_of all deletes result params)
    by (t.global a ty other count c) (a_global g u d) h k = let e : true ≡ false = sym (own_name name.text) ∙ ap (λ x. bytes_eq x name.text) (sym h) ∙ k.1 in differ e
    by (t.function a d r other qs code) (a_function l s) h k =
        let agreeing : same_bool d deletes && (same_result r result && same_params qs params) ≡ true = head (same_bool d deletes && (same_result r result && same_params qs params)) (ap (λ b. b && not (same_bool d deletes && (same_result r result && same_params qs params))) (sym (ap (λ x. bytes_eq x name.text) h.0 ∙ own_name name.text)) ∙ k.0) in
        ap (λ x. a_function x s) h.1 ∙ ap (a_function (place_of all.functions name.text)) (h.2 ∙ heads_same all d deletes r result qs params agreeing)
    by (t.struct a other fields) q h k = absurd h
    by (t.global a ty other count c) (a_local x u) h k = absurd h
    by (t.global a ty other count c) (a_function l s) h k = absurd h
    by (t.global a ty other count c) (a_builtin b) h k = absurd h
    by (t.function a d r other qs code) (a_local x u) h k = absurd h
    by (t.function a d r other qs code) (a_global g u e) h k = absurd h
    by (t.function a d r other qs code) (a_builtin b) h k = absurd h

  -- a global's name is that of no global or function of an earlier file
  pub not_declared : (at : Spot) (ty : t.TypeName) (name : Name) (count : Option ℕ) (c : _) (q : Option Meaning) → IsApart earlier (t.global at ty name count c) → Sourced name.text q → q ≡ None
  not_declared at ty name count c None apart s = refl
  not_declared at ty name count c (Some q) apart s = absurd (by s.0 q s.1.1 (apart s.0 s.1.0).1) where
    same : (other : Name) → other.text ≡ name.text → bytes_eq other.text name.text ≡ false → ⊥
    same other h k = let e : true ≡ false = sym (own_name name.text) ∙ ap (λ x. bytes_eq x name.text) (sym h) ∙ k in differ e

    by : (i : t.Item) (q : Meaning) → Declares i name.text q → doubles i (t.global at ty name count c) ≡ false → ⊥
    by (t.global a type other length initial) (a_global g u d) h k = same other h k
    by (t.function a d r other qs (Some code)) (a_function l s) h k = same other h.0 k
    by (t.function a d r other qs None) (a_function l s) h k = same other h.0 k
    by (t.struct a other fields) q h k = h
    by (t.global a type other length initial) (a_local x u) h k = h
    by (t.global a type other length initial) (a_function l s) h k = h
    by (t.global a type other length initial) (a_builtin b) h k = h
    by (t.function a d r other qs code) (a_local x u) h k = h
    by (t.function a d r other qs code) (a_global g u e) h k = h
    by (t.function a d r other qs code) (a_builtin b) h k = h
