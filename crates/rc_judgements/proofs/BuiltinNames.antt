-- What the names of built-in functions stand for.
use Rattle.std.specs.Prelude.{◌≡◌, List, ℕ, [], ◌∷◌, Some, Bool, true, false, map, if◌then◌else◌}
use Rattle.std.specs.Str.{bytes_eq}
use Rattle.std.proofs.Common.{refl, sym, ap, ◌∙◌}
use Rattle.rc_deletes.specs.declared.builtin.Builtin.{Builtin}
use Rattle.rc_deletes.specs.declared.builtin.Builtin.TheVariants.{NewRegion, NewSubregion, DeleteRegion, RegionOf, Putchar, Getchar}
use Rattle.rc_deletes.specs.Builtins.{row, every_builtin}
use Rattle.rc_deletes.specs.Scopes.{Meaning, a_builtin, meaning_in}
use Rattle.rc_deletes.specs.Items.{builtins}
use Rattle.rc_deletes.proofs.Naming.{same_name}

pub known : (b : Builtin) → meaning_in builtins (row b).name ≡ Some (a_builtin b)
known NewRegion = refl
known NewSubregion = refl
known DeleteRegion = refl
known RegionOf = refl
known Putchar = refl
known Getchar = refl

-- a built-in function that has a name, where the name stands for something
abbrev IsNamed : List ℕ → Meaning → Type 0
IsNamed name meaning = (b : Builtin) × ((row b).name ≡ name) × (meaning ≡ a_builtin b)

named_among : (bs : List Builtin) (name : List ℕ) (meaning : Meaning) → meaning_in (map (λ b. ((row b).name, a_builtin b)) bs) name ≡ Some meaning → IsNamed name meaning
named_among [] name meaning h = absurd cc
named_among (b ∷ bs) name meaning h = by (bytes_eq (row b).name name) refl (named_among bs name meaning) h where
  by : (c : Bool) → bytes_eq (row b).name name ≡ c → (meaning_in (map (λ b. ((row b).name, a_builtin b)) bs) name ≡ Some meaning → IsNamed name meaning) → (if c then Some (a_builtin b) else meaning_in (map (λ b. ((row b).name, a_builtin b)) bs) name) ≡ Some meaning → IsNamed name meaning
  by true e rest k = (b, same_name (row b).name name e, cc)
  by false e rest k = rest k

pub named : (name : List ℕ) (meaning : Meaning) → meaning_in builtins name ≡ Some meaning → IsNamed name meaning
named name meaning h = named_among every_builtin name meaning h

same_meaning : (a b : Builtin) → Some (a_builtin a) ≡ Some (a_builtin b) → a ≡ b
same_meaning a b h = cc

pub one_name : (a b : Builtin) → (row a).name ≡ (row b).name → a ≡ b
one_name a b h = same_meaning a b (sym (known a) ∙ (ap (meaning_in builtins) h ∙ known b))
