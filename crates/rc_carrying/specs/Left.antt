-- What is left of a closed set of facts behind an instruction.
use Rattle.std.specs.Prelude.{◌≡◌, ℕ, suc, Bool, true, false, not, ◌&&◌, nat_eq, nat_lt, IsTrue, List, Option, ◌⊎◌}
use Rattle.rc_facts.specs.declared.fact.Fact.{Fact}
use Rattle.rc_facts.specs.declared.fact.Fact.TheVariants.{In, Up, Trad, NonNull}
use Rattle.rc_facts.specs.Facts.{is_over, names}
use Rattle.rc_facts.specs.Derivable.{Derivable}
use Rattle.rc_facts.specs.Flow.{Facts, Behind}
use Rattle.rc_sealed.specs.Carrying.{is_assigned, speaks}

-- a variable is in its own region, and above itself
abbrev pub is_own : Fact → Bool
is_own (In x y) = nat_eq x y
is_own (Up x y) = nat_eq x y
is_own (Trad x) = false
is_own (NonNull x) = false

-- a set over n variables has all that is derivable from it
pub record IsClosed (n : ℕ) (facts : Facts) : Type 0 where
  pub over : (fact : Fact) → IsTrue (facts fact) → IsTrue (is_over n fact)
  pub closed : (fact : Fact) → Derivable n facts fact → IsTrue (facts fact)

-- and of the last variable, the scratch one, it has only that
pub record IsReady (n s : ℕ) (facts : Facts) : Type 0 where
  pub last : suc s ≡ n
  pub closed : IsClosed n facts
  pub apart : (fact : Fact) → IsTrue (facts fact) → names s fact ≡ true → IsTrue (is_own fact)

-- the variables from `low` to below `top` are gone, the assigned one excepted
abbrev pub goes : (low top : ℕ) → Option ℕ → ℕ → Bool
goes low top x u = not (nat_lt u low) && (nat_lt u top && not (is_assigned x u))

abbrev pub stay : (low top : ℕ) → Option ℕ → ℕ → Bool
stay low top x u = not (goes low top x u)

pub record OwnOver (n : ℕ) (fact : Fact) : Type 0 where
  pub own : IsTrue (is_own fact)
  pub over : IsTrue (is_over n fact)

-- it is on variables that stay, and may stand behind what is added
pub record Kept (n scratch : ℕ) (test : ℕ → Bool) (assigned : Option ℕ) (news : List Fact) (before : Facts) (fact : Fact) : Type 0 where
  pub stays : IsTrue (speaks test fact)
  pub behind : Behind n scratch assigned news before fact

abbrev pub Left : (n scratch : ℕ) (stays : ℕ → Bool) → Option ℕ → List Fact → Facts → Fact → Type 0
Left n scratch stays assigned news before fact = OwnOver n fact ⊎ Kept n scratch stays assigned news before fact

-- each variable below n is in its own region, and above itself
abbrev pub HasOwn : ℕ → Facts → Type 0
HasOwn n facts = (fact : Fact) → OwnOver n fact → IsTrue (facts fact)
