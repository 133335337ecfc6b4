-- Sets that have all that is derivable from them, but for what each variable is to itself.
use Rattle.std.specs.Prelude.{◌≡◌, ◌<◌, ◌||◌, ℕ, IsTrue}
use Rattle.rc_facts.specs.declared.fact.Fact.{Fact}
use Rattle.rc_facts.specs.declared.fact.Fact.TheVariants.{In, Up}
use Rattle.rc_facts.specs.Derivable.{Derivable}
use Rattle.rc_facts.specs.Facts.{Known, holds, is_over}
use Rattle.rc_carrying.specs.Left.{is_own}

pub record IsShut (set : Known) : Type 0 where
  pub over : (fact : Fact) → IsTrue (holds set fact) → IsTrue (is_over set.variables fact)
  pub shut : (fact : Fact) → Derivable set.variables (holds set) fact → IsTrue (holds set fact || is_own fact)

-- it has the facts of the other set, and that the first variables are in their own regions and above themselves, and no more than follows
pub record HasMore (count : ℕ) (old new : Known) : Type 0 where
  pub variables : new.variables ≡ old.variables
  pub kept : (fact : Fact) → IsTrue (holds old fact) → IsTrue (holds new fact)
  pub own : (x : ℕ) → x < count → IsTrue (holds new (In x x)) × IsTrue (holds new (Up x x))
  pub derived : (fact : Fact) → IsTrue (holds new fact) → Derivable old.variables (holds old) fact
