-- What follows from a set of facts over n variables, whatever they hold and however the regions lie.
--
-- The facts say, of variables x and y that hold null or name a region:
--     In x y      if x isn't null, then y isn't null, and both name the same region
--     Up x y      if x isn't null, then y isn't null, and x names y's region or one above it
--     Trad x      if x isn't null, it names the traditional region, which is above all others
--     NonNull x   x isn't null
use Rattle.std.specs.Prelude.{◌<◌, ℕ, Bool, IsTrue}
use Rattle.rc_facts.specs.declared.fact.Fact.{Fact}
use Rattle.rc_facts.specs.declared.fact.Fact.TheVariants.{In, Up, Trad, NonNull}

pub data Derivable (n : ℕ) (given : Fact → Bool) : Fact → Type 0 where
  stated : {fact : Fact} → IsTrue (given fact) → Derivable n given fact
  -- a variable is in its own region
  in_itself : {x : ℕ} → x < n → Derivable n given (In x x)
  -- what is in y's region, where y is in z's, is in z's
  in_through : {x y z : ℕ} → Derivable n given (In x y) → Derivable n given (In y z) → Derivable n given (In x z)
  -- what is above y's region, where y is above z's, is above z's
  up_through : {x y z : ℕ} → Derivable n given (Up x y) → Derivable n given (Up y z) → Derivable n given (Up x z)
  -- a region is above itself
  up_by_in : {x y : ℕ} → Derivable n given (In x y) → Derivable n given (Up x y)
  -- where x isn't null, x and y are in one region, so y is in x's too
  in_back : {x y : ℕ} → Derivable n given (In x y) → Derivable n given (NonNull x) → Derivable n given (In y x)
  -- and then y isn't null
  present_by_in : {x y : ℕ} → Derivable n given (In x y) → Derivable n given (NonNull x) → Derivable n given (NonNull y)
  -- where x isn't null and is above y, y isn't null
  present_by_up : {x y : ℕ} → Derivable n given (Up x y) → Derivable n given (NonNull x) → Derivable n given (NonNull y)
  -- no other region is above the traditional one
  trad_by_up : {x y : ℕ} → Derivable n given (Up x y) → Derivable n given (Trad y) → Derivable n given (Trad x)
  -- the traditional region is above every region
  up_by_trad : {x y : ℕ} → Derivable n given (Trad x) → Derivable n given (NonNull y) → Derivable n given (Up x y)
  -- two variables of the traditional region are in one region
  in_by_trad : {x y : ℕ} → Derivable n given (Trad x) → Derivable n given (Trad y) → Derivable n given (NonNull y) → Derivable n given (In x y)
