-- Functions whose parts can be counted by numbers of the format.
use Rattle.std.specs.Prelude.{length}
use Rattle.rc_code.specs.declared.image.Function.{Function}
use Rattle.rc_code.specs.Image.{IsNumber}

pub record IsCounted (f : Function) : Type 0 where
  pub locals : IsNumber (length f.locals)
  pub code : IsNumber (length f.code)
