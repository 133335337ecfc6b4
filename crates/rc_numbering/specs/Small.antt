-- An image whose counts and lines are below 2 to the power 32, so that they can be written.
use Rattle.std.specs.Prelude.{length}
use Rattle.std.specs.List.{AllByRecursion as Every}
use Rattle.rc_code.specs.declared.image.Path.{Path}
use Rattle.rc_code.specs.declared.image.Function.{Function}
use Rattle.rc_code.specs.declared.image.Parts.{Parts}
use Rattle.rc_code.specs.Image.{IsNumber}

pub record FunctionIsSmall (f : Function) : Type 0 where
  pub locals : IsNumber (length f.locals)
  pub instructions : IsNumber (length f.code)
  pub lines : Every IsNumber f.lines

pub record IsSmall (p : Parts) : Type 0 where
  pub types : IsNumber (length p.types)
  pub paths : IsNumber (length p.paths)
  pub indices : Every (λ (path : Path). IsNumber (length path.indices)) p.paths
  pub functions : IsNumber (length p.functions)
  pub each : Every FunctionIsSmall p.functions
