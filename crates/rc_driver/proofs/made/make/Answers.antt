use Rattle.std.proofs.Common.{arith, length, subst, sym, ap}
use Rattle.std.proofs.lemmas.List.{length-map}
use Rattle.rc_unchecked.specs.Images.{HasImage}
use Rattle.rc_core.specs.Shapes.{function_of, program_of}
use Rattle.rc_core.specs.declared.parts.Parts.{Parts}
use Rattle.rc_driver.proofs.made.make.Goals as goal

pub returns : goal.returns
returns c =
    let count = c.len-functions.ensures in
    let room = c.parts.result.now.functions.ok.0 in
    let long = length-map c.args.program.now.functions.items function_of in
    let same = ap (λ (p : Parts). length p.functions.items) c.parts.ensures.parts in
    record {
      image = subst (HasImage (program_of c.args.program.now)) (sym c.new-code.ensures) c.in_ok-image.ensures;
      report = c.in_ok-entries.ensures;
      functions = omega (arith, count, room, long, same);
    }
