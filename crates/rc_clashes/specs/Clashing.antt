-- The clashes of the code are those of the definitions, in this file.
use Rattle.std.specs.Prelude.{ℕ}
use Rattle.rc_linking.specs.Links.{LinkRefusal, disagree, double}
use Rattle.rc_clashes.specs.declared.clash.Clash.{Clash}
use Rattle.rc_clashes.specs.declared.clash.Clash.TheVariants.{Disagree, Double}

abbrev pub in_file : (file : ℕ) → Clash → LinkRefusal
in_file file (Disagree line) = disagree file line
in_file file (Double line) = double file line
