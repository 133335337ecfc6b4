-- The line that sums up the run of a made program: the number from which the program was made, how many functions and checks it has, of how
-- many the check is removed, and how the run ended.
use Rattle.std.specs.Prelude.{ℕ, List, ◌++◌, codes}
use Rattle.std.specs.Fmt.{decimal, signed_decimal}
use Rattle.rc_base.specs.declared.ends.End.{End}
use Rattle.rc_base.specs.declared.ends.End.TheVariants.{Exit, Trapped, Spent}
use Rattle.rc_answers.specs.Lines.{trap_name}
use Rattle.rc_summaries.specs.declared.summary.Summary.{Summary}

abbrev pub end_text : End → List ℕ
end_text (Exit value) = codes "exit " ++ signed_decimal value
end_text (Trapped trap line) = codes "trap " ++ trap_name trap
end_text Spent = codes "spent"

unfoldable pub functions_text : Summary → List ℕ
functions_text s = decimal s.functions ++ codes " functions, "

unfoldable pub size_text : Summary → List ℕ
size_text s = decimal s.number ++ (codes ": " ++ functions_text s)

unfoldable pub checks_text : Summary → List ℕ
checks_text s = decimal s.checks ++ (codes " checks, " ++ (decimal s.removed ++ codes " removed, "))

abbrev pub summary_text : Summary → List ℕ
summary_text s = codes "soak " ++ (size_text s ++ (checks_text s ++ (end_text s.end ++ codes "\n")))
