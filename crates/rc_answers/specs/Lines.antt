-- What is printed on the error stream: one line, or nothing.
use Rattle.std.specs.Prelude.{ℕ, List, [], ◌++◌, Option, Some, None, Result, Ok, Err, codes}
use Rattle.std.specs.Fmt.{decimal}
use Rattle.rc_base.specs.declared.ends.End.{End}
use Rattle.rc_base.specs.declared.ends.End.TheVariants.{Exit, Trapped, Spent}
use Rattle.rc_base.specs.declared.ends.Trap.{Trap}
use Rattle.rc_base.specs.declared.ends.Trap.TheVariants.{Null, Bounds, Size, Zero, Overflow, Shift, SameRegion, ParentPtr, Traditional, Root, Subregion, Reference, Full}
use Rattle.rc_answers.specs.declared.answer.Done.{Done}
use Rattle.rc_answers.specs.declared.answer.Done.TheVariants.{Ended, StaleImage, Refused, ImageRefused, UnitRefused, LinkRefused, Wrote, Reported, Usage}
use Rattle.rc_answers.specs.declared.answer.Fault.{Fault}
use Rattle.rc_answers.specs.declared.answer.Fault.TheVariants.{FileFault, ReadFault, WriteFault, ErrFault, Memory}
use Rattle.rc_compile.specs.declared.refusal.Refusal.{Refusal}
use Rattle.rc_compile.specs.declared.refusal.Refusal.TheVariants.{TooLong, Byte, Token, Syntax, Deep, Unknown, Twice, Mistyped, Arity, AnnotationPlace, NotDeletes, DeletesPlace, Main, TooBig, Variables, Points}
use Rattle.rc_answers.specs.declared.image_refusal.ImageRefusal.{ImageRefusal}
use Rattle.rc_answers.specs.declared.link_refusal.LinkRefusal.{LinkRefusal}
use Rattle.rc_answers.specs.declared.link_refusal.LinkRefusal.TheVariants.{Disagree, Double, Missing, Entry, Large}
use Rattle.rc_answers.specs.declared.image_refusal.ImageRefusal.TheVariants.{Magic, Version, Short, Extra, Field, Target, Height, Kind, Number, Facts, Pins, Wide}

abbrev pub trap_name : Trap → List ℕ
trap_name Null = codes "null"
trap_name Bounds = codes "bounds"
trap_name Size = codes "size"
trap_name Zero = codes "zero"
trap_name Overflow = codes "overflow"
trap_name Shift = codes "shift"
trap_name SameRegion = codes "sameregion"
trap_name ParentPtr = codes "parentptr"
trap_name Traditional = codes "traditional"
trap_name Root = codes "root"
trap_name Subregion = codes "subregion"
trap_name Reference = codes "reference"
trap_name Full = codes "full"

-- of a place in the text
abbrev pub on_line : ℕ → List ℕ → List ℕ
on_line line rest = codes "rc: line " ++ decimal line ++ rest

abbrev pub end_line : End → List ℕ
end_line (Exit value) = []
end_line (Trapped trap line) = on_line line (codes ": trap " ++ trap_name trap ++ codes "\n")
end_line Spent = codes "rc: spent\n"

-- the rule that a text breaks
abbrev pub refused_by : Refusal → List ℕ
refused_by TooLong = codes ": refused 1 too-long\n"
refused_by (Byte line) = codes ": refused 2 byte\n"
refused_by (Token line) = codes ": refused 3 token\n"
refused_by (Syntax line) = codes ": refused 4 syntax\n"
refused_by (Deep line) = codes ": refused 5 deep\n"
refused_by (Unknown line) = codes ": refused 6 unknown\n"
refused_by (Twice line) = codes ": refused 7 twice\n"
refused_by (Mistyped line) = codes ": refused 8 type\n"
refused_by (Arity line) = codes ": refused 9 arity\n"
refused_by (AnnotationPlace line) = codes ": refused 10 annotation-place\n"
refused_by (NotDeletes line) = codes ": refused 11 not-deletes\n"
refused_by (DeletesPlace line) = codes ": refused 12 deletes-place\n"
refused_by (Main line) = codes ": refused 13 main\n"
refused_by (TooBig line) = codes ": refused 14 too-big\n"
refused_by (Variables line) = codes ": refused 15 variables\n"
refused_by Points = codes ": refused 16 points\n"

-- and the line of the text where it does, if there is one
abbrev pub refused_on : Refusal → Option ℕ
refused_on TooLong = None
refused_on (Byte line) = Some line
refused_on (Token line) = Some line
refused_on (Syntax line) = Some line
refused_on (Deep line) = Some line
refused_on (Unknown line) = Some line
refused_on (Twice line) = Some line
refused_on (Mistyped line) = Some line
refused_on (Arity line) = Some line
refused_on (AnnotationPlace line) = Some line
refused_on (NotDeletes line) = Some line
refused_on (DeletesPlace line) = Some line
refused_on (Main line) = Some line
refused_on (TooBig line) = Some line
refused_on (Variables line) = Some line
refused_on Points = None

abbrev pub refused_there : Option ℕ → (rule : List ℕ) → List ℕ
refused_there None rule = codes "rc" ++ rule
refused_there (Some line) rule = on_line line rule

abbrev pub refusal_line : Refusal → List ℕ
refusal_line refusal = refused_there (refused_on refusal) (refused_by refusal)

-- of a place in one of several files
abbrev pub in_file : (file : ℕ) → List ℕ → List ℕ
in_file file rest = codes "rc: file " ++ decimal file ++ rest

abbrev pub in_file_on : (file line : ℕ) → List ℕ → List ℕ
in_file_on file line rest = codes "rc: file " ++ (decimal file ++ codes ": line ") ++ (decimal line ++ rest)

abbrev pub refused_in : (file : ℕ) → Option ℕ → (rule : List ℕ) → List ℕ
refused_in file None rule = in_file file rule
refused_in file (Some line) rule = in_file_on file line rule

abbrev pub unit_refusal_line : (file : ℕ) → Refusal → List ℕ
unit_refusal_line file refusal = refused_in file (refused_on refusal) (refused_by refusal)

abbrev pub link_refusal_line : LinkRefusal → List ℕ
link_refusal_line (Disagree file line) = in_file_on file line (codes ": link refused 32 disagree\n")
link_refusal_line (Double file line) = in_file_on file line (codes ": link refused 33 double\n")
link_refusal_line (Missing file line) = in_file_on file line (codes ": link refused 34 missing\n")
link_refusal_line Entry = codes "rc: link refused 35 entry\n"
link_refusal_line Large = codes "rc: link refused 36 large\n"

-- of an instruction of a function
abbrev pub at_instruction : List ℕ → ℕ → ℕ → List ℕ
at_instruction name function instruction = codes "rc: image refused " ++ name ++ codes " in " ++ (decimal function ++ codes " at ") ++ (decimal instruction ++ codes "\n")

abbrev pub image_refusal_line : ImageRefusal → List ℕ
image_refusal_line Magic = codes "rc: image refused 17 magic\n"
image_refusal_line Version = codes "rc: image refused 18 version\n"
image_refusal_line Short = codes "rc: image refused 19 short\n"
image_refusal_line Extra = codes "rc: image refused 20 extra\n"
image_refusal_line (Field offset) = codes "rc: image refused 21 field at " ++ decimal offset ++ codes "\n"
image_refusal_line (Target function instruction) = at_instruction (codes "22 target") function instruction
image_refusal_line (Height function instruction) = at_instruction (codes "23 height") function instruction
image_refusal_line (Kind function instruction) = at_instruction (codes "24 kind") function instruction
image_refusal_line (Number function instruction) = at_instruction (codes "25 number") function instruction
image_refusal_line (Facts function instruction) = at_instruction (codes "29 facts") function instruction
image_refusal_line (Pins function instruction) = at_instruction (codes "30 pins") function instruction
image_refusal_line (Wide function) = codes "rc: image refused 31 wide in " ++ decimal function ++ codes "\n"

abbrev pub done_line : Done → List ℕ
done_line (Ended end) = end_line end
done_line (StaleImage line) = on_line line (codes ": stale image\n")
done_line (Refused refusal) = refusal_line refusal
done_line (ImageRefused refusal) = image_refusal_line refusal
done_line (UnitRefused file refusal) = unit_refusal_line file refusal
done_line (LinkRefused refusal) = link_refusal_line refusal
done_line Wrote = []
done_line Reported = []
done_line Usage = codes "usage: rc run FILE | compile FILE IMAGE | exec IMAGE | checks FILE | list IMAGE | slow FILE | soak N | upgrade IMAGE IMAGE | heap FILE | tasks FILE CHOICES | link IMAGE FILE | seal IMAGE IMAGE\n"

-- nothing can be said of a failed error stream on it
abbrev pub fault_line : Fault → List ℕ
fault_line FileFault = codes "rc: file fault\n"
fault_line ReadFault = codes "rc: read fault\n"
fault_line WriteFault = codes "rc: write fault\n"
fault_line ErrFault = []
fault_line Memory = codes "rc: no memory\n"

abbrev pub answer_line : Result Done Fault → List ℕ
answer_line (Ok done) = done_line done
answer_line (Err fault) = fault_line fault
