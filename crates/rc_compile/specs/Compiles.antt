-- What compiling a text answers, and its parts.
use Rattle.std.specs.Prelude.{◌≡◌, ℕ, List, Result, Ok, Err, Vec}
use Rattle.std.specs.declared.alloc.Global.{Global}
use Rattle.rc_syntax.specs.declared.word.Token.{Token as CodeToken}
use Rattle.rc_syntax.specs.declared.tree.Tree as declared_tree
use Rattle.rc_syntax.specs.WordShapes.{tokens_of}
use Rattle.rc_syntax.specs.Tokens.{Token}
use Rattle.rc_syntax.specs.Place.{last_line}
use Rattle.rc_syntax.specs.Shape.{tree_of}
use Rattle.rc_core.specs.declared.parts.Parts.{Parts}
use Rattle.rc_core.specs.Shapes.{program_of}
use Rattle.rc_core.specs.Programs.{Program}
use Rattle.rc_rlang.specs.Bounds.{IsWithinBounds}
use Rattle.rc_compile.specs.Acceptance.{HasProgram, HasWords, TooMuch}
use Rattle.rc_compile.specs.Answers.{IsOnlyProgram, IsOnlyRefusal, IsOnlyTree}
use Rattle.rc_compile.specs.declared.fault.CompileFault.{CompileFault}
use Rattle.rc_compile.specs.declared.fault.CompileFault.TheVariants.{Refused, Memory}
use Rattle.rc_compile.specs.declared.refusal.Refusal.TheVariants.{TooLong, Byte, Token as BadToken, Syntax, Deep, Unknown, Twice, Mistyped, Arity, AnnotationPlace, NotDeletes, DeletesPlace, Main, TooBig, Variables, Points}

-- a text's one refusal, or want of memory
abbrev pub IsReason : List ℕ → CompileFault → Type 0
IsReason text (Refused refusal) = IsOnlyRefusal text refusal
IsReason text Memory = Unit {0}

-- a text so refused isn't looked at behind its tree: its length, its words or its tree refuse it, or memory is short
abbrev pub IsOfReading : CompileFault → Type 0
IsOfReading (Refused TooLong) = Unit {0}
IsOfReading (Refused (Byte line)) = Unit {0}
IsOfReading (Refused (BadToken line)) = Unit {0}
IsOfReading (Refused (Syntax line)) = Unit {0}
IsOfReading (Refused (Deep line)) = Unit {0}
IsOfReading (Refused (Unknown line)) = ⊥
IsOfReading (Refused (Twice line)) = ⊥
IsOfReading (Refused (Mistyped line)) = ⊥
IsOfReading (Refused (Arity line)) = ⊥
IsOfReading (Refused (AnnotationPlace line)) = ⊥
IsOfReading (Refused (NotDeletes line)) = ⊥
IsOfReading (Refused (DeletesPlace line)) = ⊥
IsOfReading (Refused (Main line)) = ⊥
IsOfReading (Refused (TooBig line)) = ⊥
IsOfReading (Refused (Variables line)) = ⊥
IsOfReading (Refused Points) = ⊥
IsOfReading Memory = Unit {0}

-- the line is that of the text's last word, and 1 where it has no word
abbrev pub EndsOnLine : List ℕ → ℕ → Type 0
EndsOnLine text line = (tokens : List Token) → HasWords text tokens → line ≡ last_line tokens

-- the text's words, its one tree: or why there is none
abbrev pub FindsWords : List ℕ → Result (Vec CodeToken Global) CompileFault → Type 0
FindsWords text (Ok tokens) = HasWords text (tokens_of tokens.items)
FindsWords text (Err fault) = IsReason text fault × IsOfReading fault

abbrev pub FindsTree : List ℕ → Result declared_tree.Tree CompileFault → Type 0
FindsTree text (Ok tree) = IsOnlyTree text (tree_of tree) × EndsOnLine text tree.last
FindsTree text (Err fault) = IsReason text fault × IsOfReading fault

-- its program by the rules, or why there is none
abbrev pub FindsProgram : List ℕ → Result Parts CompileFault → Type 0
FindsProgram text (Ok program) = HasProgram text (program_of program)
FindsProgram text (Err fault) = IsReason text fault

-- a program needs no more than one may, or this is what it needs too much of
abbrev pub KeepsWithin : {T : Type 0} → Program → Result T CompileFault → Type 0
KeepsWithin program (Ok x) = IsWithinBounds program
KeepsWithin program (Err (Refused refusal)) = TooMuch program refusal
KeepsWithin program (Err Memory) = Unit {0}

-- the one program of a text, or its one refusal
abbrev pub Compiles : List ℕ → Result Parts CompileFault → Type 0
Compiles text (Ok program) = IsOnlyProgram text (program_of program)
Compiles text (Err fault) = IsReason text fault
