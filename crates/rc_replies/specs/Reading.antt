-- What reading a word or a line answers.
use Rattle.std.specs.Prelude.{◌≡◌, Option, Some, None, Result, Ok, Err}
use Rattle.rc_replies.specs.Commands as clean
use Rattle.rc_replies.specs.declared.command.Command.{Command}
use Rattle.rc_replies.specs.declared.command.Command.TheVariants.{New, Cells, Link, Pin, Unpin, Drop}
use Rattle.rc_replies.specs.declared.command.NoCommand.{NoCommand}
use Rattle.rc_replies.specs.declared.command.NoCommand.TheVariants.{Bad, Memory}

abbrev pub asked : Command → clean.Command
asked (New parent) = clean.New parent
asked (Cells region count) = clean.Cells region count
asked (Link region object index target) = clean.Link region object index target
asked (Pin region) = clean.Pin region
asked (Unpin region) = clean.Unpin region
asked (Drop regions) = clean.Drop regions.items

-- it is read, or there is none to be read, or there was no memory
abbrev pub Reads : {A B : Type 0} → (A → B) → Option B → Result A NoCommand → Type 0
Reads means wanted (Ok read) = wanted ≡ Some (means read)
Reads means wanted (Err Bad) = wanted ≡ None
Reads means wanted (Err Memory) = Unit {0}
