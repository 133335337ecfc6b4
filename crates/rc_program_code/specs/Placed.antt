-- Where the code of a statement stands: at which points, before which a map has its lists; and before how many instructions of its
-- function, to which its jumps lead.
use Rattle.std.specs.Prelude.{◌≡◌, ℕ, ◌+◌, Bool, List}
use Rattle.rc_core.specs.Laid.{AreLaidOut}
use Rattle.rc_core.specs.Live.{Ways}
use Rattle.rc_rlang.specs.declared.code.Code.{Code as CodeCode}
use Rattle.rc_rlang.specs.LiveLists.{steps_lists, code_lists, codes_lists}
use Rattle.rc_rlang.specs.RegionCode.{Steps, Code, Codes, Routine}
use Rattle.rc_rlang.specs.RegionFits.{CodeFits, CodesFit}
use Rattle.rc_rlang.specs.RegionPoints.{steps_points, code_points, codes_points}
use Rattle.rc_rlang.specs.Shapes.{code_of, codes_of, routine_in}
use Rattle.rc_emission.specs.StatementCode.{Place}
use Rattle.rc_lines.specs.declared.body.Body.{Body}
use Rattle.rc_lines.specs.Over.{deleting_in, types_in, structs_in, Listed}
use Rattle.rc_program_code.specs.declared.leads.Leads.{Leads}

module _ (b : Body) where
  abbrev pub code_in : CodeCode → Code
  code_in code = code_of (structs_in b) code

  abbrev pub codes_in : List CodeCode → Codes
  codes_in body = codes_of (structs_in b) body

  abbrev pub routine_of : Routine
  routine_of = routine_in (structs_in b) b.routine.now

  -- the map has the lists of a piece of code that ends before a point, where this is live behind it
  pub record StepsHeld (steps : Steps) (live : ℕ → Bool) (end : ℕ) : Type 0 where
    pub here : ℕ
    pub ends : here + steps_points steps ≡ end
    pub listed : Listed b.live.now (steps_lists (deleting_in b) (types_in b) steps here live)

  pub record CodeHeld (code : Code) (k : Ways) (end : ℕ) : Type 0 where
    pub here : ℕ
    pub ends : here + code_points code ≡ end
    pub listed : Listed b.live.now (code_lists (deleting_in b) (types_in b) code here k)

  pub record CodesHeld (codes : Codes) (k : Ways) (end : ℕ) : Type 0 where
    pub here : ℕ
    pub ends : here + codes_points codes ≡ end
    pub listed : Listed b.live.now (codes_lists (deleting_in b) (types_in b) codes here k)

  -- code can be made: its temporaries stand in order, and the map has its lists, whatever is live behind it
  pub record StepsReady (steps : Steps) (end : ℕ) : Type 0 where
    pub live : ℕ → Bool
    pub held : StepsHeld steps live end

  pub record CodeReady (code : Code) (end : ℕ) : Type 0 where
    pub laid : AreLaidOut (structs_in b) b.layouts.now
    pub fits : CodeFits code
    pub ways : Ways
    pub held : CodeHeld code ways end

  pub record CodesReady (codes : Codes) (end : ℕ) : Type 0 where
    pub laid : AreLaidOut (structs_in b) b.layouts.now
    pub fits : CodesFit codes
    pub ways : Ways
    pub held : CodesHeld codes ways end

-- a piece of so many instructions stands at a place, with so many behind it. `total` is the number of the function's instructions
pub record IsPlaced (size : ℕ) (p : Place) (total : ℕ) (leads : Leads) (behind : ℕ) : Type 0 where
  pub at : p.at + (size + behind) ≡ total
  pub out : p.out + leads.out ≡ behind
  pub on : p.on + leads.on ≡ behind
