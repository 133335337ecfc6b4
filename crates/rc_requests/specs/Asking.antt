-- The words of a request, as the code has them.
use Rattle.std.specs.Prelude.{List, map, String, string_bytes, ℕ}
use Rattle.std.specs.declared.alloc.Global.{Global}
use Rattle.rc_requests.specs.Request as request
use Rattle.rc_requests.specs.Request.{Chosen}
use Rattle.rc_requests.specs.declared.request.Chosen as code
use Rattle.rc_requests.specs.declared.request.Request as code_request
use Rattle.rc_requests.specs.declared.request.Request.TheVariants.{Run, Slow, Compile, Exec, Listing, Upgrade, Script, Checks, Soak, Tasks, Link, Seal}

abbrev pub bytes_of : List (String Global) → List (List ℕ)
bytes_of words = map string_bytes words

abbrev pub chosen : code.Chosen → Chosen
chosen c = record { number = c.number; rest = bytes_of c.rest.now }

abbrev pub asks : code_request.Request → request.Request
asks (Run file limits) = request.Run file.now limits
asks (Slow file limits) = request.Slow file.now limits
asks (Compile from to) = request.Compile from.now to.now
asks (Exec file limits) = request.Exec file.now limits
asks (Listing file) = request.Listing file.now
asks (Upgrade from to) = request.Upgrade from.now to.now
asks (Script file limits) = request.Script file.now limits
asks (Checks file) = request.Checks file.now
asks (Soak n) = request.Soak n
asks (Tasks file choices limits) = request.Tasks file.now choices.now limits
asks (Link to files) = request.Link to.now (bytes_of files.now)
asks (Seal from to) = request.Seal from.now to.now
