use Rattle.rc_program_code.specs.Listing.{structs_of}
use Rattle.rc_program_code.proofs.program.behind_body.Goals as goal

pub code_points-requires : goal.code_points-requires
code_points-requires c = record { laid = record { structs = structs_of c.args.program.now.parts.now; laid = c.requires } }
