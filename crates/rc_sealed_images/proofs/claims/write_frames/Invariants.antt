use Rattle.std.proofs.Common.{◌≡◌, ◌++◌, length, take}
use Rattle.std.specs.List.{flat_map}
use Rattle.rc_fields.specs.Spelling.{number}
use Rattle.rc_sealed_images.specs.Spelling.{frame_bytes}
use Rattle.rc_sealed_images.proofs.claims.write_frames.Given as goal

abbrev pub invariant-loop-frame : goal.invariant-loop-frame
invariant-loop-frame l = l.out.items ≡ l.fn.out.items ++ (number (length l.frames) ++ flat_map frame_bytes (take l.frame-index l.frames))
