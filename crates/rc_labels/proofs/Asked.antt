-- A check that may go asks for a fact.
use Rattle.std.proofs.Common.{ℕ, Bool}
use Rattle.rc_rlang.specs.RegionCode.{Rlang}
use Rattle.rc_annotations.specs.Annotations.{AllRemovable}
use Rattle.rc_labels.specs.InOrder.{OnlyWhereAsked}

pub only_where_asked : (r : Rlang) (temporaries : ℕ → ℕ) (marks : (function point : ℕ) → Bool) → AllRemovable r temporaries marks → OnlyWhereAsked r marks
only_where_asked r temporaries marks may_go g p e =
    let proven = (may_go g p e).proven in
    record { routine = proven.routine; there = proven.there; node = proven.node; at_point = proven.at_point; fact = proven.fact; asks = proven.asks }
