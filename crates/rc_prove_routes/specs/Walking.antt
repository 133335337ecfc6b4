-- A function with the tables of its targets.
use Rattle.std.specs.Prelude.{◌≤◌, length}
use Rattle.rc_image_steps.specs.Sites.{function_in, IsSite}
use Rattle.rc_prove_ways.specs.Ranks.{AreRanks, AreTargets}
use Rattle.rc_prove_routes.specs.declared.walk.Walk.{Walk}

pub record IsWalk (walk : Walk) : Type 0 where
  pub site : IsSite walk.site
  pub targets : AreTargets (function_in walk.site) walk.targets.now
  pub few : length walk.targets.now ≤ length (function_in walk.site).code
  pub ranks : AreRanks walk.targets.now walk.ranks.now
