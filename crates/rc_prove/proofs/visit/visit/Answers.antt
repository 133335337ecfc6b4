use Rattle.std.proofs.Common.{◌≡◌, ◌∙◌, ◌↔◌, ℕ, suc, ◌+◌, IsTrue, List, refl, sym, subst, arith}
use Rattle.rc_facts.specs.Derivable.{Derivable}
use Rattle.rc_facts.specs.Facts.{Known, holds}
use Rattle.rc_facts.specs.Flow.{set_at}
use Rattle.rc_edges.specs.Boundaries.{Callable}
use Rattle.rc_edges.specs.Reading.{Loses}
use Rattle.rc_edges.specs.Edges.{EffectBelow}
use Rattle.rc_rlang.specs.RegionFlow.{Effect}
use Rattle.rc_carrying.specs.Left.{IsReady}
use Rattle.rc_graph.specs.Nodes.{effect_of}
use Rattle.rc_carrying.specs.Passing.{CarriesOver}
use Rattle.rc_carrying.proofs.Ready.{left_ready}
use Rattle.rc_prove.specs.Visiting.{FrameGives}
use Rattle.rc_prove.proofs.Anew.{ready_shut}
use Rattle.rc_target_sets.specs.Shut.{IsShut}
use Rattle.rc_prove.proofs.visit.visit.Goals as goal

pub give_call-requires : goal.give_call-requires
give_call-requires c = λ x h arguments e. subst (λ n. Callable h arguments n c.args.entries.now) (sym c.requires.work) (c.requires.spot.ready x h arguments e)

module _ (r low top : ℕ) (exits : List Known) (effect : Effect) (work mid : Known) (wide : work.variables ≡ suc (suc r)) (over : CarriesOver work.variables (r + 1) exits effect low top (holds work) (holds mid)) where
  carries : CarriesOver (suc (suc r)) (suc r) exits effect low top (holds work) (holds mid)
  carries = subst (λ n. CarriesOver n (suc r) exits effect low top (holds work) (holds mid)) wide
      (subst (λ s. CarriesOver work.variables s exits effect low top (holds work) (holds mid)) (let e : r + 1 ≡ suc r = omega arith in e) over)

  -- the working set is shut behind the instruction
  behind : EffectBelow (suc r) effect → IsReady (suc (suc r)) (suc r) (holds work) → mid.variables ≡ work.variables → IsShut mid
  behind below ready same = ready_shut mid (suc (suc r)) (suc r) (same ∙ wide) (left_ready (suc (suc r)) (suc r) exits effect low top (holds work) (holds mid) below ready carries)

pub meet-led-requires-clause-shut : goal.meet-led-requires-clause-shut
meet-led-requires-clause-shut c = behind c.args.place.result c.args.spot.now.low c.args.spot.now.top c.args.exits.now (effect_of c.args.spot.now.effect) c.args.work.now c.carry.new.set c.requires.work c.in_ok-carry.ensures.facts c.requires.spot.below c.requires.ready c.carry.ensures.variables

pub meet-fell-requires-clause-shut : goal.meet-fell-requires-clause-shut
meet-fell-requires-clause-shut c = behind c.args.place.result c.args.spot.now.low c.args.spot.now.top c.args.exits.now (effect_of c.args.spot.now.effect) c.args.work.now c.carry.new.set c.requires.work c.in_ok-carry.ensures.facts c.requires.spot.below c.requires.ready c.carry.ensures.variables

pub returns-clause-visited : goal.returns-clause-visited
returns-clause-visited c = record {
  mid = c.carry.new.set;
  called = c.in_ok-called.called;
  left = c.in_ok-left.left;
  led = c.meet-led.result;
  fell = c.meet-fell.result;
  frames = c.meet-led.new.frames;
  is = refl;
  calls = c.in_ok-called.ensures;
  carries = carries c.args.place.result c.args.spot.now.low c.args.spot.now.top c.args.exits.now (effect_of c.args.spot.now.effect) c.args.work.now c.carry.new.set c.requires.work c.in_ok-carry.ensures.facts;
  leaves = c.in_ok-left.ensures;
  leads = subst (λ at. Loses c.meet-led.result c.args.frames.now c.meet-led.new.frames (FrameGives at c.carry.new.set)) c.set-jumped.ensures c.meet-led.ensures;
  falls = subst (λ at. Loses c.meet-fell.result c.meet-led.new.frames c.meet-fell.new.frames (FrameGives at c.carry.new.set)) c.set-fallen.ensures c.meet-fell.ensures;
  goes = λ e. c.resume.ensures.kept (c.set-next.ensures ∙ e);
  restarts = λ r e fact. subst (λ n. IsTrue (holds c.resume.new.work fact) ↔ Derivable n (set_at c.meet-fell.new.frames r) fact) (c.carry.ensures.variables ∙ c.requires.work) (c.resume.ensures.whole r (c.set-next.ensures ∙ e) fact);
}
