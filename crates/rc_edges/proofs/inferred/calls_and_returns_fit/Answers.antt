use Rattle.rc_edges.proofs.Fitting.{calls_fit, returns_fit}
use Rattle.rc_edges.proofs.inferred.calls_and_returns_fit.Goals as goal

pub returns-clause-calls : goal.returns-clause-calls
returns-clause-calls c = calls_fit

pub returns-clause-returns : goal.returns-clause-returns
returns-clause-returns c = returns_fit
