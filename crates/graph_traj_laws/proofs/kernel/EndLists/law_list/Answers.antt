-- `law_list` meets its contract: in each case of the law it hands back the list of `law_list`. Assumes nothing.
use Rattle.graph_traj_laws.proofs.Laws.{law-start, law-end}
use Rattle.graph_traj_laws.proofs.kernel.EndLists.law_list.Goals as goal

pub returns-then-law-eq0 : goal.returns-then-law-eq0
returns-then-law-eq0 c = law-start _ _ _ c.args.self.same c.if-law-eq0.true

pub returns : goal.returns
returns c = law-end _ _ _ c.args.self.same c.if-law-eq0.false
