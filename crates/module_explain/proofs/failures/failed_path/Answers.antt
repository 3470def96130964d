use Rattle.std.proofs.Common.{◌<◌, List, map, String, string_bytes, refl, ap}
use Rattle.std.specs.Prelude.{bytes_eq}
use Rattle.std.specs.List.{list_any}
use Rattle.std.specs.declared.alloc.Global.{Global}
use Rattle.requests.specs.RequestViews.{action_view}
use Rattle.module_explain.proofs.FailedLemmas.{answered, both_ok}
use Rattle.module_explain.proofs.failures.failed_path.Goals as goal

pub returns : goal.returns
returns g c =
    let seen = c.run_changes-outcome.new.tree in
    both_ok c.answer.result _ _ _ c.answer.ensures.some c.answer.ensures.none (λ o s n. (
      seen.tree,
      c.run_changes-outcome.ensures.reads.narrows,
      answered (g.T.Tree.agrees seen.tree) (g.T.Tree.failures c.args.tree < g.T.Tree.failures seen.tree) (g.T.Tree.failed seen.tree) c.args.limits c.args.request.now.shell c.args.env.now (action_view c.args.request.now.action)
          c.run_changes-outcome.result seen.failed c.pop.new.self.items c.pop.result _ _ c.pop.ensures.items
          (λ p. ap (λ (l : List (String Global)). list_any (bytes_eq p) (map string_bytes l)) c.new.ensures.items) (λ p. refl)
          c.run_changes-outcome.ensures.failed c.run_changes-outcome.ensures.over_tree seen.failed_there o s n,
    ))
