use Rattle.std.proofs.Common.{◌≡◌, false, drop, map, string_bytes}
use Rattle.requests.specs.Steps.{Each}
use Rattle.modules.specs.Views.{request_context_of, done_view}
use Rattle.modules.specs.Parts.{IsListedIn, NameActionStep, EachActionLooksAt, entries_view, may_lose}
use Rattle.modules.proofs.TreeAnswers.{Leads}
use Rattle.modules.proofs.step.act_on_each.Given as goal

abbrev pub invariant-loop-name : goal.invariant-loop-name
invariant-loop-name g l = record {
  leads : Leads g.T.Tree.agrees g.T.Tree.failures g.T.Tree.failed l.initial.tree l.tree
      (λ files listings. Each (NameActionStep l.name_action (request_context_of l.settings files listings))
      (map string_bytes (drop l.name-index l.names)) (done_view l.progress.done (g.V.Vars.vars l.env)))
      (λ files listings. Each (NameActionStep l.name_action (request_context_of l.settings files listings))
      (map string_bytes l.names) (done_view l.initial.progress.done (g.V.Vars.vars l.initial.env)))
      (λ files listings. EachActionLooksAt l.name_action (request_context_of l.settings files listings)
      (map string_bytes (drop l.name-index l.names)) (done_view l.progress.done (g.V.Vars.vars l.env)))
      (λ files listings. EachActionLooksAt l.name_action (request_context_of l.settings files listings) (map string_bytes l.names) (done_view l.initial.progress.done (g.V.Vars.vars l.initial.env)));
  listed : IsListedIn l.progress (g.V.Vars.vars l.env);
  free : may_lose l.name_action (entries_view l.initial.progress.list.entries) ≡ false → may_lose l.name_action (entries_view l.progress.list.entries) ≡ false;
  base : g.V.Vars.base l.env ≡ g.V.Vars.base l.initial.env;
}
