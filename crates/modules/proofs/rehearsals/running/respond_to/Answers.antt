use Rattle.std.proofs.Common.{map, string_bytes, String}
use Rattle.std.specs.declared.alloc.Global.{Global}
use Rattle.filetree.proofs.FailedPaths.{only_if, only_wider_in_each}
use Rattle.requests.specs.RequestViews.{action_view}
use Rattle.modules.proofs.rehearsals.RunLemmas.{looks_by_request}
use Rattle.modules.proofs.rehearsals.running.respond_to.Goals as goal

pub returns-in-Ok-clause-failed : goal.returns-in-Ok-clause-failed
returns-in-Ok-clause-failed g c =
    only_wider_in_each _ _ _ _ _
    (λ files listings agreed at h.
    looks_by_request c.args.limits c.args.shell c.in-Ok.request.shell files listings c.args.env.now
    (map (λ (s : String Global). string_bytes s) c.args.words.now) (action_view c.in-Ok.request.action) at
    c.in-Ok.ensures.shell c.in-Ok.ensures.action h)
    (only_if _ _ _ _ c.respond.ensures.failed)
