use Rattle.std.proofs.Common.{◌≡◌, ◌++◌, map, flat_map, take}
use Rattle.envvars.specs.Texts.{texts_in}
use Rattle.audit_laws.specs.determinism.Contexts.{contexts_with}
use Rattle.audit_laws.specs.determinism.ContextViews.{context_view}
use Rattle.audit_laws.proofs.determinism.contexts.push_lists.Given as goal

abbrev pub invariant-loop-loaded : goal.invariant-loop-loaded
invariant-loop-loaded l =
    map context_view l.ways.items
    ≡ map context_view l.initial.ways.items ++ flat_map (contexts_with l.asked.mode l.asked.shell) (map texts_in (take l.loaded-index l.lists))
