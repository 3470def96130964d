use Rattle.std.proofs.Common.{◌≡◌, ◌++◌, map, flat_map, take, string_bytes}
use Rattle.audit_laws.specs.determinism.Contexts.{contexts_in}
use Rattle.audit_laws.specs.determinism.ContextViews.{context_view}
use Rattle.audit_laws.proofs.determinism.contexts.push_shells.Given as goal

abbrev pub invariant-loop-shell : goal.invariant-loop-shell
invariant-loop-shell l =
    map context_view l.ways.items ≡ map context_view l.initial.ways.items ++ flat_map (contexts_in l.of_mode (map string_bytes l.loaded)) (take l.shell-index l.shells)
