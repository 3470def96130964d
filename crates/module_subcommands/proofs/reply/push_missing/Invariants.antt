use Rattle.std.proofs.Common.{◌≡◌, ◌++◌, map, take}
use Rattle.envvars.specs.Texts.{slice_texts}
use Rattle.module_subcommands.specs.Replies.{missing_writing}
use Rattle.module_subcommands.specs.Writings.{writing_view}
use Rattle.module_subcommands.proofs.reply.push_missing.Given as goal

abbrev pub invariant-loop-path : goal.invariant-loop-path
invariant-loop-path l =
    map writing_view l.writes.items
    ≡ map writing_view l.initial.writes.items
    ++ map (missing_writing l.is_terminal) (slice_texts (take l.path-index l.paths))
