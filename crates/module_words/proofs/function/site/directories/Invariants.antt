use Rattle.std.proofs.Common.{◌≡◌, drop, vec_items}
use Rattle.envvars.specs.Texts.{slice_texts}
use Rattle.module_words.specs.function.Sites.{directories, joined_lines}
use Rattle.module_words.proofs.function.SiteLemmas.{with_all}
use Rattle.module_words.proofs.function.site.directories.Given as goal

abbrev pub invariant-loop-line : goal.invariant-loop-line
invariant-loop-line l =
    with_all (vec_items l.joined) (directories (slice_texts (drop l.line-index l.lines))) ≡ joined_lines (slice_texts l.lines)
