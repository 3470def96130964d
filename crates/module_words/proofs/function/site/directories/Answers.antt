use Rattle.module_words.proofs.function.SiteLemmas.{line_turn}
use Rattle.module_words.proofs.function.site.directories.Goals as goal

pub loop-line-preserved : goal.loop-line-preserved
loop-line-preserved c =
    line_turn c.args.lines.now c.loop-line.line-index _ c.loop-line.joined.items c.push_directory.new.joined.items _ c.loop-line-test.true
    (rw (c.deref.ensures.value, c.in_ok-directory.ensures, c.as_bytes.ensures.value) at c.in_ok-push_directory.ensures) c.loop-line.invariant
