use Rattle.envvars.specs.Texts.{slice_texts, texts_in}
use Rattle.module_reports.proofs.completions.BegunLemmas.{in_turn}
use Rattle.module_reports.proofs.completions.begun.names_for.Goals as goal

pub returns-clause-offered : goal.returns-clause-offered
returns-clause-offered g c =
    in_turn (g.T.Tree.agrees c.names_begun.new.tree) (g.T.Tree.agrees c.opened.new.tree) (g.T.Tree.agrees c.opened-2.new.tree) (g.T.Tree.agrees c.opened-3.new.tree)
    (slice_texts c.args.directories.now) c.args.word.now (texts_in c.in_ok-names.names) (texts_in c.in_ok-names-2.names) (texts_in c.in_ok-names-3.names) c.opened-3.result
    c.in_ok-names.ensures.begun c.opened.ensures.narrows c.in_ok-names-2.ensures.opened c.opened-2.ensures.narrows c.in_ok-names-3.ensures.opened c.opened-3.ensures.narrows c.opened-3.ensures.opened
