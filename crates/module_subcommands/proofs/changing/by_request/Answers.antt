use Rattle.std.proofs.Common.{◌∷◌}
use Rattle.envvars.specs.Texts.{texts_in}
use Rattle.module_words.specs.subcommands.Subcommands.{name_of}
use Rattle.module_subcommands.proofs.RequestLemmas.{accepted_by}
use Rattle.module_subcommands.proofs.changing.by_request.Goals as goal

pub returns-clause-accepted : goal.returns-clause-accepted
returns-clause-accepted g c =
    accepted_by (g.T.Tree.agrees c.request_done.new.tree) c.args.asking.now.shell c.args.asking.now.env
    (name_of c.args.command.now.subcommand ∷ texts_in c.args.command.now.words) c.in_ok-requested.requested c.as_accepted.result
    c.as_accepted.ensures.messages c.as_accepted.ensures.text c.as_accepted.ensures.changes
    (rw (c.as_slice-all.ensures.value, c.in_ok-words.ensures, c.as_slice-names.ensures.value) at c.in_ok-requested.ensures.done)
