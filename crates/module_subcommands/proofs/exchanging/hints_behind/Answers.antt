use Rattle.module_subcommands.proofs.exchanging.hints_behind.Goals as goal

pub returns : goal.returns
returns c = (c.in_ok-known.known, c.in_ok-known.ensures, c.in_ok-hints_by.ensures)
