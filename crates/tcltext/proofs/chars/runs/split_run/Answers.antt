use Rattle.std.proofs.Common.{◌∙◌}
use Rattle.tcltext.specs.chars.Classes.{in_class}
use Rattle.tcltext.proofs.chars.RunLemmas.{run_cut, take_run, drop_run}
use Rattle.tcltext.proofs.chars.runs.split_run.Goals as goal

pub split_at-requires : goal.split_at-requires
split_at-requires c = rw (c.run_length.ensures, c.as_bytes.ensures.value) (run_cut c.args.class c.args.text.now c.utf8.text)

pub returns-clause-run : goal.returns-clause-run
returns-clause-run c = c.split_at.ensures.front ∙ rw (c.run_length.ensures, c.as_bytes.ensures.value) (take_run (in_class c.args.class) c.args.text.now)

pub returns-clause-rest : goal.returns-clause-rest
returns-clause-rest c = c.split_at.ensures.back ∙ rw (c.run_length.ensures, c.as_bytes.ensures.value) (drop_run (in_class c.args.class) c.args.text.now)
