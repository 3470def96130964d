use Rattle.search.specs.Answers.{found_view}
use Rattle.module_reports.proofs.descriptions.HelpLemmas.{evaluated}
use Rattle.module_reports.proofs.descriptions.helping.evaluate.Goals as goal

pub returns : goal.returns
returns c =
    evaluated c.args.request (found_view c.args.found.now) c.args.env.now _ _ _ c.as_str.ensures.value c.as_str-2.ensures.value c.over-working.ensures.new
    c.args.request.limits c.args.text.now c.run_file.result _ c.run_file.ensures.runs
