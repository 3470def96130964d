use Rattle.module_collections.specs.texts.Views.{kept_view, line_reason, reason_of}
use Rattle.module_collections.proofs.texts.Turns.{line_refused}
use Rattle.module_collections.proofs.texts.read.read_line.Goals as goal

pub returns-in-Err : goal.returns-in-Err
returns-in-Err c =
    line_refused c.args.number (kept_view c.args.found.now) c.as_bytes.result.now c.args.line.now (line_reason c.in-Err.fault) (reason_of c.in_line.result) c.as_bytes.ensures.value
    c.in_line.ensures c.in-Err.ensures
