use Rattle.std.proofs.Common.{string_bytes}
use Rattle.module_subcommands.proofs.listing.report_available.Goals as goal

pub returns-clause-reported : goal.returns-clause-reported
returns-clause-reported g c =
    let report = rw c.terminal_at-terminal.ensures at c.in_ok-text.ensures.report in
    (string_bytes c.in_ok-text.text, report, rw (c.in_ok-aside.ensures, c.as_str.ensures.value) at c.in_ok-names_reply.ensures)
