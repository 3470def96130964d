use Rattle.std.proofs.Common.{string_bytes}
use Rattle.module_words.specs.function.Moved.{moved_view}
use Rattle.module_subcommands.proofs.exchanging.exchange_modules.Goals as goal

pub returns-clause-exchanged : goal.returns-clause-exchanged
returns-clause-exchanged g c =
    record {
      first = moved_view c.in_ok-first.first;
      second = moved_view c.in_ok-second.second;
      named = rw c.as_slice.ensures.value at c.in_ok-first.ensures;
      named_too = rw c.as_slice-2.ensures.value at c.in_ok-second.ensures;
      accepted = c.in_ok-accepted.accepted;
      exchanged = c.in_ok-accepted.ensures.exchanged;
      hints = string_bytes c.in_ok-hints.hints;
      hinted = c.in_ok-hints.ensures;
      replied = rw (c.in_ok-after.ensures, c.as_slice-changes.ensures.value) at c.changed.ensures;
    }
