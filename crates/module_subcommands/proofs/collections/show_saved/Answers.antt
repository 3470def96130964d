use Rattle.std.proofs.Common.{string_bytes, vec_items}
use Rattle.module_subcommands.proofs.NarrowLemmas.{in_entries}
use Rattle.module_subcommands.proofs.collections.show_saved.Goals as goal

pub returns-clause-shown : goal.returns-clause-shown
returns-clause-shown g c =
    let found = c.in_ok-path.ensures.found in
    let shown = rw c.as_str-name.ensures.value at c.in_ok-bytes.ensures.answer in (
      string_bytes c.in_ok-path.path,
      vec_items c.in_ok-bytes.bytes,
      (found.0, found.1, in_entries _ _ _ c.read_bytes.ensures.narrows found.2),
      shown,
      rw (c.in_ok-report.ensures, c.as_slice.ensures.value, c.as_str-name.ensures.value) at c.in_ok-plain_reply.ensures,
    )
