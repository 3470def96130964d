use Rattle.std.proofs.Common.{ℕ, [], string_bytes, vec_items, Global, Vec, refl, ap, ◌∙◌}
use Rattle.envvars.specs.Texts.{texts_in}
use Rattle.modules.specs.Replies.{changed_view}
use Rattle.module_subcommands.specs.Descriptions.{with_messages}
use Rattle.module_subcommands.proofs.ReportLemmas.{lines_same}
use Rattle.module_subcommands.proofs.describing.report_modules.Goals as goal

pub returns-clause-reported : goal.returns-clause-reported
returns-clause-reported g c =
    let done = rw (c.as_slice-all.ensures.value, c.in_ok-words.ensures, c.as_slice-names.ensures.value) at c.in_ok-requested.ensures.done in
    let changed = c.in_ok-requested.requested.changed in (
      changed_view c.args.asking.now.env changed,
      done.comes,
      lines_same [] [] c.args.place (vec_items c.into_bytes.result) (with_messages (texts_in changed.done.messages) (string_bytes changed.done.report)) c.in_ok-plain_reply.field-0 refl
          (ap (λ (v : Vec ℕ Global). vec_items v) c.into_bytes.ensures.value ∙ c.in_ok-text.ensures) c.in_ok-plain_reply.ensures,
    )
