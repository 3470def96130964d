use Rattle.std.proofs.Common.{◌∙◌, ◌-◌, String, Global, length, take, map, string_bytes, sym, ap, arith}
use Rattle.message.specs.Messages.{Text}
use Rattle.module_reports.specs.completions.Places.{kinds_at}
use Rattle.module_subcommands.proofs.PlaceLemmas.{last_wanted}
use Rattle.module_subcommands.proofs.completing.wanted_at.Goals as goal

pub returns : goal.returns
returns c =
    last_wanted c.in-Some.caller _ c.args.words.now (length c.args.words.now - 1) c.word-item.result _ _
    (sym c.in-Some.ensures)
    (omega (arith, c.in-len1-up.len_at_least))
    c.word-item.is
    (c.in_ok-kinds_at.ensures ∙ ap (λ (word : Text). kinds_at c.in-Some.caller (map (λ (s : String Global). string_bytes s) (take (length c.args.words.now - 1) c.args.words.now)) word) c.as_str.ensures.value)
    c.in_ok-clone.ensures.cases
