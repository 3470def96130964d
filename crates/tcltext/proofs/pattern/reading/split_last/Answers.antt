use Rattle.std.proofs.Common.{ap, ◌∙◌, sym, ◌++◌, encode_utf8}
use Rattle.std.specs.Str.{chars}
use Rattle.std.proofs.lemmas.List.{nil_from_length}
use Rattle.std.proofs.lemmas.Str.{chars-nil}
use Rattle.tcltext.proofs.pattern.TextLemmas.{chars_before_char}
use Rattle.tcltext.proofs.pattern.reading.split_last.Goals as goal

pub returns-clause-characters : goal.returns-clause-characters
returns-clause-characters c =
    chars_before_char c.args.text.now c.as_str.result.now c.in_ok-last.last c.utf8.text c.as_str.utf8
    (sym c.chars-characters.ensures.rest ∙ c.in_ok-last.ensures.steps ∙ ap (λ xs. xs ++ encode_utf8 c.in_ok-last.last) (sym c.as_str.ensures))

pub returns-in_err-last-clause-characters : goal.returns-in_err-last-clause-characters
returns-in_err-last-clause-characters c =
    rw c.from_residual.ensures (ap chars (sym c.chars-characters.ensures.rest ∙ nil_from_length _ c.in_err-last.ensures.steps.0) ∙ chars-nil)
