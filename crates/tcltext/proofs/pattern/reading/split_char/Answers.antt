use Rattle.std.proofs.Common.{ap, ◌∙◌, sym, ◌++◌, encode_utf8}
use Rattle.std.proofs.lemmas.Str.{chars_past_char}
use Rattle.tcltext.proofs.pattern.reading.split_char.Goals as goal

pub returns-clause-characters : goal.returns-clause-characters
returns-clause-characters c =
    chars_past_char c.args.text.now c.as_str.result.now c.in_ok-first.first c.utf8.text
    (sym c.chars-characters.ensures.rest ∙ c.in_ok-first.ensures.steps.0 ∙ ap (λ ys. encode_utf8 c.in_ok-first.first ++ ys) (sym c.as_str.ensures))
