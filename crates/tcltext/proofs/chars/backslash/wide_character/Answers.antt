use Rattle.std.proofs.Common.{◌≡◌, ◌++◌, sym, ap, ◌∙◌}
use Rattle.std.proofs.lemmas.Str.{IsCharBoundary-start}
use lib.Utf8.{encode}
use Rattle.tcltext.specs.chars.Backslash.{after_backslash}
use Rattle.tcltext.proofs.chars.BackslashLemmas.{wide_read, ascii_or_wide}
use Rattle.tcltext.proofs.chars.backslash.wide_character.Goals as goal

pub returns : goal.returns
returns c =
    let e : c.args.text.now ≡ encode c.in_ok-next.field-0 ++ c.as_str.result.now = sym c.chars-chars.ensures.rest
    ∙ c.in_ok-next.ensures.steps.0 ∙ ap (λ xs. encode c.in_ok-next.field-0 ++ xs) (sym c.as_str.ensures) in
    sym (ap after_backslash e ∙ wide_read c.in_ok-next.field-0 c.as_str.result.now
    (ascii_or_wide c.in_ok-next.field-0 c.args.text.now c.as_str.result.now e c.requires)
    (IsCharBoundary-start c.as_str.result.now c.as_str.utf8).1)
