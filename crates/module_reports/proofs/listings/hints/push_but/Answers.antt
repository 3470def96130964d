use Rattle.std.proofs.Common.{◌≡◌, ◌++◌, string_bytes, OnOk, codes, subst, ap, ◌∙◌}
use Rattle.message.specs.Messages.{Text}
use Rattle.terminal.specs.text.Shown.{shown}
use Rattle.module_reports.proofs.listings.HintLemmas.{grown, in_line}
use Rattle.module_reports.proofs.listings.hints.push_but.Goals as goal

pub returns : goal.returns
returns c =
    let start = string_bytes c.args.lines.now in
    let name = shown c.args.name.now in
    let other = shown c.args.other.now in
    let all : string_bytes c.push_shown-2.new.lines ≡ (((start ++ codes "'") ++ name) ++ codes "' isn't loaded, but '") ++ other =
    c.in_ok-push_shown-2.ensures ∙ ap (λ (t : Text). t ++ other) (c.in_ok-push_str-2.ensures.bytes ∙ ap (λ (t : Text). t ++ codes "' isn't loaded, but '") (c.in_ok-push_shown.ensures
    ∙ ap (λ (t : Text). t ++ name) c.in_ok-push_str.ensures.bytes)) in
    subst (λ (t : Text). OnOk c.push_str-3.result (string_bytes c.push_str-3.new.self ≡ t))
    (ap (λ (t : Text). t ++ codes "' is.\n") all ∙ in_line start (codes "'") name (codes "' isn't loaded, but '") other (codes "' is.\n"))
    (grown c.push_str-3.result (string_bytes c.push_str-3.new.self) (string_bytes c.push_shown-2.new.lines) (codes "' is.\n") c.push_str-3.ensures.bytes)
