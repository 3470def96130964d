use Rattle.std.proofs.Common.{◌≡◌, ℕ, [], ◌++◌, codes, string_bytes, vec_items, Global, Vec, Option, ap, ◌∙◌}
use Rattle.std.specs.Option.{option_map}
use Rattle.message.specs.Messages.{Text}
use Rattle.module_subcommands.specs.Descriptions.{pages_of, with_pages}
use Rattle.module_subcommands.proofs.ReportLemmas.{report_same}
use Rattle.module_subcommands.proofs.describing.say_usage.Goals as goal

pub returns : goal.returns
returns c =
    let others : Text = codes " module(1), modulefile(5)\n" in
    let pages : option_map (λ t. t.now) c.as_deref.result ≡ pages_of c.args.asking.now = c.as_deref.ensures.value ∙ c.in_ok-pages.ensures in
    report_same (string_bytes c.new.result) [] c.args.place (vec_items c.into_bytes.result) _ c.report_reply.result c.new.ensures.bytes
    (ap (λ (v : Vec ℕ Global). vec_items v) c.into_bytes.ensures.value ∙ (c.in_ok-text-2.ensures
    ∙ (ap (λ (found : Option Text). with_pages (string_bytes c.push_str.new.self) found others) pages
    ∙ ap (λ (text : Text). with_pages text (pages_of c.args.asking.now) others)
    (c.in_ok-push_str.ensures.bytes ∙ ap (λ (text : Text). text ++ codes "\nManual pages:") c.in_ok-text.ensures.ok)))) c.report_reply.ensures
