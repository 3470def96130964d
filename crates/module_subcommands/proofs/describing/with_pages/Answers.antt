use Rattle.std.proofs.Common.{◌≡◌, ◌++◌, append_assoc, codes, string_bytes, ◌∙◌}
use Rattle.message.specs.Messages.{Text}
use Rattle.module_subcommands.proofs.describing.with_pages.Goals as goal

joined : (t a p b c : Text) → ((((t ++ a) ++ p) ++ b) ++ p) ++ c ≡ t ++ (a ++ (p ++ (b ++ (p ++ c))))
joined t a p b c =
    append_assoc (((t ++ a) ++ p) ++ b) p c
    ∙ (append_assoc ((t ++ a) ++ p) b (p ++ c) ∙ (append_assoc (t ++ a) p (b ++ (p ++ c)) ∙ append_assoc t a (p ++ (b ++ (p ++ c)))))

pub returns : goal.returns
returns c =
    rw (c.in-Some.is, c.in_ok-push_str-6.ensures.bytes, c.in_ok-push_str-5.ensures.bytes, c.in_ok-push_str-4.ensures.bytes, c.in_ok-push_str-3.ensures.bytes, c.in_ok-push_str-2.ensures.bytes)
    (joined (string_bytes c.args.text) (codes "\n  man -M '") c.in-Some.pages.now (codes "' module\n  man -M '") (codes "' modulefile\n"))
