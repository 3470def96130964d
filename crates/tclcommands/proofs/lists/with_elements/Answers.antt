use Rattle.std.proofs.Common.{◌≡◌, ◌++◌, [], ◌∷◌, map, string_bytes, ◌∙◌, rules}
use Rattle.std.proofs.lemmas.List.{append_assoc}
use Rattle.tcltext.specs.list.Lists.{list_text}
use Rattle.tclcommands.proofs.ListTexts.{longer, nothing_mapped}
use Rattle.tclcommands.proofs.lists.with_elements.Goals as goal

pub returns : goal.returns
returns c es e =
    let xs = map string_bytes c.args.values.now in
    let some : string_bytes c.args.list ≡ [] → ⊥ = search rules in
    let more : c.args.values.now ≡ [] → ⊥ = search rules in
    let l = longer es xs (λ h. some (e ∙ h)) (λ h. more (nothing_mapped string_bytes c.args.values.now h)) in
    let a : string_bytes c.push.new.self ≡ string_bytes c.args.list ++ 32 ∷ [] = search rules in
    rw (l, ← e) (c.in_ok-push_str.ensures.bytes ∙ rw (a, c.as_str.ensures.value, c.in_ok-more.ensures) (append_assoc (string_bytes c.args.list) (32 ∷ []) (list_text xs)))
