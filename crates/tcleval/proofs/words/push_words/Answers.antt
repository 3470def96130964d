use Rattle.std.proofs.Common.{refl, map, ap, ◌∙◌, ◌∷◌, []}
use Rattle.std.specs.Prelude.{string_bytes}
use Rattle.std.proofs.lemmas.List.{map-append}
use Rattle.tcleval.proofs.words.push_words.Goals as goal

pub returns-then-expands : goal.returns-then-expands
returns-then-expands c =
    let e = rw c.as_str.ensures.value at c.in_ok-more.ensures in
    rw c.if-expands.true (map string_bytes c.in_ok-more.more.items, e, ap (map string_bytes) c.in_ok-append.ensures.items ∙ map-append string_bytes c.args.texts.now.items c.in_ok-more.more.items)

pub returns : goal.returns
returns c =
    rw c.if-expands.false (string_bytes c.args.text ∷ [], refl, ap (map string_bytes) c.in_ok-push.ensures.items ∙ map-append string_bytes c.args.texts.now.items (c.args.text ∷ []))
