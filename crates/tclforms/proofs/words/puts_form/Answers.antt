use Rattle.std.proofs.Common.{map, ◌≡◌}
use Rattle.std.specs.Prelude.{string_bytes}
use Rattle.tclrules.specs.Forms.{without_newline, puts_form}
use Rattle.tclforms.proofs.WordLemmas.{puts_of_three}
use Rattle.tclforms.proofs.words.puts_form.Goals as goal

pub returns-in-len3 : goal.returns-in-len3
returns-in-len3 c =
    let e : puts_form (map string_bytes c.args.words.now) ≡ without_newline (string_bytes c.option-item.result)
    (string_bytes c.channel-item-then-words-lt4.result) (map string_bytes c.args.words.now) = puts_of_three
    c.args.words.now c.option-item.result c.channel-item-then-words-lt4.result c.in-len3.len_at_least
    c.in-len3.len_below c.option-item.is c.channel-item-then-words-lt4.is in
    rw (e, ← c.deref-in-len3.ensures, ← c.deref-in-len3-2.ensures) c.without_newline.ensures
