use Rattle.std.proofs.Common.{Some, None, ap, ◌∙◌, refl, string_bytes, length}
use Rattle.std.specs.Option.{option_map}
use Rattle.std.specs.Prelude.{◌==◌}
use Rattle.envstate.proofs.paths.OneElement.{alone, one_less_texts}
use Rattle.envstate.proofs.paths.one_element.with_one_less.Goals as goal

pub returns : goal.returns
returns c =
    let given = c.in-Some-None-len1 in
    one_less_texts (record { elements = Some c.in-Some.kept; counters = None }) c.args.delim _ _ _ given.text.now _
    (string_bytes c.in-Some.kept) c.is_empty.result c.is_empty-2.result (ap (option_map (λ t. t.now)) given.is-0)
    (ap (option_map (λ t. t.now)) given.is-1)
    (alone c.args.less.now _ given.len_at_least given.len_below) c.is_empty.ensures c.if-is_empty.false
    (rw c.in-Some.is at c.in_ok-kept.ensures) (c.is_empty-2.ensures ∙ ap (λ t. length t == 0)
    c.as_str.ensures.value) c.if-is_empty-2.false refl refl
