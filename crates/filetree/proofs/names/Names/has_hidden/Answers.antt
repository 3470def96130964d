use Rattle.std.proofs.Common.{string_bytes, sym, ◌∙◌, arith, rules, tests}
use Rattle.std.specs.Str.{bytes_eq}
use Rattle.std.proofs.lemmas.Iterator.Search.{any_from_yields_List}
use Rattle.std.proofs.lemmas.Iterator.Splits.{YieldsList-from_str_split}
use Rattle.filetree.specs.Names.{names_of}
use Rattle.filetree.proofs.NameLemmas.{none_hidden, parts_have}
use Rattle.filetree.proofs.names.Names.has_hidden.Goals as goal

pub returns-then-self : goal.returns-then-self
returns-then-self c =
    let text = string_bytes c.args.self.now.text in
    any_from_yields_List (bytes_eq c.args.name.now) _ _ c.any.result c.any.ensures.ran
    (YieldsList-from_str_split {s = c.split.result} 0 text (omega arith) (c.split.ensures.text ∙ c.deref.ensures) c.split.ensures.has_more c.split.ensures.pattern)
    (λ x b q k. search (rules, tests))
    ∙ parts_have c.args.name.now text c.requires

pub returns-else-self : goal.returns-else-self
returns-else-self c =
    let names = names_of (string_bytes c.args.self.now.text) in
    c.if-self.false ∙ sym (none_hidden c.args.name.now names c.requires (sym c.args.self.now.hides_some ∙ c.if-self.false))
