use Rattle.std.proofs.Common.{ap, ◌∙◌, map, not, string_bytes, rules, sym}
use Rattle.std.specs.Prelude.{bytes_eq}
use Rattle.std.proofs.lemmas.Fn.{filter_same}
use Rattle.envstate.specs.loaded_list.Loaded.{names_of}
use Rattle.envstate.specs.loaded_list.LoadedEntries.{entry_view}
use Rattle.envstate.proofs.loaded_list.LoadedWriting.{named_without, without_is}
use Rattle.envstate.proofs.loaded_list.written_list.LoadedList.without_any.Goals as goal

pub unwritten-requires : goal.unwritten-requires
unwritten-requires c =
    let list = c.args.self in
    let stay = filter_same _ (λ entry. not (bytes_eq (string_bytes entry.name) c.args.name.now)) _ (λ x b g k. search rules) _ _ c.retain.ensures.filtered in
    let names = filter_same _ (λ other. not (bytes_eq (string_bytes other) c.args.name.now)) _ (λ x b g k. search rules) _ _ c.retain-2.ensures.filtered in
    ap (map string_bytes) names ∙ named_without list.names.items list.entries.items c.args.name.now list.named
    ∙ ap (λ xs. names_of (map entry_view xs)) (sym stay)

pub returns : goal.returns
returns c =
    ap (λ v. map entry_view v.items) c.unwritten.ensures
    ∙ ap (map entry_view) (filter_same _ (λ entry. not (bytes_eq (string_bytes entry.name) c.args.name.now)) _ (λ x b g k. search rules)
    _ _ c.retain.ensures.filtered) ∙ without_is c.args.self.entries.items c.args.name.now
