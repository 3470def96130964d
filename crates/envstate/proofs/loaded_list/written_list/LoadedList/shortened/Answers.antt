use Rattle.std.proofs.Common.{◌≡◌, ◌≤◌, [], ◌∷◌, ◌++◌, ap, ◌∙◌, sym, map, string_bytes, length, get_or, ◌-◌}
use Rattle.envvars.specs.Fields.{colon}
use Rattle.envvars.specs.Texts.{has}
use Rattle.envstate.specs.loaded_list.Loaded.{names_of}
use Rattle.envstate.specs.loaded_list.LoadedEntries.{entry_view}
use Rattle.envstate.specs.loaded_list.Shortened.{but_last}
use Rattle.envstate.proofs.loaded_list.ShortenedLemmas.{equal_texts, parted, shortened_is}
use Rattle.envstate.proofs.loaded_list.written_list.LoadedList.shortened.Goals as goal

pub returns : goal.returns
returns c =
    let list = c.args.self.now in
    let xs = list.entries.items in
    let x = c.last-item.result in
    let slice = c.as_slice.ensures.value in
    let name = c.args.name.now in
    let some : 1 ≤ length xs = rw slice at c.in-len1-up.len_at_least in
    let last : x ≡ get_or xs (length xs - 1) x = rw slice at c.last-item.is in
    let same : string_bytes x.name ≡ name = sym c.as_str.ensures.value ∙ equal_texts c.as_str.result.now name (sym c.ne.ensures ∙ c.if-ne.false) in
    let asks = c.asks_nothing.ensures c.if-not-asks_nothing.false in
    let apart : c.is_loaded.result ≡ has name (names_of (map entry_view (but_last xs))) = rw slice at c.is_loaded.ensures in
    shortened_is xs (but_last xs) x name c.in_ok-names.names.now c.in_ok-files.files.now c.in_ok-as_deref.field-0.now
    c.in_ok-as_deref-2.field-0.now (parted xs x some last) same asks.0 asks.1 (sym apart ∙ c.if-is_loaded.false)
    (c.in_ok-as_deref.ensures.value ∙ list.has_names c.requires) (c.in_ok-as_deref-2.ensures.value ∙ list.has_files c.requires)
    c.in_ok-names.ensures (c.in_ok-files.ensures ∙ ap (λ t. (c.in_ok-files.files.now ++ colon ∷ []) ++ t) c.as_str-2.ensures.value)
