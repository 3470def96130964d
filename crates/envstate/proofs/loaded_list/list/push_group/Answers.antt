use Rattle.std.proofs.Common.{ap, sym, ◌∙◌, ◌≡◌, ◌<◌, ℕ, subst, vec_len}
use Rattle.envvars.specs.Texts.{slice_texts, texts_in}
use Rattle.envstate.specs.loaded_list.LoadedTexts.{names_of_group}
use Rattle.envstate.specs.loaded_list.LoadedEntries.{groups_in}
use Rattle.envstate.proofs.loaded_list.LoadedReading.{group-from, no_names, some_names, no_group, one_group, zero_is, more_is}
use Rattle.envstate.proofs.loaded_list.LoadedReading.{groups-push}
use Rattle.envvars.proofs.FieldLemmas.{len_is}
use Rattle.envstate.proofs.loaded_list.list.push_group.Goals as goal

pub returns-then-is_empty : goal.returns-then-is_empty
returns-then-is_empty c =
    let names : slice_texts c.in_ok-names.names.items ≡ names_of_group c.args.word.now = group-from
    c.as_slice.result.now c.in_ok-names.names.items c.args.word.now
    (ap slice_texts c.as_slice.ensures.value ∙ c.in_ok-alternatives.ensures) c.in_ok-names.ensures in
    no_group (groups_in c.args.groups.now) c.args.word.now
    (no_names c.in_ok-names.names.items _ names (sym (len_is c.in_ok-names.names) ∙ zero_is c.is_empty.result
    (vec_len c.in_ok-names.names) c.is_empty.ensures c.if-is_empty.true))

pub returns : goal.returns
returns c =
    let names : slice_texts c.in_ok-names.names.items ≡ names_of_group c.args.word.now = group-from
    c.as_slice.result.now c.in_ok-names.names.items c.args.word.now
    (ap slice_texts c.as_slice.ensures.value ∙ c.in_ok-alternatives.ensures) c.in_ok-names.ensures in
    groups-push c.args.groups.now.items c.push.new.self.items c.in_ok-owned.field-0 c.in_ok-push.ensures.items
    ∙ one_group (groups_in c.args.groups.now) c.args.word.now (texts_in c.in_ok-owned.field-0) (c.in_ok-owned.ensures ∙ ap slice_texts c.as_slice-2.ensures.value ∙ names)
    (some_names c.in_ok-names.names.items _ names (subst (λ (n : ℕ). 0 < n) (len_is c.in_ok-names.names)
    (more_is c.is_empty.result (vec_len c.in_ok-names.names) c.is_empty.ensures c.if-is_empty.false)))
