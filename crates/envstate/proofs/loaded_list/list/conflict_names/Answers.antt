use Rattle.std.proofs.Common.{◌<◌, ℕ, List, Bor, length, arith, ap, ◌∙◌}
use Rattle.std.proofs.lemmas.List.{length-map}
use Rattle.envvars.specs.Texts.{slice_texts}
use Rattle.envstate.proofs.loaded_list.ElementLemmas.{few_once}
use Rattle.envstate.proofs.loaded_list.LoadedReading.{conflicts-from, ok_texts}
use Rattle.envstate.proofs.loaded_list.list.conflict_names.Goals as goal

pub returns-then-len-lt2 : goal.returns-then-len-lt2
returns-then-len-lt2 c =
    let names = c.in_ok-names.names in
    let few : length (slice_texts names.items) < 2 = omega (arith, length-map names.items (λ (x : Bor (List ℕ)). x.now), names.ok.0, c.len.ensures, c.if-len-lt2.true) in
    ok_texts c.owned.result (slice_texts c.as_slice-then-len-lt2.result.now) _
    (ap slice_texts c.as_slice-then-len-lt2.ensures.value
    ∙ conflicts-from names.items c.as_slice.result.now names.items _ (ap slice_texts c.as_slice.ensures.value ∙ c.in_ok-words.ensures) c.in_ok-names.ensures (few_once (slice_texts names.items) few))
    c.owned.ensures

pub returns : goal.returns
returns c =
    ok_texts c.owned-2.result (slice_texts c.as_slice-3.result.now) _
    (ap slice_texts c.as_slice-3.ensures.value
    ∙ conflicts-from c.in_ok-names-2.names.items c.as_slice.result.now c.as_slice-2.result.now _
    (ap slice_texts c.as_slice.ensures.value ∙ c.in_ok-words.ensures)
    (c.as_slice-2.ensures.value ∙ c.in_ok-names.ensures) c.in_ok-names-2.ensures)
    c.owned-2.ensures
