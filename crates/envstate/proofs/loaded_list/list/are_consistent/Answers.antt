use Rattle.std.proofs.Common.{◌<◌, ℕ, List, Bor, length, arith}
use Rattle.std.proofs.lemmas.List.{length-map}
use Rattle.envvars.specs.Texts.{slice_texts}
use Rattle.envvars.specs.Fields.{are_distinct}
use Rattle.envstate.proofs.loaded_list.ElementLemmas.{few_distinct}
use Rattle.envstate.proofs.loaded_list.LoadedReading.{fit_is, no_fit, ok_fit, yes_fit}
use Rattle.envstate.proofs.loaded_list.list.are_consistent.Goals as goal

pub returns-then-not-are_well_spelled : goal.returns-then-not-are_well_spelled
returns-then-not-are_well_spelled c =
    no_fit c.are_well_spelled.result (are_distinct (slice_texts c.args.names.now)) _
    (fit_is c.args.names.now c.args.files.now c.are_well_spelled.result c.are_well_spelled.ensures)
    c.if-not-are_well_spelled.true

pub returns-then-names-lt2 : goal.returns-then-names-lt2
returns-then-names-lt2 c =
    let few : length (slice_texts c.args.names.now) < 2 = omega (arith, length-map c.args.names.now (λ (x : Bor (List ℕ)). x.now), c.if-names-lt2.true) in
    yes_fit c.are_well_spelled.result (are_distinct (slice_texts c.args.names.now)) _
    (fit_is c.args.names.now c.args.files.now c.are_well_spelled.result c.are_well_spelled.ensures)
    c.if-not-are_well_spelled.false (few_distinct (slice_texts c.args.names.now) few)

pub returns : goal.returns
returns c =
    ok_fit c.are_distinct.result c.are_well_spelled.result _ _
    (fit_is c.args.names.now c.args.files.now c.are_well_spelled.result c.are_well_spelled.ensures)
    c.if-not-are_well_spelled.false c.are_distinct.ensures
