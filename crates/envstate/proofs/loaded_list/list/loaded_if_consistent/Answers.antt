use Rattle.std.proofs.Common.{ap, ◌∙◌, sym}
use Rattle.envvars.specs.Texts.{slice_texts}
use Rattle.envvars.specs.Fields.{elements_in}
use Rattle.envstate.specs.loaded_list.LoadedTexts.{are_consistent}
use Rattle.envstate.proofs.loaded_list.LoadedReading.{read_is}
use Rattle.envstate.proofs.loaded_list.list.loaded_if_consistent.Goals as goal

pub returns : goal.returns
returns g c =
    sym (read_is (g.V.Vars.vars c.args.env.now) c.as_slice-3.result.now c.as_slice-4.result.now c.as_slice-5.result.now c.as_slice-6.result.now c.in_ok-are_consistent.field-0 _
    (ap slice_texts c.as_slice-3.ensures.value ∙ c.in_ok-names.ensures ∙ ap elements_in c.get.ensures)
    (ap slice_texts c.as_slice-4.ensures.value ∙ c.in_ok-files.ensures ∙ ap elements_in c.get-2.ensures)
    (ap slice_texts c.as_slice-5.ensures.value ∙ c.in_ok-conflicts.ensures ∙ ap elements_in c.get-3.ensures)
    (ap slice_texts c.as_slice-6.ensures.value ∙ c.in_ok-prereqs.ensures ∙ ap elements_in c.get-4.ensures)
    (c.in_ok-are_consistent.ensures ∙ ap (λ l. are_consistent (slice_texts l) (slice_texts c.as_slice-2.result.now))
    (c.as_slice.ensures.value ∙ sym c.as_slice-3.ensures.value) ∙ ap
    (λ l. are_consistent (slice_texts c.as_slice-3.result.now) (slice_texts l))
    (c.as_slice-2.ensures.value ∙ sym c.as_slice-4.ensures.value))
    c.if-not-branch.false c.in_ok-entries.ensures)
