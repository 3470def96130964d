use Rattle.std.proofs.Common.{◌≡◌, Option, OnOk, map, string_bytes, ap, sym, subst, ◌∙◌}
use Rattle.std.specs.Option.{option_map}
use Rattle.envvars.specs.Texts.{slice_texts, texts_in}
use Rattle.modulefile_run.specs.declared.batch.PathBatch.{PathBatch}
use Rattle.modulefile_run.specs.Batches.{in_turn, waiting_in, with_waiting, CanWait}
use Rattle.modulefile_run.proofs.BatchLemmas.{map-in_turn, all_written}
use Rattle.modulefile_run.proofs.batch.write_waiting.Goals as goal

pub returns-clause-ok : goal.returns-clause-ok
returns-clause-ok g c =
    let old = g.V.Vars.vars c.args.env.now in
    let new = g.V.Vars.vars c.edit_path.new.env in
    subst (λ (l : Option PathBatch). OnOk c.edit_path.result (new ≡ with_waiting l old)) (sym c.in-Some.is)
    (all_written c.in-Some.batch.edit c.in-Some.batch.delim.character (string_bytes c.in-Some.batch.var)
    c.as_str.result.now (waiting_in c.in-Some.batch) (texts_in c.in-Some-waiting.waiting)
    (slice_texts c.as_slice-2.result.now) c.edit_path.result old new
    (ap (option_map texts_in) c.in-Some-waiting.is)
    (subst (λ (l : Option PathBatch). CanWait l old) c.in-Some.is c.requires) c.as_str.ensures.value
    (ap slice_texts (c.as_slice-2.ensures.value ∙ c.take_turns.ensures)
    ∙ map-in_turn (λ x. x.now) c.in-Some.batch.edit c.in_ok-elements.elements.items
    ∙ ap (in_turn c.in-Some.batch.edit) (c.in_ok-elements.ensures ∙ ap (map string_bytes) c.as_slice.ensures.value))
    c.edit_path.ensures.edits).0

pub returns-clause-only : goal.returns-clause-only
returns-clause-only g c =
    let old = g.V.Vars.vars c.args.env.now in
    let new = g.V.Vars.vars c.edit_path.new.env in
    (all_written c.in-Some.batch.edit c.in-Some.batch.delim.character (string_bytes c.in-Some.batch.var)
    c.as_str.result.now (waiting_in c.in-Some.batch) (texts_in c.in-Some-waiting.waiting)
    (slice_texts c.as_slice-2.result.now) c.edit_path.result old new
    (ap (option_map texts_in) c.in-Some-waiting.is)
    (subst (λ (l : Option PathBatch). CanWait l old) c.in-Some.is c.requires) c.as_str.ensures.value
    (ap slice_texts (c.as_slice-2.ensures.value ∙ c.take_turns.ensures)
    ∙ map-in_turn (λ x. x.now) c.in-Some.batch.edit c.in_ok-elements.elements.items
    ∙ ap (in_turn c.in-Some.batch.edit) (c.in_ok-elements.ensures ∙ ap (map string_bytes) c.as_slice.ensures.value))
    c.edit_path.ensures.edits).2
