use Rattle.std.proofs.Common.{ℕ, ◌<◌, List, length, Bor, ap, sym, ◌∙◌}
use Rattle.std.specs.Option.{option_map}
use Rattle.std.proofs.lemmas.Option.{slice_get-get_or}
use Rattle.envvars.specs.Texts.{slice_texts}
use Rattle.envvars.specs.EnvironmentBlock.{utf8_value}
use Rattle.envvars.proofs.EntryLemmas.{readable_text}
use Rattle.envvars.proofs.GivenLemmas.{names_step, none_some, some_same}
use Rattle.envvars.proofs.given.GivenVariables.push_names.Goals as goal
use Rattle.envvars.proofs.given.GivenVariables.push_names.Goals.{in-Some+in_ok-push, in_default}

pub name_in-requires : goal.name_in-requires
name_in-requires c =
    let es = c.args.self.now.entries.items in
    let l : c.loop-entry.entry-index < length es = rw (← c.deref-entry-items.ensures.value) c.loop-entry-test.true in
    rw (c.as_slice.ensures.value, c.deref-entry-items.ensures.value) (c.requires.inside c.loop-entry.entry-index _ (slice_get-get_or es c.loop-entry.entry-index _ l))

pub loop-entry-preserved : goal.loop-entry-preserved
loop-entry-preserved c =
    let es = c.args.self.now.entries.items in
    let block = c.args.self.now.block.items in
    let i = c.loop-entry.entry-index in
    let l : i < length es = rw (← c.deref-entry-items.ensures.value) c.loop-entry-test.true in
    let name = rw (c.as_slice.ensures.value, c.deref-entry-items.ensures.value) at c.name_in.ensures in
    let is_text = readable_text _ (c.requires.inside i _ (slice_get-get_or es i _ l)).utf8 in
    let found = c.text_of.ensures ∙ ap utf8_value name ∙ is_text in
    elim c.match-text_of.branch [
      | in-Some+in_ok-push w ↦
          names_step block es i _ (slice_texts c.args.names.now.items) c.loop-entry.names.items
          c.match-text_of.names.items w.in-Some.name l c.loop-entry.invariant
          (ap (λ v. v.items) w.names-is ∙ w.in_ok-push.ensures.items)
          (some_same w.in-Some.name.now _ (sym (ap (option_map (λ (t : Bor (List ℕ)). t.now)) w.in-Some.is) ∙ found))
      | in_default w ↦ absurd (none_some (sym (ap (option_map (λ (t : Bor (List ℕ)). t.now)) w.in_default.is) ∙ found))
    ]
