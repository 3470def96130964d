use Rattle.std.proofs.Common.{List, [], map, Ok, ap, ◌∙◌}
use Rattle.envvars.specs.Texts.{Text}
use Rattle.envstate.specs.loaded_list.Loaded.{names_of}
use Rattle.envstate.specs.loaded_list.LoadedEntries.{entry_view}
use Rattle.envstate.specs.declared.loaded_list.entry.Loaded.{Loaded}
use Rattle.requests.specs.Reports.{loaded_text}
use Rattle.requests.specs.Steps.{nothing_done, with_report}
use Rattle.modules.proofs.step.list.Goals as goal

pub returns-clause-given : goal.returns-clause-given
returns-clause-given g c =
    let e = g.V.Vars.vars c.args.env.now in (
      Ok (map entry_view c.in_ok-entries.entries.items),
      c.in_ok-entries.ensures.given,
      ap Ok (c.done_with_report.ensures e ∙ ap (λ (t : Text). with_report (nothing_done e) [] t)
          (c.in_ok-text.ensures ∙ ap (λ (es : List Loaded). loaded_text (names_of (map entry_view es)))
          c.as_slice.ensures.value)),
    )
