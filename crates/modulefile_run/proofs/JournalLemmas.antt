-- What the accepted commands of a file make is recorded from one to the next.
use Rattle.std.proofs.Common.{◌≡◌, List, [], ◌∷◌, ◌++◌, map, Result, Ok, Err, OnOk, OnErr, IfSome, refl, ap, sym, subst}
use Rattle.std.proofs.Common.{◌∙◌}
use Rattle.std.proofs.lemmas.List.{map_push}
use Rattle.envvars.specs.Texts.{Text}
use Rattle.envvars.specs.Environment.{Environment}
use Rattle.envvars.specs.Changes.{NewValue, applied}
use Rattle.modulefile.specs.Effects as effects
use Rattle.modulefile.specs.Effects.{effect, effects}
use Rattle.modulefile.proofs.Bound.{bind_ok}
use Rattle.modulefile.proofs.HasEffects.{records_more, effects_more}
use Rattle.modulefile.specs.declared.records.Mode.{Mode}
use Rattle.modulefile.specs.declared.records.Record.{Record}
use Rattle.modulefile.specs.declared.record_fault.RecordFault.{RecordFault}
use Rattle.modulefile.specs.Calls.{adds_record, call_of}
use Rattle.modulefile.specs.RecordViews.{mode_view, record_view, fault_reason}
use Rattle.modulefile_run.specs.RecordAnswers.{IsEdited}
use Rattle.modulefile.specs.Answers.{record_of, records_in, record_outcome, or_before}
use Rattle.modulefile_run.specs.declared.accepted.AcceptedCommand.{AcceptedCommand}
use Rattle.modulefile_run.specs.Journals.{environment_so_far, words_in, words_of, records_of, IsJournal, AddsCommand}

-- what the file finds is the environment that is recorded
pub environment_recorded : (mode : Mode) (module_name : Text) (before now : Environment)
    (entries : List AcceptedCommand) → IsJournal (mode_view mode) module_name before now entries
    → environment_so_far (record { mode = mode; module_name = module_name; before = before; words = words_of entries })
    ≡ now
environment_recorded mode module_name before now entries k =
    ap (or_before before) (bind_ok (records_in (words_of entries)) (λ rs. record_outcome (effects (mode_view mode) module_name rs before)) (records_of entries) now k.0 (ap record_outcome k.1))

kept_more : (mode : effects.Mode) (module_name : Text) (before now new : Environment) (entries : List AcceptedCommand)
    (entry : AcceptedCommand) → call_of (words_in entry.words) ≡ Ok (adds_record (record_view entry.recorded))
    → effect mode module_name (record_view entry.recorded) now ≡ Ok new → IsJournal mode module_name before now entries
    → IsJournal mode module_name before new (entries ++ entry ∷ [])
kept_more mode module_name before now new entries entry call e k =
    let w : words_of (entries ++ entry ∷ []) ≡ words_of entries ++ words_in entry.words ∷ [] = map_push (λ (x : AcceptedCommand). words_in x.words) entries entry in
    let r : records_of (entries ++ entry ∷ []) ≡ records_of entries ++ record_view entry.recorded ∷ [] = map_push (λ (x : AcceptedCommand). record_view x.recorded) entries entry in (
      ap records_in w
          ∙ records_more (words_of entries) (words_in entry.words) (records_of entries) (record_view entry.recorded) k.0
          (bind_ok (call_of (words_in entry.words)) record_of (adds_record (record_view entry.recorded))
          (record_view entry.recorded) call refl)
          ∙ ap (λ rs. Ok rs) (sym r),
      ap (λ rs. effects mode module_name rs before) r ∙ effects_more mode module_name (records_of entries) (record_view entry.recorded) before now new k.1 e,
    )

pub kept_by : (result : Result (Unit {0}) RecordFault) (mode : effects.Mode) (module_name : Text) (before now new : Environment) (entries more : List AcceptedCommand) (entry : AcceptedCommand)
    → OnOk result (more ≡ entries ++ entry ∷ []) → OnErr result (more ≡ entries) → IsEdited result now new (effect mode module_name (record_view entry.recorded) now)
    → call_of (words_in entry.words) ≡ Ok (adds_record (record_view entry.recorded)) → IsJournal mode module_name before now entries → IsJournal mode module_name before new more
kept_by (Ok u) mode module_name before now new entries more entry ok err edited call k =
    subst (λ xs. IsJournal mode module_name before new xs) (sym ok) (kept_more mode module_name before now new entries entry call edited k)
kept_by (Err fault) mode module_name before now new entries more entry ok err edited call k =
    subst (λ xs. IsJournal mode module_name before new xs) (sym err) (subst (λ e. IsJournal mode module_name before e entries) (sym edited.0) k)

pub noted_by : (result : Result (Unit {0}) RecordFault) (mode : Mode) (module_name : Text) (before now new : Environment) (entries more : List AcceptedCommand) (entry : AcceptedCommand)
    → OnOk result (more ≡ entries ++ entry ∷ []) → OnErr result (more ≡ entries) → IsEdited result now new (effect (mode_view mode) module_name (record_view entry.recorded) now)
    → IsJournal (mode_view mode) module_name before now entries
    → AddsCommand result (words_in entry.words) (record_view entry.recorded)
    (record { mode = mode; module_name = module_name; before = before; words = words_of entries })
    (record { mode = mode; module_name = module_name; before = before; words = words_of more })
noted_by (Ok u) mode module_name before now new entries more entry ok err edited k = (
  ap (λ (ws : List (List Text)). record { mode = mode; module_name = module_name; before = before; words = ws }) (ap words_of ok ∙ map_push (λ (x : AcceptedCommand). words_in x.words) entries entry),
  (
    new,
    ap (λ e. effect (mode_view mode) module_name (record_view entry.recorded) e) (environment_recorded mode module_name before now entries k) ∙ edited,
  ),
)
noted_by (Err fault) mode module_name before now new entries more entry ok err edited k = (
  ap (λ (es : List AcceptedCommand). record { mode = mode; module_name = module_name; before = before; words = words_of es }) err,
  subst (λ e. IfSome (fault_reason fault) (λ reason. effect (mode_view mode) module_name (record_view entry.recorded) e
      ≡ Err reason)) (sym (environment_recorded mode module_name before now entries k)) edited.1,
)

-- the records of entries, seen from the records that were taken out
pub records_kept : (entries : List AcceptedCommand) (rs : List Record) → rs ≡ map (λ (entry : AcceptedCommand). entry.recorded) entries → records_of entries ≡ map record_view rs
records_kept entries rs e = seen entries ∙ ap (λ xs. map record_view xs) (sym e)
  where
    seen : (es : List AcceptedCommand) → records_of es ≡ map record_view (map (λ (entry : AcceptedCommand). entry.recorded) es)
    seen [] = refl
    seen (x ∷ es) = ap (λ xs. record_view x.recorded ∷ xs) (seen es)

-- what the records of a file make is what they changed
pub made_by : (mode : Mode) (module_name : Text) (before now : Environment) (entries : List AcceptedCommand) (rs : List Record) (cs : List NewValue)
    → IsJournal (mode_view mode) module_name before now entries → rs ≡ map (λ (entry : AcceptedCommand). entry.recorded) entries → applied cs before ≡ now
    → effects (mode_view mode) module_name (map record_view rs) before ≡ Ok (applied cs before)
made_by mode module_name before now entries rs cs k e h =
    ap (λ xs. effects (mode_view mode) module_name xs before) (sym (records_kept entries rs e)) ∙ k.1 ∙ ap (λ x. Ok x) (sym h)
