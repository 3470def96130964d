use Rattle.std.proofs.Common.{◌≡◌, List, map, Option, Ok, Err, ap, ◌∙◌, subst}
use Rattle.std.proofs.lemmas.Result.{err_from_is_err_and}
use Rattle.envvars.specs.Texts.{slice_texts, texts_in}
use Rattle.envstate.specs.loaded_list.LoadedEntries.{entry_view}
use Rattle.modulefile.specs.Records.{conflict_names, prereq_groups}
use Rattle.modulefile.specs.RecordViews.{record_view}
use Rattle.modulefile.specs.declared.records.Record.{Record}
use Rattle.requests.specs.Reasons.{RequestReason}
use Rattle.requests.specs.Refusals.{unless}
use Rattle.modules.specs.MoveViews.{module_view}
use Rattle.modules.specs.Answers.{cause_of}
use Rattle.modules.specs.Parts.{allowed_entry, objection}
use Rattle.modules.proofs.StepLemmas.{stands_as, judged, objection_same}
use Rattle.modules.proofs.ListedLemmas.{entry_allowed}
use Rattle.modules.proofs.entries.allowed_entry.Goals as goal

pub returns-in_err-judge : goal.returns-in_err-judge
returns-in_err-judge c =
    let p = err_from_is_err_and c.from_residual-in_err-judge.result c.from_residual-in_err-judge.ensures.1 in
    let xs = map entry_view c.args.entries.now in
    let m = module_view c.args.loading.now in
    let conflicts : slice_texts c.as_slice-3.result.now ≡ conflict_names m.records = ap slice_texts
    c.as_slice-3.ensures.value ∙ (c.in_ok-conflicts.ensures
    ∙ ap (λ (rs : List Record). conflict_names (map record_view rs)) c.as_slice.ensures.value) in
    let prereqs : map texts_in c.as_slice-4.result.now ≡ prereq_groups m.records = ap (map texts_in)
    c.as_slice-4.ensures.value ∙ (c.in_ok-prereqs.ensures
    ∙ ap (λ (rs : List Record). prereq_groups (map record_view rs)) c.as_slice-2.ensures.value) in
    let first = objection c.as_str.result.now (slice_texts c.as_slice-3.result.now) (map texts_in c.as_slice-4.result.now) xs in
    let second = objection m.name (conflict_names m.records) (prereq_groups m.records) xs in
    let same : first ≡ second = objection_same c.as_str.result.now m.name (slice_texts c.as_slice-3.result.now)
    (conflict_names m.records) (map texts_in c.as_slice-4.result.now) (prereq_groups m.records) xs
    c.as_str.ensures.value conflicts prereqs in
    rw (p.1, p.2) (stands_as (cause_of c.in_err-judge.field-0.0) ⊥ ⊥ (λ r. Err r ≡ unless {A = Unit {0}} first (Ok tt)) (λ r. Err r ≡ allowed_entry xs m) (λ q. q)
    (λ r h. judged first second same _ r h) (c.in_err-judge.ensures {u = tt}))

pub returns : goal.returns
returns c =
    let xs = map entry_view c.args.entries.now in
    let m = module_view c.args.loading.now in
    let conflicts : slice_texts c.as_slice-3.result.now ≡ conflict_names m.records = ap slice_texts
    c.as_slice-3.ensures.value ∙ (c.in_ok-conflicts.ensures
    ∙ ap (λ (rs : List Record). conflict_names (map record_view rs)) c.as_slice.ensures.value) in
    let again : slice_texts c.as_slice-5.result.now ≡ conflict_names m.records = ap slice_texts
    c.as_slice-5.ensures.value ∙ (c.in_ok-conflicts.ensures
    ∙ ap (λ (rs : List Record). conflict_names (map record_view rs)) c.as_slice.ensures.value) in
    let taken : map texts_in c.in_ok-prereqs.prereqs.items ≡ prereq_groups m.records = c.in_ok-prereqs.ensures
    ∙ ap (λ (rs : List Record). prereq_groups (map record_view rs)) c.as_slice-2.ensures.value in
    let prereqs : map texts_in c.as_slice-4.result.now ≡ prereq_groups m.records = ap (map texts_in) c.as_slice-4.ensures.value ∙ taken in
    let first = objection c.as_str.result.now (slice_texts c.as_slice-3.result.now) (map texts_in c.as_slice-4.result.now) xs in
    let second = objection m.name (conflict_names m.records) (prereq_groups m.records) xs in
    let same : first ≡ second = objection_same c.as_str.result.now m.name (slice_texts c.as_slice-3.result.now)
    (conflict_names m.records) (map texts_in c.as_slice-4.result.now) (prereq_groups m.records) xs
    c.as_str.ensures.value conflicts prereqs in
    let free = subst (λ (o : Option RequestReason). Ok tt ≡ unless {A = Unit {0}} o (Ok tt)) same c.in_ok-judge.ensures in
    entry_allowed xs m (entry_view c.in_ok-entry_for.field-0) (slice_texts c.as_slice-5.result.now) (map texts_in c.in_ok-prereqs.prereqs.items) c.in_ok-entry_for.ensures again taken free
