use Rattle.std.proofs.Common.{◌≡◌, ◌++◌, ℕ, List, Bor, ap, subst, ◌∙◌}
use Rattle.std.specs.Prelude.{OnOk}
use Rattle.envvars.specs.Fields.{without_repeats}
use Rattle.envvars.specs.Texts.{slice_texts}
use Rattle.audit_report.specs.Counts.{HasCounts}
use Rattle.audit_report.proofs.CountLemmas.{lines_counted}
use Rattle.audit_report.proofs.conflicts.push_conflicts.Goals as goal

pub returns : goal.returns
returns c =
    let texts : List (Bor (List ℕ)) → List (List ℕ) = λ xs. slice_texts xs in
    let have = subst (λ (xs : List (Bor (List ℕ))). HasCounts c.in_ok-counts.counts (slice_texts xs)) c.as_slice.ensures.value c.in_ok-counts.ensures in
    let first = ap texts c.as_slice-3.ensures.value ∙ (c.in_ok-firsts.ensures ∙ ap (λ (xs : List (Bor (List ℕ))). without_repeats (slice_texts xs)) c.as_slice-2.ensures.value) in
    let text = lines_counted c.in_ok-counts.counts (texts c.in_ok-names.names.items) (texts c.as_slice-3.result.now) _ have first c.in_ok-names.ensures in
    subst (λ (l : List ℕ). OnOk c.push_counted.result (c.push_counted.new.report.items ≡ c.args.report.now.items ++ l)) text c.push_counted.ensures
