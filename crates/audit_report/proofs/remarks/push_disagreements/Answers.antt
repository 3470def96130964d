use Rattle.std.proofs.Common.{◌≡◌, ◌++◌, ℕ, List, Bor, String, flat_map, map, string_bytes, ap, subst, ◌∙◌}
use Rattle.std.specs.Prelude.{OnOk}
use Rattle.std.specs.declared.alloc.Global.{Global}
use Rattle.envvars.specs.Fields.{without_repeats}
use Rattle.envvars.specs.Texts.{slice_texts}
use Rattle.audit_report.specs.Remarks.{environment_line}
use Rattle.audit_report.proofs.TextLemmas.{flat_map-now}
use Rattle.audit_report.proofs.remarks.push_disagreements.Goals as goal

pub returns : goal.returns
returns c =
    let lines : List (Bor (List ℕ)) → List ℕ = λ xs. flat_map (λ (x : Bor (List ℕ)). environment_line x.now) xs in
    let bytes : List (String Global) → List (List ℕ) = λ xs. map (λ (s : String Global). string_bytes s) xs in
    let all = ap (λ (xs : List (Bor (List ℕ))). slice_texts xs) c.as_slice-2.ensures.value ∙ (c.in_ok-slices.ensures ∙ (ap bytes c.as_slice.ensures.value ∙ c.in_ok-words.ensures)) in
    let firsts = c.in_ok-firsts.ensures ∙ ap without_repeats all in
    let text = ap lines c.as_slice-3.ensures.value ∙ (flat_map-now environment_line c.in_ok-firsts.firsts.items ∙ ap (λ (xs : List (List ℕ)). flat_map environment_line xs) firsts) in
    subst (λ (l : List ℕ). OnOk c.push_all_words.result (c.push_all_words.new.report.items ≡ c.args.report.now.items ++ l)) text c.push_all_words.ensures
