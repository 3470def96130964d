-- Directories that can be reached only through modules that aren't deterministic: by the evaluations of the code, and
-- by outcomes.
use Rattle.std.proofs.Common.{◌≡◌, Bool, true, false, cond, not, List, [], ◌∷◌, ◌++◌, map, filter, flat_map, Some, None}
use Rattle.std.proofs.Common.{Result, Ok, Err, refl, ap, sym, ◌∙◌}
use Rattle.std.specs.List.{cons_option}
use Rattle.envvars.specs.Texts.{Text, has}
use Rattle.envvars.specs.Fields.{without_repeats}
use Rattle.filetree.specs.Modulefiles.{directories}
use Rattle.modulefile.specs.Records.{Record}
use Rattle.audit_certificate.specs.Candidates.{Candidate}
use Rattle.modules.specs.declared.refusal.Refusal.{Refusal}
use Rattle.requests.specs.Reasons.{RequestReason}
use Rattle.requests.specs.Steps.{modulepath}
use Rattle.audit_laws.specs.determinism.Contexts.{FileRuns, is_deterministic}
use Rattle.audit_certificate.proofs.UsedLemmas.{by_test}
use Rattle.audit_laws.specs.site.Sites.{Site, SiteModule, Evaluated, candidate_of, deterministic_of, deterministic_among, added_directories}
use Rattle.audit_site.specs.declared.walk.EvaluatedFile.{EvaluatedFile}
use Rattle.audit_site.specs.declared.walk.Evaluation.{Evaluation}
use Rattle.audit_site.specs.Walks.{IsOutcome, AreEvaluations, directories_of}
use Rattle.audit_site.specs.DeterministicRuns.{deterministic_records, directories_after}
use Rattle.audit_site.specs.Audits.{Addition, additions_to, unreachable_directories}
use Rattle.audit_site.specs.Unreachable.{stable_additions, is_stable_directory, addition_unless, additions_among, additions_after}
use Rattle.audit_site.proofs.AmongSites.{flat_map_parts}
use Rattle.audit_site.proofs.Evaluations.{same_file}
use Rattle.audit_site.proofs.DeterministicFiles.{records_same}
use Rattle.audit_site.proofs.WalkLemmas.{found_of}

-- ---- the directories that deterministic modules add

abbrev Outcome : Type 0
Outcome = Result (FileRuns RequestReason) RequestReason

abbrev added_by : Candidate → List Text
added_by m = added_directories m.records

by_deterministic : (m : SiteModule) (runs : FileRuns RequestReason) (b : Bool) (rest : List Candidate)
    → added_directories (cond b runs.first.records []) ++ flat_map added_by rest ≡ flat_map added_by (cons_option (cond b (Some (candidate_of m runs)) None) rest)
by_deterministic m runs true rest = refl
by_deterministic m runs false rest = refl

one_deterministic : (m : SiteModule) (outcome : Result EvaluatedFile Refusal) (out : Outcome) (rest : List Candidate) → IsOutcome outcome out
    → added_directories (deterministic_records outcome) ++ flat_map added_by rest ≡ flat_map added_by (cons_option (deterministic_of (m, out)) rest)
one_deterministic m (Ok file) out rest (runs, same, of) =
    ap (λ (rs : List Record). added_directories rs ++ flat_map added_by rest) (records_same file runs of)
    ∙ (by_deterministic m runs (is_deterministic runs) rest
    ∙ sym (ap (λ (x : Outcome). flat_map added_by (cons_option (deterministic_of (m, x)) rest)) same))
one_deterministic m (Err refusal) out rest o = sym (ap (λ (x : Outcome). flat_map added_by (cons_option (deterministic_of (m, x)) rest)) o.2)

deterministic_same : (es : List Evaluation) (outs : List Evaluated) → AreEvaluations es outs → flat_map stable_additions es ≡ flat_map added_by (deterministic_among outs)
deterministic_same [] [] h = refl
deterministic_same [] (o ∷ outs) h = absurd h
deterministic_same (e ∷ es) [] h = absurd h
deterministic_same (e ∷ es) (o ∷ outs) h =
    ap (λ (l : List Text). stable_additions e ++ l) (deterministic_same es outs h.1) ∙ one_deterministic o.0 e.outcome o.1 (deterministic_among outs) h.0.outcome

-- ---- what each module adds to them

abbrev addition_by : SiteModule → Text → Addition
addition_by m dir = record { by = m; directory = dir }

among_same : (known : Text → Bool) (m : SiteModule) (dirs : List Text) → additions_among known m dirs ≡ map (addition_by m) (filter (λ dir. not (known dir)) dirs)
among_same known m [] = refl
among_same known m (dir ∷ dirs) = by_test (known dir) _
    (λ t. rw t (among_same known m dirs))
    (λ f. rw f (ap (λ (l : List Addition). addition_by m dir ∷ l) (among_same known m dirs)))

pub additions_parts : (known : Text → Bool) (m : SiteModule) (xs ys : List Text) → additions_among known m (xs ++ ys) ≡ additions_among known m xs ++ additions_among known m ys
additions_parts known m xs ys = flat_map_parts (λ (dir : Text). addition_unless (known dir) m dir) xs ys

of_each : (dirs : List Text) (es : List Evaluation) (outs : List Evaluated) → AreEvaluations es outs
    → flat_map (additions_after (λ dir. has dir dirs)) es ≡ flat_map (additions_to dirs) outs
of_each dirs [] [] h = refl
of_each dirs [] (o ∷ outs) h = absurd h
of_each dirs (e ∷ es) [] h = absurd h
of_each dirs (e ∷ es) (o ∷ outs) h =
    let known : Text → Bool = λ dir. has dir dirs in
    ap (λ (l : List Addition). additions_after known e ++ l) (of_each dirs es outs h.1)
    ∙ ap (λ (l : List Addition). l ++ flat_map (additions_to dirs) outs)
    (ap (λ (m : SiteModule). additions_among known m (without_repeats (directories_after e.outcome))) (sym (same_file e o h.0))
    ∙ (ap (λ (ds : List Text). additions_among known o.0 (without_repeats ds)) (found_of o.0 e.outcome o.1 h.0.outcome)
    ∙ among_same known o.0 (without_repeats (directories_of o))))

-- what hangs is the same by both
pub unreachable_alike : (site : Site) (es : List Evaluation) (outs : List Evaluated) → AreEvaluations es outs
    → flat_map (additions_after (is_stable_directory (modulepath site.env) es)) es ≡ unreachable_directories site outs
unreachable_alike site es outs h =
    ap (λ (added : List Text). flat_map (additions_after (λ dir. has dir (directories (modulepath site.env) ++ added))) es) (deterministic_same es outs h)
    ∙ of_each (directories (modulepath site.env) ++ flat_map added_by (deterministic_among outs)) es outs h
