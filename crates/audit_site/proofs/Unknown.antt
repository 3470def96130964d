-- The names that modules mention and that mean no module of the site: by the evaluations of the code, and by outcomes.
use Rattle.std.proofs.Common.{◌≡◌, Bool, List, [], ◌∷◌, ◌++◌, ◌&&◌, ◌||◌, flat_map, Result, Ok, Err, refl, ap, sym, ◌∙◌}
use Rattle.std.specs.Prelude.{is_ok}
use Rattle.modulename.specs.ModuleName.{means}
use Rattle.envvars.specs.Texts.{Text}
use Rattle.audit_laws.specs.determinism.Contexts.{FileRuns}
use Rattle.requests.specs.Reasons.{RequestReason}
use Rattle.modules.specs.declared.refusal.Refusal.{Refusal}
use Rattle.audit_laws.specs.site.Sites.{SiteModule, Evaluated}
use Rattle.audit_site.specs.declared.walk.EvaluatedFile.{EvaluatedFile}
use Rattle.audit_site.specs.declared.walk.Evaluation.{Evaluation}
use Rattle.audit_site.specs.Walks.{IsOutcome, AreEvaluations}
use Rattle.audit_site.specs.Audits.{Mention, means_one, means_accepted, unknown_in, unknown_of, unknown_names}
use Rattle.audit_site.specs.Mentions.{is_known, is_accepted, unknown_by, unknown_after}
use Rattle.audit_site.proofs.Evaluations.{same_file}

known_alike : (es : List Evaluation) (outs : List Evaluated) → AreEvaluations es outs → (name : Text) → is_known es name ≡ means_one outs name
known_alike [] [] h name = refl
known_alike [] (o ∷ outs) h name = absurd h
known_alike (e ∷ es) [] h name = absurd h
known_alike (e ∷ es) (o ∷ outs) h name =
    ap (λ (t : Text). means name t || is_known es name) (sym h.0.name) ∙ ap (λ (b : Bool). means name o.0.name || b) (known_alike es outs h.1 name)

accepted_alike : (es : List Evaluation) (outs : List Evaluated) → AreEvaluations es outs → (name : Text) → is_accepted es name ≡ means_accepted outs name
accepted_alike [] [] h name = refl
accepted_alike [] (o ∷ outs) h name = absurd h
accepted_alike (e ∷ es) [] h name = absurd h
accepted_alike (e ∷ es) (o ∷ outs) h name =
    λ i. (same_end e.outcome o.1 h.0.outcome i && means name (sym h.0.name i)) || accepted_alike es outs h.1 name i
  where
    same_end : (outcome : Result EvaluatedFile Refusal) (out : Result (FileRuns RequestReason) RequestReason) → IsOutcome outcome out → is_ok outcome ≡ is_ok out
    same_end (Ok file) out (runs, same, of) = ap is_ok (sym same)
    same_end (Err refusal) out (reason, because, same) = ap is_ok (sym same)

abbrev Outcome : Type 0
Outcome = Result (FileRuns RequestReason) RequestReason

by_outcome : (known accepted : Text → Bool) (m : SiteModule) (outcome : Result EvaluatedFile Refusal) (out : Outcome) → IsOutcome outcome out
    → unknown_by known accepted m outcome ≡ unknown_of known accepted (m, out)
by_outcome known accepted m (Ok file) out (runs, same, of) = ap (unknown_in known accepted m) of.records ∙ ap (λ (o : Outcome). unknown_of known accepted (m, o)) (sym same)
by_outcome known accepted m (Err refusal) out (reason, because, same) = ap (λ (o : Outcome). unknown_of known accepted (m, o)) (sym same)

of_each : (known accepted : Text → Bool) (es : List Evaluation) (outs : List Evaluated) → AreEvaluations es outs
    → flat_map (unknown_after known accepted) es ≡ flat_map (unknown_of known accepted) outs
of_each known accepted [] [] h = refl
of_each known accepted [] (o ∷ outs) h = absurd h
of_each known accepted (e ∷ es) [] h = absurd h
of_each known accepted (e ∷ es) (o ∷ outs) h =
    ap (λ (l : List Mention). l ++ flat_map (unknown_after known accepted) es)
    (ap (λ (m : SiteModule). unknown_by known accepted m e.outcome) (sym (same_file e o h.0)) ∙ by_outcome known accepted o.0 e.outcome o.1 h.0.outcome)
    ∙ ap (λ (l : List Mention). unknown_of known accepted o ++ l) (of_each known accepted es outs h.1)

pub mentioned_alike : (es : List Evaluation) (outs : List Evaluated) → AreEvaluations es outs
    → flat_map (unknown_after (is_known es) (is_accepted es)) es ≡ unknown_names outs
mentioned_alike es outs h =
    (λ i. flat_map (unknown_after (λ name. known_alike es outs h name i) (λ name. accepted_alike es outs h name i)) es)
    ∙ of_each (means_one outs) (means_accepted outs) es outs h
