-- Modules that are judged one by one.
use Rattle.std.proofs.Common.{◌≡◌, List, [], ◌∷◌, ◌++◌, flat_map, append-nil, sym, ap, ◌∙◌}
use Rattle.std.specs.List.{AllByRecursion}
use Rattle.std.proofs.lemmas.List.{map-append}
use Rattle.std.proofs.lemmas.Grind.{flat_map-append}
use Rattle.envvars.specs.Texts.{Text}
use Rattle.audit_certificate.specs.Candidates.{Candidate}
use Rattle.audit_site.specs.declared.standing.ModuleFinding.{ModuleFinding}
use Rattle.audit_site.specs.declared.walk.Evaluation.{Evaluation}
use Rattle.audit_site.specs.declared.judgement.JudgedModule.{JudgedModule}
use Rattle.audit_site.specs.Findings.{Shown, IsFinding, IsShown, judged_of, steps_in, rejected_in, AreJudged}

all_more : {X : Type 0} (P : X → Type 0) (xs : List X) (x : X) → AllByRecursion P xs → P x → AllByRecursion P (xs ++ x ∷ [])
all_more P [] x h p = (p, tt)
all_more P (y ∷ xs) x h p = (h.0, all_more P xs x h.1 p)

-- one module more
pub judged_more : (without : List Text) (es : List Evaluation) (js new : List JudgedModule) (ms more ks others : List Candidate) (e : Evaluation) (finding : ModuleFinding)
    → AreJudged without es js ms ks → IsFinding e.outcome finding
    → new ≡ js ++ judged_of without (e, finding) ∷ [] → more ≡ ms ++ steps_in without (e, finding) → others ≡ ks ++ rejected_in (e, finding)
    → AreJudged without (es ++ e ∷ []) new more others
judged_more without es js new ms more ks others e finding h right kept steps aside =
    let one : Shown = (e, finding) in
    record {
      shown = h.shown ++ one ∷ [];
      evaluated = map-append (λ (s : Shown). s.0) h.shown (one ∷ []) ∙ ap (λ (l : List Evaluation). l ++ e ∷ []) h.evaluated;
      right = all_more IsShown h.shown one h.right right;
      kept = kept ∙ (ap (λ (l : List JudgedModule). l ++ judged_of without one ∷ []) h.kept ∙ sym (map-append (judged_of without) h.shown (one ∷ [])));
      steps = steps ∙ (ap (λ (l : List Candidate). l ++ steps_in without one) h.steps
          ∙ (ap (λ (l : List Candidate). flat_map (steps_in without) h.shown ++ l) (sym (append-nil (steps_in without one))) ∙ sym (flat_map-append (steps_in without) h.shown (one ∷ []))));
      others = aside ∙ (ap (λ (l : List Candidate). l ++ rejected_in one) h.others
          ∙ (ap (λ (l : List Candidate). flat_map rejected_in h.shown ++ l) (sym (append-nil (rejected_in one))) ∙ sym (flat_map-append rejected_in h.shown (one ∷ []))));
    }
