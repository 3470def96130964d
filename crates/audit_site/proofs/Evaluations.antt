-- The evaluations of the code and the outcomes that they stand for: the same modules, in the same order.
use Rattle.std.proofs.Common.{◌≡◌, inl, inr, List, [], ◌∷◌, map, refl, ap, sym, ◌∙◌, subst}
use Rattle.audit_certificate.specs.RecordUses.{IsAmong}
use Rattle.audit_laws.specs.site.Sites.{Site, SiteModule, IsOfSite, Evaluated, AreEvaluated}
use Rattle.audit_site.specs.declared.walk.Evaluation.{Evaluation}
use Rattle.audit_site.specs.Walks.{IsEvaluation, AreEvaluations}
use Rattle.audit_site.specs.DeterministicRuns.{evaluated_file}
use Rattle.audit_site.proofs.AmongLemmas.{among_map, of_map}

-- the same modules

pub same_file : (e : Evaluation) (o : Evaluated) → IsEvaluation e o → o.0 ≡ evaluated_file e
same_file e o h = λ i. record { name = h.name i; path = h.path i }

pub same_files : (es : List Evaluation) (outs : List Evaluated) → AreEvaluations es outs → map evaluated_file es ≡ map (λ (o : Evaluated). o.0) outs
same_files [] [] h = refl
same_files [] (o ∷ outs) h = absurd h
same_files (e ∷ es) [] h = absurd h
same_files (e ∷ es) (o ∷ outs) h =
    ap (λ (m : SiteModule). m ∷ map evaluated_file es) (sym (same_file e o h.0)) ∙ ap (λ (ms : List SiteModule). o.0 ∷ ms) (same_files es outs h.1)

pub record Matched (e : Evaluation) (outs : List Evaluated) : Type 0 where
  pub out : Evaluated
  pub there : IsAmong out outs
  pub stands : IsEvaluation e out

pub outcome_of : (es : List Evaluation) (outs : List Evaluated) (e : Evaluation) → AreEvaluations es outs → IsAmong e es → Matched e outs
outcome_of [] outs e h a = absurd a
outcome_of (k ∷ es) [] e h a = absurd h
outcome_of (k ∷ es) (o ∷ outs) e h (inl same) = record { out = o; there = inl refl; stands = subst (λ (x : Evaluation). IsEvaluation x o) (sym same) h.0 }
outcome_of (k ∷ es) (o ∷ outs) e h (inr a) = let m = outcome_of es outs e h.1 a in record { out = m.out; there = inr m.there; stands = m.stands }

pub record Found (o : Evaluated) (es : List Evaluation) : Type 0 where
  pub evaluation : Evaluation
  pub there : IsAmong evaluation es
  pub stands : IsEvaluation evaluation o

pub evaluation_of : (es : List Evaluation) (outs : List Evaluated) (o : Evaluated) → AreEvaluations es outs → IsAmong o outs → Found o es
evaluation_of es [] o h a = absurd a
evaluation_of [] (p ∷ outs) o h a = absurd h
evaluation_of (e ∷ es) (p ∷ outs) o h (inl same) = record { evaluation = e; there = inl refl; stands = subst (λ (x : Evaluated). IsEvaluation e x) (sym same) h.0 }
evaluation_of (e ∷ es) (p ∷ outs) o h (inr a) = let m = evaluation_of es outs o h.1 a in record { evaluation = m.evaluation; there = inr m.there; stands = m.stands }

-- each evaluated module is one of the site
pub of_site : (site : Site) (es : List Evaluation) (outs : List Evaluated) (e : Evaluation) → AreEvaluated site outs → AreEvaluations es outs → IsAmong e es → IsOfSite site (evaluated_file e)
of_site site es outs e all h a =
    let m = outcome_of es outs e h a in
    subst (IsOfSite site) (same_file e m.out m.stands) ((all.modules m.out.0).0 (among_map (λ (o : Evaluated). o.0) m.out outs m.there))

pub record EvaluatedAs (m : SiteModule) (es : List Evaluation) : Type 0 where
  pub evaluation : Evaluation
  pub there : IsAmong evaluation es
  pub same : evaluated_file evaluation ≡ m

-- and each module of the site is evaluated
pub is_evaluated : (site : Site) (es : List Evaluation) (outs : List Evaluated) (m : SiteModule) → AreEvaluated site outs → AreEvaluations es outs → IsOfSite site m → EvaluatedAs m es
is_evaluated site es outs m all h o =
    let p = of_map (λ (x : Evaluated). x.0) m outs ((all.modules m).1 o) in
    let f = evaluation_of es outs p.0 h p.1 in
    record { evaluation = f.evaluation; there = f.there; same = sym (same_file f.evaluation p.0 f.stands) ∙ p.2 }
