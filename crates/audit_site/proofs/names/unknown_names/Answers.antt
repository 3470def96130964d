use Rattle.std.proofs.Common.{◌≡◌, ◌∙◌, flat_map}
use Rattle.std.proofs.lemmas.Result.{IfOk-weaker}
use Rattle.audit_site.specs.Mentions.{known_in, is_known, is_accepted, unknown_after}
use Rattle.audit_site.proofs.names.unknown_names.Goals as goal

pub returns : goal.returns
returns c =
    let known : known_in c.in_ok-meaning_names.field-0.keys ≡ is_known c.args.evaluations.now = λ i name. c.in_ok-meaning_names.ensures name i in
    let accepted : known_in c.in_ok-accepted_names.field-0.keys ≡ is_accepted c.args.evaluations.now = λ i name. c.in_ok-accepted_names.ensures name i in
    IfOk-weaker c.judge_evaluations.result _ _ (λ unknown e. e ∙ (λ i. flat_map (unknown_after (known i) (accepted i)) c.args.evaluations.now)) c.judge_evaluations.ensures
