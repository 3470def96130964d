use Rattle.std.proofs.Common.{◌≡◌, ◌++◌, List, ℕ, [], ap, ◌∙◌, string_bytes}
use Rattle.envvars.proofs.FieldLemmas.{join-init}
use Rattle.envvars.proofs.fields.join.Goals as goal

-- what is appended to nothing
onto_nothing : (new old more : List ℕ) → new ≡ old ++ more → old ≡ [] → new ≡ more
onto_nothing new old more grown none = grown ∙ ap (λ (t : List ℕ). t ++ more) none

pub loop-part-init : goal.loop-part-init
loop-part-init c =
    join-init c.args.separator (string_bytes c.push_str.new.self) _ c.args.parts.now c.in-len1-up.len_at_least
    (onto_nothing _ (string_bytes c.in_ok-text.text) _ c.in_ok-push_str.ensures.bytes c.in_ok-text.ensures.bytes)
