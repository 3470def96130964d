use Rattle.std.proofs.Common.{◌≡◌, ◌++◌, List, ℕ, map, take, string_bytes}
use Rattle.envvars.specs.Texts.{texts_in}
use Rattle.audit_laws.proofs.determinism.loaded_answers.answered_no.Given as goal

abbrev pub invariant-loop-choice : goal.invariant-loop-choice
invariant-loop-choice l =
    map texts_in l.new.items ≡ map (λ (denied : List (List ℕ)). denied ++ map string_bytes l.names) (map texts_in (take l.choice-index l.choices))
