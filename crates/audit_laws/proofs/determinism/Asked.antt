-- Questions of what is loaded, one more at a time.
use Rattle.std.proofs.Common.{◌≡◌, ℕ, ◌+◌, ◌<◌, List, [], ◌∷◌, Option, Some, None, map, drop, length, get_or, refl, ap, sym, ◌∙◌}
use Rattle.std.specs.List.{cons_option}
use Rattle.std.proofs.lemmas.List.{at_drop_more}
use Rattle.envvars.specs.Texts.{Text}
use Rattle.tclrules.specs.Oracle.{Question}
use Rattle.audit_laws.specs.determinism.StableInput.{names_of, loaded_questions}
use Rattle.audit_laws.specs.determinism.LoadedAnswers.{once_after}

once_more : (done : List (List Text)) (o : Option (List Text)) (rest : List (List Text)) → once_after (once_after done (cons_option o [])) rest ≡ once_after done (cons_option o rest)
once_more done None rest = refl
once_more done (Some names) rest = refl

-- one question more
pub asked_more : {X : Type 0} (view : X → Question) (xs : List X) (i : ℕ) (x : X) (old new all : List (List Text)) → i < length xs → x ≡ get_or xs i x
    → once_after old (loaded_questions (map view (drop i xs))) ≡ all → new ≡ once_after old (cons_option (names_of (view x)) [])
    → once_after new (loaded_questions (map view (drop (i + 1) xs))) ≡ all
asked_more {X} view xs i x old new all l e before now =
    let rest = loaded_questions (map view (drop (i + 1) xs)) in
    let found : List X → List (List Text) = λ ys. once_after old (loaded_questions (map view ys)) in
    ap (λ (qs : List (List Text)). once_after qs rest) now
    ∙ (once_more old (names_of (view x)) rest
    ∙ (sym (at_drop_more found xs i x l ∙ ap (λ (y : X). found (y ∷ drop (i + 1) xs)) (sym e)) ∙ before))
