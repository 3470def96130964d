-- What a modulefile asks of what is loaded, and each choice of answers to it (own; is-loaded of modulefile(5)).
use Rattle.std.specs.Prelude.{ℕ, Bool, true, false, not, ◌&&◌, List, [], ◌∷◌, ◌++◌, map, flat_map, filter, length}
use Rattle.std.specs.Prelude.{nat_le, bytes_eq, if◌then◌else◌}
use Rattle.std.specs.List.{list_any}
use Rattle.modulename.specs.ModuleName.{means}
use Rattle.envvars.specs.Texts.{Text}
use Rattle.tclrules.specs.Oracle.{Question}
use Rattle.audit_laws.specs.determinism.StableInput.{asks_mode, asks_shell, loaded_questions}

-- there are as many, and each is the same as the one in its place
abbrev pub same_by : {X : Type 0} → (X → X → Bool) → List X → List X → Bool
same_by same [] [] = true
same_by same [] (y ∷ ys) = false
same_by same (x ∷ xs) [] = false
same_by same (x ∷ xs) (y ∷ ys) = same x y && same_by same xs ys

-- it is one of the questions, each of which is its names
abbrev pub is_one_of : List Text → List (List Text) → Bool
is_one_of names questions = list_any (same_by bytes_eq names) questions

-- the questions, each once
abbrev pub once_after : List (List Text) → List (List Text) → List (List Text)
once_after done [] = done
once_after done (names ∷ more) = once_after (if is_one_of names done then done else done ++ names ∷ []) more

-- the questions of what is loaded, each once
abbrev pub distinct_questions : List Question → List (List Text)
distinct_questions asked = once_after [] (loaded_questions asked)

-- How many of them are answered by each choice: as many as make no more than eight evaluations of a file, in each
-- context of the mode, which are four where it is asked for, and of the shell.
abbrev pub most_questions : Bool → Bool → ℕ
most_questions false false = 3
most_questions true false = 1
most_questions false true = 0
most_questions true true = 0

-- they are no more
abbrev pub are_few : List Question → Bool
are_few asked = nat_le (length (distinct_questions asked)) (most_questions (asks_mode asked) (asks_shell asked))

-- those that are answered by each choice
abbrev pub questions_tried : List Question → List (List Text)
questions_tried asked = if are_few asked then distinct_questions asked else []

-- The choices of which one answer is yes, by the names in the questions whose answer is no. One question more is answered
-- yes, besides those before it or alone, or no.
abbrev pub choices_after : List (List Text) → List Text → List (List Text) → List (List Text)
choices_after some before [] = some
choices_after some before (names ∷ more) =
    choices_after (some ++ before ∷ map (λ denied. denied ++ names) some) (before ++ names) more

abbrev pub choices : List (List Text) → List (List Text)
choices questions = choices_after [] [] questions

-- those of the names that none of these means
abbrev pub loaded_beside : List Text → List Text → List Text
loaded_beside names denied = filter (λ name. not (list_any (λ n. means n name) denied)) names

-- What is loaded by each choice of which one answer is yes: of the names in all questions, those that none means whose
-- answer is no.
abbrev pub loaded_lists : List (List Text) → List (List Text)
loaded_lists questions = map (loaded_beside (flat_map (λ names. names) questions)) (choices questions)
