-- A pattern and a text read side by side, as an automaton whose states are the rests of the pattern.
use Rattle.std.specs.Prelude.{◌≡◌, ℕ, ◌-◌, ◌/◌, List, [], ◌∷◌, take, drop, true}
use Rattle.tcltext.specs.pattern.Patterns.{star, question, open_bracket, backslash, is_ordinary, HoldsIn}

-- with a character of the text, a pattern whose first character is no star continues with this
pub data OneStep : ℕ → List ℕ → ℕ → List ℕ → Type 0 where
  any : {c : ℕ} {ps : List ℕ} → OneStep question ps c ps
  set : {c : ℕ} {ps rest : List ℕ} → HoldsIn c ps rest → OneStep open_bracket ps c rest
  escaped : {c : ℕ} {ps : List ℕ} → OneStep backslash (c ∷ ps) c ps
  itself : {c : ℕ} {ps : List ℕ} → is_ordinary c ≡ true → OneStep c ps c ps

-- with that character it continues with nothing
abbrev pub StepsNowhere : ℕ → List ℕ → ℕ → Type 0
StepsNowhere p ps c = (rest : List ℕ) → OneStep p ps c rest → ⊥

-- with that character it continues with this alone
abbrev pub StepsOnly : ℕ → List ℕ → ℕ → List ℕ → Type 0
StepsOnly p ps c rest = OneStep p ps c rest × ((other : List ℕ) → OneStep p ps c other → other ≡ rest)

-- a pattern and a text reach a star, with what follows it and what remains of the text
pub data StepsToStar : List ℕ → List ℕ → List ℕ → List ℕ → Type 0 where
  at_star : {ps cs : List ℕ} → StepsToStar (star ∷ ps) cs ps cs
  step : {p c : ℕ} {ps cs qs ds : List ℕ} (rest : List ℕ) → OneStep p ps c rest → StepsToStar rest cs qs ds
      → StepsToStar (p ∷ ps) (c ∷ cs) qs ds

-- a pattern reads the text, so that this remains of the pattern
pub data Run : List ℕ → List ℕ → List ℕ → Type 0 where
  stay : {ps : List ℕ} → Run ps [] ps
  after_star : {ps cs qs : List ℕ} → Run ps cs qs → Run (star ∷ ps) cs qs
  in_star : {c : ℕ} {ps cs qs : List ℕ} → Run (star ∷ ps) cs qs → Run (star ∷ ps) (c ∷ cs) qs
  step : {p c : ℕ} {ps cs qs : List ℕ} (rest : List ℕ) → OneStep p ps c rest → Run rest cs qs → Run (p ∷ ps) (c ∷ cs) qs

-- the same for so many characters, where the pattern ms remains after half of them
abbrev pub RunsBy : List ℕ → List ℕ → List ℕ → ℕ → List ℕ → Type 0
RunsBy ps cs ms count qs = Run ps (take (count / 2) cs) ms × Run ms (take (count - count / 2) (drop (count / 2) cs)) qs
