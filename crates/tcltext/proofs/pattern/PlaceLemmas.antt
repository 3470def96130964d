-- Stars that a match comes to.
use Rattle.std.proofs.Common.{◌≡◌, ◌≢◌, ◌↔◌, ℕ, suc, List, [], ◌∷◌, length, Bool, true, false, ◌==◌, IsTrue, refl, sym}
use Rattle.std.proofs.Common.{ap, subst, ◌∙◌, arith}
use Rattle.std.specs.Prelude.{encode_utf8_all}
use Rattle.std.specs.Str.{chars, IsUtf8}
use Rattle.std.proofs.lemmas.Str.{chars-nil, encodes-chars}
use Rattle.std.proofs.lemmas.Bool.Decides.{nat_tests}
use Rattle.tcltext.specs.pattern.Patterns.{star, IsMatch}
use Rattle.tcltext.specs.pattern.Search.Steps as steps
use Rattle.tcltext.specs.pattern.Search.Steps.{OneStep, StepsOnly, StepsNowhere, StepsToStar}
use Rattle.tcltext.proofs.pattern.PatternLemmas.{pattern_ends}
use Rattle.tcltext.proofs.pattern.StepLemmas.{steps_go, match_steps}
use Rattle.tcltext.proofs.pattern.TakeLemmas.{not_so}

-- a text without characters is empty
chars_empty : (bs : List ℕ) → IsUtf8 bs → chars bs ≡ [] → bs ≡ []
chars_empty bs u e = sym (encodes-chars bs u) ∙ ap encode_utf8_all e

length_empty : (bs : List ℕ) → (length bs == 0) ≡ true → bs ≡ []
length_empty [] h = refl
length_empty (b ∷ bs) h = absurd (never (length bs) h) where
  never : (n : ℕ) → (suc n == 0) ≡ true → ⊥
  never n h = grind (arith, nat_tests)

none_left : (bs : List ℕ) (t : Bool) → (length bs == 0) ≡ t → IsUtf8 bs → IsTrue t ↔ (chars bs ≡ [])
none_left bs true e u = (λ h. ap chars (length_empty bs e) ∙ chars-nil, λ h. refl)
none_left bs false e u = (λ h. absurd (false_true h), λ h. sym e ∙ ap (λ (xs : List ℕ). length xs == 0) (chars_empty bs u h)) where
  false_true : false ≡ true → ⊥
  false_true k = cc

-- where the pattern ends, the text has to
pub run-ends : (pattern text : List ℕ) (goal : Type 0) (t : Bool) → t ≡ (length text == 0) → IsUtf8 text → chars pattern ≡ [] → IsMatch (chars pattern) (chars text) ↔ goal → IsTrue t ↔ goal
run-ends pattern text goal t e u none same =
    let here : IsMatch (chars pattern) (chars text) ↔ (chars text ≡ []) = subst (λ ps. IsMatch ps (chars text) ↔ (chars text ≡ [])) (sym none) (pattern_ends (chars text)) in
    let remaining = none_left text t (sym e) u in
    (λ h. same.0 (here.1 (remaining.0 h)), λ h. remaining.1 (here.0 (same.1 h)))

-- a character of the pattern, and one of the text
pub run-more : (ps cs : List ℕ) (p : ℕ) (ps' : List ℕ) (c : ℕ) (cs' rest : List ℕ) (goal : Type 0) → ps ≡ p ∷ ps'
    → cs ≡ c ∷ cs' → p ≢ star → StepsOnly p ps' c rest → IsMatch ps cs ↔ goal → IsMatch rest cs' ↔ goal
run-more ps cs p ps' c cs' rest goal e k n only same =
    let here : IsMatch (p ∷ ps') (c ∷ cs') ↔ goal = subst (λ x. IsMatch (p ∷ ps') x ↔ goal) k (subst (λ x. IsMatch x cs ↔ goal) e same) in
    let goes = steps_go p c ps' rest n only cs' in
    (λ m. here.0 (goes.1 m), λ g. goes.0 (here.1 g))

pub steps_to_star-more : (ps cs : List ℕ) (p : ℕ) (ps' : List ℕ) (c : ℕ) (cs' rest whole text : List ℕ) → ps ≡ p ∷ ps'
    → cs ≡ c ∷ cs' → OneStep p ps' c rest → ((qs ds : List ℕ) → StepsToStar ps cs qs ds → StepsToStar whole text qs ds)
    → (qs ds : List ℕ) → StepsToStar rest cs' qs ds → StepsToStar whole text qs ds
steps_to_star-more ps cs p ps' c cs' rest whole text e k one same qs ds l =
    same qs ds (subst (λ x. StepsToStar x cs qs ds) (sym e) (subst (λ x. StepsToStar (p ∷ ps') x qs ds) (sym k) (steps.StepsToStar.step rest one l)))

pub steps_to_star-star : (ps cs : List ℕ) (p : ℕ) (ps' whole text : List ℕ) → ps ≡ p ∷ ps' → p ≡ star
    → ((qs ds : List ℕ) → StepsToStar ps cs qs ds → StepsToStar whole text qs ds) → StepsToStar whole text ps' cs
steps_to_star-star ps cs p ps' whole text e k same =
    same ps' cs (subst (λ x. StepsToStar x cs ps' cs) (sym e) (subst (λ x. StepsToStar (x ∷ ps') cs ps' cs) (sym k) steps.StepsToStar.at_star))

pub run-none : (ps cs : List ℕ) (p : ℕ) (ps' : List ℕ) (c : ℕ) (cs' : List ℕ) (goal : Type 0) → ps ≡ p ∷ ps'
    → cs ≡ c ∷ cs' → p ≢ star → StepsNowhere p ps' c → IsMatch ps cs ↔ goal → IsTrue false ↔ goal
run-none ps cs p ps' c cs' goal e k n nowhere same = not_so (λ g.
    (let s = match_steps p c ps' cs' n (subst (λ x. IsMatch (p ∷ ps') x) k (subst (λ x. IsMatch x cs) e (same.1 g))) in nowhere s.0 s.1.0))

pub chars_none : (bs : List ℕ) (t : Bool) → t ≡ true → t ≡ (length bs == 0) → chars bs ≡ []
chars_none bs t h e = ap chars (length_empty bs (sym e ∙ h)) ∙ chars-nil
