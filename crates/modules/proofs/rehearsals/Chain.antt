-- Shells that run the texts of a rehearsal.
use Rattle.std.proofs.Common.{◌≡◌, ℕ, zero, suc, List, [], ◌∷◌, Option, Some, None, take, refl}
use Rattle.envvars.specs.Texts.{Text}
use Rattle.envvars.specs.Environment.{Environment}
use Rattle.shelltext.specs.Reading.{DifferenceMakes}
use Rattle.shelltext.specs.Sequences.{TextsMake}
use Rattle.requests.specs.Requests.{Request}
use Rattle.requests.specs.Steps.{RequestContext}
use Rattle.requests.specs.Sessions.{Response, accepted, refused, given_up, end_environment}
use Rattle.modules.specs.rehearsals.Rehearsals.{ArePrints, runs_of}

pub chain : DifferenceMakes → (s : RequestContext) (e : Environment) (rs : List Request) (os : List Response) (ps : List (Option Text))
    → ArePrints s e rs os ps → (n : ℕ) → TextsMake (runs_of (take n rs) (take n ps)) e (end_environment e (take n os))
chain makes s e rs os ps h zero = refl
chain makes s e [] [] [] h (suc n) = refl
chain makes s e [] [] (p ∷ ps) h (suc n) = absurd h
chain makes s e [] (o ∷ os) ps h (suc n) = absurd h
chain makes s e (r ∷ rs) [] ps h (suc n) = absurd h
chain makes s e (r ∷ rs) (o ∷ os) [] h (suc n) = absurd h
chain makes s e (r ∷ rs) (accepted d ∷ os) (Some text ∷ ps) h (suc n) =
    (d.env, makes r.0 text e d.env h.0, chain makes s d.env rs os ps h.1 n)
chain makes s e (r ∷ rs) (accepted d ∷ os) (None ∷ ps) h (suc n) = absurd h.0
chain makes s e (r ∷ rs) (refused reason ∷ os) (None ∷ ps) h (suc n) = chain makes s e rs os ps h.1 n
chain makes s e (r ∷ rs) (refused reason ∷ os) (Some text ∷ ps) h (suc n) = absurd (clash h.0) where
  clash : ◌≡◌ {A = Option Text} (Some text) None → ⊥
  clash e = cc
chain makes s e (r ∷ rs) (given_up number ∷ os) (None ∷ ps) h (suc n) = chain makes s e rs os ps h.1 n
chain makes s e (r ∷ rs) (given_up number ∷ os) (Some text ∷ ps) h (suc n) = absurd (clash h.0.0) where
  clash : ◌≡◌ {A = Option Text} (Some text) None → ⊥
  clash e = cc

-- all of them
pub whole : DifferenceMakes → (s : RequestContext) (e : Environment) (rs : List Request) (os : List Response) (ps : List (Option Text))
    → ArePrints s e rs os ps → TextsMake (runs_of rs ps) e (end_environment e os)
whole makes s e [] [] [] h = refl
whole makes s e [] [] (p ∷ ps) h = absurd h
whole makes s e [] (o ∷ os) ps h = absurd h
whole makes s e (r ∷ rs) [] ps h = absurd h
whole makes s e (r ∷ rs) (o ∷ os) [] h = absurd h
whole makes s e (r ∷ rs) (accepted d ∷ os) (Some text ∷ ps) h =
    (d.env, makes r.0 text e d.env h.0, whole makes s d.env rs os ps h.1)
whole makes s e (r ∷ rs) (accepted d ∷ os) (None ∷ ps) h = absurd h.0
whole makes s e (r ∷ rs) (refused reason ∷ os) (None ∷ ps) h = whole makes s e rs os ps h.1
whole makes s e (r ∷ rs) (refused reason ∷ os) (Some text ∷ ps) h = absurd (clash h.0) where
  clash : ◌≡◌ {A = Option Text} (Some text) None → ⊥
  clash e = cc
whole makes s e (r ∷ rs) (given_up number ∷ os) (None ∷ ps) h = whole makes s e rs os ps h.1
whole makes s e (r ∷ rs) (given_up number ∷ os) (Some text ∷ ps) h = absurd (clash h.0.0) where
  clash : ◌≡◌ {A = Option Text} (Some text) None → ⊥
  clash e = cc
