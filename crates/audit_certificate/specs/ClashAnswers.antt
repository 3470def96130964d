-- What is answered of the clashes of modules with one another (own).
use Rattle.std.specs.Prelude.{◌≡◌, true, List, [], ◌∷◌, ◌++◌, Option, Some, None, string_bytes}
use Rattle.envvars.specs.Texts.{Text}
use Rattle.reversal.specs.VariableUses.{VariableUse}
use Rattle.audit_certificate.specs.Clashes.{is_other}
use Rattle.audit_certificate.specs.RecordUses.{IsAmong}
use Rattle.audit_certificate.specs.Candidates.{Candidate}
use Rattle.audit_certificate.specs.Clashes as clashes
use Rattle.audit_certificate.specs.Certificates.{selected}
use Rattle.audit_certificate.specs.Ranks.{users_of_one_use}
use Rattle.audit_certificate.specs.UseViews.{use_view}
use Rattle.audit_certificate.specs.Users.{ModuleUse}
use Rattle.audit_certificate.specs.declared.answers.Clash.{Clash}

-- The module clashes with another one of these, as the answer says: in this variable, by these two uses, and the other
-- has this name and this file.
pub record IsClashOf (ms : List Candidate) (m : Candidate) (c : Clash) : Type 0 where
  pub other : Candidate
  pub listed : IsAmong other ms
  pub another : is_other m other ≡ true
  pub clash : clashes.Clash m other (string_bytes c.variable) (use_view c.own) (use_view c.theirs)
  pub name : other.name ≡ string_bytes c.other_name
  pub path : other.path ≡ string_bytes c.other_path

-- the module clashes with no other one of these, in no variable
abbrev pub ClashesWithNone : List Candidate → Candidate → Type 0
ClashesWithNone ms m =
    (n : Candidate) (v : Text) (x y : VariableUse) → IsAmong n ms → is_other m n ≡ true → clashes.Clash m n v x y → ⊥

-- What is answered of one module among these: it clashes with none of those that are selected; or with one of them, and
-- so many use the variable as that does.
abbrev pub IsAnswer : List Candidate → Candidate → Option Clash → Type 0
IsAnswer ms m None = ClashesWithNone (selected ms) m
IsAnswer ms m (Some c) =
    IsClashOf (selected ms) m c × (c.alike ≡ users_of_one_use ms (string_bytes c.variable) (use_view c.theirs))

-- an answer for each of some modules among these, in their order
abbrev pub AreAnswers : List Candidate → List Candidate → List (Option Clash) → Type 0
AreAnswers ms [] [] = Unit {0}
AreAnswers ms [] (a ∷ answers) = ⊥
AreAnswers ms (m ∷ rest) [] = ⊥
AreAnswers ms (m ∷ rest) (a ∷ answers) = IsAnswer ms m a × AreAnswers ms rest answers

-- the module, where its answer is that it clashes with none
abbrev pub without_clash : Candidate → Option Clash → List Candidate
without_clash m None = m ∷ []
without_clash m (Some clash) = []

-- the modules whose answers are that they clash with none
abbrev pub without_clashes : List Candidate → List (Option Clash) → List Candidate
without_clashes [] answers = []
without_clashes (m ∷ ms) [] = []
without_clashes (m ∷ ms) (answer ∷ answers) = without_clash m answer ++ without_clashes ms answers

-- For the contracts of private functions: the clash names the variable of the first, the uses of both, and the module
-- of the second
pub record IsClashBetween (x y : ModuleUse) (c : Clash) : Type 0 where
  pub variable : string_bytes c.variable ≡ x.used.0
  pub own : use_view c.own ≡ x.used.1
  pub theirs : use_view c.theirs ≡ y.used.1
  pub name : string_bytes c.other_name ≡ y.owner.name
  pub path : string_bytes c.other_path ≡ y.owner.path
