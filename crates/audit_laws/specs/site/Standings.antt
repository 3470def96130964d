-- How each module of a site stands (own): whether it is certified, and else why it is not.
use Rattle.std.specs.Prelude.{◌≡◌, true, false, not, List, ◌∷◌, codes, find, Some, Ok, Err}
use Rattle.envvars.specs.Texts.{Text}
use Rattle.envvars.specs.Fields.{colon}
use Rattle.tclrules.specs.Oracle.{Question}
use Rattle.modulefile.specs.Records.{Record}
use Rattle.reversal.specs.VariableUses.{VariableUse, Pathed, can_return, UsedVariable}
use Rattle.requests.specs.Reasons.{RequestReason}
use Rattle.audit_laws.specs.determinism.Contexts.{FileRuns, are_runs_equivalent, has_stable_answer, have_stable_answers, is_deterministic}
use Rattle.audit_certificate.specs.RecordUses.{IsAmong, is_read, same_use, modulepath}
use Rattle.audit_certificate.specs.Candidates.{Candidate, uses_of}
use Rattle.audit_certificate.specs.Steps.{IsConsistent}
use Rattle.audit_certificate.specs.Clashes.{is_other, Clash}
use Rattle.audit_certificate.specs.Certificates.{IsCertified}
use Rattle.audit_laws.specs.site.Sites.{Site, SiteModule, EvaluatesTo, candidate_of}

pub data Standing : Type 0 where
  -- deterministic, consistent, and without a clash: its loads and unloads need no judgement
  Certified : Standing
  -- its evaluation asked this, the first question that doesn't have a stable answer, so that its records may differ
  -- elsewhere
  Unstable : (first : Question) → Standing
  -- each question has a stable answer, and this is the first of its records after which the start can't be back
  OneWay : (first : Record) → Standing
  -- it is deterministic, and uses the variable in these two ways, of which the second may be a read; or the variable is
  -- MODULEPATH, and the second way is that of a path with colons
  Inconsistent : (variable : Text) (one other : VariableUse) → Standing
  -- it is deterministic and consistent, and clashes with a certified module in the variable, by its own use and that of
  -- the other
  Clashes : (variable : Text) (own theirs : VariableUse) (other : Candidate) → Standing
  -- its evaluation is refused
  Refused : RequestReason → Standing

-- the standing in one word
abbrev pub standing_word : Standing → Text
standing_word Certified = codes "certified"
standing_word (Unstable first) = codes "unstable"
standing_word (OneWay first) = codes "one-way"
standing_word (Inconsistent variable one other) = codes "inconsistent"
standing_word (Clashes variable own theirs other) = codes "clashes"
standing_word (Refused reason) = codes "refused"

-- The first question of the first evaluation that doesn't have a stable answer.
abbrev pub IsFirstUnkept : FileRuns RequestReason → Question → Type 0
IsFirstUnkept runs q =
    find (λ x. not (has_stable_answer (are_runs_equivalent runs) runs.first.records x)) runs.first.asked ≡ Some q

-- The first record after which the start can't be back.
abbrev pub IsFirstOneWay : List Record → Record → Type 0
IsFirstOneWay rs r = find (λ x. not (can_return x)) rs ≡ Some r

-- Two of these uses are of the variable and differ, of which the second may be a read, or that of MODULEPATH as a path
-- with colons.
pub record IsUsedTwice (ps : List UsedVariable) (v : Text) (x y : VariableUse) : Type 0 where
  pub first : IsAmong (v, x) ps
  pub used : is_read x ≡ false
  pub second : IsAmong (v, y) ((modulepath, Pathed colon) ∷ ps)
  pub differ : same_use x y ≡ false

-- The candidate, which is consistent, clashes in the variable with a certified one of these.
pub record ClashesWith (ms : List Candidate) (m : Candidate) (v : Text) (x y : VariableUse) (other : Candidate) : Type 0
  where
    pub consistent : IsConsistent m
    pub certain : IsCertified ms other
    pub another : is_other m other ≡ true
    pub clash : Clash m other v x y

-- the module is deterministic, and this holds of it as a candidate
abbrev pub IsDeterministicAnd : Site → SiteModule → (Candidate → Type 0) → Type 0
IsDeterministicAnd site m P =
    (runs : FileRuns RequestReason) × EvaluatesTo site m (Ok runs) × (is_deterministic runs ≡ true) × P (candidate_of m runs)

-- A module of the site, whose candidates these are, stands so. Each module stands in one of the six ways: its
-- evaluation is refused, or asks what doesn't have a stable answer, or has a record after which the start can't be
-- back, or it is deterministic; and a deterministic one is inconsistent, or is consistent and clashes, or is certified.
abbrev pub HasStanding : Site → List Candidate → SiteModule → Standing → Type 0
HasStanding site ms m Certified = IsDeterministicAnd site m (IsCertified ms)
HasStanding site ms m (Unstable first) =
    (runs : FileRuns RequestReason) × EvaluatesTo site m (Ok runs) × IsFirstUnkept runs first
HasStanding site ms m (OneWay first) =
    (runs : FileRuns RequestReason) × EvaluatesTo site m (Ok runs) × (have_stable_answers runs ≡ true)
    × IsFirstOneWay runs.first.records first
HasStanding site ms m (Inconsistent variable one other) =
    IsDeterministicAnd site m (λ c. IsUsedTwice (uses_of c) variable one other)
HasStanding site ms m (Clashes variable own theirs other) =
    IsDeterministicAnd site m (λ c. ClashesWith ms c variable own theirs other)
HasStanding site ms m (Refused reason) = EvaluatesTo site m (Err reason)
