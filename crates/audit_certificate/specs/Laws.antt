-- The laws of certificates (own).
use Rattle.std.specs.Prelude.{◌≡◌, ◌⊎◌, true, false, ◌↔◌, List, [], ◌∷◌, ◌++◌}
use Rattle.std.specs.List.{list_all, list_any}
use Rattle.std.specs.List.Sorted.{IsPermutation}
use Rattle.envvars.specs.Texts.{Text}
use Rattle.envvars.specs.Environment.{Environment}
use Rattle.envstate.specs.loaded_list.Loaded.{Entry, AreLoadedInOrder}
use Rattle.modulefile.specs.Records.{conflict_names}
use Rattle.modulefile.specs.Moves.{Module, Move, Loads, Unloads, Fits, MovesReach}
use Rattle.reversal.specs.Live.{entries_over}
use Rattle.reversal.specs.Starts.{IsInOrder, IsStart, IsStartWith}
use Rattle.reversal.specs.Runs.{without_live, live_after, Undoes}
use Rattle.reversal.specs.Laws.{Holds}
use Rattle.reversal.specs.Undone.{UndoEquivalently}
use Rattle.reversal.specs.VariableUses.{VariableUse, UsedVariable, can_return, absent_in}
use Rattle.audit_certificate.specs.RecordUses.{used_by, used_by_modules, IsAmong, uses_by}
use Rattle.audit_certificate.specs.Candidates.{Candidate}
use Rattle.audit_certificate.specs.Steps.{IsConsistent}
use Rattle.audit_certificate.specs.Clashes.{is_other, in_conflict, in_conflict_with_entry, exclude, Clash}
use Rattle.audit_certificate.specs.Certificates.{HasPlace, IsCertified, certified, AgreesWith, IsNotLoaded}
use Rattle.audit_certificate.specs.Disagreements.{Disagreement, IsDisagreement}

-- The certified modules that the test finds are those of the definition.
abbrev pub CertifiedAreExact : Type 0
CertifiedAreExact = (ms : List Candidate) (m : Candidate) → IsAmong m (certified ms) ↔ IsCertified ms m

-- No two certified modules clash.
abbrev pub CertifiedDontClash : Type 0
CertifiedDontClash =
    (ms : List Candidate) (m n : Candidate) (v : Text) (x y : VariableUse) → IsCertified ms m → IsCertified ms n
    → is_other m n ≡ true → Clash m n v x y → ⊥

-- No module more could be certified beside them: a consistent one that clashes with none of them is one of them.
abbrev pub CertifiedAreMost : Type 0
CertifiedAreMost =
    (ms : List Candidate) (m : Candidate) → IsAmong m ms → IsConsistent m
    → ((n : Candidate) (v : Text) (x y : VariableUse) → IsCertified ms n → is_other m n ≡ true → Clash m n v x y → ⊥)
    → IsCertified ms m

-- No other modules meet the definition: where some are exactly those that can be certified beside them, they are the
-- certified ones.
abbrev pub CertifiedAreUnique : Type 0
CertifiedAreUnique =
    (ms certain : List Candidate) → ((m : Candidate) → IsAmong m certain ↔ HasPlace ms certain m)
    → (m : Candidate) → IsAmong m certain ↔ IsCertified ms m

-- They are the same in whatever order the modules are listed.
abbrev pub CertifiedInAnyOrder : Type 0
CertifiedInAnyOrder =
    (ms ns : List Candidate) → IsPermutation ms ns → (m : Candidate) → IsCertified ms m → IsCertified ns m

-- The module is a certified one, with these records, or with others that undo what those of the certificate undo, are of
-- kinds after which the start can be back, keep the same variables absent, and are in conflict with the same names: as
-- one whose file sets another value in another shell.
pub record IsAsCertified (ms : List Candidate) (m : Module) : Type 0 where
  pub certain : Candidate
  pub certified : IsCertified ms certain
  pub name : certain.name ≡ m.name
  pub path : certain.path ≡ m.path
  pub alike : UndoEquivalently m.records certain.records
  pub returns : list_all can_return m.records ≡ true
  pub absent : absent_in m.records ≡ absent_in certain.records
  pub conflicts : conflict_names m.records ≡ conflict_names certain.records

-- Each load is of a certified module, as it loads, that is in conflict with no live one, and with whose uses the start
-- agrees. Each unload is of a live module, by records that undo what those of its load undo. No common use of a variable
-- is asked for: each module may have its own.
abbrev pub AreCertified : List Candidate → Environment → List Module → List Move → Type 0
AreCertified ms start live [] = Unit {0}
AreCertified ms start live (Loads m ∷ moves) =
    IsAsCertified ms m × AgreesWith (used_by m.records) start
    × ((n : Module) → IsAmong n live → in_conflict m n ≡ false) × AreCertified ms start (m ∷ live) moves
AreCertified ms start live (Unloads m ∷ moves) =
    Undoes live m × AreCertified ms start (without_live m.name live) moves

-- Whether a module is in conflict with live ones can be read from the loaded list: it is not where it is in conflict
-- with no entry, since each live module has its entry there.
abbrev pub EntriesHaveConflicts : Type 0
EntriesHaveConflicts =
    (entries : List Entry) (live : List Module) (m : Module)
    → list_any (in_conflict_with_entry m) (entries_over entries live) ≡ false
    → (n : Module) → IsAmong n live → in_conflict m n ≡ false

-- The loaded list of a start is in order. From it accepted moves load certified modules with whose uses the start
-- agrees, none beside one that it is in conflict with, and unload live ones. Then after each of the moves the
-- environment is in order, is the start with the live modules layered on it, each variable as they use it then, and is
-- the start itself where no module is live.
abbrev pub CertifiedRunsStand : Type 0
CertifiedRunsStand =
    (ms : List Candidate) (start e : Environment) (done rest : List Move) → AreLoadedInOrder start
    → AreCertified ms start [] (done ++ rest) → MovesReach (done ++ rest) start e
    → (mid : Environment) × MovesReach done start mid × MovesReach rest mid e
    × Holds (uses_by (live_after [] done)) start (live_after [] done) mid

-- the live modules are certified, as they were loaded, and none excludes another
abbrev pub AreCertifiedTogether : List Candidate → List Module → Type 0
AreCertifiedTogether ms [] = Unit {0}
AreCertifiedTogether ms (m ∷ live) =
    IsAsCertified ms m × ((n : Module) → IsAmong n live → exclude m n ≡ false) × AreCertifiedTogether ms live

-- The live modules are certified, and none excludes another. The start is one by their uses of variables, and the
-- environment is in order and is that start with them layered on it.
pub record AreLayered (ms : List Candidate) (start : Environment) (live : List Module) (e : Environment) : Type 0 where
  pub together : AreCertifiedTogether ms live
  pub begins : IsStart (uses_by live) start
  pub order : IsInOrder (uses_by live) e
  pub start_with_live : IsStartWith (uses_by live) start live e

-- Moves from any such environment, whatever was before, as one command makes them, which knows no history. Where no
-- module is live then, the environment is the start.
abbrev pub CertifiedMovesPreserve : Type 0
CertifiedMovesPreserve =
    (ms : List Candidate) (start old new : Environment) (live : List Module) (moves : List Move)
    → AreLayered ms start live old → AreCertified ms start live moves → MovesReach moves old new
    → AreLayered ms start (live_after live moves) new × (live_after live moves ≡ [] → new ≡ start)

-- It begins so: with no module live a start whose loaded list is in order, and with live ones a start that agrees with
-- what they use.
abbrev pub NoneIsLayered : Type 0
NoneIsLayered = (ms : List Candidate) (start : Environment) → AreLoadedInOrder start → AreLayered ms start [] start

abbrev pub AgreeingBegins : Type 0
AgreeingBegins =
    (live : List Module) (start : Environment) → AgreesWith (used_by_modules live) start → IsStart (uses_by live) start

-- A start agrees with what modules use where its loaded list is in order and it agrees with what each of them uses.
abbrev pub AgreementIsOfEach : Type 0
AgreementIsOfEach =
    (ms : List Module) (start : Environment)
    → AgreesWith (used_by_modules ms) start
    ↔ (AreLoadedInOrder start × ((m : Module) → IsAmong m ms → AgreesWith (used_by m.records) start))

-- So it has something against what modules use where it has it against one of them, or where its loaded list isn't in
-- order; and then it doesn't agree.
abbrev pub DisagreementIsOfOne : Type 0
DisagreementIsOfOne =
    (ms : List Module) (e : Environment) (d : Disagreement)
    → IsDisagreement (used_by_modules ms) e d
    ↔ (IsDisagreement [] e d ⊎ ((m : Module) × IsAmong m ms × IsDisagreement (used_by m.records) e d))

abbrev pub DisagreementsRefute : Type 0
DisagreementsRefute =
    (ps : List UsedVariable) (e : Environment) (d : Disagreement) → IsDisagreement ps e d → AgreesWith ps e → ⊥

-- A module that is loaded at the start isn't loaded again while none of the start is unloaded: of it nothing is said.
abbrev pub LoadedStayLoaded : Type 0
LoadedStayLoaded =
    (ms : List Candidate) (start e : Environment) (live : List Module) (m : Module) → AreLayered ms start live e
    → Fits (Loads m) e → IsNotLoaded m start
