-- Worked examples of certificates (own), of two modules each but one: which of them are certified, by each rule in turn.
-- And what is lost where a rule is left out.
use Rattle.std.specs.Prelude.{◌≡◌, true, List, [], ◌∷◌, ◌++◌, codes, Some, None}
use Rattle.envvars.specs.Texts.{Text}
use Rattle.envvars.specs.Environment.{Environment, lookup}
use Rattle.envvars.specs.Fields.{colon}
use Rattle.modulefile.specs.Records.{Record, Set, Unset, Push, Path, Conflict}
use Rattle.modulefile.specs.declared.records.PathEdit.TheVariants.{Front, Back, Remove}
use Rattle.modulefile.specs.Moves.{Module, Move, Loads, Unloads, MovesReach}
use Rattle.reversal.specs.VariableUses.{VariableUse}
use Rattle.reversal.specs.Starts.{IsStartWith}
use Rattle.reversal.specs.Runs.{live_after}
use Rattle.reversal.specs.Losses.{ThereAndBack}
use Rattle.reversal.specs.Examples.{Lose, held, first_module, second_module, variable, crossed, add_front, push_value}
use Rattle.audit_certificate.specs.RecordUses.{used_by, used_by_modules, modulepath, uses_by}
use Rattle.audit_certificate.specs.Candidates.{Candidate}
use Rattle.audit_certificate.specs.Clashes.{agree_at_start}
use Rattle.audit_certificate.specs.Certificates.{certified, AgreesWithUse, AgreesWith}

-- the two candidates are certified as a site that has no others
abbrev pub BothAreCertified : Candidate → Candidate → Type 0
BothAreCertified m n = certified (m ∷ n ∷ []) ≡ m ∷ n ∷ []

-- the first of them alone is
abbrev pub FirstIsCertified : Candidate → Candidate → Type 0
FirstIsCertified m n = certified (m ∷ n ∷ []) ≡ m ∷ []

-- the second of them alone is
abbrev pub SecondIsCertified : Candidate → Candidate → Type 0
SecondIsCertified m n = certified (m ∷ n ∷ []) ≡ n ∷ []

-- the module, which reads these variables
abbrev pub reading : List Text → Module → Candidate
reading reads m = record { name = m.name; path = m.path; records = m.records; reads = reads }

-- the modules m/1 and n/1 of these records, which read nothing
abbrev pub first : List Record → Candidate
first records = reading [] (first_module records)

abbrev pub second : List Record → Candidate
second records = reading [] (second_module records)

-- a module of this name, with a file in this directory
abbrev pub in_directory : Text → Text → List Record → Candidate
in_directory directory name records =
    record { name = name; path = directory ++ name; records = records; reads = [] }

-- records of the one variable that the examples have
abbrev pub sets : Text → Record
sets value = Set variable value

abbrev pub unsets : Text → Record
unsets value = Unset variable (Some value)

abbrev pub keeps_absent : Record
keeps_absent = Unset variable None

abbrev pub semicolon_path : Record
semicolon_path = Path Back 59 variable (codes "/b" ∷ [])

abbrev pub conflict : Text → Record
conflict name = Conflict (name ∷ [])

-- Compatible uses. A path with one delimiter.
abbrev pub OneDelimiter : Type 0
OneDelimiter = BothAreCertified (first (add_front ∷ [])) (second (Path Back colon variable (codes "/b" ∷ []) ∷ []))

-- A stack.
abbrev pub OneStack : Type 0
OneStack = BothAreCertified (first (push_value ∷ [])) (second (push_value ∷ []))

-- A variable that both keep absent.
abbrev pub BothAbsent : Type 0
BothAbsent = BothAreCertified (first (keeps_absent ∷ [])) (second (keeps_absent ∷ []))

-- Uses that clash. A path with two delimiters.
abbrev pub TwoDelimiters : Type 0
TwoDelimiters = FirstIsCertified (first (add_front ∷ [])) (second (semicolon_path ∷ []))

-- A path that is also a stack.
abbrev pub PathAndStack : Type 0
PathAndStack = FirstIsCertified (first (add_front ∷ [])) (second (push_value ∷ []))

-- A variable that both set, to whatever value.
abbrev pub BothSet : Type 0
BothSet = FirstIsCertified (first (sets (codes "x") ∷ [])) (second (sets (codes "x") ∷ []))

-- A variable whose one value both unset.
abbrev pub BothUnset : Type 0
BothUnset = FirstIsCertified (first (unsets (codes "x") ∷ [])) (second (unsets (codes "x") ∷ []))

-- A variable that one sets and the other keeps absent: the first is a competitor of its own.
abbrev pub SetAndAbsent : Type 0
SetAndAbsent = SecondIsCertified (first (sets (codes "x") ∷ [])) (second (keeps_absent ∷ []))

-- Other variables clash with none.
abbrev pub OtherVariable : Type 0
OtherVariable =
    BothAreCertified (first (sets (codes "x") ∷ [])) (second (Set (codes "W") (codes "x") ∷ Push (codes "X") [] ∷ []))

-- Modules that exclude each other. The first is in conflict with the second.
abbrev pub FirstInConflict : Type 0
FirstInConflict =
    BothAreCertified (first (conflict (codes "n/1") ∷ sets (codes "x") ∷ [])) (second (sets (codes "y") ∷ []))

-- The second is in conflict with the first.
abbrev pub SecondInConflict : Type 0
SecondInConflict =
    BothAreCertified (first (sets (codes "x") ∷ [])) (second (conflict (codes "m/1") ∷ sets (codes "y") ∷ []))

-- A conflict with the first part of a name.
abbrev pub ConflictByPart : Type 0
ConflictByPart =
    BothAreCertified (first (conflict (codes "n") ∷ sets (codes "x") ∷ [])) (second (sets (codes "y") ∷ []))

-- A conflict with letters that a name begins with, which are no part of it, excludes nothing.
abbrev pub ConflictByLetters : Type 0
ConflictByLetters =
    FirstIsCertified (first (conflict (codes "n") ∷ sets (codes "x") ∷ []))
    (in_directory (codes "/m/") (codes "nn/1") (sets (codes "y") ∷ []))

-- A conflict with another module excludes nothing.
abbrev pub ConflictWithAnother : Type 0
ConflictWithAnother =
    FirstIsCertified (first (conflict (codes "o") ∷ sets (codes "x") ∷ [])) (second (sets (codes "y") ∷ []))

-- Two versions of one module don't exclude each other by that.
abbrev pub TwoVersions : Type 0
TwoVersions =
    FirstIsCertified (first (sets (codes "x") ∷ []))
    (in_directory (codes "/m/") (codes "m/2") (sets (codes "y") ∷ []))

-- Two files of one name do.
abbrev pub TwoFiles : Type 0
TwoFiles =
    BothAreCertified (first (sets (codes "x") ∷ [])) (in_directory (codes "/n/") (codes "m/1") (sets (codes "y") ∷ []))

-- Modules that exclude each other may have different uses.
abbrev pub SetAndPushed : Type 0
SetAndPushed =
    BothAreCertified (first (conflict (codes "n") ∷ sets (codes "x") ∷ [])) (second (push_value ∷ []))

abbrev pub ExclusiveDelimiters : Type 0
ExclusiveDelimiters =
    BothAreCertified (first (conflict (codes "n") ∷ add_front ∷ [])) (second (semicolon_path ∷ []))

abbrev pub SetOrAbsent : Type 0
SetOrAbsent =
    BothAreCertified (first (conflict (codes "n") ∷ sets (codes "x") ∷ [])) (second (keeps_absent ∷ []))

-- They clash all the same where no start agrees with both: one sets the variable and the other unsets it,
abbrev pub SetAndUnset : Type 0
SetAndUnset =
    FirstIsCertified (first (conflict (codes "n") ∷ sets (codes "x") ∷ [])) (second (unsets (codes "x") ∷ []))

-- or one unsets a value and the other keeps the variable absent,
abbrev pub UnsetAndAbsent : Type 0
UnsetAndAbsent =
    FirstIsCertified (first (conflict (codes "n") ∷ unsets (codes "x") ∷ [])) (second (keeps_absent ∷ []))

-- or they unset two values,
abbrev pub TwoValues : Type 0
TwoValues =
    FirstIsCertified (first (conflict (codes "n") ∷ unsets (codes "x") ∷ [])) (second (unsets (codes "y") ∷ []))

-- also two files of one name;
abbrev pub TwoFilesAndValues : Type 0
TwoFilesAndValues =
    FirstIsCertified (first (unsets (codes "x") ∷ []))
    (in_directory (codes "/n/") (codes "m/1") (unsets (codes "y") ∷ []))

-- but not where they unset one value.
abbrev pub OneValue : Type 0
OneValue =
    BothAreCertified (first (conflict (codes "n") ∷ unsets (codes "x") ∷ [])) (second (unsets (codes "x") ∷ []))

-- Inconsistent modules, with which no other clashes. Two uses of one variable,
abbrev pub TwoUses : Type 0
TwoUses = SecondIsCertified (first (sets (codes "y") ∷ push_value ∷ [])) (second (sets (codes "x") ∷ []))

-- as of two delimiters,
abbrev pub DelimitersInOne : Type 0
DelimitersInOne = SecondIsCertified (first (add_front ∷ semicolon_path ∷ [])) (second (sets (codes "x") ∷ []))

-- or of two values.
abbrev pub ValuesInOne : Type 0
ValuesInOne = SecondIsCertified (first (unsets (codes "x") ∷ unsets (codes "y") ∷ [])) (second (push_value ∷ []))

-- MODULEPATH as a stack,
abbrev pub ModulepathPushed : Type 0
ModulepathPushed = SecondIsCertified (first (Push modulepath (codes "/n") ∷ [])) (second (push_value ∷ []))

-- or with another delimiter;
abbrev pub ModulepathParted : Type 0
ModulepathParted =
    SecondIsCertified (first (Path Front 59 modulepath (codes "/n" ∷ []) ∷ [])) (second (push_value ∷ []))

-- as a path with colons it is consistent.
abbrev pub ModulepathExtended : Type 0
ModulepathExtended =
    BothAreCertified (first (Path Front colon modulepath (codes "/n" ∷ []) ∷ []))
    (second (Path Back colon modulepath (codes "/o" ∷ []) ∷ []))

-- Nor does any clash with one that removes elements.
abbrev pub OneWay : Type 0
OneWay =
    SecondIsCertified (first (sets (codes "y") ∷ Path Remove colon (codes "PATH") (codes "/a" ∷ []) ∷ []))
    (second (sets (codes "x") ∷ []))

-- Modules that read. Both read one variable.
abbrev pub BothRead : Type 0
BothRead =
    BothAreCertified (reading (variable ∷ []) (first_module [])) (reading (variable ∷ []) (second_module []))

-- The first reads what the second sets: this one, whose use is compatible with no other, is a competitor of its own.
abbrev pub ReadAndSet : Type 0
ReadAndSet = FirstIsCertified (reading (variable ∷ []) (first_module [])) (second (sets (codes "x") ∷ []))

-- The first sets what the second reads.
abbrev pub SetAndRead : Type 0
SetAndRead = SecondIsCertified (first (sets (codes "x") ∷ [])) (reading (variable ∷ []) (second_module []))

-- One reads what the other uses as a path, or keeps absent: of as many competitors the first name goes first.
abbrev pub ReadAndPath : Type 0
ReadAndPath = FirstIsCertified (reading (variable ∷ []) (first_module [])) (second (add_front ∷ []))

abbrev pub AbsentAndRead : Type 0
AbsentAndRead = FirstIsCertified (first (keeps_absent ∷ [])) (reading (variable ∷ []) (second_module []))

-- A reader's own conflict excludes nothing.
abbrev pub ReaderInConflict : Type 0
ReaderInConflict =
    FirstIsCertified (reading (variable ∷ []) (first_module (conflict (codes "n") ∷ []))) (second (add_front ∷ []))

-- That of the other does,
abbrev pub UserInConflict : Type 0
UserInConflict =
    BothAreCertified (reading (variable ∷ []) (first_module []))
    (second (conflict (codes "m") ∷ add_front ∷ []))

-- and so does one name.
abbrev pub ReaderOfOneName : Type 0
ReaderOfOneName =
    BothAreCertified (reading (variable ∷ []) (first_module []))
    (in_directory (codes "/n/") (codes "m/1") (add_front ∷ []))

-- Of three the readers are selected: with the one that adds to the variable neither of them is compatible.
abbrev pub TwoReaders : Type 0
TwoReaders =
    certified (reading (variable ∷ []) (first_module []) ∷ reading (variable ∷ []) (second_module [])
    ∷ in_directory (codes "/l/") (codes "l/1") (add_front ∷ []) ∷ [])
    ≡ reading (variable ∷ []) (first_module []) ∷ reading (variable ∷ []) (second_module []) ∷ []

-- A module that reads MODULEPATH is consistent,
abbrev pub ModulepathRead : Type 0
ModulepathRead =
    BothAreCertified (reading (modulepath ∷ []) (first_module [])) (reading (modulepath ∷ []) (second_module []))

-- and one that reads what it uses is not.
abbrev pub ReadsItsOwn : Type 0
ReadsItsOwn =
    SecondIsCertified (reading (variable ∷ []) (first_module (add_front ∷ []))) (second (sets (codes "x") ∷ []))

-- Why uses clash. The start agrees with all that the modules use, and accepted moves that load and unload them lose it.
pub record LoseTogether (ms : List Module) (start : Environment) (moves : List Move) : Type 0 where
  pub agrees : AgreesWith (used_by_modules ms) start
  pub lose : Lose start moves

-- the same of two modules of one record each, which are loaded, and then unloaded in the order of their loads
abbrev pub LoseByRecords : Record → Record → Environment → Type 0
LoseByRecords r s start =
    LoseTogether (first_module (r ∷ []) ∷ second_module (s ∷ []) ∷ []) start (crossed r s)

abbrev pub LoseByDelimiters : Type 0
LoseByDelimiters =
    LoseByRecords (Path Back colon variable (codes "b" ∷ [])) (Path Back 59 variable (codes "c" ∷ []))
    (held ((variable, codes "a") ∷ []))

abbrev pub LoseByPathAndStack : Type 0
LoseByPathAndStack = LoseByRecords add_front push_value (held ((variable, codes "/b") ∷ []))

abbrev pub LoseBySetAndPush : Type 0
LoseBySetAndPush = LoseByRecords (sets (codes "y")) push_value (held [])

abbrev pub LoseByUnsetAndPush : Type 0
LoseByUnsetAndPush = LoseByRecords (unsets (codes "y")) push_value (held ((variable, codes "y") ∷ []))

-- The start agrees with all that the modules use, and accepted moves reach an environment that isn't the start with the
-- live ones layered on it.
pub record LoseBetween (ms : List Module) (start : Environment) (moves : List Move) : Type 0 where
  pub agrees : AgreesWith (used_by_modules ms) start
  pub end : Environment
  pub reach : MovesReach moves start end
  pub differs : IsStartWith (uses_by (live_after [] moves)) start (live_after [] moves) end → ⊥

-- Both modules set a variable, and the unload of one takes the value of the other.
abbrev pub LoseByBothSet : Type 0
LoseByBothSet =
    LoseBetween (first_module (sets (codes "x") ∷ []) ∷ second_module (sets (codes "y") ∷ []) ∷ []) (held [])
    (Loads (first_module (sets (codes "x") ∷ [])) ∷ Loads (second_module (sets (codes "y") ∷ []))
    ∷ Unloads (first_module (sets (codes "x") ∷ [])) ∷ [])

-- One sets a variable, and the load of another, which keeps it absent, takes the value.
abbrev pub LoseBySetAndAbsent : Type 0
LoseBySetAndAbsent =
    LoseBetween (first_module (sets (codes "x") ∷ []) ∷ second_module (keeps_absent ∷ []) ∷ []) (held [])
    (Loads (first_module (sets (codes "x") ∷ [])) ∷ Loads (second_module (keeps_absent ∷ []))
    ∷ Unloads (second_module (keeps_absent ∷ [])) ∷ [])

-- One module with two uses of a variable: it sets it, and then pushes a value. After a load and its unload the variable
-- has the value that was set, though it was unset in a start that agrees with both uses.
abbrev pub SetAndPushLeaveValue : Type 0
SetAndPushLeaveValue =
    (owner v value pushed : Text) (start end : Environment)
    → AgreesWith (used_by (Set v value ∷ Push v pushed ∷ [])) start
    → ThereAndBack owner (Set v value ∷ Push v pushed ∷ []) start end
    → (lookup start v ≡ None) × (lookup end v ≡ Some value)

-- No start agrees with two uses that don't agree there.
abbrev pub StartsAgree : Type 0
StartsAgree =
    (start : Environment) (v : Text) (x y : VariableUse) → AgreesWithUse start v x → AgreesWithUse start v y
    → agree_at_start x y ≡ true
