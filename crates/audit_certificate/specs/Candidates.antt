-- Modules with what they read, as they are judged beside one another, and what each uses (own).
use Rattle.std.specs.Prelude.{List, ◌++◌, map, flat_map}
use Rattle.envvars.specs.Texts.{Text}
use Rattle.modulefile.specs.Records.{Record}
use Rattle.modulefile.specs.Moves.{Module}
use Rattle.reversal.specs.VariableUses.{VariableUse, Untouched, UsedVariable}
use Rattle.audit_certificate.specs.RecordUses.{used_by, IsAmong}

-- A module with its file and its records, and the variables that its file reads.
pub record Candidate : Type 0 where
  pub name : Text
  pub path : Text
  pub records : List Record
  pub reads : List Text

-- the module of a candidate
abbrev pub as_module : Candidate → Module
as_module m = record { name = m.name; path = m.path; records = m.records }

-- A read is one more use of the variable: no record's, so that the variable is left untouched.
abbrev pub read_of : Text → UsedVariable
read_of v = (v, Untouched)

-- what a module with these records and these reads uses: what its records do, and then what it reads
abbrev pub uses_with : List Record → List Text → List UsedVariable
uses_with rs reads = used_by rs ++ map read_of reads

-- so for the candidate
abbrev pub uses_of : Candidate → List UsedVariable
uses_of m = uses_with m.records m.reads

-- what the candidates use
abbrev pub uses_of_all : List Candidate → List UsedVariable
uses_of_all ms = flat_map uses_of ms

-- the candidate uses the variable so
abbrev pub HasUse : Candidate → Text → VariableUse → Type 0
HasUse m v x = IsAmong (v, x) (uses_of m)
