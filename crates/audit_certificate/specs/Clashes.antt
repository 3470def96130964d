-- Modules that are never loaded at once, and candidates that clash in a variable (own).
use Rattle.std.specs.Prelude.{◌≡◌, Bool, true, false, not, ◌&&◌, ◌||◌, ◌==◌, bytes_eq, is_none}
use Rattle.std.specs.List.{list_any}
use Rattle.std.specs.Option.{option_eq}
use Rattle.modulename.specs.ModuleName.{means}
use Rattle.envvars.specs.Texts.{Text}
use Rattle.envstate.specs.loaded_list.Loaded.{Entry}
use Rattle.modulefile.specs.Records.{conflict_names}
use Rattle.modulefile.specs.Moves.{Module}
use Rattle.reversal.specs.VariableUses.{VariableUse, Untouched, Fixed, Absent, Pathed, Stacked, UsedVariable}
use Rattle.audit_certificate.specs.RecordUses.{is_read}
use Rattle.audit_certificate.specs.Candidates.{Candidate, as_module, uses_of, HasUse}

-- a name that the first module is in conflict with means the second
abbrev pub names_in_conflict : Module → Module → Bool
names_in_conflict m n = list_any (λ name. means name n.name) (conflict_names m.records)

-- the modules are in conflict: the first names the second, or the second the first
abbrev pub in_conflict : Module → Module → Bool
in_conflict m n = names_in_conflict m n || names_in_conflict n m

-- The module is in conflict with the entry that another has in the loaded list, where the other's conflicts are kept.
abbrev pub in_conflict_with_entry : Module → Entry → Bool
in_conflict_with_entry m x =
    list_any (λ name. means name x.name) (conflict_names m.records) || list_any (λ name. means name m.name) x.conflicts

-- The modules exclude each other, so that they are never loaded at once: they have one name, or are in conflict.
abbrev pub exclude : Module → Module → Bool
exclude m n = bytes_eq m.name n.name || in_conflict m n

-- They are two candidates: their names differ, or the paths of their files.
abbrev pub is_other : Candidate → Candidate → Bool
is_other m n = not (bytes_eq m.name n.name && bytes_eq m.path n.path)

-- A conflict of the first candidate means the second, and counts where it uses a variable so: the conflicts of one that
-- reads the variable are known only while this is as it was.
abbrev pub excludes_by : VariableUse → Candidate → Candidate → Bool
excludes_by x m n = not (is_read x) && names_in_conflict (as_module m) (as_module n)

-- The candidates, which use a variable in these two ways, are mutually exclusive: they have one name, or a conflict of
-- one of them counts that means the other.
abbrev pub are_mutually_exclusive : Candidate → Candidate → VariableUse → VariableUse → Bool
are_mutually_exclusive m n x y = bytes_eq m.name n.name || (excludes_by x m n || excludes_by y n m)

-- Modules that are loaded at once may use a variable in these two ways: both as a path with one delimiter, both as a
-- stack, both as absent, or both read it.
abbrev pub are_compatible : VariableUse → VariableUse → Bool
are_compatible Untouched Untouched = true
are_compatible (Pathed d) (Pathed k) = d == k
are_compatible Stacked Stacked = true
are_compatible Absent Absent = true
are_compatible x y = false

-- A start may agree with both uses. None does where one unsets a value and the other sets the variable or keeps it
-- absent, and none where they unset different values.
abbrev pub agree_at_start : VariableUse → VariableUse → Bool
agree_at_start (Fixed x) (Fixed y) = option_eq bytes_eq x y
agree_at_start (Fixed x) Absent = is_none x
agree_at_start Absent (Fixed y) = is_none y
agree_at_start x y = true

-- Whether two uses of one variable clash, by candidates that are mutually exclusive or aren't.
abbrev pub uses_clash : Bool → VariableUse → VariableUse → Bool
uses_clash apart x y = not (apart || are_compatible x y) || not (agree_at_start x y)

-- The candidates clash in the variable, which the first uses in one way and the second in another.
pub record Clash (m n : Candidate) (v : Text) (x y : VariableUse) : Type 0 where
  pub first : HasUse m v x
  pub second : HasUse n v y
  pub clash : uses_clash (are_mutually_exclusive m n x y) x y ≡ true

-- the first clashes with the second by these uses, if they are of one variable
abbrev pub do_clash_by : Candidate → Candidate → UsedVariable → UsedVariable → Bool
do_clash_by m n p q = bytes_eq p.0 q.0 && uses_clash (are_mutually_exclusive m n p.1 q.1) p.1 q.1

-- Whether the candidates clash in some variable, as a test.
abbrev pub do_clash : Candidate → Candidate → Bool
do_clash m n = list_any (λ p. list_any (do_clash_by m n p) (uses_of n)) (uses_of m)
