-- Consistent candidates: each uses a variable in one way (own).
use Rattle.std.specs.Prelude.{◌≡◌, Bool, true, false, ◌&&◌, List}
use Rattle.std.specs.List.{list_all}
use Rattle.envvars.specs.Texts.{Text}
use Rattle.envvars.specs.Fields.{colon}
use Rattle.reversal.specs.VariableUses.{VariableUse, Pathed, can_return, UsedVariable}
use Rattle.audit_certificate.specs.RecordUses.{IsAmong, modulepath, is_read, is_same_use}
use Rattle.audit_certificate.specs.Candidates.{Candidate, uses_of}

-- These uses are consistent: they are of each variable in one way, and of MODULEPATH, unless it is read, as a path with
-- colons.
pub record AreConsistent (ps : List UsedVariable) : Type 0 where
  pub one_use : (v : Text) (x y : VariableUse) → IsAmong (v, x) ps → IsAmong (v, y) ps → x ≡ y
  pub modulepath : (x : VariableUse) → IsAmong (modulepath, x) ps → is_read x ≡ false → x ≡ Pathed colon

-- A consistent candidate: its records are of the kinds alone after which the start can be back, and what it uses is
-- consistent. So it uses no variable that it reads.
pub record IsConsistent (m : Candidate) : Type 0 where
  pub returns : list_all can_return m.records ≡ true
  pub consistent : AreConsistent (uses_of m)

-- Whether uses are consistent, as a test: each, unless it is a read, is as all are that are of its variable, and as a
-- path with colons where this is MODULEPATH.
abbrev pub are_consistent : List UsedVariable → Bool
are_consistent ps = list_all (λ p. is_same_use p (modulepath, Pathed colon) && list_all (is_same_use p) ps) ps

-- the candidate is consistent
abbrev pub is_consistent : Candidate → Bool
is_consistent m = list_all can_return m.records && are_consistent (uses_of m)
