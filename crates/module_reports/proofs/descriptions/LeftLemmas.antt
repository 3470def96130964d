-- The lines of modules that are left out, up to the end of the names or the outcomes.
use Rattle.std.proofs.Common.{◌≡◌, ◌⊎◌, inl, inr, ◌++◌, ◌∙◌, List, [], ◌∷◌, append-nil, map, String, string_bytes, sym}
use Rattle.std.specs.declared.alloc.Global.{Global}
use Rattle.envvars.specs.Texts.{Text}
use Rattle.modules.specs.declared.sessions.Outcome.{Outcome}
use Rattle.module_reports.specs.descriptions.Written.{left_lines}

pub lines_done : (made all : Text) (names : List (String Global)) (outcomes : List Outcome) → (names ≡ []) ⊎ (outcomes ≡ [])
    → made ++ left_lines (map string_bytes names) outcomes ≡ all → made ≡ all
lines_done made all [] outcomes e h = sym (append-nil made) ∙ h
lines_done made all (n ∷ names) [] e h = sym (append-nil made) ∙ h
lines_done made all (n ∷ names) (p ∷ outcomes) (inl e) h = absurd (cc)
lines_done made all (n ∷ names) (p ∷ outcomes) (inr e) h = absurd (cc)
