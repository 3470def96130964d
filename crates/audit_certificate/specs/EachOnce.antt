-- Uses of variables, each once (own).
use Rattle.std.specs.Prelude.{Bool, not, ◌&&◌, List, [], ◌∷◌, filter, bytes_eq}
use Rattle.reversal.specs.VariableUses.{UsedVariable}
use Rattle.audit_certificate.specs.RecordUses.{same_use}

-- they are one use of one variable
abbrev pub same_used : UsedVariable → UsedVariable → Bool
same_used p q = bytes_eq p.0 q.0 && same_use p.1 q.1

-- the uses, each once, in the order in which they first stand
abbrev pub each_once : List UsedVariable → List UsedVariable
each_once [] = []
each_once (p ∷ ps) = p ∷ filter (λ q. not (same_used p q)) (each_once ps)
