-- What a fallible call answers (own): the outcome that the definitions have, or a fault, with the reason why there is
-- none.
use Rattle.std.specs.Prelude.{◌≡◌, Option, IfSome, Result, Ok, Err}

-- What a call answered, seen by view, is the outcome: its value, or the reason of its fault. Want of memory has no
-- reason, and may be answered in place of any outcome.
abbrev pub Gives : {X Y F R : Type 0} → (F → Option R) → (X → Y) → Result X F → Result Y R → Type 0
Gives reason_of view (Ok x) outcome = outcome ≡ Ok (view x)
Gives reason_of view (Err fault) outcome = IfSome (reason_of fault) (λ r. outcome ≡ Err r)
