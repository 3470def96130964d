-- Tokens that are written one after another.
use Rattle.std.proofs.Common.{List, [], ◌∷◌, ◌++◌, ap, ◌∙◌, append_assoc}
use Rattle.std.specs.Prelude.{Result, Ok, Err, OnOk}
use Rattle.json.specs.Token.{Token}
use Rattle.json.specs.Written.{Written, Writes}
use Rattle.modport.specs.LineViews.{AddsTokens}

-- one token
pub adds_one : {E : Type 0} (r : Result (Unit {0}) E) (a b : Written) (t : Token) → Writes r a b t → OnOk r (AddsTokens a b (t ∷ []))
adds_one (Ok u) a b t h = (h.room.0, h.ok)
adds_one (Err e) a b t h = tt

-- some tokens, and then what a last call adds
pub adds_more : {E : Type 0} (r : Result (Unit {0}) E) (a b c : Written) (x y : List Token) → AddsTokens a b x → OnOk r (AddsTokens b c y)
    → OnOk r (AddsTokens a c (x ++ y))
adds_more (Ok u) a b c x y p q = (q.0 ∙ p.0, q.1 ∙ (ap (λ (l : List Token). l ++ y) p.1 ∙ append_assoc a.tokens x y))
adds_more (Err e) a b c x y p q = tt
