-- A step that went on: what its parts were.
use Rattle.std.proofs.Common.{◌≡◌, Result, Ok, Err, refl, ap, ◌∙◌}
use Rattle.modulefile.specs.Results.{◌>>=◌}

pub bound : {A B R : Type 0} (r : Result A R) (f : A → Result B R) (b : B) → (r >>= f) ≡ Ok b → (a : A) × (r ≡ Ok a) × (f a ≡ Ok b)
bound (Ok a) f b e = (a, refl, e)
bound (Err r) f b e = absurd (cc)

pub bind_ok : {A B R : Type 0} (r : Result A R) (f : A → Result B R) (a : A) (b : B) → r ≡ Ok a → f a ≡ Ok b → (r >>= f) ≡ Ok b
bind_ok r f a b e g = ap (λ x. x >>= f) e ∙ g

pub same_value : {A R : Type 0} (r : Result A R) (a b : A) → r ≡ Ok a → r ≡ Ok b → a ≡ b
same_value r a b e g = cc
