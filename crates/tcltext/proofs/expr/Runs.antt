-- A run and what follows it.
use Rattle.std.proofs.Common.{◌≡◌, ℕ, [], ◌∷◌, ◌++◌, Bool, true, false, refl, ap}
use Rattle.tcltext.specs.chars.Runs.{Text, take_while, drop_while}
use Rattle.tcltext.proofs.chars.RunLemmas.{take_while-nil, drop_while-nil, take_while-cons_true, take_while-cons_false}
use Rattle.tcltext.proofs.chars.RunLemmas.{drop_while-cons_true, drop_while-cons_false}

front_back-cons : (p : ℕ → Bool) (b : ℕ) (bs : Text) (t : Bool) → p b ≡ t → bs ≡ take_while p bs ++ drop_while p bs → b ∷ bs ≡ take_while p (b ∷ bs) ++ drop_while p (b ∷ bs)
front_back-cons p b bs true t so = rw (take_while-cons_true p b bs t, drop_while-cons_true p b bs t) (ap (λ xs. b ∷ xs) so)
front_back-cons p b bs false t so = rw (take_while-cons_false p b bs t, drop_while-cons_false p b bs t) refl

pub front_back : (p : ℕ → Bool) (bs : Text) → bs ≡ take_while p bs ++ drop_while p bs
front_back p [] = rw (take_while-nil p, drop_while-nil p) refl
front_back p (b ∷ bs) = front_back-cons p b bs (p b) refl (front_back p bs)
