-- Runs of bytes and what follows them.
use Rattle.std.proofs.Common.{◌≡◌, ◌≢◌, ℕ, ◌≤◌, List, [], ◌∷◌, ◌++◌, length, Bool, true, false, not, ◌==◌, refl, ap}
use Rattle.std.proofs.Common.{◌∙◌, arith}
use Rattle.std.proofs.lemmas.Bool.Decides.{nat_tests}
use Rattle.tcltext.specs.chars.Bytes.{AllPass, MayBegin}
use Rattle.tcltext.specs.chars.Runs.{Text, take_while, drop_while}
use Rattle.tcltext.proofs.chars.RunLemmas.{take_while-cons_true, take_while-cons_false, drop_while-cons_true}
use Rattle.tcltext.proofs.chars.RunLemmas.{drop_while-cons_false}

pub true_false : true ≡ false → ⊥
true_false h = cc

front_back-cons : (p : ℕ → Bool) (b : ℕ) (bs : Text) (t : Bool) → p b ≡ t → bs ≡ take_while p bs ++ drop_while p bs → b ∷ bs ≡ take_while p (b ∷ bs) ++ drop_while p (b ∷ bs)
front_back-cons p b bs true t so = rw (take_while-cons_true p b bs t, drop_while-cons_true p b bs t) (ap (λ xs. b ∷ xs) so)
front_back-cons p b bs false t so = rw (take_while-cons_false p b bs t, drop_while-cons_false p b bs t) refl

pub front_back : (p : ℕ → Bool) (bs : Text) → bs ≡ take_while p bs ++ drop_while p bs
front_back p [] = refl
front_back p (b ∷ bs) = front_back-cons p b bs (p b) refl (front_back p bs)

front_passes-cons : (p : ℕ → Bool) (b : ℕ) (bs : Text) (t : Bool) → p b ≡ t → AllPass p (take_while p bs) → AllPass p (take_while p (b ∷ bs))
front_passes-cons p b bs true t so = rw (take_while-cons_true p b bs t) (t, so)
front_passes-cons p b bs false t so = rw (take_while-cons_false p b bs t) tt

pub front_passes : (p : ℕ → Bool) (bs : Text) → AllPass p (take_while p bs)
front_passes p [] = tt
front_passes p (b ∷ bs) = front_passes-cons p b bs (p b) refl (front_passes p bs)

back_fails-cons : (p : ℕ → Bool) (b : ℕ) (bs : Text) (t : Bool) → p b ≡ t → MayBegin (λ b. not (p b)) (drop_while p bs) → MayBegin (λ b. not (p b)) (drop_while p (b ∷ bs))
back_fails-cons p b bs true t so = rw (drop_while-cons_true p b bs t) so
back_fails-cons p b bs false t so = rw (drop_while-cons_false p b bs t) (ap not t)

-- behind a run the first byte doesn't pass
pub back_fails : (p : ℕ → Bool) (bs : Text) → MayBegin (λ b. not (p b)) (drop_while p bs)
back_fails p [] = tt
back_fails p (b ∷ bs) = back_fails-cons p b bs (p b) refl (back_fails p bs)

pub is_byte : (b c : ℕ) → (b == c) ≡ true → b ≡ c
is_byte b c h = grind (arith, nat_tests)

pub is_no_byte : (b c : ℕ) → (b == c) ≡ false → b ≢ c
is_no_byte b c h = grind (arith, nat_tests)

pub no_test : (b c : ℕ) → b ≢ c → (b == c) ≡ false
no_test b c h = grind (arith, nat_tests)

pub not_true : (t : Bool) → not t ≡ true → t ≡ false
not_true true h = cc
not_true false h = refl

back_no_longer-cons : (p : ℕ → Bool) (b : ℕ) (bs : List ℕ) (t : Bool) → p b ≡ t → length (drop_while p bs) ≤ length bs → length (drop_while p (b ∷ bs)) ≤ length (b ∷ bs)
back_no_longer-cons p b bs true t so = rw (drop_while-cons_true p b bs t) (omega arith)
back_no_longer-cons p b bs false t so = rw (drop_while-cons_false p b bs t) (omega arith)

pub back_no_longer : (p : ℕ → Bool) (bs : List ℕ) → length (drop_while p bs) ≤ length bs
back_no_longer p [] = omega arith
back_no_longer p (b ∷ bs) = back_no_longer-cons p b bs (p b) refl (back_no_longer p bs)

pub front_run : (p : ℕ → Bool) (xs ys : Text) → AllPass p xs → MayBegin (λ b. not (p b)) ys → take_while p (xs ++ ys) ≡ xs
front_run p [] [] h k = refl
front_run p [] (y ∷ ys) h k = take_while-cons_false p y ys (not_true (p y) k)
front_run p (x ∷ xs) ys h k = take_while-cons_true p x (xs ++ ys) h.0 ∙ ap (λ zs. x ∷ zs) (front_run p xs ys h.1 k)

pub back_run : (p : ℕ → Bool) (xs ys : Text) → AllPass p xs → MayBegin (λ b. not (p b)) ys → drop_while p (xs ++ ys) ≡ ys
back_run p [] [] h k = refl
back_run p [] (y ∷ ys) h k = drop_while-cons_false p y ys (not_true (p y) k) where
  not_true : (t : Bool) → not t ≡ true → t ≡ false
  not_true true h = cc
  not_true false h = refl
back_run p (x ∷ xs) ys h k = drop_while-cons_true p x (xs ++ ys) h.0 ∙ back_run p xs ys h.1 k
