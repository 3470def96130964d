-- What the answers of readers say of their steps.
use Rattle.std.proofs.Common.{◌≡◌, Result, Ok, Err, refl, ap, ◌⊎◌, inl, inr}
use Rattle.tcltext.specs.chars.Runs.{Text}
use Rattle.tcltext.specs.declared.chars.fault.Fault.{Fault}
use Rattle.tcltext.specs.chars.Reading.{◌>>=◌, Read, read_map}

pub ok_same : {A B : Type 0} (x y : A) → (let remaining : Result A B = Ok x in remaining ≡ Ok y) → x ≡ y
ok_same x y h = cc

pub err_same : {A B : Type 0} (f g : B) → (let remaining : Result A B = Err f in remaining ≡ Err g) → f ≡ g
err_same f g h = cc

pub ok_err : {A B : Type 0} (x : A) (f : B) → (let remaining : Result A B = Ok x in remaining ≡ Err f) → ⊥
ok_err x f h = cc

pub err_ok : {A B : Type 0} (x : A) (f : B) → (let remaining : Result A B = Err f in remaining ≡ Ok x) → ⊥
err_ok x f h = cc

pub ok_pair : {A B : Type 0} (p q : A × B) → (let remaining : Result (A × B) Fault = Ok p in remaining ≡ Ok q) → (p.0 ≡ q.0) × (p.1 ≡ q.1)
ok_pair {A} {B} p q h =
    let e : p ≡ q = cc in
    (ap (λ (x : A × B). x.0) e, ap (λ (x : A × B). x.1) e)

pub bind_ok : {A B : Type 0} (r : Result A Fault) (f : A → Result B Fault) (y : B) → (r >>= f) ≡ Ok y → (x : A) × (r ≡ Ok x) × (f x ≡ Ok y)
bind_ok (Ok x) f y h = (x, refl, h)
bind_ok (Err e) f y h = cc

pub bind_err : {A B : Type 0} (r : Result A Fault) (f : A → Result B Fault) (e : Fault) → (r >>= f) ≡ Err e → (r ≡ Err e) ⊎ ((x : A) × (r ≡ Ok x) × (f x ≡ Err e))
bind_err (Ok x) f e h = inr (x, refl, h)
bind_err (Err d) f e h = inl (let same : d ≡ e = cc in ap (λ k. Err k) same)

pub read_map_ok : {A B : Type 0} (f : A → B) (r : Read A) (y : B) (rest : Text) → read_map f r ≡ Ok (y, rest) → (x : A) × (r ≡ Ok (x, rest)) × (f x ≡ y)
read_map_ok f (Ok p) y rest h = let two = ok_pair (f p.0, p.1) (y, rest) h in (p.0, ap (λ s. Ok (p.0, s)) two.1, two.0)
read_map_ok f (Err e) y rest h = cc

pub read_map_err : {A B : Type 0} (f : A → B) (r : Read A) (e : Fault) → read_map f r ≡ Err e → r ≡ Err e
read_map_err f (Ok p) e h = cc
read_map_err f (Err d) e h = let same : d ≡ e = cc in ap (λ k. Err k) same
