-- A step that went on: what its parts were.
use Rattle.std.proofs.Common.{◌≡◌, Result, Ok, Err, Option, Some, None, refl, ap, sym, ◌∙◌}
use Rattle.filetree.specs.Relations.{After, Then, IsOne}
use Rattle.modulefile.specs.Results.{◌>>=◌}
use Rattle.requests.specs.Refusals.{refused_as, unless, RefusedAs}

pub bound : {A B R : Type 0} (r : Result A R) (f : A → Result B R) (b : B) → (r >>= f) ≡ Ok b → (a : A) × (r ≡ Ok a) × (f a ≡ Ok b)
bound (Ok a) f b e = (a, refl, e)
bound (Err r) f b e = absurd (cc)

pub ok_of_refused_as : {A R S : Type 0} (f : R → S) (r : Result A R) (a : A) → refused_as f r ≡ Ok a → r ≡ Ok a
ok_of_refused_as f (Ok x) a e = cc
ok_of_refused_as f (Err r) a e = absurd (cc)

pub allowed : {A R : Type 0} (o : Option R) (r : Result A R) (a : A) → unless o r ≡ Ok a → (o ≡ None) × (r ≡ Ok a)
allowed None r a e = (refl, e)
allowed (Some x) r a e = absurd (cc)

went_at : {A B R : Type 0} (First : Result A R → Type 0) (Rest : A → Result B R → Type 0) (y : B) (first : Result A R) → First first → After Rest first (Ok y) → (x : A) × First (Ok x) × Rest x (Ok y)
went_at First Rest y (Ok x) f a = (x, f, a)
went_at First Rest y (Err r) f a = absurd (let e : Ok y ≡ Err r = a in cc)

pub went_on : {A B R : Type 0} (First : Result A R → Type 0) (Rest : A → Result B R → Type 0) (y : B) → Then First Rest (Ok y) → (x : A) × First (Ok x) × Rest x (Ok y)
went_on First Rest y h = went_at First Rest y h.0 h.1 h.2

pub one_refused_as : {A R S : Type 0} {f : R → S} {First : Result A R → Type 0} → IsOne First → IsOne (RefusedAs f First)
one_refused_as {f = f} u o p h k = h.2 ∙ (ap (refused_as f) (u h.0 k.0 h.1 k.1) ∙ sym k.2)
