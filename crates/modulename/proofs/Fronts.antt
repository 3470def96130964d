-- A name against a module, by what follows it there.
use Rattle.std.proofs.Common.{◌≡◌, ℕ, Bool, true, false, ◌&&◌, nat_eq, List, [], ◌∷◌, length, take, drop, get_or, ◌<◌}
use Rattle.std.proofs.Common.{◌≤◌, arith, refl, sym}
use Rattle.std.specs.Cmp.Lexicographic.{pointwise}
use Rattle.std.proofs.lemmas.Bool.{false≢true}
use Rattle.modulename.specs.ModuleName.{means}

-- nothing follows, or a slash
abbrev pub ends : List ℕ → Bool
ends [] = true
ends (b ∷ bs) = nat_eq b 47

both : (a b : Bool) → (a && b) ≡ true → (a ≡ true) × (b ≡ true)
both true b e = (refl, e)
both false b e = absurd (false≢true e)

pub means-front : (name full : List ℕ) → pointwise nat_eq (take (length name) full) name ≡ true → means name full ≡ ends (drop (length name) full)
means-front [] [] e = refl
means-front [] (b ∷ bs) e = refl
means-front (c ∷ cs) [] e = absurd (false≢true e)
means-front (c ∷ cs) (b ∷ bs) e =
    let each = both (nat_eq b c) (pointwise nat_eq (take (length cs) bs) cs) e in
    rw (each.0) (means-front cs bs each.1)

apart : (t a b : Bool) → (a ≡ false → b ≡ false) → (t && a) ≡ false → (t && b) ≡ false
apart true a b more e = more e
apart false a b more e = refl

pub means-apart : (name full : List ℕ) → pointwise nat_eq (take (length name) full) name ≡ false → means name full ≡ false
means-apart [] [] e = absurd (false≢true (sym e))
means-apart [] (b ∷ bs) e = absurd (false≢true (sym e))
means-apart (c ∷ cs) [] e = refl
means-apart (c ∷ cs) (b ∷ bs) e =
    apart (nat_eq b c) (pointwise nat_eq (take (length cs) bs) cs) (means cs bs) (means-apart cs bs) e

pub ends-none : (xs : List ℕ) → length xs < 1 → ends xs ≡ true
ends-none [] h = refl
ends-none (b ∷ bs) h = absurd (omega arith)

pub ends-some : (xs : List ℕ) → 1 ≤ length xs → ends xs ≡ nat_eq (get_or xs 0 0) 47
ends-some [] h = absurd (omega arith)
ends-some (b ∷ bs) h = refl
