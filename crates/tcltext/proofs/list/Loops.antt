-- Loops that read one item after another.
use Rattle.std.proofs.Common.{◌≡◌, ℕ, zero, suc, ◌<◌, List, [], ◌∷◌, ◌++◌, length, Bool, true, false, Ok, Err, refl}
use Rattle.std.proofs.Common.{sym, ap, ◌∙◌, arith, append_assoc, append-nil}
use Rattle.tcltext.specs.declared.chars.fault.Fault.{Fault}
use Rattle.tcltext.specs.chars.Reading.{Read, read_map, ◌>>=◌, items_at, items_step}

module _ {X : Type 0} (skip : List ℕ → List ℕ) (ends : List ℕ → Bool) (one : List ℕ → Read X) where
  pub items-end : (n : ℕ) (bs : List ℕ) → 0 < n → ends (skip bs) ≡ true → items_at skip ends one n bs ≡ Ok ([], skip bs)
  items-end zero bs h e = absurd (omega arith)
  items-end (suc n) bs h e = ap (items_step one (items_at skip ends one n) (skip bs)) e

  pub items-going : (n : ℕ) (bs : List ℕ) → ends (skip bs) ≡ false → items_at skip ends one (suc n) bs ≡ (one (skip bs) >>= (λ x. read_map (λ xs. x.0 ∷ xs) (items_at skip ends one n x.1)))
  items-going n bs e = ap (items_step one (items_at skip ends one n) (skip bs)) e

  pub items-fail : (n : ℕ) (bs : List ℕ) (f : Fault) → 0 < n → ends (skip bs) ≡ false → one (skip bs) ≡ Err f → items_at skip ends one n bs ≡ Err f
  items-fail zero bs f h e was = absurd (omega arith)
  items-fail (suc n) bs f h e was = items-going n bs e ∙ ap (λ r. r >>= (λ x. read_map (λ xs. x.0 ∷ xs) (items_at skip ends one n x.1))) was

  pub items-more : (n : ℕ) (bs : List ℕ) (x : X) (r : List ℕ) → ends (skip bs) ≡ false → one (skip bs) ≡ Ok (x, r)
      → items_at skip ends one (suc n) bs ≡ read_map (λ xs. x ∷ xs) (items_at skip ends one n r)
  items-more n bs x r e was = items-going n bs e ∙ ap (λ r. r >>= (λ x. read_map (λ xs. x.0 ∷ xs) (items_at skip ends one n x.1))) was

  -- what was found so far and what is read from the rest are what is read
  pub record SoFar (bs : List ℕ) (found : List X) (rest : List ℕ) : Type 0 where
    pub turns : ℕ
    pub enough : length rest < turns
    pub whole : items_at skip ends one (suc (length bs)) bs ≡ read_map (λ xs. found ++ xs) (items_at skip ends one turns rest)

pub read_map-same : {X : Type 0} (r : Read (List X)) → r ≡ read_map (λ xs. [] ++ xs) r
read_map-same (Ok x) = refl
read_map-same (Err f) = refl

pub read_map-push : {X : Type 0} (found : List X) (x : X) (r : Read (List X)) → read_map (λ xs. found ++ xs) (read_map (λ xs. x ∷ xs) r) ≡ read_map (λ xs. (found ++ x ∷ []) ++ xs) r
read_map-push found x (Ok p) = ap (λ xs. Ok (xs, p.1)) (sym (append_assoc found (x ∷ []) p.0))
read_map-push found x (Err f) = refl

module _ {X : Type 0} (skip : List ℕ → List ℕ) (ends : List ℕ → Bool) (one : List ℕ → Read X) where
  pub so_far-none : (bs : List ℕ) → SoFar skip ends one bs [] bs
  so_far-none bs = record { turns = suc (length bs); enough = omega arith; whole = read_map-same _ }

  pub so_far-more : (bs : List ℕ) (found : List X) (rest : List ℕ) (x : X) (after : List ℕ) → ends (skip rest) ≡ false
      → one (skip rest) ≡ Ok (x, after) → length after < length rest → SoFar skip ends one bs found rest
      → SoFar skip ends one bs (found ++ x ∷ []) after
  so_far-more bs found rest x after e was less s = more s.turns s.enough s.whole where
    more : (n : ℕ) → length rest < n → items_at skip ends one (suc (length bs)) bs ≡ read_map (λ xs. found ++ xs) (items_at skip ends one n rest) → SoFar skip ends one bs (found ++ x ∷ []) after
    more zero h w = absurd (omega arith)
    more (suc n) h w = record {
      turns = n;
      enough = omega arith;
      whole = w ∙ ap (read_map (λ xs. found ++ xs)) (items-more skip ends one n rest x after e was) ∙ read_map-push found x _;
    }

  pub so_far-end : (bs : List ℕ) (found : List X) (rest : List ℕ) → ends (skip rest) ≡ true → SoFar skip ends one bs found rest → items_at skip ends one (suc (length bs)) bs ≡ Ok (found, skip rest)
  so_far-end bs found rest e s =
      let enough = s.enough in
      s.whole ∙ ap (read_map (λ xs. found ++ xs)) (items-end skip ends one s.turns rest (omega (arith, s.enough)) e) ∙ ap (λ xs. Ok (xs, skip rest)) (append-nil found)

  pub so_far-fail : (bs : List ℕ) (found : List X) (rest : List ℕ) (f : Fault) → ends (skip rest) ≡ false
      → one (skip rest) ≡ Err f → SoFar skip ends one bs found rest
      → items_at skip ends one (suc (length bs)) bs ≡ Err f
  so_far-fail bs found rest f e was s = s.whole ∙ ap (read_map (λ xs. found ++ xs)) (items-fail skip ends one s.turns rest f (omega (arith, s.enough)) e was)
