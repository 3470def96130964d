-- Names of elements taken apart.
use Rattle.std.proofs.Common.{◌≡◌, ℕ, suc, ◌<◌, ◌+◌, ◌-◌, Bool, true, false, not, ◌==◌, Bor, List, [], ◌∷◌, ◌++◌}
use Rattle.std.proofs.Common.{length, take, drop, reverse, Some, None, refl, sym, ap, ◌∙◌, arith, length-append}
use Rattle.std.proofs.lemmas.Bool.Decides.{nat_tests}
use Rattle.std.proofs.lemmas.List.{reverse-append, reverse-reverse, take-append-le}
use Rattle.std.proofs.lemmas.Str.Pattern.{IsSplitOnceResult, split_once_first}
use Rattle.std.proofs.Math.Seq.{take-length}
use Rattle.std.specs.List.{after_first, before_first, position_or_len}
use Rattle.tcltext.specs.chars.Runs.{Text, take_while, drop_while, begins}
use Rattle.tclrules.specs.Variables.{name_and_index}

abbrev is_no_opening_parenthesis : ℕ → Bool
is_no_opening_parenthesis b = not (b == 40)

begins_last : (f : List ℕ) → begins 41 (reverse (f ++ 41 ∷ [])) ≡ true
begins_last f = rw (reverse-append f (41 ∷ [])) refl

is_close : (b : ℕ) → (b == 41) ≡ true → b ≡ 41
is_close b h = grind (arith, nat_tests)

not_last : (name : List ℕ) → ((f : List ℕ) → name ≡ f ++ 41 ∷ [] → ⊥) → begins 41 (reverse name) ≡ false
not_last name none = go (reverse name) refl
  where
    at : (b : ℕ) (bs : List ℕ) → reverse name ≡ b ∷ bs → (t : Bool) → (b == 41) ≡ t → t ≡ false
    at b bs e false h = refl
    at b bs e true h = absurd (none (reverse bs) (sym (reverse-reverse name) ∙ ap reverse e ∙ reverse-append (b ∷ []) bs ∙ ap (λ x. reverse bs ++ x ∷ []) (is_close b h)))

    go : (r : List ℕ) → reverse name ≡ r → begins 41 r ≡ false
    go [] e = refl
    go (b ∷ bs) e = at b bs e (b == 41) refl

cut_none : (f : List ℕ) → drop_while is_no_opening_parenthesis f ≡ []
    → (take_while is_no_opening_parenthesis (f ++ 41 ∷ []) ≡ f ++ 41 ∷ [])
    × (drop_while is_no_opening_parenthesis (f ++ 41 ∷ []) ≡ [])
cut_none [] h = (refl, refl)
cut_none (c ∷ cs) h = go (cut_none cs) (is_no_opening_parenthesis c) refl
  where
    go : (drop_while is_no_opening_parenthesis cs ≡ []
        → (take_while is_no_opening_parenthesis (cs ++ 41 ∷ []) ≡ cs ++ 41 ∷ [])
        × (drop_while is_no_opening_parenthesis (cs ++ 41 ∷ []) ≡ [])) → (t : Bool) → is_no_opening_parenthesis c ≡ t
        → (take_while is_no_opening_parenthesis (c ∷ cs ++ 41 ∷ []) ≡ c ∷ cs ++ 41 ∷ [])
        × (drop_while is_no_opening_parenthesis (c ∷ cs ++ 41 ∷ []) ≡ [])
    go k true e = let i = k (rw e at h) in (rw e (ap (λ r. c ∷ r) i.0), rw e i.1)
    go k false e = let d : c ∷ cs ≡ [] = rw e at h in cc

cut_some : (f bs : List ℕ) (b : ℕ) → drop_while is_no_opening_parenthesis f ≡ b ∷ bs
    → (take_while is_no_opening_parenthesis (f ++ 41 ∷ []) ≡ take_while is_no_opening_parenthesis f)
    × (drop_while is_no_opening_parenthesis (f ++ 41 ∷ []) ≡ b ∷ bs ++ 41 ∷ [])
cut_some [] bs b h = cc
cut_some (c ∷ cs) bs b h = go (cut_some cs bs b) (is_no_opening_parenthesis c) refl
  where
    go : (drop_while is_no_opening_parenthesis cs ≡ b ∷ bs
        → (take_while is_no_opening_parenthesis (cs ++ 41 ∷ []) ≡ take_while is_no_opening_parenthesis cs)
        × (drop_while is_no_opening_parenthesis (cs ++ 41 ∷ []) ≡ b ∷ bs ++ 41 ∷ [])) → (t : Bool)
        → is_no_opening_parenthesis c ≡ t → (take_while is_no_opening_parenthesis (c ∷ cs ++ 41 ∷ []) ≡ take_while
        is_no_opening_parenthesis (c ∷ cs)) × (drop_while is_no_opening_parenthesis (c ∷ cs ++ 41 ∷ []) ≡ b ∷ bs ++ 41 ∷
        [])
    go k true e = let i = k (rw e at h) in (rw e (ap (λ r. c ∷ r) i.0), rw e i.1)
    go k false e = let d : c ∷ cs ≡ b ∷ bs = rw e at h in (rw e refl, rw e (ap (λ ys. ys ++ 41 ∷ []) d))

is_open : (b : ℕ) → (b == 40) ≡ true → b ≡ 40
is_open b h = grind (arith, nat_tests)

take_next : (n c : ℕ) (cs : List ℕ) → take (1 + n) (c ∷ cs) ≡ c ∷ take n cs
take_next n c cs = let e : 1 + n ≡ suc n = omega arith in rw e refl

drop_next : (n c : ℕ) (cs : List ℕ) → drop (1 + n + 1) (c ∷ cs) ≡ drop (n + 1) cs
drop_next n c cs = let e : 1 + n + 1 ≡ suc (n + 1) = omega arith in rw e refl

-- a text up to its first opening parenthesis, and after it
cut_first : (f : List ℕ) → position_or_len (λ b. b == 40) f < length f
    → (take_while is_no_opening_parenthesis f ≡ before_first (λ b. b == 40) f)
    × (drop_while is_no_opening_parenthesis f ≡ 40 ∷ after_first (λ b. b == 40) f)
cut_first [] h = absurd (omega (arith, h))
cut_first (c ∷ cs) h = go (cut_first cs) (c == 40) refl h
  where
    go : (position_or_len (λ b. b == 40) cs < length cs
        → (take_while is_no_opening_parenthesis cs ≡ before_first (λ b. b == 40) cs)
        × (drop_while is_no_opening_parenthesis cs ≡ 40 ∷ after_first (λ b. b == 40) cs)) → (t : Bool) → (c == 40) ≡ t
        → position_or_len (λ b. b == 40) (c ∷ cs) < length (c ∷ cs)
        → (take_while is_no_opening_parenthesis (c ∷ cs) ≡ before_first (λ b. b == 40) (c ∷ cs))
        × (drop_while is_no_opening_parenthesis (c ∷ cs) ≡ 40 ∷ after_first (λ b. b == 40) (c ∷ cs))
    go k true e l = (rw e refl, rw e (ap (λ x. x ∷ cs) (is_open c e)))
    go k false e l =
        let n = position_or_len (λ b. b == 40) cs in
        let i = k (omega (arith, rw e at l)) in
        (rw e (ap (λ r. c ∷ r) i.0 ∙ sym (take_next n c cs)), rw e (i.1 ∙ ap (λ r. 40 ∷ r) (sym (drop_next n c cs))))

cut_nowhere : (f : List ℕ) → position_or_len (λ b. b == 40) f ≡ length f → drop_while is_no_opening_parenthesis f ≡ []
cut_nowhere [] h = refl
cut_nowhere (c ∷ cs) h = go (cut_nowhere cs) (c == 40) refl h
  where
    go : (position_or_len (λ b. b == 40) cs ≡ length cs → drop_while is_no_opening_parenthesis cs ≡ []) → (t : Bool)
        → (c == 40) ≡ t → position_or_len (λ b. b == 40) (c ∷ cs) ≡ length (c ∷ cs)
        → drop_while is_no_opening_parenthesis (c ∷ cs) ≡ []
    go k true e l = absurd (omega (arith, rw e at l))
    go k false e l = rw e (k (omega (arith, rw e at l)))

take_last : (bs : List ℕ) → take (length (bs ++ 41 ∷ []) - 1) (bs ++ 41 ∷ []) ≡ bs
take_last bs =
    let e : length (bs ++ 41 ∷ []) - 1 ≡ length bs = omega (arith, length-append bs (41 ∷ [])) in
    rw e (take-append-le (length bs) bs (41 ∷ []) (omega arith) ∙ take-length bs)

-- a name that ends with no parenthesis
pub apart_none : (name : Text) → ((f : List ℕ) → name ≡ f ++ 41 ∷ [] → ⊥) → (name, None) ≡ name_and_index name
apart_none name h = rw (not_last name h) refl

-- one in which none opens
pub apart_whole : (name f : Text) → name ≡ f ++ 41 ∷ [] → IsSplitOnceResult 40 f None → (name, None) ≡ name_and_index name
apart_whole name f e h = let c = cut_none f (cut_nowhere f (split_once_first 40 f None h (omega arith))) in rw e (rw (begins_last f, c.0, c.1) refl)

-- and an element
pub apart_at : (name f : Text) (array index : Bor Text) → name ≡ f ++ 41 ∷ [] → IsSplitOnceResult 40 f (Some (array, index)) → (array.now, Some index.now) ≡ name_and_index name
apart_at name f array index e h =
    let q = split_once_first 40 f (Some (array, index)) h (omega arith) in
    let d = cut_first f q.0 in
    let c = cut_some f index.now 40 (d.1 ∙ ap (λ i. 40 ∷ i) (sym q.2)) in
    rw e (rw (begins_last f, c.0, c.1, take_last index.now, d.0, q.1) refl)
