-- What a module shows by itself: its first record that unloading doesn't undo, and uses that differ.
use Rattle.std.proofs.Common.{◌≡◌, inl, inr, ℕ, ◌+◌, ◌-◌, ◌<◌, ◌≤◌, Bool, true, false, not, ◌&&◌, ◌||◌, List, [], ◌∷◌}
use Rattle.std.proofs.Common.{◌++◌, map, find, length, get_or, take, Some, None, refl, sym, ap, ◌∙◌, subst, arith, zero}
use Rattle.std.proofs.Common.{suc, string_bytes, append_assoc, option_to_list, Option}
use Rattle.std.specs.Prelude.{bytes_eq, position}
use Rattle.std.specs.List.{list_all, position_from}
use Rattle.std.proofs.lemmas.Bool.{false≢true, and_parts, and_from}
use Rattle.std.proofs.lemmas.Iterator.Adapters.{position_from-zero}
use Rattle.std.proofs.lemmas.List.{map-append}
use Rattle.envvars.specs.Fields.{colon}
use Rattle.envvars.proofs.TextLemmas.{same_text}
use Rattle.reversal.specs.VariableUses.{VariableUse, Pathed, UsedVariable}
use Rattle.audit_certificate.specs.declared.uses.UsedVariable as code
use Rattle.audit_certificate.specs.RecordUses.{IsAmong, modulepath, is_read, same_use, is_same_use}
use Rattle.audit_certificate.specs.UseViews.{use_view, used_view}
use Rattle.audit_certificate.proofs.UsedLemmas.{by_test}
use Rattle.audit_site.specs.declared.unlike.UnlikeUses.{UnlikeUses}
use Rattle.audit_site.specs.Walks.{AreUsedTwice}
use Rattle.audit_site.proofs.AmongLemmas.{taken}

-- ---- the first that fails a test

none_from : {X : Type 0} (q : X → Bool) (xs : List X) (k : ℕ) → position_from (λ x. not (q x)) k xs ≡ None → list_all q xs ≡ true
none_from q [] k e = refl
none_from q (x ∷ xs) k e = by_test (q x) _
    (λ t. and_from (q x) (list_all q xs) t (none_from q xs (k + 1) (rw t at e)))
    (λ f. absurd (let s : Some k ≡ None = rw f at e in cc))

pub none_fails : {X : Type 0} (q : X → Bool) (xs : List X) → position (λ x. not (q x)) xs ≡ None → list_all q xs ≡ true
none_fails q xs e = none_from q xs 0 (sym (position_from-zero (λ x. not (q x)) xs) ∙ e)

place_from : {X : Type 0} (q : X → Bool) (xs : List X) (k j : ℕ) → position_from (λ x. not (q x)) k xs ≡ Some j → list_all q xs ≡ false
place_from q [] k j e = absurd (cc)
place_from q (x ∷ xs) k j e = by_test (q x) _ (λ t. rw t (place_from q xs (k + 1) j (rw t at e))) (λ f. rw f refl)

pub place_fails : {X : Type 0} (q : X → Bool) (xs : List X) (j : ℕ) → position (λ x. not (q x)) xs ≡ Some j → list_all q xs ≡ false
place_fails q xs j e = place_from q xs 0 j (sym (position_from-zero (λ x. not (q x)) xs) ∙ e)

record IsFirst {X : Type 0} (q : X → Bool) (xs : List X) (k j : ℕ) : Type 0 where
  far : k ≤ j
  inside : j - k < length xs
  found : (r : X) → r ≡ get_or xs (j - k) r → find (λ x. not (q x)) xs ≡ Some r

some_is : (k j : ℕ) → Some k ≡ Some j → k ≡ j
some_is k j e = cc

first_from : {X : Type 0} (q : X → Bool) (xs : List X) (k j : ℕ) → position_from (λ x. not (q x)) k xs ≡ Some j → IsFirst q xs k j
first_from q [] k j e = absurd (cc)
first_from q (x ∷ xs) k j e = by_test (q x) _
    (λ t. let i = first_from q xs (k + 1) j (rw t at e) in
    let s : j - k ≡ suc (j - (k + 1)) = omega (arith, i.far) in
    record {
      far = omega (arith, i.far);
      inside = omega (arith, i.far, i.inside);
      found = λ r h. rw t (i.found r (rw s at h));
    })
    (λ f. let same : k ≡ j = some_is k j (rw f at e) in
    let z : j - k ≡ 0 = omega arith in
    record { far = omega arith; inside = omega arith; found = λ r h. rw f (ap (λ y. Some y) (sym (rw z at h))) })

pub first_within : {X : Type 0} (q : X → Bool) (xs : List X) (j : ℕ) → position (λ x. not (q x)) xs ≡ Some j → j < length xs
first_within q xs j e = let i = first_from q xs 0 j (sym (position_from-zero (λ x. not (q x)) xs) ∙ e) in omega (arith, i.inside)

pub first_found : {X : Type 0} (q : X → Bool) (xs : List X) (j : ℕ) (r : X) → position (λ x. not (q x)) xs ≡ Some j → r ≡ get_or xs j r → find (λ x. not (q x)) xs ≡ Some r
first_found q xs j r e h = (first_from q xs 0 j (sym (position_from-zero (λ x. not (q x)) xs) ∙ e)).found r (let z : j - 0 ≡ j = omega arith in subst (λ (k : ℕ). r ≡ get_or xs k r) (sym z) h)

pub found_seen : {X Y : Type 0} (q : Y → Bool) (view : X → Y) (xs : List X) (r : X) → find (λ x. not (q (view x))) xs ≡ Some r → find (λ y. not (q y)) (map view xs) ≡ Some (view r)
found_seen q view [] r e = absurd (cc)
found_seen q view (x ∷ xs) r e = by_test (q (view x)) _
    (λ t. rw t (found_seen q view xs r (rw t at e)))
    (λ f. rw f (let s : Some x ≡ Some r = rw f at e in ap (λ y. Some (view y)) (let k : x ≡ r = cc in k)))

-- what is found is a member that fails
pub found_fails : {X : Type 0} (q : X → Bool) (xs : List X) (r : X) → find (λ x. not (q x)) xs ≡ Some r → IsAmong r xs × (q r ≡ false)
found_fails q [] r e = absurd (cc)
found_fails q (x ∷ xs) r e = by_test (q x) _
    (λ t. let i = found_fails q xs r (rw t at e) in (inr i.0, i.1))
    (λ f. let s : Some x ≡ Some r = rw f at e in let k : x ≡ r = cc in (inl (sym k), ap q (sym k) ∙ f))

pub not_found : {X : Type 0} (q : X → Bool) (xs : List X) → find (λ x. not (q x)) xs ≡ None → list_all q xs ≡ true
not_found q [] e = refl
not_found q (x ∷ xs) e = by_test (q x) _
    (λ t. and_from (q x) (list_all q xs) t (not_found q xs (rw t at e)))
    (λ f. absurd (let s : Some x ≡ None = rw f at e in cc))

-- ---- one list after another

pub found_first : {X : Type 0} (p : X → Bool) (xs ys : List X) (x : X) → find p xs ≡ Some x → find p (xs ++ ys) ≡ Some x
found_first p [] ys x e = absurd (cc)
found_first p (z ∷ xs) ys x e = by_test (p z) _
    (λ t. rw t (rw t at e))
    (λ f. rw f (found_first p xs ys x (rw f at e)))

pub found_second : {X : Type 0} (p : X → Bool) (xs ys : List X) → find p xs ≡ None → find p (xs ++ ys) ≡ find p ys
found_second p [] ys e = refl
found_second p (z ∷ xs) ys e = by_test (p z) _
    (λ t. absurd (let s : Some z ≡ None = rw t at e in cc))
    (λ f. rw f (found_second p xs ys (rw f at e)))

-- ---- uses that differ

-- MODULEPATH as a path with colons
abbrev pub directories : UsedVariable
directories = (modulepath, Pathed colon)

-- it is as each of the uses is, and as that of the directories
abbrev pub suits : List UsedVariable → UsedVariable → Bool
suits ps p = is_same_use p directories && list_all (is_same_use p) ps

unlike_parts : (r b s : Bool) → (r || (not b || s)) ≡ false → (r ≡ false) × (b ≡ true) × (s ≡ false)
unlike_parts true b s h = absurd (false≢true (sym h))
unlike_parts false true s h = (refl, refl, h)
unlike_parts false false s h = absurd (false≢true (sym h))

pub are_unlike : (ps : List UsedVariable) (p q : UsedVariable) (unlike : UnlikeUses) → IsAmong p ps → IsAmong q (directories ∷ ps) → is_same_use p q ≡ false
    → string_bytes unlike.variable ≡ p.0 → use_view unlike.one ≡ p.1 → use_view unlike.other ≡ q.1 → AreUsedTwice ps unlike
are_unlike ps p q unlike a b h v x y =
    let u = unlike_parts (is_read p.1) (bytes_eq p.0 q.0) (same_use p.1 q.1) h in
    let name : p.0 ≡ q.0 = same_text p.0 q.0 u.1 in
    let one : p ≡ (string_bytes unlike.variable, use_view unlike.one) = λ i. (sym v i, sym x i) in
    let other : q ≡ (string_bytes unlike.variable, use_view unlike.other) = λ i. (sym (v ∙ name) i, sym y i) in
    record {
      first = subst (λ (k : UsedVariable). IsAmong k ps) one a;
      used = ap is_read x ∙ u.0;
      second = subst (λ (k : UsedVariable). IsAmong k (directories ∷ ps)) other b;
      differ = ap (λ (k : VariableUse). same_use k (use_view unlike.other)) x ∙ (ap (same_use p.1) y ∙ u.2);
    }

-- one use more is as all are
pub suits_more : (ps : List UsedVariable) (used : List code.UsedVariable) (i : ℕ) (one : code.UsedVariable) → i < length used → one ≡ get_or used i one
    → list_all (suits ps) (map used_view (take i used)) ≡ true → suits ps (used_view one) ≡ true → list_all (suits ps) (map used_view (take (i + 1) used)) ≡ true
suits_more ps used i one l e before h =
    ap (λ (us : List code.UsedVariable). list_all (suits ps) (map used_view us)) (taken used i one l e)
    ∙ (ap (list_all (suits ps)) (map-append used_view (take i used) (one ∷ [])) ∙ pushed (map used_view (take i used)) before)
  where
    pushed : (qs : List UsedVariable) → list_all (suits ps) qs ≡ true → list_all (suits ps) (qs ++ used_view one ∷ []) ≡ true
    pushed [] k = and_from (suits ps (used_view one)) true h refl
    pushed (q ∷ qs) k = let a = and_parts (suits ps q) (list_all (suits ps) qs) k in and_from (suits ps q) _ a.0 (pushed qs a.1)

pub item_among : {X : Type 0} (xs : List X) (i : ℕ) (x : X) → i < length xs → x ≡ get_or xs i x → IsAmong x xs
item_among [] i x l e = absurd (omega arith)
item_among (y ∷ xs) zero x l e = inl e
item_among (y ∷ xs) (suc i) x l e = inr (item_among xs i x (omega arith) e)

-- ---- standings, one after another

pub gathered : {X : Type 0} (a b c : Option X) (none first second all : List X) → none ≡ [] → first ≡ none ++ option_to_list a → second ≡ first ++ option_to_list b
    → all ≡ second ++ option_to_list c → all ≡ option_to_list a ++ (option_to_list b ++ option_to_list c)
gathered {X} a b c none first second all n f s e =
    let begun : first ≡ option_to_list a = f ∙ ap (λ (l : List X). l ++ option_to_list a) n in
    let two : second ≡ option_to_list a ++ option_to_list b = s ∙ ap (λ (l : List X). l ++ option_to_list b) begun in
    e ∙ (ap (λ (l : List X). l ++ option_to_list c) two ∙ append_assoc (option_to_list a) (option_to_list b) (option_to_list c))
