-- Lists of texts, parted, joined and each once.
use Rattle.std.proofs.Common.{Vec, Global, vec_len, ◌≡◌, ℕ, Bool, true, false, cond, not, List, [], ◌∷◌, ◌++◌, refl}
use Rattle.std.proofs.Common.{sym, ap, ◌∙◌, suc, ◌||◌, ◌&&◌, ◌+◌, ◌-◌, ◌<◌, ◌≤◌, arith, length, take, get_or}
use Rattle.std.proofs.Common.{append-nil, append_assoc, take_all, Bor, nat_eq, drop as cut}
use Rattle.std.specs.Prelude.{flat_map, bytes_eq, filter, if◌then◌else◌}
use Rattle.std.proofs.lemmas.Bool.Decides.{nat_tests}
use Rattle.std.proofs.lemmas.List.{drop_more}
use Rattle.std.specs.List.{join_with_byte, list_any}
use Rattle.envvars.specs.Texts.{Text, has, slice_texts}
use Rattle.envvars.specs.Fields.{without, are_distinct, without_repeats}
use Rattle.envvars.proofs.TextLemmas.{has-without, bytes_eq-symmetric, or_left, or_right, has-push, filter-without}
use Rattle.envvars.proofs.EditLemmas.{both_true, and_both, not_is}
use Rattle.std.proofs.Math.ListN.{length}
use Rattle.indexmap.specs.IndexSet.{insert_key}

-- Lists of texts, parted, joined and each once.

-- each with a separator before it
abbrev pub after_separators : ℕ → List Text → Text
after_separators c xs = flat_map (λ x. c ∷ x) xs

pub join-cons : (c : ℕ) (x : Text) (xs : List Text) → join_with_byte c (x ∷ xs) ≡ x ++ after_separators c xs
join-cons c x [] = sym (append-nil x)
join-cons c x (y ∷ ys) = ap (λ (l : Text). x ++ (c ∷ l)) (join-cons c y ys)

-- the first part, and each of the others with a separator before it
pub join-init : (c : ℕ) (text : Text) (d : Bor Text) (xs : List (Bor Text)) → 1 ≤ length xs → text ≡ (get_or xs 0 d).now
    → text ++ after_separators c (slice_texts (take (length xs - 1) (cut 1 xs))) ≡ join_with_byte c (slice_texts xs)
join-init c text d [] l e = absurd (omega arith)
join-init c text d (x ∷ xs) l e =
    let w : take (length (x ∷ xs) - 1) xs ≡ xs = take_all _ xs (omega arith) in
    rw (e, w) (sym (join-cons c x.now (slice_texts xs)))

-- each once, and those that stand once
has-drop_at : (b c d : Bool) (x y : Text) → bytes_eq x y ≡ d → (d ≡ true → b ≡ c) → (d ≡ false → b ≡ (not d && c)) → (d || (not d && b)) ≡ (d || c)
has-drop_at b c true x y e f g = refl
has-drop_at b c false x y e f g = g refl

pub has-without_repeats : (x : Text) (xs : List Text) → has x (without_repeats xs) ≡ has x xs
has-without_repeats x [] = refl
has-without_repeats x (y ∷ ys) =
    ap (λ (b : Bool). bytes_eq x y || b) (has-without (without_repeats ys) y x)
    ∙ has-drop_at (has x (without_repeats ys)) (has x ys) (bytes_eq x y) x y refl (λ e. has-without_repeats x ys) (λ e. rw e (has-without_repeats x ys))

fewer_at : (b : Bool) (m n : ℕ) (y : Text) (ys : List Text) → m ≡ length ys → m ≤ n → length (cond b (y ∷ ys) ys) ≤ suc n
fewer_at true m n y ys e h = omega arith
fewer_at false m n y ys e h = omega arith

without_fewer : (x : Text) (xs : List Text) → length (without x xs) ≤ length xs
without_fewer x [] = omega arith
without_fewer x (y ∷ ys) = fewer_at (not (bytes_eq y x)) _ (length ys) y (without x ys) refl (without_fewer x ys)

firsts_fewer : (xs : List Text) → length (without_repeats xs) ≤ length xs
firsts_fewer [] = omega arith
firsts_fewer (x ∷ xs) = omega (arith, without_fewer x (without_repeats xs), firsts_fewer xs)

pub without-absent : (x : Text) (xs : List Text) → has x xs ≡ false → without x xs ≡ xs
without-absent x [] h = refl
without-absent x (y ∷ ys) h =
    let e : bytes_eq y x ≡ false = bytes_eq-symmetric y x ∙ or_left (bytes_eq x y) (has x ys) h in
    rw e (ap (λ (l : List Text). y ∷ l) (without-absent x ys (or_right (bytes_eq x y) (has x ys) h)))

strictly_at : (b : Bool) (y : Text) (xs : List Text) (n : ℕ) → length xs ≤ n → (b ≡ false → length xs < n) → length (cond (not b) (y ∷ xs) xs) < suc n
strictly_at true y xs n h k = omega arith
strictly_at false y xs n h k = let l : length xs < n = k refl in omega arith

strictly_fewer : (x : Text) (xs : List Text) → has x xs ≡ true → length (without x xs) < length xs
strictly_fewer x [] h = cc
strictly_fewer x (y ∷ ys) h =
    strictly_at (bytes_eq y x) y (without x ys) (length ys) (without_fewer x ys)
    (λ e. strictly_fewer x ys (rw (bytes_eq-symmetric x y ∙ e) at h))

suc_eq_at : (m n : ℕ) (t : Bool) → nat_eq m n ≡ t → nat_eq (suc m) (suc n) ≡ t
suc_eq_at m n true h = grind (arith, nat_tests)
suc_eq_at m n false h = grind (arith, nat_tests)

count_at : (b t : Bool) (x : Text) (fs ws : List Text) (n : ℕ) → (b ≡ true → length ws < n) → (b ≡ false → ws ≡ fs) → nat_eq (length fs) n ≡ t → nat_eq (suc (length ws)) (suc n) ≡ (not b && t)
count_at true t x fs ws n f g h = let l : length ws < n = f refl in grind (arith, nat_tests)
count_at false t x fs ws n f g h = rw (g refl) (suc_eq_at (length fs) n t h)

-- none stands twice among fewer
has-filter : (q : Text → Bool) (x : Text) (xs : List Text) → has x xs ≡ false → has x (filter q xs) ≡ false
has-filter q x [] h = refl
has-filter q x (y ∷ ys) h = at (q y) (or_left (bytes_eq x y) (has x ys) h) (has-filter q x ys (or_right (bytes_eq x y) (has x ys) h))
  where
    at : (b : Bool) → bytes_eq x y ≡ false → has x (filter q ys) ≡ false → has x (cond b (y ∷ filter q ys) (filter q ys)) ≡ false
    at true e r = rw e r
    at false e r = r

pub distinct-filter : (q : Text → Bool) (xs : List Text) → are_distinct xs ≡ true → are_distinct (filter q xs) ≡ true
distinct-filter q [] h = refl
distinct-filter q (x ∷ xs) h =
    let k = both_true (not (has x xs)) (are_distinct xs) h in
    at (q x) (has-filter q x xs (not_is (has x xs) k.0)) (distinct-filter q xs k.1)
  where
    at : (b : Bool) → has x (filter q xs) ≡ false → are_distinct (filter q xs) ≡ true → are_distinct (cond b (x ∷ filter q xs) (filter q xs)) ≡ true
    at true f r = and_both (not (has x (filter q xs))) (are_distinct (filter q xs)) (rw f refl) r
    at false f r = r

-- as many are left as there were, where none stands twice
pub distinct-count : (xs : List Text) → nat_eq (length (without_repeats xs)) (length xs) ≡ are_distinct xs
distinct-count [] = refl
distinct-count (x ∷ xs) =
    count_at (has x xs) (are_distinct xs) x (without_repeats xs) (without x (without_repeats xs)) (length xs)
    (λ e. let l : length (without x (without_repeats xs)) < length (without_repeats xs) = strictly_fewer x (without_repeats xs) (has-without_repeats x xs ∙ e) in omega (arith, firsts_fewer xs))
    (λ e. without-absent x (without_repeats xs) (has-without_repeats x xs ∙ e))
    (distinct-count xs)

length-slice_texts : (zs : List (Bor Text)) → length (slice_texts zs) ≡ length zs
length-slice_texts [] = refl
length-slice_texts (z ∷ zs) = ap suc (length-slice_texts zs)

pub distinct-from : (n : ℕ) (ks xs : List (Bor Text)) → slice_texts ks ≡ without_repeats (slice_texts xs) → n ≡ length ks → nat_eq n (length xs) ≡ are_distinct (slice_texts xs)
distinct-from n ks xs e h =
    let k : n ≡ length (without_repeats (slice_texts xs)) = h ∙ sym (length-slice_texts ks) ∙ ap length e in
    ap (λ (i : ℕ). nat_eq i (length xs)) k ∙ ap (nat_eq (length (without_repeats (slice_texts xs)))) (sym (length-slice_texts xs)) ∙ distinct-count (slice_texts xs)

take_whole : {A : Type 0} (xs : List A) (n : ℕ) → length xs ≤ n → take n xs ≡ xs
take_whole xs n h = take_all n xs h

slice_texts-push : (xs : List (Bor Text)) (x : Bor Text) → slice_texts (xs ++ x ∷ []) ≡ slice_texts xs ++ x.now ∷ []
slice_texts-push [] x = refl
slice_texts-push (y ∷ ys) x = ap (λ (l : List Text). y.now ∷ l) (slice_texts-push ys x)

-- an element is put at the end unless it is there
abbrev with_new : List Text → Text → List Text
with_new xs x = if has x xs then xs else xs ++ x ∷ []

-- one more element is looked at
filter_twice_at : (a b : Bool) (f : Text) (ws vs : List Text) (p : Text → Bool) → p f ≡ not b → filter p ws ≡ vs → filter p (cond (not a) (f ∷ ws) ws) ≡ cond (not (a || b)) (f ∷ vs) vs
filter_twice_at true b f ws vs p e h = h
filter_twice_at false true f ws vs p e h = rw e h
filter_twice_at false false f ws vs p e h = rw e (ap (λ (l : List Text). f ∷ l) h)

filter_twice : (x : Text) (ks fs : List Text) → filter (λ y. not (has y ks)) (without x fs) ≡ filter (λ y. not (has y (ks ++ x ∷ []))) fs
filter_twice x ks [] = refl
filter_twice x ks (f ∷ fs) =
    filter_twice_at (bytes_eq f x) (has f ks) f (without x fs) _ (λ y. not (has y ks)) refl (filter_twice x ks fs)
    ∙ ap (λ (b : Bool). cond (not b) (f ∷ filter (λ y. not (has y (ks ++ x ∷ []))) fs) (filter (λ y. not (has y (ks ++ x ∷ []))) fs)) (sym (has-push ks x f))

firsts_at : (t : Bool) (ks fs : List Text) (x : Text) → has x ks ≡ t
    → (let new : List Text = cond t ks (ks ++ x ∷ []) in new ++ filter (λ y. not (has y new)) fs) ≡ ks
    ++ cond (not t) (x ∷ filter (λ y. not (has y ks)) (without x fs)) (filter (λ y. not (has y ks)) (without x fs))
firsts_at true ks fs x h = ap (λ (l : List Text). ks ++ l) (sym (filter-without (λ y. not (has y ks)) x fs (rw h refl)))
firsts_at false ks fs x h = rw (append_assoc, filter_twice x ks fs) refl

pub without_repeats-step : (ks xs : List Text) (x : Text) → with_new ks x
    ++ filter (λ y. not (has y (with_new ks x))) (without_repeats xs) ≡ ks
    ++ filter (λ y. not (has y ks)) (without_repeats (x ∷ xs))
without_repeats-step ks xs x = firsts_at (has x ks) ks (without_repeats xs) x refl

filter_every : (xs : List Text) → filter (λ y. not (has y [])) xs ≡ xs
filter_every [] = refl
filter_every (x ∷ xs) = ap (λ (l : List Text). x ∷ l) (filter_every xs)

pub without_repeats-start : (ds xs : List Text) → ds ≡ [] → ds ++ filter (λ y. not (has y ds)) xs ≡ xs
without_repeats-start ds xs e = rw e (filter_every xs)

pub without_repeats-turn : (ks ms all : List Text) (xs : List (Bor Text)) (i : ℕ) (d : Bor Text) → i < length xs → ms ≡ with_new ks (get_or xs i d).now
    → ks ++ filter (λ y. not (has y ks)) (without_repeats (slice_texts (cut i xs))) ≡ all → ms ++ filter (λ y. not (has y ms)) (without_repeats (slice_texts (cut (i + 1) xs))) ≡ all
without_repeats-turn ks ms all xs i d l e h =
    rw e (without_repeats-step ks (slice_texts (cut (i + 1) xs)) (get_or xs i d).now
    ∙ ap (λ (ys : List (Bor Text)). ks ++ filter (λ y. not (has y ks)) (without_repeats (slice_texts ys))) (sym (drop_more xs i d l)) ∙ h)

inserted : (ks : List (Bor Text)) (x : Bor Text) (t : Bool) → has x.now (slice_texts ks) ≡ t → slice_texts (cond t ks (ks ++ x ∷ [])) ≡ with_new (slice_texts ks) x.now
inserted ks x true h = rw h refl
inserted ks x false h = rw h (slice_texts-push ks x)

has_key : (x : Bor Text) (ks : List (Bor Text)) → list_any (λ k. bytes_eq x.now k.now) ks ≡ has x.now (slice_texts ks)
has_key x [] = refl
has_key x (k ∷ ks) = ap (λ (b : Bool). bytes_eq x.now k.now || b) (has_key x ks)

-- the keys of a set, after one is inserted
pub slice_texts-insert_key : (ks ms : List (Bor Text)) (x : Bor Text) → ms ≡ insert_key (λ y z. bytes_eq y.now z.now) ks x → slice_texts ms ≡ with_new (slice_texts ks) x.now
slice_texts-insert_key ks ms x e = ap slice_texts (e ∙ ap (λ (t : Bool). cond t ks (ks ++ x ∷ [])) (has_key x ks)) ∙ inserted ks x (has x.now (slice_texts ks)) refl

pub len_is : {A : Type 0} (v : Vec A Global) → vec_len v ≡ length v.items
len_is v = v.ok.0
