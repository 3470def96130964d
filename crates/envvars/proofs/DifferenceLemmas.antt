-- The difference that the entries of a table make, and changes sorted by the names of their variables.
use Rattle.std.proofs.Common.{◌≡◌, ◌+◌, ◌<◌, Bool, true, false, cond, not, List, [], ◌∷◌, length, map, filter, subst}
use Rattle.std.proofs.Common.{refl, sym, ap, ◌∙◌, arith, Option, Some, None, String, Global, string_bytes}
use Rattle.std.specs.Prelude.{bytes_eq}
use Rattle.std.specs.List.{dedup, dedup_from, AllByRecursion, IsDistinct}
use Rattle.std.specs.List.Sorted.{IsStrictlySortedBy, IsSorted, IsSortedBy, IsPermutation}
use Rattle.std.specs.Map as maps
use Rattle.std.specs.Option.{option_map}
use Rattle.std.specs.Ordering.{nat_cmp, is_lt}
use Rattle.std.specs.String.{string_eq}
use Rattle.std.specs.Cmp.{IsEquivalence, IsStrictWeakOrder}
use Rattle.std.specs.Cmp.Lexicographic.{slice_cmp, nat_list_cmp_total}
use Rattle.std.proofs.lemmas.List.{get_or-map, length-map}
use Rattle.std.proofs.lemmas.List.Kept.{IsStrictlySortedBy-dedup}
use Rattle.std.proofs.lemmas.List.Sorted.{IsPermutation-map, ranks_by}
use Rattle.std.proofs.lemmas.Map.Keys.{IsDistinct-IsPermutation}
use Rattle.std.proofs.lemmas.Map.Made.{IsDistinct-keys_filter}
use Rattle.std.proofs.lemmas.Map.Text.{is_eq-slice_cmp}
use Rattle.indexmap.proofs.MapLemmas.{lookup_permutation}
use Rattle.envvars.specs.Texts.{Text, has}
use Rattle.envvars.specs.Environment.{Environment, lookup, with_value}
use Rattle.envvars.specs.Changes.{NewValue, same_value, difference, new_value_at, new_value_of, AreChanges, applied}
use Rattle.envvars.specs.Tables.{Slot, differs_from, names_of, new_values_of, written_over}
use Rattle.envvars.specs.declared.change.Change.{Change}
use Rattle.envvars.proofs.TextLemmas.{same_text, bytes_eq-same, bytes_eq-symmetric}
use Rattle.envvars.proofs.EnvLemmas.{lookup-with_value}
use Rattle.envvars.proofs.ChangeLemmas.{same_as_itself, applied-with_value}
use Rattle.envvars.proofs.TableLemmas.{not_written}
use Rattle.std.proofs.lemmas.Bool.{false≢true}

-- the changes that pass
kept_cond : (b : Bool) (c : Change) (cs : List Change) → map new_value_of (cond b (c ∷ cs) cs) ≡ cond b (new_value_of c ∷ map new_value_of cs) (map new_value_of cs)
kept_cond true c cs = refl
kept_cond false c cs = refl

pub kept_changes : (p : NewValue → Bool) (cs : List Change) → map new_value_of (filter (λ c. p (new_value_of c)) cs) ≡ filter p (map new_value_of cs)
kept_changes p [] = refl
kept_changes p (c ∷ cs) = kept_cond (p (new_value_of c)) c _ ∙ ap (λ (l : List NewValue). cond (p (new_value_of c)) (new_value_of c ∷ l) l) (kept_changes p cs)

-- the names of entries are as far apart as their keys
apart : (k : String Global) (es : List Slot) → AllByRecursion (λ y. string_eq k y ≡ false) (maps.keys_of es) → AllByRecursion (λ y. bytes_eq (string_bytes k) y ≡ false) (names_of es)
apart k [] a = a
apart k (x ∷ xs) a = (a.0, apart k xs a.1)

pub distinct_names : (es : List Slot) → IsDistinct string_eq (maps.keys_of es) → IsDistinct bytes_eq (names_of es)
unfolding IsDistinct
distinct_names [] d = d
distinct_names (x ∷ xs) d = (apart x.0 xs d.0, distinct_names xs d.1)

named_entries : (es : List Slot) → names_of es ≡ map (λ (c : NewValue). c.0) (new_values_of es)
named_entries [] = refl
named_entries (x ∷ xs) = ap (λ (l : List Text). string_bytes x.0 ∷ l) (named_entries xs)

pub distinct_changes : (e : Environment) (es : List Slot) (cs : List NewValue)
    → cs ≡ filter (differs_from e) (new_values_of es) → IsDistinct bytes_eq (names_of es)
    → IsDistinct bytes_eq (map (λ (c : NewValue). c.0) cs)
distinct_changes e es cs h d =
    subst (λ (l : List NewValue). IsDistinct bytes_eq (map (λ (c : NewValue). c.0) l)) (sym h)
    (IsDistinct-keys_filter bytes_eq (differs_from e) (new_values_of es) (subst (IsDistinct bytes_eq) (named_entries es) d))

-- Of the entries, those that differ are the difference.
no_difference : (o : Option Text) → difference o o ≡ None
no_difference o = ap (λ (b : Bool). cond b None (Some o)) (same_as_itself o)

not_among : (q k : Text) (ks : List Text) → q ≡ k → AllByRecursion (λ y. bytes_eq k y ≡ false) ks → has q ks ≡ false
not_among q k [] e a = refl
not_among q k (y ∷ ys) e a =
    let other : bytes_eq q y ≡ false = ap (λ (t : Text). bytes_eq t y) e ∙ a.0 in
    rw other (not_among q k ys e a.1)

refuted : (b : Bool) → not b ≡ true → b ≡ false
refuted true h = absurd (false≢true h)
refuted false h = refl

affirmed : (b : Bool) → not b ≡ false → b ≡ true
affirmed true h = refl
affirmed false h = absurd (false≢true (sym h))

each_step : (e : Environment) (c : NewValue) (q : Text) (rest : List NewValue) (w : Option Text) (b d : Bool) → bytes_eq q c.0 ≡ b → differs_from e c ≡ d
    → new_value_at rest q ≡ difference (lookup e q) w → (b ≡ true → w ≡ lookup e q) → new_value_at (cond d (c ∷ rest) rest) q ≡ difference (lookup e q) (cond b c.1 w)
each_step e c q rest w true true h d k l =
    let other : same_value (lookup e q) c.1 ≡ false = ap (λ (t : Text). same_value (lookup e t) c.1) (same_text q c.0 h) ∙ refuted (same_value (lookup e c.0) c.1) d in
    ap (λ (b : Bool). cond b (Some c.1) (new_value_at rest q)) h ∙ sym (ap (λ (b : Bool). cond b None (Some c.1)) other)
each_step e c q rest w true false h d k l =
    let same : same_value (lookup e q) c.1 ≡ true = ap (λ (t : Text). same_value (lookup e t) c.1) (same_text q c.0 h) ∙ affirmed (same_value (lookup e c.0) c.1) d in
    k ∙ ap (difference (lookup e q)) (l refl) ∙ no_difference (lookup e q) ∙ sym (ap (λ (b : Bool). cond b None (Some c.1)) same)
each_step e c q rest w false true h d k l = ap (λ (b : Bool). cond b (Some c.1) (new_value_at rest q)) h ∙ k
each_step e c q rest w false false h d k l = k

each_differs : (e : Environment) (es : List Slot) (q : Text) → IsDistinct bytes_eq (names_of es)
    → new_value_at (filter (differs_from e) (new_values_of es)) q ≡ difference (lookup e q)
    (lookup (written_over e es) q)
unfolding IsDistinct
each_differs e [] q d = sym (no_difference (lookup e q))
each_differs e (x ∷ xs) q d =
    let name = string_bytes x.0 in
    let value = option_map string_bytes x.1 in
    each_step e (name, value) q (filter (differs_from e) (new_values_of xs)) (lookup (written_over e xs) q) (bytes_eq q name) (differs_from e (name, value)) refl refl (each_differs e xs q d.1)
    (λ h. not_written e xs q (not_among q name (names_of xs) (same_text q name h) d.0))
    ∙ ap (difference (lookup e q)) (sym (lookup-with_value (written_over e xs) name value q))

pub AreChanges-over : (e : Environment) (es : List Slot) (before after : List NewValue) → before ≡ filter (differs_from e) (new_values_of es) → IsDistinct bytes_eq (names_of es)
    → IsStrictlySortedBy (slice_cmp nat_cmp) (map (λ (c : NewValue). c.0) after) → ((q : Text) → new_value_at after q ≡ new_value_at before q) → AreChanges e (written_over e es) after
AreChanges-over e es before after b d o s = record {
  ordered = o;
  each = λ q. s q ∙ ap (λ (l : List NewValue). new_value_at l q) b ∙ each_differs e es q d;
}

-- Made one after another, changes of different variables give what the entries give.
pub applied-entries : (e : Environment) (es : List Slot) → IsDistinct bytes_eq (names_of es) → applied (new_values_of es) e ≡ written_over e es
unfolding IsDistinct
applied-entries e [] d = refl
applied-entries e (x ∷ xs) d =
    let name = string_bytes x.0 in
    let value = option_map string_bytes x.1 in
    applied-with_value (new_values_of xs) e name value (ap (has name) (sym (named_entries xs)) ∙ not_among name name (names_of xs) refl d.0)
    ∙ ap (λ (under : Environment). with_value under name value) (applied-entries e xs d.1)

-- changes sorted by name

abbrev pub name_of : Change → Text
name_of c = string_bytes c.name

abbrev pub goes_before : Change → Change → Bool
goes_before c d = is_lt (slice_cmp nat_cmp (name_of c) (name_of d))

pub by_name : IsStrictWeakOrder goes_before
by_name = ranks_by nat_list_cmp_total name_of

names_are : (cs : List Change) → map name_of cs ≡ map (λ (c : NewValue). c.0) (map new_value_of cs)
names_are [] = refl
names_are (c ∷ cs) = ap (λ (l : List Text). name_of c ∷ l) (names_are cs)

sorted_names : (cs : List Change) → IsSortedBy goes_before cs → IsSorted (slice_cmp nat_cmp) (map name_of cs)
sorted_names [] s k d a b = absurd (omega arith)
sorted_names (c ∷ cs) s k d a b =
    let l = c ∷ cs in
    let within : k + 1 < length l = omega (arith, length-map l name_of) in
    (λ j. is_lt (slice_cmp nat_cmp (get_or-map name_of l (k + 1) c d within j) (get_or-map name_of l k c d (omega arith) j))) ∙ s k c a within

none_dropped_from : (k : Text) (xs : List Text) → AllByRecursion (λ y. bytes_eq k y ≡ false) xs → IsDistinct bytes_eq xs → dedup_from bytes_eq k xs ≡ k ∷ xs
unfolding IsDistinct
none_dropped_from k [] a d = refl
none_dropped_from k (x ∷ xs) a d =
    let other : bytes_eq x k ≡ false = bytes_eq-symmetric x k ∙ a.0 in
    ap (λ (b : Bool). cond b (dedup_from bytes_eq k xs) (k ∷ dedup_from bytes_eq x xs)) other ∙ ap (λ (l : List Text). k ∷ l) (none_dropped_from x xs d.0 d.1)

none_dropped : (xs : List Text) → IsDistinct bytes_eq xs → dedup bytes_eq xs ≡ xs
unfolding IsDistinct
none_dropped [] d = refl
none_dropped (x ∷ xs) d = none_dropped_from x xs d.0 d.1

distinct_still : (before after : List Change) → IsPermutation before after
    → IsDistinct bytes_eq (map (λ (c : NewValue). c.0) (map new_value_of before))
    → IsDistinct bytes_eq (map (λ (c : NewValue). c.0) (map new_value_of after))
distinct_still before after moves d =
    IsDistinct-IsPermutation bytes_eq bytes_eq-symmetric _ _ (IsPermutation-map (λ (c : NewValue). c.0) _ _ (IsPermutation-map new_value_of before after moves)) d

pub strictly_sorted : (before after : List Change) → IsPermutation before after → IsDistinct bytes_eq (map (λ (c : NewValue). c.0) (map new_value_of before)) → IsSortedBy goes_before after
    → IsStrictlySortedBy (slice_cmp nat_cmp) (map (λ (c : NewValue). c.0) (map new_value_of after))
strictly_sorted before after moves d s =
    let names = map (λ (c : NewValue). c.0) (map new_value_of after) in
    subst (IsStrictlySortedBy (slice_cmp nat_cmp)) (none_dropped names (distinct_still before after moves d))
    (IsStrictlySortedBy-dedup nat_list_cmp_total (λ x y. sym (is_eq-slice_cmp x y)) names (subst (IsSorted (slice_cmp nat_cmp)) (names_are after) (sorted_names after s)))

same_texts : IsEquivalence bytes_eq
same_texts = record {
  refl = bytes_eq-same;
  symm = bytes_eq-symmetric;
  congr = λ x y z h. ap (λ (t : Text). bytes_eq t z) (same_text x y h);
}

looked_up : (cs : List NewValue) (q : Text) → new_value_at cs q ≡ maps.lookup (bytes_eq q) cs
looked_up [] q = refl
looked_up (c ∷ cs) q = ap (cond (bytes_eq q c.0) (Some c.1)) (looked_up cs q)

pub same_changes : (before after : List Change) → IsPermutation before after → IsDistinct bytes_eq (map (λ (c : NewValue). c.0) (map new_value_of before))
    → (q : Text) → new_value_at (map new_value_of after) q ≡ new_value_at (map new_value_of before) q
same_changes before after moves d q =
    looked_up (map new_value_of after) q
    ∙ lookup_permutation same_texts _ _ (IsPermutation-map new_value_of before after moves) (distinct_still before after moves d) (bytes_eq q) (same_texts.congr q)
    ∙ sym (looked_up (map new_value_of before) q)
