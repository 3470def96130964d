-- The text of the counters as it is written.
use Rattle.std.proofs.Common.{◌≡◌, ℕ, ◌+◌, ◌<◌, ◌≤◌, Bool, true, false, cond, not, ◌||◌, List, [], ◌∷◌, ◌++◌, refl}
use Rattle.std.proofs.Common.{sym, ap, ◌∙◌, arith, leb, Option, Some, None, Result, Ok, Err, Bor, get_or, append_assoc}
use Rattle.std.proofs.Common.{append-nil, string_bytes, drop as cut}
use Rattle.std.specs.Prelude.{filter, flat_map, bytes_eq, unwrap_or, decimal, if◌then◌else◌}
use Rattle.std.specs.Option.{option_map}
use Rattle.std.specs.Result.{IfOk}
use Rattle.std.specs.List.{list_any, join_with_byte}
use Rattle.std.specs.declared.string.String.{String}
use Rattle.std.proofs.Math.ListN.{length}
use Rattle.std.specs.Map as maps
use Rattle.std.proofs.lemmas.Bool.{false≢true}
use Rattle.std.proofs.lemmas.Bool.Decides.{nat_tests}
use Rattle.std.proofs.lemmas.List.{drop_more, at_drop_all}
use Rattle.indexmap.specs.IndexMap.{IndexMap, values}
use Rattle.envvars.specs.Texts.{Text, slice_texts}
use Rattle.envvars.specs.Fields.{joined, text_of_elements, without, without_repeats}
use Rattle.envvars.specs.Escapes.{escaped}
use Rattle.envstate.specs.paths.PathTexts.{is_lone_empty, counter_fields, counters_as_text}
use Rattle.envstate.specs.paths.Tables.{CounterTable, counter_in, count_in, state_from_table, pair_fields, with_separator}
use Rattle.envstate.specs.paths.Tables.{unless_empty}
use Rattle.envvars.proofs.TextLemmas.{or_left, or_right}

-- a field behind others

pub join_with_byte-push : (d : ℕ) (f : Text) (fs : List Text) (x : Text) → join_with_byte d (f ∷ (fs ++ x ∷ [])) ≡ join_with_byte d (f ∷ fs) ++ d ∷ x
join_with_byte-push d f [] x = refl
join_with_byte-push d f (g ∷ gs) x = ap (λ (l : Text). f ++ d ∷ l) (join_with_byte-push d g gs x) ∙ sym (append_assoc f (d ∷ join_with_byte d (g ∷ gs)) (d ∷ x))

two_fields : (f : Text) (fs : List Text) (x d : Text) → joined (f ∷ (fs ++ (x ++ 58 ∷ d) ∷ [])) ≡ joined (f ∷ (fs ++ x ∷ d ∷ []))
two_fields f [] x d = refl
two_fields f (g ∷ gs) x d = ap (λ (l : Text). f ++ 58 ∷ l) (two_fields g gs x d)

two : (fs : List Text) (x d : Text) → text_of_elements (fs ++ (x ++ 58 ∷ d) ∷ []) ≡ text_of_elements (fs ++ x ∷ d ∷ [])
two [] x d = refl
two (f ∷ fs) x d = ap Some (two_fields f fs x d)

filled : (x y : Text) → unless_empty (x ++ 58 ∷ y) ≡ Some (x ++ 58 ∷ y)
filled [] y = refl
filled (b ∷ bs) y = refl

pushed_behind : (old new x d : Text) (fs : List Text) → unless_empty old ≡ text_of_elements fs → new ≡ with_separator old ++ (x ++ 58 ∷ d) → unless_empty new ≡ text_of_elements (fs ++ x ∷ d ∷ [])
pushed_behind [] new x d [] e h = ap unless_empty h ∙ filled x d
pushed_behind [] new x d (f ∷ fs) e h = cc
pushed_behind (b ∷ bs) new x d [] e h = cc
pushed_behind (b ∷ bs) new x d (f ∷ fs) e h =
    let same : b ∷ bs ≡ joined (f ∷ fs) = cc in
    ap unless_empty (h ∙ append_assoc (b ∷ bs) (58 ∷ []) (x ++ 58 ∷ d)) ∙ filled (b ∷ bs) (x ++ 58 ∷ d)
    ∙ ap (λ (l : Text). Some (l ++ 58 ∷ (x ++ 58 ∷ d))) same ∙ ap Some (sym (join_with_byte-push 58 f fs (x ++ 58 ∷ d))) ∙ two (f ∷ fs) x d

-- the pair of an element behind others, where its counter is written
pub pair-pushed : (old split_elements new element : Text) (fs : List Text) (count : ℕ) → 2 ≤ count
    → split_elements ≡ with_separator old → new ≡ split_elements ++ (escaped element ++ 58 ∷ decimal count)
    → unless_empty old ≡ text_of_elements fs
    → unless_empty new ≡ text_of_elements (fs ++ pair_fields (λ x. count) element)
pair-pushed old split_elements new element fs count l p h e =
    let b : leb 2 count ≡ true = grind (arith, nat_tests) in
    pushed_behind old new (escaped element) (decimal count) fs e (h ∙ ap (λ (t : Text). t ++ (escaped element ++ 58 ∷ decimal count)) p)
    ∙ ap (λ (c : Bool). text_of_elements (fs ++ cond c (escaped element ∷ decimal count ∷ []) [])) (sym b)

-- one element after another

-- an element that is written once has the counter 1 from then on
one_or_none : (b : Bool) (o : Option ℕ) → b ≡ true → unwrap_or (cond b (Some 1) o) 0 ≡ 1
one_or_none true o e = refl
one_or_none false o e = absurd (false≢true e)

other : (b : Bool) (o : Option ℕ) → b ≡ false → unwrap_or (cond b (Some 1) o) 0 ≡ unwrap_or o 0
other true o e = absurd (false≢true (sym e))
other false o e = refl

pairs_at : (m n : CounterTable) (x y : Text) (ys : List Text) (b : Bool) → bytes_eq y x ≡ b
    → ((z : Text) → n z ≡ cond (bytes_eq z x) (Some 1) (m z))
    → flat_map (pair_fields (count_in n)) ys ≡ flat_map (pair_fields (count_in m)) (without x ys)
    → pair_fields (count_in n) y ++ flat_map (pair_fields (count_in n)) ys ≡ flat_map (pair_fields (count_in m)) (cond (not b) (y ∷ without x ys) (without x ys))
pairs_at m n x y ys true e f h =
    let one : count_in n y ≡ 1 = ap (λ (o : Option ℕ). unwrap_or o 0) (f y) ∙ one_or_none (bytes_eq y x) (m y) e in
    ap (λ (c : ℕ). cond (leb 2 c) (escaped y ∷ decimal c ∷ []) [] ++ flat_map (pair_fields (count_in n)) ys) one ∙ h
pairs_at m n x y ys false e f h =
    let same : count_in n y ≡ count_in m y = ap (λ (o : Option ℕ). unwrap_or o 0) (f y) ∙ other (bytes_eq y x) (m y) e in
    ap (λ (c : ℕ). cond (leb 2 c) (escaped y ∷ decimal c ∷ []) [] ++ flat_map (pair_fields (count_in n)) ys) same ∙ ap (λ (l : List Text). pair_fields (count_in m) y ++ l) h

pairs_left : (m n : CounterTable) (x : Text) (ys : List Text) → ((z : Text) → n z ≡ cond (bytes_eq z x) (Some 1) (m z))
    → flat_map (pair_fields (count_in n)) ys ≡ flat_map (pair_fields (count_in m)) (without x ys)
pairs_left m n x [] f = refl
pairs_left m n x (y ∷ ys) f = pairs_at m n x y ys (bytes_eq y x) refl f (pairs_left m n x ys f)

counted_turn : (m n : CounterTable) (fs : List Text) (xs : List (Bor Text)) (i : ℕ) (d : Bor Text) (all : List Text)
    (count : ℕ) → i < length xs → ((z : Text) → n z ≡ cond (bytes_eq z (get_or xs i d).now) (Some 1) (m z))
    → count ≡ count_in m (get_or xs i d).now → fs ++ flat_map (pair_fields (count_in m)) (without_repeats (slice_texts (cut i xs))) ≡ all
    → (fs ++ pair_fields (λ x. count) (get_or xs i d).now) ++ flat_map (pair_fields (count_in n)) (without_repeats (slice_texts (cut (i + 1) xs))) ≡ all
counted_turn m n fs xs i d all count l f c h =
    let y : Text = (get_or xs i d).now in
    let ys : List Text = slice_texts (cut (i + 1) xs) in
    ap (λ (l : List Text). (fs ++ pair_fields (λ x. count) y) ++ l) (pairs_left m n y (without_repeats ys) f)
    ∙ append_assoc fs (pair_fields (λ x. count) y) (flat_map (pair_fields (count_in m)) (without y (without_repeats ys)))
    ∙ ap (λ (k : ℕ). fs ++ (cond (leb 2 k) (escaped y ∷ decimal k ∷ []) [] ++ flat_map (pair_fields (count_in m)) (without y (without_repeats ys)))) c
    ∙ ap (λ (zs : List (Bor Text)). fs ++ flat_map (pair_fields (count_in m)) (without_repeats (slice_texts zs))) (sym (drop_more xs i d l)) ∙ h

pub counts_turn : (m n : CounterTable) (o p : Option Text) (xs : List (Bor Text)) (i : ℕ) (d : Bor Text)
    (all : List Text) (count : ℕ) → i < length xs → ((z : Text) → n z ≡ cond (bytes_eq z (get_or xs i d).now) (Some 1)
    (m z))
    → count ≡ count_in m (get_or xs i d).now → ((fs : List Text) → o ≡ text_of_elements fs → p ≡ text_of_elements (fs ++ pair_fields (λ x. count) (get_or xs i d).now))
    → (fs : List Text) × (o ≡ text_of_elements fs) × (fs ++ flat_map (pair_fields (count_in m)) (without_repeats (slice_texts (cut i xs))) ≡ all)
    → (fs : List Text) × (p ≡ text_of_elements fs) × (fs ++ flat_map (pair_fields (count_in n)) (without_repeats (slice_texts (cut (i + 1) xs))) ≡ all)
counts_turn m n o p xs i d all count l f c w h = (h.0 ++ pair_fields (λ x. count) (get_or xs i d).now, w h.0 h.1, counted_turn m n h.0 xs i d all count l f c h.2)

-- nothing is left
pub counts_done : (m : CounterTable) (o : Option Text) (xs : List (Bor Text)) (i : ℕ) (all : List Text) → length xs ≤ i
    → (fs : List Text) × (o ≡ text_of_elements fs) × (fs ++ flat_map (pair_fields (count_in m)) (without_repeats (slice_texts (cut i xs))) ≡ all) → o ≡ text_of_elements all
counts_done m o xs i all l h =
    h.1 ∙ ap text_of_elements (sym (append-nil h.0) ∙ sym (at_drop_all (λ (zs : List (Bor Text)). h.0 ++ flat_map (pair_fields (count_in m)) (without_repeats (slice_texts zs))) xs i l) ∙ h.2)

-- the fields that are written

written_at : (b : Bool) (x d : Text) (rest more : List Text) → rest ≡ more → (if b then x ∷ d ∷ [] else []) ++ rest ≡ (if b then x ∷ d ∷ more else more)
written_at true x d rest more e = ap (λ (l : List Text). x ∷ d ∷ l) e
written_at false x d rest more e = e

fields_cond : (xs : List Text) (table : CounterTable) (b : Bool) (x : Text) (ws : List Text)
    → (if b then escaped x ∷ decimal (count_in table x) ∷ counter_fields (state_from_table xs table) ws else
    counter_fields (state_from_table xs table) ws) ≡ counter_fields (state_from_table xs table) (cond b (x ∷ ws) ws)
fields_cond xs table true x ws = refl
fields_cond xs table false x ws = refl

or_none : (b : Bool) → b ≡ (b || false)
or_none true = refl
or_none false = refl

counts_written : (xs : List Text) (table : CounterTable) (lone : Bool) (fs : List Text) → lone ≡ false
    → flat_map (pair_fields (count_in table)) fs ≡ counter_fields (state_from_table xs table)
    (filter (λ x. leb 2 (count_in table x) || lone) fs)
counts_written xs table lone [] e = refl
counts_written xs table lone (f ∷ fs) e =
    written_at (leb 2 (count_in table f)) (escaped f) (decimal (count_in table f)) _ _ (counts_written xs table lone fs e)
    ∙ fields_cond xs table (leb 2 (count_in table f)) f (filter (λ x. leb 2 (count_in table x) || lone) fs)
    ∙ ap (λ (b : Bool). counter_fields (state_from_table xs table)
    (cond b (f ∷ filter (λ x. leb 2 (count_in table x) || lone) fs)
    (filter (λ x. leb 2 (count_in table x) || lone) fs)))
    (or_none (leb 2 (count_in table f)) ∙ ap (λ (b : Bool). leb 2 (count_in table f) || b) (sym e))

pub pairs_written : {A E : Type 0} (r : Result (Option (String A)) E) (xs : List Text) (table : CounterTable) (lone : Bool) → lone ≡ is_lone_empty xs → lone ≡ false
    → IfOk r (λ t. option_map string_bytes t ≡ text_of_elements
    (flat_map (pair_fields (count_in table)) (without_repeats xs)))
    → IfOk r (λ t. option_map string_bytes t ≡ counters_as_text (state_from_table xs table))
pairs_written (Ok t) xs table lone l e h = h ∙ ap text_of_elements (counts_written xs table (is_lone_empty xs) (without_repeats xs) (sym l ∙ e))
pairs_written (Err x) xs table lone l e h = h

-- where no counter is two or more, none is written

none_at : (b : Bool) (x d : Text) (rest : List Text) → b ≡ false → rest ≡ [] → (if b then x ∷ d ∷ [] else []) ++ rest ≡ []
none_at true x d rest e h = absurd (false≢true (sym e))
none_at false x d rest e h = h

no_pairs : (table : CounterTable) (fs : List Text) → ((x : Text) → leb 2 (count_in table x) ≡ false) → flat_map (pair_fields (count_in table)) fs ≡ []
no_pairs table [] h = refl
no_pairs table (f ∷ fs) h = none_at (leb 2 (count_in table f)) (escaped f) (decimal (count_in table f)) _ (h f) (no_pairs table fs h)

looked_at : (b : Bool) (v : ℕ) (o : Option ℕ) → leb 2 v ≡ false → leb 2 (unwrap_or o 0) ≡ false → leb 2 (unwrap_or (cond b (Some v) o) 0) ≡ false
looked_at true v o e h = e
looked_at false v o e h = h

looked : {K : Type 0} (test : K → Bool) (es : List (K × ℕ)) → list_any (λ n. leb 2 n) (maps.values_of es) ≡ false → leb 2 (unwrap_or (maps.lookup test es) 0) ≡ false
looked test [] h = refl
looked test (e ∷ es) h = looked_at (test e.0) e.1 (maps.lookup test es) (or_left (leb 2 e.1) _ h) (looked test es (or_right (leb 2 e.1) _ h))

pub none_repeated : {S : Type 0} (m : IndexMap (Bor Text) ℕ S) (xs : List Text) (lone b : Bool)
    → b ≡ list_any (λ n. leb 2 n) (values m) → b ≡ false → lone ≡ is_lone_empty xs → lone ≡ false
    → None ≡ counters_as_text (state_from_table xs (counter_in m))
none_repeated m xs lone true e h l f = absurd (false≢true (sym h))
none_repeated m xs lone false e h l f =
    ap text_of_elements (sym (no_pairs (counter_in m) (without_repeats xs)
    (λ x. looked (λ k. bytes_eq x k.now) m.entries (sym e)))
    ∙ counts_written xs (counter_in m) (is_lone_empty xs) (without_repeats xs) (sym l ∙ f))
