-- A state is read as it was written.
use Rattle.std.proofs.Common.{◌≡◌, ℕ, ◌<◌, ◌≤◌, Bool, true, false, cond, not, ◌||◌, ◌&&◌, List, [], ◌∷◌, ◌++◌, map}
use Rattle.std.proofs.Common.{refl, sym, ap, ◌∙◌, arith, ltb, leb, eqb, Option, Some, None}
use Rattle.std.specs.Prelude.{filter, flat_map, bytes_eq, unwrap_or, is_some, decimal, if◌then◌else◌}
use Rattle.std.specs.Option.{option_or}
use Rattle.std.specs.List.{list_any, onto_first, join_with_byte, AllByRecursion}
use Rattle.std.proofs.Math.ListN.{length}
use Rattle.std.proofs.lemmas.Bool.Decides.{nat_tests}
use Rattle.std.proofs.lemmas.Map.Views.{any-filter_same}
use Rattle.envvars.specs.Texts.{Text, has}
use Rattle.envvars.specs.Fields.{text_of_elements, without_repeats}
use Rattle.envvars.specs.Escapes.{escaped}
use Rattle.envvars.proofs.EscapeLemmas.{fields-escaped}
use Rattle.envstate.specs.paths.Paths.{PathState, largest_counter}
use Rattle.envstate.specs.paths.Counters.{counter_of}
use Rattle.envstate.specs.paths.PathTexts.{split_elements, paired, counter_in_pairs, pairs_of, elements_of, state_of}
use Rattle.envstate.specs.paths.PathTexts.{elements_text, is_lone_empty, counted_elements, counter_fields, counters_as_text, HasNoDelimiter}
use Rattle.envstate.specs.paths.PathTexts.{IsWritable}
use Rattle.envvars.proofs.TextLemmas.{same_text, has-without, or_left, or_right}
use Rattle.envstate.proofs.paths.PathLemmas.{same_state}
use Rattle.envstate.proofs.paths.CounterLemmas.{counter_of-decimal, escaped-decimal}

pub eqb-same : (d : ℕ) → eqb d d ≡ true
eqb-same d = grind (arith, nat_tests)

-- splitting what was joined

pub split_front : (d : ℕ) (x rest : Text) → HasNoDelimiter d x → split_elements d (x ++ d ∷ rest) ≡ x ∷ split_elements d rest
split_front d [] rest h = rw (eqb-same d) refl
split_front d (b ∷ bs) rest h =
    let here : eqb b d ≡ false = or_left (eqb b d) (list_any (λ c. eqb c d) bs) h in
    let more : HasNoDelimiter d bs = or_right (eqb b d) (list_any (λ c. eqb c d) bs) h in
    rw here (ap (onto_first b) (split_front d bs rest more))

split_alone : (d : ℕ) (x : Text) → HasNoDelimiter d x → split_elements d x ≡ x ∷ []
split_alone d [] h = refl
split_alone d (b ∷ bs) h =
    let here : eqb b d ≡ false = or_left (eqb b d) (list_any (λ c. eqb c d) bs) h in
    let more : HasNoDelimiter d bs = or_right (eqb b d) (list_any (λ c. eqb c d) bs) h in
    rw here (ap (onto_first b) (split_alone d bs more))

pub split_elements-joined : (d : ℕ) (x : Text) (xs : List Text) → AllByRecursion (HasNoDelimiter d) (x ∷ xs) → split_elements d (join_with_byte d (x ∷ xs)) ≡ x ∷ xs
split_elements-joined d x [] h = split_alone d x h.0
split_elements-joined d x (y ∷ ys) h = split_front d x (join_with_byte d (y ∷ ys)) h.0 ∙ ap (λ (l : List Text). x ∷ l) (split_elements-joined d y ys h.1)

pub elements-text : (d : ℕ) (xs : List Text) (pairs : List (Text × Text)) → AllByRecursion (HasNoDelimiter d) xs
    → (is_lone_empty xs ≡ true → is_some (counter_in_pairs [] pairs) ≡ true)
    → elements_of d (elements_text d xs) pairs ≡ xs
elements-text d [] pairs h l = refl
elements-text d ([] ∷ []) pairs h l = rw (l refl) refl
elements-text d ([] ∷ y ∷ ys) pairs h l = split_elements-joined d [] (y ∷ ys) h
elements-text d ((b ∷ bs) ∷ []) pairs h l = split_elements-joined d (b ∷ bs) [] h
elements-text d ((b ∷ bs) ∷ y ∷ ys) pairs h l = split_elements-joined d (b ∷ bs) (y ∷ ys) h

-- pairs

abbrev pair_of : PathState → Text → Text × Text
pair_of s x = (x, decimal (s.counter x))

-- the fields before their escapes
abbrev bare_fields : PathState → List Text → List Text
bare_fields s xs = flat_map (λ x. x ∷ decimal (s.counter x) ∷ []) xs

paired-fields : (s : PathState) (ws : List Text) → paired (bare_fields s ws) ≡ map (pair_of s) ws
paired-fields s [] = refl
paired-fields s (w ∷ ws) = ap (λ (l : List (Text × Text)). pair_of s w ∷ l) (paired-fields s ws)

counter-fields : (s : PathState) (ws : List Text) → ((x : Text) → s.counter x ≤ largest_counter) → counter_fields s ws ≡ map escaped (bare_fields s ws)
counter-fields s [] fit = refl
counter-fields s (w ∷ ws) fit =
    ap (λ (l : List Text). escaped w ∷ decimal (s.counter w) ∷ l) (counter-fields s ws fit)
    ∙ ap (λ (d : Text). escaped w ∷ d ∷ map escaped (bare_fields s ws)) (sym (escaped-decimal (s.counter w) (let f : s.counter w ≤ largest_counter = fit w in omega arith)))

pairs-text : (s : PathState) (ws : List Text) → ((x : Text) → s.counter x ≤ largest_counter) → pairs_of (text_of_elements (counter_fields s ws)) ≡ map (pair_of s) ws
pairs-text s [] fit = refl
pairs-text s (w ∷ ws) fit =
    ap (λ (fs : List Text). pairs_of (text_of_elements fs)) (counter-fields s (w ∷ ws) fit)
    ∙ ap paired (fields-escaped w (decimal (s.counter w) ∷ bare_fields s ws)) ∙ paired-fields s (w ∷ ws)

kept_one : (d : ℕ) (b : Bool) (x : Text) (xs : List Text) → HasNoDelimiter d x → AllByRecursion (HasNoDelimiter d) xs → AllByRecursion (HasNoDelimiter d) (cond b (x ∷ xs) xs)
kept_one d true x xs h k = (h, k)
kept_one d false x xs h k = k

pub unparted_filter : (d : ℕ) (p : Text → Bool) (xs : List Text) → AllByRecursion (HasNoDelimiter d) xs → AllByRecursion (HasNoDelimiter d) (filter p xs)
unparted_filter d p [] h = h
unparted_filter d p (x ∷ xs) h = kept_one d (p x) x (filter p xs) h.0 (unparted_filter d p xs h.1)

absorbed : (b h : Bool) → (b || (not b && h)) ≡ (b || h)
absorbed true h = refl
absorbed false h = refl

has-without_repeats : (x : Text) (xs : List Text) → has x (without_repeats xs) ≡ has x xs
has-without_repeats x [] = refl
has-without_repeats x (y ∷ ys) =
    ap (λ (b : Bool). bytes_eq x y || b) (has-without (without_repeats ys) y x) ∙ absorbed (bytes_eq x y) (has x (without_repeats ys)) ∙ ap (λ (b : Bool). bytes_eq x y || b) (has-without_repeats x ys)

has-written : (s : PathState) (x : Text) → has x (counted_elements s) ≡ ((leb 2 (s.counter x) || is_lone_empty s.elements) && has x s.elements)
has-written s x =
    any-filter_same (bytes_eq x) (λ y. leb 2 (s.counter y) || is_lone_empty s.elements) (leb 2 (s.counter x) || is_lone_empty s.elements)
    (λ y e. ap (λ (t : Text). leb 2 (s.counter t) || is_lone_empty s.elements) (sym (same_text x y e))) (without_repeats s.elements)
    ∙ ap (λ (b : Bool). (leb 2 (s.counter x) || is_lone_empty s.elements) && b) (has-without_repeats x s.elements)

counted_one : (b h : Bool) (o q : Option ℕ) (n : ℕ) → (b ≡ true → o ≡ Some n) → q ≡ cond h (Some n) None → option_or (if b then o else None) q ≡ cond (b || h) (Some n) None
counted_one true h o q n e k = rw (e refl) refl
counted_one false h o q n e k = k

counter_in_pairs-written : (s : PathState) (x : Text) (ws : List Text) → 0 < s.counter x → s.counter x ≤ largest_counter
    → counter_in_pairs x (map (pair_of s) ws) ≡ cond (has x ws) (Some (s.counter x)) None
counter_in_pairs-written s x [] l fit = refl
counter_in_pairs-written s x (w ∷ ws) l fit =
    counted_one (bytes_eq x w) (has x ws) (counter_of (decimal (s.counter w))) (counter_in_pairs x (map (pair_of s) ws)) (s.counter x)
    (λ b. ap (λ (t : Text). counter_of (decimal (s.counter t))) (sym (same_text x w b)) ∙ counter_of-decimal (s.counter x) l fit)
    (counter_in_pairs-written s x ws l fit)

-- the state again

again : (h two lone : Bool) (n : ℕ) (o : Option ℕ) → h ≡ ltb 0 n → two ≡ leb 2 n → (0 < n → o ≡ cond ((two || lone) && h) (Some n) None) → (if h then unwrap_or o 1 else 0) ≡ n
again true true lone n o e t k = let l : 0 < n = grind (arith, nat_tests) in rw (k l) refl
again true false true n o e t k = let l : 0 < n = grind (arith, nat_tests) in rw (k l) refl
again true false false n o e t k = let l : 0 < n = grind (arith, nat_tests) in rw (k l) (grind (arith, nat_tests))
again false two lone n o e t k = grind (arith, nat_tests)

found_empty : (o : Option ℕ) (n : ℕ) (h two lone : Bool) → o ≡ cond ((two || lone) && h) (Some n) None → lone ≡ true → h ≡ true → is_some o ≡ true
found_empty o n h true lone e l k = rw (e, k) refl
found_empty o n h false lone e l k = rw (e, l, k) refl

not_empty : (b : ℕ) (bs : Text) → eqb (length (b ∷ bs)) 0 ≡ true → ⊥
not_empty b bs e = let l : length (b ∷ bs) ≡ 0 = grind (arith, nat_tests) in omega arith

lone_has : (xs : List Text) → is_lone_empty xs ≡ true → has [] xs ≡ true
lone_has [] e = cc
lone_has ([] ∷ []) e = refl
lone_has ((b ∷ bs) ∷ []) e = absurd (not_empty b bs e)
lone_has (x ∷ y ∷ ys) e = cc

counted_there : (h : Bool) (n : ℕ) → h ≡ ltb 0 n → h ≡ true → 0 < n
counted_there h n e t = grind (arith, nat_tests)

pub state_of-written : (delim : ℕ) (s : PathState) → IsWritable delim s → state_of delim (elements_text delim s.elements) (counters_as_text s) ≡ s
state_of-written delim s w =
    let pairs : pairs_of (counters_as_text s) ≡ map (pair_of s) (counted_elements s) = pairs-text s (counted_elements s) w.fit in
    let found : (x : Text) → 0 < s.counter x → counter_in_pairs x (map (pair_of s) (counted_elements s)) ≡ cond ((leb 2 (s.counter x) || is_lone_empty s.elements) && has x s.elements) (Some (s.counter x)) None
    = λ x l. counter_in_pairs-written s x (counted_elements s) l (w.fit x) ∙ ap (λ (b : Bool). cond b (Some (s.counter x)) None) (has-written s x) in
    let elements : elements_of delim (elements_text delim s.elements) (map (pair_of s) (counted_elements s)) ≡ s.elements
    = elements-text delim s.elements (map (pair_of s) (counted_elements s)) w.no_delimiter
    (λ lone. let there : has [] s.elements ≡ true = lone_has s.elements lone in
    let l : 0 < s.counter [] = counted_there (has [] s.elements) (s.counter []) (w.valid []) there in
    found_empty _ (s.counter []) (has [] s.elements) (leb 2 (s.counter [])) (is_lone_empty s.elements) (found [] l) lone there) in
    same_state _ _ (rw pairs elements) (λ x. rw (pairs, elements)
    (again (has x s.elements) (leb 2 (s.counter x)) (is_lone_empty s.elements) (s.counter x)
    (counter_in_pairs x (map (pair_of s) (counted_elements s))) (w.valid x) refl (found x)))
