-- Path states, edited by a table of counters.
use Rattle.std.proofs.Common.{◌≡◌, ℕ, ◌+◌, ◌-◌, ◌%◌, suc, ◌<◌, ◌≤◌, Bool, true, false, cond, not, ◌||◌, ◌&&◌, List, []}
use Rattle.std.proofs.Common.{◌∷◌, ◌++◌, refl, sym, ap, ◌∙◌, subst, arith, leb, Option, Some, None, Result, Bor, take}
use Rattle.std.proofs.Common.{get_or, take_all, append_assoc, reverse, drop as cut}
use Rattle.std.specs.Prelude.{filter, bytes_eq, unwrap_or, is_some, if◌then◌else◌}
use Rattle.std.specs.List.{list_all}
use Rattle.std.specs.HashMap.{UpdatesBy}
use Rattle.std.proofs.Math.ListN.{length}
use Rattle.std.proofs.lemmas.Bool.{false≢true}
use Rattle.std.proofs.lemmas.Bool.Decides.{nat_tests}
use Rattle.std.proofs.lemmas.Map.Text.{hash_map_updates_str}
use Rattle.indexmap.specs.IndexMap.{IndexMap}
use Rattle.envvars.specs.Texts.{Text, has, slice_texts}
use Rattle.envstate.specs.paths.Paths.{PathState, largest_counter, put_at, add, drop, add_front, add_back, drop_all}
use Rattle.envstate.specs.paths.PathTexts.{counter_in_pairs, paired, pairs_of, elements_of, state_from_pairs, state_of}
use Rattle.envvars.specs.Fields.{without}
use Rattle.std.proofs.lemmas.List.{map-append, reverse-append, take_more, length-take, drop_more, at_drop_all}
use Rattle.std.specs.Option.{IfSome, option_or, option_map}
use Rattle.envstate.specs.paths.Counters.{counter_of}
use Rattle.envstate.proofs.paths.PairLemmas.{or_assoc}
use Rattle.std.specs.Result.{IfOk}
use Rattle.envstate.specs.paths.PathVariables.{counters_fit}
use Rattle.envstate.specs.paths.PathEdits.{IsFull}
use Rattle.envvars.specs.Reasons.{EnvReason, reason_of, counter_full}
use Rattle.envvars.specs.declared.fault.EnvFault.{EnvFault}
use Rattle.envstate.specs.paths.Tables.{CounterTable, counter_in, count_in, one_for_each, overwritten_by, state_from_table}
use Rattle.envstate.specs.paths.Tables.{HasCountersOf, HaveSameElements, raised, lowered, with_new_element, kept}
use Rattle.envstate.specs.declared.paths.adding.End.{End}
use Rattle.envstate.specs.declared.paths.adding.End.TheVariants.{Front, Back}
use Rattle.envvars.proofs.TextLemmas.{same_text, bytes_eq-same, bytes_eq-symmetric}
use Rattle.envstate.proofs.paths.PathLemmas.{same_state, has-added_if}
use Rattle.envstate.proofs.paths.Readable.{IsWritable-state_from_pairs}

-- reading

-- one more element is given the counter 1
given : (b h : Bool) (o : Option ℕ) → cond h (Some 1) (cond b (Some 1) o) ≡ cond (b || h) (Some 1) o
given true true o = refl
given true false o = refl
given false h o = refl

pub ones_turn : (m n all : CounterTable) (xs : List (Bor Text)) (i : ℕ) (d : Bor Text) → i < length xs → ((x : Text) → n x ≡ cond (bytes_eq x (get_or xs i d).now) (Some 1) (m x))
    → ((x : Text) → (if has x (slice_texts (cut i xs)) then Some 1 else m x) ≡ all x) → (x : Text) → (if has x (slice_texts (cut (i + 1) xs)) then Some 1 else n x) ≡ all x
ones_turn m n all xs i d l f g x =
    ap (λ o. if has x (slice_texts (cut (i + 1) xs)) then Some 1 else o) (f x) ∙ given (bytes_eq x (get_or xs i d).now) (has x (slice_texts (cut (i + 1) xs))) (m x)
    ∙ ap (λ (ys : List (Bor Text)). if has x (slice_texts ys) then Some 1 else m x) (sym (drop_more xs i d l)) ∙ g x

pub ones_done : (m all : CounterTable) (xs : List (Bor Text)) (i : ℕ) → length xs ≤ i → ((x : Text) → (if has x (slice_texts (cut i xs)) then Some 1 else m x) ≡ all x) → (x : Text) → m x ≡ all x
ones_done m all xs i l g x = sym (at_drop_all (λ (ys : List (Bor Text)). if has x (slice_texts ys) then Some 1 else m x) xs i l) ∙ g x

-- a pair is noted

none_over : (o : Option ℕ) (c : Option ℕ) → c ≡ None → o ≡ option_map (λ k. unwrap_or c k) o
none_over None c e = refl
none_over (Some k) c e = rw e refl

no_number : (b : Bool) (c : Option ℕ) → c ≡ None → option_or (if b then c else None) None ≡ None
no_number true c e = rw e refl
no_number false c e = refl

-- where the text spells no counter, or the element has none
pub unnoted : (m : CounterTable) (x number : Text) → None ≡ counter_of number → (y : Text) → m y ≡ overwritten_by ((x, number) ∷ []) m y
unnoted m x number e y = none_over (m y) _ (no_number (bytes_eq y x) (counter_of number) (sym e))

noted_at : (b : Bool) (o : Option ℕ) (k j : ℕ) (c : Option ℕ) → Some k ≡ c → (b ≡ true → o ≡ Some j) → cond b (Some k) o ≡ option_map (λ i. unwrap_or (option_or (if b then c else None) None) i) o
noted_at true o k j c e h = rw (h refl, ← e) refl
noted_at false None k j c e h = refl
noted_at false (Some i) k j c e h = refl

pub noted : (m n : CounterTable) (x number : Text) (k j : ℕ) → Some k ≡ counter_of number → Some j ≡ m x
    → ((y : Text) → n y ≡ cond (bytes_eq y x) (Some k) (m y)) → (y : Text) → n y ≡ overwritten_by ((x, number) ∷ []) m y
noted m n x number k j e f g y = g y ∙ noted_at (bytes_eq y x) (m y) k j (counter_of number) e (λ b. ap m (same_text y x b) ∙ sym f)

-- pairs from the last to the first

counter_in_pairs-push : (x : Text) (ps : List (Text × Text)) (p : Text × Text) → counter_in_pairs x (ps ++ p ∷ []) ≡ option_or (counter_in_pairs x ps) (counter_in_pairs x (p ∷ []))
counter_in_pairs-push x [] p = refl
counter_in_pairs-push x (q ∷ qs) p =
    ap (option_or (if bytes_eq x q.0 then counter_of q.1 else None)) (counter_in_pairs-push x qs p)
    ∙ sym (or_assoc (if bytes_eq x q.0 then counter_of q.1 else None) (counter_in_pairs x qs)
    (counter_in_pairs x (p ∷ [])))

over_at : (a b : Option ℕ) (o : Option ℕ) → option_map (λ k. unwrap_or a k) (option_map (λ k. unwrap_or b k) o) ≡ option_map (λ k. unwrap_or (option_or a b) k) o
over_at a b None = refl
over_at (Some i) b (Some k) = refl
over_at None b (Some k) = refl

paired-push : (xs : List Text) (e n : Text) → length xs % 2 ≡ 0 → paired (xs ++ e ∷ n ∷ []) ≡ paired xs ++ (e, n) ∷ []
paired-push [] e n h = refl
paired-push (x ∷ []) e n h = absurd (omega arith)
paired-push (x ∷ y ∷ ys) e n h = ap (λ (l : List (Text × Text)). (x, y) ∷ l) (paired-push ys e n (omega arith))

pub note_turn : (m n : CounterTable) (rest before : List (Bor Text)) (x number : Bor Text) (all : CounterTable) → rest ≡ before ++ x ∷ number ∷ [] → length (slice_texts before) % 2 ≡ 0
    → ((y : Text) → n y ≡ overwritten_by ((x.now, number.now) ∷ []) m y)
    → ((y : Text) → overwritten_by (paired (slice_texts rest)) m y ≡ all y) → (y : Text)
    → overwritten_by (paired (slice_texts before)) n y ≡ all y
note_turn m n rest before x number all w v f h y =
    ap (option_map (λ k. unwrap_or (counter_in_pairs y (paired (slice_texts before))) k)) (f y)
    ∙ over_at (counter_in_pairs y (paired (slice_texts before))) (counter_in_pairs y ((x.now, number.now) ∷ [])) (m y)
    ∙ ap (λ c. option_map (λ k. unwrap_or c k) (m y)) (sym
    (ap (counter_in_pairs y) (ap (λ (zs : List (Bor Text)). paired (slice_texts zs)) w
    ∙ ap paired (map-append (λ z. z.now) before (x ∷ number ∷ []))
    ∙ paired-push (slice_texts before) x.now number.now v)
    ∙ counter_in_pairs-push y (paired (slice_texts before)) (x.now, number.now)))
    ∙ h y

paired-even : (xs : List Text) → paired (take (length xs - length xs % 2) xs) ≡ paired xs
paired-even [] = refl
paired-even (x ∷ []) = refl
paired-even (x ∷ y ∷ ys) =
    let n : length (x ∷ y ∷ ys) - length (x ∷ y ∷ ys) % 2 ≡ suc (suc (length ys - length ys % 2)) = omega arith in
    rw n (ap (λ (l : List (Text × Text)). (x, y) ∷ l) (paired-even ys))

-- whether the empty element is counted

empty_at : (a b : Bool) (c : Option ℕ) (d : Option ℕ) → a ≡ b → (a && is_some c) ≡ false → is_some d ≡ is_some (option_or (if b then c else None) d)
empty_at true true None d e h = refl
empty_at true true (Some k) d e h = absurd (false≢true (sym h))
empty_at true false c d e h = refl
empty_at false true c d e h = absurd (false≢true e)
empty_at false false c d e h = refl

same_state_of : (delim : ℕ) (t : Option Text) (xs : List Text) (ps : List (Text × Text)) (table : CounterTable)
    → xs ≡ elements_of delim t ps → ((x : Text) → table x ≡ overwritten_by ps (one_for_each xs) x)
    → state_from_table xs table ≡ state_from_pairs delim t ps
same_state_of delim t xs ps table e f =
    same_state _ _ e (λ x. ap (λ o. unwrap_or o 0) (f x) ∙ counts_as (has x xs) (counter_in_pairs x ps) ∙ ap (λ (zs : List Text). if has x zs then unwrap_or (counter_in_pairs x ps) 1 else 0) e)
  where
    counts_as : (h : Bool) (c : Option ℕ) → unwrap_or (option_map (λ k. unwrap_or c k) (if h then Some 1 else None)) 0 ≡ (if h then unwrap_or c 1 else 0)
    counts_as true c = refl
    counts_as false c = refl

-- the elements and the counters that were read are the state
pub read_state : (delim : ℕ) (t : Option Text) (xs ys : List (Bor Text)) (ps : List (Text × Text))
    (old table : CounterTable) → slice_texts xs ≡ elements_of delim t ps → ys ≡ xs
    → ((x : Text) → old x ≡ one_for_each (slice_texts ys) x)
    → ((x : Text) → table x ≡ overwritten_by ps old x) → state_from_table (slice_texts xs) table ≡ state_from_pairs delim t ps
read_state delim t xs ys ps old table e s o f =
    same_state_of delim t (slice_texts xs) ps table e (λ x. f x ∙ ap (option_map (λ k. unwrap_or (counter_in_pairs x ps) k)) (o x ∙ ap (λ (zs : List (Bor Text)). one_for_each (slice_texts zs) x) s))

pub read_table : (xs ys : List (Bor Text)) (ps : List (Text × Text)) (old table : CounterTable) → ys ≡ xs
    → ((x : Text) → old x ≡ one_for_each (slice_texts ys) x) → ((x : Text) → table x ≡ overwritten_by ps old x)
    → HasCountersOf (slice_texts xs) table
read_table xs ys ps old table s o f x =
    ap is_some (f x ∙ ap (option_map (λ k. unwrap_or (counter_in_pairs x ps) k))
    (o x ∙ ap (λ (zs : List (Bor Text)). one_for_each (slice_texts zs) x) s))
    ∙ kept_is (has x (slice_texts xs)) (counter_in_pairs x ps)
  where
    kept_is : (h : Bool) (c : Option ℕ) → is_some (option_map (λ k. unwrap_or c k) (if h then Some 1 else None)) ≡ h
    kept_is true c = refl
    kept_is false c = refl

-- the pairs are those of the text
pub read_again : {P E : Type 0} (r : Result P E) (F : P → PathState) (delim : ℕ) (t u v : Option Text)
    (ps : List (Text × Text)) → ps ≡ pairs_of u → v ≡ u → IfOk r (λ p. F p ≡ state_from_pairs delim t ps)
    → IfOk r (λ p. F p ≡ state_of delim t v)
read_again r F delim t u v ps e f h = subst (λ (o : Option Text). IfOk r (λ p. F p ≡ state_of delim t o)) (sym f)
    (subst (λ (qs : List (Text × Text)). IfOk r (λ p. F p ≡ state_from_pairs delim t qs)) e h)

-- a map of the code as a table

-- an element is given its counter, whatever it had
pub counter_given : {S : Type 0} (m n : IndexMap (Bor Text) ℕ S) (x : Text) (k : ℕ) → UpdatesBy (λ y z. bytes_eq y.now z.now) (λ z. bytes_eq x z.now) m n (Some k)
    → (y : Text) → counter_in n y ≡ cond (bytes_eq y x) (Some k) (counter_in m y)
counter_given m n x k u y = hash_map_updates_str x m n (Some k) u y ∙ ap (λ (b : Bool). cond b (Some k) (counter_in m y)) (bytes_eq-symmetric x y)

pub counter_raised : {S : Type 0} (m n : IndexMap (Bor Text) ℕ S) (x : Text) (k : ℕ) → k ≡ count_in (counter_in m) x
    → UpdatesBy (λ y z. bytes_eq y.now z.now) (λ z. bytes_eq x z.now) m n (Some (k + 1))
    → (y : Text) → counter_in n y ≡ raised (counter_in m) x y
counter_raised m n x k e u y =
    hash_map_updates_str x m n (Some (k + 1)) u y ∙ ap (λ (b : Bool). cond b (Some (k + 1)) (counter_in m y)) (bytes_eq-symmetric x y)
    ∙ ap (λ c. cond (bytes_eq y x) (Some (c + 1)) (counter_in m y)) e

lowered_to : (b : Bool) (o w v : Option ℕ) → w ≡ v → cond b w o ≡ cond b v o
lowered_to b o w v e = ap (λ z. cond b z o) e

pub counter_dropped : {S : Type 0} (m n : IndexMap (Bor Text) ℕ S) (x : Text) (k : ℕ) → k ≡ count_in (counter_in m) x → k ≤ 1 → UpdatesBy (λ y z. bytes_eq y.now z.now) (λ z. bytes_eq x z.now) m n None
    → (y : Text) → counter_in n y ≡ lowered (counter_in m) x y
counter_dropped m n x k e l u y =
    let one : leb k 1 ≡ true = grind (arith, nat_tests) in
    hash_map_updates_str x m n None u y ∙ ap (λ (b : Bool). cond b None (counter_in m y)) (bytes_eq-symmetric x y)
    ∙ lowered_to (bytes_eq y x) (counter_in m y) None (if leb (count_in (counter_in m) x) 1 then None else Some (count_in (counter_in m) x - 1))
    (sym (ap (λ c. if leb c 1 then None else Some (c - 1)) (sym e) ∙ ap (λ (b : Bool). if b then None else Some (k - 1)) one))

pub counter_lowered : {S : Type 0} (m n : IndexMap (Bor Text) ℕ S) (x : Text) (k : ℕ) → k ≡ count_in (counter_in m) x
    → 1 < k → UpdatesBy (λ y z. bytes_eq y.now z.now) (λ z. bytes_eq x z.now) m n (Some (k - 1))
    → (y : Text) → counter_in n y ≡ lowered (counter_in m) x y
counter_lowered m n x k e l u y =
    let more : leb k 1 ≡ false = grind (arith, nat_tests) in
    hash_map_updates_str x m n (Some (k - 1)) u y ∙ ap (λ (b : Bool). cond b (Some (k - 1)) (counter_in m y)) (bytes_eq-symmetric x y)
    ∙ lowered_to (bytes_eq y x) (counter_in m y) (Some (k - 1)) (if leb (count_in (counter_in m) x) 1 then None else Some (count_in (counter_in m) x - 1))
    (sym (ap (λ c. if leb c 1 then None else Some (c - 1)) (sym e) ∙ ap (λ (b : Bool). if b then None else Some (k - 1)) more))

-- adding

-- the list after x was added at an end
abbrev pub grown : List Text → CounterTable → Text → End → List Text
grown xs table x end = if is_some (table x) then xs else put_at xs x end

raised_count : (b : Bool) (o p : Option ℕ) → (b ≡ true → p ≡ o) → unwrap_or p 0 + (if b then 1 else 0) ≡ unwrap_or (cond b (Some (unwrap_or o 0 + 1)) p) 0
raised_count true o p e = ap (λ (z : Option ℕ). unwrap_or z 0 + 1) (e refl)
raised_count false o p e = omega arith

pub add-state_from_table : (xs : List Text) (table : CounterTable) (x : Text) (end : End) → HasCountersOf xs table
    → add (state_from_table xs table) x end ≡ state_from_table (grown xs table x end) (raised table x)
add-state_from_table xs table x end h = same_state _ _
    (ap (λ (b : Bool). if b then xs else put_at xs x end) (sym (h x)))
    (λ y. raised_count (bytes_eq y x) (table x) (table y) (λ b. ap table (same_text y x b)))

raised_is : (b h : Bool) (n : ℕ) (o : Option ℕ) → is_some o ≡ h → is_some (cond b (Some n) o) ≡ (b || h)
raised_is true h n o e = refl
raised_is false h n o e = e

pub HasCountersOf-raised : (xs : List Text) (table : CounterTable) (x : Text) (end : End) → HasCountersOf xs table → HasCountersOf (grown xs table x end) (raised table x)
HasCountersOf-raised xs table x end h = λ y.
    raised_is (bytes_eq y x) (has y xs) (count_in table x + 1) (table y) (h y) ∙ sym (has-added_if xs x y end (is_some (table x)) (sym (h x)))

same_table : (xs : List Text) (m n : CounterTable) → ((x : Text) → n x ≡ m x) → HasCountersOf xs m → HasCountersOf xs n
same_table xs m n e h = λ x. ap is_some (e x) ∙ h x

same_stated : (xs : List Text) (m n : CounterTable) → ((x : Text) → n x ≡ m x) → state_from_table xs n ≡ state_from_table xs m
same_stated xs m n e = same_state _ _ refl (λ x. ap (λ o. unwrap_or o 0) (e x))

-- what a loop of adds keeps
pub record Adds (table : CounterTable) (xs : List Text) : Type 0 where
  pub fits_to : HasCountersOf xs table
  pub still_fits : (x : Text) → count_in table x ≤ largest_counter

raised_small : (b : Bool) (n k : ℕ) (o : Option ℕ) → n < k → unwrap_or o 0 ≤ k → unwrap_or (cond b (Some (n + 1)) o) 0 ≤ k
raised_small true n k o l h = omega arith
raised_small false n k o l h = h

pub Adds-raised : (m n : CounterTable) (xs ys : List Text) (x : Text) (end : End) → Adds m xs → ((y : Text) → n y ≡ raised m x y) → ys ≡ grown xs m x end → count_in m x < largest_counter → Adds n ys
Adds-raised m n xs ys x end k e g l = record {
  fits_to = subst (λ (zs : List Text). HasCountersOf zs n) (sym g) (same_table (grown xs m x end) (raised m x) n e (HasCountersOf-raised xs m x end k.fits_to));
  still_fits = λ y. subst (λ o. unwrap_or o 0 ≤ largest_counter) (sym (e y)) (raised_small (bytes_eq y x) (count_in m x) largest_counter (m y) l (k.still_fits y));
}

pub added_state : (m n : CounterTable) (xs ys : List Text) (x : Text) (end : End) → Adds m xs
    → ((y : Text) → n y ≡ raised m x y) → ys ≡ grown xs m x end
    → state_from_table ys n ≡ add (state_from_table xs m) x end
added_state m n xs ys x end k e g = ap (λ (zs : List Text). state_from_table zs n) g ∙ same_stated (grown xs m x end) (raised m x) n e ∙ sym (add-state_from_table xs m x end k.fits_to)

-- a state with a counter past the largest
record IsOver (s : PathState) : Type 0 where
  element : Text
  inside : has element s.elements ≡ true
  over : largest_counter < s.counter element

or_true : (b : Bool) → (b || true) ≡ true
or_true true = refl
or_true false = refl

IsOver-add : (s : PathState) (x : Text) (end : End) → IsOver s → IsOver (add s x end)
IsOver-add s x end o =
    let l : largest_counter < s.counter o.element = o.over in
    record {
      element = o.element;
      inside = has-added_if s.elements x o.element end (has x s.elements) refl ∙ ap (λ (b : Bool). bytes_eq o.element x || b) o.inside ∙ or_true (bytes_eq o.element x);
      over = omega arith;
    }

IsOver-add_back : (s : PathState) (xs : List Text) → IsOver s → IsOver (add_back s xs)
IsOver-add_back s [] o = o
IsOver-add_back s (x ∷ xs) o = IsOver-add_back (add s x Back) xs (IsOver-add s x Back o)

IsOver-add_front : (s : PathState) (xs : List Text) → IsOver s → IsOver (add_front s xs)
IsOver-add_front s [] o = o
IsOver-add_front s (x ∷ xs) o = IsOver-add (add_front s xs) x Front (IsOver-add_front s xs o)

not_all : (p : Text → Bool) (x y : Text) (ys : List Text) (b h : Bool) → bytes_eq x y ≡ b → has x ys ≡ h
    → (b || h) ≡ true → p x ≡ false → (h ≡ true → list_all p ys ≡ false) → (p y && list_all p ys) ≡ false
not_all p x y ys true h e f g q k = ap (λ (c : Bool). c && list_all p ys) (ap p (sym (same_text x y e)) ∙ q)
not_all p x y ys false true e f g q k = ap (λ (c : Bool). p y && c) (k refl) ∙ and_false (p y)
  where
    and_false : (c : Bool) → (c && false) ≡ false
    and_false true = refl
    and_false false = refl
not_all p x y ys false false e f g q k = absurd (false≢true g)

one_fails : (p : Text → Bool) (x : Text) (xs : List Text) → has x xs ≡ true → p x ≡ false → list_all p xs ≡ false
one_fails p x [] h q = absurd (false≢true h)
one_fails p x (y ∷ ys) h q = not_all p x y ys (bytes_eq x y) (has x ys) refl refl h q (λ k. one_fails p x ys k q)

over_fails : (s : PathState) → IsOver s → counters_fit s ≡ false
over_fails s o = one_fails (λ x. leb (s.counter x) largest_counter) o.element s.elements o.inside (let l : largest_counter < s.counter o.element = o.over in grind (arith, nat_tests))

all_pass : (p : Text → Bool) (xs : List Text) → ((x : Text) → p x ≡ true) → list_all p xs ≡ true
all_pass p [] h = refl
all_pass p (x ∷ xs) h = ap (λ (b : Bool). b && list_all p xs) (h x) ∙ all_pass p xs h

pub small_fits : (s : PathState) → ((x : Text) → s.counter x ≤ largest_counter) → counters_fit s ≡ true
small_fits s h = all_pass (λ x. leb (s.counter x) largest_counter) s.elements (λ x. let l : s.counter x ≤ largest_counter = h x in grind (arith, nat_tests))

some_of : (o : Option ℕ) → largest_counter ≤ unwrap_or o 0 → is_some o ≡ true
some_of (Some n) l = refl
some_of None l = absurd (omega arith)

raised_over : (b : Bool) (n : ℕ) → largest_counter ≤ n → b ≡ true → largest_counter < n + cond b 1 0
raised_over true n l e = omega arith
raised_over false n l e = absurd (false≢true e)

full_add : (m : CounterTable) (xs : List Text) (x : Text) (end : End) → Adds m xs → largest_counter ≤ count_in m x → IsOver (add (state_from_table xs m) x end)
full_add m xs x end k l = record {
  element = x;
  inside = has-added_if xs x x end (has x xs) refl ∙ ap (λ (b : Bool). b || has x xs) (bytes_eq-same x);
  over = raised_over (bytes_eq x x) (count_in m x) l (bytes_eq-same x);
}

pub full_back : (m : CounterTable) (xs : List Text) (x : Text) (rest : List Text) → Adds m xs → largest_counter ≤ count_in m x → counters_fit (add_back (state_from_table xs m) (x ∷ rest)) ≡ false
full_back m xs x rest k l = over_fails _ (IsOver-add_back (add (state_from_table xs m) x Back) rest (full_add m xs x Back k l))

pub add_front-push : (s : PathState) (xs : List Text) (x : Text) → add_front s (xs ++ x ∷ []) ≡ add_front (add s x Front) xs
add_front-push s [] x = refl
add_front-push s (y ∷ ys) x = ap (λ (t : PathState). add t y Front) (add_front-push s ys x)

pub full_front : (m : CounterTable) (xs : List Text) (x : Text) (before : List Text) → Adds m xs
    → largest_counter ≤ count_in m x → counters_fit (add_front (state_from_table xs m) (before ++ x ∷ [])) ≡ false
full_front m xs x before k l = over_fails _ (subst IsOver (sym (add_front-push (state_from_table xs m) before x))
    (IsOver-add_front (add (state_from_table xs m) x Front) before (full_add m xs x Front k l)))

-- the turns of the loops

pub back_turn : (m n : CounterTable) (xs ys : List Text) (more : List (Bor Text)) (i : ℕ) (d : Bor Text)
    (all : PathState) → i < length more → Adds m xs × (add_back (state_from_table xs m) (slice_texts (cut i more)) ≡
    all)
    → ((y : Text) → n y ≡ raised m (get_or more i d).now y) → ys ≡ with_new_element xs m (get_or more i d).now → count_in m (get_or more i d).now < largest_counter
    → Adds n ys × (add_back (state_from_table ys n) (slice_texts (cut (i + 1) more)) ≡ all)
back_turn m n xs ys more i d all l k e g s = (
  Adds-raised m n xs ys (get_or more i d).now Back k.0 e g s,
  ap (λ (t : PathState). add_back t (slice_texts (cut (i + 1) more))) (added_state m n xs ys (get_or more i d).now Back k.0 e g)
      ∙ ap (λ (zs : List (Bor Text)). add_back (state_from_table xs m) (slice_texts zs)) (sym (drop_more more i d l)) ∙ k.1,
)

pub back_done : (s all : PathState) (more : List (Bor Text)) (i : ℕ) → length more ≤ i → add_back s (slice_texts (cut i more)) ≡ all → s ≡ all
back_done s all more i l h = sym (at_drop_all (λ (zs : List (Bor Text)). add_back s (slice_texts zs)) more i l) ∙ h

-- a refusal for a full counter is one for the whole
pub full_for : (e : EnvFault) (name : Text) (n : ℕ) (s : PathState)
    → IfSome (reason_of e) (λ r. (r ≡ counter_full name) × (largest_counter ≤ n))
    → (largest_counter ≤ n → counters_fit s ≡ false) → IsFull e name s
full_for e name n s h f = each (reason_of e) h
  where
    each : (o : Option EnvReason) → IfSome o (λ r. (r ≡ counter_full name) × (largest_counter ≤ n)) → IfSome o (λ r. (r ≡ counter_full name) × (counters_fit s ≡ false))
    each None h = h
    each (Some r) h = (h.0, f h.1)

pub back_full : (e : EnvFault) (name : Text) (m : CounterTable) (xs : List Text) (more : List (Bor Text)) (i : ℕ)
    (d : Bor Text) (all : PathState) → i < length more → Adds m xs
    × (add_back (state_from_table xs m) (slice_texts (cut i more)) ≡ all)
    → IfSome (reason_of e) (λ r. (r ≡ counter_full name) × (largest_counter ≤ count_in m (get_or more i d).now)) → IsFull e name all
back_full e name m xs more i d all l k h =
    full_for e name (count_in m (get_or more i d).now) all h
    (λ o. ap counters_fit (sym k.1 ∙ ap (λ (zs : List (Bor Text)). add_back (state_from_table xs m) (slice_texts zs))
    (drop_more more i d l)) ∙ full_back m xs (get_or more i d).now (slice_texts (cut (i + 1) more)) k.0 o)

slice_texts-append : (xs ys : List (Bor Text)) → slice_texts (xs ++ ys) ≡ slice_texts xs ++ slice_texts ys
slice_texts-append xs ys = map-append (λ x. x.now) xs ys

slice_texts-reverse : (xs : List (Bor Text)) → slice_texts (reverse xs) ≡ reverse (slice_texts xs)
slice_texts-reverse [] = refl
slice_texts-reverse (x ∷ xs) = ap slice_texts (reverse-append (x ∷ []) xs) ∙ slice_texts-append (reverse xs) (x ∷ [])
    ∙ ap (λ (l : List Text). l ++ x.now ∷ []) (slice_texts-reverse xs)
    ∙ sym (reverse-append (x.now ∷ []) (slice_texts xs))

reverse-front : (xs : List Text) (x : Text) (ys : List Text) → reverse (xs ++ x ∷ []) ++ ys ≡ x ∷ (reverse xs ++ ys)
reverse-front xs x ys = ap (λ (l : List Text). l ++ ys) (reverse-append xs (x ∷ []))

grown_front : (front xs : List Text) (m : CounterTable) (x : Text) (b : Bool) → is_some (m x) ≡ b
    → reverse (if b then front else front ++ x ∷ []) ++ xs ≡
    (if b then reverse front ++ xs else x ∷ (reverse front ++ xs))
grown_front front xs m x true e = refl
grown_front front xs m x false e = reverse-front front x xs

pub front_turn : (m n : CounterTable) (front ys xs : List Text) (rest before : List (Bor Text)) (x : Bor Text) (all : PathState) → rest ≡ before ++ x ∷ []
    → Adds m (reverse front ++ xs) × (add_front (state_from_table (reverse front ++ xs) m) (slice_texts rest) ≡ all)
    → ((y : Text) → n y ≡ raised m x.now y) → ys ≡ with_new_element front m x.now → count_in m x.now < largest_counter
    → Adds n (reverse ys ++ xs) × (add_front (state_from_table (reverse ys ++ xs) n) (slice_texts before) ≡ all)
front_turn m n front ys xs rest before x all w k e g s =
    let grows : reverse ys ++ xs ≡ grown (reverse front ++ xs) m x.now Front = ap (λ (l : List Text). reverse l ++ xs) g ∙ grown_front front xs m x.now (is_some (m x.now)) refl in (
      Adds-raised m n (reverse front ++ xs) (reverse ys ++ xs) x.now Front k.0 e grows s,
      ap (λ (t : PathState). add_front t (slice_texts before)) (added_state m n (reverse front ++ xs) (reverse ys ++ xs) x.now Front k.0 e grows)
          ∙ sym (add_front-push (state_from_table (reverse front ++ xs) m) (slice_texts before) x.now)
          ∙ ap (add_front (state_from_table (reverse front ++ xs) m)) (sym (ap slice_texts w ∙ slice_texts-append before (x ∷ []))) ∙ k.1,
    )

pub front_full : (e : EnvFault) (name : Text) (m : CounterTable) (xs : List Text) (rest before : List (Bor Text))
    (x : Bor Text) (all : PathState) → rest ≡ before ++ x ∷ [] → Adds m xs
    × (add_front (state_from_table xs m) (slice_texts rest) ≡ all)
    → IfSome (reason_of e) (λ r. (r ≡ counter_full name) × (largest_counter ≤ count_in m x.now)) → IsFull e name all
front_full e name m xs rest before x all w k h =
    full_for e name (count_in m x.now) all h (λ o. ap counters_fit (sym k.1) ∙ ap
    (λ (l : List Text). counters_fit (add_front (state_from_table xs m) l))
    (ap slice_texts w ∙ slice_texts-append before (x ∷ [])) ∙ full_front m xs x.now (slice_texts before) k.0 o)

-- the elements in front, turned round, and the others behind them
pub front_done : (m : CounterTable) (front turned elements done : List (Bor Text)) (rest : List (Bor Text)) (all : PathState) → length rest ≡ 0 → turned ≡ reverse front → done ≡ turned ++ elements
    → add_front (state_from_table (reverse (slice_texts front) ++ slice_texts elements) m) (slice_texts rest) ≡ all → state_from_table (slice_texts done) m ≡ all
front_done m front turned elements done [] all l t d h =
    ap (λ (zs : List (Bor Text)). state_from_table (slice_texts zs) m) (d ∙ ap (λ (zs : List (Bor Text)). zs ++ elements) t)
    ∙ ap (λ (zs : List Text). state_from_table zs m) (slice_texts-append (reverse front) elements ∙ ap (λ (l : List Text). l ++ slice_texts elements) (slice_texts-reverse front)) ∙ h
front_done m front turned elements done (z ∷ zs) all l t d h = absurd (omega arith)

last_cut : (xs : List (Bor Text)) (d : Bor Text) → 1 ≤ length xs → xs ≡ take (length xs - 1) xs ++ get_or xs (length xs - 1) d ∷ []
last_cut xs d l =
    let more : length xs - 1 + 1 ≡ length xs = omega arith in
    let whole : take (length xs) xs ≡ xs = take_all _ xs (omega arith) in
    sym whole ∙ ap (λ n. take n xs) (sym more) ∙ take_more xs (length xs - 1) d (omega arith)

-- dropping

filter_agree : (p q : Text → Bool) (xs : List Text) → ((x : Text) → p x ≡ q x) → filter p xs ≡ filter q xs
filter_agree p q [] e = refl
filter_agree p q (x ∷ xs) e = ap (λ (b : Bool). cond b (x ∷ filter p xs) (filter p xs)) (e x) ∙ ap (λ (l : List Text). cond (q x) (x ∷ l) l) (filter_agree p q xs e)

filter_both_at : (p : Text → Bool) (x y : Text) (ys : List Text) (a : Bool) → p y ≡ a
    → filter (λ z. not (bytes_eq z x)) (cond a (y ∷ ys) ys) ≡ cond (not (bytes_eq y x) && a) (y ∷ without x ys)
    (without x ys)
filter_both_at p x y ys true e = cases (bytes_eq y x)
  where
    cases : (b : Bool) → cond (not b) (y ∷ without x ys) (without x ys) ≡ cond (not b && true) (y ∷ without x ys) (without x ys)
    cases true = refl
    cases false = refl
filter_both_at p x y ys false e = cases (bytes_eq y x)
  where
    cases : (b : Bool) → without x ys ≡ cond (not b && false) (y ∷ without x ys) (without x ys)
    cases true = refl
    cases false = refl

without-filter : (p : Text → Bool) (x : Text) (xs : List Text) → without x (filter p xs) ≡ filter (λ y. not (bytes_eq y x) && p y) xs
without-filter p x [] = refl
without-filter p x (y ∷ ys) =
    filter_both_at p x y (filter p ys) (p y) refl ∙ ap (λ (l : List Text). cond (not (bytes_eq y x) && p y) (y ∷ l) l) (without-filter p x ys)

-- whether the table has y still
still_last : (b c : Bool) (n : ℕ) (o : Option ℕ) → c ≡ true → (not b && is_some o) ≡ is_some (cond b (if c then None else Some n) o)
still_last true true n o e = refl
still_last true false n o e = absurd (false≢true e)
still_last false c n o e = refl

still_more : (b c : Bool) (n : ℕ) (o : Option ℕ) → c ≡ false → (b ≡ true → is_some o ≡ true) → is_some o ≡ is_some (cond b (if c then None else Some n) o)
still_more true true n o e h = absurd (false≢true (sym e))
still_more true false n o e h = h refl
still_more false c n o e h = refl

some_more : (o : Option ℕ) → leb (unwrap_or o 0) 1 ≡ false → is_some o ≡ true
some_more (Some n) e = refl
some_more None e = absurd (false≢true (sym e))

drop_elements : (xs : List Text) (table : CounterTable) (x : Text) (c : Bool) → leb (count_in table x) 1 ≡ c → cond c (without x (kept xs table)) (kept xs table) ≡ kept xs (lowered table x)
drop_elements xs table x true e =
    without-filter (λ y. is_some (table y)) x xs
    ∙ filter_agree _ _ xs (λ y. still_last (bytes_eq y x) (leb (count_in table x) 1) (count_in table x - 1) (table y) e)
drop_elements xs table x false e =
    filter_agree _ _ xs (λ y. still_more (bytes_eq y x) (leb (count_in table x) 1) (count_in table x - 1) (table y) e
    (λ b. ap (λ (t : Text). is_some (table t)) (same_text y x b) ∙ some_more (table x) e))

lowered_count : (b c : Bool) (o p : Option ℕ) → leb (unwrap_or o 0) 1 ≡ c → (b ≡ true → p ≡ o)
    → unwrap_or p 0 - (if b then 1 else 0) ≡ unwrap_or (cond b (if c then None else Some (unwrap_or o 0 - 1)) p) 0
lowered_count true true o p e h = ap (λ (z : Option ℕ). unwrap_or z 0 - 1) (h refl) ∙ last (unwrap_or o 0) e
  where
    last : (n : ℕ) → leb n 1 ≡ true → n - 1 ≡ 0
    last n l = grind (arith, nat_tests)
lowered_count true false o p e h = ap (λ (z : Option ℕ). unwrap_or z 0 - 1) (h refl)
lowered_count false c o p e h = omega arith

drop-state_from_table : (xs : List Text) (table : CounterTable) (x : Text) → drop (state_from_table (kept xs table) table) x ≡ state_from_table (kept xs (lowered table x)) (lowered table x)
drop-state_from_table xs table x = same_state _ _
    (drop_elements xs table x (leb (count_in table x) 1) refl)
    (λ y. lowered_count (bytes_eq y x) (leb (count_in table x) 1) (table x) (table y) refl (λ b. ap table (same_text y x b)))

kept_same : (xs : List Text) (m n : CounterTable) → ((x : Text) → n x ≡ m x) → state_from_table (kept xs n) n ≡ state_from_table (kept xs m) m
kept_same xs m n e = ap (λ (zs : List Text). state_from_table zs n) (filter_agree _ _ xs (λ x. ap is_some (e x))) ∙ same_stated (kept xs m) m n e

pub dropped_state : (xs : List Text) (m n : CounterTable) (x : Text) → ((y : Text) → n y ≡ lowered m x y) → state_from_table (kept xs n) n ≡ drop (state_from_table (kept xs m) m) x
dropped_state xs m n x e = kept_same xs (lowered m x) n e ∙ sym (drop-state_from_table xs m x)

-- one more element is dropped
pub drops_turn : (m n : CounterTable) (less : List (Bor Text)) (i : ℕ) (d : Bor Text) (all : List Text → PathState) → i < length less → ((y : Text) → n y ≡ lowered m (get_or less i d).now y)
    → ((xs : List Text) → drop_all (state_from_table (kept xs m) m) (slice_texts (cut i less)) ≡ all xs)
    → (xs : List Text) → drop_all (state_from_table (kept xs n) n) (slice_texts (cut (i + 1) less)) ≡ all xs
drops_turn m n less i d all l e h xs =
    ap (λ (s : PathState). drop_all s (slice_texts (cut (i + 1) less))) (dropped_state xs m n (get_or less i d).now e)
    ∙ ap (λ (zs : List (Bor Text)). drop_all (state_from_table (kept xs m) m) (slice_texts zs)) (sym (drop_more less i d l)) ∙ h xs

pub drops_done : (s all : PathState) (less : List (Bor Text)) (i : ℕ) → length less ≤ i → drop_all s (slice_texts (cut i less)) ≡ all → s ≡ all
drops_done s all less i l h = sym (at_drop_all (λ (zs : List (Bor Text)). drop_all s (slice_texts zs)) less i l) ∙ h

filter_every : (p : Text → Bool) (xs : List Text) → ((y : Text) → has y xs ≡ true → p y ≡ true) → filter p xs ≡ xs
filter_every p [] h = refl
filter_every p (x ∷ xs) h =
    ap (λ (b : Bool). cond b (x ∷ filter p xs) (filter p xs)) (h x (ap (λ (b : Bool). b || has x xs) (bytes_eq-same x)))
    ∙ ap (λ (l : List Text). x ∷ l) (filter_every p xs (λ y e. h y (ap (λ (b : Bool). bytes_eq y x || b) e ∙ or_true (bytes_eq y x))))

-- a table of just these elements keeps them all
pub kept_all : (xs : List Text) (table : CounterTable) → HasCountersOf xs table → kept xs table ≡ xs
kept_all xs table h = filter_every (λ x. is_some (table x)) xs (λ y e. h y ∙ e)

-- every element has kept its counter, or was taken out
pub taken_out : (xs ys less : List Text) (m n : CounterTable) → HasCountersOf xs m
    → ((zs : List Text) → state_from_table (kept zs n) n ≡ drop_all (state_from_table (kept zs m) m) less)
    → ys ≡ kept xs n
    → state_from_table ys n ≡ drop_all (state_from_table xs m) less
taken_out xs ys less m n t h k = ap (λ (l : List Text). state_from_table l n) k ∙ h xs ∙ ap (λ (l : List Text). drop_all (state_from_table l m) less) (kept_all xs m t)

pub kept_where_same : (xs : List Text) (m n : CounterTable) → HasCountersOf xs m → HaveSameElements m n → xs ≡ kept xs n
kept_where_same xs m n t h = sym (kept_all xs n (λ x. h x ∙ t x))

lowered_at : (b : Bool) (o w : Option ℕ) (k : ℕ) → k ≡ unwrap_or o 0 → 1 < k → (b ≡ true → w ≡ o) → is_some (cond b (if leb (unwrap_or o 0) 1 then None else Some (unwrap_or o 0 - 1)) w) ≡ is_some w
lowered_at false o w k e l h = refl
lowered_at true None w k e l h = absurd (omega arith)
lowered_at true (Some c) w k e l h =
    let more : leb c 1 ≡ false = grind (arith, nat_tests) in
    rw (h refl, more) refl

-- a counter that is two or more stays one
pub lowered_same : (m n : CounterTable) (x : Text) (k : ℕ) → k ≡ count_in m x → 1 < k → ((y : Text) → n y ≡ lowered m x y) → HaveSameElements m n
lowered_same m n x k e l h y = ap is_some (h y) ∙ lowered_at (bytes_eq y x) (m x) (m y) k e l (λ b. ap m (same_text y x b))

pub small_read : (xs : List Text) (table : CounterTable) (delim : ℕ) (t : Option Text) (ps : List (Text × Text))
    → state_from_table xs table ≡ state_from_pairs delim t ps → (x : Text) → count_in table x ≤ largest_counter
small_read xs table delim t ps e x = subst (λ (s : PathState). s.counter x ≤ largest_counter) (sym e) ((IsWritable-state_from_pairs delim t ps).fit x)

-- no pair is left
pub none_counted : (rest : List (Bor Text)) (all : Bool) → length rest < 2 → is_some (counter_in_pairs [] (paired (slice_texts rest))) ≡ all → false ≡ all
none_counted [] all l h = h
none_counted (y ∷ []) all l h = h
none_counted (y ∷ z ∷ zs) all l h = absurd (omega arith)

-- the whole pairs of some fields
record ArePairs (some all : List (Bor Text)) : Type 0 where
  even : length (slice_texts some) % 2 ≡ 0
  same : paired (slice_texts some) ≡ paired (slice_texts all)
  within : length some ≤ length all

even_more : (y z : Bor Text) (some all : List (Bor Text)) → ArePairs some all → ArePairs (y ∷ z ∷ some) (y ∷ z ∷ all)
even_more y z some all h =
    let e : length (slice_texts some) % 2 ≡ 0 = h.even in
    let w : length some ≤ length all = h.within in
    record { even = omega arith; same = ap (λ (l : List (Text × Text)). (y.now, z.now) ∷ l) h.same; within = omega arith }

even_front : (xs : List (Bor Text)) (n : ℕ) → n ≡ length xs - length xs % 2 → ArePairs (take n xs) xs
even_front [] n e = subst (λ (k : ℕ). ArePairs (take k []) []) (sym e) (record { even = refl; same = refl; within = omega arith })
even_front (x ∷ []) n e = let z : 0 ≡ n = omega arith in subst (λ (k : ℕ). ArePairs (take k (x ∷ [])) (x ∷ [])) z (record { even = refl; same = refl; within = omega arith })
even_front (x ∷ y ∷ ys) n e =
    let z : suc (suc (length ys - length ys % 2)) ≡ n = omega arith in
    subst (λ (k : ℕ). ArePairs (take k (x ∷ y ∷ ys)) (x ∷ y ∷ ys)) z (even_more x y (take (length ys - length ys % 2) ys) ys (even_front ys (length ys - length ys % 2) refl))

pub note_start : (m : CounterTable) (xs zs : List (Bor Text)) (n : ℕ) → n ≡ length xs - length xs % 2 → zs ≡ take n xs
    → (length (slice_texts zs) % 2 ≡ 0) × ((x : Text) → overwritten_by (paired (slice_texts zs)) m x ≡ overwritten_by (paired (slice_texts xs)) m x) × (length zs ≤ length xs)
note_start m xs zs n e w =
    let p = subst (λ (vs : List (Bor Text)). ArePairs vs xs) (sym w) (even_front xs n e) in
    (p.even, λ x. ap (λ (ps : List (Text × Text)). overwritten_by ps m x) p.same, p.within)

two_cut : (xs : List (Bor Text)) (d e : Bor Text) → 2 ≤ length xs → xs ≡ take (length xs - 2) xs ++ get_or xs (length xs - 2) d ∷ get_or xs (length xs - 1) e ∷ []
two_cut xs d e l =
    let more : length xs - 2 + 1 ≡ length xs - 1 = omega arith in
    last_cut xs e (omega arith)
    ∙ ap (λ (zs : List (Bor Text)). zs ++ get_or xs (length xs - 1) e ∷ []) (ap (λ n. take n xs) (sym more) ∙ take_more xs (length xs - 2) d (omega arith))
    ∙ append_assoc (take (length xs - 2) xs) (get_or xs (length xs - 2) d ∷ []) (get_or xs (length xs - 1) e ∷ [])

two_longer : (xs : List (Bor Text)) (y z : Bor Text) → length (slice_texts (xs ++ y ∷ z ∷ [])) ≡ suc (suc (length (slice_texts xs)))
two_longer [] y z = refl
two_longer (x ∷ xs) y z = ap suc (two_longer xs y z)

pub notes_turn : (m n : CounterTable) (rest : List (Bor Text)) (k : ℕ) (d e : Bor Text) (all : CounterTable) → 2 ≤ length rest
    → (length (slice_texts rest) % 2 ≡ 0) × ((y : Text) → overwritten_by (paired (slice_texts rest)) m y ≡ all y) × (length rest ≤ k)
    → ((y : Text) → n y ≡ overwritten_by (((get_or rest (length rest - 2) d).now, (get_or rest (length rest - 1) e).now) ∷ []) m y)
    → (length (slice_texts (take (length rest - 2) rest)) % 2 ≡ 0)
    × ((y : Text) → overwritten_by (paired (slice_texts (take (length rest - 2) rest))) n y ≡ all y)
    × (length (take (length rest - 2) rest) ≤ k)
notes_turn m n rest k d e all l h f =
    let before = take (length rest - 2) rest in
    let w : rest ≡ before ++ get_or rest (length rest - 2) d ∷ get_or rest (length rest - 1) e ∷ [] = two_cut rest d e l in
    let longer : length (slice_texts rest) ≡ suc (suc (length (slice_texts before))) = ap (λ (zs : List (Bor Text)). length (slice_texts zs)) w ∙ two_longer before _ _ in
    let was : length (slice_texts rest) % 2 ≡ 0 = h.0 in
    let even : length (slice_texts before) % 2 ≡ 0 = omega arith in
    let within : length rest ≤ k = h.2 in
    (even, note_turn m n rest before (get_or rest (length rest - 2) d) (get_or rest (length rest - 1) e) all w even f h.1, grind (arith, length-take))
