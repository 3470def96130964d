-- Tables of names, and the environments that they are written over.
use Rattle.std.proofs.Common.{◌≡◌, Bool, true, false, cond, ◌||◌, arith, List, [], ◌∷◌, ◌++◌, length, refl, sym, ap}
use Rattle.std.proofs.Common.{◌∙◌, map, Option, Some, None, Result, Ok, Err, String, Global, string_bytes}
use Rattle.std.specs.Prelude.{bytes_eq, unwrap_or, if◌then◌else◌}
use Rattle.std.specs.Option.{option_map}
use Rattle.std.specs.Result.{IsOk, OnOk}
use Rattle.std.specs.Ordering.{nat_cmp}
use Rattle.std.specs.Cmp.Lexicographic.{slice_cmp}
use Rattle.std.specs.HashMap.{UpdatesBy}
use Rattle.std.specs.String.{string_eq}
use Rattle.std.specs.FinMap as finite
use Rattle.std.specs.Map as maps
use Rattle.std.specs.List.{AllZip}
use Rattle.std.proofs.lemmas.Bool.{false≢true}
use Rattle.std.proofs.lemmas.List.Folds.{list_any-append}
use Rattle.std.proofs.lemmas.Map.Text.{hash_map_updates_text}
use Rattle.indexmap.specs.IndexMap.{IndexMap, get_by_text}
use Rattle.envvars.specs.Texts.{Text, has}
use Rattle.envvars.specs.Environment.{Environment, lookup, with_value}
use Rattle.envvars.specs.Tables.{Slot, slot, names_of, written_over}
use Rattle.envvars.specs.Changes.{new_value_of, applied}
use Rattle.envvars.specs.declared.change.Change.{Change}
use Rattle.envvars.proofs.TextLemmas.{bytes_eq-symmetric, or_left, or_right}
use Rattle.envvars.proofs.EnvLemmas.{same_environment, lookup-with_value}

-- what a table has, in an environment's words
abbrev pub said : Option (Option (String Global)) → Option (Option Text)
said o = option_map (option_map string_bytes) o

over_at : (b : Bool) (v : Option (String Global)) (w : Option (Option (String Global))) (o : Option Text)
    → cond b (option_map string_bytes v) (unwrap_or (said w) o) ≡ unwrap_or (said (cond b (Some v) w)) o
over_at true v w o = refl
over_at false v w o = refl

-- a name has what the entries say of it, or else what the environment under them has
lookup-entries : (e : Environment) (es : List Slot) (q : Text) → lookup (written_over e es) q ≡ unwrap_or (said (maps.lookup (λ k. bytes_eq q (string_bytes k)) es)) (lookup e q)
lookup-entries e [] q = refl
lookup-entries e (x ∷ xs) q =
    lookup-with_value (written_over e xs) (string_bytes x.0) (option_map string_bytes x.1) q
    ∙ ap (cond (bytes_eq q (string_bytes x.0)) (option_map string_bytes x.1)) (lookup-entries e xs q)
    ∙ over_at (bytes_eq q (string_bytes x.0)) x.1 (maps.lookup (λ k. bytes_eq q (string_bytes k)) xs) (lookup e q)

pub lookup-written_over : {S : Type 0} (e : Environment) (m : IndexMap (String Global) (Option (String Global)) S) (q : Text) → lookup (written_over e m.entries) q ≡ unwrap_or (slot m q) (lookup e q)
lookup-written_over e m q = lookup-entries e m.entries q

-- a table without entries says nothing
no_slot : (es : List Slot) (q : Text) → length es ≡ 0 → said (maps.lookup (λ k. bytes_eq q (string_bytes k)) es) ≡ None
no_slot [] q h = refl
no_slot (x ∷ xs) q h = absurd (omega (arith, h))

pub none_found : {S : Type 0} (m : IndexMap (String Global) (Option (String Global)) S) (q : Text) → length m.entries ≡ 0 → None ≡ slot m q
none_found m q h = sym (no_slot m.entries q h)

-- tables that say the same of each name
pub same_over : {S : Type 0} (e : Environment) (m n : IndexMap (String Global) (Option (String Global)) S)
    → ((q : Text) → unwrap_or (slot n q) (lookup e q) ≡ unwrap_or (slot m q) (lookup e q))
    → written_over e n.entries ≡ written_over e m.entries
same_over e m n h = same_environment _ _ (λ q. lookup-written_over e n q ∙ h q ∙ sym (lookup-written_over e m q))

pub kept_over : {S : Type 0} (e : Environment) (m n : IndexMap (String Global) (Option (String Global)) S) → ((q : Text) → slot n q ≡ slot m q) → written_over e n.entries ≡ written_over e m.entries
kept_over e m n h = same_over e m n (λ q. ap (λ (o : Option (Option Text)). unwrap_or o (lookup e q)) (h q))

entered_at : (b : Bool) (v : Option Text) (w : Option (Option Text)) (o : Option Text) → unwrap_or (cond b (Some v) w) o ≡ cond b v (unwrap_or w o)
entered_at true v w o = refl
entered_at false v w o = refl

-- a name was given a value
pub entered_over : {S : Type 0} (e : Environment) (m n : IndexMap (String Global) (Option (String Global)) S)
    (name : Text) (v : Option Text) → ((q : Text) → slot n q ≡ (if bytes_eq q name then Some v else slot m q))
    → written_over e n.entries ≡ with_value (written_over e m.entries) name v
entered_over e m n name v h = same_environment _ _ (λ q.
    lookup-written_over e n q ∙ ap (λ (o : Option (Option Text)). unwrap_or o (lookup e q)) (h q) ∙ entered_at (bytes_eq q name) v (slot m q) (lookup e q)
    ∙ ap (cond (bytes_eq q name) v) (sym (lookup-written_over e m q)) ∙ sym (lookup-with_value (written_over e m.entries) name v q))

map_cond : (b : Bool) (o p : Option (Option (String Global))) → said (cond b o p) ≡ cond b (said o) (said p)
map_cond true o p = refl
map_cond false o p = refl

-- one name of the table changed
pub slot-updated : {S : Type 0} (m n : IndexMap (String Global) (Option (String Global)) S) (name : Text)
    (w : Option (Option (String Global))) → UpdatesBy string_eq (λ k. bytes_eq name (string_bytes k)) m n w
    → (q : Text) → slot n q ≡ (if bytes_eq q name then said w else slot m q)
slot-updated m n name w u q =
    ap said (hash_map_updates_text name m n w u q) ∙ map_cond (bytes_eq name q) w (get_by_text m q)
    ∙ ap (λ (b : Bool). cond b (said w) (slot m q)) (bytes_eq-symmetric name q)

removed_at : (b : Bool) (w : Option (Option Text)) (o : Option Text) → unwrap_or (cond b None w) (cond b None o) ≡ cond b None (unwrap_or w o)
removed_at true w o = refl
removed_at false w o = refl

pub nothing_set : (q : Text) → lookup finite.empty q ≡ None
nothing_set q = finite.get-empty (slice_cmp nat_cmp) q

-- a name was taken out of a table, and out of the environment under it
pub removed_over : {S : Type 0} (e : Environment) (m n : IndexMap (String Global) (Option (String Global)) S) (name : Text) → UpdatesBy string_eq (λ k. bytes_eq name (string_bytes k)) m n None
    → written_over (finite.remove e name) n.entries ≡ finite.remove (written_over e m.entries) name
removed_over e m n name u = same_environment _ _ (λ q.
    lookup-written_over (finite.remove e name) n q ∙ ap (λ (o : Option (Option Text)). unwrap_or o (lookup (finite.remove e name) q)) (slot-updated m n name None u q)
    ∙ ap (unwrap_or (cond (bytes_eq q name) None (slot m q))) (lookup-with_value e name None q) ∙ removed_at (bytes_eq q name) (slot m q) (lookup e q)
    ∙ ap (cond (bytes_eq q name) None) (sym (lookup-written_over e m q)) ∙ sym (lookup-with_value (written_over e m.entries) name None q))

-- what was found in a table, or else in the environment under it
pub found_over : {S : Type 0} (e d : Environment) (m : IndexMap (String Global) (Option (String Global)) S) (q : Text)
    (o : Option (Option Text)) (p : Option Text) → written_over e m.entries ≡ d → o ≡ slot m q
    → p ≡ unwrap_or o (lookup e q) → p ≡ lookup d q
found_over e d m q o p v f h = h ∙ ap (λ (w : Option (Option Text)). unwrap_or w (lookup e q)) f ∙ sym (lookup-written_over e m q) ∙ ap (λ (x : Environment). lookup x q) v

-- names that no entry has
passed : (b h : Bool) (v : Option (String Global)) (w : Option (Option (String Global))) → (b || h) ≡ false → (h ≡ false → w ≡ None) → cond b (Some v) w ≡ None
passed true h v w e f = absurd (false≢true (sym e))
passed false h v w e f = f e

not_found : (es : List Slot) (q : Text) → has q (names_of es) ≡ false → maps.lookup (λ k. bytes_eq q (string_bytes k)) es ≡ None
not_found [] q h = refl
not_found (x ∷ xs) q h = passed (bytes_eq q (string_bytes x.0)) (has q (names_of xs)) x.1 (maps.lookup (λ k. bytes_eq q (string_bytes k)) xs) h (not_found xs q)

pub not_written : (e : Environment) (es : List Slot) (q : Text) → has q (names_of es) ≡ false → lookup (written_over e es) q ≡ lookup e q
not_written e es q h = lookup-entries e es q ∙ ap (λ (o : Option (Option (String Global))). unwrap_or (said o) (lookup e q)) (not_found es q h)

-- names that a list has none of, once those of the entries and all that is set under them were appended to it
pub all_appended : (e d : Environment) (es : List Slot) (before between after under : List Text) → written_over e es ≡ d
    → between ≡ before ++ names_of es → after ≡ between ++ under
    → ((n : Text) → has n under ≡ false → lookup e n ≡ None)
    → (n : Text) → has n after ≡ false → (has n before ≡ false) × (lookup d n ≡ None)
all_appended e d es before between after under w first second none n h =
    let later : (has n between || has n under) ≡ false = sym (ap (has n) second ∙ list_any-append (bytes_eq n) between under) ∙ h in
    let earlier : (has n before || has n (names_of es)) ≡ false = sym (ap (has n) first ∙ list_any-append (bytes_eq n) before (names_of es)) ∙ or_left (has n between) (has n under) later in (
      or_left (has n before) (has n (names_of es)) earlier,
      ap (λ (x : Environment). lookup x n) (sym w)
          ∙ not_written e es n (or_right (has n before) (has n (names_of es)) earlier)
          ∙ none n (or_right (has n between) (has n under) later),
    )

-- names that were not touched have the values under them
pub all_touched : {S : Type 0} (e d : Environment) (m : IndexMap (String Global) (Option (String Global)) S) (names : List Text) → written_over e m.entries ≡ d → names ≡ names_of m.entries
    → (n : Text) → has n names ≡ false → lookup e n ≡ lookup d n
all_touched e d m names w h n k = sym (not_written e m.entries n (ap (has n) (sym h) ∙ k)) ∙ ap (λ (x : Environment). lookup x n) w

-- what holds where a call succeeds, of one that does
pub ok_then : {A E P : Type 0} (r : Result A E) → IsOk r → OnOk r P → P
ok_then (Ok a) k h = h
ok_then (Err e) k h = absurd (false≢true k)

-- one more change is written
pub write_made : {S : Type 0} (base : Environment) (m n : IndexMap (String Global) (Option (String Global)) S) (old rest : List Change) (change : Change) (all : Environment) → old ≡ change ∷ rest
    → ((q : Text) → slot n q ≡ (if bytes_eq q (string_bytes change.name) then Some
    (option_map string_bytes change.value) else slot m q))
    → applied (map new_value_of old) (written_over base m.entries) ≡ all
    → applied (map new_value_of rest) (written_over base n.entries) ≡ all
write_made base m n old rest change all e h k =
    ap (applied (map new_value_of rest)) (entered_over base m n (string_bytes change.name) (option_map string_bytes change.value) h)
    ∙ ap (λ (xs : List Change). applied (map new_value_of xs) (written_over base m.entries)) (sym e) ∙ k

-- a copied table says what the table says
pub copied_over : (e : Environment) (D : Option (String Global) → Option (String Global) → Type 0) → ((v w : Option (String Global)) → D v w → option_map string_bytes w ≡ option_map string_bytes v)
    → (es fs : List Slot) → AllZip (λ p q. (string_bytes q.0 ≡ string_bytes p.0) × D p.1 q.1) es fs → written_over e fs ≡ written_over e es
copied_over e D d [] [] h = refl
copied_over e D d [] (f ∷ fs) h = absurd h
copied_over e D d (x ∷ xs) [] h = absurd h
copied_over e D d (x ∷ xs) (f ∷ fs) h = rw (h.0.0, d x.1 f.1 h.0.1, copied_over e D d xs fs h.1) refl
