-- Names in a set, and one more.
use Rattle.std.proofs.Common.{◌≡◌, ℕ, ◌+◌, ◌<◌, length, take, get_or, map, string_bytes, Global, Bor, Bool, true, false}
use Rattle.std.proofs.Common.{◌||◌, List, [], ◌∷◌, ◌++◌, refl, sym, ap, ◌∙◌}
use Rattle.std.specs.Prelude.{bytes_eq, if◌then◌else◌}
use Rattle.std.specs.List.{list_any}
use Rattle.std.proofs.lemmas.List.Concat.{flat_map-append}
use Rattle.std.proofs.lemmas.List.Folds.{list_any-append}
use Rattle.std.proofs.lemmas.List.{take_more, map-append}
use Rattle.std.specs.declared.string.String.{String}
use Rattle.envvars.specs.Texts.{Text, has}
use Rattle.modulefile.specs.Records.{Record, conflicts_of, conflict_names}
use Rattle.envvars.proofs.TextLemmas.{same_text}

-- whether a key is this name
abbrev pub any_key : Text → List (Bor Text) → Bool
any_key name keys = list_any (λ k. bytes_eq name k.now) keys

or_self : (a b : Bool) → (b ≡ true → a ≡ true) → a ≡ (a || b)
or_self true b h = refl
or_self false true h = h refl
or_self false false h = refl

or_last : (a b : Bool) → (a || (b || false)) ≡ (a || b)
or_last true b = refl
or_last false true = refl
or_last false false = refl

-- a name that is put among the keys, unless it is there
pub one_name : (keys : List (Bor Text)) (key : Bor Text) (name : Text)
    → any_key name (if list_any (λ k. bytes_eq key.now k.now) keys then keys else keys ++ key ∷ []) ≡ (any_key name keys || bytes_eq name key.now)
one_name keys key name = by (any_key key.now keys) refl
  where
    by : (b : Bool) → any_key key.now keys ≡ b → any_key name (if b then keys else keys ++ key ∷ []) ≡ (any_key name keys || bytes_eq name key.now)
    by true e = or_self (any_key name keys) (bytes_eq name key.now) (λ t. ap (λ (n : Text). any_key n keys) (same_text name key.now t) ∙ e)
    by false e = list_any-append (λ k. bytes_eq name k.now) keys (key ∷ []) ∙ or_last (any_key name keys) (bytes_eq name key.now)

or_assoc : (a b c : Bool) → ((a || b) || c) ≡ (a || (b || c))
or_assoc true b c = refl
or_assoc false b c = refl

has-append : (name : Text) (xs ys : List Text) → has name (xs ++ ys) ≡ (has name xs || has name ys)
has-append name xs ys = list_any-append (bytes_eq name) xs ys

-- one more text of several
more_texts : (name : Text) (xs : List (String Global)) (i : ℕ) (s : String Global) → i < length xs → s ≡ get_or xs i s
    → has name (map string_bytes (take (i + 1) xs)) ≡ (has name (map string_bytes (take i xs)) || bytes_eq name (string_bytes s))
more_texts name xs i s l is =
    ap (λ (ys : List (String Global)). has name (map string_bytes ys)) (take_more xs i s l ∙ ap (λ (t : String Global). take i xs ++ t ∷ []) (sym is))
    ∙ (ap (has name) (map-append string_bytes (take i xs) (s ∷ []))
    ∙ (has-append name (map string_bytes (take i xs)) (string_bytes s ∷ [])
    ∙ or_last (has name (map string_bytes (take i xs))) (bytes_eq name (string_bytes s))))

-- the names after one more was put among the keys
pub names_turn : (name : Text) (old new : List (Bor Text)) (key : Bor Text) (before : Bool) (xs : List (String Global)) (i : ℕ) (s : String Global) → i < length xs → s ≡ get_or xs i s
    → key.now ≡ string_bytes s → new ≡ (if list_any (λ k. bytes_eq key.now k.now) old then old else old ++ key ∷ [])
    → any_key name old ≡ (before || has name (map string_bytes (take i xs)))
    → any_key name new ≡ (before || has name (map string_bytes (take (i + 1) xs)))
names_turn name old new key before xs i s l is text put h =
    ap (any_key name) put ∙ (one_name old key name ∙ (ap (λ b. b || bytes_eq name key.now) h
    ∙ (or_assoc before (has name (map string_bytes (take i xs))) (bytes_eq name key.now)
    ∙ ap (λ b. before || b) (ap (λ (t : Text). has name (map string_bytes (take i xs)) || bytes_eq name t) text ∙ sym (more_texts name xs i s l is)))))

-- the names of conflicts, record by record
pub conflicts_turn : {X : Type 0} (view : X → Record) (name : Text) (old new : Bool) (xs : List X) (i : ℕ) (x : X) → i < length xs → x ≡ get_or xs i x
    → new ≡ (old || has name (conflict_names (view x ∷ []))) → old ≡ has name (conflict_names (map view (take i xs)))
    → new ≡ has name (conflict_names (map view (take (i + 1) xs)))
conflicts_turn view name old new xs i x l is e h =
    e ∙ (ap (λ b. b || has name (conflict_names (view x ∷ []))) h
    ∙ (sym (has-append name (conflict_names (map view (take i xs))) (conflict_names (view x ∷ [])))
    ∙ ap (has name) (sym (flat_map-append conflicts_of (map view (take i xs)) (view x ∷ []))
    ∙ ap conflict_names (sym (ap (map view) (take_more xs i x l ∙ ap (λ y. take i xs ++ y ∷ []) (sym is)) ∙ map-append view (take i xs) (x ∷ []))))))
