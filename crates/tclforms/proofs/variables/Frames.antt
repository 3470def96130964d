-- Maps with strings as keys, read as lists of names with values.
use Rattle.std.proofs.Common.{◌≡◌, ℕ, Bool, true, false, cond, List, [], ◌∷◌, Option, Some, None, map, String, Global}
use Rattle.std.proofs.Common.{refl, ap}
use Rattle.std.specs.Borrow.{Bor}
use Rattle.std.specs.Option.{option_map, option_copied}
use Rattle.std.specs.String.{string_bytes, string_eq}
use Rattle.std.specs.Str.{bytes_eq}
use Rattle.std.specs.Map as pairs
use Rattle.indexmap.specs.IndexMap.{insert_entry, shift_remove_entry}
use Rattle.tcltext.specs.chars.Runs.{Text}
use Rattle.tclrules.specs.Variables.{lookup, store, without}
use Rattle.tclforms.specs.variables.Views.{texts_of}

module _ {A B : Type 0} (f : A → B) where
  pub map_copied : (o : Option (Bor A)) → option_map (λ p. f p.now) o ≡ option_map f (option_copied o)
  map_copied None = refl
  map_copied (Some p) = refl

  abbrev pub named : List (String Global × A) → List (Text × B)
  named es = map (λ e. (string_bytes e.0, f e.1)) es

  pub lookup_named : (es : List (String Global × A)) (q : List ℕ) → option_map f (pairs.lookup (λ k. bytes_eq q (string_bytes k)) es) ≡ lookup (named es) q
  lookup_named [] q = refl
  lookup_named (e ∷ es) q = go (bytes_eq q (string_bytes e.0)) (lookup_named es q)
    where
      go : (b : Bool) → option_map f (pairs.lookup (λ k. bytes_eq q (string_bytes k)) es) ≡ lookup (named es) q
          → option_map f (cond b (Some e.1) (pairs.lookup (λ k. bytes_eq q (string_bytes k)) es)) ≡ cond b
          (Some (f e.1)) (lookup (named es) q)
      go true h = refl
      go false h = h

  pub store_named : (es : List (String Global × A)) (k : String Global) (v : A) → named (insert_entry string_eq es k v) ≡ store (named es) (string_bytes k) (f v)
  store_named [] k v = refl
  store_named (e ∷ es) k v = go (bytes_eq (string_bytes k) (string_bytes e.0)) (store_named es k v)
    where
      go : (b : Bool) → named (insert_entry string_eq es k v) ≡ store (named es) (string_bytes k) (f v)
          → named (cond b ((e.0, v) ∷ es) (e ∷ insert_entry string_eq es k v)) ≡ cond b
          ((string_bytes e.0, f v) ∷ named es) ((string_bytes e.0, f e.1) ∷ store (named es) (string_bytes k) (f v))
      go true h = refl
      go false h = ap (λ r. (string_bytes e.0, f e.1) ∷ r) h

pub without_texts : (es : List (String Global × Text)) (q : List ℕ) → texts_of (shift_remove_entry (λ k. bytes_eq q (string_bytes k)) es) ≡ without (texts_of es) q
without_texts [] q = refl
without_texts (e ∷ es) q = go (bytes_eq q (string_bytes e.0)) (without_texts es q)
  where
    go : (b : Bool) → texts_of (shift_remove_entry (λ k. bytes_eq q (string_bytes k)) es) ≡ without (texts_of es) q
        → texts_of (cond b es (e ∷ shift_remove_entry (λ k. bytes_eq q (string_bytes k)) es)) ≡ cond b (texts_of es)
        ((string_bytes e.0, e.1) ∷ without (texts_of es) q)
    go true h = refl
    go false h = ap (λ r. (string_bytes e.0, e.1) ∷ r) h
