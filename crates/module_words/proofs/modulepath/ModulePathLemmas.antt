-- What names a path, and what is left of a list.
use Rattle.std.proofs.Common.{◌≡◌, ◌==◌, Bool, false, cond, not, ◌||◌, List, [], ◌∷◌, refl, sym, ap, ◌∙◌, arith, Bor, Option, Some, None, String, Global, string_bytes, length}
use Rattle.std.specs.Prelude.{bytes_eq}
use Rattle.std.proofs.lemmas.Bool.Decides.{nat_tests}
use Rattle.std.specs.List.{list_any}
use Rattle.std.specs.Option.{option_map, option_map_or}
use Rattle.envvars.specs.Texts.{Text, has, slice_texts}
use Rattle.envvars.specs.Fields.{without_repeats}
use Rattle.envvars.proofs.FieldLemmas.{has-without_repeats}
use Rattle.process.specs.AbsolutePaths.{absolute_path}
use Rattle.envstate.specs.declared.paths.adding.End.{End}
use Rattle.module_words.specs.modulepath.ModulePaths.{at_end, names_one, unused, used}

has_key : (x : Text) (ks : List (Bor Text)) → list_any (λ k. bytes_eq x k.now) ks ≡ has x (slice_texts ks)
has_key x [] = refl
has_key x (k ∷ ks) = ap (λ (b : Bool). bytes_eq x k.now || b) (has_key x ks)

-- the answer of a set is the definition's
pub names_one-set : (w : Option Text) (e : Text) (ks : List (Bor Text)) (found : Option (String Global)) (p : String Global) (path : Text) (r : Bool)
    → option_map string_bytes found ≡ absolute_path w e → found ≡ Some p → path ≡ string_bytes p → r ≡ list_any (λ k. bytes_eq path k.now) ks
    → r ≡ names_one w (slice_texts ks) e
names_one-set w e ks found p path r given is text answer =
    answer ∙ (has_key path ks ∙ (ap (λ (t : Text). has t (slice_texts ks)) text
    ∙ ap (λ (o : Option Text). option_map_or (λ t. has t (slice_texts ks)) o false) (sym (ap (option_map string_bytes) is) ∙ given)))

-- paths that are there once name what all of them name
once_at : (ps : List Text) (o : Option Text) → option_map_or (λ path. has path (without_repeats ps)) o false ≡ option_map_or (λ path. has path ps) o false
once_at ps None = refl
once_at ps (Some p) = has-without_repeats p ps

pub unused-once : (w : Option Text) (ps : List Text) (es : List Text) → unused w (without_repeats ps) es ≡ unused w ps es
unused-once w ps [] = refl
unused-once w ps (e ∷ es) =
    ap (λ (b : Bool). cond (not b) (e ∷ unused w (without_repeats ps) es) (unused w (without_repeats ps) es)) (once_at ps (absolute_path w e))
    ∙ ap (λ (l : List Text). cond (not (names_one w ps e)) (e ∷ l) l) (unused-once w ps es)

-- a text without bytes is the empty one
pub empty-length : (t : Text) → (length t == 0) ≡ bytes_eq t []
empty-length [] = refl
empty-length (b ∷ bs) = grind (arith, nat_tests)

-- the list of `used`, by what each call gives
pub used-made : (w : Option Text) (end : End) (paths slices once known list others new : List Text) → slices ≡ paths → once ≡ without_repeats slices → known ≡ without_repeats slices
    → others ≡ unused w known list → new ≡ at_end end once others → new ≡ used w end paths list
used-made w end paths slices once known list others new sliced deduplicated set left put =
    let o : once ≡ without_repeats paths = deduplicated ∙ ap without_repeats sliced in
    let k : known ≡ without_repeats paths = set ∙ ap without_repeats sliced in
    let l : others ≡ unused w paths list = left ∙ (ap (λ (ks : List Text). unused w ks list) k ∙ unused-once w paths list) in
    put ∙ (ap (λ (x : List Text). at_end end x others) o ∙ ap (at_end end (without_repeats paths)) l)

-- the list of `unused`
pub unused-made : (w : Option Text) (paths slices known list new : List Text) → slices ≡ paths → known ≡ without_repeats slices → new ≡ unused w known list → new ≡ unused w paths list
unused-made w paths slices known list new sliced set left =
    left ∙ (ap (λ (ks : List Text). unused w ks list) (set ∙ ap without_repeats sliced) ∙ unused-once w paths list)
