-- The conflicts of live modules, as the loaded list records them.
use Rattle.std.proofs.Common.{◌≡◌, Bool, true, false, ◌||◌, List, [], ◌∷◌, refl, sym, ap, ◌∙◌}
use Rattle.std.specs.Prelude.{bytes_eq}
use Rattle.std.specs.List.{list_any}
use Rattle.std.proofs.lemmas.List.Folds.{list_any-append}
use Rattle.modulename.specs.ModuleName.{means}
use Rattle.envvars.specs.Texts.{Text}
use Rattle.envvars.specs.Fields.{without, without_repeats}
use Rattle.envvars.proofs.TextLemmas.{same_text, or_left, or_right}
use Rattle.modulefile.specs.Records.{conflict_names}
use Rattle.modulefile.specs.Moves.{Module, entry_of}
use Rattle.reversal.specs.Live.{entries_over}
use Rattle.audit_certificate.specs.Clashes.{names_in_conflict, in_conflict, in_conflict_with_entry}
use Rattle.audit_certificate.specs.Laws.{EntriesHaveConflicts}
use Rattle.audit_certificate.proofs.UsedLemmas.{by_test, by_cases, neither}

-- a test of some element, where repetitions are left out

any_left : (p : Text → Bool) (x : Text) (ys : List Text) → p x ≡ false → list_any p (without x ys) ≡ list_any p ys
any_left p x [] h = refl
any_left p x (y ∷ ys) h = by_test (bytes_eq y x) _
    (λ t. let f : p y ≡ false = ap p (same_text y x t) ∙ h in rw (t, f) (any_left p x ys h))
    (λ t. rw t (ap (λ (b : Bool). p y || b) (any_left p x ys h)))

first_any : (a b c : Bool) → (a ≡ false → b ≡ c) → (a || b) ≡ (a || c)
first_any true b c h = refl
first_any false b c h = h refl

any_once : (p : Text → Bool) (xs : List Text) → list_any p (without_repeats xs) ≡ list_any p xs
any_once p [] = refl
any_once p (x ∷ xs) = first_any (p x) (list_any p (without x (without_repeats xs))) (list_any p xs) (λ f. any_left p x (without_repeats xs) f ∙ any_once p xs)

-- each live module has its entry

with_newest : (m k : Module) → in_conflict_with_entry m (entry_of k) ≡ false → in_conflict m k ≡ false
with_newest m k h = neither (names_in_conflict m k) (names_in_conflict k m)
    (or_left (names_in_conflict m k) (list_any (λ name. means name m.name) (without_repeats (conflict_names k.records))) h)
    (sym (any_once (λ name. means name m.name) (conflict_names k.records)) ∙ or_right (names_in_conflict m k) (list_any (λ name. means name m.name) (without_repeats (conflict_names k.records))) h)

pub entries_have_conflicts : EntriesHaveConflicts
entries_have_conflicts xs [] m h n a = absurd a
entries_have_conflicts xs (k ∷ live) m h n a =
    let both : (list_any (in_conflict_with_entry m) (entries_over xs live) || list_any (in_conflict_with_entry m) (entry_of k ∷ [])) ≡ false =
    sym (list_any-append (in_conflict_with_entry m) (entries_over xs live) (entry_of k ∷ [])) ∙ h in
    by_cases a
    (λ e. ap (in_conflict m) e ∙ with_newest m k (or_left (in_conflict_with_entry m (entry_of k)) false
    (or_right (list_any (in_conflict_with_entry m) (entries_over xs live)) (list_any (in_conflict_with_entry m) (entry_of k ∷ [])) both)))
    (λ b. entries_have_conflicts xs live m (or_left (list_any (in_conflict_with_entry m) (entries_over xs live)) (list_any (in_conflict_with_entry m) (entry_of k ∷ [])) both) n b)
