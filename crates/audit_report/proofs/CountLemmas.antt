-- How often names stand in a list, counted one after another.
use Rattle.std.proofs.Common.{arith, ◌≡◌, ℕ, ◌+◌, Bool, true, false, cond, List, [], ◌∷◌, ◌++◌, flat_map, Bor, refl, sym, ap, ◌∙◌, Option, Some}
use Rattle.std.specs.Prelude.{bytes_eq}
use Rattle.std.specs.List.{count_by}
use Rattle.std.specs.Option.{option_map_or}
use Rattle.std.proofs.lemmas.List.Sums.{sum_by_push}
use Rattle.std.proofs.lemmas.Map.Text.{hash_map_updates_str}
use Rattle.indexmap.specs.IndexMap.{IndexMap, get_by, Updates}
use Rattle.envvars.specs.Texts.{Text}
use Rattle.envvars.specs.Fields.{without_repeats}
use Rattle.envvars.proofs.TextLemmas.{same_text, bytes_eq-symmetric}
use Rattle.audit_report.specs.declared.conflicts.NameCounts.{NameCounts}
use Rattle.audit_report.specs.Counts.{CountsOne, HasCounts, counted_at}
use Rattle.audit_report.specs.Remarks.{conflict_line, conflict_lines_of}

abbrev Counts : Type 0 → Type 0
Counts S = IndexMap (Bor Text) ℕ S

abbrev number : Option ℕ → ℕ
number o = option_map_or (λ n. n) o 0

abbrev at : {S : Type 0} → Counts S → Text → ℕ
at m name = number (get_by (λ k. bytes_eq name k.now) m)

none_more : (n : ℕ) → n ≡ n + 0
none_more n = omega arith

counted : (b : Bool) (o : Option ℕ) (w : ℕ) → (b ≡ true → w ≡ number o + 1) → number (cond b (Some w) o) ≡ number o + cond b 1 0
counted true o w h = h (λ i. true)
counted false o w h = none_more (number o)

-- a name is added, with a number that is one more than its own
pub one_counted : {S : Type 0} (m n : Counts S) (added : Bor Text) (w : ℕ) → Updates (λ x y. bytes_eq x.now y.now) m n added (Some w) → w ≡ at m added.now + 1
    → (name : Text) → at n name ≡ at m name + cond (bytes_eq name added.now) 1 0
one_counted m n added w h e name =
    ap number (hash_map_updates_str added.now m n (Some w) h name)
    ∙ (counted (bytes_eq added.now name) (get_by (λ k. bytes_eq name k.now) m) w
    (λ t. e ∙ ap (λ (x : Text). at m x + 1) (same_text added.now name t))
    ∙ ap (λ (b : Bool). at m name + cond b 1 0) (bytes_eq-symmetric added.now name))

-- one name more of a list is counted
pub counted_turn : (old new : NameCounts) (names : List Text) (added : Text) → HasCounts old names → CountsOne old new added → HasCounts new (names ++ added ∷ [])
counted_turn old new names added have one name =
    one name ∙ (ap (λ (n : ℕ). n + cond (bytes_eq name added) 1 0) (have name)
    ∙ sym (sum_by_push (λ (x : Text). cond (bytes_eq name x) 1 0) names added))

lines_alike : (counts : NameCounts) (names firsts : List Text) → HasCounts counts names
    → flat_map (λ name. conflict_line (counted_at counts name) name) firsts ≡ flat_map (λ name. conflict_line (count_by (bytes_eq name) names) name) firsts
lines_alike counts names [] have = refl
lines_alike counts names (x ∷ xs) have = λ i. conflict_line (have x i) x ++ lines_alike counts names xs have i

-- the lines by the counts are those of the names
pub lines_counted : (counts : NameCounts) (names firsts all : List Text) → HasCounts counts names → firsts ≡ without_repeats names → names ≡ all
    → flat_map (λ name. conflict_line (counted_at counts name) name) firsts ≡ conflict_lines_of all
lines_counted counts names firsts all have first same =
    lines_alike counts names firsts have
    ∙ (ap (λ (xs : List Text). flat_map (λ name. conflict_line (count_by (bytes_eq name) names) name) xs) first ∙ ap conflict_lines_of same)
