-- The last of some words, and the others.
use Rattle.std.proofs.Common.{◌≡◌, List, [], ◌∷◌, ℕ, zero, suc, ◌+◌, length, take, get_or, map, string_bytes, String, Global, Option, Some, refl, ap, sym, arith}
use Rattle.message.specs.Messages.{Text}
use Rattle.module_reports.specs.completions.Lines.{last_of, others_of}
use Rattle.module_reports.specs.completions.Places.{kinds_at}
use Rattle.module_reports.specs.declared.completions.kind.NameKind.{NameKind}
use Rattle.module_reports.specs.declared.completions.place.Caller.{Caller}
use Rattle.module_subcommands.specs.Completions.{wanted_at}

pub last_word : (words : List (String Global)) (n : ℕ) (word : String Global) → n + 1 ≡ length words → word ≡ get_or words n word → last_of (map (λ (s : String Global). string_bytes s) words) ≡ Some (string_bytes word)
last_word [] n word e at = absurd (omega (arith, e))
last_word (x ∷ []) zero word e at = ap (λ (s : String Global). Some (string_bytes s)) (sym at)
last_word (x ∷ []) (suc n) word e at = absurd (omega (arith, e))
last_word (x ∷ y ∷ ys) zero word e at = absurd (omega (arith, e))
last_word (x ∷ y ∷ ys) (suc n) word e at = last_word (y ∷ ys) n word (omega (arith, e)) at

pub other_words : (words : List (String Global)) (n : ℕ) → n + 1 ≡ length words → others_of (map (λ (s : String Global). string_bytes s) words) ≡ map (λ (s : String Global). string_bytes s) (take n words)
other_words [] n e = absurd (omega (arith, e))
other_words (x ∷ []) zero e = refl
other_words (x ∷ []) (suc n) e = absurd (omega (arith, e))
other_words (x ∷ y ∷ ys) zero e = absurd (omega (arith, e))
other_words (x ∷ y ∷ ys) (suc n) e = ap (λ (l : List Text). string_bytes x ∷ l) (other_words (y ∷ ys) n (omega (arith, e)))

-- what can stand where the last of them is
pub last_wanted : (caller : Caller) (found : Option Caller) (words : List (String Global)) (n : ℕ) (word : String Global) (kinds : List NameKind) (text : Text) → found ≡ Some caller → n + 1 ≡ length words → word ≡ get_or words n word → kinds ≡ kinds_at caller (map (λ (s : String Global). string_bytes s) (take n words)) (string_bytes word) → text ≡ string_bytes word → Some (kinds, text) ≡ wanted_at found (map (λ (s : String Global). string_bytes s) words)
last_wanted caller found words n word kinds text f e at k t =
    rw (f, last_word words n word e at, other_words words n e, k, t) refl
