-- Tests of lists, by what their elements stand for.
use Rattle.std.proofs.Common.{◌≡◌, ◌<◌, Bool, ◌||◌, List, [], ◌∷◌, length, map, String, Global, string_bytes, refl, ap, arith}
use Rattle.std.specs.List.{list_any}
use Rattle.message.specs.Messages.{Text}
use Rattle.module_reports.specs.listings.Texts.{fits, is_meant}
use Rattle.module_reports.specs.declared.listings.options.Options.{Options}

-- one of the elements passes a test of what it stands for
pub any_seen : {A B : Type 0} (p : B → Bool) (v : A → B) (xs : List A) → list_any (λ x. p (v x)) xs ≡ list_any p (map v xs)
any_seen p v [] = refl
any_seen p v (x ∷ xs) = ap (λ b. p (v x) || b) (any_seen p v xs)

-- where there are texts, one of them fits
pub meant_or : (o : Options) (texts : List (String Global)) (name : Text) → 0 < length texts → is_meant o (map string_bytes texts) name ≡ list_any (fits o name) (map string_bytes texts)
meant_or o [] name h = absurd (omega arith)
meant_or o (text ∷ texts) name h = refl
