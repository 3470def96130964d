-- Replacements in texts.
use Rattle.std.proofs.Common.{◌≡◌, Bor, ℕ, zero, suc, ◌-◌, ◌<◌, Bool, true, false, cond, List, [], ◌∷◌, ◌++◌, length}
use Rattle.std.proofs.Common.{map, find, take, drop, Option, Some, refl, sym, ap, ◌∙◌, append_assoc, arith}
use Rattle.std.specs.Option.{option_map, option_copied}
use Rattle.std.proofs.lemmas.List.{take_all}
use Rattle.tcltext.specs.chars.Runs.{Text}
use Rattle.tclvalue.specs.Searches.{Pair, first_fit, replaced, mapped}

-- to pass over characters is to leave them out
mapped_past : (ps : List Pair) (n : ℕ) (cs : Text) → mapped ps n cs ≡ mapped ps 0 (drop n cs)
mapped_past ps zero cs = refl
mapped_past ps (suc n) [] = refl
mapped_past ps (suc n) (c ∷ cs) = mapped_past ps n cs

-- a key that fits is replaced
pub replaced_front : (ps : List Pair) (t after rest : Text) (p : Pair) (old new : Text) → 0 < length t → after ≡ take (length t - 1) (drop 1 t) → first_fit ps t ≡ Some p → new ≡ old ++ p.1
    → rest ≡ drop (length p.0 - 1) after → new ++ mapped ps 0 rest ≡ old ++ mapped ps 0 t
replaced_front ps [] after rest p old new some e f made left = absurd (omega arith)
replaced_front ps (c ∷ cs) after rest p old new some e f made left =
    ap (λ x. x ++ mapped ps 0 rest) made ∙ append_assoc old p.1 (mapped ps 0 rest)
    ∙ ap (λ x. old ++ (p.1 ++ x)) (ap (mapped ps 0) (left ∙ ap (drop (length p.0 - 1)) (e ∙ take_all (length (c ∷ cs) - 1) cs (omega arith))) ∙ sym (mapped_past ps (length p.0 - 1) cs))
    ∙ sym (ap (λ o. old ++ replaced c o (λ n. mapped ps n cs)) f)

find_map : {X Y : Type 0} (test : Y → Bool) (view : X → Y) (xs : List X) → option_map view (find (λ x. test (view x)) xs) ≡ find test (map view xs)
find_map test view [] = refl
find_map {X} {Y} test view (x ∷ xs) = by_test (test (view x)) (find_map test view xs)
  where
    by_test : (b : Bool) → option_map view (find (λ x. test (view x)) xs) ≡ find test (map view xs)
        → option_map view (cond b (Some x) (find (λ x. test (view x)) xs)) ≡ cond b (Some (view x)) (find test (map view xs))
    by_test true h = refl
    by_test false h = h

-- what is found among values of the code is found among what they stand for
pub find_seen : {X Y : Type 0} (test : Y → Bool) (view : X → Y) (xs : List X) (r : Option (Bor X)) → option_copied r ≡ find (λ x. test (view x)) xs
    → option_map view (option_copied r) ≡ find test (map view xs)
find_seen test view xs r h = ap (option_map view) h ∙ find_map test view xs
