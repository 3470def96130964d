-- The last part of a path.
use Rattle.std.proofs.Common.{◌≡◌, ◌≢◌, ℕ, ◌<◌, ◌==◌, false, Some, ◌∷◌, ◌++◌, [], length, get_or, take, drop, suc, refl}
use Rattle.std.proofs.Common.{sym, ap, ◌∙◌, arith}
use Rattle.std.specs.Str.Pattern.{RFindsChar}
use Rattle.std.proofs.lemmas.Bool.Decides.{nat_tests}
use Rattle.std.proofs.lemmas.List.{take-append-drop}
use Rattle.std.proofs.lemmas.Str.Pattern.{NoCharPasses-char, drop_at_char}
use Rattle.modulename.specs.ModuleName.{Text}
use Rattle.filetree.specs.Modulefiles.{path_of}
use Rattle.filetree.specs.Names.{has_slash}

no_slash : (b : ℕ) → b ≢ 47 → (b == 47) ≡ false
no_slash b ne = grind (arith, nat_tests)

none_is : (bs : Text) → ((i : ℕ) → i < length bs → get_or bs i 0 ≢ 47) → has_slash bs ≡ false
none_is [] h = refl
none_is (b ∷ bs) h =
    rw (no_slash b (h 0 (omega arith)), none_is bs (λ i l. h (suc i) (omega arith))) refl

-- what is before and after the last slash
pub parted : (bs front back : Text) (i j : ℕ) → RFindsChar 47 bs (Some (i, j)) → front ≡ take i bs → back ≡ drop j bs
    → (bs ≡ path_of front back) × (has_slash back ≡ false)
parted bs front back i j h e f = (
  sym (take-append-drop i bs)
      ∙ (ap (λ (l : Text). take i bs ++ l) (drop_at_char 47 bs i j h.1 (omega arith))
      ∙ (ap (λ (l : Text). l ++ (47 ∷ drop j bs)) (sym e) ∙ ap (λ (l : Text). front ++ (47 ∷ l)) (sym f))),
  ap has_slash f ∙ none_is (drop j bs) (λ i l. NoCharPasses-char 47 (drop j bs) i h.0 (omega arith) l),
)
