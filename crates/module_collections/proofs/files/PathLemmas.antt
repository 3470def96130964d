-- The folder of a path.
use Rattle.std.proofs.Common.{◌≡◌, ◌≢◌, ℕ, suc, ◌<◌, ◌==◌, true, false, [], ◌∷◌, ◌++◌, length, get_or, take, drop}
use Rattle.std.proofs.Common.{refl, sym, ap, ◌∙◌, arith}
use Rattle.std.specs.Prelude.{Some}
use Rattle.std.specs.Str.Pattern.{RFindsChar}
use Rattle.std.proofs.lemmas.Bool.Decides.{nat_tests}
use Rattle.std.proofs.lemmas.List.{take-append-drop, append_assoc}
use Rattle.std.proofs.lemmas.Str.Pattern.{NoCharPasses-char, drop_at_char}
use Rattle.std.proofs.Math.Bool.{or-true}
use Rattle.envvars.specs.Texts.{Text}
use Rattle.module_collections.specs.files.Entries.{folder_of, has_slash, beside}

no_slash : (b : ℕ) → b ≢ 47 → (b == 47) ≡ false
no_slash b ne = grind (arith, nat_tests)

none_is : (bs : Text) → ((i : ℕ) → i < length bs → get_or bs i 0 ≢ 47) → has_slash bs ≡ false
none_is [] h = refl
none_is (b ∷ bs) h =
    rw (no_slash b (h 0 (omega arith)), none_is bs (λ i l. h (suc i) (omega arith))) refl

-- what is before and after the last slash
parted : (bs front back : Text) (i j : ℕ) → RFindsChar 47 bs (Some (i, j)) → front ≡ take i bs → back ≡ drop j bs
    → (bs ≡ front ++ 47 ∷ back) × (has_slash back ≡ false)
parted bs front back i j h e f = (
  sym (take-append-drop i bs)
      ∙ (ap (λ (l : Text). take i bs ++ l) (drop_at_char 47 bs i j h.1 (omega arith))
      ∙ (ap (λ (l : Text). l ++ (47 ∷ drop j bs)) (sym e) ∙ ap (λ (l : Text). front ++ (47 ∷ l)) (sym f))),
  ap has_slash f ∙ none_is (drop j bs) (λ i l. NoCharPasses-char 47 (drop j bs) i h.0 (omega arith) l),
)

folder_none : (bs : Text) → has_slash bs ≡ false → folder_of bs ≡ []
folder_none [] e = refl
folder_none (b ∷ bs) e = rw e refl

has_mid : (front back : Text) → has_slash (front ++ 47 ∷ back) ≡ true
has_mid [] back = refl
has_mid (b ∷ front) back = rw (has_mid front back) (or-true (b == 47))

folder_parted : (front back : Text) → has_slash back ≡ false → folder_of (front ++ 47 ∷ back) ≡ front ++ 47 ∷ []
folder_parted [] back e = ap (λ (l : Text). 47 ∷ l) (folder_none back e)
folder_parted (b ∷ front) back e = rw (has_mid (b ∷ front) back) (ap (λ (l : Text). b ∷ l) (folder_parted front back e))

-- the path of a name beside a path with a slash
pub beside_parted : (bs front back name : Text) (i j : ℕ) → RFindsChar 47 bs (Some (i, j)) → front ≡ take i bs
    → back ≡ drop j bs → beside bs name ≡ front ++ 47 ∷ name
beside_parted bs front back name i j h e f =
    let p = parted bs front back i j h e f in
    ap (λ (l : Text). folder_of l ++ name) p.0
    ∙ (ap (λ (l : Text). l ++ name) (folder_parted front back p.1) ∙ append_assoc front (47 ∷ []) name)

-- the path of a name beside one without a slash
pub beside_alone : (bs name : Text) → ((i : ℕ) → i < length bs → get_or bs i 0 ≢ 47) → beside bs name ≡ name
beside_alone bs name h = ap (λ (l : Text). l ++ name) (folder_none bs (none_is bs h))
