-- Reading and writing the texts of stacks.
use Rattle.std.proofs.Common.{◌≡◌, ℕ, suc, false, ◌<◌, ◌≢◌, [], ◌∷◌, ◌++◌, refl, sym, ap, ◌∙◌, arith, length}
use Rattle.std.proofs.Common.{append_assoc, get_or, nat_eq, Option, Some, None, Bor}
use Rattle.std.specs.Prelude.{encode_utf8}
use Rattle.std.proofs.lemmas.Bool.Decides.{nat_tests}
use Rattle.std.proofs.lemmas.Str.{encode_ascii}
use Rattle.std.proofs.lemmas.Str.Pattern.{IsSplitOnceResult, split_parts}
use Rattle.envvars.proofs.EscapeLemmas.{escaped-append}
use Rattle.envvars.specs.Texts.{Text}
use Rattle.envvars.specs.Escapes.{escaped}
use Rattle.envstate.specs.stacks.StackTexts.{split_at_ampersand, owner_of, owner_text, item_of}

-- an element is cut at its first `&`
not_same : (b c : ℕ) → b ≢ c → nat_eq b c ≡ false
not_same b c h = grind (arith, nat_tests)

split_at_ampersand-found : (x y : Text) → ((i : ℕ) → i < length x → get_or x i 0 ≢ 38) → split_at_ampersand (x ++ 38 ∷ y) ≡ Some (x, y)
split_at_ampersand-found [] y h = refl
split_at_ampersand-found (b ∷ bs) y h =
    let n : nat_eq b 38 ≡ false = not_same b 38 (h 0 (omega arith)) in
    rw (n, split_at_ampersand-found bs y (λ i l. h (suc i) (omega arith))) refl

split_at_ampersand-none : (x : Text) → ((i : ℕ) → i < length x → get_or x i 0 ≢ 38) → split_at_ampersand x ≡ None
split_at_ampersand-none [] h = refl
split_at_ampersand-none (b ∷ bs) h =
    let n : nat_eq b 38 ≡ false = not_same b 38 (h 0 (omega arith)) in
    rw (n, split_at_ampersand-none bs (λ i l. h (suc i) (omega arith))) refl

pub item-found : (bs : Text) (x y : Bor Text) → IsSplitOnceResult 38 bs (Some (x, y)) → item_of bs ≡ Some (owner_of x.now, y.now)
item-found bs x y h =
    let q = split_parts 38 bs (Some (x, y)) h (omega arith) in
    rw q.0 (rw (split_at_ampersand-found x.now y.now q.1) refl)

pub item-none : (bs : Text) → IsSplitOnceResult 38 bs None → item_of bs ≡ None
item-none bs h = rw (split_at_ampersand-none bs (split_parts 38 bs None h (omega arith))) refl

pub item_made : (bs : Text) (x y : Bor Text) (o : Option Text) (v : Text) → IsSplitOnceResult 38 bs (Some (x, y)) → o ≡ owner_of x.now → v ≡ y.now → Some (o, v) ≡ item_of bs
item_made bs x y o v h e f = rw (e, f) (sym (item-found bs x y h))

pub element_made : (o : Option Text) (value t u v part : Text) → t ≡ escaped (owner_text o) → u ≡ t ++ encode_utf8 38 → part ≡ value → v ≡ u ++ escaped part → v ≡ escaped (owner_text o ++ 38 ∷ value)
element_made o value t u v part e f p g =
    let one : u ≡ escaped (owner_text o) ++ 38 ∷ [] = f ∙ ap (λ (l : Text). l ++ encode_utf8 38) e ∙ ap (λ (l : Text). escaped (owner_text o) ++ l) (encode_ascii 38 (omega arith)) in
    g ∙ ap (λ (l : Text). u ++ escaped l) p ∙ ap (λ (l : Text). l ++ escaped value) one
    ∙ append_assoc (escaped (owner_text o)) (38 ∷ []) (escaped value)
    ∙ sym (escaped-append (owner_text o) (38 ∷ value))
