use Rattle.std.proofs.Common.{◌≡◌, ◌≢◌, ◌<◌, ◌==◌, ◌∷◌, false, drop, get_or, sym, ap, ◌∙◌, arith, ℕ, List}
use Rattle.std.proofs.lemmas.Str.{IsCharBoundary-after_ascii}
use Rattle.std.proofs.lemmas.List.{drop_more}
use Rattle.std.proofs.lemmas.Bool.Decides.{nat_tests}
use Rattle.tcltext.proofs.chars.BackslashLemmas.{letter_read}
use Rattle.tcltext.proofs.chars.backslash.read_backslash.Goals as goal

pub split_at-requires : goal.split_at-requires
split_at-requires c =
    let first : get_or c.args.text.now 0 0 ≡ get_or c.as_bytes.result.now 0 0 = ap (λ (bs : List ℕ). get_or bs 0 0) (sym c.as_bytes.ensures.value) in
    let small : get_or c.args.text.now 0 0 < 128 = rw first (omega arith) in
    IsCharBoundary-after_ascii c.args.text.now 0 c.utf8.text (rw (← c.as_bytes.ensures.value) (omega arith)) small

is_not : (b k : ℕ) → b ≢ k → (b == k) ≡ false
is_not b k h = grind (arith, nat_tests)

pub returns : goal.returns
returns c =
    let b = get_or c.as_bytes.result.now 0 0 in
    let whole : c.args.text.now ≡ b ∷ c.split_at.result.1.now =
    drop_more c.args.text.now 0 0 (rw (← c.as_bytes.ensures.value) (omega arith))
    ∙ ap (λ (bs : List ℕ). get_or bs 0 0 ∷ drop 1 c.args.text.now) (sym c.as_bytes.ensures.value)
    ∙ ap (λ (bs : List ℕ). b ∷ bs) (sym c.split_at.ensures.back)
    in
    rw (c.letter.ensures) (letter_read b c.args.text.now c.split_at.result.1.now whole (omega arith) (is_not b 10 c.if-b-eq10.false) (sym c.is_octal.ensures ∙ c.if-is_octal.false)
    (is_not b 120 c.if-b-eq120.false) (is_not b 117 c.if-b-eq117.false) (is_not b 85 c.if-b-eq85.false))
