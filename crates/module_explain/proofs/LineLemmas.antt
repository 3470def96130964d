-- A text behind which two others are written.
use Rattle.std.proofs.Common.{◌≡◌, ◌++◌, ap, subst, ◌∙◌, append_assoc}
use Rattle.terminal.specs.text.Shown.{Text}

pub joined : (old front back middle new : Text) → middle ≡ old ++ front → new ≡ middle ++ back → new ≡ old ++ (front ++ back)
joined old front back middle new first second = second ∙ (ap (λ (t : Text). t ++ back) first ∙ append_assoc old front back)

-- a text behind which four others are written
pub lined : (a b c d e first second third fourth fifth : Text) → first ≡ a → second ≡ first ++ b → third ≡ second ++ c → fourth ≡ third ++ d → fifth ≡ fourth ++ e
    → fifth ≡ a ++ (b ++ (c ++ (d ++ e)))
lined a b c d e first second third fourth fifth p q r s t =
    subst (λ (x : Text). fifth ≡ x ++ (b ++ (c ++ (d ++ e)))) p
    (joined first b (c ++ (d ++ e)) second fifth q (joined second c (d ++ e) third fifth r (joined third d e fourth fifth s t)))
