-- Trimming from the end, one character at a time.
use Rattle.std.proofs.Common.{◌≡◌, ℕ, [], ◌∷◌, ◌++◌, true, false, refl, ap, ◌∙◌}
use Rattle.tcltext.specs.chars.Runs.{Text}
use Rattle.tclvalue.specs.Characters.{is_among, trim_last, without_end}

pub end_among : (set front : Text) (c : ℕ) → is_among set c ≡ true → without_end set (front ++ c ∷ []) ≡ without_end set front
end_among set [] c h = rw h refl
end_among set (x ∷ xs) c h = ap (trim_last set x) (end_among set xs c h)

kept_some : (set front : Text) (x c : ℕ) → trim_last set x (front ++ c ∷ []) ≡ x ∷ (front ++ c ∷ [])
kept_some set [] x c = refl
kept_some set (y ∷ ys) x c = refl

pub end_other : (set front : Text) (c : ℕ) → is_among set c ≡ false → without_end set (front ++ c ∷ []) ≡ front ++ c ∷ []
end_other set [] c h = rw h refl
end_other set (x ∷ xs) c h = ap (trim_last set x) (end_other set xs c h) ∙ kept_some set xs x c
