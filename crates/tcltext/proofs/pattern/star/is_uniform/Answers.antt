use Rattle.std.proofs.Common.{◌≡◌, ℕ, List, [], ◌∷◌, length, true, not, refl, sym, ap, ◌∙◌, arith}
use Rattle.std.specs.Str.{chars}
use Rattle.std.specs.Str.Iter.{chars_rest}
use Rattle.std.proofs.lemmas.Str.{chars-nil, IsUtf8-past_char, chars_past_char}
use Rattle.tcltext.specs.pattern.Search.Uniform.{reading_of, is_closed}
use Rattle.tcltext.specs.declared.pattern.star.ReadingState.{ReadingState}
use Rattle.tcltext.specs.declared.pattern.star.ReadingState.TheVariants.{Outside, Escaped, AtItem, AfterLow, AfterDash}
use Rattle.tcltext.specs.declared.pattern.star.ReadingState.TheVariants.{RangeToClose}
use Rattle.tcltext.proofs.pattern.star.is_uniform.Goals as goal
use Rattle.tcltext.proofs.pattern.star.is_uniform.Goals.{in-RangeToClose, in_default}

pub loop-c-preserved : goal.loop-c-preserved
loop-c-preserved c =
    let old = chars_rest c.loop-c.c-iterator in
    let new = chars_rest c.next.new.self in
    let spelled = c.in-Some.ensures.steps.0 in
    record {
      utf8 = IsUtf8-past_char old new c.in-Some.c c.loop-c.invariant.utf8 spelled;
      same =
          ap (λ r. reading_of r (chars new)) c.reading_after-reading.ensures
          ∙ sym (ap (reading_of c.loop-c.reading) (chars_past_char old new c.in-Some.c c.loop-c.invariant.utf8 spelled)) ∙ c.loop-c.invariant.same;
    }

empty : (bs : List ℕ) → length bs ≡ 0 → bs ≡ []
empty [] h = refl
empty (b ∷ bs) h = absurd (omega arith)

-- every state but the last is closed
closed : (r : ReadingState) → (r ≡ RangeToClose → ⊥) → true ≡ is_closed r
closed Outside other = refl
closed Escaped other = refl
closed AtItem other = refl
closed AfterLow other = refl
closed AfterDash other = refl
closed RangeToClose other = absurd (other refl)

pub returns : goal.returns
returns c =
    let end : chars_rest c.loop-c.c-iterator ≡ [] = empty _ c.in-None.ensures.steps.0.0 in
    let same = ap (reading_of c.loop-c.reading) (sym (ap chars end ∙ chars-nil)) ∙ c.loop-c.invariant.same in
    elim c.match-matches.branch [
      | in-RangeToClose w ↦ ap not w.matches-is ∙ ap is_closed (sym w.in-RangeToClose.is ∙ same)
      | in_default w ↦ ap not w.matches-is ∙ closed c.loop-c.reading w.in_default.not-RangeToClose ∙ ap is_closed same
    ]
