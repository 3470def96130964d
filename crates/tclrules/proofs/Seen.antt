-- What a view shows of a playing, it shows of the outcome.
use Rattle.std.proofs.Common.{◌≡◌, ℕ, Some, None, refl, ◌∙◌}
use Rattle.tclrules.specs.Derivation.{EvaluationOutcome, World}
use Rattle.tclrules.specs.Playing.{Played}
use Rattle.tclrules.specs.Plans.{Completion}
use Rattle.tclrules.specs.Rules.{rule}
use Rattle.tclrules.specs.Meaning.{Setting, play_file, plan_of, first}
use Rattle.tclrules.specs.Shown.{Shown, Shows, Sees, shown_of}
use Rattle.tclrules.proofs.Plays.{derived}
use Rattle.tclrules.proofs.Computed.{viewed, computed, is_viewed}

of_playing : {A : Type 0} (s : Setting) (view : EvaluationOutcome Completion → World → A) (a : A) (steps : ℕ) (p : Played Completion) → play_file s steps ≡ p → viewed view p ≡ Some a → Shows s view a
of_playing s view a steps None e h = absurd (cc)
of_playing s view a steps (Some (o, w)) e h =
    let same : view o w ≡ a = cc in
    (o, w, derived s.oracle s.limits.commands (rule s.limits.value_bytes) steps (plan_of s.limits s.script s.oracle.reserved s.globals) (first s.trace) o w e, same)

pub shows : {A : Type 0} (s : Setting) (view : EvaluationOutcome Completion → World → A) (a : A) (steps : ℕ) → computed s view steps ≡ Some a → Shows s view a
shows s view a steps h = of_playing s view a steps (play_file s steps) refl (is_viewed s view steps ∙ h)

pub sights : (s : Setting) (a : Shown) (steps : ℕ) → computed s (shown_of s.script) steps ≡ Some a → Sees s a
sights s a steps h = shows s (shown_of s.script) a steps h
