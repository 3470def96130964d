use Rattle.std.proofs.Common.{length, Option, Some, None, ap, ◌∙◌, arith}
use Rattle.std.specs.Prelude.{MatchOption}
use Rattle.tcltext.proofs.script.Skips.{gap_comment, gap_joined}
use Rattle.tcltext.proofs.script.runs.after_comment.Goals as goal

pub returns-in-Some : goal.returns-in-Some
returns-in-Some c = (
  gap_comment c.args.text.now c.in-Some.comment.now c.in-Some.ensures ∙ c.skip_comment.ensures.same,
  omega (arith, ap length c.in-Some.ensures, c.skip_comment.ensures.shorter),
)

found_map : {A N M : Type 0} {P Q : A → Type 0} (found : Option A) → MatchOption found N P → (N → M) → ((x : A) → P x → Q x) → MatchOption found M Q
found_map None is none some = none is
found_map (Some x) is none some = some x is

pub returns-in-None : goal.returns-in-None
returns-in-None c =
    found_map c.after_joined_lines.result c.after_joined_lines.ensures (λ none. (c.in-None.ensures, none))
    (λ rest is. (gap_joined c.args.text.now rest.now is, omega (arith, ap length is)))
