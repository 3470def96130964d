use Rattle.std.proofs.Common.{ℕ, Option, length, unwrap_or, not, ap, ◌∙◌, rules, tests}
use Rattle.std.proofs.lemmas.Iterator.{YieldsList-from_slice}
use Rattle.std.proofs.lemmas.Iterator.Search.{position_from_yields_List}
use Rattle.tcltext.proofs.chars.RunLemmas.{run_end}
use Rattle.tcltext.specs.chars.Numerals.{is_digit}
use Rattle.tcltext.proofs.chars.number.digit_count.Goals as goal

pub returns : goal.returns
returns c =
    let end = position_from_yields_List (λ b. not (is_digit b)) _ _ c.position-end.result c.position-end.ensures.ran (YieldsList-from_slice c.args.bytes.now cc) (λ x b q k. search (rules, tests)) in
    c.unwrap_or.ensures ∙ ap (λ (r : Option ℕ). unwrap_or r (length c.args.bytes.now)) end ∙ run_end is_digit c.args.bytes.now
