-- Six texts, one after another.
use Rattle.std.proofs.Common.{◌≡◌, ◌++◌, Result, Ok, Err, OnOk, is_ok, if◌then◌else◌, append_assoc, ◌∙◌}
use Rattle.message.specs.Messages.{Text}

pub in_line : (a b c d e f : Text) → ((((a ++ b) ++ c) ++ d) ++ e) ++ f ≡ a ++ (b ++ (c ++ (d ++ (e ++ f))))
in_line a b c d e f =
    append_assoc (((a ++ b) ++ c) ++ d) e f ∙ (append_assoc ((a ++ b) ++ c) d (e ++ f) ∙ (append_assoc (a ++ b) c (d ++ (e ++ f)) ∙ append_assoc a b (c ++ (d ++ (e ++ f)))))

-- a text that has grown, if the result is one
pub grown : {X E : Type 0} (result : Result X E) (new old more : Text) → new ≡ (if is_ok result then old ++ more else old) → OnOk result (new ≡ old ++ more)
grown (Ok x) new old more h = h
grown (Err e) new old more h = tt
