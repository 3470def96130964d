-- What the example host answers, by the name of the command.
use Rattle.std.proofs.Common.{◌≡◌, ◌<◌, true, false, List, [], ◌∷◌, map, length, get_or, String, Global, refl, sym, ap}
use Rattle.std.proofs.Common.{◌∙◌, arith, Some}
use Rattle.std.specs.Prelude.{string_bytes, codes, bytes_eq}
use Rattle.message.specs.Messages.{Text}
use Rattle.tclrules.specs.Oracle.{CommandWords, Nothing, NewRecord, Message, Done}
use Rattle.tclrules.specs.Recording.{message_in, named_answer, answer_of}

named : (mode : Text) (r : List CommandWords) (ws : List (String Global)) (n : String Global) → 0 < length ws
    → n ≡ get_or ws 0 n → answer_of mode r (map string_bytes ws) ≡ named_answer mode (string_bytes n)
    (map string_bytes ws)
named mode r [] n h e = absurd (omega arith)
named mode r (w ∷ ws) n h e = ap (λ m. named_answer mode (string_bytes m) (map string_bytes (w ∷ ws))) (sym e)

pub set_answer : (mode : Text) (r : List CommandWords) (ws : List (String Global)) (n : String Global) → 0 < length ws
    → n ≡ get_or ws 0 n → bytes_eq (string_bytes n) (codes "setenv") ≡ true
    → answer_of mode r (map string_bytes ws) ≡ Done [] (NewRecord (map string_bytes ws)) false
set_answer mode r ws n h e t = named mode r ws n h e ∙ (rw t refl)

pub put_answer : (mode : Text) (r : List CommandWords) (ws : List (String Global)) (n : String Global) (m : Text)
    → 0 < length ws → n ≡ get_or ws 0 n → bytes_eq (string_bytes n) (codes "setenv") ≡ false
    → bytes_eq (string_bytes n) (codes "puts") ≡ true → Some m ≡ message_in (map string_bytes ws)
    → answer_of mode r (map string_bytes ws) ≡ Done [] (Message m) false
put_answer mode r ws n m h e t u g = named mode r ws n h e ∙ (rw (t, u, ← g) refl)

pub mode_answer : (mode : Text) (r : List CommandWords) (ws : List (String Global)) (n : String Global) → 0 < length ws
    → n ≡ get_or ws 0 n → bytes_eq (string_bytes n) (codes "setenv") ≡ false
    → bytes_eq (string_bytes n) (codes "puts") ≡ false → bytes_eq (string_bytes n) (codes "mode") ≡ true
    → answer_of mode r (map string_bytes ws) ≡ Done mode Nothing true
mode_answer mode r ws n h e t u w = named mode r ws n h e ∙ (rw (t, u, w) refl)
