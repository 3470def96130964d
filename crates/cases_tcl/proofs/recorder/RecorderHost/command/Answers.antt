use Rattle.std.proofs.Common.{◌≡◌, true, false, [], ◌∷◌, ◌++◌, map, Some, refl, ap, ◌∙◌, rules}
use Rattle.std.specs.Prelude.{string_bytes, codes, bytes_eq}
use Rattle.std.proofs.lemmas.List.{map-append}
use Rattle.tclrules.specs.Oracle.{Nothing, NewRecord, Message, OfCommand, Done}
use Rattle.tclrules.specs.Recording.{record_texts, pair_texts, message_in}
use Rattle.cases_tcl.specs.Asking.{asked_view}
use Rattle.cases_tcl.proofs.Recorded.{set_answer, put_answer, mode_answer}
use Rattle.cases_tcl.proofs.recorder.RecorderHost.command.Goals as goal

pub returns-else-is_err-clause-answer : goal.returns-else-is_err-clause-answer
returns-else-is_err-clause-answer c =
    let e : bytes_eq (string_bytes c.name-item.result) (codes "setenv") ≡ true = search rules in
    let q : map record_texts c.push_copy.new.records.items ≡ map record_texts c.args.self.now.records.items ++ map string_bytes c.args.words.now ∷ [] = search rules in
    let a = set_answer (string_bytes c.args.self.now.mode) (map record_texts c.args.self.now.records.items) c.args.words.now c.name-item.result c.in-len1-up.len_at_least c.name-item.is e in
    (NewRecord (map string_bytes c.args.words.now), false, (rw c.new.ensures.bytes a, rw (a, q) refl))

pub returns-else-is_err-2-clause-answer : goal.returns-else-is_err-2-clause-answer
returns-else-is_err-2-clause-answer c =
    let e : bytes_eq (string_bytes c.name-item.result) (codes "setenv") ≡ false = search rules in
    let f : bytes_eq (string_bytes c.name-item.result) (codes "puts") ≡ true = search rules in
    let g : Some (string_bytes c.in-Some.message) ≡ message_in (map string_bytes c.args.words.now) = search rules in
    let p : c.push.new.self.items ≡ c.args.self.now.messages.items ++ c.in-Some.message ∷ [] = search rules in
    let q : map string_bytes c.push.new.self.items ≡ map string_bytes c.args.self.now.messages.items
    ++ string_bytes c.in-Some.message ∷ [] = ap (map string_bytes) p
    ∙ map-append string_bytes c.args.self.now.messages.items _ in
    let a = put_answer (string_bytes c.args.self.now.mode) (map record_texts c.args.self.now.records.items)
    c.args.words.now c.name-item.result (string_bytes c.in-Some.message) c.in-len1-up.len_at_least c.name-item.is e
    f g in
    (Message (string_bytes c.in-Some.message), false, (rw c.new-then-eq-2.ensures.bytes a, rw (a, q) refl))

pub returns-in-Ok-answer_mode-clause-answer : goal.returns-in-Ok-answer_mode-clause-answer
returns-in-Ok-answer_mode-clause-answer c =
    let mode = string_bytes c.args.self.now.mode in
    let environment = pair_texts c.args.self.now.environment.items in
    let e : bytes_eq (string_bytes c.name-item.result) (codes "setenv") ≡ false = search rules in
    let f : bytes_eq (string_bytes c.name-item.result) (codes "puts") ≡ false = search rules in
    let g : bytes_eq (string_bytes c.name-item.result) (codes "mode") ≡ true = search rules in
    let t : string_bytes c.in-Ok-answer_mode.mode ≡ mode = search rules in
    let q : map (asked_view mode environment) c.answer_mode.new.asked.items ≡ map (asked_view mode environment) c.args.self.now.asked.items
    ++ OfCommand (map string_bytes c.args.words.now) (Done mode Nothing true) ∷ [] = c.in-Ok-answer_mode.ensures.asked environment in
    let a = mode_answer mode (map record_texts c.args.self.now.records.items) c.args.words.now c.name-item.result c.in-len1-up.len_at_least c.name-item.is e f g in
    (Nothing, true, (rw t a, rw (a, q) refl))
