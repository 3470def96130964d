-- A deterministic file leaves the same records again.
use Rattle.std.proofs.Common.{◌≡◌, inl, inr, ⊎_elim, Bool, true, false, ◌||◌, List, [], ◌∷◌, Option, Some, None}
use Rattle.std.proofs.Common.{Ok, Err, refl, ap, sym, subst, ◌∙◌}
use Rattle.std.specs.Prelude.{bytes_eq, unwrap_or}
use Rattle.std.specs.List.{list_all, list_any, cons_option, AllByRecursion}
use Rattle.std.proofs.lemmas.Bool.{and_parts}
use Rattle.envvars.specs.Texts.{Text, has}
use Rattle.envvars.proofs.TextLemmas.{bytes_eq-same}
use Rattle.envvars.specs.Environment.{Environment, lookup}
use Rattle.tclrules.specs.Oracle.{CommandWords, OracleAnswer, Question, Trace}
use Rattle.tclrules.specs.Derivation.{Query, Command, Variable, question_of, AnswersAsBefore, Ended, Halted}
use Rattle.tclrules.specs.Plans.{Normal, Raised, Returned, Broken, Continued}
use Rattle.tclrules.specs.declared.limits.Limits.{Limits}
use Rattle.modulefile.specs.Records.{Record}
use Rattle.modulefile.specs.Effects.{Mode, load, unload, display, whatis, effects}
use Rattle.modulefile.specs.Calls.{InfoField, mode, shell, shell_type, CallForm, adds_record, adds_message, getenv, is_loaded}
use Rattle.modulefile.specs.Calls.{own_name, typed_name, info, info_test, call_of}
use Rattle.modulefile.specs.Answers.{FileContext, command_answer, environment_after, field_text, field_test, oracle_of, question_answer}
use Rattle.modulefile.specs.Answers.{any_loaded, records_in, record_outcome, truth, value_shown, variable_answer}
use Rattle.modulefile.specs.Files.{Ran, ran_of, RunsFile}
use Rattle.modulefile.specs.Laws.{AnswersAgain, AnsweredFilesAgree}
use Rattle.modulefile.specs.Results.{◌>>=◌}
use Rattle.modulefile.proofs.Bound.{bound, same_value}
use Rattle.audit_laws.specs.determinism.StableInput.{is_changing, is_stable_variable, is_stable_call, is_stable_input, read_by, read_by_call, variables_read, field_of}
use Rattle.audit_laws.specs.determinism.StableInput.{field_of_call, is_mode, is_shell, names_of_call, names_of, loaded_questions}
use Rattle.audit_laws.specs.determinism.StableInput.{IsSameContext, AreEquivalent}
use Rattle.audit_laws.specs.determinism.Laws.{DeterministicFilesAgree}
use Rattle.audit_laws.proofs.determinism.Noted.{Among, among_split, WasAnswered, was_answered}
use Rattle.audit_laws.proofs.determinism.Rests.{Beginning, beginning, finds_before}

-- ---- what holds of all that was asked

pub each : (p : Question → Bool) (asked : List Question) (q : Question) → list_all p asked ≡ true → Among q asked → p q ≡ true
each p [] q h a = absurd a
each p (x ∷ xs) q h (inl e) = ap p e ∙ (and_parts (p x) (list_all p xs) h).0
each p (x ∷ xs) q h (inr a) = each p xs q (and_parts (p x) (list_all p xs) h).1 a

any_or : (a b : Bool) → b ≡ true → (a || b) ≡ true
any_or true b h = refl
any_or false b h = h

pub any_of : (p : Question → Bool) (asked : List Question) (q : Question) → Among q asked → p q ≡ true → list_any p asked ≡ true
any_of p [] q a h = absurd a
any_of p (x ∷ xs) q (inl e) h = rw (sym (ap p e) ∙ h) refl
any_of p (x ∷ xs) q (inr a) h = any_or (p x) (list_any p xs) (any_of p xs q a h)

has_later : (v : Text) (o : Option Text) (names : List Text) → has v names ≡ true → has v (cons_option o names) ≡ true
has_later v None names h = h
has_later v (Some n) names h = any_or (bytes_eq v n) (has v names) h

has_first : (v : Text) (o : Option Text) (names : List Text) → o ≡ Some v → has v (cons_option o names) ≡ true
has_first v o names e = subst (λ (x : Option Text). has v (cons_option x names) ≡ true) (sym e) (rw (bytes_eq-same v) refl)

pub read_among : (asked : List Question) (q : Question) (v : Text) → Among q asked → read_by q ≡ Some v → has v (variables_read asked) ≡ true
read_among [] q v a e = absurd a
read_among (x ∷ xs) q v (inl s) e = has_first v (read_by x) (variables_read xs) (sym (ap read_by s) ∙ e)
read_among (x ∷ xs) q v (inr a) e = has_later v (read_by x) (variables_read xs) (read_among xs q v a e)

answered_first : (P : List Text → Type 0) (o : Option (List Text)) (more : List (List Text)) (names : List Text) → AllByRecursion P (cons_option o more) → o ≡ Some names → P names
answered_first P None more names h e = absurd (cc)
answered_first P (Some ns) more names h e = let same : ns ≡ names = cc in subst P same h.0

answered_later : (P : List Text → Type 0) (o : Option (List Text)) (more : List (List Text)) → AllByRecursion P (cons_option o more) → AllByRecursion P more
answered_later P None more h = h
answered_later P (Some ns) more h = h.1

-- what holds of the questions of what is loaded
pub loaded_among : (P : List Text → Type 0) (asked : List Question) (q : Question) (names : List Text) → AllByRecursion P (loaded_questions asked) → Among q asked → names_of q ≡ Some names → P names
loaded_among P [] q names h a e = absurd a
loaded_among P (x ∷ xs) q names h (inl s) e = answered_first P (names_of x) (loaded_questions xs) names h (sym (ap names_of s) ∙ e)
loaded_among P (x ∷ xs) q names h (inr a) e = loaded_among P xs q names (answered_later P (names_of x) (loaded_questions xs) h) a e

-- ---- one question

shown : (m : Mode) (e : Environment) (var default : Text) → is_changing m ≡ true → value_shown m e var default ≡ unwrap_or (lookup e var) default
shown load e var default h = refl
shown unload e var default h = refl
shown display e var default h = absurd (cc)
shown whatis e var default h = absurd (cc)

same_text_of : (c d : FileContext) (f : InfoField) → (is_mode (Some f) ≡ true → d.mode ≡ c.mode) → (is_shell (Some f) ≡ true → d.shell ≡ c.shell) → field_text d f ≡ field_text c f
same_text_of c d mode m s = rw (m refl) refl
same_text_of c d shell m s = rw (s refl) refl
same_text_of c d shell_type m s = rw (s refl) refl

same_test_of : (c d : FileContext) (f : InfoField) (word : Text) → (is_mode (Some f) ≡ true → d.mode ≡ c.mode) → (is_mode (Some f) ≡ true → d.in_switch ≡ c.in_switch)
    → (is_shell (Some f) ≡ true → d.shell ≡ c.shell) → field_test d f word ≡ field_test c f word
same_test_of c d mode word m w s = rw (m refl, w refl) refl
same_test_of c d shell word m w s = rw (s refl) refl
same_test_of c d shell_type word m w s = rw (s refl) refl

-- the second context finds the values that the first found
abbrev pub FindsAlike : List Record → List Text → Environment → Environment → Type 0
FindsAlike records names e f = (v : Text) → is_stable_variable records v ≡ true → has v names ≡ true → lookup f v ≡ lookup e v

pub by_call : (c d : FileContext) (records : List Record) (names : List Text) (e f : Environment) (words : List Text) (form : CallForm)
    → is_stable_call records form ≡ true → is_changing c.mode ≡ true → is_changing d.mode ≡ true → FindsAlike records names e f
    → ((v : Text) → read_by_call form ≡ Some v → has v names ≡ true)
    → (is_mode (field_of_call form) ≡ true → d.mode ≡ c.mode) → (is_mode (field_of_call form) ≡ true → d.in_switch ≡ c.in_switch)
    → (is_shell (field_of_call form) ≡ true → d.shell ≡ c.shell)
    → ((ns : List Text) → names_of_call form ≡ Some ns → any_loaded ns d.loaded ≡ any_loaded ns c.loaded)
    → command_answer d f words form ≡ command_answer c e words form
by_call c d records names e f words (Err reason) h a b alike read m w s l = absurd (cc)
by_call c d records names e f words (Ok (adds_record r)) h a b alike read m w s l = absurd (cc)
by_call c d records names e f words (Ok (adds_message text)) h a b alike read m w s l = absurd (cc)
by_call c d records names e f words (Ok (getenv var default)) h a b alike read m w s l =
    ap (variable_answer var)
    (shown d.mode f var default b ∙ (ap (λ (o : Option Text). unwrap_or o default) (alike var h (read var refl)) ∙ sym (shown c.mode e var default a)))
by_call c d records names e f words (Ok (is_loaded [])) h a b alike read m w s l = absurd (cc)
by_call c d records names e f words (Ok (is_loaded (n ∷ ns))) h a b alike read m w s l = ap (λ (x : Bool). question_answer (truth x)) (l (n ∷ ns) refl)
by_call c d records names e f words (Ok own_name) h a b alike read m w s l = absurd (cc)
by_call c d records names e f words (Ok typed_name) h a b alike read m w s l = absurd (cc)
by_call c d records names e f words (Ok (info field)) h a b alike read m w s l = ap question_answer (same_text_of c d field m s)
by_call c d records names e f words (Ok (info_test field word)) h a b alike read m w s l = ap (λ (x : Bool). question_answer (truth x)) (same_test_of c d field word m w s)

-- ---- all of them

again_one : (c d : FileContext) (asked : List Question) (all : List Record) (q : Question) (records commands : List CommandWords) (query : Query)
    → Beginning records all → Beginning commands all → q ≡ question_of (oracle_of c) records query → Among q asked → is_stable_input all q ≡ true
    → is_changing c.mode ≡ true → is_changing d.mode ≡ true → IsSameContext asked c d → AreEquivalent (variables_read asked) c.before d.before
    → AnswersAsBefore (oracle_of d) commands (question_of (oracle_of c) records query)
again_one c d asked all q records commands (Command words) (rs, rest, read, split) (ss, more, read2, split2) e a h m n way alike =
    let ask : OracleAnswer = (oracle_of c).command records words in
    let rested : is_stable_call all (call_of words) ≡ true = ap (is_stable_input all) (sym e) ∙ h in
    inl (by_call c d all (variables_read asked) (environment_after c records) (environment_after d commands) words (call_of words) rested m n
    (λ v r g. finds_before d commands ss more all v read2 split2 r ∙ (alike v g ∙ sym (finds_before c records rs rest all v read split r)))
    (λ v r. read_among asked q v a (ap read_by e ∙ r))
    (λ t. way.mode (any_of (λ x. is_mode (field_of x)) asked q a (ap (λ (x : Question). is_mode (field_of x)) e ∙ t)))
    (λ t. way.in_switch (any_of (λ x. is_mode (field_of x)) asked q a (ap (λ (x : Question). is_mode (field_of x)) e ∙ t)))
    (λ t. way.shell (any_of (λ x. is_shell (field_of x)) asked q a (ap (λ (x : Question). is_shell (field_of x)) e ∙ t)))
    (λ ns t. loaded_among (λ names. any_loaded names d.loaded ≡ any_loaded names c.loaded) asked q ns way.loaded a (ap names_of e ∙ t)))
again_one c d asked all q records commands (Variable v) (rs, rest, read, split) (ss, more, read2, split2) e a h m n way alike =
    let rested : is_stable_variable all v ≡ true = ap (is_stable_input all) (sym e) ∙ h in
    finds_before d commands ss more all v read2 split2 rested
    ∙ (alike v (read_among asked q v a (ap read_by e)) ∙ sym (finds_before c records rs rest all v read split rested))

-- every question of the trace of a file was answered in its context
abbrev AreAnswered : FileContext → Ran → Type 0
AreAnswered c ran = (q : Question) → Among q ran.asked → (records : List CommandWords) × Beginning records ran.records × (query : Query) × (q ≡ question_of (oracle_of c) records query)

answers_again : (c d : FileContext) (ran : Ran) → AreAnswered c ran → list_all (is_stable_input ran.records) ran.asked ≡ true → is_changing c.mode ≡ true
    → is_changing d.mode ≡ true → IsSameContext ran.asked c d → AreEquivalent (variables_read ran.asked) c.before d.before → AnswersAgain d ran
answers_again c d ran answered h m n way alike before after q e commands rs rest read split =
    let a : Among q ran.asked = subst (Among q) (sym e) (among_split before after q) in
    let (records, begun, query, same) = answered q a in
    subst (AnswersAsBefore (oracle_of d) commands) (sym same)
    (again_one c d ran.asked ran.records q records commands query begun (rs, rest, read, split) same a (each (is_stable_input ran.records) ran.asked q h a) m n way alike)

-- what a file left has the questions of its trace
abbrev made_of : Trace → List Record → Environment → Ran
made_of trace rs e = record { records = rs; messages = trace.messages; asked = trace.asked; env = e }

asked_of : (c : FileContext) (trace : Trace) (ran : Ran) → ran_of c trace ≡ Ok ran → (records_in trace.records ≡ Ok ran.records) × (trace.asked ≡ ran.asked)
asked_of c trace ran h =
    let b = bound (records_in trace.records) (λ rs. record_outcome (effects c.mode c.name rs c.before) >>= (λ e. Ok (made_of trace rs e))) ran h in
    let g = bound (record_outcome (effects c.mode c.name b.0 c.before)) (λ e. Ok (made_of trace b.0 e)) ran b.2 in
    let k : made_of trace b.0 g.0 ≡ ran = cc in
    (b.1 ∙ ap (λ (r : Ran). Ok r.records) k, ap (λ (r : Ran). r.asked) k)

answered_in : (limits : Limits) (c : FileContext) (text : Text) (ran : Ran) → RunsFile limits c text (Ok ran) → AreAnswered c ran
answered_in limits c text ran (Ended (Normal result s), w, d, f) q a =
    let h : ran_of c w.trace ≡ Ok ran = subst (λ x. ran_of c w.trace ≡ Ok x) (same_value (Ok ran) f.0 ran f.2 refl) f.1 in
    let parts = asked_of c w.trace ran h in
    ⊎_elim (λ n. absurd n)
    (λ (i : WasAnswered (oracle_of c) w.trace.records q).
    (i.0, beginning i.0 i.1 ran.records (ap records_in (sym i.2) ∙ parts.0), i.3, i.4))
    (was_answered d q (subst (Among q) (sym parts.1) a))
answered_in limits c text ran (Ended (Raised m s), w, d, f) q a = absurd (cc)
answered_in limits c text ran (Ended (Returned t s), w, d, f) q a = absurd f
answered_in limits c text ran (Ended (Broken s), w, d, f) q a = absurd f
answered_in limits c text ran (Ended (Continued s), w, d, f) q a = absurd f
answered_in limits c text ran (Halted h, w, d, f) q a = absurd (cc)

pub deterministic_files : AnsweredFilesAgree → DeterministicFilesAgree
deterministic_files law limits c d text ran o runs h m n way alike name path other =
    law limits c d text ran o runs (answers_again c d ran (answered_in limits c text ran runs) h m n way alike) name path other
