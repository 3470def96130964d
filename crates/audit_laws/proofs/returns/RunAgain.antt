-- A deterministic file is accepted again where its records have their effects.
use Rattle.std.proofs.Common.{◌≡◌, Bool, true, false, List, [], ◌∷◌, ◌++◌, Result, Ok, Err, refl, ap, sym, ◌∙◌, subst}
use Rattle.std.proofs.lemmas.List.{append_assoc, append-nil}
use Rattle.envvars.specs.Texts.{Text}
use Rattle.envvars.specs.Names.{is_variable_name}
use Rattle.envvars.specs.Environment.{Environment, lookup}
use Rattle.tclrules.specs.Oracle.{CommandWords, OracleAnswer, Addition, Nothing, NewRecord, Message, Done, Trace, Question, OfCommand, OfVariable}
use Rattle.tclrules.specs.Oracle.{records_with, addition, is_question, is_refusal}
use Rattle.tclrules.specs.Derivation.{Ended, Halted, World, Command, Variable}
use Rattle.tclrules.specs.Variables.{State}
use Rattle.tclrules.specs.Plans.{Normal, Raised, Returned, Broken, Continued}
use Rattle.tclrules.specs.Meaning.{Setting, EvaluatesTo, with_oracle}
use Rattle.tclrules.specs.declared.limits.Limits.{Limits}
use Rattle.tclrules.proofs.Consultations.{noted, unrefused}
use Rattle.modulefile.specs.Records.{Record}
use Rattle.modulefile.specs.Judgments.{RecordReason}
use Rattle.modulefile.specs.Effects.{Mode, effect, effects}
use Rattle.modulefile.specs.Results.{◌>>=◌}
use Rattle.modulefile.specs.Calls.{CallForm, adds_record, adds_message, getenv, is_loaded, own_name, typed_name, info, info_test}
use Rattle.modulefile.specs.Calls.{call_of}
use Rattle.modulefile.specs.Answers.{FileContext, record_answer, variable_answer, value_shown, command_answer, record_of, records_in}
use Rattle.modulefile.specs.Answers.{record_outcome, or_before, environment_after, oracle_of}
use Rattle.modulefile.specs.Files.{Ran, ran_of, setting_of, RunsFile}
use Rattle.modulefile.proofs.Bound.{bound, bind_ok, same_value}
use Rattle.modulefile.proofs.Effected.{parts, whole}
use Rattle.modulefile.proofs.HasEffects.{records_more}
use Rattle.audit_laws.proofs.determinism.Rests.{beginning}
use Rattle.audit_laws.specs.returns.Files.{leaving, FilesRunAgain, PlainFilesRunAgain}
use Rattle.audit_laws.proofs.returns.SameAnswers.{AnswersSame, EachIs, evaluates_alike, additions, all_are}
use Rattle.audit_laws.proofs.determinism.Noted.{Among, among_split}
use Rattle.audit_laws.proofs.returns.AskedAgain.{IsAskedAgain, command_again, variable_again}

-- ---- the effects of records that come first

pub record EffectsApart (mode : Mode) (owner : Text) (rs more : List Record) (old new : Environment) : Type 0 where
  pub mid : Environment
  pub first : effects mode owner rs old ≡ Ok mid
  pub second : effects mode owner more mid ≡ Ok new

pub effects_apart : (mode : Mode) (owner : Text) (rs more : List Record) (old new : Environment) → effects mode owner (rs ++ more) old ≡ Ok new
    → EffectsApart mode owner rs more old new
effects_apart mode owner [] more old new h = record { mid = old; first = refl; second = h }
effects_apart mode owner (r ∷ rs) more old new h =
    let p = parts (effect mode owner r old) (effects mode owner (rs ++ more)) new h in
    let a = effects_apart mode owner rs more p.0 new p.2 in
    record { mid = a.mid; first = whole (effect mode owner r old) (effects mode owner rs) p.0 a.mid p.1 a.first; second = a.second }

-- ---- a command that adds a record

-- what is known of all commands: they are read as these records, which have their effects in the context
pub record HaveEffects (d : FileContext) (last : List CommandWords) (all : List Record) (after : Environment) : Type 0 where
  pub read : records_in last ≡ Ok all
  pub made : effects d.mode d.name all d.before ≡ Ok after

-- the record of a command among them has its effect after those before it
had_again : (d : FileContext) (last records rest : List CommandWords) (words : List Text) (all : List Record) (after : Environment) (r : Record)
    → HaveEffects d last all after → last ≡ (records ++ words ∷ []) ++ rest → call_of words ≡ Ok (adds_record r)
    → (e : Environment) × (effect d.mode d.name r (environment_after d records) ≡ Ok e)
had_again d last records rest words all after r k split is =
    let (rs2, rest2, read2, split2) = beginning (records ++ words ∷ []) rest all (ap records_in (sym split) ∙ k.read) in
    let (rs, tail, read, split1) = beginning records (words ∷ []) rs2 read2 in
    let more = records_more records words rs r read (bind_ok (call_of words) record_of (adds_record r) r is refl) in
    let same : rs2 ≡ rs ++ r ∷ [] = same_value (records_in (records ++ words ∷ [])) rs2 (rs ++ r ∷ []) read2 more in
    let parted : all ≡ rs ++ (r ∷ rest2) = split2 ∙ ap (λ (l : List Record). l ++ rest2) same ∙ append_assoc rs (r ∷ []) rest2 in
    let a = effects_apart d.mode d.name rs (r ∷ rest2) d.before after (ap (λ (l : List Record). effects d.mode d.name l d.before) (sym parted) ∙ k.made) in
    let p = parts (effect d.mode d.name r a.mid) (effects d.mode d.name rest2) after a.second in
    let there : environment_after d records ≡ a.mid = ap (or_before d.before)
    (bind_ok (records_in records) (λ zs. record_outcome (effects d.mode d.name zs d.before)) rs a.mid read (ap record_outcome a.first)) in
    (p.0, ap (effect d.mode d.name r) there ∙ p.1)

-- an answer that is no refusal
pub accepted_record : (words : List Text) (o : Result Environment RecordReason) → is_refusal (record_answer words o) ≡ false → record_answer words o ≡ Done [] (NewRecord words) false
accepted_record words (Ok e) h = refl
accepted_record words (Err reason) h = absurd (cc)

-- the records before a consultation are a beginning of those after it
pub within : (last records : List CommandWords) (adds : Addition) (rest : List CommandWords) → last ≡ records_with records adds ++ rest → (more : List CommandWords) × (last ≡ records ++ more)
within last records Nothing rest h = (rest, h)
within last records (NewRecord r) rest h = (r ∷ rest, h ∙ append_assoc records (r ∷ []) rest)
within last records (Message m) rest h = (rest, h)

pub by_test : (t : Bool) (P : Type 0) → (t ≡ true → P) → (t ≡ false → P) → P
by_test true P f g = f refl
by_test false P f g = g refl

-- a variable that isn't asked for has a name that no variable has
pub not_read : (var u v : Text) → is_question (variable_answer var u) ≡ false → variable_answer var v ≡ variable_answer var u
not_read var u v h = by_test (is_variable_name var) _
    (λ q. let k : is_question (variable_answer var u) ≡ true = rw q refl in absurd (cc))
    (λ q. rw q refl)

-- a command that is no question has the same answer
unasked_again : (c d : FileContext) (last records rest : List CommandWords) (words : List Text) (all : List Record) (after x : Environment) (form : CallForm)
    → d.name ≡ c.name → HaveEffects d last all after → call_of words ≡ form → is_question (command_answer c x words form) ≡ false
    → is_refusal (command_answer c x words form) ≡ false → last ≡ records_with records (addition (command_answer c x words form)) ++ rest
    → command_answer d (environment_after d records) words form ≡ command_answer c x words form
unasked_again c d last records rest words all after x (Err reason) name k is q u split = refl
unasked_again c d last records rest words all after x (Ok (adds_record r)) name k is q u split =
    let first = accepted_record words (effect c.mode c.name r x) u in
    let again = had_again d last records rest words all after r k (split ∙ ap (λ (a : OracleAnswer). records_with records (addition a) ++ rest) first) is in
    ap (record_answer words) again.1 ∙ sym first
unasked_again c d last records rest words all after x (Ok (adds_message message)) name k is q u split = refl
unasked_again c d last records rest words all after x (Ok (getenv var default)) name k is q u split =
    not_read var (value_shown c.mode x var default) (value_shown d.mode (environment_after d records) var default) q
unasked_again c d last records rest words all after x (Ok (is_loaded names)) name k is q u split = absurd (cc)
unasked_again c d last records rest words all after x (Ok own_name) name k is q u split = ap (λ (n : Text). Done n Nothing false) name
unasked_again c d last records rest words all after x (Ok typed_name) name k is q u split = absurd (cc)
unasked_again c d last records rest words all after x (Ok (info field)) name k is q u split = absurd (cc)
unasked_again c d last records rest words all after x (Ok (info_test field word)) name k is q u split = absurd (cc)

-- ---- each consultation

each_again : (c d : FileContext) (last : List CommandWords) (asked : List Question) (all : List Record) (after : Environment) → d.name ≡ c.name
    → records_in last ≡ Ok all → HaveEffects d last all after → IsAskedAgain c d asked all → EachIs (AnswersSame (oracle_of c) (oracle_of d)) (oracle_of c) asked last
each_again c d last asked all after name read k again records (Command words) n a u =
    let ask : OracleAnswer = command_answer c (environment_after c records) words (call_of words) in
    let w = within last records (addition ask) a.0 a.1 in
    by_test (is_question ask) _
    (λ q. let (before, later, split) = n q in
    command_again c d asked all records words (OfCommand words ask) (beginning records w.0 all (ap records_in (sym w.1) ∙ read)) refl
    (subst (λ (l : List Question). Among (OfCommand words ask) l) (sym split) (among_split before later (OfCommand words ask))) again)
    (λ q. unasked_again c d last records a.0 words all after (environment_after c records) (call_of words) name k refl q u a.1)
each_again c d last asked all after name read k again records (Variable v) n a u =
    let q = OfVariable v (lookup (environment_after c records) v) in
    let (before, later, split) = n refl in
    variable_again c d asked all records v q (beginning records a.0 all (ap records_in (sym a.1) ∙ read)) refl
    (subst (λ (l : List Question). Among q l) (sym split) (among_split before later q)) again

-- ---- the file

pub record RanParts (c : FileContext) (trace : Trace) (ran : Ran) : Type 0 where
  pub read : records_in trace.records ≡ Ok ran.records
  pub asked : trace.asked ≡ ran.asked
  pub messages : trace.messages ≡ ran.messages

abbrev made_of : Trace → List Record → Environment → Ran
made_of trace rs e = record { records = rs; messages = trace.messages; asked = trace.asked; env = e }

pub ran_parts : (c : FileContext) (trace : Trace) (ran : Ran) → ran_of c trace ≡ Ok ran → RanParts c trace ran
ran_parts c trace ran h =
    let b = bound (records_in trace.records) (λ rs. record_outcome (effects c.mode c.name rs c.before) >>= (λ e. Ok (made_of trace rs e))) ran h in
    let g = bound (record_outcome (effects c.mode c.name b.0 c.before)) (λ e. Ok (made_of trace b.0 e)) ran b.2 in
    let k : made_of trace b.0 g.0 ≡ ran = cc in
    record { read = b.1 ∙ ap (λ (r : Ran). Ok r.records) k; asked = ap (λ (r : Ran). r.asked) k; messages = ap (λ (r : Ran). r.messages) k }

again_of : (d : FileContext) (trace : Trace) (rs : List Record) (after : Environment) → records_in trace.records ≡ Ok rs → effects d.mode d.name rs d.before ≡ Ok after
    → ran_of d trace ≡ Ok (made_of trace rs after)
again_of d trace rs after read made =
    bind_ok (records_in trace.records) (λ zs. record_outcome (effects d.mode d.name zs d.before) >>= (λ e. Ok (made_of trace zs e))) rs (made_of trace rs after) read
    (bind_ok (record_outcome (effects d.mode d.name rs d.before)) (λ e. Ok (made_of trace rs e)) after (made_of trace rs after) (ap record_outcome made) refl)

pub moved_setting : (limits : Limits) (c d : FileContext) (text : Text) → d.path ≡ c.path → setting_of limits d text ≡ with_oracle (oracle_of d) (setting_of limits c text)
moved_setting limits c d text p = ap (λ (path : Text). with_oracle (oracle_of d) (setting_of limits (record c { path = path }) text)) p

ended_again : (limits : Limits) (c d : FileContext) (text : Text) (ran : Ran) (after : Environment) (result : Text) (s : State) (w : World)
    → EvaluatesTo (setting_of limits c text) (Ended (Normal result s)) w → ran_of c w.trace ≡ Ok ran
    → (HaveEffects d w.trace.records ran.records after → EachIs (AnswersSame (oracle_of c) (oracle_of d)) (oracle_of c) ran.asked w.trace.records)
    → d.path ≡ c.path → effects d.mode d.name ran.records d.before ≡ Ok after → RunsFile limits d text (Ok (leaving after ran))
ended_again limits c d text ran after result s w e h each path made =
    let p = ran_parts c w.trace ran h in
    let same = all_are (AnswersSame (oracle_of c) (oracle_of d)) ran.asked w.trace.records (each (record { read = p.read; made = made })) e
    (noted e ran.asked [] (sym p.asked ∙ sym (append-nil w.trace.asked)))
    (additions e w.trace.records [] (sym (append-nil w.trace.records))) (unrefused e (λ n z. cc)) in
    let there : EvaluatesTo (with_oracle (oracle_of d) (setting_of limits c text)) (Ended (Normal result s)) w = evaluates_alike (oracle_of d) e same in
    let made_again : made_of w.trace ran.records after ≡ leaving after ran = λ i.
    record { records = ran.records; messages = p.messages i; asked = p.asked i; env = after } in (
      Ended (Normal result s),
      w,
      subst (λ (z : Setting). EvaluatesTo z (Ended (Normal result s)) w) (sym (moved_setting limits c d text path)) there,
      (leaving after ran, again_of d w.trace ran.records after p.read made ∙ ap (λ (r : Ran). Ok r) made_again, refl),
    )

pub files_run_again : FilesRunAgain
files_run_again limits c d text ran after (Ended (Normal result s), w, e, f) stable m n same values name path made =
    let q : ran_of c w.trace ≡ Ok ran = subst (λ x. ran_of c w.trace ≡ Ok x) (same_value (Ok ran) f.0 ran f.2 refl) f.1 in
    let again : IsAskedAgain c d ran.asked ran.records = record { stable = stable; first_mode = m; second_mode = n; same = same; values = values } in
    ended_again limits c d text ran after result s w e q (λ k. each_again c d w.trace.records ran.asked ran.records after name k.read k again) path made
files_run_again limits c d text ran after (Ended (Raised m s), w, e, f) stable m1 n same values name path made = absurd (cc)
files_run_again limits c d text ran after (Ended (Returned t s), w, e, f) stable m n same values name path made = absurd f
files_run_again limits c d text ran after (Ended (Broken s), w, e, f) stable m n same values name path made = absurd f
files_run_again limits c d text ran after (Ended (Continued s), w, e, f) stable m n same values name path made = absurd f
files_run_again limits c d text ran after (Halted h, w, e, f) stable m n same values name path made = absurd (cc)

-- ---- a file that asked nothing

none_asked : (asked before after : List Question) (q : Question) → asked ≡ [] → asked ≡ before ++ q ∷ after → ⊥
none_asked asked [] after q h k = absurd (cc)
none_asked asked (x ∷ before) after q h k = absurd (cc)

plain_again : (c d : FileContext) (last : List CommandWords) (asked : List Question) (all : List Record) (after : Environment) → d.name ≡ c.name
    → asked ≡ [] → HaveEffects d last all after → EachIs (AnswersSame (oracle_of c) (oracle_of d)) (oracle_of c) asked last
plain_again c d last asked all after name none k records (Command words) n a u =
    let ask : OracleAnswer = command_answer c (environment_after c records) words (call_of words) in
    by_test (is_question ask) _
    (λ q. let (before, later, split) = n q in absurd (none_asked asked before later (OfCommand words ask) none split))
    (λ q. unasked_again c d last records a.0 words all after (environment_after c records) (call_of words) name k refl q u a.1)
plain_again c d last asked all after name none k records (Variable v) n a u =
    let (before, later, split) = n refl in absurd (none_asked asked before later (OfVariable v (lookup (environment_after c records) v)) none split)

pub plain_files_run_again : PlainFilesRunAgain
plain_files_run_again limits c d text ran after (Ended (Normal result s), w, e, f) none name path made =
    let q : ran_of c w.trace ≡ Ok ran = subst (λ x. ran_of c w.trace ≡ Ok x) (same_value (Ok ran) f.0 ran f.2 refl) f.1 in
    ended_again limits c d text ran after result s w e q (λ k. plain_again c d w.trace.records ran.asked ran.records after name none k) path made
plain_files_run_again limits c d text ran after (Ended (Raised m s), w, e, f) none name path made = absurd (cc)
plain_files_run_again limits c d text ran after (Ended (Returned t s), w, e, f) none name path made = absurd f
plain_files_run_again limits c d text ran after (Ended (Broken s), w, e, f) none name path made = absurd f
plain_files_run_again limits c d text ran after (Ended (Continued s), w, e, f) none name path made = absurd f
plain_files_run_again limits c d text ran after (Halted h, w, e, f) none name path made = absurd (cc)
