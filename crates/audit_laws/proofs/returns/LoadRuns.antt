-- The evaluation of a deterministic file for a load is accepted, or a counter is full.
use Rattle.std.proofs.Common.{◌≡◌, inl, inr, ◌⊎◌, ⊎_elim, ℕ, Bool, true, false, List, [], ◌∷◌, ◌++◌, Option, Some, None, Result, Ok, Err, refl, ap, sym, ◌∙◌, subst}
use Rattle.std.specs.Prelude.{is_none}
use Rattle.std.specs.List.{list_all}
use Rattle.std.proofs.lemmas.Bool.{and_parts}
use Rattle.std.proofs.lemmas.List.{append_assoc, append-nil}
use Rattle.modulename.specs.ModuleName.{is_module_name}
use Rattle.envvars.specs.Texts.{Text}
use Rattle.envvars.specs.Reasons.{counter_full}
use Rattle.envvars.specs.Environment.{Environment, lookup}
use Rattle.envstate.specs.Roles.{is_editable}
use Rattle.envstate.proofs.RoleLemmas.{no_reason_against}
use Rattle.tclrules.specs.Oracle as oracle
use Rattle.tclrules.specs.Oracle.{CommandWords, OracleAnswer, Oracle, Question, OfCommand, OfVariable, NewRecord, Done, Refused, HostRefusal, records_with, addition, is_question, is_refusal, refused_with}
use Rattle.tclrules.specs.Derivation.{ByHost, EvaluationOutcome, Ended, Halted, Plan, World, Eval, ends, counts, meets_limit, moves, consults, reads, runs, halts, lacks_memory}
use Rattle.tclrules.specs.Derivation.{Query, Command, Variable, Throughout, world_after}
use Rattle.tclrules.specs.Variables.{State}
use Rattle.tclrules.specs.Plans.{Completion, Normal, Raised, Returned, Broken, Continued}
use Rattle.tclrules.specs.Meaning.{Setting, EvaluatesTo, with_oracle}
use Rattle.tclrules.specs.declared.limits.Limits.{Limits}
use Rattle.tclrules.proofs.Consultations.{noted, unrefused}
use Rattle.tclrules.proofs.Outcomes.{one_outcome}
use Rattle.modulefile.specs.Records.{Record}
use Rattle.modulefile.specs.Judgments.{RecordReason, bad_edit, record_reason, is_allowed}
use Rattle.modulefile.specs.Effects.{Mode, load, effect, effects}
use Rattle.modulefile.specs.Results.{◌>>=◌}
use Rattle.modulefile.specs.Calls.{CallReason, CallForm, adds_record, adds_message, getenv, is_loaded, own_name, typed_name, info, info_test}
use Rattle.modulefile.specs.Calls.{call_of}
use Rattle.modulefile.specs.Answers.{FileContext, record_number, record_name, refusal_of, record_answer, value_shown, command_answer, record_of, records_in}
use Rattle.modulefile.specs.Answers.{record_outcome, or_before, environment_after, oracle_of}
use Rattle.modulefile.specs.Files.{Ran, FileReason, refused, halt_stop, stopped_in, ran_of, setting_of, FinishesFile, RunsFile}
use Rattle.modulefile.proofs.Bound.{bind_ok, same_value}
use Rattle.modulefile.proofs.HasEffects.{records_more}
use Rattle.reversal.specs.VariableUses.{Stacked, use_by}
use Rattle.reversal.proofs.RecordKinds.{used_name}
use Rattle.audit_certificate.specs.RecordUses.{Uses}
use Rattle.audit_certificate.proofs.UsedLemmas.{used_first, used_later}
use Rattle.audit_laws.proofs.determinism.Rests.{beginning}
use Rattle.audit_laws.proofs.returns.SameAnswers.{additions, EachIs, all_are}
use Rattle.audit_laws.proofs.determinism.Noted.{Among, among_split}
use Rattle.audit_laws.proofs.returns.AskedAgain.{IsAskedAgain, command_again, variable_again}
use Rattle.audit_laws.proofs.returns.RunAgain.{accepted_record, within, by_test, not_read, ran_parts, moved_setting}
use Rattle.audit_laws.proofs.returns.UnloadEffects.{CanRead}
use Rattle.audit_laws.proofs.returns.LoadEffects.{read_after_loads, EffectIsHadOrFull, effect_had}

-- ---- a second oracle that answers the same, or refuses for such a reason

-- it refuses because a counter is full
abbrev IsFull : ℕ → Option Text → Type 0
IsFull n name = (v : Text) × (n ≡ record_number (bad_edit (counter_full v))) × (name ≡ record_name (bad_edit (counter_full v)))

abbrev AnswersSameOrFull : Oracle → Oracle → List CommandWords → Query → Type 0
AnswersSameOrFull first second records (Command words) = (second.command records words ≡ first.command records words)
    ⊎ ((n : ℕ) × (name : Option Text) × (asks : Bool) × IsFull n name × (second.command records words ≡ Refused n name asks))
AnswersSameOrFull first second records (Variable name) = second.variable records name ≡ first.variable records name

record EndsFull {J R : Type 0} (may_lack_memory : Bool) (second : Oracle) (most : ℕ) (rule : J → Plan J R) (p : Plan J R) (w : World) : Type 0 where
  n : ℕ
  name : Option Text
  full : IsFull n name
  after : World
  evaluates : Eval may_lack_memory second most rule p w (Halted (ByHost n)) after
  refusal : after.trace.refused ≡ Some (record { number = n; name = name })

alike_or_full : {J R : Type 0} {may_lack_memory : Bool} {first : Oracle} {most : ℕ} {rule : J → Plan J R}
    {p : Plan J R} {w : World} {o : EvaluationOutcome R} {w' : World} (second : Oracle)
    (d : Eval may_lack_memory first most rule p w o w') → Throughout (AnswersSameOrFull first second) d
    → Eval may_lack_memory second most rule p w o w' ⊎ EndsFull may_lack_memory second most rule p w
alike_or_full second ends t = inl ends
alike_or_full second (counts g d) t = ⊎_elim (λ i. inl (counts g i))
    (λ i. inr (record { n = i.n; name = i.name; full = i.full; after = i.after; evaluates = counts g i.evaluates; refusal = i.refusal })) (alike_or_full second d t)
alike_or_full second (meets_limit g) t = inl (meets_limit g)
alike_or_full second (moves d) t = ⊎_elim (λ i. inl (moves i))
    (λ i. inr (record { n = i.n; name = i.name; full = i.full; after = i.after; evaluates = moves i.evaluates; refusal = i.refusal })) (alike_or_full second d t)
alike_or_full second (consults {words = words} {k = k} {w = w} d) t =
    ⊎_elim
    (λ same. ⊎_elim (λ i. inl (consults (rw same i)))
    (λ i. inr (record { n = i.n; name = i.name; full = i.full; after = i.after; evaluates = consults (rw same i.evaluates); refusal = i.refusal })) (alike_or_full second d t.1))
    (λ no. inr (record {
      n = no.0;
      name = no.1;
      full = no.3;
      after = world_after w words (second.command w.trace.records words);
      evaluates = consults (rw no.4 ends);
      refusal = ap (refused_with w.trace.refused) no.4;
    }))
    t.0
alike_or_full second (reads d) t =
    ⊎_elim (λ i. inl (reads (rw t.0 i)))
    (λ i. inr (record { n = i.n; name = i.name; full = i.full; after = i.after; evaluates = reads (rw t.0 i.evaluates); refusal = i.refusal })) (alike_or_full second d t.1)
alike_or_full second (runs d c) t =
    ⊎_elim
    (λ i. ⊎_elim (λ k. inl (runs i k))
    (λ k. inr (record { n = k.n; name = k.name; full = k.full; after = k.after; evaluates = runs i k.evaluates; refusal = k.refusal })) (alike_or_full second c t.1))
    (λ i. inr (record { n = i.n; name = i.name; full = i.full; after = i.after; evaluates = halts i.evaluates; refusal = i.refusal })) (alike_or_full second d t.0)
alike_or_full second (halts d) t = ⊎_elim (λ i. inl (halts i))
    (λ i. inr (record { n = i.n; name = i.name; full = i.full; after = i.after; evaluates = halts i.evaluates; refusal = i.refusal })) (alike_or_full second d t)
alike_or_full second (lacks_memory a g) t = inl (lacks_memory a g)

-- ---- the stacks that records push on can be read after some of them

abbrev pub CanReadUsed : Environment → List Record → Type 0
CanReadUsed e rs = (w : Text) → is_editable w ≡ true → Uses rs w Stacked → CanRead e w

so_far_read : (d : FileContext) (rs : List Record) (o : Result Environment RecordReason) (w : Text) → d.mode ≡ load → effects d.mode d.name rs d.before ≡ o → is_editable w ≡ true → CanRead d.before w
    → CanRead (or_before d.before (record_outcome o)) w
so_far_read d rs (Ok e) w m h f r = read_after_loads d.name rs d.before e w ((λ i. effects (sym m i) d.name rs d.before) ∙ h) f r
so_far_read d rs (Err reason) w m h f r = r

env_read : (d : FileContext) (records : List CommandWords) (rs : List Record) (w : Text) → d.mode ≡ load → records_in records ≡ Ok rs → is_editable w ≡ true → CanRead d.before w
    → CanRead (environment_after d records) w
env_read d records rs w m read f r =
    subst (λ (o : Result (List Record) CallReason). CanRead (or_before d.before (o >>= (λ xs. record_outcome (effects d.mode d.name xs d.before)))) w) (sym read)
    (so_far_read d rs (effects d.mode d.name rs d.before) w m refl f r)

-- ---- a command that adds a record

-- what is known of the context, and of the records of the first evaluation
pub record LoadsInto (d : FileContext) (all : List Record) : Type 0 where
  pub mode : d.mode ≡ load
  pub spelled : is_module_name d.name ≡ true
  pub allowed : list_all is_allowed all ≡ true
  pub stacks : CanReadUsed d.before all

none_of : (o : Option RecordReason) → is_none o ≡ true → o ≡ None
none_of None h = refl
none_of (Some x) h = absurd (cc)

-- one of the records is allowed, and its uses are among those of all
record IsOneOfAll (all : List Record) (r : Record) : Type 0 where
  allowed : record_reason r ≡ None
  uses : (w : Text) → use_by r ≡ Some (w, Stacked) → Uses all w Stacked

one_of : (rs : List Record) (r : Record) (rest : List Record) → list_all is_allowed (rs ++ (r ∷ rest)) ≡ true → IsOneOfAll (rs ++ (r ∷ rest)) r
one_of [] r rest a = record { allowed = none_of (record_reason r) (and_parts (is_allowed r) (list_all is_allowed rest) a).0; uses = λ w u. used_first (w, Stacked) r rest u }
one_of (x ∷ rs) r rest a =
    let k = one_of rs r rest (and_parts (is_allowed x) (list_all is_allowed (rs ++ (r ∷ rest))) a).1 in
    record { allowed = k.allowed; uses = λ w u. used_later (w, Stacked) x (rs ++ (r ∷ rest)) (k.uses w u) }

-- the record of a command has its effect, or a counter is full
record_again : (d : FileContext) (last records rest : List CommandWords) (words : List Text) (all : List Record) (r : Record) → records_in last ≡ Ok all → LoadsInto d all
    → last ≡ (records ++ words ∷ []) ++ rest → call_of words ≡ Ok (adds_record r) → EffectIsHadOrFull (effect d.mode d.name r (environment_after d records))
record_again d last records rest words all r is_all k split is =
    let (rs2, rest2, read2, split2) = beginning (records ++ words ∷ []) rest all (ap records_in (sym split) ∙ is_all) in
    let (rs, tail, read, split1) = beginning records (words ∷ []) rs2 read2 in
    let more = records_more records words rs r read (bind_ok (call_of words) record_of (adds_record r) r is refl) in
    let same : rs2 ≡ rs ++ r ∷ [] = same_value (records_in (records ++ words ∷ [])) rs2 (rs ++ r ∷ []) read2 more in
    let parted : all ≡ rs ++ (r ∷ rest2) = split2 ∙ ap (λ (l : List Record). l ++ rest2) same ∙ append_assoc rs (r ∷ []) rest2 in
    let one = one_of rs r rest2 (ap (list_all is_allowed) (sym parted) ∙ k.allowed) in
    subst (λ (m : Mode). EffectIsHadOrFull (effect m d.name r (environment_after d records))) (sym k.mode)
    (effect_had d.name r (environment_after d records) one.allowed k.spelled
    (λ w u. let f : is_editable w ≡ true = (no_reason_against w).1 (used_name r (w, Stacked) one.allowed u) in
    env_read d records rs w k.mode read f (k.stacks w f (subst (λ (l : List Record). Uses l w Stacked) (sym parted) (one.uses w u)))))

-- what an answer to a command that adds a record is
abbrev IsSameOrFull : OracleAnswer → OracleAnswer → Type 0
IsSameOrFull first second = (second ≡ first) ⊎ ((n : ℕ) × (name : Option Text) × (asks : Bool) × IsFull n name × (second ≡ Refused n name asks))

answer_again : (words : List Text) (first : OracleAnswer) (o : Result Environment RecordReason) → first ≡ Done [] (NewRecord words) false → EffectIsHadOrFull o → IsSameOrFull first (record_answer words o)
answer_again words first o same (inl (e, h)) = inl (ap (record_answer words) h ∙ sym same)
answer_again words first o same (inr (v, h)) =
    inr (record_number (bad_edit (counter_full v)), record_name (bad_edit (counter_full v)), false, (v, refl, refl), ap (record_answer words) h)

unasked_again : (c d : FileContext) (last records rest : List CommandWords) (words : List Text) (all : List Record) (x : Environment) (form : CallForm)
    → d.name ≡ c.name → records_in last ≡ Ok all → LoadsInto d all → call_of words ≡ form → is_question (command_answer c x words form) ≡ false
    → is_refusal (command_answer c x words form) ≡ false → last ≡ records_with records (addition (command_answer c x words form)) ++ rest
    → IsSameOrFull (command_answer c x words form) (command_answer d (environment_after d records) words form)
unasked_again c d last records rest words all x (Err reason) name is_all k is q u split = inl refl
unasked_again c d last records rest words all x (Ok (adds_record r)) name is_all k is q u split =
    let first = accepted_record words (effect c.mode c.name r x) u in
    answer_again words (record_answer words (effect c.mode c.name r x)) (effect d.mode d.name r (environment_after d records)) first
    (record_again d last records rest words all r is_all k (split ∙ ap (λ (a : OracleAnswer). records_with records (addition a) ++ rest) first) is)
unasked_again c d last records rest words all x (Ok (adds_message message)) name is_all k is q u split = inl refl
unasked_again c d last records rest words all x (Ok (getenv var default)) name is_all k is q u split =
    inl (not_read var (value_shown c.mode x var default) (value_shown d.mode (environment_after d records) var default) q)
unasked_again c d last records rest words all x (Ok (is_loaded names)) name is_all k is q u split = absurd (cc)
unasked_again c d last records rest words all x (Ok own_name) name is_all k is q u split = inl (ap (λ (n : Text). Done n oracle.Nothing false) name)
unasked_again c d last records rest words all x (Ok typed_name) name is_all k is q u split = absurd (cc)
unasked_again c d last records rest words all x (Ok (info field)) name is_all k is q u split = absurd (cc)
unasked_again c d last records rest words all x (Ok (info_test field word)) name is_all k is q u split = absurd (cc)

each_again : (c d : FileContext) (last : List CommandWords) (asked : List Question) (all : List Record) → d.name ≡ c.name → records_in last ≡ Ok all → LoadsInto d all
    → IsAskedAgain c d asked all → EachIs (AnswersSameOrFull (oracle_of c) (oracle_of d)) (oracle_of c) asked last
each_again c d last asked all name read k again records (Command words) n a u =
    let ask : OracleAnswer = command_answer c (environment_after c records) words (call_of words) in
    let w = within last records (addition ask) a.0 a.1 in
    by_test (is_question ask) _
    (λ q. let (before, later, split) = n q in
    inl (command_again c d asked all records words (OfCommand words ask) (beginning records w.0 all (ap records_in (sym w.1) ∙ read)) refl
    (subst (λ (l : List Question). Among (OfCommand words ask) l) (sym split) (among_split before later (OfCommand words ask))) again))
    (λ q. unasked_again c d last records a.0 words all (environment_after c records) (call_of words) name read k refl q u a.1)
each_again c d last asked all name read k again records (Variable v) n a u =
    let q = OfVariable v (lookup (environment_after c records) v) in
    let (before, later, split) = n refl in
    variable_again c d asked all records v q (beginning records a.0 all (ap records_in (sym a.1) ∙ read)) refl
    (subst (λ (l : List Question). Among q l) (sym split) (among_split before later q)) again

-- ---- the file

-- it is accepted with these records, or a counter is full
pub data LoadsFile (rs : List Record) : Result Ran FileReason → Type 0 where
  accepted : (ran : Ran) → ran.records ≡ rs → LoadsFile rs (Ok ran)
  full : (v : Text) (reason : FileReason) → reason.stop ≡ refused (refusal_of (bad_edit (counter_full v))) → LoadsFile rs (Err reason)

finished : (c d : FileContext) (text result : Text) (s : State) (w : World) (ran : Ran) (o : Result Ran FileReason) → ran_of c w.trace ≡ Ok ran
    → FinishesFile d text (Ended (Normal result s)) w o → LoadsFile ran.records o
finished c d text result s w ran o h (again, read, is) =
    subst (LoadsFile ran.records) (sym is)
    (accepted again (same_value (records_in w.trace.records) again.records ran.records (ran_parts d w.trace again read).read (ran_parts c w.trace ran h).read))

full_stop : (n : ℕ) (name : Option Text) → IsFull n name
    → (v : Text) × (refused (record { number = n; name = name }) ≡ refused (refusal_of (bad_edit (counter_full v))))
full_stop n name (v, number, named) = (v, λ i. refused (record { number = number i; name = named i }))

ended_full : (rs : List Record) (d : FileContext) (text : Text) (n : ℕ) (name : Option Text) (w : World) (o : Result Ran FileReason) → IsFull n name
    → w.trace.refused ≡ Some (record { number = n; name = name }) → FinishesFile d text (Halted (ByHost n)) w o → LoadsFile rs o
ended_full rs d text n name w o is_full refusal is =
    let (v, same) = full_stop n name is_full in
    subst (LoadsFile rs) (sym is) (full v (stopped_in d text w (halt_stop (ByHost n) w.trace.refused)) (ap (λ (x : Option HostRefusal). halt_stop (ByHost n) x) refusal ∙ same))

run_ended : (limits : Limits) (c d : FileContext) (text : Text) (ran : Ran) (result : Text) (s : State) (w : World) (o : Result Ran FileReason)
    → EvaluatesTo (setting_of limits c text) (Ended (Normal result s)) w → ran_of c w.trace ≡ Ok ran → IsAskedAgain c d ran.asked ran.records → LoadsInto d ran.records
    → d.name ≡ c.name → d.path ≡ c.path → RunsFile limits d text o → LoadsFile ran.records o
run_ended limits c d text ran result s w o e h again k name path (out, w2, e2, f) =
    let p = ran_parts c w.trace ran h in
    let each = all_are (AnswersSameOrFull (oracle_of c) (oracle_of d)) ran.asked w.trace.records (each_again c d w.trace.records ran.asked ran.records name p.read k again) e
    (noted e ran.asked [] (sym p.asked ∙ sym (append-nil w.trace.asked)))
    (additions e w.trace.records [] (sym (append-nil w.trace.records))) (unrefused e (λ n z. cc)) in
    let e3 : EvaluatesTo (with_oracle (oracle_of d) (setting_of limits c text)) out w2 = subst (λ (z : Setting). EvaluatesTo z out w2) (moved_setting limits c d text path) e2 in
    ⊎_elim
    (λ i. let same = one_outcome e3 i in
    finished c d text result s w ran o h
    (subst (λ (x : EvaluationOutcome Completion). FinishesFile d text x w o) same.0 (subst (λ (v : World). FinishesFile d text out v o) same.1 f)))
    (λ i. let same = one_outcome e3 i.evaluates in
    ended_full ran.records d text i.n i.name i.after o i.full i.refusal
    (subst (λ (x : EvaluationOutcome Completion). FinishesFile d text x i.after o) same.0 (subst (λ (v : World). FinishesFile d text out v o) same.1 f)))
    (alike_or_full (oracle_of d) e each)

pub files_load : (limits : Limits) (c d : FileContext) (text : Text) (ran : Ran) (o : Result Ran FileReason) → RunsFile limits c text (Ok ran) → IsAskedAgain c d ran.asked ran.records
    → LoadsInto d ran.records → d.name ≡ c.name → d.path ≡ c.path → RunsFile limits d text o → LoadsFile ran.records o
files_load limits c d text ran o (Ended (Normal result s), w, e, f) again k name path other =
    let q : ran_of c w.trace ≡ Ok ran = subst (λ x. ran_of c w.trace ≡ Ok x) (same_value (Ok ran) f.0 ran f.2 refl) f.1 in
    run_ended limits c d text ran result s w o e q again k name path other
files_load limits c d text ran o (Ended (Raised m s), w, e, f) again k name path other = absurd (cc)
files_load limits c d text ran o (Ended (Returned t s), w, e, f) again k name path other = absurd f
files_load limits c d text ran o (Ended (Broken s), w, e, f) again k name path other = absurd f
files_load limits c d text ran o (Ended (Continued s), w, e, f) again k name path other = absurd f
files_load limits c d text ran o (Halted h, w, e, f) again k name path other = absurd (cc)

-- the records of an accepted evaluation are those of its commands
pub recorded : (limits : Limits) (c : FileContext) (text : Text) (ran : Ran) → RunsFile limits c text (Ok ran) → (commands : List CommandWords) × (records_in commands ≡ Ok ran.records)
recorded limits c text ran (Ended (Normal result s), w, e, f) =
    let q : ran_of c w.trace ≡ Ok ran = subst (λ x. ran_of c w.trace ≡ Ok x) (same_value (Ok ran) f.0 ran f.2 refl) f.1 in
    (w.trace.records, (ran_parts c w.trace ran q).read)
recorded limits c text ran (Ended (Raised m s), w, e, f) = absurd (cc)
recorded limits c text ran (Ended (Returned t s), w, e, f) = absurd f
recorded limits c text ran (Ended (Broken s), w, e, f) = absurd f
recorded limits c text ran (Ended (Continued s), w, e, f) = absurd f
recorded limits c text ran (Halted h, w, e, f) = absurd (cc)
