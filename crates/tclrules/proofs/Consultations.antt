-- The consultations of a derivation and what they add to the trace, for every table of rules.
use Rattle.std.proofs.Common.{◌≡◌, ℕ, Bool, true, false, if◌then◌else◌, List, [], ◌∷◌, ◌++◌, ◌⊎◌, ⊎_elim, inl, inr}
use Rattle.std.proofs.Common.{refl, ap, sym, ◌∙◌}
use Rattle.std.proofs.lemmas.List.{append_assoc, append-nil}
use Rattle.tcltext.specs.chars.Runs.{Text}
use Rattle.tclrules.specs.Oracle.{CommandWords, Addition, Nothing, NewRecord, Message, OracleAnswer, Done, Unknown, LeftOut}
use Rattle.tclrules.specs.Oracle.{Refused, Oracle, Question, OfCommand, OfVariable, Trace, records_with, asked_with}
use Rattle.tclrules.specs.Oracle.{addition, is_question, is_refusal}
use Rattle.tclrules.specs.Derivation.{ByHost, EvaluationOutcome, Halted, HostReply, Plan, World, replied, Eval, ends}
use Rattle.tclrules.specs.Derivation.{counts, meets_limit, moves, consults, reads, runs, halts, lacks_memory, world_after}
use Rattle.tclrules.specs.Derivation.{Throughout, Command, AnswersOrRefuses, AnswersAlikeUnasked, IsUnrefused, asks}
use Rattle.tclrules.specs.Derivation.{IsNoted, RepeatsAnswers, Grows, none, more}

-- a second oracle that answers as the first does or refuses gives the same outcome, or a refusal
pub same_or_refused : {J R : Type 0} {may_lack_memory : Bool} {first : Oracle} {most : ℕ} {rule : J → Plan J R}
    {p : Plan J R} {w : World} {o : EvaluationOutcome R} {w' : World} (second : Oracle)
    (d : Eval may_lack_memory first most rule p w o w') → Throughout (AnswersOrRefuses first second) d
    → Eval may_lack_memory second most rule p w o w' ⊎
    ((n : ℕ) × (w2 : World) × Eval may_lack_memory second most rule p w (Halted (ByHost n)) w2)
same_or_refused second ends t = inl ends
same_or_refused second (counts g d) t = ⊎_elim (λ i. inl (counts g i)) (λ i. inr (i.0, i.1, counts g i.2)) (same_or_refused second d t)
same_or_refused second (meets_limit g) t = inl (meets_limit g)
same_or_refused second (moves d) t = ⊎_elim (λ i. inl (moves i)) (λ i. inr (i.0, i.1, moves i.2)) (same_or_refused second d t)
same_or_refused second (consults {words = words} {k = k} {w = w} d) t =
    ⊎_elim
    (λ same. ⊎_elim (λ i. inl (consults (rw same i))) (λ i. inr (i.0, i.1, consults (rw same i.2))) (same_or_refused second d t.1))
    (λ no. inr (no.0, world_after w words (second.command w.trace.records words), consults (rw no.3 ends)))
    t.0
same_or_refused second (reads d) t =
    ⊎_elim (λ i. inl (reads (rw t.0 i))) (λ i. inr (i.0, i.1, reads (rw t.0 i.2))) (same_or_refused second d t.1)
same_or_refused second (runs d c) t =
    ⊎_elim (λ i. ⊎_elim (λ k. inl (runs i k)) (λ k. inr (k.0, k.1, runs i k.2)) (same_or_refused second c t.1)) (λ i. inr (i.0, i.1, halts i.2)) (same_or_refused second d t.0)
same_or_refused second (halts d) t = ⊎_elim (λ i. inl (halts i)) (λ i. inr (i.0, i.1, halts i.2)) (same_or_refused second d t)
same_or_refused second (lacks_memory a g) t = inl (lacks_memory a g)

-- where words go into what was asked
noted_words : (asked : List Question) (words : CommandWords) (a : OracleAnswer)
    → (more : List Question) × (asked_with asked words a ≡ asked ++ more)
noted_words asked words a = go (is_question a) refl
  where
    go : (b : Bool) → is_question a ≡ b → (more : List Question) × (asked_with asked words a ≡ asked ++ more)
    go true e = (OfCommand words a ∷ [], ap (λ b. if b then asked ++ OfCommand words a ∷ [] else asked) e)
    go false e = ([], ap (λ b. if b then asked ++ OfCommand words a ∷ [] else asked) e ∙ sym (append-nil asked))

grown_twice : {A : Type 0} (xs ys zs all most : List A) → all ≡ ys ++ zs → ys ≡ xs ++ most → all ≡ xs ++ (most ++ zs)
grown_twice xs ys zs all most e g = e ∙ ap (λ l. l ++ zs) g ∙ append_assoc xs most zs

-- what was asked stays, and more is asked behind it
pub asks_more : {J R : Type 0} {oracle : Oracle} {most : ℕ} {rule : J → Plan J R} {p : Plan J R}
    {w : World} {o : EvaluationOutcome R} {w' : World} → Eval false oracle most rule p w o w'
    → (more : List Question) × (w'.trace.asked ≡ w.trace.asked ++ more)
asks_more {w = w} ends = ([], sym (append-nil w.trace.asked))
asks_more (counts g d) = asks_more d
asks_more {w = w} (meets_limit g) = ([], sym (append-nil w.trace.asked))
asks_more (moves d) = asks_more d
asks_more {oracle = oracle} {w' = w'} (consults {words = words} {w = w} d) =
    let m = asks_more d in
    let n = noted_words w.trace.asked words (oracle.command w.trace.records words) in
    (n.0 ++ m.0, grown_twice w.trace.asked (asked_with w.trace.asked words (oracle.command w.trace.records words)) m.0 w'.trace.asked n.0 m.1 n.1)
asks_more {oracle = oracle} {w' = w'} (reads {name = name} {w = w} d) =
    let m = asks_more d in
    let q = OfVariable name (oracle.variable w.trace.records name) ∷ [] in
    (q ++ m.0, grown_twice w.trace.asked (w.trace.asked ++ q) m.0 w'.trace.asked q m.1 refl)
asks_more {w' = w'} (runs {w = w} {w' = v} d c) =
    let m = asks_more d in
    let n = asks_more c in
    (m.0 ++ n.0, grown_twice w.trace.asked v.trace.asked n.0 w'.trace.asked m.0 n.1 m.1)
asks_more (halts d) = asks_more d
asks_more (lacks_memory asked g) = absurd (cc)

none_before : {A : Type 0} (xs ys : List A) → xs ++ ys ≡ [] → xs ≡ []
none_before [] ys h = refl
none_before (x ∷ xs) ys h = cc

some_in : {A : Type 0} (xs : List A) (y : A) → xs ++ y ∷ [] ≡ [] → ⊥
some_in [] y h = absurd (cc)
some_in (x ∷ xs) y h = absurd (cc)

not_asked : {J R : Type 0} {oracle : Oracle} {most : ℕ} {rule : J → Plan J R} {p : Plan J R}
    {w : World} {o : EvaluationOutcome R} {w' : World} → Eval false oracle most rule p w o w'
    → w'.trace.asked ≡ [] → w.trace.asked ≡ []
not_asked {w = w} d h = let m = asks_more d in none_before w.trace.asked m.0 (sym m.1 ∙ h)

no_question : (asked : List Question) (words : CommandWords) (a : OracleAnswer) → asked_with asked words a ≡ [] → is_question a ≡ false
no_question asked words a h = go (is_question a) refl
  where
    go : (b : Bool) → is_question a ≡ b → is_question a ≡ false
    go false e = e
    go true e = absurd (some_in asked (OfCommand words a) (sym (ap (λ b. if b then asked ++ OfCommand words a ∷ [] else asked) e) ∙ h))

-- where nothing was asked no consultation was a question
pub unasked : {J R : Type 0} {oracle : Oracle} {most : ℕ} {rule : J → Plan J R} {p : Plan J R}
    {w : World} {o : EvaluationOutcome R} {w' : World} (d : Eval false oracle most rule p w o w')
    → w'.trace.asked ≡ [] → Throughout (λ records query. asks oracle records query ≡ false) d
unasked ends h = tt
unasked (counts g d) h = unasked d h
unasked (meets_limit g) h = tt
unasked (moves d) h = unasked d h
unasked {oracle = oracle} (consults {words = words} {w = w} d) h = (no_question w.trace.asked words (oracle.command w.trace.records words) (not_asked d h), unasked d h)
unasked {oracle = oracle} (reads {name = name} {w = w} d) h = absurd (some_in w.trace.asked (OfVariable name (oracle.variable w.trace.records name)) (not_asked d h))
unasked (runs d c) h = (unasked d (not_asked c h), unasked c h)
unasked (halts d) h = unasked d h
unasked (lacks_memory asked g) h = tt

in_between : (xs ms rest : List Question) (q : Question) (all end : List Question) → end ≡ (xs ++ q ∷ []) ++ ms → all ≡ end ++ rest
    → all ≡ xs ++ q ∷ (ms ++ rest)
in_between xs ms rest q all end e h =
    h ∙ ap (λ l. l ++ rest) e ∙ append_assoc (xs ++ q ∷ []) ms rest ∙ append_assoc xs (q ∷ []) (ms ++ rest)

-- what was asked is noted, with its answer
pub noted : {J R : Type 0} {oracle : Oracle} {most : ℕ} {rule : J → Plan J R} {p : Plan J R}
    {w : World} {o : EvaluationOutcome R} {w' : World} (d : Eval false oracle most rule p w o w')
    (all rest : List Question) → all ≡ w'.trace.asked ++ rest → Throughout (IsNoted oracle all) d
noted ends all rest h = tt
noted (counts g d) all rest h = noted d all rest h
noted (meets_limit g) all rest h = tt
noted (moves d) all rest h = noted d all rest h
noted {oracle = oracle} {w' = w'} (consults {words = words} {w = w} d) all rest h =
    let a = oracle.command w.trace.records words in
    let m = asks_more d in (
      λ is. (
        w.trace.asked,
        m.0 ++ rest,
        in_between w.trace.asked m.0 rest (OfCommand words a) all w'.trace.asked
            (m.1 ∙ ap (λ b. (if b then w.trace.asked ++ OfCommand words a ∷ [] else w.trace.asked) ++ m.0) is) h,
      ),
      noted d all rest h,
    )
noted {oracle = oracle} {w' = w'} (reads {name = name} {w = w} d) all rest h =
    let m = asks_more d in
    (λ is. (w.trace.asked, m.0 ++ rest, in_between w.trace.asked m.0 rest (OfVariable name (oracle.variable w.trace.records name)) all w'.trace.asked m.1 h), noted d all rest h)
noted {w' = w'} (runs {w' = v} d c) all rest h =
    let m = asks_more c in
    (noted d all (m.0 ++ rest) (grown_twice v.trace.asked w'.trace.asked rest all m.0 h m.1), noted c all rest h)
noted (halts d) all rest h = noted d all rest h
noted (lacks_memory asked g) all rest h = tt

noted_record : (records : List CommandWords) (adds : Addition) → (more : List CommandWords) × (records_with records adds ≡ records ++ more)
noted_record records Nothing = ([], sym (append-nil records))
noted_record records (NewRecord r) = (r ∷ [], refl)
noted_record records (Message m) = ([], sym (append-nil records))

-- records stay, and more come behind them
pub records_more : {J R : Type 0} {oracle : Oracle} {most : ℕ} {rule : J → Plan J R} {p : Plan J R}
    {w : World} {o : EvaluationOutcome R} {w' : World} → Eval false oracle most rule p w o w'
    → (more : List CommandWords) × (w'.trace.records ≡ w.trace.records ++ more)
records_more {w = w} ends = ([], sym (append-nil w.trace.records))
records_more (counts g d) = records_more d
records_more {w = w} (meets_limit g) = ([], sym (append-nil w.trace.records))
records_more (moves d) = records_more d
records_more {oracle = oracle} {w' = w'} (consults {words = words} {w = w} d) =
    let m = records_more d in
    let adds = addition (oracle.command w.trace.records words) in
    let n = noted_record w.trace.records adds in
    (n.0 ++ m.0, grown_twice w.trace.records (records_with w.trace.records adds) m.0 w'.trace.records n.0 m.1 n.1)
records_more (reads d) = records_more d
records_more {w' = w'} (runs {w = w} {w' = v} d c) =
    let m = records_more d in
    let n = records_more c in
    (m.0 ++ n.0, grown_twice w.trace.records v.trace.records n.0 w'.trace.records m.0 n.1 m.1)
records_more (halts d) = records_more d
records_more {w = w} (lacks_memory asked g) = ([], sym (append-nil w.trace.records))

-- the records before each consultation are a beginning of the last
abbrev BeginsWith : List CommandWords → List CommandWords → Type 0
BeginsWith all records = (rest : List CommandWords) × (all ≡ records ++ rest)

pub beginnings : {J R : Type 0} {oracle : Oracle} {most : ℕ} {rule : J → Plan J R} {p : Plan J R}
    {w : World} {o : EvaluationOutcome R} {w' : World} (d : Eval false oracle most rule p w o w')
    (all rest : List CommandWords) → all ≡ w'.trace.records ++ rest → Throughout (λ records query. BeginsWith all records) d
beginnings ends all rest h = tt
beginnings (counts g d) all rest h = beginnings d all rest h
beginnings (meets_limit g) all rest h = tt
beginnings (moves d) all rest h = beginnings d all rest h
beginnings {oracle = oracle} {w' = w'} (consults {words = words} {k = k} {w = w} d) all rest h =
    let m = records_more (consults {words = words} {k = k} {w = w} d) in
    ((m.0 ++ rest, grown_twice w.trace.records w'.trace.records rest all m.0 h m.1), beginnings d all rest h)
beginnings {w' = w'} (reads {w = w} d) all rest h =
    let m = records_more d in
    ((m.0 ++ rest, grown_twice w.trace.records w'.trace.records rest all m.0 h m.1), beginnings d all rest h)
beginnings {w' = w'} (runs {w' = v} d c) all rest h =
    let m = records_more c in
    (beginnings d all (m.0 ++ rest) (grown_twice v.trace.records w'.trace.records rest all m.0 h m.1), beginnings c all rest h)
beginnings (halts d) all rest h = beginnings d all rest h
beginnings (lacks_memory asked g) all rest h = tt

-- an evaluation that the host didn't refuse had no refused consultation
answer_unrefused : {J R : Type 0} {oracle : Oracle} {most : ℕ} {rule : J → Plan J R} {v w : World}
    {o : EvaluationOutcome R} (k : HostReply → Plan J R) (a : OracleAnswer)
    → Eval false oracle most rule (replied k a) v o w → ((n : ℕ) → ¬ (o ≡ Halted (ByHost n))) → is_refusal a ≡ false
answer_unrefused k (Done text adds asks) d h = refl
answer_unrefused k (Unknown asks) d h = refl
answer_unrefused k (LeftOut name asks) d h = refl
answer_unrefused k (Refused n name asks) ends h = absurd (h n refl)
answer_unrefused k (Refused n name asks) (lacks_memory a g) h = absurd (cc)

pub unrefused : {J R : Type 0} {oracle : Oracle} {most : ℕ} {rule : J → Plan J R} {p : Plan J R} {w : World}
    {o : EvaluationOutcome R} {w' : World} (d : Eval false oracle most rule p w o w')
    → ((n : ℕ) → ¬ (o ≡ Halted (ByHost n))) → Throughout (IsUnrefused oracle) d
unrefused ends h = tt
unrefused (counts g d) h = unrefused d h
unrefused (meets_limit g) h = tt
unrefused (moves d) h = unrefused d h
unrefused {oracle = oracle} (consults {words = words} {k = k} {w = w} d) h = (answer_unrefused k (oracle.command w.trace.records words) d h, unrefused d h)
unrefused (reads d) h = (tt, unrefused d h)
unrefused (runs d c) h = (unrefused d (λ n e. cc), unrefused c h)
unrefused (halts d) h = unrefused d h
unrefused (lacks_memory a g) h = tt

-- where no consultation is a question or refused, it is enough that a second oracle answers those alike
pub agree : {J R : Type 0} {may_lack_memory : Bool} {first : Oracle} {most : ℕ} {rule : J → Plan J R} {p : Plan J R}
    {w : World} {o : EvaluationOutcome R} {w' : World} (second : Oracle) → AnswersAlikeUnasked first second
    → (d : Eval may_lack_memory first most rule p w o w')
    → Throughout (λ records query. asks first records query ≡ false) d → Throughout (IsUnrefused first) d
    → Throughout (AnswersOrRefuses first second) d
agree second h ends t u = tt
agree second h (counts g d) t u = agree second h d t u
agree second h (meets_limit g) t u = tt
agree second h (moves d) t u = agree second h d t u
agree second h (consults {words = words} {w = w} d) t u = (h.1 w.trace.records words t.0 u.0, agree second h d t.1 u.1)
agree second h (reads d) t u = absurd (let e : true ≡ false = t.0 in cc)
agree second h (runs d c) t u = (agree second h d t.0 u.0, agree second h c t.1 u.1)
agree second h (halts d) t u = agree second h d t u
agree second h (lacks_memory a g) t u = tt

-- a question is answered as before, and what is none alike
repeats_one : (first second : Oracle) (last : Trace) (records rest : List CommandWords) (words : List Text) → AnswersAlikeUnasked first second
    → RepeatsAnswers second last → last.records ≡ records ++ rest → IsNoted first last.asked records (Command words)
    → is_refusal (first.command records words) ≡ false → AnswersOrRefuses first second records (Command words)
repeats_one first second last records rest words h r e n u = go (is_question (first.command records words)) refl
  where
    go : (b : Bool) → is_question (first.command records words) ≡ b → AnswersOrRefuses first second records (Command words)
    go false q = h.1 records words q u
    go true q = let i = n q in r i.0 i.1 (OfCommand words (first.command records words)) i.2 records rest e

-- where nothing is refused it is enough that a second oracle answers what was asked as before, and the rest alike
pub repeats : {J R : Type 0} {may_lack_memory : Bool} {first : Oracle} {most : ℕ} {rule : J → Plan J R} {p : Plan J R}
    {w : World} {o : EvaluationOutcome R} {w' : World} (second : Oracle) (last : Trace) → AnswersAlikeUnasked first second
    → RepeatsAnswers second last → (d : Eval may_lack_memory first most rule p w o w')
    → Throughout (IsNoted first last.asked) d → Throughout (λ records query. BeginsWith last.records records) d
    → Throughout (IsUnrefused first) d → Throughout (AnswersOrRefuses first second) d
repeats second last h r ends n b u = tt
repeats second last h r (counts g d) n b u = repeats second last h r d n b u
repeats second last h r (meets_limit g) n b u = tt
repeats second last h r (moves d) n b u = repeats second last h r d n b u
repeats {first = first} second last h r (consults {words = words} {w = w} d) n b u =
    (repeats_one first second last w.trace.records b.0.0 words h r b.0.1 n.0 u.0, repeats second last h r d n.1 b.1 u.1)
repeats {first = first} second last h r (reads {name = name} {w = w} d) n b u =
    (let i = n.0 refl in r i.0 i.1 (OfVariable name (first.variable w.trace.records name)) i.2 w.trace.records b.0.0 b.0.1, repeats second last h r d n.1 b.1 u.1)
repeats second last h r (runs d c) n b u = (repeats second last h r d n.0 b.0 u.0, repeats second last h r c n.1 b.1 u.1)
repeats second last h r (halts d) n b u = repeats second last h r d n b u
repeats second last h r (lacks_memory asked g) n b u = tt

-- records grow by answers
pub grow_on : {oracle : Oracle} {rs qs ps : List CommandWords} → Grows oracle rs qs → Grows oracle qs ps → Grows oracle rs ps
grow_on none g = g
grow_on (more words f) g = more words (grow_on f g)

pub grown : {J R : Type 0} {may_lack_memory : Bool} {oracle : Oracle} {most : ℕ} {rule : J → Plan J R} {p : Plan J R}
    {w : World} {o : EvaluationOutcome R} {w' : World} → Eval may_lack_memory oracle most rule p w o w'
    → Grows oracle w.trace.records w'.trace.records
grown ends = none
grown (counts g d) = grown d
grown (meets_limit g) = none
grown (moves d) = grown d
grown (consults {words = words} d) = more words (grown d)
grown (reads d) = grown d
grown (runs d c) = grow_on (grown d) (grown c)
grown (halts d) = grown d
grown (lacks_memory a g) = none

-- what each answer preserves holds of the last records
pub kept : {oracle : Oracle} {rs qs : List CommandWords} (holds : List CommandWords → Bool) → Grows oracle rs qs
    → holds rs ≡ true → ((rs : List CommandWords) (words : List Text) → holds rs ≡ true
    → holds (records_with rs (addition (oracle.command rs words))) ≡ true) → holds qs ≡ true
kept holds none h keeps = h
kept holds (more {rs = rs} words g) h keeps = kept holds g (keeps rs words h) keeps
