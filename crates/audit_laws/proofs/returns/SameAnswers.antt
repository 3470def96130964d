-- A second oracle that answers each consultation of an evaluation as the first does gives the same evaluation, for every
-- table of rules.
use Rattle.std.proofs.Common.{◌≡◌, ℕ, Bool, false, List, ◌++◌, ap, ◌∙◌}
use Rattle.std.proofs.lemmas.List.{append_assoc}
use Rattle.tclrules.specs.Oracle.{CommandWords, Oracle, Question, records_with, addition}
use Rattle.tclrules.specs.Derivation.{EvaluationOutcome, Plan, World, Eval, ends, counts, meets_limit, moves, consults, reads, runs, halts}
use Rattle.tclrules.specs.Derivation.{lacks_memory, Query, Command, Variable, Throughout, IsUnrefused, IsNoted}
use Rattle.tclrules.proofs.Consultations.{records_more}

-- the second oracle answers as the first does
abbrev pub AnswersSame : Oracle → Oracle → List CommandWords → Query → Type 0
AnswersSame first second records (Command words) = second.command records words ≡ first.command records words
AnswersSame first second records (Variable name) = second.variable records name ≡ first.variable records name

pub evaluates_alike : {J R : Type 0} {may_lack_memory : Bool} {first : Oracle} {most : ℕ} {rule : J → Plan J R}
    {p : Plan J R} {w : World} {o : EvaluationOutcome R} {w' : World} (second : Oracle)
    (d : Eval may_lack_memory first most rule p w o w') → Throughout (AnswersSame first second) d
    → Eval may_lack_memory second most rule p w o w'
evaluates_alike second ends t = ends
evaluates_alike second (counts g d) t = counts g (evaluates_alike second d t)
evaluates_alike second (meets_limit g) t = meets_limit g
evaluates_alike second (moves d) t = moves (evaluates_alike second d t)
evaluates_alike second (consults d) t = consults (rw t.0 (evaluates_alike second d t.1))
evaluates_alike second (reads d) t = reads (rw t.0 (evaluates_alike second d t.1))
evaluates_alike second (runs d c) t = runs (evaluates_alike second d t.0) (evaluates_alike second c t.1)
evaluates_alike second (halts d) t = halts (evaluates_alike second d t)
evaluates_alike second (lacks_memory a g) t = lacks_memory a g

-- the records after a consultation are a beginning of these
abbrev pub AddsWithin : Oracle → List CommandWords → List CommandWords → Query → Type 0
AddsWithin oracle all records (Command words) =
    (rest : List CommandWords) × (all ≡ records_with records (addition (oracle.command records words)) ++ rest)
AddsWithin oracle all records (Variable name) = (rest : List CommandWords) × (all ≡ records ++ rest)

grown_twice : {A : Type 0} (xs ys zs all most : List A) → all ≡ ys ++ zs → ys ≡ xs ++ most → all ≡ xs ++ (most ++ zs)
grown_twice xs ys zs all most e g = e ∙ ap (λ l. l ++ zs) g ∙ append_assoc xs most zs

-- so it is for those of the whole evaluation
pub additions : {J R : Type 0} {oracle : Oracle} {most : ℕ} {rule : J → Plan J R} {p : Plan J R}
    {w : World} {o : EvaluationOutcome R} {w' : World} (d : Eval false oracle most rule p w o w')
    (all rest : List CommandWords) → all ≡ w'.trace.records ++ rest → Throughout (AddsWithin oracle all) d
additions ends all rest h = tt
additions (counts g d) all rest h = additions d all rest h
additions (meets_limit g) all rest h = tt
additions (moves d) all rest h = additions d all rest h
additions {oracle = oracle} {w' = w'} (consults {words = words} {w = w} d) all rest h =
    let m = records_more d in
    let now = records_with w.trace.records (addition (oracle.command w.trace.records words)) in
    ((m.0 ++ rest, grown_twice now w'.trace.records rest all m.0 h m.1), additions d all rest h)
additions {w' = w'} (reads {w = w} d) all rest h =
    let m = records_more d in
    ((m.0 ++ rest, grown_twice w.trace.records w'.trace.records rest all m.0 h m.1), additions d all rest h)
additions {w' = w'} (runs {w' = v} d c) all rest h =
    let m = records_more c in
    (additions d all (m.0 ++ rest) (grown_twice v.trace.records w'.trace.records rest all m.0 h m.1), additions c all rest h)
additions (halts d) all rest h = additions d all rest h
additions (lacks_memory asked g) all rest h = tt

-- what holds of each consultation that is noted, adds within the records, and isn't refused
abbrev pub EachIs : (List CommandWords → Query → Type 0) → Oracle → List Question → List CommandWords → Type 0
EachIs Holds first asked all =
    (records : List CommandWords) (query : Query) → IsNoted first asked records query → AddsWithin first all records query
    → IsUnrefused first records query → Holds records query

-- holds of all of an evaluation
pub all_are : {J R : Type 0} {may_lack_memory : Bool} {first : Oracle} {most : ℕ} {rule : J → Plan J R} {p : Plan J R}
    {w : World} {o : EvaluationOutcome R} {w' : World} (Holds : List CommandWords → Query → Type 0) (asked : List Question)
    (all : List CommandWords) → EachIs Holds first asked all → (d : Eval may_lack_memory first most rule p w o w')
    → Throughout (IsNoted first asked) d → Throughout (AddsWithin first all) d → Throughout (IsUnrefused first) d
    → Throughout Holds d
all_are Holds asked all each ends n a u = tt
all_are Holds asked all each (counts g d) n a u = all_are Holds asked all each d n a u
all_are Holds asked all each (meets_limit g) n a u = tt
all_are Holds asked all each (moves d) n a u = all_are Holds asked all each d n a u
all_are Holds asked all each (consults {words = words} {w = w} d) n a u =
    (each w.trace.records (Command words) n.0 a.0 u.0, all_are Holds asked all each d n.1 a.1 u.1)
all_are Holds asked all each (reads {name = name} {w = w} d) n a u =
    (each w.trace.records (Variable name) n.0 a.0 u.0, all_are Holds asked all each d n.1 a.1 u.1)
all_are Holds asked all each (runs d c) n a u =
    (all_are Holds asked all each d n.0 a.0 u.0, all_are Holds asked all each c n.1 a.1 u.1)
all_are Holds asked all each (halts d) n a u = all_are Holds asked all each d n a u
all_are Holds asked all each (lacks_memory asked_then g) n a u = tt
