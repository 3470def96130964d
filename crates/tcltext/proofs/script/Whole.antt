-- The tree and the fault of a whole text.
use Rattle.std.proofs.Common.{◌≡◌, ◌≢◌, ℕ, zero, suc, ◌+◌, ◌<◌, ◌≤◌, [], ◌∷◌, ◌++◌, length, Bool, true, false, Result}
use Rattle.std.proofs.Common.{Ok, Err, refl, sym, ap, subst, ◌∙◌, arith, append-nil, length-append, inl, inr}
use Rattle.std.specs.Prelude.{IfOk, IfErr, MatchResult}
use Rattle.tcltext.specs.chars.Runs.{Text}
use Rattle.tcltext.specs.chars.Faults.{max_nesting}
use Rattle.tcltext.specs.chars.Reading.{◌>>=◌, Read, remaining_of}
use Rattle.tcltext.specs.declared.chars.fault.Fault.{Fault}
use Rattle.tcltext.specs.declared.chars.fault.Fault.TheVariants as marks
use Rattle.tcltext.specs.declared.chars.fault.TextFault.{TextFault}
use Rattle.tcltext.specs.declared.chars.fault.TextFault.TheVariants.{OutOfMemory}
use Rattle.tcltext.proofs.chars.Results.{bind_ok, bind_err, ok_same, ok_err, err_ok, err_same}
use Rattle.tcltext.specs.chars.Whole.{Reads}
use Rattle.tcltext.specs.declared.script.context.Context.{Context}
use Rattle.tcltext.specs.declared.script.context.Context.TheVariants.{InIndex}
use Rattle.tcltext.specs.script.Tree.{Commands, nesting, parts_nesting}
use Rattle.tcltext.specs.script.Ends.{script_ends}
use Rattle.tcltext.specs.script.Grammar.{IsCommands, IsParts, IsScript}
use Rattle.tcltext.specs.script.Faults as faults
use Rattle.tcltext.specs.script.Faults.{CommandsFault, CommandFault, WordsFault, WordFault, UnexpandedWordFault, PartsFault}
use Rattle.tcltext.specs.script.Faults.{PartFault, IsFault, IsTextFault}
use Rattle.tcltext.specs.script.Reading.{inner_at, script_with, parts_with, whole_script}
use Rattle.tcltext.specs.script.Text.{IsWithin, script_of}
use Rattle.tcltext.proofs.chars.Whole as whole
use Rattle.tcltext.proofs.script.Exact.{Exact}
use Rattle.tcltext.proofs.script.Dollars.{Anywhere, IsExactInner}
use Rattle.tcltext.proofs.script.PartsExact.{commands_close}
use Rattle.tcltext.proofs.script.PartFaults.{parts_exact}
use Rattle.tcltext.proofs.script.ScriptExact.{script_exact}

-- Depths

nothing_deeper : {X : Type 0} (L : X → Text → Text → Type 0) (deep : X → ℕ)
    → Exact (λ bs. let none : Read X = Err marks.TooDeep in none) Anywhere (λ x t r. L x t r × (deep x < zero))
    (λ bs f. f ≡ marks.TooDeep)
nothing_deeper L deep = record {
  sound = λ bs x r b h. absurd (err_ok (x, r) marks.TooDeep h);
  again = λ x t r h. absurd (omega (arith, h.1));
  faulty = λ bs f b h. sym (err_same marks.TooDeep f h);
  met = λ bs f h. ap (λ f. Err f) (sym h);
}

one_deeper : {X : Type 0} (read : Text → Read X) (L : X → Text → Text → Type 0) (F : Text → Fault → Type 0)
    (deep : X → ℕ) (d : ℕ) → Exact read Anywhere (λ x t r. L x t r × (deep x ≤ d)) F
    → Exact read Anywhere (λ x t r. L x t r × (deep x < suc d)) F
one_deeper read L F deep d e = record {
  sound = λ bs x r b h. (let k = e.sound bs x r b h in record { taken = k.taken; whole = k.whole; is = (k.is.0, omega (arith, k.is.1)) });
  again = λ x t r h. e.again x t r (h.0, omega (arith, h.1));
  faulty = e.faulty;
  met = e.met;
}

-- the readers of what brackets and indexes hold read exactly what nests no deeper
pub inner_exact : (d : ℕ) → IsExactInner d (inner_at d)
unfolding inner_at
inner_exact zero = record { script = nothing_deeper (λ s t r. IsCommands (length t) true s t r) nesting; index = nothing_deeper (λ ps t r. IsParts InIndex ps t r) parts_nesting }
inner_exact (suc d) = record {
  script = one_deeper (script_with true (inner_at d)) (λ s t r. IsCommands (length t) true s t r) (CommandsFault d true) nesting d (script_exact d (inner_at d) (inner_exact d) true);
  index = one_deeper (parts_with InIndex (inner_at d)) (λ ps t r. IsParts InIndex ps t r) (PartsFault d InIndex) parts_nesting d (parts_exact d (inner_at d) (inner_exact d) InIndex);
}

-- Whole texts

at_end : (r : Text) → script_ends false r ≡ true → r ≡ []
at_end [] h = refl
at_end (b ∷ r) h = cc

-- What is read is a script, in which no more than d brackets and indexes nest.
pub sound : (d : ℕ) (bs : Text) (s : Commands) → whole_script d bs ≡ Ok s → IsScript bs s × (nesting s ≤ d)
unfolding whole_script
sound d bs s h =
    let x = bind_ok (script_with false (inner_at d) bs) (λ x. Ok x.0) s h in
    let t = (script_exact d (inner_at d) (inner_exact d) false).sound bs x.0.0 x.0.1 tt x.1 in
    let none : x.0.1 ≡ [] = at_end x.0.1 (commands_close (length t.taken) false x.0.0 t.taken x.0.1 t.is.0) in
    let all : t.taken ≡ bs = sym (append-nil t.taken) ∙ ap (λ r. t.taken ++ r) (sym none) ∙ sym t.whole in
    let is : IsScript bs x.0.0 = subst (λ ys. IsScript ys x.0.0) all (subst (λ r. IsCommands (length t.taken) false x.0.0 t.taken r) none t.is.0) in
    subst (λ s. IsScript bs s × (nesting s ≤ d)) (ok_same x.0.0 s x.2) (is, t.is.1)

-- What is such a script is read.
pub complete : (d : ℕ) (bs : Text) (s : Commands) → IsScript bs s → nesting s ≤ d → whole_script d bs ≡ Ok s
unfolding whole_script
complete d bs s h deep =
    let read = (script_exact d (inner_at d) (inner_exact d) false).again s bs [] (h, deep) in
    ap (λ x. x >>= (λ x. Ok x.0)) (ap (script_with false (inner_at d)) (sym (append-nil bs)) ∙ read)

-- A fault that is met is the first in the text.
pub faulty : (d : ℕ) (bs : Text) (f : Fault) → whole_script d bs ≡ Err f → IsFault d bs f
unfolding whole_script
faulty d bs f h = elim (bind_err (script_with false (inner_at d) bs) (λ x. Ok x.0) f h) [
  | inl bad ↦ (script_exact d (inner_at d) (inner_exact d) false).faulty bs f tt bad
  | inr k ↦ absurd (ok_err k.0.0 f k.2)
]

-- The first fault of a text is met.
pub met : (d : ℕ) (bs : Text) (f : Fault) → IsFault d bs f → whole_script d bs ≡ Err f
unfolding whole_script
met d bs f h = ap (λ x. x >>= (λ x. Ok x.0)) ((script_exact d (inner_at d) (inner_exact d) false).met bs f h)

-- A text has one tree at most, one first fault at most, and not both.

pub one_tree : (bs : Text) (s t : Commands) → IsScript bs s → IsScript bs t → s ≡ t
one_tree bs s t h k =
    let d = nesting s + nesting t in
    ok_same s t (sym (complete d bs s h (omega arith)) ∙ complete d bs t k (omega arith))

pub one_fault : (d : ℕ) (bs : Text) (f g : Fault) → IsFault d bs f → IsFault d bs g → f ≡ g
one_fault d bs f g h k = err_same {A = Commands} f g (sym (met d bs f h) ∙ met d bs g k)

pub no_tree : (d : ℕ) (bs : Text) (f : Fault) (s : Commands) → IsFault d bs f → IsScript bs s → nesting s ≤ d → ⊥
no_tree d bs f s h k deep = err_ok s f (sym (met d bs f h) ∙ complete d bs s k deep)

-- The place of a fault lies within the text

mutual
  commands_within : {d : ℕ} {nested : Bool} {bs : Text} {f : Fault} → CommandsFault d nested bs f → remaining_of f ≤ length bs
  commands_within (faults.CommandsFault.first_command gap {body = body} h free k) = omega (arith, length-append gap body, command_within k)
  commands_within (faults.CommandsFault.later_command gap source body ws {rest = rest} h free k deep l) = omega (arith, length-append gap (body ++ rest), length-append body rest, commands_within l)

  command_within : {d : ℕ} {nested : Bool} {bs : Text} {f : Fault} → CommandFault d nested bs f → remaining_of f ≤ length bs
  command_within (faults.CommandFault.first_word h) = word_within h
  command_within (faults.CommandFault.later_word body w {rest = rest} h deep l) = omega (arith, length-append body rest, words_within l)

  words_within : {d : ℕ} {nested : Bool} {bs : Text} {f : Fault} → WordsFault d nested bs f → remaining_of f ≤ length bs
  words_within (faults.WordsFault.next_word blanks {body = body} h k) = omega (arith, length-append blanks body, word_within k)
  words_within (faults.WordsFault.word_after blanks body w {rest = rest} h k deep l) = omega (arith, length-append blanks (body ++ rest), length-append body rest, words_within l)

  word_within : {d : ℕ} {nested : Bool} {bs : Text} {f : Fault} → WordFault d nested bs f → remaining_of f ≤ length bs
  word_within (faults.WordFault.not_expanding h k) = plain_within k
  word_within (faults.WordFault.expanding h k) = omega (arith, plain_within k)

  plain_within : {d : ℕ} {nested : Bool} {bs : Text} {f : Fault} → UnexpandedWordFault d nested bs f → remaining_of f ≤ length bs
  plain_within (faults.UnexpandedWordFault.open_brace h) = omega arith
  plain_within (faults.UnexpandedWordFault.joined_brace inside rest h k) = omega (arith, length-append inside (125 ∷ rest))
  plain_within (faults.UnexpandedWordFault.in_quotes h) = omega (arith, parts_within h)
  plain_within (faults.UnexpandedWordFault.open_quote ps h k) = omega arith
  plain_within (faults.UnexpandedWordFault.joined_quote inside rest ps h k l) = omega (arith, length-append inside (34 ∷ rest))
  plain_within (faults.UnexpandedWordFault.in_bare h k) = parts_within k

  parts_within : {d : ℕ} {c : Context} {bs : Text} {f : Fault} → PartsFault d c bs f → remaining_of f ≤ length bs
  parts_within (faults.PartsFault.first_part h) = part_within h
  parts_within (faults.PartsFault.later_part body p {rest = rest} goes h deep l) = omega (arith, length-append body rest, parts_within l)

  part_within : {d : ℕ} {bs : Text} {f : Fault} → PartFault d bs f → remaining_of f ≤ length bs
  part_within (faults.PartFault.open_name h) = omega arith
  part_within (faults.PartFault.bad_character some h) = omega arith
  part_within faults.PartFault.bracket_too_deep = omega arith
  part_within (faults.PartFault.in_bracket h) = omega (arith, commands_within h)
  part_within (faults.PartFault.open_bracket s h less) = omega arith
  part_within (faults.PartFault.index_too_deep name bs h) = omega arith
  part_within (faults.PartFault.in_index name bs h k) = omega (arith, length-append name (40 ∷ bs), parts_within k)
  part_within (faults.PartFault.open_index name bs ps h k less) = omega (arith, length-append name (40 ∷ bs))

pub within : (d : ℕ) (bs : Text) (f : Fault) → whole_script d bs ≡ Err f → remaining_of f ≤ length bs
within d bs f h = commands_within (faulty d bs f h)

-- The answer of a whole text

module _ (bs : Text) where
  pub tree_is : (s : Commands) → script_of bs ≡ Ok s → IsWithin bs s
  tree_is s h =
      let v = whole.value_is (whole_script max_nesting) bs s h in
      let k = sound max_nesting bs s v.0 in
      (k.0, k.1, v.1)

  pub tree_met : (s : Commands) → IsWithin bs s → script_of bs ≡ Ok s
  tree_met s h = whole.value_met (whole_script max_nesting) bs s h.2 (complete max_nesting bs s h.0 h.1)

  pub fault_is : (f : TextFault) → script_of bs ≡ Err f → IsTextFault bs f × (f ≢ OutOfMemory)
  fault_is f h = whole.fault_is (whole_script max_nesting) (IsFault max_nesting) (faulty max_nesting) (met max_nesting) (within max_nesting) bs f h

  pub fault_met : (f : TextFault) → f ≢ OutOfMemory → IsTextFault bs f → script_of bs ≡ Err f
  fault_met f some h = whole.fault_met (whole_script max_nesting) (IsFault max_nesting) (faulty max_nesting) (met max_nesting) (within max_nesting) bs f some h

-- a text with a fault has no tree within the limits, and one fault
pub fault_excludes : (bs : Text) (f : TextFault) (s : Commands) → f ≢ OutOfMemory → IsTextFault bs f → IsWithin bs s → ⊥
fault_excludes bs f s some h k = err_ok s f (sym (fault_met bs f some h) ∙ tree_met bs s k)

pub fault_unique : (bs : Text) (f g : TextFault) → f ≢ OutOfMemory → g ≢ OutOfMemory → IsTextFault bs f → IsTextFault bs g → f ≡ g
fault_unique bs f g x y h k = err_same {A = Commands} f g (sym (fault_met bs f x h) ∙ fault_met bs g y k)

-- The clauses of a function that returns the tree, seen by view, or a fault

module _ {X : Type 0} (view : X → Commands) (bs : Text) where
  pub reads_found : (r : Result X TextFault) → Reads view r (script_of bs) → IfOk r (λ x. IsWithin bs (view x))
  reads_found r h = whole.reads_found (whole_script max_nesting) view bs (IsWithin bs) (tree_is bs) r h

  pub reads_only : (r : Result X TextFault) → Reads view r (script_of bs) → (s : Commands) → IsWithin bs s → MatchResult r (λ t. view t ≡ s) (λ e. e ≡ OutOfMemory)
  reads_only r h s is = whole.reads_only (whole_script max_nesting) view bs r h s (tree_met bs s is)

  pub reads_fault : (r : Result X TextFault) → Reads view r (script_of bs) → IfErr r (IsTextFault bs)
  reads_fault r h = whole.reads_fault (whole_script max_nesting) (IsFault max_nesting) (faulty max_nesting) (met max_nesting) (within max_nesting) view bs r h
