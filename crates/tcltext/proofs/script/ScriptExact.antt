-- Commands and scripts are read exactly.
use Rattle.std.proofs.Common.{◌≡◌, ℕ, zero, suc, ◌+◌, ◌-◌, ◌<◌, ◌≤◌, List, [], ◌∷◌, ◌++◌, length, take, Bool, true}
use Rattle.std.proofs.Common.{false, not, ◌||◌, ◌&&◌, ◌==◌, Ok, Err, refl, sym, ap, ap₂, subst, ◌∙◌, arith}
use Rattle.std.proofs.Common.{append_assoc, length-append, inl, inr}
use Rattle.std.proofs.lemmas.Bool.Decides.{nat_tests}
use Rattle.std.proofs.Math.Seq.{take-append_seam}
use Rattle.tcltext.specs.chars.Runs.{Text}
use Rattle.tcltext.specs.chars.Bytes.{hash, is_blank, is_end, is_gap, DoesBegin}
use Rattle.tcltext.specs.chars.Reading.{◌>>=◌, Read, read_map, items_at}
use Rattle.tcltext.specs.declared.chars.fault.Fault.{Fault}
use Rattle.tcltext.proofs.chars.Results.{bind_err, bind_ok, read_map_err, read_map_ok}
use Rattle.tcltext.specs.script.ScanState.{Blanks, Gap, scan, skip_blanks, skip_gap}
use Rattle.tcltext.specs.script.Tree.{Commands, no_commands, command, Command, Words, no_words, word, Word, words_of}
use Rattle.tcltext.specs.script.Tree.{commands_of, nesting, words_nesting}
use Rattle.tcltext.specs.script.Ends.{script_ends, command_ends, word_ends}
use Rattle.tcltext.specs.script.Grammar.{IsBlanks, IsGap, IsCommands, IsCommand, IsWords, IsWord}
use Rattle.tcltext.specs.script.Faults as faults
use Rattle.tcltext.specs.script.Faults.{CommandsFault, CommandFault, WordsFault, WordFault}
use Rattle.tcltext.specs.script.Reading.{Inner, word_at, taken, words_at, command_at, command_in, script_with}
use Rattle.tcltext.proofs.script.PassedOver.{pass_whole, begins_line, NoBlank, blanks_taken, blanks_over, blanks_stay, NoGap}
use Rattle.tcltext.proofs.script.PassedOver.{gap_taken, gap_over, gap_stay}
use Rattle.tcltext.proofs.script.Exact.{Took, Exact, Items, items-end, items-more, items-fail, items_sound, items_faulty}
use Rattle.tcltext.proofs.script.Marks.{true_false, not_true}
use Rattle.tcltext.proofs.script.Dollars.{Anywhere, IsExactInner}
use Rattle.tcltext.proofs.script.WordsExact.{WordGoesOn, WordIs, word_exact, word_goes_on, word_fault_goes_on, word_some}

-- What follows blanks and gaps

word_here : (nested : Bool) (b : ℕ) (bs : Text) → is_blank b ≡ false → begins_line b bs ≡ false → (is_end b || (nested && b == 93)) ≡ false → word_ends nested (b ∷ bs) ≡ false
word_here true b bs h k l = grind (arith, nat_tests)
word_here false b bs h k l = grind (arith, nat_tests)

words_begin : (nested : Bool) (bs : Text) → NoBlank bs → command_ends nested bs ≡ false → word_ends nested bs ≡ false
words_begin nested [] h k = absurd (true_false (sym k))
words_begin nested (b ∷ bs) h k = word_here nested b bs h.0 h.1 k

no_blank_byte : (nested : Bool) (b : ℕ) (bs : Text) → word_ends nested (b ∷ bs) ≡ false → (is_blank b ≡ false) × (begins_line b bs ≡ false) × ((is_end b || (nested && b == 93)) ≡ false)
no_blank_byte true b bs h = (grind (arith, nat_tests), grind (arith, nat_tests), grind (arith, nat_tests))
no_blank_byte false b bs h = (grind (arith, nat_tests), grind (arith, nat_tests), grind (arith, nat_tests))

no_blank : (nested : Bool) (bs : Text) → word_ends nested bs ≡ false → NoBlank bs × (command_ends nested bs ≡ false)
no_blank nested [] h = absurd (true_false (sym h))
no_blank nested (b ∷ bs) h = let k = no_blank_byte nested b bs h in ((k.0, k.1), k.2)

end_byte : (nested : Bool) (b : ℕ) (bs : Text) → (is_end b || (nested && b == 93)) ≡ true → (is_blank b ≡ false) × (begins_line b bs ≡ false)
end_byte true b bs h = (grind (arith, nat_tests), grind (arith, nat_tests))
end_byte false b bs h = (grind (arith, nat_tests), grind (arith, nat_tests))

no_blank_at_end : (nested : Bool) (r : Text) → command_ends nested r ≡ true → NoBlank r
no_blank_at_end nested [] h = tt
no_blank_at_end nested (b ∷ r) h = end_byte nested b r h

abbrev pub NoComment : Text → Type 0
NoComment bs = DoesBegin (λ b. not (b == hash)) bs

command_here : (nested : Bool) (b : ℕ) (bs : Text) → (is_gap b || begins_line b bs) ≡ false → (nested && b == 93) ≡ false → word_ends nested (b ∷ bs) ≡ false
command_here true b bs h k = grind (arith, nat_tests)
command_here false b bs h k = grind (arith, nat_tests)

commands_begin : (nested : Bool) (bs : Text) → NoGap bs → script_ends nested bs ≡ false → (word_ends nested bs ≡ false) × NoComment bs
commands_begin nested [] h k = absurd (true_false (sym k))
commands_begin nested (b ∷ bs) h k = (command_here nested b bs h.0 k, ap not h.1)

no_gap_byte : (nested : Bool) (b : ℕ) (bs : Text) → word_ends nested (b ∷ bs) ≡ false → ((is_gap b || begins_line b bs) ≡ false) × ((nested && b == 93) ≡ false)
no_gap_byte true b bs h = (grind (arith, nat_tests), grind (arith, nat_tests))
no_gap_byte false b bs h = (grind (arith, nat_tests), refl)

no_gap : (nested : Bool) (bs : Text) → word_ends nested bs ≡ false → NoComment bs → NoGap bs × (script_ends nested bs ≡ false)
no_gap nested [] h k = absurd k
no_gap nested (b ∷ bs) h k = let z = no_gap_byte nested b bs h in ((z.0, not_true (b == hash) k), z.1)

close_byte : (nested : Bool) (b : ℕ) (bs : Text) → (nested && b == 93) ≡ true → ((is_gap b || begins_line b bs) ≡ false) × ((b == hash) ≡ false)
close_byte true b bs h = (grind (arith, nat_tests), grind (arith, nat_tests))
close_byte false b bs h = absurd (true_false h)

no_gap_at_end : (nested : Bool) (r : Text) → script_ends nested r ≡ true → NoGap r
no_gap_at_end nested [] h = tt
no_gap_at_end nested (b ∷ r) h = close_byte nested b r h

-- the source of what was taken
taken_is : (t r : Text) → taken (t ++ r) r ≡ t
taken_is t r = let n : length (t ++ r) - length r ≡ length t = omega (arith, length-append t r) in ap (λ n. take n (t ++ r)) n ∙ take-append_seam t r

begun : (t r : Text) → NoComment (t ++ r) → 0 < length t → NoComment t
begun [] r h less = absurd (omega arith)
begun (b ∷ t) r h less = h

more_begun : (t r : Text) → NoComment t → NoComment (t ++ r)
more_begun [] r h = absurd h
more_begun (b ∷ t) r h = h

front_some : (t r : Text) → NoComment t → 0 < length t
front_some [] r h = absurd h
front_some (b ∷ t) r h = omega arith

module _ (d : ℕ) (inner : Inner) (exact : IsExactInner d inner) (nested : Bool) where
  abbrev Goes : Text → Type 0
  Goes = WordGoesOn d inner exact nested

  abbrev TheWord : Word → Text → Text → Type 0
  TheWord = WordIs d inner exact nested

  -- More words of a command

  abbrev IsBlanksBefore : Text → Text → Type 0
  IsBlanksBefore gap start = IsBlanks gap

  word_items : Items skip_blanks (command_ends nested) (word_at nested inner) IsBlanksBefore Goes TheWord (WordFault d nested)
  word_items = record {
    exact = word_exact d inner exact nested;
    skips = λ bs. ((scan Blanks bs).0, pass_whole Blanks bs, (blanks_taken bs).0);
    over = λ gap start h. blanks_over h start;
    begins = λ bs h. words_begin nested (skip_blanks bs) (blanks_taken bs).1 h;
    stays = λ start h. (let k = no_blank nested start h in (blanks_stay start k.0, k.1));
    stops = λ r h. blanks_stay r (no_blank_at_end nested r h);
    good = λ w t r h. word_goes_on nested w t r h.0;
    bad = λ bs f h. word_fault_goes_on h;
    some = λ w t r h. word_some nested w t r h.0;
  }

  abbrev pub WordsAre : Words → Text → Text → Type 0
  WordsAre ws t r = IsWords nested ws t r × (words_nesting ws ≤ d)

  abbrev read : ℕ → Text → Read (List Word)
  read n bs = items_at skip_blanks (command_ends nested) (word_at nested inner) n bs

  nil : (gap r : Text) → IsBlanksBefore gap r → command_ends nested r ≡ true → WordsAre (words_of []) gap r
  nil gap r h e = ((h, e), omega arith)

  cons : (gap body rest r : Text) (w : Word) (ws : List Word) → IsBlanksBefore gap ((body ++ rest) ++ r)
      → TheWord w body (rest ++ r) → WordsAre (words_of ws) rest r
      → WordsAre (words_of (w ∷ ws)) (gap ++ (body ++ rest)) r
  cons gap body rest r w ws h k l = (
    record { first = gap; second = body ++ rest; whole = refl; is_first = h; is_second = record { first = body; second = rest; whole = refl; is_first = k.0; is_second = l.0 } },
    omega (arith, k.1, l.1),
  )

  here : (gap body : Text) (f : Fault) → IsBlanksBefore gap body → WordFault d nested body f → WordsFault d nested (gap ++ body) f
  here gap body f h k = faults.WordsFault.next_word gap h k

  later : (gap body rest : Text) (w : Word) (f : Fault) → IsBlanksBefore gap (body ++ rest) → TheWord w body rest → WordsFault d nested rest f → WordsFault d nested (gap ++ (body ++ rest)) f
  later gap body rest w f h k l = faults.WordsFault.word_after gap body w h k.0 k.1 l

  words_sound : (bs : Text) (ws : List Word) (r : Text) → words_at nested inner bs ≡ Ok (ws, r) → Took (λ ws t r. WordsAre (words_of ws) t r) bs ws r
  words_sound bs ws r h = items_sound skip_blanks (command_ends nested) (word_at nested inner) IsBlanksBefore Goes
      TheWord (WordFault d nested) word_items (λ ws t r. WordsAre (words_of ws) t r) nil cons (suc (length bs)) bs ws r
      h

  words_faulty : (bs : Text) (f : Fault) → words_at nested inner bs ≡ Err f → WordsFault d nested bs f
  words_faulty bs f h = items_faulty skip_blanks (command_ends nested) (word_at nested inner) IsBlanksBefore Goes
      TheWord (WordFault d nested) word_items (WordsFault d nested) here later (suc (length bs)) bs f (omega arith) h

  words_list : (ws : Words) (t r : Text) (n : ℕ) → IsWords nested ws t r → words_nesting ws ≤ d → length (t ++ r) < n → (xs : List Word) × (read n (t ++ r) ≡ Ok (xs, r)) × (words_of xs ≡ ws)
  words_list ws t r zero h deep less = absurd (omega arith)
  words_list no_words t r (suc n) h deep less = ([], items-end skip_blanks (command_ends nested) (word_at nested inner) IsBlanksBefore Goes TheWord (WordFault d nested) word_items n t r h.0 h.1, refl)
  words_list (word w ws) t r (suc n) h deep less =
      let gap = h.first in
      let body = h.is_second.first in
      let rest = h.is_second.second in
      let is : TheWord w body (rest ++ r) = (h.is_second.is_first, omega (arith, deep)) in
      let whole : t ++ r ≡ gap ++ (body ++ (rest ++ r)) = ap (λ xs. xs ++ r)
      (h.whole ∙ ap (λ xs. gap ++ xs) h.is_second.whole) ∙ append_assoc gap (body ++ rest) r
      ∙ ap (λ xs. gap ++ xs) (append_assoc body rest r) in
      let some = word_some nested w body (rest ++ r) h.is_second.is_first in
      let k = words_list ws rest r n h.is_second.is_second (omega (arith, deep)) (omega (arith, ap length whole, length-append gap (body ++ (rest ++ r)), length-append body (rest ++ r))) in (
        w ∷ k.0,
        ap (read (suc n)) whole ∙ items-more skip_blanks (command_ends nested) (word_at nested inner) IsBlanksBefore
            Goes TheWord (WordFault d nested) word_items n gap body (rest ++ r) w h.is_first is
            ∙ ap (read_map (λ xs. w ∷ xs)) k.1,
        ap (word w) k.2,
      )

  words_met : {bs : Text} {f : Fault} → WordsFault d nested bs f → (n : ℕ) → length bs < n → read n bs ≡ Err f
  words_met h zero less = absurd (omega arith)
  words_met (faults.WordsFault.next_word gap {body = body} {f = f} h k) (suc n) less = items-fail skip_blanks
      (command_ends nested) (word_at nested inner) IsBlanksBefore Goes TheWord (WordFault d nested) word_items n gap
      body f h k
  words_met (faults.WordsFault.word_after gap body w {rest = rest} {f = f} h k deep l) (suc n) less =
      let some = word_some nested w body rest k in
      items-more skip_blanks (command_ends nested) (word_at nested inner) IsBlanksBefore Goes TheWord (WordFault d nested) word_items n gap body rest w h (k, deep)
      ∙ ap (read_map (λ xs. w ∷ xs)) (words_met l n (omega (arith, length-append gap (body ++ rest), length-append body rest)))

  abbrev CommandGoesOn : Text → Type 0
  CommandGoesOn bs = Goes bs × NoComment bs

  abbrev CommandBad : Text → Fault → Type 0
  CommandBad bs f = CommandFault d nested bs f × NoComment bs

  fault_goes_on : {bs : Text} {f : Fault} → CommandFault d nested bs f → word_ends nested bs ≡ false
  fault_goes_on (faults.CommandFault.first_word h) = word_fault_goes_on h
  fault_goes_on (faults.CommandFault.later_word body w {rest = rest} h deep l) = word_goes_on nested w body rest h

  commands_here : (gap body : Text) (f : Fault) → IsGap gap body → CommandBad body f → CommandsFault d nested (gap ++ body) f
  commands_here gap body f h k = faults.CommandsFault.first_command gap h k.1 k.0

  -- Commands of a script that has so many bytes, with what follows it
  module _ (total : ℕ) where
    -- A command

    abbrev pub CommandIs : Command → Text → Text → Type 0
    CommandIs c t r = NoComment t × IsCommand nested c.source c.words t r × (words_nesting c.words ≤ d) × (c.offset ≡ total - length (t ++ r))

    abbrev more_words : Text → Word × Text → Read Command
    more_words bs w = read_map (λ ws. record { offset = total - length bs; source = taken bs w.1; words = word w.0 (words_of ws) }) (words_at nested inner w.1)

    command_sound : (bs : Text) (c : Command) (r : Text) → CommandGoesOn bs → command_in total nested inner bs ≡ Ok (c, r) → Took CommandIs bs c r
    unfolding command_at
    command_sound bs c r b h =
        let x = bind_ok (word_at nested inner bs) (more_words bs) (c, r) h in
        let y = read_map_ok (λ ws. record { offset = total - length bs; source = taken bs x.0.1; words = word x.0.0 (words_of ws) }) (words_at nested inner x.0.1) c r x.2 in
        let w = (word_exact d inner exact nested).sound bs x.0.0 x.0.1 b.0 x.1 in
        let m = words_sound x.0.1 y.0 r y.1 in
        let whole : bs ≡ (w.taken ++ m.taken) ++ r = w.whole ∙ ap (λ ys. w.taken ++ ys) m.whole ∙ sym (append_assoc w.taken m.taken r) in
        let some = word_some nested x.0.0 w.taken x.0.1 w.is.0 in
        let source : taken bs x.0.1 ≡ w.taken = ap (λ xs. taken xs x.0.1) w.whole ∙ taken_is w.taken x.0.1 in
        let made : Took CommandIs bs (record { offset = total - length bs; source = w.taken; words = word x.0.0 (words_of y.0) }) r = record {
          taken = w.taken ++ m.taken;
          whole = whole;
          is = (
            more_begun w.taken m.taken (begun w.taken x.0.1 (subst NoComment w.whole b.1) some),
            (m.taken, refl, subst (λ ys. IsWord nested x.0.0 w.taken ys) m.whole w.is.0, m.is.0),
            omega (arith, w.is.1, m.is.1),
            ap (λ ys. total - length ys) whole,
          );
        } in
        let named : Text → Command = λ s. record { offset = total - length bs; source = s; words = word x.0.0 (words_of y.0) } in
        subst (λ c. Took CommandIs bs c r) (ap named (sym source) ∙ y.2) made

    command_faulty : (bs : Text) (f : Fault) → CommandGoesOn bs → command_in total nested inner bs ≡ Err f → CommandBad bs f
    unfolding command_at
    command_faulty bs f b h = elim (bind_err (word_at nested inner bs) (more_words bs) f h) [
      | inl bad ↦ (faults.CommandFault.first_word ((word_exact d inner exact nested).faulty bs f b.0 bad), b.1)
      | inr k ↦ (
          let w = (word_exact d inner exact nested).sound bs k.0.0 k.0.1 b.0 k.1 in
          let bad = words_faulty k.0.1 f (read_map_err (λ ws. let c : Command = record
          { offset = total - length bs; source = taken bs k.0.1; words = word k.0.0 (words_of ws) } in c)
          (words_at nested inner k.0.1) f k.2) in
          (subst (λ xs. CommandFault d nested xs f) (sym w.whole) (faults.CommandFault.later_word w.taken k.0.0 w.is.0 w.is.1 bad), b.1)
          )
    ]

    command_again : (c : Command) (t r : Text) → CommandIs c t r → command_in total nested inner (t ++ r) ≡ Ok (c, r)
    unfolding command_at
    command_again c t r h = named c.source c.words h where
      named : (source : Text) (ws : Words) → CommandIs (record { offset = c.offset; source = source; words = ws }) t r
          → command_in total nested inner (t ++ r) ≡ Ok (record { offset = c.offset; source = source; words = ws }, r)
      named source no_words h = absurd h.1
      named source (word w ws) h =
          let rest = h.1.0 in
          let whole : t ++ r ≡ source ++ (rest ++ r) = ap (λ xs. xs ++ r) h.1.1 ∙ append_assoc source rest r in
          let first = (word_exact d inner exact nested).again w source (rest ++ r) (h.1.2, omega (arith, h.2)) in
          let k = words_list ws rest r (suc (length (rest ++ r))) h.1.3 (omega (arith, h.2)) (omega arith) in
          let at : total - length (source ++ (rest ++ r)) ≡ c.offset = ap (λ ys. total - length ys) (sym whole) ∙ sym h.3 in
          let made : ℕ → Text → Words → Read Command = λ offset s ws. Ok (record { offset = offset; source = s; words = word w ws }, r) in
          ap (λ (xs : Text). word_at nested inner xs >>= more_words xs) whole
          ∙ ap (λ (x : Read Word). x >>= more_words (source ++ (rest ++ r))) first
          ∙ ap (λ (x : Read (List Word)). read_map (λ ws. let c : Command = record {
            offset = total - length (source ++ (rest ++ r));
            source = taken (source ++ (rest ++ r)) (rest ++ r);
            words = word w (words_of ws);
          } in c) x) k.1
          ∙ ap₂ (λ (s : Text) (ws : Words). made (total - length (source ++ (rest ++ r))) s ws) (taken_is source (rest ++ r)) k.2
          ∙ ap (λ (n : ℕ). made n source ws) at

    command_met : (bs : Text) (f : Fault) → CommandFault d nested bs f → command_in total nested inner bs ≡ Err f
    unfolding command_at
    command_met bs f (faults.CommandFault.first_word h) = ap (λ (x : Read Word). x >>= more_words bs) ((word_exact d inner exact nested).met bs f h)
    command_met _ f (faults.CommandFault.later_word body w {rest = rest} h deep l) =
        ap (λ (x : Read Word). x >>= more_words (body ++ rest)) ((word_exact d inner exact nested).again w body rest (h, deep))
        ∙ ap (λ (x : Read (List Word)). read_map (λ ws. let c : Command = record
        { offset = total - length (body ++ rest); source = taken (body ++ rest) rest; words = word w (words_of ws) }
        in c) x) (words_met l (suc (length rest)) (omega arith))

    command_exact : Exact (command_in total nested inner) CommandGoesOn CommandIs CommandBad
    command_exact = record { sound = command_sound; again = command_again; faulty = command_faulty; met = λ bs f h. command_met bs f h.0 }

    -- Commands

    command_goes_on : (c : Command) (t r : Text) → CommandIs c t r → CommandGoesOn (t ++ r)
    command_goes_on c t r h = (goes c.source c.words h.1, more_begun t r h.0) where
      goes : (source : Text) (ws : Words) → IsCommand nested source ws t r → word_ends nested (t ++ r) ≡ false
      goes source no_words k = absurd k
      goes source (word w ws) k = ap (word_ends nested) (ap (λ xs. xs ++ r) k.1 ∙ append_assoc source k.0 r) ∙ word_goes_on nested w source (k.0 ++ r) k.2

    command_items : Items skip_gap (script_ends nested) (command_in total nested inner) IsGap CommandGoesOn CommandIs CommandBad
    command_items = record {
      exact = command_exact;
      skips = λ bs. ((scan Gap bs).0, pass_whole Gap bs, (gap_taken bs).0);
      over = λ gap start h. gap_over h;
      begins = λ bs h. commands_begin nested (skip_gap bs) (gap_taken bs).1 h;
      stays = λ start h. (let k = no_gap nested start h.0 h.1 in (gap_stay start k.0, k.1));
      stops = λ r h. gap_stay r (no_gap_at_end nested r h);
      good = command_goes_on;
      bad = λ bs f h. (fault_goes_on h.0, h.1);
      some = λ c t r h. front_some t r h.0;
    }

    abbrev CommandsIn : Commands → Text → Text → Type 0
    CommandsIn s t r = (length (t ++ r) ≤ total → IsCommands (total - length r) nested s t r) × (nesting s ≤ d)

    abbrev read_commands : ℕ → Text → Read (List Command)
    read_commands n bs = items_at skip_gap (script_ends nested) (command_in total nested inner) n bs

    commands_nil : (gap r : Text) → IsGap gap r → script_ends nested r ≡ true → CommandsIn (commands_of []) gap r
    commands_nil gap r h e = ((λ fits. (h, e)), omega arith)

    commands_cons : (gap body rest r : Text) (c : Command) (cs : List Command) → IsGap gap ((body ++ rest) ++ r) → CommandIs c body (rest ++ r) → CommandsIn (commands_of cs) rest r
        → CommandsIn (commands_of (c ∷ cs)) (gap ++ (body ++ rest)) r
    commands_cons gap body rest r c cs h k l = (
      (λ fits.
          let all : length ((gap ++ (body ++ rest)) ++ r) ≡ length gap + (length body + (length rest + length r)) =
          omega (
            arith,
            length-append (gap ++ (body ++ rest)) r,
            length-append gap (body ++ rest),
            length-append
                body rest,
          ) in
          let after : length (body ++ (rest ++ r)) ≡ length body + (length rest + length r) = omega (arith, length-append body (rest ++ r), length-append rest r) in
          record {
            first = gap;
            second = body ++ rest;
            whole = refl;
            is_first = (h, omega (arith, k.3, fits, all, after, length-append body rest));
            is_second = record { first = body; second = rest; whole = refl; is_first = (k.0, k.1); is_second = l.0 (omega (arith, fits, all, length-append rest r)) };
          }),
      omega (arith, k.2, l.1),
    )

    commands_later : (gap body rest : Text) (c : Command) (f : Fault) → IsGap gap (body ++ rest) → CommandIs c body rest
        → CommandsFault d nested rest f → CommandsFault d nested (gap ++ (body ++ rest)) f
    commands_later gap body rest c f h k l = faults.CommandsFault.later_command gap c.source body c.words h k.0 k.1 k.2 l

  abbrev pub CommandsAre : Commands → Text → Text → Type 0
  CommandsAre s t r = IsCommands (length t) nested s t r × (nesting s ≤ d)

  size_left : (t r : Text) → length (t ++ r) - length r ≡ length t
  size_left t r = omega (arith, length-append t r)

  script_sound : (bs : Text) (s : Commands) (r : Text) → Anywhere bs → script_with nested inner bs ≡ Ok (s, r) → Took CommandsAre bs s r
  unfolding script_with
  script_sound bs s r b h =
      let x = read_map_ok commands_of (read_commands (length bs) (suc (length bs)) bs) s r h in
      let t = items_sound skip_gap (script_ends nested) (command_in (length bs) nested inner) IsGap CommandGoesOn
      (CommandIs (length bs)) CommandBad (command_items (length bs))
      (λ cs t r. CommandsIn (length bs) (commands_of cs) t r)
      (commands_nil (length bs)) (commands_cons (length bs)) (suc (length bs)) bs x.0 r x.1
      in
      let long : length (t.taken ++ r) ≡ length bs = ap length (sym t.whole) in
      let remaining : length bs - length r ≡ length t.taken = ap (λ n. n - length r) (sym long) ∙ size_left t.taken r in
      let is : IsCommands (length t.taken) nested (commands_of x.0) t.taken r = subst (λ n. IsCommands n nested (commands_of x.0) t.taken r) remaining (t.is.0 (omega (arith, long))) in
      subst (λ s. Took CommandsAre bs s r) x.2 (record { taken = t.taken; whole = t.whole; is = (is, t.is.1) })

  script_faulty : (bs : Text) (f : Fault) → Anywhere bs → script_with nested inner bs ≡ Err f → CommandsFault d nested bs f
  unfolding script_with
  script_faulty bs f b h =
      items_faulty skip_gap (script_ends nested) (command_in (length bs) nested inner) IsGap CommandGoesOn
      (CommandIs (length bs)) CommandBad (command_items (length bs)) (CommandsFault d nested) commands_here
      (commands_later (length bs)) (suc (length bs)) bs f (omega arith)
      (read_map_err commands_of (read_commands (length bs) (suc (length bs)) bs) f h)

  commands_list : (total size : ℕ) (s : Commands) (t r : Text) (n : ℕ) → total ≡ size + length r
      → IsCommands size nested s t r → nesting s ≤ d → length (t ++ r) < n → (xs : List Command)
      × (read_commands total n (t ++ r) ≡ Ok (xs, r)) × (commands_of xs ≡ s)
  commands_list total size s t r zero all h deep less = absurd (omega arith)
  commands_list total size no_commands t r (suc n) all h deep less = (
    [],
    items-end skip_gap (script_ends nested) (command_in total nested inner) IsGap CommandGoesOn (CommandIs total)
        CommandBad (command_items total) n t r h.0 h.1,
    refl,
  )
  commands_list total size (command offset source ws cs) t r (suc n) all h deep less =
      let gap = h.first in
      let body = h.is_second.first in
      let rest = h.is_second.second in
      let c : Command = record { offset = offset; source = source; words = ws } in
      let regrouped : (body ++ rest) ++ r ≡ body ++ (rest ++ r) = append_assoc body rest r in
      let from : length (body ++ (rest ++ r)) ≡ length h.second + length r = ap length (sym regrouped) ∙ length-append (body ++ rest) r ∙ ap (λ ys. length ys + length r) (sym h.is_second.whole) in
      let is : CommandIs total c body (rest ++ r) = (h.is_second.is_first.0, h.is_second.is_first.1, omega (arith, deep), omega (arith, from, all, h.is_first.1)) in
      let whole : t ++ r ≡ gap ++ (body ++ (rest ++ r)) = ap (λ xs. xs ++ r) (h.whole ∙ ap (λ xs. gap ++ xs) h.is_second.whole) ∙ append_assoc gap (body ++ rest) r ∙ ap (λ xs. gap ++ xs) regrouped in
      let some = front_some body rest h.is_second.is_first.0 in
      let passed : IsGap gap (body ++ (rest ++ r)) = subst (IsGap gap) (ap (λ xs. xs ++ r) h.is_second.whole ∙ regrouped) h.is_first.0 in
      let k = commands_list total size cs rest r n all h.is_second.is_second (omega (arith, deep))
      (omega (arith, ap length whole, length-append gap (body ++ (rest ++ r)), length-append body (rest ++ r))) in (
        c ∷ k.0,
        ap (read_commands total (suc n)) whole ∙ items-more skip_gap (script_ends nested)
            (command_in total nested inner) IsGap CommandGoesOn (CommandIs total) CommandBad (command_items total) n gap
            body (rest ++ r) c passed is ∙ ap (read_map (λ xs. c ∷ xs)) k.1,
        ap (command offset source ws) k.2,
      )

  script_again : (s : Commands) (t r : Text) → CommandsAre s t r → script_with nested inner (t ++ r) ≡ Ok (s, r)
  unfolding script_with
  script_again s t r h =
      let k = commands_list (length (t ++ r)) (length t) s t r (suc (length (t ++ r))) (length-append t r) h.0 h.1 (omega arith) in
      ap (read_map commands_of) k.1 ∙ ap (λ s. let found : Read Commands = Ok (s, r) in found) k.2

  commands_met : (total : ℕ) {bs : Text} {f : Fault} → CommandsFault d nested bs f → (n : ℕ) → length bs < n → read_commands total n bs ≡ Err f
  commands_met total h zero less = absurd (omega arith)
  commands_met total (faults.CommandsFault.first_command gap {body = body} {f = f} h free k) (suc n) less =
      items-fail skip_gap (script_ends nested) (command_in total nested inner) IsGap CommandGoesOn (CommandIs total) CommandBad (command_items total) n gap body f h (k, free)
  commands_met total (faults.CommandsFault.later_command gap source body ws {rest = rest} {f = f} h free k deep l) (suc n) less =
      let some = front_some body rest free in
      let c : Command = record { offset = total - length (body ++ rest); source = source; words = ws } in
      items-more skip_gap (script_ends nested) (command_in total nested inner) IsGap CommandGoesOn (CommandIs total) CommandBad (command_items total) n gap body rest c h (free, k, deep, refl)
      ∙ ap (read_map (λ xs. c ∷ xs)) (commands_met total l n (omega (arith, length-append gap (body ++ rest), length-append body rest)))

  script_met : (bs : Text) (f : Fault) → CommandsFault d nested bs f → script_with nested inner bs ≡ Err f
  unfolding script_with
  script_met bs f h = ap (read_map commands_of) (commands_met (length bs) h (suc (length bs)) (omega arith))

  pub script_exact : Exact (script_with nested inner) Anywhere CommandsAre (CommandsFault d nested)
  script_exact = record { sound = script_sound; again = script_again; faulty = script_faulty; met = script_met }
