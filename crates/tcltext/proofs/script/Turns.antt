-- The turns of the loops that read scripts, commands and parts.
use Rattle.std.proofs.Common.{◌≡◌, ℕ, ◌-◌, ◌<◌, ◌≤◌, List, [], ◌∷◌, ◌++◌, length, Bool, true, false, Ok, refl, sym, ap}
use Rattle.std.proofs.Common.{ap₂, subst, ◌∙◌, arith}
use Rattle.tcltext.specs.chars.Runs.{Text}
use Rattle.tcltext.specs.declared.chars.fault.ReadError.{ReadError}
use Rattle.tcltext.specs.declared.chars.fault.ReadError.TheVariants as errors
use Rattle.tcltext.specs.chars.Reading.{Fails, Read, read_map, ◌>>=◌}
use Rattle.tcltext.specs.declared.script.context.Context.{Context}
use Rattle.tcltext.specs.script.Pieces.{IsSuffixOf}
use Rattle.tcltext.specs.script.Tree.{Command, word, Word, Part, parts_of, words_of, commands_of}
use Rattle.tcltext.specs.script.Ends.{script_ends, command_ends, word_ends, parts_end}
use Rattle.tcltext.specs.script.ScanState.{skip_blanks, skip_gap}
use Rattle.tcltext.specs.script.Reading.{part_at, parts_with, word_at, taken, words_at, command_at, command_in, script_with}
use Rattle.tcltext.specs.script.Reading.{inner_at}
use Rattle.tcltext.proofs.script.Ends.{end_through, end_no_longer, IsBehind}
use Rattle.tcltext.proofs.script.Readers.{leaves_read, part_behind, word_behind, word_leaves, command_behind, blanks_end}
use Rattle.tcltext.proofs.script.Readers.{gap_end, inner_leaves}
use Rattle.tcltext.proofs.script.Going.{word_follows, command_follows}
use Rattle.tcltext.proofs.script.Loops.{SoFar, so_far-none, so_far-more, so_far-end, so_far-fail}

-- what is behind a later text is behind this one
pub behind_later : (rest start after : Text) → IsSuffixOf rest start → IsBehind start after → IsBehind rest after
behind_later rest start after e b =
    let here : length start ≤ length rest = end_no_longer rest start e in
    let less : length after < length start = b.1 in
    (end_through rest start after e b.0, omega arith)

module _ (nested : Bool) (d : ℕ) where
  -- Scripts

  abbrev pub CommandsSoFar : Text → List Command → Text → Type 0
  CommandsSoFar bs = SoFar skip_gap (script_ends nested) (command_in (length bs) nested (inner_at d)) bs

  pub script-end : (bs : Text) (found : List Command) (rest start : Text) → start ≡ skip_gap rest → script_ends nested start ≡ true → CommandsSoFar bs found rest
      → script_with nested (inner_at d) bs ≡ Ok (commands_of found, start)
  unfolding script_with
  script-end bs found rest start is e s = ap (read_map commands_of) (so_far-end skip_gap (script_ends nested) (command_in (length bs) nested (inner_at d)) bs found rest start is e s)

  pub script-fails : (bs : Text) (found : List Command) (rest start : Text) (e : ReadError) → start ≡ skip_gap rest
      → script_ends nested start ≡ false → Fails e (command_in (length bs) nested (inner_at d) start)
      → CommandsSoFar bs found rest → Fails e (script_with nested (inner_at d) bs)
  unfolding script_with
  script-fails bs found rest start errors.Memory is e was s = tt
  script-fails bs found rest start (errors.Fault f) is e was s = ap (read_map commands_of)
      (so_far-fail skip_gap (script_ends nested) (command_in (length bs) nested (inner_at d)) bs found rest start f is e
      was s)

  pub script-following : (offset : ℕ) (rest start : Text) (c : Command) (after : Text) → start ≡ skip_gap rest
      → script_ends nested start ≡ false → command_at offset nested (inner_at d) start ≡ Ok (c, after)
      → IsBehind rest after
  script-following offset rest start c after is e was =
      behind_later rest start after (subst (IsSuffixOf rest) (sym is) (gap_end (inner_at d) (inner_leaves d) nested rest))
      (leaves_read (IsBehind start) (command_at offset nested (inner_at d) start) c after
      (command_behind (inner_at d) (inner_leaves d) nested offset start
      (subst (λ ys. word_ends nested ys ≡ false) (sym is)
      (command_follows nested rest (subst (λ ys. script_ends nested ys ≡ false) is e)))) was)

  pub script-more : (bs : Text) (found found' : List Command) (rest start : Text) (c : Command) (after : Text)
      → start ≡ skip_gap rest → script_ends nested start ≡ false
      → command_in (length bs) nested (inner_at d) start ≡ Ok (c, after)
      → found' ≡ found ++ c ∷ [] → CommandsSoFar bs found rest → CommandsSoFar bs found' after
  script-more bs found found' rest start c after is e was made s =
      so_far-more skip_gap (script_ends nested) (command_in (length bs) nested (inner_at d)) bs found found' rest start
      c after is e was (script-following (length bs - length start) rest start c after is e was).1 made s

  -- Commands

  abbrev WordsAfter : Text → List Word → Text → Type 0
  WordsAfter = SoFar skip_blanks (command_ends nested) (word_at nested (inner_at d))

  -- the first word, what stands behind it, and the words found since
  pub record WordsSoFar (bs source : Text) (words : List Word) (rest : Text) : Type 0 where
    pub first : Word
    pub following : Text
    pub found : List Word
    pub was : word_at nested (inner_at d) bs ≡ Ok (first, following)
    pub named : source ≡ taken bs following
    pub made : words ≡ first ∷ found
    pub so_far : WordsAfter following found rest

  pub words-none : (bs source : Text) (w : Word) (words : List Word) (rest : Text)
      → word_at nested (inner_at d) bs ≡ Ok (w, rest) → source ≡ taken bs rest → words ≡ w ∷ []
      → WordsSoFar bs source words rest
  words-none bs source w words rest was named made = record {
    first = w;
    following = rest;
    found = [];
    was = was;
    named = named;
    made = made;
    so_far = so_far-none skip_blanks (command_ends nested) (word_at nested (inner_at d)) rest;
  }

  pub command-end : (offset : ℕ) (bs source : Text) (words : List Word) (rest start : Text) → start ≡ skip_blanks rest → command_ends nested start ≡ true → WordsSoFar bs source words rest
      → command_at offset nested (inner_at d) bs ≡ Ok (record { offset = offset; source = source; words = words_of words }, start)
  unfolding command_at
  command-end offset bs source words rest start is e s =
      ap (λ r. r >>= (λ w. read_map (λ ws. record { offset = offset; source = taken bs w.1; words = word w.0 (words_of ws) }) (words_at nested (inner_at d) w.1))) s.was
      ∙ ap (read_map (λ ws. record {
        offset = offset;
        source = taken bs s.following;
        words = word s.first (words_of ws);
      })) (so_far-end skip_blanks (command_ends nested) (word_at nested (inner_at d)) s.following s.found rest start
      is e s.so_far)
      ∙ ap₂ (λ (t : Text) (ws : List Word). let found : Read Command = Ok (record { offset = offset; source = t; words = words_of ws }, start) in found) (sym s.named) (sym s.made)

  pub command-fails : (offset : ℕ) (bs source : Text) (words : List Word) (rest start : Text) (e : ReadError)
      → start ≡ skip_blanks rest → command_ends nested start ≡ false → Fails e (word_at nested (inner_at d) start)
      → WordsSoFar bs source words rest → Fails e (command_at offset nested (inner_at d) bs)
  unfolding command_at
  command-fails offset bs source words rest start errors.Memory is e was s = tt
  command-fails offset bs source words rest start (errors.Fault f) is e was s =
      ap (λ r. r >>= (λ w. read_map (λ ws. record { offset = offset; source = taken bs w.1; words = word w.0 (words_of ws) }) (words_at nested (inner_at d) w.1))) s.was
      ∙ ap (read_map (λ ws. record {
        offset = offset;
        source = taken bs s.following;
        words = word s.first (words_of ws);
      })) (so_far-fail skip_blanks (command_ends nested) (word_at nested (inner_at d)) s.following s.found rest
      start f is e was s.so_far)

  pub first-fails : (offset : ℕ) (bs : Text) (e : ReadError) → Fails e (word_at nested (inner_at d) bs) → Fails e (command_at offset nested (inner_at d) bs)
  unfolding command_at
  first-fails offset bs errors.Memory was = tt
  first-fails offset bs (errors.Fault f) was = ap (λ r. r >>=
      (λ w. read_map (λ ws. record { offset = offset; source = taken bs w.1; words = word w.0 (words_of ws) })
      (words_at nested (inner_at d) w.1))) was

  pub first-end : (bs : Text) (w : Word) (rest : Text) → word_at nested (inner_at d) bs ≡ Ok (w, rest) → IsSuffixOf bs rest
  first-end bs w rest was = leaves_read (IsSuffixOf bs) (word_at nested (inner_at d) bs) w rest (word_leaves (inner_at d) (inner_leaves d) nested bs) was

  pub command-following : (rest start : Text) (w : Word) (after : Text) → start ≡ skip_blanks rest
      → command_ends nested start ≡ false → word_at nested (inner_at d) start ≡ Ok (w, after) → IsBehind rest after
  command-following rest start w after is e was =
      behind_later rest start after (subst (IsSuffixOf rest) (sym is) (blanks_end (inner_at d) (inner_leaves d) nested rest))
      (leaves_read (IsBehind start) (word_at nested (inner_at d) start) w after
      (word_behind (inner_at d) (inner_leaves d) nested start (subst (λ ys. word_ends nested ys ≡ false) (sym is) (word_follows nested rest (subst (λ ys. command_ends nested ys ≡ false) is e)))) was)

  pub command-more : (bs source : Text) (words words' : List Word) (rest start : Text) (w : Word) (after : Text)
      → start ≡ skip_blanks rest → command_ends nested start ≡ false → word_at nested (inner_at d) start ≡ Ok (w, after)
      → words' ≡ words ++ w ∷ [] → WordsSoFar bs source words rest → WordsSoFar bs source words' after
  command-more bs source words words' rest start w after is e was made s = record {
    first = s.first;
    following = s.following;
    found = s.found ++ w ∷ [];
    was = s.was;
    named = s.named;
    made = made ∙ ap (λ (ws : List Word). ws ++ w ∷ []) s.made;
    so_far = so_far-more skip_blanks (command_ends nested) (word_at nested (inner_at d)) s.following s.found
        (s.found ++ w ∷ []) rest start w after is e was (command-following rest start w after is e was).1 refl s.so_far;
  }

module _ (context : Context) (d : ℕ) where
  -- Parts

  abbrev pub PartsSoFar : Text → List Part → Text → Type 0
  PartsSoFar = SoFar (λ bs. bs) (parts_end context) (part_at context (inner_at d))

  pub parts-end : (bs : Text) (found : List Part) (rest : Text) → parts_end context rest ≡ true → PartsSoFar bs found rest → parts_with context (inner_at d) bs ≡ Ok (parts_of found, rest)
  unfolding parts_with
  parts-end bs found rest e s = ap (read_map parts_of) (so_far-end (λ bs. bs) (parts_end context) (part_at context (inner_at d)) bs found rest rest refl e s)

  pub parts-fails : (bs : Text) (found : List Part) (rest : Text) (e : ReadError) → parts_end context rest ≡ false
      → Fails e (part_at context (inner_at d) rest) → PartsSoFar bs found rest
      → Fails e (parts_with context (inner_at d) bs)
  unfolding parts_with
  parts-fails bs found rest errors.Memory e was s = tt
  parts-fails bs found rest (errors.Fault f) e was s = ap (read_map parts_of) (so_far-fail (λ bs. bs) (parts_end context) (part_at context (inner_at d)) bs found rest rest f refl e was s)

  pub parts-following : (rest : Text) (p : Part) (after : Text) → parts_end context rest ≡ false → part_at context (inner_at d) rest ≡ Ok (p, after) → IsBehind rest after
  parts-following rest p after e was = leaves_read (IsBehind rest) (part_at context (inner_at d) rest) p after (part_behind (inner_at d) (inner_leaves d) context rest e) was

  pub parts-more : (bs : Text) (found found' : List Part) (rest : Text) (p : Part) (after : Text) → parts_end context rest ≡ false → part_at context (inner_at d) rest ≡ Ok (p, after)
      → found' ≡ found ++ p ∷ [] → PartsSoFar bs found rest → PartsSoFar bs found' after
  parts-more bs found found' rest p after e was made s =
      so_far-more (λ bs. bs) (parts_end context) (part_at context (inner_at d)) bs found found' rest rest p after refl e was (parts-following rest p after e was).1 made s
