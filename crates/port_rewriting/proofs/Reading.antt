-- What is read of a text as the definitions have it.
use Rattle.std.proofs.Common.{◌≡◌, ℕ, Bool, true, List, [], ◌∷◌, ◌++◌, map, rules, refl, sym, ap, ◌∙◌, subst, append_assoc, Ok}
use Rattle.std.proofs.lemmas.List.{map-append}
use Rattle.std.proofs.lemmas.Slice.Eq.{slice_eq-Decides, bytes_eq-Decides}
use Rattle.std.specs.Cmp.Derive.Mapped.{pointwise-map}
use Rattle.std.specs.Cmp.Lexicographic.{pointwise}
use Rattle.std.specs.Str.{bytes_eq}
use Rattle.tcltext.specs.chars.Runs.{Text}
use Rattle.tcltext.specs.script.Text.{IsWithin}
use Rattle.tcltext.specs.script.Tree as tree
use Rattle.tcltext.specs.script.View.{command_view, script_view, word_view}
use Rattle.tcltext.specs.declared.script.tree.Command as rust_command
use Rattle.tcltext.specs.declared.script.tree.Script as rust_script
use Rattle.modulefile.specs.Calls.{call_of, adds_record}
use Rattle.modulefile.specs.Records.{Record}
use Rattle.modulefile.specs.RecordViews.{record_view}
use Rattle.modulefile.specs.declared.records.Record as rust_record
use Rattle.port_rewriting.specs.RecordViews.{records_view}
use Rattle.port_rewriting.specs.Leaving.{plain, HasRecord, Leave, Leaves, Parses}

module _ {P : Type 0} (shown : P → Text) where
  pub script_commands : (s : rust_script.Script P) → script_view shown s ≡ tree.commands_of (map (command_view shown) (rust_script.out-Script P s).commands.items)
  script_commands s = search (rules, rust_script.the_lemmas)

  pub command_words : (c : rust_command.Command P) → (command_view shown c).words ≡ tree.words_of (map (word_view shown) (rust_command.out-Command P c).words.items)
  command_words c = search (rules, rust_command.the_lemmas)

  -- the words of a command are texts, by which a record is called for
  pub called_for : (c : rust_command.Command P) (texts : List Text) (r : Record) → map (word_view shown) (rust_command.out-Command P c).words.items ≡ map plain texts
      → call_of texts ≡ Ok (adds_record r) → HasRecord (command_view shown c).words r
  called_for c texts r e h = (texts, command_words c ∙ ap tree.words_of e, h)

  -- the commands of a script leave records
  pub script_leaves : (text : Text) (s : rust_script.Script P) (rs : List Record) → IsWithin text (script_view shown s)
      → Leave (tree.commands_of (map (command_view shown) (rust_script.out-Script P s).commands.items)) rs → Leaves text rs
  script_leaves text s rs h k = (script_view shown s, h, subst (λ (c : tree.Commands). Leave c rs) (sym (script_commands s)) k)

-- a text that has a tree
pub parses : (text : Text) (s : tree.Commands) → IsWithin text s → Parses text
parses text s h = (s, h)

more : (xs : List rust_record.Record) (a : rust_record.Record) → records_view (xs ++ a ∷ []) ≡ records_view xs ++ record_view a ∷ []
more xs a = map-append record_view xs (a ∷ [])

-- two records behind others
pub two_more : (xs ys zs : List rust_record.Record) (a b : rust_record.Record) (cs : List Record) (p q : Record) → ys ≡ xs ++ a ∷ [] → zs ≡ ys ++ b ∷ []
    → records_view xs ≡ cs → record_view a ≡ p → record_view b ≡ q → records_view zs ≡ cs ++ (p ∷ (q ∷ []))
two_more xs ys zs a b cs p q e f h i j =
    ap records_view f ∙ (more ys b ∙ (ap (λ (l : List Record). l ++ record_view b ∷ []) (ap records_view e ∙ more xs a)
    ∙ (append_assoc (records_view xs) (record_view a ∷ []) (record_view b ∷ [])
    ∙ (ap (λ (l : List Record). l ++ (record_view a ∷ (record_view b ∷ []))) h
    ∙ (ap (λ (r : Record). cs ++ (r ∷ (record_view b ∷ []))) i ∙ ap (λ (r : Record). cs ++ (p ∷ (r ∷ []))) j)))))

-- lists that are alike text by text
pub same_by : {X : Type 0} (h : X → List ℕ) (xs ys : List X) → pointwise (λ a b. bytes_eq (h a) (h b)) xs ys ≡ true → map h xs ≡ map h ys
same_by h xs ys e = (slice_eq-Decides {E = bytes_eq} bytes_eq-Decides (map h xs) (map h ys) _ refl).0 (pointwise-map h bytes_eq xs ys ∙ e)
