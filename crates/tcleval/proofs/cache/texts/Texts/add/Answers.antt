use Rattle.std.proofs.Common.{◌≡◌, ◌+◌, ◌++◌, ◌∷◌, [], length, refl, sym, ap, ◌∙◌}
use Rattle.tcleval.specs.cache.Trees.{bytes_of}
use Rattle.tcleval.specs.cache.Texts.{entries_view}
use Rattle.tcleval.proofs.cache.Entries.{distinct_entries, entries_added, bytes_push, length_push, room}
use Rattle.tcleval.proofs.cache.texts.Texts.add.Goals as goal

pub invariant_of-self-2 : goal.invariant_of-self-2
invariant_of-self-2 g c =
    let old = entries_view c.self.inside.made.entries in
    let t = c.args.text.now in
    let e : entries_view c.insert.new.self.entries ≡ old
    ++ (t, c.args.made.value) ∷ [] = entries_added c.self.inside.made.entries c.insert.new.self.entries
    c.in_ok-key.key c.args.made t c.args.made.value c.in_ok-insert.ensures.entries c.in_ok-key.ensures.ok refl
    (rw c.self.view_is c.requires.new) in
    let r = room old t (rw c.self.view_is c.requires.room) in
    let n = c.self.invariant.counted in
    record {
      limited = record { distinct = distinct_entries _ c.in_ok-insert.ensures.unique; few = rw (e, length_push old t c.args.made.value) r.0; short = rw (e, bytes_push old t c.args.made.value) r.1 };
      counted = ap (λ b. b + length t) n ∙ sym (bytes_push old t c.args.made.value) ∙ sym (ap bytes_of e);
    }

pub returns-clause-added : goal.returns-clause-added
returns-clause-added g c =
    let e : entries_view c.insert.new.self.entries ≡ entries_view c.self.inside.made.entries
    ++ (c.args.text.now, c.args.made.value) ∷ [] = entries_added c.self.inside.made.entries
    c.insert.new.self.entries c.in_ok-key.key c.args.made c.args.text.now c.args.made.value
    c.in_ok-insert.ensures.entries c.in_ok-key.ensures.ok refl (rw c.self.view_is c.requires.new) in
    e ∙ ap (λ es. es ++ (c.args.text.now, c.args.made.value) ∷ []) c.self.view_is

pub returns-clause-limited : goal.returns-clause-limited
returns-clause-limited g c = (invariant_of-self-2 g c).limited
