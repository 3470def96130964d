use Rattle.std.proofs.Common.{◌≡◌, List, refl, map, ap, subst, ◌∙◌, codes}
use Rattle.std.proofs.lemmas.List.{take_all}
use Rattle.std.specs.Prelude.{All}
use Rattle.std.specs.Borrow.{Bor}
use Rattle.tcltext.specs.chars.Runs.{Text}
use Rattle.port_rewriting.specs.Asking.{AreAdded, IsAbsolute}
use Rattle.port_rewriting.specs.Meanings.{added}
use Rattle.port_rewriting.specs.RecordViews.{records_view, shown}
use Rattle.port_rewriting.proofs.Asking.{absolute_more, added_more, asked, nothing}
use Rattle.port_rewriting.proofs.reader.Reader.searching.Goals as goal

pub loop-word-preserved : goal.loop-word-preserved
loop-word-preserved c = (
  absolute_more c.args.words.now c.loop-word.word-index nothing c.loop-word-test.true c.loop-word.invariant.0 (c.if-not-is_directory.ensures refl),
  added_more c.args.words.now c.loop-word.word-index nothing c.loop-word.directories.items c.push.new.self.items c.in_ok-from_str.field-0 c.loop-word-test.true
      c.loop-word.invariant.1 c.in_ok-from_str.ensures.ok c.in_ok-push.ensures.items,
)

pub returns : goal.returns
returns c =
    let whole = take_all c.loop-word.word-index c.args.words.now c.loop-word-test.false in
    asked (λ rs. rs ≡ records_view c.as_slice.result.now) (AreAdded c.args.edit (map shown c.args.words.now)) c.spell.result
    (λ rs e. (
      subst (λ (ws : List (Bor Text)). All IsAbsolute (map shown ws)) whole c.loop-word.invariant.0,
      e ∙ (ap records_view c.as_slice.ensures.value
          ∙ (c.in_ok-records.ensures ∙ ap (added c.args.edit (codes "MODULEPATH")) (c.loop-word.invariant.1 ∙ ap (map shown) whole))),
    ))
    c.spell.ensures
