use Rattle.std.proofs.Common.{◌≡◌, sym, subst, ◌∙◌}
use Rattle.std.specs.Str.{IsUtf8}
use Rattle.tcltext.specs.chars.Runs.{Text}
use Rattle.tcltext.specs.script.Pieces.{IsPrefixOf}
use Rattle.tcltext.proofs.script.Ends.{end_cut, end_drop, front_cut, front_take}
use Rattle.tcltext.proofs.script.Ranges.{between_at}
use Rattle.tcltext.proofs.script.piece.RefStrSource.cut.Goals as goal

pub split_at-requires : goal.split_at-requires
split_at-requires c = end_cut c.args.self.now.now c.args.rest.now c.utf8.rest c.requires.suffix

pub split_at-requires-2 : goal.split_at-requires-2
split_at-requires-2 c =
    let is : c.args.rest.now ≡ c.split_at.result.1.now = sym (c.split_at.ensures.back ∙ end_drop c.args.self.now.now c.args.rest.now c.requires.suffix) in
    front_cut c.split_at.result.1.now c.args.piece.now (subst IsUtf8 is c.utf8.rest) c.utf8.piece (subst (λ (bs : Text). IsPrefixOf bs c.args.piece.now) is c.requires.prefix)

pub returns-clause-offsets : goal.returns-clause-offsets
returns-clause-offsets c = λ start at.
    let is : c.args.rest.now ≡ c.split_at.result.1.now = sym (c.split_at.ensures.back ∙ end_drop c.args.self.now.now c.args.rest.now c.requires.suffix) in
    between_at c.args.self.now.now c.args.rest.now c.args.piece.now start c.utf8.rest c.utf8.piece c.requires.suffix c.requires.prefix at
    ∙ sym (c.split_at-2.ensures.front ∙ front_take c.split_at.result.1.now c.args.piece.now (subst (λ (bs : Text). IsPrefixOf bs c.args.piece.now) is c.requires.prefix))
