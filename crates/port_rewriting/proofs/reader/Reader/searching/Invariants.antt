use Rattle.std.proofs.Common.{◌≡◌, map, take}
use Rattle.std.specs.Prelude.{All}
use Rattle.port_rewriting.specs.Asking.{IsAbsolute}
use Rattle.port_rewriting.specs.RecordViews.{shown, texts_in}
use Rattle.port_rewriting.proofs.reader.Reader.searching.Given as goal

abbrev pub invariant-loop-word : goal.invariant-loop-word
invariant-loop-word l =
    All IsAbsolute (map shown (take l.word-index l.words)) × (texts_in l.directories ≡ map shown (take l.word-index l.words))
