use Rattle.std.proofs.Common.{string_bytes}
use Rattle.std.proofs.lemmas.Slice.Zip.{either_empty_from_Zip}
use Rattle.std.specs.Iterator.Adapters.{zip_first, zip_second}
use Rattle.std.specs.Slice.Iter.{iter_rest}
use Rattle.module_reports.proofs.descriptions.LeftLemmas.{lines_done}
use Rattle.module_reports.proofs.descriptions.left_out.left_lines.Goals as goal

pub returns : goal.returns
returns c =
    let it = c.loop-name.name-iterator in
    lines_done (string_bytes c.loop-name.text) _ (iter_rest (zip_first it)) (iter_rest (zip_second it))
    (either_empty_from_Zip it c.next.new.self c.next.result c.in-None.is c.next.ensures.steps) c.loop-name.invariant
