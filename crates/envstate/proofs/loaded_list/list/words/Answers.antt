use Rattle.std.proofs.Common.{sym, ap, ◌∙◌}
use Rattle.envvars.specs.Texts.{slice_texts}
use Rattle.envstate.specs.loaded_list.LoadedTexts.{later_parts, parts_of}
use Rattle.envstate.proofs.loaded_list.LoadedReading.{found_parts, no_parts, words-is, ok_words}
use Rattle.envstate.proofs.loaded_list.list.words.Goals as goal

pub returns-in-Some-split_once : goal.returns-in-Some-split_once
returns-in-Some-split_once c =
    ok_words c.parts.result (parts_of c.in-Some-split_once.words.now) _
    (words-is c.args.element c.in-Some.element _ c.in-Some.is
    (sym (ap later_parts (found_parts c.in-Some.element.now c.in-Some-split_once.field-0-0 c.in-Some-split_once.words c.in-Some-split_once.ensures.cases))))
    c.parts.ensures

pub returns-in-None : goal.returns-in-None
returns-in-None c =
    words-is c.args.element c.in-Some.element _ c.in-Some.is (ap slice_texts c.new-in-None.ensures.items ∙ sym (ap later_parts (no_parts c.in-Some.element.now c.in-None.ensures.cases)))
