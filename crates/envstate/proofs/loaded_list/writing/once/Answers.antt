use Rattle.std.proofs.Common.{◌<◌, length, arith, string_bytes}
use Rattle.std.proofs.lemmas.List.{length-map}
use Rattle.envvars.specs.Texts.{texts_in}
use Rattle.envvars.proofs.FieldLemmas.{len_is}
use Rattle.envstate.proofs.loaded_list.ElementLemmas.{few_once}
use Rattle.envstate.proofs.loaded_list.writing.once.Goals as goal

pub returns-then-len-lt2 : goal.returns-then-len-lt2
returns-then-len-lt2 c =
    let few : length (texts_in c.args.names) < 2 = omega (arith, length-map c.args.names.items string_bytes, len_is c.args.names, c.len.ensures, c.if-len-lt2.true) in
    few_once (texts_in c.args.names) few
